use Rattle.std.proofs.Common.{not, ap, ◌∙◌, arith}
use Rattle.std.specs.List.{filter}
use Rattle.sq_lookup.specs.Names.{is_listed}
use Rattle.sq_jumps.proofs.UnreachedCounted.{are_unreached, held_are, sums_are, gone_few}
use Rattle.sq_jumps.proofs.unreached.find_removal.Goals as goal

pub overflow_add-saving : goal.overflow_add-saving
overflow_add-saving c =
    let g = c.args.graph.now.graph in
    let is = c.in_ok-gone.ensures ∙ ap (filter (λ n. not (is_listed c.in_ok-marks.marks n))) c.requires in
    let sums = sums_are g c.in_ok-marks.marks c.in_ok-gone.gone c.learn.ensures.rules c.in_ok-marks.ensures.reached is c.in_ok-called.called c.in_ok-called.ensures in
    let few = gone_few g c.in_ok-marks.marks c.in_ok-gone.gone c.learn.ensures.rules c.in_ok-marks.ensures.reached is c.learn.ensures.few in
    omega (arith, sums, c.words_of_unmarked.ensures, c.words_of_uncalled.ensures, few)

pub overflow_cast-result : goal.overflow_cast-result
overflow_cast-result c =
    let g = c.args.graph.now.graph in
    let is = c.in_ok-gone.ensures ∙ ap (filter (λ n. not (is_listed c.in_ok-marks.marks n))) c.requires in
    let sums = sums_are g c.in_ok-marks.marks c.in_ok-gone.gone c.learn.ensures.rules c.in_ok-marks.ensures.reached is c.in_ok-called.called c.in_ok-called.ensures in
    let few = gone_few g c.in_ok-marks.marks c.in_ok-gone.gone c.learn.ensures.rules c.in_ok-marks.ensures.reached is c.learn.ensures.few in
    omega (arith, sums, c.words_of_unmarked.ensures, c.words_of_uncalled.ensures, few)

pub returns-clause-unreached : goal.returns-clause-unreached
returns-clause-unreached c =
    let is = c.in_ok-gone.ensures ∙ ap (filter (λ n. not (is_listed c.in_ok-marks.marks n))) c.requires in
    are_unreached c.args.graph.now.graph c.in_ok-marks.marks c.in_ok-gone.gone c.learn.ensures.rules c.in_ok-marks.ensures.reached is

pub returns-clause-called : goal.returns-clause-called
returns-clause-called c =
    let is = c.in_ok-gone.ensures ∙ ap (filter (λ n. not (is_listed c.in_ok-marks.marks n))) c.requires in
    held_are c.args.graph.now.graph c.in_ok-marks.marks c.in_ok-gone.gone c.learn.ensures.rules c.in_ok-marks.ensures.reached is c.in_ok-called.called c.in_ok-called.ensures

pub returns-clause-saving : goal.returns-clause-saving
returns-clause-saving c =
    let g = c.args.graph.now.graph in
    let is = c.in_ok-gone.ensures ∙ ap (filter (λ n. not (is_listed c.in_ok-marks.marks n))) c.requires in
    let sums = sums_are g c.in_ok-marks.marks c.in_ok-gone.gone c.learn.ensures.rules c.in_ok-marks.ensures.reached is c.in_ok-called.called c.in_ok-called.ensures in
    omega (arith, sums, c.words_of_unmarked.ensures, c.words_of_uncalled.ensures)
