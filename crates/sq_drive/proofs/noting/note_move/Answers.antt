use Rattle.std.proofs.Common.{◌≡◌, ℕ, ◌-◌, Ok, ap, subst, arith}
use Rattle.sq_graph.specs.Room.{GraphAndRoom}
use Rattle.law_follow.proofs.Following.{graph_follows_itself, graph_follows_through}
use Rattle.sq_chain.proofs.Moved.{canonical_few}
use Rattle.sq_chain.specs.Moves.{moved}
use Rattle.sq_pass.specs.Rewrites.{IsRewrite, IsLighter}
use Rattle.sq_pass.proofs.Rewriting.{lighter_made}
use Rattle.sq_pass.specs.declared.cut.Row.TheVariants.{L}
use Rattle.sq_drive.specs.Rows.{IsCandidate, described}
use Rattle.sq_drive.proofs.NotedSteps.{move_stepped, move_rewritten, fewer_by}
use Rattle.sq_drive.proofs.Replays.{follows_same, less_by}
use Rattle.sq_drive.proofs.noting.note_move.Goals as goal

pub returns-in_err-names-clause-follows : goal.returns-in_err-names-clause-follows
returns-in_err-names-clause-follows c = graph_follows_itself c.args.graph.now.graph

pub move_first-requires-clause-blocks : goal.move_first-requires-clause-blocks
move_first-requires-clause-blocks c =
    let few = canonical_few c.args.graph.now.graph c.requires.canonical in
    let words = c.requires.words in
    omega (arith, few, words)

pub returns-in_err-from-clause-follows : goal.returns-in_err-from-clause-follows
returns-in_err-from-clause-follows c =
    follows_same c.args.graph.now.graph c.move_first.new.graph.graph (ap (λ (v : GraphAndRoom). v.graph) c.in_err-from.ensures.kept)

pub returns-in_default-clause-follows : goal.returns-in_default-clause-follows
returns-in_default-clause-follows c =
    follows_same c.args.graph.now.graph c.move_first.new.graph.graph (ap (λ (v : GraphAndRoom). v.graph) (c.in_ok-from.ensures.same (ap Ok c.in_default.is)))

pub returns-in_err-tidy-clause-follows : goal.returns-in_err-tidy-clause-follows
returns-in_err-tidy-clause-follows c =
    let m = rw c.in-Some.is at c.in_ok-from.ensures.moved in
    graph_follows_through c.args.graph.now.graph c.move_first.new.graph.graph c.tidy.new.graph.graph m.applied.follows c.tidy.ensures.follows

pub returns-clause-step : goal.returns-clause-step
returns-clause-step c =
    let m = rw c.in-Some.is at c.in_ok-from.ensures.moved in
    move_stepped c.in-Some.from c.in-Some.to c.args.graph.now.graph c.move_first.new.graph.graph c.tidy.new.graph.graph m c.in_ok-tidy.ensures.graph

pub returns-clause-lighter : goal.returns-clause-lighter
returns-clause-lighter c =
    let g = c.args.graph.now.graph in
    let new = c.tidy.new.graph.graph in
    let m = rw c.in-Some.is at c.in_ok-from.ensures.moved in
    let lighter = lighter_made m.saving (moved g c.in-Some.from c.in-Some.to) g c.move_first.new.graph.graph new m.applied c.in_ok-tidy.ensures.lighter in
    let same : m.saving ≡ c.words_of-before.result - c.words_of.result = omega (arith, lighter.words, c.words_of-before.ensures, c.words_of.ensures) in
    subst (λ (n : ℕ). IsLighter n g new) same lighter

pub returns-clause-rewrite : goal.returns-clause-rewrite
returns-clause-rewrite c =
    let g = c.args.graph.now.graph in
    let new = c.tidy.new.graph.graph in
    let m = rw c.in-Some.is at c.in_ok-from.ensures.moved in
    let lighter = lighter_made m.saving (moved g c.in-Some.from c.in-Some.to) g c.move_first.new.graph.graph new m.applied c.in_ok-tidy.ensures.lighter in
    let same : m.saving ≡ c.words_of-before.result - c.words_of.result = omega (arith, lighter.words, c.words_of-before.ensures, c.words_of.ensures) in
    subst (λ (n : ℕ). IsRewrite IsCandidate described (record { row = L; saving = n }) g new) same (move_rewritten c.in-Some.from c.in-Some.to g c.move_first.new.graph.graph new m c.in_ok-tidy.ensures.graph)

pub returns-clause-less : goal.returns-clause-less
returns-clause-less c =
    let g = c.args.graph.now.graph in
    let m = rw c.in-Some.is at c.in_ok-from.ensures.moved in
    less_by m.saving (moved g c.in-Some.from c.in-Some.to) g c.move_first.new.graph.graph c.tidy.new.graph.graph m.applied c.in_ok-tidy.ensures.lighter c.in_ok-tidy.ensures.slotted

pub returns-clause-fewer : goal.returns-clause-fewer
returns-clause-fewer c =
    let g = c.args.graph.now.graph in
    let m = rw c.in-Some.is at c.in_ok-from.ensures.moved in
    fewer_by m.saving (moved g c.in-Some.from c.in-Some.to) g c.move_first.new.graph.graph c.tidy.new.graph.graph m.applied c.in_ok-tidy.ensures.lighter m.some

pub returns-clause-follows : goal.returns-clause-follows
returns-clause-follows c =
    let m = rw c.in-Some.is at c.in_ok-from.ensures.moved in
    graph_follows_through c.args.graph.now.graph c.move_first.new.graph.graph c.tidy.new.graph.graph m.applied.follows c.tidy.ensures.follows
