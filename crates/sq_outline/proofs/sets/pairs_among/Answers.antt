use Rattle.std.proofs.Common.{◌≡◌, ◌<◌, ◌-◌, ◌^◌, [], length, min, get_or, ap, ◌∙◌, arith}
use Rattle.std.specs.List.{sum_by}
use Rattle.std.proofs.lemmas.List.{take_all}
use Rattle.std.proofs.lemmas.List.Sums.{sum_by_more}
use Rattle.std.proofs.lemmas.Option.{get_or_from_slice_get}
use Rattle.sq_graph.specs.Blocks.{HasBlock}
use Rattle.sq_outline.specs.Sets.{pairs_in}
use Rattle.sq_outline.proofs.Keeping.{each_in}
use Rattle.sq_outline.proofs.sets.pairs_among.Goals as goal

pub pairs_in-requires : goal.pairs_in-requires
pairs_in-requires c =
    let group = c.members.result.now in
    each_in (HasBlock c.args.graph.now.graph) group (λ block there. c.requires.classes.known c.loop-number.number block (group, (c.members.ensures, there)))

pub loop-number-preserved : goal.loop-number-preserved
loop-number-preserved c =
    let pairs = pairs_in c.args.graph.now.graph in
    let groups = c.args.groups.now in
    let at = c.loop-number.number in
    let own : pairs (get_or groups at []) ≡ pairs c.members.result.now = ap pairs (get_or_from_slice_get groups at c.members.result.now [] c.members.ensures) in
    let there : at < length groups = omega (arith, c.loop-number-test.true, c.len-number-end.ensures) in
    omega (arith, sum_by_more pairs groups at [] there, own, c.loop-number.invariant, c.pairs_in.ensures, c.saturating_add-count.ensures)

pub returns : goal.returns
returns c =
    let pairs = pairs_in c.args.graph.now.graph in
    let past = c.loop-number-test.false in
    let count = c.len-number-end.ensures in
    c.loop-number.invariant ∙ ap (λ groups. min (sum_by pairs groups) (2 ^ 64 - 1)) (take_all c.loop-number.number c.args.groups.now (omega arith) ∙ c.requires.value)
