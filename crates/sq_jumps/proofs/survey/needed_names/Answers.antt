use Rattle.std.proofs.Common.{inl, inr, ap, is_some, arith}
use Rattle.sq_live.proofs.Layouts.{block_at}
use Rattle.sq_jumps.proofs.survey.needed_names.Goals as goal
use Rattle.sq_jumps.proofs.Surveying.{none_gathered, one_gathered, all_gathered}
use Rattle.sq_jumps.proofs.Distances.{needs_there}

pub loop-name-init : goal.loop-name-init
loop-name-init c = none_gathered c.args.graph.now.graph c.args.names.now c.new-needed.result c.new-needed.ensures

pub entered-requires : goal.entered-requires
entered-requires c =
    let b = block_at c.args.graph.now.graph c.args.names.now c.loop-name.name-index c.requires.rules c.requires.names c.loop-name-test.true in
    ap is_some b.found

pub far_jump-requires-clause-block : goal.far_jump-requires-clause-block
far_jump-requires-clause-block c =
    let b = block_at c.args.graph.now.graph c.args.names.now c.loop-name.name-index c.requires.rules c.requires.names c.loop-name-test.true in
    ap is_some b.found

pub loop-name-preserved : goal.loop-name-preserved
loop-name-preserved c =
    one_gathered c.args.graph.now.graph c.args.names.now c.loop-name.name-index c.entered.result c.far_jump.result c.loop-name.needed c.insert_some.new.self c.insert_some-in-loop-name.new.self c.loop-name.invariant
    (λ n e. inl ((c.entered.ensures n).0 e))
    (λ n e. inr ((c.far_jump.ensures n).0 e))
    (λ n need. elim need [ inl into ↦ inl ((c.entered.ensures n).1 into) | inr far ↦ inr ((c.far_jump.ensures n).1 far) ])
    c.in_ok-insert_some.ensures c.in_ok-insert_some-2.ensures

pub returns : goal.returns
returns c =
    all_gathered c.args.graph.now.graph c.args.names.now c.loop-name.name-index c.loop-name.needed c.requires.names (omega arith) (λ from n need. needs_there c.args.graph.now.graph from n need) c.loop-name.invariant
