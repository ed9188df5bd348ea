use Rattle.std.proofs.Common.{◌∙◌, get_or, refl, subst, arith}
use Rattle.std.specs.List.{All}
use Rattle.std.proofs.lemmas.List.Elements.{All-nil}
use Rattle.sq_graph.specs.Room.{GraphAndRoom}
use Rattle.sq_lookup.proofs.Reaching.{one_more, all_taken}
use Rattle.sq_chain.specs.Candidates.{IsStillAt}
use Rattle.sq_chain.specs.Moves.{AreEnds}
use Rattle.sq_chain.proofs.Chains.{none_known}
use Rattle.sq_chain.proofs.Moved.{all_still}
use Rattle.sq_chain.proofs.moving.move_first.Goals as goal

pub loop-name-init : goal.loop-name-init
loop-name-init c = record {
  same = refl;
  still = All-nil (IsStillAt c.args.graph.now.graph);
  ends = none_known c.args.graph.now.graph c.new-ends.result c.new-ends.ensures;
}

pub loop-name-preserved : goal.loop-name-preserved
loop-name-preserved c =
    let g = c.args.graph.now.graph in
    let name = get_or c.args.names.now c.loop-name.name-index 0 in
    let stays = c.in_ok-move_behind.ensures.same (cc) in
    let still = c.in_ok-move_behind.ensures.still (cc) in
    record {
      same = stays ∙ c.loop-name.invariant.same;
      still =
          one_more (IsStillAt g) c.args.names.now c.loop-name.name-index c.loop-name-test.true c.loop-name.invariant.still
          (subst (λ (v : GraphAndRoom). IsStillAt v.graph name) c.loop-name.invariant.same still);
      ends = subst (λ (v : GraphAndRoom). AreEnds v.graph c.move_behind.new.ends) c.loop-name.invariant.same c.in_ok-move_behind.ensures.ends;
    }

pub returns-clause-still : goal.returns-clause-still
returns-clause-still c = λ e.
    let g = c.args.graph.now.graph in
    all_still g (subst (All (IsStillAt g)) c.requires.names (all_taken (IsStillAt g) c.args.names.now c.loop-name.name-index (omega arith) c.loop-name.invariant.still))
