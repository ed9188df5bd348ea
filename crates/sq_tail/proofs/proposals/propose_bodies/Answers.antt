use Rattle.std.proofs.Common.{List, inr, sym, ap, ◌∙◌, subst}
use Rattle.std.proofs.lemmas.List.Elements.{All-push}
use Rattle.std.specs.List.{All}
use Rattle.sq_pass.specs.declared.cut.Cut.{Cut}
use Rattle.sq_tail.specs.Candidates.{IsCandidate}
use Rattle.sq_tail.proofs.BodiesFound.{names_there}
use Rattle.sq_tail.proofs.proposals.propose_bodies.Goals as goal
use Rattle.sq_tail.proofs.proposals.propose_bodies.Goals.{in-Some+in_ok-body_cut+in_ok-push, in_default}

pub equal_ahead-requires-clause-names : goal.equal_ahead-requires-clause-names
equal_ahead-requires-clause-names c = names_there c.args.graph.now.graph c.deref.result.now c.learn.ensures.rules (c.deref.ensures.value ∙ c.in_ok-names.ensures)

pub pair_at-requires-clause-names : goal.pair_at-requires-clause-names
pair_at-requires-clause-names c =
    names_there c.args.graph.now.graph c.deref-in-loop-place.result.now c.learn.ensures.rules (c.deref-in-loop-place.ensures.value ∙ c.in_ok-names.ensures)

pub loop-place-preserved : goal.loop-place-preserved
loop-place-preserved c =
    let P = IsCandidate c.args.graph.now.graph in
    elim c.match-pair_at.branch [
      | in-Some+in_ok-body_cut+in_ok-push w ↦
          subst (λ (cuts : List Cut). All P cuts) (sym (ap (λ cuts. cuts.items) w.cuts-is ∙ w.in_ok-push.ensures.items))
          (All-push P c.loop-place.cuts.items _ c.loop-place.invariant (inr w.in_ok-body_cut.ensures))
      | in_default w ↦ subst (λ (cuts : List Cut). All P cuts) (sym (ap (λ cuts. cuts.items) w.cuts-is)) c.loop-place.invariant
    ]
