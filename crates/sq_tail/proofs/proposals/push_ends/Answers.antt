use Rattle.std.proofs.Common.{List, sym, ap, ◌∙◌, subst}
use Rattle.std.proofs.lemmas.List.Elements.{All-push}
use Rattle.std.specs.List.{All}
use Rattle.std.specs.Prelude.{IfSome}
use Rattle.sq_pass.specs.declared.cut.Cut.{Cut}
use Rattle.sq_tail.specs.Candidates.{IsCandidate}
use Rattle.sq_tail.proofs.proposals.push_ends.Goals as goal
use Rattle.sq_tail.proofs.proposals.push_ends.Goals.{in-Some-2+in_ok-push, in_default-3}

pub loop-place-preserved : goal.loop-place-preserved
loop-place-preserved c =
    let P = IsCandidate c.args.graph.now.graph in
    elim c.match-branch-4.branch [
      | in-Some-2+in_ok-push w ↦
          subst (λ (cuts : List Cut). All P cuts) (sym (ap (λ cuts. cuts.items) w.cuts-is ∙ w.in_ok-push.ensures.items))
          (All-push P c.loop-place.cuts.items w.in-Some-2.cut c.loop-place.invariant (subst (λ found. IfSome found P) w.in-Some-2.is c.in_ok-cut.ensures))
      | in_default-3 w ↦ subst (λ (cuts : List Cut). All P cuts) (sym (ap (λ cuts. cuts.items) w.cuts-is)) c.loop-place.invariant
    ]
