use Rattle.std.proofs.Common.{List, sym, ap, ◌∙◌, subst}
use Rattle.std.proofs.lemmas.List.Elements.{All-push}
use Rattle.std.specs.List.{All}
use Rattle.sq_finger.proofs.Lining.{place_block}
use Rattle.sq_pass.specs.declared.cut.Cut.{Cut}
use Rattle.sq_outline.specs.WindowsCandidates.{IsWindowsCandidate}
use Rattle.sq_outline.proofs.WindowsApplying.{inside_windows}
use Rattle.sq_outline.proofs.windows.proposals.push_calls.Goals as goal
use Rattle.sq_outline.proofs.windows.proposals.push_calls.Goals.{in-Some+in_ok-inside_cut+in_ok-push, in_default}

pub procedure_inside-requires-clause-block : goal.procedure_inside-requires-clause-block
procedure_inside-requires-clause-block c =
    place_block c.args.graph.now.graph c.learn.ensures.rules c.deref-place-items.result.now c.loop-place.place-index _ (c.deref-place-items.ensures.value ∙ c.in_ok-line.ensures) c.loop-place-test.true

pub loop-place-preserved : goal.loop-place-preserved
loop-place-preserved c =
    let g = c.args.graph.now.graph in
    let P = IsWindowsCandidate g in
    elim c.match-procedure_inside.branch [
      | in-Some+in_ok-inside_cut+in_ok-push w ↦
          subst (λ (cuts : List Cut). All P cuts) (sym (ap (λ cuts. cuts.items) w.cuts-is ∙ w.in_ok-push.ensures.items))
          (All-push P c.loop-place.cuts.items w.in_ok-inside_cut.field-0 c.loop-place.invariant (inside_windows g w.in_ok-inside_cut.field-0 w.in_ok-inside_cut.ensures))
      | in_default w ↦ subst (λ (cuts : List Cut). All P cuts) (sym (ap (λ cuts. cuts.items) w.cuts-is)) c.loop-place.invariant
    ]
