use Rattle.std.proofs.Common.{List, is_some, sym, ap, ◌∙◌, subst}
use Rattle.std.proofs.lemmas.List.Elements.{All-push}
use Rattle.std.specs.List.{All}
use Rattle.sq_live.proofs.Layouts.{block_at}
use Rattle.sq_pass.specs.declared.cut.Cut.{Cut}
use Rattle.sq_pass.specs.declared.cut.Row.{Row}
use Rattle.sq_outline.specs.Candidates.{IsCandidate, IsCutOf}
use Rattle.sq_outline.proofs.proposals.propose.Goals as goal
use Rattle.sq_outline.proofs.proposals.propose.Goals.{in-Some+in_ok-call_cut+in_ok-push, in_default}

pub procedure_by_print-requires-clause-block : goal.procedure_by_print-requires-clause-block
procedure_by_print-requires-clause-block c =
    ap is_some (block_at c.args.graph.now.graph c.deref-name-items.result.now c.loop-name.name-index c.learn.ensures.rules (c.deref-name-items.ensures.value ∙ c.in_ok-names.ensures) c.loop-name-test.true).found

pub loop-name-preserved : goal.loop-name-preserved
loop-name-preserved c =
    let g = c.args.graph.now.graph in
    let P = IsCandidate g in
    elim c.match-procedure_by_print.branch [
      | in-Some+in_ok-call_cut+in_ok-push w ↦
          let cut = w.in_ok-call_cut.field-0 in
          let called = w.in_ok-call_cut.ensures in
          subst (λ (cuts : List Cut). All P cuts) (sym (ap (λ cuts. cuts.items) w.cuts-is ∙ w.in_ok-push.ensures.items))
          (All-push P c.loop-name.cuts.items cut c.loop-name.invariant (subst (λ (row : Row). IsCutOf row g cut) (sym (ap (λ (given : Cut). given.row) called.is)) called))
      | in_default w ↦ subst (λ (cuts : List Cut). All P cuts) (sym (ap (λ cuts. cuts.items) w.cuts-is)) c.loop-name.invariant
    ]
