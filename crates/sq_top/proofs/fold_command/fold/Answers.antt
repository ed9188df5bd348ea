use Rattle.std.proofs.Common.{◌≡◌, ℕ, List, subst, ◌∙◌}
use Rattle.sq_desk.specs.Outside.{Outside}
use Rattle.sq_top.specs.Endings.{LeavesDelivered}
use Rattle.sq_top.specs.Folding.{folded_text}
use Rattle.sq_top.specs.declared.folding.FoldedFile.{FoldedFile}
use Rattle.sq_top.proofs.FoldWritten.{fold_delivered}
use Rattle.sq_top.proofs.fold_command.fold.Goals as goal

pub returns-in-Ok-clause-leaves : goal.returns-in-Ok-clause-leaves
returns-in-Ok-clause-leaves g c =
    let before : Outside = g.D.Desk.outside c.args.desk.now in
    let middle : Outside = g.D.Desk.outside c.load_and_fold.new.desk in
    let after : Outside = g.D.Desk.outside c.deliver.new.desk in
    let folded : FoldedFile = c.in-Ok.folded in
    let line : c.as_slice-in-Ok.result.now ≡ folded_text folded = c.as_slice-in-Ok.ensures.value ∙ c.folded_line-line.ensures in
    let ByBytes : List ℕ → Type 0 = λ bytes. LeavesDelivered c.args.output.now bytes c.as_slice-in-Ok.result.now c.deliver.result middle after in
    let ByLine : List ℕ → Type 0 = λ printed. LeavesDelivered c.args.output.now folded.bytes.items printed c.deliver.result middle after in
    fold_delivered before middle after c.in-Ok.ensures.files c.in-Ok.ensures.printed c.in-Ok.ensures.faults c.args.input.now c.args.output.now folded c.in-Ok.ensures.folds c.deliver.result
    (subst ByLine line (subst ByBytes c.as_slice.ensures.value c.deliver.ensures.leaves))
