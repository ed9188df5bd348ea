-- the bytes that were loaded are the held file
use Rattle.std.proofs.Common.{List, ℕ, subst, ◌∙◌}
use Rattle.sq_top.specs.declared.folding.FoldedFile.{FoldedFile}
use Rattle.sq_top.specs.Folding.{Folds}
use Rattle.sq_top.specs.Denials.{denied_ending}
use Rattle.sq_top.proofs.EarlyEndings.{by_residual, unloaded, unpacked}
use Rattle.sq_top.proofs.fold_command.load_and_fold.Goals as goal

pub returns-in_err-bytes-clause-fails : goal.returns-in_err-bytes-clause-fails
returns-in_err-bytes-clause-fails g c =
    by_residual c.from_residual.result c.in_err-bytes.field-0.0 _ c.from_residual.ensures.1 (unloaded c.args.input.now c.in_err-bytes.field-0.0 _ _ c.in_err-bytes.ensures.fails)

pub returns-in_err-fold_bytes-clause-fails : goal.returns-in_err-fold_bytes-clause-fails
returns-in_err-fold_bytes-clause-fails g c =
    by_residual c.from_residual-in_err-fold_bytes.result (denied_ending c.in_err-fold_bytes.field-0.0) _ c.from_residual-in_err-fold_bytes.ensures.1
    (unpacked FoldedFile c.args.input.now c.in_err-fold_bytes.field-0.0 _ _ c.as_slice.result.now (λ files told. c.as_slice.ensures.value ∙ c.in_ok-bytes.ensures.told files told) c.in_err-fold_bytes.ensures.refused)

pub returns-clause-folds : goal.returns-clause-folds
returns-clause-folds g c = λ files told.
    let P : List ℕ → Type 0 = λ bytes. Folds bytes c.in_ok-fold_bytes.field-0 in
    subst P (c.as_slice.ensures.value ∙ c.in_ok-bytes.ensures.told files told) c.in_ok-fold_bytes.ensures.folded
