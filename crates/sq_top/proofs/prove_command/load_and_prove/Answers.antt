-- the bytes that were loaded are the held file
use Rattle.std.proofs.Common.{List, ℕ, subst, ◌∙◌}
use Rattle.sq_top.specs.declared.certifying.ProvedPacking.{ProvedPacking}
use Rattle.sq_top.specs.Proving.{PacksProved}
use Rattle.sq_top.specs.Denials.{denied_ending}
use Rattle.sq_top.proofs.EarlyEndings.{by_residual, unloaded, unpacked}
use Rattle.sq_top.proofs.prove_command.load_and_prove.Goals as goal

pub returns-in_err-bytes-clause-fails : goal.returns-in_err-bytes-clause-fails
returns-in_err-bytes-clause-fails g c =
    by_residual c.from_residual.result c.in_err-bytes.field-0.0 _ c.from_residual.ensures.1 (unloaded c.args.input.now c.in_err-bytes.field-0.0 _ _ c.in_err-bytes.ensures.fails)

pub returns-in_err-prove_bytes-clause-fails : goal.returns-in_err-prove_bytes-clause-fails
returns-in_err-prove_bytes-clause-fails g c =
    by_residual c.from_residual-in_err-prove_bytes.result (denied_ending c.in_err-prove_bytes.field-0.0) _ c.from_residual-in_err-prove_bytes.ensures.1
    (unpacked ProvedPacking c.args.input.now c.in_err-prove_bytes.field-0.0 _ _ c.as_slice.result.now (λ files told. c.as_slice.ensures.value ∙ c.in_ok-bytes.ensures.told files told) c.in_err-prove_bytes.ensures.refused)

pub returns-clause-proves : goal.returns-clause-proves
returns-clause-proves g c = λ files told.
    let P : List ℕ → Type 0 = λ bytes. PacksProved bytes c.in_ok-prove_bytes.field-0.packed c.in_ok-prove_bytes.field-0.text.items in
    subst P (c.as_slice.ensures.value ∙ c.in_ok-bytes.ensures.told files told) c.in_ok-prove_bytes.ensures.packed
