-- the bytes that were loaded are the held file
use Rattle.std.proofs.Common.{List, ℕ, subst, ◌∙◌}
use Rattle.sq_num.specs.declared.packed.Packed.{Packed}
use Rattle.sq_top.specs.Packing.{Packs}
use Rattle.sq_top.specs.Denials.{denied_ending}
use Rattle.sq_top.proofs.EarlyEndings.{by_residual, unloaded, unpacked}
use Rattle.sq_top.proofs.pack_command.load_and_pack.Goals as goal

pub returns-in_err-bytes-clause-fails : goal.returns-in_err-bytes-clause-fails
returns-in_err-bytes-clause-fails g c =
    by_residual c.from_residual.result c.in_err-bytes.field-0.0 _ c.from_residual.ensures.1 (unloaded c.args.input.now c.in_err-bytes.field-0.0 _ _ c.in_err-bytes.ensures.fails)

pub returns-in_err-pack_bytes-clause-fails : goal.returns-in_err-pack_bytes-clause-fails
returns-in_err-pack_bytes-clause-fails g c =
    by_residual c.from_residual-in_err-pack_bytes.result (denied_ending c.in_err-pack_bytes.field-0.0) _ c.from_residual-in_err-pack_bytes.ensures.1
    (unpacked Packed c.args.input.now c.in_err-pack_bytes.field-0.0 _ _ c.as_slice.result.now (λ files told. c.as_slice.ensures.value ∙ c.in_ok-bytes.ensures.told files told) c.in_err-pack_bytes.ensures.refused)

pub returns-clause-packs : goal.returns-clause-packs
returns-clause-packs g c = λ files told.
    let P : List ℕ → Type 0 = λ bytes. Packs bytes c.in_ok-pack_bytes.field-0 in
    subst P (c.as_slice.ensures.value ∙ c.in_ok-bytes.ensures.told files told) c.in_ok-pack_bytes.ensures.packed
