-- neither file is refused, and what is packed again stays the same
use Rattle.std.proofs.Common.{◌≡◌, Err, sym, ap, subst, ◌∙◌}
use Rattle.sq_num.specs.declared.refusal.Refusal.{Refusal as Cause}
use Rattle.law_program.specs.FilePrograms.{IsRefusalOf}
use Rattle.sq_top.specs.declared.ending.Ending.TheVariants.{Memory}
use Rattle.sq_top.specs.Denials.{denied_ending}
use Rattle.sq_top.specs.Packing.{Packs}
use Rattle.sq_top.specs.Settled.{IsSettledFile}
use Rattle.sq_gen.specs.Generated.{generated}
use Rattle.sq_top.proofs.EarlyEndings.{by_residual}
use Rattle.sq_top.proofs.GeneratedFiles.{generated_not_refused}
use Rattle.sq_top.proofs.TrialTold.{only_memory, settled_not_refused, trial_told}
use Rattle.sq_top.proofs.trial_command.pack_twice.Goals as goal

pub returns-in_err-packed-clause-fails : goal.returns-in_err-packed-clause-fails
returns-in_err-packed-clause-fails c =
    let given : c.as_slice.result.now ≡ generated c.args.asked.first c.args.asked.blocks = c.as_slice.ensures.value ∙ c.in_ok-file.ensures in
    let none : (r : Cause) → IsRefusalOf c.as_slice.result.now r → ⊥ = λ r refused. generated_not_refused c.args.asked.first c.args.asked.blocks c.args.asked.few r (subst (λ bytes. IsRefusalOf bytes r) given refused) in
    by_residual c.from_residual-in_err-packed.result (denied_ending c.in_err-packed.field-0.0) (λ ending. ending ≡ Memory) c.from_residual-in_err-packed.ensures.1
    (only_memory c.as_slice.result.now none c.in_err-packed.field-0.0 (λ r same. c.in_err-packed.ensures.refused r (ap Err same)))

pub returns-in_err-again-clause-fails : goal.returns-in_err-again-clause-fails
returns-in_err-again-clause-fails c =
    let none : (r : Cause) → IsRefusalOf c.as_slice-2.result.now r → ⊥ = settled_not_refused c.as_slice-2.result.now (subst IsSettledFile (sym c.as_slice-2.ensures) c.in_ok-packed.ensures.settled) in
    by_residual c.from_residual-in_err-again.result (denied_ending c.in_err-again.field-0.0) (λ ending. ending ≡ Memory) c.from_residual-in_err-again.ensures.1
    (only_memory c.as_slice-2.result.now none c.in_err-again.field-0.0 (λ r same. c.in_err-again.ensures.refused r (ap Err same)))

pub returns-clause-tells : goal.returns-clause-tells
returns-clause-tells c =
    let given : c.as_slice.result.now ≡ generated c.args.asked.first c.args.asked.blocks = c.as_slice.ensures.value ∙ c.in_ok-file.ensures in
    let first : Packs (generated c.args.asked.first c.args.asked.blocks) c.in_ok-packed.packed = subst (λ bytes. Packs bytes c.in_ok-packed.packed) given c.in_ok-packed.ensures.packed in
    let more : Packs c.in_ok-packed.packed.bytes c.in_ok-again.again = subst (λ bytes. Packs bytes c.in_ok-again.again) c.as_slice-2.ensures c.in_ok-again.ensures.packed in
    let stays : c.in_ok-again.again.bytes ≡ c.in_ok-packed.packed.bytes = c.in_ok-again.ensures.again (subst IsSettledFile (sym c.as_slice-2.ensures) c.in_ok-packed.ensures.settled) ∙ c.as_slice-2.ensures in
    trial_told c.args.asked.first c.args.asked.blocks c.args.asked.few c.in_ok-packed.packed c.in_ok-again.again first more stays c.trial_line-line.result c.trial_line-line.ensures
