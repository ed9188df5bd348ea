-- What packing a generated file, and the packing again, tells.
use Rattle.std.proofs.Common.{◌≡◌, ℕ, ◌≤◌, List, refl, ap, ◌∙◌}
use Rattle.sq_num.specs.declared.refusal.Refusal.{Refusal as Cause}
use Rattle.sq_num.specs.declared.refusal.Denied.{Denied}
use Rattle.sq_num.specs.declared.refusal.Denied.TheVariants.{Refused as DeniedFile, Memory as NoMemory}
use Rattle.sq_num.specs.declared.packed.Packed.{Packed}
use Rattle.sq_elf.specs.Refusing.{text_size}
use Rattle.law_program.specs.FilePrograms.{IsRefusalOf, IsAcceptedFile}
use Rattle.sq_lifted.proofs.Accepting.{not_refused}
use Rattle.sq_gen.specs.Generated.{generated}
use Rattle.sq_top.specs.declared.ending.Ending.TheVariants.{Memory}
use Rattle.sq_top.specs.Denials.{denied_ending}
use Rattle.sq_top.specs.Packing.{Packs}
use Rattle.sq_top.specs.Settled.{IsSettledFile}
use Rattle.sq_top.specs.Trials.{trial_text, TellsTrial}
use Rattle.sq_top.proofs.GeneratedFiles.{generated_text}

-- where no refusal can come, memory ran out
pub only_memory : (bytes : List ℕ) → ((r : Cause) → IsRefusalOf bytes r → ⊥) → (denied : Denied) → ((r : Cause) → denied ≡ DeniedFile r → IsRefusalOf bytes r) → denied_ending denied ≡ Memory
only_memory bytes none (DeniedFile r) refused = absurd (none r (refused r refl))
only_memory bytes none NoMemory refused = refl

-- a settled file is not refused
pub settled_not_refused : (bytes : List ℕ) → IsSettledFile bytes → (r : Cause) → IsRefusalOf bytes r → ⊥
settled_not_refused bytes settled r refused =
    let from = settled.lifted.lifted in
    let accepted : IsAcceptedFile bytes = record { reached = settled.lifted.is; program = settled.lifted.program; accepted = from.accepted } in
    not_refused bytes accepted r refused

-- the line of the two packings is that of the trial
pub trial_told : (first blocks : ℕ) → blocks ≤ 4000 → (packed again : Packed) → Packs (generated first blocks) packed → Packs packed.bytes again → again.bytes ≡ packed.bytes → (line : List ℕ) → line ≡ trial_text first blocks packed.text_before packed.text_after again.text_after → TellsTrial first blocks line
trial_told first blocks few packed again packs more same line is =
    let before = packs.text_before ∙ generated_text first blocks few in
    let last = more.text_after ∙ ap text_size same in
    record {
      output = packed.bytes;
      good = packs.good;
      line_is = is ∙ (λ i. trial_text first blocks (before i) (packs.text_after i) (last i));
    }
