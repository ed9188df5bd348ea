-- How the refusals of the readers make that of a file.
use Rattle.std.proofs.Common.{◌≡◌, ◌⊎◌, inl, inr, ℕ, Bool, List, Some, None, refl, sym, ap, ◌∙◌}
use Rattle.sq_num.specs.declared.refusal.Refusal.{Refusal}
use Rattle.sq_num.specs.declared.refusal.Denied.{Denied}
use Rattle.sq_num.specs.declared.refusal.Denied.TheVariants.{Refused, Memory}
use Rattle.sq_elf.specs.Refusing.{file_refusal_of}
use Rattle.sq_reloc.specs.Refusing.{reloc_refusal_of}
use Rattle.law_program.specs.Programs.{Program}
use Rattle.law_program.specs.FilePrograms.{IsReadAs, IsLiftRefusal, IsRefusalOf}
use Rattle.law_program.specs.FilePrograms.IsLiftRefusal.{early, alive}
use Rattle.law_program.specs.FilePrograms.IsRefusalOf.{by_file, by_relocs, by_lift}
use Rattle.sq_lifted.specs.LiftedFiles.{IsRefusedFile}

-- a file that is refused by its text or its note is read
was_read : (bytes : List ℕ) (is : ℕ → Bool) (p : Program) (r : Refusal) → IsLiftRefusal bytes is p r → IsReadAs bytes is p
was_read bytes is p r (early read refuses) = read
was_read bytes is p r (alive read none first) = read

some_is : (r s : Refusal) → Some r ≡ Some s → r ≡ s
some_is r s e = cc

by_the_file : (bytes : List ℕ) (s r : Refusal) → file_refusal_of bytes ≡ Some s → IsRefusalOf bytes r → s ≡ r
by_the_file bytes s r e (by_file f) = some_is s r (sym e ∙ f)
by_the_file bytes s r e (by_relocs none f) = let never : Some s ≡ None = sym e ∙ none in absurd (cc)
by_the_file bytes s r e (by_lift {is = is} {p = p} l) = let read = was_read bytes is p r l in let never : Some s ≡ None = sym e ∙ read.file in absurd (cc)

by_the_relocs : (bytes : List ℕ) (s r : Refusal) → file_refusal_of bytes ≡ None → reloc_refusal_of bytes ≡ Some s → IsRefusalOf bytes r → s ≡ r
by_the_relocs bytes s r good e (by_file f) = let never : Some r ≡ None = sym f ∙ good in absurd (cc)
by_the_relocs bytes s r good e (by_relocs none f) = some_is s r (sym e ∙ f)
by_the_relocs bytes s r good e (by_lift {is = is} {p = p} l) = let read = was_read bytes is p r l in let never : Some s ≡ None = sym e ∙ read.relocs in absurd (cc)

pub file_exact : (bytes : List ℕ) (d : Denied) → ((r : Refusal) → d ≡ Refused r → file_refusal_of bytes ≡ Some r) → (r : Refusal) → IsRefusalOf bytes r → (d ≡ Refused r) ⊎ (d ≡ Memory)
file_exact bytes (Refused s) h r e = inl (ap Refused (by_the_file bytes s r (h s refl) e))
file_exact bytes Memory h r e = inr refl

pub relocs_exact : (bytes : List ℕ) (d : Denied) → file_refusal_of bytes ≡ None → ((r : Refusal) → d ≡ Refused r → reloc_refusal_of bytes ≡ Some r) → (r : Refusal) → IsRefusalOf bytes r → (d ≡ Refused r) ⊎ (d ≡ Memory)
relocs_exact bytes (Refused s) good h r e = inl (ap Refused (by_the_relocs bytes s r good (h s refl) e))
relocs_exact bytes Memory good h r e = inr refl

pub lift_exact : (bytes : List ℕ) (d : Denied) → file_refusal_of bytes ≡ None → reloc_refusal_of bytes ≡ None → ((r : Refusal) → IsRefusedFile bytes r → (d ≡ Refused r) ⊎ (d ≡ Memory)) → (r : Refusal) → IsRefusalOf bytes r → (d ≡ Refused r) ⊎ (d ≡ Memory)
lift_exact bytes d good none h r (by_file f) = let never : Some r ≡ None = sym f ∙ good in absurd (cc)
lift_exact bytes d good none h r (by_relocs same f) = let never : Some r ≡ None = sym f ∙ none in absurd (cc)
lift_exact bytes d good none h r (by_lift {is = is} {p = p} l) = h r (record { is = is; program = p; refuses = l })

pub lift_refused : (bytes : List ℕ) (r : Refusal) → IsRefusedFile bytes r → IsRefusalOf bytes r
lift_refused bytes r e = by_lift {is = e.is} {p = e.program} e.refuses
