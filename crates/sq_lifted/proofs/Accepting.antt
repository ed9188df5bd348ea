-- A file of which nothing is refused has no refusal.
use Rattle.std.proofs.Common.{◌≡◌, ℕ, Bool, List, Some, None, sym, ◌∙◌}
use Rattle.sq_num.specs.declared.refusal.Refusal.{Refusal}
use Rattle.law_program.specs.Programs.{Program}
use Rattle.law_program.specs.FilePrograms.{IsLiftRefusal, IsAccepted, IsRefusalOf, IsAcceptedFile}
use Rattle.law_program.specs.FilePrograms.IsLiftRefusal.{early, alive}
use Rattle.law_program.specs.FilePrograms.IsRefusalOf.{by_file, by_relocs, by_lift}
use Rattle.sq_lifted.specs.LiftedFiles.{AcceptedIsNotRefused}
use Rattle.sq_lifted.proofs.LiftedFiles.{early_same, first_same}

not_by_lift : (bytes : List ℕ) (is too : ℕ → Bool) (p q : Program) (r : Refusal) → IsAccepted bytes is p → IsLiftRefusal bytes too q r → ⊥
not_by_lift bytes is too p q r a (early from refuses) =
    let never : Some r ≡ None = sym refuses ∙ early_same bytes too is q p from a.read ∙ a.early in
    cc
not_by_lift bytes is too p q r a (alive {i = i} from none first) =
    let here = first_same bytes too is q p from a.read i first in here.alive (a.dies i here.note here.there)

not_of : (bytes : List ℕ) (a : IsAcceptedFile bytes) (r : Refusal) → IsRefusalOf bytes r → ⊥
not_of bytes a r (by_file refused) = let none = a.accepted.read.file in let never : Some r ≡ None = sym refused ∙ none in cc
not_of bytes a r (by_relocs file refused) = let none = a.accepted.read.relocs in let never : Some r ≡ None = sym refused ∙ none in cc
not_of bytes a r (by_lift {is = is} {p = p} refuses) = not_by_lift bytes a.reached is a.program p r a.accepted refuses

pub not_refused : AcceptedIsNotRefused
not_refused bytes a r refusal = not_of bytes a r refusal
