-- A file that has no refusal is accepted.
use Rattle.std.specs.Prelude.{ℕ, List}
use Rattle.sq_num.specs.declared.refusal.Refusal.{Refusal}
use Rattle.law_program.specs.FilePrograms.{IsRefusalOf, IsAcceptedFile}

-- It can't be that a file has no refusal and isn't accepted. What is accepted has a test of its reached words, which only
-- a search finds: so this says that there is no third case, and gives no test.
abbrev pub NotRefusedIsAccepted : Type 0
NotRefusedIsAccepted = (bytes : List ℕ) → ((refusal : Refusal) → ¬ IsRefusalOf bytes refusal) → ¬ ¬ IsAcceptedFile bytes
