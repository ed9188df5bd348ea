-- The refusal of a table in parts.
use Rattle.std.proofs.Common.{◌≡◌, List, [], ◌∷◌, ◌++◌, ℕ, Bool, true, false, Option, Some, None, refl, sym, ap, ◌∙◌}
use Rattle.sq_num.specs.declared.refusal.Refusal.{Refusal}
use Rattle.sq_num.specs.Refusals.{Row, first_from, refused_at, first_refusal}
use Rattle.sq_elf.specs.Refusing.{single}

-- the first refusal, or else the later one
abbrev pub or_later : Option Refusal → Option Refusal → Option Refusal
or_later None later = later
or_later (Some refusal) later = Some refusal

row_of_parts : (refusal : ℕ → Refusal) (place : Option ℕ) (first later : Option Refusal) → refused_at refusal place (or_later first later) ≡ or_later (refused_at refusal place first) later
row_of_parts refusal None first later = refl
row_of_parts refusal (Some at) first later = refl

-- a table in two parts is refused by the first one, or else by the second
pub first_of_parts : (rows more : List Row) → first_refusal (rows ++ more) ≡ or_later (first_refusal rows) (first_refusal more)
first_of_parts [] more = refl
first_of_parts (row ∷ rows) more =
    ap (refused_at row.refusal (first_from row.fails 0 row.places)) (first_of_parts rows more)
    ∙ row_of_parts row.refusal (first_from row.fails 0 row.places) (first_refusal rows) (first_refusal more)

-- what the first part refuses, the whole does
pub here_of_parts : (rows more : List Row) (refusal : Refusal) → Some refusal ≡ first_refusal rows → Some refusal ≡ first_refusal (rows ++ more)
here_of_parts rows more refusal here = ap (λ first. or_later first (first_refusal more)) here ∙ sym (first_of_parts rows more)

-- where it refuses nothing, the whole is the second
pub later_of_parts : (rows more : List Row) → None ≡ first_refusal rows → first_refusal more ≡ first_refusal (rows ++ more)
later_of_parts rows more none = ap (λ first. or_later first (first_refusal more)) none ∙ sym (first_of_parts rows more)

-- a row of one place
pub single_here : (fails : Bool) (refusal : Refusal) (rows : List Row) → fails ≡ true → Some refusal ≡ first_refusal (single fails refusal ∷ rows)
unfolding first_from
single_here fails refusal rows here = rw here refl

pub single_later : (fails : Bool) (refusal : Refusal) (rows : List Row) → fails ≡ false → first_refusal rows ≡ first_refusal (single fails refusal ∷ rows)
unfolding first_from
single_later fails refusal rows passes = rw passes refl
