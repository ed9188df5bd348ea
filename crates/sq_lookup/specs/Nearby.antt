-- Which blocks stand between two places of a text in parts.
use Rattle.std.specs.Prelude.{◌≡◌, ℕ, ◌<◌, ◌≤◌, Bool, true, List, length, Option}
use Rattle.sq_lookup.specs.declared.text.Text.{Text}
use Rattle.sq_lookup.specs.Marks.{is_wanted}
use Rattle.sq_lookup.specs.Standing.{word_at}

-- the name is wanted, and so many words are before its block
pub record IsFound (text : Text) (marks : Option (List Bool)) (first last n : ℕ) : Type 0 where
  pub within : n < length text.places.items
  pub wanted : is_wanted marks n ≡ true
  pub from : first ≤ word_at text n
  pub to : word_at text n ≤ last

-- it isn't, or fewer or more are
abbrev pub IsElsewhere : Text → Option (List Bool) → ℕ → ℕ → ℕ → Type 0
IsElsewhere text marks first last n =
    n < length text.places.items → is_wanted marks n ≡ true → first ≤ word_at text n → last < word_at text n
