-- How many words are before blocks, where two pieces of the text that follow each other change places.
use Rattle.std.specs.Prelude.{ℕ, ◌+◌, ◌-◌, ◌≤◌, nat_lt, if◌then◌else◌}
use Rattle.sq_lookup.specs.declared.parts.Pieces.{Pieces}

-- the first piece ends where the second begins, behind which is the end
pub record AreInOrder (pieces : Pieces) : Type 0 where
  pub first : pieces.first ≤ pieces.second
  pub second : pieces.second ≤ pieces.end

-- how many words are before a block, before which were so many
abbrev pub exchanged_word : Pieces → ℕ → ℕ
exchanged_word pieces words =
    if nat_lt words pieces.first then words
    else if nat_lt words pieces.second then words + (pieces.end - pieces.second)
    else if nat_lt words pieces.end then words - (pieces.second - pieces.first)
    else words
