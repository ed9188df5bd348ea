-- Where what stood at an address stands once blocks have moved or a word has gone.
use Rattle.std.specs.Prelude.{ℕ, ◌≡◌, ◌+◌, ◌-◌, ◌*◌, ◌/◌, nat_lt, if◌then◌else◌}
use Rattle.sq_chain.specs.declared.seams.Seams.{Seams}

-- the pieces have whole words
pub record AreWhole (seams : Seams) : Type 0 where
  pub first : 4 * (seams.first / 4) ≡ seams.first
  pub second : 4 * (seams.second / 4) ≡ seams.second
  pub end : 4 * (seams.end / 4) ≡ seams.end

-- once two pieces are exchanged that follow each other
abbrev pub exchanged_to : Seams → ℕ → ℕ
exchanged_to seams at =
    if nat_lt at seams.first then at
    else if nat_lt at seams.second then at + (seams.end - seams.second)
    else if nat_lt at seams.end then at - (seams.second - seams.first)
    else at

-- once the word at another address is gone
abbrev pub lowered_to : ℕ → ℕ → ℕ
lowered_to start at = if nat_lt start at then at - 4 else at

-- once there is a word more behind another address, in a block that stands there
abbrev pub raised_to : ℕ → ℕ → ℕ
raised_to start at = if nat_lt start at then at + 4 else at
