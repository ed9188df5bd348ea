-- Sets of registers, as contracts see them.
use Rattle.std.specs.Prelude.{ℕ, Bool, false, ◌==◌, ◌||◌, ◌&&◌, not, List, [], ◌∷◌, if◌then◌else◌}
use Rattle.std.specs.Int.{bit_at}

-- register r is in the set: its bit is 1
abbrev pub is_member : ℕ → ℕ → Bool
is_member set r = bit_at set r == 1

-- r is in the list
abbrev pub is_among : List ℕ → ℕ → Bool
is_among [] r = false
is_among (x ∷ xs) r = x == r || is_among xs r

-- r is in the list, and isn't x0
abbrev pub is_among_but_x0 : List ℕ → ℕ → Bool
is_among_but_x0 xs r = not (r == 0) && is_among xs r

-- the registers with v in register r; x0 stays as it is
abbrev pub written : {A : Type 0} → ℕ → A → (ℕ → A) → ℕ → A
written r v registers x = if x == r && not (r == 0) then v else registers x
