-- The lines of a text. Each ends with a newline, or with a carriage return and a newline; the last one
-- may end with nothing.
use Rattle.std.specs.Prelude.{ℕ, Bool, false, ◌&&◌, nat_eq, if◌then◌else◌, List, [], ◌∷◌}

-- a newline comes next
abbrev pub is_at_newline : List ℕ → Bool
is_at_newline [] = false
is_at_newline (byte ∷ bytes) = nat_eq byte 10

-- the byte in front of the first line
abbrev pub in_front : ℕ → List (List ℕ) → List (List ℕ)
in_front byte [] = (byte ∷ []) ∷ []
in_front byte (line ∷ lines) = (byte ∷ line) ∷ lines

-- THE lines of a text, without their ends
unfoldable pub lines_of : List ℕ → List (List ℕ)
lines_of [] = []
lines_of (byte ∷ bytes) =
    if nat_eq byte 10 then [] ∷ lines_of bytes else
    if nat_eq byte 13 && is_at_newline bytes then lines_of bytes else
    in_front byte (lines_of bytes)
