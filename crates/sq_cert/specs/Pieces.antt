-- The pieces of a text between its marks.
use Rattle.std.specs.Prelude.{ℕ, nat_eq, if◌then◌else◌, List, [], ◌∷◌, Option, Some, None}

-- the byte in front of the first piece
abbrev pub in_front : ℕ → List (List ℕ) → List (List ℕ)
in_front byte [] = (byte ∷ []) ∷ []
in_front byte (piece ∷ pieces) = (byte ∷ piece) ∷ pieces

-- THE pieces: a text without marks is one piece
unfoldable pub pieces : ℕ → List ℕ → List (List ℕ)
pieces mark [] = [] ∷ []
pieces mark (byte ∷ bytes) = if nat_eq byte mark then [] ∷ pieces mark bytes else in_front byte (pieces mark bytes)

-- those of a text behind a mark, where there is one
abbrev pub pieces_behind : ℕ → Option (List ℕ) → List (List ℕ)
pieces_behind mark None = []
pieces_behind mark (Some text) = pieces mark text

-- a newline, and a space
abbrev pub newline : ℕ
newline = 10

abbrev pub space : ℕ
space = 32
