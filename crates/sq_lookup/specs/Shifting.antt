-- How many words are before blocks of a part of the text, that is shifted where all of it is moved alike.
use Rattle.std.specs.Prelude.{◌≡◌, ℕ, ◌+◌, ◌%◌, ◌^◌, ◌≤◌, nat_lt, if◌then◌else◌, ⊤}
use Rattle.sq_lookup.specs.declared.parts.Bounds.{Bounds}
use Rattle.sq_lookup.specs.declared.parts.Change.{Change}
use Rattle.sq_lookup.specs.declared.parts.Change.TheVariants.{Lower, Raise, Exchange}
use Rattle.sq_lookup.specs.Exchanging.{AreInOrder, exchanged_word}
use Rattle.sq_lookup.specs.Lowering.{nowhere, lowered_word, raised_word}

-- how many words are before a block of a part that is shifted by so many, around 2^32
abbrev pub shifted_word : ℕ → ℕ → ℕ
shifted_word shift words = if nat_lt words nowhere then (words + shift) % 2 ^ 32 else words

-- how many words are before a block once the text is changed
abbrev pub changed_word : Change → ℕ → ℕ
changed_word (Lower start) words = lowered_word start words
changed_word (Raise start) words = raised_word start words
changed_word (Exchange pieces) words = exchanged_word pieces words

-- the pieces follow one another
abbrev pub IsRight : Change → Type 0
IsRight (Lower start) = ⊤
IsRight (Raise start) = ⊤
IsRight (Exchange pieces) = AreInOrder pieces

-- so many words are within the bounds
abbrev pub IsBetween : Bounds → ℕ → Type 0
IsBetween bounds words = (bounds.least ≤ words) × (words ≤ bounds.most)

-- all within the bounds is moved by so many words, around 2^32, and what no block has stays
pub record IsShift (f : ℕ → ℕ) (bounds : Bounds) (shift : ℕ) : Type 0 where
  pub moved : (w : ℕ) → IsBetween bounds w → f w ≡ (w + shift) % 2 ^ 32
  pub least : (w : ℕ) → IsBetween bounds w → (bounds.least + shift) % 2 ^ 32 ≤ (w + shift) % 2 ^ 32
  pub most : (w : ℕ) → IsBetween bounds w → (w + shift) % 2 ^ 32 ≤ (bounds.most + shift) % 2 ^ 32
  pub none : (w : ℕ) → nowhere ≤ w → f w ≡ w
