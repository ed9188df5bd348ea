-- Texts and records, as far as they are read.
use Rattle.std.proofs.Common.{◌≡◌, ℕ, suc, ◌+◌, ◌<◌, ◌≤◌, true, false, List, [], ◌∷◌, length, get_or, drop, Some, None, Ok, Err, refl, ap, add-one, arith, drop-cons}
use Rattle.std.proofs.lemmas.Grind.{common_steps}
use Rattle.std.specs.Option.{is_some}
use Rattle.std.specs.Ordering.{nat_cmp}
use Rattle.std.specs.BTreeMap.{insert_entry}
use Rattle.sq_hex.specs.Lines.{lines_of}
use Rattle.sq_hex.specs.Meaning.{HexState, byte_at, with_bytes, after_line, or_fault, meaning_from}
use Rattle.sq_hex.proofs.LineLemmas.{lines_end}

-- from a byte on whose address has none
pub with_bytes_free : (map : List (ℕ × ℕ)) (address byte : ℕ) (bytes : List ℕ) → is_some (byte_at map address) ≡ false → with_bytes map address (byte ∷ bytes) ≡ with_bytes (insert_entry nat_cmp map address byte) (address + 1) bytes
unfolding with_bytes
with_bytes_free map address byte bytes free = rw free refl

pub with_bytes_taken : (map : List (ℕ × ℕ)) (address byte : ℕ) (bytes : List ℕ) → is_some (byte_at map address) ≡ true → with_bytes map address (byte ∷ bytes) ≡ None
unfolding with_bytes
with_bytes_taken map address byte bytes taken = rw taken refl

pub with_bytes_none : (map : List (ℕ × ℕ)) (address : ℕ) → with_bytes map address [] ≡ Some map
unfolding with_bytes
with_bytes_none map address = refl

-- the bytes from the place `index` on
module _ (map : List (ℕ × ℕ)) (address index : ℕ) (bytes : List ℕ) where
  pub load_taken : index < length bytes → is_some (byte_at map (address + index)) ≡ true → with_bytes map (address + index) (drop index bytes) ≡ None
  load_taken within taken = rw (drop-cons bytes index 0) (with_bytes_taken map (address + index) (get_or bytes index 0) (drop (suc index) bytes) taken)

  pub load_more : index < length bytes → is_some (byte_at map (address + index)) ≡ false → with_bytes map (address + index) (drop index bytes) ≡ with_bytes (insert_entry nat_cmp map (address + index) (get_or bytes index 0)) (address + (index + 1)) (drop (index + 1) bytes)
  load_more within free =
      let next : address + (index + 1) ≡ (address + index) + 1 = omega arith in
      rw (next, add-one index, drop-cons bytes index 0) (with_bytes_free map (address + index) (get_or bytes index 0) (drop (suc index) bytes) free)

  pub load_all : length bytes ≤ index → with_bytes map (address + index) (drop index bytes) ≡ Some map
  load_all all =
      let none : drop index bytes ≡ [] = grind (arith, common_steps) in
      rw none (with_bytes_none map (address + index))

-- from the first line of a text on
module _ (number : ℕ) (state : HexState) (line : List ℕ) (lines : List (List ℕ)) where
  pub line_at_fault : after_line state line ≡ None → meaning_from number state (line ∷ lines) ≡ Err number
  unfolding meaning_from
  line_at_fault fault = ap (λ next. or_fault number next (λ after. meaning_from (number + 1) after lines)) fault

  pub line_taken : (next : HexState) → after_line state line ≡ Some next → meaning_from number state (line ∷ lines) ≡ meaning_from (number + 1) next lines
  unfolding meaning_from
  line_taken next good = ap (λ next. or_fault number next (λ after. meaning_from (number + 1) after lines)) good

pub no_line : (text : List ℕ) → length text ≡ 0 → lines_of text ≡ []
no_line [] none = lines_end
no_line (byte ∷ bytes) none = absurd (omega arith)

-- behind the last line
pub text_ended : (number : ℕ) (state : HexState) (text : List ℕ) → length text ≡ 0 → state.ended ≡ true → meaning_from number state (lines_of text) ≡ Ok (record { bytes = state.bytes; start = state.start })
unfolding meaning_from
text_ended number state text none ended = rw (no_line text none, ended) refl

pub text_cut : (number : ℕ) (state : HexState) (text : List ℕ) → length text ≡ 0 → state.ended ≡ false → meaning_from number state (lines_of text) ≡ Err number
unfolding meaning_from
text_cut number state text none ended = rw (no_line text none, ended) refl
