-- Bytes at their addresses.
use Rattle.std.proofs.Common.{◌≡◌, ℕ, zero, suc, ◌+◌, ◌<◌, List, [], ◌∷◌, ◌++◌, length, get_or, take, drop, refl, sym, ap, ◌∙◌, add-one, add-zero, append_assoc, arith}
use Rattle.sq_hex.specs.Flash.{placed}

pub cancel : {A : Type 0} (xs ys zs : List A) → xs ++ ys ≡ xs ++ zs → ys ≡ zs
cancel [] ys zs same = same
cancel (x ∷ xs) ys zs same = cancel xs ys zs (cc same)

-- the bytes before a place, the byte there, and those behind it
pub placed_split : (address : ℕ) (bytes : List ℕ) (index : ℕ) → index < length bytes → placed address bytes ≡ placed address (take index bytes) ++ (address + index, get_or bytes index 0) ∷ placed (address + index + 1) (drop (suc index) bytes)
placed_split address [] index within = absurd (omega arith)
placed_split address (byte ∷ bytes) zero within = rw (add-zero address) refl
placed_split address (byte ∷ bytes) (suc index) within =
    let at : address + 1 + index ≡ address + suc index = omega arith in
    ap (λ rest. (address, byte) ∷ rest)
    (placed_split (address + 1) bytes index (omega arith)
    ∙ ap (λ a. placed (address + 1) (take index bytes) ++ (a, get_or bytes index 0) ∷ placed (a + 1) (drop (suc index) bytes)) at)

pub placed_append : (address : ℕ) (front back : List ℕ) → placed address (front ++ back) ≡ placed address front ++ placed (address + length front) back
placed_append address [] back = rw (add-zero address) refl
placed_append address (byte ∷ front) back =
    let at : address + 1 + length front ≡ address + suc (length front) = omega arith in
    ap (λ rest. (address, byte) ∷ rest) (placed_append (address + 1) front back ∙ ap (λ a. placed (address + 1) front ++ placed a back) at)

-- one byte more
pub placed_more : (address : ℕ) (bytes : List ℕ) (index : ℕ) → index < length bytes → placed address (take (suc index) bytes) ≡ placed address (take index bytes) ++ (address + index, get_or bytes index 0) ∷ []
placed_more address [] index within = absurd (omega arith)
placed_more address (byte ∷ bytes) zero within = rw (add-zero address) refl
placed_more address (byte ∷ bytes) (suc index) within =
    let at : address + 1 + index ≡ address + suc index = omega arith in
    ap (λ rest. (address, byte) ∷ rest)
    (placed_more (address + 1) bytes index (omega arith) ∙ ap (λ a. placed (address + 1) (take index bytes) ++ (a, get_or bytes index 0) ∷ []) at)

-- entries that began with the bytes before a place, and go on
module _ (address : ℕ) (bytes : List ℕ) (index : ℕ) (within : index < length bytes) (whole left : List (ℕ × ℕ)) (began : whole ≡ placed address (take index bytes) ++ left) where
  -- they go on as the bytes do
  pub goes_on : (rest : List (ℕ × ℕ)) → whole ≡ placed address bytes ++ rest → left ≡ (address + index, get_or bytes index 0) ∷ (placed (address + index + 1) (drop (suc index) bytes) ++ rest)
  goes_on rest same =
      cancel (placed address (take index bytes)) left _
      (sym began ∙ same ∙ ap (λ front. front ++ rest) (placed_split address bytes index within)
      ∙ append_assoc (placed address (take index bytes)) ((address + index, get_or bytes index 0) ∷ placed (address + index + 1) (drop (suc index) bytes)) rest)

  pub one_more : (next : List (ℕ × ℕ)) → left ≡ (address + index, get_or bytes index 0) ∷ next → whole ≡ placed address (take (index + 1) bytes) ++ next
  one_more next same =
      began ∙ ap (λ more. placed address (take index bytes) ++ more) same
      ∙ sym (append_assoc (placed address (take index bytes)) ((address + index, get_or bytes index 0) ∷ []) next)
      ∙ sym (ap (λ front. front ++ next) (rw (add-one index) (placed_more address bytes index within)))

first_address : List (ℕ × ℕ) → ℕ
first_address [] = 0
first_address (entry ∷ entries) = entry.0

first_byte : List (ℕ × ℕ) → ℕ
first_byte [] = 0
first_byte (entry ∷ entries) = entry.1

pub heads : (a b c d : ℕ) (xs ys : List (ℕ × ℕ)) → (a, b) ∷ xs ≡ (c, d) ∷ ys → (a ≡ c) × (b ≡ d)
unfolding first_address first_byte
heads a b c d xs ys same = (ap first_address same, ap first_byte same)
