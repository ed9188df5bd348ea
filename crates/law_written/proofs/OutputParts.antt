-- A part of a file at its offset, and the numbers in it.
use Rattle.std.proofs.Common.{◌≡◌, ℕ, zero, suc, ◌+◌, ◌*◌, ◌^◌, ◌<◌, ◌≤◌, true, false, ◌&&◌, nat_lt, nat_le, List, [], ◌∷◌, ◌++◌, take, drop, length, Some, slice_get, refl, sym, ap, subst, ◌∙◌, arith, append_assoc, append-nil, length-append}
use Rattle.std.proofs.lemmas.Bool.{le-leb}
use Rattle.std.proofs.lemmas.Bool.Decides.{nat_tests}
use Rattle.std.proofs.lemmas.List.{take_at, drop_at}
use Rattle.byteorder.specs.Endian.{little_bytes, little_number}
use Rattle.byteorder.specs.Numbers.{little_number-reads_back}
use Rattle.sq_elf.specs.Fields.{u16_field, u32_field}
use Rattle.sq_elf.specs.Ranges.{leaves, bytes_at}
use Rattle.sq_write.specs.Output.{halves, words}

-- the bytes have the part from the offset on
pub record PartAt (bytes : List ℕ) (at : ℕ) (part : List ℕ) : Type 0 where
  pub front : List ℕ
  pub back : List ℕ
  pub whole : bytes ≡ front ++ (part ++ back)
  pub offset : length front ≡ at

pub part_here : (part back : List ℕ) → PartAt (part ++ back) 0 part
part_here part back = record { front = []; back = back; whole = refl; offset = refl }

pub part_whole : (part : List ℕ) → PartAt part 0 part
part_whole part = record { front = []; back = []; whole = sym (append-nil part); offset = refl }

-- behind other bytes
pub part_behind : (front bytes : List ℕ) (at : ℕ) (part : List ℕ) → PartAt bytes at part → PartAt (front ++ bytes) (length front + at) part
part_behind front bytes at part has = record {
  front = front ++ has.front;
  back = has.back;
  whole = ap (λ xs. front ++ xs) has.whole ∙ sym (append_assoc front has.front (part ++ has.back));
  offset = length-append front has.front ∙ ap (λ n. length front + n) has.offset;
}

-- before other bytes
pub part_before : (bytes back : List ℕ) (at : ℕ) (part : List ℕ) → PartAt bytes at part → PartAt (bytes ++ back) at part
part_before bytes back at part has = record {
  front = has.front;
  back = has.back ++ back;
  whole = ap (λ xs. xs ++ back) has.whole ∙ append_assoc has.front (part ++ has.back) back ∙ ap (λ xs. has.front ++ xs) (append_assoc part has.back back);
  offset = has.offset;
}

-- at an offset that is the same number
pub part_from : (bytes : List ℕ) (at other : ℕ) (part : List ℕ) → at ≡ other → PartAt bytes at part → PartAt bytes other part
part_from bytes at other part same has = record { front = has.front; back = has.back; whole = has.whole; offset = has.offset ∙ same }

-- a part of a part
pub part_in : (bytes : List ℕ) (at more : ℕ) (part inner : List ℕ) → PartAt bytes at part → PartAt part more inner → PartAt bytes (at + more) inner
part_in bytes at more part inner outer has = record {
  front = outer.front ++ has.front;
  back = has.back ++ outer.back;
  whole =
      outer.whole
      ∙ ap (λ xs. outer.front ++ (xs ++ outer.back)) has.whole
      ∙ ap (λ xs. outer.front ++ xs) (append_assoc has.front (inner ++ has.back) outer.back ∙ ap (λ xs. has.front ++ xs) (append_assoc inner has.back outer.back))
      ∙ sym (append_assoc outer.front has.front (inner ++ (has.back ++ outer.back)));
  offset = length-append outer.front has.front ∙ ap (λ n. n + length has.front) outer.offset ∙ ap (λ n. at + n) has.offset;
}

-- the first and the rest of a part of two
pub first_part : (bytes : List ℕ) (at : ℕ) (xs ys : List ℕ) → PartAt bytes at (xs ++ ys) → PartAt bytes at xs
first_part bytes at xs ys has = record {
  front = has.front;
  back = ys ++ has.back;
  whole = has.whole ∙ ap (λ zs. has.front ++ zs) (append_assoc xs ys has.back);
  offset = has.offset;
}

pub rest_part : (bytes : List ℕ) (at : ℕ) (xs ys : List ℕ) → PartAt bytes at (xs ++ ys) → PartAt bytes (at + length xs) ys
rest_part bytes at xs ys has = record {
  front = has.front ++ xs;
  back = has.back;
  whole = has.whole ∙ ap (λ zs. has.front ++ zs) (append_assoc xs ys has.back) ∙ sym (append_assoc has.front xs (ys ++ has.back));
  offset = length-append has.front xs ∙ ap (λ n. n + length xs) has.offset;
}

-- it ends within the bytes
pub part_ends : (bytes : List ℕ) (at : ℕ) (part : List ℕ) → PartAt bytes at part → at + length part ≤ length bytes
part_ends bytes at part has =
    omega (arith, has.offset, ap length has.whole, length-append has.front (part ++ has.back), length-append part has.back)

-- it is what stands behind the offset
pub part_dropped : (bytes : List ℕ) (at : ℕ) (part : List ℕ) → (has : PartAt bytes at part) → drop at bytes ≡ part ++ has.back
part_dropped bytes at part has = ap (drop at) has.whole ∙ drop_at has.front (part ++ has.back) at has.offset

stays : (long size end : ℕ) → end ≤ long → (nat_lt 0 size && nat_lt long end) ≡ false
stays long size end within = grind (arith, nat_tests)

pub part_read : (bytes : List ℕ) (at size : ℕ) (part : List ℕ) → length part ≡ size → PartAt bytes at part → bytes_at bytes at size ≡ Some part
unfolding bytes_at
part_read bytes at size part sized has =
    let inside : leaves bytes at size ≡ false = stays (length bytes) size (at + size) (omega (arith, sized, part_ends bytes at part has)) in
    rw inside (ap Some (ap (take size) (part_dropped bytes at part has) ∙ take_at part has.back size sized))

-- Numbers

pub half_read : (bytes : List ℕ) (at n : ℕ) → n < 2 ^ 16 → PartAt bytes at (little_bytes 2 n) → u16_field bytes at ≡ n
unfolding u16_field
half_read bytes at n fits has =
    let within : nat_le (at + 2) (length bytes) ≡ true = le-leb (at + 2) (length bytes) (part_ends bytes at (little_bytes 2 n) has) in
    rw within (ap (little_number 2) (part_dropped bytes at (little_bytes 2 n) has) ∙ little_number-reads_back 2 n has.back fits)

pub word_read : (bytes : List ℕ) (at n : ℕ) → n < 2 ^ 32 → PartAt bytes at (little_bytes 4 n) → u32_field bytes at ≡ n
unfolding u32_field
word_read bytes at n fits has =
    let within : nat_le (at + 4) (length bytes) ≡ true = le-leb (at + 4) (length bytes) (part_ends bytes at (little_bytes 4 n) has) in
    rw within (ap (little_number 4) (part_dropped bytes at (little_bytes 4 n) has) ∙ little_number-reads_back 4 n has.back fits)

half_part : (numbers : List ℕ) (k n : ℕ) → slice_get numbers k ≡ Some n → PartAt (halves numbers) (2 * k) (little_bytes 2 n)
half_part [] k n is = absurd (cc is)
half_part (m ∷ numbers) zero n is =
    let same : m ≡ n = cc is in
    subst (λ x. PartAt (little_bytes 2 m ++ halves numbers) 0 (little_bytes 2 x)) same (part_here (little_bytes 2 m) (halves numbers))
half_part (m ∷ numbers) (suc k) n is =
    part_from (little_bytes 2 m ++ halves numbers) (2 + 2 * k) (2 * suc k) (little_bytes 2 n) (omega arith)
    (part_behind (little_bytes 2 m) (halves numbers) (2 * k) (little_bytes 2 n) (half_part numbers k n is))

word_part : (numbers : List ℕ) (k n : ℕ) → slice_get numbers k ≡ Some n → PartAt (words numbers) (4 * k) (little_bytes 4 n)
word_part [] k n is = absurd (cc is)
word_part (m ∷ numbers) zero n is =
    let same : m ≡ n = cc is in
    subst (λ x. PartAt (little_bytes 4 m ++ words numbers) 0 (little_bytes 4 x)) same (part_here (little_bytes 4 m) (words numbers))
word_part (m ∷ numbers) (suc k) n is =
    part_from (little_bytes 4 m ++ words numbers) (4 + 4 * k) (4 * suc k) (little_bytes 4 n) (omega arith)
    (part_behind (little_bytes 4 m) (words numbers) (4 * k) (little_bytes 4 n) (word_part numbers k n is))

-- a number of a row of fields
pub half_at : (bytes : List ℕ) (at : ℕ) (numbers : List ℕ) → PartAt bytes at (halves numbers) → (k n : ℕ) → slice_get numbers k ≡ Some n → n < 2 ^ 16 → u16_field bytes (at + 2 * k) ≡ n
half_at bytes at numbers has k n is fits =
    half_read bytes (at + 2 * k) n fits (part_in bytes at (2 * k) (halves numbers) (little_bytes 2 n) has (half_part numbers k n is))

pub word_at : (bytes : List ℕ) (at : ℕ) (numbers : List ℕ) → PartAt bytes at (words numbers) → (k n : ℕ) → slice_get numbers k ≡ Some n → n < 2 ^ 32 → u32_field bytes (at + 4 * k) ≡ n
word_at bytes at numbers has k n is fits =
    word_read bytes (at + 4 * k) n fits (part_in bytes at (4 * k) (words numbers) (little_bytes 4 n) has (word_part numbers k n is))
