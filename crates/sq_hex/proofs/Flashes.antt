-- What is loaded of a file, in the order of addresses, is its flash; and it has one flash.
use Rattle.std.proofs.Common.{◌≡◌, ℕ, zero, suc, ◌+◌, ◌<◌, ◌≤◌, ◌⊎◌, inl, inr, Bool, true, false, List, [], ◌∷◌, ◌++◌, Some, None, if◌then◌else◌, length, get_or, take, drop, refl, sym, ap, ◌∙◌, subst, append_assoc, arith}
use Rattle.std.proofs.lemmas.Bool.Decides.{nat_tests}
use Rattle.std.proofs.lemmas.Grind.{common_steps}
use Rattle.std.proofs.lemmas.Bool.{cases_lt}
use Rattle.std.proofs.lemmas.List.Elements.{recursion_from_All}
use Rattle.std.specs.Option.{unwrap_or}
use Rattle.std.proofs.lemmas.List.Sorted.{Contains-permutation, IsPermutation-sym}
use Rattle.std.proofs.lemmas.Map.Keys.{sorted_head, sorted_tail, IsDistinct-head, IsDistinct-tail}
use Rattle.std.specs.List.{AllByRecursion, IsDistinct, Contains}
use Rattle.std.specs.List.Sorted.{IsStrictlySortedBy, IsNonDecreasingBy}
use Rattle.std.specs.Ordering.{nat_cmp}
use Rattle.std.specs.Map.{keys_of}
use Rattle.std.specs.declared.cmp.Ordering.TheVariants.{Less}
use Rattle.sq_elf.specs.declared.segment.Segment.{Segment}
use Rattle.sq_elf.specs.Memory.{segments_of, file_bytes_of}
use Rattle.sq_elf.specs.Ranges.{bytes_at, leaves}
use Rattle.sq_elf.specs.Refusing.{file_refusal_of}
use Rattle.sq_elf.specs.Headers.{entry_of}
use Rattle.sq_hex.specs.Meaning.{HexMeaning}
use Rattle.sq_hex.specs.Flash.{placed, IsLoaded, IsFlash, IsFlashOf, AreLoads, ranges_of, bytes_of}
use Rattle.sq_hex.proofs.Loads.{loads_meet, meets_from, loads_distinct}

-- each address is above the one before, and the first at least this
abbrev pub AscendsFrom : ℕ → List (ℕ × ℕ) → Type 0
AscendsFrom low [] = Unit {0}
AscendsFrom low (entry ∷ entries) = (low ≤ entry.0) × AscendsFrom (suc entry.0) entries

weaker : (low high : ℕ) (entries : List (ℕ × ℕ)) → low ≤ high → AscendsFrom high entries → AscendsFrom low entries
weaker low high [] fits ascends = tt
weaker low high (entry ∷ entries) fits ascends = (omega (arith, ascends.0), ascends.1)

placed_then : (low address : ℕ) (bytes : List ℕ) (rest : List (ℕ × ℕ)) → low ≤ address → AscendsFrom (address + length bytes) rest → AscendsFrom low (placed address bytes ++ rest)
placed_then low address [] rest fits ascends = weaker low (address + 0) rest (omega arith) ascends
placed_then low address (byte ∷ bytes) rest fits ascends =
    let at : address + suc (length bytes) ≡ address + 1 + length bytes = omega arith in
    let A : ℕ → Type 0 = λ from. AscendsFrom from rest in
    (fits, placed_then (suc address) (address + 1) bytes rest (omega arith) (subst A at ascends))

-- they ascend, by the order of std
less_cmp : (a b : ℕ) → a < b → nat_cmp a b ≡ Less
less_cmp a b less = grind (arith, nat_tests)

cmp_less : (a b : ℕ) → nat_cmp a b ≡ Less → a < b
cmp_less a b is = grind (arith, nat_tests)

ascends_above : (low above : ℕ) (entries : List (ℕ × ℕ)) → above < low → AscendsFrom low entries → AllByRecursion (λ key. nat_cmp above key ≡ Less) (keys_of entries)
ascends_above low above [] fits ascends = tt
ascends_above low above (entry ∷ entries) fits ascends =
    (less_cmp above entry.0 (omega (arith, ascends.0)), ascends_above (suc entry.0) above entries (omega (arith, ascends.0)) ascends.1)

pub ascends_sorted : (low : ℕ) (entries : List (ℕ × ℕ)) → AscendsFrom low entries → IsStrictlySortedBy nat_cmp (keys_of entries)
unfolding IsStrictlySortedBy
ascends_sorted low [] ascends = tt
ascends_sorted low (entry ∷ entries) ascends =
    (ascends_above (suc entry.0) entry.0 entries (omega arith) ascends.1, ascends_sorted (suc entry.0) entries ascends.1)

head_below : (low : ℕ) (entries : List (ℕ × ℕ)) → AllByRecursion (λ key. nat_cmp low key ≡ Less) (keys_of entries) → IsStrictlySortedBy nat_cmp (keys_of entries) → AscendsFrom (suc low) entries
head_below low [] above sorted = tt
head_below low (entry ∷ entries) above sorted =
    (cmp_less low entry.0 above.0, head_below entry.0 entries (sorted_head nat_cmp entry.0 (keys_of entries) sorted) (sorted_tail nat_cmp entry.0 (keys_of entries) sorted))

pub sorted_ascends : (entries : List (ℕ × ℕ)) → IsStrictlySortedBy nat_cmp (keys_of entries) → AscendsFrom 0 entries
sorted_ascends [] sorted = tt
sorted_ascends (entry ∷ entries) sorted =
    (omega arith, head_below entry.0 entries (sorted_head nat_cmp entry.0 (keys_of entries) sorted) (sorted_tail nat_cmp entry.0 (keys_of entries) sorted))

-- membership, by recursion
abbrev pub Has : {A : Type 0} → A → List A → Type 0
Has y [] = ⊥
Has y (x ∷ xs) = (x ≡ y) ⊎ Has y xs

has_from : {A : Type 0} (xs : List A) (y : A) (k : ℕ) → k < length xs → get_or xs k y ≡ y → Has y xs
has_from [] y k within is = absurd (omega arith)
has_from (x ∷ xs) y zero within is = inl is
has_from (x ∷ xs) y (suc k) within is = inr (has_from xs y k (omega arith) is)

has_contained : {A : Type 0} (xs : List A) (y : A) → Contains xs y → Has y xs
has_contained xs y there = has_from xs y there.0 there.1 there.2

contains_had : {A : Type 0} (xs : List A) (y : A) → Has y xs → Contains xs y
contains_had [] y has = absurd has
contains_had (x ∷ xs) y (inl is) = (0, omega arith, is)
contains_had (x ∷ xs) y (inr later) = let there = contains_had xs y later in (suc there.0, omega (arith, there.1), there.2)

has_split : {A : Type 0} (xs ys : List A) (y : A) → Has y (xs ++ ys) → Has y xs ⊎ Has y ys
has_split [] ys y has = inr has
has_split (x ∷ xs) ys y (inl is) = inl (inl is)
has_split (x ∷ xs) ys y (inr later) = elim (has_split xs ys y later) [ inl front ↦ inl (inr front) | inr back ↦ inr back ]

has_front : {A : Type 0} (xs ys : List A) (y : A) → Has y xs → Has y (xs ++ ys)
has_front [] ys y has = absurd has
has_front (x ∷ xs) ys y (inl is) = inl is
has_front (x ∷ xs) ys y (inr later) = inr (has_front xs ys y later)

pub has_back : {A : Type 0} (xs ys : List A) (y : A) → Has y ys → Has y (xs ++ ys)
has_back [] ys y has = has
has_back (x ∷ xs) ys y has = inr (has_back xs ys y has)

-- what ascends from an address on has none below it
pub has_above : (low : ℕ) (entries : List (ℕ × ℕ)) (entry : ℕ × ℕ) → AscendsFrom low entries → Has entry entries → low ≤ entry.0
has_above low [] entry ascends has = absurd has
has_above low (first ∷ entries) entry ascends (inl is) = let at : first.0 ≡ entry.0 = ap (λ (e : ℕ × ℕ). e.0) is in omega (arith, ascends.0, at)
has_above low (first ∷ entries) entry ascends (inr later) = let above = has_above (suc first.0) entries entry ascends.1 later in omega (arith, ascends.0, above)

-- an entry behind the first is none of the first
later_has : (x y : ℕ × ℕ) (xs ys : List (ℕ × ℕ)) → x ≡ y → AscendsFrom (suc x.0) xs → (e : ℕ × ℕ) → Has e xs → Has e (y ∷ ys) → Has e ys
later_has x y xs ys same ascends e has (inl is) =
    let above = has_above (suc x.0) xs e ascends has in
    let at : x.0 ≡ e.0 = ap (λ (e : ℕ × ℕ). e.0) (same ∙ is) in
    absurd (omega (arith, above, at))
later_has x y xs ys same ascends e has (inr later) = later

same_first : (x y : ℕ × ℕ) (xs ys : List (ℕ × ℕ)) → AscendsFrom (suc x.0) xs → AscendsFrom (suc y.0) ys → Has x (y ∷ ys) → Has y (x ∷ xs) → x ≡ y
same_first x y xs ys first second (inl is) back = sym is
same_first x y xs ys first second (inr later) (inl is) = is
same_first x y xs ys first second (inr later) (inr other) =
    absurd (omega (arith, has_above (suc y.0) ys x second later, has_above (suc x.0) xs y first other))

-- two ascending lists with the same entries are one
same_entries : (low other : ℕ) (xs ys : List (ℕ × ℕ)) → AscendsFrom low xs → AscendsFrom other ys → ((e : ℕ × ℕ) → Has e xs → Has e ys) → ((e : ℕ × ℕ) → Has e ys → Has e xs) → xs ≡ ys
same_entries low other [] [] first second there back = refl
same_entries low other [] (y ∷ ys) first second there back = absurd (back y (inl refl))
same_entries low other (x ∷ xs) [] first second there back = absurd (there x (inl refl))
same_entries low other (x ∷ xs) (y ∷ ys) first second there back =
    let same = same_first x y xs ys first.1 second.1 (there x (inl refl)) (back y (inl refl)) in
    let rest = same_entries (suc x.0) (suc y.0) xs ys first.1 second.1
    (λ e has. later_has x y xs ys same first.1 e has (there e (inr has)))
    (λ e has. later_has y x ys xs (sym same) second.1 e has (back e (inr has))) in
    ap (λ e. e ∷ xs) same ∙ ap (λ more. y ∷ more) rest

few_of : (out : Bool) (size : ℕ) (bytes : List ℕ) → length (unwrap_or (if out then None else Some (take size bytes)) []) ≤ size
few_of true size bytes = omega arith
few_of false size bytes = grind (arith, common_steps)

all_both : {A : Type 0} (P Q R : A → Type 0) → ((x : A) → P x → Q x → R x) → (xs : List A) → AllByRecursion P xs → AllByRecursion Q xs → AllByRecursion R xs
all_both P Q R step [] first second = tt
all_both P Q R step (x ∷ xs) first second = (step x first.0 second.0, all_both P Q R step xs first.1 second.1)

module _ (file : List ℕ) where
  pub few_bytes : (s : Segment) → length (file_bytes_of file s) ≤ s.filesz
  unfolding bytes_at
  few_bytes s = few_of (leaves file s.offset s.filesz) s.filesz (drop s.offset file)

  -- each segment with bytes begins at this address or behind it
  abbrev BeginBehind : ℕ → List Segment → Type 0
  BeginBehind low loads = AllByRecursion (λ t. 0 < length (file_bytes_of file t) → low ≤ t.load_address) loads

  behind_none : (loads : List Segment) → BeginBehind 0 loads
  behind_none [] = tt
  behind_none (t ∷ loads) = (λ some. omega arith, behind_none loads)

  begins_behind : (s : Segment) → 0 < length (file_bytes_of file s) → (t : Segment) → loads_meet s t ≡ false → s.load_address ≤ t.load_address → 0 < length (file_bytes_of file t) → s.load_address + length (file_bytes_of file s) ≤ t.load_address
  begins_behind s some t apart order other =
      elim (cases_lt t.load_address (s.load_address + length (file_bytes_of file s))) [
        | inl less ↦ absurd (cc (meets_from s.load_address s.filesz t.load_address t.filesz (omega (arith, few_bytes s)) (omega (arith, few_bytes t)) (omega (arith, few_bytes t)) (omega (arith, few_bytes s)), apart))
        | inr behind ↦ behind
      ]

  loaded_ascends : (low : ℕ) (loads : List Segment) → IsDistinct loads_meet loads → IsNonDecreasingBy (λ s. s.load_address) loads → BeginBehind low loads → AscendsFrom low (bytes_of (ranges_of file loads))
  loaded_ascends low [] apart ascending behind = tt
  loaded_ascends low (s ∷ loads) apart ascending behind =
      by_bytes (λ from begin. loaded_ascends from loads (IsDistinct-tail loads_meet s loads apart) tail begin) (file_bytes_of file s) refl
    where
      tail : IsNonDecreasingBy (λ s. s.load_address) loads
      tail i j d order within = ascending (suc i) (suc j) d (omega arith) (omega arith)

      above : AllByRecursion (λ t. s.load_address ≤ t.load_address) loads
      above = recursion_from_All (λ t. s.load_address ≤ t.load_address) loads (λ k d within. ascending 0 (suc k) d (omega arith) (omega arith))

      by_bytes : ((from : ℕ) → BeginBehind from loads → AscendsFrom from (bytes_of (ranges_of file loads))) → (bytes : List ℕ) → file_bytes_of file s ≡ bytes → AscendsFrom low (placed s.load_address (file_bytes_of file s) ++ bytes_of (ranges_of file loads))
      by_bytes rest [] is = rw is (rest low behind.1)
      by_bytes rest (byte ∷ bytes) is =
          let some : 0 < length (file_bytes_of file s) = rw is (omega arith) in
          placed_then low s.load_address (file_bytes_of file s) (bytes_of (ranges_of file loads)) (behind.0 some)
          (rest (s.load_address + length (file_bytes_of file s))
          (all_both (λ t. loads_meet s t ≡ false) (λ t. s.load_address ≤ t.load_address) (λ t. 0 < length (file_bytes_of file t) → s.load_address + length (file_bytes_of file s) ≤ t.load_address) (begins_behind s some) loads
          (IsDistinct-head loads_meet s loads apart) above))

  -- what is loaded, segment by segment
  has_loaded : (loads : List Segment) (entry : ℕ × ℕ) → Has entry (bytes_of (ranges_of file loads)) → (s : Segment) × Has s loads × Has entry (placed s.load_address (file_bytes_of file s))
  has_loaded [] entry has = absurd has
  has_loaded (s ∷ loads) entry has =
      elim (has_split (placed s.load_address (file_bytes_of file s)) (bytes_of (ranges_of file loads)) entry has) [
        | inl here ↦ (s, inl refl, here)
        | inr later ↦ let found = has_loaded loads entry later in (found.0, inr found.1, found.2)
      ]

  loaded_had : (loads : List Segment) (s : Segment) (entry : ℕ × ℕ) → Has s loads → Has entry (placed s.load_address (file_bytes_of file s)) → Has entry (bytes_of (ranges_of file loads))
  loaded_had [] s entry among has = absurd among
  loaded_had (t ∷ loads) s entry (inl is) has =
      let H : Segment → Type 0 = λ x. Has entry (placed x.load_address (file_bytes_of file x)) in
      has_front (placed t.load_address (file_bytes_of file t)) (bytes_of (ranges_of file loads)) entry (subst H (sym is) has)
  loaded_had (t ∷ loads) s entry (inr later) has =
      has_back (placed t.load_address (file_bytes_of file t)) (bytes_of (ranges_of file loads)) entry (loaded_had loads s entry later has)

  -- the bytes of the segments from one on
  pub ranges_split : (loads : List Segment) (index : ℕ) (d : Segment) → index < length loads → bytes_of (ranges_of file loads) ≡ bytes_of (ranges_of file (take index loads)) ++ (placed (get_or loads index d).load_address (file_bytes_of file (get_or loads index d)) ++ bytes_of (ranges_of file (drop (suc index) loads)))
  ranges_split [] index d within = absurd (omega arith)
  ranges_split (s ∷ loads) zero d within = refl
  ranges_split (s ∷ loads) (suc index) d within =
      ap (λ rest. placed s.load_address (file_bytes_of file s) ++ rest) (ranges_split loads index d (omega arith))
      ∙ sym (append_assoc (placed s.load_address (file_bytes_of file s)) (bytes_of (ranges_of file (take index loads))) (placed (get_or loads index d).load_address (file_bytes_of file (get_or loads index d)) ++ bytes_of (ranges_of file (drop (suc index) loads))))

  module _ (accepted : file_refusal_of file ≡ None) (loads : List Segment) (are : AreLoads file loads) where
    pub loads_ascend : AscendsFrom 0 (bytes_of (ranges_of file loads))
    loads_ascend = loaded_ascends 0 loads (loads_distinct file accepted loads are) are.ascending (behind_none loads)

    is_loaded : (entry : ℕ × ℕ) → Has entry (bytes_of (ranges_of file loads)) → IsLoaded file entry
    is_loaded entry has =
        let found = has_loaded loads entry has in
        (found.0, Contains-permutation loads (segments_of file) found.0 (IsPermutation-sym (segments_of file) loads are.all) (contains_had loads found.0 found.1), contains_had (placed found.0.load_address (file_bytes_of file found.0)) entry found.2)

    has_all : (entry : ℕ × ℕ) → IsLoaded file entry → Has entry (bytes_of (ranges_of file loads))
    has_all entry loaded =
        loaded_had loads loaded.0 entry (has_contained loads loaded.0 (Contains-permutation (segments_of file) loads loaded.0 are.all loaded.1))
        (has_contained (placed loaded.0.load_address (file_bytes_of file loaded.0)) entry loaded.2)

    pub loads_are_flash : IsFlash file (bytes_of (ranges_of file loads))
    loads_are_flash = record {
      ascending = ascends_sorted 0 (bytes_of (ranges_of file loads)) loads_ascend;
      each = λ entry. (
        λ there. is_loaded entry (has_contained (bytes_of (ranges_of file loads)) entry there),
        λ loaded. contains_had (bytes_of (ranges_of file loads)) entry (has_all entry loaded),
      );
    }

    pub one_flash : (bytes : List (ℕ × ℕ)) → IsFlash file bytes → bytes ≡ bytes_of (ranges_of file loads)
    one_flash bytes flash =
        same_entries 0 0 bytes (bytes_of (ranges_of file loads)) (sorted_ascends bytes flash.ascending) loads_ascend
        (λ e has. has_all e ((flash.each e).0 (contains_had bytes e has)))
        (λ e has. has_contained bytes e ((flash.each e).1 (is_loaded e has)))

    -- a meaning is that of the file exactly where it has these bytes and the entry
    pub flash_from : (m : HexMeaning) → m.bytes ≡ bytes_of (ranges_of file loads) → m.start ≡ Some (entry_of file) → IsFlashOf file m
    flash_from m bytes start =
        let F : List (ℕ × ℕ) → Type 0 = IsFlash file in
        record { flash = subst F (sym bytes) loads_are_flash; entry = start }
