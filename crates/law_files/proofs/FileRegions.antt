-- The memory of a file as the regions of its segments: which cell stands at an address of a segment.
use Rattle.std.proofs.Common.{◌≡◌, ◌≢◌, inl, inr, ℕ, zero, suc, ◌+◌, ◌-◌, ◌≤◌, ◌<◌, nat_le, nat_lt, nat_eq, Bool, true, false, ◌||◌, List, [], ◌∷◌, ◌++◌, length, Option, Some, None, is_some, slice_get, if◌then◌else◌, refl, ap, ◌∙◌, subst, arith}
use Rattle.std.proofs.lemmas.Bool.{cases_lt, and_parts, or_parts}
use Rattle.std.proofs.lemmas.Bool.Decides.{nat_tests}
use Rattle.std.proofs.lemmas.Option.{slice_get_past}
use Rattle.sq_num.specs.Refusals.{first_from}
use Rattle.sq_memory.specs.Cells.{Agree}
use Rattle.sq_memory.specs.Regions.{Region, region_cell, or_else, get}
use Rattle.sq_elf.specs.declared.segment.Segment.{Segment}
use Rattle.sq_elf.specs.Headers.{phnum_of, is_load, segment_of}
use Rattle.sq_elf.specs.Ranges.{meets}
use Rattle.sq_elf.specs.Segments.{copy_size, meets_copy, overlaps, overlaps_at, is_overlapping}
use Rattle.sq_elf.specs.Memory.{has_memory}
use Rattle.sq_elf.specs.Refusing.{bad_segment, segment_kind, segment_overlap, file_refusal_of}
use Rattle.sq_elf.proofs.Accepted.{segments_accepted}
use Rattle.sq_elf.proofs.Passing.{passes_from, row_passes, behind_row}
use Rattle.sq_elf.proofs.TextFacts.{second_false}
use Rattle.law_files.proofs.FileBytes.{lt_is}

-- REGIONS

module _ {C : Type 0} where
  or_before : (o p q : Option C) → or_else o (or_else p q) ≡ or_else (or_else o p) q
  or_before None p q = refl
  or_before (Some c) p q = refl

  pub get_append : (rs more : List (Region C)) (x : ℕ) → get (rs ++ more) x ≡ or_else (get rs x) (get more x)
  get_append [] more x = refl
  get_append (r ∷ rs) more x = ap (or_else (region_cell r x)) (get_append rs more x) ∙ or_before (region_cell r x) (get rs x) (get more x)

  -- no cell of the region stands outside it
  pub none_outside : (r : Region C) (x : ℕ) → (r.start ≤ x → x < r.start + length r.cells → ⊥) → region_cell r x ≡ None
  none_outside r x out = go (nat_le r.start x) refl
    where
      go : (b : Bool) → nat_le r.start x ≡ b → (if b then slice_get r.cells (x - r.start) else None) ≡ None
      go false e = refl
      go true e =
          let low : r.start ≤ x = grind (arith, nat_tests) in
          elim (cases_lt x (r.start + length r.cells)) [ inl less ↦ absurd (out low less) | inr more ↦ slice_get_past r.cells (x - r.start) (omega (arith, low, more)) ]

  pub cell_inside : (r : Region C) (i : ℕ) → region_cell r (r.start + i) ≡ slice_get r.cells i
  cell_inside r i =
      let low : nat_le r.start (r.start + i) ≡ true = grind (arith, nat_tests) in
      let same : r.start + i - r.start ≡ i = omega arith in
      rw low (ap (slice_get r.cells) same)

-- a region, and another one where there is a second
abbrev pub two : {C : Type 0} → Bool → Region C → Region C → List (Region C)
two second own copy = own ∷ (if second then copy ∷ [] else [])

module _ {C : Type 0} (own copy : Region C) (x : ℕ) where
  two_none : (b : Bool) → region_cell own x ≡ None → (b ≡ true → region_cell copy x ≡ None) → get (two b own copy) x ≡ None
  two_none false e f = rw e refl
  two_none true e f = rw (e, f refl) refl

  two_some : (b : Bool) (c : C) → region_cell own x ≡ Some c → get (two b own copy) x ≡ Some c
  two_some b c e = rw e refl

module _ {C D : Type 0} (R : C → D → Type 0) where
  pub or_agree : (o p : Option C) (q r : Option D) → Agree R o q → Agree R p r → Agree R (or_else o p) (or_else q r)
  or_agree None p None r a b = b
  or_agree None p (Some d) r a b = absurd a
  or_agree (Some c) p None r a b = absurd a
  or_agree (Some c) p (Some d) r a b = a

  two_agree : (own copy : Region C) (other image : Region D) (x : ℕ) (b : Bool) → Agree R (region_cell own x) (region_cell other x) → (b ≡ true → Agree R (region_cell copy x) (region_cell image x)) → Agree R (get (two b own copy) x) (get (two b other image) x)
  two_agree own copy other image x false a c = or_agree (region_cell own x) None (region_cell other x) None a tt
  two_agree own copy other image x true a c =
      or_agree (region_cell own x) (or_else (region_cell copy x) None) (region_cell other x) (or_else (region_cell image x) None) a
      (or_agree (region_cell copy x) None (region_cell image x) None (c refl) tt)

-- SEGMENTS

module _ {C : Type 0} (bytes : List ℕ) (own copy : Segment → Region C) where
  abbrev pub segment_regions : Segment → List (Region C)
  segment_regions s = two (nat_lt 0 (copy_size s)) (own s) (copy s)

  -- the regions of the first so many program headers
  abbrev pub regions_before : ℕ → List (Region C)
  regions_before zero = []
  regions_before (suc count) =
      if has_memory bytes count then regions_before count ++ segment_regions (segment_of bytes count) else regions_before count

  -- a segment's regions have no cell there
  IsAway : ℕ → ℕ → Type 0
  IsAway x k = get (segment_regions (segment_of bytes k)) x ≡ None

  away : (x count : ℕ) → ((k : ℕ) → k < count → has_memory bytes k ≡ true → IsAway x k) → get (regions_before count) x ≡ None
  unfolding IsAway
  away x zero h = refl
  away x (suc count) h = go (has_memory bytes count) refl (away x count (λ k less has. h k (omega (arith, less)) has))
    where
      go : (b : Bool) → has_memory bytes count ≡ b → get (regions_before count) x ≡ None → get (if b then regions_before count ++ segment_regions (segment_of bytes count) else regions_before count) x ≡ None
      go false e none = none
      go true e none =
          let here : get (segment_regions (segment_of bytes count)) x ≡ None = h count (omega arith) e in
          get_append (regions_before count) (segment_regions (segment_of bytes count)) x ∙ rw (none, here) refl

  found : (x index count : ℕ) (c : C) → index < count → has_memory bytes index ≡ true → get (segment_regions (segment_of bytes index)) x ≡ Some c → ((k : ℕ) → k < count → k ≢ index → has_memory bytes k ≡ true → IsAway x k) → get (regions_before count) x ≡ Some c
  unfolding IsAway
  found x index zero c less has here others = absurd (omega (arith, less))
  found x index (suc count) c less has here others =
      elim (cases_lt index count) [ inl before ↦ earlier (found x index count c before has here (λ k smaller other. others k (omega (arith, smaller)) other)) | inr behind ↦ (let same : index ≡ count = omega (arith, less, behind) in last same) ]
    where
      earlier : get (regions_before count) x ≡ Some c → get (regions_before (suc count)) x ≡ Some c
      earlier some = go (has_memory bytes count)
        where
          go : (b : Bool) → get (if b then regions_before count ++ segment_regions (segment_of bytes count) else regions_before count) x ≡ Some c
          go false = some
          go true = get_append (regions_before count) (segment_regions (segment_of bytes count)) x ∙ rw some refl

      last : index ≡ count → get (regions_before (suc count)) x ≡ Some c
      last same =
          let there : has_memory bytes count ≡ true = subst (λ k. has_memory bytes k ≡ true) same has in
          let some : get (segment_regions (segment_of bytes count)) x ≡ Some c = subst (λ k. get (segment_regions (segment_of bytes k)) x ≡ Some c) same here in
          let none : get (regions_before count) x ≡ None = away x count (λ k smaller. others k (omega (arith, smaller)) (λ e. let f : k ≡ index = e in omega (arith, f, same, smaller))) in
          rw there (get_append (regions_before count) (segment_regions (segment_of bytes count)) x ∙ rw (none, some) refl)

module _ {C D : Type 0} (R : C → D → Type 0) (bytes : List ℕ) (own copy : Segment → Region C) (other image : Segment → Region D) (x : ℕ) where
  abbrev ours : ℕ → List (Region C)
  ours k = segment_regions bytes own copy (segment_of bytes k)

  abbrev theirs : ℕ → List (Region D)
  theirs k = segment_regions bytes other image (segment_of bytes k)

  pub before_agree : (count : ℕ) → ((k : ℕ) → k < count → has_memory bytes k ≡ true → Agree R (region_cell (own (segment_of bytes k)) x) (region_cell (other (segment_of bytes k)) x)) → ((k : ℕ) → k < count → has_memory bytes k ≡ true → Agree R (region_cell (copy (segment_of bytes k)) x) (region_cell (image (segment_of bytes k)) x)) → Agree R (get (regions_before bytes own copy count) x) (get (regions_before bytes other image count) x)
  before_agree zero f g = tt
  before_agree (suc count) f g =
      go (has_memory bytes count) refl (before_agree count (λ k less. f k (omega (arith, less))) (λ k less. g k (omega (arith, less))))
    where
      here : has_memory bytes count ≡ true → Agree R (get (ours count) x) (get (theirs count) x)
      here has =
          let s : Segment = segment_of bytes count in
          two_agree R (own s) (copy s) (other s) (image s) x (nat_lt 0 (copy_size s)) (f count (omega arith) has) (λ e. g count (omega arith) has)

      go : (b : Bool) → has_memory bytes count ≡ b → Agree R (get (regions_before bytes own copy count) x) (get (regions_before bytes other image count) x) → Agree R (get (if b then regions_before bytes own copy count ++ ours count else regions_before bytes own copy count) x) (get (if b then regions_before bytes other image count ++ theirs count else regions_before bytes other image count) x)
      go false e a = a
      go true e a =
          rw (get_append (regions_before bytes own copy count) (ours count) x, get_append (regions_before bytes other image count) (theirs count) x)
          (or_agree R (get (regions_before bytes own copy count) x) (get (ours count) x) (get (regions_before bytes other image count) x) (get (theirs count) x) a (here e))

-- NO TWO SEGMENTS MEET

-- the byte at x is one of so many from an address on
pub record IsAt (x address size : ℕ) : Type 0 where
  pub from : address ≤ x
  pub below : x < address + size

both_in : (a size b other x : ℕ) → meets a size b other ≡ false → IsAt x a size → IsAt x b other → ⊥
both_in a size b other x e f g =
    let low = f.from in
    let high = f.below in
    let least = g.from in
    let most = g.below in
    let yes : meets a size b other ≡ true = rw (lt_is 0 size (omega arith), lt_is 0 other (omega arith), lt_is a (b + other) (omega arith), lt_is b (a + size) (omega arith)) refl in
    cc (e, yes)

none_there : (o : Option ℕ) → is_some o ≡ false → o ≡ None
none_there None e = refl
none_there (Some k) e = absurd (cc)

module _ (bytes : List ℕ) (accepted : file_refusal_of bytes ≡ None) where
  no_overlap : (k : ℕ) → k < phnum_of bytes → is_overlapping bytes k ≡ false
  no_overlap =
      row_passes (segment_overlap bytes) []
      (behind_row (segment_kind bytes) (segment_overlap bytes ∷ [])
      (behind_row (bad_segment bytes) (segment_kind bytes ∷ segment_overlap bytes ∷ []) (segments_accepted bytes accepted)))

  tests : (k : ℕ) → k < phnum_of bytes → is_load bytes k ≡ true → (meets_copy (segment_of bytes k) (segment_of bytes k) ≡ false) × (is_some (first_from (overlaps_at bytes k) 0 k) ≡ false)
  tests k within load =
      or_parts (meets_copy (segment_of bytes k) (segment_of bytes k)) (is_some (first_from (overlaps_at bytes k) 0 k))
      (second_false (is_load bytes k) (meets_copy (segment_of bytes k) (segment_of bytes k) || is_some (first_from (overlaps_at bytes k) 0 k)) (no_overlap k within) load)

  earlier_apart : (k j : ℕ) → k < phnum_of bytes → is_load bytes k ≡ true → j < k → is_load bytes j ≡ true → overlaps (segment_of bytes k) (segment_of bytes j) ≡ false
  earlier_apart k j within load less other =
      second_false (is_load bytes j) (overlaps (segment_of bytes k) (segment_of bytes j))
      (passes_from (overlaps_at bytes k) 0 k j (none_there (first_from (overlaps_at bytes k) 0 k) (tests k within load).1) (omega arith) (omega (arith, less))) other

  -- the parts of an overlap of two that there isn't
  record AreFree (s other : Segment) : Type 0 where
    own : meets s.address s.memsz other.address other.memsz ≡ false
    copy : meets_copy s other ≡ false
    back : meets_copy other s ≡ false

  free : (s other : Segment) → overlaps s other ≡ false → AreFree s other
  free s other e =
      let all = or_parts (meets s.address s.memsz other.address other.memsz || meets_copy s other || meets_copy other s) (meets s.load_address (copy_size s) other.load_address (copy_size other)) e in
      let three = or_parts (meets s.address s.memsz other.address other.memsz || meets_copy s other) (meets_copy other s) all.0 in
      let own = or_parts (meets s.address s.memsz other.address other.memsz) (meets_copy s other) three.0 in
      record { own = own.0; copy = own.1; back = three.1 }

  module _ (index : ℕ) (within : index < phnum_of bytes) (load : is_load bytes index ≡ true) (x : ℕ) (inside : IsAt x (segment_of bytes index).address (segment_of bytes index).memsz) where
    abbrev segment : Segment
    segment = segment_of bytes index

    -- no other segment has the byte
    pub alone : (k : ℕ) → k < phnum_of bytes → is_load bytes k ≡ true → k ≢ index → IsAt x (segment_of bytes k).address (segment_of bytes k).memsz → ⊥
    alone k below other differ at =
        let s : Segment = segment_of bytes k in
        elim (cases_lt k index) [ inl less ↦ both_in segment.address segment.memsz s.address s.memsz x (free segment s (earlier_apart index k within load less other)).own inside at | inr more ↦ both_in s.address s.memsz segment.address segment.memsz x (free s segment (earlier_apart k index below other (omega (arith, more, differ)) load)).own at inside ]

    -- and no load copy
    pub no_copy : (k : ℕ) → k < phnum_of bytes → is_load bytes k ≡ true → IsAt x (segment_of bytes k).load_address (copy_size (segment_of bytes k)) → ⊥
    no_copy k below other at =
        let s : Segment = segment_of bytes k in
        elim (cases_lt k index) [ inl less ↦ by_copy s (free segment s (earlier_apart index k within load less other)).copy at | inr more ↦ elim (cases_lt index k) [ inl less ↦ by_copy s (free s segment (earlier_apart k index below other less load)).back at | inr most ↦ (let same : index ≡ k = omega (arith, more, most) in by_copy s (subst (λ j. meets_copy segment (segment_of bytes j) ≡ false) same (tests index within load).0) at) ] ]
      where
        by_copy : (s : Segment) → meets_copy segment s ≡ false → IsAt x s.load_address (copy_size s) → ⊥
        by_copy s e at = both_in segment.address segment.memsz s.load_address (copy_size s) x e inside at

-- THE CELL AT A BYTE OF A SEGMENT

-- each region stands where its segment says, with as many cells
pub record AreSized {C : Type 0} (bytes : List ℕ) (own copy : Segment → Region C) : Type 0 where
  pub own_start : (s : Segment) → (own s).start ≡ s.address
  pub copy_start : (s : Segment) → (copy s).start ≡ s.load_address
  pub own_length : (k : ℕ) → k < phnum_of bytes → is_load bytes k ≡ true → length (own (segment_of bytes k)).cells ≡ (segment_of bytes k).memsz
  pub copy_length : (k : ℕ) → k < phnum_of bytes → is_load bytes k ≡ true → length (copy (segment_of bytes k)).cells ≡ (segment_of bytes k).filesz

pub copy_whole : (s : Segment) → nat_lt 0 (copy_size s) ≡ true → copy_size s ≡ s.filesz
copy_whole s some = go (nat_eq s.load_address s.address) some
  where
    go : (b : Bool) → nat_lt 0 (if b then 0 else s.filesz) ≡ true → (if b then 0 else s.filesz) ≡ s.filesz
    go false e = refl
    go true e = absurd (cc)

pub loaded : (bytes : List ℕ) (k : ℕ) → has_memory bytes k ≡ true → is_load bytes k ≡ true
loaded bytes k has = (and_parts (is_load bytes k) (nat_lt 0 (segment_of bytes k).memsz) has).0

module _ {C : Type 0} (bytes : List ℕ) (accepted : file_refusal_of bytes ≡ None) (own copy : Segment → Region C) (sized : AreSized bytes own copy) where
  module _ (index i : ℕ) (within : index < phnum_of bytes) (has : has_memory bytes index ≡ true) (small : i < (segment_of bytes index).memsz) where
    abbrev place : ℕ
    place = (segment_of bytes index).address + i

    in_segment : IsAt place (segment_of bytes index).address (segment_of bytes index).memsz
    in_segment = record { from = omega arith; below = omega (arith, small) }

    not_own : (k : ℕ) → k < phnum_of bytes → k ≢ index → has_memory bytes k ≡ true → (own (segment_of bytes k)).start ≤ place → place < (own (segment_of bytes k)).start + length (own (segment_of bytes k)).cells → ⊥
    not_own k below differ other low high =
        let start = sized.own_start (segment_of bytes k) in
        let size = sized.own_length k below (loaded bytes k other) in
        alone bytes accepted index within (loaded bytes index has) place in_segment k below (loaded bytes k other) differ
        (record { from = omega (arith, low, start); below = omega (arith, high, start, size) })

    not_copy : (k : ℕ) → k < phnum_of bytes → has_memory bytes k ≡ true → nat_lt 0 (copy_size (segment_of bytes k)) ≡ true → (copy (segment_of bytes k)).start ≤ place → place < (copy (segment_of bytes k)).start + length (copy (segment_of bytes k)).cells → ⊥
    not_copy k below other some low high =
        let start = sized.copy_start (segment_of bytes k) in
        let size = sized.copy_length k below (loaded bytes k other) in
        let whole = copy_whole (segment_of bytes k) some in
        no_copy bytes accepted index within (loaded bytes index has) place in_segment k below (loaded bytes k other)
        (record { from = omega (arith, low, start); below = omega (arith, high, start, size, whole) })

    others_away : (k : ℕ) → k < phnum_of bytes → k ≢ index → has_memory bytes k ≡ true → IsAway bytes own copy place k
    unfolding IsAway
    others_away k below differ other =
        let s : Segment = segment_of bytes k in
        two_none (own s) (copy s) place (nat_lt 0 (copy_size s)) (none_outside (own s) place (not_own k below differ other)) (λ some. none_outside (copy s) place (not_copy k below other some))

    -- the cell at byte i of a segment, in the memory of the file
    pub cell_at : (c : C) → slice_get (own (segment_of bytes index)).cells i ≡ Some c → get (regions_before bytes own copy (phnum_of bytes)) place ≡ Some c
    cell_at c cell =
        let s : Segment = segment_of bytes index in
        let here : region_cell (own s) place ≡ Some c = subst (λ a. region_cell (own s) (a + i) ≡ Some c) (sized.own_start s) (cell_inside (own s) i ∙ cell) in
        found bytes own copy place index (phnum_of bytes) c within has (two_some (own s) (copy s) place (nat_lt 0 (copy_size s)) c here) others_away
