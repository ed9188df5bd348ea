-- The cells of a segment, and the bytes of what is written of it before text and behind it.
use Rattle.std.proofs.Common.{◌≡◌, ◌≢◌, ◌⊎◌, inl, inr, ℕ, zero, suc, ◌+◌, ◌-◌, ◌%◌, ◌^◌, ◌<◌, ◌≤◌, nat_eq, nat_le, nat_lt, min, Bool, true, false, List, [], ◌∷◌, ◌++◌, length, map, take, drop, replicate, Option, Some, None, if◌then◌else◌, slice_get, refl, sym, ap, ◌∙◌, subst, arith, length-append}
use Rattle.std.specs.Option.{option_map}
use Rattle.std.proofs.lemmas.Bool.{cases_lt, eqb-true, eqb-false}
use Rattle.std.proofs.lemmas.Bool.Decides.{nat_tests}
use Rattle.std.proofs.lemmas.Option.{slice_get_within}
use Rattle.std.proofs.lemmas.List.{length-take, length-drop, length-replicate}
use Rattle.sq_elf.specs.declared.segment.Segment.{Segment}
use Rattle.sq_elf.specs.Segments.{copy_size}
use Rattle.sq_elf.specs.Memory.{MemoryPiece, file_bytes_of}
use Rattle.sq_elf.specs.Text.{text_of}
use Rattle.sq_write.specs.Output.{Piece}
use Rattle.sq_memory.specs.Regions.{Region, region_cell}
use Rattle.sq_reloc.specs.Outside.{word_start}
use Rattle.sq_write.specs.Pieces.{set_byte, with_words, without_x, part_of, part_before, part_behind, is_some_piece}
use Rattle.law_written.specs.Reading.{piece_image}
use Rattle.law_files.proofs.FileBytes.{le_is, lt_is, front_byte, taken_byte, dropped_byte, filled, filled_length}
use Rattle.law_written.proofs.Lists.{some_at}
use Rattle.law_written.proofs.Somewhere.{Somewhere, HasCell}

-- LISTS

pub ne_is : (a b : ℕ) → a ≢ b → nat_eq a b ≡ false
ne_is a b e = grind (arith, nat_tests)

pub ne_of : (a b : ℕ) → nat_eq a b ≡ false → a ≢ b
ne_of a b e = eqb-false a b e

pub eq_is : (a b : ℕ) → a ≡ b → nat_eq a b ≡ true
eq_is a b e = grind (arith, nat_tests)

back_get : {X : Type 0} (xs ys : List X) (i : ℕ) → length xs ≤ i → slice_get (xs ++ ys) i ≡ slice_get ys (i - length xs)
back_get [] ys i h = ap (slice_get ys) (omega arith)
back_get (x ∷ xs) ys zero h = absurd (omega (arith, h))
back_get (x ∷ xs) ys (suc i) h = back_get xs ys i (omega (arith, h)) ∙ ap (slice_get ys) (omega arith)

replicate_get : (n i : ℕ) → i < n → slice_get {X = ℕ} (replicate n 0) i ≡ Some 0
replicate_get zero i h = absurd (omega (arith, h))
replicate_get (suc n) zero h = refl
replicate_get (suc n) (suc i) h = replicate_get n i (omega (arith, h))

filled_zero : (n : ℕ) (xs : List ℕ) (i : ℕ) → length xs ≤ i → i < n → slice_get (filled n xs) i ≡ Some 0
filled_zero n xs i h l = back_get xs (replicate (n - length xs) 0) i h ∙ replicate_get (n - length xs) (i - length xs) (omega (arith, h, l))

some_same : {X : Type 0} {x y : X} → Some x ≡ Some y → x ≡ y
some_same e = cc

-- REGIONS

module _ {C : Type 0} where
  pub cell_in : (r : Region C) (x : ℕ) (c : C) → region_cell r x ≡ Some c → (r.start ≤ x) × (slice_get r.cells (x - r.start) ≡ Some c)
  cell_in r x c e = go (nat_le r.start x) refl e
    where
      go : (b : Bool) → nat_le r.start x ≡ b → (if b then slice_get r.cells (x - r.start) else None) ≡ Some c → (r.start ≤ x) × (slice_get r.cells (x - r.start) ≡ Some c)
      go false f e = absurd (cc)
      go true f e = (grind (arith, nat_tests), e)

  cell_at : (r : Region C) (x : ℕ) (c : C) → r.start ≤ x → slice_get r.cells (x - r.start) ≡ Some c → region_cell r x ≡ Some c
  cell_at r x c h e = let f = le_is r.start x h in rw f e

-- a piece of memory as a run starts with it
abbrev pub plain_region : MemoryPiece → Region ℕ
plain_region m = record { start = m.address; cells = take m.length m.bytes ++ replicate (m.length - length m.bytes) 0 }

set_get : (set : ℕ → Option ℕ) (x : ℕ) (bs : List ℕ) (i : ℕ) → slice_get (with_words set x bs) i ≡ option_map (λ b. set_byte (set (word_start (x + i))) ((x + i) % 4) b) (slice_get bs i)
set_get set x [] i = refl
set_get set x (b ∷ bs) zero = let same : x ≡ x + 0 = omega arith in ap (λ y. Some (set_byte (set (word_start y)) (y % 4) b)) same
set_get set x (b ∷ bs) (suc i) =
    let same : (x + 1) + i ≡ x + suc i = omega arith in
    set_get set (x + 1) bs i ∙ ap (λ y. option_map (λ b. set_byte (set (word_start y)) (y % 4) b) (slice_get bs i)) same

set_length : (set : ℕ → Option ℕ) (x : ℕ) (bs : List ℕ) → length (with_words set x bs) ≡ length bs
set_length set x [] = refl
set_length set x (b ∷ bs) = ap suc (set_length set (x + 1) bs)

-- CELLS OF BYTES

module _ {C : Type 0} (cell : ℕ → ℕ → C) where
  -- the cells of bytes that stand from an address on
  abbrev pub tagged : ℕ → List ℕ → List C
  tagged x [] = []
  tagged x (b ∷ bs) = cell x b ∷ tagged (x + 1) bs

  tagged_get : (x : ℕ) (bs : List ℕ) (i : ℕ) → slice_get (tagged x bs) i ≡ option_map (cell (x + i)) (slice_get bs i)
  tagged_get x [] i = refl
  tagged_get x (b ∷ bs) zero = let same : x ≡ x + 0 = omega arith in ap (λ y. Some (cell y b)) same
  tagged_get x (b ∷ bs) (suc i) =
      let same : (x + 1) + i ≡ x + suc i = omega arith in
      tagged_get (x + 1) bs i ∙ ap (λ y. option_map (cell y) (slice_get bs i)) same

  pub tagged_length : (x : ℕ) (bs : List ℕ) → length (tagged x bs) ≡ length bs
  tagged_length x [] = refl
  tagged_length x (b ∷ bs) = ap suc (tagged_length (x + 1) bs)

-- the byte at x is one of this piece, which isn't empty, or of its load copy
abbrev pub Has : ℕ → ℕ → Piece → Type 0
Has x d p = (is_some_piece p ≡ true) × Somewhere (HasCell x d) (map plain_region (piece_image p))

-- how a segment stands to text: it holds it and is loaded where it stands, or is before it, or behind it
pub data Around (lo hi : ℕ) (s : Segment) : Type 0 where
  holds : s.load_address ≡ s.address → s.address ≤ lo → hi ≤ s.address + s.memsz → Around lo hi s
  before : s.address + s.memsz ≤ lo → Around lo hi s
  behind : hi ≤ s.address → Around lo hi s

module _ {C : Type 0} (R : C → ℕ → Type 0) (cell : ℕ → ℕ → C) (bytes : List ℕ) (set : ℕ → Option ℕ) (some_text : (text_of bytes).lo < (text_of bytes).hi) where
  -- what is known of each segment: its sizes, how it and its load copy stand to text, and how its cells erase
  pub record IsKept (s : Segment) : Type 0 where
    pub stored : length (file_bytes_of bytes s) ≡ s.filesz
    pub whole : s.filesz ≤ s.memsz
    pub fits : s.address + s.memsz ≤ 2 ^ 32
    pub loads : s.load_address + s.filesz ≤ 2 ^ 32
    pub around : Around (text_of bytes).lo (text_of bytes).hi s
    pub apart : (x : ℕ) → (text_of bytes).lo ≤ x → x < (text_of bytes).hi → s.load_address ≤ x → x < s.load_address + copy_size s → ⊥
    pub byte : (i b : ℕ) → slice_get (file_bytes_of bytes s) i ≡ Some b → R (cell (s.address + i) b) (set_byte (set (word_start (s.address + i))) ((s.address + i) % 4) b)
    pub nought : (i : ℕ) → s.filesz ≤ i → i < s.memsz → R (cell (s.address + i) 0) 0

  abbrev pub own_region : Segment → Region C
  own_region s = record { start = s.address; cells = tagged cell s.address (filled s.memsz (file_bytes_of bytes s)) }

  abbrev pub copy_region : Segment → Region C
  copy_region s = record { start = s.load_address; cells = tagged cell s.address (filled s.filesz (file_bytes_of bytes s)) }

  abbrev pub segment_regions : Segment → List (Region C)
  segment_regions s = own_region s ∷ (if nat_lt 0 (copy_size s) then copy_region s ∷ [] else [])

  module _ (s : Segment) (kept : IsKept s) where
    abbrev bs : List ℕ
    bs = file_bytes_of bytes s

    -- the bytes of a part
    abbrev pub ws : ℕ → ℕ → List ℕ
    ws skip size = with_words set (s.address + skip) (take size (drop skip bs))

    pub ws_length : (skip size : ℕ) → length (ws skip size) ≡ min size (s.filesz - skip)
    ws_length skip size =
        let stored = kept.stored in
        omega (arith, stored, set_length set (s.address + skip) (take size (drop skip bs)), length-take size (drop skip bs), length-drop skip bs)

    -- byte j of a part, and the cell of the segment
    values : (skip size len n j d : ℕ) → skip + len ≤ n → s.filesz ≤ n → n ≤ s.memsz → len ≤ size → slice_get (take len (ws skip size) ++ replicate (len - length (ws skip size)) 0) j ≡ Some d → (c : C) × (slice_get (tagged cell s.address (filled n bs)) (skip + j) ≡ Some c) × R c d
    values skip size len n j d room enough most few e = elim (cases_lt (skip + j) s.filesz) [ inl front ↦ of_file front | inr back ↦ of_zeros back ]
      where
        long : length (ws skip size) ≡ min size (s.filesz - skip)
        long = ws_length skip size

        taken : length (take len (ws skip size)) ≡ min len (length (ws skip size))
        taken = length-take len (ws skip size)

        inside : j < len
        inside =
            let h = slice_get_within (take len (ws skip size) ++ replicate (len - length (ws skip size)) 0) j d e in
            omega (arith, h, taken, length-append (take len (ws skip size)) (replicate (len - length (ws skip size)) 0), length-replicate {A = ℕ} (len - length (ws skip size)) 0)

        place : (s.address + skip) + j ≡ s.address + (skip + j)
        place = omega arith

        of_file : skip + j < s.filesz → (c : C) × (slice_get (tagged cell s.address (filled n bs)) (skip + j) ≡ Some c) × R c d
        of_file front =
            let stored = kept.stored in
            let l = long in
            let i = inside in
            let k = taken in
            let b = some_at bs (skip + j) (omega (arith, stored, front)) in
            let made : ℕ = set_byte (set (word_start (s.address + (skip + j)))) ((s.address + (skip + j)) % 4) b.0 in
            let byte : slice_get (take size (drop skip bs)) j ≡ Some b.0 = taken_byte size (drop skip bs) j (omega (arith, i, few)) ∙ dropped_byte skip bs j ∙ b.1 in
            let word : slice_get (ws skip size) j ≡ Some made =
            set_get set (s.address + skip) (take size (drop skip bs)) j ∙ ap (option_map (λ b. set_byte (set (word_start ((s.address + skip) + j))) (((s.address + skip) + j) % 4) b)) byte
            ∙ ap (λ y. Some (set_byte (set (word_start y)) (y % 4) b.0)) place in
            let here : slice_get (take len (ws skip size) ++ replicate (len - length (ws skip size)) 0) j ≡ Some made =
            front_byte (take len (ws skip size)) (replicate (len - length (ws skip size)) 0) j (omega (arith, k, l, i, front, few)) ∙ taken_byte len (ws skip size) j i ∙ word in
            let same : made ≡ d = some_same (sym here ∙ e) in (
              cell (s.address + (skip + j)) b.0,
              tagged_get cell s.address (filled n bs) (skip + j) ∙ ap (option_map (cell (s.address + (skip + j)))) (front_byte bs (replicate (n - length bs) 0) (skip + j) (omega (arith, stored, front)) ∙ b.1),
              subst (R (cell (s.address + (skip + j)) b.0)) same (kept.byte (skip + j) b.0 b.1),
            )

        of_zeros : s.filesz ≤ skip + j → (c : C) × (slice_get (tagged cell s.address (filled n bs)) (skip + j) ≡ Some c) × R c d
        of_zeros back =
            let stored = kept.stored in
            let l = long in
            let i = inside in
            let k = taken in
            let here : slice_get (take len (ws skip size) ++ replicate (len - length (ws skip size)) 0) j ≡ Some 0 =
            back_get (take len (ws skip size)) (replicate (len - length (ws skip size)) 0) j (omega (arith, k, l, back))
            ∙ replicate_get (len - length (ws skip size)) (j - length (take len (ws skip size))) (omega (arith, k, l, i, back)) in
            let same : 0 ≡ d = some_same (sym here ∙ e) in (
              cell (s.address + (skip + j)) 0,
              tagged_get cell s.address (filled n bs) (skip + j) ∙ ap (option_map (cell (s.address + (skip + j)))) (filled_zero n bs (skip + j) (omega (arith, stored, back)) (omega (arith, i, room))),
              subst (R (cell (s.address + (skip + j)) 0)) same (kept.nought (skip + j) back (omega (arith, i, room, most))),
            )

    abbrev Found : ℕ → ℕ → Type 0
    Found x d = (c : C) × Somewhere (HasCell x c) (segment_regions s) × R c d

    -- a byte of a part where it stands
    own_found : (skip size x d : ℕ) → skip + size ≤ s.memsz → HasCell x d (plain_region (record { address = s.address + skip; bytes = ws skip size; length = size; flags = 0 })) → Found x d
    own_found skip size x d room h =
        let whole = kept.whole in
        let at = cell_in (plain_region (record { address = s.address + skip; bytes = ws skip size; length = size; flags = 0 })) x d h in
        let j : ℕ = x - (s.address + skip) in
        let low = at.0 in
        let found = values skip size size s.memsz j d room whole (omega arith) (omega arith) at.1 in
        let same : skip + j ≡ x - s.address = omega (arith, low) in
        (found.0, inl (cell_at (own_region s) x found.0 (omega (arith, low)) (ap (slice_get (tagged cell s.address (filled s.memsz bs))) (sym same) ∙ found.1)), found.2)

    differ : (b : Bool) → nat_eq s.load_address s.address ≡ b → nat_eq ((s.load_address + 0) % 2 ^ 32) (s.address + 0) ≡ false → s.address < 2 ^ 32 → nat_eq s.load_address s.address ≡ false
    differ false g f small = g
    differ true g f small =
        let same : s.load_address ≡ s.address = eqb-true s.load_address s.address g in
        let yes : nat_eq ((s.load_address + 0) % 2 ^ 32) (s.address + 0) ≡ true = eq_is ((s.load_address + 0) % 2 ^ 32) (s.address + 0) (omega (arith, same, small)) in
        absurd (let no : true ≡ false = sym yes ∙ f in cc)

    -- a part that has a load copy
    pub copied : (size : ℕ) → nat_lt 0 (if nat_eq ((s.load_address + 0) % 2 ^ 32) (s.address + 0) then 0 else length (ws 0 size)) ≡ true → (nat_eq s.load_address s.address ≡ false) × (0 < length (ws 0 size))
    copied size e = go (nat_eq ((s.load_address + 0) % 2 ^ 32) (s.address + 0)) refl e
      where
        go : (b : Bool) → nat_eq ((s.load_address + 0) % 2 ^ 32) (s.address + 0) ≡ b → nat_lt 0 (if b then 0 else length (ws 0 size)) ≡ true → (nat_eq s.load_address s.address ≡ false) × (0 < length (ws 0 size))
        go true f e = absurd (cc)
        go false f e =
            let more : 0 < length (ws 0 size) = grind (arith, nat_tests) in
            let fits = kept.fits in
            let whole = kept.whole in
            let long = ws_length 0 size in
            (differ (nat_eq s.load_address s.address) refl f (omega (arith, fits, whole, long, more)), more)

    -- a byte of its load copy, which is that of the whole segment
    copy_found : (size x d : ℕ) → s.memsz ≤ size → nat_lt 0 (if nat_eq ((s.load_address + 0) % 2 ^ 32) (s.address + 0) then 0 else length (ws 0 size)) ≡ true → HasCell x d (plain_region (record { address = (s.load_address + 0) % 2 ^ 32; bytes = ws 0 size; length = length (ws 0 size); flags = 4 })) → Found x d
    copy_found size x d room some h =
        let whole = kept.whole in
        let loads = kept.loads in
        let fits = kept.fits in
        let long = ws_length 0 size in
        let at = cell_in (plain_region (record { address = (s.load_address + 0) % 2 ^ 32; bytes = ws 0 size; length = length (ws 0 size); flags = 4 })) x d h in
        let low = at.0 in
        let most : length (ws 0 size) ≡ s.filesz = omega (arith, long, whole, room) in
        let there = copied size some in
        let start : (s.load_address + 0) % 2 ^ 32 ≡ s.load_address = let more = there.1 in omega (arith, loads, most, more) in
        let j : ℕ = x - (s.load_address + 0) % 2 ^ 32 in
        let found = values 0 size (length (ws 0 size)) s.filesz j d (omega (arith, most)) (omega arith) whole (omega (arith, most, whole, room)) at.1 in
        let same : 0 + j ≡ x - s.load_address = omega (arith, start) in
        let copy : nat_lt 0 (copy_size s) ≡ true = let more = there.1 in let apart = there.0 in rw apart (lt_is 0 s.filesz (omega (arith, more, most))) in
        let moved : slice_get (tagged cell s.address (filled s.filesz bs)) (x - s.load_address) ≡ slice_get (tagged cell s.address (filled s.filesz bs)) (0 + j) = ap (slice_get (tagged cell s.address (filled s.filesz bs))) (sym same) in
        let here : HasCell x found.0 (copy_region s) = cell_at (copy_region s) x found.0 (omega (arith, low, start)) (moved ∙ found.1) in
        (found.0, inr (rw copy (inl here)), found.2)

    -- WHAT IS WRITTEN OF THE SEGMENT

    parts_found : (skip size x d : ℕ) → skip + size ≤ s.memsz → ((s.load_address + skip) % 2 ^ 32 ≢ s.address + skip → (skip ≡ 0) × (s.memsz ≤ size)) → Somewhere (HasCell x d) (map plain_region (piece_image (part_of bytes set skip size s))) → Found x d
    parts_found skip size x d room apart h = go (nat_lt 0 (if nat_eq ((s.load_address + skip) % 2 ^ 32) (s.address + skip) then 0 else length (ws skip size))) refl h
      where
        away : nat_lt 0 (if nat_eq ((s.load_address + skip) % 2 ^ 32) (s.address + skip) then 0 else length (ws skip size)) ≡ true → (s.load_address + skip) % 2 ^ 32 ≢ s.address + skip
        away e same = let f = eq_is ((s.load_address + skip) % 2 ^ 32) (s.address + skip) same in let g : nat_lt 0 0 ≡ true = rw f at e in absurd (cc)

        by_copy : (k : ℕ) → k ≡ 0 → s.memsz ≤ size → nat_lt 0 (if nat_eq ((s.load_address + k) % 2 ^ 32) (s.address + k) then 0 else length (ws k size)) ≡ true → HasCell x d (plain_region (record { address = (s.load_address + k) % 2 ^ 32; bytes = ws k size; length = length (ws k size); flags = 4 })) → Found x d
        by_copy k none most some h =
            subst (λ k. nat_lt 0 (if nat_eq ((s.load_address + k) % 2 ^ 32) (s.address + k) then 0 else length (ws k size)) ≡ true → HasCell x d (plain_region (record { address = (s.load_address + k) % 2 ^ 32; bytes = ws k size; length = length (ws k size); flags = 4 })) → Found x d) (sym none)
            (λ some h. copy_found size x d most some h) some h

        go : (b : Bool) → nat_lt 0 (if nat_eq ((s.load_address + skip) % 2 ^ 32) (s.address + skip) then 0 else length (ws skip size)) ≡ b → Somewhere (HasCell x d) (map plain_region (record { address = s.address + skip; bytes = ws skip size; length = size; flags = without_x s.flags } ∷ (if b then record { address = (s.load_address + skip) % 2 ^ 32; bytes = ws skip size; length = length (ws skip size); flags = 4 } ∷ [] else []))) → Found x d
        go b e (inl h) = own_found skip size x d room h
        go false e (inr h) = absurd h
        go true e (inr (inl h)) = let a = apart (away e) in by_copy skip a.0 a.1 e h
        go true e (inr (inr h)) = absurd h

    size_some : (p : Piece) → is_some_piece p ≡ true → 0 < p.size
    size_some p e = grind (arith, nat_tests)

    -- a part with a load copy is the whole segment
    pub whole_before : is_some_piece (part_before bytes set s) ≡ true → (s.load_address + 0) % 2 ^ 32 ≢ s.address + 0 → (◌≡◌ {A = ℕ} 0 0) × (s.memsz ≤ min s.memsz ((text_of bytes).lo - s.address))
    whole_before e apart = go kept.around
      where
        some : 0 < min s.memsz ((text_of bytes).lo - s.address)
        some = size_some (part_before bytes set s) e

        go : Around (text_of bytes).lo (text_of bytes).hi s → (◌≡◌ {A = ℕ} 0 0) × (s.memsz ≤ min s.memsz ((text_of bytes).lo - s.address))
        go (holds same low high) = let fits = kept.fits in absurd (apart (omega (arith, same, fits, some)))
        go (before end) = (refl, omega (arith, end))
        go (behind end) = (refl, omega (arith, some, end, some_text))

    pub before_found : (x d : ℕ) → Has x d (part_before bytes set s) → Found x d
    before_found x d h = parts_found 0 (min s.memsz ((text_of bytes).lo - s.address)) x d (omega arith) (whole_before h.0) h.1

    pub whole_behind : is_some_piece (part_behind bytes set s) ≡ true → (s.load_address + ((text_of bytes).hi - s.address)) % 2 ^ 32 ≢ s.address + ((text_of bytes).hi - s.address) → (((text_of bytes).hi - s.address) ≡ 0) × (s.memsz ≤ s.memsz - ((text_of bytes).hi - s.address))
    whole_behind e apart = go kept.around
      where
        some : 0 < s.memsz - ((text_of bytes).hi - s.address)
        some = size_some (part_behind bytes set s) e

        go : Around (text_of bytes).lo (text_of bytes).hi s → (((text_of bytes).hi - s.address) ≡ 0) × (s.memsz ≤ s.memsz - ((text_of bytes).hi - s.address))
        go (holds same low high) = let fits = kept.fits in absurd (apart (omega (arith, same, fits, some)))
        go (before end) = absurd (omega (arith, end, some, some_text))
        go (behind end) = (omega (arith, end), omega (arith, end))

    pub behind_found : (x d : ℕ) → Has x d (part_behind bytes set s) → Found x d
    behind_found x d h =
        let some = size_some (part_behind bytes set s) h.0 in
        parts_found ((text_of bytes).hi - s.address) (s.memsz - ((text_of bytes).hi - s.address)) x d (omega (arith, some)) (whole_behind h.0) h.1

    -- EACH BYTE AROUND TEXT IS WRITTEN

    -- a byte of the segment where it stands
    own_written : (skip size x : ℕ) → s.address + skip ≤ x → x < s.address + skip + size → (d : ℕ) × Has x d (part_of bytes set skip size s)
    own_written skip size x low high =
        let region : Region ℕ = plain_region (record { address = s.address + skip; bytes = ws skip size; length = size; flags = without_x s.flags }) in
        let taken = length-take size (ws skip size) in
        let few = ws_length skip size in
        let long : length (take size (ws skip size) ++ replicate (size - length (ws skip size)) 0) ≡ size = omega (arith, taken, few, length-append (take size (ws skip size)) (replicate (size - length (ws skip size)) 0), length-replicate {A = ℕ} (size - length (ws skip size)) 0) in
        let there = some_at (take size (ws skip size) ++ replicate (size - length (ws skip size)) 0) (x - (s.address + skip)) (omega (arith, low, high, long)) in
        (there.0, (lt_is 0 size (omega (arith, low, high)), inl (cell_at region x there.0 low there.1)))

    -- and one of its load copy
    copy_written : (skip size x : ℕ) → skip ≡ 0 → size ≡ s.memsz → nat_eq s.load_address s.address ≡ false → s.load_address ≤ x → x < s.load_address + s.filesz → (d : ℕ) × Has x d (part_of bytes set skip size s)
    copy_written skip size x none all apart low high =
        subst (λ k. (d : ℕ) × Has x d (part_of bytes set k size s)) (sym none)
        (subst (λ n. (d : ℕ) × Has x d (part_of bytes set 0 n s)) (sym all) here)
      where
        here : (d : ℕ) × Has x d (part_of bytes set 0 s.memsz s)
        here =
            let whole = kept.whole in
            let loads = kept.loads in
            let few = ws_length 0 s.memsz in
            let long : length (ws 0 s.memsz) ≡ s.filesz = omega (arith, few, whole) in
            let start : (s.load_address + 0) % 2 ^ 32 ≡ s.load_address = omega (arith, loads, low, high) in
            let taken = length-take (length (ws 0 s.memsz)) (ws 0 s.memsz) in
            let size_is : length (take (length (ws 0 s.memsz)) (ws 0 s.memsz) ++ replicate (length (ws 0 s.memsz) - length (ws 0 s.memsz)) 0) ≡ s.filesz =
            omega (arith, taken, long, length-append (take (length (ws 0 s.memsz)) (ws 0 s.memsz)) (replicate (length (ws 0 s.memsz) - length (ws 0 s.memsz)) 0), length-replicate {A = ℕ} (length (ws 0 s.memsz) - length (ws 0 s.memsz)) 0) in
            let region : Region ℕ = plain_region (record { address = (s.load_address + 0) % 2 ^ 32; bytes = ws 0 s.memsz; length = length (ws 0 s.memsz); flags = 4 }) in
            let there = some_at (take (length (ws 0 s.memsz)) (ws 0 s.memsz) ++ replicate (length (ws 0 s.memsz) - length (ws 0 s.memsz)) 0) (x - (s.load_address + 0) % 2 ^ 32) (omega (arith, low, high, size_is, start)) in
            let other : nat_eq ((s.load_address + 0) % 2 ^ 32) (s.address + 0) ≡ false = ne_is ((s.load_address + 0) % 2 ^ 32) (s.address + 0) (let differs = ne_of s.load_address s.address apart in λ e. differs (omega (arith, start, e))) in
            let copied : nat_lt 0 (if nat_eq ((s.load_address + 0) % 2 ^ 32) (s.address + 0) then 0 else length (ws 0 s.memsz)) ≡ true = rw other (lt_is 0 (length (ws 0 s.memsz)) (omega (arith, long, low, high))) in
            let cell_here : HasCell x there.0 region = cell_at region x there.0 (omega (arith, start, low)) there.1 in
            (there.0, (lt_is 0 s.memsz (omega (arith, whole, low, high)), inr (rw copied (inl cell_here))))

    pub written_around : (x : ℕ) (c : C) → (x < (text_of bytes).lo) ⊎ ((text_of bytes).hi ≤ x) → Somewhere (HasCell x c) (segment_regions s) → (d : ℕ) × (Has x d (part_before bytes set s) ⊎ Has x d (part_behind bytes set s))
    written_around x c out (inl h) = own kept.around out
      where
        at : (s.address ≤ x) × (x < s.address + s.memsz)
        at =
            let a = cell_in (own_region s) x c h in
            let low = a.0 in
            let stored = kept.stored in
            let whole = kept.whole in
            let size = tagged_length cell s.address (filled s.memsz bs) in
            let full = filled_length s.memsz bs (omega (arith, stored, whole)) in
            let within = slice_get_within (tagged cell s.address (filled s.memsz bs)) (x - s.address) c a.1 in
            (low, omega (arith, low, size, full, within))

        front : x < (text_of bytes).lo → (d : ℕ) × (Has x d (part_before bytes set s) ⊎ Has x d (part_behind bytes set s))
        front less =
            let a = at in
            let low = a.0 in
            let high = a.1 in
            let f = own_written 0 (min s.memsz ((text_of bytes).lo - s.address)) x (omega (arith, low)) (omega (arith, low, high, less)) in
            (f.0, inl f.1)

        back : (text_of bytes).hi ≤ x → (d : ℕ) × (Has x d (part_before bytes set s) ⊎ Has x d (part_behind bytes set s))
        back more =
            let a = at in
            let low = a.0 in
            let high = a.1 in
            let f = own_written ((text_of bytes).hi - s.address) (s.memsz - ((text_of bytes).hi - s.address)) x (omega (arith, low, more)) (omega (arith, low, high, more)) in
            (f.0, inr f.1)

        own : Around (text_of bytes).lo (text_of bytes).hi s → (x < (text_of bytes).lo) ⊎ ((text_of bytes).hi ≤ x) → (d : ℕ) × (Has x d (part_before bytes set s) ⊎ Has x d (part_behind bytes set s))
        own around (inl less) = front less
        own around (inr more) = back more
    written_around x c out (inr h) = go (nat_eq s.load_address s.address) refl h
      where
        at : nat_eq s.load_address s.address ≡ false → HasCell x c (copy_region s) → (d : ℕ) × (Has x d (part_before bytes set s) ⊎ Has x d (part_behind bytes set s))
        at apart h =
            let a = cell_in (copy_region s) x c h in
            let low = a.0 in
            let stored = kept.stored in
            let size = tagged_length cell s.address (filled s.filesz bs) in
            let full = filled_length s.filesz bs (omega (arith, stored)) in
            let within = slice_get_within (tagged cell s.address (filled s.filesz bs)) (x - s.load_address) c a.1 in
            by apart low (omega (arith, low, size, full, within)) kept.around
          where
            by : nat_eq s.load_address s.address ≡ false → s.load_address ≤ x → x < s.load_address + s.filesz → Around (text_of bytes).lo (text_of bytes).hi s → (d : ℕ) × (Has x d (part_before bytes set s) ⊎ Has x d (part_behind bytes set s))
            by apart low high (holds same a b) = absurd (ne_of s.load_address s.address apart same)
            by apart low high (before end) =
                let f = copy_written 0 (min s.memsz ((text_of bytes).lo - s.address)) x refl (omega (arith, end)) apart low high in (f.0, inl f.1)
            by apart low high (behind end) =
                let f = copy_written ((text_of bytes).hi - s.address) (s.memsz - ((text_of bytes).hi - s.address)) x (omega (arith, end)) (omega (arith, end)) apart low high in (f.0, inr f.1)

        go : (b : Bool) → nat_eq s.load_address s.address ≡ b → Somewhere (HasCell x c) (if nat_lt 0 (if b then 0 else s.filesz) then copy_region s ∷ [] else []) → (d : ℕ) × (Has x d (part_before bytes set s) ⊎ Has x d (part_behind bytes set s))
        go true e h = absurd h
        go false e h = some (nat_lt 0 s.filesz) h
          where
            some : (b : Bool) → Somewhere (HasCell x c) (if b then copy_region s ∷ [] else []) → (d : ℕ) × (Has x d (part_before bytes set s) ⊎ Has x d (part_behind bytes set s))
            some false h = absurd h
            some true (inl h) = at e h
            some true (inr h) = absurd h

    -- NOTHING ELSE IS IN TEXT

    copy_alone : (size x : ℕ) → s.memsz ≤ size → nat_lt 0 (if nat_eq ((s.load_address + 0) % 2 ^ 32) (s.address + 0) then 0 else length (ws 0 size)) ≡ true → (text_of bytes).lo ≤ x → x < (text_of bytes).hi → (s.load_address + 0) % 2 ^ 32 ≤ x → x < (s.load_address + 0) % 2 ^ 32 + length (ws 0 size) → ⊥
    copy_alone size x room some low high from below =
        let whole = kept.whole in
        let loads = kept.loads in
        let long = ws_length 0 size in
        let there = copied size some in
        let more = there.1 in
        let copy : copy_size s ≡ s.filesz = let apart = there.0 in rw apart refl in
        kept.apart x low high (omega (arith, from, loads, long, more, whole, room)) (omega (arith, below, loads, long, more, whole, room, copy))

    parts_alone : (skip size x d : ℕ) → ((s.load_address + skip) % 2 ^ 32 ≢ s.address + skip → (skip ≡ 0) × (s.memsz ≤ size)) → (text_of bytes).lo ≤ x → x < (text_of bytes).hi → (s.address + skip ≤ x → x < s.address + skip + size → ⊥) → Somewhere (HasCell x d) (map plain_region (piece_image (part_of bytes set skip size s))) → ⊥
    parts_alone skip size x d apart low high own h = go (nat_lt 0 (if nat_eq ((s.load_address + skip) % 2 ^ 32) (s.address + skip) then 0 else length (ws skip size))) refl h
      where
        away : nat_lt 0 (if nat_eq ((s.load_address + skip) % 2 ^ 32) (s.address + skip) then 0 else length (ws skip size)) ≡ true → (s.load_address + skip) % 2 ^ 32 ≢ s.address + skip
        away e same = let f = eq_is ((s.load_address + skip) % 2 ^ 32) (s.address + skip) same in let g : nat_lt 0 0 ≡ true = rw f at e in absurd (cc)

        inside : (at len : ℕ) (bytes : List ℕ) (flags : ℕ) → length bytes ≤ len → HasCell x d (plain_region (record { address = at; bytes = bytes; length = len; flags = flags })) → (at ≤ x) × (x < at + len)
        inside at len bytes flags few h =
            let c = cell_in (plain_region (record { address = at; bytes = bytes; length = len; flags = flags })) x d h in
            let from = c.0 in
            let within = slice_get_within (take len bytes ++ replicate (len - length bytes) 0) (x - at) d c.1 in
            let taken = length-take len bytes in
            let size = length-append (take len bytes) (replicate (len - length bytes) 0) in
            let rest = length-replicate {A = ℕ} (len - length bytes) 0 in
            (from, omega (arith, from, few, within, taken, size, rest))

        by_copy : (k : ℕ) → k ≡ 0 → s.memsz ≤ size → nat_lt 0 (if nat_eq ((s.load_address + k) % 2 ^ 32) (s.address + k) then 0 else length (ws k size)) ≡ true → (s.load_address + k) % 2 ^ 32 ≤ x → x < (s.load_address + k) % 2 ^ 32 + length (ws k size) → ⊥
        by_copy k none most =
            subst (λ k. nat_lt 0 (if nat_eq ((s.load_address + k) % 2 ^ 32) (s.address + k) then 0 else length (ws k size)) ≡ true → (s.load_address + k) % 2 ^ 32 ≤ x → x < (s.load_address + k) % 2 ^ 32 + length (ws k size) → ⊥) (sym none)
            (λ some from below. copy_alone size x most some low high from below)

        few : length (ws skip size) ≤ size
        few = let long = ws_length skip size in omega (arith, long)

        go : (b : Bool) → nat_lt 0 (if nat_eq ((s.load_address + skip) % 2 ^ 32) (s.address + skip) then 0 else length (ws skip size)) ≡ b → Somewhere (HasCell x d) (map plain_region (record { address = s.address + skip; bytes = ws skip size; length = size; flags = without_x s.flags } ∷ (if b then record { address = (s.load_address + skip) % 2 ^ 32; bytes = ws skip size; length = length (ws skip size); flags = 4 } ∷ [] else []))) → ⊥
        go b e (inl h) = let i = inside (s.address + skip) size (ws skip size) (without_x s.flags) few h in own i.0 i.1
        go false e (inr h) = absurd h
        go true e (inr (inl h)) =
            let a = apart (away e) in
            let i = inside ((s.load_address + skip) % 2 ^ 32) (length (ws skip size)) (ws skip size) 4 (omega arith) h in
            by_copy skip a.0 a.1 e i.0 i.1
        go true e (inr (inr h)) = absurd h

    pub before_alone : (x d : ℕ) → (text_of bytes).lo ≤ x → x < (text_of bytes).hi → Has x d (part_before bytes set s) → ⊥
    before_alone x d low high h = parts_alone 0 (min s.memsz ((text_of bytes).lo - s.address)) x d (whole_before h.0) low high (λ from below. omega (arith, low, from, below)) h.1
