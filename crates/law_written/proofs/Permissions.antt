-- The permissions of a file's memory and of what is written of it are the same around text, but for PF_X.
use Rattle.std.proofs.Common.{◌≡◌, ◌≢◌, ◌⊎◌, inl, inr, ℕ, ◌+◌, ◌-◌, ◌%◌, ◌^◌, ◌<◌, ◌≤◌, min, nat_eq, nat_lt, Bool, true, false, List, [], ◌∷◌, ◌++◌, length, map, filter, Option, if◌then◌else◌, refl, sym, ◌∙◌, subst, arith}
use Rattle.std.specs.List.{AllByRecursion, flat_map}
use Rattle.std.proofs.lemmas.Bool.Decides.{nat_tests}
use Rattle.sq_elf.specs.declared.segment.Segment.{Segment}
use Rattle.sq_elf.specs.Segments.{copy_size}
use Rattle.sq_elf.specs.Memory.{MemoryPiece, copy_piece, segment_pieces, segments_of}
use Rattle.sq_elf.specs.Text.{text_of}
use Rattle.sq_write.specs.Output.{Piece}
use Rattle.sq_write.specs.Pieces.{by_address, without_x, part_of, part_before, part_behind, is_some_piece, pieces_before, pieces_behind}
use Rattle.law_written.specs.Reading.{piece_image}
use Rattle.law_written.proofs.Somewhere.{Somewhere, front_of, back_of, either_of, one_filtered, to_filtered, some_changed, one_mapped, to_mapped, one_flat, to_flat, one_ordered, to_ordered}
use Rattle.law_files.proofs.FileBytes.{lt_is}
use Rattle.law_written.proofs.SegmentCells.{eq_is, ne_is, ne_of, Around, holds, before, behind, IsKept, ws, ws_length, copied, whole_before, whole_behind}

-- the byte at x is in the piece, whose flags pass
abbrev pub InWith : (ℕ → Bool) → ℕ → MemoryPiece → Type 0
InWith ok x m = (m.address ≤ x) × (x < m.address + m.length) × (ok m.flags ≡ true)

abbrev pub HasIn : (ℕ → Bool) → ℕ → Piece → Type 0
HasIn ok x p = (is_some_piece p ≡ true) × Somewhere (InWith ok x) (piece_image p)

module _ {C : Type 0} (R : C → ℕ → Type 0) (cell : ℕ → ℕ → C) (bytes : List ℕ) (set : ℕ → Option ℕ) (some_text : (text_of bytes).lo < (text_of bytes).hi) (ok : ℕ → Bool) (x : ℕ) (same : (flags : ℕ) → ok (without_x flags) ≡ ok flags) where
  abbrev Kept : Segment → Type 0
  Kept = IsKept R cell bytes set some_text

  module _ (s : Segment) (kept : Kept s) where
    abbrev words : ℕ → ℕ → List ℕ
    words skip size = ws R cell bytes set some_text s kept skip size

    abbrev Found : Type 0
    Found = Somewhere (InWith ok x) (segment_pieces bytes s)

    copy_in : (size : ℕ) → s.memsz ≤ size → nat_lt 0 (if nat_eq ((s.load_address + 0) % 2 ^ 32) (s.address + 0) then 0 else length (words 0 size)) ≡ true → InWith ok x (record { address = (s.load_address + 0) % 2 ^ 32; bytes = words 0 size; length = length (words 0 size); flags = 4 }) → Found
    copy_in size room some h =
        let there = copied R cell bytes set some_text s kept size some in
        let apart = there.0 in
        let more = there.1 in
        let whole = kept.whole in
        let loads = kept.loads in
        let long = ws_length R cell bytes set some_text s kept 0 size in
        let low = h.0 in
        let high = h.1 in
        let copy : nat_lt 0 (copy_size s) ≡ true = rw apart (lt_is 0 s.filesz (omega (arith, more, long))) in
        let here : InWith ok x (copy_piece bytes s) = (omega (arith, low, loads, long, more), omega (arith, high, loads, long, more, whole, room), h.2) in
        inr (rw copy (inl here))

    parts_in : (skip size : ℕ) → skip + size ≤ s.memsz → ((s.load_address + skip) % 2 ^ 32 ≢ s.address + skip → (skip ≡ 0) × (s.memsz ≤ size)) → Somewhere (InWith ok x) (piece_image (part_of bytes set skip size s)) → Found
    parts_in skip size room apart h = go (nat_lt 0 (if nat_eq ((s.load_address + skip) % 2 ^ 32) (s.address + skip) then 0 else length (words skip size))) refl h
      where
        away : nat_lt 0 (if nat_eq ((s.load_address + skip) % 2 ^ 32) (s.address + skip) then 0 else length (words skip size)) ≡ true → (s.load_address + skip) % 2 ^ 32 ≢ s.address + skip
        away e eq = let f = eq_is ((s.load_address + skip) % 2 ^ 32) (s.address + skip) eq in let g : nat_lt 0 0 ≡ true = rw f at e in absurd (cc)

        by_copy : (k : ℕ) → k ≡ 0 → s.memsz ≤ size → nat_lt 0 (if nat_eq ((s.load_address + k) % 2 ^ 32) (s.address + k) then 0 else length (words k size)) ≡ true → InWith ok x (record { address = (s.load_address + k) % 2 ^ 32; bytes = words k size; length = length (words k size); flags = 4 }) → Found
        by_copy k none most some h =
            subst (λ k. nat_lt 0 (if nat_eq ((s.load_address + k) % 2 ^ 32) (s.address + k) then 0 else length (words k size)) ≡ true → InWith ok x (record { address = (s.load_address + k) % 2 ^ 32; bytes = words k size; length = length (words k size); flags = 4 }) → Found) (sym none)
            (λ some h. copy_in size most some h) some h

        own_in : InWith ok x (record { address = s.address + skip; bytes = words skip size; length = size; flags = without_x s.flags }) → Found
        own_in h =
            let low = h.0 in
            let high = h.1 in
            inl (omega (arith, low), omega (arith, high, room), sym (same s.flags) ∙ h.2)

        go : (b : Bool) → nat_lt 0 (if nat_eq ((s.load_address + skip) % 2 ^ 32) (s.address + skip) then 0 else length (words skip size)) ≡ b → Somewhere (InWith ok x) (record { address = s.address + skip; bytes = words skip size; length = size; flags = without_x s.flags } ∷ (if b then record { address = (s.load_address + skip) % 2 ^ 32; bytes = words skip size; length = length (words skip size); flags = 4 } ∷ [] else [])) → Found
        go b e (inl h) = own_in h
        go false e (inr h) = absurd h
        go true e (inr (inl h)) = let a = apart (away e) in by_copy skip a.0 a.1 e h
        go true e (inr (inr h)) = absurd h

    before_in : HasIn ok x (part_before bytes set s) → Found
    before_in h = parts_in 0 (min s.memsz ((text_of bytes).lo - s.address)) (omega arith) (whole_before R cell bytes set some_text s kept h.0) h.1

    behind_in : HasIn ok x (part_behind bytes set s) → Found
    behind_in h =
        let some : 0 < s.memsz - ((text_of bytes).hi - s.address) = size_some (part_behind bytes set s) h.0 in
        parts_in ((text_of bytes).hi - s.address) (s.memsz - ((text_of bytes).hi - s.address)) (omega (arith, some)) (whole_behind R cell bytes set some_text s kept h.0) h.1
      where
        size_some : (p : Piece) → is_some_piece p ≡ true → 0 < p.size
        size_some p e = grind (arith, nat_tests)

    -- AND BACK

    own_stays : (skip size : ℕ) → s.address + skip ≤ x → x < s.address + skip + size → ok s.flags ≡ true → HasIn ok x (part_of bytes set skip size s)
    own_stays skip size low high flags = (lt_is 0 size (omega (arith, low, high)), inl (low, high, same s.flags ∙ flags))

    copy_stays : (skip size : ℕ) → skip ≡ 0 → size ≡ s.memsz → nat_eq s.load_address s.address ≡ false → s.load_address ≤ x → x < s.load_address + s.filesz → ok 4 ≡ true → HasIn ok x (part_of bytes set skip size s)
    copy_stays skip size none all apart low high flags =
        subst (λ k. HasIn ok x (part_of bytes set k size s)) (sym none) (subst (λ n. HasIn ok x (part_of bytes set 0 n s)) (sym all) here)
      where
        here : HasIn ok x (part_of bytes set 0 s.memsz s)
        here =
            let whole = kept.whole in
            let loads = kept.loads in
            let few = ws_length R cell bytes set some_text s kept 0 s.memsz in
            let long : length (words 0 s.memsz) ≡ s.filesz = omega (arith, few, whole) in
            let start : (s.load_address + 0) % 2 ^ 32 ≡ s.load_address = omega (arith, loads, low, high) in
            let other : nat_eq ((s.load_address + 0) % 2 ^ 32) (s.address + 0) ≡ false = ne_is ((s.load_address + 0) % 2 ^ 32) (s.address + 0) (let differs = ne_of s.load_address s.address apart in λ e. differs (omega (arith, start, e))) in
            let some : nat_lt 0 (if nat_eq ((s.load_address + 0) % 2 ^ 32) (s.address + 0) then 0 else length (words 0 s.memsz)) ≡ true = rw other (lt_is 0 (length (words 0 s.memsz)) (omega (arith, long, low, high))) in
            let there : InWith ok x (record { address = (s.load_address + 0) % 2 ^ 32; bytes = words 0 s.memsz; length = length (words 0 s.memsz); flags = 4 }) = (omega (arith, start, low), omega (arith, start, high, long), flags) in
            (lt_is 0 s.memsz (omega (arith, whole, low, high)), inr (rw some (inl there)))

    abbrev Either : Type 0
    Either = HasIn ok x (part_before bytes set s) ⊎ HasIn ok x (part_behind bytes set s)

    stays_around : (x < (text_of bytes).lo) ⊎ ((text_of bytes).hi ≤ x) → Found → Either
    stays_around out (inl h) = own out
      where
        own : (x < (text_of bytes).lo) ⊎ ((text_of bytes).hi ≤ x) → Either
        own (inl less) = let low = h.0 in let high = h.1 in inl (own_stays 0 (min s.memsz ((text_of bytes).lo - s.address)) (omega (arith, low)) (omega (arith, low, high, less)) h.2)
        own (inr more) = let low = h.0 in let high = h.1 in inr (own_stays ((text_of bytes).hi - s.address) (s.memsz - ((text_of bytes).hi - s.address)) (omega (arith, low, more)) (omega (arith, low, high, more)) h.2)
    stays_around out (inr h) = go (nat_eq s.load_address s.address) refl h
      where
        by : nat_eq s.load_address s.address ≡ false → InWith ok x (copy_piece bytes s) → Around (text_of bytes).lo (text_of bytes).hi s → Either
        by apart h (holds eq a b) = absurd (ne_of s.load_address s.address apart eq)
        by apart h (before end) = inl (copy_stays 0 (min s.memsz ((text_of bytes).lo - s.address)) refl (omega (arith, end)) apart h.0 h.1 h.2)
        by apart h (behind end) = inr (copy_stays ((text_of bytes).hi - s.address) (s.memsz - ((text_of bytes).hi - s.address)) (omega (arith, end)) (omega (arith, end)) apart h.0 h.1 h.2)

        some : (b : Bool) → nat_eq s.load_address s.address ≡ false → Somewhere (InWith ok x) (if b then copy_piece bytes s ∷ [] else []) → Either
        some false e h = absurd h
        some true e (inl h) = by e h kept.around
        some true e (inr h) = absurd h

        go : (b : Bool) → nat_eq s.load_address s.address ≡ b → Somewhere (InWith ok x) (if nat_lt 0 (if b then 0 else s.filesz) then copy_piece bytes s ∷ [] else []) → Either
        go true e h = absurd h
        go false e h = some (nat_lt 0 s.filesz) e h

  module _ (kept : AllByRecursion Kept (segments_of bytes)) where
    abbrev all : List Segment
    all = segments_of bytes

    abbrev Here : Piece → Type 0
    Here p = Somewhere (InWith ok x) (piece_image p)

    one_part : (part : Segment → Piece) (ss : List Segment) → Somewhere Here (filter is_some_piece (map part (by_address ss))) → Somewhere (λ s. HasIn ok x (part s)) ss
    one_part part ss h =
        one_ordered (λ s. HasIn ok x (part s)) ss
        (one_mapped (HasIn ok x) part (by_address ss) (one_filtered Here is_some_piece (map part (by_address ss)) h))

    to_part : (part : Segment → Piece) (ss : List Segment) → Somewhere (λ s. HasIn ok x (part s)) ss → Somewhere Here (filter is_some_piece (map part (by_address ss)))
    to_part part ss h =
        to_filtered Here is_some_piece (map part (by_address ss))
        (to_mapped (HasIn ok x) part (by_address ss) (to_ordered (λ s. HasIn ok x (part s)) ss h))

    -- what passes in a written piece passes in one of the file, or in text
    pub written_in : (text : Piece) → Somewhere (InWith ok x) (flat_map piece_image (pieces_before bytes set ++ text ∷ pieces_behind bytes set)) → Somewhere (InWith ok x) (flat_map (segment_pieces bytes) all) ⊎ Here text
    written_in text h = go (either_of Here (pieces_before bytes set) (text ∷ pieces_behind bytes set) (one_flat (InWith ok x) piece_image (pieces_before bytes set ++ text ∷ pieces_behind bytes set) h))
      where
        go : Somewhere Here (pieces_before bytes set) ⊎ Somewhere Here (text ∷ pieces_behind bytes set) → Somewhere (InWith ok x) (flat_map (segment_pieces bytes) all) ⊎ Here text
        go (inl f) = inl (to_flat (InWith ok x) (segment_pieces bytes) all (some_changed Kept (λ s. HasIn ok x (part_before bytes set s)) (λ s. Somewhere (InWith ok x) (segment_pieces bytes s)) all kept (λ s k f. before_in s k f) (one_part (part_before bytes set) all f)))
        go (inr (inl f)) = inr f
        go (inr (inr f)) = inl (to_flat (InWith ok x) (segment_pieces bytes) all (some_changed Kept (λ s. HasIn ok x (part_behind bytes set s)) (λ s. Somewhere (InWith ok x) (segment_pieces bytes s)) all kept (λ s k f. behind_in s k f) (one_part (part_behind bytes set) all f)))

    split : (ss : List Segment) → AllByRecursion Kept ss → (x < (text_of bytes).lo) ⊎ ((text_of bytes).hi ≤ x) → Somewhere (λ s. Somewhere (InWith ok x) (segment_pieces bytes s)) ss → Somewhere (λ s. HasIn ok x (part_before bytes set s)) ss ⊎ Somewhere (λ s. HasIn ok x (part_behind bytes set s)) ss
    split [] k out h = absurd h
    split (s ∷ ss) k out (inl h) = elim (stays_around s k.0 out h) [ inl g ↦ inl (inl g) | inr g ↦ inr (inl g) ]
    split (s ∷ ss) k out (inr h) = elim (split ss k.1 out h) [ inl g ↦ inl (inr g) | inr g ↦ inr (inr g) ]

    -- and what passes in the file around text passes in a written piece
    pub file_in : (text : Piece) → (x < (text_of bytes).lo) ⊎ ((text_of bytes).hi ≤ x) → Somewhere (InWith ok x) (flat_map (segment_pieces bytes) all) → Somewhere (InWith ok x) (flat_map piece_image (pieces_before bytes set ++ text ∷ pieces_behind bytes set))
    file_in text out h = to_flat (InWith ok x) piece_image (pieces_before bytes set ++ text ∷ pieces_behind bytes set) (go (split all kept out (one_flat (InWith ok x) (segment_pieces bytes) all h)))
      where
        go : Somewhere (λ s. HasIn ok x (part_before bytes set s)) all ⊎ Somewhere (λ s. HasIn ok x (part_behind bytes set s)) all → Somewhere Here (pieces_before bytes set ++ text ∷ pieces_behind bytes set)
        go (inl g) = front_of Here (pieces_before bytes set) (text ∷ pieces_behind bytes set) (to_part (part_before bytes set) all g)
        go (inr g) = back_of Here (pieces_before bytes set) (text ∷ pieces_behind bytes set) (inr (to_part (part_behind bytes set) all g))
