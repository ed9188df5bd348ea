-- The segments of an accepted file by address, and the pieces around its text.
use Rattle.std.proofs.Common.{◌≡◌, ℕ, ◌+◌, ◌-◌, ◌<◌, ◌≤◌, true, false, ◌⊎◌, inl, inr, nat_le, List, [], ◌∷◌, ◌++◌, Option, None, refl, sym, subst, arith}
use Rattle.std.specs.List.{AllByRecursion, Contains}
use Rattle.std.proofs.lemmas.Bool.{cases_Bool, ltb-true}
use Rattle.std.proofs.lemmas.List.Elements.{Contains-append_right}
use Rattle.sq_elf.specs.declared.segment.Segment.{Segment}
use Rattle.sq_elf.specs.Memory.{segments_of}
use Rattle.sq_elf.specs.Ranges.{meets}
use Rattle.sq_elf.specs.Segments.{copy_size}
use Rattle.sq_elf.specs.Refusing.{file_refusal_of}
use Rattle.sq_elf.specs.Text.{text_of}
use Rattle.sq_write.specs.Output.{Piece}
use Rattle.sq_write.specs.Pieces.{insert_segment, by_address, part_before, part_behind, is_some_piece, pieces_before, pieces_behind}
use Rattle.sq_write.proofs.Segments.{IsSorted, by_address_sorted}
use Rattle.law_written.specs.Reading.{copied}
use Rattle.law_written.specs.Written.{IsBefore, AreInOrder}
use Rattle.law_written.proofs.Apart.{apart_back, one_behind, IsWithin, apart_within}
use Rattle.law_written.proofs.Pairs.{Pairwise, all_map, all_both, all_kept, pairs_kept, all_pairs, pairs_append}
use Rattle.law_written.proofs.Sound.{HasText, IsAside, IsSound, AreSeparate, separate_back, facts, segments_sound, segments_separate}
use Rattle.law_written.proofs.Cut.{copied_here, IsCut, before_is_cut, behind_is_cut, before_ends, behind_begins, one_side, copy_within, parts_before, no_range, still_before}

-- The list by address

all_inserted : (P : Segment → Type 0) (s : Segment) (ts : List Segment) → P s → AllByRecursion P ts → AllByRecursion P (insert_segment s ts)
all_inserted P s [] here all = (here, tt)
all_inserted P s (t ∷ ts) here all = by_test (all_inserted P s ts here all.1) (cases_Bool (nat_le s.address t.address))
  where
    by_test : AllByRecursion P (insert_segment s ts) → (nat_le s.address t.address ≡ true) ⊎ (nat_le s.address t.address ≡ false) → AllByRecursion P (insert_segment s (t ∷ ts))
    by_test more (inl e) = rw e (here, all)
    by_test more (inr e) = rw e (all.0, more)

pub all_by_address : (P : Segment → Type 0) (ss : List Segment) → AllByRecursion P ss → AllByRecursion P (by_address ss)
all_by_address P [] all = tt
all_by_address P (s ∷ ss) all = all_inserted P s (by_address ss) all.0 (all_by_address P ss all.1)

pairs_inserted : (s : Segment) (ts : List Segment) → AllByRecursion (AreSeparate s) ts → Pairwise AreSeparate ts → Pairwise AreSeparate (insert_segment s ts)
pairs_inserted s [] here pairs = (tt, tt)
pairs_inserted s (t ∷ ts) here pairs = by_test (pairs_inserted s ts here.1 pairs.1) (cases_Bool (nat_le s.address t.address))
  where
    by_test : Pairwise AreSeparate (insert_segment s ts) → (nat_le s.address t.address ≡ true) ⊎ (nat_le s.address t.address ≡ false) → Pairwise AreSeparate (insert_segment s (t ∷ ts))
    by_test more (inl e) = rw e (here, pairs)
    by_test more (inr e) = rw e (all_inserted (AreSeparate t) s ts (separate_back s t here.0) pairs.0, more)

pairs_by_address : (ss : List Segment) → Pairwise AreSeparate ss → Pairwise AreSeparate (by_address ss)
pairs_by_address [] pairs = tt
pairs_by_address (s ∷ ss) pairs = pairs_inserted s (by_address ss) (all_by_address (AreSeparate s) ss pairs.0) (pairs_by_address ss pairs.1)

all_contained : (ss : List Segment) → AllByRecursion (Contains ss) ss
all_contained [] = tt
all_contained (s ∷ ss) = (
  (0, omega arith, refl),
  all_map (Contains ss) (Contains (s ∷ ss)) (λ t has. Contains-append_right (s ∷ []) ss t has) ss (all_contained ss),
)

-- one ends before the other begins
record IsBelow (s t : Segment) : Type 0 where
  ends : s.address + s.memsz ≤ t.address
  apart : AreSeparate s t

below_from : (bytes : List ℕ) (s t : Segment) → IsSound bytes s → IsSound bytes t → s.address ≤ t.address → AreSeparate s t → IsBelow s t
below_from bytes s t sound other low apart = record { ends = above; apart = apart }
  where
    use_ends : (s.address + s.memsz ≤ t.address) ⊎ (t.address + t.memsz ≤ s.address) → s.address + s.memsz ≤ t.address
    use_ends (inl first) = first
    use_ends (inr second) = absurd (omega (arith, other.some))

    above : s.address + s.memsz ≤ t.address
    above = use_ends (one_behind s.address s.memsz t.address t.memsz apart.memory sound.some other.some)

all_below : (bytes : List ℕ) (s : Segment) (ts : List Segment) → IsSound bytes s → AllByRecursion (IsSound bytes) ts → AllByRecursion (λ t. s.address ≤ t.address) ts → AllByRecursion (AreSeparate s) ts → AllByRecursion (IsBelow s) ts
all_below bytes s [] sound all low apart = tt
all_below bytes s (t ∷ ts) sound all low apart = (below_from bytes s t sound all.0 low.0 apart.0, all_below bytes s ts sound all.1 low.1 apart.1)

pairs_below : (bytes : List ℕ) (ss : List Segment) → AllByRecursion (IsSound bytes) ss → IsSorted ss → Pairwise AreSeparate ss → Pairwise IsBelow ss
pairs_below bytes [] all sorted pairs = tt
pairs_below bytes (s ∷ ss) all sorted pairs = (all_below bytes s ss all.0 all.1 sorted.0 pairs.0, pairs_below bytes ss all.1 sorted.1 pairs.1)

pub in_order_from : (ps : List Piece) → Pairwise IsBefore ps → AreInOrder ps
in_order_from [] pairs = tt
in_order_from (p ∷ ps) pairs = (pairs.0, in_order_from ps pairs.1)

module _ (bytes : List ℕ) (accepted : file_refusal_of bytes ≡ None) (set : ℕ → Option ℕ) where
  -- a segment that is sound, and one of the file
  abbrev IsOne : Segment → Type 0
  IsOne s = IsSound bytes s × Contains (segments_of bytes) s

  pub ordered_sound : AllByRecursion (IsSound bytes) (by_address (segments_of bytes))
  ordered_sound = all_by_address (IsSound bytes) (segments_of bytes) (segments_sound bytes accepted)

  ordered_ones : AllByRecursion IsOne (by_address (segments_of bytes))
  ordered_ones =
      all_both (IsSound bytes) (Contains (segments_of bytes)) (by_address (segments_of bytes)) ordered_sound
      (all_by_address (Contains (segments_of bytes)) (segments_of bytes) (all_contained (segments_of bytes)))

  ordered_separate : Pairwise AreSeparate (by_address (segments_of bytes))
  ordered_separate = pairs_by_address (segments_of bytes) (segments_separate bytes accepted)

  ordered_below : Pairwise IsBelow (by_address (segments_of bytes))
  ordered_below = pairs_below bytes (by_address (segments_of bytes)) ordered_sound (by_address_sorted (segments_of bytes)) ordered_separate

  some_text : (text_of bytes).lo < (text_of bytes).hi
  some_text = (facts bytes accepted).inside.some

  kept_size : (p : Piece) → is_some_piece p ≡ true → 0 < p.size
  kept_size p e = ltb-true 0 p.size e

  -- a piece that is cut from a segment of the file, before text or behind it
  pub record IsCutBefore (p : Piece) : Type 0 where
    pub segment : Segment
    pub contained : Contains (segments_of bytes) segment
    pub sound : IsSound bytes segment
    pub cut : IsCut bytes p segment
    pub ends : p.address + p.size ≤ (text_of bytes).lo

  pub record IsCutBehind (p : Piece) : Type 0 where
    pub segment : Segment
    pub contained : Contains (segments_of bytes) segment
    pub sound : IsSound bytes segment
    pub cut : IsCut bytes p segment
    pub begins : (text_of bytes).hi ≤ p.address

  pub all_before : AllByRecursion IsCutBefore (pieces_before bytes set)
  all_before =
      all_kept is_some_piece (part_before bytes set) IsOne IsCutBefore
      (λ s one kept. record {
        segment = s;
        contained = one.1;
        sound = one.0;
        cut = before_is_cut bytes set some_text s one.0 (kept_size (part_before bytes set s) kept);
        ends = before_ends bytes set some_text s one.0 (kept_size (part_before bytes set s) kept);
      })
      (by_address (segments_of bytes)) ordered_ones

  pub all_behind : AllByRecursion IsCutBehind (pieces_behind bytes set)
  all_behind =
      all_kept is_some_piece (part_behind bytes set) IsOne IsCutBehind
      (λ s one kept. record {
        segment = s;
        contained = one.1;
        sound = one.0;
        cut = behind_is_cut bytes set some_text s one.0 (kept_size (part_behind bytes set s) kept);
        begins = behind_begins bytes set some_text s one.0;
      })
      (by_address (segments_of bytes)) ordered_ones

  -- pairs on one side of text

  pairs_before : Pairwise IsBefore (pieces_before bytes set)
  pairs_before =
      pairs_kept is_some_piece (part_before bytes set) IsOne IsBelow IsBefore
      (λ s t one other below kept more.
      let first = before_is_cut bytes set some_text s one.0 (kept_size (part_before bytes set s) kept) in
      let second = before_is_cut bytes set some_text t other.0 (kept_size (part_before bytes set t) more) in
      parts_before (part_before bytes set s) (part_before bytes set t) s t first.part second.part below.apart (omega (arith, first.part.high, second.part.low, below.ends)))
      (by_address (segments_of bytes)) ordered_ones ordered_below

  pairs_behind : Pairwise IsBefore (pieces_behind bytes set)
  pairs_behind =
      pairs_kept is_some_piece (part_behind bytes set) IsOne IsBelow IsBefore
      (λ s t one other below kept more.
      let first = behind_is_cut bytes set some_text s one.0 (kept_size (part_behind bytes set s) kept) in
      let second = behind_is_cut bytes set some_text t other.0 (kept_size (part_behind bytes set t) more) in
      parts_before (part_behind bytes set s) (part_behind bytes set t) s t first.part second.part below.apart (omega (arith, first.part.high, second.part.low, below.ends)))
      (by_address (segments_of bytes)) ordered_ones ordered_below

  -- pairs on both sides

  AreOneOrSeparate : Segment → Segment → Type 0
  AreOneOrSeparate s t = (s ≡ t) ⊎ AreSeparate s t

  one_or_separate : AllByRecursion (λ s. AllByRecursion (AreOneOrSeparate s) (by_address (segments_of bytes))) (by_address (segments_of bytes))
  unfolding AreOneOrSeparate
  one_or_separate =
      all_pairs AreSeparate AreOneOrSeparate (λ s. inl refl) (λ s t apart. inr apart) (λ s t apart. inr (separate_back s t apart))
      (by_address (segments_of bytes)) ordered_separate

  across : (s t : Segment) → IsSound bytes s → IsSound bytes t → AreOneOrSeparate s t → 0 < (part_before bytes set s).size → 0 < (part_behind bytes set t).size → IsBefore (part_before bytes set s) (part_behind bytes set t)
  unfolding AreOneOrSeparate
  across s t sound other pair some more = by_pair pair
    where
      first : IsCut bytes (part_before bytes set s) s
      first = before_is_cut bytes set some_text s sound some

      second : IsCut bytes (part_behind bytes set t) t
      second = behind_is_cut bytes set some_text t other more

      ends : (part_before bytes set s).address + (part_before bytes set s).size ≤ (part_behind bytes set t).address
      ends = omega (arith, before_ends bytes set some_text s sound some, behind_begins bytes set some_text t other, some_text)

      by_text : s ≡ t → HasText bytes s ⊎ IsAside bytes s → IsBefore (part_before bytes set s) (part_behind bytes set t)
      by_text same (inl text) =
          still_before (part_before bytes set s) (part_behind bytes set t) (first.still text) (second.still (subst (HasText bytes) same text)) ends
      by_text same (inr aside) =
          absurd (one_side bytes set some_text s sound aside some (subst (λ u. 0 < (part_behind bytes set u).size) (sym same) more))

      by_pair : (s ≡ t) ⊎ AreSeparate s t → IsBefore (part_before bytes set s) (part_behind bytes set t)
      by_pair (inl same) = by_text same sound.text
      by_pair (inr apart) = parts_before (part_before bytes set s) (part_behind bytes set t) s t first.part second.part apart ends

  all_across : AllByRecursion (λ p. AllByRecursion (IsBefore p) (pieces_behind bytes set)) (pieces_before bytes set)
  all_across =
      all_kept is_some_piece (part_before bytes set) (λ s. IsSound bytes s × AllByRecursion (AreOneOrSeparate s) (by_address (segments_of bytes))) (λ p. AllByRecursion (IsBefore p) (pieces_behind bytes set))
      (λ s both kept.
      all_kept is_some_piece (part_behind bytes set) (λ t. IsSound bytes t × AreOneOrSeparate s t) (IsBefore (part_before bytes set s))
      (λ t pair more. across s t both.0 pair.0 pair.1 (kept_size (part_before bytes set s) kept) (kept_size (part_behind bytes set t) more))
      (by_address (segments_of bytes))
      (all_both (IsSound bytes) (AreOneOrSeparate s) (by_address (segments_of bytes)) ordered_sound both.1))
      (by_address (segments_of bytes))
      (all_both (IsSound bytes) (λ s. AllByRecursion (AreOneOrSeparate s) (by_address (segments_of bytes))) (by_address (segments_of bytes)) ordered_sound one_or_separate)

  -- with a text that stands where text was, and is no longer
  module _ (text : Piece) (start : text.address ≡ (text_of bytes).lo) (here : text.load_address ≡ text.address) (fits : text.address + text.size ≤ (text_of bytes).hi) where
    no_copy : copied text ≡ 0
    no_copy = copied_here text here

    from_text : (p : Piece) (s : Segment) → IsSound bytes s → IsCut bytes p s → meets text.address text.size p.load_address (copied p) ≡ false
    from_text p s sound cut = by_text sound.text
      where
        by_text : HasText bytes s ⊎ IsAside bytes s → meets text.address text.size p.load_address (copied p) ≡ false
        by_text (inl has) = no_range text.address text.size p.load_address (copied p) (cut.still has)
        by_text (inr aside) =
            let old : IsWithin text.address text.size (text_of bytes).lo ((text_of bytes).hi - (text_of bytes).lo) =
            record { low = λ some. omega arith; high = λ some. omega (arith, some_text) } in
            apart_within text.address text.size (text_of bytes).lo ((text_of bytes).hi - (text_of bytes).lo) p.load_address (copied p) s.load_address (copy_size s)
            (apart_back s.load_address (copy_size s) (text_of bytes).lo ((text_of bytes).hi - (text_of bytes).lo) aside.copy) old (copy_within p s cut.part)

    before_text : (p : Piece) → IsCutBefore p → IsBefore p text
    before_text p cut = record {
      ends = omega (arith, cut.ends);
      first = no_range p.address p.size text.load_address (copied text) no_copy;
      second = from_text p cut.segment cut.sound cut.cut;
      copies = no_range p.load_address (copied p) text.load_address (copied text) no_copy;
    }

    behind_text : (p : Piece) → IsCutBehind p → IsBefore text p
    behind_text p cut = record {
      ends = omega (arith, cut.begins);
      first = from_text p cut.segment cut.sound cut.cut;
      second = no_range p.address p.size text.load_address (copied text) no_copy;
      copies = apart_back p.load_address (copied p) text.load_address (copied text) (no_range p.load_address (copied p) text.load_address (copied text) no_copy);
    }

    pub all_in_order : AreInOrder (pieces_before bytes set ++ text ∷ pieces_behind bytes set)
    all_in_order =
        in_order_from (pieces_before bytes set ++ text ∷ pieces_behind bytes set)
        (pairs_append IsBefore (pieces_before bytes set) (text ∷ pieces_behind bytes set) pairs_before
        (all_map IsCutBehind (IsBefore text) behind_text (pieces_behind bytes set) all_behind, pairs_behind)
        (all_map (λ p. IsCutBefore p × AllByRecursion (IsBefore p) (pieces_behind bytes set)) (λ p. AllByRecursion (IsBefore p) (text ∷ pieces_behind bytes set)) (λ p both. (before_text p both.0, both.1)) (pieces_before bytes set)
        (all_both IsCutBefore (λ p. AllByRecursion (IsBefore p) (pieces_behind bytes set)) (pieces_before bytes set) all_before all_across)))
