-- What is cut from a segment before text and behind it.
use Rattle.std.proofs.Common.{◌≡◌, ℕ, ◌+◌, ◌-◌, ◌^◌, ◌<◌, ◌≤◌, true, false, ◌⊎◌, inl, inr, ⊎_elim, nat_eq, min, List, take, drop, length, Option, refl, arith, length-drop}
use Rattle.std.proofs.lemmas.Bool.{cases_Bool, eqb-true, eq-eqb}
use Rattle.std.proofs.lemmas.List.{length-take}
use Rattle.sq_elf.specs.declared.segment.Segment.{Segment}
use Rattle.sq_elf.specs.Memory.{file_bytes_of}
use Rattle.sq_elf.specs.Ranges.{meets}
use Rattle.sq_elf.specs.Segments.{copy_size}
use Rattle.sq_elf.specs.Text.{text_of}
use Rattle.sq_write.specs.Output.{Piece}
use Rattle.sq_write.specs.Pieces.{part_of, part_before, part_behind}
use Rattle.sq_write.proofs.Assembling.{length_set}
use Rattle.law_written.specs.Reading.{copied}
use Rattle.law_written.specs.Written.{IsPartOf, IsBefore}
use Rattle.law_written.proofs.Apart.{apart_from, IsWithin, apart_within}
use Rattle.law_written.proofs.Sound.{HasText, IsAside, IsSound, AreSeparate}

-- Load copies

pub copied_here : (p : Piece) → p.load_address ≡ p.address → copied p ≡ 0
copied_here p here = let same : nat_eq p.load_address p.address ≡ true = eq-eqb p.load_address p.address here in rw same refl

copied_there : (p : Piece) → 0 < copied p → (copied p ≡ length p.bytes) × (p.load_address ≡ p.address → ⊥)
copied_there p some = by_test (cases_Bool (nat_eq p.load_address p.address))
  where
    by_test : (nat_eq p.load_address p.address ≡ true) ⊎ (nat_eq p.load_address p.address ≡ false) → (copied p ≡ length p.bytes) × (p.load_address ≡ p.address → ⊥)
    by_test (inl e) = let none : copied p ≡ 0 = rw e refl in absurd (omega arith)
    by_test (inr e) = (rw e refl, λ here. absurd (cc (eq-eqb p.load_address p.address here, e)))

copy_elsewhere : (s : Segment) → (s.load_address ≡ s.address → ⊥) → copy_size s ≡ s.filesz
copy_elsewhere s apart = by_test (cases_Bool (nat_eq s.load_address s.address))
  where
    by_test : (nat_eq s.load_address s.address ≡ true) ⊎ (nat_eq s.load_address s.address ≡ false) → copy_size s ≡ s.filesz
    by_test (inl e) = absurd (apart (eqb-true s.load_address s.address e))
    by_test (inr e) = rw e refl

-- a part of a segment, with what is known of it
pub record IsCut (bytes : List ℕ) (p : Piece) (s : Segment) : Type 0 where
  pub part : IsPartOf p s
  pub some : 0 < p.size
  pub stored : length p.bytes ≤ p.size
  pub load_fits : p.load_address < 2 ^ 32
  pub loads : p.load_address + length p.bytes ≤ 2 ^ 32
  pub still : HasText bytes s → copied p ≡ 0

module _ (bytes : List ℕ) (set : ℕ → Option ℕ) where
  pub part_length : (skip size : ℕ) (s : Segment) → length (file_bytes_of bytes s) ≡ s.filesz → length (part_of bytes set skip size s).bytes ≡ min size (s.filesz - skip)
  part_length skip size s whole =
      let stored = file_bytes_of bytes s in
      omega (arith, length_set set (s.address + skip) (take size (drop skip stored)), length-take size (drop skip stored), length-drop skip stored, whole)

  -- its load address, where it has bytes
  load_is : (skip size : ℕ) (s : Segment) → IsSound bytes s → 0 < length (part_of bytes set skip size s).bytes → (part_of bytes set skip size s).load_address ≡ s.load_address + skip
  load_is skip size s sound some = omega (arith, part_length skip size s sound.whole, sound.loads, some)

  here_is : (skip size : ℕ) (s : Segment) → IsSound bytes s → 0 < size → skip + size ≤ s.memsz → s.load_address ≡ s.address → copied (part_of bytes set skip size s) ≡ 0
  here_is skip size s sound some within here = copied_here (part_of bytes set skip size s) (omega (arith, sound.fits, here))

  part_is_cut : (skip size : ℕ) (s : Segment) → IsSound bytes s → 0 < size → skip + size ≤ s.memsz → (skip ≡ 0) ⊎ (s.load_address ≡ s.address) → IsCut bytes (part_of bytes set skip size s) s
  part_is_cut skip size s sound some within place =
      let p = part_of bytes set skip size s in
      let long = part_length skip size s sound.whole in
      record {
        part = record {
          low = omega arith;
          high = omega arith;
          copy_low = λ copy. (copy_within copy).0;
          copy_high = λ copy. (copy_within copy).1;
          flags = refl;
        };
        some = some;
        stored = omega (arith, long);
        load_fits = omega arith;
        loads = omega (arith, long, sound.loads);
        still = λ text. here_is skip size s sound some within text.here;
      }
    where
      elsewhere : 0 < copied (part_of bytes set skip size s) → s.load_address ≡ s.address → ⊥
      elsewhere copy = λ here. omega (arith, here_is skip size s sound some within here)

      no_skip : 0 < copied (part_of bytes set skip size s) → skip ≡ 0
      no_skip copy = ⊎_elim (λ (none : skip ≡ 0). none) (λ (here : s.load_address ≡ s.address). absurd (elsewhere copy here)) place

      copy_within : 0 < copied (part_of bytes set skip size s) → (s.load_address ≤ (part_of bytes set skip size s).load_address) × ((part_of bytes set skip size s).load_address + copied (part_of bytes set skip size s) ≤ s.load_address + copy_size s)
      copy_within copy =
          let there = copied_there (part_of bytes set skip size s) copy in
          let bytes_some : 0 < length (part_of bytes set skip size s).bytes = omega (arith, there.0) in
          let load = load_is skip size s sound bytes_some in
          let whole = copy_elsewhere s (elsewhere copy) in
          let none = no_skip copy in
          (omega (arith, load), omega (arith, load, whole, none, there.0, part_length skip size s sound.whole))

  module _ (some_text : (text_of bytes).lo < (text_of bytes).hi) (s : Segment) (sound : IsSound bytes s) where
    pub before_is_cut : 0 < (part_before bytes set s).size → IsCut bytes (part_before bytes set s) s
    before_is_cut some = part_is_cut 0 (min s.memsz ((text_of bytes).lo - s.address)) s sound some (omega arith) (inl refl)

    -- text stands in the segment, or it is wholly behind text
    behind_place : 0 < (part_behind bytes set s).size → ((text_of bytes).hi - s.address ≡ 0) ⊎ (s.load_address ≡ s.address)
    behind_place some =
        ⊎_elim (λ (text : HasText bytes s). inr text.here)
        (λ (aside : IsAside bytes s).
        ⊎_elim (λ (before : s.address + s.memsz ≤ (text_of bytes).lo). absurd (omega (arith, some, some_text, before)))
        (λ (behind : (text_of bytes).hi ≤ s.address). inl (omega arith))
        aside.memory)
        sound.text

    pub behind_is_cut : 0 < (part_behind bytes set s).size → IsCut bytes (part_behind bytes set s) s
    behind_is_cut some =
        part_is_cut ((text_of bytes).hi - s.address) (s.memsz - ((text_of bytes).hi - s.address)) s sound some (omega (arith, some)) (behind_place some)

    pub before_ends : 0 < (part_before bytes set s).size → (part_before bytes set s).address + (part_before bytes set s).size ≤ (text_of bytes).lo
    before_ends some = omega (arith, some)

    pub behind_begins : (text_of bytes).hi ≤ (part_behind bytes set s).address
    behind_begins = omega arith

    -- a segment beside text isn't cut in two
    pub one_side : IsAside bytes s → 0 < (part_before bytes set s).size → 0 < (part_behind bytes set s).size → ⊥
    one_side aside first last =
        ⊎_elim (λ (before : s.address + s.memsz ≤ (text_of bytes).lo). omega (arith, last, some_text, before))
        (λ (behind : (text_of bytes).hi ≤ s.address). omega (arith, first, some_text, behind))
        aside.memory

-- Two parts

own_within : (p : Piece) (s : Segment) → IsPartOf p s → IsWithin p.address p.size s.address s.memsz
own_within p s part = record { low = λ some. part.low; high = λ some. part.high }

pub copy_within : (p : Piece) (s : Segment) → IsPartOf p s → IsWithin p.load_address (copied p) s.load_address (copy_size s)
copy_within p s part = record { low = part.copy_low; high = part.copy_high }

pub parts_before : (p q : Piece) (s t : Segment) → IsPartOf p s → IsPartOf q t → AreSeparate s t → p.address + p.size ≤ q.address → IsBefore p q
parts_before p q s t of to apart ends = record {
  ends = ends;
  first = apart_within p.address p.size s.address s.memsz q.load_address (copied q) t.load_address (copy_size t) apart.first (own_within p s of) (copy_within q t to);
  second = apart_within q.address q.size t.address t.memsz p.load_address (copied p) s.load_address (copy_size s) apart.second (own_within q t to) (copy_within p s of);
  copies = apart_within p.load_address (copied p) s.load_address (copy_size s) q.load_address (copied q) t.load_address (copy_size t) apart.copies (copy_within p s of) (copy_within q t to);
}

pub no_range : (a n b m : ℕ) → m ≡ 0 → meets a n b m ≡ false
no_range a n b m none = apart_from a n b m (λ some other low high. omega arith)

pub still_before : (p q : Piece) → copied p ≡ 0 → copied q ≡ 0 → p.address + p.size ≤ q.address → IsBefore p q
still_before p q first last ends = record {
  ends = ends;
  first = no_range p.address p.size q.load_address (copied q) last;
  second = no_range q.address q.size p.load_address (copied p) first;
  copies = no_range p.load_address (copied p) q.load_address (copied q) last;
}
