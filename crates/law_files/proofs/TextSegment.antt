-- The text segment of a file that isn't refused has memory, and may be executed.
use Rattle.std.proofs.Common.{◌≡◌, ℕ, ◌≤◌, ◌<◌, nat_eq, nat_lt, Bool, true, false, not, List, [], ◌∷◌, Option, Some, None, is_some, if◌then◌else◌, refl, arith, bit_and}
use Rattle.std.proofs.lemmas.Bool.{and_from, and_parts}
use Rattle.std.proofs.lemmas.Bool.Decides.{nat_tests}
use Rattle.sq_elf.specs.declared.segment.Segment.{Segment}
use Rattle.sq_elf.specs.Headers.{shnum_of, is_load, section_of, segment_of}
use Rattle.sq_elf.specs.Text.{text_of as text_range, is_executable_at, first_executable, text_segment_of, holds, holds_at, splits}
use Rattle.sq_elf.specs.Memory.{has_memory}
use Rattle.sq_elf.specs.Refusing.{without_text, bad_text_section, text_split, text_moved, text_too_large, file_refusal_of}
use Rattle.sq_elf.proofs.Accepted.{single_passes, text_accepted}
use Rattle.sq_elf.proofs.Passing.{row_passes, behind_row, IsFirst, found_from}
use Rattle.sq_elf.proofs.TextFacts.{TextFacts, text_facts}
use Rattle.law_files.proofs.FileBytes.{lt_is, whole as segment_whole}

if_true : (b h c : Bool) → (if b then not h else c) ≡ false → b ≡ true → h ≡ true
if_true true true c e f = refl
if_true true false c e f = absurd (cc)
if_true false h c e f = absurd (cc)

some_there : (o : Option ℕ) → not (is_some o) ≡ false → (k : ℕ) × (o ≡ Some k)
some_there None e = absurd (cc)
some_there (Some k) e = (k, refl)

module _ (bytes : List ℕ) (accepted : file_refusal_of bytes ≡ None) where
  facts : TextFacts bytes accepted
  facts = text_facts bytes accepted

  abbrev number : ℕ
  number = text_segment_of bytes

  abbrev segment : Segment
  segment = segment_of bytes number

  -- the text segment may be executed
  pub flagged : nat_eq (bit_and segment.flags 1) 1 ≡ true
  flagged =
      let first = some_there (first_executable bytes) (single_passes _ _ (bad_text_section bytes ∷ text_split bytes ∷ text_moved bytes ∷ text_too_large bytes ∷ []) (text_accepted bytes accepted)) in
      let found : IsFirst (is_executable_at bytes) 0 (shnum_of bytes) first.0 = found_from (is_executable_at bytes) 0 (shnum_of bytes) first.0 first.1 in
      let high = found.high in
      let below : first.0 < shnum_of bytes = omega arith in
      let held = if_true (is_executable_at bytes first.0) (holds_at bytes (section_of bytes first.0) number) _ (unsplit first.0 below) found.here in
      let loaded = and_parts (is_load bytes number) (holds segment (section_of bytes first.0)) held in
      (and_parts (nat_eq (bit_and segment.flags 1) 1) _ loaded.1).0
    where
      unsplit : (k : ℕ) → k < shnum_of bytes → splits bytes (text_range bytes) number k ≡ false
      unsplit =
          row_passes (text_split bytes) (text_moved bytes ∷ text_too_large bytes ∷ [])
          (behind_row (bad_text_section bytes) (text_split bytes ∷ text_moved bytes ∷ text_too_large bytes ∷ [])
          (behind_row (without_text bytes) (bad_text_section bytes ∷ text_split bytes ∷ text_moved bytes ∷ text_too_large bytes ∷ []) (text_accepted bytes accepted)))

  pub text_whole : segment.filesz ≤ segment.memsz
  text_whole = segment_whole bytes accepted number facts.within facts.load

  pub has_text : has_memory bytes number ≡ true
  has_text =
      let a = facts.inside.low in
      let b = facts.inside.some in
      let c = facts.inside.high in
      let d = text_whole in
      let some : 0 < segment.memsz = omega arith in
      and_from (is_load bytes number) (nat_lt 0 segment.memsz) facts.load (lt_is 0 segment.memsz some)

  -- it is loaded where it stands
  pub unmoved : segment.load_address ≡ segment.address
  unmoved =
      let rows = behind_row (text_split bytes) (text_moved bytes ∷ text_too_large bytes ∷ []) (behind_row (bad_text_section bytes) (text_split bytes ∷ text_moved bytes ∷ text_too_large bytes ∷ []) (behind_row (without_text bytes) (bad_text_section bytes ∷ text_split bytes ∷ text_moved bytes ∷ text_too_large bytes ∷ []) (text_accepted bytes accepted))) in
      equal segment.load_address segment.address (single_passes _ _ (text_too_large bytes ∷ []) rows)
    where
      equal : (a b : ℕ) → not (nat_eq a b) ≡ false → a ≡ b
      equal a b e = grind (arith, nat_tests)
