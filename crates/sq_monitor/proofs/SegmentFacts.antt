-- What is known of the segments of a file that is not refused.
use Rattle.std.proofs.Common.{◌≡◌, ℕ, ◌+◌, ◌≤◌, ◌<◌, ◌^◌, true, false, ◌||◌, nat_lt, [], ◌∷◌, List, None, arith}
use Rattle.std.proofs.lemmas.Bool.Decides.{nat_tests}
use Rattle.std.proofs.lemmas.Bool.{and_parts, or_parts}
use Rattle.sq_elf.specs.declared.segment.Segment.{Segment}
use Rattle.sq_elf.specs.Headers.{phnum_of, is_load, segment_of}
use Rattle.sq_elf.specs.Memory.{has_memory}
use Rattle.sq_elf.specs.Segments.{is_misshapen, is_bad_segment}
use Rattle.sq_elf.specs.Refusing.{bad_segment, segment_kind, segment_overlap, file_refusal_of}
use Rattle.sq_elf.proofs.Accepted.{segments_accepted}
use Rattle.sq_elf.proofs.Passing.{row_passes}
use Rattle.sq_elf.proofs.TextFacts.{second_false}

not_less : (a b : ℕ) → nat_lt a b ≡ false → b ≤ a
not_less a b e = grind (arith, nat_tests)

module _ (bytes : List ℕ) (accepted : file_refusal_of bytes ≡ None) (index : ℕ) (within : index < phnum_of bytes) (has : has_memory bytes index ≡ true) where
  abbrev segment : Segment
  segment = segment_of bytes index

  pub record SegmentFits : Type 0 where
    pub whole : segment.filesz ≤ segment.memsz
    pub end : segment.address + segment.memsz ≤ 2 ^ 32
    pub copy_end : segment.load_address + segment.filesz ≤ 2 ^ 32

  pub segment_fits : SegmentFits
  segment_fits =
      let good : is_bad_segment bytes index ≡ false = row_passes (bad_segment bytes) (segment_kind bytes ∷ segment_overlap bytes ∷ []) (segments_accepted bytes accepted) index within in
      let load = (and_parts (is_load bytes index) (nat_lt 0 segment.memsz) has).0 in
      let shaped = second_false (is_load bytes index) (is_misshapen segment) good load in
      let ends = or_parts (nat_lt segment.memsz segment.filesz || nat_lt (2 ^ 32) (segment.address + segment.memsz)) (nat_lt (2 ^ 32) (segment.load_address + segment.filesz)) shaped in
      let sizes = or_parts (nat_lt segment.memsz segment.filesz) (nat_lt (2 ^ 32) (segment.address + segment.memsz)) ends.0 in
      record {
        whole = not_less segment.memsz segment.filesz sizes.0;
        end = not_less (2 ^ 32) (segment.address + segment.memsz) sizes.1;
        copy_end = not_less (2 ^ 32) (segment.load_address + segment.filesz) ends.1;
      }
