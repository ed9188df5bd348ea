-- The segments of an output file ascend by address; its text is the words of the graph.
use Rattle.std.proofs.Common.{◌≡◌, ℕ, ◌+◌, ◌-◌, ◌*◌, ◌/◌, ◌%◌, ◌<◌, ◌≤◌, nat_eq, nat_lt, nat_le, length, get_or, Some, slice_get, ⊎_elim, refl, sym, ap, subst, arith}
use Rattle.std.specs.List.Sorted.{IsPermutation, IsNonDecreasingBy}
use Rattle.std.proofs.lemmas.Bool.{cases_eq, cases_lt, leb-true, ltb-true, eqb-true, and_parts}
use Rattle.std.proofs.lemmas.List.Sorted.{IsPermutation-refl}
use Rattle.std.proofs.lemmas.Option.{get_or_from_slice_get}
use Rattle.sq_elf.specs.declared.segment.Segment.{Segment}
use Rattle.sq_elf.specs.declared.text.Text.{Text}
use Rattle.sq_elf.specs.Memory.{AreSegments}
use Rattle.sq_elf.specs.Text.{text_of, is_in_text}
use Rattle.sq_graph.specs.Words.{words_of}
use Rattle.sq_write.specs.Output.{Piece, Output, pieces_of, pieces_at, output_file}
use Rattle.sq_write.specs.Written.{written}
use Rattle.law_written.specs.Accepting.{IsAcceptable}
use Rattle.law_written.specs.Contents.{SegmentsAreByAddress, WrittenTextIsWords}
use Rattle.law_written.specs.Reading.{output_segments}
use Rattle.law_written.specs.Written.{IsBefore}
use Rattle.law_written.proofs.Accepting.{order_at}
use Rattle.law_written.proofs.Lists.{some_at}
use Rattle.law_written.proofs.Segments.{length_segments, of_piece, segments_are_read}
use Rattle.law_written.proofs.Writing.{written_sizes}
use Rattle.law_written.proofs.Sound.{facts}

module _ (o : Output) (can : IsAcceptable o) where
  -- the segment of an earlier piece is below that of a later one
  below : (i j : ℕ) (p q : Piece) (s t : Segment) → i < j → slice_get (pieces_of o) i ≡ Some p → slice_get (pieces_of o) j ≡ Some q → slice_get (output_segments o) i ≡ Some s → slice_get (output_segments o) j ≡ Some t → s.address ≤ t.address
  below i j p q s t less is_p is_q is_s is_t =
      let start = pieces_at (length (pieces_of o)) in
      let before : IsBefore p q = order_at (pieces_of o) can.in_order i j p q less is_p is_q in
      let first : s.address ≡ p.address = ap (λ (u : Segment). u.address) (of_piece start (pieces_of o) i p s is_p is_s) in
      let second : t.address ≡ q.address = ap (λ (u : Segment). u.address) (of_piece start (pieces_of o) j q t is_q is_t) in
      omega (arith, before.ends, first, second)

  same_length : length (output_segments o) ≡ length (pieces_of o)
  same_length = length_segments (pieces_at (length (pieces_of o))) (pieces_of o)

  ascending : IsNonDecreasingBy (λ s. s.address) (output_segments o)
  ascending = λ i j d le within.
      let s = some_at (output_segments o) i (omega arith) in
      let t = some_at (output_segments o) j within in
      let p = some_at (pieces_of o) i (omega (arith, same_length)) in
      let q = some_at (pieces_of o) j (omega (arith, same_length)) in
      by_place i j d le s.0 t.0 p.0 q.0 s.1 t.1 p.1 q.1
    where
      by_place : (i j : ℕ) (d : Segment) → i ≤ j → (s t : Segment) (p q : Piece) → slice_get (output_segments o) i ≡ Some s → slice_get (output_segments o) j ≡ Some t → slice_get (pieces_of o) i ≡ Some p → slice_get (pieces_of o) j ≡ Some q → (get_or (output_segments o) i d).address ≤ (get_or (output_segments o) j d).address
      by_place i j d le s t p q is_s is_t is_p is_q =
          ⊎_elim
          (λ (same : i ≡ j). subst (λ k. (get_or (output_segments o) i d).address ≤ (get_or (output_segments o) k d).address) same (omega arith))
          (λ (apart : i ≡ j → ⊥).
          let less : i < j = strictly i j le apart in
          let first = ap (λ (u : Segment). u.address) (get_or_from_slice_get (output_segments o) i s d is_s) in
          let second = ap (λ (u : Segment). u.address) (get_or_from_slice_get (output_segments o) j t d is_t) in
          omega (arith, below i j p q s t less is_p is_q is_s is_t, first, second))
          (cases_eq i j)
        where
          strictly : (a b : ℕ) → a ≤ b → (a ≡ b → ⊥) → a < b
          strictly a b le apart = ⊎_elim (λ (lt : a < b). lt) (λ (ge : b ≤ a). absurd (apart (omega arith))) (cases_lt a b)

  by_address : AreSegments (output_file o) (output_segments o)
  by_address = record {
    all = subst (λ ss. IsPermutation ss (output_segments o)) (sym (segments_are_read o can.fits).segments) (IsPermutation-refl (output_segments o));
    ascending = ascending;
  }

pub segments_are_by_address : SegmentsAreByAddress
segments_are_by_address = λ o can. by_address o can

-- a multiple of 4 between two ends is so many words from the first
word_place : (low high address count : ℕ) → high ≡ low + 4 * count → low % 4 ≡ 0 → low ≤ address → address < high → address % 4 ≡ 0 → (k : ℕ) × (k < count) × (address ≡ low + 4 * k)
word_place low high address count size first above below last =
    ((address - low) / 4, omega arith, omega arith)

pub written_text_is_words : WrittenTextIsWords
written_text_is_words = λ bytes g can address is.
    let file = written bytes g in
    let sizes = written_sizes bytes g can in
    let low : (text_of (written bytes g)).lo ≡ (text_of bytes).lo = ap (λ (t : Text). t.lo) sizes.text in
    let high : (text_of (written bytes g)).hi ≡ (text_of bytes).lo + 4 * words_of g = ap (λ (t : Text). t.hi) sizes.text in
    let parts = and_parts (is_in_text (text_of (written bytes g)) address) (nat_eq (address % 4) 0) is in
    let ends = and_parts (nat_le (text_of (written bytes g)).lo address) (nat_lt address (text_of (written bytes g)).hi) parts.0 in
    word_place (text_of bytes).lo ((text_of bytes).lo + 4 * words_of g) address (words_of g) refl (facts bytes can.accepted).inside.low_word
    (omega (arith, low, leb-true (text_of (written bytes g)).lo address ends.0)) (omega (arith, high, ltb-true address (text_of (written bytes g)).hi ends.1)) (eqb-true (address % 4) 0 parts.1)
