-- The words of the text of an output file, as they are read.
use Rattle.std.proofs.Common.{◌≡◌, ℕ, ◌+◌, ◌-◌, ◌*◌, ◌^◌, ◌<◌, ◌≤◌, true, false, nat_le, map, length, Some, slice_get, option_map, refl, sym, ap, subst, ◌∙◌, arith}
use Rattle.std.proofs.lemmas.Bool.{le-leb, and_right}
use Rattle.std.proofs.lemmas.Option.{slice_get_within, slice_get-map}
use Rattle.sq_num.specs.Refusals.{first_from}
use Rattle.sq_elf.specs.declared.segment.Segment.{Segment}
use Rattle.sq_elf.specs.Fields.{u32_field}
use Rattle.sq_elf.specs.Headers.{phnum_of, is_load, segment_of}
use Rattle.sq_elf.specs.Ranges.{lies_in}
use Rattle.sq_elf.specs.Reading.{has_word, word_in, word_of}
use Rattle.sq_elf.specs.Text.{text_of}
use Rattle.sq_write.specs.Output.{words, Piece, Output, text_piece, pieces_of, text_size, output_file}
use Rattle.sq_write.specs.Points.{point_word, text_points}
use Rattle.sq_write.specs.Written.{written_output, written}
use Rattle.sq_write.proofs.Splitting.{length_words}
use Rattle.law_written.specs.Accepting.{IsAcceptable}
use Rattle.law_written.specs.Contents.{WordsAreRead, WrittenWordsAreRead}
use Rattle.law_written.specs.Fitting.{IsFittingPiece}
use Rattle.law_written.proofs.Accepting.{some_from, at_most_not, order_at, at_middle, at, made_of, place_within, text_segment, same_piece}
use Rattle.law_written.proofs.Lists.{all_at}
use Rattle.law_written.proofs.OutputParts.{PartAt, word_at}
use Rattle.law_written.proofs.Segments.{Knows, piece_stored}
use Rattle.law_written.proofs.Writing.{acceptable}

module _ (o : Output) (can : IsAcceptable o) (k word : ℕ) (is : slice_get o.text k ≡ Some word) (fits : word < 2 ^ 32) where
  within : k < length o.text
  within = slice_get_within o.text k word is

  -- the pieces before text end before the word
  not_in : (offset : ℕ) (p : Piece) → p.address + length p.bytes ≤ o.start → lies_in (o.start + 4 * k) 4 p.address (length p.bytes) ≡ false
  not_in offset p ends =
      and_right (nat_le p.address (o.start + 4 * k)) (nat_le (o.start + 4 * k + 4) (p.address + length p.bytes))
      (at_most_not (o.start + 4 * k + 4) (p.address + length p.bytes) (omega arith))

  earlier_not : (j : ℕ) → j < length o.before → has_word (output_file o) (o.start + 4 * k) j ≡ false
  earlier_not j below =
      let here = at o can j (omega (arith, place_within o can)) in
      let before = order_at (pieces_of o) can.in_order j (length o.before) here.piece (text_piece o) below here.is_piece (at_middle o.before (text_piece o) o.after) in
      let fitting = all_at IsFittingPiece (pieces_of o) can.fits.pieces j here.piece here.is_piece in
      and_right (is_load (output_file o) j) (lies_in (o.start + 4 * k) 4 (segment_of (output_file o) j).address (segment_of (output_file o) j).filesz)
      (subst (λ (s : Segment). lies_in (o.start + 4 * k) 4 s.address s.filesz ≡ false) (sym (made_of o can j here))
      (not_in here.segment.offset here.piece (omega (arith, before.ends, fitting.stored))))

  here : Knows o can.fits (length o.before)
  here = at o can (length o.before) (place_within o can)

  in_text : has_word (output_file o) (o.start + 4 * k) (length o.before) ≡ true
  in_text =
      let low : nat_le o.start (o.start + 4 * k) ≡ true = le-leb o.start (o.start + 4 * k) (omega arith) in
      let high : nat_le (o.start + 4 * k + 4) (o.start + text_size o) ≡ true = le-leb (o.start + 4 * k + 4) (o.start + text_size o) (omega (arith, within, length_words o.text)) in
      let lies : lies_in (o.start + 4 * k) 4 o.start (text_size o) ≡ true = rw (low, high) refl in
      let there : lies_in (o.start + 4 * k) 4 (segment_of (output_file o) (length o.before)).address (segment_of (output_file o) (length o.before)).filesz ≡ true =
      subst (λ (s : Segment). lies_in (o.start + 4 * k) 4 s.address s.filesz ≡ true) (sym (text_segment o can here)) lies
      in
      rw (here.read.load, there) refl

  found : first_from (has_word (output_file o) (o.start + 4 * k)) 0 (phnum_of (output_file o)) ≡ Some (length o.before)
  found =
      some_from (has_word (output_file o) (o.start + 4 * k)) 0 (phnum_of (output_file o)) (length o.before) (omega arith) (omega (arith, place_within o can))
      (λ j low below. earlier_not j below) in_text

  stored : PartAt (output_file o) here.segment.offset (words o.text)
  stored =
      let same = same_piece o can here.piece (text_piece o) (slice_get (pieces_of o) (length o.before)) here.is_piece (at_middle o.before (text_piece o) o.after) in
      subst (λ (p : Piece). PartAt (output_file o) here.segment.offset p.bytes) same (piece_stored o (length o.before) here.piece here.segment here.is_piece here.is_segment)

  word_here : word_in (output_file o) (segment_of (output_file o) (length o.before)) (o.start + 4 * k) ≡ word
  word_here =
      let skip : o.start + 4 * k - o.start ≡ 4 * k = omega arith in
      ap (λ s. word_in (output_file o) s (o.start + 4 * k)) (text_segment o can here)
      ∙ ap (λ n. u32_field (output_file o) (here.segment.offset + n)) skip
      ∙ word_at (output_file o) here.segment.offset o.text stored k word is fits

  word_is : word_of (output_file o) (o.start + 4 * k) ≡ Some word
  unfolding word_of
  word_is =
      ap (option_map (λ index. word_in (output_file o) (segment_of (output_file o) index) (o.start + 4 * k))) found
      ∙ ap Some word_here

pub words_are_read : WordsAreRead
words_are_read = λ o can k word is fits. word_is o can k word is fits

pub written_words_are_read : WrittenWordsAreRead
unfolding written
written_words_are_read = λ bytes g can k p is fits.
    let lo = (text_of bytes).lo in
    let there : slice_get (map point_word (text_points g (text_of bytes).lo)) k ≡ Some (point_word p) = slice_get-map point_word (text_points g (text_of bytes).lo) k ∙ ap (option_map point_word) is in
    words_are_read (written_output bytes g) (acceptable bytes g can) k (point_word p) there fits
