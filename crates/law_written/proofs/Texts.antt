-- The text of an output file.
use Rattle.std.proofs.Common.{◌≡◌, ℕ, suc, ◌+◌, ◌<◌, true, false, nat_lt, min, max, List, length, Some, slice_get, refl, ap, ◌∙◌, arith}
use Rattle.std.proofs.lemmas.Bool.{lt-ltb}
use Rattle.sq_elf.specs.declared.section.Section.{Section as ReadSection}
use Rattle.sq_elf.specs.declared.text.Text.{Text}
use Rattle.sq_elf.specs.Headers.{section_of}
use Rattle.sq_elf.specs.Text.{is_executable, widened, no_text, text_before, text_of}
use Rattle.sq_write.specs.Output.{Output, text_piece, text_size, pieces_of, pieces_at, piece_bytes, Section, output_file}
use Rattle.law_written.specs.Fitting.{IsFittingPiece, IsFitting}
use Rattle.law_written.specs.Reading.{seen, output_sections, section_parts, TextIsRead}
use Rattle.law_written.proofs.Headers.{headers_are_read}
use Rattle.law_written.proofs.Lists.{all_middle}
use Rattle.law_written.proofs.Sections.{sections_are_read}

not_widened : (text : Text) (s : ReadSection) → s.flags ≡ 0 → widened text s ≡ text
not_widened text s plain = let none : is_executable s ≡ false = rw plain refl in rw none refl

is_widened : (text : Text) (s : ReadSection) → s.flags ≡ 6 → 0 < s.size → widened text s ≡ record { lo = min text.lo s.address; hi = max text.hi (s.address + s.size) }
is_widened text s code some =
    let sized : nat_lt 0 s.size ≡ true = lt-ltb 0 s.size some in
    let runs : is_executable s ≡ true = rw (code, sized) refl in
    rw runs refl

no_sections : (file : List ℕ) → text_before file 0 ≡ no_text
unfolding text_before
no_sections file = refl

one_section : (file : List ℕ) (k : ℕ) → text_before file (suc k) ≡ widened (text_before file k) (section_of file k)
unfolding text_before
one_section file k = refl

-- a section that can't be executed leaves the text as it is
plain_section : (file : List ℕ) (k : ℕ) (text : Text) (s : ReadSection) → text_before file k ≡ text → section_of file k ≡ s → s.flags ≡ 0 → text_before file (suc k) ≡ text
plain_section file k text s before is plain =
    one_section file k ∙ ap (λ t. widened t (section_of file k)) before ∙ ap (widened text) is ∙ not_widened text s plain

-- the section of text
abbrev pub code_section : Output → ReadSection
code_section o = record {
  kind = 1;
  flags = 6;
  address = o.start;
  offset = pieces_at (length (pieces_of o)) + length (piece_bytes o.before);
  size = text_size o;
  link = 0;
  info = 0;
  entsize = 0;
}

text : ℕ → ℕ → Text
text low high = record { lo = low; hi = high }

module _ (o : Output) (fits : IsFitting o) where
  section_is : (k : ℕ) (s : Section) (part : List ℕ) → slice_get (output_sections o) k ≡ Some s → slice_get (section_parts o) k ≡ Some part → section_of (output_file o) k ≡ seen s
  section_is k s part is has = (sections_are_read o fits k s part is has).0

  piece_fits : IsFittingPiece (text_piece o)
  piece_fits = all_middle IsFittingPiece o.before (text_piece o) o.after fits.pieces

  code : Text
  code = record { lo = o.start; hi = o.start + text_size o }

  first_two : text_before (output_file o) 2 ≡ code
  unfolding code text
  first_two =
      let file = output_file o in
      let none = plain_section file 0 no_text _ (no_sections file) (section_is 0 _ _ refl refl) refl in
      let low : min 0xffffffff o.start ≡ o.start = omega (arith, piece_fits.address) in
      let high : max 0 (o.start + text_size o) ≡ o.start + text_size o = omega arith in
      one_section file 1 ∙ ap (λ t. widened t (section_of file 1)) none ∙ ap (widened no_text) (section_is 1 _ _ refl refl)
      ∙ is_widened no_text (code_section o) refl piece_fits.some ∙ ap (λ n. text n (max 0 (o.start + text_size o))) low ∙ ap (text o.start) high

  whole : text_before (output_file o) 7 ≡ code
  whole =
      let file = output_file o in
      let third = plain_section file 2 code _ first_two (section_is 2 _ _ refl refl) refl in
      let fourth = plain_section file 3 code _ third (section_is 3 _ _ refl refl) refl in
      let fifth = plain_section file 4 code _ fourth (section_is 4 _ _ refl refl) refl in
      let sixth = plain_section file 5 code _ fifth (section_is 5 _ _ refl refl) refl in
      plain_section file 6 code _ sixth (section_is 6 _ _ refl refl) refl

  pub text_here : text_of (output_file o) ≡ record { lo = o.start; hi = o.start + text_size o }
  unfolding code
  text_here = ap (text_before (output_file o)) (headers_are_read o fits).0.sections ∙ whole

pub text_is_read : TextIsRead
text_is_read = λ o fits. text_here o fits
