-- The note of the file of a graph lists its procedures.
use Rattle.std.proofs.Common.{◌≡◌, ℕ, suc, ◌+◌, ◌*◌, ◌^◌, ◌<◌, ◌≤◌, ◌==◌, true, false, nat_le, List, [], ◌∷◌, ◌++◌, length, sum_by, slice_index, codes, Some, refl, sym, ap, ◌∙◌, arith, append-nil, length-append, eq-eqb}
use Rattle.std.specs.List.{All}
use Rattle.std.proofs.lemmas.Bool.{le-leb}
use Rattle.std.proofs.lemmas.List.Elements.{All-head, All-tail}
use Rattle.std.proofs.lemmas.List.Sums.{sum_by-cons}
use Rattle.sq_elf.specs.declared.section.Section.{Section as ReadSection}
use Rattle.sq_elf.specs.Fields.{u32_field}
use Rattle.sq_elf.specs.Ranges.{bytes_at}
use Rattle.sq_elf.specs.Reading.{section_at, contents_in}
use Rattle.sq_elf.specs.Text.{text_of}
use Rattle.sq_graph.specs.Graph.{Procedure, Graph}
use Rattle.sq_graph.specs.Rules.{ProcedureFits}
use Rattle.sq_graph.specs.Words.{procedure_words}
use Rattle.law_program.specs.Programs.{Text, Note}
use Rattle.law_program.specs.NoteSections.{note_if, note_sections_before, note_sections, full_note, full_notes, magic_1, magic_2, notes_in, notes_in_bytes, notes_in_sections, notes_of}
use Rattle.sq_write.specs.Output.{words, Output, contents_at, contents_of, offsets, note_kind, output_file}
use Rattle.sq_write.specs.Plain.{empty_note}
use Rattle.sq_write.specs.Points.{procedures_at}
use Rattle.sq_write.specs.Written.{note_entries, note_from, written_output, written}
use Rattle.law_written.specs.Fitting.{IsFitting}
use Rattle.law_written.specs.Written.{IsWritable}
use Rattle.law_written.proofs.Headers.{headers_are_read}
use Rattle.law_written.proofs.OutputParts.{PartAt, part_here, part_whole, part_behind, first_part, rest_part, word_at}
use Rattle.law_written.proofs.Sections.{sections_are_read}
use Rattle.law_written.proofs.Writing.{fitting}
use Rattle.law_written.specs.Programs.{notes_from, graph_notes, WrittenNotesAreRead}
use Rattle.law_written.proofs.Entries.{section_there}
use Rattle.law_written.proofs.WrittenRelocations.{high}

-- The entries

note_size : (at : ℕ) (ps : List Procedure) → length (note_entries at ps) ≡ 12 * length ps
note_size at [] = refl
note_size at (p ∷ ps) = omega (arith, note_size (at + 4 * procedure_words p) ps)

made_note : ℕ → ℕ → ℕ → Note
made_note address link size = record { address = address; link = link; length = size }

entry_read : (note : List ℕ) (off at link size : ℕ) → at < 2 ^ 32 → link < 2 ^ 32 → size < 2 ^ 32 → PartAt note off (words (at ∷ link ∷ size ∷ [])) → full_note note off ≡ made_note at link size
unfolding made_note
entry_read note off at link size small_at small_link small_size has =
    let same : off ≡ off + 4 * 0 = omega arith in
    let first : u32_field note off ≡ at = ap (u32_field note) same ∙ word_at note off (at ∷ link ∷ size ∷ []) has 0 at refl small_at in
    let second : u32_field note (off + 4) ≡ link = word_at note off (at ∷ link ∷ size ∷ []) has 1 link refl small_link in
    let third : u32_field note (off + 8) ≡ size = word_at note off (at ∷ link ∷ size ∷ []) has 2 size refl small_size in
    rw (first, second, third) refl

entries_read : (note : List ℕ) (off at : ℕ) (ps : List Procedure) → at + 4 * sum_by procedure_words ps ≤ 2 ^ 32 → All ProcedureFits ps → PartAt note off (note_entries at ps) → full_notes note off (length ps) ≡ notes_from at ps
unfolding made_note
entries_read note off at [] ends all has = refl
entries_read note off at (p ∷ ps) ends all has =
    let fits = All-head ProcedureFits p ps all in
    let sum = sum_by-cons procedure_words p ps in
    let here = entry_read note off at p.link (length p.body) (omega (arith, ends, sum)) (omega (arith, fits.register)) (omega (arith, ends, sum)) (first_part note off (words (at ∷ p.link ∷ length p.body ∷ [])) (note_entries (at + 4 * procedure_words p) ps) has) in
    let rest : PartAt note (off + 12) (note_entries (at + 4 * procedure_words p) ps) = rest_part note off (words (at ∷ p.link ∷ length p.body ∷ [])) (note_entries (at + 4 * procedure_words p) ps) has in
    let more = entries_read note (off + 12) (at + 4 * procedure_words p) ps (omega (arith, ends, sum)) (All-tail ProcedureFits p ps all) rest in
    ap (λ n. n ∷ full_notes note (off + 12) (length ps)) here ∙ ap (λ ns. made_note at p.link (length p.body) ∷ ns) more

-- The whole note

record HasHead (note : List ℕ) (magic count : ℕ) : Type 0 where
  first : u32_field note 0 ≡ magic
  second : u32_field note 4 ≡ count

head_read : (magic count : ℕ) (rest : List ℕ) → magic < 2 ^ 32 → count < 2 ^ 32 → HasHead (words (magic ∷ count ∷ []) ++ rest) magic count
head_read magic count rest small_magic small_count =
    let note = words (magic ∷ count ∷ []) ++ rest in
    let has : PartAt (words (magic ∷ count ∷ []) ++ rest) 0 (words (magic ∷ count ∷ [])) = part_here (words (magic ∷ count ∷ [])) rest in
    record {
      first = word_at (words (magic ∷ count ∷ []) ++ rest) 0 (magic ∷ count ∷ []) has 0 magic refl small_magic;
      second = word_at (words (magic ∷ count ∷ []) ++ rest) 0 (magic ∷ count ∷ []) has 1 count refl small_count;
    }

first_version : (t : Text) (note : List ℕ) → HasHead note magic_1 0 → length note ≡ 8 → notes_in t note ≡ Some []
first_version t note head size =
    rw (size, head.first, head.second) refl

second_version : (t : Text) (note : List ℕ) (count : ℕ) → HasHead note magic_2 count → length note ≡ 8 + 12 * count → notes_in t note ≡ Some (full_notes note 8 count)
second_version t note count head size =
    let long : nat_le 8 (8 + 12 * count) ≡ true = le-leb 8 (8 + 12 * count) (omega arith) in
    let same : ((8 + 12 * count) == (8 + 12 * count)) ≡ true = eq-eqb (8 + 12 * count) (8 + 12 * count) refl in
    rw (size, head.first, head.second) (rw (long, same) refl)

empty_words : empty_note ≡ words (magic_1 ∷ 0 ∷ []) ++ []
empty_words = refl

full_words : (count : ℕ) (rest : List ℕ) → codes "SQZ2" ++ words (count ∷ []) ++ rest ≡ words (magic_2 ∷ count ∷ []) ++ rest
full_words count rest = refl

note_read : (t : Text) (at : ℕ) (ps : List Procedure) → at + 4 * sum_by procedure_words ps ≤ 2 ^ 32 → All ProcedureFits ps → notes_in t (note_from at ps) ≡ Some (notes_from at ps)
note_read t at [] ends all =
    ap (notes_in t) empty_words ∙ first_version t (words (magic_1 ∷ 0 ∷ []) ++ []) (head_read magic_1 0 [] (omega arith) (omega arith)) refl
note_read t at (p ∷ ps) ends all =
    let count = length (p ∷ ps) in
    let rest = note_entries at (p ∷ ps) in
    let note = words (magic_2 ∷ length (p ∷ ps) ∷ []) ++ note_entries at (p ∷ ps) in
    let few : length (p ∷ ps) < 2 ^ 32 = omega (arith, ends, few_procedures (p ∷ ps)) in
    let size : length (words (magic_2 ∷ length (p ∷ ps) ∷ []) ++ note_entries at (p ∷ ps)) ≡ 8 + 12 * length (p ∷ ps) = omega (arith, length-append (words (magic_2 ∷ length (p ∷ ps) ∷ [])) (note_entries at (p ∷ ps)), note_size at (p ∷ ps)) in
    let has : PartAt (words (magic_2 ∷ length (p ∷ ps) ∷ []) ++ note_entries at (p ∷ ps)) 8 (note_entries at (p ∷ ps)) = part_behind (words (magic_2 ∷ length (p ∷ ps) ∷ [])) (note_entries at (p ∷ ps)) 0 (note_entries at (p ∷ ps)) (part_whole (note_entries at (p ∷ ps))) in
    ap (notes_in t) (full_words (length (p ∷ ps)) (note_entries at (p ∷ ps)))
    ∙ second_version t (words (magic_2 ∷ length (p ∷ ps) ∷ []) ++ note_entries at (p ∷ ps)) (length (p ∷ ps)) (head_read magic_2 (length (p ∷ ps)) (note_entries at (p ∷ ps)) (omega arith) few) size
    ∙ ap Some (entries_read (words (magic_2 ∷ length (p ∷ ps) ∷ []) ++ note_entries at (p ∷ ps)) 8 at (p ∷ ps) ends all has)
  where
    few_procedures : (qs : List Procedure) → length qs ≤ sum_by procedure_words qs
    few_procedures [] = omega arith
    few_procedures (q ∷ qs) = omega (arith, few_procedures qs, sum_by-cons procedure_words q qs)

-- The section

next_section : (file : List ℕ) (k : ℕ) → note_sections_before file (suc k) ≡ note_sections_before file k ++ note_if (section_at file k)
next_section file k = refl

module _ (o : Output) (fits : IsFitting o) where
  abbrev note_section : ReadSection
  note_section = record {
    kind = note_kind;
    flags = 0;
    address = 0;
    offset = slice_index (offsets (contents_at o) (contents_of o)) 3;
    size = length o.note;
    link = 0;
    info = 0;
    entsize = 0;
  }

  plain : (k : ℕ) (s : ReadSection) (ss : List ReadSection) → note_sections_before (output_file o) k ≡ ss → section_at (output_file o) k ≡ Some s → (s.kind == note_kind) ≡ false → note_sections_before (output_file o) (suc k) ≡ ss
  plain k s ss before is other =
      let none : note_if (Some s) ≡ [] = rw other refl in
      next_section (output_file o) k ∙ ap (λ xs. xs ++ note_if (section_at (output_file o) k)) before ∙ ap (λ x. ss ++ note_if x) is ∙ ap (λ xs. ss ++ xs) none ∙ append-nil ss

  the_note : note_sections (output_file o) ≡ note_section ∷ []
  the_note =
      let file = output_file o in
      let first = plain 0 _ [] refl (section_there o fits 0 _ _ refl refl (omega arith)) refl in
      let second = plain 1 _ [] first (section_there o fits 1 _ _ refl refl (omega arith)) refl in
      let third = plain 2 _ [] second (section_there o fits 2 _ _ refl refl (omega arith)) refl in
      let fourth = plain 3 _ [] third (section_there o fits 3 _ _ refl refl (omega arith)) refl in
      let fifth = plain 4 _ [] fourth (section_there o fits 4 _ _ refl refl (omega arith)) refl in
      let there : section_at (output_file o) 5 ≡ Some note_section = section_there o fits 5 _ _ refl refl (omega arith) in
      let sixth : note_sections_before (output_file o) 6 ≡ note_section ∷ [] = next_section (output_file o) 5 ∙ ap (λ xs. xs ++ note_if (section_at (output_file o) 5)) fifth ∙ ap note_if there in
      let seventh = plain 6 _ (note_section ∷ []) sixth (section_there o fits 6 _ _ refl refl (omega arith)) refl in
      let header = (headers_are_read o fits).0 in
      ap (note_sections_before (output_file o)) header.sections ∙ seventh

  its_bytes : bytes_at (output_file o) note_section.offset note_section.size ≡ Some o.note
  its_bytes =
      let there : section_at (output_file o) 5 ≡ Some note_section = section_there o fits 5 _ _ refl refl (omega arith) in
      sym (ap (contents_in (output_file o)) there) ∙ (sections_are_read o fits 5 _ _ refl refl).1

  pub note_there : (t : Text) → notes_of (output_file o) t ≡ notes_in t o.note
  note_there t = ap (notes_in_sections (output_file o) t) the_note ∙ ap (notes_in_bytes t) its_bytes

module _ (bytes : List ℕ) (g : Graph) (can : IsWritable bytes g) where
  pub notes_here : (t : Text) → notes_of (written bytes g) t ≡ Some (graph_notes g (text_of bytes).lo)
  unfolding written
  notes_here t =
      note_there (written_output bytes g) (fitting bytes g can) t
      ∙ note_read t (procedures_at g (text_of bytes).lo) g.procedures (omega (arith, can.words, high bytes g can)) can.rules.procedures

pub written_notes_are_read : WrittenNotesAreRead
written_notes_are_read = λ bytes g can t. notes_here bytes g can t
