-- The parts of a written file, and how large they are.
use Rattle.std.proofs.Common.{◌≡◌, ℕ, suc, ◌+◌, ◌*◌, ◌-◌, ◌≤◌, true, false, min, ◌⊎◌, inl, inr, List, [], ◌∷◌, map, filter, take, drop, length, sum_by, Option, refl, ap, ◌∙◌, arith, length-append, length-drop}
use Rattle.std.proofs.lemmas.Bool.{cases_Bool}
use Rattle.std.proofs.lemmas.List.{length-take}
use Rattle.std.proofs.lemmas.List.Sums.{sum_by-cons}
use Rattle.sq_elf.specs.declared.segment.Segment.{Segment}
use Rattle.sq_elf.specs.Ranges.{leaves, bytes_at}
use Rattle.sq_elf.specs.Text.{text_of}
use Rattle.sq_elf.specs.Memory.{file_bytes_of, segments_of}
use Rattle.sq_graph.specs.Graph.{Graph}
use Rattle.sq_graph.specs.Words.{words_of}
use Rattle.sq_write.specs.Output.{words, Piece, piece_bytes, relocation_table}
use Rattle.sq_write.specs.Points.{new_address, point_word, text_points}
use Rattle.sq_write.specs.Pieces.{by_address, set_word_at, with_words, part_before, part_behind, is_some_piece, pieces_before, pieces_behind}
use Rattle.sq_write.specs.Written.{entries_of, note_of, written_output}
use Rattle.sq_write.specs.Laid.{FileParts, IsFew, parts_of}
use Rattle.sq_write.proofs.Lengths.{text_bytes, few_entries, few_noted}
use Rattle.sq_write.proofs.PieceWalks.{count_split, size_split}

-- the parts of a text that starts at `lo`
parts_at : List ℕ → Graph → ℕ → FileParts
parts_at bytes g lo = record {
  entry = new_address g lo g.entry;
  before = pieces_before bytes (set_word_at g lo);
  text = record { address = lo; load_address = lo; bytes = words (map point_word (text_points g lo)); size = length (words (map point_word (text_points g lo))); flags = 5 };
  behind = pieces_behind bytes (set_word_at g lo);
  entries = relocation_table (entries_of g lo);
  note = note_of g lo;
}

parts : ℕ → List Piece → Piece → List Piece → List ℕ → List ℕ → FileParts
parts entry before text behind entries note =
    record { entry = entry; before = before; text = text; behind = behind; entries = entries; note = note }

text_with : ℕ → List ℕ → Piece
text_with lo bytes = record { address = lo; load_address = lo; bytes = bytes; size = length bytes; flags = 5 }

pub same_parts : (bytes : List ℕ) (g : Graph) (lo entry : ℕ) (set : ℕ → Option ℕ) (before behind : List Piece) (text : Piece) (spelled entries note : List ℕ) → lo ≡ (text_of bytes).lo → entry ≡ new_address g lo g.entry → ((x : ℕ) → set x ≡ set_word_at g lo x) → before ≡ pieces_before bytes set → behind ≡ pieces_behind bytes set → spelled ≡ words (map point_word (text_points g lo)) → text ≡ record { address = lo; load_address = lo; bytes = spelled; size = length spelled; flags = 5 } → entries ≡ relocation_table (entries_of g lo) → note ≡ note_of g lo → record { entry = entry; before = before; text = text; behind = behind; entries = entries; note = note } ≡ parts_of (written_output bytes g)
unfolding parts_at parts text_with
same_parts bytes g lo entry set before behind text spelled entries note start is_entry is_set is_before is_behind is_spelled is_text is_entries is_note =
    let sets : set ≡ set_word_at g lo = λ i x. is_set x i in
    let first = is_before ∙ ap (pieces_before bytes) sets in
    let last = is_behind ∙ ap (pieces_behind bytes) sets in
    let middle = is_text ∙ ap (text_with lo) is_spelled in
    ap (λ x. parts x before text behind entries note) is_entry
    ∙ ap (λ x. parts (new_address g lo g.entry) x text behind entries note) first
    ∙ ap (λ x. parts (new_address g lo g.entry) (pieces_before bytes (set_word_at g lo)) x behind entries note) middle
    ∙ ap (λ x. parts (new_address g lo g.entry) (pieces_before bytes (set_word_at g lo)) (text_with lo (words (map point_word (text_points g lo)))) x entries note) last
    ∙ ap (λ x. parts (new_address g lo g.entry) (pieces_before bytes (set_word_at g lo)) (text_with lo (words (map point_word (text_points g lo)))) (pieces_behind bytes (set_word_at g lo)) x note) is_entries
    ∙ ap (λ x. parts (new_address g lo g.entry) (pieces_before bytes (set_word_at g lo)) (text_with lo (words (map point_word (text_points g lo)))) (pieces_behind bytes (set_word_at g lo)) (relocation_table (entries_of g lo)) x) is_note
    ∙ ap (parts_at bytes g) start

-- Sizes

pub length_set : (set : ℕ → Option ℕ) (x : ℕ) (bs : List ℕ) → length (with_words set x bs) ≡ length bs
length_set set x [] = refl
length_set set x (b ∷ bs) = ap suc (length_set set (x + 1) bs)

pub stored_bytes : (bytes : List ℕ) (s : Segment) → length (file_bytes_of bytes s) ≤ s.filesz
unfolding bytes_at
stored_bytes bytes s = by_test (cases_Bool (leaves bytes s.offset s.filesz))
  where
    by_test : (leaves bytes s.offset s.filesz ≡ true) ⊎ (leaves bytes s.offset s.filesz ≡ false) → length (file_bytes_of bytes s) ≤ s.filesz
    by_test (inl e) = rw e (omega arith)
    by_test (inr e) = rw e (omega (arith, length-take s.filesz (drop s.offset bytes)))

module _ (bytes : List ℕ) (set : ℕ → Option ℕ) (some : (text_of bytes).lo ≤ (text_of bytes).hi) where
  both_parts : (s : Segment) → length (part_before bytes set s).bytes + length (part_behind bytes set s).bytes ≤ s.filesz
  both_parts s =
      let lo = (text_of bytes).lo in
      let hi = (text_of bytes).hi in
      let stored = file_bytes_of bytes s in
      let size = s.memsz - ((text_of bytes).hi - s.address) in
      omega (
        arith,
        stored_bytes bytes s,
        some,
        length_set set (s.address + 0) (take (min s.memsz (lo - s.address)) (drop 0 stored)),
        length-take (min s.memsz (lo - s.address)) (drop 0 stored),
        length_set set (s.address + (hi - s.address)) (take size (drop (hi - s.address) stored)),
        length-take size (drop (hi - s.address) stored),
        length-drop (hi - s.address) stored,
      )

  kept_bytes : (f : Segment → Piece) (ss : List Segment) → length (piece_bytes (filter is_some_piece (map f ss))) ≤ sum_by (λ s. length (f s).bytes) ss
  kept_bytes f [] = omega arith
  kept_bytes f (s ∷ ss) = by_test (cases_Bool (is_some_piece (f s))) (kept_bytes f ss)
    where
      by_test : (is_some_piece (f s) ≡ true) ⊎ (is_some_piece (f s) ≡ false) → length (piece_bytes (filter is_some_piece (map f ss))) ≤ sum_by (λ s. length (f s).bytes) ss → length (piece_bytes (filter is_some_piece (map f (s ∷ ss)))) ≤ sum_by (λ s. length (f s).bytes) (s ∷ ss)
      by_test (inl e) more = rw e (omega (arith, more, sum_by-cons (λ (t : Segment). length (f t).bytes) s ss, length-append (f s).bytes (piece_bytes (filter is_some_piece (map f ss)))))
      by_test (inr e) more = rw e (omega (arith, more, sum_by-cons (λ (t : Segment). length (f t).bytes) s ss))

  kept_count : (f : Segment → Piece) (ss : List Segment) → length (filter is_some_piece (map f ss)) ≤ length ss
  kept_count f [] = omega arith
  kept_count f (s ∷ ss) = by_test (cases_Bool (is_some_piece (f s))) (kept_count f ss)
    where
      by_test : (is_some_piece (f s) ≡ true) ⊎ (is_some_piece (f s) ≡ false) → length (filter is_some_piece (map f ss)) ≤ length ss → length (filter is_some_piece (map f (s ∷ ss))) ≤ suc (length ss)
      by_test (inl e) more = rw e (omega arith)
      by_test (inr e) more = rw e (omega arith)

  both_sums : (ss : List Segment) → sum_by (λ s. length (part_before bytes set s).bytes) ss + sum_by (λ s. length (part_behind bytes set s).bytes) ss ≤ sum_by (λ s. s.filesz) ss
  both_sums [] = omega arith
  both_sums (s ∷ ss) =
      omega (arith, both_sums ss, both_parts s, sum_by-cons (λ (t : Segment). length (part_before bytes set t).bytes) s ss, sum_by-cons (λ (t : Segment). length (part_behind bytes set t).bytes) s ss, sum_by-cons (λ (t : Segment). t.filesz) s ss)

  pub few_around : length (piece_bytes (pieces_before bytes set)) + length (piece_bytes (pieces_behind bytes set)) ≤ sum_by (λ s. s.filesz) (by_address (segments_of bytes))
  few_around =
      omega (arith, both_sums (by_address (segments_of bytes)), kept_bytes (part_before bytes set) (by_address (segments_of bytes)), kept_bytes (part_behind bytes set) (by_address (segments_of bytes)))

  pub few_pieces : length (pieces_before bytes set) + length (pieces_behind bytes set) ≤ 2 * length (by_address (segments_of bytes))
  few_pieces = omega (arith, kept_count (part_before bytes set) (by_address (segments_of bytes)), kept_count (part_behind bytes set) (by_address (segments_of bytes)))

-- the written file is small enough for the fields of its headers
pub few_parts : (bytes : List ℕ) (g : Graph) → (text_of bytes).lo ≤ (text_of bytes).hi → sum_by (λ s. s.filesz) (by_address (segments_of bytes)) ≤ 16777216 → length (by_address (segments_of bytes)) ≤ 128 → words_of g ≤ 262144 → length g.code_words ≤ 4194304 → IsFew (parts_of (written_output bytes g))
few_parts bytes g some stored count text code_words =
    let lo = (text_of bytes).lo in
    let set = set_word_at g (text_of bytes).lo in
    let p = parts_of (written_output bytes g) in
    let pieces = few_pieces bytes (set_word_at g (text_of bytes).lo) some in
    let around = few_around bytes (set_word_at g (text_of bytes).lo) some in
    record {
      pieces = omega (arith, count_split p, pieces, count);
      bytes = omega (arith, count_split p, size_split p, pieces, around, stored, count, text_bytes g lo, few_entries g lo, few_noted g lo, text, code_words);
    }
