-- A file that is written again, of the same graph, is itself.
use Rattle.std.proofs.Common.{◌≡◌, ℕ, suc, ◌+◌, ◌-◌, ◌*◌, ◌%◌, ◌^◌, ◌<◌, ◌≤◌, true, false, nat_lt, min, List, [], ◌∷◌, ◌++◌, map, filter, take, drop, length, Option, None, Some, slice_get, refl, sym, ap, ◌∙◌, arith}
use Rattle.std.specs.List.{AllByRecursion}
use Rattle.std.proofs.lemmas.Bool.{lt-ltb}
use Rattle.std.proofs.lemmas.List.{take_all}
use Rattle.sq_elf.specs.declared.segment.Segment.{Segment}
use Rattle.sq_elf.specs.declared.text.Text.{Text}
use Rattle.sq_elf.specs.Memory.{segments_of, file_bytes_of}
use Rattle.sq_elf.specs.Text.{text_of}
use Rattle.sq_reloc.specs.Outside.{word_start}
use Rattle.sq_graph.specs.Graph.{Graph}
use Rattle.sq_graph.specs.Words.{words_of}
use Rattle.sq_write.specs.Output.{Piece, Relocation, Output, text_piece, pieces_of, pieces_at, output_file}
use Rattle.sq_write.specs.Pieces.{by_address, set_word_at, set_byte, with_words, without_x, part_of, part_before, part_behind, is_some_piece, pieces_before, pieces_behind}
use Rattle.sq_write.specs.Points.{new_address, point_word, text_points}
use Rattle.sq_write.specs.Written.{entries_of, note_of, written_output, written}
use Rattle.sq_write.proofs.Segments.{segments_are}
use Rattle.law_written.specs.Reading.{segment_at, segments_at, output_segments}
use Rattle.law_written.specs.Written.{IsWritable, WrittenAgain}
use Rattle.law_written.proofs.Ascending.{segments_are_by_address}
use Rattle.law_written.proofs.Ordered.{IsCutBefore, IsCutBehind, ordered_sound, all_before, all_behind}
use Rattle.law_written.proofs.Pairs.{all_map, all_both, all_kept}
use Rattle.law_written.proofs.Segments.{program_headers_are_read}
use Rattle.law_written.proofs.Sound.{IsSound}
use Rattle.law_written.proofs.Writing.{written_is_accepted, written_sizes, acceptable, text_long}

-- WORDS THAT ARE SET TWICE

set_again : (set : Option ℕ) (k b : ℕ) → set_byte set k (set_byte set k b) ≡ set_byte set k b
set_again None k b = refl
set_again (Some to) k b = refl

words_again : (set : ℕ → Option ℕ) (x : ℕ) (bs : List ℕ) → with_words set x (with_words set x bs) ≡ with_words set x bs
words_again set x [] = refl
words_again set x (b ∷ bs) =
    ap (λ c. c ∷ with_words set (x + 1) (with_words set (x + 1) bs)) (set_again (set (word_start x)) (x % 4) b)
    ∙ ap (λ cs. set_byte (set (word_start x)) (x % 4) b ∷ cs) (words_again set (x + 1) bs)

-- PIECES THAT ARE CUT AGAIN

-- a piece whose words are set, which can't be executed, and is loaded within 32 bits
record IsFixed (set : ℕ → Option ℕ) (p : Piece) : Type 0 where
  some : 0 < p.size
  stored : length p.bytes ≤ p.size
  load : p.load_address < 2 ^ 32
  bytes : with_words set p.address p.bytes ≡ p.bytes
  flags : without_x p.flags ≡ p.flags

-- the same piece
same_piece : (p : Piece) (a l z f : ℕ) (bs : List ℕ) → a ≡ p.address → l ≡ p.load_address → bs ≡ p.bytes → z ≡ p.size → f ≡ p.flags → record { address = a; load_address = l; bytes = bs; size = z; flags = f } ≡ p
same_piece p a l z f bs address load stored size flags = rw (address, load, stored, size, flags) refl

-- the bytes of each of these pieces stand in the file, one behind another
AreStored : List ℕ → ℕ → List Piece → Type 0
AreStored file start [] = Unit {0}
AreStored file start (p ∷ ps) =
    (file_bytes_of file (segment_at start p) ≡ p.bytes) × AreStored file (start + length p.bytes) ps

are_stored : (file : List ℕ) (start : ℕ) (ps : List Piece) → ((k : ℕ) (p : Piece) (s : Segment) → slice_get ps k ≡ Some p → slice_get (segments_at start ps) k ≡ Some s → file_bytes_of file s ≡ p.bytes) → AreStored file start ps
unfolding AreStored
are_stored file start [] each = tt
are_stored file start (p ∷ ps) each =
    (each 0 p (segment_at start p) refl refl, are_stored file (start + length p.bytes) ps (λ k. each (suc k)))

-- what is made of the segment of a piece is the piece, or is empty
module _ (file : List ℕ) (f : Segment → Piece) where
  Keeps : Piece → Type 0
  Keeps p = (is_some_piece p ≡ true) × ((start : ℕ) → file_bytes_of file (segment_at start p) ≡ p.bytes → f (segment_at start p) ≡ p)

  Drops : Piece → Type 0
  Drops p = (start : ℕ) → is_some_piece (f (segment_at start p)) ≡ false

  abbrev made : ℕ → List Piece → List Piece
  made start ps = filter is_some_piece (map f (segments_at start ps))

  kept_first : (start : ℕ) (p : Piece) (ps : List Piece) → Keeps p → file_bytes_of file (segment_at start p) ≡ p.bytes → made start (p ∷ ps) ≡ p ∷ made (start + length p.bytes) ps
  unfolding Keeps
  kept_first start p ps keeps stored = rw (keeps.1 start stored, keeps.0) refl

  dropped_first : (start : ℕ) (p : Piece) (ps : List Piece) → Drops p → made start (p ∷ ps) ≡ made (start + length p.bytes) ps
  unfolding Drops
  dropped_first start p ps drops = rw (drops start) refl

  all_kept_again : (start : ℕ) (ps : List Piece) → AreStored file start ps → AllByRecursion Keeps ps → made start ps ≡ ps
  unfolding AreStored
  all_kept_again start [] stored keeps = refl
  all_kept_again start (p ∷ ps) stored keeps =
      kept_first start p ps keeps.0 stored.0 ∙ ap (λ qs. p ∷ qs) (all_kept_again (start + length p.bytes) ps stored.1 keeps.1)

  all_dropped : (start : ℕ) (ps : List Piece) → AllByRecursion Drops ps → made start ps ≡ []
  all_dropped start [] drops = refl
  all_dropped start (p ∷ ps) drops = dropped_first start p ps drops.0 ∙ all_dropped (start + length p.bytes) ps drops.1

  front_kept : (start : ℕ) (ps qs : List Piece) → AreStored file start (ps ++ qs) → AllByRecursion Keeps ps → AllByRecursion Drops qs → made start (ps ++ qs) ≡ ps
  unfolding AreStored
  front_kept start [] qs stored keeps drops = all_dropped start qs drops
  front_kept start (p ∷ ps) qs stored keeps drops =
      kept_first start p (ps ++ qs) keeps.0 stored.0 ∙ ap (λ rest. p ∷ rest) (front_kept (start + length p.bytes) ps qs stored.1 keeps.1 drops)

  back_kept : (start : ℕ) (ps : List Piece) (middle : Piece) (qs : List Piece) → AreStored file start (ps ++ middle ∷ qs) → AllByRecursion Drops ps → Drops middle → AllByRecursion Keeps qs → made start (ps ++ middle ∷ qs) ≡ qs
  unfolding AreStored
  back_kept start [] middle qs stored drops here keeps =
      dropped_first start middle qs here ∙ all_kept_again (start + length middle.bytes) qs stored.1 keeps
  back_kept start (p ∷ ps) middle qs stored drops here keeps =
      dropped_first start p (ps ++ middle ∷ qs) drops.0 ∙ back_kept (start + length p.bytes) ps middle qs stored.1 drops.1 here keeps

-- a part of the segment of a piece that is all of it is the piece
module _ (file : List ℕ) (set : ℕ → Option ℕ) where
  whole_part : (start skip size : ℕ) (p : Piece) → IsFixed set p → skip ≡ 0 → size ≡ p.size → file_bytes_of file (segment_at start p) ≡ p.bytes → part_of file set skip size (segment_at start p) ≡ p
  whole_part start skip size p fixed none all stored =
      let here : p.address + skip ≡ p.address = omega (arith, none) in
      let load : (p.load_address + skip) % 2 ^ 32 ≡ p.load_address = omega (arith, none, fixed.load) in
      let cut : take size (drop skip (file_bytes_of file (segment_at start p))) ≡ p.bytes =
      ap (λ bs. take size (drop skip bs)) stored ∙ ap (λ n. take size (drop n p.bytes)) none ∙ take_all size p.bytes (omega (arith, all, fixed.stored))
      in
      let bytes : with_words set (p.address + skip) (take size (drop skip (file_bytes_of file (segment_at start p)))) ≡ p.bytes =
      ap (with_words set (p.address + skip)) cut ∙ ap (λ x. with_words set x p.bytes) here ∙ fixed.bytes
      in
      same_piece p (p.address + skip) ((p.load_address + skip) % 2 ^ 32) size (without_x p.flags) (with_words set (p.address + skip) (take size (drop skip (file_bytes_of file (segment_at start p))))) here load bytes all fixed.flags

  -- before text, in a piece that ends before it, and in one that begins behind its start
  before_kept : (p : Piece) → IsFixed set p → p.address + p.size ≤ (text_of file).lo → Keeps file (part_before file set) p
  unfolding Keeps
  before_kept p fixed ends =
      (lt-ltb 0 p.size fixed.some, λ start stored. whole_part start 0 (min p.size ((text_of file).lo - p.address)) p fixed refl (omega (arith, ends)) stored)

  before_dropped : (p : Piece) → (text_of file).lo ≤ p.address → Drops file (part_before file set) p
  unfolding Drops
  before_dropped p begins = λ start.
      let none : min p.size ((text_of file).lo - p.address) ≡ 0 = omega (arith, begins) in
      ap (nat_lt 0) none

  -- behind text, in a piece that begins behind it, and in one that ends before its end
  behind_kept : (p : Piece) → IsFixed set p → (text_of file).hi ≤ p.address → Keeps file (part_behind file set) p
  unfolding Keeps
  behind_kept p fixed begins =
      (lt-ltb 0 p.size fixed.some, λ start stored. whole_part start ((text_of file).hi - p.address) (p.size - ((text_of file).hi - p.address)) p fixed (omega (arith, begins)) (omega (arith, begins)) stored)

  behind_dropped : (p : Piece) → p.address + p.size ≤ (text_of file).hi → Drops file (part_behind file set) p
  unfolding Drops
  behind_dropped p ends = λ start.
      let none : p.size - ((text_of file).hi - p.address) ≡ 0 = omega (arith, ends) in
      ap (nat_lt 0) none

-- THE FILE OF A GRAPH, AND WHAT IS WRITTEN OF IT

-- the same output
same_output : (o : Output) (entry start : ℕ) (text note : List ℕ) (before behind : List Piece) (entries : List Relocation) → entry ≡ o.entry → before ≡ o.before → start ≡ o.start → text ≡ o.text → behind ≡ o.after → entries ≡ o.relocations → note ≡ o.note → record { entry = entry; before = before; start = start; text = text; after = behind; relocations = entries; note = note } ≡ o
same_output o entry start text note before behind entries a b c d e f g = rw (a, b, c, d, e, f, g) refl

module _ (bytes : List ℕ) (g : Graph) (can : IsWritable bytes g) where
  abbrev lo : ℕ
  lo = (text_of bytes).lo

  abbrev set : ℕ → Option ℕ
  set = set_word_at g (text_of bytes).lo

  abbrev o : Output
  o = written_output bytes g

  -- the words of a part are set
  IsSet : Piece → Type 0
  IsSet p = (with_words set p.address p.bytes ≡ p.bytes) × (without_x p.flags ≡ p.flags)

  part_is_set : (skip size : ℕ) (s : Segment) → IsSet (part_of bytes set skip size s)
  unfolding IsSet
  part_is_set skip size s =
      (words_again set (s.address + skip) (take size (drop skip (file_bytes_of bytes s))), omega arith)

  set_before : AllByRecursion IsSet (pieces_before bytes set)
  set_before =
      all_kept is_some_piece (part_before bytes set) (IsSound bytes) IsSet (λ s sound kept. part_is_set 0 _ s) (by_address (segments_of bytes)) (ordered_sound bytes can.accepted set)

  set_behind : AllByRecursion IsSet (pieces_behind bytes set)
  set_behind =
      all_kept is_some_piece (part_behind bytes set) (IsSound bytes) IsSet (λ s sound kept. part_is_set _ _ s) (by_address (segments_of bytes)) (ordered_sound bytes can.accepted set)

  abbrev IsFront : Piece → Type 0
  IsFront p = IsCutBefore bytes can.accepted set p × IsSet p

  abbrev IsBack : Piece → Type 0
  IsBack p = IsCutBehind bytes can.accepted set p × IsSet p

  fronts : AllByRecursion IsFront (pieces_before bytes set)
  fronts = all_both (IsCutBefore bytes can.accepted set) IsSet (pieces_before bytes set) (all_before bytes can.accepted set) set_before

  backs : AllByRecursion IsBack (pieces_behind bytes set)
  backs = all_both (IsCutBehind bytes can.accepted set) IsSet (pieces_behind bytes set) (all_behind bytes can.accepted set) set_behind

  front_fixed : (p : Piece) → IsFront p → IsFixed set p
  unfolding IsSet
  front_fixed p front =
      record { some = front.0.cut.some; stored = front.0.cut.stored; load = front.0.cut.load_fits; bytes = front.1.0; flags = front.1.1 }

  back_fixed : (p : Piece) → IsBack p → IsFixed set p
  unfolding IsSet
  back_fixed p back =
      record { some = back.0.cut.some; stored = back.0.cut.stored; load = back.0.cut.load_fits; bytes = back.1.0; flags = back.1.1 }

  abbrev file : List ℕ
  file = output_file (written_output bytes g)

  -- where the text of the file stands
  text : text_of file ≡ record { lo = (text_of bytes).lo; hi = (text_of bytes).lo + 4 * words_of g }
  unfolding written
  text = (written_sizes bytes g can).text

  low : (text_of file).lo ≡ (text_of bytes).lo
  low = ap (λ (t : Text). t.lo) text

  high : (text_of file).hi ≡ (text_of bytes).lo + 4 * words_of g
  high = ap (λ (t : Text). t.hi) text

  text_ends : (text_piece o).address + (text_piece o).size ≡ (text_of file).hi
  text_ends = omega (arith, high, text_long bytes g can)

  stored : AreStored file (pieces_at (length (pieces_of o))) (pieces_of o)
  stored =
      are_stored file (pieces_at (length (pieces_of o))) (pieces_of o)
      (λ k p s is of. (program_headers_are_read o (acceptable bytes g can).fits k p s is of).stored)

  -- its segments by address are those of its pieces
  ordered : by_address (segments_of file) ≡ output_segments o
  unfolding written
  ordered = sym (segments_are file (output_segments o) (written_is_accepted bytes g can) (segments_are_by_address o (acceptable bytes g can)))

  -- the pieces before text, and those behind it, are cut of it again
  same_before : pieces_before file set ≡ pieces_before bytes set
  same_before =
      ap (λ ss. filter is_some_piece (map (part_before file set) ss)) ordered
      ∙ front_kept file (part_before file set) (pieces_at (length (pieces_of o))) (pieces_before bytes set) (text_piece o ∷ pieces_behind bytes set) stored
      (all_map IsFront (Keeps file (part_before file set)) (λ p front. before_kept file set p (front_fixed p front) (omega (arith, front.0.ends, low))) (pieces_before bytes set) fronts)
      (before_dropped file set (text_piece o) (omega (arith, low)), all_map IsBack (Drops file (part_before file set)) (λ p back. before_dropped file set p (omega (arith, back.0.begins, low, can.words))) (pieces_behind bytes set) backs)

  same_behind : pieces_behind file set ≡ pieces_behind bytes set
  same_behind =
      ap (λ ss. filter is_some_piece (map (part_behind file set) ss)) ordered
      ∙ back_kept file (part_behind file set) (pieces_at (length (pieces_of o))) (pieces_before bytes set) (text_piece o) (pieces_behind bytes set) stored
      (all_map IsFront (Drops file (part_behind file set)) (λ p front. behind_dropped file set p (omega (arith, front.0.ends, high))) (pieces_before bytes set) fronts)
      (behind_dropped file set (text_piece o) (omega (arith, text_ends)))
      (all_map IsBack (Keeps file (part_behind file set)) (λ p back. behind_kept file set p (back_fixed p back) (omega (arith, back.0.begins, high, can.words))) (pieces_behind bytes set) backs)

  output_again : written_output file g ≡ written_output bytes g
  output_again =
      same_output (written_output bytes g) (new_address g (text_of file).lo g.entry) (text_of file).lo (map point_word (text_points g (text_of file).lo)) (note_of g (text_of file).lo) (pieces_before file (set_word_at g (text_of file).lo)) (pieces_behind file (set_word_at g (text_of file).lo)) (entries_of g (text_of file).lo)
      (ap (λ from. new_address g from g.entry) low)
      (ap (λ from. pieces_before file (set_word_at g from)) low ∙ same_before)
      low
      (ap (λ from. map point_word (text_points g from)) low)
      (ap (λ from. pieces_behind file (set_word_at g from)) low ∙ same_behind)
      (ap (entries_of g) low)
      (ap (note_of g) low)

pub written_again : WrittenAgain
unfolding written
written_again = λ bytes g can. ap output_file (output_again bytes g can)
