-- The plain machine of a written file starts as the run of the graph does.
use Rattle.std.proofs.Common.{◌≡◌, ◌⊎◌, inl, inr, ℕ, zero, suc, ◌+◌, ◌-◌, ◌*◌, ◌/◌, ◌%◌, ◌^◌, ◌<◌, ◌≤◌, nat_eq, nat_le, nat_lt, min, Bool, true, false, not, ◌==◌, ◌&&◌, List, [], ◌∷◌, ◌++◌, length, length-append, map, filter, take, replicate, bit_and, Option, Some, None, IsSome, if◌then◌else◌, slice_get, refl, sym, ap, ◌∙◌, subst, arith}
use Rattle.std.specs.Option.{option_map}
use Rattle.std.specs.List.{All, AllByRecursion, find, flat_map, Any}
use Rattle.std.proofs.lemmas.Bool.{eqb-true, cases_lt}
use Rattle.std.proofs.lemmas.Bool.Decides.{nat_tests}
use Rattle.std.proofs.lemmas.List.{take_all, length-replicate}
use Rattle.std.proofs.lemmas.List.Elements.{All-nil, All-cons}
use Rattle.std.proofs.lemmas.Option.{slice_get-map, slice_get_within}
use Rattle.byteorder.specs.Endian.{little_bytes}
use Rattle.sq_isa.specs.Accesses.{bytes_number}
use Rattle.sq_isa.specs.Registers.{written as with_value}
use Rattle.sq_isa.specs.Ranges.{FieldsFit}
use Rattle.sq_isa.proofs.Encoded.{word_of_below}
use Rattle.law_runs.specs.Follows.{LocksWith}
use Rattle.sq_memory.specs.Cells.{Cells, Agree, cells_from}
use Rattle.sq_memory.specs.Regions.{Region, region_cell, or_else, get}
use Rattle.sq_memory.proofs.RangeLaws.{cells_from_is}
use Rattle.sq_system.specs.Starts.{Start, IsIn, Meets, IsBadStart, stack_pointer, ram_end, ram_at_start}
use Rattle.sq_system.specs.World.{World as Layout, PF_X, PF_W, is_writable, is_executable, are_all, is_range}
use Rattle.sq_system.specs.declared.start.Extent.{Extent}
use Rattle.sq_elf.specs.declared.segment.Segment.{Segment}
use Rattle.sq_elf.specs.Headers.{entry_of, phnum_of, segment_of}
use Rattle.sq_elf.specs.Memory.{MemoryPiece, has_memory, segments_before, segments_of, own_piece, image_of, segment_pieces as image_pieces}
use Rattle.sq_elf.specs.Text.{text_of as text_range, text_segment_of}
use Rattle.sq_elf.proofs.TextFacts.{TextFacts, text_facts}
use Rattle.sq_reloc.specs.declared.mark.CodeWord.{CodeWord}
use Rattle.sq_reloc.specs.Outside.{code_word_at}
use Rattle.sq_reloc.specs.CodeWords.{listed_at}
use Rattle.sq_machine.specs.Starts.{extent_of, world_at_start, piece_region as plain_piece_region, ram_region as plain_ram}
use Rattle.sq_machine.specs.State.{number_at, aligned_number, with_register}
use Rattle.sq_machine.specs.Steps.{step_of}
use Rattle.sq_graph.specs.declared.parts.CodeRef.{CodeRef}
use Rattle.sq_graph.specs.Graph.{Graph}
use Rattle.sq_graph.specs.Walks.{word_name}
use Rattle.sq_graph.specs.Words.{words_of}
use Rattle.law_follow.specs.Values.{Code, Part, Cell, Byte, Frag, Stale}
use Rattle.law_follow.specs.GraphRuns.{graph_step}
use Rattle.law_follow.specs.Worlds.{World, layout_of, setting_of, ram_region, regions_at_start}
use Rattle.law_follow.specs.Follows.{state_at_start, word_address}
use Rattle.law_erasure.specs.Erasure.{Erasing, IsErasedCell}
use Rattle.sq_run.specs.FileRuns.{start_piece, pieces_of as run_pieces, file_world, file_state}
use Rattle.law_program.specs.Programs.{Text, Program, end_of}
use Rattle.law_program.specs.FilePrograms.{words_from, IsReadAs}
use Rattle.law_program.specs.FileRuns.{world_of}
use Rattle.law_files.proofs.FileBytes.{le_is, front_byte, whole}
use Rattle.law_files.proofs.FileRegions.{get_append, or_agree}
use Rattle.law_files.proofs.FileImages.{same_layout, image_is}
use Rattle.law_files.proofs.TextSegment.{flagged, has_text}
use Rattle.sq_write.specs.Output.{words, Piece, Output, text_piece}
use Rattle.sq_write.specs.Pieces.{by_address, set_word_at, without_x, part_of, part_before, part_behind, is_some_piece, pieces_before, pieces_behind}
use Rattle.sq_write.specs.Points.{Point, new_address, point_word, text_points}
use Rattle.sq_write.specs.Written.{written_output, written}
use Rattle.sq_write.proofs.Fitting.{text_stands}
use Rattle.sq_write.proofs.Lengths.{length_text, text_bytes}
use Rattle.sq_write.proofs.SegmentFacts.{few_text}
use Rattle.law_written.specs.Fitting.{IsFitting}
use Rattle.law_written.specs.Reading.{copied, piece_image}
use Rattle.law_written.specs.Written.{IsWritable as IsWritableOutput}
use Rattle.law_written.proofs.Headers.{headers_are_read}
use Rattle.law_written.proofs.Segments.{segments_are_read}
use Rattle.law_written.proofs.Writing.{written_fits}
use Rattle.law_written.specs.Writable.{IsWritable}
use Rattle.law_written.specs.Runs.{new_names, IsOutsideText, HasWords, IsWrittenStart}
use Rattle.law_files.specs.Shows.{IsFileStart, ShowsGraph}
use Rattle.law_written.specs.Files.{IsWritableInto, code_word_address, WrittenFilesShowGraphs}
use Rattle.law_written.proofs.WordsRun.{writing_keeps_runs}
use Rattle.sq_write.proofs.PointFields.{AllFit, text_fits}
use Rattle.law_written.proofs.Somewhere.{Somewhere, none_of, back_of, either_of, one_filtered, some_changed, one_mapped, to_mapped, one_flat, to_flat, HasCell}
use Rattle.law_written.proofs.SegmentCells.{eq_is, plain_region, cell_in}
use Rattle.law_written.proofs.Images.{any_all, images_agree, text_cell}
use Rattle.law_written.proofs.Permissions.{InWith, written_in, file_in}
use Rattle.law_written.proofs.PlainPieces.{passes, always, writes_stay, never_executed, executable_in, in_executable, writable_same, any_somewhere, somewhere_any}
use Rattle.law_written.proofs.FileCells.{cell, regions, regions_are, some_text, kept, apart}

-- CODE WORDS ARE THOSE OF THE FILE

listed_some : (ws : List CodeWord) (a : ℕ) → Somewhere (λ w. w.at ≡ a) ws → IsSome (listed_at ws a)
listed_some [] a h = absurd h
listed_some (w ∷ ws) a (inl e) = let yes = eq_is w.at a e in rw yes refl
listed_some (w ∷ ws) a (inr h) = go (nat_eq w.at a) (listed_some ws a h)
  where
    go : (b : Bool) → IsSome (listed_at ws a) → IsSome (option_map (λ (word : CodeWord). word.to) (if b then Some w else find (λ word. nat_eq word.at a) ws))
    go true some = refl
    go false some = some

same_places : (P : ℕ → Type 0) (ws : List CodeWord) (rs : List CodeRef) → map word_address rs ≡ map code_word_address ws → ((a : ℕ) → Somewhere (λ (w : CodeWord). w.at ≡ a) ws → P a) → All (λ (r : CodeRef). P r.at) rs
same_places P [] [] same f = All-nil {X = CodeRef} (λ r. P r.at)
same_places P [] (r ∷ rs) same f = absurd (cc)
same_places P (w ∷ ws) [] same f = absurd (cc)
same_places P (w ∷ ws) (r ∷ rs) same f =
    let head : w.at ≡ r.at = cc in
    let tail : map word_address rs ≡ map code_word_address ws = cc in
    All-cons {X = CodeRef} (λ r. P r.at) r rs (f r.at (inl head)) (same_places P ws rs tail (λ a h. f a (inr h)))

-- WORDS AND BYTES

words_get : (ws : List ℕ) (i k w : ℕ) → slice_get ws i ≡ Some w → k < 4 → slice_get (words ws) (4 * i + k) ≡ slice_get (little_bytes 4 w) k
words_get [] i k w e l = absurd (cc)
words_get (v ∷ vs) zero k w e l =
    let same : v ≡ w = cc in
    let here : 4 * 0 + k ≡ k = omega arith in
    subst (λ w. slice_get (words (v ∷ vs)) (4 * 0 + k) ≡ slice_get (little_bytes 4 w) k) same (ap (slice_get (words (v ∷ vs))) here ∙ front k l)
  where
    front : (k : ℕ) → k < 4 → slice_get (words (v ∷ vs)) k ≡ slice_get (little_bytes 4 v) k
    front zero l = refl
    front (suc zero) l = refl
    front (suc (suc zero)) l = refl
    front (suc (suc (suc zero))) l = refl
    front (suc (suc (suc (suc k)))) l = absurd (omega (arith, l))
words_get (v ∷ vs) (suc i) k w e l =
    let next : 4 * suc i + k ≡ suc (suc (suc (suc (4 * i + k)))) = omega arith in
    rw next (words_get vs i k w e l)

spelled : (w : ℕ) → w < 2 ^ 32 → bytes_number (little_bytes 4 w) ≡ w
spelled w small = omega arith

there_get : (y k : ℕ) → k < 4 → (b : ℕ) × (slice_get (little_bytes 4 y) k ≡ Some b)
there_get y zero l = (y % 256, refl)
there_get y (suc zero) l = (y / 256 % 256, refl)
there_get y (suc (suc zero)) l = (y / 65536 % 256, refl)
there_get y (suc (suc (suc zero))) l = (y / 16777216 % 256, refl)
there_get y (suc (suc (suc (suc k)))) l = absurd (omega (arith, l))

fits_get : (ps : List Point) (i : ℕ) (p : Point) → AllFit ps → slice_get ps i ≡ Some p → FieldsFit p.insn
fits_get [] i p all e = absurd (cc)
fits_get (q ∷ ps) zero p all e = let same : q ≡ p = cc in subst (λ (r : Point). FieldsFit r.insn) same all.0
fits_get (q ∷ ps) (suc i) p all e = fits_get ps i p all.1 e

all_true : (test : ℕ → Bool) (x n : ℕ) → ((i : ℕ) → i < n → test (x + i) ≡ true) → are_all test x n ≡ true
all_true test x zero h = refl
all_true test x (suc n) h = rw (all_true test x n (λ i l. h i (omega (arith, l))), h n (omega arith)) refl

words_long : (bytes : List ℕ) (at n : ℕ) → length (words_from bytes at n) ≡ n
words_long bytes at zero = refl
words_long bytes at (suc n) = ap suc (words_long bytes (at + 4) n)

mapped : (ms : List MemoryPiece) → map plain_piece_region (map start_piece ms) ≡ map plain_region ms
mapped [] = refl
mapped (m ∷ ms) = ap (λ rs. plain_region m ∷ rs) (mapped ms)

-- a segment with memory is one of the file's
segment_there : (P : Segment → Type 0) (bytes : List ℕ) (count k : ℕ) → k < count → has_memory bytes k ≡ true → P (segment_of bytes k) → Somewhere P (segments_before bytes count)
unfolding segments_before
segment_there P bytes zero k l has h = absurd (omega (arith, l))
segment_there P bytes (suc count) k l has h = elim (cases_lt k count) [ inl less ↦ earlier (segment_there P bytes count k less has h) | inr more ↦ (let same : k ≡ count = omega (arith, l, more) in last same) ]
  where
    front : (xs ys : List Segment) → Somewhere P xs → Somewhere P (xs ++ ys)
    front [] ys h = absurd h
    front (x ∷ xs) ys (inl h) = inl h
    front (x ∷ xs) ys (inr h) = inr (front xs ys h)

    back : (xs : List Segment) (y : Segment) → P y → Somewhere P (xs ++ y ∷ [])
    back [] y h = inl h
    back (x ∷ xs) y h = inr (back xs y h)

    earlier : Somewhere P (segments_before bytes count) → Somewhere P (if has_memory bytes count then segments_before bytes count ++ segment_of bytes count ∷ [] else segments_before bytes count)
    earlier h = go (has_memory bytes count)
      where
        go : (b : Bool) → Somewhere P (if b then segments_before bytes count ++ segment_of bytes count ∷ [] else segments_before bytes count)
        go true = front (segments_before bytes count) (segment_of bytes count ∷ []) h
        go false = h

    last : k ≡ count → Somewhere P (if has_memory bytes count then segments_before bytes count ++ segment_of bytes count ∷ [] else segments_before bytes count)
    last same =
        let there : has_memory bytes count ≡ true = subst (λ j. has_memory bytes j ≡ true) same has in
        rw there (back (segments_before bytes count) (segment_of bytes count) (subst (λ j. P (segment_of bytes j)) same h))

-- for which bytes stale ones stand tells nothing of a cell by itself
stale_aside : (E : Erasing) (stale : Cells ℕ) (c : Cell) (b : ℕ) → IsErasedCell E c b → IsErasedCell (record E { stale = stale }) c b
stale_aside E stale (Byte x) b h = h
stale_aside E stale (Frag (Code n) k) b h = h
stale_aside E stale (Frag (Part n w) k) b h = h
stale_aside E stale Stale b h = h

stale_apart : (E : Erasing) (stale : Cells ℕ) (o : Option Cell) (q : Option ℕ) → Agree (IsErasedCell E) o q → Agree (IsErasedCell (record E { stale = stale })) o q
stale_apart E stale None None h = h
stale_apart E stale None (Some b) h = h
stale_apart E stale (Some c) None h = h
stale_apart E stale (Some c) (Some b) h = stale_aside E stale c b h

ram_agrees : (E : Erasing) (start : Start) (x : ℕ) → Agree (IsErasedCell E) (get (ram_region start ∷ []) x) (get (plain_ram start ∷ []) x)
ram_agrees E start x = or_agree (IsErasedCell E) (region_cell (ram_region start) x) None (region_cell (plain_ram start) x) None (go (nat_le start.base x)) tt
  where
    one : (o : Option ℕ) → Agree (IsErasedCell E) (option_map Byte o) o
    one None = tt
    one (Some b) = refl

    go : (b : Bool) → Agree (IsErasedCell E) (if b then slice_get (map Byte (ram_at_start start)) (x - start.base) else None) (if b then slice_get (ram_at_start start) (x - start.base) else None)
    go false = tt
    go true = rw (slice_get-map Byte (ram_at_start start) (x - start.base)) (one (slice_get (ram_at_start start) (x - start.base)))

module _ (bytes : List ℕ) (is : ℕ → Bool) (p : Program) (g : Graph) (fit : AllByRecursion (λ b. b < 256) bytes) (read : IsReadAs bytes is p) (can : IsWritableInto bytes p g) where
  abbrev lo : ℕ
  lo = (text_range bytes).lo

  abbrev hi : ℕ
  hi = (text_range bytes).hi

  abbrev E : Erasing
  E = new_names g lo (λ x. None)

  abbrev set : ℕ → Option ℕ
  set = set_word_at g lo

  abbrev ss : List Segment
  ss = segments_of bytes

  abbrev o : Output
  o = written_output bytes g

  abbrev text : Piece
  text = text_piece o

  abbrev all : List Piece
  all = pieces_before bytes set ++ text ∷ pieces_behind bytes set

  abbrev cells : ℕ → ℕ → Cell
  cells = cell bytes is p g read can

  abbrev R : Cell → ℕ → Type 0
  R = IsErasedCell E

  abbrev some : lo < hi
  some = some_text bytes is p g read can

  facts : TextFacts bytes read.file
  facts = text_facts bytes read.file

  -- WHAT IS READ OF THE WRITTEN FILE

  outputs : IsWritableOutput bytes g
  outputs = record {
    bytes = fit;
    accepted = read.file;
    relocs = read.relocs;
    rules = can.rules;
    code_words = same_places (λ a. IsSome (code_word_at bytes a)) p.code_words g.code_words can.code_words (λ a h. subst IsSome (read.program.code_words.exactly a) (listed_some p.code_words a h));
    reach = can.reach;
    words = can.words;
  }

  fitting : IsFitting o
  fitting = written_fits bytes g outputs

  image : image_of (written bytes g) ≡ flat_map piece_image all
  unfolding written
  image = (segments_are_read o fitting).image

  entry : entry_of (written bytes g) ≡ new_address g lo g.entry
  unfolding written
  entry = (headers_are_read o fitting).0.entry

  -- TEXT

  abbrev ws : List ℕ
  ws = map point_word (text_points g lo)

  abbrev own_text : MemoryPiece
  own_text = record { address = lo; bytes = words ws; length = length (words ws); flags = 5 }

  text_image : piece_image text ≡ own_text ∷ []
  text_image = let same = eq_is lo lo refl in rw same refl

  long : length (words ws) ≡ 4 * words_of g
  long = text_bytes g lo

  text_end : lo + length (words ws) ≤ hi
  text_end = let l = long in let w = can.words in omega (arith, l, w)

  high_end : hi ≤ 2 ^ 32
  high_end = facts.high

  abbrev Out : ℕ → Type 0
  Out x = (x < lo) ⊎ (hi ≤ x)

  not_in_text : (x : ℕ) → Out x → lo ≤ x → x < lo + length (words ws) → ⊥
  not_in_text x (inl less) low high = omega (arith, less, low)
  not_in_text x (inr more) low high = let e = text_end in omega (arith, more, high, e)

  -- THE LAYOUT

  module _ (start : Start) where
    world_is : file_world (written bytes g) start ≡ world_at_start (map start_piece (flat_map piece_image all)) start
    unfolding file_world
    world_is = ap (λ ms. world_at_start (map start_piece ms) start) image

    file_world_is : file_world bytes start ≡ world_at_start (map start_piece (flat_map (image_pieces bytes) ss)) start
    unfolding file_world
    file_world_is = ap (λ ms. world_at_start (map start_piece ms) start) (image_is bytes)

    layout_is : world_at_start (map start_piece (flat_map (image_pieces bytes) ss)) start ≡ layout_of (world_of bytes p) start
    layout_is = sym file_world_is ∙ same_layout bytes p start

    module _ (x : ℕ) where
      in_own : (ok : ℕ → Bool) → Somewhere (InWith ok x) (piece_image text) → InWith ok x own_text
      in_own ok h = first (subst (λ ms. Somewhere (InWith ok x) ms) text_image h)
        where
          first : Somewhere (InWith ok x) (own_text ∷ []) → InWith ok x own_text
          first (inl h) = h
          first (inr h) = absurd h

      to_file : (ok : ℕ → Bool) → ((flags : ℕ) → ok (without_x flags) ≡ ok flags) → Out x → Somewhere (InWith ok x) (flat_map piece_image all) → Somewhere (InWith ok x) (flat_map (image_pieces bytes) ss)
      to_file ok same out h = go (written_in R cells bytes set some ok x same (kept bytes is p g read can) text h)
        where
          go : Somewhere (InWith ok x) (flat_map (image_pieces bytes) ss) ⊎ Somewhere (InWith ok x) (piece_image text) → Somewhere (InWith ok x) (flat_map (image_pieces bytes) ss)
          go (inl f) = f
          go (inr f) = let i = in_own ok f in absurd (not_in_text x out i.0 i.1)

      to_written : (ok : ℕ → Bool) → ((flags : ℕ) → ok (without_x flags) ≡ ok flags) → Out x → Somewhere (InWith ok x) (flat_map (image_pieces bytes) ss) → Somewhere (InWith ok x) (flat_map piece_image all)
      to_written ok same out h = file_in R cells bytes set some ok x same (kept bytes is p g read can) text out h

      writable_around : Out x → is_writable (file_world (written bytes g) start) x ≡ is_writable (layout_of (world_of bytes p) start) x
      writable_around out =
          ap (λ (w : Layout). is_writable w x) world_is
          ∙ writable_same x start (flat_map piece_image all) (flat_map (image_pieces bytes) ss) (to_file always (λ f. refl) out) (to_written always (λ f. refl) out) (to_file (passes PF_W) writes_stay out) (to_written (passes PF_W) writes_stay out)
          ∙ ap (λ (w : Layout). is_writable w x) layout_is

      -- only text is executable
      no_part : (part : Segment → Piece) → ((s : Segment) → Somewhere (InWith (passes PF_X) x) (piece_image (part s)) → ⊥) → Somewhere (λ q. Somewhere (InWith (passes PF_X) x) (piece_image q)) (filter is_some_piece (map part (by_address ss))) → ⊥
      no_part part f h =
          none_of (λ s. (is_some_piece (part s) ≡ true) × Somewhere (InWith (passes PF_X) x) (piece_image (part s))) (by_address ss) (λ s k. f s k.1)
          (one_mapped (λ q. (is_some_piece q ≡ true) × Somewhere (InWith (passes PF_X) x) (piece_image q)) part (by_address ss)
          (one_filtered (λ q. Somewhere (InWith (passes PF_X) x) (piece_image q)) is_some_piece (map part (by_address ss)) h))

      part_not : (skip size : ℕ) (s : Segment) → Somewhere (InWith (passes PF_X) x) (piece_image (part_of bytes set skip size s)) → ⊥
      part_not skip size s h = go (nat_lt 0 (copied (part_of bytes set skip size s))) h
        where
          go : (b : Bool) → Somewhere (InWith (passes PF_X) x) (record { address = (part_of bytes set skip size s).address; bytes = (part_of bytes set skip size s).bytes; length = size; flags = (part_of bytes set skip size s).flags } ∷ (if b then record { address = (part_of bytes set skip size s).load_address; bytes = (part_of bytes set skip size s).bytes; length = length (part_of bytes set skip size s).bytes; flags = 4 } ∷ [] else [])) → ⊥
          go b (inl k) = let e : true ≡ false = sym k.2 ∙ never_executed s.flags in cc
          go false (inr k) = k
          go true (inr (inl k)) = let e : passes PF_X 4 ≡ true = k.2 in cc
          go true (inr (inr k)) = k

      executable_text : Somewhere (InWith (passes PF_X) x) (flat_map piece_image all) → (lo ≤ x) × (x < hi)
      executable_text h = go (either_of (λ q. Somewhere (InWith (passes PF_X) x) (piece_image q)) (pieces_before bytes set) (text ∷ pieces_behind bytes set) (one_flat (InWith (passes PF_X) x) piece_image all h))
        where
          go : Somewhere (λ q. Somewhere (InWith (passes PF_X) x) (piece_image q)) (pieces_before bytes set) ⊎ Somewhere (λ q. Somewhere (InWith (passes PF_X) x) (piece_image q)) (text ∷ pieces_behind bytes set) → (lo ≤ x) × (x < hi)
          go (inl k) = absurd (no_part (part_before bytes set) (λ s k. part_not 0 (min s.memsz (lo - s.address)) s k) k)
          go (inr (inl k)) = let i = in_own (passes PF_X) k in let e = text_end in let high = i.1 in (i.0, omega (arith, high, e))
          go (inr (inr k)) = absurd (no_part (part_behind bytes set) (λ s k. part_not (hi - s.address) (s.memsz - (hi - s.address)) s k) k)

      text_executable : lo ≤ x → x < hi → is_executable (layout_of (world_of bytes p) start) x ≡ true
      text_executable low high =
          let s : Segment = segment_of bytes (text_segment_of bytes) in
          let a = facts.inside.low in
          let b = facts.inside.high in
          let c = whole bytes read.file (text_segment_of bytes) facts.within facts.load in
          let flag : passes PF_X s.flags ≡ true = not_zero (bit_and s.flags 1) (flagged bytes read.file) in
          let here : InWith (passes PF_X) x (own_piece bytes s) = (omega (arith, a, low), omega (arith, b, c, high), flag) in
          sym (ap (λ (w : Layout). is_executable w x) layout_is)
          ∙ in_executable x start (flat_map (image_pieces bytes) ss)
          (to_flat (InWith (passes PF_X) x) (image_pieces bytes) ss
          (segment_there (λ s. Somewhere (InWith (passes PF_X) x) (image_pieces bytes s)) bytes (phnum_of bytes) (text_segment_of bytes) facts.within (has_text bytes read.file) (inl here)))
        where
          not_zero : (n : ℕ) → nat_eq n 1 ≡ true → not (n == 0) ≡ true
          not_zero n e = let one : n ≡ 1 = eqb-true n 1 e in rw one refl

      not_executable : is_executable (layout_of (world_of bytes p) start) x ≡ false → is_executable (file_world (written bytes g) start) x ≡ false
      not_executable e = go (is_executable (file_world (written bytes g) start) x) refl
        where
          go : (b : Bool) → is_executable (file_world (written bytes g) start) x ≡ b → b ≡ false
          go false f = refl
          go true f =
              let t = executable_text (executable_in x start (flat_map piece_image all) (sym (ap (λ (w : Layout). is_executable w x) world_is) ∙ f)) in
              let yes = text_executable t.0 t.1 in
              absurd (let no : true ≡ false = sym yes ∙ e in cc)

      -- a byte of the written text may be executed
      written_executable : lo ≤ x → x < lo + length (words ws) → is_executable (file_world (written bytes g) start) x ≡ true
      written_executable low high =
          let here : Somewhere (InWith (passes PF_X) x) (piece_image text) = subst (λ ms. Somewhere (InWith (passes PF_X) x) ms) (sym text_image) (inl (low, high, refl)) in
          ap (λ (w : Layout). is_executable w x) world_is
          ∙ in_executable x start (flat_map piece_image all)
          (to_flat (InWith (passes PF_X) x) piece_image all
          (back_of (λ q. Somewhere (InWith (passes PF_X) x) (piece_image q)) (pieces_before bytes set) (text ∷ pieces_behind bytes set) (inl here)))

    -- MEMORY

    abbrev written_regions : List (Region ℕ)
    written_regions = map plain_region (flat_map piece_image all)

    memory_is : (file_state (written bytes g) start).memory ≡ get (written_regions ++ plain_ram start ∷ [])
    unfolding file_state with_register
    memory_is = ap (λ rs. get (rs ++ plain_ram start ∷ [])) (mapped (image_of (written bytes g)) ∙ ap (map plain_region) image)

    abbrev names : List ℕ
    names = map word_name g.code_words

    world_memory : (x : ℕ) → get (regions_at_start (world_of bytes p) names start) x ≡ or_else (get (flat_map (regions bytes is p g read can) ss) x) (get (ram_region start ∷ []) x)
    world_memory x =
        ap (λ rs. get (rs ++ ram_region start ∷ []) x) (regions_are bytes is p g read can ss) ∙ get_append (flat_map (regions bytes is p g read can) ss) (ram_region start ∷ []) x

    text_away : (x d : ℕ) → Out x → Somewhere (HasCell x d) (map plain_region (piece_image text)) → ⊥
    text_away x d out h = go (subst (λ ms. Somewhere (HasCell x d) (map plain_region ms)) text_image h)
      where
        go : Somewhere (HasCell x d) (plain_region own_text ∷ []) → ⊥
        go (inl h) =
            let c = cell_in (plain_region own_text) x d h in
            let low = c.0 in
            let within = slice_get_within (take (length (words ws)) (words ws) ++ replicate (length (words ws) - length (words ws)) 0) (x - lo) d c.1 in
            let same : take (length (words ws)) (words ws) ≡ words ws = take_all (length (words ws)) (words ws) (omega arith) in
            not_in_text x out low (omega (arith, low, within, ap length same, length-append (take (length (words ws)) (words ws)) (replicate (length (words ws) - length (words ws)) 0), length-replicate {A = ℕ} (length (words ws) - length (words ws)) 0))
        go (inr h) = absurd h

    memory_around : (x : ℕ) → Out x → Agree R (get (regions_at_start (world_of bytes p) names start) x) ((file_state (written bytes g) start).memory x)
    memory_around x out =
        rw (world_memory x, ap (λ (m : Cells ℕ). m x) memory_is, get_append written_regions (plain_ram start ∷ []) x)
        (or_agree R (get (flat_map (regions bytes is p g read can) ss) x) (get (ram_region start ∷ []) x) (get written_regions x) (get (plain_ram start ∷ []) x)
        (images_agree R cells bytes set some (kept bytes is p g read can) text x (apart bytes is p g read can) (λ d h. text_away x d out h) out)
        (ram_agrees E start x))

    -- WORDS

    text_byte : (i k b : ℕ) (q : Point) → slice_get (text_points g lo) i ≡ Some q → k < 4 → slice_get (little_bytes 4 (point_word q)) k ≡ Some b → (file_state (written bytes g) start).memory (lo + 4 * i + k) ≡ Some b
    text_byte i k b q e l is_byte =
        let x : ℕ = lo + 4 * i + k in
        let within = slice_get_within (text_points g lo) i q e in
        let size = length_text g lo in
        let w = can.words in
        let low : lo ≤ x = omega arith in
        let high : x < hi = omega (arith, within, size, w, l) in
        let place : x - lo ≡ 4 * i + k = omega arith in
        let word : slice_get ws i ≡ Some (point_word q) = slice_get-map point_word (text_points g lo) i ∙ ap (option_map point_word) e in
        let stored : slice_get (words ws) (4 * i + k) ≡ Some b = words_get ws i k (point_word q) word l ∙ is_byte in
        let full : take (length (words ws)) (words ws) ≡ words ws = take_all (length (words ws)) (words ws) (omega arith) in
        let front : slice_get (take (length (words ws)) (words ws) ++ replicate (length (words ws) - length (words ws)) 0) (x - lo) ≡ Some b =
        ap (slice_get (take (length (words ws)) (words ws) ++ replicate (length (words ws) - length (words ws)) 0)) place
        ∙ front_byte (take (length (words ws)) (words ws)) (replicate (length (words ws) - length (words ws)) 0) (4 * i + k) (let h = slice_get_within (words ws) (4 * i + k) b stored in omega (arith, h, ap length full))
        ∙ ap (λ xs. slice_get xs (4 * i + k)) full ∙ stored in
        let here : region_cell (plain_region own_text) x ≡ Some b = let f = le_is lo x low in rw f front in
        let found : get written_regions x ≡ Some b = text_cell R cells bytes set some (kept bytes is p g read can) text x b low high here in
        ap (λ (m : Cells ℕ). m x) memory_is ∙ get_append written_regions (plain_ram start ∷ []) x ∙ ap (λ o. or_else o (get (plain_ram start ∷ []) x)) found

    few : words_of g ≤ 262144
    few = let w = can.words in let t = few_text bytes read.file in omega (arith, w, t)

    word_there : (i : ℕ) (q : Point) → slice_get (text_points g lo) i ≡ Some q → aligned_number (file_state (written bytes g) start).memory (lo + 4 * i) 4 ≡ Some (point_word q)
    unfolding number_at
    word_there i q e =
        let fits = fits_get (text_points g lo) i q (text_fits g lo can.rules (text_stands g lo can.rules few can.reach)) e in
        let small = word_of_below q.insn fits in
        let low_word = facts.inside.low_word in
        let aligned : ((lo + 4 * i) % 4 == 0) ≡ true = eq_is ((lo + 4 * i) % 4) 0 (omega (arith, low_word)) in
        let found : cells_from (file_state (written bytes g) start).memory (lo + 4 * i) 4 ≡ Some (little_bytes 4 (point_word q)) =
        cells_from_is (little_bytes 4 (point_word q)) (file_state (written bytes g) start).memory (lo + 4 * i) (λ k l. let b = there_get (point_word q) k l in text_byte i k b.0 q e l b.1 ∙ sym b.1) in
        rw (aligned, found) (ap Some (spelled (point_word q) small))

    range_there : (i : ℕ) (q : Point) → slice_get (text_points g lo) i ≡ Some q → is_range (is_executable (file_world (written bytes g) start)) (lo + 4 * i) 4 ≡ true
    range_there i q e =
        let within = slice_get_within (text_points g lo) i q e in
        let size = length_text g lo in
        let l = long in
        let w = can.words in
        let top = high_end in
        let below : nat_le (lo + 4 * i + 4) (2 ^ 32) ≡ true = le_is (lo + 4 * i + 4) (2 ^ 32) (omega (arith, within, size, w, top)) in
        let all_four : are_all (is_executable (file_world (written bytes g) start)) (lo + 4 * i) 4 ≡ true = all_true (is_executable (file_world (written bytes g) start)) (lo + 4 * i) 4 (λ k h. written_executable (lo + 4 * i + k) (omega arith) (omega (arith, within, size, l, h))) in
        rw (below, all_four) refl

    has_words : HasWords g lo (file_world (written bytes g) start) (file_state (written bytes g) start).memory
    has_words i q e = (range_there i q e, word_there i q e)

    -- THE START

    abbrev w : World
    w = world_of bytes p

    lo_is : w.lo ≡ lo
    lo_is = ap (λ (t : Text). t.lo) read.program.text

    hi_is : w.hi ≡ hi
    hi_is =
        let low = facts.inside.low_word in
        let high = facts.inside.high_word in
        let more = facts.inside.some in
        ap end_of read.program.text ∙ ap (λ n. lo + 4 * n) (words_long bytes lo ((hi - lo) / 4)) ∙ omega (arith, low, high, more)

    outside : (x : ℕ) → IsOutsideText (setting_of w start) x → Out x
    outside x e = go (nat_le w.lo x) refl (nat_lt x w.hi) refl e
      where
        go : (a : Bool) → nat_le w.lo x ≡ a → (b : Bool) → nat_lt x w.hi ≡ b → (a && b) ≡ false → Out x
        go false f b h e = let l = lo_is in let less : x < w.lo = grind (arith, nat_tests) in inl (omega (arith, less, l))
        go true f false h e = let l = hi_is in let more : w.hi ≤ x = grind (arith, nat_tests) in inr (omega (arith, more, l))
        go true f true h e = absurd (cc)

    plain_base : (file_world (written bytes g) start).base ≡ start.base
    unfolding file_world
    plain_base = refl

    plain_size : (file_world (written bytes g) start).size ≡ start.size
    unfolding file_world
    plain_size = refl

    plain_pc : (file_state (written bytes g) start).pc ≡ entry_of (written bytes g)
    unfolding file_state with_register
    plain_pc = refl

    plain_registers : (r : ℕ) → (file_state (written bytes g) start).registers r ≡ with_value 2 (stack_pointer start) (λ r. 0) r
    unfolding file_state with_register
    plain_registers r = refl

    plain_input : (file_state (written bytes g) start).input ≡ start.input
    unfolding file_state with_register
    plain_input = refl

    plain_reservation : (file_state (written bytes g) start).reservation ≡ None
    unfolding file_state with_register
    plain_reservation = refl

    abbrev plain : Cells ℕ
    plain = (file_state (written bytes g) start).memory

    begins : IsWrittenStart w g start (file_world (written bytes g) start) (file_state (written bytes g) start)
    begins = record {
      laid_out = record { base = plain_base; size = plain_size; writable = λ x e. writable_around x (outside x e); executable = not_executable };
      text = subst (λ l. HasWords g l (file_world (written bytes g) start) (file_state (written bytes g) start).memory) (sym lo_is) has_words;
      pc = plain_pc ∙ entry ∙ ap (λ l. new_address g l g.entry) (sym lo_is);
      registers = plain_registers;
      memory = λ x e. subst (λ l. Agree (IsErasedCell (new_names g l plain)) (get (regions_at_start w names start) x) (plain x)) (sym lo_is) (stale_apart E plain (get (regions_at_start w names start) x) (plain x) (memory_around x (outside x e)));
      input = plain_input;
      reservation = plain_reservation;
    }

    writable : IsWritable g w.lo w.hi
    writable =
        let l = lo_is in
        let h = hi_is in
        let words = can.words in
        let low = facts.inside.low_word in
        let t = few_text bytes read.file in
        let top = high_end in
        record {
          rules = can.rules;
          reach = can.reach;
          words = omega (arith, l, h, words);
          aligned = ap (λ n. n % 4) l ∙ low;
          short = omega (arith, l, h, t);
          end = omega (arith, h, top);
        }

    locks : LocksWith (graph_step (setting_of w start) g) (state_at_start w g start) (step_of (file_world (written bytes g) start)) (file_state (written bytes g) start)
    locks = writing_keeps_runs w g writable start (file_world (written bytes g) start) (file_state (written bytes g) start) begins

  -- VALID STARTS

  -- a byte of the written file's memory is one of the file's
  still_there : (x : ℕ) → Somewhere (InWith always x) (flat_map piece_image all) → Somewhere (InWith always x) (flat_map (image_pieces bytes) ss)
  still_there x h = go (written_in R cells bytes set some always x (λ f. refl) (kept bytes is p g read can) text h)
    where
      of_text : Somewhere (InWith always x) (piece_image text) → Somewhere (InWith always x) (flat_map (image_pieces bytes) ss)
      of_text k = first (subst (λ ms. Somewhere (InWith always x) ms) text_image k)
        where
          first : Somewhere (InWith always x) (own_text ∷ []) → Somewhere (InWith always x) (flat_map (image_pieces bytes) ss)
          first (inl i) =
              let low = i.0 in
              let high = i.1 in
              let e = text_end in
              let a = facts.inside.low in
              let b = facts.inside.high in
              let c = whole bytes read.file (text_segment_of bytes) facts.within facts.load in
              let here : InWith always x (own_piece bytes (segment_of bytes (text_segment_of bytes))) = (omega (arith, a, low), omega (arith, b, c, e, high), refl) in
              to_flat (InWith always x) (image_pieces bytes) ss
              (segment_there (λ s. Somewhere (InWith always x) (image_pieces bytes s)) bytes (phnum_of bytes) (text_segment_of bytes) facts.within (has_text bytes read.file) (inl here))
          first (inr i) = absurd i

      go : Somewhere (InWith always x) (flat_map (image_pieces bytes) ss) ⊎ Somewhere (InWith always x) (piece_image text) → Somewhere (InWith always x) (flat_map (image_pieces bytes) ss)
      go (inl f) = f
      go (inr f) = of_text f

  starts : (start : Start) → IsFileStart bytes start → IsFileStart (written bytes g) start
  starts start valid = record { fits = valid.fits; good = λ bad. valid.good (was bad) }
    where
      meets_in : (x : ℕ) (ms : List MemoryPiece) → Somewhere (λ e. IsIn x e) (map extent_of (map start_piece ms)) → Somewhere (InWith always x) ms
      meets_in x ms h =
          some_changed (λ m. Unit {0}) (λ m. IsIn x (extent_of (start_piece m))) (InWith always x) ms (any_all ms) (λ m all k. (k.from, k.below, refl))
          (one_mapped (λ q. IsIn x (extent_of q)) start_piece ms (one_mapped (λ e. IsIn x e) extent_of (map start_piece ms) h))

      in_meets : (x : ℕ) (ms : List MemoryPiece) → Somewhere (InWith always x) ms → Somewhere (λ e. IsIn x e) (map extent_of (map start_piece ms))
      in_meets x ms h =
          to_mapped (λ e. IsIn x e) extent_of (map start_piece ms)
          (to_mapped (λ q. IsIn x (extent_of q)) start_piece ms
          (some_changed (λ m. Unit {0}) (InWith always x) (λ m. IsIn x (extent_of (start_piece m))) ms (any_all ms) (λ m all k. record { from = k.0; below = k.1 }) h))

      met : (es : List Extent) → Somewhere (Meets (stack_pointer start) (ram_end start)) es → (x : ℕ) × (stack_pointer start ≤ x) × (x < ram_end start) × Somewhere (λ e. IsIn x e) es
      met [] h = absurd h
      met (e ∷ es) (inl h) = (h.0, h.1, h.2, inl h.3)
      met (e ∷ es) (inr h) = let r = met es h in (r.0, r.1, r.2, inr r.3)

      meet : (x : ℕ) (es : List Extent) → stack_pointer start ≤ x → x < ram_end start → Somewhere (λ e. IsIn x e) es → Somewhere (Meets (stack_pointer start) (ram_end start)) es
      meet x [] a b h = absurd h
      meet x (e ∷ es) a b (inl h) = inl (x, a, b, h)
      meet x (e ∷ es) a b (inr h) = inr (meet x es a b h)

      pieces_were : Any (Meets (stack_pointer start) (ram_end start)) (map extent_of (run_pieces (written bytes g))) → Any (Meets (stack_pointer start) (ram_end start)) (map extent_of (run_pieces bytes))
      pieces_were any =
          let m = met (map extent_of (map start_piece (image_of (written bytes g)))) (any_somewhere (Meets (stack_pointer start) (ram_end start)) (map extent_of (run_pieces (written bytes g))) any) in
          let here = subst (λ ms. Somewhere (InWith always m.0) ms) image (meets_in m.0 (image_of (written bytes g)) m.3) in
          let there = subst (λ ms. Somewhere (InWith always m.0) ms) (sym (image_is bytes)) (still_there m.0 here) in
          somewhere_any (Meets (stack_pointer start) (ram_end start)) (map extent_of (run_pieces bytes)) (meet m.0 (map extent_of (map start_piece (image_of bytes))) m.1 m.2 (in_meets m.0 (image_of bytes) there))

      was : IsBadStart (map extent_of (run_pieces (written bytes g))) start → IsBadStart (map extent_of (run_pieces bytes)) start
      was (inl none) = inl none
      was (inr any) = inr (pieces_were any)

  shows : ShowsGraph bytes p g (written bytes g)
  shows = record { starts = starts; runs = λ start valid. locks start }

pub written_files_show_graphs : WrittenFilesShowGraphs
written_files_show_graphs bytes is p g fit read can = shows bytes is p g fit read can
