-- The output of a graph fits the fields of the file; its pieces are placed, and its sizes.
use Rattle.std.proofs.Common.{◌≡◌, ◌%◌, ℕ, zero, suc, ◌+◌, ◌-◌, ◌*◌, ◌^◌, ◌<◌, ◌≤◌, Bool, true, false, nat_le, ◌⊎◌, inl, inr, List, [], ◌∷◌, ◌++◌, map, drop, length, sum_by, if◌then◌else◌, refl, ap, ◌∙◌, arith, length-append}
use Rattle.std.specs.List.{AllByRecursion, Contains}
use Rattle.std.proofs.lemmas.Bool.{cases_Bool}
use Rattle.std.proofs.lemmas.List.Elements.{All-contains, All-from_recursion}
use Rattle.byteorder.specs.Endian.{little_number}
use Rattle.sq_elf.specs.declared.segment.Segment.{Segment}
use Rattle.sq_elf.specs.declared.text.Text.{Text}
use Rattle.sq_elf.specs.Fields.{u32_field}
use Rattle.sq_elf.specs.Headers.{phnum_of, segment_of}
use Rattle.sq_elf.specs.Memory.{has_memory, segments_before, segments_of}
use Rattle.sq_elf.specs.Segments.{copy_size}
use Rattle.sq_elf.specs.Sizes.{loaded_of}
use Rattle.sq_elf.specs.Text.{text_of}
use Rattle.sq_elf.proofs.Accepted.{few_loaded}
use Rattle.sq_reloc.proofs.CodeWordFacts.{is_code_word}
use Rattle.sq_graph.specs.Graph.{Graph}
use Rattle.sq_graph.specs.Blocks.{HasBlock, HasProcedure}
use Rattle.sq_graph.specs.Words.{words_of}
use Rattle.sq_graph.proofs.RulesByBlock.{by_block}
use Rattle.sq_write.specs.Output.{words, Piece, Output, text_piece, pieces_of, piece_bytes, contents_at, contents_of, relocation_table, loaded_size, output_file}
use Rattle.sq_write.specs.Pieces.{without_x, set_word_at, pieces_before, pieces_behind}
use Rattle.sq_write.specs.Points.{new_address, point_word, text_points}
use Rattle.sq_write.specs.Written.{written_output, written}
use Rattle.sq_write.proofs.CodeWordCount.{few_code_words}
use Rattle.sq_write.proofs.Fitting.{new_spot}
use Rattle.sq_write.proofs.Lengths.{text_bytes, few_entries, few_noted}
use Rattle.sq_write.proofs.PieceWalks.{piece_bytes-append}
use Rattle.sq_write.proofs.SegmentFacts.{few_text}
use Rattle.law_written.specs.Fitting.{IsFittingPiece, IsFitting}
use Rattle.law_written.specs.Reading.{copied}
use Rattle.law_written.specs.Written.{IsLoadable, IsWritable, WrittenFits, HasSizes, WrittenSizes, IsPartOfFile, ArePlaced, PiecesArePlaced}
use Rattle.law_written.specs.Accepting.{CannotRun, IsAcceptable, WrittenIsAccepted}
use Rattle.law_written.proofs.Accepting.{outputs_are_accepted}
use Rattle.law_written.proofs.Apart.{IsWithin, apart_within}
use Rattle.law_written.proofs.Cut.{IsCut, copied_here, copy_within, no_range}
use Rattle.law_written.proofs.Headers.{headers_are_read}
use Rattle.law_written.proofs.Laid.{end_at_most}
use Rattle.law_written.proofs.Ordered.{IsCutBefore, IsCutBehind, all_before, all_behind, all_in_order}
use Rattle.law_written.proofs.Pairs.{all_append, all_map}
use Rattle.law_written.proofs.Segments.{segments_are_read}
use Rattle.law_written.proofs.Sizes.{bytes_around, pieces_around, few_pieces}
use Rattle.law_written.proofs.Sound.{IsSound, facts}
use Rattle.law_written.proofs.OutputPlaces.{output_stands}
use Rattle.law_written.proofs.Texts.{text_is_read}

-- Fields of bytes

dropped : (n : ℕ) (bytes : List ℕ) → AllByRecursion (λ b. b < 256) bytes → AllByRecursion (λ b. b < 256) (drop n bytes)
dropped zero bytes all = all
dropped (suc n) [] all = tt
dropped (suc n) (b ∷ bytes) all = dropped n bytes all.1

four_small : (bytes : List ℕ) → AllByRecursion (λ b. b < 256) bytes → little_number 4 bytes < 2 ^ 32
four_small [] all = omega arith
four_small (a ∷ []) all = omega (arith, all.0)
four_small (a ∷ b ∷ []) all = omega (arith, all.0, all.1.0)
four_small (a ∷ b ∷ c ∷ []) all = omega (arith, all.0, all.1.0, all.1.1.0)
four_small (a ∷ b ∷ c ∷ d ∷ rest) all = omega (arith, all.0, all.1.0, all.1.1.0, all.1.1.1.0)

field_small : (bytes : List ℕ) (at : ℕ) → AllByRecursion (λ b. b < 256) bytes → u32_field bytes at < 2 ^ 32
unfolding u32_field
field_small bytes at all = by_test (nat_le (at + 4) (length bytes))
  where
    by_test : (within : Bool) → (if within then little_number 4 (drop at bytes) else 0) < 2 ^ 32
    by_test true = four_small (drop at bytes) (dropped at bytes all)
    by_test false = omega arith

small_flags : (bytes : List ℕ) (k : ℕ) → AllByRecursion (λ b. b < 256) bytes → (segment_of bytes k).flags < 2 ^ 32
unfolding segment_of
small_flags bytes k all = field_small bytes _ all

all_small : (bytes : List ℕ) → AllByRecursion (λ b. b < 256) bytes → (n : ℕ) → AllByRecursion (λ s. s.flags < 2 ^ 32) (segments_before bytes n)
unfolding segments_before
all_small bytes all zero = tt
all_small bytes all (suc n) = by_test (all_small bytes all n) (cases_Bool (has_memory bytes n))
  where
    by_test : AllByRecursion (λ s. s.flags < 2 ^ 32) (segments_before bytes n) → (has_memory bytes n ≡ true) ⊎ (has_memory bytes n ≡ false) → AllByRecursion (λ s. s.flags < 2 ^ 32) (segments_before bytes (suc n))
    by_test more (inr e) = rw e more
    by_test more (inl e) = rw e (all_append (λ (s : Segment). s.flags < 2 ^ 32) (segments_before bytes n) (segment_of bytes n ∷ []) more (small_flags bytes n all, tt))

-- How long an output file is

pub file_length : (o : Output) → length (output_file o) ≤ 52 + 32 * length (pieces_of o) + loaded_size o + length (relocation_table o.relocations) + length o.note + 400
file_length o =
    let sum : sum_by length (contents_of o) ≡ 17 + length (relocation_table o.relocations) + length o.note + 53 = refl in
    omega (arith, (output_stands o).long, end_at_most (contents_at o) (contents_of o), sum)

module _ (bytes : List ℕ) (g : Graph) (can : IsWritable bytes g) where
  some_text : (text_of bytes).lo < (text_of bytes).hi
  some_text = (facts bytes can.accepted).inside.some

  high : (text_of bytes).hi ≤ 2 ^ 32
  high = (facts bytes can.accepted).high

  few_words : words_of g ≤ 262144
  few_words = omega (arith, can.words, few_text bytes can.accepted)

  -- where the entry stands
  pub record HasEntry : Type 0 where
    pub place : ℕ
    pub is : new_address g (text_of bytes).lo g.entry ≡ (text_of bytes).lo + 4 * place
    pub within : place < words_of g

  pub entry_place : HasEntry
  entry_place =
      let by = by_block (HasBlock g) (HasProcedure g) g can.rules can.rules.named_all can.rules.called_all in
      let found = new_spot g (text_of bytes).lo can.rules few_words g.entry by.entry in
      record { place = found.3.place; is = omega (arith, found.2, found.3.is); within = found.3.within }

  pub text_long : length (words (map point_word (text_points g (text_of bytes).lo))) ≡ 4 * words_of g
  text_long = text_bytes g (text_of bytes).lo

  some_words : 0 < length (words (map point_word (text_points g (text_of bytes).lo)))
  some_words = omega (arith, text_long, entry_place.within)

  text_ends : (text_of bytes).lo + length (words (map point_word (text_points g (text_of bytes).lo))) ≤ (text_of bytes).hi
  text_ends = omega (arith, text_long, can.words)

  -- what holds of each piece
  all_pieces : (P : Piece → Type 0) → ((p : Piece) → IsCutBefore bytes can.accepted (set_word_at g (text_of bytes).lo) p → P p) → P (text_piece (written_output bytes g)) → ((p : Piece) → IsCutBehind bytes can.accepted (set_word_at g (text_of bytes).lo) p → P p) → AllByRecursion P (pieces_of (written_output bytes g))
  all_pieces P before here behind =
      all_append P (pieces_before bytes (set_word_at g (text_of bytes).lo)) (text_piece (written_output bytes g) ∷ pieces_behind bytes (set_word_at g (text_of bytes).lo))
      (all_map (IsCutBefore bytes can.accepted (set_word_at g (text_of bytes).lo)) P before (pieces_before bytes (set_word_at g (text_of bytes).lo)) (all_before bytes can.accepted (set_word_at g (text_of bytes).lo)))
      (here, all_map (IsCutBehind bytes can.accepted (set_word_at g (text_of bytes).lo)) P behind (pieces_behind bytes (set_word_at g (text_of bytes).lo)) (all_behind bytes can.accepted (set_word_at g (text_of bytes).lo)))

  flags_small : (s : Segment) → Contains (segments_of bytes) s → s.flags < 2 ^ 32
  flags_small s has =
      All-contains (λ (t : Segment). t.flags < 2 ^ 32) (segments_of bytes) s (All-from_recursion (λ (t : Segment). t.flags < 2 ^ 32) (segments_of bytes) (all_small bytes can.bytes (phnum_of bytes))) has

  before_fits : (p : Piece) → IsCutBefore bytes can.accepted (set_word_at g (text_of bytes).lo) p → IsFittingPiece p
  before_fits p cut = record {
    address = omega (arith, cut.ends, cut.cut.some, some_text, high);
    load_address = cut.cut.load_fits;
    some = cut.cut.some;
    size = omega (arith, cut.ends, some_text, high);
    stored = cut.cut.stored;
    flags = omega (arith, cut.cut.part.flags, flags_small cut.segment cut.contained);
  }

  behind_fits : (p : Piece) → IsCutBehind bytes can.accepted (set_word_at g (text_of bytes).lo) p → IsFittingPiece p
  behind_fits p cut = record {
    address = omega (arith, cut.cut.part.high, cut.sound.fits, cut.cut.some);
    load_address = cut.cut.load_fits;
    some = cut.cut.some;
    size = omega (arith, cut.begins, cut.cut.part.high, cut.sound.fits, some_text);
    stored = cut.cut.stored;
    flags = omega (arith, cut.cut.part.flags, flags_small cut.segment cut.contained);
  }

  text_fits : IsFittingPiece (text_piece (written_output bytes g))
  text_fits = record {
    address = omega (arith, some_text, high);
    load_address = omega (arith, some_text, high);
    some = some_words;
    size = omega (arith, text_ends, high, text_long, few_words);
    stored = omega arith;
    flags = omega arith;
  }

  pub piece_count : length (pieces_of (written_output bytes g)) ≤ 64
  piece_count =
      omega (arith, length-append (pieces_before bytes (set_word_at g (text_of bytes).lo)) (text_piece (written_output bytes g) ∷ pieces_behind bytes (set_word_at g (text_of bytes).lo)), pieces_around bytes can.accepted (set_word_at g (text_of bytes).lo), few_pieces bytes can.accepted (set_word_at g (text_of bytes).lo))

  pub loaded_bytes : loaded_size (written_output bytes g) + ((text_of bytes).hi - (text_of bytes).lo) ≡ loaded_of bytes + 4 * words_of g
  loaded_bytes =
      let before = pieces_before bytes (set_word_at g (text_of bytes).lo) in
      let behind = pieces_behind bytes (set_word_at g (text_of bytes).lo) in
      let spelled = words (map point_word (text_points g (text_of bytes).lo)) in
      omega (
        arith,
        ap length (piece_bytes-append before (text_piece (written_output bytes g) ∷ behind)),
        length-append (piece_bytes before) (spelled ++ piece_bytes behind),
        length-append spelled (piece_bytes behind),
        text_long,
        bytes_around bytes can.accepted (set_word_at g (text_of bytes).lo),
      )

  few_graph_words : length g.code_words ≤ 4194304
  few_graph_words =
      few_code_words bytes can.accepted (λ address target is. is_code_word bytes can.relocs address target is) g.code_words can.code_words can.rules.code_words

  -- the file is short enough to be accepted
  pub short_file : length (output_file (written_output bytes g)) ≤ 134217728
  short_file =
      omega (arith, file_length (written_output bytes g), piece_count, loaded_bytes, few_loaded bytes can.accepted, can.words, few_entries g (text_of bytes).lo, few_noted g (text_of bytes).lo, few_words, few_graph_words)

  pub fitting : IsFitting (written_output bytes g)
  fitting = record {
    entry = omega (arith, entry_place.is, entry_place.within, can.words, high);
    pieces = all_pieces IsFittingPiece before_fits text_fits behind_fits;
    count = omega (arith, piece_count);
    size = omega (arith, short_file);
  }

  part_loads : (p : Piece) (s : Segment) → IsCut bytes p s → IsSound bytes s → IsLoadable p
  part_loads p s cut sound =
      let own : IsWithin p.address p.size s.address s.memsz = record { low = λ some. cut.part.low; high = λ some. cut.part.high } in
      record {
        within = omega (arith, cut.part.high, sound.fits);
        copy_within = cut.loads;
        alone = apart_within p.address p.size s.address s.memsz p.load_address (copied p) s.load_address (copy_size s) sound.alone own (copy_within p s cut.part);
      }

  pub placed : ArePlaced bytes (written_output bytes g)
  placed = record {
    before = all_map (IsCutBefore bytes can.accepted (set_word_at g (text_of bytes).lo)) (IsPartOfFile bytes) (λ p cut. (cut.segment, cut.contained, cut.cut.part)) (pieces_before bytes (set_word_at g (text_of bytes).lo)) (all_before bytes can.accepted (set_word_at g (text_of bytes).lo));
    after = all_map (IsCutBehind bytes can.accepted (set_word_at g (text_of bytes).lo)) (IsPartOfFile bytes) (λ p cut. (cut.segment, cut.contained, cut.cut.part)) (pieces_behind bytes (set_word_at g (text_of bytes).lo)) (all_behind bytes can.accepted (set_word_at g (text_of bytes).lo));
    in_order = all_in_order bytes can.accepted (set_word_at g (text_of bytes).lo) (text_piece (written_output bytes g)) refl refl text_ends;
    loadable =
        all_pieces IsLoadable
        (λ p cut. part_loads p cut.segment cut.cut cut.sound)
        (record {
          within = omega (arith, text_ends, high);
          copy_within = omega (arith, text_ends, high);
          alone = no_range (text_of bytes).lo (length (words (map point_word (text_points g (text_of bytes).lo)))) (text_of bytes).lo (copied (text_piece (written_output bytes g))) (copied_here (text_piece (written_output bytes g)) refl);
        })
        (λ p cut. part_loads p cut.segment cut.cut cut.sound);
  }

  same_text : ℕ → ℕ → Text
  same_text low high = record { lo = low; hi = high }

  sizes : HasSizes bytes g (output_file (written_output bytes g))
  unfolding same_text
  sizes =
      let loaded = (segments_are_read (written_output bytes g) fitting).size in
      record {
        text = text_is_read (written_output bytes g) fitting ∙ ap (λ n. same_text (text_of bytes).lo ((text_of bytes).lo + n)) text_long;
        entry = (headers_are_read (written_output bytes g) fitting).0.entry;
        loaded = loaded;
        size = ap (λ n. n + ((text_of bytes).hi - (text_of bytes).lo)) loaded ∙ loaded_bytes;
      }

pub written_fits : WrittenFits
written_fits = λ bytes g can. fitting bytes g can

pub written_sizes : WrittenSizes
unfolding written
written_sizes = λ bytes g can. sizes bytes g can

pub pieces_are_placed : PiecesArePlaced
pieces_are_placed = λ bytes g can. placed bytes g can

-- The file is accepted

module _ (bytes : List ℕ) (g : Graph) (can : IsWritable bytes g) where
  still : (flags : ℕ) → without_x flags % 2 ≡ 0
  still flags = omega arith

  pub acceptable : IsAcceptable (written_output bytes g)
  acceptable =
      let lo = (text_of bytes).lo in
      let set = set_word_at g (text_of bytes).lo in
      let text = facts bytes can.accepted in
      let entry = entry_place bytes g can in
      let placed_all = placed bytes g can in
      record {
        fits = fitting bytes g can;
        loadable = placed_all.loadable;
        in_order = placed_all.in_order;
        before =
            all_map (IsCutBefore bytes can.accepted (set_word_at g (text_of bytes).lo)) CannotRun (λ p cut. ap (λ n. n % 2) cut.cut.part.flags ∙ still cut.segment.flags) (pieces_before bytes (set_word_at g (text_of bytes).lo)) (all_before bytes can.accepted (set_word_at g (text_of bytes).lo));
        after =
            all_map (IsCutBehind bytes can.accepted (set_word_at g (text_of bytes).lo)) CannotRun (λ p cut. ap (λ n. n % 2) cut.cut.part.flags ∙ still cut.segment.flags) (pieces_behind bytes (set_word_at g (text_of bytes).lo)) (all_behind bytes can.accepted (set_word_at g (text_of bytes).lo));
        short = short_file bytes g can;
        pieces = piece_count bytes g can;
        loaded = omega (arith, loaded_bytes bytes g can, few_loaded bytes can.accepted, can.words);
        text = omega (arith, text_long bytes g can, can.words, few_text bytes can.accepted);
        start = text.inside.low_word;
        entry = omega (arith, entry.is, text.inside.low_word);
        low = omega (arith, entry.is);
        high = omega (arith, entry.is, entry.within, text_long bytes g can);
      }

pub written_is_accepted : WrittenIsAccepted
unfolding written
written_is_accepted = λ bytes g can. outputs_are_accepted (written_output bytes g) (acceptable bytes g can)
