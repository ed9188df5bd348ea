-- The cells of a file's world erase to the bytes that are written, where code words hold the new addresses.
use Rattle.std.proofs.Common.{◌≡◌, ◌≢◌, inl, inr, ℕ, zero, suc, ◌+◌, ◌%◌, ◌^◌, ◌<◌, ◌≤◌, nat_eq, nat_le, nat_lt, max, Bool, true, false, ◌==◌, ◌&&◌, ◌||◌, List, [], ◌∷◌, ◌++◌, length, map, Option, Some, None, slice_get, slice_index, if◌then◌else◌, refl, sym, ap, ◌∙◌, subst, arith}
use Rattle.std.specs.Option.{option_map}
use Rattle.std.specs.List.{All, AllByRecursion, find, flat_map}
use Rattle.std.proofs.lemmas.Bool.{cases_lt, cases_eq, and_parts, or_parts}
use Rattle.std.proofs.lemmas.Bool.Decides.{nat_tests}
use Rattle.std.proofs.lemmas.List.{map-append}
use Rattle.std.proofs.lemmas.List.Elements.{All-head, All-tail}
use Rattle.byteorder.specs.Endian.{little_bytes}
use Rattle.sq_num.specs.Refusals.{first_from}
use Rattle.sq_memory.specs.Regions.{Region}
use Rattle.sq_elf.specs.declared.segment.Segment.{Segment}
use Rattle.sq_elf.specs.Headers.{phnum_of, is_load, segment_of}
use Rattle.sq_elf.specs.Segments.{copy_size, is_misshapen, is_bad_segment}
use Rattle.sq_elf.specs.Memory.{has_memory, file_bytes_of, segments_of, own_piece, copy_piece, segment_pieces as image_pieces}
use Rattle.sq_elf.specs.Memory as pieces
use Rattle.sq_elf.specs.Reading.{has_word, word_in, word_of}
use Rattle.sq_elf.specs.Refusing.{bad_segment, segment_kind, segment_overlap}
use Rattle.sq_elf.specs.Text.{text_of as text_range, text_segment_of}
use Rattle.sq_elf.proofs.Accepted.{segments_accepted}
use Rattle.sq_elf.proofs.Apart.{pieces_are_apart}
use Rattle.sq_elf.proofs.Passing.{IsFirst, found_from, row_passes}
use Rattle.sq_elf.proofs.TextFacts.{second_false, TextFacts, text_facts}
use Rattle.sq_reloc.specs.declared.mark.CodeWord.{CodeWord}
use Rattle.sq_reloc.specs.Outside.{is_stale, word_start}
use Rattle.sq_reloc.specs.CodeWords.{listed_at, IsCodeWord}
use Rattle.sq_reloc.proofs.CodeWordFacts.{is_code_word}
use Rattle.sq_graph.specs.declared.parts.CodeRef.{CodeRef}
use Rattle.sq_graph.specs.Graph.{Graph}
use Rattle.sq_graph.specs.Blocks.{HasBlock, HasProcedure}
use Rattle.sq_graph.specs.Walks.{word_name}
use Rattle.sq_graph.proofs.RulesByBlock.{by_block}
use Rattle.law_follow.specs.Values.{Cell}
use Rattle.law_follow.specs.Worlds.{Given, StaleByte, start_cell, piece_region}
use Rattle.law_follow.specs.Follows.{word_address}
use Rattle.law_erasure.specs.Erasure.{Erasing, IsErasedCell}
use Rattle.law_program.specs.Programs.{Program}
use Rattle.law_program.specs.FilePrograms.{IsReadAs}
use Rattle.law_program.specs.FileRuns.{code_word_number, byte_of_word, stale_or, start_byte, start_bytes, start_piece, segment_pieces}
use Rattle.law_files.proofs.FileBytes.{filled, filled_length, bytes_length, whole}
use Rattle.law_files.proofs.FileRegions.{IsAt, alone, no_copy, loaded}
use Rattle.law_files.proofs.FileImages.{image_is, all_segments}
use Rattle.law_files.proofs.TextSegment.{unmoved}
use Rattle.sq_write.specs.Points.{new_address}
use Rattle.sq_write.specs.Pieces.{set_word_at, set_byte}
use Rattle.sq_write.proofs.SegmentFacts.{shaped_at}
use Rattle.law_written.specs.Runs.{new_names}
use Rattle.law_written.specs.Files.{IsWritableInto, code_word_address}
use Rattle.law_written.proofs.Somewhere.{AreParallel, parallel_append, regions_apart, AreApart}
use Rattle.law_written.proofs.SegmentCells.{Around, holds, before, behind, tagged, tagged_length, IsKept, own_region, copy_region, segment_regions}

-- CODE WORDS IN TWO LISTS

-- the code word of a graph at an address
abbrev found_at : List CodeRef → ℕ → Option CodeRef
found_at rs a = find (λ r. nat_eq r.at a) rs

none_found : (ws : List CodeWord) (rs : List CodeRef) (a : ℕ) → map word_address rs ≡ map code_word_address ws → code_word_number ws a ≡ None → found_at rs a ≡ None
none_found [] [] a same e = refl
none_found [] (r ∷ rs) a same e = absurd (cc)
none_found (w ∷ ws) [] a same e = absurd (cc)
none_found (w ∷ ws) (r ∷ rs) a same e =
    let tails : map word_address rs ≡ map code_word_address ws = cc in
    go (w.at == a) refl e (λ f. none_found ws rs a tails f)
  where
    heads : r.at ≡ w.at
    heads = cc

    rest : (o : Option ℕ) → code_word_number ws a ≡ o → option_map suc o ≡ None → (code_word_number ws a ≡ None → found_at rs a ≡ None) → found_at rs a ≡ None
    rest None f e rec = rec f
    rest (Some n) f e rec = absurd (cc)

    go : (b : Bool) → (w.at == a) ≡ b → (if b then Some 0 else option_map suc (code_word_number ws a)) ≡ None → (code_word_number ws a ≡ None → found_at rs a ≡ None) → found_at (r ∷ rs) a ≡ None
    go true f e rec = absurd (cc)
    go false f e rec =
        let g : nat_eq r.at a ≡ false = subst (λ n. nat_eq n a ≡ false) (sym heads) f in
        rw g (rest (code_word_number ws a) refl e rec)

-- it is the one of the same number
record IsNumbered (rs : List CodeRef) (a number : ℕ) : Type 0 where
  word : CodeRef
  found : found_at rs a ≡ Some word
  named : slice_get (map word_name rs) number ≡ Some word.block

some_found : (ws : List CodeWord) (rs : List CodeRef) (a number : ℕ) → map word_address rs ≡ map code_word_address ws → code_word_number ws a ≡ Some number → IsNumbered rs a number
some_found [] rs a number same e = absurd (cc)
some_found (w ∷ ws) [] a number same e = absurd (cc)
some_found (w ∷ ws) (r ∷ rs) a number same e =
    let tails : map word_address rs ≡ map code_word_address ws = cc in
    go (w.at == a) refl e (λ n f. some_found ws rs a n tails f)
  where
    heads : r.at ≡ w.at
    heads = cc

    rest : (o : Option ℕ) → code_word_number ws a ≡ o → option_map suc o ≡ Some number → nat_eq r.at a ≡ false → ((n : ℕ) → code_word_number ws a ≡ Some n → IsNumbered rs a n) → IsNumbered (r ∷ rs) a number
    rest None f e g rec = absurd (cc)
    rest (Some n) f e g rec =
        let more = rec n f in
        let is : suc n ≡ number = cc in
        record { word = more.word; found = rw g more.found; named = subst (λ k. slice_get (map word_name (r ∷ rs)) k ≡ Some more.word.block) is more.named }

    go : (b : Bool) → (w.at == a) ≡ b → (if b then Some 0 else option_map suc (code_word_number ws a)) ≡ Some number → ((n : ℕ) → code_word_number ws a ≡ Some n → IsNumbered rs a n) → IsNumbered (r ∷ rs) a number
    go true f e rec =
        let g : nat_eq r.at a ≡ true = subst (λ n. nat_eq n a ≡ true) (sym heads) f in
        let is : 0 ≡ number = cc in
        record { word = r; found = rw g refl; named = subst (λ k. slice_get (map word_name (r ∷ rs)) k ≡ Some r.block) is refl }
    go false f e rec = rest (code_word_number ws a) refl e (subst (λ n. nat_eq n a ≡ false) (sym heads) f) rec

-- a code word of the file's list
some_listed : (ws : List CodeWord) (a number : ℕ) → code_word_number ws a ≡ Some number → (to : ℕ) × (listed_at ws a ≡ Some to)
some_listed [] a number e = absurd (cc)
some_listed (w ∷ ws) a number e = go (w.at == a) e (λ n f. some_listed ws a n f)
  where
    rest : (o : Option ℕ) → code_word_number ws a ≡ o → option_map suc o ≡ Some number → ((n : ℕ) → code_word_number ws a ≡ Some n → (to : ℕ) × (listed_at ws a ≡ Some to)) → (to : ℕ) × (listed_at ws a ≡ Some to)
    rest None f e rec = absurd (cc)
    rest (Some n) f e rec = rec n f

    go : (b : Bool) → (if b then Some 0 else option_map suc (code_word_number ws a)) ≡ Some number → ((n : ℕ) → code_word_number ws a ≡ Some n → (to : ℕ) × (listed_at ws a ≡ Some to)) → (to : ℕ) × (option_map (λ (word : CodeWord). word.to) (if b then Some w else find (λ word. nat_eq word.at a) ws) ≡ Some to)
    go true e rec = (w.to, refl)
    go false e rec = rest (code_word_number ws a) refl e rec

all_get : (P : ℕ → Type 0) (xs : List ℕ) (i n : ℕ) → All P xs → slice_get xs i ≡ Some n → P n
all_get P [] i n all e = absurd (cc)
all_get P (x ∷ xs) zero n all e = let same : x ≡ n = cc in subst P same (All-head P x xs all)
all_get P (x ∷ xs) (suc i) n all e = all_get P xs i n (All-tail P x xs all) e

byte_at : (y k : ℕ) → k < 4 → slice_get (little_bytes 4 y) k ≡ Some (slice_index (little_bytes 4 y) k)
byte_at y zero l = refl
byte_at y (suc zero) l = refl
byte_at y (suc (suc zero)) l = refl
byte_at y (suc (suc (suc zero))) l = refl
byte_at y (suc (suc (suc (suc k)))) l = absurd (omega (arith, l))

module _ (bytes : List ℕ) (is : ℕ → Bool) (p : Program) (g : Graph) (read : IsReadAs bytes is p) (can : IsWritableInto bytes p g) where
  abbrev lo : ℕ
  lo = (text_range bytes).lo

  abbrev hi : ℕ
  hi = (text_range bytes).hi

  abbrev E : Erasing
  E = new_names g lo (λ x. None)

  abbrev names : List ℕ
  names = map word_name g.code_words

  abbrev pub cell : ℕ → ℕ → Cell
  cell v b = start_cell names (start_byte bytes p.code_words v b)

  abbrev set : ℕ → Option ℕ
  set = set_word_at g lo

  -- a byte that the file has
  byte_erased : (v b : ℕ) → IsErasedCell E (cell v b) (set_byte (set (word_start v)) (v % 4) b)
  byte_erased v b = go (code_word_number p.code_words (word_start v)) refl
    where
      other : (t : Bool) → IsErasedCell E (start_cell names (if t then StaleByte else Given b)) b
      other true = tt
      other false = refl

      go : (o : Option ℕ) → code_word_number p.code_words (word_start v) ≡ o → IsErasedCell E (start_cell names (byte_of_word (v % 4) o (stale_or bytes v b))) (set_byte (set (word_start v)) (v % 4) b)
      go None e =
          let none : set (word_start v) ≡ None = ap (option_map (λ (r : CodeRef). new_address g lo r.block)) (none_found p.code_words g.code_words (word_start v) can.code_words e) in
          rw none (other (is_stale bytes v))
      go (Some number) e =
          let n = some_found p.code_words g.code_words (word_start v) number can.code_words e in
          let found : set (word_start v) ≡ Some (new_address g lo n.word.block) = ap (option_map (λ (r : CodeRef). new_address g lo r.block)) n.found in
          let by = by_block (HasBlock g) (HasProcedure g) g can.rules can.rules.named_all can.rules.called_all in
          let has : HasBlock g n.word.block = all_get (HasBlock g) names number n.word.block by.words n.named in
          rw (found, n.named) (new_address g lo n.word.block, (has, refl), byte_at (new_address g lo n.word.block) (v % 4) (omega arith))

  -- a code word stands in the file bytes of some segment
  record Stored (a : ℕ) : Type 0 where
    index : ℕ
    within : index < phnum_of bytes
    load : is_load bytes index ≡ true
    low : (segment_of bytes index).address ≤ a
    high : a + 4 ≤ (segment_of bytes index).address + (segment_of bytes index).filesz

  word_stored : (a number : ℕ) → code_word_number p.code_words a ≡ Some number → Stored a
  unfolding word_of
  word_stored a number e =
      let l = some_listed p.code_words a number e in
      let code : IsCodeWord bytes a l.0 = is_code_word bytes read.relocs a l.0 (sym (read.program.code_words.exactly a) ∙ l.1) in
      go (first_from (has_word bytes a) 0 (phnum_of bytes)) refl l.0 code.in_file
    where
      by : (j : ℕ) → j < phnum_of bytes → has_word bytes a j ≡ true → Stored a
      by j below has =
          let parts = and_parts (is_load bytes j) (nat_le (segment_of bytes j).address a && nat_le (a + 4) ((segment_of bytes j).address + (segment_of bytes j).filesz)) has in
          let ends = and_parts (nat_le (segment_of bytes j).address a) (nat_le (a + 4) ((segment_of bytes j).address + (segment_of bytes j).filesz)) parts.1 in
          record { index = j; within = below; load = parts.0; low = le_of (segment_of bytes j).address a ends.0; high = le_of (a + 4) ((segment_of bytes j).address + (segment_of bytes j).filesz) ends.1 }
        where
          le_of : (a b : ℕ) → nat_le a b ≡ true → a ≤ b
          le_of a b e = grind (arith, nat_tests)

      go : (o : Option ℕ) → first_from (has_word bytes a) 0 (phnum_of bytes) ≡ o → (to : ℕ) → option_map (λ j. word_in bytes (segment_of bytes j) a) o ≡ Some to → Stored a
      go None e to f = absurd (cc)
      go (Some j) e to f =
          let first : IsFirst (has_word bytes a) 0 (phnum_of bytes) j = found_from (has_word bytes a) 0 (phnum_of bytes) j e in
          by j (let h = first.high in omega (arith, h)) first.here

  -- EACH SEGMENT

  module _ (k : ℕ) (within : k < phnum_of bytes) (has : has_memory bytes k ≡ true) where
    abbrev s : Segment
    s = segment_of bytes k

    load : is_load bytes k ≡ true
    load = loaded bytes k has

    -- a zero behind the file bytes
    nought_erased : (i : ℕ) → s.filesz ≤ i → i < s.memsz → IsErasedCell E (cell (s.address + i) 0) 0
    nought_erased i back inside = go (code_word_number p.code_words (word_start (s.address + i))) refl
      where
        v : ℕ
        v = s.address + i

        other : (t : Bool) → IsErasedCell E (start_cell names (if t then StaleByte else Given 0)) 0
        other true = tt
        other false = refl

        here : IsAt (s.address + i) s.address s.memsz
        here = record { from = omega arith; below = omega (arith, inside) }

        never : Stored (word_start (s.address + i)) → ⊥
        never t = elim (cases_eq t.index k) [ inl same ↦ own same | inr differ ↦ away differ ]
          where
            own : t.index ≡ k → ⊥
            own same =
                let high : word_start (s.address + i) + 4 ≤ s.address + s.filesz = subst (λ j. word_start (s.address + i) + 4 ≤ (segment_of bytes j).address + (segment_of bytes j).filesz) same t.high in
                omega (arith, high, back)

            away : t.index ≢ k → ⊥
            away differ =
                let low = t.low in
                let high = t.high in
                let fewer = whole bytes read.file t.index t.within t.load in
                alone bytes read.file t.index t.within t.load (s.address + i) (record { from = omega (arith, low); below = omega (arith, high, fewer) }) k within load (λ e. differ (sym e)) here

        go : (o : Option ℕ) → code_word_number p.code_words (word_start (s.address + i)) ≡ o → IsErasedCell E (start_cell names (byte_of_word ((s.address + i) % 4) o (stale_or bytes (s.address + i) 0))) 0
        go None e = other (is_stale bytes (s.address + i))
        go (Some number) e = absurd (never (word_stored (word_start (s.address + i)) number e))

    facts : TextFacts bytes read.file
    facts = text_facts bytes read.file

    abbrev number : ℕ
    number = text_segment_of bytes

    in_text_segment : (x : ℕ) → lo ≤ x → x < hi → IsAt x (segment_of bytes number).address (segment_of bytes number).memsz
    in_text_segment x low high =
        let a = facts.inside.low in
        let b = facts.inside.high in
        let c = whole bytes read.file number facts.within facts.load in
        record { from = omega (arith, a, low); below = omega (arith, b, c, high) }

    around : Around lo hi s
    around = elim (cases_eq k number) [ inl same ↦ own same | inr differ ↦ other differ ]
      where
        own : k ≡ number → Around lo hi s
        own same =
            let a = facts.inside.low in
            let b = facts.inside.high in
            let c = whole bytes read.file number facts.within facts.load in
            let moved = unmoved bytes read.file in
            subst (λ j. Around lo hi (segment_of bytes j)) (sym same) (holds moved a (omega (arith, b, c)))

        other : k ≢ number → Around lo hi s
        other differ = elim (cases_lt lo (s.address + s.memsz)) [ inl more ↦ elim (cases_lt s.address hi) [ inl less ↦ absurd (meet more less) | inr end ↦ behind end ] | inr end ↦ before end ]
          where
            meet : lo < s.address + s.memsz → s.address < hi → ⊥
            meet more less =
                let some = facts.inside.some in
                let memory : 0 < s.memsz = lt_of 0 s.memsz (and_parts (is_load bytes k) (nat_lt 0 s.memsz) has).1 in
                let x : ℕ = max lo s.address in
                alone bytes read.file number facts.within facts.load (max lo s.address) (in_text_segment (max lo s.address) (omega arith) (omega (arith, some, less))) k within load differ
                (record { from = omega arith; below = omega (arith, more, memory) })
              where
                lt_of : (a b : ℕ) → nat_lt a b ≡ true → a < b
                lt_of a b e = grind (arith, nat_tests)

    loads : s.load_address + s.filesz ≤ 2 ^ 32
    loads =
        let good : is_bad_segment bytes k ≡ false = row_passes (bad_segment bytes) (segment_kind bytes ∷ segment_overlap bytes ∷ []) (segments_accepted bytes read.file) k within in
        let shaped = second_false (is_load bytes k) (is_misshapen s) good load in
        let ends = or_parts (nat_lt s.memsz s.filesz || nat_lt (2 ^ 32) (s.address + s.memsz)) (nat_lt (2 ^ 32) (s.load_address + s.filesz)) shaped in
        not_less (2 ^ 32) (s.load_address + s.filesz) ends.1
      where
        not_less : (a b : ℕ) → nat_lt a b ≡ false → b ≤ a
        not_less a b e = grind (arith, nat_tests)

    kept_one : (some_text : lo < hi) → IsKept (IsErasedCell E) cell bytes set some_text s
    kept_one some_text = record {
      stored = bytes_length bytes read.file k within load;
      whole = whole bytes read.file k within load;
      fits = (shaped_at bytes read.file k within load).fits;
      loads = loads;
      around = around;
      apart = λ x low high from below. no_copy bytes read.file number facts.within facts.load x (in_text_segment x low high) k within load (record { from = from; below = below });
      byte = λ i b e. byte_erased (s.address + i) b;
      nought = nought_erased;
    }

  pub some_text : lo < hi
  some_text = (text_facts bytes read.file).inside.some

  pub kept : AllByRecursion (IsKept (IsErasedCell E) cell bytes set some_text) (segments_of bytes)
  kept = all_segments (IsKept (IsErasedCell E) cell bytes set some_text) bytes (λ k within has. kept_one k within has some_text)

  -- THE REGIONS OF THE WORLD

  abbrev pub regions : Segment → List (Region Cell)
  regions s = segment_regions (IsErasedCell E) cell bytes set some_text s

  cells_are : (x : ℕ) (bs : List ℕ) → map (start_cell names) (start_bytes bytes p.code_words x bs) ≡ tagged cell x bs
  cells_are x [] = refl
  cells_are x (b ∷ bs) = ap (λ cs. cell x b ∷ cs) (cells_are (x + 1) bs)

  abbrev placed : ℕ → List Cell → Region Cell
  placed at cs = record { start = at; cells = cs }

  one_segment : (s : Segment) → map (piece_region names) (segment_pieces bytes p.code_words s) ≡ regions s
  one_segment s = go (nat_lt 0 (copy_size s))
    where
      go : (b : Bool) → map (piece_region names) (start_piece bytes p.code_words s.address (own_piece bytes s) ∷ (if b then start_piece bytes p.code_words s.address (copy_piece bytes s) ∷ [] else [])) ≡ own_region (IsErasedCell E) cell bytes set some_text s ∷ (if b then copy_region (IsErasedCell E) cell bytes set some_text s ∷ [] else [])
      go false = ap (λ cs. placed s.address cs ∷ []) (cells_are s.address (filled s.memsz (file_bytes_of bytes s)))
      go true =
          ap (λ cs. placed s.address cs ∷ placed s.load_address (map (start_cell names) (start_bytes bytes p.code_words s.address (filled s.filesz (file_bytes_of bytes s)))) ∷ []) (cells_are s.address (filled s.memsz (file_bytes_of bytes s)))
          ∙ ap (λ cs. placed s.address (tagged cell s.address (filled s.memsz (file_bytes_of bytes s))) ∷ placed s.load_address cs ∷ []) (cells_are s.address (filled s.filesz (file_bytes_of bytes s)))

  pub regions_are : (ss : List Segment) → map (piece_region names) (flat_map (segment_pieces bytes p.code_words) ss) ≡ flat_map regions ss
  regions_are [] = refl
  regions_are (s ∷ ss) =
      map-append (piece_region names) (segment_pieces bytes p.code_words s) (flat_map (segment_pieces bytes p.code_words) ss)
      ∙ ap (λ rs. rs ++ map (piece_region names) (flat_map (segment_pieces bytes p.code_words) ss)) (one_segment s)
      ∙ ap (λ rs. regions s ++ rs) (regions_are ss)

  parallel : (ss : List Segment) → AllByRecursion (IsKept (IsErasedCell E) cell bytes set some_text) ss → AreParallel (flat_map (image_pieces bytes) ss) (flat_map regions ss)
  parallel [] all = tt
  parallel (s ∷ ss) all = parallel_append (image_pieces bytes s) (flat_map (image_pieces bytes) ss) (regions s) (flat_map regions ss) (one s all.0) (parallel ss all.1)
    where
      one : (s : Segment) → IsKept (IsErasedCell E) cell bytes set some_text s → AreParallel (image_pieces bytes s) (regions s)
      one s k = go (nat_lt 0 (copy_size s))
        where
          full : (n : ℕ) → s.filesz ≤ n → length (tagged cell s.address (filled n (file_bytes_of bytes s))) ≡ n
          full n h = let stored = k.stored in tagged_length cell s.address (filled n (file_bytes_of bytes s)) ∙ filled_length n (file_bytes_of bytes s) (omega (arith, stored, h))

          go : (b : Bool) → AreParallel (own_piece bytes s ∷ (if b then copy_piece bytes s ∷ [] else [])) (own_region (IsErasedCell E) cell bytes set some_text s ∷ (if b then copy_region (IsErasedCell E) cell bytes set some_text s ∷ [] else []))
          go false = (refl, full s.memsz k.whole, tt)
          go true = (refl, full s.memsz k.whole, (refl, full s.filesz (omega arith), tt))

  pub apart : AreApart (flat_map regions (segments_of bytes))
  apart =
      regions_apart (flat_map (image_pieces bytes) (segments_of bytes)) (flat_map regions (segments_of bytes)) (parallel (segments_of bytes) kept)
      (subst pieces.AreApart (image_is bytes) (pieces_are_apart bytes read.file))
