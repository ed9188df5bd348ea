-- The plain machine of a file starts as its world does.
use Rattle.std.proofs.Common.{◌≡◌, ℕ, zero, suc, ◌+◌, ◌-◌, ◌/◌, ◌%◌, ◌^◌, ◌≤◌, ◌<◌, nat_le, nat_lt, Bool, true, false, ◌==◌, ◌&&◌, List, [], ◌∷◌, ◌++◌, length, map, take, drop, replicate, Option, Some, None, is_some, slice_get, get_or, if◌then◌else◌, refl, sym, ap, ◌∙◌, subst, arith}
use Rattle.std.specs.Option.{unwrap_or, option_map}
use Rattle.std.specs.List.{AllByRecursion, flat_map}
use Rattle.std.proofs.lemmas.Bool.{and_from, and_parts}
use Rattle.std.proofs.lemmas.Bool.Decides.{nat_tests}
use Rattle.std.proofs.lemmas.List.{map-append, take_all, length-take-le, length-drop, length-map}
use Rattle.std.proofs.lemmas.List.Concat.{flat_map-append}
use Rattle.std.proofs.lemmas.Option.{slice_get-map, slice_get-get_or}
use Rattle.sq_isa.specs.Accesses.{bytes_number}
use Rattle.sq_num.specs.Refusals.{first_from}
use Rattle.sq_memory.specs.Cells.{Cells, Agree, AgreeOn, cells_from}
use Rattle.sq_memory.specs.Regions.{Region, region_cell, get}
use Rattle.sq_memory.proofs.RangeLaws.{cells_from_is}
use Rattle.sq_system.specs.Starts.{Start, ram_at_start}
use Rattle.sq_system.specs.World.{is_executable, is_range, are_all}
use Rattle.sq_elf.specs.declared.segment.Segment.{Segment}
use Rattle.sq_elf.specs.Headers.{phnum_of, is_load, segment_of}
use Rattle.sq_elf.specs.Segments.{copy_size}
use Rattle.sq_elf.specs.Memory.{has_memory, own_piece, copy_piece, file_bytes_of, segments_before, image_before, segment_pieces as image_pieces}
use Rattle.sq_elf.specs.Text.{text_of as text_range, is_in_text as range_has, text_segment_of}
use Rattle.sq_elf.specs.Reading.{has_word, word_in, word_of}
use Rattle.sq_elf.proofs.Passing.{IsFirst, found_from}
use Rattle.sq_elf.proofs.TextFacts.{TextFacts, text_facts, text_has_words}
use Rattle.sq_reloc.specs.declared.mark.CodeWord.{CodeWord}
use Rattle.sq_reloc.specs.Outside.{word_start}
use Rattle.sq_machine.specs.Starts.{piece_region as plain_region, ram_region as plain_ram}
use Rattle.sq_machine.specs.State.{number_at, aligned_number, with_register}
use Rattle.law_follow.specs.Values.{Cell, Byte}
use Rattle.law_follow.specs.Worlds.{start_cell, piece_region, ram_region, regions_at_start}
use Rattle.law_patch.specs.LiveAgreement.{everywhere}
use Rattle.law_erasure.specs.Erasure.{IsErasedCell}
use Rattle.sq_run.specs.FileRuns.{start_piece as plain_start, file_world, file_state, file_trace}
use Rattle.law_program.specs.Programs.{Word, Program, word_at, is_in_text, end_of, target_of}
use Rattle.law_program.specs.FilePrograms.{text_of, IsReadAs}
use Rattle.law_program.specs.FileRuns.{start_piece, start_byte, start_bytes, segment_pieces, world_of}
use Rattle.law_lifting.specs.Watching.{own_names, IsPlainStart}
use Rattle.law_lifting.proofs.TextWords.{stood}
use Rattle.law_lifting.proofs.Watched.{watching_erases}
use Rattle.sq_lifted.specs.Files.{FilesStartPlain, FilesShowPlain}
use Rattle.sq_lifted.proofs.Files.{ends_at, words_are, is_text_word_of, files_linked}
use Rattle.law_files.proofs.TextSegment.{has_text}
use Rattle.sq_lifted.proofs.FileWorlds.{text_executable, early_readable, files_keep_runs}
use Rattle.sq_lifted.proofs.FileLayouts.{laid_out}
use Rattle.law_files.proofs.FileBytes.{le_is, lt_is, filled, filled_length, taken_byte, dropped_byte, first_number, field_is, in_file, bytes_length, filled_byte, whole}
use Rattle.law_files.proofs.FileRegions.{get_append, regions_before, before_agree, or_agree, AreSized, loaded, cell_at}
use Rattle.sq_lifted.proofs.PlainCells.{start_bytes_length, start_cell_get, cells_erased, text_byte}

-- THE TWO MEMORIES AS REGIONS OF SEGMENTS

module _ (bytes : List ℕ) where
  abbrev plain_own : Segment → Region ℕ
  plain_own s = plain_region (plain_start (own_piece bytes s))

  abbrev plain_copy : Segment → Region ℕ
  plain_copy s = plain_region (plain_start (copy_piece bytes s))

  plain_segment : (s : Segment) → map plain_region (map plain_start (image_pieces bytes s)) ≡ plain_own s ∷ (if nat_lt 0 (copy_size s) then plain_copy s ∷ [] else [])
  plain_segment s = go (nat_lt 0 (copy_size s))
    where
      go : (b : Bool) → map plain_region (map plain_start (own_piece bytes s ∷ (if b then copy_piece bytes s ∷ [] else []))) ≡ plain_own s ∷ (if b then plain_copy s ∷ [] else [])
      go true = refl
      go false = refl

  plain_before : (count : ℕ) → map plain_region (map plain_start (image_before bytes count)) ≡ regions_before bytes plain_own plain_copy count
  unfolding image_before
  plain_before zero = refl
  plain_before (suc count) = go (has_memory bytes count) (plain_before count)
    where
      go : (b : Bool) → map plain_region (map plain_start (image_before bytes count)) ≡ regions_before bytes plain_own plain_copy count → map plain_region (map plain_start (if b then image_before bytes count ++ image_pieces bytes (segment_of bytes count) else image_before bytes count)) ≡ (if b then regions_before bytes plain_own plain_copy count ++ (plain_own (segment_of bytes count) ∷ (if nat_lt 0 (copy_size (segment_of bytes count)) then plain_copy (segment_of bytes count) ∷ [] else [])) else regions_before bytes plain_own plain_copy count)
      go false e = e
      go true e =
          ap (map plain_region) (map-append plain_start (image_before bytes count) (image_pieces bytes (segment_of bytes count)))
          ∙ map-append plain_region (map plain_start (image_before bytes count)) (map plain_start (image_pieces bytes (segment_of bytes count)))
          ∙ rw (e, plain_segment (segment_of bytes count)) refl

module _ (bytes : List ℕ) (words : List CodeWord) where
  abbrev targets : List ℕ
  targets = map target_of words

  abbrev tagged_own : Segment → Region Cell
  tagged_own s = piece_region targets (start_piece bytes words s.address (own_piece bytes s))

  abbrev tagged_copy : Segment → Region Cell
  tagged_copy s = piece_region targets (start_piece bytes words s.address (copy_piece bytes s))

  tagged_segment : (s : Segment) → map (piece_region targets) (flat_map (segment_pieces bytes words) (s ∷ [])) ≡ tagged_own s ∷ (if nat_lt 0 (copy_size s) then tagged_copy s ∷ [] else [])
  tagged_segment s = go (nat_lt 0 (copy_size s))
    where
      go : (b : Bool) → map (piece_region targets) ((start_piece bytes words s.address (own_piece bytes s) ∷ (if b then start_piece bytes words s.address (copy_piece bytes s) ∷ [] else [])) ++ []) ≡ tagged_own s ∷ (if b then tagged_copy s ∷ [] else [])
      go true = refl
      go false = refl

  tagged_before : (count : ℕ) → map (piece_region targets) (flat_map (segment_pieces bytes words) (segments_before bytes count)) ≡ regions_before bytes tagged_own tagged_copy count
  unfolding segments_before
  tagged_before zero = refl
  tagged_before (suc count) = go (has_memory bytes count) (tagged_before count)
    where
      go : (b : Bool) → map (piece_region targets) (flat_map (segment_pieces bytes words) (segments_before bytes count)) ≡ regions_before bytes tagged_own tagged_copy count → map (piece_region targets) (flat_map (segment_pieces bytes words) (if b then segments_before bytes count ++ segment_of bytes count ∷ [] else segments_before bytes count)) ≡ (if b then regions_before bytes tagged_own tagged_copy count ++ (tagged_own (segment_of bytes count) ∷ (if nat_lt 0 (copy_size (segment_of bytes count)) then tagged_copy (segment_of bytes count) ∷ [] else [])) else regions_before bytes tagged_own tagged_copy count)
      go false e = e
      go true e =
          ap (map (piece_region targets)) (flat_map-append (segment_pieces bytes words) (segments_before bytes count) (segment_of bytes count ∷ []))
          ∙ map-append (piece_region targets) (flat_map (segment_pieces bytes words) (segments_before bytes count)) (flat_map (segment_pieces bytes words) (segment_of bytes count ∷ []))
          ∙ rw (e, tagged_segment (segment_of bytes count)) refl

-- RAM

ram_agrees : (R : Cell → ℕ → Type 0) → ((b : ℕ) → R (Byte b) b) → (start : Start) (x : ℕ) → Agree R (get (ram_region start ∷ []) x) (get (plain_ram start ∷ []) x)
ram_agrees R same start x = or_agree R (region_cell (ram_region start) x) None (region_cell (plain_ram start) x) None (go (nat_le start.base x)) tt
  where
    cell : (o : Option ℕ) → Agree R (option_map Byte o) o
    cell None = tt
    cell (Some b) = same b

    go : (b : Bool) → Agree R (if b then slice_get (map Byte (ram_at_start start)) (x - start.base) else None) (if b then slice_get (ram_at_start start) (x - start.base) else None)
    go false = tt
    go true = rw (slice_get-map Byte (ram_at_start start) (x - start.base)) (cell (slice_get (ram_at_start start) (x - start.base)))

module _ (bytes : List ℕ) (is : ℕ → Bool) (p : Program) (fit : AllByRecursion (λ b. b < 256) bytes) (read : IsReadAs bytes is p) (start : Start) where
  abbrev count : ℕ
  count = phnum_of bytes

  abbrev names : List ℕ
  names = map target_of p.code_words

  plain_memory : (file_state bytes start).memory ≡ get (regions_before bytes (plain_own bytes) (plain_copy bytes) count ++ plain_ram start ∷ [])
  unfolding file_state with_register
  plain_memory = ap (λ (rs : List (Region ℕ)). get (rs ++ plain_ram start ∷ [])) (plain_before bytes count)

  tagged_memory : get (regions_at_start (world_of bytes p) names start) ≡ get (regions_before bytes (tagged_own bytes p.code_words) (tagged_copy bytes p.code_words) count ++ ram_region start ∷ [])
  tagged_memory = ap (λ (rs : List (Region Cell)). get (rs ++ ram_region start ∷ [])) (tagged_before bytes p.code_words count)

  -- ERASURE

  module _ (k : ℕ) (within : k < phnum_of bytes) (load : is_load bytes k ≡ true) (x : ℕ) where
    abbrev segment : Segment
    segment = segment_of bytes k

    abbrev stored : List ℕ
    stored = file_bytes_of bytes segment

    -- a region with these bytes, wherever it stands
    region_erased : (first : Cells ℕ) (at size : ℕ) → length stored ≤ size → size ≤ segment.memsz → Agree (IsErasedCell (own_names is first)) (if nat_le at x then slice_get (map (start_cell names) (start_bytes bytes p.code_words segment.address (filled size stored))) (x - at) else None) (if nat_le at x then slice_get (take size stored ++ replicate (size - length stored) 0) (x - at) else None)
    region_erased first at size fewer most = go (nat_le at x)
      where
        go : (b : Bool) → Agree (IsErasedCell (own_names is first)) (if b then slice_get (map (start_cell names) (start_bytes bytes p.code_words segment.address (filled size stored))) (x - at) else None) (if b then slice_get (take size stored ++ replicate (size - length stored) 0) (x - at) else None)
        go false = tt
        go true = cells_erased bytes is p fit read k within load first size (x - at) fewer most

    own_erased : (first : Cells ℕ) → Agree (IsErasedCell (own_names is first)) (region_cell (tagged_own bytes p.code_words segment) x) (region_cell (plain_own bytes segment) x)
    own_erased first =
        let n = bytes_length bytes read.file k within load in
        let m = whole bytes read.file k within load in
        region_erased first segment.address segment.memsz (omega (arith, n, m)) (omega arith)

    copy_erased : (first : Cells ℕ) → Agree (IsErasedCell (own_names is first)) (region_cell (tagged_copy bytes p.code_words segment) x) (region_cell (plain_copy bytes segment) x)
    copy_erased first =
        let n = bytes_length bytes read.file k within load in
        let m = whole bytes read.file k within load in
        region_erased first segment.load_address segment.filesz (omega (arith, n)) m

  memory_erased : (first : Cells ℕ) → AgreeOn everywhere (IsErasedCell (own_names is first)) (get (regions_at_start (world_of bytes p) names start)) (file_state bytes start).memory
  memory_erased first = rw (tagged_memory, plain_memory) (λ x e. at x)
    where
      at : (x : ℕ) → Agree (IsErasedCell (own_names is first)) (get (regions_before bytes (tagged_own bytes p.code_words) (tagged_copy bytes p.code_words) count ++ ram_region start ∷ []) x) (get (regions_before bytes (plain_own bytes) (plain_copy bytes) count ++ plain_ram start ∷ []) x)
      at x =
          rw (get_append (regions_before bytes (tagged_own bytes p.code_words) (tagged_copy bytes p.code_words) count) (ram_region start ∷ []) x, get_append (regions_before bytes (plain_own bytes) (plain_copy bytes) count) (plain_ram start ∷ []) x)
          (or_agree (IsErasedCell (own_names is first)) (get (regions_before bytes (tagged_own bytes p.code_words) (tagged_copy bytes p.code_words) count) x) (get (ram_region start ∷ []) x) (get (regions_before bytes (plain_own bytes) (plain_copy bytes) count) x) (get (plain_ram start ∷ []) x)
          (before_agree (IsErasedCell (own_names is first)) bytes (tagged_own bytes p.code_words) (tagged_copy bytes p.code_words) (plain_own bytes) (plain_copy bytes) x count
          (λ k less has. own_erased k less (loaded bytes k has) x first)
          (λ k less has. copy_erased k less (loaded bytes k has) x first))
          (ram_agrees (IsErasedCell (own_names is first)) (λ b. refl) start x))

  -- TEXT

  facts : TextFacts bytes read.file
  facts = text_facts bytes read.file

  abbrev number : ℕ
  number = text_segment_of bytes

  abbrev text_segment : Segment
  text_segment = segment_of bytes number

  abbrev lo : ℕ
  lo = (text_range bytes).lo

  abbrev hi : ℕ
  hi = (text_range bytes).hi

  plain_sized : AreSized bytes (plain_own bytes) (plain_copy bytes)
  plain_sized = record {
    own_start = λ s. refl;
    copy_start = λ s. refl;
    own_length = λ k within load. let n = bytes_length bytes read.file k within load in let m = whole bytes read.file k within load in sized (segment_of bytes k).memsz (file_bytes_of bytes (segment_of bytes k)) (omega (arith, n, m));
    copy_length = λ k within load. let n = bytes_length bytes read.file k within load in sized (segment_of bytes k).filesz (file_bytes_of bytes (segment_of bytes k)) (omega (arith, n));
  }
    where
      sized : (size : ℕ) (bs : List ℕ) → length bs ≤ size → length (take size bs ++ replicate (size - length bs) 0) ≡ size
      sized size bs fewer = rw (take_all size bs fewer) (filled_length size bs fewer)

  tagged_sized : AreSized bytes (tagged_own bytes p.code_words) (tagged_copy bytes p.code_words)
  tagged_sized = record {
    own_start = λ s. refl;
    copy_start = λ s. refl;
    own_length = λ k within load. let n = bytes_length bytes read.file k within load in let m = whole bytes read.file k within load in sized (segment_of bytes k).address (segment_of bytes k).memsz (file_bytes_of bytes (segment_of bytes k)) (omega (arith, n, m));
    copy_length = λ k within load. let n = bytes_length bytes read.file k within load in sized (segment_of bytes k).address (segment_of bytes k).filesz (file_bytes_of bytes (segment_of bytes k)) (omega (arith, n));
  }
    where
      sized : (x size : ℕ) (bs : List ℕ) → length bs ≤ size → length (map (start_cell names) (start_bytes bytes p.code_words x (filled size bs))) ≡ size
      sized x size bs fewer =
          length-map (start_bytes bytes p.code_words x (filled size bs)) (start_cell names) ∙ start_bytes_length bytes p.code_words x (filled size bs) ∙ filled_length size bs fewer

  in_range : (x : ℕ) → lo ≤ x → x < hi → range_has (text_range bytes) x ≡ true
  in_range x least most = and_from (nat_le lo x) (nat_lt x hi) (le_is lo x least) (lt_is x hi most)

  -- a byte of text in the world is a number
  text_cell : (x : ℕ) → lo ≤ x → x < hi → (c : ℕ) × (get (regions_at_start (world_of bytes p) names start) x ≡ Some (Byte c))
  text_cell x least most =
      (b, ap (λ m. m x) tagged_memory ∙ get_append (regions_before bytes (tagged_own bytes p.code_words) (tagged_copy bytes p.code_words) count) (ram_region start ∷ []) x ∙ rw found refl)
    where
      i : ℕ
      i = x - text_segment.address

      b : ℕ
      b = get_or bytes (text_segment.offset + i) 0

      place : text_segment.address + i ≡ x
      place = let a = facts.inside.low in omega (arith, a, least)

      short : i < text_segment.filesz
      short = let a = facts.inside.low in let c = facts.inside.high in omega (arith, a, c, least, most)

      byte : slice_get (filled text_segment.memsz (file_bytes_of bytes text_segment)) i ≡ Some b
      byte =
          let inside = in_file bytes read.file number facts.within facts.load (omega (arith, short)) in
          filled_byte bytes read.file number facts.within facts.load text_segment.memsz i short ∙ slice_get-get_or bytes (text_segment.offset + i) 0 (omega (arith, inside, short))

      given : start_cell names (start_byte bytes p.code_words (text_segment.address + i) b) ≡ Byte b
      given =
          let a = facts.inside.low_word in
          let start_least : lo ≤ word_start x = omega (arith, a, least) in
          let start_most : word_start x < hi = omega (arith, most) in
          ap (λ y. start_cell names (start_byte bytes p.code_words y b)) place
          ∙ ap (start_cell names) (text_byte bytes is p fit read x (in_range x least most) (in_range (word_start x) start_least start_most) b)

      cell : slice_get (tagged_own bytes p.code_words text_segment).cells i ≡ Some (Byte b)
      cell =
          start_cell_get bytes p.code_words names text_segment.address (filled text_segment.memsz (file_bytes_of bytes text_segment)) i
          ∙ ap (λ o. option_map (start_cell names) (option_map (start_byte bytes p.code_words (text_segment.address + i)) o)) byte
          ∙ ap Some given

      found : get (regions_before bytes (tagged_own bytes p.code_words) (tagged_copy bytes p.code_words) count) x ≡ Some (Byte b)
      found =
          let m = whole bytes read.file number facts.within facts.load in
          subst (λ y. get (regions_before bytes (tagged_own bytes p.code_words) (tagged_copy bytes p.code_words) count) y ≡ Some (Byte b)) place
          (cell_at bytes read.file (tagged_own bytes p.code_words) (tagged_copy bytes p.code_words) tagged_sized number i facts.within (has_text bytes read.file) (omega (arith, short, m)) (Byte b) cell)

  -- a file byte of a segment in the plain machine's memory
  module _ (k : ℕ) (within : k < phnum_of bytes) (load : is_load bytes k ≡ true) where
    abbrev held : Segment
    held = segment_of bytes k

    plain_byte : (i : ℕ) → i < held.filesz → (file_state bytes start).memory (held.address + i) ≡ slice_get bytes (held.offset + i)
    plain_byte i short =
        ap (λ m. m (held.address + i)) plain_memory
        ∙ get_append (regions_before bytes (plain_own bytes) (plain_copy bytes) count) (plain_ram start ∷ []) (held.address + i)
        ∙ rw found (sym there)
      where
        b : ℕ
        b = get_or bytes (held.offset + i) 0

        there : slice_get bytes (held.offset + i) ≡ Some b
        there = let inside = in_file bytes read.file k within load (omega (arith, short)) in slice_get-get_or bytes (held.offset + i) 0 (omega (arith, inside, short))

        cell : slice_get (plain_own bytes held).cells i ≡ Some b
        cell =
            let n = bytes_length bytes read.file k within load in
            let m = whole bytes read.file k within load in
            ap (λ bs. slice_get (bs ++ replicate (held.memsz - length (file_bytes_of bytes held)) 0) i) (take_all held.memsz (file_bytes_of bytes held) (omega (arith, n, m)))
            ∙ filled_byte bytes read.file k within load held.memsz i short
            ∙ there

        has : has_memory bytes k ≡ true
        has = let m = whole bytes read.file k within load in and_from (is_load bytes k) (nat_lt 0 held.memsz) load (lt_is 0 held.memsz (omega (arith, m, short)))

        found : get (regions_before bytes (plain_own bytes) (plain_copy bytes) count) (held.address + i) ≡ Some b
        found =
            let m = whole bytes read.file k within load in
            cell_at bytes read.file (plain_own bytes) (plain_copy bytes) plain_sized k i within has (omega (arith, short, m)) b cell

    -- the number of a word of the segment
    plain_number : (x : ℕ) → held.address ≤ x → x + 4 ≤ held.address + held.filesz → number_at (file_state bytes start).memory x 4 ≡ Some (word_in bytes held x)
    unfolding number_at
    plain_number x low high = ap (option_map bytes_number) found ∙ ap Some (first_number (drop at bytes) enough ∙ sym (field_is bytes at fits))
      where
        at : ℕ
        at = held.offset + (x - held.address)

        fits : at + 4 ≤ length bytes
        fits = let inside = in_file bytes read.file k within load (omega (arith, low, high)) in omega (arith, low, high, inside)

        enough : 4 ≤ length (drop at bytes)
        enough = let e = length-drop at bytes in let f = fits in omega (arith, e, f)

        four : length (take 4 (drop at bytes)) ≡ 4
        four = length-take-le 4 (drop at bytes) enough

        byte : (i : ℕ) → i < 4 → (file_state bytes start).memory (x + i) ≡ slice_get (take 4 (drop at bytes)) i
        byte i less =
            let here : held.address + (x - held.address + i) ≡ x + i = omega (arith, low) in
            let place : held.offset + (x - held.address + i) ≡ at + i = omega (arith, low) in
            ap (file_state bytes start).memory (sym here)
            ∙ plain_byte (x - held.address + i) (omega (arith, low, high, less))
            ∙ ap (slice_get bytes) place
            ∙ sym (dropped_byte at bytes i)
            ∙ sym (taken_byte 4 (drop at bytes) i less)

        found : cells_from (file_state bytes start).memory x 4 ≡ Some (take 4 (drop at bytes))
        found =
            subst (λ n. cells_from (file_state bytes start).memory x n ≡ Some (take 4 (drop at bytes))) four
            (cells_from_is (take 4 (drop at bytes)) (file_state bytes start).memory x (λ i less. byte i (let f = four in omega (arith, less, f))))

  -- a word of text in the plain machine's memory
  text_number : (x : ℕ) (w : Word) → word_at (text_of bytes) x ≡ Some w → number_at (file_state bytes start).memory x 4 ≡ Some w.number
  unfolding word_of
  text_number x w e =
      let t = is_text_word_of bytes is p read x w e in
      subst (λ v. number_at (file_state bytes start).memory x 4 ≡ Some v.number) (sym (words_are bytes x lo ((hi - lo) / 4) w e))
      (go (first_from (has_word bytes x) 0 (phnum_of bytes)) refl (text_has_words bytes read.file x t.0))
    where
      by : (j : ℕ) → j < phnum_of bytes → has_word bytes x j ≡ true → number_at (file_state bytes start).memory x 4 ≡ Some (word_in bytes (segment_of bytes j) x)
      by j below has =
          let s : Segment = segment_of bytes j in
          let parts = and_parts (is_load bytes j) (nat_le s.address x && nat_le (x + 4) (s.address + s.filesz)) has in
          let ends = and_parts (nat_le s.address x) (nat_le (x + 4) (s.address + s.filesz)) parts.1 in
          plain_number j below parts.0 x (le_of s.address x ends.0) (le_of (x + 4) (s.address + s.filesz) ends.1)
        where
          le_of : (a b : ℕ) → nat_le a b ≡ true → a ≤ b
          le_of a b e = grind (arith, nat_tests)

      go : (o : Option ℕ) → first_from (has_word bytes x) 0 (phnum_of bytes) ≡ o → is_some (option_map (λ j. word_in bytes (segment_of bytes j) x) (first_from (has_word bytes x) 0 (phnum_of bytes))) ≡ true → number_at (file_state bytes start).memory x 4 ≡ Some (unwrap_or (option_map (λ j. word_in bytes (segment_of bytes j) x) (first_from (has_word bytes x) 0 (phnum_of bytes))) 0)
      go None f some = absurd (let none : is_some (option_map (λ j. word_in bytes (segment_of bytes j) x) (first_from (has_word bytes x) 0 (phnum_of bytes))) ≡ false = rw f refl in cc (some, none))
      go (Some j) f some =
          let first : IsFirst (has_word bytes x) 0 (phnum_of bytes) j = found_from (has_word bytes x) 0 (phnum_of bytes) j f in
          rw f (by j (let h = first.high in omega (arith, h)) first.here)

  -- each word of text is executable and holds its number
  text_there : (x : ℕ) (w : Word) → word_at (text_of bytes) x ≡ Some w → (is_range (is_executable (file_world bytes start)) x 4 ≡ true) × (aligned_number (file_state bytes start).memory x 4 ≡ Some w.number)
  text_there x w e =
      let s = stood x (text_of bytes).lo w (text_of bytes).words e in
      let least : lo ≤ x = s.least in
      let top = ends_at bytes is p read in
      let most : x + 4 ≤ hi = let m = s.most in omega (arith, m, top) in
      let small : x + 4 ≤ 2 ^ 32 = let h = facts.high in omega (arith, h, most) in
      let t = is_text_word_of bytes is p read x w e in
      let aligned : (x % 4 == 0) ≡ true = rw t.1 refl in (
        and_from (nat_le (x + 4) (2 ^ 32)) (are_all (is_executable (file_world bytes start)) x 4) (le_is (x + 4) (2 ^ 32) small) (all_are 4 (λ i less. runs (x + i) (omega (arith, least)) (omega (arith, less, most)))),
        rw aligned (text_number x w e),
      )
    where
      runs : (y : ℕ) → lo ≤ y → y < hi → is_executable (file_world bytes start) y ≡ true
      runs y least most = (laid_out bytes p start).executable y ∙ text_executable bytes is p read start y least most

      all_are : (n : ℕ) → ((i : ℕ) → i < n → is_executable (file_world bytes start) (x + i) ≡ true) → are_all (is_executable (file_world bytes start)) x n ≡ true
      all_are zero h = refl
      all_are (suc n) h = and_from (are_all (is_executable (file_world bytes start)) x n) (is_executable (file_world bytes start) (x + n)) (all_are n (λ i less. h i (omega (arith, less)))) (h n (omega arith))

  in_text_of : (x : ℕ) → is_in_text (text_of bytes) x ≡ true → (lo ≤ x) × (x < hi)
  in_text_of x e =
      let a = and_parts (nat_le lo x) (nat_lt x (end_of (text_of bytes))) e in
      let top = ends_at bytes is p read in
      (least a.0, (let m = most (end_of (text_of bytes)) a.1 in omega (arith, m, top)))
    where
      least : nat_le lo x ≡ true → lo ≤ x
      least e = grind (arith, nat_tests)

      most : (n : ℕ) → nat_lt x n ≡ true → x < n
      most n e = grind (arith, nat_tests)

  plain_start_of : IsPlainStart is (world_of bytes p) start p (file_world bytes start) (file_state bytes start)
  unfolding file_state with_register
  plain_start_of = record {
    laid_out = laid_out bytes p start;
    end = (files_linked bytes is p fit read).short.ends;
    text = λ x w e. text_there x w (subst (λ t. word_at t x ≡ Some w) read.program.text e);
    bytes = λ x e. let a = in_text_of x (subst (λ t. is_in_text t x ≡ true) read.program.text e) in text_cell x a.0 a.1;
    pc = sym read.program.entry;
    registers = λ r. refl;
    memory = memory_erased (file_state bytes start).memory;
    input = refl;
    reservation = refl;
  }

pub start_plain : FilesStartPlain
start_plain bytes is p fit read start = plain_start_of bytes is p fit read start

-- THE PLAIN RUN AND THAT OF THE GRAPH

pub show_plain : FilesShowPlain
unfolding file_trace
show_plain bytes is p fit a start n unbroken =
    let linked = (files_linked bytes is p fit a.read).linked in
    let text = (early_readable bytes is p a.early).text in
    let graph = files_keep_runs bytes is p fit a start n unbroken in
    let plain = watching_erases p is linked a.read.reached text (world_of bytes p) start (file_world bytes start) (file_state bytes start) refl refl (start_plain bytes is p fit a.read start) n unbroken in
    (graph.0, graph.1 ∙ sym plain.1)
