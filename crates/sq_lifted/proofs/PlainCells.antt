-- The cells of a file's world, and the bytes of its plain machine.
use Rattle.std.proofs.Common.{◌≡◌, ◌≢◌, ℕ, zero, suc, ◌+◌, ◌-◌, ◌%◌, ◌≤◌, ◌<◌, nat_eq, nat_le, Bool, true, false, not, ◌==◌, ◌&&◌, List, [], ◌∷◌, ◌++◌, length, map, take, drop, replicate, Option, Some, None, slice_get, if◌then◌else◌, refl, sym, ap, ◌∙◌, subst, arith}
use Rattle.std.specs.Option.{option_map}
use Rattle.std.specs.List.{Contains, AllByRecursion, find}
use Rattle.std.proofs.lemmas.Bool.{eqb-true, eqb-false, and_parts}
use Rattle.std.proofs.lemmas.Bool.Decides.{nat_tests}
use Rattle.std.proofs.lemmas.List.{take_all, length-drop}
use Rattle.std.proofs.lemmas.Option.{slice_get-map, slice_get_within}
use Rattle.byteorder.specs.Endian.{little_number, little_bytes}
use Rattle.sq_num.specs.Refusals.{first_from}
use Rattle.sq_memory.specs.Cells.{Cells, Agree}
use Rattle.sq_elf.specs.declared.segment.Segment.{Segment}
use Rattle.sq_elf.specs.Headers.{phnum_of, is_load, segment_of}
use Rattle.sq_elf.specs.Memory.{file_bytes_of}
use Rattle.sq_elf.specs.Reading.{has_word, word_in, word_of}
use Rattle.sq_elf.specs.Text.{text_of as text_range, is_in_text as range_has}
use Rattle.sq_elf.proofs.Passing.{IsFirst, found_from}
use Rattle.sq_reloc.specs.declared.entry.Entry.{Entry}
use Rattle.sq_reloc.specs.declared.mark.CodeWord.{CodeWord}
use Rattle.sq_reloc.specs.Entries.{no_entry, target_of as entry_target, entries_of}
use Rattle.sq_reloc.specs.Outside.{is_code_entry, code_target, is_stale, word_start}
use Rattle.sq_reloc.specs.CodeWords.{listed_at, IsCodeWord}
use Rattle.sq_reloc.proofs.CodeWordFacts.{is_code_word}
use Rattle.sq_reloc.proofs.Found.{IsFoundAt, found_at}
use Rattle.law_follow.specs.Worlds.{Given, StaleByte, word_cell, start_cell}
use Rattle.law_erasure.specs.Erasure.{IsErasedCell}
use Rattle.sq_live.proofs.Nodes.{get_contains}
use Rattle.law_program.specs.Programs.{Program, target_of}
use Rattle.law_program.specs.Reached.{code_word}
use Rattle.law_program.specs.FilePrograms.{IsReadAs}
use Rattle.law_program.specs.FileRuns.{code_word_number, byte_of_word, stale_or, start_byte, start_bytes}
use Rattle.law_lifting.specs.Watching.{own_names}
use Rattle.sq_lifted.proofs.Files.{dropped, files_linked}
use Rattle.law_files.proofs.FileBytes.{filled, filled_length, dropped_byte, word_bytes, field_is, in_file, filled_byte, whole}
use Rattle.law_files.proofs.FileRegions.{IsAt, alone}

-- BYTES AT THE START

pub start_bytes_length : (bytes : List ℕ) (words : List CodeWord) (x : ℕ) (bs : List ℕ) → length (start_bytes bytes words x bs) ≡ length bs
start_bytes_length bytes words x [] = refl
start_bytes_length bytes words x (b ∷ bs) = ap suc (start_bytes_length bytes words (x + 1) bs)

start_bytes_get : (bytes : List ℕ) (words : List CodeWord) (x : ℕ) (bs : List ℕ) (i : ℕ) → slice_get (start_bytes bytes words x bs) i ≡ option_map (start_byte bytes words (x + i)) (slice_get bs i)
start_bytes_get bytes words x [] i = refl
start_bytes_get bytes words x (b ∷ bs) zero = let same : x ≡ x + 0 = omega arith in ap (λ y. Some (start_byte bytes words y b)) same
start_bytes_get bytes words x (b ∷ bs) (suc i) =
    let same : (x + 1) + i ≡ x + suc i = omega arith in
    start_bytes_get bytes words (x + 1) bs i ∙ ap (λ y. option_map (start_byte bytes words y) (slice_get bs i)) same

-- the cell of byte i
pub start_cell_get : (bytes : List ℕ) (words : List CodeWord) (names : List ℕ) (x : ℕ) (bs : List ℕ) (i : ℕ) → slice_get (map (start_cell names) (start_bytes bytes words x bs)) i ≡ option_map (start_cell names) (option_map (start_byte bytes words (x + i)) (slice_get bs i))
start_cell_get bytes words names x bs i =
    slice_get-map (start_cell names) (start_bytes bytes words x bs) i ∙ ap (option_map (start_cell names)) (start_bytes_get bytes words x bs i)

-- CODE WORDS BY THEIR NUMBERS

-- the code word of this number is the one at the address
listed_number : (words : List CodeWord) (a number : ℕ) → code_word_number words a ≡ Some number → listed_at words a ≡ slice_get (map target_of words) number
listed_number [] a number e = absurd (cc)
listed_number (w ∷ words) a number e = go (w.at == a) e (λ n f. listed_number words a n f)
  where
    go : (b : Bool) → (if b then Some 0 else option_map suc (code_word_number words a)) ≡ Some number → ((n : ℕ) → code_word_number words a ≡ Some n → listed_at words a ≡ slice_get (map target_of words) n) → option_map (λ word. word.to) (if b then Some w else find (λ word. nat_eq word.at a) words) ≡ slice_get (w.to ∷ map target_of words) number
    go true e rec = let same : 0 ≡ number = cc in ap (slice_get (w.to ∷ map target_of words)) same
    go false e rec = later (code_word_number words a) refl e
      where
        later : (o : Option ℕ) → code_word_number words a ≡ o → option_map suc o ≡ Some number → listed_at words a ≡ slice_get (w.to ∷ map target_of words) number
        later None f g = absurd (cc)
        later (Some n) f g = let same : suc n ≡ number = cc in rec n f ∙ ap (slice_get (w.to ∷ map target_of words)) same

pub numbered_there : (words : List CodeWord) (a number : ℕ) → code_word_number words a ≡ Some number → number < length (map target_of words)
numbered_there [] a number e = absurd (cc)
numbered_there (w ∷ words) a number e = go (w.at == a) e (λ n f. numbered_there words a n f)
  where
    go : (b : Bool) → (if b then Some 0 else option_map suc (code_word_number words a)) ≡ Some number → ((n : ℕ) → code_word_number words a ≡ Some n → n < length (map target_of words)) → number < suc (length (map target_of words))
    go true e rec = let same : 0 ≡ number = cc in omega (arith, same)
    go false e rec = later (code_word_number words a) refl e
      where
        later : (o : Option ℕ) → code_word_number words a ≡ o → option_map suc o ≡ Some number → number < suc (length (map target_of words))
        later None f g = absurd (cc)
        later (Some n) f g = let same : suc n ≡ number = cc in let less = rec n f in omega (arith, same, less)

module _ (bytes : List ℕ) (is : ℕ → Bool) (p : Program) (fit : AllByRecursion (λ b. b < 256) bytes) (read : IsReadAs bytes is p) where
  abbrev names : List ℕ
  names = map target_of p.code_words

  -- a code word of the list is one of the file
  code_word_of : (a number n : ℕ) → code_word_number p.code_words a ≡ Some number → slice_get names number ≡ Some n → IsCodeWord bytes a n
  code_word_of a number n e f =
      is_code_word bytes read.relocs a n (sym (read.program.code_words.exactly a) ∙ listed_number p.code_words a number e ∙ f)

  -- and its target is reached
  target_reached : (number n : ℕ) → slice_get names number ≡ Some n → is n ≡ true
  target_reached number n f =
      let c : Contains names n = get_contains names number n f in
      read.reached.all n (code_word c ((files_linked bytes is p fit read).linked.code_words n c))

  module _ (index : ℕ) (within : index < phnum_of bytes) (load : is_load bytes index ≡ true) where
    abbrev segment : Segment
    segment = segment_of bytes index

    abbrev stored : List ℕ
    stored = file_bytes_of bytes segment

    -- a byte of a word that lies in the segment
    byte_here : (a target size i b : ℕ) → segment.address ≤ a → a + 4 ≤ segment.address + segment.filesz → a ≡ word_start (segment.address + i) → word_in bytes segment a ≡ target → slice_get (filled size stored) i ≡ Some b → slice_get (little_bytes 4 target) ((segment.address + i) % 4) ≡ Some b
    byte_here a target size i b low high start word byte =
        let at : ℕ = segment.offset + (a - segment.address) in
        let k : ℕ = (segment.address + i) % 4 in
        let inside = in_file bytes read.file index within load (omega (arith, low, high)) in
        let small : k < 4 = omega arith in
        let fits : at + 4 ≤ length bytes = omega (arith, low, high, inside) in
        let place : at + k ≡ segment.offset + i = omega (arith, low, start) in
        let short : i < segment.filesz = omega (arith, low, high, start) in
        let enough : 4 ≤ length (drop at bytes) = drop_length at fits in
        let number : target ≡ little_number 4 (drop at bytes) = sym word ∙ field_is bytes at fits in
        ap (λ n. slice_get (little_bytes 4 n) k) number
        ∙ word_bytes (drop at bytes) k (dropped at bytes fit) enough small
        ∙ dropped_byte at bytes k
        ∙ ap (slice_get bytes) place
        ∙ sym (filled_byte bytes read.file index within load size i short)
        ∙ byte
      where
        drop_length : (at : ℕ) → at + 4 ≤ length bytes → 4 ≤ length (drop at bytes)
        drop_length at h = let e = length-drop at bytes in omega (arith, e, h)

    -- a byte of a code word is that of its target
    code_byte : (target size i b : ℕ) → i < segment.memsz → slice_get (filled size stored) i ≡ Some b → IsCodeWord bytes (word_start (segment.address + i)) target → slice_get (little_bytes 4 target) ((segment.address + i) % 4) ≡ Some b
    unfolding word_of
    code_byte target size i b small byte code = go (first_from (has_word bytes a) 0 (phnum_of bytes)) refl code.in_file
      where
        a : ℕ
        a = word_start (segment.address + i)

        by : (j : ℕ) → j < phnum_of bytes → has_word bytes a j ≡ true → word_in bytes (segment_of bytes j) a ≡ target → slice_get (little_bytes 4 target) ((segment.address + i) % 4) ≡ Some b
        by j below has word =
            let s : Segment = segment_of bytes j in
            let parts = and_parts (is_load bytes j) (nat_le s.address a && nat_le (a + 4) (s.address + s.filesz)) has in
            let ends = and_parts (nat_le s.address a) (nat_le (a + 4) (s.address + s.filesz)) parts.1 in
            let low : s.address ≤ a = least s.address ends.0 in
            let high : a + 4 ≤ s.address + s.filesz = most (s.address + s.filesz) ends.1 in
            same_segment j below parts.0 low high word (index == j) refl
          where
            least : (n : ℕ) → nat_le n a ≡ true → n ≤ a
            least n e = grind (arith, nat_tests)

            most : (n : ℕ) → nat_le (a + 4) n ≡ true → a + 4 ≤ n
            most n e = grind (arith, nat_tests)

            same_segment : (j : ℕ) → j < phnum_of bytes → is_load bytes j ≡ true → (segment_of bytes j).address ≤ a → a + 4 ≤ (segment_of bytes j).address + (segment_of bytes j).filesz → word_in bytes (segment_of bytes j) a ≡ target → (t : Bool) → (index == j) ≡ t → slice_get (little_bytes 4 target) ((segment.address + i) % 4) ≡ Some b
            same_segment j below other low high word true e =
                let same : j ≡ index = sym (eqb-true index j e) in
                let l : segment.address ≤ a = subst (λ k. (segment_of bytes k).address ≤ a) same low in
                let h : a + 4 ≤ segment.address + segment.filesz = subst (λ k. a + 4 ≤ (segment_of bytes k).address + (segment_of bytes k).filesz) same high in
                let w : word_in bytes segment a ≡ target = subst (λ k. word_in bytes (segment_of bytes k) a ≡ target) same word in
                byte_here a target size i b l h refl w byte
            same_segment j below other low high word false e =
                let differ : index ≢ j = eqb-false index j e in
                let fewer = whole bytes read.file j below other in
                let inside : IsAt (segment.address + i) (segment_of bytes j).address (segment_of bytes j).memsz = record { from = omega (arith, low); below = omega (arith, high, fewer) } in
                absurd (alone bytes read.file j below other (segment.address + i) inside index within load differ (record { from = omega arith; below = omega (arith, small) }))

        go : (o : Option ℕ) → first_from (has_word bytes a) 0 (phnum_of bytes) ≡ o → option_map (λ j. word_in bytes (segment_of bytes j) a) o ≡ Some target → slice_get (little_bytes 4 target) ((segment.address + i) % 4) ≡ Some b
        go None e f = absurd (cc)
        go (Some j) e f =
            let first : IsFirst (has_word bytes a) 0 (phnum_of bytes) j = found_from (has_word bytes a) 0 (phnum_of bytes) j e in
            by j (let h = first.high in omega (arith, h)) first.here (some_same f)
          where
            some_same : {x y : ℕ} → Some x ≡ Some y → x ≡ y
            some_same e = cc

    -- what is at a byte of the segment erases to the plain byte
    cell_erased : (first : Cells ℕ) (size i b : ℕ) → i < segment.memsz → slice_get (filled size stored) i ≡ Some b → IsErasedCell (own_names is first) (start_cell names (start_byte bytes p.code_words (segment.address + i) b)) b
    cell_erased first size i b small byte = go (code_word_number p.code_words (word_start x)) refl
      where
        x : ℕ
        x = segment.address + i

        other : (t : Bool) → IsErasedCell (own_names is first) (start_cell names (if t then StaleByte else Given b)) b
        other true = tt
        other false = refl

        word : (number : ℕ) → code_word_number p.code_words (word_start x) ≡ Some number → (o : Option ℕ) → slice_get names number ≡ o → IsErasedCell (own_names is first) (word_cell (x % 4) o) b
        word number e None f = tt
        word number e (Some n) f =
            (n, (target_reached number n f, refl), code_byte n size i b small byte (code_word_of (word_start x) number n e f))

        go : (o : Option ℕ) → code_word_number p.code_words (word_start x) ≡ o → IsErasedCell (own_names is first) (start_cell names (byte_of_word (x % 4) o (stale_or bytes x b))) b
        go None e = other (is_stale bytes x)
        go (Some number) e = word number e (slice_get names number) refl

    -- so do all of them
    pub cells_erased : (first : Cells ℕ) (size i : ℕ) → length stored ≤ size → size ≤ segment.memsz → Agree (IsErasedCell (own_names is first)) (slice_get (map (start_cell names) (start_bytes bytes p.code_words segment.address (filled size stored))) i) (slice_get (take size stored ++ replicate (size - length stored) 0) i)
    cells_erased first size i fewer most =
        rw (start_cell_get bytes p.code_words names segment.address (filled size stored) i, take_all size stored fewer) (go (slice_get (filled size stored) i) refl)
      where
        go : (o : Option ℕ) → slice_get (filled size stored) i ≡ o → Agree (IsErasedCell (own_names is first)) (option_map (start_cell names) (option_map (start_byte bytes p.code_words (segment.address + i)) o)) o
        go None e = tt
        go (Some b) e =
            let small = slice_get_within (filled size stored) i b e in
            let full = filled_length size stored fewer in
            cell_erased first size i b (omega (arith, small, full, most)) e

  -- BYTES OF TEXT

  -- no code word begins in text, and no byte of it is stale
  module _ (x : ℕ) (inside : range_has (text_range bytes) x ≡ true) (begins : range_has (text_range bytes) (word_start x) ≡ true) where
    no_word : code_word_number p.code_words (word_start x) ≡ None
    no_word = go (code_word_number p.code_words (word_start x)) refl
      where
        go : (o : Option ℕ) → code_word_number p.code_words (word_start x) ≡ o → o ≡ None
        go None e = refl
        go (Some number) e = named (slice_get names number) refl
          where
            named : (o : Option ℕ) → slice_get names number ≡ o → Some number ≡ None
            named None f = absurd (let less = numbered_there p.code_words (word_start x) number e in let past = slice_get_none names number f in omega (arith, less, past))
              where
                slice_get_none : (xs : List ℕ) (i : ℕ) → slice_get xs i ≡ None → length xs ≤ i
                slice_get_none [] i e = omega arith
                slice_get_none (x ∷ xs) zero e = absurd (cc)
                slice_get_none (x ∷ xs) (suc i) e = let r = slice_get_none xs i e in omega (arith, r)
            named (Some n) f = absurd (let out = (code_word_of (word_start x) number n e f).outside in cc (out, begins))

    no_entry_there : code_target bytes (word_start x) ≡ None
    no_entry_there = go (find at_start (entries_of bytes)) refl
      where
        at_start : Entry → Bool
        at_start e = is_code_entry (text_range bytes) e && nat_eq e.offset (word_start x)

        go : (o : Option Entry) → find at_start (entries_of bytes) ≡ o → option_map entry_target o ≡ None
        go None f = refl
        go (Some e) f = absurd (let found : IsFoundAt at_start (entries_of bytes) no_entry e = found_at at_start no_entry e (entries_of bytes) f in never e found.passes)
          where
            never : (e : Entry) → at_start e ≡ true → ⊥
            never e passes =
                let tests = and_parts (is_code_entry (text_range bytes) e) (nat_eq e.offset (word_start x)) passes in
                let same : e.offset ≡ word_start x = eqb-true e.offset (word_start x) tests.1 in
                let whole = and_parts _ _ tests.0 in
                let placed = and_parts _ _ whole.0 in
                let typed = and_parts _ _ placed.0 in
                let here : range_has (text_range bytes) e.offset ≡ true = subst (λ a. range_has (text_range bytes) a ≡ true) (sym same) begins in
                not_both (range_has (text_range bytes) e.offset) here typed.0
              where
                not_both : (b : Bool) → b ≡ true → not b ≡ true → ⊥
                not_both true e f = cc
                not_both false e f = cc

    not_stale : is_stale bytes x ≡ false
    not_stale = rw (inside, no_entry_there) refl

    -- a byte of text is itself
    pub text_byte : (b : ℕ) → start_byte bytes p.code_words x b ≡ Given b
    text_byte b = rw (no_word, not_stale) refl
