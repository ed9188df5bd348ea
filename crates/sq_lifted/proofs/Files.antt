-- The program of a file that is accepted before its text is looked at.
use Rattle.std.proofs.Common.{◌≡◌, ℕ, zero, suc, ◌+◌, ◌-◌, ◌*◌, ◌/◌, ◌%◌, ◌^◌, ◌≤◌, ◌<◌, nat_eq, nat_le, nat_lt, Bool, true, false, not, ◌==◌, ◌&&◌, ◌||◌, List, [], ◌∷◌, drop, length, map, Option, Some, None, is_some, if◌then◌else◌, refl, sym, ap, ◌∙◌, subst, arith}
use Rattle.std.specs.Option.{unwrap_or, option_map, option_map_or, option_and_then}
use Rattle.std.specs.List.{Contains, AllByRecursion, find, list_any}
use Rattle.std.proofs.lemmas.Bool.{eqb-true, and_from, and_parts}
use Rattle.std.proofs.lemmas.Bool.Decides.{nat_tests}
use Rattle.byteorder.specs.Endian.{little_number}
use Rattle.sq_isa.specs.Table.{insn_of}
use Rattle.sq_elf.specs.declared.text.Text.{Text as Range}
use Rattle.sq_elf.specs.Fields.{u32_field}
use Rattle.sq_elf.specs.Headers.{entry_of, phnum_of, segment_of}
use Rattle.sq_elf.specs.Reading.{word_in, word_of, has_word}
use Rattle.sq_num.specs.Refusals.{first_from}
use Rattle.sq_elf.specs.Text.{text_of as text_range, is_in_text as range_has, is_text_word}
use Rattle.sq_elf.specs.Refusing.{too_many_pieces, too_many_bytes, bad_entry, without_text, bad_text_section, text_split, text_moved, text_too_large, text_size, largest_text}
use Rattle.sq_elf.proofs.Accepted.{single_passes, text_accepted, sizes_accepted}
use Rattle.sq_elf.proofs.Passing.{behind_row}
use Rattle.sq_elf.proofs.TextFacts.{TextFacts, text_facts, text_has_words}
use Rattle.sq_reloc.specs.declared.mark.Mark.{Mark}
use Rattle.sq_reloc.specs.declared.mark.Mark.TheVariants.{Plain, Hi, Lo, Unsupported, Disagrees, Conflict, Lone}
use Rattle.sq_reloc.specs.declared.mark.CodeWord.{CodeWord}
use Rattle.sq_reloc.specs.declared.entry.Entry.{Entry}
use Rattle.sq_reloc.specs.Kinds.{is_call, is_paired}
use Rattle.sq_reloc.specs.Entries.{target_of as entry_target, entries_of}
use Rattle.sq_reloc.specs.Required.{insn_at, upper_target, has_pair, is_upper}
use Rattle.sq_reloc.specs.Marks.{is_unsupported, is_disagreeing, is_lone_entry, differ, if_in_text, paired_mark, mark_here, entry_mark, first_mark, faulty, mark_by, touching, mark_of, IsMarked}
use Rattle.sq_reloc.specs.Outside.{code_word_at}
use Rattle.sq_reloc.specs.CodeWords.{IsAscending, listed_at}
use Rattle.sq_reloc.proofs.MarkFacts.{insn_is_marked}
use Rattle.sq_reloc.proofs.CodeWordFacts.{is_code_word}
use Rattle.law_program.specs.Programs.{Word, Program, word_from, word_at, IsWord, end_of, insn_in, target_of}
use Rattle.law_program.specs.FilePrograms.{file_word, words_from, text_of, IsReadAs}
use Rattle.law_files.proofs.FileBytes.{le_is, lt_is}
use Rattle.law_lifting.specs.Lifting.{MarkFits, IsMarkedText}
use Rattle.law_lifting.proofs.TextWords.{same_itself, stood, in_text_word}
use Rattle.sq_lifted.specs.Lifted.{IsShort}
use Rattle.sq_lifted.specs.Files.{IsLinkedProgram, FilesAreLinked}

-- WORDS ARE BELOW 2^32

abbrev AreBytes : List ℕ → Type 0
AreBytes bytes = AllByRecursion (λ b. b < 256) bytes

pub dropped : (n : ℕ) (bytes : List ℕ) → AreBytes bytes → AreBytes (drop n bytes)
dropped zero bytes h = h
dropped (suc n) [] h = tt
dropped (suc n) (b ∷ bytes) h = dropped n bytes h.1

four_small : (bytes : List ℕ) → AreBytes bytes → little_number 4 bytes < 2 ^ 32
four_small [] h = omega arith
four_small (a ∷ []) h = omega (arith, h.0)
four_small (a ∷ b ∷ []) h = omega (arith, h.0, h.1.0)
four_small (a ∷ b ∷ c ∷ []) h = omega (arith, h.0, h.1.0, h.1.1.0)
four_small (a ∷ b ∷ c ∷ d ∷ rest) h = omega (arith, h.0, h.1.0, h.1.1.0, h.1.1.1.0)

field_small : (bytes : List ℕ) (at : ℕ) → AreBytes bytes → u32_field bytes at < 2 ^ 32
unfolding u32_field
field_small bytes at h = go (nat_le (at + 4) (length bytes))
  where
    go : (b : Bool) → (if b then little_number 4 (drop at bytes) else 0) < 2 ^ 32
    go true = four_small (drop at bytes) (dropped at bytes h)
    go false = omega arith

word_small : (bytes : List ℕ) (x : ℕ) → AreBytes bytes → unwrap_or (word_of bytes x) 0 < 2 ^ 32
unfolding word_of
word_small bytes x h = go (first_from (has_word bytes x) 0 (phnum_of bytes))
  where
    go : (o : Option ℕ) → unwrap_or (option_map (λ index. word_in bytes (segment_of bytes index) x) o) 0 < 2 ^ 32
    go None = omega arith
    go (Some index) = field_small bytes _ h

-- MARKS ARE OF ADDRESSES BELOW 2^32

target_small : (e : Entry) → entry_target e < 2 ^ 32
target_small e = omega arith

if_fits : (b : Bool) (mark : Mark) → MarkFits mark → MarkFits (if b then mark else Plain)
if_fits true mark h = h
if_fits false mark h = tt

upper_fits : (bytes : List ℕ) (e : Entry) → MarkFits (paired_mark e (upper_target bytes e))
upper_fits bytes e = go (nat_eq e.addend 0) (find (λ x. is_upper x && nat_eq x.offset e.value) (entries_of bytes))
  where
    go : (b : Bool) (o : Option Entry) → MarkFits (option_map_or Lo (if b then option_map entry_target o else None) Lone)
    go true None = tt
    go true (Some x) = target_small x
    go false o = tt

here_fits : (bytes : List ℕ) (text : Range) (e : Entry) → MarkFits (mark_here text (upper_target bytes e) e)
unfolding mark_here
here_fits bytes text e = go (nat_eq e.kind 26) (nat_eq e.kind 27 || nat_eq e.kind 28) (nat_eq e.kind 23 || is_call e.kind) (is_paired e.kind)
  where
    go : (a b c d : Bool) → MarkFits (if a then if_in_text text (entry_target e) (Hi (entry_target e)) else if b then if_in_text text (entry_target e) (Lo (entry_target e)) else if c then Hi (entry_target e) else if d then paired_mark e (upper_target bytes e) else Plain)
    go true b c d = if_fits (range_has text (entry_target e)) (Hi (entry_target e)) (target_small e)
    go false true c d = if_fits (range_has text (entry_target e)) (Lo (entry_target e)) (target_small e)
    go false false true d = target_small e
    go false false false true = upper_fits bytes e
    go false false false false = tt

entry_fits : (bytes : List ℕ) (x : ℕ) (e : Entry) → MarkFits (entry_mark bytes x e)
entry_fits bytes x e = go (nat_eq x e.offset) (is_call e.kind && has_pair bytes e)
  where
    go : (a b : Bool) → MarkFits (if a then mark_here (text_range bytes) (upper_target bytes e) e else if b then Lo (entry_target e) else Plain)
    go true b = here_fits bytes (text_range bytes) e
    go false true = target_small e
    go false false = tt

first_fits : (bytes : List ℕ) (x : ℕ) (entries : List Entry) → MarkFits (first_mark bytes x entries)
first_fits bytes x [] = tt
first_fits bytes x (e ∷ others) = entry_fits bytes x e

mark_fits : (bytes : List ℕ) (x : ℕ) → MarkFits (mark_of bytes x)
unfolding mark_of
mark_fits bytes x = by (touching bytes x)
  where
    unsupported : (o : Option Entry) (later : Mark) → MarkFits later → MarkFits (faulty Unsupported o later)
    unsupported None later h = h
    unsupported (Some e) later h = tt

    disagrees : (o : Option Entry) (later : Mark) → MarkFits later → MarkFits (faulty Disagrees o later)
    disagrees None later h = h
    disagrees (Some e) later h = tt

    tests : (a b : Bool) (later : Mark) → MarkFits later → MarkFits (if a then Conflict else if b then Lone else later)
    tests true b later h = tt
    tests false true later h = tt
    tests false false later h = h

    by : (entries : List Entry) → MarkFits (mark_by bytes x entries)
    by entries =
        unsupported (find (is_unsupported (text_range bytes)) entries) _
        (disagrees (find (is_disagreeing bytes) entries) _
        (tests (differ entries) (list_any (is_lone_entry bytes) entries) (first_mark bytes x entries) (first_fits bytes x entries)))

-- TEXT

-- a word of the words from an address on is that of the file
pub words_are : (bytes : List ℕ) (x at n : ℕ) (w : Word) → word_from x at (words_from bytes at n) ≡ Some w → w ≡ file_word bytes x
words_are bytes x at zero w e = absurd (cc)
words_are bytes x at (suc n) w e = go (x == at) refl e (words_are bytes x (at + 4) n w)
  where
    go : (b : Bool) → (x == at) ≡ b → (if b then Some (file_word bytes at) else word_from x (at + 4) (words_from bytes (at + 4) n)) ≡ Some w → (word_from x (at + 4) (words_from bytes (at + 4) n) ≡ Some w → w ≡ file_word bytes x) → w ≡ file_word bytes x
    go true q e rec = let same : x ≡ at = eqb-true x at q in let v : file_word bytes at ≡ w = cc in sym v ∙ ap (file_word bytes) (sym same)
    go false q e rec = rec e

how_many : (bytes : List ℕ) (at n : ℕ) → length (words_from bytes at n) ≡ n
how_many bytes at zero = refl
how_many bytes at (suc n) = ap suc (how_many bytes (at + 4) n)

-- the word of a list that ascends is the one at its address
listed : (words : List CodeWord) (x : ℕ) → IsAscending words → Contains (map target_of words) x → (at : ℕ) × (listed_at words at ≡ Some x)
listed [] x a c = absurd (let h : c.0 < 0 = c.1 in omega arith)
listed (w ∷ words) x a (zero, h, g) = let q : w.to ≡ x = g in (w.at, rw (same_itself w.at) (ap Some q))
listed (w ∷ words) x a (suc i, h, g) =
    let r = listed words x a.1 (i, omega (arith, h), g) in
    (r.0, rw (not_first w words r.0 x a.0 r.1) r.1)
  where
    not_first : (w : CodeWord) (words : List CodeWord) (at x : ℕ) → AllByRecursion (λ other. w.at < other.at) words → listed_at words at ≡ Some x → nat_eq w.at at ≡ false
    not_first w [] at x a e = absurd (cc)
    not_first w (v ∷ words) at x a e = go (nat_eq v.at at) refl e (not_first w words at x a.1)
      where
        go : (b : Bool) → nat_eq v.at at ≡ b → option_map (λ word. word.to) (if b then Some v else find (λ word. nat_eq word.at at) words) ≡ Some x → (listed_at words at ≡ Some x → nat_eq w.at at ≡ false) → nat_eq w.at at ≡ false
        go true q e rec = let less : w.at < v.at = a.0 in grind (arith, nat_tests)
        go false q e rec = rec e

module _ (bytes : List ℕ) (is : ℕ → Bool) (p : Program) (read : IsReadAs bytes is p) where
  facts : TextFacts bytes read.file
  facts = text_facts bytes read.file

  abbrev lo : ℕ
  lo = (text_range bytes).lo

  abbrev hi : ℕ
  hi = (text_range bytes).hi

  -- the range of text in words
  pub ends_at : end_of (text_of bytes) ≡ hi
  ends_at =
      let n = how_many bytes lo ((hi - lo) / 4) in
      let a = facts.inside.some in
      let b = facts.inside.low_word in
      let c = facts.inside.high_word in
      omega arith

  text_word_is : (x : ℕ) → is_text_word (text_range bytes) x ≡ true → IsWord (text_of bytes) x
  text_word_is x h =
      let a = and_parts (range_has (text_range bytes) x) (nat_eq (x % 4) 0) h in
      let whole : x % 4 ≡ 0 = eqb-true (x % 4) 0 a.1 in
      in_text_word (text_of bytes) x facts.inside.low_word (subst (λ e. (nat_le lo x && nat_lt x e) ≡ true) (sym ends_at) a.0) whole

  -- and back
  pub is_text_word_of : (x : ℕ) (w : Word) → word_at (text_of bytes) x ≡ Some w → (is_text_word (text_range bytes) x ≡ true) × (x % 4 ≡ 0) × (x < 2 ^ 32)
  is_text_word_of x w e =
      let s = stood x lo w (words_from bytes lo ((hi - lo) / 4)) e in
      let n = how_many bytes lo ((hi - lo) / 4) in
      let a = s.least in
      let b = s.most in
      let c = s.whole in
      let d = facts.inside.low_word in
      let top : lo + 4 * length (words_from bytes lo ((hi - lo) / 4)) ≡ hi = ends_at in
      let whole : x % 4 ≡ 0 = omega arith in
      let below : x < hi = omega arith in
      (inside x a below whole, whole, omega (arith, facts.high, below))
    where
      inside : (x : ℕ) → lo ≤ x → x < hi → x % 4 ≡ 0 → is_text_word (text_range bytes) x ≡ true
      inside x a b c = and_from (nat_le lo x && nat_lt x hi) (nat_eq (x % 4) 0) (and_from (nat_le lo x) (nat_lt x hi) (le_is lo x a) (lt_is x hi b)) (rw c refl)

  word_marked : (x : ℕ) (w : Word) → word_at (text_of bytes) x ≡ Some w → IsMarked (insn_in w) w.mark
  word_marked x w e =
      let a = is_text_word_of x w e in
      let same = words_are bytes x lo ((hi - lo) / 4) w e in
      let marked = insn_is_marked bytes x a.1 a.2 in
      subst (λ w. IsMarked (insn_in w) w.mark) (sym same) (same_insn (word_of bytes x) refl (text_has_words bytes read.file x a.0) marked)
    where
      same_insn : (o : Option ℕ) → word_of bytes x ≡ o → is_some (word_of bytes x) ≡ true → IsMarked (insn_at bytes x) (mark_of bytes x) → IsMarked (insn_of (unwrap_or (word_of bytes x) 0)) (mark_of bytes x)
      same_insn None e some marked = absurd (let h : is_some (word_of bytes x) ≡ false = rw e refl in cc)
      same_insn (Some v) e some marked =
          let here : IsMarked (insn_of v) (mark_of bytes x) = subst (λ o. IsMarked (option_and_then insn_of o) (mark_of bytes x)) e marked in
          subst (λ o. IsMarked (insn_of (unwrap_or o 0)) (mark_of bytes x)) (sym e) here

  text_marked : AreBytes bytes → IsMarkedText (text_of bytes)
  text_marked fit = record {
    aligned = facts.inside.low_word;
    marked = word_marked;
    small = λ x w e. subst (λ w. MarkFits w.mark) (sym (words_are bytes x lo ((hi - lo) / 4) w e)) (mark_fits bytes x);
    numbers = λ x w e. subst (λ w. w.number < 2 ^ 32) (sym (words_are bytes x lo ((hi - lo) / 4) w e)) (word_small bytes x fit);
  }

  entry_there : IsWord (text_of bytes) (entry_of bytes)
  entry_there = text_word_is (entry_of bytes) (not_false (is_text_word (text_range bytes) (entry_of bytes)) row)
    where
      not_false : (b : Bool) → not b ≡ false → b ≡ true
      not_false true e = refl
      not_false false e = absurd (cc)

      row : not (is_text_word (text_range bytes) (entry_of bytes)) ≡ false
      row =
          single_passes _ _ []
          (behind_row (too_many_bytes bytes) (bad_entry bytes ∷ []) (behind_row (too_many_pieces bytes) (too_many_bytes bytes ∷ bad_entry bytes ∷ []) (sizes_accepted bytes read.file)))

  code_word_there : (x : ℕ) → Contains (map target_of p.code_words) x → IsWord (text_of bytes) x
  code_word_there x c =
      let a = listed p.code_words x read.program.code_words.ascending c in
      let at : code_word_at bytes a.0 ≡ Some x = sym (read.program.code_words.exactly a.0) ∙ a.1 in
      text_word_is x (is_code_word bytes read.relocs a.0 x at).to_text

  small_text : text_size bytes ≤ largest_text
  small_text = not_more (text_size bytes) row
    where
      not_more : (n : ℕ) → nat_lt largest_text n ≡ false → n ≤ largest_text
      not_more n e = grind (arith, nat_tests)

      row : nat_lt largest_text (text_size bytes) ≡ false
      row =
          single_passes _ _ []
          (behind_row (text_moved bytes) (text_too_large bytes ∷ [])
          (behind_row (text_split bytes) (text_moved bytes ∷ text_too_large bytes ∷ [])
          (behind_row (bad_text_section bytes) (text_split bytes ∷ text_moved bytes ∷ text_too_large bytes ∷ [])
          (behind_row (without_text bytes) (bad_text_section bytes ∷ text_split bytes ∷ text_moved bytes ∷ text_too_large bytes ∷ []) (text_accepted bytes read.file)))))

  text_short : IsShort (text_of bytes)
  text_short = record {
    short = let a = ends_at in let b = small_text in let c = facts.inside.some in omega arith;
    ends = let a = ends_at in let b = facts.high in omega arith;
  }

  program_linked : AreBytes bytes → IsLinkedProgram p
  program_linked fit =
      let same : text_of bytes ≡ p.text = sym read.program.text in
      record {
        linked = record {
          text = subst IsMarkedText same (text_marked fit);
          entry = subst (λ e. IsWord p.text e) (sym read.program.entry) (subst (λ t. IsWord t (entry_of bytes)) same entry_there);
          code_words = λ x c. subst (λ t. IsWord t x) same (code_word_there x c);
        };
        short = subst IsShort same text_short;
        code_words = read.program.code_words.ascending;
      }

pub files_linked : FilesAreLinked
files_linked bytes is p fit read = program_linked bytes is p read fit
