-- The relocations of the file of a graph: those of its words of text, and those of its code words.
use Rattle.std.proofs.Common.{◌≡◌, ℕ, ◌+◌, ◌*◌, ◌^◌, ◌<◌, ◌≤◌, Bool, true, false, ◌⊎◌, inl, inr, nat_lt, nat_le, List, [], ◌∷◌, ◌++◌, map, filter, Option, Some, None, IsSome, option_map, refl, sym, ap, subst, arith, suc, nat_eq, get_or, eq-eqb, length}
use Rattle.std.specs.List.{All, AllByRecursion, find}
use Rattle.std.specs.List.Sorted.{IsStrictlyIncreasing}
use Rattle.std.proofs.lemmas.Bool.{cases_Bool, leb-true, and_parts}
use Rattle.std.proofs.lemmas.Bool.Decides.{nat_tests}
use Rattle.std.proofs.lemmas.List.Elements.{All-head, All-tail}
use Rattle.sq_num.specs.Refusals.{first_from}
use Rattle.sq_elf.specs.Headers.{phnum_of, is_load, segment_of}
use Rattle.sq_elf.specs.Ranges.{lies_in}
use Rattle.sq_elf.specs.Reading.{has_word, word_in, word_of}
use Rattle.sq_elf.specs.Refusing.{file_refusal_of}
use Rattle.sq_elf.specs.Text.{text_of}
use Rattle.sq_elf.proofs.Passing.{found_from}
use Rattle.sq_reloc.specs.CodeWords.{IsCodeWord}
use Rattle.sq_reloc.specs.Entries.{entries_of as read_entries}
use Rattle.sq_reloc.specs.Kinds.{is_ignored}
use Rattle.sq_reloc.specs.Outside.{code_word_at}
use Rattle.sq_reloc.proofs.CodeWordFacts.{is_code_word}
use Rattle.sq_graph.specs.declared.parts.CodeRef.{CodeRef}
use Rattle.sq_graph.specs.Graph.{Graph}
use Rattle.sq_graph.specs.Blocks.{HasBlock, HasProcedure}
use Rattle.sq_graph.specs.Words.{words_of}
use Rattle.sq_graph.proofs.RulesByBlock.{by_block}
use Rattle.sq_write.specs.Output.{Relocation}
use Rattle.sq_write.specs.Points.{new_address, text_points}
use Rattle.sq_write.specs.Written.{word_entry, entries_of, written_output, written}
use Rattle.sq_write.proofs.Fitting.{new_spot}
use Rattle.sq_write.proofs.Lengths.{length_text}
use Rattle.sq_write.proofs.SegmentFacts.{shaped_at, few_text}
use Rattle.law_written.specs.Written.{IsWritable}
use Rattle.law_written.proofs.Pairs.{all_append, all_map, all_both}
use Rattle.law_written.proofs.Sound.{facts}
use Rattle.law_written.proofs.Writing.{fitting}
use Rattle.law_written.specs.Entries.{IsFittingRelocation, numbered, WrittenEntriesAreRead}
use Rattle.law_written.proofs.Entries.{entries_are_read}
use Rattle.law_written.proofs.Points.{IsHalf, entries_in, halves_of, text_shaped}

-- a word of a file stands in the file bytes of a segment
pub record StandsIn (bytes : List ℕ) (w : ℕ) : Type 0 where
  pub index : ℕ
  pub first : first_from (has_word bytes w) 0 (phnum_of bytes) ≡ Some index
  pub within : index < phnum_of bytes
  pub load : is_load bytes index ≡ true
  pub low : (segment_of bytes index).address ≤ w
  pub high : w + 4 ≤ (segment_of bytes index).address + (segment_of bytes index).filesz

pub stands_in : (bytes : List ℕ) (w word : ℕ) → word_of bytes w ≡ Some word → StandsIn bytes w
unfolding word_of
stands_in bytes w word is = by_index (first_from (has_word bytes w) 0 (phnum_of bytes)) refl is
  where
    by_index : (found : Option ℕ) → first_from (has_word bytes w) 0 (phnum_of bytes) ≡ found → option_map (λ index. word_in bytes (segment_of bytes index) w) found ≡ Some word → StandsIn bytes w
    by_index None first some = absurd (cc some)
    by_index (Some index) first some =
        let found = found_from (has_word bytes w) 0 (phnum_of bytes) index first in
        let parts = and_parts (is_load bytes index) (lies_in w 4 (segment_of bytes index).address (segment_of bytes index).filesz) found.here in
        let ends = and_parts (nat_le (segment_of bytes index).address w) (nat_le (w + 4) ((segment_of bytes index).address + (segment_of bytes index).filesz)) parts.1 in
        record {
          index = index;
          first = first;
          within = omega (arith, found.high);
          load = parts.0;
          low = leb-true (segment_of bytes index).address w ends.0;
          high = leb-true (w + 4) ((segment_of bytes index).address + (segment_of bytes index).filesz) ends.1;
        }

pub word_fits : (bytes : List ℕ) (w word : ℕ) → file_refusal_of bytes ≡ None → word_of bytes w ≡ Some word → w + 4 ≤ 2 ^ 32
word_fits bytes w word accepted is =
    let stands = stands_in bytes w word is in
    let shaped = shaped_at bytes accepted stands.index stands.within stands.load in
    omega (arith, stands.high, shaped.fits, shaped.stored)

-- Code words

pub record IsGoodWord (bytes : List ℕ) (g : Graph) (word : CodeRef) : Type 0 where
  pub target : ℕ
  pub facts : IsCodeWord bytes word.at target
  pub there : HasBlock g word.block
  pub own : find (λ other. nat_eq other.at word.at) g.code_words ≡ Some word

pub increasing_tail : (x : ℕ) (xs : List ℕ) → IsStrictlyIncreasing (x ∷ xs) → IsStrictlyIncreasing xs
increasing_tail x xs up = λ k within.
    let e : suc k + 1 ≡ suc (k + 1) = omega arith in
    subst (λ n. get_or xs k 0 < get_or (x ∷ xs) n 0) e (up (suc k) (omega arith))

-- words that ascend are above what the first of them is above
pub all_above : (low : ℕ) (words : List CodeRef) → (0 < length words → low < get_or (map (λ w. w.at) words) 0 0) → IsStrictlyIncreasing (map (λ w. w.at) words) → AllByRecursion (λ w. low < w.at) words
all_above low [] first up = tt
all_above low (word ∷ words) first up =
    let here : low < word.at = first (omega arith) in
    (here, all_above low words (next here words up) (increasing_tail word.at (map (λ w. w.at) words) up))
  where
    next : low < word.at → (others : List CodeRef) → IsStrictlyIncreasing (word.at ∷ map (λ w. w.at) others) → 0 < length others → low < get_or (map (λ w. w.at) others) 0 0
    next here [] up some = absurd (omega arith)
    next here (other ∷ others) up some = let step = up 0 (omega arith) in omega (arith, here, step)

pub first_above : (word : CodeRef) (words : List CodeRef) → IsStrictlyIncreasing (word.at ∷ map (λ w. w.at) words) → 0 < length words → word.at < get_or (map (λ w. w.at) words) 0 0
first_above word [] up some = absurd (omega arith)
first_above word (other ∷ others) up some = let step = up 0 (omega arith) in omega (arith, step)

differ : (a b : ℕ) → a < b → nat_eq a b ≡ false
differ a b less = grind (arith, nat_tests)

-- each of words that ascend is the one at its address
own_words : (words : List CodeRef) → IsStrictlyIncreasing (map (λ w. w.at) words) → AllByRecursion (λ w. find (λ other. nat_eq other.at w.at) words ≡ Some w) words
own_words [] up = tt
own_words (word ∷ words) up =
    let tail = increasing_tail word.at (map (λ w. w.at) words) up in
    let same : nat_eq word.at word.at ≡ true = eq-eqb word.at word.at refl in (
      rw same refl,
      all_map (λ (w : CodeRef). (word.at < w.at) × (find (λ other. nat_eq other.at w.at) words ≡ Some w)) (λ w. find (λ other. nat_eq other.at w.at) (word ∷ words) ≡ Some w)
          (λ w both. let apart : nat_eq word.at w.at ≡ false = differ word.at w.at both.0 in rw apart both.1)
          words
          (all_both (λ (w : CodeRef). word.at < w.at) (λ w. find (λ other. nat_eq other.at w.at) words ≡ Some w) words (all_above word.at words (first_above word words up) tail) (own_words words tail)),
    )

-- a relocation of a code word that the test lets through
pub record IsWordEntry (bytes : List ℕ) (g : Graph) (p : CodeRef → Bool) (r : Relocation) : Type 0 where
  pub word : CodeRef
  pub good : IsGoodWord bytes g word
  pub kept : p word ≡ true
  pub is : r ≡ word_entry g (text_of bytes).lo word

module _ (bytes : List ℕ) (g : Graph) (can : IsWritable bytes g) where
  abbrev IsOwn : CodeRef → Type 0
  IsOwn word = find (λ other. nat_eq other.at word.at) g.code_words ≡ Some word

  good_words : (words : List CodeRef) → AllByRecursion IsOwn words → All (λ word. IsSome (code_word_at bytes word.at)) words → All (HasBlock g) (map (λ w. w.block) words) → AllByRecursion (IsGoodWord bytes g) words
  good_words [] own some there = tt
  good_words (word ∷ words) own some there = (
    one (code_word_at bytes word.at) refl (All-head {X = CodeRef} (λ word. IsSome (code_word_at bytes word.at)) word words some),
    good_words words own.1 (All-tail {X = CodeRef} (λ word. IsSome (code_word_at bytes word.at)) word words some) (All-tail (HasBlock g) word.block (map (λ w. w.block) words) there),
  )
    where
      one : (found : Option ℕ) → code_word_at bytes word.at ≡ found → IsSome found → IsGoodWord bytes g word
      one None is h = absurd (cc)
      one (Some target) is h =
          record { target = target; facts = is_code_word bytes can.relocs word.at target is; there = All-head (HasBlock g) word.block (map (λ w. w.block) words) there; own = own.0 }

  pub all_good : AllByRecursion (IsGoodWord bytes g) g.code_words
  all_good =
      let by = by_block (HasBlock g) (HasProcedure g) g can.rules can.rules.named_all can.rules.called_all in
      good_words g.code_words (own_words g.code_words can.rules.code_words) can.code_words by.words

  pub word_entries : (p : CodeRef → Bool) (words : List CodeRef) → AllByRecursion (IsGoodWord bytes g) words → AllByRecursion (IsWordEntry bytes g p) (map (word_entry g (text_of bytes).lo) (filter p words))
  word_entries p [] all = tt
  word_entries p (word ∷ words) all = by_test (cases_Bool (p word)) (word_entries p words all.1)
    where
      by_test : (p word ≡ true) ⊎ (p word ≡ false) → AllByRecursion (IsWordEntry bytes g p) (map (word_entry g (text_of bytes).lo) (filter p words)) → AllByRecursion (IsWordEntry bytes g p) (map (word_entry g (text_of bytes).lo) (filter p (word ∷ words)))
      by_test (inl e) more = rw e (record { word = word; good = all.0; kept = e; is = refl }, more)
      by_test (inr e) more = rw e more

  -- Addresses

  pub high : (text_of bytes).hi ≤ 2 ^ 32
  high = (facts bytes can.accepted).high

  pub few_words : words_of g ≤ 262144
  few_words = omega (arith, can.words, few_text bytes can.accepted)

  -- a block's new address is that of a word of text
  pub record IsPlace (address : ℕ) : Type 0 where
    pub place : ℕ
    pub is : address ≡ (text_of bytes).lo + 4 * place
    pub within : place < words_of g

  pub block_place : (block : ℕ) → HasBlock g block → IsPlace (new_address g (text_of bytes).lo block)
  block_place block there =
      let found = new_spot g (text_of bytes).lo can.rules few_words block there in
      record { place = found.3.place; is = omega (arith, found.2, found.3.is); within = found.3.within }

  pub address_fits : (block : ℕ) → HasBlock g block → new_address g (text_of bytes).lo block < 2 ^ 32
  address_fits block there =
      let place = block_place block there in
      omega (arith, place.is, place.within, can.words, high)

  -- Each relocation fits

  word_entry_fits : (p : CodeRef → Bool) (r : Relocation) → IsWordEntry bytes g p r → IsFittingRelocation r
  word_entry_fits p r entry =
      let good = entry.good in
      subst IsFittingRelocation (sym entry.is) (record {
        offset = omega (arith, word_fits bytes entry.word.at good.target can.accepted good.facts.in_file);
        kind = omega arith;
        counts = refl;
        addend = address_fits entry.word.block good.there;
      })

  half_fits : (r : Relocation) → IsHalf g (text_of bytes).lo (text_of bytes).lo ((text_of bytes).lo + 4 * words_of g) r → IsFittingRelocation r
  half_fits r half =
      record {
        offset = omega (arith, half.ends, can.words, high);
        kind = small half.kind;
        counts = counts half.kind;
        addend = omega (arith, half.addend, address_fits half.block half.there);
      }
    where
      small : (r.kind ≡ 26) ⊎ (r.kind ≡ 27) → r.kind < 256
      small (inl is) = omega (arith, is)
      small (inr is) = omega (arith, is)

      counts : (r.kind ≡ 26) ⊎ (r.kind ≡ 27) → is_ignored r.kind ≡ false
      counts (inl is) = ap is_ignored is
      counts (inr is) = ap is_ignored is

  pub text_halves : AllByRecursion (IsHalf g (text_of bytes).lo (text_of bytes).lo ((text_of bytes).lo + 4 * words_of g)) (entries_in g (text_of bytes).lo (text_points g (text_of bytes).lo))
  text_halves =
      let lo = (text_of bytes).lo in
      halves_of g (text_of bytes).lo (text_points g (text_of bytes).lo) (text_of bytes).lo ((text_of bytes).lo + 4 * words_of g) (text_of bytes).lo (omega arith) (omega (arith, length_text g (text_of bytes).lo)) (text_shaped g (text_of bytes).lo can.rules)

  abbrev pub low_entries : List Relocation
  low_entries = map (word_entry g (text_of bytes).lo) (filter (λ word. nat_lt word.at (text_of bytes).lo) g.code_words)

  abbrev pub high_entries : List Relocation
  high_entries = map (word_entry g (text_of bytes).lo) (filter (λ word. nat_le (text_of bytes).lo word.at) g.code_words)

  abbrev pub half_entries : List Relocation
  half_entries = entries_in g (text_of bytes).lo (text_points g (text_of bytes).lo)

  pub all_fit : AllByRecursion IsFittingRelocation (entries_of g (text_of bytes).lo)
  all_fit =
      let below : CodeRef → Bool = λ word. nat_lt word.at (text_of bytes).lo in
      let above : CodeRef → Bool = λ word. nat_le (text_of bytes).lo word.at in
      all_append IsFittingRelocation (low_entries ++ half_entries) high_entries
      (all_append IsFittingRelocation low_entries half_entries
      (all_map (IsWordEntry bytes g below) IsFittingRelocation (word_entry_fits below) low_entries (word_entries below g.code_words all_good))
      (all_map (IsHalf g (text_of bytes).lo (text_of bytes).lo ((text_of bytes).lo + 4 * words_of g)) IsFittingRelocation half_fits half_entries text_halves))
      (all_map (IsWordEntry bytes g above) IsFittingRelocation (word_entry_fits above) high_entries (word_entries above g.code_words all_good))

  pub entries_here : read_entries (written bytes g) ≡ numbered 0 (entries_of g (text_of bytes).lo)
  unfolding written
  entries_here = entries_are_read (written_output bytes g) (fitting bytes g can) all_fit

pub written_entries_are_read : WrittenEntriesAreRead
written_entries_are_read = λ bytes g can. entries_here bytes g can
