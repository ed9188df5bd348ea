-- The code words of the file of a graph are the graph's, and no byte is stale.
use Rattle.std.proofs.Common.{◌≡◌, ℕ, suc, ◌+◌, ◌*◌, ◌%◌, ◌^◌, ◌<◌, ◌≤◌, Bool, true, false, not, ◌&&◌, ◌⊎◌, inl, inr, ⊎_elim, nat_eq, nat_lt, nat_le, List, [], ◌∷◌, ◌++◌, length, map, filter, Option, Some, None, option_map, refl, sym, ap, subst, ◌∙◌, arith, eq-eqb}
use Rattle.std.specs.List.{AllByRecursion, find, list_any}
use Rattle.std.specs.Option.{option_or, is_some}
use Rattle.std.proofs.lemmas.Bool.{cases_Bool, cases_lt, lt-ltb, le-leb, eqb-true, and_left, and_right}
use Rattle.std.proofs.lemmas.Bool.Decides.{nat_tests}
use Rattle.std.proofs.lemmas.List.Folds.{find-append}
use Rattle.sq_elf.specs.declared.text.Text.{Text}
use Rattle.sq_elf.specs.Text.{text_of, is_in_text, is_text_word}
use Rattle.sq_reloc.specs.declared.entry.Entry.{Entry}
use Rattle.sq_reloc.specs.Entries.{target_of, first_target, entries_of as read_entries}
use Rattle.sq_reloc.specs.Kinds.{is_data_kind, touches}
use Rattle.sq_reloc.specs.Outside.{is_outside, is_code_entry, makes_stale, is_stale_by, is_touched, is_beaten, code_target, code_word_at, word_start, is_stale}
use Rattle.sq_graph.specs.declared.parts.CodeRef.{CodeRef}
use Rattle.sq_graph.specs.Graph.{Graph}
use Rattle.sq_graph.specs.Words.{words_of}
use Rattle.sq_write.specs.Output.{Relocation}
use Rattle.sq_write.specs.Pieces.{set_word_at}
use Rattle.sq_write.specs.Points.{new_address}
use Rattle.sq_write.specs.Written.{word_entry, entries_of, written}
use Rattle.law_written.specs.Written.{IsWritable}
use Rattle.law_written.proofs.Pairs.{all_append, all_map}
use Rattle.law_written.proofs.Sound.{facts}
use Rattle.law_written.proofs.Writing.{written_sizes}
use Rattle.law_written.specs.CodeWords.{WrittenCodeWordsAreRead, NoByteIsStale}
use Rattle.law_written.specs.Entries.{read_entry, numbered}
use Rattle.law_written.proofs.Points.{IsHalf}
use Rattle.law_written.proofs.WrittenRelocations.{IsGoodWord, IsWordEntry, all_good, word_entries, block_place, address_fits, high, text_halves, low_entries, high_entries, half_entries, entries_here}

-- Lists of entries

pub numbered_both : (n : ℕ) (rs ss : List Relocation) → numbered n (rs ++ ss) ≡ numbered n rs ++ numbered (n + length rs) ss
numbered_both n [] ss = let none : n ≡ n + 0 = omega arith in ap (λ k. numbered k ss) none
numbered_both n (r ∷ rs) ss =
    let next : suc n + length rs ≡ n + suc (length rs) = omega arith in
    ap (λ es. read_entry n r ∷ es) (numbered_both (suc n) rs ss ∙ ap (λ k. numbered (suc n) rs ++ numbered k ss) next)

pub none_found : (P : Relocation → Type 0) (test : Entry → Bool) → ((k : ℕ) (r : Relocation) → P r → test (read_entry k r) ≡ false) → (rs : List Relocation) (n : ℕ) → AllByRecursion P rs → find test (numbered n rs) ≡ None
none_found P test fails [] n all = refl
none_found P test fails (r ∷ rs) n all = rw (fails n r all.0) (none_found P test fails rs (suc n) all.1)

pub none_passes : (P : Relocation → Type 0) (test : Entry → Bool) → ((k : ℕ) (r : Relocation) → P r → test (read_entry k r) ≡ false) → (rs : List Relocation) (n : ℕ) → AllByRecursion P rs → list_any test (numbered n rs) ≡ false
none_passes P test fails [] n all = refl
none_passes P test fails (r ∷ rs) n all = rw (fails n r all.0) (none_passes P test fails rs (suc n) all.1)

small_target : (k : ℕ) (r : Relocation) → r.addend < 2 ^ 32 → target_of (read_entry k r) ≡ r.addend
small_target k r small = omega arith

out_of_text : (low high lower x : ℕ) → lower ≤ high → (nat_le low x && nat_lt x high) ≡ false → (nat_le low x && nat_lt x lower) ≡ false
out_of_text low high lower x less out = grind (arith, nat_tests)

or_none : {X : Type 0} (found : Option X) → option_or found None ≡ found
or_none None = refl
or_none (Some x) = refl

module _ (bytes : List ℕ) (g : Graph) (can : IsWritable bytes g) where
  abbrev pub new_text : Text
  new_text = record { lo = (text_of bytes).lo; hi = (text_of bytes).lo + 4 * words_of g }

  pub text_is : text_of (written bytes g) ≡ new_text
  text_is = let sizes = written_sizes bytes g can in sizes.text

  pub low_word : (text_of bytes).lo % 4 ≡ 0
  low_word = let text = facts bytes can.accepted in text.inside.low_word

  -- a word of the new text
  pub place_in_text : (k : ℕ) → k < words_of g → is_in_text new_text ((text_of bytes).lo + 4 * k) ≡ true
  place_in_text k within =
      let low : nat_le (text_of bytes).lo ((text_of bytes).lo + 4 * k) ≡ true = le-leb (text_of bytes).lo ((text_of bytes).lo + 4 * k) (omega arith) in
      let end : nat_lt ((text_of bytes).lo + 4 * k) ((text_of bytes).lo + 4 * words_of g) ≡ true = lt-ltb ((text_of bytes).lo + 4 * k) ((text_of bytes).lo + 4 * words_of g) (omega arith) in
      rw (low, end) refl

  pub place_is_word : (k : ℕ) → k < words_of g → is_text_word new_text ((text_of bytes).lo + 4 * k) ≡ true
  place_is_word k within =
      let aligned : nat_eq (((text_of bytes).lo + 4 * k) % 4) 0 ≡ true = eq-eqb (((text_of bytes).lo + 4 * k) % 4) 0 (omega (arith, low_word)) in
      rw (place_in_text k within, aligned) refl

  -- entries of code words

  word_outside : (k : ℕ) (word : CodeRef) → IsGoodWord bytes g word → is_outside new_text (read_entry k (word_entry g (text_of bytes).lo word)) ≡ true
  word_outside k word good =
      ap not (out_of_text (text_of bytes).lo (text_of bytes).hi ((text_of bytes).lo + 4 * words_of g) word.at can.words good.facts.outside)

  pub word_target : (k : ℕ) (word : CodeRef) → IsGoodWord bytes g word → target_of (read_entry k (word_entry g (text_of bytes).lo word)) ≡ new_address g (text_of bytes).lo word.block
  word_target k word good = small_target k (word_entry g (text_of bytes).lo word) (address_fits bytes g can word.block good.there)

  pub word_is_code : (k : ℕ) (word : CodeRef) → IsGoodWord bytes g word → is_code_entry new_text (read_entry k (word_entry g (text_of bytes).lo word)) ≡ true
  word_is_code k word good =
      let place = block_place bytes g can word.block good.there in
      let outside = word_outside k word good in
      let aligned : nat_eq (word.at % 4) 0 ≡ true = eq-eqb (word.at % 4) 0 good.facts.aligned in
      let target : is_text_word new_text (target_of (read_entry k (word_entry g (text_of bytes).lo word))) ≡ true =
      subst (λ x. is_text_word new_text x ≡ true) (sym (word_target k word good ∙ place.is)) (place_is_word place.place place.within)
      in
      rw (outside, aligned, target) refl

  -- entries of words of text

  pub half_inside : (k : ℕ) (r : Relocation) → IsHalf g (text_of bytes).lo (text_of bytes).lo ((text_of bytes).lo + 4 * words_of g) r → is_in_text new_text (read_entry k r).offset ≡ true
  half_inside k r half =
      let low : nat_le (text_of bytes).lo r.offset ≡ true = le-leb (text_of bytes).lo r.offset half.begins in
      let end : nat_lt r.offset ((text_of bytes).lo + 4 * words_of g) ≡ true = lt-ltb r.offset ((text_of bytes).lo + 4 * words_of g) (omega (arith, half.ends)) in
      rw (low, end) refl

  pub half_outside : (k : ℕ) (r : Relocation) → IsHalf g (text_of bytes).lo (text_of bytes).lo ((text_of bytes).lo + 4 * words_of g) r → is_outside new_text (read_entry k r) ≡ false
  half_outside k r half = ap not (half_inside k r half)

  pub half_is_no_code : (k : ℕ) (r : Relocation) → IsHalf g (text_of bytes).lo (text_of bytes).lo ((text_of bytes).lo + 4 * words_of g) r → is_code_entry new_text (read_entry k r) ≡ false
  half_is_no_code k r half = rw (half_outside k r half) refl

  -- Nothing is stale

  abbrev pub IsWritten : Relocation → Type 0
  IsWritten r = IsWordEntry bytes g (λ word. true) r ⊎ IsHalf g (text_of bytes).lo (text_of bytes).lo ((text_of bytes).lo + 4 * words_of g) r

  any_word : (p : CodeRef → Bool) (r : Relocation) → IsWordEntry bytes g p r → IsWritten r
  any_word p r entry = inl (record { word = entry.word; good = entry.good; kept = refl; is = entry.is })

  pub all_written : AllByRecursion IsWritten (entries_of g (text_of bytes).lo)
  all_written =
      let below : CodeRef → Bool = λ word. nat_lt word.at (text_of bytes).lo in
      let above : CodeRef → Bool = λ word. nat_le (text_of bytes).lo word.at in
      all_append IsWritten (low_entries bytes g can ++ half_entries bytes g can) (high_entries bytes g can)
      (all_append IsWritten (low_entries bytes g can) (half_entries bytes g can)
      (all_map (IsWordEntry bytes g below) IsWritten (any_word below) (low_entries bytes g can) (word_entries bytes g can below g.code_words (all_good bytes g can)))
      (all_map (IsHalf g (text_of bytes).lo (text_of bytes).lo ((text_of bytes).lo + 4 * words_of g)) IsWritten (λ r half. inr half) (half_entries bytes g can) (text_halves bytes g can)))
      (all_map (IsWordEntry bytes g above) IsWritten (any_word above) (high_entries bytes g can) (word_entries bytes g can above g.code_words (all_good bytes g can)))

  makes_none : (k : ℕ) (r : Relocation) → IsWritten r → makes_stale new_text (read_entry k r) ≡ false
  makes_none k r (inl entry) =
      let code : is_code_entry new_text (read_entry k r) ≡ true = subst (λ x. is_code_entry new_text (read_entry k x) ≡ true) (sym entry.is) (word_is_code k entry.word entry.good) in
      and_right (is_outside new_text (read_entry k r) && is_data_kind (read_entry k r).kind && is_in_text new_text (target_of (read_entry k r))) (not (is_code_entry new_text (read_entry k r))) (ap not code)
  makes_none k r (inr half) = rw (half_outside k r half) refl

  stale_by_none : (address : ℕ) → is_stale_by (text_of (written bytes g)) (read_entries (written bytes g)) address ≡ false
  stale_by_none address =
      ap (λ t. is_stale_by t (read_entries (written bytes g)) address) text_is
      ∙ ap (λ es. is_stale_by new_text es address) (entries_here bytes g can)
      ∙ none_passes IsWritten (λ e. makes_stale new_text e && touches e address)
      (λ k r is. and_left (makes_stale new_text (read_entry k r)) (touches (read_entry k r) address) (makes_none k r is))
      (entries_of g (text_of bytes).lo) 0 all_written

  untouched : (address : ℕ) → is_touched (written bytes g) address ≡ false
  untouched address =
      and_right (not (is_in_text (text_of (written bytes g)) address)) (is_stale_by (text_of (written bytes g)) (read_entries (written bytes g)) address) (stale_by_none address)

  pub unbeaten : (address : ℕ) → is_beaten (written bytes g) address ≡ false
  unbeaten address = rw (untouched address, untouched (address + 1), untouched (address + 2), untouched (address + 3)) refl

  not_stale : (address : ℕ) → is_stale (written bytes g) address ≡ false
  not_stale address =
      let beaten = and_right (is_some (code_target (written bytes g) (word_start address))) (is_beaten (written bytes g) (word_start address)) (unbeaten (word_start address)) in
      rw (untouched address, beaten) refl

  -- The code word at an address
  module _ (address : ℕ) where
    abbrev test : Entry → Bool
    test e = is_code_entry new_text e && nat_eq e.offset address

    abbrev new_word : CodeRef → ℕ
    new_word word = new_address g (text_of bytes).lo word.block

    abbrev is_here : CodeRef → Bool
    is_here word = nat_eq word.at address

    word_test : (k : ℕ) (word : CodeRef) → IsGoodWord bytes g word → test (read_entry k (word_entry g (text_of bytes).lo word)) ≡ is_here word
    word_test k word good = rw (word_is_code k word good) refl

    -- among the entries of words that a test lets through, which has each word that stands at the address
    words_found : (p : CodeRef → Bool) → ((word : CodeRef) → is_here word ≡ true → p word ≡ true) → (words : List CodeRef) (n : ℕ) → AllByRecursion (IsGoodWord bytes g) words → option_map target_of (find test (numbered n (map (word_entry g (text_of bytes).lo) (filter p words)))) ≡ option_map new_word (find is_here words)
    words_found p lets [] n good = refl
    words_found p lets (word ∷ words) n good =
        by_test (cases_Bool (is_here word)) (cases_Bool (p word)) (λ k. words_found p lets words k good.1)
      where
        by_test : (is_here word ≡ true) ⊎ (is_here word ≡ false) → (p word ≡ true) ⊎ (p word ≡ false) → ((k : ℕ) → option_map target_of (find test (numbered k (map (word_entry g (text_of bytes).lo) (filter p words)))) ≡ option_map new_word (find is_here words)) → option_map target_of (find test (numbered n (map (word_entry g (text_of bytes).lo) (filter p (word ∷ words))))) ≡ option_map new_word (find is_here (word ∷ words))
        by_test (inl here) kept more =
            let passes : p word ≡ true = lets word here in
            let found : test (read_entry n (word_entry g (text_of bytes).lo word)) ≡ true = word_test n word good.0 ∙ here in
            rw (here, passes) (rw found (ap Some (word_target n word good.0)))
        by_test (inr apart) (inl passes) more =
            let missed : test (read_entry n (word_entry g (text_of bytes).lo word)) ≡ false = word_test n word good.0 ∙ apart in
            rw (apart, passes) (rw missed (more (suc n)))
        by_test (inr apart) (inr dropped) more = rw (apart, dropped) (more n)

    -- among those of other words, none
    others_fail : (p : CodeRef → Bool) → ((word : CodeRef) → p word ≡ true → is_here word ≡ false) → (n : ℕ) → find test (numbered n (map (word_entry g (text_of bytes).lo) (filter p g.code_words))) ≡ None
    others_fail p apart n =
        none_found (IsWordEntry bytes g p) test
        (λ k r entry. subst (λ x. test (read_entry k x) ≡ false) (sym entry.is) (word_test k entry.word entry.good ∙ apart entry.word entry.kept))
        (map (word_entry g (text_of bytes).lo) (filter p g.code_words)) n (word_entries bytes g can p g.code_words (all_good bytes g can))

    halves_fail : (n : ℕ) → find test (numbered n (half_entries bytes g can)) ≡ None
    halves_fail n =
        none_found (IsHalf g (text_of bytes).lo (text_of bytes).lo ((text_of bytes).lo + 4 * words_of g)) test
        (λ k r half. and_left (is_code_entry new_text (read_entry k r)) (nat_eq (read_entry k r).offset address) (half_is_no_code k r half))
        (half_entries bytes g can) n (text_halves bytes g can)

    in_parts : (low half high : List Relocation) → find test (numbered 0 (low ++ half ++ high)) ≡ option_or (option_or (find test (numbered 0 low)) (find test (numbered (0 + length low) half))) (find test (numbered (0 + length (low ++ half)) high))
    in_parts low half high =
        ap (find test) (numbered_both 0 (low ++ half) high)
        ∙ find-append test (numbered 0 (low ++ half)) (numbered (0 + length (low ++ half)) high)
        ∙ ap (λ found. option_or found (find test (numbered (0 + length (low ++ half)) high))) (ap (find test) (numbered_both 0 low half) ∙ find-append test (numbered 0 low) (numbered (0 + length low) half))

    low_lets : address < (text_of bytes).lo → (word : CodeRef) → is_here word ≡ true → nat_lt word.at (text_of bytes).lo ≡ true
    low_lets below word here = lt-ltb word.at (text_of bytes).lo (omega (arith, eqb-true word.at address here))

    low_apart : (text_of bytes).lo ≤ address → (word : CodeRef) → nat_lt word.at (text_of bytes).lo ≡ true → is_here word ≡ false
    low_apart above word below = grind (arith, nat_tests)

    high_lets : (text_of bytes).lo ≤ address → (word : CodeRef) → is_here word ≡ true → nat_le (text_of bytes).lo word.at ≡ true
    high_lets above word here = le-leb (text_of bytes).lo word.at (omega (arith, eqb-true word.at address here))

    high_apart : address < (text_of bytes).lo → (word : CodeRef) → nat_le (text_of bytes).lo word.at ≡ true → is_here word ≡ false
    high_apart below word above = grind (arith, nat_tests)

    first_only : (first second third : Option Entry) → second ≡ None → third ≡ None → option_or (option_or first second) third ≡ first
    first_only first second third e f =
        ap (λ x. option_or (option_or first x) third) e ∙ ap (option_or (option_or first None)) f ∙ or_none (option_or first None) ∙ or_none first

    third_only : (first second third : Option Entry) → first ≡ None → second ≡ None → option_or (option_or first second) third ≡ third
    third_only first second third e f = ap (λ x. option_or (option_or x second) third) e ∙ ap (λ x. option_or x third) f

    found_here : option_map target_of (find test (numbered 0 (entries_of g (text_of bytes).lo))) ≡ option_map new_word (find is_here g.code_words)
    found_here =
        let low = low_entries bytes g can in
        let half = half_entries bytes g can in
        let high = high_entries bytes g can in
        let first = find test (numbered 0 (low_entries bytes g can)) in
        let second = find test (numbered (0 + length (low_entries bytes g can)) (half_entries bytes g can)) in
        let third = find test (numbered (0 + length (low_entries bytes g can ++ half_entries bytes g can)) (high_entries bytes g can)) in
        let parts = ap (option_map target_of) (in_parts (low_entries bytes g can) (half_entries bytes g can) (high_entries bytes g can)) in
        ⊎_elim
        (λ (below : address < (text_of bytes).lo).
        parts
        ∙ ap (option_map target_of) (first_only first second third (halves_fail (0 + length (low_entries bytes g can))) (others_fail (λ word. nat_le (text_of bytes).lo word.at) (high_apart below) (0 + length (low_entries bytes g can ++ half_entries bytes g can))))
        ∙ words_found (λ word. nat_lt word.at (text_of bytes).lo) (low_lets below) g.code_words 0 (all_good bytes g can))
        (λ (above : (text_of bytes).lo ≤ address).
        parts
        ∙ ap (option_map target_of) (third_only first second third (others_fail (λ word. nat_lt word.at (text_of bytes).lo) (low_apart above) 0) (halves_fail (0 + length (low_entries bytes g can))))
        ∙ words_found (λ word. nat_le (text_of bytes).lo word.at) (high_lets above) g.code_words (0 + length (low_entries bytes g can ++ half_entries bytes g can)) (all_good bytes g can))
        (cases_lt address (text_of bytes).lo)

    target_here : code_target (written bytes g) address ≡ set_word_at g (text_of bytes).lo address
    target_here =
        ap (λ t. first_target (is_code_entry t) (read_entries (written bytes g)) address) text_is
        ∙ ap (λ es. first_target (is_code_entry new_text) es address) (entries_here bytes g can)
        ∙ found_here

    pub code_word_here : code_word_at (written bytes g) address ≡ set_word_at g (text_of bytes).lo address
    code_word_here = rw (unbeaten address) target_here

pub written_code_words_are_read : WrittenCodeWordsAreRead
written_code_words_are_read = λ bytes g can address. code_word_here bytes g can address

pub no_byte_is_stale : NoByteIsStale
no_byte_is_stale = λ bytes g can address. not_stale bytes g can address
