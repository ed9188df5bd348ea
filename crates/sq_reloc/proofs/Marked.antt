-- The mark that is read off the words of text.
use Rattle.std.proofs.Common.{◌≡◌, ℕ, ◌+◌, ◌-◌, ◌*◌, ◌/◌, ◌%◌, ◌<◌, ◌≤◌, true, nat_eq, nat_lt, nat_le, List, length, get_or, subst, sym, ap, ◌∙◌, arith}
use Rattle.std.proofs.lemmas.Bool.Decides.{nat_tests}
use Rattle.std.proofs.lemmas.List.{get_or_default}
use Rattle.std.proofs.lemmas.Bool.{and_parts}
use Rattle.sq_elf.specs.declared.text.Text.{Text}
use Rattle.sq_elf.specs.Text.{text_of, is_in_text, is_text_word}
use Rattle.sq_reloc.specs.declared.seen.Seen.{Seen}
use Rattle.sq_reloc.specs.Marks.{touching, mark_of}
use Rattle.sq_reloc.specs.Seen.{seen_of, nothing_seen, nth_seen, mark_seen, AreWordsBy}
use Rattle.sq_reloc.proofs.SeenMore.{seen_mark}

-- what a word of text is
pub record IsWordOf (text : Text) (address : ℕ) : Type 0 where
  pub low : text.lo ≤ address
  pub high : address < text.hi
  pub word : address % 4 ≡ 0

pub word_facts : (text : Text) (address : ℕ) → is_text_word text address ≡ true → IsWordOf text address
word_facts text address is =
    let parts = and_parts (is_in_text text address) (nat_eq (address % 4) 0) is in
    let ends = and_parts (nat_le text.lo address) (nat_lt address text.hi) parts.0 in
    let low : nat_le text.lo address ≡ true = ends.0 in
    let high : nat_lt address text.hi ≡ true = ends.1 in
    let word : nat_eq (address % 4) 0 ≡ true = parts.1 in
    record { low = grind (arith, nat_tests); high = grind (arith, nat_tests); word = grind (arith, nat_tests) }

module _ (bytes : List ℕ) (words : List Seen) (text : Text) (address : ℕ) (text_is : text ≡ text_of bytes) (low_word : text.lo % 4 ≡ 0) (high_word : text.hi % 4 ≡ 0) (words_are : AreWordsBy bytes words (touching bytes)) (is : is_text_word (text_of bytes) address ≡ true) where
  facts : IsWordOf text address
  facts = let Here : Text → Type 0 = λ t. IsWordOf t address in subst Here (sym text_is) (word_facts (text_of bytes) address is)

  count_is : length words ≡ (text.hi - text.lo) / 4
  count_is = let Count : Text → Type 0 = λ t. length words ≡ (t.hi - t.lo) / 4 in subst Count (sym text_is) words_are.count

  within : (address - text.lo) / 4 < length words
  within = omega (arith, facts.low, facts.high, facts.word, low_word, high_word, count_is)

  back : text.lo + 4 * ((address - text.lo) / 4) ≡ address
  back = omega (arith, facts.low, facts.word, low_word)

  here : (text_of bytes).lo + 4 * ((address - text.lo) / 4) ≡ address
  here = ap (λ (t : Text). t.lo + 4 * ((address - text.lo) / 4)) (sym text_is) ∙ back

  pub marked : (found : Seen) → found ≡ get_or words ((address - text.lo) / 4) found → mark_seen found ≡ mark_of bytes address
  unfolding mark_of
  marked found found_is =
      let Told : ℕ → Type 0 = λ a. nth_seen words ((address - text.lo) / 4) ≡ seen_of bytes a (touching bytes a) in
      let told : nth_seen words ((address - text.lo) / 4) ≡ seen_of bytes address (touching bytes address) = subst Told here (words_are.each ((address - text.lo) / 4) within) in
      ap mark_seen (found_is ∙ get_or_default words ((address - text.lo) / 4) found nothing_seen within ∙ told) ∙ seen_mark bytes address (touching bytes address)
