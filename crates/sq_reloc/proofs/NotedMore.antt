-- What entries say of the words of text, with one entry more.
use Rattle.std.proofs.Common.{◌≡◌, ℕ, ◌+◌, ◌*◌, ◌<◌, if◌then◌else◌, List, [], ◌∷◌, ◌++◌, length, subst, ◌∙◌, arith}
use Rattle.std.specs.List.{filter}
use Rattle.sq_elf.specs.declared.text.Text.{Text}
use Rattle.sq_elf.specs.Text.{text_of}
use Rattle.sq_reloc.specs.declared.entry.Entry.{Entry}
use Rattle.sq_reloc.specs.declared.verdict.Verdict.{Verdict}
use Rattle.sq_reloc.specs.declared.seen.Seen.{Seen}
use Rattle.sq_reloc.specs.Kinds.{touches_word}
use Rattle.sq_reloc.specs.Seen.{verdict_of, mark_at, seen_with, nth_seen, AreWordsBy}
use Rattle.sq_reloc.proofs.SeenMore.{noted}

-- how one entry changes a word
abbrev pub told_by : Text → Verdict → Entry → ℕ → Seen → Seen
told_by text verdict e place old = if touches_word e (text.lo + 4 * place) then seen_with old e verdict (mark_at e verdict (text.lo + 4 * place)) else old

module _ (bytes : List ℕ) (text : Text) (text_is : text ≡ text_of bytes) (verdict : Verdict) (e : Entry) (verdict_is : verdict ≡ verdict_of bytes e) where
  told : (place : ℕ) (old new : Seen) → new ≡ told_by text verdict e place old → new ≡ told_by (text_of bytes) (verdict_of bytes e) e place old
  told place old new is =
      let ByText : Text → Type 0 = λ t. new ≡ told_by t verdict e place old in
      let ByVerdict : Verdict → Type 0 = λ v. new ≡ told_by (text_of bytes) v e place old in
      subst ByVerdict verdict_is (subst ByText text_is is)

  pub words_more : (old new : List Seen) → length new ≡ length old → ((place : ℕ) → place < length old → nth_seen new place ≡ told_by text verdict e place (nth_seen old place))
      → (entries : List Entry) → AreWordsBy bytes old (λ address. filter (λ x. touches_word x address) entries) → AreWordsBy bytes new (λ address. filter (λ x. touches_word x address) (entries ++ e ∷ []))
  words_more old new same_length each entries before = record {
    count = same_length ∙ before.count;
    each = λ place within.
        let inside : place < length old = omega (arith, same_length, within) in
        noted bytes ((text_of bytes).lo + 4 * place) entries e (nth_seen old place) (nth_seen new place) (before.each place inside)
        (told place (nth_seen old place) (nth_seen new place) (each place inside));
  }
