-- each word that it touches has the entry too
use Rattle.std.proofs.Common.{◌≡◌, ◌++◌, ◌∷◌, [], if◌then◌else◌, List, length, ℕ, ◌<◌, Some, None, subst, sym, ap, ◌∙◌}
use Rattle.std.specs.Option.{option_or}
use Rattle.std.specs.List.{filter}
use Rattle.std.specs.Vec.{with_items}
use Rattle.std.proofs.lemmas.List.{with_items_is}
use Rattle.sq_reloc.specs.declared.entry.Entry.{Entry}
use Rattle.sq_reloc.specs.declared.seen.Seen.{Seen}
use Rattle.sq_reloc.specs.Kinds.{touches_word}
use Rattle.sq_reloc.specs.Seen.{nth_seen, AreWordsBy}
use Rattle.sq_reloc.specs.Outside.{is_refused_outside}
use Rattle.sq_reloc.proofs.NotedMore.{told_by, words_more}
use Rattle.sq_reloc.proofs.SeenMore.{found_more}
use Rattle.sq_reloc.proofs.words.Noted.add.Goals as goal

pub returns : goal.returns
returns c = λ entries before.
    let e : Entry = c.args.entry in
    let value : c.deref_mut.result.now ≡ c.args.self.now.words.items = cc c.deref_mut.ensures.value in
    let same_length : length c.note.new.words ≡ length c.args.self.now.words.items = c.note.auto.words ∙ ap length value in
    let Each : List Seen → Type 0 = λ old. (place : ℕ) → place < length old → nth_seen c.note.new.words place ≡ told_by c.text-text.result c.verdict_on-verdict.result e place (nth_seen old place) in
    let each : Each c.args.self.now.words.items = subst Each value c.note.ensures in
    let refuses : c.is_refused.result ≡ is_refused_outside c.args.elf.now e = c.is_refused.ensures ∙ ap (λ bytes. is_refused_outside bytes e) c.requires.outside in
    let kept : (with_items c.args.self.now.words c.note.new.words).items ≡ c.note.new.words =
    with_items_is c.args.self.now.words c.note.new.words (c.note.auto.words ∙ c.deref_mut.ensures.len) in
    let Words : List Seen → Type 0 = λ items. AreWordsBy c.args.elf.now items (λ address. filter (λ x. touches_word x address) (entries ++ e ∷ [])) in
    record {
      words_are = subst Words (sym kept) (words_more c.args.elf.now c.text-text.result c.text-text.ensures.value c.verdict_on-verdict.result e c.verdict_on-verdict.ensures
          c.args.self.now.words.items c.note.new.words same_length each entries before.words_are);
      refused_is =
          c.found_or-self.ensures ∙ ap (λ b. option_or c.args.self.now.refused (if b then Some e else None)) refuses
          ∙ ap (λ found. option_or found (if is_refused_outside c.args.elf.now e then Some e else None)) before.refused_is
          ∙ sym (found_more (is_refused_outside c.args.elf.now) entries e);
    }
