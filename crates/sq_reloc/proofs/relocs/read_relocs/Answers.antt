-- the phases one after the other; what is kept is that of the file
use Rattle.std.proofs.Common.{◌≡◌, inl, ℕ, List, Some, None, refl, subst, sym, ap, ◌∙◌}
use Rattle.sq_reloc.specs.CodeWords.{AreCodeWords}
use Rattle.sq_reloc.specs.Reading.{Keeps}
use Rattle.sq_reloc.specs.Refusing.{reloc_refusal_of}
use Rattle.sq_reloc.proofs.Phases.{tables_refuse, entries_decide}
use Rattle.sq_reloc.proofs.FreshReads.{words_same, kept_outside, uppers_all, lacking_all, refused_all}
use Rattle.sq_reloc.proofs.relocs.read_relocs.Goals as goal

pub new-outside-requires : goal.new-outside-requires
new-outside-requires c = kept_outside c.args.elf.now c.in_ok-gathered.gathered c.in_ok-gathered.ensures

pub noted_of-requires-clause-outside : goal.noted_of-requires-clause-outside
noted_of-requires-clause-outside c = c.new-outside.ensures

pub noted_of-requires-clause-uppers : goal.noted_of-requires-clause-uppers
noted_of-requires-clause-uppers c = uppers_all c.args.elf.now c.in_ok-gathered.gathered c.in_ok-gathered.ensures

pub returns-in-Some-clause-refused : goal.returns-in-Some-clause-refused
returns-in-Some-clause-refused c = λ refusal is.
    let same : c.in-Some.refusal ≡ refusal = cc is in
    tables_refuse c.args.elf.now c.in-Some.refusal c.in-Some.ensures ∙ ap Some same

pub returns-in-Some-clause-exact : goal.returns-in-Some-clause-exact
returns-in-Some-clause-exact c = λ refusal is.
    let here : reloc_refusal_of c.args.elf.now ≡ Some c.in-Some.refusal = tables_refuse c.args.elf.now c.in-Some.refusal c.in-Some.ensures in
    let same : c.in-Some.refusal ≡ refusal = cc (is, here) in
    inl (rw same refl)

pub returns-in-Some-entry_refusal-clause-refused : goal.returns-in-Some-entry_refusal-clause-refused
returns-in-Some-entry_refusal-clause-refused c = λ refusal is.
    let same : c.in-Some-entry_refusal.refusal ≡ refusal = cc is in
    entries_decide c.args.elf.now (Some c.in-Some-entry_refusal.refusal) c.in_default.ensures (c.in-Some-entry_refusal.ensures c.args.elf.now (lacking_all c.args.elf.now c.in_ok-gathered.gathered c.in_ok-gathered.ensures) (refused_all c.args.elf.now c.in_ok-noted.noted c.in_ok-noted.ensures)) ∙ ap Some same

pub returns-in-Some-entry_refusal-clause-exact : goal.returns-in-Some-entry_refusal-clause-exact
returns-in-Some-entry_refusal-clause-exact c = λ refusal is.
    let here : reloc_refusal_of c.args.elf.now ≡ Some c.in-Some-entry_refusal.refusal = entries_decide c.args.elf.now (Some c.in-Some-entry_refusal.refusal) c.in_default.ensures (c.in-Some-entry_refusal.ensures c.args.elf.now (lacking_all c.args.elf.now c.in_ok-gathered.gathered c.in_ok-gathered.ensures) (refused_all c.args.elf.now c.in_ok-noted.noted c.in_ok-noted.ensures)) in
    let same : c.in-Some-entry_refusal.refusal ≡ refusal = cc (is, here) in
    inl (rw same refl)

pub invariant_of-result : goal.invariant_of-result
invariant_of-result c =
    let Words : List ℕ → Type 0 = λ bytes. AreCodeWords bytes c.in_ok-code_words.code_words.items in
    let Kept : List ℕ → Type 0 = λ bytes. Keeps bytes c.text.result c.in_ok-noted.noted.words.items c.in_ok-code_words.code_words.items in
    let kept : Keeps c.args.elf.now c.text.result c.in_ok-noted.noted.words.items c.in_ok-code_words.code_words.items = record {
      accepted = entries_decide c.args.elf.now None c.in_default.ensures (c.in_default-entry_refusal.ensures c.args.elf.now (lacking_all c.args.elf.now c.in_ok-gathered.gathered c.in_ok-gathered.ensures) (refused_all c.args.elf.now c.in_ok-noted.noted c.in_ok-noted.ensures));
      text_is = c.text.ensures.value;
      low_word = c.text.ensures.inside.low_word;
      high_word = c.text.ensures.inside.high_word;
      words_are = words_same c.args.elf.now c.in_ok-noted.noted.words.items c.in_ok-noted.ensures.words_are;
      code_words_are = subst Words c.new-outside.ensures c.in_ok-code_words.ensures;
    } in
    subst Kept (sym c.new-outside.ensures) kept

pub returns-clause-accepted : goal.returns-clause-accepted
returns-clause-accepted c = entries_decide c.args.elf.now None c.in_default.ensures (c.in_default-entry_refusal.ensures c.args.elf.now (lacking_all c.args.elf.now c.in_ok-gathered.gathered c.in_ok-gathered.ensures) (refused_all c.args.elf.now c.in_ok-noted.noted c.in_ok-noted.ensures))

pub returns-clause-exact : goal.returns-clause-exact
returns-clause-exact c = λ refusal is.
    let none : reloc_refusal_of c.args.elf.now ≡ None = entries_decide c.args.elf.now None c.in_default.ensures (c.in_default-entry_refusal.ensures c.args.elf.now (lacking_all c.args.elf.now c.in_ok-gathered.gathered c.in_ok-gathered.ensures) (refused_all c.args.elf.now c.in_ok-noted.noted c.in_ok-noted.ensures)) in
    absurd (cc (is, none))
