-- the word of the address
use Rattle.std.proofs.Common.{◌≡◌, ◌<◌, ◌^◌, ℕ, List, true, subst, sym, ◌∙◌, ap, arith}
use Rattle.sq_elf.specs.Text.{text_of, is_text_word}
use Rattle.sq_reloc.specs.Marks.{mark_of, IsMarked}
use Rattle.sq_reloc.specs.declared.mark.Mark.{Mark}
use Rattle.sq_reloc.specs.Required.{insn_at}
use Rattle.sq_reloc.proofs.Marked.{marked, word_facts}
use Rattle.sq_reloc.proofs.MarkFacts.{insn_is_marked}
use Rattle.sq_reloc.proofs.relocs.Relocs.mark.Goals as goal

pub returns-clause-value : goal.returns-clause-value
returns-clause-value c =
    let IsWord : List ℕ → Type 0 = λ bytes. is_text_word (text_of bytes) c.args.address ≡ true in
    c.mark.ensures
    ∙ marked c.self.inside.outside c.self.inside.words.items c.self.inside.text c.args.address c.self.invariant.text_is c.self.invariant.low_word c.self.invariant.high_word c.self.invariant.words_are (subst IsWord (sym c.self.view_is) c.requires) c.index.result.now c.index.ensures
    ∙ ap (λ bytes. mark_of bytes c.args.address) c.self.view_is

pub returns-clause-instruction : goal.returns-clause-instruction
returns-clause-instruction c =
    let At : Mark → Type 0 = λ mark. IsMarked (insn_at c.args.self.now c.args.address) mark in
    let small : c.args.address < 2 ^ 32 = omega arith in
    let value : c.mark.result ≡ mark_of c.args.self.now c.args.address = returns-clause-value c in
    subst At (sym value) (insn_is_marked c.args.self.now c.args.address ((word_facts (text_of c.args.self.now) c.args.address c.requires).word) small)
