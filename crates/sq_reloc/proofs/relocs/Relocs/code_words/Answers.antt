-- the table refuses nothing, so the facts of code words are known
use Rattle.std.proofs.Common.{◌≡◌, ℕ, List, None, subst}
use Rattle.sq_reloc.specs.Refusing.{reloc_refusal_of}
use Rattle.sq_reloc.proofs.CodeWordFacts.{is_code_word}
use Rattle.sq_reloc.proofs.relocs.Relocs.code_words.Goals as goal

pub returns-clause-each : goal.returns-clause-each
returns-clause-each c =
    let Accepted : List ℕ → Type 0 = λ bytes. reloc_refusal_of bytes ≡ None in
    is_code_word c.args.self.now (subst Accepted c.self.view_is c.self.invariant.accepted)
