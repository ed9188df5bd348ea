-- the text that was kept is that of the bytes, of which the facts are known
use Rattle.std.proofs.Common.{ℕ, ◌≤◌, ◌^◌, List, subst, sym}
use Rattle.sq_elf.specs.declared.text.Text.{Text}
use Rattle.sq_elf.specs.Headers.{segment_of}
use Rattle.sq_elf.specs.Text.{text_segment_of, IsTextIn}
use Rattle.sq_elf.proofs.TextFacts.{text_facts}
use Rattle.sq_elf.proofs.elf.Elf.text.Goals as goal

pub returns-clause-inside : goal.returns-clause-inside
returns-clause-inside c =
    let known : IsTextIn (segment_of c.self.inside.bytes.now (text_segment_of c.self.inside.bytes.now)) c.self.inside.text = rw c.self.invariant.text_is ((text_facts c.self.inside.bytes.now c.self.invariant.accepted).inside) in
    let P : List ℕ → Type 0 = λ bytes. IsTextIn (segment_of bytes (text_segment_of bytes)) c.self.inside.text in
    subst P c.self.view_is known

pub returns-clause-high : goal.returns-clause-high
returns-clause-high c = let high : Text → Type 0 = λ text. text.hi ≤ 2 ^ 32 in subst high (sym c.self.invariant.text_is) ((text_facts c.self.inside.bytes.now c.self.invariant.accepted).high)
