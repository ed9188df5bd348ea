-- the unbeaten ones of the targets that are kept
use Rattle.std.proofs.Common.{◌≡◌, ℕ, List, subst}
use Rattle.std.specs.Ordering.{nat_cmp}
use Rattle.std.specs.BTreeMap as tree
use Rattle.sq_reloc.specs.Outside.{code_target}
use Rattle.sq_reloc.proofs.UnbeatenWords.{unbeaten_are_code_words}
use Rattle.sq_reloc.proofs.outside_text.OutsideText.code_words.Goals as goal

pub returns : goal.returns
returns c =
    let Kept : List ℕ → Type 0 = λ bytes. (address : ℕ) → tree.get nat_cmp c.self.inside.targets address ≡ code_target bytes address in
    unbeaten_are_code_words c.args.self.now c.self.inside.targets c.in_ok-words.words.items c.in_ok-words.ensures.ordered (subst Kept c.self.view_is c.self.invariant.targets_are) c.in_ok-words.ensures.value
