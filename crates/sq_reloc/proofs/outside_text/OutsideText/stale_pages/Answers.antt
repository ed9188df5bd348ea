-- the pages of the bytes that are kept
use Rattle.std.proofs.Common.{◌≡◌, ℕ, List, nat_eq, subst}
use Rattle.std.specs.HashSet as set
use Rattle.sq_elf.specs.Text.{text_of}
use Rattle.sq_reloc.specs.Entries.{entries_of}
use Rattle.sq_reloc.specs.Outside.{is_stale_by}
use Rattle.sq_reloc.proofs.StalePages.{stale_pages}
use Rattle.sq_reloc.proofs.outside_text.OutsideText.stale_pages.Goals as goal

pub returns : goal.returns
returns c =
    let Kept : List ℕ → Type 0 = λ bytes. (address : ℕ) → set.contains nat_eq c.self.inside.stale address ≡ is_stale_by (text_of bytes) (entries_of bytes) address in
    stale_pages c.args.self.now c.self.inside.stale c.in_ok-pages.pages (subst Kept c.self.view_is c.self.invariant.stale_is) c.in_ok-pages.ensures
