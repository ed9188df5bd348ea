use Rattle.std.proofs.Common.{◌≡◌, ℕ, ◌||◌, nat_eq}
use Rattle.std.specs.List.{list_any}
use Rattle.std.specs.HashSet as set
use Rattle.sq_reloc.specs.Pages.{is_touched_in}
use Rattle.sq_reloc.proofs.outside_text.touched_pages.Given as goal

abbrev pub invariant-loop-address : goal.invariant-loop-address
invariant-loop-address l =
    (page : ℕ) → (set.contains nat_eq l.pages page || list_any (is_touched_in l.outside page) l.address-iterator) ≡ list_any (is_touched_in l.outside page) l.stale.keys
