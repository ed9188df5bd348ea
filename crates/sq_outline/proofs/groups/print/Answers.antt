use Rattle.std.proofs.Common.{◌≡◌, ℕ, false, ◌∙◌}
use Rattle.sq_isa.specs.Registers.{is_member}
use Rattle.sq_rename.specs.Prints.{print_from}
use Rattle.sq_outline.proofs.groups.print.Goals as goal

pub returns : goal.returns
returns c =
    let none : (r : ℕ) → is_member c.new.result r ≡ false = c.new.ensures in
    c.items_print.ensures ∙ (λ i. print_from 0 (λ r. none r i) c.args.items.now)
