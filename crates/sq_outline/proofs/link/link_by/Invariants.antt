use Rattle.std.proofs.Common.{ℕ, drop}
use Rattle.sq_outline.specs.Links.{link_order, MayLinkBy, IsFirstOf}
use Rattle.sq_outline.proofs.link.link_by.Given as goal

-- those so far aren't the first, which is the first of the others
abbrev pub invariant-loop-number : goal.invariant-loop-number
invariant-loop-number l = record {
  later : (r : ℕ) → IsFirstOf (drop l.number-index link_order) (MayLinkBy l.items l.dead) r → IsFirstOf link_order (MayLinkBy l.items l.dead) r;
  skips : (r : ℕ) → IsFirstOf link_order (MayLinkBy l.items l.dead) r → IsFirstOf (drop l.number-index link_order) (MayLinkBy l.items l.dead) r;
}
