use Rattle.std.proofs.Common.{ℕ, drop}
use Rattle.sq_outline.specs.Links.{link_order, MayLink, IsFirstOf}
use Rattle.sq_outline.proofs.link.find_link.Given as goal

-- those so far aren't the link, which is the first of the others that may be it
abbrev pub invariant-loop-number : goal.invariant-loop-number
invariant-loop-number l = record {
  later : (r : ℕ) → IsFirstOf (drop l.number-index link_order) (MayLink l.graph.graph l.items l.places) r → IsFirstOf link_order (MayLink l.graph.graph l.items l.places) r;
  skips : (r : ℕ) → IsFirstOf link_order (MayLink l.graph.graph l.items l.places) r → IsFirstOf (drop l.number-index link_order) (MayLink l.graph.graph l.items l.places) r;
}
