use Rattle.std.proofs.Common.{sym, subst}
use Rattle.sq_graph.specs.Leaders.{IsCanonical}
use Rattle.sq_graph.specs.Slotted.{IsSlotted, slotted}
use Rattle.sq_graph.proofs.RenamedSound.{canonical_kept}
use Rattle.sq_graph.proofs.Slotting.{slotted_alike, slotted_again}
use Rattle.test_graphs.proofs.certificates.is_tidy.Goals as goal

pub returns-clause-canonical : goal.returns-clause-canonical
returns-clause-canonical c =
    let g = c.canonical.new.self.graph in
    subst IsCanonical (sym c.in_ok-name_by_slots.ensures.graph)
    (canonical_kept g (slotted g) c.canonical.ensures.rules (slotted_alike g) c.canonical.ensures.canonical)

pub returns-clause-slotted : goal.returns-clause-slotted
returns-clause-slotted c =
    subst IsSlotted (sym c.in_ok-name_by_slots.ensures.graph) (slotted_again c.canonical.new.self.graph c.canonical.ensures.rules)
