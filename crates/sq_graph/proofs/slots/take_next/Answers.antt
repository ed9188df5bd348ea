use Rattle.std.proofs.Common.{◌∙◌, ◌++◌, ◌∷◌, ap, sym, is_some, arith}
use Rattle.sq_arena.specs.Entries.{before, behind}
use Rattle.sq_graph.specs.CanonicalSlots.{both}
use Rattle.sq_graph.proofs.CursorLaws.{distinct-with_value}
use Rattle.sq_graph.proofs.SlotPasses.{some_same, pair_of, left_there, pair_fits, pair_joined}
use Rattle.sq_graph.proofs.slots.take_next.Goals as goal

pub unlink-second-requires : goal.unlink-second-requires
unlink-second-requires c =
    let pair = pair_of c.args.slots.now.entries c.args.name c.slot-first.result c.args.next c.requires.distinct c.slot-first.ensures c.requires.next in
    ap is_some pair.at.found

pub overflow_add-length : goal.overflow_add-length
overflow_add-length c =
    let pair = pair_of c.args.slots.now.entries c.args.name c.slot-first.result c.args.next c.requires.distinct c.slot-first.ensures c.requires.next in
    omega (arith, c.requires.fits, pair_fits c.args.slots.now.entries c.unlink-second.new.self.entries c.unlink-second.new.self.entries c.args.name c.slot-first.result c.args.next c.unlink-second.result c.requires.distinct c.slot-first.ensures pair c.unlink-second.ensures.value c.unlink-second.ensures.entries c.unlink-second.ensures.distinct)

pub set-requires : goal.set-requires
set-requires c =
    let pair = pair_of c.args.slots.now.entries c.args.name c.slot-first.result c.args.next c.requires.distinct c.slot-first.ensures c.requires.next in
    left_there c.args.slots.now.entries c.unlink-second.new.self.entries c.unlink-second.new.self.entries c.args.name c.slot-first.result c.args.next c.unlink-second.result c.requires.distinct c.slot-first.ensures pair c.unlink-second.ensures.value c.unlink-second.ensures.entries c.unlink-second.ensures.distinct

pub returns-clause-entries : goal.returns-clause-entries
returns-clause-entries c =
    let pair = pair_of c.args.slots.now.entries c.args.name c.slot-first.result c.args.next c.requires.distinct c.slot-first.ensures c.requires.next in
    let joined = pair_joined c.args.slots.now.entries c.unlink-second.new.self.entries c.set.new.slots.entries c.args.name c.slot-first.result c.args.next c.unlink-second.result c.requires.distinct c.slot-first.ensures pair c.unlink-second.ensures.value c.unlink-second.ensures.entries c.unlink-second.ensures.distinct c.set.ensures.entries in
    λ first second found found_next.
    joined
    ∙ ap (λ s. before c.args.slots.now.entries c.args.name ++ (c.args.name, both s c.unlink-second.result) ∷ behind c.args.slots.now.entries c.args.next) (some_same c.slot-first.result first (sym c.slot-first.ensures ∙ found))
    ∙ ap (λ s. before c.args.slots.now.entries c.args.name ++ (c.args.name, both first s) ∷ behind c.args.slots.now.entries c.args.next) (some_same c.unlink-second.result second (sym c.unlink-second.ensures.value ∙ found_next))

pub returns-clause-distinct : goal.returns-clause-distinct
returns-clause-distinct c =
    rw c.set.ensures.entries (distinct-with_value c.unlink-second.new.self.entries c.args.name (both c.slot-first.result c.unlink-second.result) c.unlink-second.ensures.distinct)
