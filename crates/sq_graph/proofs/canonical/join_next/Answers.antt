use Rattle.std.proofs.Common.{◌≡◌, ℕ, ◌==◌, true, false, ◌∙◌, List, ◌∷◌, Some, ap, sym, is_some, arith}
use Rattle.std.proofs.lemmas.Bool.{eq-eqb, ne_eqb}
use Rattle.sq_graph.specs.declared.slot.Slot.{Slot}
use Rattle.sq_graph.specs.Leaders.{is_fall}
use Rattle.sq_arena.specs.Entries.{value_of, behind}
use Rattle.sq_graph.specs.CanonicalSlots.{joined_slot_onto}
use Rattle.sq_graph.proofs.SlotPasses.{unjoined, no_fall_stays, last_stays, marked_stays, pair_of, pair_less, pair_onto}
use Rattle.sq_graph.proofs.canonical.join_next.Goals as goal

start_of_next : (es : List (ℕ × Slot)) (name : ℕ) (a b : Slot) → value_of es name ≡ Some a → value_of es name ≡ Some b → b.start ≡ a.start
start_of_next es name a b found found' =
    let same : Some b ≡ Some a = sym found' ∙ found in
    let is : b ≡ a = cc in
    ap (λ s. s.start) is

pub returns-then-not-is_fall-clause-entries : goal.returns-then-not-is_fall-clause-entries
returns-then-not-is_fall-clause-entries c =
    let falls : is_fall c.slot-first.result.term ≡ false = sym c.is_fall.ensures ∙ c.if-not-is_fall.true in
    unjoined c.args.slots.now.entries c.args.name c.slot-first.result c.slot-first.ensures (no_fall_stays (c.args.name, c.slot-first.result) (behind c.args.slots.now.entries c.args.name) falls)

pub returns-in_default-clause-entries : goal.returns-in_default-clause-entries
returns-in_default-clause-entries c =
    unjoined c.args.slots.now.entries c.args.name c.slot-first.result c.slot-first.ensures (last_stays (c.args.name, c.slot-first.result) (behind c.args.slots.now.entries c.args.name) (sym c.next.ensures ∙ c.in_default.is))

pub slot-second-requires : goal.slot-second-requires
slot-second-requires c =
    let pair = pair_of c.args.slots.now.entries c.args.name c.slot-first.result c.in-Some.next c.requires.distinct c.slot-first.ensures (sym c.next.ensures ∙ c.in-Some.is) in
    ap is_some pair.at.found

pub returns-then-second-ne0-clause-entries : goal.returns-then-second-ne0-clause-entries
returns-then-second-ne0-clause-entries c =
    let pair = pair_of c.args.slots.now.entries c.args.name c.slot-first.result c.in-Some.next c.requires.distinct c.slot-first.ensures (sym c.next.ensures ∙ c.in-Some.is) in
    let start : (pair.value.start == 0) ≡ false = ne_eqb pair.value.start 0 (λ same. c.if-second-ne0.true (start_of_next c.args.slots.now.entries c.in-Some.next pair.value c.slot-second.result pair.at.found c.slot-second.ensures ∙ same)) in
    unjoined c.args.slots.now.entries c.args.name c.slot-first.result c.slot-first.ensures
    (ap (joined_slot_onto (c.args.name, c.slot-first.result)) pair.behind_is
    ∙ marked_stays (c.args.name, c.slot-first.result) (c.in-Some.next, pair.value) pair.rest start
    ∙ ap (λ es. (c.args.name, c.slot-first.result) ∷ es) (sym pair.behind_is))

pub take_next-requires-clause-next : goal.take_next-requires-clause-next
take_next-requires-clause-next c = sym c.next.ensures ∙ c.in-Some.is

pub returns-clause-entries : goal.returns-clause-entries
returns-clause-entries c =
    let pair = pair_of c.args.slots.now.entries c.args.name c.slot-first.result c.in-Some.next c.requires.distinct c.slot-first.ensures (sym c.next.ensures ∙ c.in-Some.is) in
    let falls : is_fall c.slot-first.result.term ≡ true = sym c.is_fall.ensures ∙ c.if-not-is_fall.false in
    pair_onto c.args.slots.now.entries c.take_next.new.slots.entries c.args.name c.slot-first.result c.in-Some.next c.slot-second.result c.slot-first.ensures pair
    (c.take_next.ensures.entries c.slot-first.result c.slot-second.result c.slot-first.ensures c.slot-second.ensures)
    c.slot-second.ensures falls (eq-eqb c.slot-second.result.start 0 (omega (arith, c.if-second-ne0.false)))

pub returns-clause-total : goal.returns-clause-total
returns-clause-total c =
    let pair = pair_of c.args.slots.now.entries c.args.name c.slot-first.result c.in-Some.next c.requires.distinct c.slot-first.ensures (sym c.next.ensures ∙ c.in-Some.is) in
    omega (
      arith,
      c.take_next.ensures.spare,
      pair_less c.args.slots.now.entries c.take_next.new.slots.entries c.args.name c.slot-first.result c.in-Some.next c.slot-second.result c.slot-first.ensures pair
          (c.take_next.ensures.entries c.slot-first.result c.slot-second.result c.slot-first.ensures c.slot-second.ensures),
    )
