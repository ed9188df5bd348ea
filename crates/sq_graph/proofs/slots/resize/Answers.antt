use Rattle.std.proofs.Common.{◌≡◌, ◌∙◌, ◌+◌, ◌∷◌, ◌++◌, [], ap, sym, is_some, arith, append_assoc}
use Rattle.sq_arena.specs.Entries.{before, behind, with_value, next_key}
use Rattle.sq_graph.specs.declared.slot.Slot.{Slot}
use Rattle.sq_graph.specs.Cursor.{rest_from, length_of_slots, renumbered}
use Rattle.sq_graph.proofs.CursorLaws.{steps, value_of-with_value, distinct-with_value, with_value-split}
use Rattle.sq_graph.proofs.slots.resize.Goals as goal

pub next-next-requires : goal.next-next-requires
next-next-requires c =
    rw c.set.ensures.entries (ap is_some (value_of-with_value c.args.slots.now.entries c.args.name c.args.slot (record c.args.slot { length = c.args.length }) c.requires.slot))

pub renumber-requires-clause-distinct : goal.renumber-requires-clause-distinct
renumber-requires-clause-distinct c =
    rw c.set.ensures.entries (distinct-with_value c.args.slots.now.entries c.args.name (record c.args.slot { length = c.args.length }) c.requires.distinct)

pub renumber-requires-clause-place : goal.renumber-requires-clause-place
renumber-requires-clause-place c =
    rw (c.next-next.ensures, c.set.ensures.entries) (steps c.args.slots.now.entries c.args.name c.args.slot (record c.args.slot { length = c.args.length }) c.requires.distinct c.requires.slot).is_place

pub renumber-requires-clause-fits : goal.renumber-requires-clause-fits
renumber-requires-clause-fits c =
    let rest = (steps c.args.slots.now.entries c.args.name c.args.slot (record c.args.slot { length = c.args.length }) c.requires.distinct c.requires.slot).rest in
    rw (c.next-next.ensures, c.set.ensures.entries) (omega (arith, ap length_of_slots rest, c.requires.fits))

pub returns-then-length-slot-clause-entries : goal.returns-then-length-slot-clause-entries
returns-then-length-slot-clause-entries c =
    let new : Slot = record c.args.slot { length = c.args.length } in
    let st = steps c.args.slots.now.entries c.args.name c.args.slot (record c.args.slot { length = c.args.length }) c.requires.distinct c.requires.slot in
    c.renumber.ensures.entries
    ∙ rw (c.next-next.ensures, c.set.ensures.entries)
    (ap (λ es. es ++ renumbered (c.args.slot.start + c.args.length) (rest_from (with_value c.args.slots.now.entries c.args.name (record c.args.slot { length = c.args.length })) (next_key (with_value c.args.slots.now.entries c.args.name (record c.args.slot { length = c.args.length })) c.args.name))) st.ahead
    ∙ ap (λ es. (before c.args.slots.now.entries c.args.name ++ (c.args.name, new) ∷ []) ++ renumbered (c.args.slot.start + c.args.length) es) st.rest
    ∙ append_assoc (before c.args.slots.now.entries c.args.name) ((c.args.name, new) ∷ []) (renumbered (c.args.slot.start + c.args.length) (behind c.args.slots.now.entries c.args.name)))

pub returns-else-length-slot-clause-entries : goal.returns-else-length-slot-clause-entries
returns-else-length-slot-clause-entries c =
    let new : Slot = record c.args.slot { length = c.args.length } in
    let still : renumbered (c.args.slot.start + c.args.length) (behind c.args.slots.now.entries c.args.name) ≡ behind c.args.slots.now.entries c.args.name =
    ap (λ n. renumbered (c.args.slot.start + n) (behind c.args.slots.now.entries c.args.name)) c.if-length-slot.false ∙ c.requires.numbered in
    c.set.ensures.entries
    ∙ with_value-split c.args.slots.now.entries c.args.name c.args.slot (record c.args.slot { length = c.args.length }) c.requires.slot
    ∙ ap (λ es. before c.args.slots.now.entries c.args.name ++ (c.args.name, new) ∷ es) (sym still)
