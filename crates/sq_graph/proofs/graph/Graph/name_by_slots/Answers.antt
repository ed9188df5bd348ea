use Rattle.std.proofs.Common.{◌∙◌, length, ap, sym, refl, arith, rules}
use Rattle.std.proofs.lemmas.List.{length-map}
use Rattle.sq_arena.specs.Entries.{values}
use Rattle.sq_arena.proofs.Positions.{distinct-at_positions}
use Rattle.sq_graph.specs.declared.graph.Graph.TheInside.{Inside}
use Rattle.sq_graph.specs.Renames.{retargeted_item}
use Rattle.sq_graph.specs.CanonicalSlots.{start_of}
use Rattle.sq_graph.specs.Slotted.{slotted}
use Rattle.sq_graph.proofs.Sizes.{same_room}
use Rattle.sq_graph.proofs.Changes.{distinct_slots}
use Rattle.sq_graph.proofs.SlotNames.{terms_known, items_known, words_known, entry_known, slotted_already, slotted_shows}
use Rattle.sq_graph.proofs.Tight.{closed, limited}
use Rattle.sq_graph.proofs.graph.Graph.name_by_slots.Goals as goal

pub is_in_order-requires-clause-distinct : goal.is_in_order-requires-clause-distinct
is_in_order-requires-clause-distinct c =
    let t = closed c.self.view_is c.self.invariant c.close_gaps.ensures.kept c.close_gaps.ensures.gaps c.close_gaps.ensures.order in
    distinct_slots _ t.tight

pub is_in_order-requires-clause-count : goal.is_in_order-requires-clause-count
is_in_order-requires-clause-count c =
    let t = closed c.self.view_is c.self.invariant c.close_gaps.ensures.kept c.close_gaps.ensures.gaps c.close_gaps.ensures.order in
    let h = (limited _ t.tight).blocks in omega (arith, h)

pub invariant_of-self : goal.invariant_of-self
invariant_of-self c =
    let t = closed c.self.view_is c.self.invariant c.close_gaps.ensures.kept c.close_gaps.ensures.gaps c.close_gaps.ensures.order in
    t.tight.sound

pub returns-then-is_in_order-clause-graph : goal.returns-then-is_in_order-clause-graph
returns-then-is_in_order-clause-graph c =
    let t = closed c.self.view_is c.self.invariant c.close_gaps.ensures.kept c.close_gaps.ensures.gaps c.close_gaps.ensures.order in
    sym (slotted_already _ t.tight (c.is_in_order.ensures.0 c.if-is_in_order.true)) ∙ ap (λ v. slotted v.graph) t.view_is

pub returns-then-is_in_order-clause-spare : goal.returns-then-is_in_order-clause-spare
returns-then-is_in_order-clause-spare c =
    let t = closed c.self.view_is c.self.invariant c.close_gaps.ensures.kept c.close_gaps.ensures.gaps c.close_gaps.ensures.order in
    ap (λ v. v.spare) t.view_is

pub invariant_of-self-in_err-slots : goal.invariant_of-self-in_err-slots
invariant_of-self-in_err-slots c =
    let t = closed c.self.view_is c.self.invariant c.close_gaps.ensures.kept c.close_gaps.ensures.gaps c.close_gaps.ensures.order in
    t.tight.sound

pub returns-in_err-slots-clause-spare : goal.returns-in_err-slots-clause-spare
returns-in_err-slots-clause-spare c =
    let t = closed c.self.view_is c.self.invariant c.close_gaps.ensures.kept c.close_gaps.ensures.gaps c.close_gaps.ensures.order in
    ap (λ v. v.spare) t.view_is

pub returns-in_err-slots-clause-err : goal.returns-in_err-slots-clause-err
returns-in_err-slots-clause-err c =
    let t = closed c.self.view_is c.self.invariant c.close_gaps.ensures.kept c.close_gaps.ensures.gaps c.close_gaps.ensures.order in
    let same = t.view_is in
    search rules

pub number-requires-clause-distinct : goal.number-requires-clause-distinct
number-requires-clause-distinct c =
    let t = closed c.self.view_is c.self.invariant c.close_gaps.ensures.kept c.close_gaps.ensures.gaps c.close_gaps.ensures.order in
    distinct_slots _ t.tight

pub number-requires-clause-count : goal.number-requires-clause-count
number-requires-clause-count c =
    let t = closed c.self.view_is c.self.invariant c.close_gaps.ensures.kept c.close_gaps.ensures.gaps c.close_gaps.ensures.order in
    let h = (limited _ t.tight).blocks in omega (arith, h)

pub retarget-requires-clause-distinct : goal.retarget-requires-clause-distinct
retarget-requires-clause-distinct c = rw c.in_ok-slots.ensures.entries (distinct-at_positions 0 (values c.close_gaps.new.slots.entries))

pub retarget-requires-clause-known : goal.retarget-requires-clause-known
retarget-requires-clause-known c =
    let t = closed c.self.view_is c.self.invariant c.close_gaps.ensures.kept c.close_gaps.ensures.gaps c.close_gaps.ensures.order in
    rw c.number.ensures (terms_known _ t.tight c.in_ok-slots.slots.entries c.in_ok-slots.ensures.entries)

pub retarget_items-requires : goal.retarget_items-requires
retarget_items-requires c =
    let t = closed c.self.view_is c.self.invariant c.close_gaps.ensures.kept c.close_gaps.ensures.gaps c.close_gaps.ensures.order in
    rw c.number.ensures (items_known _ t.tight)

pub retarget_words-requires : goal.retarget_words-requires
retarget_words-requires c =
    let t = closed c.self.view_is c.self.invariant c.close_gaps.ensures.kept c.close_gaps.ensures.gaps c.close_gaps.ensures.order in
    rw c.number.ensures (words_known _ t.tight)

pub name-self-inside-requires : goal.name-self-inside-requires
name-self-inside-requires c =
    let t = closed c.self.view_is c.self.invariant c.close_gaps.ensures.kept c.close_gaps.ensures.gaps c.close_gaps.ensures.order in
    rw c.number.ensures (entry_known _ t.tight)

pub invariant_of-self-2 : goal.invariant_of-self-2
invariant_of-self-2 c =
    let now : Inside = record c.self.inside { slots = c.close_gaps.new.slots; items = c.close_gaps.new.items; blocks_end = c.close_gaps.new.blocks_end; gaps = c.close_gaps.new.gaps; loose = c.close_gaps.new.loose } in
    let t = closed c.self.view_is c.self.invariant c.close_gaps.ensures.kept c.close_gaps.ensures.gaps c.close_gaps.ensures.order in
    let new : Inside = record now {
      slots = c.retarget.new.slots;
      items = c.retarget_items.new.items;
      code_words = c.retarget_words.new.words;
      entry = c.name-self-inside.result;
    } in
    (slotted_shows _ t.tight new
    (rw (← c.number.ensures, ← c.in_ok-slots.ensures.entries) c.retarget.ensures.entries)
    (c.retarget.ensures.spare ∙ c.in_ok-slots.ensures.spare)
    (rw (← c.number.ensures) c.retarget_items.ensures.items) c.retarget_items.ensures.capacity
    (rw (← c.number.ensures) c.retarget_words.ensures) (rw (← c.number.ensures) c.name-self-inside.ensures)
    refl refl refl refl refl refl).sound

pub returns-clause-graph : goal.returns-clause-graph
returns-clause-graph c =
    let now : Inside = record c.self.inside { slots = c.close_gaps.new.slots; items = c.close_gaps.new.items; blocks_end = c.close_gaps.new.blocks_end; gaps = c.close_gaps.new.gaps; loose = c.close_gaps.new.loose } in
    let t = closed c.self.view_is c.self.invariant c.close_gaps.ensures.kept c.close_gaps.ensures.gaps c.close_gaps.ensures.order in
    let new : Inside = record now {
      slots = c.retarget.new.slots;
      items = c.retarget_items.new.items;
      code_words = c.retarget_words.new.words;
      entry = c.name-self-inside.result;
    } in
    (slotted_shows _ t.tight new
    (rw (← c.number.ensures, ← c.in_ok-slots.ensures.entries) c.retarget.ensures.entries)
    (c.retarget.ensures.spare ∙ c.in_ok-slots.ensures.spare)
    (rw (← c.number.ensures) c.retarget_items.ensures.items) c.retarget_items.ensures.capacity
    (rw (← c.number.ensures) c.retarget_words.ensures) (rw (← c.number.ensures) c.name-self-inside.ensures)
    refl refl refl refl refl refl).is
    ∙ ap (λ v. slotted v.graph) t.view_is

pub returns-clause-spare : goal.returns-clause-spare
returns-clause-spare c =
    let t = closed c.self.view_is c.self.invariant c.close_gaps.ensures.kept c.close_gaps.ensures.gaps c.close_gaps.ensures.order in
    same_room _ _ (c.retarget.ensures.spare ∙ c.in_ok-slots.ensures.spare)
    (omega (arith, ap (λ xs. length xs) c.retarget_items.ensures.items, length-map c.close_gaps.new.items.items (retargeted_item (start_of c.number.new.slots.entries)))) refl
    ∙ ap (λ v. v.spare) t.view_is
