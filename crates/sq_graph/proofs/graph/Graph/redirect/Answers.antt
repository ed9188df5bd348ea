use Rattle.std.proofs.Common.{refl, ap, ◌∙◌, length, arith}
use Rattle.std.proofs.lemmas.List.{length-map}
use Rattle.sq_graph.specs.declared.graph.Graph.TheInside.{Inside}
use Rattle.sq_graph.specs.Layout.{graph_of}
use Rattle.sq_graph.specs.Operations.{redirected}
use Rattle.sq_graph.specs.Renames.{retargeted_item, retargeted_term, swapped}
use Rattle.sq_graph.proofs.Sizes.{same_room}
use Rattle.sq_graph.proofs.Changes.{distinct_slots}
use Rattle.sq_graph.proofs.MapWrites.{mapped_shows}
use Rattle.sq_graph.proofs.Tight.{closed}
use Rattle.sq_graph.proofs.graph.Graph.redirect.Goals as goal

pub retarget-requires-clause-distinct : goal.retarget-requires-clause-distinct
retarget-requires-clause-distinct c =
    let t = closed c.self.view_is c.self.invariant c.close_gaps.ensures.kept c.close_gaps.ensures.gaps c.close_gaps.ensures.order in
    distinct_slots _ t.tight

pub invariant_of-self : goal.invariant_of-self
invariant_of-self c =
    let now : Inside = record c.self.inside { slots = c.close_gaps.new.slots; items = c.close_gaps.new.items; blocks_end = c.close_gaps.new.blocks_end; gaps = c.close_gaps.new.gaps; loose = c.close_gaps.new.loose } in
    let t = closed c.self.view_is c.self.invariant c.close_gaps.ensures.kept c.close_gaps.ensures.gaps c.close_gaps.ensures.order in
    let new : Inside = record now {
      slots = c.retarget.new.slots;
      items = c.retarget_items.new.items;
      code_words = c.retarget_words.new.words;
      entry = c.name-self-inside.result;
    } in
    let f = swapped c.args.from c.args.to in
    (mapped_shows (retargeted_item (swapped c.args.from c.args.to)) (retargeted_term (swapped c.args.from c.args.to)) _ new (redirected (graph_of now) c.args.from c.args.to) t.tight
    c.retarget.ensures.entries c.retarget.ensures.spare c.retarget_items.ensures.items c.retarget_items.ensures.capacity refl refl refl refl refl refl refl refl
    c.name-self-inside.ensures c.retarget_words.ensures (rw (← t.view_is) at c.requires.rules)).sound

pub returns-clause-graph : goal.returns-clause-graph
returns-clause-graph c =
    let now : Inside = record c.self.inside { slots = c.close_gaps.new.slots; items = c.close_gaps.new.items; blocks_end = c.close_gaps.new.blocks_end; gaps = c.close_gaps.new.gaps; loose = c.close_gaps.new.loose } in
    let t = closed c.self.view_is c.self.invariant c.close_gaps.ensures.kept c.close_gaps.ensures.gaps c.close_gaps.ensures.order in
    let new : Inside = record now {
      slots = c.retarget.new.slots;
      items = c.retarget_items.new.items;
      code_words = c.retarget_words.new.words;
      entry = c.name-self-inside.result;
    } in
    (mapped_shows (retargeted_item (swapped c.args.from c.args.to)) (retargeted_term (swapped c.args.from c.args.to)) _ new (redirected (graph_of now) c.args.from c.args.to) t.tight
    c.retarget.ensures.entries c.retarget.ensures.spare c.retarget_items.ensures.items c.retarget_items.ensures.capacity refl refl refl refl refl refl refl refl
    c.name-self-inside.ensures c.retarget_words.ensures (rw (← t.view_is) at c.requires.rules)).is
    ∙ ap (λ v. redirected v.graph c.args.from c.args.to) t.view_is

pub returns-clause-spare : goal.returns-clause-spare
returns-clause-spare c =
    let t = closed c.self.view_is c.self.invariant c.close_gaps.ensures.kept c.close_gaps.ensures.gaps c.close_gaps.ensures.order in
    same_room _ _ c.retarget.ensures.spare (omega (arith, ap (λ xs. length xs) c.retarget_items.ensures.items, length-map c.close_gaps.new.items.items (retargeted_item (swapped c.args.from c.args.to)))) refl
    ∙ ap (λ v. v.spare) t.view_is
