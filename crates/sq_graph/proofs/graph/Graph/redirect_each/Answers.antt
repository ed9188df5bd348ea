use Rattle.std.proofs.Common.{length, refl, ap, ◌∙◌, arith}
use Rattle.std.proofs.lemmas.List.{length-map}
use Rattle.sq_graph.specs.Renames.{retargeted_item}
use Rattle.sq_graph.specs.CanonicalSlots.{start_of}
use Rattle.sq_graph.specs.declared.graph.Graph.TheInside.{Inside}
use Rattle.sq_graph.specs.Rules.{IsGraph}
use Rattle.sq_graph.specs.Layout.{graph_of}
use Rattle.sq_graph.specs.Redirected.{redirected_each}
use Rattle.sq_graph.proofs.Sizes.{same_room}
use Rattle.sq_graph.proofs.Changes.{distinct_slots}
use Rattle.sq_graph.proofs.RedirectShows.{distinct_homed, distinct_aims, distinct_went, terms_known, items_known, words_known, entry_known, went_is, went_fit, redirect_shows}
use Rattle.sq_graph.proofs.Tight.{closed}
use Rattle.sq_graph.proofs.graph.Graph.redirect_each.Goals as goal

pub aim_home-requires : goal.aim_home-requires
aim_home-requires c =
    let t = closed c.self.view_is c.self.invariant c.close_gaps.ensures.kept c.close_gaps.ensures.gaps c.close_gaps.ensures.order in
    distinct_slots _ t.tight

pub aim_each-requires : goal.aim_each-requires
aim_each-requires c =
    let t = closed c.self.view_is c.self.invariant c.close_gaps.ensures.kept c.close_gaps.ensures.gaps c.close_gaps.ensures.order in
    rw c.aim_home.ensures.entries (distinct_homed _ c.args.blocks.now t.tight)

pub retarget_terms-requires-clause-distinct : goal.retarget_terms-requires-clause-distinct
retarget_terms-requires-clause-distinct c =
    let t = closed c.self.view_is c.self.invariant c.close_gaps.ensures.kept c.close_gaps.ensures.gaps c.close_gaps.ensures.order in
    rw (c.aim_each.ensures.entries, c.aim_home.ensures.entries) (distinct_aims _ c.args.blocks.now t.tight)

pub retarget_terms-requires-clause-known : goal.retarget_terms-requires-clause-known
retarget_terms-requires-clause-known c =
    let t = closed c.self.view_is c.self.invariant c.close_gaps.ensures.kept c.close_gaps.ensures.gaps c.close_gaps.ensures.order in
    rw (c.aim_each.ensures.entries, c.aim_home.ensures.entries) (terms_known _ c.args.blocks.now t.tight)

pub retarget_items-requires : goal.retarget_items-requires
retarget_items-requires c =
    let t = closed c.self.view_is c.self.invariant c.close_gaps.ensures.kept c.close_gaps.ensures.gaps c.close_gaps.ensures.order in
    rw (c.retarget_terms.ensures.entries, c.aim_each.ensures.entries, c.aim_home.ensures.entries) (items_known _ c.args.blocks.now t.tight)

pub retarget_words-requires : goal.retarget_words-requires
retarget_words-requires c =
    let t = closed c.self.view_is c.self.invariant c.close_gaps.ensures.kept c.close_gaps.ensures.gaps c.close_gaps.ensures.order in
    rw (c.retarget_terms.ensures.entries, c.aim_each.ensures.entries, c.aim_home.ensures.entries) (words_known _ c.args.blocks.now t.tight)

pub name-self-inside-requires : goal.name-self-inside-requires
name-self-inside-requires c =
    let t = closed c.self.view_is c.self.invariant c.close_gaps.ensures.kept c.close_gaps.ensures.gaps c.close_gaps.ensures.order in
    rw (c.retarget_terms.ensures.entries, c.aim_each.ensures.entries, c.aim_home.ensures.entries) (entry_known _ c.args.blocks.now t.tight)

pub renumber-requires-clause-distinct : goal.renumber-requires-clause-distinct
renumber-requires-clause-distinct c =
    let t = closed c.self.view_is c.self.invariant c.close_gaps.ensures.kept c.close_gaps.ensures.gaps c.close_gaps.ensures.order in
    rw (c.retarget_terms.ensures.entries, c.aim_each.ensures.entries, c.aim_home.ensures.entries) (distinct_went _ c.args.blocks.now t.tight)

pub renumber-requires-clause-fits : goal.renumber-requires-clause-fits
renumber-requires-clause-fits c =
    let t = closed c.self.view_is c.self.invariant c.close_gaps.ensures.kept c.close_gaps.ensures.gaps c.close_gaps.ensures.order in
    went_fit _ c.args.blocks.now t.tight c.retarget_terms.new.slots.entries c.first-head.result (went_is _ c.args.blocks.now t.tight c.aim_home.new.slots.entries c.aim_each.new.slots.entries c.retarget_terms.new.slots.entries c.aim_home.ensures.entries c.aim_each.ensures.entries c.retarget_terms.ensures.entries) c.first-head.ensures

pub invariant_of-self : goal.invariant_of-self
invariant_of-self c =
    let now : Inside = record c.self.inside { slots = c.close_gaps.new.slots; items = c.close_gaps.new.items; blocks_end = c.close_gaps.new.blocks_end; gaps = c.close_gaps.new.gaps; loose = c.close_gaps.new.loose } in
    let t = closed c.self.view_is c.self.invariant c.close_gaps.ensures.kept c.close_gaps.ensures.gaps c.close_gaps.ensures.order in
    let rules : IsGraph (redirected_each c.args.blocks.now (graph_of now)) = rw (← t.view_is) at c.requires.rules in
    let all = went_is _ c.args.blocks.now t.tight c.aim_home.new.slots.entries c.aim_each.new.slots.entries c.retarget_terms.new.slots.entries c.aim_home.ensures.entries c.aim_each.ensures.entries c.retarget_terms.ensures.entries in
    (redirect_shows _ c.args.blocks.now t.tight c.name-self-inside.result c.retarget_items.new.items c.retarget_words.new.words c.renumber.new.slots c.retarget_terms.new.slots.entries c.first-head.result
    all c.first-head.ensures c.renumber.ensures.entries (c.renumber.ensures.spare ∙ c.retarget_terms.ensures.spare ∙ c.aim_each.ensures.spare ∙ c.aim_home.ensures.spare)
    c.retarget_items.ensures.items c.retarget_items.ensures.capacity c.retarget_words.ensures c.name-self-inside.ensures rules).sound

pub returns-clause-graph : goal.returns-clause-graph
returns-clause-graph c =
    let now : Inside = record c.self.inside { slots = c.close_gaps.new.slots; items = c.close_gaps.new.items; blocks_end = c.close_gaps.new.blocks_end; gaps = c.close_gaps.new.gaps; loose = c.close_gaps.new.loose } in
    let t = closed c.self.view_is c.self.invariant c.close_gaps.ensures.kept c.close_gaps.ensures.gaps c.close_gaps.ensures.order in
    let rules : IsGraph (redirected_each c.args.blocks.now (graph_of now)) = rw (← t.view_is) at c.requires.rules in
    let all = went_is _ c.args.blocks.now t.tight c.aim_home.new.slots.entries c.aim_each.new.slots.entries c.retarget_terms.new.slots.entries c.aim_home.ensures.entries c.aim_each.ensures.entries c.retarget_terms.ensures.entries in
    (redirect_shows _ c.args.blocks.now t.tight c.name-self-inside.result c.retarget_items.new.items c.retarget_words.new.words c.renumber.new.slots c.retarget_terms.new.slots.entries c.first-head.result
    all c.first-head.ensures c.renumber.ensures.entries (c.renumber.ensures.spare ∙ c.retarget_terms.ensures.spare ∙ c.aim_each.ensures.spare ∙ c.aim_home.ensures.spare)
    c.retarget_items.ensures.items c.retarget_items.ensures.capacity c.retarget_words.ensures c.name-self-inside.ensures rules).is
    ∙ ap (λ v. redirected_each c.args.blocks.now v.graph) t.view_is

pub returns-clause-spare : goal.returns-clause-spare
returns-clause-spare c =
    let t = closed c.self.view_is c.self.invariant c.close_gaps.ensures.kept c.close_gaps.ensures.gaps c.close_gaps.ensures.order in
    same_room _ _ (c.renumber.ensures.spare ∙ c.retarget_terms.ensures.spare ∙ c.aim_each.ensures.spare ∙ c.aim_home.ensures.spare)
    (omega (arith, ap (λ xs. length xs) c.retarget_items.ensures.items, length-map c.close_gaps.new.items.items (retargeted_item (start_of c.retarget_terms.new.slots.entries)))) refl
    ∙ ap (λ v. v.spare) t.view_is
