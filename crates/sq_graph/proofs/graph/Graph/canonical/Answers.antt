use Rattle.std.proofs.Common.{◌≡◌, ◌∷◌, [], length, refl, ap, ◌∙◌, arith}
use Rattle.std.proofs.lemmas.List.{length-map}
use Rattle.sq_arena.specs.Entries.{HasDistinctKeys}
use Rattle.sq_graph.specs.Uses.{code_word_uses, items_uses, uses}
use Rattle.sq_graph.specs.Renames.{retargeted_item}
use Rattle.sq_graph.specs.Canonical.{joined}
use Rattle.sq_graph.specs.Bypasses.{all_bypassed}
use Rattle.sq_graph.specs.Cursor.{slot_uses, length_of_slots}
use Rattle.sq_graph.specs.CanonicalSlots.{aimed, start_of}
use Rattle.sq_graph.specs.Layout.{graph_of}
use Rattle.sq_graph.specs.Words.{words_of}
use Rattle.sq_graph.specs.declared.graph.Graph.TheInside.{Inside}
use Rattle.sq_graph.proofs.Marks.{distinct-marked}
use Rattle.sq_graph.proofs.SlotPasses.{length_of_slots-joined}
use Rattle.sq_graph.proofs.BlockPasses.{marked_blocks}
use Rattle.sq_graph.proofs.CanonicalLaws.{all_bypassed_is_graph, canonical_is_graph, canonical_is_canonical, canonical_keeps_words}
use Rattle.sq_graph.proofs.Changes.{distinct_slots}
use Rattle.sq_graph.proofs.CanonicalShows.{known, distinct_full, entry_is, words_are, items_are, full_are, marks_are, joins_are, distinct_joined, blocks_fit, length_from_first, slots_total, canonical_shows, canonical_spare, canonical_kept}
use Rattle.sq_graph.proofs.Tight.{closed}
use Rattle.sq_graph.proofs.graph.Graph.canonical.Goals as goal

pub bypass_bare-requires-clause-distinct : goal.bypass_bare-requires-clause-distinct
bypass_bare-requires-clause-distinct c =
    let t = closed c.self.view_is c.self.invariant c.close_gaps.ensures.kept c.close_gaps.ensures.gaps c.close_gaps.ensures.order in
    distinct_slots _ t.tight

pub bypass_bare-requires-clause-known : goal.bypass_bare-requires-clause-known
bypass_bare-requires-clause-known c =
    let t = closed c.self.view_is c.self.invariant c.close_gaps.ensures.kept c.close_gaps.ensures.gaps c.close_gaps.ensures.order in
    known _ t.tight

pub mark-requires : goal.mark-requires
mark-requires c =
    let t = closed c.self.view_is c.self.invariant c.close_gaps.ensures.kept c.close_gaps.ensures.gaps c.close_gaps.ensures.order in
    rw c.bypass_bare.ensures.entries (distinct_full _ t.tight)

pub mark_words-requires : goal.mark_words-requires
mark_words-requires c =
    let t = closed c.self.view_is c.self.invariant c.close_gaps.ensures.kept c.close_gaps.ensures.gaps c.close_gaps.ensures.order in
    let full : HasDistinctKeys c.bypass_bare.new.slots.entries = rw c.bypass_bare.ensures.entries (distinct_full _ t.tight) in
    rw c.mark.ensures.entries (distinct-marked (c.bypass_bare.new.entry ∷ []) c.bypass_bare.new.slots.entries full)

pub mark_terms-requires : goal.mark_terms-requires
mark_terms-requires c =
    let t = closed c.self.view_is c.self.invariant c.close_gaps.ensures.kept c.close_gaps.ensures.gaps c.close_gaps.ensures.order in
    let full : HasDistinctKeys c.bypass_bare.new.slots.entries = rw c.bypass_bare.ensures.entries (distinct_full _ t.tight) in
    let one : HasDistinctKeys c.mark.new.slots.entries = rw c.mark.ensures.entries (distinct-marked (c.bypass_bare.new.entry ∷ []) c.bypass_bare.new.slots.entries full) in
    rw c.mark_words.ensures.entries (distinct-marked (code_word_uses c.deref.result.now) c.mark.new.slots.entries one)

pub mark_items-requires : goal.mark_items-requires
mark_items-requires c =
    let t = closed c.self.view_is c.self.invariant c.close_gaps.ensures.kept c.close_gaps.ensures.gaps c.close_gaps.ensures.order in
    let full : HasDistinctKeys c.bypass_bare.new.slots.entries = rw c.bypass_bare.ensures.entries (distinct_full _ t.tight) in
    let one : HasDistinctKeys c.mark.new.slots.entries = rw c.mark.ensures.entries (distinct-marked (c.bypass_bare.new.entry ∷ []) c.bypass_bare.new.slots.entries full) in
    let two : HasDistinctKeys c.mark_words.new.slots.entries = rw c.mark_words.ensures.entries (distinct-marked (code_word_uses c.deref.result.now) c.mark.new.slots.entries one) in
    rw c.mark_terms.ensures.entries (distinct-marked (slot_uses c.mark_words.new.slots.entries) c.mark_words.new.slots.entries two)

pub join-requires-clause-distinct : goal.join-requires-clause-distinct
join-requires-clause-distinct c =
    let t = closed c.self.view_is c.self.invariant c.close_gaps.ensures.kept c.close_gaps.ensures.gaps c.close_gaps.ensures.order in
    let full : HasDistinctKeys c.bypass_bare.new.slots.entries = rw c.bypass_bare.ensures.entries (distinct_full _ t.tight) in
    let one : HasDistinctKeys c.mark.new.slots.entries = rw c.mark.ensures.entries (distinct-marked (c.bypass_bare.new.entry ∷ []) c.bypass_bare.new.slots.entries full) in
    let two : HasDistinctKeys c.mark_words.new.slots.entries = rw c.mark_words.ensures.entries (distinct-marked (code_word_uses c.deref.result.now) c.mark.new.slots.entries one) in
    let three : HasDistinctKeys c.mark_terms.new.slots.entries = rw c.mark_terms.ensures.entries (distinct-marked (slot_uses c.mark_words.new.slots.entries) c.mark_words.new.slots.entries two) in
    rw c.mark_items.ensures.entries (distinct-marked (items_uses c.deref-2.result.now) c.mark_terms.new.slots.entries three)

pub join-requires-clause-fits : goal.join-requires-clause-fits
join-requires-clause-fits c =
    let now : Inside = record c.self.inside { slots = c.close_gaps.new.slots; items = c.close_gaps.new.items; blocks_end = c.close_gaps.new.blocks_end; gaps = c.close_gaps.new.gaps; loose = c.close_gaps.new.loose } in
    let t = closed c.self.view_is c.self.invariant c.close_gaps.ensures.kept c.close_gaps.ensures.gaps c.close_gaps.ensures.order in
    let g = all_bypassed (graph_of now) in
    let full : c.bypass_bare.new.slots.entries ≡ marked_blocks [] g.blocks = c.bypass_bare.ensures.entries ∙ full_are _ t.tight in
    let marks : c.mark_items.new.slots.entries ≡ marked_blocks (uses g) g.blocks =
    marks_are g c.bypass_bare.new.slots.entries c.mark.new.slots.entries c.mark_words.new.slots.entries c.mark_terms.new.slots.entries c.mark_items.new.slots.entries c.bypass_bare.new.entry c.deref.result.now c.deref-2.result.now
    full
    (c.bypass_bare.ensures.entry ∙ entry_is _ t.tight)
    (c.deref.ensures.value ∙ c.bypass_bare.ensures.words ∙ words_are _ t.tight)
    (c.deref-2.ensures.value ∙ c.bypass_bare.ensures.items ∙ items_are _ t.tight)
    c.mark.ensures.entries c.mark_words.ensures.entries c.mark_terms.ensures.entries c.mark_items.ensures.entries in
    omega (arith, blocks_fit _ t.tight (uses g) c.mark_items.new.slots.entries marks)

pub renumber-requires-clause-distinct : goal.renumber-requires-clause-distinct
renumber-requires-clause-distinct c =
    let now : Inside = record c.self.inside { slots = c.close_gaps.new.slots; items = c.close_gaps.new.items; blocks_end = c.close_gaps.new.blocks_end; gaps = c.close_gaps.new.gaps; loose = c.close_gaps.new.loose } in
    let t = closed c.self.view_is c.self.invariant c.close_gaps.ensures.kept c.close_gaps.ensures.gaps c.close_gaps.ensures.order in
    let g = all_bypassed (graph_of now) in
    let full : c.bypass_bare.new.slots.entries ≡ marked_blocks [] g.blocks = c.bypass_bare.ensures.entries ∙ full_are _ t.tight in
    let marks : c.mark_items.new.slots.entries ≡ marked_blocks (uses g) g.blocks =
    marks_are g c.bypass_bare.new.slots.entries c.mark.new.slots.entries c.mark_words.new.slots.entries c.mark_terms.new.slots.entries c.mark_items.new.slots.entries c.bypass_bare.new.entry c.deref.result.now c.deref-2.result.now
    full
    (c.bypass_bare.ensures.entry ∙ entry_is _ t.tight)
    (c.deref.ensures.value ∙ c.bypass_bare.ensures.words ∙ words_are _ t.tight)
    (c.deref-2.ensures.value ∙ c.bypass_bare.ensures.items ∙ items_are _ t.tight)
    c.mark.ensures.entries c.mark_words.ensures.entries c.mark_terms.ensures.entries c.mark_items.ensures.entries in
    let joins : c.join.new.slots.entries ≡ marked_blocks (uses g) (joined g).blocks =
    joins_are g c.mark_items.new.slots.entries c.join.new.slots.entries (all_bypassed_is_graph (graph_of now) t.tight.rules) marks c.join.ensures.entries in
    distinct_joined g c.join.new.slots.entries (all_bypassed_is_graph (graph_of now) t.tight.rules) joins

pub renumber-requires-clause-fits : goal.renumber-requires-clause-fits
renumber-requires-clause-fits c =
    let now : Inside = record c.self.inside { slots = c.close_gaps.new.slots; items = c.close_gaps.new.items; blocks_end = c.close_gaps.new.blocks_end; gaps = c.close_gaps.new.gaps; loose = c.close_gaps.new.loose } in
    let t = closed c.self.view_is c.self.invariant c.close_gaps.ensures.kept c.close_gaps.ensures.gaps c.close_gaps.ensures.order in
    let g = all_bypassed (graph_of now) in
    let full : c.bypass_bare.new.slots.entries ≡ marked_blocks [] g.blocks = c.bypass_bare.ensures.entries ∙ full_are _ t.tight in
    let marks : c.mark_items.new.slots.entries ≡ marked_blocks (uses g) g.blocks =
    marks_are g c.bypass_bare.new.slots.entries c.mark.new.slots.entries c.mark_words.new.slots.entries c.mark_terms.new.slots.entries c.mark_items.new.slots.entries c.bypass_bare.new.entry c.deref.result.now c.deref-2.result.now
    full
    (c.bypass_bare.ensures.entry ∙ entry_is _ t.tight)
    (c.deref.ensures.value ∙ c.bypass_bare.ensures.words ∙ words_are _ t.tight)
    (c.deref-2.ensures.value ∙ c.bypass_bare.ensures.items ∙ items_are _ t.tight)
    c.mark.ensures.entries c.mark_words.ensures.entries c.mark_terms.ensures.entries c.mark_items.ensures.entries in
    omega (arith, blocks_fit _ t.tight (uses g) c.mark_items.new.slots.entries marks, length_from_first c.join.new.slots.entries c.first-head.result c.first-head.ensures, ap length_of_slots c.join.ensures.entries, length_of_slots-joined c.mark_items.new.slots.entries)

pub invariant_of-self : goal.invariant_of-self
invariant_of-self c =
    let now : Inside = record c.self.inside { slots = c.close_gaps.new.slots; items = c.close_gaps.new.items; blocks_end = c.close_gaps.new.blocks_end; gaps = c.close_gaps.new.gaps; loose = c.close_gaps.new.loose } in
    let t = closed c.self.view_is c.self.invariant c.close_gaps.ensures.kept c.close_gaps.ensures.gaps c.close_gaps.ensures.order in
    let g = all_bypassed (graph_of now) in
    let full : c.bypass_bare.new.slots.entries ≡ marked_blocks [] g.blocks = c.bypass_bare.ensures.entries ∙ full_are _ t.tight in
    let marks : c.mark_items.new.slots.entries ≡ marked_blocks (uses g) g.blocks =
    marks_are g c.bypass_bare.new.slots.entries c.mark.new.slots.entries c.mark_words.new.slots.entries c.mark_terms.new.slots.entries c.mark_items.new.slots.entries c.bypass_bare.new.entry c.deref.result.now c.deref-2.result.now
    full
    (c.bypass_bare.ensures.entry ∙ entry_is _ t.tight)
    (c.deref.ensures.value ∙ c.bypass_bare.ensures.words ∙ words_are _ t.tight)
    (c.deref-2.ensures.value ∙ c.bypass_bare.ensures.items ∙ items_are _ t.tight)
    c.mark.ensures.entries c.mark_words.ensures.entries c.mark_terms.ensures.entries c.mark_items.ensures.entries in
    let joins : c.join.new.slots.entries ≡ marked_blocks (uses g) (joined g).blocks =
    joins_are g c.mark_items.new.slots.entries c.join.new.slots.entries (all_bypassed_is_graph (graph_of now) t.tight.rules) marks c.join.ensures.entries in
    let total = slots_total _ t.tight c.bypass_bare.new.slots c.mark_items.new.slots c.join.new.slots c.renumber.new.slots c.first-head.result (uses g) full marks
    c.bypass_bare.ensures.total (c.mark_items.ensures.spare ∙ c.mark_terms.ensures.spare ∙ c.mark_words.ensures.spare ∙ c.mark.ensures.spare) c.join.ensures.total c.first-head.ensures c.renumber.ensures.entries c.renumber.ensures.spare in
    let shows =
    canonical_shows _ t.tight c.bypass_bare.new.entry c.bypass_bare.new.items c.bypass_bare.new.words c.renumber.new.slots (uses g) c.join.new.slots.entries c.first-head.result
    c.bypass_bare.ensures.entry c.bypass_bare.ensures.items c.bypass_bare.ensures.capacity c.bypass_bare.ensures.words joins c.first-head.ensures c.renumber.ensures.entries total in
    shows.sound

pub returns : goal.returns
returns c =
    let now : Inside = record c.self.inside { slots = c.close_gaps.new.slots; items = c.close_gaps.new.items; blocks_end = c.close_gaps.new.blocks_end; gaps = c.close_gaps.new.gaps; loose = c.close_gaps.new.loose } in
    let t = closed c.self.view_is c.self.invariant c.close_gaps.ensures.kept c.close_gaps.ensures.gaps c.close_gaps.ensures.order in
    let g = all_bypassed (graph_of now) in
    let full : c.bypass_bare.new.slots.entries ≡ marked_blocks [] g.blocks = c.bypass_bare.ensures.entries ∙ full_are _ t.tight in
    let marks : c.mark_items.new.slots.entries ≡ marked_blocks (uses g) g.blocks =
    marks_are g c.bypass_bare.new.slots.entries c.mark.new.slots.entries c.mark_words.new.slots.entries c.mark_terms.new.slots.entries c.mark_items.new.slots.entries c.bypass_bare.new.entry c.deref.result.now c.deref-2.result.now
    full
    (c.bypass_bare.ensures.entry ∙ entry_is _ t.tight)
    (c.deref.ensures.value ∙ c.bypass_bare.ensures.words ∙ words_are _ t.tight)
    (c.deref-2.ensures.value ∙ c.bypass_bare.ensures.items ∙ items_are _ t.tight)
    c.mark.ensures.entries c.mark_words.ensures.entries c.mark_terms.ensures.entries c.mark_items.ensures.entries in
    let joins : c.join.new.slots.entries ≡ marked_blocks (uses g) (joined g).blocks =
    joins_are g c.mark_items.new.slots.entries c.join.new.slots.entries (all_bypassed_is_graph (graph_of now) t.tight.rules) marks c.join.ensures.entries in
    let total = slots_total _ t.tight c.bypass_bare.new.slots c.mark_items.new.slots c.join.new.slots c.renumber.new.slots c.first-head.result (uses g) full marks
    c.bypass_bare.ensures.total (c.mark_items.ensures.spare ∙ c.mark_terms.ensures.spare ∙ c.mark_words.ensures.spare ∙ c.mark.ensures.spare) c.join.ensures.total c.first-head.ensures c.renumber.ensures.entries c.renumber.ensures.spare in
    let shows =
    canonical_shows _ t.tight c.bypass_bare.new.entry c.bypass_bare.new.items c.bypass_bare.new.words c.renumber.new.slots (uses g) c.join.new.slots.entries c.first-head.result
    c.bypass_bare.ensures.entry c.bypass_bare.ensures.items c.bypass_bare.ensures.capacity c.bypass_bare.ensures.words joins c.first-head.ensures c.renumber.ensures.entries total in
    let new : Inside = record now {
      slots = c.renumber.new.slots;
      items = c.bypass_bare.new.items;
      entry = c.bypass_bare.new.entry;
      code_words = c.bypass_bare.new.words;
    } in
    let counted : length c.bypass_bare.new.items.items ≡ length c.close_gaps.new.items.items =
    ap (λ is. length is) c.bypass_bare.ensures.items ∙ length-map c.close_gaps.new.items.items (retargeted_item (start_of (aimed c.close_gaps.new.slots.entries))) in
    rw (← t.view_is)
    (record {
      graph = shows.is;
      spare = canonical_spare _ t.tight new shows total counted refl refl;
      kept = canonical_kept _ t.tight new shows total counted refl refl refl;
      rules = rw shows.is (canonical_is_graph (graph_of now) t.tight.rules);
      canonical = rw shows.is (canonical_is_canonical (graph_of now) t.tight.rules);
      words = ap words_of shows.is ∙ canonical_keeps_words (graph_of now) t.tight.rules;
    })
