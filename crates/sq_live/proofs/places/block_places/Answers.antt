use Rattle.std.proofs.Common.{◌≡◌, ◌∙◌, ℕ, ◌+◌, ◌-◌, ◌^◌, ◌<◌, ap, sym, subst, Some, is_some, length, get_or, arith}
use Rattle.std.proofs.Math.ListN.{set}
use Rattle.std.specs.List.{Contains}
use Rattle.std.proofs.lemmas.List.{length-set}
use Rattle.std.proofs.lemmas.Option.{slice_get_within}
use Rattle.sq_isa.specs.Registers.{is_member}
use Rattle.sq_graph.specs.Blocks.{block_items, block_term, all_items}
use Rattle.sq_live.specs.Exits.{listed, position_at, exits_of}
use Rattle.sq_live.specs.Search.{list_at}
use Rattle.sq_live.specs.declared.places.Span.{Span}
use Rattle.sq_live.specs.Places.{before_term}
use Rattle.sq_live.proofs.Layouts.{block_at, length-names}
use Rattle.sq_live.proofs.PlaceSets.{in_block, term_before, placed_more, ArePlacedBefore, has_room, few_sets, more_sets, more_items}
use Rattle.sq_live.proofs.places.block_places.Goals as goal

pub live_behind-behind-requires : goal.live_behind-behind-requires
live_behind-behind-requires c = λ to h. c.requires.there c.loop-k.k to (subst (λ xs. Contains xs to) c.block_exits.ensures h)

pub term-requires : goal.term-requires
term-requires c =
    let g = c.args.g.now.graph in
    let k = c.loop-k.k in
    let b = block_at g c.args.names.now k c.requires.rules c.requires.names c.loop-k-test.true in
    ap is_some b.found

pub overflow_cast-start : goal.overflow_cast-start
overflow_cast-start c =
    let g = c.args.g.now.graph in
    let k = c.loop-k.k in
    let b = block_at g c.args.names.now k c.requires.rules c.requires.names c.loop-k-test.true in
    let items : length (all_items g) + c.args.g.now.spare.items < 2 ^ 29 = c.learn.ensures.small.items in
    let blocks : length g.blocks + c.args.g.now.spare.blocks < 2 ^ 29 = c.learn.ensures.small.blocks in
    omega (arith, c.len-start.ensures, c.loop-k.sets.ok.0, c.loop-k.invariant.size, few_sets g k, items, blocks, b.within)

pub overflow_cast-count : goal.overflow_cast-count
overflow_cast-count c =
    let g = c.args.g.now.graph in
    let k = c.loop-k.k in
    let b = block_at g c.args.names.now k c.requires.rules c.requires.names c.loop-k-test.true in
    let items : length (all_items g) + c.args.g.now.spare.items < 2 ^ 29 = c.learn.ensures.small.items in
    let blocks : length g.blocks + c.args.g.now.spare.blocks < 2 ^ 29 = c.learn.ensures.small.blocks in
    let old = c.loop-k.sets.items in
    let new = c.push_places.new.sets.items in
    let has : c.items.result.now ≡ b.block.items = c.items.ensures ∙ ap block_items b.found in
    let grows : length new ≡ length old + (length b.block.items + 1) = more_sets old new (length b.block.items) c.in_ok-push_places.ensures.old (c.in_ok-push_places.ensures.places.count ∙ ap (λ xs. length xs + 1) has) in
    let more = more_items g.blocks k b.block b.more in
    omega (arith, c.len.ensures, c.push_places.new.sets.ok.0, grows, more, c.loop-k.invariant.size, few_sets g (k + 1), items, blocks, b.within)

pub index_mut-requires : goal.index_mut-requires
index_mut-requires c =
    let room = has_room c.args.positions.now c.args.names.now c.loop-k.k c.requires.positions c.loop-k-test.true in
    omega (arith, room, c.loop-k.invariant.room, c.loop-k.spans.ok.0)

pub loop-k-preserved : goal.loop-k-preserved
loop-k-preserved c =
    let g = c.args.g.now.graph in
    let k = c.loop-k.k in
    let b = block_at g c.args.names.now k c.requires.rules c.requires.names c.loop-k-test.true in
    let old = c.loop-k.sets.items in
    let new = c.push_places.new.sets.items in
    let has : c.items.result.now ≡ b.block.items = c.items.ensures ∙ ap block_items b.found in
    let grows : length new ≡ length old + (length b.block.items + 1) = more_sets old new (length b.block.items) c.in_ok-push_places.ensures.old (c.in_ok-push_places.ensures.places.count ∙ ap (λ xs. length xs + 1) has) in
    let more = more_items g.blocks k b.block b.more in
    let nodes = c.args.nodes.now in
    let calls = c.args.calls.now in
    let spans = c.loop-k.spans.items in
    let exits = exits_of (position_at c.args.positions.now) (length c.args.names.now) g in
    let term : c.term.result ≡ b.block.term = let e : Some b.block.term ≡ Some c.term.result = sym (ap block_term b.found) ∙ c.term.ensures in cc in
    let behind : (r : ℕ) → r < 32 → is_member c.before-before_term.result r ≡ before_term b.block nodes (list_at exits k) r =
    λ r h. term_before b.block c.term.result nodes (listed c.block_exits.result.first c.block_exits.result.second) (list_at exits k) c.term_effect.result.reads c.term_effect.result.writes c.live_behind-behind.result c.before-before_term.result r term c.block_exits.ensures (c.term_effect.ensures.reads r) (c.term_effect.ensures.writes r) (c.live_behind-behind.ensures r) (c.before-before_term.ensures r h) in
    let room = has_room c.args.positions.now c.args.names.now k c.requires.positions c.loop-k-test.true in
    let named : b.block.name < length spans = omega (arith, room, c.loop-k.invariant.room, b.has_name) in
    let span : Span = record { start = c.len-start.result; count = c.len.result - c.len-start.result } in
    let start : c.len-start.result ≡ length old = c.len-start.ensures ∙ c.loop-k.sets.ok.0 in
    let end : c.len.result ≡ length new = c.len.ensures ∙ c.push_places.new.sets.ok.0 in
    record {
      size = omega (arith, grows, more, c.loop-k.invariant.size);
      room = length-set spans (get_or c.args.names.now k 0) span ∙ c.loop-k.invariant.room;
      places =
          subst (λ name. ArePlacedBefore calls exits nodes g.blocks new (set spans name span) (k + 1)) b.has_name
          (placed_more g c.args.names.now c.requires.rules c.requires.names calls exits nodes old new spans k b.block b.at c.in_ok-push_places.ensures.old (omega (arith, grows)) named
          (in_block calls nodes (list_at exits k) b.block c.items.result.now c.before-before_term.result _ has behind c.in_ok-push_places.ensures.places)
          span start (omega (arith, start, end)) c.loop-k.invariant.places);
    }

pub returns : goal.returns
returns c = λ k block at.
    let within = slice_get_within c.args.g.now.graph.blocks k block at in
    (c.loop-k.invariant.places k block (omega (arith, length-names c.args.g.now.graph c.args.names.now c.requires.names)) at).places
