use Rattle.std.proofs.Common.{◌≡◌, ◌≢◌, ℕ, ◌∙◌, ◌+◌, Some, is_some, ap, sym, subst, refl, arith}
use Rattle.std.specs.List.{All}
use Rattle.sq_graph.specs.declared.graph.Graph.TheInside.{Inside}
use Rattle.sq_graph.specs.Graph.{Graph}
use Rattle.sq_graph.specs.Blocks.{next_of}
use Rattle.sq_graph.specs.Uses.{uses}
use Rattle.sq_graph.specs.Operations.{joined_with_next}
use Rattle.sq_graph.specs.Layout.{graph_of}
use Rattle.sq_graph.specs.Words.{words_of}
use Rattle.sq_graph.proofs.Sizes.{sizes, same_room}
use Rattle.sq_graph.proofs.SlotReads.{has_slot, next_shows}
use Rattle.sq_graph.proofs.SlotPasses.{pair_of}
use Rattle.sq_graph.proofs.JoinedAt.{falls_to_next, pair_there, joined_rules, joined_words}
use Rattle.sq_graph.proofs.JoinShows.{comes_down, still_next, are_next, join_shows}
use Rattle.sq_graph.proofs.Tight.{still}
use Rattle.sq_graph.proofs.graph.Graph.join.Goals as goal

still_unused : (g h : Graph) (name : ℕ) → h ≡ g → All (λ n. next_of g name ≢ Some n) (uses g) → All (λ n. next_of h name ≢ Some n) (uses h)
still_unused g h name same unused = subst (λ (k : Graph). All (λ n. next_of k name ≢ Some n) (uses k)) (sym same) unused

pub next-requires : goal.next-requires
next-requires c =
    let pair = falls_to_next (graph_of c.self.inside) c.args.block c.self.invariant.rules (rw (← c.self.view_is) at c.requires.falls) in
    has_slot c.self.inside c.args.block c.self.invariant (pair_there (graph_of c.self.inside) c.args.block c.self.invariant.rules pair)

pub unwrap-next-requires : goal.unwrap-next-requires
unwrap-next-requires c =
    let pair = falls_to_next (graph_of c.self.inside) c.args.block c.self.invariant.rules (rw (← c.self.view_is) at c.requires.falls) in
    ap is_some (c.next.ensures ∙ next_shows c.self.inside c.args.block ∙ pair.slot)

pub approach-requires-clause-block : goal.approach-requires-clause-block
approach-requires-clause-block c =
    let pair = falls_to_next (graph_of c.self.inside) c.args.block c.self.invariant.rules (rw (← c.self.view_is) at c.requires.falls) in
    has_slot c.self.inside c.args.block c.self.invariant (pair_there (graph_of c.self.inside) c.args.block c.self.invariant.rules pair)

pub approach-requires-clause-small : goal.approach-requires-clause-small
approach-requires-clause-small c =
    let size = sizes c.self.inside c.self.invariant in
    omega (arith, size.blocks_end, size.items, size.item_room)

pub slot-first-requires : goal.slot-first-requires
slot-first-requires c =
    let now : Inside = record c.self.inside { slots = c.approach.new.slots; items = c.approach.new.items; blocks_end = c.approach.new.blocks_end; gaps = c.approach.new.gaps; loose = c.approach.new.loose } in
    let s = still c.self.view_is c.self.invariant c.approach.ensures.kept in
    let pair = falls_to_next (graph_of now) c.args.block s.sound.rules (rw (← s.view_is) at c.requires.falls) in
    has_slot now c.args.block s.sound (pair_there (graph_of now) c.args.block s.sound.rules pair)

pub slot-second-requires : goal.slot-second-requires
slot-second-requires c =
    let now : Inside = record c.self.inside { slots = c.approach.new.slots; items = c.approach.new.items; blocks_end = c.approach.new.blocks_end; gaps = c.approach.new.gaps; loose = c.approach.new.loose } in
    let s = still c.self.view_is c.self.invariant c.approach.ensures.kept in
    let next_is = still_next c.self.inside now c.args.self.now c.args.block c.unwrap-next.result c.self.view_is s.view_is (sym c.next.ensures ∙ c.unwrap-next.ensures) in
    ap is_some (pair_of now.slots.entries c.args.block c.slot-first.result c.unwrap-next.result s.sound.gaps.distinct c.slot-first.ensures next_is).at.found

pub overflow_add-end : goal.overflow_add-end
overflow_add-end c =
    let now : Inside = record c.self.inside { slots = c.approach.new.slots; items = c.approach.new.items; blocks_end = c.approach.new.blocks_end; gaps = c.approach.new.gaps; loose = c.approach.new.loose } in
    let s = still c.self.view_is c.self.invariant c.approach.ensures.kept in
    let next_is = still_next c.self.inside now c.args.self.now c.args.block c.unwrap-next.result c.self.view_is s.view_is (sym c.next.ensures ∙ c.unwrap-next.ensures) in
    let two = are_next now c.args.block c.slot-first.result c.unwrap-next.result c.slot-second.result s.sound c.slot-first.ensures next_is c.slot-second.ensures c.approach.ensures.follows in
    let size = sizes now s.sound in
    omega (arith, two.down, two.within, size.items, size.item_room)

pub copy_down-requires-clause-down : goal.copy_down-requires-clause-down
copy_down-requires-clause-down c =
    let now : Inside = record c.self.inside { slots = c.approach.new.slots; items = c.approach.new.items; blocks_end = c.approach.new.blocks_end; gaps = c.approach.new.gaps; loose = c.approach.new.loose } in
    let s = still c.self.view_is c.self.invariant c.approach.ensures.kept in
    let next_is = still_next c.self.inside now c.args.self.now c.args.block c.unwrap-next.result c.self.view_is s.view_is (sym c.next.ensures ∙ c.unwrap-next.ensures) in
    let two = are_next now c.args.block c.slot-first.result c.unwrap-next.result c.slot-second.result s.sound c.slot-first.ensures next_is c.slot-second.ensures c.approach.ensures.follows in
    two.down

pub copy_down-requires-clause-there : goal.copy_down-requires-clause-there
copy_down-requires-clause-there c =
    let now : Inside = record c.self.inside { slots = c.approach.new.slots; items = c.approach.new.items; blocks_end = c.approach.new.blocks_end; gaps = c.approach.new.gaps; loose = c.approach.new.loose } in
    let s = still c.self.view_is c.self.invariant c.approach.ensures.kept in
    let next_is = still_next c.self.inside now c.args.self.now c.args.block c.unwrap-next.result c.self.view_is s.view_is (sym c.next.ensures ∙ c.unwrap-next.ensures) in
    let two = are_next now c.args.block c.slot-first.result c.unwrap-next.result c.slot-second.result s.sound c.slot-first.ensures next_is c.slot-second.ensures c.approach.ensures.follows in
    omega (arith, two.within, c.approach.new.items.ok.0)

pub take_next-requires-clause-next : goal.take_next-requires-clause-next
take_next-requires-clause-next c =
    let now : Inside = record c.self.inside { slots = c.approach.new.slots; items = c.approach.new.items; blocks_end = c.approach.new.blocks_end; gaps = c.approach.new.gaps; loose = c.approach.new.loose } in
    let s = still c.self.view_is c.self.invariant c.approach.ensures.kept in
    let next_is = still_next c.self.inside now c.args.self.now c.args.block c.unwrap-next.result c.self.view_is s.view_is (sym c.next.ensures ∙ c.unwrap-next.ensures) in
    next_is

pub take_next-requires-clause-fits : goal.take_next-requires-clause-fits
take_next-requires-clause-fits c =
    let now : Inside = record c.self.inside { slots = c.approach.new.slots; items = c.approach.new.items; blocks_end = c.approach.new.blocks_end; gaps = c.approach.new.gaps; loose = c.approach.new.loose } in
    let s = still c.self.view_is c.self.invariant c.approach.ensures.kept in
    let size = sizes now s.sound in
    omega (arith, s.sound.gaps.counted, size.blocks_end, size.items, size.item_room)

pub invariant_of-self : goal.invariant_of-self
invariant_of-self c =
    let now : Inside = record c.self.inside { slots = c.approach.new.slots; items = c.approach.new.items; blocks_end = c.approach.new.blocks_end; gaps = c.approach.new.gaps; loose = c.approach.new.loose } in
    let s = still c.self.view_is c.self.invariant c.approach.ensures.kept in
    let next_is = still_next c.self.inside now c.args.self.now c.args.block c.unwrap-next.result c.self.view_is s.view_is (sym c.next.ensures ∙ c.unwrap-next.ensures) in
    let pair = falls_to_next (graph_of now) c.args.block s.sound.rules (rw (← s.view_is) at c.requires.falls) in
    let two = are_next now c.args.block c.slot-first.result c.unwrap-next.result c.slot-second.result s.sound c.slot-first.ensures next_is c.slot-second.ensures c.approach.ensures.follows in
    let rules = joined_rules (graph_of now) c.args.block s.sound.rules pair (still_unused c.args.self.now.graph (graph_of now) c.args.block (ap (λ v. v.graph) s.view_is) c.requires.unused) in
    let comes = comes_down c.approach.new.items.items c.copy_down.new.items.items c.slot-first.result c.slot-second.result two.down two.within c.copy_down.ensures.items in
    let shows = join_shows now c.args.block c.slot-first.result c.unwrap-next.result c.slot-second.result c.take_next.new.slots c.copy_down.new.items s.sound two (c.take_next.ensures.entries c.slot-first.result c.slot-second.result c.slot-first.ensures c.slot-second.ensures) c.take_next.ensures.spare comes c.copy_down.ensures.capacity rules in
    shows.sound

pub returns-clause-graph : goal.returns-clause-graph
returns-clause-graph c =
    let now : Inside = record c.self.inside { slots = c.approach.new.slots; items = c.approach.new.items; blocks_end = c.approach.new.blocks_end; gaps = c.approach.new.gaps; loose = c.approach.new.loose } in
    let s = still c.self.view_is c.self.invariant c.approach.ensures.kept in
    let next_is = still_next c.self.inside now c.args.self.now c.args.block c.unwrap-next.result c.self.view_is s.view_is (sym c.next.ensures ∙ c.unwrap-next.ensures) in
    let pair = falls_to_next (graph_of now) c.args.block s.sound.rules (rw (← s.view_is) at c.requires.falls) in
    let two = are_next now c.args.block c.slot-first.result c.unwrap-next.result c.slot-second.result s.sound c.slot-first.ensures next_is c.slot-second.ensures c.approach.ensures.follows in
    let rules = joined_rules (graph_of now) c.args.block s.sound.rules pair (still_unused c.args.self.now.graph (graph_of now) c.args.block (ap (λ v. v.graph) s.view_is) c.requires.unused) in
    let comes = comes_down c.approach.new.items.items c.copy_down.new.items.items c.slot-first.result c.slot-second.result two.down two.within c.copy_down.ensures.items in
    let shows = join_shows now c.args.block c.slot-first.result c.unwrap-next.result c.slot-second.result c.take_next.new.slots c.copy_down.new.items s.sound two (c.take_next.ensures.entries c.slot-first.result c.slot-second.result c.slot-first.ensures c.slot-second.ensures) c.take_next.ensures.spare comes c.copy_down.ensures.capacity rules in
    shows.is ∙ ap (λ v. joined_with_next v.graph c.args.block) s.view_is

pub returns-clause-spare : goal.returns-clause-spare
returns-clause-spare c =
    let now : Inside = record c.self.inside { slots = c.approach.new.slots; items = c.approach.new.items; blocks_end = c.approach.new.blocks_end; gaps = c.approach.new.gaps; loose = c.approach.new.loose } in
    let s = still c.self.view_is c.self.invariant c.approach.ensures.kept in
    let next_is = still_next c.self.inside now c.args.self.now c.args.block c.unwrap-next.result c.self.view_is s.view_is (sym c.next.ensures ∙ c.unwrap-next.ensures) in
    let two = are_next now c.args.block c.slot-first.result c.unwrap-next.result c.slot-second.result s.sound c.slot-first.ensures next_is c.slot-second.ensures c.approach.ensures.follows in
    let comes = comes_down c.approach.new.items.items c.copy_down.new.items.items c.slot-first.result c.slot-second.result two.down two.within c.copy_down.ensures.items in
    same_room _ _ c.take_next.ensures.spare (omega (arith, comes.long)) refl ∙ ap (λ v. record v.spare { blocks = v.spare.blocks + 1 }) s.view_is

pub returns-clause-rules : goal.returns-clause-rules
returns-clause-rules c =
    let now : Inside = record c.self.inside { slots = c.approach.new.slots; items = c.approach.new.items; blocks_end = c.approach.new.blocks_end; gaps = c.approach.new.gaps; loose = c.approach.new.loose } in
    let s = still c.self.view_is c.self.invariant c.approach.ensures.kept in
    let next_is = still_next c.self.inside now c.args.self.now c.args.block c.unwrap-next.result c.self.view_is s.view_is (sym c.next.ensures ∙ c.unwrap-next.ensures) in
    let pair = falls_to_next (graph_of now) c.args.block s.sound.rules (rw (← s.view_is) at c.requires.falls) in
    let two = are_next now c.args.block c.slot-first.result c.unwrap-next.result c.slot-second.result s.sound c.slot-first.ensures next_is c.slot-second.ensures c.approach.ensures.follows in
    let rules = joined_rules (graph_of now) c.args.block s.sound.rules pair (still_unused c.args.self.now.graph (graph_of now) c.args.block (ap (λ v. v.graph) s.view_is) c.requires.unused) in
    let comes = comes_down c.approach.new.items.items c.copy_down.new.items.items c.slot-first.result c.slot-second.result two.down two.within c.copy_down.ensures.items in
    let shows = join_shows now c.args.block c.slot-first.result c.unwrap-next.result c.slot-second.result c.take_next.new.slots c.copy_down.new.items s.sound two (c.take_next.ensures.entries c.slot-first.result c.slot-second.result c.slot-first.ensures c.slot-second.ensures) c.take_next.ensures.spare comes c.copy_down.ensures.capacity rules in
    shows.sound.rules

pub returns-clause-words : goal.returns-clause-words
returns-clause-words c =
    let now : Inside = record c.self.inside { slots = c.approach.new.slots; items = c.approach.new.items; blocks_end = c.approach.new.blocks_end; gaps = c.approach.new.gaps; loose = c.approach.new.loose } in
    let s = still c.self.view_is c.self.invariant c.approach.ensures.kept in
    let next_is = still_next c.self.inside now c.args.self.now c.args.block c.unwrap-next.result c.self.view_is s.view_is (sym c.next.ensures ∙ c.unwrap-next.ensures) in
    let pair = falls_to_next (graph_of now) c.args.block s.sound.rules (rw (← s.view_is) at c.requires.falls) in
    let two = are_next now c.args.block c.slot-first.result c.unwrap-next.result c.slot-second.result s.sound c.slot-first.ensures next_is c.slot-second.ensures c.approach.ensures.follows in
    let rules = joined_rules (graph_of now) c.args.block s.sound.rules pair (still_unused c.args.self.now.graph (graph_of now) c.args.block (ap (λ v. v.graph) s.view_is) c.requires.unused) in
    let comes = comes_down c.approach.new.items.items c.copy_down.new.items.items c.slot-first.result c.slot-second.result two.down two.within c.copy_down.ensures.items in
    let shows = join_shows now c.args.block c.slot-first.result c.unwrap-next.result c.slot-second.result c.take_next.new.slots c.copy_down.new.items s.sound two (c.take_next.ensures.entries c.slot-first.result c.slot-second.result c.slot-first.ensures c.slot-second.ensures) c.take_next.ensures.spare comes c.copy_down.ensures.capacity rules in
    ap (λ g. words_of g) shows.is ∙ joined_words (graph_of now) c.args.block s.sound.rules pair ∙ ap (λ v. words_of v.graph) s.view_is
