use Rattle.std.proofs.Common.{◌+◌, ◌-◌, ◌∙◌, ap, length}
use Rattle.sq_graph.specs.Blocks.{all_items}
use Rattle.sq_graph.specs.Trimmed.{trimmed_each}
use Rattle.sq_graph.specs.Layout.{graph_of}
use Rattle.sq_graph.specs.declared.graph.Graph.TheInside.{Inside}
use Rattle.sq_graph.proofs.Tight.{still}
use Rattle.sq_graph.proofs.Trimming.{cut_apart, cut_distinct, trims, trim_shows, trim_spare}
use Rattle.sq_graph.proofs.graph.Graph.trim_each.Goals as goal

pub pack-self-inside-requires-clause-distinct : goal.pack-self-inside-requires-clause-distinct
pack-self-inside-requires-clause-distinct c =
    let now : Inside = record c.self.inside { slots = c.put_in_order.new.slots; items = c.put_in_order.new.items; blocks_end = c.put_in_order.new.blocks_end; gaps = c.put_in_order.new.gaps; loose = c.put_in_order.new.loose } in
    let s = still c.self.view_is c.self.invariant c.put_in_order.ensures.kept in
    rw c.trim_slots.ensures.entries (cut_distinct now c.args.most c.args.blocks.now s.sound)

pub pack-self-inside-requires-clause-apart : goal.pack-self-inside-requires-clause-apart
pack-self-inside-requires-clause-apart c =
    let now : Inside = record c.self.inside { slots = c.put_in_order.new.slots; items = c.put_in_order.new.items; blocks_end = c.put_in_order.new.blocks_end; gaps = c.put_in_order.new.gaps; loose = c.put_in_order.new.loose } in
    let s = still c.self.view_is c.self.invariant c.put_in_order.ensures.kept in
    rw c.trim_slots.ensures.entries (cut_apart now c.args.most c.args.blocks.now s.sound c.put_in_order.ensures.order)

pub renumber-requires-clause-distinct : goal.renumber-requires-clause-distinct
renumber-requires-clause-distinct c =
    let now : Inside = record c.self.inside { slots = c.put_in_order.new.slots; items = c.put_in_order.new.items; blocks_end = c.put_in_order.new.blocks_end; gaps = c.put_in_order.new.gaps; loose = c.put_in_order.new.loose } in
    let s = still c.self.view_is c.self.invariant c.put_in_order.ensures.kept in
    rw c.trim_slots.ensures.entries (cut_distinct now c.args.most c.args.blocks.now s.sound)

pub invariant_of-self : goal.invariant_of-self
invariant_of-self c =
    let now : Inside = record c.self.inside { slots = c.put_in_order.new.slots; items = c.put_in_order.new.items; blocks_end = c.put_in_order.new.blocks_end; gaps = c.put_in_order.new.gaps; loose = c.put_in_order.new.loose } in
    let s = still c.self.view_is c.self.invariant c.put_in_order.ensures.kept in
    let change = trims now c.args.most c.args.blocks.now c.trim_slots.new.slots c.renumber.new.slots c.pack-self-inside.new.items c.pack-self-inside.result c.first-head.result c.trim_slots.ensures.entries c.trim_slots.ensures.spare c.first-head.ensures c.renumber.ensures.entries c.renumber.ensures.spare c.pack-self-inside.ensures.items c.pack-self-inside.ensures.capacity c.pack-self-inside.ensures.count in
    (trim_shows now _ c.args.most c.args.blocks.now s.sound c.put_in_order.ensures.order change).sound

pub returns-clause-graph : goal.returns-clause-graph
returns-clause-graph c =
    let now : Inside = record c.self.inside { slots = c.put_in_order.new.slots; items = c.put_in_order.new.items; blocks_end = c.put_in_order.new.blocks_end; gaps = c.put_in_order.new.gaps; loose = c.put_in_order.new.loose } in
    let s = still c.self.view_is c.self.invariant c.put_in_order.ensures.kept in
    let change = trims now c.args.most c.args.blocks.now c.trim_slots.new.slots c.renumber.new.slots c.pack-self-inside.new.items c.pack-self-inside.result c.first-head.result c.trim_slots.ensures.entries c.trim_slots.ensures.spare c.first-head.ensures c.renumber.ensures.entries c.renumber.ensures.spare c.pack-self-inside.ensures.items c.pack-self-inside.ensures.capacity c.pack-self-inside.ensures.count in
    (trim_shows now _ c.args.most c.args.blocks.now s.sound c.put_in_order.ensures.order change).is
    ∙ ap (λ v. trimmed_each c.args.most c.args.blocks.now v.graph) s.view_is

pub returns-clause-spare : goal.returns-clause-spare
returns-clause-spare c =
    let now : Inside = record c.self.inside { slots = c.put_in_order.new.slots; items = c.put_in_order.new.items; blocks_end = c.put_in_order.new.blocks_end; gaps = c.put_in_order.new.gaps; loose = c.put_in_order.new.loose } in
    let s = still c.self.view_is c.self.invariant c.put_in_order.ensures.kept in
    let change = trims now c.args.most c.args.blocks.now c.trim_slots.new.slots c.renumber.new.slots c.pack-self-inside.new.items c.pack-self-inside.result c.first-head.result c.trim_slots.ensures.entries c.trim_slots.ensures.spare c.first-head.ensures c.renumber.ensures.entries c.renumber.ensures.spare c.pack-self-inside.ensures.items c.pack-self-inside.ensures.capacity c.pack-self-inside.ensures.count in
    let new : Inside = record c.self.inside { loose = c.put_in_order.new.loose; slots = c.renumber.new.slots; items = c.pack-self-inside.new.items; blocks_end = c.pack-self-inside.result; gaps = 0 } in
    trim_spare now new c.args.most c.args.blocks.now s.sound c.put_in_order.ensures.order change
    ∙ ap (λ v. record v.spare { items = v.spare.items + length (all_items v.graph) - length (all_items (graph_of new)) }) s.view_is

pub returns-clause-rules : goal.returns-clause-rules
returns-clause-rules c =
    let now : Inside = record c.self.inside { slots = c.put_in_order.new.slots; items = c.put_in_order.new.items; blocks_end = c.put_in_order.new.blocks_end; gaps = c.put_in_order.new.gaps; loose = c.put_in_order.new.loose } in
    let s = still c.self.view_is c.self.invariant c.put_in_order.ensures.kept in
    let change = trims now c.args.most c.args.blocks.now c.trim_slots.new.slots c.renumber.new.slots c.pack-self-inside.new.items c.pack-self-inside.result c.first-head.result c.trim_slots.ensures.entries c.trim_slots.ensures.spare c.first-head.ensures c.renumber.ensures.entries c.renumber.ensures.spare c.pack-self-inside.ensures.items c.pack-self-inside.ensures.capacity c.pack-self-inside.ensures.count in
    (trim_shows now _ c.args.most c.args.blocks.now s.sound c.put_in_order.ensures.order change).sound.rules
