use Rattle.std.proofs.Common.{List, get_or, refl, sym, subst}
use Rattle.std.specs.List.{All}
use Rattle.std.proofs.lemmas.List.Elements.{All-push}
use Rattle.sq_graph.specs.declared.item.Item.{Item}
use Rattle.sq_graph.specs.Blocks.{items_of}
use Rattle.sq_graph.specs.Rules.{ItemFits}
use Rattle.sq_finger.proofs.Layouts.{name_there}
use Rattle.sq_outline.specs.declared.windows.kinds.BlockKinds.{BlockKinds}
use Rattle.sq_outline.specs.WindowsKinds.{HasKinds}
use Rattle.sq_outline.proofs.WindowsKinds.{all_fit, block_more}
use Rattle.sq_outline.proofs.windows.kinds.block_kinds.Goals as goal

pub items-requires : goal.items-requires
items-requires c = name_there c.args.graph.now.graph c.deref-name-items.result.now c.loop-name.name-index c.loop-name.invariant.all c.loop-name-test.true

pub kinds_of-requires : goal.kinds_of-requires
kinds_of-requires c =
    let name = get_or c.deref-name-items.result.now c.loop-name.name-index 0 in
    let there = name_there c.args.graph.now.graph c.deref-name-items.result.now c.loop-name.name-index c.loop-name.invariant.all c.loop-name-test.true in
    subst (λ (is : List Item). All ItemFits is) (sym c.items.ensures) (all_fit c.args.graph.now.graph name c.learn.ensures.rules there)

pub loop-name-preserved : goal.loop-name-preserved
loop-name-preserved c =
    let g = c.args.graph.now.graph in
    let names = c.deref-name-items.result.now in
    let i = c.loop-name.name-index in
    let blocks = c.loop-name.blocks.items in
    let set = c.kinds_of.result in
    let name = get_or names i 0 in
    let has = subst (λ (is : List Item). HasKinds is c.kinds_of.result) c.items.ensures c.kinds_of.ensures.all in
    record {
      all = c.loop-name.invariant.all;
      names = rw c.in_ok-push.ensures.items (block_more names i name set blocks c.loop-name-test.true refl c.loop-name.invariant.names);
      kinds =
          rw c.in_ok-push.ensures.items
          (All-push (λ (block : BlockKinds). HasKinds (items_of g block.name) block.kinds) blocks (record { name = name; kinds = set }) c.loop-name.invariant.kinds has);
    }
