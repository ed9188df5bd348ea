use Rattle.std.proofs.Common.{List, not, sym, ap, ◌∙◌, subst}
use Rattle.std.specs.List.{All}
use Rattle.sq_graph.specs.declared.item.Item.{Item}
use Rattle.sq_graph.specs.Rules.{ItemFits}
use Rattle.sq_outline.proofs.WindowsKinds.{window_fits, lacks, block_there, listed_there, listed_nowhere}
use Rattle.sq_outline.proofs.windows.search.standing.Goals as goal
use Rattle.sq_outline.proofs.windows.search.standing.Goals.{then-is_none+in_ok-push_places, else-is_none}

pub kinds_of-wanted-requires : goal.kinds_of-wanted-requires
kinds_of-wanted-requires c =
    subst (λ (is : List Item). All ItemFits is) (sym c.items_at-window.ensures) (window_fits c.args.graph.now.graph c.args.block c.args.at c.args.n c.learn.ensures.rules c.requires.block)

pub push_places-requires : goal.push_places-requires
push_places-requires c =
    block_there c.args.graph.now.graph c.args.blocks.now c.loop-other.other-index c.other-item.result c.other-item.result c.requires.kinds c.loop-other-test.true c.other-item.is

pub loop-other-preserved : goal.loop-other-preserved
loop-other-preserved c =
    let g = c.args.graph.now.graph in
    let window = c.items_at-window.result.now in
    let block = c.other-item.result in
    let places = c.loop-other.places.items in
    elim c.if-is_none.branch [
      | then-is_none+in_ok-push_places w ↦
          rw (w.places-is, w.in_ok-push_places.ensures)
          (listed_there g c.args.blocks.now c.loop-other.other-index block block c.requires.kinds c.loop-other-test.true c.other-item.is window places ∙ c.loop-other.invariant)
      | else-is_none w ↦
          let fails = lacks window block.kinds c.kinds_of-wanted.result c.grown_by.result c.grown_by.ensures.some c.grown_by.ensures.more (c.is_none.ensures ∙ ap not w.if-is_none.false) c.kinds_of-wanted.ensures.only in
          rw w.places-is
          (listed_nowhere g c.args.blocks.now c.loop-other.other-index block block c.requires.kinds c.loop-other-test.true c.other-item.is window places fails ∙ c.loop-other.invariant)
    ]
