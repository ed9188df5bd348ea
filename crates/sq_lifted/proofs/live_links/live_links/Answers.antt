use Rattle.std.proofs.Common.{◌≡◌, ◌+◌, false, length, get_or, refl, subst, ap, ◌∙◌, arith}
use Rattle.std.specs.Prelude.{replicate, slice_index}
use Rattle.sq_graph.specs.Parts.{names_of}
use Rattle.sq_lifted.specs.LiveLinks.{BlockDies, BlocksDie, Marks}
use Rattle.sq_lifted.proofs.Dying.{has_name, marks_then, marks_same, blocks_more, blocks_fewer, links_are}
use Rattle.sq_lifted.proofs.live_links.live_links.Goals as goal

pub mark_block-requires-clause-block : goal.mark_block-requires-clause-block
mark_block-requires-clause-block c =
    has_name c.args.g.now.graph c.learn.ensures.rules c.deref-name-items.result.now c.loop-name.name-index (get_or c.deref-name-items.result.now c.loop-name.name-index 0) (c.deref-name-items.ensures.value ∙ c.in_ok-names.ensures) c.loop-name-test.true refl

pub loop-name-preserved : goal.loop-name-preserved
loop-name-preserved c =
    let g = c.args.g.now.graph in
    let names = names_of g in
    let index = c.loop-name.name-index in
    let all : c.deref-name-items.result.now ≡ names_of c.args.g.now.graph = c.deref-name-items.ensures.value ∙ c.in_ok-names.ensures in
    let one : Marks (BlockDies c.args.g.now.graph (slice_index (names_of c.args.g.now.graph) c.loop-name.name-index)) c.loop-name.flags.items c.mark_block.new.flags.items =
    subst (λ ns. Marks (BlockDies c.args.g.now.graph (get_or ns c.loop-name.name-index 0)) c.loop-name.flags.items c.mark_block.new.flags.items) all c.mark_block.ensures
    in
    marks_same (λ q. BlocksDie g names index q × BlockDies g (slice_index names index) q) (BlocksDie g names (index + 1)) c.in_ok-flags.flags.items c.mark_block.new.flags.items
    (marks_then (BlocksDie g names index) (BlockDies g (slice_index names index)) c.in_ok-flags.flags.items c.loop-name.flags.items c.mark_block.new.flags.items c.loop-name.invariant one)
    (blocks_more g names index)
    (blocks_fewer g names index)

pub returns : goal.returns
returns c =
    let g = c.args.g.now.graph in
    let all : c.deref-name-items.result.now ≡ names_of c.args.g.now.graph = c.deref-name-items.ensures.value ∙ c.in_ok-names.ensures in
    let above = c.loop-name-test.false in
    let below = c.loop-name.auto.name-index-end in
    let end : c.loop-name.name-index ≡ length (names_of c.args.g.now.graph) = (let same : c.loop-name.name-index ≡ length c.deref-name-items.result.now = omega (arith, above, below) in same ∙ ap length all) in
    let marks : Marks (BlocksDie c.args.g.now.graph (names_of c.args.g.now.graph) (length (names_of c.args.g.now.graph))) c.in_ok-flags.flags.items c.loop-name.flags.items =
    subst (λ index. Marks (BlocksDie c.args.g.now.graph (names_of c.args.g.now.graph) index) c.in_ok-flags.flags.items c.loop-name.flags.items) end c.loop-name.invariant
    in
    links_are g c.learn.ensures.rules c.in_ok-flags.flags.items c.loop-name.flags.items
    (c.in_ok-flags.ensures.items_if_clones_equal (λ y same. same) ∙ ap (λ n. replicate n false) c.procedures.ensures)
    marks
