use Rattle.std.proofs.Common.{◌≡◌, ◌∙◌, Some, ap, sym, length, arith}
use Rattle.sq_graph.specs.Blocks.{block_term}
use Rattle.sq_layout.proofs.Walks.{blocks_from, here}
use Rattle.sq_write.proofs.TextWalks.{first_block, address_here, block_stands, block_fits, next_block, last_block}
use Rattle.sq_write.proofs.text.push_blocks.Goals as goal

pub loop-place-init : goal.loop-place-init
loop-place-init c =
    first_block c.args.placed.now.g.now.graph c.args.placed.now.lo c.first.result c.args.out.now c.first.ensures c.requires.stand

pub push_block-requires-clause-few : goal.push_block-requires-clause-few
push_block-requires-clause-few c =
    let g = c.args.placed.now.g.now.graph in
    let lo = c.args.placed.now.lo in
    let w = c.loop-place.invariant in
    let h = here g c.loop-place.place c.in-Some.name c.requires.rules c.in-Some.is w.is_place in
    let at = c.address.ensures ∙ address_here g lo c.loop-place.place c.in-Some.name c.args.out.now c.loop-place.out h w in
    let items = c.items.ensures ∙ h.items in
    omega (arith, at, ap length items, block_fits g lo c.loop-place.place c.in-Some.name c.args.out.now c.loop-place.out h w c.requires.fits)

pub push_block-requires-clause-items : goal.push_block-requires-clause-items
push_block-requires-clause-items c =
    let g = c.args.placed.now.g.now.graph in
    let lo = c.args.placed.now.lo in
    let w = c.loop-place.invariant in
    let h = here g c.loop-place.place c.in-Some.name c.requires.rules c.in-Some.is w.is_place in
    let at = c.address.ensures ∙ address_here g lo c.loop-place.place c.in-Some.name c.args.out.now c.loop-place.out h w in
    let items = c.items.ensures ∙ h.items in
    let stands = block_stands g lo c.loop-place.place c.in-Some.name c.args.out.now c.loop-place.out h w in
    rw (at, items) stands.0

pub push_block-requires-clause-term : goal.push_block-requires-clause-term
push_block-requires-clause-term c =
    let g = c.args.placed.now.g.now.graph in
    let lo = c.args.placed.now.lo in
    let w = c.loop-place.invariant in
    let h = here g c.loop-place.place c.in-Some.name c.requires.rules c.in-Some.is w.is_place in
    let at = c.address.ensures ∙ address_here g lo c.loop-place.place c.in-Some.name c.args.out.now c.loop-place.out h w in
    let items = c.items.ensures ∙ h.items in
    let term : c.term.result ≡ h.step.block.term = let e : Some h.step.block.term ≡ Some c.term.result = sym (ap block_term h.step.found) ∙ c.term.ensures in cc in
    let stands = block_stands g lo c.loop-place.place c.in-Some.name c.args.out.now c.loop-place.out h w in
    rw (at, items, term) stands.1

pub loop-place-smaller : goal.loop-place-smaller
loop-place-smaller c =
    let g = c.args.placed.now.g.now.graph in
    let h = here g c.loop-place.place c.in-Some.name c.requires.rules c.in-Some.is c.loop-place.invariant.is_place in
    omega (arith, ap length h.rest, ap length (ap (blocks_from c.args.placed.now.g.now.graph.blocks) c.next-place.ensures ∙ h.step.next))

pub loop-place-preserved : goal.loop-place-preserved
loop-place-preserved c =
    let g = c.args.placed.now.g.now.graph in
    let lo = c.args.placed.now.lo in
    let w = c.loop-place.invariant in
    let h = here g c.loop-place.place c.in-Some.name c.requires.rules c.in-Some.is w.is_place in
    let at = c.address.ensures ∙ address_here g lo c.loop-place.place c.in-Some.name c.args.out.now c.loop-place.out h w in
    let items = c.items.ensures ∙ h.items in
    let term : c.term.result ≡ h.step.block.term = let e : Some h.step.block.term ≡ Some c.term.result = sym (ap block_term h.step.found) ∙ c.term.ensures in cc in
    let more = rw (at, items, term) at c.in_ok-push_block.ensures in
    next_block g lo c.loop-place.place c.in-Some.name c.args.out.now c.loop-place.out h w c.push_block.new.out c.next-place.result c.next-place.ensures more

pub returns : goal.returns
returns c =
    last_block c.args.placed.now.g.now.graph c.args.placed.now.lo c.loop-place.place c.args.out.now c.loop-place.out c.in_default.is c.loop-place.invariant
