use Rattle.std.proofs.Common.{◌≡◌, ◌∙◌, ℕ, None, Some, sym, ap, arith}
use Rattle.sq_arena.specs.Entries.{previous_key}
use Rattle.sq_graph.specs.Blocks.{named}
use Rattle.sq_graph.specs.Words.{block_words}
use Rattle.sq_graph.proofs.LinkReads.{value_of-links, previous-links}
use Rattle.sq_lookup.proofs.Previous.{before_next, before_there}
use Rattle.sq_chain.specs.Places.{placed_at}
use Rattle.sq_chain.proofs.Adding.{stands_are}
use Rattle.sq_chain.proofs.Ahead.{branch_ahead, none_first}
use Rattle.sq_chain.proofs.Seen.{next_stands, stands_small}
use Rattle.sq_chain.proofs.around.far_before.Goals as goal

pub loop-slot-init : goal.loop-slot-init
loop-slot-init c = record {
  has = c.requires.block;
  at = c.address-at.ensures ∙ ap (λ (f : ℕ → ℕ). f c.args.from) (stands_are block_words c.args.graph.now.graph (placed_at c.args.addresses.now) c.requires.addresses);
}

pub overflow_add-at : goal.overflow_add-at
overflow_add-at c = omega (arith, c.loop-slot.invariant.at, stands_small c.args.graph.now.graph c.loop-slot.block c.learn.ensures.few)

pub returns-then-at-seam : goal.returns-then-at-seam
returns-then-at-seam c =
    let g = c.args.graph.now.graph in
    let walk = c.loop-slot.invariant in (
      walk.has,
      λ n branch ahead. omega (arith, walk.at, c.if-at-seam.true, branch_ahead g c.learn.ensures.rules c.loop-slot.block walk.has n branch ahead),
    )

pub previous-requires : goal.previous-requires
previous-requires c = value_of-links c.links.result.now.entries c.args.graph.now.graph.blocks c.loop-slot.block c.links.ensures.blocks ∙ c.loop-slot.invariant.has

pub returns-in_default : goal.returns-in_default
returns-in_default c =
    let g = c.args.graph.now.graph in
    let has = c.loop-slot.invariant.has in
    let none : previous_key (named g.blocks) c.loop-slot.block ≡ None = sym (previous-links c.links.result.now.entries g.blocks c.loop-slot.block c.links.ensures.blocks) ∙ sym c.previous.ensures ∙ c.in_default.is in (
      has,
      λ n branch ahead. absurd (none_first g c.learn.ensures.rules c.loop-slot.block has none n ahead),
    )

pub extent_of-requires-clause-block : goal.extent_of-requires-clause-block
extent_of-requires-clause-block c =
    let g = c.args.graph.now.graph in
    let previous : previous_key (named g.blocks) c.loop-slot.block ≡ Some c.in-Some.before = sym (previous-links c.links.result.now.entries g.blocks c.loop-slot.block c.links.ensures.blocks) ∙ sym c.previous.ensures ∙ c.in-Some.is in
    before_there g c.learn.ensures.rules c.loop-slot.block c.loop-slot.invariant.has c.in-Some.before previous

pub overflow_sub-at : goal.overflow_sub-at
overflow_sub-at c =
    let g = c.args.graph.now.graph in
    let walk = c.loop-slot.invariant in
    let before = c.in-Some.before in
    let previous : previous_key (named g.blocks) c.loop-slot.block ≡ Some c.in-Some.before = sym (previous-links c.links.result.now.entries g.blocks c.loop-slot.block c.links.ensures.blocks) ∙ sym c.previous.ensures ∙ c.in-Some.is in
    let next = before_next g c.learn.ensures.rules c.loop-slot.block walk.has before previous in
    omega (arith, walk.at, c.from.ensures, next_stands g c.learn.ensures.rules before c.loop-slot.block c.extent_of.result next c.extent_of.ensures)

pub loop-slot-preserved : goal.loop-slot-preserved
loop-slot-preserved c =
    let g = c.args.graph.now.graph in
    let walk = c.loop-slot.invariant in
    let before = c.in-Some.before in
    let previous : previous_key (named g.blocks) c.loop-slot.block ≡ Some c.in-Some.before = sym (previous-links c.links.result.now.entries g.blocks c.loop-slot.block c.links.ensures.blocks) ∙ sym c.previous.ensures ∙ c.in-Some.is in
    let next = before_next g c.learn.ensures.rules c.loop-slot.block walk.has before previous in
    record {
      has = before_there g c.learn.ensures.rules c.loop-slot.block walk.has before previous;
      at = omega (arith, walk.at, c.from.ensures, next_stands g c.learn.ensures.rules before c.loop-slot.block c.extent_of.result next c.extent_of.ensures);
    }
