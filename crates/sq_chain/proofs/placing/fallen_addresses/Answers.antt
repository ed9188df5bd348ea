use Rattle.std.proofs.Common.{◌≡◌, ◌∙◌, ◌+◌, ◌-◌, ◌*◌, List, [], ◌∷◌, length, drop, sum_by, refl, ap, is_some, subst, sym, arith}
use Rattle.std.proofs.lemmas.List.{drop_all}
use Rattle.std.proofs.lemmas.List.Sums.{sum_by-cons}
use Rattle.sq_graph.specs.Graph.{Block}
use Rattle.sq_graph.specs.Words.{block_words}
use Rattle.sq_layout.proofs.Weighing.{by_words}
use Rattle.sq_chain.specs.Places.{placed_at}
use Rattle.sq_lookup.proofs.Sizes.{drop_distinct, addresses_small}
use Rattle.sq_chain.specs.declared.survey.Extent.{Extent}
use Rattle.sq_chain.specs.Moves.{fallen_blocks, fallen}
use Rattle.sq_chain.proofs.Fallen.{fallen_keeps}
use Rattle.sq_chain.proofs.Placed.{IsPlacedBy, none_placed_by, all_placed_by, one_placed_by}
use Rattle.sq_chain.proofs.Surveyed.{falling_at, extents_length}
use Rattle.sq_chain.proofs.placing.fallen_addresses.Goals as goal

pub put-requires : goal.put-requires
put-requires c =
    let laid = c.requires.1 in
    let f = falling_at c.requires.0 c.args.order.now c.loop-i.i c.index-order-i.result laid.rules laid.listed (omega (arith, c.loop-i-test.true)) c.index-order-i.is in
    let has = ap is_some f.here.found in
    let within = c.requires.2.within f.here.at.block.name has in
    let rest = ap (λ (bs : List Block). sum_by block_words bs) f.here.at.rest in
    let sum = sum_by-cons block_words f.here.at.block (drop (c.loop-i.i + 1) c.requires.0.blocks) in
    let falls = c.loop-i.invariant.falls c.requires.0 laid in
    record { within = omega (arith, c.loop-i.invariant.room, within, f.here.named); there = omega (arith, falls, laid.few) }

pub overflow_add-falls : goal.overflow_add-falls
overflow_add-falls c =
    let h = c.requires.0 in
    let laid = c.requires.1 in
    let f = falling_at c.requires.0 c.args.order.now c.loop-i.i c.index-order-i.result laid.rules laid.listed (omega (arith, c.loop-i-test.true)) c.index-order-i.is in
    let fall = c.fall_of-fall.ensures h f.here.at.block f.block f.here.is (f.here.next ∙ sym c.name_at-next.ensures) f.here.found f.found in
    let rest = ap (λ (bs : List Block). sum_by block_words bs) f.here.at.rest in
    let sum = sum_by-cons block_words f.here.at.block (drop (c.loop-i.i + 1) h.blocks) in
    let falls = c.loop-i.invariant.falls h laid in
    omega (arith, fall, rest, sum, falls, laid.few)

pub overflow_add-at : goal.overflow_add-at
overflow_add-at c =
    let h = c.requires.0 in
    let laid = c.requires.1 in
    let f = falling_at c.requires.0 c.args.order.now c.loop-i.i c.index-order-i.result laid.rules laid.listed (omega (arith, c.loop-i-test.true)) c.index-order-i.is in
    let words = ap (λ (x : Extent). x.words) f.here.is in
    let rest = ap (λ (bs : List Block). sum_by block_words bs) f.here.at.rest in
    let sum = sum_by-cons block_words f.here.at.block (drop (c.loop-i.i + 1) h.blocks) in
    let falls = c.loop-i.invariant.falls h laid in
    omega (arith, words, rest, sum, falls, laid.few)

pub overflow_sub-at : goal.overflow_sub-at
overflow_sub-at c =
    let h = c.requires.0 in
    let laid = c.requires.1 in
    let f = falling_at c.requires.0 c.args.order.now c.loop-i.i c.index-order-i.result laid.rules laid.listed (omega (arith, c.loop-i-test.true)) c.index-order-i.is in
    let fall = c.fall_of-fall.ensures h f.here.at.block f.block f.here.is (f.here.next ∙ sym c.name_at-next.ensures) f.here.found f.found in
    omega (arith, fall, ap (λ (x : Extent). x.words) f.here.is)

pub loop-i-init : goal.loop-i-init
loop-i-init c = record {
  room = refl;
  placed = λ h laid room. none_placed_by block_words (fallen_blocks h.blocks) (placed_at c.args.room) room.none;
  falls = λ h laid. omega arith;
}

pub loop-i-preserved : goal.loop-i-preserved
loop-i-preserved c = record {
  room = c.put.ensures.length ∙ c.loop-i.invariant.room;
  placed = λ h laid room.
      let f = falling_at h c.args.order.now c.loop-i.i c.index-order-i.result laid.rules laid.listed (omega (arith, c.loop-i-test.true)) c.index-order-i.is in
      let fall = c.fall_of-fall.ensures h f.here.at.block f.block f.here.is (f.here.next ∙ sym c.name_at-next.ensures) f.here.found f.found in
      let rules = (fallen_keeps h laid.rules).rules in
      let size : 4 * (c.loop-i.at + (c.index-order-i.result.words - c.fall_of-fall.result)) ≡ 4 * c.loop-i.at + 4 * block_words f.block = omega (arith, fall, ap (λ (x : Extent). x.words) f.here.is) in
      let placed = subst (λ bs. IsPlacedBy block_words (fallen_blocks h.blocks) (placed_at c.loop-i.addresses) bs (4 * c.loop-i.at)) f.rest (c.loop-i.invariant.placed h laid room) in
      subst (λ n. IsPlacedBy block_words (fallen_blocks h.blocks) (placed_at c.put.new.addresses) (drop (c.loop-i.i + 1) (fallen_blocks h.blocks)) n) (sym size)
      (one_placed_by block_words (fallen_blocks h.blocks) (4 * c.loop-i.at) (placed_at c.loop-i.addresses) (placed_at c.put.new.addresses) f.block (drop (c.loop-i.i + 1) (fallen_blocks h.blocks)) placed
      (drop_distinct (fallen h) c.loop-i.i f.block (drop (c.loop-i.i + 1) (fallen_blocks h.blocks)) rules f.rest) (λ n. rw f.named (c.put.ensures.value n)));
  falls = λ h laid.
      let f = falling_at h c.args.order.now c.loop-i.i c.index-order-i.result laid.rules laid.listed (omega (arith, c.loop-i-test.true)) c.index-order-i.is in
      let fall = c.fall_of-fall.ensures h f.here.at.block f.block f.here.is (f.here.next ∙ sym c.name_at-next.ensures) f.here.found f.found in
      let rest = ap (λ (bs : List Block). sum_by block_words bs) f.here.at.rest in
      let sum = sum_by-cons block_words f.here.at.block (drop (c.loop-i.i + 1) h.blocks) in
      let falls = c.loop-i.invariant.falls h laid in
      omega (arith, fall, rest, sum, falls, ap (λ (x : Extent). x.words) f.here.is);
}

fallen_length : (bs : List Block) → length (fallen_blocks bs) ≡ length bs
fallen_length [] = refl
fallen_length (b ∷ []) = refl
fallen_length (b ∷ next ∷ rest) = omega (arith, fallen_length (next ∷ rest))

pub returns-clause-addresses : goal.returns-clause-addresses
returns-clause-addresses c = λ h laid room.
    let all = drop_all c.loop-i.i (fallen_blocks h.blocks) (omega (arith, c.loop-i-test.false, extents_length h c.args.order.now laid.listed, fallen_length h.blocks)) in
    all_placed_by block_words (fallen_blocks h.blocks) (4 * c.loop-i.at) (placed_at c.loop-i.addresses)
    (subst (λ bs. IsPlacedBy block_words (fallen_blocks h.blocks) (placed_at c.loop-i.addresses) bs (4 * c.loop-i.at)) all (c.loop-i.invariant.placed h laid room))

pub returns-clause-falls : goal.returns-clause-falls
returns-clause-falls c = λ h laid room.
    let none = drop_all c.loop-i.i h.blocks (omega (arith, c.loop-i-test.false, extents_length h c.args.order.now laid.listed)) in
    let all = drop_all c.loop-i.i (fallen_blocks h.blocks) (omega (arith, c.loop-i-test.false, extents_length h c.args.order.now laid.listed, fallen_length h.blocks)) in
    let at = (c.loop-i.invariant.placed h laid room).at_is in
    let falls = c.loop-i.invariant.falls h laid in
    omega (arith, at, falls, ap (λ (bs : List Block). sum_by block_words bs) none, ap (λ (bs : List Block). sum_by block_words bs) all)

pub returns-clause-small : goal.returns-clause-small
returns-clause-small c =
    let h = c.requires.0 in
    let laid = c.requires.1 in
    let are = returns-clause-addresses c h laid c.requires.2 in
    let falls = returns-clause-falls c h laid c.requires.2 in
    addresses_small (placed_at c.loop-i.addresses) (fallen h) (λ n. are n ∙ by_words (fallen_blocks h.blocks) 0 n) (omega (arith, falls, laid.few))
