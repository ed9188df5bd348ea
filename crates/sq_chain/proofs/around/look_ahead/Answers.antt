use Rattle.std.proofs.Common.{◌≡◌, ◌∙◌, ℕ, Some, true, false, sym, ap, subst, arith}
use Rattle.std.specs.Prelude.{option_map}
use Rattle.sq_graph.specs.Blocks.{block_of, next_of}
use Rattle.sq_graph.specs.Words.{block_words}
use Rattle.sq_lookup.proofs.Previous.{next_there}
use Rattle.sq_chain.specs.Places.{placed_at}
use Rattle.sq_chain.specs.Settled.{is_missed}
use Rattle.sq_chain.specs.Surveys.{extent_of}
use Rattle.sq_chain.proofs.Adding.{stands_are}
use Rattle.sq_chain.proofs.Seen.{stands_small, name_by, next_stands, next_seen, last_seen, far_seen}
use Rattle.sq_chain.proofs.around.look_ahead.Goals as goal

pub loop-slot-init : goal.loop-slot-init
loop-slot-init c = record {
  has = c.requires.block;
  at = c.address-at.ensures ∙ ap (λ (f : ℕ → ℕ). f c.args.span.from) (stands_are block_words c.args.graph.now.graph (placed_at c.args.addresses.now) c.requires.addresses);
  near = λ seam from to. c.requires.seen seam from;
}

pub is_missed-requires-clause-block : goal.is_missed-requires-clause-block
is_missed-requires-clause-block c =
    let g = c.args.graph.now.graph in
    let taken = c.extent_of-taken in
    subst (λ n. option_map extent_of (block_of g n) ≡ Some c.extent_of-taken.result) (sym (name_by g c.loop-slot.block taken.result taken.ensures)) taken.ensures

pub returns-then-is_missed-clause-short : goal.returns-then-is_missed-clause-short
returns-then-is_missed-clause-short c = λ n e.
    let g = c.args.graph.now.graph in
    let name = name_by g c.loop-slot.block c.extent_of-taken.result c.extent_of-taken.ensures in
    let same : c.loop-slot.block ≡ n = cc (e) in
    subst (λ m. is_missed g c.args.shift c.args.wide m ≡ true) (name ∙ same) (sym c.is_missed.ensures ∙ c.if-is_missed.true)

pub returns-in_default-clause-near : goal.returns-in_default-clause-near
returns-in_default-clause-near c = λ near seam from to.
    let g = c.args.graph.now.graph in
    let walk = c.loop-slot.invariant in
    let name = name_by g c.loop-slot.block c.extent_of-taken.result c.extent_of-taken.ensures in
    let own : is_missed c.args.graph.now.graph c.args.shift c.args.wide c.loop-slot.block ≡ false = subst (λ n. is_missed g c.args.shift c.args.wide n ≡ false) name (sym c.is_missed.ensures ∙ c.if-is_missed.false) in
    last_seen g (λ n. is_missed g c.args.shift c.args.wide n ≡ false) c.learn.ensures.rules seam c.loop-slot.block walk.has (walk.near seam from to) own (sym c.next.ensures ∙ c.in_default.is)

pub overflow_add-at : goal.overflow_add-at
overflow_add-at c = omega (arith, c.loop-slot.invariant.at, c.from.ensures, stands_small c.args.graph.now.graph c.loop-slot.block c.learn.ensures.few)

pub returns-then-at-span-clause-near : goal.returns-then-at-span-clause-near
returns-then-at-span-clause-near c = λ near seam from to.
    let g = c.args.graph.now.graph in
    let next = c.in-Some.next in
    let walk = c.loop-slot.invariant in
    let is : next_of g c.loop-slot.block ≡ Some c.in-Some.next = sym c.next.ensures ∙ c.in-Some.is in
    let name = name_by g c.loop-slot.block c.extent_of-taken.result c.extent_of-taken.ensures in
    let own : is_missed c.args.graph.now.graph c.args.shift c.args.wide c.loop-slot.block ≡ false = subst (λ n. is_missed g c.args.shift c.args.wide n ≡ false) name (sym c.is_missed.ensures ∙ c.if-is_missed.false) in
    let seen = next_seen g (λ n. is_missed g c.args.shift c.args.wide n ≡ false) c.learn.ensures.rules seam c.loop-slot.block walk.has (walk.near seam from to) own next is in
    let at = next_stands g c.learn.ensures.rules c.loop-slot.block next c.extent_of-taken.result is c.extent_of-taken.ensures in
    far_seen g (λ n. is_missed g c.args.shift c.args.wide n ≡ false) c.learn.ensures.rules seam next (next_there g.blocks c.loop-slot.block next is) seen (omega (arith, at, to, walk.at, c.from.ensures, c.if-at-span.true))

pub loop-slot-preserved : goal.loop-slot-preserved
loop-slot-preserved c =
    let g = c.args.graph.now.graph in
    let next = c.in-Some.next in
    let walk = c.loop-slot.invariant in
    let is : next_of g c.loop-slot.block ≡ Some c.in-Some.next = sym c.next.ensures ∙ c.in-Some.is in
    let name = name_by g c.loop-slot.block c.extent_of-taken.result c.extent_of-taken.ensures in
    let own : is_missed c.args.graph.now.graph c.args.shift c.args.wide c.loop-slot.block ≡ false = subst (λ n. is_missed g c.args.shift c.args.wide n ≡ false) name (sym c.is_missed.ensures ∙ c.if-is_missed.false) in
    record {
      has = next_there g.blocks c.loop-slot.block next is;
      at = omega (arith, walk.at, c.from.ensures, next_stands g c.learn.ensures.rules c.loop-slot.block next c.extent_of-taken.result is c.extent_of-taken.ensures);
      near = λ seam from to. next_seen g (λ n. is_missed g c.args.shift c.args.wide n ≡ false) c.learn.ensures.rules seam c.loop-slot.block walk.has (walk.near seam from to) own next is;
    }
