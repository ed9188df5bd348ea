use Rattle.std.proofs.Common.{ℕ, List, ◌<◌, ◌∙◌, ◌^◌, ap, length, nat_eq, arith}
use Rattle.std.specs.HashMap.{get}
use Rattle.std.specs.Map.{lookup}
use Rattle.sq_layout.proofs.Placed.{none_placed, all_placed, at_small, one_placed}
use Rattle.sq_layout.proofs.Walks.{blocks_from, starts, here, words_here}
use Rattle.sq_layout.proofs.places.block_addresses.Goals as goal

pub loop-place-init : goal.loop-place-init
loop-place-init c =
    let first = rw c.first.ensures at (starts c.args.g.now.graph.blocks) in
    record {
      place = first.0;
      placed = rw (first.1, c.from-at.ensures) (none_placed c.args.g.now.graph.blocks c.args.lo (get nat_eq c.new-addresses.result) (λ n. ap (λ (es : List (ℕ × ℕ)). lookup (nat_eq n) es) c.new-addresses.ensures.empty));
    }

pub overflow_cast-at : goal.overflow_cast-at
overflow_cast-at c =
    let h = here c.args.g.now.graph c.loop-place.place c.in-Some.name c.requires.rules c.in-Some.is c.loop-place.invariant.place in
    let placed = rw h.rest at c.loop-place.invariant.placed in
    let small : c.loop-place.at < 2 ^ 32 = at_small c.args.g.now.graph.blocks c.args.lo c.loop-place.at (get nat_eq c.loop-place.addresses) h.step.block h.step.others placed h.ends c.requires.fits in
    omega arith

pub loop-place-smaller : goal.loop-place-smaller
loop-place-smaller c =
    let h = here c.args.g.now.graph c.loop-place.place c.in-Some.name c.requires.rules c.in-Some.is c.loop-place.invariant.place in
    omega (arith, ap length h.rest, ap length (ap (blocks_from c.args.g.now.graph.blocks) c.next-place.ensures ∙ h.step.next))

pub loop-place-preserved : goal.loop-place-preserved
loop-place-preserved c =
    let h = here c.args.g.now.graph c.loop-place.place c.in-Some.name c.requires.rules c.in-Some.is c.loop-place.invariant.place in
    let words = c.from.ensures ∙ words_here c.args.g.now.graph c.in-Some.name c.block_words.result h.step.block h.step.found c.block_words.ensures in
    let next = ap (blocks_from c.args.g.now.graph.blocks) c.next-place.ensures ∙ h.step.next in
    let placed = rw h.rest at c.loop-place.invariant.placed in
    record {
      place = rw c.next-place.ensures h.step.there;
      placed =
          rw (next, words)
          (one_placed c.args.g.now.graph.blocks c.args.lo c.loop-place.at (get nat_eq c.loop-place.addresses) (get nat_eq c.insert.new.self) h.step.block h.step.others placed h.step.distinct (λ n. rw h.step.has_name (c.in_ok-insert.ensures.updates.0 n)));
    }

pub returns : goal.returns
returns c =
    let placed = rw c.in_default.is at c.loop-place.invariant.placed in
    all_placed c.args.g.now.graph.blocks c.args.lo c.loop-place.at (get nat_eq c.loop-place.addresses) placed
