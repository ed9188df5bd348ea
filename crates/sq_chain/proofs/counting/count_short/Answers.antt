use Rattle.std.proofs.Common.{◌∙◌, ℕ, Bool, if◌then◌else◌, sym, ap, subst, arith}
use Rattle.std.proofs.lemmas.List.{take_all}
use Rattle.std.proofs.lemmas.List.Sums.{sum_by-take-le}
use Rattle.sq_graph.specs.Graph.{Block}
use Rattle.sq_graph.specs.Blocks.{term_of}
use Rattle.sq_live.proofs.Layouts.{IsBlockAt}
use Rattle.sq_lookup.specs.Addresses.{address_at}
use Rattle.sq_chain.specs.Places.{placed_at}
use Rattle.sq_chain.specs.Least.{is_short}
use Rattle.sq_chain.proofs.Rounds.{count_of}
use Rattle.sq_chain.proofs.Widens.{came_one}
use Rattle.sq_chain.proofs.Surveyed.{extent_at, extents_length}
use Rattle.sq_chain.proofs.counting.count_short.Goals as goal

pub one_if_short-short-requires-clause-block : goal.one_if_short-short-requires-clause-block
one_if_short-short-requires-clause-block c =
    let laid = c.requires.order.1 in
    let e = extent_at c.requires.order.0 c.args.order.now c.loop-extent.extent-index c.extent-item.result laid.rules laid.listed c.loop-extent-test.true c.extent-item.is in
    (e.at.block, e.is)

pub overflow_add-short : goal.overflow_add-short
overflow_add-short c = omega (arith, c.loop-extent.invariant.most, c.if-short-most.false, c.one_if_short-short.ensures.few)

pub loop-extent-preserved : goal.loop-extent-preserved
loop-extent-preserved c = record {
  most = omega (arith, c.loop-extent.invariant.most, c.if-short-most.false, c.one_if_short-short.ensures.few);
  count = λ h laid.
      let S : ℕ → Bool = λ n. is_short (address_at (placed_at c.args.addresses.now)) h n (term_of h n) in
      let e = extent_at h c.args.order.now c.loop-extent.extent-index c.extent-item.result laid.rules laid.listed c.loop-extent-test.true c.extent-item.is in
      let one = came_one S h laid.rules c.loop-extent.extent-index e.at.block.name (subst (IsBlockAt h c.loop-extent.extent-index) (sym e.at.has_name) e.at) in
      let now = c.loop-extent.invariant.count h laid in
      let is = c.one_if_short-short.ensures.value h e.at.block e.is e.found in
      omega (arith, one, now, is);
}

pub returns-then-short-most-clause-some : goal.returns-then-short-most-clause-some
returns-then-short-most-clause-some c = λ h laid.
    let S : ℕ → Bool = λ n. is_short (address_at (placed_at c.args.addresses.now)) h n (term_of h n) in
    omega (arith, c.loop-extent.invariant.count h laid, sum_by-take-le (λ (x : Block). if S x.name then 1 else 0) h.blocks c.loop-extent.extent-index)

pub returns-clause-some : goal.returns-clause-some
returns-clause-some c = λ h laid.
    let S : ℕ → Bool = λ n. is_short (address_at (placed_at c.args.addresses.now)) h n (term_of h n) in
    omega (arith, c.loop-extent.invariant.count h laid, sum_by-take-le (λ (x : Block). if S x.name then 1 else 0) h.blocks c.loop-extent.extent-index)

pub returns-clause-all : goal.returns-clause-all
returns-clause-all c = λ h laid less.
    let S : ℕ → Bool = λ n. is_short (address_at (placed_at c.args.addresses.now)) h n (term_of h n) in
    c.loop-extent.invariant.count h laid ∙ ap (count_of S) (take_all c.loop-extent.extent-index h.blocks (omega (arith, extents_length h c.args.order.now laid.listed)))
