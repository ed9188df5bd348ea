use Rattle.std.proofs.Common.{◌≡◌, true, Some, None, IsSome, is_some, inl, inr, sym, ap, subst, length, ◌∙◌}
use Rattle.sq_graph.specs.Resolve.{jump_from, is_on_cycle}
use Rattle.sq_lookup.specs.Tables.{value_at}
use Rattle.sq_lookup.proofs.Following.{cycle_on}
use Rattle.sq_lookup.proofs.Noting.{known, are_on, closed_but, stays_known, fewer, is_nothing}
use Rattle.sq_lookup.proofs.Resolving.{resolves_here}
use Rattle.sq_lookup.proofs.Targets.{jump_there}
use Rattle.sq_lookup.proofs.resolutions.note_cycle.Goals as goal

pub unreachable-requires : goal.unreachable-requires
unreachable-requires c =
    let on = cycle_on c.args.graph.now.graph c.loop-found.at c.loop-found.invariant.cycle in
    let no : Some on.to ≡ None = sym on.jump ∙ sym c.jump_from.ensures ∙ c.in_default.is in
    absurd (cc)

pub loop-found-smaller : goal.loop-found-smaller
loop-found-smaller c =
    let g = c.args.graph.now.graph in
    fewer g c.loop-found.found.items c.put.new.values.items c.loop-found.at c.loop-found.at c.in_ok-put.ensures g.blocks c.loop-found.invariant.has
    (is_nothing (value_at c.loop-found.found.items c.loop-found.at) (ap is_some (ap (λ t. value_at t c.loop-found.at) (sym c.deref.ensures.value) ∙ sym c.value.ensures) ∙ c.loop-found-test.ensures))

pub loop-found-preserved : goal.loop-found-preserved
loop-found-preserved c =
    let g = c.args.graph.now.graph in
    let old = c.loop-found.found.items in
    let new = c.put.new.values.items in
    let at = c.loop-found.at in
    let walk = c.loop-found.invariant in
    let jump : jump_from g at ≡ Some c.in-Some.to = sym c.jump_from.ensures ∙ c.in-Some.is in
    let on = cycle_on g at walk.cycle in
    let same : on.to ≡ c.in-Some.to = let e : Some on.to ≡ Some c.in-Some.to = sym on.jump ∙ jump in cc in
    let here = known g old new at at c.in_ok-put.ensures in
    record {
      has = jump_there g at c.in-Some.to c.learn.ensures.rules jump;
      cycle = subst (λ n. is_on_cycle g n ≡ true) same on.cycle;
      are = are_on g old new at at c.in_ok-put.ensures (resolves_here g (length g.blocks) at walk.cycle) walk.are;
      closed = closed_but g old new at at c.in_ok-put.ensures c.in-Some.to jump walk.closed;
      known =
          elim walk.known [
            | inl is ↦ inr (subst (λ n. IsSome (value_at new n)) is here)
            | inr was ↦ inr (stays_known g old new at at c.in_ok-put.ensures c.args.block was)
          ];
    }
