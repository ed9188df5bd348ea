use Rattle.std.proofs.lemmas.Result.{on_ok_weaker}
use Rattle.sq_lift.proofs.Reaching.{reaches_then}
use Rattle.sq_lift.proofs.search.Search.visit_insn.Goals as goal

pub returns : goal.returns
returns c =
    let jumps = rw c.jump_target.ensures at c.in_ok-reach_some.ensures in
    let halves = rw c.half_target.ensures at c.in_ok-reach_some-2.ensures in
    on_ok_weaker c.reach_next.result (reaches_then (reaches_then jumps halves)) c.reach_next.ensures
