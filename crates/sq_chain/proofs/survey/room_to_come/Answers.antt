use Rattle.std.proofs.Common.{◌≤◌, List, ℕ, length, arith}
use Rattle.std.proofs.lemmas.Result.{IfOk-weaker}
use Rattle.sq_chain.proofs.survey.room_to_come.Goals as goal

pub returns-clause-within : goal.returns-clause-within
returns-clause-within c =
    IfOk-weaker c.room_for.result (λ (room : List ℕ). c.saturating_add.result ≤ length room) (λ (room : List ℕ). c.args.names ≤ length room)
    (λ room less. grind (arith, less, c.saturating_add.ensures, c.ranges.names.fits)) c.room_for.ensures.within
