use Rattle.std.proofs.Common.{◌≡◌, ℕ, List, None, get_or, ap}
use Rattle.std.proofs.lemmas.Result.{IfOk-weaker}
use Rattle.sq_lookup.specs.Lowering.{nowhere}
use Rattle.sq_chain.specs.Places.{address_behind, placed_at}
use Rattle.sq_chain.proofs.survey.room_for.Goals as goal

pub returns-clause-none : goal.returns-clause-none
returns-clause-none c =
    IfOk-weaker c.new.result (λ (room : List ℕ). (n : ℕ) → get_or room n nowhere ≡ nowhere) (λ (room : List ℕ). (n : ℕ) → placed_at room n ≡ None) (λ room none n. ap address_behind (none n)) c.new.ensures.none
