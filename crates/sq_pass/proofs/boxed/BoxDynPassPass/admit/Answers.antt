use Rattle.std.proofs.Common.{◌≡◌, Ok, None, subst}
use Rattle.std.specs.Result.{IfOk}
use Rattle.std.specs.Option.{IfSome}
use Rattle.sq_pass.specs.declared.cut.Cut.{Cut}
use Rattle.sq_pass.specs.Cuts.{IsCompleted}
use Rattle.sq_pass.proofs.boxed.BoxDynPassPass.admit.Goals as goal

pub returns-clause-some : goal.returns-clause-some
returns-clause-some g c =
    subst (λ p. IfOk c.admit.result (λ found. IfSome found (λ given. (goal.Pass-dyn g p).is_candidate p.1 c.args.graph.now.graph given × IsCompleted c.args.cut given))) c.as_ref.ensures.1 c.admit.ensures.0

pub returns-clause-none : goal.returns-clause-none
returns-clause-none g c =
    subst (λ p. c.admit.result ≡ Ok None → (given : Cut) → IsCompleted c.args.cut given → ¬ (goal.Pass-dyn g p).is_candidate p.1 c.args.graph.now.graph given) c.as_ref.ensures.1 c.admit.ensures.1
