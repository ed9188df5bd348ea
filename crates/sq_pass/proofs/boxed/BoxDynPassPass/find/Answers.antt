use Rattle.std.proofs.Common.{◌≡◌, Ok, None, subst}
use Rattle.std.specs.Result.{IfOk}
use Rattle.std.specs.Option.{IfSome}
use Rattle.sq_pass.specs.declared.cut.Cut.{Cut}
use Rattle.sq_pass.proofs.boxed.BoxDynPassPass.find.Goals as goal

pub returns-clause-some : goal.returns-clause-some
returns-clause-some g c =
    subst (λ p. IfOk c.find.result (λ found. IfSome found (λ cut. (goal.Pass-dyn g p).is_candidate p.1 c.args.graph.now.graph cut))) c.as_ref.ensures.1 c.find.ensures.0

pub returns-clause-none : goal.returns-clause-none
returns-clause-none g c =
    subst (λ p. c.find.result ≡ Ok None → (cut : Cut) → ¬ (goal.Pass-dyn g p).is_candidate p.1 c.args.graph.now.graph cut) c.as_ref.ensures.1 c.find.ensures.1
