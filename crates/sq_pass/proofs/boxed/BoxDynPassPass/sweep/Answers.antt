use Rattle.std.proofs.Common.{subst}
use Rattle.std.specs.Result.{IfOk}
use Rattle.sq_pass.specs.Rewrites.{IsRewritten}
use Rattle.sq_pass.proofs.boxed.BoxDynPassPass.sweep.Goals as goal

pub returns-clause-rewritten : goal.returns-clause-rewritten
returns-clause-rewritten g c =
    subst (λ p. IfOk c.sweep.result (λ after. IsRewritten ((goal.Pass-dyn g p).is_candidate p.1) ((goal.Pass-dyn g p).described p.1) c.args.savings after c.args.graph.now.graph c.sweep.new.graph.graph)) c.as_ref.ensures.1 c.sweep.ensures.0
