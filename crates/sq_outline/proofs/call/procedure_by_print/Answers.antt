use Rattle.std.proofs.Common.{nat_eq, sym, subst, ◌∙◌}
use Rattle.std.specs.HashMap.{get}
use Rattle.sq_outline.specs.Spans.{IsIn}
use Rattle.sq_outline.proofs.Printing.{in_span}
use Rattle.sq_outline.proofs.call.procedure_by_print.Goals as goal

pub returns-in_err-span-clause-none : goal.returns-in_err-span-clause-none
returns-in_err-span-clause-none c = λ none procedure there may.
    subst (λ span. IsIn span procedure) (sym c.span_of.ensures ∙ c.in_err-span.was) (in_span c.args.graph.now.graph c.args.block (get nat_eq c.args.callees.now.spans) c.learn.ensures.rules c.requires.callees.spans procedure there may)

pub returns-clause-none : goal.returns-clause-none
returns-clause-none c = λ none procedure there may.
    c.procedure_for.ensures.none none procedure (subst (λ span. IsIn span procedure) (sym c.span_of.ensures ∙ c.in_ok-span.was) (in_span c.args.graph.now.graph c.args.block (get nat_eq c.args.callees.now.spans) c.learn.ensures.rules c.requires.callees.spans procedure there may)) there may
