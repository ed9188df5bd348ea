use Rattle.std.proofs.Common.{◌≡◌, ℕ, ◌<◌, nat_eq}
use Rattle.std.specs.HashMap.{get}
use Rattle.sq_graph.specs.Blocks.{body_of}
use Rattle.sq_outline.specs.Prints.{print_of_items}
use Rattle.sq_outline.specs.Spans.{IsIn}
use Rattle.sq_outline.proofs.groups.procedure_prints.Given as goal

abbrev pub invariant-loop-procedure : goal.invariant-loop-procedure
invariant-loop-procedure l = (p number : ℕ) → p < l.procedure → print_of_items (body_of l.graph.graph p) ≡ number → IsIn (get nat_eq l.prints number) p
