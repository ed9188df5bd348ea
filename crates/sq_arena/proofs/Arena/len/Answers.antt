use Rattle.std.proofs.Common.{arith}
use Rattle.sq_arena.specs.Links.{listed}
use Rattle.sq_arena.proofs.EntriesLaws.{distinct_keys}
use Rattle.sq_arena.proofs.Arena.len.Goals as goal

pub returns-clause-distinct : goal.returns-clause-distinct
returns-clause-distinct g c =
    rw (← c.self.view_is) (distinct_keys (listed c.self.inside.links c.self.inside.len) (λ p. omega (arith, c.self.invariant.linked.distinct p)))
