use Rattle.sq_pass.specs.Rewrites.{IsRewritten}
use Rattle.sq_jumps.specs.Candidates.{IsCandidate, described}
use Rattle.sq_jumps.specs.Invert.{IsStillSafe}
use Rattle.sq_lookup.specs.Tables.{number_at}
use Rattle.sq_jumps.proofs.invert.invert_each.Given as goal

abbrev pub invariant-loop-name : goal.invariant-loop-name
invariant-loop-name l =
    record {
      rewritten : IsRewritten IsCandidate described l.fn.savings l.after l.initial.graph.graph l.graph.graph;
      survey : IsStillSafe (number_at l.survey.addresses) l.survey.used l.graph.graph;
    }
