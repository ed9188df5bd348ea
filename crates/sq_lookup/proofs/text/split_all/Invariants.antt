use Rattle.sq_lookup.specs.Standing.{IsKept, IsChanged}
use Rattle.sq_lookup.proofs.text.split_all.Given as goal

abbrev pub invariant-loop-number : goal.invariant-loop-number
invariant-loop-number l =
    record {
      kept : IsKept l.text;
      same : IsChanged (λ w. w) l.fn.text l.text;
    }
