use Rattle.std.proofs.Common.{List, ℕ, Ok, sym, ap, ◌∙◌, subst}
use Rattle.std.specs.Prelude.{IfSome}
use Rattle.sq_outline.specs.Sets.{CanMake}
use Rattle.sq_outline.proofs.Choosing.{no_set, some_cut}
use Rattle.sq_outline.proofs.make.find_made.Goals as goal

pub returns-in_ok-cut-in-Some-clause-none : goal.returns-in_ok-cut-in-Some-clause-none
returns-in_ok-cut-in-Some-clause-none c = λ e.
    let g = c.args.graph.now.graph in
    let can = subst (λ found. IfSome found (λ set. CanMake g set.0 set.1.items)) c.in-Some.is c.in_ok-first.ensures.some in
    absurd (some_cut g c.in-Some.first c.deref.result.now c.in_ok-cut-in-Some.cut c.in_ok-cut-in-Some.ensures (subst (λ (blocks : List ℕ). CanMake g c.in-Some.first blocks) (sym c.deref.ensures.value) can) (c.admit_make.ensures.none e))

pub returns-in-None-clause-none : goal.returns-in-None-clause-none
returns-in-None-clause-none c = λ e cut candidate.
    no_set c.args.graph.now.graph (c.find_set.ensures.none (c.in_ok-first.was ∙ ap Ok c.in-None.is)) cut candidate
