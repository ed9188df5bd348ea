use Rattle.std.proofs.Common.{List, ℕ, Ok, sym, ap, ◌∙◌, subst}
use Rattle.sq_outline.specs.Made.{AreMade}
use Rattle.sq_outline.proofs.Choosing.{completes_made}
use Rattle.sq_outline.proofs.make.admit_make.Goals as goal

pub returns-in-None-clause-none : goal.returns-in-None-clause-none
returns-in-None-clause-none c = λ e given done candidate.
    c.link_of.ensures.none (c.in_ok-link.was ∙ ap Ok c.in-None.is) given.link
    (subst (λ (blocks : List ℕ). AreMade c.args.graph.now.graph blocks given.link) (sym c.as_slice.ensures) (completes_made c.args.graph.now.graph c.args.cut given c.requires.row done candidate))
