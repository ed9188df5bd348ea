use Rattle.std.proofs.Common.{◌<◌, ◌≤◌, List, ℕ, None, get_or, refl, sym, subst}
use Rattle.sq_lookup.specs.Lowering.{nowhere}
use Rattle.sq_lookup.proofs.Viewing.{none_between}
use Rattle.sq_lookup.proofs.words_before.WordsBefore.between.Goals as goal

pub returns-clause-none : goal.returns-clause-none
returns-clause-none c = λ none n from.
    subst (λ (ws : List ℕ). c.args.last < get_or ws n nowhere) c.self.view_is
    (none_between c.self.inside.text None c.args.first c.args.last c.requires (c.find.ensures.none none) n refl (subst (λ (ws : List ℕ). c.args.first ≤ get_or ws n nowhere) (sym c.self.view_is) from))
