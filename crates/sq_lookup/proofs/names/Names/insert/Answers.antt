use Rattle.std.proofs.Common.{[], ◌∷◌, List, ℕ, subst}
use Rattle.sq_lookup.specs.Names.{Adds}
use Rattle.sq_lookup.specs.Tables.{names_from}
use Rattle.sq_lookup.proofs.Tabling.{one_added}
use Rattle.sq_lookup.proofs.names.Names.insert.Goals as goal

pub returns : goal.returns
returns c =
    subst (λ (ns : List ℕ). Adds (c.args.name ∷ []) ns (names_from 0 c.put.new.values.items)) c.self.view_is (one_added c.self.inside.marks.items c.put.new.values.items c.args.name _ c.in_ok-put.ensures)
