use Rattle.std.proofs.Common.{List, ℕ, is_some, sym, ap, ◌∙◌}
use Rattle.sq_lookup.specs.Names.{is_listed}
use Rattle.sq_lookup.specs.Tables.{value_at}
use Rattle.sq_lookup.proofs.Tabling.{listed_is}
use Rattle.sq_lookup.proofs.names.Names.has.Goals as goal

pub returns : goal.returns
returns c =
    c.is_some.ensures ∙ ap is_some (c.value.ensures ∙ ap (λ marks. value_at marks c.args.name) c.deref.ensures.value) ∙ sym (listed_is c.self.inside.marks.items c.args.name) ∙ ap (λ (ns : List ℕ). is_listed ns c.args.name) c.self.view_is
