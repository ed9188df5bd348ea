use Rattle.std.proofs.Common.{◌≡◌, Option, None, Some, true, is_some, refl, ◌∙◌, sym, ap}
use Rattle.std.specs.Prelude.{IfSome}
use Rattle.sq_graph.proofs.LinkReads.{value_of-links}
use Rattle.sq_outline.proofs.ways.slot_of.Goals as goal

where_some : {T : Type 0} {P : Type 0} (o : Option T) → (is_some o ≡ true → P) → IfSome o (λ x. P)
where_some None then = tt
where_some (Some x) then = then refl

pub returns : goal.returns
returns c =
    where_some c.copied.result (λ some.
    sym (value_of-links c.links.result.now.entries c.args.graph.now.graph.blocks c.args.block c.links.ensures.blocks)
    ∙ ap is_some (sym c.get.ensures)
    ∙ ap is_some (sym c.copied.ensures)
    ∙ some)
