use Rattle.std.proofs.Common.{◌≡◌, sym, ◌∙◌}
use Rattle.sq_tail.specs.contracts.resolved.ResolvedPartialEq.TheImpl as resolved_eq
use Rattle.sq_tail.proofs.BodiesEqual.{resolved_is, resolved_itself, same_meaning, one_meaning}
use Rattle.sq_tail.proofs.bodies.go_on_alike.Goals as goal

pub returns : goal.returns
returns c =
    let a = c.resolved_term.result in
    let b = c.resolved_term-2.result in
    let first = c.resolved_term.ensures in
    let second = c.resolved_term-2.ensures in
    let told : c.eq.result ≡ (resolved_eq.ghosts).eq c.resolved_term.result c.resolved_term-2.result = c.eq.ensures in (
      λ t. first ∙ (same_meaning a b (resolved_is a b (sym told ∙ t)) ∙ sym second),
      λ same. told ∙ resolved_itself a b (one_meaning a b (sym first ∙ (same ∙ second))),
    )
