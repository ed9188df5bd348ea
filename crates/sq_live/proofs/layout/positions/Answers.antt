use Rattle.std.proofs.Common.{◌≡◌, ◌∙◌, ◌+◌, ◌-◌, ap, sym, drop, get_or, nat_eq, Some, cond, arith}
use Rattle.std.proofs.lemmas.List.{drop_more}
use Rattle.sq_live.specs.Exits.{position_in, position_at}
use Rattle.sq_live.proofs.layout.positions.Goals as goal

pub loop-k-preserved : goal.loop-k-preserved
loop-k-preserved c = λ name.
    let names = c.args.names.now in
    let i = c.loop-k.k - 1 in
    let next : i + 1 ≡ c.loop-k.k = omega arith in
    let old : position_at c.loop-k.positions.items name ≡ position_in (drop (i + 1) names) (i + 1) name = c.loop-k.invariant name ∙ ap (λ k. position_in (drop k names) k name) (sym next) in
    rw (drop_more names i 0 (omega arith))
    (c.in_ok-put.ensures name ∙ ap (λ o. cond (nat_eq (get_or names i 0) name) (Some i) o) old)
