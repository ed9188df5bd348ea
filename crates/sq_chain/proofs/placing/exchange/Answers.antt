use Rattle.std.proofs.Common.{◌∙◌, ◌≤◌, ◌/◌, ap, arith}
use Rattle.sq_lookup.specs.declared.parts.Pieces.{Pieces}
use Rattle.sq_lookup.specs.Exchanging.{AreInOrder}
use Rattle.sq_lookup.specs.Lowering.{nowhere}
use Rattle.sq_chain.specs.Places.{placed_at}
use Rattle.sq_chain.proofs.Tabled.{exchanged_at}
use Rattle.sq_chain.proofs.placing.exchange.Goals as goal

pub returns : goal.returns
returns c = λ n.
    let seams = c.args.seams in
    let whole = c.requires.whole in
    let pieces : Pieces = record { first = seams.first / 4; second = seams.second / 4; end = seams.end / 4 } in
    let order : AreInOrder pieces = record {
      first = omega (arith, whole.first, whole.second, c.requires.first);
      second = omega (arith, whole.second, whole.end, c.requires.second);
    } in
    let few : pieces.end ≤ nowhere = omega (arith, whole.end, c.requires.few) in
    ap (λ t. placed_at t n) c.exchange.ensures ∙ exchanged_at pieces seams order few whole.first whole.second whole.end c.args.addresses.now n
