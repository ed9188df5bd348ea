use Rattle.std.proofs.Common.{take, drop, ap, ◌∙◌}
use Rattle.sq_finger.proofs.Placing.{to_end}
use Rattle.sq_finger.proofs.places.window.Goals as goal

pub returns : goal.returns
returns c =
    let n = c.args.n in
    let at = c.args.place.at in
    ap (take n) (to_end c.items.result.now at) ∙ ap (λ items. take n (drop at items)) c.items.ensures
