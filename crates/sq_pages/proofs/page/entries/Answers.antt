use Rattle.std.proofs.Common.{◌≡◌, replicate, ap, ◌∙◌, arith}
use Rattle.sq_pages.proofs.page.entries.Goals as goal

pub returns : goal.returns
returns g c =
    let all : c.loop-place._place ≡ 4096 = omega (arith, c.loop-place.auto, c.loop-place-test) in
    c.loop-place.invariant ∙ ap (λ n. replicate n c.args.entry) all
