use Rattle.std.proofs.Common.{◌||◌}
use Rattle.sq_chain.specs.Bare.{is_it}
use Rattle.sq_chain.proofs.local.drop_at_seams.Goals as goal

pub returns-clause-solid : goal.returns-clause-solid
returns-clause-solid c = λ done may but.
    let fell = c.args.fell in
    c.drop_bare-3.ensures.solid done may
    (c.drop_bare-2.ensures.solid c.if-not-drop_bare-2.false (λ n. is_it fell.second n || may n)
    (c.drop_bare.ensures.solid c.if-not-drop_bare.false (λ n. is_it fell.third n || (is_it fell.second n || may n)) but))

pub returns-clause-led : goal.returns-clause-led
returns-clause-led c = λ done leads led.
    c.drop_bare-3.ensures.led done leads
    (c.drop_bare-2.ensures.led c.if-not-drop_bare-2.false leads (c.drop_bare.ensures.led c.if-not-drop_bare.false leads led))
