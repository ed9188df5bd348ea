use Rattle.sq_chain.proofs.Both.{other_branch, both_wider}
use Rattle.sq_chain.proofs.local.widen_both.Goals as goal

pub widen_some-requires-clause-branch : goal.widen_some-requires-clause-branch
widen_some-requires-clause-branch c =
    other_branch c.args.graph.now.graph c.args.wide c.learn.ensures.rules c.requires.wide c.widen_some-kept.new.graph.graph c.widen_some-kept.ensures.wider c.widen_some-kept.ensures.same

pub returns-clause-widened : goal.returns-clause-widened
returns-clause-widened c =
    (both_wider c.args.graph.now.graph c.args.wide c.learn.ensures.rules c.requires.wide c.widen_some-kept.new.graph.graph c.widen_some-kept.ensures.wider c.widen_some-kept.ensures.same c.widen_some.new.graph.graph c.widen_some.ensures.wider c.widen_some.ensures.same).wide

pub returns-clause-rules : goal.returns-clause-rules
returns-clause-rules c =
    (both_wider c.args.graph.now.graph c.args.wide c.learn.ensures.rules c.requires.wide c.widen_some-kept.new.graph.graph c.widen_some-kept.ensures.wider c.widen_some-kept.ensures.same c.widen_some.new.graph.graph c.widen_some.ensures.wider c.widen_some.ensures.same).rules

pub returns-clause-follows : goal.returns-clause-follows
returns-clause-follows c =
    (both_wider c.args.graph.now.graph c.args.wide c.learn.ensures.rules c.requires.wide c.widen_some-kept.new.graph.graph c.widen_some-kept.ensures.wider c.widen_some-kept.ensures.same c.widen_some.new.graph.graph c.widen_some.ensures.wider c.widen_some.ensures.same).follows

pub returns-clause-sound : goal.returns-clause-sound
returns-clause-sound c =
    (both_wider c.args.graph.now.graph c.args.wide c.learn.ensures.rules c.requires.wide c.widen_some-kept.new.graph.graph c.widen_some-kept.ensures.wider c.widen_some-kept.ensures.same c.widen_some.new.graph.graph c.widen_some.ensures.wider c.widen_some.ensures.same).sound

pub returns-clause-led : goal.returns-clause-led
returns-clause-led c = λ done leads led. c.widen_some.ensures.led done leads (c.widen_some-kept.ensures.led (c.widen_some.ensures.kept done) leads led)
