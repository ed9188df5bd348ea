use Rattle.std.proofs.Common.{◌-◌, ◌+◌, sym, ap, subst, arith}
use Rattle.law_follow.specs.Follows.{Follows}
use Rattle.law_follow.proofs.Following.{graph_follows_itself}
use Rattle.sq_tail.specs.StillDead.{IsJoinedWhole}
use Rattle.sq_tail.proofs.Sweeping.{room_for_one, pair_words, whole_rewritten}
use Rattle.sq_tail.proofs.sweep.rewriting.rewrite_pair.Goals as goal

pub reserve-requires : goal.reserve-requires
reserve-requires c = room_for_one c.args.graph.now c.learn.ensures.small c.requires.canonical (omega (arith, c.requires.words))

pub returns-in_err-reserve-clause-follows : goal.returns-in_err-reserve-clause-follows
returns-in_err-reserve-clause-follows c = subst (Follows c.args.graph.now.graph) (sym c.reserve.ensures.graph) (graph_follows_itself c.args.graph.now.graph)

pub count-requires : goal.count-requires
count-requires c =
    let few = pair_words c.args.graph.now.graph c.args.dropped c.args.kept c.args.length c.learn.ensures.rules c.requires.candidate in
    omega (arith, few, c.end_words.ensures, c.requires.words)

pub returns-clause-rewritten : goal.returns-clause-rewritten
returns-clause-rewritten c =
    let joined = subst (λ g. IsJoinedWhole g c.args.dropped c.args.kept c.args.length c.join_whole.new.graph.graph) c.reserve.ensures.graph c.in_ok-join_whole.ensures.joined in
    whole_rewritten c.args.graph.now.graph c.join_whole.new.graph.graph c.args.dropped c.args.kept c.args.length (c.args.length - 1 + c.end_words.result) c.args.savings c.count.result c.learn.ensures.rules c.requires.candidate joined
    (ap (λ w. c.args.length - 1 + w) c.end_words.ensures) c.count.ensures.value

pub returns-clause-follows : goal.returns-clause-follows
returns-clause-follows c = (returns-clause-rewritten c).lighter.follows
