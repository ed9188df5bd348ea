use Rattle.std.proofs.Common.{arith}
use Rattle.law_follow.proofs.Following.{graph_follows_itself}
use Rattle.sq_chain.proofs.Moved.{canonical_few}
use Rattle.sq_quotient.proofs.Keeping.{made_length, new_folded, saves_nothing, new_follows, new_sound, new_reach}
use Rattle.sq_quotient.proofs.folds.fold.Goals as goal

pub merged-requires : goal.merged-requires
merged-requires c =
    let few = canonical_few c.args.graph.now.graph c.requires.canonical in
    let words = c.requires.words in
    omega (arith, few, words)

pub returns-in_err-trial-clause-follows : goal.returns-in_err-trial-clause-follows
returns-in_err-trial-clause-follows c = graph_follows_itself c.args.graph.now.graph

pub widen-requires : goal.widen-requires
widen-requires c =
    let g = c.args.graph.now.graph in
    let few = canonical_few g c.requires.canonical in
    let words = c.requires.words in
    let long = made_length g c.in_ok-trial.trial.graph c.learn.ensures.rules c.requires.canonical c.in_ok-trial.ensures in
    omega (arith, few, words, long)

pub returns-in_err-widen-clause-follows : goal.returns-in_err-widen-clause-follows
returns-in_err-widen-clause-follows c = graph_follows_itself c.args.graph.now.graph

pub returns-then-words_of-clause-folded : goal.returns-then-words_of-clause-folded
returns-then-words_of-clause-folded c e =
    let g = c.args.graph.now.graph in
    new_folded g c.in_ok-trial.trial.graph c.learn.ensures.rules c.requires.canonical c.in_ok-trial.ensures c.widen.new.graph.graph c.canonical.new.self.graph c.learn-2.ensures.rules c.in_ok-widen.ensures.widened c.canonical.ensures.graph

pub returns-then-words_of-clause-follows : goal.returns-then-words_of-clause-follows
returns-then-words_of-clause-follows c =
    let g = c.args.graph.now.graph in
    new_follows g c.in_ok-trial.trial.graph c.learn.ensures.rules c.requires.canonical c.in_ok-trial.ensures c.widen.new.graph.graph c.canonical.new.self.graph c.learn-2.ensures.rules c.in_ok-widen.ensures.widened c.canonical.ensures.graph c.in_ok-widen.ensures.follows

pub returns-then-words_of-clause-sound : goal.returns-then-words_of-clause-sound
returns-then-words_of-clause-sound c s =
    let g = c.args.graph.now.graph in
    new_sound g c.in_ok-trial.trial.graph c.learn.ensures.rules c.requires.canonical c.in_ok-trial.ensures c.widen.new.graph.graph c.canonical.new.self.graph c.learn-2.ensures.rules c.in_ok-widen.ensures.widened c.canonical.ensures.graph c.in_ok-widen.ensures.sound s

pub returns-then-words_of-clause-reach : goal.returns-then-words_of-clause-reach
returns-then-words_of-clause-reach c was =
    let g = c.args.graph.now.graph in
    new_reach g c.in_ok-trial.trial.graph c.learn.ensures.rules c.requires.canonical c.in_ok-trial.ensures c.widen.new.graph.graph c.canonical.new.self.graph c.learn-2.ensures.rules c.in_ok-widen.ensures.widened c.canonical.ensures.graph c.in_ok-widen.ensures.reach

pub returns-clause-left : goal.returns-clause-left
returns-clause-left c e =
    let g = c.args.graph.now.graph in
    let more = c.if-words_of.false in
    let one = c.words_of.ensures in
    let two = c.words_of-2.ensures in
    saves_nothing g c.in_ok-trial.trial.graph c.learn.ensures.rules c.requires.canonical c.in_ok-trial.ensures c.widen.new.graph.graph c.canonical.new.self.graph c.learn-2.ensures.rules c.in_ok-widen.ensures.widened c.canonical.ensures.graph
    (omega (arith, more, one, two))

pub returns-clause-follows : goal.returns-clause-follows
returns-clause-follows c = graph_follows_itself c.args.graph.now.graph
