use Rattle.std.proofs.Common.{arith}
use Rattle.sq_num.specs.declared.packed.TheConstants.Savings.{NONE}
use Rattle.law_follow.proofs.Following.{graph_follows_through}
use Rattle.sq_pass.proofs.Rewriting.{rewritten_itself, rewritten_through}
use Rattle.sq_drive.specs.Rows.{IsCandidate, described}
use Rattle.sq_drive.proofs.Moves.{leftover_free_is_still}
use Rattle.sq_drive.proofs.settling.settle.Goals as goal

pub loop-savings-init : goal.loop-savings-init
loop-savings-init c = rewritten_itself IsCandidate described NONE c.args.graph.now.graph c.requires.canonical

pub returns-then-words_of-before-clause-rewritten : goal.returns-then-words_of-before-clause-rewritten
returns-then-words_of-before-clause-rewritten c =
    rewritten_through IsCandidate described NONE c.loop-savings.savings c.in_ok-savings.savings c.args.graph.now.graph c.loop-savings.graph.graph c.settle_from.new.graph.graph
    c.loop-savings.invariant c.in_ok-savings.ensures.rewritten

pub returns-then-words_of-before-clause-left : goal.returns-then-words_of-before-clause-left
returns-then-words_of-before-clause-left c = c.in_ok-savings.ensures.left (omega (arith, c.if-words_of-before.true, c.words_of.ensures, c.words_of-before.ensures))

pub returns-then-words_of-before-clause-still : goal.returns-then-words_of-before-clause-still
returns-then-words_of-before-clause-still c = leftover_free_is_still c.settle_from.new.graph.graph (returns-then-words_of-before-clause-left c)

pub returns-then-words_of-before-clause-follows : goal.returns-then-words_of-before-clause-follows
returns-then-words_of-before-clause-follows c = (returns-then-words_of-before-clause-rewritten c).lighter.follows

pub loop-savings-preserved : goal.loop-savings-preserved
loop-savings-preserved c =
    rewritten_through IsCandidate described NONE c.loop-savings.savings c.in_ok-savings.savings c.args.graph.now.graph c.loop-savings.graph.graph c.settle_from.new.graph.graph
    c.loop-savings.invariant c.in_ok-savings.ensures.rewritten

pub loop-savings-smaller : goal.loop-savings-smaller
loop-savings-smaller c = omega (arith, c.if-words_of-before.false, c.words_of.ensures, c.words_of-before.ensures, c.in_ok-savings.ensures.rewritten.lighter.words)

pub returns-in_err-savings-clause-follows : goal.returns-in_err-savings-clause-follows
returns-in_err-savings-clause-follows c =
    graph_follows_through c.args.graph.now.graph c.loop-savings.graph.graph c.settle_from.new.graph.graph c.loop-savings.invariant.lighter.follows c.settle_from.ensures.follows
