use Rattle.std.proofs.Common.{◌<◌, sym, ap, subst, arith}
use Rattle.sq_num.specs.declared.packed.TheConstants.Savings.{NONE}
use Rattle.sq_graph.specs.Graph.{Graph}
use Rattle.sq_graph.specs.Room.{GraphAndRoom}
use Rattle.sq_graph.specs.Slotted.{IsSlotted, slotted}
use Rattle.sq_graph.specs.Words.{words_of}
use Rattle.sq_graph.proofs.RenamedReach.{alike_words}
use Rattle.sq_graph.proofs.Slotting.{slotted_alike, slotted_again}
use Rattle.law_follow.specs.Follows.{Follows}
use Rattle.law_follow.proofs.Following.{graph_follows_through}
use Rattle.sq_pass.specs.Rewrites.{IsRewritten}
use Rattle.sq_pass.proofs.Rewriting.{rewritten_itself, rewritten_through, rewritten_none, rewritten_named}
use Rattle.sq_drive.specs.Rows.{IsCandidate, described, saves_a_word}
use Rattle.sq_drive.proofs.Moves.{leftover_free_is_still}
use Rattle.sq_drive.proofs.Slots.{slotted_lighter}
use Rattle.sq_drive.proofs.settling.settle_slotted.Goals as goal

pub loop-savings-init : goal.loop-savings-init
loop-savings-init c = record {
  rewritten = rewritten_itself IsCandidate described NONE c.args.graph.now.graph c.requires.canonical;
  slotted = c.requires.slotted;
}

-- what is left after a round that lost no word is what was there before it
pub returns-then-words_of-before-clause-rewritten : goal.returns-then-words_of-before-clause-rewritten
returns-then-words_of-before-clause-rewritten c =
    rewritten_through IsCandidate described NONE c.loop-savings.savings c.in_ok-savings.savings c.args.graph.now.graph c.loop-savings.graph.graph c.settle_from.new.graph.graph
    c.loop-savings.invariant.rewritten c.in_ok-savings.ensures.rewritten

pub returns-then-words_of-before-clause-slotted : goal.returns-then-words_of-before-clause-slotted
returns-then-words_of-before-clause-slotted c =
    subst IsSlotted
    (sym (rewritten_none IsCandidate described saves_a_word c.loop-savings.savings c.in_ok-savings.savings c.loop-savings.graph.graph c.settle_from.new.graph.graph c.in_ok-savings.ensures.rewritten
    (omega (arith, c.if-words_of-before.true, c.words_of.ensures, c.words_of-before.ensures))))
    c.loop-savings.invariant.slotted

pub returns-then-words_of-before-clause-left : goal.returns-then-words_of-before-clause-left
returns-then-words_of-before-clause-left c = c.in_ok-savings.ensures.left (omega (arith, c.if-words_of-before.true, c.words_of.ensures, c.words_of-before.ensures))

pub returns-then-words_of-before-clause-still : goal.returns-then-words_of-before-clause-still
returns-then-words_of-before-clause-still c = leftover_free_is_still c.settle_from.new.graph.graph (returns-then-words_of-before-clause-left c)

pub returns-then-words_of-before-clause-follows : goal.returns-then-words_of-before-clause-follows
returns-then-words_of-before-clause-follows c = (returns-then-words_of-before-clause-rewritten c).lighter.follows

pub loop-savings-preserved : goal.loop-savings-preserved
loop-savings-preserved c =
    let old = c.args.graph.now.graph in
    let mid = c.settle_from.new.graph.graph in
    let round : IsRewritten IsCandidate described c.loop-savings.savings c.in_ok-savings.savings c.loop-savings.graph.graph mid = c.in_ok-savings.ensures.rewritten in
    let done = rewritten_through IsCandidate described NONE c.loop-savings.savings c.in_ok-savings.savings old c.loop-savings.graph.graph mid c.loop-savings.invariant.rewritten round in
    let fewer : words_of mid < words_of old = omega (arith, c.if-words_of-before.false, c.words_of.ensures, c.words_of-before.ensures, round.lighter.words, c.loop-savings.invariant.rewritten.lighter.words) in
    let kept = slotted_lighter mid c.learn.ensures.rules done.lighter.canonical in
    record {
      rewritten = subst (IsRewritten IsCandidate described NONE c.in_ok-savings.savings old) (sym c.in_ok-name_by_slots.ensures.graph) (rewritten_named IsCandidate described mid (slotted mid) (slotted_alike mid) NONE c.in_ok-savings.savings old done fewer kept);
      slotted = subst IsSlotted (sym c.in_ok-name_by_slots.ensures.graph) (slotted_again mid c.learn.ensures.rules);
    }

pub loop-savings-smaller : goal.loop-savings-smaller
loop-savings-smaller c =
    let mid = c.settle_from.new.graph.graph in
    let round : IsRewritten IsCandidate described c.loop-savings.savings c.in_ok-savings.savings c.loop-savings.graph.graph mid = c.in_ok-savings.ensures.rewritten in
    let same = alike_words mid (slotted mid) (slotted_alike mid) in
    subst (λ (g : Graph). words_of g < words_of c.loop-savings.graph.graph) (sym c.in_ok-name_by_slots.ensures.graph)
    (omega (arith, same, c.if-words_of-before.false, c.words_of.ensures, c.words_of-before.ensures, round.lighter.words))

pub returns-in_err-savings-clause-follows : goal.returns-in_err-savings-clause-follows
returns-in_err-savings-clause-follows c =
    graph_follows_through c.args.graph.now.graph c.loop-savings.graph.graph c.settle_from.new.graph.graph c.loop-savings.invariant.rewritten.lighter.follows c.settle_from.ensures.follows

pub returns-in_err-name_by_slots-clause-follows : goal.returns-in_err-name_by_slots-clause-follows
returns-in_err-name_by_slots-clause-follows c =
    let follows = graph_follows_through c.args.graph.now.graph c.loop-savings.graph.graph c.settle_from.new.graph.graph c.loop-savings.invariant.rewritten.lighter.follows c.settle_from.ensures.follows in
    subst (Follows c.args.graph.now.graph) (sym (ap (λ (v : GraphAndRoom). v.graph) c.in_err-name_by_slots.ensures.err)) follows
