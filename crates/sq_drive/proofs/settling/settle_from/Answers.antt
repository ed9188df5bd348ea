use Rattle.std.proofs.Common.{◌<◌, Ok, ap, ◌∙◌, sym, subst, arith}
use Rattle.sq_graph.specs.Graph.{Graph}
use Rattle.sq_graph.specs.Words.{words_of}
use Rattle.law_follow.specs.Follows.{Follows}
use Rattle.law_follow.proofs.Following.{graph_follows_through}
use Rattle.sq_pass.specs.Rewrites.{IsRewritten}
use Rattle.sq_pass.proofs.Rewriting.{rewritten_itself, rewritten_through}
use Rattle.sq_drive.specs.Rows.{IsCandidate, described, IsLeftoverFree}
use Rattle.sq_drive.proofs.Moves.{by_rows, none_left, rewritten_on_late}
use Rattle.sq_drive.proofs.RowPasses.{none_of_rows}
use Rattle.sq_drive.proofs.settling.settle_from.Goals as goal

pub loop-left-init : goal.loop-left-init
loop-left-init c = rewritten_itself IsCandidate described c.args.savings c.args.graph.now.graph c.requires.canonical

pub loop-left-preserved : goal.loop-left-preserved
loop-left-preserved c =
    rewritten_on_late c.args.savings c.loop-left.saved c.in_ok-savings.field-0.savings c.in-Some.after c.in_ok-saved.saved
    c.args.graph.now.graph c.loop-left.graph.graph c.settle_earlier.new.graph.graph c.rewrite_late.new.graph.graph c.go_on.new.graph.graph
    c.loop-left.invariant c.in_ok-savings.ensures.rewritten (rw c.in-Some.is at c.in_ok-after.ensures.rewritten) c.in_ok-saved.ensures.rewritten

pub returns-then-is_done-clause-rewritten : goal.returns-then-is_done-clause-rewritten
returns-then-is_done-clause-rewritten c =
    rewritten_on_late c.args.savings c.loop-left.saved c.in_ok-savings.field-0.savings c.in-Some.after c.in_ok-saved.saved
    c.args.graph.now.graph c.loop-left.graph.graph c.settle_earlier.new.graph.graph c.rewrite_late.new.graph.graph c.go_on.new.graph.graph
    c.loop-left.invariant c.in_ok-savings.ensures.rewritten (rw c.in-Some.is at c.in_ok-after.ensures.rewritten) c.in_ok-saved.ensures.rewritten

pub returns-then-is_done-clause-follows : goal.returns-then-is_done-clause-follows
returns-then-is_done-clause-follows c = (returns-then-is_done-clause-rewritten c).lighter.follows

pub returns-in_default-clause-rewritten : goal.returns-in_default-clause-rewritten
returns-in_default-clause-rewritten c =
    let old = c.args.graph.now.graph in
    let mid = c.settle_earlier.new.graph.graph in
    let rows = by_rows c.loop-left.saved c.in_ok-savings.field-0.savings c.loop-left.graph.graph mid c.in_ok-savings.ensures.rewritten in
    let settled = rewritten_through IsCandidate described c.args.savings c.loop-left.saved c.in_ok-savings.field-0.savings old c.loop-left.graph.graph mid c.loop-left.invariant rows in
    subst (IsRewritten IsCandidate described c.args.savings c.in_ok-savings.field-0.savings old) (sym (c.rewrite_late.ensures.none (c.in_ok-after.was ∙ ap Ok c.in_default.is))) settled

pub returns-in_default-clause-left : goal.returns-in_default-clause-left
returns-in_default-clause-left c = λ _.
    let mid = c.settle_earlier.new.graph.graph in
    let is = c.in_ok-after.was ∙ ap Ok c.in_default.is in
    let left : IsLeftoverFree mid = none_left mid (none_of_rows mid c.in_ok-savings.ensures.left (c.rewrite_late.ensures.windows is)) (c.rewrite_late.ensures.moves is) in
    subst (λ (g : Graph). IsLeftoverFree g) (sym (c.rewrite_late.ensures.none is)) left

pub returns-in_default-clause-follows : goal.returns-in_default-clause-follows
returns-in_default-clause-follows c =
    let old = c.args.graph.now.graph in
    let follows = graph_follows_through old c.loop-left.graph.graph c.settle_earlier.new.graph.graph c.loop-left.invariant.lighter.follows c.settle_earlier.ensures.follows in
    subst (Follows old) (sym (c.rewrite_late.ensures.none (c.in_ok-after.was ∙ ap Ok c.in_default.is))) follows

pub returns-in_err-savings-clause-follows : goal.returns-in_err-savings-clause-follows
returns-in_err-savings-clause-follows c =
    graph_follows_through c.args.graph.now.graph c.loop-left.graph.graph c.settle_earlier.new.graph.graph c.loop-left.invariant.lighter.follows c.settle_earlier.ensures.follows

pub returns-in_err-after-clause-follows : goal.returns-in_err-after-clause-follows
returns-in_err-after-clause-follows c =
    let old = c.args.graph.now.graph in
    let mid = c.settle_earlier.new.graph.graph in
    graph_follows_through old mid c.rewrite_late.new.graph.graph
    (graph_follows_through old c.loop-left.graph.graph mid c.loop-left.invariant.lighter.follows c.settle_earlier.ensures.follows) c.rewrite_late.ensures.follows

pub returns-in_err-block_count-clause-follows : goal.returns-in_err-block_count-clause-follows
returns-in_err-block_count-clause-follows c =
    graph_follows_through c.args.graph.now.graph c.loop-left.graph.graph c.settle_earlier.new.graph.graph c.loop-left.invariant.lighter.follows c.settle_earlier.ensures.follows

pub returns-in_err-spend_look-clause-follows : goal.returns-in_err-spend_look-clause-follows
returns-in_err-spend_look-clause-follows c =
    graph_follows_through c.args.graph.now.graph c.loop-left.graph.graph c.settle_earlier.new.graph.graph c.loop-left.invariant.lighter.follows c.settle_earlier.ensures.follows

pub returns-in_err-saved-clause-follows : goal.returns-in_err-saved-clause-follows
returns-in_err-saved-clause-follows c =
    let old = c.args.graph.now.graph in
    let mid = c.settle_earlier.new.graph.graph in
    let late = c.rewrite_late.new.graph.graph in
    let settled = graph_follows_through old c.loop-left.graph.graph mid c.loop-left.invariant.lighter.follows c.settle_earlier.ensures.follows in
    graph_follows_through old late c.go_on.new.graph.graph (graph_follows_through old mid late settled c.rewrite_late.ensures.follows) c.go_on.ensures.follows

-- where the sweeps were done, words were saved
pub returns-then-is_done-clause-left : goal.returns-then-is_done-clause-left
returns-then-is_done-clause-left c = λ most.
    let mid = c.settle_earlier.new.graph.graph in
    let fewer : words_of c.rewrite_late.new.graph.graph < words_of mid = rw c.in-Some.is at c.in_ok-after.ensures.fewer in
    absurd (omega (arith, most, fewer, c.loop-left.invariant.lighter.words, c.in_ok-savings.ensures.rewritten.lighter.words, c.in_ok-saved.ensures.rewritten.lighter.words))
