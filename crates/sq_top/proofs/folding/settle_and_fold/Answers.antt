use Rattle.std.proofs.Common.{◌≡◌, Ok, ap, sym, subst, ◌∙◌}
use Rattle.sq_graph.specs.Graph.{Graph}
use Rattle.sq_graph.specs.Room.{GraphAndRoom}
use Rattle.sq_drive.specs.Replaying.{IsLess}
use Rattle.sq_drive.specs.Rows.{IsLeftoverFree}
use Rattle.sq_drive.proofs.Replays.{less_itself, less_through}
use Rattle.sq_top.proofs.folding.settle_and_fold.Goals as goal

pub loop-alloc-init : goal.loop-alloc-init
loop-alloc-init c = record { less = less_itself c.args.graph.now.graph c.requires.canonical; slotted = c.requires.slotted }

-- the last fold leaves the graph as settling made it
pub returns-then-not-branch-clause-less : goal.returns-then-not-branch-clause-less
returns-then-not-branch-clause-less c =
    let old = c.args.graph.now.graph in
    let settled = c.settle.new.graph.graph in
    let same : c.fold_once.new.graph.graph ≡ settled = ap (λ (v : GraphAndRoom). v.graph) (c.fold_once.ensures.same (c.in_ok-fold_once.was ∙ ap Ok c.if-not-branch.true)) in
    subst (IsLess old) (sym same) (less_through old c.loop-alloc.graph.graph settled c.loop-alloc.invariant.less c.in_ok-settle.ensures.less)

pub returns-then-not-branch-clause-left : goal.returns-then-not-branch-clause-left
returns-then-not-branch-clause-left c =
    let same : c.fold_once.new.graph.graph ≡ c.settle.new.graph.graph = ap (λ (v : GraphAndRoom). v.graph) (c.fold_once.ensures.same (c.in_ok-fold_once.was ∙ ap Ok c.if-not-branch.true)) in
    subst (λ (g : Graph). IsLeftoverFree g) (sym same) c.in_ok-settle.ensures.left

pub loop-alloc-preserved : goal.loop-alloc-preserved
loop-alloc-preserved c =
    let old = c.args.graph.now.graph in
    let settled = c.settle.new.graph.graph in
    let next = c.fold_once.new.graph.graph in
    let folds = c.in_ok-fold_once.was ∙ ap Ok c.if-not-branch.false in
    record {
      less = less_through old settled next (less_through old c.loop-alloc.graph.graph settled c.loop-alloc.invariant.less c.in_ok-settle.ensures.less) (c.fold_once.ensures.less folds);
      slotted = c.fold_once.ensures.slotted folds;
    }
