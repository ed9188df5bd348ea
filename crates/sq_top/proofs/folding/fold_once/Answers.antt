use Rattle.std.proofs.Common.{◌<◌, Ok, sym, ap, ◌∙◌, subst}
use Rattle.sq_graph.specs.Graph.{Graph}
use Rattle.sq_graph.specs.Slotted.{IsSlotted}
use Rattle.sq_graph.specs.Words.{words_of}
use Rattle.sq_graph.proofs.Slotting.{slotted_again}
use Rattle.sq_drive.specs.Replaying.{IsLess}
use Rattle.sq_top.proofs.FoldedOutput.{folded_less, folded_fewer}
use Rattle.sq_top.proofs.folding.fold_once.Goals as goal

pub returns-clause-less : goal.returns-clause-less
returns-clause-less c e =
    let old = c.args.graph.now.graph in
    let mid = c.fold.new.graph.graph in
    subst (IsLess old) (sym c.in_ok-name_by_slots.ensures.graph)
    (folded_less old mid c.fold.ensures.follows c.fold.ensures.sound c.fold.ensures.reach c.fold.ensures.canonical (c.fold.ensures.fewer (c.in_ok-fold.was ∙ ap Ok c.if-not-branch.false)) c.learn.ensures.rules)

pub returns-clause-fewer : goal.returns-clause-fewer
returns-clause-fewer c e =
    let old = c.args.graph.now.graph in
    let mid = c.fold.new.graph.graph in
    subst (λ (g : Graph). words_of g < words_of old) (sym c.in_ok-name_by_slots.ensures.graph)
    (folded_fewer old mid c.fold.ensures.follows c.fold.ensures.sound c.fold.ensures.reach c.fold.ensures.canonical (c.fold.ensures.fewer (c.in_ok-fold.was ∙ ap Ok c.if-not-branch.false)) c.learn.ensures.rules)

pub returns-clause-slotted : goal.returns-clause-slotted
returns-clause-slotted c e = subst IsSlotted (sym c.in_ok-name_by_slots.ensures.graph) (slotted_again c.fold.new.graph.graph c.learn.ensures.rules)
