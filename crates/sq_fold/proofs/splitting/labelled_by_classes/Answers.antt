use Rattle.std.proofs.Common.{length, ap, ◌∙◌, subst}
use Rattle.std.proofs.lemmas.Result.{IfOk-weaker}
use Rattle.sq_fold.specs.Splitting.{AreLabelled, HaveSameStable}
use Rattle.sq_fold.specs.Stable.{IsFinerBy}
use Rattle.sq_fold.proofs.Refining.{finer_many}
use Rattle.sq_fold.proofs.Relabelling.{same_stable}
use Rattle.sq_fold.proofs.splitting.labelled_by_classes.Goals as goal

pub with_labels-requires : goal.with_labels-requires
with_labels-requires c = ap length c.deref.ensures.value ∙ finer_many c.args.nodes.now c.classes-2.result.now c.in_ok-labels.labels.items c.in_ok-labels.ensures

pub returns : goal.returns
returns c =
    let nodes = c.args.nodes.now in
    let made = subst (λ cs. IsFinerBy nodes cs c.in_ok-labels.labels.items) c.classes-2.ensures c.in_ok-labels.ensures in
    IfOk-weaker c.with_labels.result (λ found. AreLabelled nodes c.deref.result.now found.items) (λ found. HaveSameStable nodes found.items)
    (λ found are. same_stable nodes found.items c.in_ok-classes.classes c.in_ok-labels.labels.items c.in_ok-classes.ensures made (subst (λ ls. AreLabelled nodes ls found.items) c.deref.ensures.value are))
    c.with_labels.ensures
