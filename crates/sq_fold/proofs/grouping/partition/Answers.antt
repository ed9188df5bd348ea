use Rattle.std.proofs.Common.{◌<◌, ℕ, IsSome, length, map, Some, ap, ◌∙◌, subst, arith}
use Rattle.std.specs.HashMap.{get}
use Rattle.sq_finger.specs.Classes.{is_same_kind}
use Rattle.sq_finger.specs.Numbers.{member_at, AreNumbersOf}
use Rattle.sq_finger.proofs.Lining.{few_line}
use Rattle.sq_fold.specs.Labels.{bare_at}
use Rattle.sq_fold.specs.Index.{IsIndex}
use Rattle.sq_fold.specs.Nodes.{AreNodes}
use Rattle.sq_fold.specs.Stable.{IsCoarsest}
use Rattle.sq_fold.proofs.Blocks.{coarsest_blocks, class_there}
use Rattle.sq_fold.proofs.grouping.partition.Goals as goal

pub index_places-requires : goal.index_places-requires
index_places-requires c =
    let g = c.args.graph.now.graph in
    let small = c.learn.ensures.small in
    let few = few_line g c.args.graph.now.spare.items c.args.graph.now.spare.blocks c.learn.ensures.rules small.items small.blocks in
    let many = ap length (c.deref-2.ensures.value ∙ c.in_ok-line.ensures) in
    omega arith

pub coarsest-requires : goal.coarsest-requires
coarsest-requires c =
    let g = c.args.graph.now.graph in
    let small = c.learn.ensures.small in
    let few = few_line g c.args.graph.now.spare.items c.args.graph.now.spare.blocks c.learn.ensures.rules small.items small.blocks in
    let many = ap length (c.deref-3.ensures.value ∙ c.in_ok-line.ensures) in
    let nodes = c.in_ok-nodes.ensures.many in
    let same = ap length c.deref-5.ensures.value in
    omega arith

pub returns-clause-coarsest : goal.returns-clause-coarsest
returns-clause-coarsest c =
    let g = c.args.graph.now.graph in
    let line = c.in_ok-line.line.items in
    let labels = c.in_ok-labels.labels.items in
    let find = get is_same_kind c.in_ok-index.index in
    let labelled = subst (λ ps. AreNumbersOf (map (λ p. Some (bare_at g p)) ps) labels) c.deref.ensures.value c.in_ok-labels.ensures in
    let index = subst (λ ps. IsIndex ps find) c.deref-2.ensures.value c.in_ok-index.ensures in
    let are = subst (λ ps. AreNodes g ps labels find c.in_ok-nodes.nodes.items) c.deref-3.ensures.value (subst (λ ls. AreNodes g c.deref-3.result.now ls find c.in_ok-nodes.nodes.items) c.deref-4.ensures.value c.in_ok-nodes.ensures) in
    let coarsest = subst (λ ns. IsCoarsest ns (member_at c.in_ok-classes.classes.items)) c.deref-5.ensures.value c.in_ok-classes.ensures.coarsest in
    let some = subst (λ ns. (i : ℕ) → i < length ns → IsSome (member_at c.in_ok-classes.classes.items i)) c.deref-5.ensures.value c.in_ok-classes.ensures.some in
    coarsest_blocks g c.learn.ensures.rules line c.in_ok-line.ensures find index labels labelled c.in_ok-nodes.nodes.items are c.in_ok-classes.classes.items coarsest some

pub returns-clause-blocks : goal.returns-clause-blocks
returns-clause-blocks c =
    let g = c.args.graph.now.graph in
    let line = c.in_ok-line.line.items in
    let labels = c.in_ok-labels.labels.items in
    let find = get is_same_kind c.in_ok-index.index in
    let labelled = subst (λ ps. AreNumbersOf (map (λ p. Some (bare_at g p)) ps) labels) c.deref.ensures.value c.in_ok-labels.ensures in
    let index = subst (λ ps. IsIndex ps find) c.deref-2.ensures.value c.in_ok-index.ensures in
    let are = subst (λ ps. AreNodes g ps labels find c.in_ok-nodes.nodes.items) c.deref-3.ensures.value (subst (λ ls. AreNodes g c.deref-3.result.now ls find c.in_ok-nodes.nodes.items) c.deref-4.ensures.value c.in_ok-nodes.ensures) in
    let coarsest = subst (λ ns. IsCoarsest ns (member_at c.in_ok-classes.classes.items)) c.deref-5.ensures.value c.in_ok-classes.ensures.coarsest in
    let some = subst (λ ns. (i : ℕ) → i < length ns → IsSome (member_at c.in_ok-classes.classes.items i)) c.deref-5.ensures.value c.in_ok-classes.ensures.some in
    class_there g c.learn.ensures.rules line c.in_ok-line.ensures find index labels labelled c.in_ok-nodes.nodes.items are c.in_ok-classes.classes.items coarsest some
