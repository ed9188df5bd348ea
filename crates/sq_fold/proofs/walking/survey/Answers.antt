use Rattle.std.proofs.Common.{length, map, Some, ap, ◌∙◌, subst, arith}
use Rattle.std.specs.HashMap.{get}
use Rattle.sq_finger.specs.Classes.{is_same_kind}
use Rattle.sq_finger.specs.Numbers.{AreNumbersOf}
use Rattle.sq_finger.proofs.Lining.{few_line}
use Rattle.sq_fold.specs.Labels.{bare_at}
use Rattle.sq_fold.specs.Index.{IsIndex}
use Rattle.sq_fold.specs.Nodes.{AreNodes}
use Rattle.sq_fold.specs.Stable.{AreAllRounds}
use Rattle.sq_fold.proofs.walking.survey.Goals as goal

pub index_places-requires : goal.index_places-requires
index_places-requires c =
    let small = c.learn.ensures.small in
    let few = few_line c.args.graph.now.graph c.args.graph.now.spare.items c.args.graph.now.spare.blocks c.learn.ensures.rules small.items small.blocks in
    let many = ap length (c.deref-2.ensures.value ∙ c.in_ok-line.ensures) in
    omega arith

pub all_rounds-requires : goal.all_rounds-requires
all_rounds-requires c =
    let small = c.learn.ensures.small in
    let few = few_line c.args.graph.now.graph c.args.graph.now.spare.items c.args.graph.now.spare.blocks c.learn.ensures.rules small.items small.blocks in
    let many = ap length (c.deref-3.ensures.value ∙ c.in_ok-line.ensures) in
    let nodes = c.in_ok-nodes.ensures.many in
    let same = ap length c.deref-5.ensures.value in
    omega arith

pub returns : goal.returns
returns c =
    let g = c.args.graph.now.graph in
    let labels = c.in_ok-labels.labels.items in
    let find = get is_same_kind c.in_ok-index.index in
    record {
      labels = labels;
      nodes = c.in_ok-nodes.nodes.items;
      index = subst (λ ps. IsIndex ps find) (c.deref-2.ensures.value ∙ c.in_ok-line.ensures) c.in_ok-index.ensures;
      labelled = subst (λ ps. AreNumbersOf (map (λ p. Some (bare_at g p)) ps) labels) (c.deref.ensures.value ∙ c.in_ok-line.ensures) c.in_ok-labels.ensures;
      are = subst (λ ps. AreNodes g ps labels find c.in_ok-nodes.nodes.items) (c.deref-3.ensures.value ∙ c.in_ok-line.ensures) (subst (λ ls. AreNodes g c.deref-3.result.now ls find c.in_ok-nodes.nodes.items) c.deref-4.ensures.value c.in_ok-nodes.ensures);
      all = subst (λ ns. AreAllRounds ns c.in_ok-rounds.rounds) c.deref-5.ensures.value c.in_ok-rounds.ensures;
    }
