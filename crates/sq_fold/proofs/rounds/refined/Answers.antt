use Rattle.std.proofs.Common.{◌≡◌, Some, ap, ◌∙◌}
use Rattle.std.proofs.lemmas.Result.{IfOk-weaker}
use Rattle.sq_finger.specs.Numbers.{member_at, numbers_of}
use Rattle.sq_finger.proofs.Keyed.{mapped_end}
use Rattle.sq_fold.specs.Stable.{seen_by, is_same_key, keys_by, IsFinerBy}
use Rattle.sq_fold.proofs.rounds.refined.Goals as goal

pub returns : goal.returns
returns c =
    let nodes = c.args.nodes.now in
    let classes = c.args.classes.now in
    let keys = c.deref.ensures.value ∙ mapped_end (λ node. Some (seen_by (member_at classes) node)) c.loop-node.keys.items (keys_by nodes classes) nodes c.loop-node.node-index c.loop-node-test.false c.loop-node.invariant in
    IfOk-weaker c.number_all.result (λ finer. finer.items ≡ numbers_of is_same_key c.deref.result.now) (λ finer. IsFinerBy nodes classes finer.items)
    (λ finer e. e ∙ ap (numbers_of is_same_key) keys)
    c.number_all.ensures.value
