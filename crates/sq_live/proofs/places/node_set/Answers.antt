use Rattle.std.proofs.Common.{◌∙◌, ◌<◌, [], ap, sym, subst, length, get_or, option_to_list}
use Rattle.std.specs.List.{Contains}
use Rattle.std.proofs.lemmas.List.{get_or_read}
use Rattle.std.proofs.Math.Bool.{or-false}
use Rattle.sq_isa.specs.Registers.{is_member}
use Rattle.sq_live.specs.Places.{any_member}
use Rattle.sq_live.proofs.Searches.{contains_head}
use Rattle.sq_live.proofs.places.node_set.Goals as goal

pub bounds-nodes-node : goal.bounds-nodes-node
bounds-nodes-node c =
    c.requires c.in-Some.node (subst (λ o. Contains (option_to_list o) c.in-Some.node) (sym c.in-Some.is) (contains_head c.in-Some.node []))

pub returns-in-Some : goal.returns-in-Some
returns-in-Some c = λ r.
    let nodes = c.args.nodes.now in
    let node = c.in-Some.node in
    let within : node < length nodes = c.requires node (subst (λ o. Contains (option_to_list o) node) (sym c.in-Some.is) (contains_head node [])) in
    ap (λ s. is_member s r) (get_or_read nodes node c.index-nodes-node.result within c.index-nodes-node.is 0)
    ∙ sym (or-false (is_member (get_or nodes node 0) r))
    ∙ sym (ap (λ o. any_member nodes (option_to_list o) r) c.in-Some.is)
