use Rattle.std.proofs.Common.{◌∙◌, ◌||◌, ap, sym, option_to_list}
use Rattle.std.proofs.lemmas.List.Elements.{Contains-append_left}
use Rattle.sq_isa.specs.Registers.{is_member}
use Rattle.sq_live.specs.Places.{any_member}
use Rattle.sq_live.proofs.Nodes.{contains_right}
use Rattle.sq_live.proofs.PlaceSets.{any_member-append}
use Rattle.sq_live.proofs.places.live_behind.Goals as goal

pub node_set-requires : goal.node_set-requires
node_set-requires c = λ to h.
    c.requires to (Contains-append_left (option_to_list c.args.exits.first) (option_to_list c.args.exits.second) to h)

pub node_set-requires-2 : goal.node_set-requires-2
node_set-requires-2 c = λ to h.
    c.requires to (contains_right (option_to_list c.args.exits.first) (option_to_list c.args.exits.second) to h)

pub returns : goal.returns
returns c = λ r.
    c.union.ensures r
    ∙ ap (λ b. b || is_member c.node_set-2.result r) (c.node_set.ensures r)
    ∙ ap (λ b. any_member c.args.nodes.now (option_to_list c.args.exits.first) r || b) (c.node_set-2.ensures r)
    ∙ sym (any_member-append c.args.nodes.now (option_to_list c.args.exits.first) (option_to_list c.args.exits.second) r)
