use Rattle.std.proofs.Common.{◌≡◌, ◌++◌, List, map, sym, ap, ◌∙◌, subst}
use Rattle.std.proofs.lemmas.Result.{IfOk-weaker}
use Rattle.sq_graph.specs.declared.item.Item.{Item}
use Rattle.sq_graph.specs.Blocks.{items_of_bodies}
use Rattle.sq_graph.specs.Parts.{graph_of_parts}
use Rattle.sq_graph.specs.Renames.{retargeted_procedure}
use Rattle.sq_quotient.specs.declared.folding.Folding.{Folding}
use Rattle.sq_quotient.specs.Staying.{place_in, IsMerged}
use Rattle.sq_quotient.proofs.Made.{all_made, entry_there}
use Rattle.sq_quotient.proofs.folding.merged.Goals as goal

pub from_parts-requires-clause-lengths : goal.from_parts-requires-clause-lengths
from_parts-requires-clause-lengths c =
    let g = c.args.graph.now.graph in
    let folding : Folding = record { staying = c.in_ok-staying.staying; positions = c.in_ok-positions.positions } in
    let small = c.learn.ensures.small in
    let items = c.deref-5.ensures.value ∙ c.in_ok-procedures.ensures.items ∙ ap (λ (is : List Item). is ++ items_of_bodies (map (retargeted_procedure (place_in folding)) g.procedures)) c.in_ok-blocks.ensures.items in
    let made = all_made g folding c.learn.ensures.rules c.requires c.args.graph.now.spare small.items small.procedures c.in_ok-staying.ensures c.in_ok-positions.ensures
    c.deref-4.result.now c.deref-5.result.now c.place.result c.deref-6.result.now c.deref-7.result.now
    (c.deref-4.ensures.value ∙ c.in_ok-blocks.ensures.parts) items
    (c.place.ensures ∙ ap (place_in folding) c.entry.ensures.value)
    (c.deref-6.ensures.value ∙ c.in_ok-code_words.ensures) (c.deref-7.ensures.value ∙ c.in_ok-procedures.ensures.parts)
    (entry_there g c.learn.ensures.rules) in
    made.lengths

pub from_parts-requires-clause-rules : goal.from_parts-requires-clause-rules
from_parts-requires-clause-rules c =
    let g = c.args.graph.now.graph in
    let folding : Folding = record { staying = c.in_ok-staying.staying; positions = c.in_ok-positions.positions } in
    let small = c.learn.ensures.small in
    let items = c.deref-5.ensures.value ∙ c.in_ok-procedures.ensures.items ∙ ap (λ (is : List Item). is ++ items_of_bodies (map (retargeted_procedure (place_in folding)) g.procedures)) c.in_ok-blocks.ensures.items in
    let made = all_made g folding c.learn.ensures.rules c.requires c.args.graph.now.spare small.items small.procedures c.in_ok-staying.ensures c.in_ok-positions.ensures
    c.deref-4.result.now c.deref-5.result.now c.place.result c.deref-6.result.now c.deref-7.result.now
    (c.deref-4.ensures.value ∙ c.in_ok-blocks.ensures.parts) items
    (c.place.ensures ∙ ap (place_in folding) c.entry.ensures.value)
    (c.deref-6.ensures.value ∙ c.in_ok-code_words.ensures) (c.deref-7.ensures.value ∙ c.in_ok-procedures.ensures.parts)
    (entry_there g c.learn.ensures.rules) in
    made.rules

pub from_parts-requires-clause-small : goal.from_parts-requires-clause-small
from_parts-requires-clause-small c =
    let g = c.args.graph.now.graph in
    let folding : Folding = record { staying = c.in_ok-staying.staying; positions = c.in_ok-positions.positions } in
    let small = c.learn.ensures.small in
    let items = c.deref-5.ensures.value ∙ c.in_ok-procedures.ensures.items ∙ ap (λ (is : List Item). is ++ items_of_bodies (map (retargeted_procedure (place_in folding)) g.procedures)) c.in_ok-blocks.ensures.items in
    let made = all_made g folding c.learn.ensures.rules c.requires c.args.graph.now.spare small.items small.procedures c.in_ok-staying.ensures c.in_ok-positions.ensures
    c.deref-4.result.now c.deref-5.result.now c.place.result c.deref-6.result.now c.deref-7.result.now
    (c.deref-4.ensures.value ∙ c.in_ok-blocks.ensures.parts) items
    (c.place.ensures ∙ ap (place_in folding) c.entry.ensures.value)
    (c.deref-6.ensures.value ∙ c.in_ok-code_words.ensures) (c.deref-7.ensures.value ∙ c.in_ok-procedures.ensures.parts)
    (entry_there g c.learn.ensures.rules) in
    made.small

pub returns : goal.returns
returns c =
    let g = c.args.graph.now.graph in
    let folding : Folding = record { staying = c.in_ok-staying.staying; positions = c.in_ok-positions.positions } in
    let small = c.learn.ensures.small in
    let items = c.deref-5.ensures.value ∙ c.in_ok-procedures.ensures.items ∙ ap (λ (is : List Item). is ++ items_of_bodies (map (retargeted_procedure (place_in folding)) g.procedures)) c.in_ok-blocks.ensures.items in
    let made = all_made g folding c.learn.ensures.rules c.requires c.args.graph.now.spare small.items small.procedures c.in_ok-staying.ensures c.in_ok-positions.ensures
    c.deref-4.result.now c.deref-5.result.now c.place.result c.deref-6.result.now c.deref-7.result.now
    (c.deref-4.ensures.value ∙ c.in_ok-blocks.ensures.parts) items
    (c.place.ensures ∙ ap (place_in folding) c.entry.ensures.value)
    (c.deref-6.ensures.value ∙ c.in_ok-code_words.ensures) (c.deref-7.ensures.value ∙ c.in_ok-procedures.ensures.parts)
    (entry_there g c.learn.ensures.rules) in
    IfOk-weaker c.from_parts.result (λ v. v.graph ≡ graph_of_parts c.deref-4.result.now c.deref-5.result.now c.place.result c.deref-6.result.now c.deref-7.result.now) (λ v. IsMerged g v.graph)
    (λ v e. subst (IsMerged g) (sym e) made.is) c.from_parts.ensures.graph
