use Rattle.std.proofs.Common.{◌≡◌, ◌<◌, ◌^◌, ◌||◌, ℕ, List, length, sym, ap, ◌∙◌, subst, arith}
use Rattle.std.specs.Prelude.{slice_index}
use Rattle.std.specs.List.{All}
use Rattle.sq_isa.specs.Registers.{is_member}
use Rattle.sq_graph.specs.declared.item.Item.{Item}
use Rattle.sq_graph.specs.Resolve.{resolved_term_of}
use Rattle.sq_graph.specs.Rules.{ItemFits}
use Rattle.sq_layout.proofs.Walks.{items_few}
use Rattle.sq_live.specs.Liveness.{places_of}
use Rattle.sq_rename.specs.Bodies.{live_behind}
use Rattle.sq_rename.specs.Prints.{print_from}
use Rattle.sq_tail.specs.BodiesPrints.{end_number, is_kept}
use Rattle.sq_tail.proofs.BodiesPrinted.{items_fit}
use Rattle.sq_tail.proofs.bodies.prints.print.Goals as goal

pub overflow_cast-items : goal.overflow_cast-items
overflow_cast-items c = let few = items_few c.args.graph.now.graph c.args.block c.learn.ensures.few in let is = ap length c.items-items.ensures in omega arith

pub items_print-requires-clause-items : goal.items_print-requires-clause-items
items_print-requires-clause-items c = subst (λ (items : List Item). All ItemFits items) (sym c.items-items.ensures) (items_fit c.args.graph.now.graph c.args.block c.learn.ensures.rules)

pub items_print-requires-clause-few : goal.items_print-requires-clause-few
items_print-requires-clause-few c = subst (λ (items : List Item). length items < 2 ^ 31) (sym c.items-items.ensures) (items_few c.args.graph.now.graph c.args.block c.learn.ensures.few)

pub returns : goal.returns
returns c =
    let g = c.args.graph.now.graph in
    let live = c.args.live.now in
    let print = end_number (resolved_term_of g c.args.block) in
    let same : c.live_at-live.result ≡ live_behind c.args.live.now c.args.graph.now.graph c.args.block =
    c.live_at-live.ensures ∙ ap (λ (items : List Item). slice_index (places_of live c.args.block) (length items)) c.items-items.ensures in
    let kept : (r : ℕ) → is_member c.union-kept.result r ≡ is_kept c.args.live.now c.args.graph.now.graph c.args.block r =
    λ r. c.union-kept.ensures r ∙ ap (λ set. is_member set r || is_member c.called.result r) same ∙ ap (λ b. is_member (live_behind live g c.args.block) r || b) (c.called.ensures r) in
    c.items_print.ensures
    ∙ ap (λ n. print_from n (is_member c.union-kept.result) c.items-items.result.now) c.end_number.ensures
    ∙ (λ i. print_from print (λ r. kept r i) c.items-items.result.now)
    ∙ ap (print_from print (is_kept live g c.args.block)) c.items-items.ensures
