use Rattle.std.proofs.Common.{◌≡◌, ◌∙◌, ◌<◌, ◌+◌, ◌*◌, ℕ, List, length, ap, sym, arith}
use Rattle.sq_graph.specs.declared.item.Item.{Item}
use Rattle.sq_graph.specs.Blocks.{items_of}
use Rattle.sq_lookup.specs.Addresses.{address_of}
use Rattle.sq_lookup.specs.Tables.{number_at}
use Rattle.sq_lookup.proofs.Sizes.{addresses_are, addresses_small}
use Rattle.sq_outline.proofs.InlineSteps.{item_at, call_there_at}
use Rattle.sq_outline.proofs.inline.blocked.call_address.Goals as goal

pub overflow_add-result : goal.overflow_add-result
overflow_add-result c =
    let small = addresses_small (number_at c.args.addresses.now) c.args.graph.now.graph c.requires c.learn.ensures.few c.args.site.block in
    omega (arith, small, c.address.ensures)

pub returns : goal.returns
returns c =
    let g = c.args.graph.now.graph in
    let table = addresses_are (number_at c.args.addresses.now) g c.requires in
    let starts : c.address.result ≡ address_of g c.args.site.block = c.address.ensures ∙ ap (λ (f : ℕ → ℕ). f c.args.site.block) table in
    let count = ap (λ (items : List Item). length items) c.items-items.ensures in
    let past = c.if-place-items.false in
    let within : c.args.site.at < length (items_of g c.args.site.block) = omega (arith, count, past) in
    let is = item_at g c.args.site.block c.args.site.at c.items-items.result.now c.index-items-place.result c.items-items.ensures within c.index-items-place.is in
    let there = call_there_at g c.args.procedure c.args.site.block c.args.site.at c.index-items-place.result is (sym c.is_call.ensures ∙ c.if-not-is_call.false) in
    (c.args.site.block, c.args.site.at, there, omega (arith, starts))
