use Rattle.std.proofs.Common.{◌≡◌, ◌∙◌, ◌*◌, ◌+◌, ◌-ℤ◌, pos, ℕ, List, length, ap, sym, subst, arith, rules, SFits, w64}
use Rattle.std.proofs.lemmas.Int.{to_z-of_z}
use Rattle.sq_graph.specs.declared.item.Item.{Item}
use Rattle.sq_graph.specs.Blocks.{items_of}
use Rattle.sq_graph.specs.Places.{Reaches}
use Rattle.sq_layout.proofs.Walks.{items_few}
use Rattle.sq_lookup.specs.Addresses.{address_of}
use Rattle.sq_lookup.specs.Tables.{number_at}
use Rattle.sq_lookup.proofs.Reaching.{own_reach}
use Rattle.sq_lookup.proofs.Sizes.{addresses_are, addresses_small}
use Rattle.sq_lookup.proofs.reach.has_reach.Goals as goal

pub overflow_add-at : goal.overflow_add-at
overflow_add-at c =
    let few = items_few c.args.graph.now.graph c.args.block c.requires.few in
    let small = addresses_small (number_at c.args.addresses.now) c.args.graph.now.graph c.requires.addresses c.requires.few c.args.block in
    omega (arith, few, small, c.address.ensures, ap (λ (items : List Item). length items) c.items.ensures)

pub distance-requires-clause-target : goal.distance-requires-clause-target
distance-requires-clause-target c =
    let small = addresses_small (number_at c.args.addresses.now) c.args.graph.now.graph c.requires.addresses c.requires.few c.in-Branch.to in
    omega (arith, small, c.address-2.ensures)

pub distance-requires-clause-at : goal.distance-requires-clause-at
distance-requires-clause-at c =
    let few = items_few c.args.graph.now.graph c.args.block c.requires.few in
    let small = addresses_small (number_at c.args.addresses.now) c.args.graph.now.graph c.requires.addresses c.requires.few c.args.block in
    omega (arith, few, small, c.address.ensures, ap (λ (items : List Item). length items) c.items.ensures)

pub returns : goal.returns
returns c =
    let g = c.args.graph.now.graph in
    let table = addresses_are (number_at c.args.addresses.now) g c.requires.addresses in
    let at : c.address.result ≡ address_of g c.args.block = c.address.ensures ∙ ap (λ (f : ℕ → ℕ). f c.args.block) table in
    let target : c.address-2.result ≡ address_of g c.in-Branch.to = c.address-2.ensures ∙ ap (λ (f : ℕ → ℕ). f c.in-Branch.to) table in
    let items : length c.items.result.now ≡ length (items_of g c.args.block) = ap (λ (is : List Item). length is) c.items.ensures in
    let is : c.distance.result ≡ pos (address_of g c.in-Branch.to) -ℤ pos (address_of g c.args.block + 4 * length (items_of g c.args.block)) = rw (sym at, sym target, sym items) c.distance.ensures in
    let fits : SFits w64 c.distance.result = search rules in
    let whole = to_z-of_z w64 c.distance.result fits ∙ is in
    let own = own_reach g c.args.block c.in-Branch.cond c.in-Branch.a c.in-Branch.b c.in-Branch.to c.requires.rules c.in-Branch.ensures in (
      λ reach. own.1 (subst Reaches whole (c.reaches.ensures.0 reach)),
      λ has. c.reaches.ensures.1 (subst Reaches (sym whole) (own.0 has)),
    )
