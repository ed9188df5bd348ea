use Rattle.std.proofs.Common.{◌≡◌, ◌∙◌, ◌*◌, ◌+◌, ◌-ℤ◌, pos, not, Bool, List, length, ap, sym, subst, arith, rules, SFits, w64}
use Rattle.std.proofs.lemmas.Int.{to_z-of_z}
use Rattle.sq_graph.specs.declared.item.Item.{Item}
use Rattle.sq_graph.specs.Blocks.{items_of}
use Rattle.sq_graph.specs.Places.{Reaches}
use Rattle.sq_layout.proofs.Walks.{items_few}
use Rattle.sq_lookup.specs.Addresses.{address_at}
use Rattle.sq_lookup.specs.Tables.{number_at}
use Rattle.sq_chain.specs.Least.{is_near, is_short}
use Rattle.sq_chain.proofs.Placed.{near_test}
use Rattle.sq_chain.proofs.short.falls_short.Goals as goal

pub distance-requires-clause-target : goal.distance-requires-clause-target
distance-requires-clause-target c = omega (arith, c.requires.small c.in-Branch.to, c.address-2.ensures)

pub distance-requires-clause-at : goal.distance-requires-clause-at
distance-requires-clause-at c =
    let few = items_few c.args.graph.now.graph c.args.block c.learn.ensures.few in
    omega (arith, few, c.requires.small c.args.block, c.address.ensures, ap (λ (items : List Item). length items) c.items.ensures)

pub returns : goal.returns
returns c =
    let g = c.args.graph.now.graph in
    let at : c.address.result ≡ address_at (number_at c.args.addresses.now) c.args.block = c.address.ensures in
    let target : c.address-2.result ≡ address_at (number_at c.args.addresses.now) c.in-Branch.to = c.address-2.ensures in
    let items : length c.items.result.now ≡ length (items_of g c.args.block) = ap (λ (is : List Item). length is) c.items.ensures in
    let is : c.distance.result ≡ pos (address_at (number_at c.args.addresses.now) c.in-Branch.to) -ℤ pos (address_at (number_at c.args.addresses.now) c.args.block + 4 * length (items_of g c.args.block)) = rw (sym at, sym target, sym items) c.distance.ensures in
    let fits : SFits w64 c.distance.result = search rules in
    let whole = to_z-of_z w64 c.distance.result fits ∙ is in
    let test : c.reaches.result ≡ is_near (address_at (number_at c.args.addresses.now) c.args.block + 4 * length (items_of g c.args.block)) (address_at (number_at c.args.addresses.now) c.in-Branch.to) =
    near_test c.reaches.result (address_at (number_at c.args.addresses.now) c.args.block + 4 * length (items_of g c.args.block)) (address_at (number_at c.args.addresses.now) c.in-Branch.to)
    (λ yes. subst Reaches whole (c.reaches.ensures.0 yes)) (λ reach. c.reaches.ensures.1 (subst Reaches (sym whole) reach)) in
    ap (λ (t : Bool). not t) test ∙ ap (is_short (address_at (number_at c.args.addresses.now)) g c.args.block) (sym c.in-Branch.ensures)
