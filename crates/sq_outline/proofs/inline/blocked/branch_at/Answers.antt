use Rattle.std.proofs.Common.{◌≡◌, ◌∙◌, ◌+◌, ◌*◌, ℕ, List, length, ap, arith}
use Rattle.sq_graph.specs.declared.item.Item.{Item}
use Rattle.sq_graph.specs.Blocks.{items_of}
use Rattle.sq_layout.proofs.Walks.{items_few}
use Rattle.sq_lookup.specs.Addresses.{address_of}
use Rattle.sq_lookup.specs.Tables.{number_at}
use Rattle.sq_lookup.proofs.Sizes.{addresses_are, addresses_small}
use Rattle.sq_outline.proofs.inline.blocked.branch_at.Goals as goal

pub overflow_add-at : goal.overflow_add-at
overflow_add-at c =
    let few = items_few c.args.graph.now.graph c.args.block c.learn.ensures.few in
    let small = addresses_small (number_at c.args.addresses.now) c.args.graph.now.graph c.requires.addresses c.learn.ensures.few c.args.block in
    omega (arith, few, small, c.address.ensures, ap (λ (items : List Item). length items) c.items.ensures)

pub returns-clause-small : goal.returns-clause-small
returns-clause-small c =
    let few = items_few c.args.graph.now.graph c.args.block c.learn.ensures.few in
    let small = addresses_small (number_at c.args.addresses.now) c.args.graph.now.graph c.requires.addresses c.learn.ensures.few in
    (omega (arith, few, small c.args.block, c.address.ensures, ap (λ (items : List Item). length items) c.items.ensures), omega (arith, small c.in-Branch.to, c.address-2.ensures))

pub returns-clause-branch : goal.returns-clause-branch
returns-clause-branch c =
    let g = c.args.graph.now.graph in
    let table = addresses_are (number_at c.args.addresses.now) g c.requires.addresses in
    let at : c.address.result ≡ address_of g c.args.block = c.address.ensures ∙ ap (λ (f : ℕ → ℕ). f c.args.block) table in
    let target : c.address-2.result ≡ address_of g c.in-Branch.to = c.address-2.ensures ∙ ap (λ (f : ℕ → ℕ). f c.in-Branch.to) table in
    let items : length c.items.result.now ≡ length (items_of g c.args.block) = ap (λ (is : List Item). length is) c.items.ensures in
    record {
      cond = c.in-Branch.cond;
      a = c.in-Branch.a;
      b = c.in-Branch.b;
      target = c.in-Branch.to;
      term = c.in-Branch.ensures;
      at_is = omega (arith, at, items);
      to_is = target;
    }
