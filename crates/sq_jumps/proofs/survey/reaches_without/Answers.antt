use Rattle.std.proofs.Common.{ℕ, ◌≤◌, nat_lt, inl, inr, List, length, ap, arith}
use Rattle.std.proofs.lemmas.Bool.{cases_Bool}
use Rattle.sq_graph.specs.declared.item.Item.{Item}
use Rattle.sq_layout.specs.Branches.{lifted}
use Rattle.sq_layout.proofs.Walks.{items_few}
use Rattle.sq_jumps.proofs.survey.reaches_without.Goals as goal

no_farther : (gone at : ℕ) → lifted gone at ≤ at
no_farther gone at = elim (cases_Bool (nat_lt gone at)) [ inl above ↦ rw above (omega arith) | inr below ↦ rw below (omega arith) ]

pub distance-requires-clause-at : goal.distance-requires-clause-at
distance-requires-clause-at c =
    let few = items_few c.args.graph.now.graph c.args.from c.requires.few in
    let is = ap (λ (items : List Item). length items) c.items.ensures in
    let less = no_farther c.address-word.result c.address.result in
    let small = c.requires.small c.args.from in
    omega arith
