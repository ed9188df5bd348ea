-- One item of a procedure's body comes to name the next block in place of one that is empty with Fall.
use Rattle.std.proofs.Common.{◌≡◌, ℕ, zero, suc, ◌+◌, ◌≤◌, ◌<◌, ◌==◌, false, if◌then◌else◌, List, [], ◌∷◌, map, length, get_or, slice_get, Some, refl, ap, ◌∙◌, subst, arith}
use Rattle.std.specs.List.{All, flat_map}
use Rattle.std.proofs.lemmas.List.Elements.{All-nil, All-head, All-tail}
use Rattle.sq_graph.specs.declared.item.Item.{Item}
use Rattle.sq_graph.specs.Graph.{Procedure, Graph}
use Rattle.sq_graph.specs.Blocks.{HasBlock, HasProcedure, procedure_body, procedure_link, body_of, all_items}
use Rattle.sq_graph.specs.Operations.{procedures_with, replaced_items, with_body_item}
use Rattle.sq_graph.specs.Renames.{retargeted_procedure, swapped}
use Rattle.sq_graph.specs.Rules.{IsGraph, mentions}
use Rattle.sq_graph.specs.Uses.{items_uses}
use Rattle.sq_graph.proofs.OperationRules.{with_body_item_rules}
use Rattle.sq_graph.proofs.RulesByBlock.{BodyStands, ItemStands, by_block}
use Rattle.sq_lookup.specs.Counts.{count_at, times_named, AreUses, IsItemed}
use Rattle.sq_lookup.specs.declared.counts.Uses.{Uses}
use Rattle.sq_lookup.proofs.Counting.{times-append, times_all}
use Rattle.sq_chain.specs.Passing.{IsItemHanded, IsHandedOn}
use Rattle.sq_chain.proofs.HandedItems.{calls_new, mentions_new, items_same, times_replaced, holds_old, item_stands, still_used, one_counted, one_less}

-- THE PROCEDURES

module _ (at bare next : ℕ) (old new : Item) (turns : IsItemHanded bare next old new) where
  abbrev R : Procedure → Procedure
  R p = retargeted_procedure (swapped bare next) p

  abbrev own_uses : Procedure → List ℕ
  own_uses p = items_uses p.body

  -- the item is there
  abbrev IsThere : List Procedure → ℕ → Type 0
  IsThere ps number =
      (at < length (procedure_body (slice_get ps number))) × (old ≡ get_or (procedure_body (slice_get ps number)) at old)

  bodies_same : (ps : List Procedure) (number : ℕ) → IsThere ps number → map R (procedures_with ps number at new) ≡ map R ps
  bodies_same [] number there = refl
  bodies_same (p ∷ ps) zero there =
      ap (λ (is : List Item). record p { body = is } ∷ map R ps) (items_same p.body at bare next old new there.0 there.1 turns)
  bodies_same (p ∷ ps) (suc number) there = ap (λ qs. R p ∷ qs) (bodies_same ps number there)

  times_bodies : (k : ℕ) (ps : List Procedure) (number : ℕ) → IsThere ps number → (if bare == k then 1 else 0) + times_named (flat_map own_uses (procedures_with ps number at new)) k ≡ (if next == k then 1 else 0) + times_named (flat_map own_uses ps) k
  times_bodies k [] number there = absurd (omega (arith, there.0))
  times_bodies k (p ∷ ps) zero there =
      omega (
        arith,
        times_replaced p.body at bare next old new there.0 there.1 turns k,
        times-append (items_uses (replaced_items p.body at 1 (new ∷ []))) (flat_map own_uses ps) k,
        times-append (items_uses p.body) (flat_map own_uses ps) k,
      )
  times_bodies k (p ∷ ps) (suc number) there =
      omega (
        arith,
        times_bodies k ps number there,
        times-append (items_uses p.body) (flat_map own_uses (procedures_with ps number at new)) k,
        times-append (items_uses p.body) (flat_map own_uses ps) k,
      )

-- what stands in a procedure's body
module _ (Named Called : ℕ → Type 0) where
  abbrev I : Item → Type 0
  I item = ItemStands Named Called item

  abbrev B : Procedure → Type 0
  B p = BodyStands Named Called p

  body_stands : (ps : List Procedure) (number : ℕ) → All (BodyStands Named Called) ps → All (ItemStands Named Called) (procedure_body (slice_get ps number))
  body_stands [] number all = All-nil I
  body_stands (p ∷ ps) zero all = let own = All-head B p ps all in own.items
  body_stands (p ∷ ps) (suc number) all = body_stands ps number (All-tail B p ps all)

  body_quiet : (ps : List Procedure) (number link : ℕ) → procedure_link (slice_get ps number) ≡ Some link → All (BodyStands Named Called) ps → All (λ i. mentions i link ≡ false) (procedure_body (slice_get ps number))
  body_quiet [] number link is all = absurd (cc)
  body_quiet (p ∷ ps) zero link is all =
      let own = All-head B p ps all in
      let same : p.link ≡ link = cc in
      subst (λ l. All (λ i. mentions i l ≡ false) p.body) same own.fits.no_mention
  body_quiet (p ∷ ps) (suc number) link is all = body_quiet ps number link is (All-tail B p ps all)

-- THE GRAPH

module _ (g : Graph) (number at bare next : ℕ) (old new : Item) (within : at < length (body_of g number)) (here : old ≡ get_or (body_of g number) at old) (turns : IsItemHanded bare next old new) where
  abbrev h : Graph
  h = with_body_item g number at new

  times_body : (k : ℕ) → (if bare == k then 1 else 0) + times_named (items_uses (all_items (with_body_item g number at new))) k ≡ (if next == k then 1 else 0) + times_named (items_uses (all_items g)) k
  times_body k =
      omega (arith, times_all g k, times_all h k, times_bodies at bare next old new turns k g.procedures number (within, here))

  pub body_handed : IsHandedOn bare next g (with_body_item g number at new)
  body_handed = record {
    blocks = refl;
    procedures = bodies_same at bare next old new turns g.procedures number (within, here);
    entry = refl;
    words = refl;
    used = still_used g g.blocks h.procedures bare next times_body;
  }

  pub body_rules : IsGraph g → HasBlock g next → IsGraph (with_body_item g number at new)
  body_rules rules there =
      let N = HasBlock g in
      let C = HasProcedure g in
      let by = by_block N C g rules rules.named_all rules.called_all in
      with_body_item_rules g number at new rules
      (item_stands (body_of g number) at bare next old new within here turns N C there (body_stands N C g.procedures number by.bodies))
      (calls_new bare next old new turns)
      (λ link is.
      mentions_new bare next old new turns link
      ∙ holds_old (body_of g number) at bare next old new within here turns (λ i. mentions i link ≡ false) (body_quiet N C g.procedures number link is by.bodies))

  module _ (first more : Uses) (are : AreUses g first) (counted : IsItemed next first more) where
    pub body_counted : 1 ≤ count_at more.items.items bare
    body_counted = one_counted g g.blocks h.procedures bare next times_body first more are counted

    pub body_uses_are : (they : Uses) → IsItemed bare they more → AreUses (with_body_item g number at new) they
    body_uses_are = one_less g g.blocks h.procedures bare next times_body first more are counted refl
