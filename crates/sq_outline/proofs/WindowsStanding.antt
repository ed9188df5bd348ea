-- What it tells that a window stands at a place.
use Rattle.std.proofs.Common.{◌≡◌, ℕ, ◌≤◌, ◌<◌, Bool, true, false, List, take, drop, length, inl, inr, refl, sym, ap, ◌∙◌, arith}
use Rattle.std.specs.Bool.{Decides}
use Rattle.std.proofs.lemmas.Bool.{cases_Bool}
use Rattle.std.proofs.lemmas.List.{length-take, length-drop}
use Rattle.std.proofs.lemmas.Slice.Eq.{slice_eq-Decides}
use Rattle.sq_graph.specs.declared.item.Item.{Item}
use Rattle.sq_graph.specs.Graph.{Graph}
use Rattle.sq_graph.specs.Blocks.{items_of}
use Rattle.law_patch.proofs.Calls.{range_is}
use Rattle.sq_rename.proofs.Equals.{item_is, item_itself}
use Rattle.sq_outline.specs.WindowsPlaces.{StandAt, begins}

-- it is so where the first of the items are those of the window
pub begins_is : (window items : List Item) → Decides (begins window items) (take (length window) items ≡ window)
begins_is window items =
    slice_eq-Decides (λ a b. (item_is a b, item_itself a b)) (take (length window) items) window (begins window items) refl

pub too_short : (window items : List Item) → length items < length window → begins window items ≡ false
too_short window items short =
    elim (cases_Bool (begins window items)) [
      | inl is ↦
          let long = ap length ((begins_is window items).0 is) in
          absurd (omega (arith, short, long, length-take (length window) items))
      | inr none ↦ none
    ]

module _ (g : Graph) (block at : ℕ) (window : List Item) where
  abbrev all : List Item
  all = items_of g block

  pub stands_from : at ≤ length (items_of g block) → take (length window) (drop at (items_of g block)) ≡ window → StandAt g block at window
  stands_from there is = record {
    within = omega (arith, there, ap length is, length-take (length window) (drop at all), length-drop at all);
    same = range_is all at (length window) ∙ is;
  }

  pub stands_to : StandAt g block at window → take (length window) (drop at (items_of g block)) ≡ window
  stands_to stands = sym (range_is all at (length window)) ∙ stands.same

  pub stands_where : (b : Bool) → at ≤ length (items_of g block) → b ≡ begins window (drop at (items_of g block)) → (b ≡ true → StandAt g block at window) × (StandAt g block at window → b ≡ true)
  stands_where b there is = (
    λ yes. stands_from there ((begins_is window (drop at all)).0 (sym is ∙ yes)),
    λ stands. is ∙ (begins_is window (drop at all)).1 (stands_to stands),
  )
