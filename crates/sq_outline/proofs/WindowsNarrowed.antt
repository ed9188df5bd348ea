-- A window stands at some of the places where its first items stand.
use Rattle.std.proofs.Common.{◌≡◌, ℕ, ◌≤◌, ◌<◌, ◌+◌, Bool, true, false, cond, List, [], ◌∷◌, ◌++◌, get_or, append-nil, take, drop, length, inl, inr, refl, sym, ap, ◌∙◌, subst, arith, true≢false}
use Rattle.std.specs.Prelude.{◌↔◌, Contains, IfSome, IsTrue, Option, None, Some}
use Rattle.std.specs.List.{All, filter}
use Rattle.std.proofs.lemmas.Bool.{cases_Bool}
use Rattle.std.proofs.lemmas.List.Elements.{filter_more}
use Rattle.std.proofs.lemmas.List.{length-take, length-take-le, length-drop, take-take}
use Rattle.sq_graph.specs.declared.item.Item.{Item}
use Rattle.sq_graph.specs.Graph.{Graph}
use Rattle.sq_graph.specs.Blocks.{items_of}
use Rattle.sq_finger.specs.declared.places.WindowAt.{WindowAt}
use Rattle.sq_finger.specs.Lines.{line_of}
use Rattle.sq_outline.specs.WindowsPlaces.{StandAt, begins}
use Rattle.sq_outline.specs.WindowsMade.{items_at}
use Rattle.sq_outline.specs.WindowsProposed.{IsFoundWindow, IsFoundIn, IsPlacedIn, places_of}
use Rattle.sq_outline.specs.WindowsSearch.{standing}
use Rattle.sq_outline.specs.declared.windows.proposals.FoundWindow.{FoundWindow}
use Rattle.sq_outline.proofs.WindowsClasses.{stands_there, those, those_are}
use Rattle.sq_outline.proofs.WindowsFinding.{long_at}
use Rattle.sq_outline.proofs.WindowsStanding.{begins_is, stands_from, stands_to}

-- what `stand_at` tells is whether the items from there on begin with the window's
pub told_there : (g : Graph) (block at : ℕ) (w : List Item) (b : Bool) → 1 ≤ length w → IsTrue b ↔ StandAt g block at w → b ≡ begins w (drop at (items_of g block))
told_there g block at w true some told =
    let is = stands_to g block at w (told.0 refl) in
    sym ((begins_is w (drop at (items_of g block))).1 is)
told_there g block at w false some told =
    elim (cases_Bool (begins w (drop at (items_of g block)))) [
      | inl here ↦
          let is = (begins_is w (drop at (items_of g block))).0 here in
          let within : at ≤ length (items_of g block) =
          omega (arith, some, ap length is, length-take (length w) (drop at (items_of g block)), length-drop at (items_of g block)) in
          absurd (true≢false (sym (told.1 (stands_from g block at w within is))))
      | inr none ↦ sym none
    ]

-- one place more
module _ (p : WindowAt → Bool) (ps found : List WindowAt) (i : ℕ) (d : WindowAt) (there : i < length ps) (are : found ≡ filter p (take i ps)) where
  next_is : (b : Bool) → p (get_or ps i d) ≡ b → filter p (take (i + 1) ps) ≡ filter p (take i ps) ++ cond b (get_or ps i d ∷ []) []
  next_is b is = filter_more p ps i d there ∙ ap (λ c. filter p (take i ps) ++ cond c (get_or ps i d ∷ []) []) is

  pub one_among : p (get_or ps i d) ≡ true → found ++ get_or ps i d ∷ [] ≡ filter p (take (i + 1) ps)
  one_among here = ap (λ qs. qs ++ get_or ps i d ∷ []) are ∙ sym (next_is true here)

  pub none_among : p (get_or ps i d) ≡ false → found ≡ filter p (take (i + 1) ps)
  none_among none = are ∙ sym (next_is false none ∙ append-nil (filter p (take i ps)))

module _ (g : Graph) (w : List Item) where
  those_filtered : (ps : List WindowAt) → filter (stands_there g w) ps ≡ those g w ps
  those_filtered [] = refl
  those_filtered (p ∷ ps) =
      elim (cases_Bool (stands_there g w p)) [
        | inl here ↦ rw here (ap (λ qs. p ∷ qs) (those_filtered ps))
        | inr none ↦ rw none (those_filtered ps)
      ]

  module _ (m : ℕ) (some : 1 ≤ m) (most : m ≤ length w) where
    short_long : length (take m w) ≡ m
    short_long = length-take-le m w most

    -- where the window stands its first items do
    begins_too : (items : List Item) → begins w items ≡ true → begins (take m w) items ≡ true
    begins_too items here =
        let is = (begins_is w items).0 here in
        let first : take m (take (length w) items) ≡ take m items = take-take m (length w) items most in
        (begins_is (take m w) items).1 (ap (λ k. take k items) short_long ∙ sym first ∙ ap (take m) is)

    those_of_those : (ps : List WindowAt) → those g w (those g (take m w) ps) ≡ those g w ps
    those_of_those [] = refl
    those_of_those (p ∷ ps) =
        let rest = those_of_those ps in
        elim (cases_Bool (stands_there g (take m w) p)) [
          | inl first ↦
              elim (cases_Bool (stands_there g w p)) [
                | inl here ↦ rw (first, here) (ap (λ qs. p ∷ qs) rest)
                | inr none ↦ rw (first, none) rest
              ]
          | inr lacks ↦
              elim (cases_Bool (stands_there g w p)) [
                | inl here ↦ absurd (true≢false (sym (begins_too (drop p.at (items_of g p.block)) here) ∙ lacks))
                | inr none ↦ rw (lacks, none) rest
              ]
        ]

    pub narrowed : filter (stands_there g w) (standing g (take m w)) ≡ standing g w
    narrowed =
        those_filtered (standing g (take m w))
        ∙ ap (those g w) (sym (those_are g (take m w) (omega (arith, some, short_long))))
        ∙ those_of_those (line_of g)
        ∙ those_are g w (omega (arith, some, most))

-- the first items of a window
pub first_items : (g : Graph) (block at m n : ℕ) → m ≤ n → take m (items_at g block at n) ≡ items_at g block at m
first_items g block at m n most = take-take m n (drop at (items_of g block)) most

-- among the places where its first items stand are all of a window
pub narrowed_at : (g : Graph) (block at m n : ℕ) → 1 ≤ m → m ≤ n → at + n ≤ length (items_of g block)
    → filter (stands_there g (items_at g block at n)) (standing g (items_at g block at m)) ≡ standing g (items_at g block at n)
narrowed_at g block at m n some most within =
    ap (λ w. filter (stands_there g (items_at g block at n)) (standing g w)) (sym (first_items g block at m n most))
    ∙ narrowed g (items_at g block at n) m some (omega (arith, most, long_at g block at n within))

-- what is known of all windows of a look is known of one
pub listed_one : (g : Graph) (places : List WindowAt) (windows : List FoundWindow) (one : Option FoundWindow) → All (IsFoundWindow g) windows → All (IsPlacedIn g places) windows → IfSome one (Contains windows) → IfSome one (λ w. IsFoundWindow g w × IsPlacedIn g places w)
listed_one g places windows None found placed listed = tt
listed_one g places windows (Some w) found placed listed =
    let k = listed.0 in
    (subst (IsFoundWindow g) listed.2 (found k w listed.1), subst (IsPlacedIn g places) listed.2 (placed k w listed.1))

-- the places that are told of a window are all of it where they are those of all its items
pub placed_whole : (g : Graph) (places told : List WindowAt) (w : FoundWindow) → IsFoundIn g places w → w.known ≡ w.n → (1 ≤ length places) × (1 ≤ w.places) × (told ≡ places_of places w)
    → told ≡ standing g (items_at g w.found.first.block w.found.first.at w.n)
placed_whole g places told w found known are =
    are.2 ∙ (found are.0).all are.1 ∙ ap (λ k. standing g (items_at g w.found.first.block w.found.first.at k)) known
