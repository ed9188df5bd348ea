-- The places where a window stands, listed block by block.
use Rattle.std.proofs.Common.{◌≡◌, ℕ, ◌+◌, ◌-◌, ◌<◌, true, false, List, [], ◌∷◌, ◌++◌, map, drop, length, get_or, append_assoc, refl, sym, ap, ◌∙◌, arith}
use Rattle.std.proofs.lemmas.List.{drop_more, length-drop}
use Rattle.sq_graph.specs.declared.item.Item.{Item}
use Rattle.sq_graph.specs.declared.item.Item.TheVariants.{Out}
use Rattle.sq_graph.specs.Graph.{Graph}
use Rattle.sq_graph.specs.Blocks.{items_of}
use Rattle.sq_finger.specs.declared.places.WindowAt.{WindowAt}
use Rattle.sq_outline.specs.WindowsPlaces.{begins, places_from}
use Rattle.sq_outline.specs.WindowsSearch.{place_in, standing_among}
use Rattle.sq_outline.proofs.WindowsStanding.{too_short}

-- of a block's items from a place on
abbrev pub listed_from : List Item → List Item → ℕ → ℕ → List WindowAt
listed_from window items block at = map (place_in block) (places_from window at (drop at items))

-- it stands there
pub one_listed : (window items : List Item) (block at : ℕ) (places : List WindowAt) → at < length items → begins window (drop at items) ≡ true
    → (places ++ place_in block at ∷ []) ++ listed_from window items block (at + 1) ≡ places ++ listed_from window items block at
one_listed window items block at places within stands =
    let more = drop_more items at (Out 0) within in
    let here : begins window (get_or items at (Out 0) ∷ drop (at + 1) items) ≡ true = ap (begins window) (sym more) ∙ stands in
    append_assoc places (place_in block at ∷ []) (listed_from window items block (at + 1)) ∙ rw (more, here) refl

-- it doesn't
pub none_listed : (window items : List Item) (block at : ℕ) → at < length items → begins window (drop at items) ≡ false
    → listed_from window items block (at + 1) ≡ listed_from window items block at
none_listed window items block at within fails =
    let more = drop_more items at (Out 0) within in
    let here : begins window (get_or items at (Out 0) ∷ drop (at + 1) items) ≡ false = ap (begins window) (sym more) ∙ fails in
    rw (more, here) refl

-- nor behind, where fewer items are left
short_places : (window items : List Item) (at : ℕ) → length items < length window → places_from window at items ≡ []
short_places window [] at short = refl
short_places window (item ∷ items) at short =
    let rest = short_places window items (at + 1) (omega (arith, short)) in
    rw (too_short window (item ∷ items) short) rest

pub none_left : (window items : List Item) (block at : ℕ) → length items - at < length window → listed_from window items block at ≡ []
none_left window items block at short = ap (map (place_in block)) (short_places window (drop at items) at (omega (arith, short, length-drop at items)))

-- a block more
pub block_listed : (g : Graph) (window : List Item) (names : List ℕ) (k name : ℕ) (places : List WindowAt) → k < length names → get_or names k 0 ≡ name
    → (places ++ map (place_in name) (places_from window 0 (items_of g name))) ++ standing_among g window (drop (k + 1) names) ≡ places ++ standing_among g window (drop k names)
block_listed g window names k name places within is =
    append_assoc places (map (place_in name) (places_from window 0 (items_of g name))) (standing_among g window (drop (k + 1) names))
    ∙ rw (drop_more names k 0 within, is) refl
