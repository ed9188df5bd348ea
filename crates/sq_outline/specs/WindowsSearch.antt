-- How windows are searched that may become procedures. No public clause cites this module.
use Rattle.std.specs.Prelude.{◌≡◌, ℕ, ◌+◌, ◌-◌, ◌*◌, ◌≤◌, Bool, false, ◌&&◌, ◌==◌, nat_lt, if◌then◌else◌, List, [], ◌∷◌, Option, None, Some, map, length, slice_get}
use Rattle.std.specs.List.{All, flat_map}
use Rattle.sq_graph.specs.declared.item.Item.{Item}
use Rattle.sq_graph.specs.Graph.{Graph}
use Rattle.sq_graph.specs.Blocks.{HasBlock, items_of}
use Rattle.sq_graph.specs.Parts.{names_of}
use Rattle.sq_finger.specs.declared.places.WindowAt.{WindowAt}
use Rattle.sq_finger.specs.Windows.{IsWindow}
use Rattle.sq_outline.specs.declared.sites.Site.{Site}
use Rattle.sq_outline.specs.Links.{IsLink}
use Rattle.sq_outline.specs.Made.{ArePlain}
use Rattle.sq_outline.specs.WindowsPlaces.{places_from, in_block}
use Rattle.sq_outline.specs.WindowsMade.{items_at, IsWhole, behind}

abbrev pub place_in : ℕ → ℕ → WindowAt
place_in block at = record { block = block; at = at }

-- the places where the window stands, in layout order
abbrev pub standing_among : Graph → List Item → List ℕ → List WindowAt
standing_among g window names = flat_map (λ block. map (place_in block) (places_from window 0 (items_of g block))) names

abbrev pub standing : Graph → List Item → List WindowAt
standing g window = standing_among g window (names_of g)

-- n items at a place overlap those at the last one
abbrev pub overlaps : ℕ → Option Site → WindowAt → Bool
overlaps n None place = false
overlaps n (Some last) place = (last.block == place.block) && nat_lt place.at (last.at + n)

-- those of these places at which n items don't overlap those at the one before
abbrev pub thinned : ℕ → Option Site → List WindowAt → List Site
thinned n last [] = []
thinned n last (place ∷ places) =
    if overlaps n last place then thinned n last places else in_block place.block place.at ∷ thinned n (Some (in_block place.block place.at)) places

-- n items are there
pub record IsThere (g : Graph) (n : ℕ) (site : Site) : Type 0 where
  pub there : HasBlock g site.block
  pub within : site.at + n ≤ length (items_of g site.block)

-- but for what it saves a window that occurs at these places may become a procedure with this link
pub record MayBeMade (g : Graph) (window : List Item) (sites : List Site) (link : ℕ) : Type 0 where
  pub plain : ArePlain window
  pub part : ¬ All (IsWhole g (length window)) sites
  pub linked : IsLink g window (behind (length window) sites) link

-- the n items that stand at these places, and occur at those of them that don't overlap the one before, may become a procedure
-- that saves so many words
pub record IsFoundAt (g : Graph) (n : ℕ) (places : List WindowAt) (first : Site) (link saving : ℕ) (sites : List Site) : Type 0 where
  pub sites_are : sites ≡ thinned n None places
  pub others : List Site
  pub first_is : sites ≡ first ∷ others
  pub made : MayBeMade g (items_at g first.block first.at n) sites link
  pub saves : saving + (n + 1) ≡ length sites * (n - 1)
  pub some : 1 ≤ saving

-- these are all places where n items stand, those at the first of them
pub record AreStanding (g : Graph) (n : ℕ) (places : List WindowAt) : Type 0 where
  pub there : (first : WindowAt) (rest : List WindowAt) → places ≡ first ∷ rest → HasBlock g first.block
  pub within : (first : WindowAt) (rest : List WindowAt) → places ≡ first ∷ rest → first.at + n ≤ length (items_of g first.block)
  pub all : (first : WindowAt) (rest : List WindowAt) → places ≡ first ∷ rest → places ≡ standing g (items_at g first.block first.at n)

-- classes of places: in each n equal items stand, and each window has the class of all places where it stands
pub record AreWindowClasses (g : Graph) (n : ℕ) (classes : List (List WindowAt)) : Type 0 where
  pub each : (m : ℕ) (group : List WindowAt) → slice_get classes m ≡ Some group → AreStanding g n group
  pub all : (block at : ℕ) → IsWindow g n (place_in block at) → (m : ℕ) × (slice_get classes m ≡ Some (standing g (items_at g block at n)))
