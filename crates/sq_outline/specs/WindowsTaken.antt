-- Items inside blocks that a sweep takes for calls. No public clause cites this module.
use Rattle.std.specs.Prelude.{◌≡◌, ◌≢◌, ◌↔◌, ℕ, ◌+◌, ◌-◌, ◌*◌, ◌≤◌, Bool, true, List, [], ◌∷◌, None, Some, length, slice_get}
use Rattle.std.specs.List.{All, filter}
use Rattle.sq_graph.specs.declared.calls.ItemFate.{ItemFate}
use Rattle.sq_graph.specs.declared.calls.ItemFate.TheVariants.{Goes}
use Rattle.sq_graph.specs.Graph.{Graph}
use Rattle.sq_graph.specs.Blocks.{HasBlock, items_of, items_of_blocks}
use Rattle.sq_graph.specs.Calls.{with_calls, now_at, are_free, AreSpans, with_span, fates_of, items_ahead}
use Rattle.sq_graph.specs.Lines.{place_lines}
use Rattle.sq_graph.specs.Walks.{IsLive}
use Rattle.sq_finger.specs.declared.places.WindowAt.{WindowAt}
use Rattle.sq_lookup.specs.Addresses.{address_at}
use Rattle.sq_lookup.specs.Tables.{number_at}
use Rattle.sq_outline.specs.declared.sites.Site.{Site}
use Rattle.sq_outline.specs.Links.{IsLink}
use Rattle.sq_outline.specs.Made.{ArePlain}
use Rattle.sq_outline.specs.WindowsMade.{items_at, IsWhole, behind}
use Rattle.sq_outline.specs.WindowsPlaces.{in_block}
use Rattle.sq_outline.specs.WindowsSearch.{standing, thinned}
use Rattle.sq_outline.specs.declared.windows.taken.Taken.{Taken}

-- each item of the blocks has a fate, and those of a block that go are behind calls
pub record AreTaken (g : Graph) (fates : List ItemFate) : Type 0 where
  pub many : length fates ≡ length (items_of_blocks g.blocks)
  pub spans : (block : ℕ) → AreSpans (fates_of g fates block)

-- what is at this place of a block doesn't go
abbrev pub IsKept : Graph → List ItemFate → ℕ → ℕ → Type 0
IsKept g fates block at = slice_get (fates_of g fates block) at ≢ Some Goes

-- where a place of a block is then
abbrev pub place_then : Graph → List ItemFate → ℕ → ℕ → ℕ
place_then g fates block at = now_at (fates_of g fates block) at

abbrev pub site_then : Graph → List ItemFate → Site → Site
site_then g fates site = record site { at = place_then g fates site.block site.at }

-- whether none of the n items at a place is taken
abbrev pub is_free_place : Graph → List ItemFate → ℕ → WindowAt → Bool
is_free_place g fates n place = are_free n (fates_of g fates place.block) place.at

-- the same registers are live at the places that are kept, once these calls came
abbrev pub KeepsLive : Graph → List ItemFate → Type 0
KeepsLive g fates =
    (block at r : ℕ) → HasBlock g block → at ≤ length (items_of g block) → IsKept g fates block at → IsLive g r (place_lines g block at) ↔ IsLive (with_calls fates g) r (place_lines (with_calls fates g) block (place_then g fates block at))

-- n items of a block from this place on are there, and none of them is taken
pub record IsFreeSite (g : Graph) (fates : List ItemFate) (n : ℕ) (site : Site) : Type 0 where
  pub there : HasBlock g site.block
  pub within : site.at + n ≤ length (items_of g site.block)
  pub free : are_free n (fates_of g fates site.block) site.at ≡ true

-- the window occurs first at this place, of those where none of its items was taken, and may become a procedure by them
pub record MayBeMadeOf (g : Graph) (fates : List ItemFate) (block at n link saving : ℕ) (sites : List Site) : Type 0 where
  pub least : 3 ≤ n
  pub most : n ≤ 16
  pub sites_are : sites ≡ thinned n None (filter (is_free_place g fates n) (standing g (items_at g block at n)))
  pub free : All (IsFreeSite g fates n) sites
  pub plain : ArePlain (items_at g block at n)
  pub others : List Site
  pub first : sites ≡ in_block block at ∷ others
  pub part : ¬ All (IsWhole g n) sites
  pub linked : IsLink g (items_at g block at n) (behind n sites) link
  pub saves : saving + (n + 1) ≡ length sites * (n - 1)
  pub some : 1 ≤ saving

-- the n items at each of these places become a call of the procedure
abbrev pub with_spans : Graph → ℕ → ℕ → List Site → List ItemFate → List ItemFate
with_spans g n procedure [] fates = fates
with_spans g n procedure (site ∷ sites) fates = with_spans g n procedure sites (with_span fates (items_ahead g.blocks site.block + site.at) n procedure)

-- THE TABLE

-- which of all items stands at a place
abbrev pub index_of : Taken → ℕ → ℕ → ℕ
index_of taken block at = address_at (number_at taken.ahead) block + at

-- the n items at a place are among those of which it tells
abbrev pub HasFates : Taken → ℕ → ℕ → ℕ → Type 0
HasFates taken block at n = index_of taken block at + n ≤ length taken.fates.items

-- whether none of the n items at a place is taken, by where they stand among all
abbrev pub is_free_at : Taken → ℕ → WindowAt → Bool
is_free_at taken n place = are_free n taken.fates.items (index_of taken place.block place.at)

-- what a sweep took of the items of a graph
pub record IsTakenOf (g : Graph) (taken : Taken) : Type 0 where
  pub fates : AreTaken g taken.fates.items
  pub ahead : (block : ℕ) → HasBlock g block → address_at (number_at taken.ahead) block ≡ items_ahead g.blocks block
