-- The sets before the places of blocks. No public clause cites this module.
use Rattle.std.specs.Prelude.{◌≡◌, ℕ, ◌<◌, ◌≤◌, ◌+◌, Bool, false, not, ◌||◌, ◌&&◌, List, [], ◌∷◌, Some, length, take, drop, slice_index, slice_index_or, slice_get}
use Rattle.sq_isa.specs.Registers.{is_member, is_among_but_x0}
use Rattle.sq_graph.specs.declared.item.Item.{Item}
use Rattle.sq_graph.specs.Graph.{Block}
use Rattle.sq_graph.specs.Walks.{term_sources, term_link, is_register}
use Rattle.sq_live.specs.declared.effect.Effect.{Effect}
use Rattle.sq_live.specs.declared.places.Places.{Places}
use Rattle.sq_live.specs.declared.places.Span.{Span}
use Rattle.sq_live.specs.Effects.{before_items}
use Rattle.sq_live.specs.Search.{list_at}

-- whether one of these nodes has r in its set
abbrev pub any_member : List ℕ → List ℕ → ℕ → Bool
any_member nodes [] r = false
any_member nodes (to ∷ list) r = is_member (slice_index nodes to) r || any_member nodes list r

-- a set before each item, and one behind them
pub record ArePlaces (calls : List Effect) (items : List Item) (behind : ℕ) (places : List ℕ) : Type 0 where
  pub count : length places ≡ length items + 1
  pub live : (k r : ℕ) → k ≤ length items → r < 32 → is_member (slice_index places k) r ≡ before_items calls (drop k items) (is_member behind r) r

-- whether r is live before a term that leads to these nodes
abbrev pub before_term : Block → List ℕ → List ℕ → ℕ → Bool
before_term block nodes list r =
    is_among_but_x0 (term_sources block.term) r || (not (is_register (term_link block.term) r) && any_member nodes list r)

-- the places of a block that leads to these nodes
pub record AreInBlock (calls : List Effect) (nodes list : List ℕ) (block : Block) (places : List ℕ) : Type 0 where
  pub count : length places ≡ length block.items + 1
  pub live : (k r : ℕ) → k ≤ length block.items → r < 32 → is_member (slice_index places k) r ≡ before_items calls (drop k block.items) (before_term block nodes list r) r

-- where the sets of no block lie
abbrev pub no_span : Span
no_span = record { start = 0; count = 0 }

-- the sets that lie there, of those of all blocks
abbrev pub sets_in : List ℕ → Span → List ℕ
sets_in sets span = take span.count (drop span.start sets)

-- the sets of the block of a name
abbrev pub places_in : Places → ℕ → List ℕ
places_in places name = sets_in places.sets.items (slice_index_or places.spans.items name no_span)

-- Each block has its places.
abbrev pub AreBlockPlaces : List Effect → List (List ℕ) → List ℕ → List Block → (ℕ → List ℕ) → Type 0
AreBlockPlaces calls exits nodes blocks places =
    (k : ℕ) (block : Block) → slice_get blocks k ≡ Some block → AreInBlock calls nodes (list_at exits k) block (places block.name)
