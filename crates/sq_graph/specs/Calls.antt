-- Items that become calls, all at once.
use Rattle.std.specs.Prelude.{◌≡◌, ℕ, ◌+◌, ◌-◌, ◌==◌, Bool, true, false, if◌then◌else◌, List, [], ◌∷◌, ◌++◌, take, drop, length, replicate}
use Rattle.std.specs.List.{count_by, list_all}
use Rattle.sq_graph.specs.declared.item.Item.{Item}
use Rattle.sq_graph.specs.declared.item.Item.TheVariants.{Out}
use Rattle.sq_graph.specs.declared.calls.ItemFate.{ItemFate}
use Rattle.sq_graph.specs.declared.calls.ItemFate.TheVariants.{Stays, Calls, Goes}
use Rattle.sq_graph.specs.Graph.{Block, Graph}

-- what stands in place of an item of this fate
abbrev pub met_item : ItemFate → Item → List Item
met_item Stays item = item ∷ []
met_item (Calls procedure) item = Out procedure ∷ []
met_item Goes item = []

-- what stands in place of items that meet the first of these fates
abbrev pub met_items : List ItemFate → List Item → List Item
met_items [] items = []
met_items (fate ∷ fates) [] = []
met_items (fate ∷ fates) (item ∷ items) = met_item fate item ++ met_items fates items

-- the blocks, whose items meet these fates in layout order
abbrev pub met_blocks : List ItemFate → List Block → List Block
met_blocks fates [] = []
met_blocks fates (b ∷ blocks) = record b { items = met_items fates b.items } ∷ met_blocks (drop (length b.items) fates) blocks

abbrev pub with_calls : List ItemFate → Graph → Graph
with_calls fates g = record g { blocks = met_blocks fates g.blocks }

-- SPANS

-- whether an item stays
abbrev pub is_free : ItemFate → Bool
is_free Stays = true
is_free (Calls procedure) = false
is_free Goes = false

-- whether an item is there then, or a call in its place
abbrev pub stands : ItemFate → Bool
stands Stays = true
stands (Calls procedure) = true
stands Goes = false

-- where what is at a place stands then: how many items and calls are ahead of it
abbrev pub now_at : List ItemFate → ℕ → ℕ
now_at fates at = count_by stands (take at fates)

-- whether each of the n items from a place on stays
abbrev pub are_free : ℕ → List ItemFate → ℕ → Bool
are_free n fates at = list_all is_free (take n (drop at fates))

-- an item that goes is behind a call or behind another one that goes
abbrev pub AreSpansFrom : Bool → List ItemFate → Type 0
AreSpansFrom taken [] = Unit {0}
AreSpansFrom taken (Stays ∷ fates) = AreSpansFrom false fates
AreSpansFrom taken (Calls procedure ∷ fates) = AreSpansFrom true fates
AreSpansFrom taken (Goes ∷ fates) = (taken ≡ true) × AreSpansFrom true fates

abbrev pub AreSpans : List ItemFate → Type 0
AreSpans fates = AreSpansFrom false fates

-- the n items from a place on become a call
abbrev pub with_span : List ItemFate → ℕ → ℕ → ℕ → List ItemFate
with_span fates at n procedure = take at fates ++ Calls procedure ∷ (replicate (n - 1) Goes ++ drop (at + n) fates)

-- those of the items of a block
abbrev pub fates_among : List Block → List ItemFate → ℕ → List ItemFate
fates_among [] fates name = []
fates_among (b ∷ blocks) fates name = if b.name == name then take (length b.items) fates else fates_among blocks (drop (length b.items) fates) name

abbrev pub fates_of : Graph → List ItemFate → ℕ → List ItemFate
fates_of g fates name = fates_among g.blocks fates name

-- how many items of blocks are ahead of a block
abbrev pub items_ahead : List Block → ℕ → ℕ
items_ahead [] name = 0
items_ahead (b ∷ blocks) name = if b.name == name then 0 else length b.items + items_ahead blocks name
