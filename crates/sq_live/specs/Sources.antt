-- Who leads to each node: edges in one vector, those to a node chained, the last one first. No public clause cites this
-- module.
use Rattle.std.specs.Prelude.{◌≡◌, ℕ, zero, suc, ◌<◌, ◌↔◌, ◌⊎◌, List, [], ◌∷◌, Option, Some, None, map, length, slice_index_or}
use Rattle.std.specs.List.{Contains}
use Rattle.sq_live.specs.declared.sources.Edge.{Edge}
use Rattle.sq_live.specs.declared.sources.Sources.{Sources}
use Rattle.sq_live.specs.Search.{list_at}

abbrev pub no_edge : Edge
no_edge = record { from = 0; next = None }

abbrev pub edge_at : List Edge → ℕ → Edge
edge_at edges k = slice_index_or edges k no_edge

-- where edges come from: this one and those that it goes on to, so many at most
abbrev pub chain : List Edge → ℕ → Option ℕ → List ℕ
chain edges zero at = []
chain edges (suc n) None = []
chain edges (suc n) (Some k) = (edge_at edges k).from ∷ chain edges n (edge_at edges k).next

-- the list of each node, where these are the first edges to the nodes
abbrev pub sources_in : List (Option ℕ) → List Edge → List (List ℕ)
sources_in first edges = map (λ at. chain edges (length edges) at) first

abbrev pub sources_of : Sources → List (List ℕ)
sources_of s = sources_in s.first.items s.edges.items

-- what is named is below the bound
abbrev pub IsWithin : ℕ → Option ℕ → Type 0
IsWithin bound at = (k : ℕ) → at ≡ Some k → k < bound

-- Each edge goes on to one that was made before it.
pub record AreChained (first : List (Option ℕ)) (edges : List Edge) : Type 0 where
  pub begun : (to : ℕ) → IsWithin (length edges) (slice_index_or first to None)
  pub back : (k : ℕ) → IsWithin k (edge_at edges k).next

abbrev pub IsChained : Sources → Type 0
IsChained s = AreChained s.first.items s.edges.items

-- the lists where `from` stands in those of these nodes too
abbrev pub AddsTo : List (List ℕ) → List (List ℕ) → ℕ → List ℕ → Type 0
AddsTo old new from nodes = (p to : ℕ) → Contains (list_at new to) p ↔ (Contains (list_at old to) p ⊎ ((p ≡ from) × Contains nodes to))

-- the nodes before `bound` stand in the lists of those to which they lead
abbrev pub AreSources : List (List ℕ) → List (List ℕ) → ℕ → Type 0
AreSources exits sources bound = (p to : ℕ) → Contains (list_at sources to) p ↔ ((p < bound) × Contains (list_at exits p) to)
