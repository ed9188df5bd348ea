-- A search over the blocks of a graph, in midst. No public clause cites this module.
use Rattle.std.specs.Prelude.{◌≡◌, ℕ, ◌+◌, true, ◌&&◌, ◌||◌, not, List, [], ◌++◌, length, nat_eq, Option, Some, None, option_to_list, if◌then◌else◌}
use Rattle.std.specs.List.{IsDistinct, slice_get}
use Rattle.sq_graph.specs.declared.item.Term.{Term}
use Rattle.sq_graph.specs.Blocks.{term_of, next_of}
use Rattle.sq_graph.specs.Graph.{Procedure, Graph}
use Rattle.sq_graph.specs.Terms.{goes_on}
use Rattle.sq_graph.specs.Uses.{term_uses}
use Rattle.sq_graph.specs.Walks.{procedure_names}
use Rattle.sq_reach.specs.Marks.{is_marked}

-- the names that were reached, those of them whose blocks are yet to be looked at, and the procedures whose bodies
-- were looked at
pub record Found : Type 0 where
  pub reached : List ℕ
  pub waiting : List ℕ
  pub called : List ℕ

-- where a block leads by its term: the targets of the term, and the next slot where the term goes on
abbrev pub exits_by : Graph → ℕ → Option Term → List ℕ
exits_by g n None = []
exits_by g n (Some term) = term_uses term ++ (if goes_on term then option_to_list (next_of g n) else [])

abbrev pub term_exits : Graph → ℕ → List ℕ
term_exits g n = exits_by g n (term_of g n)

-- these names were reached, and those that are new wait
pub record Reaches (names : List ℕ) (old new : Found) : Type 0 where
  pub reached : (n : ℕ) → is_marked new.reached n ≡ (is_marked old.reached n || is_marked names n)
  pub waiting : (n : ℕ) → is_marked new.waiting n ≡ (is_marked old.waiting n || (is_marked names n && not (is_marked old.reached n)))
  pub looked_at : length new.reached + length old.waiting ≡ length old.reached + length new.waiting
  pub distinct : IsDistinct nat_eq old.reached → IsDistinct nat_eq new.reached

-- the targets in the bodies of the called procedures were reached
pub record KnowsBodies (procedures : List Procedure) (found : Found) : Type 0 where
  pub knows : (p n : ℕ) → is_marked found.called p ≡ true → is_marked (procedure_names (slice_get procedures p)) n ≡ true → is_marked found.reached n ≡ true
