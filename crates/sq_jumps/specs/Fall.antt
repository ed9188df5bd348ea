-- Row J1: a Jump to the next slot becomes Fall.
use Rattle.std.specs.Prelude.{◌≡◌, ℕ, Some, false, take}
use Rattle.std.specs.List.{All}
use Rattle.sq_graph.specs.declared.item.Term.TheVariants.{Jump, Fall}
use Rattle.sq_graph.specs.Graph.{Graph}
use Rattle.sq_graph.specs.Blocks.{next_of, term_of, items_of}
use Rattle.sq_graph.specs.Operations.{with_term}
use Rattle.sq_graph.specs.Leaders.{has_no_items, is_bare, is_leader, FallsIntoLeaders}

-- J1: a Jump to the next slot
pub record JumpsToNext (g : Graph) (block : ℕ) : Type 0 where
  pub to : ℕ
  pub jump : term_of g block ≡ Some (Jump to)
  pub next : next_of g block ≡ Some to

-- J1: the term becomes Fall
abbrev pub falling : Graph → ℕ → Graph
falling g block = with_term g block Fall

-- A Jump behind an item, to the next slot.
pub record IsPlainFall (g : Graph) (block : ℕ) : Type 0 where
  pub jumps : JumpsToNext g block
  pub filled : has_no_items (items_of g block) ≡ false

-- No block is bare, and of the first so many blocks each that is fallen into is a leader. Behind them may stand blocks that
-- the canonical form joins.
pub record IsCanonicalTo (count : ℕ) (g : Graph) : Type 0 where
  pub no_bare : All (λ b. is_bare b ≡ false) g.blocks
  pub leaders : FallsIntoLeaders (is_leader g) (take count g.blocks)
