-- The least widening, found in rounds: each adds the Branches that don't reach.
use Rattle.std.specs.Prelude.{ℕ, zero, suc, ◌+◌, ◌*◌, Bool, false, ◌&&◌, ◌||◌, not, length, Option, Some, unwrap_or, nat_le}
use Rattle.sq_graph.specs.declared.item.Term.{Term}
use Rattle.sq_graph.specs.declared.item.Term.TheVariants.{Branch}
use Rattle.sq_graph.specs.Graph.{Block, Graph}
use Rattle.sq_graph.specs.Blocks.{items_of, term_of}
use Rattle.sq_layout.specs.Weights.{address_by}
use Rattle.sq_chain.specs.Widening.{swollen, widened}

-- whether a Branch at this address reaches the other one
abbrev pub is_near : ℕ → ℕ → Bool
is_near at target = nat_le at (target + 4096) && nat_le target (at + 4094)

-- where a block stands by these weights
abbrev pub stands_at : (Block → ℕ) → Graph → ℕ → ℕ
stands_at weight g n = unwrap_or (address_by weight g.blocks 0 n) 0

-- whether this term is a Branch that doesn't reach from the end of the block, by these addresses
abbrev pub is_short : (ℕ → ℕ) → Graph → ℕ → Option Term → Bool
is_short address g n (Some (Branch cond a b to)) =
    not (is_near (address n + 4 * length (items_of g n)) (address to))
is_short address g n term = false

-- whether the block ends in a Branch that doesn't reach when each Branch in the set counts one word more
abbrev pub falls_short : Graph → (ℕ → Bool) → ℕ → Bool
falls_short g S n = is_short (stands_at (swollen S) g) g n (term_of g n)

-- the set with these Branches too
abbrev pub grown : Graph → (ℕ → Bool) → ℕ → Bool
grown g S n = S n || falls_short g S n

-- the set after so many rounds, from the empty one on
abbrev pub after_rounds : Graph → ℕ → ℕ → Bool
after_rounds g zero n = false
after_rounds g (suc k) n = grown g (after_rounds g k) n

-- There are no more rounds that add a Branch than there are blocks.
abbrev pub least : Graph → ℕ → Bool
least g = after_rounds g (length g.blocks)

-- the graph in which the least set is widened
abbrev pub least_widened : Graph → Graph
least_widened g = widened g (least g)
