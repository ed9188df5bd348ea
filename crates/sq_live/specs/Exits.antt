-- Where blocks lead, by nodes: the positions of blocks in layout order, and behind these the node that leads to each
-- code target. No public clause cites this module.
use Rattle.std.specs.Prelude.{ℕ, ◌+◌, ◌==◌, List, [], ◌∷◌, ◌++◌, Option, Some, None, if◌then◌else◌, option_to_list, slice_index_or}
use Rattle.std.specs.List.{flat_map}
use Rattle.sq_graph.specs.declared.item.Term.{Term}
use Rattle.sq_graph.specs.declared.item.Term.TheVariants.{Fall, Jump, Branch, Call, PartJump, Indirect, Stop}
use Rattle.sq_graph.specs.Graph.{Block, Graph}
use Rattle.sq_graph.specs.Walks.{code_targets}

-- the position of a name, where these names stand from position k on
abbrev pub position_in : List ℕ → ℕ → ℕ → Option ℕ
position_in [] k name = None
position_in (n ∷ names) k name = if n == name then Some k else position_in names (k + 1) name

-- the position under a name, in a table by names
abbrev pub position_at : List (Option ℕ) → ℕ → Option ℕ
position_at positions name = slice_index_or positions name None

-- the nodes of the names that are blocks'
abbrev pub nodes_of : (ℕ → Option ℕ) → List ℕ → List ℕ
nodes_of position names = flat_map (λ name. option_to_list (position name)) names

abbrev pub listed : Option ℕ → Option ℕ → List ℕ
listed first second = option_to_list first ++ option_to_list second

-- where a term leads that has this node in the next slot
abbrev pub term_exits : (ℕ → Option ℕ) → ℕ → Option ℕ → Term → List ℕ
term_exits position targets next Fall = listed next None
term_exits position targets next (Jump to) = listed (position to) None
term_exits position targets next (Branch cond a b to) = listed (position to) next
term_exits position targets next (Call link to) = listed (position to) None
term_exits position targets next (PartJump link part to) = listed (position to) None
term_exits position targets next (Indirect link at offset) = listed (Some targets) None
term_exits position targets next (Stop word) = listed None None

-- the node in the slot behind position k, where these blocks stand behind it
abbrev pub next_node : ℕ → List Block → Option ℕ
next_node k [] = None
next_node k (block ∷ blocks) = Some (k + 1)

-- where blocks lead that stand from position k on
abbrev pub blocks_exits : (ℕ → Option ℕ) → ℕ → ℕ → List Block → List (List ℕ)
blocks_exits position targets k [] = []
blocks_exits position targets k (block ∷ blocks) =
    term_exits position targets (next_node k blocks) block.term ∷ blocks_exits position targets (k + 1) blocks

-- where each node leads: the blocks, and behind them the node `targets`
abbrev pub exits_of : (ℕ → Option ℕ) → ℕ → Graph → List (List ℕ)
exits_of position targets g =
    blocks_exits position targets 0 g.blocks ++ nodes_of position (code_targets g) ∷ []
