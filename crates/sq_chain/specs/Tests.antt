-- Whether a block falls into what is its next slot then.
use Rattle.std.specs.Prelude.{ℕ, ◌==◌, if◌then◌else◌, Option, None, Some}
use Rattle.sq_arena.specs.Entries.{previous_key}
use Rattle.sq_graph.specs.declared.item.Term.{Term}
use Rattle.sq_graph.specs.declared.item.Term.TheVariants.{Jump}
use Rattle.sq_graph.specs.Graph.{Graph}
use Rattle.sq_graph.specs.Blocks.{named, term_of}

-- 1 for a Jump to this next slot
abbrev pub drop_of : Term → Option ℕ → ℕ
drop_of (Jump to) (Some next) = if to == next then 1 else 0
drop_of term next = 0

-- for the block of a name, if there is one
abbrev pub drop_term : Option Term → Option ℕ → ℕ
drop_term None next = 0
drop_term (Some term) next = drop_of term next

abbrev pub drop_at : Graph → ℕ → Option ℕ → ℕ
drop_at g n next = drop_term (term_of g n) next

-- for the block before another one, if there is one
abbrev pub drop_by : Graph → Option ℕ → Option ℕ → ℕ
drop_by g None next = 0
drop_by g (Some n) next = drop_at g n next

abbrev pub drop_before : Graph → ℕ → Option ℕ → ℕ
drop_before g to next = drop_by g (previous_key (named g.blocks) to) next
