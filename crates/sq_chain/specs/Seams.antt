-- Two pieces of the blocks that follow each other and are exchanged.
use Rattle.std.specs.Prelude.{◌≡◌, ℕ, ◌+◌, ◌*◌, ◌≤◌, ◌<◌, ◌^◌, List, sum_by, None, Some, IsSome}
use Rattle.sq_arena.specs.Entries.{value_of, before, through}
use Rattle.sq_graph.specs.Graph.{Block, Graph}
use Rattle.sq_graph.specs.Blocks.{named, block_of}
use Rattle.sq_graph.specs.Words.{block_words}
use Rattle.sq_layout.specs.Weights.{address_by}
use Rattle.sq_chain.specs.declared.seams.Seams.{Seams}

-- how many words these blocks take
abbrev pub size : List (ℕ × Block) → ℕ
size es = sum_by (λ (e : ℕ × Block). block_words e.1) es

-- The seams are where the chain begins and ends, and behind the block that jumps to it, which is ahead of it or behind it.
pub record AreSeams (g : Graph) (from to end : ℕ) (seams : Seams) : Type 0 where
  pub back : IsSome (value_of (before (named g.blocks) to) from)
      → (seams.first ≡ 4 * size (through (named g.blocks) from)) × (seams.second ≡ 4 * size (before (named g.blocks) to)) × (seams.end ≡ 4 * size (through (named g.blocks) end))
  pub ahead : value_of (before (named g.blocks) to) from ≡ None
      → (seams.first ≡ 4 * size (before (named g.blocks) to)) × (seams.second ≡ 4 * size (through (named g.blocks) end)) × (seams.end ≡ 4 * size (through (named g.blocks) from))

-- what stands at the one address stands at the other once the pieces are exchanged
pub record IsShifted (seams : Seams) (at to : ℕ) : Type 0 where
  pub before : at < seams.first → to ≡ at
  pub first : seams.first ≤ at → at < seams.second → to + seams.second ≡ at + seams.end
  pub second : seams.second ≤ at → at < seams.end → to + seams.second ≡ at + seams.first
  pub behind : seams.end ≤ at → to ≡ at

-- the other graph has the same blocks, each where it stands once the pieces are exchanged
pub record IsExchanged (g h : Graph) (seams : Seams) : Type 0 where
  pub first : seams.first ≤ seams.second
  pub second : seams.second ≤ seams.end
  pub few : seams.end < 2 ^ 34
  pub same : (n : ℕ) → block_of h n ≡ block_of g n
  pub shifted : (n at to : ℕ) → address_by block_words g.blocks 0 n ≡ Some at → IsShifted seams at to → address_by block_words h.blocks 0 n ≡ Some to
