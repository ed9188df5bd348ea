-- Blocks of which some went and others lost words.
use Rattle.std.specs.Prelude.{◌≡◌, ◌≤◌, List, [], ◌∷◌, length}
use Rattle.sq_graph.specs.declared.item.Term.{Term}
use Rattle.sq_graph.specs.declared.item.Term.TheVariants.{Fall, Jump, Branch, Call, PartJump, Indirect, Stop}
use Rattle.sq_graph.specs.Graph.{Block}
use Rattle.sq_graph.specs.Words.{block_words}

abbrev pub IsBranch : Term → Type 0
IsBranch Fall = ⊥
IsBranch (Jump to) = ⊥
IsBranch (Branch cond a b to) = Unit {0}
IsBranch (Call link to) = ⊥
IsBranch (PartJump link part to) = ⊥
IsBranch (Indirect link at offset) = ⊥
IsBranch (Stop word) = ⊥

-- A block in place of another: under its name, with no more words, and where it ends in a Branch the other did, behind
-- no fewer items
pub record IsShrunk (b c : Block) : Type 0 where
  pub name : c.name ≡ b.name
  pub words : block_words c ≤ block_words b
  pub branch : IsBranch c.term → IsBranch b.term × (length c.items ≤ length b.items)

-- some blocks are shrunk, and others are gone
pub data Shrinks : List Block → List Block → Type 0 where
  nothing : Shrinks [] []
  kept : (b c : Block) {bs cs : List Block} → IsShrunk b c → Shrinks bs cs → Shrinks (b ∷ bs) (c ∷ cs)
  gone : (b : Block) {bs cs : List Block} → Shrinks bs cs → Shrinks (b ∷ bs) cs
