-- Row C: a jump by an upper half that nothing else needs becomes one of a single word.
use Rattle.std.specs.Prelude.{◌≡◌, ◌≤◌, ℕ, Some, ◌-◌, length, Option, List, [], ◌∷◌, slice_get, take, nat_eq}
use Rattle.std.specs.List.{All, Contains, IsDistinct}
use Rattle.sq_graph.specs.declared.item.Term.TheVariants.{PartJump}
use Rattle.sq_graph.specs.Graph.{Graph}
use Rattle.sq_graph.specs.Blocks.{term_of, items_of}
use Rattle.law_patch.specs.Operations.{IsShortable, shortened, hastened}
use Rattle.sq_graph.specs.declared.item.Term.{Term}
use Rattle.sq_graph.specs.Operations.{with_term}

-- C: a last item Hi with the part and target of the PartJump that follows, and the part is its link or dead at the
-- target
pub record JumpsByDeadPart (g : Graph) (block : ℕ) : Type 0 where
  pub at : ℕ
  pub link : ℕ
  pub part : ℕ
  pub to : ℕ
  pub shortable : IsShortable g block at link part to

-- C: the last item goes, and the PartJump becomes a Call, or a Jump where the link is x0
abbrev pub shortened_by : Graph → ℕ → Option Term → Graph
shortened_by g block (Some (PartJump link part to)) = shortened g block (length (items_of g block) - 1) link to
shortened_by g block term = g

abbrev pub shortened_at : Graph → ℕ → Graph
shortened_at g block = shortened_by g block (term_of g block)

-- the PartJump at the end of the block becomes a Call, or a Jump where the link is x0, and its upper half stays. Any other
-- term stays
abbrev pub hastened_by : Graph → ℕ → Option Term → Graph
hastened_by g block (Some (PartJump link part to)) = with_term g block (hastened link to)
hastened_by g block term = g

abbrev pub hastened_at : Graph → ℕ → Graph
hastened_at g block = hastened_by g block (term_of g block)

-- the same at each of these blocks, one after another
abbrev pub hastened_each : List ℕ → Graph → Graph
hastened_each [] g = g
hastened_each (block ∷ rest) g = hastened_each rest (hastened_at g block)

-- C at these blocks, one after another
abbrev pub shortened_each : List ℕ → Graph → Graph
shortened_each [] g = g
shortened_each (block ∷ rest) g = shortened_each rest (shortened_at g block)

-- the same, where each block is one for C in the graph that those before it left
abbrev pub AreShortened : List ℕ → Graph → Graph → Type 0
AreShortened [] old new = new ≡ old
AreShortened (block ∷ rest) old new = JumpsByDeadPart old block × AreShortened rest (shortened_at old block) new

-- so many of these blocks, from the first on, are for C in this graph, and none of them stands there twice. The next one
-- is not for C, or is one of them
pub record AreFirstShortable (g : Graph) (blocks : List ℕ) (count : ℕ) : Type 0 where
  pub within : count ≤ length blocks
  pub jumps : All (JumpsByDeadPart g) (take count blocks)
  pub distinct : IsDistinct nat_eq (take count blocks)
  pub next : (block : ℕ) → slice_get blocks count ≡ Some block → JumpsByDeadPart g block → Contains (take count blocks) block
