-- Stable partitions of the blocks of a graph. A partition is said by the class of each block.
use Rattle.std.specs.Prelude.{◌≡◌, ℕ, List, [], ◌++◌, Option, None, Some, map, if◌then◌else◌, option_to_list}
use Rattle.std.specs.Option.{option_map}
use Rattle.sq_graph.specs.declared.item.Item.{Item}
use Rattle.sq_graph.specs.declared.item.Item.TheVariants.{Op, Hi, Lo, Out}
use Rattle.sq_graph.specs.declared.item.Term.{Term}
use Rattle.sq_graph.specs.declared.item.Term.TheVariants.{Fall, Jump, Branch, Call, PartJump, Indirect, Stop}
use Rattle.sq_graph.specs.Blocks.{HasBlock, items_of, term_of, next_of}
use Rattle.sq_graph.specs.Graph.{Graph}
use Rattle.sq_graph.specs.Terms.{goes_on}
use Rattle.sq_graph.specs.Uses.{items_uses, term_uses}

-- the target of a term
abbrev pub target_references : Option Term → List ℕ
target_references None = []
target_references (Some term) = term_uses term

-- the next slot, where a term goes on. A Fall counts as a Jump to it, so it has one reference
abbrev pub next_references : Option Term → Option ℕ → List ℕ
next_references None next = []
next_references (Some term) next = if goes_on term then option_to_list next else []

-- the references of a block in order: the targets of its Hi and Lo, and behind them those of its term
abbrev pub references_of : Graph → ℕ → List ℕ
references_of g block = items_uses (items_of g block) ++ (target_references (term_of g block) ++ next_references (term_of g block) (next_of g block))

-- an item and a term but for the names in them
abbrev pub bare_item : Item → Item
bare_item (Op insn) = Op insn
bare_item (Hi rd to) = Hi rd 0
bare_item (Lo rd rs to) = Lo rd rs 0
bare_item (Out procedure) = Out procedure

abbrev pub bare_term : Term → Term
bare_term Fall = Jump 0
bare_term (Jump to) = Jump 0
bare_term (Branch c a b to) = Branch c a b 0
bare_term (Call link to) = Call link 0
bare_term (PartJump link part to) = PartJump link part 0
bare_term (Indirect link at offset) = Indirect link at offset
bare_term (Stop word) = Stop word

-- a block but for the names in its references
abbrev pub shape_of : Graph → ℕ → List Item × Option Term
shape_of g block = (map bare_item (items_of g block), option_map bare_term (term_of g block))

-- Any two blocks of one class are equal but for the names in their references, and references in equal places are of one
-- class.
pub record IsStablePartition {K : Type 0} (g : Graph) (class : ℕ → K) : Type 0 where
  pub shapes : (x y : ℕ) → HasBlock g x → HasBlock g y → class x ≡ class y → shape_of g x ≡ shape_of g y
  pub references : (x y : ℕ) → HasBlock g x → HasBlock g y → class x ≡ class y → map class (references_of g x) ≡ map class (references_of g y)

-- its classes contain those of every stable one
pub record IsCoarsestPartition {K : Type 0} (g : Graph) (class : ℕ → K) : Type 0 where
  pub stable : IsStablePartition g class
  pub coarsest : (other : ℕ → ℕ) → IsStablePartition g other → (x y : ℕ) → HasBlock g x → HasBlock g y → other x ≡ other y → class x ≡ class y
