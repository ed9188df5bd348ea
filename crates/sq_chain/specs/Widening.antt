-- Branches that are widened: what a set of them costs, when it is valid, and what becomes of a graph by it. A set has the
-- names of the blocks that end in its Branches.
use Rattle.std.specs.Prelude.{◌≡◌, ℕ, ◌+◌, Bool, true, false, List, [], ◌∷◌, ◌++◌, sum_by, Some, if◌then◌else◌}
use Rattle.std.specs.List.{count_by}
use Rattle.sq_isa.specs.Branches.{inverse_of}
use Rattle.sq_isa.specs.declared.instructions.Cond.{Cond}
use Rattle.sq_graph.specs.declared.item.Term.{Term}
use Rattle.sq_graph.specs.declared.item.Term.TheVariants.{Jump, Branch}
use Rattle.sq_graph.specs.Graph.{Block, Graph}
use Rattle.sq_graph.specs.Blocks.{next_of, term_of}
use Rattle.sq_graph.specs.Operations.{IsNew, changed}
use Rattle.sq_graph.specs.Parts.{names_of}
use Rattle.sq_graph.specs.Words.{block_words}
use Rattle.sq_layout.specs.Weights.{BranchReachesBy}

-- the words of a block, and one word more where its Branch is in the set
abbrev pub swollen : (ℕ → Bool) → Block → ℕ
swollen S b = block_words b + (if S b.name then 1 else 0)

-- the block ends in a Branch
pub record EndsInBranch (g : Graph) (block : ℕ) : Type 0 where
  pub cond : Cond
  pub a : ℕ
  pub b : ℕ
  pub to : ℕ
  pub is : term_of g block ≡ Some (Branch cond a b to)

-- A set of Branches is valid where every Branch outside of it reaches its target when each Branch in it counts one word
-- more.
pub record IsValid (g : Graph) (S : ℕ → Bool) : Type 0 where
  pub branches : (n : ℕ) → S n ≡ true → EndsInBranch g n
  pub reach : (n : ℕ) (cond : Cond) (a b to : ℕ) → term_of g n ≡ Some (Branch cond a b to) → S n ≡ false → BranchReachesBy (swollen S) g n to

-- the other set contains the one
abbrev pub IsWithin : (ℕ → Bool) → (ℕ → Bool) → Type 0
IsWithin S T = (n : ℕ) → S n ≡ true → T n ≡ true

-- The least set is the valid set that every valid set contains.
pub record IsLeastWidening (g : Graph) (S : ℕ → Bool) : Type 0 where
  pub valid : IsValid g S
  pub least : (T : ℕ → Bool) → IsValid g T → IsWithin S T

-- A Branch is inverted, to the next slot, over a new lone Jump block to its target.
abbrev pub jumped_over : ℕ → ℕ → Block → Term → List Block
jumped_over new next block (Branch cond a b to) =
    record block { term = Branch (inverse_of cond) a b next } ∷ record { name = new; items = []; term = Jump to } ∷ []
jumped_over new next block term = block ∷ []

abbrev pub over_jump : ℕ → ℕ → Block → List Block
over_jump new next block = jumped_over new next block block.term

-- So is each Branch of the set. `new` names the new block behind each of these blocks.
abbrev pub widened_blocks : (ℕ → ℕ) → (ℕ → Bool) → List Block → List Block
widened_blocks new S [] = []
widened_blocks new S (b ∷ []) = b ∷ []
widened_blocks new S (b ∷ next ∷ rest) =
    (if S b.name then over_jump (new b.name) next.name b else b ∷ []) ++ widened_blocks new S (next ∷ rest)

abbrev pub widened_by : (ℕ → ℕ) → (ℕ → Bool) → Graph → Graph
widened_by new S g = record g { blocks = widened_blocks new S g.blocks }

-- how many Branches of the graph are in the set
abbrev pub size_of : Graph → (ℕ → Bool) → ℕ
size_of g S = count_by (λ b. S b.name) g.blocks

-- a name above those of all blocks
abbrev pub fresh : Graph → ℕ
fresh g = 1 + sum_by (λ n. n) (names_of g)

-- the graph in which the Branches of the set are widened
abbrev pub widened : Graph → (ℕ → Bool) → Graph
widened g S = widened_by (λ n. fresh g + n) S g

-- the other graph is this one with the Branches of the set widened, by new blocks of some new names
pub record IsWidened (g h : Graph) (S : ℕ → Bool) : Type 0 where
  pub new : ℕ → ℕ
  pub fresh : (n : ℕ) → S n ≡ true → IsNew g (new n)
  pub apart : (m n : ℕ) → S m ≡ true → S n ≡ true → new m ≡ new n → m ≡ n
  pub is : h ≡ widened_by new S g

-- the other graph is this one with the Branch of one block widened
pub record IsOneWider (g h : Graph) (block : ℕ) : Type 0 where
  pub new : ℕ
  pub next : ℕ
  pub fresh : IsNew g new
  pub slot : next_of g block ≡ Some next
  pub is : h ≡ changed (over_jump new next) g block
