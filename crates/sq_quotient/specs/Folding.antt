-- Blocks that are folded: of each class one stays, and all names of the others go over to it.
use Rattle.std.specs.Prelude.{◌≡◌, ℕ, Bool, true, false, ◌&&◌, ◌==◌, not, if◌then◌else◌, List, [], ◌∷◌, ◌++◌, map, Option, nat_eq}
use Rattle.std.specs.Option.{option_eq}
use Rattle.sq_graph.specs.declared.item.Term.TheVariants.{Jump}
use Rattle.sq_graph.specs.Graph.{Block, Graph}
use Rattle.sq_graph.specs.Blocks.{HasBlock}
use Rattle.sq_graph.specs.Leaders.{is_fall}
use Rattle.sq_graph.specs.Operations.{IsNew}
use Rattle.sq_graph.specs.Parts.{names_of}
use Rattle.sq_graph.specs.Renames.{retargeted, retargeted_block}
use Rattle.sq_graph.specs.Terms.{goes_on}
use Rattle.sq_fold.specs.Partition.{references_of, shape_of}

-- the first of these names that is of this one's class, and the name itself where there is none
abbrev pub first_alike : (ℕ → Option ℕ) → List ℕ → ℕ → ℕ
first_alike class [] name = name
first_alike class (n ∷ names) name = if option_eq nat_eq (class n) (class name) then n else first_alike class names name

-- the block that stays of a block's class: the first in layout order
abbrev pub stays_for : Graph → (ℕ → Option ℕ) → ℕ → ℕ
stays_for g class = first_alike class (names_of g)

-- a block that stays goes on into one that goes
abbrev pub falls_away : (ℕ → ℕ) → Block → List Block → Bool
falls_away f b [] = false
falls_away f b (next ∷ rest) = goes_on b.term && not (f next.name == next.name)

abbrev pub lands_at : (ℕ → ℕ) → List Block → ℕ
lands_at f [] = 0
lands_at f (next ∷ rest) = f next.name

-- Then its Fall becomes a Jump to the block that stays in place of that one; behind another term stands a new lone Jump to it.
abbrev pub landed : Bool → Bool → Block → ℕ → ℕ → List Block
landed false falls b new to = b ∷ []
landed true true b new to = record b { term = Jump to } ∷ []
landed true false b new to = b ∷ record { name = new; items = []; term = Jump to } ∷ []

abbrev pub stayed : (ℕ → ℕ) → (ℕ → ℕ) → Block → List Block → List Block
stayed f new b rest = landed (falls_away f b rest) (is_fall b.term) (retargeted_block f b) (new b.name) (lands_at f rest)

-- The blocks that stay, by the names of the blocks that stay in place of all. `new` names the new block behind each.
abbrev pub folded_blocks : (ℕ → ℕ) → (ℕ → ℕ) → List Block → List Block
folded_blocks f new [] = []
folded_blocks f new (b ∷ rest) = if f b.name == b.name then stayed f new b rest ++ folded_blocks f new rest else folded_blocks f new rest

abbrev pub folded_by : (ℕ → ℕ) → (ℕ → ℕ) → Graph → Graph
folded_by f new g = record (retargeted f g) { blocks = folded_blocks f new g.blocks }

-- Each block goes over to one that stays, which is equal to it but for the names in its references, and references in equal
-- places go over to the same.
pub record Merges (g : Graph) (f : ℕ → ℕ) : Type 0 where
  pub there : (n : ℕ) → HasBlock g n → HasBlock g (f n)
  pub again : (n : ℕ) → HasBlock g n → f (f n) ≡ f n
  pub shapes : (n : ℕ) → HasBlock g n → shape_of g n ≡ shape_of g (f n)
  pub references : (n : ℕ) → HasBlock g n → map f (references_of g n) ≡ map f (references_of g (f n))

-- the new names are those of no blocks, and different
pub record AreNewNames (g : Graph) (new : ℕ → ℕ) : Type 0 where
  pub fresh : (n : ℕ) → IsNew g (new n)
  pub apart : (m n : ℕ) → new m ≡ new n → m ≡ n
