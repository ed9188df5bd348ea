-- What decides where the blocks of a graph stand.
use Rattle.std.specs.Prelude.{◌≡◌, ℕ, ◌+◌, ◌<◌, ◌^◌, Bool, true, List, map, length, None}
use Rattle.sq_graph.specs.Graph.{Block, Graph}
use Rattle.sq_graph.specs.Blocks.{HasBlock}
use Rattle.sq_graph.specs.Places.{IsInReach}
use Rattle.sq_graph.specs.Rules.{IsGraph}
use Rattle.sq_graph.specs.Words.{block_words, words_of}
use Rattle.sq_layout.specs.Weights.{address_by}
use Rattle.sq_lookup.specs.Marks.{is_marked}
use Rattle.sq_chain.specs.Places.{placed_at}
use Rattle.sq_chain.specs.Widening.{EndsInBranch}
use Rattle.sq_chain.specs.Moves.{fallen_blocks, fallen}
use Rattle.sq_chain.specs.declared.survey.Extent.{Extent}
use Rattle.sq_chain.specs.declared.survey.Places.{Places}
use Rattle.sq_chain.specs.declared.survey.Survey.{Survey}

abbrev pub extent_of : Block → Extent
extent_of b = record { name = b.name; words = block_words b; term = b.term }

abbrev pub extents_of : Graph → List Extent
extents_of g = map extent_of g.blocks

-- the name of each block is less than this number
abbrev pub AreBelow : ℕ → Graph → Type 0
AreBelow names g = (n : ℕ) → HasBlock g n → n < names

-- there is room for an address under the name of each block, and none is there yet
pub record IsRoom (g : Graph) (room : List ℕ) : Type 0 where
  pub within : (n : ℕ) → HasBlock g n → n < length room
  pub none : (n : ℕ) → placed_at room n ≡ None

-- the blocks of a graph that isn't large are these in layout order
pub record IsLaidOut (g : Graph) (order : List Extent) : Type 0 where
  pub rules : IsGraph g
  pub few : words_of g < 2 ^ 31
  pub listed : order ≡ extents_of g

-- each block that ends in a Branch is marked
abbrev pub AreMarked : Graph → List Bool → Type 0
AreMarked g marks = (n : ℕ) → EndsInBranch g n → is_marked marks n ≡ true

-- What the look over a graph's blocks found: `near` only where each Branch reaches once each Jump to the next slot is Fall.
pub record IsSurvey (g : Graph) (survey : Survey) : Type 0 where
  pub names : AreBelow survey.names g
  pub addresses : (n : ℕ) → placed_at survey.places.addresses n ≡ address_by block_words (fallen_blocks g.blocks) 0 n
  pub falls : words_of (fallen g) + survey.falls ≡ words_of g
  pub near : survey.near ≡ true → IsInReach (fallen g)
  pub words : survey.places.words ≡ words_of g
  pub branches : AreMarked g survey.places.branches

-- These are the addresses of its blocks, so many words it takes, and those that end in a Branch are marked.
pub record IsPlaced (g : Graph) (places : Places) : Type 0 where
  pub addresses : (n : ℕ) → placed_at places.addresses n ≡ address_by block_words g.blocks 0 n
  pub words : places.words ≡ words_of g
  pub branches : AreMarked g places.branches

-- no block jumps to the next slot
abbrev pub NoneFalls : Graph → Type 0
NoneFalls g = fallen_blocks g.blocks ≡ g.blocks
