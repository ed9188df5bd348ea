-- What names another block in place of one.
use Rattle.std.specs.Prelude.{◌≡◌, ◌≢◌, ℕ, Bool, true, [], ◌∷◌, map, Option, None, Some, if◌then◌else◌}
use Rattle.sq_isa.specs.Registers.{is_among}
use Rattle.sq_graph.specs.declared.item.Item.{Item}
use Rattle.sq_graph.specs.declared.item.Term.{Term}
use Rattle.sq_graph.specs.declared.item.Term.TheVariants.{Jump, Call, PartJump}
use Rattle.sq_graph.specs.Graph.{Block, Graph}
use Rattle.sq_graph.specs.Blocks.{next_of}
use Rattle.sq_graph.specs.Renames.{retargeted_item, retargeted_items, retargeted_procedure, retargeted_term, retargeted_words, swapped}
use Rattle.sq_graph.specs.Rules.{IsGraph}
use Rattle.sq_graph.specs.Uses.{item_uses, term_uses}
use Rattle.sq_lookup.specs.Names.{held_uses}

-- where a term that isn't a Branch goes to, or what it calls, if it names that
abbrev pub leads_to : Term → Option ℕ
leads_to (Jump to) = Some to
leads_to (Call link to) = Some to
leads_to (PartJump link part to) = Some to
leads_to term = None

-- the term of a block that is one of these names the other block where it names the one
abbrev pub passed_block : (ℕ → Bool) → ℕ → ℕ → Block → Block
passed_block among bare next b = record b { term = if among b.name then retargeted_term (swapped bare next) b.term else b.term }

abbrev pub passed_on : (ℕ → Bool) → ℕ → ℕ → Graph → Graph
passed_on among bare next g = record g { blocks = map (passed_block among bare next) g.blocks }

-- a term that names the one block becomes one that names the other
pub record IsTurned (bare next : ℕ) (old new : Term) : Type 0 where
  pub was : term_uses old ≡ bare ∷ []
  pub is : new ≡ retargeted_term (swapped bare next) old

-- the other graph is this one, but some of the terms that name the one block name the other
pub record IsPassedOn (bare next : ℕ) (g h : Graph) : Type 0 where
  pub among : ℕ → Bool
  pub is : h ≡ passed_on among bare next g

-- an item that names the one block becomes one that names the other
pub record IsItemHanded (bare next : ℕ) (old new : Item) : Type 0 where
  pub was : item_uses old ≡ bare ∷ []
  pub is : new ≡ retargeted_item (swapped bare next) old

-- the block's items name the other block where they named the one
abbrev pub handed_block : ℕ → ℕ → Block → Block
handed_block bare next b = record b { items = retargeted_items (swapped bare next) b.items }

-- the other graph is this one, but where the entry, a word of data or an item names the one block, it may name the other; each
-- further block that is named there is still named there
pub record IsHandedOn (bare next : ℕ) (g h : Graph) : Type 0 where
  pub blocks : map (handed_block bare next) h.blocks ≡ map (handed_block bare next) g.blocks
  pub procedures : map (retargeted_procedure (swapped bare next)) h.procedures ≡ map (retargeted_procedure (swapped bare next)) g.procedures
  pub entry : swapped bare next h.entry ≡ swapped bare next g.entry
  pub words : retargeted_words (swapped bare next) h.code_words ≡ retargeted_words (swapped bare next) g.code_words
  pub used : (m : ℕ) → m ≢ bare → is_among (held_uses g) m ≡ true → is_among (held_uses h) m ≡ true

-- the other graph is this one, but some of the uses of this block are uses of the next one
pub record IsPassed (bare : ℕ) (g h : Graph) : Type 0 where
  pub next : ℕ
  pub slot : next_of g bare ≡ Some next
  pub mid : Graph
  pub rules : IsGraph mid
  pub handed : IsHandedOn bare next g mid
  pub on : IsPassedOn bare next mid h
