-- How often a graph uses names of blocks.
use Rattle.std.specs.Prelude.{◌≡◌, ℕ, ◌+◌, ◌==◌, if◌then◌else◌, List, [], ◌∷◌, Option, IfSome, slice_index_or}
use Rattle.sq_graph.specs.declared.item.Item.{Item}
use Rattle.sq_graph.specs.Graph.{Graph}
use Rattle.sq_graph.specs.Blocks.{all_items}
use Rattle.sq_graph.specs.Uses.{code_word_uses, items_uses, terms_uses}
use Rattle.sq_lookup.specs.declared.counts.Uses.{Uses}

-- the number under a name, and 0 where there is none
abbrev pub count_at : List ℕ → ℕ → ℕ
count_at counts name = slice_index_or counts name 0

-- how often a name is among these
abbrev pub times_named : List ℕ → ℕ → ℕ
times_named [] n = 0
times_named (m ∷ ms) n = (if m == n then 1 else 0) + times_named ms n

-- the names in the entry and code words
abbrev pub word_uses : Graph → List ℕ
word_uses g = g.entry ∷ code_word_uses g.code_words

-- how often items of the graph name each block, how often the entry and code words do, and how many of its terms do
pub record AreUses (g : Graph) (uses : Uses) : Type 0 where
  pub items : (n : ℕ) → count_at uses.items.items n ≡ times_named (items_uses (all_items g)) n
  pub words : (n : ℕ) → count_at uses.words.items n ≡ times_named (word_uses g) n
  pub terms : (n : ℕ) → count_at uses.terms.items n ≡ times_named (terms_uses g.blocks) n

-- the uses, if they are known, are those of the graph
abbrev pub AreKnown : Graph → Option Uses → Type 0
AreKnown g uses = IfSome uses (λ they. AreUses g they)

-- in the second uses one term more names the block
pub record IsCounted (name : ℕ) (old new : Uses) : Type 0 where
  pub items : new.items ≡ old.items
  pub words : new.words ≡ old.words
  pub terms : (n : ℕ) → count_at new.terms.items n ≡ (if name == n then 1 else 0) + count_at old.terms.items n

-- in the second uses the entry or a code word names the block once more
pub record IsWorded (name : ℕ) (old new : Uses) : Type 0 where
  pub items : new.items ≡ old.items
  pub terms : new.terms ≡ old.terms
  pub words : (n : ℕ) → count_at new.words.items n ≡ (if name == n then 1 else 0) + count_at old.words.items n

-- in the second uses one item more names the block
pub record IsItemed (name : ℕ) (old new : Uses) : Type 0 where
  pub words : new.words ≡ old.words
  pub terms : new.terms ≡ old.terms
  pub items : (n : ℕ) → count_at new.items.items n ≡ (if name == n then 1 else 0) + count_at old.items.items n

-- in the second uses these items name blocks no more
pub record AreTaken (they : List Item) (old new : Uses) : Type 0 where
  pub words : new.words ≡ old.words
  pub terms : new.terms ≡ old.terms
  pub items : (n : ℕ) → times_named (items_uses they) n + count_at new.items.items n ≡ count_at old.items.items n
