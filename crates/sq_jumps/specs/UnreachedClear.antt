-- How the blocks and procedures of row U go, one after another. No public clause cites this module.
use Rattle.std.specs.Prelude.{◌≡◌, ℕ, ◌<◌, zero, suc, Bool, true, false, List, [], ◌∷◌, length, if◌then◌else◌}
use Rattle.std.specs.List.{All}
use Rattle.sq_graph.specs.declared.item.Term.TheVariants.{Stop}
use Rattle.sq_graph.specs.Graph.{Block, Graph}
use Rattle.sq_graph.specs.Blocks.{HasBlock, items_of}
use Rattle.sq_graph.specs.Operations.{with_term, replaced, without_block, without_procedure}
use Rattle.sq_graph.specs.Terms.{goes_on}
use Rattle.sq_graph.specs.Uses.{uses}
use Rattle.sq_lookup.specs.Names.{is_listed}
use Rattle.sq_jumps.specs.Unreached.{is_called_in, is_held}

-- the block loses its items, and stops
abbrev pub cleared : Graph → ℕ → Graph
cleared g block = with_term (replaced g block 0 (length (items_of g block)) []) block (Stop 0)

abbrev pub cleared_each : List ℕ → Graph → Graph
cleared_each [] g = g
cleared_each (block ∷ rest) g = cleared_each rest (cleared g block)

-- whether a block calls the procedure
abbrev pub is_called : Graph → ℕ → Bool
is_called g q = is_called_in (λ n. true) g.blocks q

-- the set has the procedures that blocks which stay call
abbrev pub AreHeld : Graph → List ℕ → List ℕ → Type 0
AreHeld g gone called = (q : ℕ) → is_listed called q ≡ is_held g gone q

-- the set tells of each procedure with a number below this one whether a block calls it
abbrev pub TellsCalled : Graph → ℕ → List ℕ → Type 0
TellsCalled g bound called = (q : ℕ) → q < bound → is_listed called q ≡ is_called g q

-- the procedures with a number below this one that no block calls go, from the highest on
abbrev pub without_uncalled : ℕ → Graph → Graph
without_uncalled zero g = g
without_uncalled (suc q) g = without_uncalled q (if is_called g q then g else without_procedure g q)

abbrev pub without_each : List ℕ → Graph → Graph
without_each [] g = g
without_each (block ∷ rest) g = without_each rest (without_block g block)

-- Blocks that may go: nothing uses them, and nothing goes on into them

abbrev pub first_listed : List ℕ → List Block → Bool
first_listed gone [] = false
first_listed gone (b ∷ bs) = is_listed gone b.name

-- nothing goes on into a block of the list
abbrev pub AreApart : List ℕ → List Block → Type 0
AreApart gone [] = Unit {0}
AreApart gone (b ∷ bs) = (first_listed gone bs ≡ true → goes_on b.term ≡ false) × AreApart gone bs

-- each name once
abbrev pub AreOnce : List ℕ → Type 0
AreOnce [] = Unit {0}
AreOnce (n ∷ rest) = (is_listed rest n ≡ false) × AreOnce rest

pub record MayGo (g : Graph) (gone : List ℕ) : Type 0 where
  pub there : (n : ℕ) → is_listed gone n ≡ true → HasBlock g n
  pub once : AreOnce gone
  pub unused : All (λ n. is_listed gone n ≡ false) (uses g)
  pub apart : AreApart gone g.blocks
