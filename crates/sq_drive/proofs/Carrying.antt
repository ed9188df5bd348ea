-- Blocks that are there, and those that are not.
use Rattle.std.proofs.Common.{◌≡◌, ℕ, Bool, true, false, Option, Some, None, is_some, refl, ap}
use Rattle.sq_graph.specs.Blocks.{HasBlock, block_of, term_of}
use Rattle.sq_graph.specs.Graph.{Block, Graph}

-- a block that is there has a term, and another one has none
pub no_term : (g : Graph) (block : ℕ) → (HasBlock g block → ⊥) → term_of g block ≡ None
no_term g block not = by (block_of g block) refl
  where
    by : (o : Option Block) → block_of g block ≡ o → term_of g block ≡ None
    by None e = rw e refl
    by (Some b) e = absurd (not (ap is_some e))

-- the test of a block as a number of two
pub there : (g : Graph) (block : ℕ) (test : Bool) → ((test ≡ true → HasBlock g block) × (HasBlock g block → test ≡ true)) → test ≡ is_some (block_of g block)
there g block test is = by test (is_some (block_of g block)) refl refl
  where
    by : (a b : Bool) → test ≡ a → is_some (block_of g block) ≡ b → test ≡ is_some (block_of g block)
    by true b e f = let has = is.0 e in (cc)
    by false true e f = let no = is.1 f in (cc)
    by false false e f = (cc)
