-- The slot behind a block has a block.
use Rattle.std.proofs.Common.{◌≡◌, ℕ, ◌==◌, List, [], ◌∷◌, Some, IsSome, inl, inr, refl}
use Rattle.std.proofs.lemmas.Bool.{cases_Bool, eq-eqb}
use Rattle.sq_arena.specs.Entries.{value_of, first_key, next_key}
use Rattle.sq_graph.specs.Graph.{Block, Graph}
use Rattle.sq_graph.specs.Blocks.{named, HasBlock, next_of}

later : (b : Block) (bs : List Block) (m : ℕ) → IsSome (value_of (named bs) m) → IsSome (value_of (named (b ∷ bs)) m)
later b bs m some = elim (cases_Bool (b.name == m)) [ inl here ↦ rw here refl | inr apart ↦ rw apart some ]

first_in : (bs : List Block) (m : ℕ) → first_key (named bs) ≡ Some m → IsSome (value_of (named bs) m)
first_in [] m e = absurd (cc)
first_in (b ∷ bs) m e = let same : b.name ≡ m = cc in rw (eq-eqb b.name m same) refl

next_in : (bs : List Block) (n m : ℕ) → next_key (named bs) n ≡ Some m → IsSome (value_of (named bs) m)
next_in [] n m e = absurd (cc)
next_in (b ∷ bs) n m e =
    elim (cases_Bool (b.name == n)) [
      | inl here ↦ later b bs m (first_in bs m (rw here at e))
      | inr apart ↦ later b bs m (next_in bs n m (rw apart at e))
    ]

pub next_there : (g : Graph) (n m : ℕ) → next_of g n ≡ Some m → HasBlock g m
next_there g n m e = next_in g.blocks n m e
