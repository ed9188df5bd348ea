-- A graph with some of its blocks and procedures alone.
use Rattle.std.specs.Prelude.{◌≡◌, ℕ, zero, suc, Bool, true, List, [], ◌∷◌, map, if◌then◌else◌}
use Rattle.std.specs.List.{Contains, filter, flat_map}
use Rattle.sq_graph.specs.Graph.{Procedure, Graph}
use Rattle.sq_graph.specs.Blocks.{items_of}
use Rattle.sq_graph.specs.Uses.{item_calls}
use Rattle.sq_graph.specs.Rules.{IsGraph}
use Rattle.sq_graph.specs.Renames.{recalled}
use Rattle.sq_graph.specs.Walks.{successors, word_name, IsReachedBlock}
use Rattle.sq_graph.specs.Soundness.{IsSound}
use Rattle.law_follow.specs.Follows.{Follows}

-- the procedures whose numbers, from 0 on, are held
abbrev pub procedures_held : (ℕ → Bool) → List Procedure → List Procedure
procedures_held held [] = []
procedures_held held (p ∷ ps) =
    if held 0 then p ∷ procedures_held (λ n. held (suc n)) ps else procedures_held (λ n. held (suc n)) ps

-- how many of the numbers below this one are held
abbrev pub number_held : (ℕ → Bool) → ℕ → ℕ
number_held held zero = 0
number_held held (suc n) =
    if held 0 then suc (number_held (λ q. held (suc q)) n) else number_held (λ q. held (suc q)) n

-- The blocks that are kept and the procedures that are held, under the numbers that these then have.
abbrev pub restricted : (ℕ → Bool) → (ℕ → Bool) → Graph → Graph
restricted keep held g =
    recalled (number_held held)
    (record g { blocks = filter (λ b. keep b.name) g.blocks; procedures = procedures_held held g.procedures })

-- a block that is kept calls the procedure
abbrev pub IsCalledIn : Graph → (ℕ → Bool) → ℕ → Type 0
IsCalledIn g keep q = (n : ℕ) × (keep n ≡ true) × Contains (flat_map item_calls (items_of g n)) q

-- The entry and the code words are kept, a block that is kept leads to such blocks alone, and exactly the procedures
-- that these call are held.
pub record IsClosed (g : Graph) (keep held : ℕ → Bool) : Type 0 where
  pub entry : keep g.entry ≡ true
  pub code_words : (n : ℕ) → Contains (map word_name g.code_words) n → keep n ≡ true
  pub leads : (n m : ℕ) → keep n ≡ true → Contains (successors g n) m → keep m ≡ true
  pub calls : (q : ℕ) → IsCalledIn g keep q → held q ≡ true
  pub called : (q : ℕ) → held q ≡ true → IsCalledIn g keep q

-- A graph with the blocks of a closed set alone follows it, and is sound where it is.
abbrev pub UnreachedFollows : Type 0
UnreachedFollows = (g : Graph) (keep held : ℕ → Bool) → IsGraph g → IsClosed g keep held → Follows g (restricted keep held g)

abbrev pub UnreachedIsSound : Type 0
UnreachedIsSound = (g : Graph) (keep held : ℕ → Bool) → IsGraph g → IsClosed g keep held → IsSound g → IsSound (restricted keep held g)

-- exactly the blocks that are reached are kept, and exactly the procedures that these call are held
pub record HoldsReached (g : Graph) (keep held : ℕ → Bool) : Type 0 where
  pub reached : (n : ℕ) → keep n ≡ true → IsReachedBlock g n
  pub kept : (n : ℕ) → IsReachedBlock g n → keep n ≡ true
  pub calls : (q : ℕ) → IsCalledIn g keep q → held q ≡ true
  pub called : (q : ℕ) → held q ≡ true → IsCalledIn g keep q

-- The blocks that are reached are a closed set.
abbrev pub ReachedAreClosed : Type 0
ReachedAreClosed = (g : Graph) (keep held : ℕ → Bool) → HoldsReached g keep held → IsClosed g keep held
