-- Marks: numbers as a set.
use Rattle.std.specs.Prelude.{◌↔◌, ℕ, suc, Bool, true, false, List, [], ◌∷◌, IsTrue, nat_eq, slice_index_or}
use Rattle.std.specs.Set.{is_member}
use Rattle.sq_graph.specs.Graph.{Graph}
use Rattle.sq_graph.specs.Walks.{IsReachedBlock}

-- whether the number is marked
abbrev pub is_marked : List ℕ → ℕ → Bool
is_marked marks number = is_member nat_eq marks number

-- whether the flag of a number is set
abbrev pub flag_at : List Bool → ℕ → Bool
flag_at flags number = slice_index_or flags number false

-- the numbers whose flags are set, where the first flag is that of this number
abbrev pub numbers_from : ℕ → List Bool → List ℕ
numbers_from number [] = []
numbers_from number (false ∷ flags) = numbers_from (suc number) flags
numbers_from number (true ∷ flags) = number ∷ numbers_from (suc number) flags

-- the marked numbers are the names of the reached blocks, and no others
abbrev pub AreReached : Graph → List ℕ → Type 0
AreReached g marks = (n : ℕ) → IsTrue (is_marked marks n) ↔ IsReachedBlock g n
