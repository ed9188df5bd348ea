-- Graphs that differ in the names of their blocks alone.
use Rattle.std.specs.Prelude.{◌≡◌, ℕ}
use Rattle.sq_graph.specs.Graph.{Graph}
use Rattle.sq_graph.specs.Blocks.{HasBlock}
use Rattle.sq_graph.specs.Renames.{renamed}

-- it gives different blocks different names
abbrev pub IsOneToOne : (ℕ → ℕ) → Graph → Type 0
IsOneToOne f g = (m n : ℕ) → HasBlock g m → HasBlock g n → f m ≡ f n → m ≡ n

-- a one-to-one change of names makes the graph g the graph h
pub record AreAlike (g h : Graph) : Type 0 where
  pub name : ℕ → ℕ
  pub one_to_one : IsOneToOne name g
  pub is : h ≡ renamed name g
