-- Lists of names as sets.
use Rattle.std.specs.Prelude.{◌≡◌, ℕ, Bool, ◌||◌, List, ◌∷◌, ◌++◌, nat_eq}
use Rattle.std.specs.Set.{is_member}
use Rattle.sq_graph.specs.Graph.{Graph}
use Rattle.sq_graph.specs.Blocks.{all_items}
use Rattle.sq_graph.specs.Uses.{items_uses, code_word_uses}

-- whether the name is in the set
abbrev pub is_listed : List ℕ → ℕ → Bool
is_listed names n = is_member nat_eq names n

-- these names came to the set
pub record Adds (names old new : List ℕ) : Type 0 where
  pub each : (n : ℕ) → is_listed new n ≡ (is_listed old n || is_listed names n)

-- the names that a graph uses elsewhere than in terms: in the entry, code words, and Hi and Lo in blocks and in all procedures
abbrev pub held_uses : Graph → List ℕ
held_uses g = g.entry ∷ (code_word_uses g.code_words ++ items_uses (all_items g))
