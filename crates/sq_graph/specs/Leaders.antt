-- The leaders of a graph, and when it is canonical.
use Rattle.std.specs.Prelude.{◌≡◌, ℕ, Bool, true, false, ◌&&◌, ◌||◌, ◌==◌, not, List, [], ◌∷◌}
use Rattle.std.specs.List.{All}
use Rattle.sq_isa.specs.Registers.{is_among}
use Rattle.sq_graph.specs.declared.item.Item.{Item}
use Rattle.sq_graph.specs.declared.item.Term.{Term}
use Rattle.sq_graph.specs.declared.item.Term.TheVariants.{Fall, Jump, Branch, Call, PartJump, Indirect, Stop}
use Rattle.sq_graph.specs.Graph.{Block, Graph}
use Rattle.sq_graph.specs.Terms.{goes_on}
use Rattle.sq_graph.specs.Uses.{uses}

abbrev pub is_fall : Term → Bool
is_fall Fall = true
is_fall (Jump to) = false
is_fall (Branch c a b to) = false
is_fall (Call link to) = false
is_fall (PartJump link part to) = false
is_fall (Indirect link at offset) = false
is_fall (Stop word) = false

abbrev pub has_no_items : List Item → Bool
has_no_items [] = true
has_no_items (item ∷ rest) = false

-- whether a block is empty with Fall
abbrev pub is_bare : Block → Bool
is_bare b = has_no_items b.items && is_fall b.term

-- whether the name stands in the slot behind a Branch, a Call, or a PartJump or Indirect whose link isn't x0
abbrev pub follows_a_term : List Block → ℕ → Bool
follows_a_term [] name = false
follows_a_term (b ∷ []) name = false
follows_a_term (b ∷ next ∷ rest) name =
    goes_on b.term && not (is_fall b.term) && next.name == name || follows_a_term (next ∷ rest) name

-- whether the name is the entry, the name of a code word, of a Hi or Lo in a block or a procedure, called or
-- not, or of a Jump, Branch, Call or PartJump, or stands behind a term that goes on and isn't Fall
abbrev pub is_leader : Graph → ℕ → Bool
is_leader g name = is_among (uses g) name || follows_a_term g.blocks name

-- each block that is fallen into is a leader
abbrev pub FallsIntoLeaders : (ℕ → Bool) → List Block → Type 0
FallsIntoLeaders leads [] = Unit {0}
FallsIntoLeaders leads (b ∷ []) = Unit {0}
FallsIntoLeaders leads (b ∷ next ∷ rest) =
    (is_fall b.term ≡ true → leads next.name ≡ true) × FallsIntoLeaders leads (next ∷ rest)

pub record IsCanonical (g : Graph) : Type 0 where
  -- no block is empty with Fall
  pub no_bare : All (λ b. is_bare b ≡ false) g.blocks
  -- no block that is no leader is fallen into
  pub leaders : FallsIntoLeaders (is_leader g) g.blocks
