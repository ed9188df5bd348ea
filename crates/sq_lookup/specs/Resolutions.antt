-- Tables of what names resolve to.
use Rattle.std.specs.Prelude.{◌≡◌, ℕ, List, Option, Some, IsSome}
use Rattle.sq_graph.specs.Graph.{Graph}
use Rattle.sq_graph.specs.Resolve.{jump_from, resolved}
use Rattle.sq_lookup.specs.Tables.{value_at}

-- what stands under a name is what it resolves to
abbrev pub AreResolutions : Graph → List (Option ℕ) → Type 0
AreResolutions g found = (n to : ℕ) → value_at found n ≡ Some to → resolved g n ≡ to

-- where a lone Jump has something, its target has, too
abbrev pub AreClosed : Graph → List (Option ℕ) → Type 0
AreClosed g found = (n to : ℕ) → IsSome (value_at found n) → jump_from g n ≡ Some to → IsSome (value_at found to)
