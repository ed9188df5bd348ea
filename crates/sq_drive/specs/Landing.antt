-- Where names go when empty blocks with Fall give them to the next one, as the code finds it: from the last block back. No
-- public clause cites this module.
use Rattle.std.specs.Prelude.{ℕ, ◌==◌, List, [], ◌∷◌, Option, Some, None, if◌then◌else◌}
use Rattle.std.specs.Option.{unwrap_or}
use Rattle.sq_graph.specs.Graph.{Block}
use Rattle.sq_graph.specs.Leaders.{is_bare}

-- where the name of a block goes, by where that of the next one does
abbrev pub landing_before : Option ℕ → Block → ℕ
landing_before ahead b = if is_bare b then unwrap_or ahead b.name else b.name

-- where the name of the first of these blocks goes
abbrev pub landing : List Block → Option ℕ
landing [] = None
landing (b ∷ rest) = Some (landing_before (landing rest) b)

-- where a name goes that is that of one of these blocks
abbrev pub landing_of : List Block → ℕ → Option ℕ
landing_of [] x = None
landing_of (b ∷ rest) x = if b.name == x then landing (b ∷ rest) else landing_of rest x
