-- How the body of a procedure takes the place of its calls, one after another.
use Rattle.std.specs.Prelude.{◌≤◌, ℕ, ◌+◌, ◌*◌, Bool, false, if◌then◌else◌, List, [], ◌∷◌, length, Option, Some, None, slice_get}
use Rattle.sq_graph.specs.declared.item.Item.{Item}
use Rattle.sq_graph.specs.declared.parts.Room.{Room}
use Rattle.sq_graph.specs.Graph.{Graph}
use Rattle.sq_graph.specs.Blocks.{items_of, body_of}
use Rattle.sq_graph.specs.Operations.{changed, inlined}
use Rattle.sq_graph.specs.Room.{GraphAndRoom}
use Rattle.sq_lookup.specs.Tables.{number_at}
use Rattle.sq_outline.specs.Inlined.{is_call, call_count, spread_block}

-- whether there is an item, which calls the procedure
abbrev pub is_some_call : ℕ → Option Item → Bool
is_some_call p None = false
is_some_call p (Some item) = is_call p item

-- the body in place of the item at a place, if that calls the procedure
abbrev pub inlined_if : Graph → ℕ → ℕ → ℕ → Graph
inlined_if g p block at = if is_some_call p (slice_get (items_of g block) at) then inlined g block at else g

-- the body in place of each call in one block
abbrev pub spread_at : Graph → ℕ → ℕ → Graph
spread_at g p block = changed (λ b. spread_block p (body_of g p) b ∷ []) g block

-- the body fits in place of each call, one after another
abbrev pub HasRoom : ℕ → GraphAndRoom → Type 0
HasRoom p v = call_count v.graph p * length (body_of v.graph p) + 1 ≤ v.spare.items + call_count v.graph p

-- what that takes where no more words come than go
abbrev pub inline_room : Graph → ℕ → Room
inline_room g p = record { blocks = 0; items = length (body_of g p) + 1; procedures = 0 }

-- how often a table has counted a procedure
abbrev pub number_or_0 : Option ℕ → ℕ
number_or_0 None = 0
number_or_0 (Some n) = n

abbrev pub counted : List (Option ℕ) → ℕ → ℕ
counted table p = number_or_0 (number_at table p)
