-- Row O4: the body of a procedure takes the place of its calls, and the procedure goes.
use Rattle.std.specs.Prelude.{◌≡◌, ◌≤◌, ℕ, ◌+◌, ◌*◌, ◌==◌, Bool, false, if◌then◌else◌, List, [], ◌∷◌, map, length}
use Rattle.std.specs.List.{flat_map, count_by}
use Rattle.sq_graph.specs.declared.item.Item.{Item}
use Rattle.sq_graph.specs.declared.item.Item.TheVariants.{Op, Hi, Lo, Out}
use Rattle.sq_graph.specs.Graph.{Block, Graph}
use Rattle.sq_graph.specs.Blocks.{HasProcedure, body_of, items_of_blocks}
use Rattle.sq_graph.specs.Operations.{without_procedure}
use Rattle.sq_graph.specs.Places.{IsInReach}
use Rattle.sq_pass.specs.declared.cut.Cut.{Cut}
use Rattle.sq_pass.specs.declared.cut.Row.TheVariants.{O4}

-- whether an item is a call of the procedure
abbrev pub is_call : ℕ → Item → Bool
is_call p (Op insn) = false
is_call p (Hi rd to) = false
is_call p (Lo rd rs to) = false
is_call p (Out q) = q == p

-- how many calls of the procedure there are. All are in blocks, since bodies have none
abbrev pub call_count : Graph → ℕ → ℕ
call_count g p = count_by (is_call p) (items_of_blocks g.blocks)

-- the items with a body in place of each call
abbrev pub spread : ℕ → List Item → List Item → List Item
spread p body items = flat_map (λ item. if is_call p item then body else item ∷ []) items

abbrev pub spread_block : ℕ → List Item → Block → Block
spread_block p body b = record b { items = spread p body b.items }

-- the body of the procedure stands in place of each call
abbrev pub spread_all : Graph → ℕ → Graph
spread_all g p = record g { blocks = map (spread_block p (body_of g p)) g.blocks }

-- O4: and the procedure is gone
abbrev pub inlined_all : Graph → ℕ → Graph
inlined_all g p = without_procedure (spread_all g p) p

-- a procedure of n items with k calls, k at least 1, that saves words in their place: k + n + 1 are fewer, and k * n more
pub record WouldSave (g : Graph) (procedure saving : ℕ) : Type 0 where
  pub there : HasProcedure g procedure
  pub called : 1 ≤ call_count g procedure
  pub saved : saving + call_count g procedure * length (body_of g procedure) ≡ call_count g procedure + length (body_of g procedure) + 1
  pub some : 1 ≤ saving

-- O4: a procedure of n items with k calls, k at least 1, each Branch still in reach after the body stands in their place.
-- With k + n + 1 words fewer and k * n more there are fewer
pub record IsInlinable (g : Graph) (procedure saving : ℕ) : Type 0 where
  pub there : HasProcedure g procedure
  pub called : 1 ≤ call_count g procedure
  pub saved : saving + call_count g procedure * length (body_of g procedure) ≡ call_count g procedure + length (body_of g procedure) + 1
  pub some : 1 ≤ saving
  pub near : IsInReach (inlined_all g procedure)

-- the cut of the procedure
abbrev pub inline_cut : ℕ → ℕ → Cut
inline_cut procedure saving =
    record { row = O4; blocks = []; procedure = procedure; other = 0; length = 0; link = 0; saving = saving }

-- a cut of O4
pub record IsInlined (g : Graph) (cut : Cut) : Type 0 where
  pub procedure : ℕ
  pub saving : ℕ
  pub inlinable : IsInlinable g procedure saving
  pub is : cut ≡ inline_cut procedure saving
