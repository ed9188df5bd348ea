-- What is known of bodies once and holds while some of them become calls.
use Rattle.std.specs.Prelude.{◌≡◌, ◌↔◌, ℕ, ◌<◌, true, [], List}
use Rattle.std.specs.List.{All}
use Rattle.sq_isa.specs.Registers.{is_member}
use Rattle.sq_graph.specs.declared.item.Item.{Item}
use Rattle.sq_graph.specs.Graph.{Graph}
use Rattle.sq_graph.specs.Blocks.{HasBlock, items_of}
use Rattle.sq_graph.specs.Uses.{item_calls}
use Rattle.sq_live.specs.Liveness.{IsLivenessOf}
use Rattle.sq_rename.specs.Bodies.{IsLiveBehind}
use Rattle.sq_outline.specs.Made.{HasBody}
use Rattle.sq_outline.specs.Sets.{IsDeadBehind}
use Rattle.sq_outline.specs.declared.callers.Body.{Body}

-- the items of the block call no procedure
abbrev pub CallsNothing : Graph → ℕ → Type 0
CallsNothing g block = All (λ item. item_calls item ≡ []) (items_of g block)

-- The second graph comes after the first. Its blocks are among those of the first, and of those that call nothing the
-- items are the same, what was dead behind them is dead there still, and what was live is live.
pub record IsStill (before after : Graph) : Type 0 where
  pub there : (block : ℕ) → HasBlock after block → HasBlock before block
  pub items : (block : ℕ) → HasBlock after block → CallsNothing after block → items_of after block ≡ items_of before block
  pub dead : (block r : ℕ) → HasBlock after block → CallsNothing after block → ¬ IsLiveBehind before block r → ¬ IsLiveBehind after block r
  pub live : (block r : ℕ) → HasBlock after block → CallsNothing after block → IsLiveBehind before block r → IsLiveBehind after block r

-- These are the live registers of this graph or of one before it.
pub record IsStillDead (live : List (ℕ × List ℕ)) (g : Graph) : Type 0 where
  pub before : Graph
  pub lives : IsLivenessOf before live
  pub still : IsStill before g

-- The registers of the set are exactly those that are dead behind the block, if that is there and calls nothing.
abbrev pub IsDying : Graph → Body → Type 0
IsDying g body = HasBlock g body.block → CallsNothing g body.block → (r : ℕ) → 0 < r → r < 32 → (is_member body.dead r ≡ true) ↔ IsDeadBehind g r body.block

-- The body of the block matches these items, and the registers of the set are exactly those that are dead behind it.
pub record IsCaller (g : Graph) (items : List Item) (caller : Body) : Type 0 where
  pub body : HasBody g items caller.block
  pub dead : (r : ℕ) → 0 < r → r < 32 → (is_member caller.dead r ≡ true) ↔ IsDeadBehind g r caller.block

-- The bodies of the blocks match these items, and the registers of the set are exactly those that are dead behind each.
pub record AreCallers (g : Graph) (items : List Item) (blocks : List ℕ) (set : ℕ) : Type 0 where
  pub bodies : All (HasBody g items) blocks
  pub dead : (r : ℕ) → 0 < r → r < 32 → (is_member set r ≡ true) ↔ All (IsDeadBehind g r) blocks
