-- What is dead at a place that stays is dead there when a graph is changed by one of the operations.
use Rattle.std.specs.Prelude.{◌≡◌, ◌≢◌, ℕ, Bool, true, ◌+◌, ◌≤◌, length, List, [], Some, slice_get}
use Rattle.std.specs.List.{Contains}
use Rattle.sq_isa.specs.declared.instructions.Cond.{Cond}
use Rattle.sq_graph.specs.declared.item.Item.TheVariants.{Hi, Out}
use Rattle.sq_graph.specs.declared.item.Term.TheVariants.{Fall, Jump, PartJump}
use Rattle.sq_graph.specs.Graph.{Block, Graph}
use Rattle.sq_graph.specs.Blocks.{HasBlock, items_of, body_of, next_of, term_of}
use Rattle.sq_graph.specs.Rules.{IsGraph}
use Rattle.sq_graph.specs.Operations.{IsNew, with_term, replaced, split_at, inlined, outlined, inserted_after, redirected_calls, without_procedure}
use Rattle.sq_graph.specs.Canonical.{canonical_of}
use Rattle.sq_graph.specs.Lines.{place_lines}
use Rattle.sq_graph.specs.Walks.{IsLive}
use Rattle.sq_graph.specs.Soundness.{IsSound}
use Rattle.sq_graph.specs.Uses.{calls}
use Rattle.law_patch.specs.LoneJumps.{IsDetourTo, without_jump, IsJumpedOver, inverted_over, IsOverJump, exchanged}
use Rattle.law_patch.specs.Inserts.{AreReordered}
use Rattle.law_patch.specs.Recalls.{AreEqual}
use Rattle.law_patch.specs.Restrictions.{restricted, IsClosed}
use Rattle.law_patch.specs.Calls.{IsCallable, IsMatching, call_end, called_there}
use Rattle.law_patch.specs.Merges.{IsMergeable, merged, HaveTail, tailed}
use Rattle.law_patch.specs.Bodies.{HaveBodies}
use Rattle.law_patch.specs.Operations.{hastened, IsShortable, shortened}

-- What is dead at a place of the first graph is dead at that place of the second, where the place stays.
abbrev pub KeepsDead : Graph → Graph → (ℕ → ℕ → Type 0) → Type 0
KeepsDead g h Stays =
    (block place r : ℕ) → HasBlock g block → place ≤ length (items_of g block) → Stays block place → ¬ IsLive g r (place_lines g block place) → ¬ IsLive h r (place_lines h block place)

-- What is dead at a place of a block of the first graph, from this one on, is dead at the place in the second which is
-- as far behind that one.
abbrev pub MovesDead : Graph → Graph → ℕ → ℕ → ℕ → ℕ → Type 0
MovesDead g h block from other to =
    (place r : ℕ) → from + place ≤ length (items_of g block) → ¬ IsLive g r (place_lines g block (from + place)) → ¬ IsLive h r (place_lines h other (to + place))

-- all places
abbrev pub Anywhere : ℕ → ℕ → Type 0
Anywhere block place = Unit {0}

-- the places of all blocks but this one
abbrev pub Elsewhere : ℕ → ℕ → ℕ → Type 0
Elsewhere gone block place = block ≢ gone

-- the places of other blocks, and those of this one that aren't behind this place
abbrev pub UpTo : ℕ → ℕ → ℕ → ℕ → Type 0
UpTo changed at block place = block ≡ changed → place ≤ at

-- A Jump to the next slot becomes Fall.
abbrev pub FallKeepsDead : Type 0
FallKeepsDead = (g : Graph) (block n : ℕ) → IsGraph g → term_of g block ≡ Some (Jump n) → next_of g block ≡ Some n → KeepsDead g (with_term g block Fall) Anywhere

-- A jump by an upper half becomes one of a single word.
abbrev pub HastenKeepsDead : Type 0
HastenKeepsDead = (g : Graph) (block link part to : ℕ) → IsGraph g → term_of g block ≡ Some (PartJump link part to) → KeepsDead g (with_term g block (hastened link to)) Anywhere

-- An upper half whose register is dead behind it goes.
abbrev pub DropKeepsDead : Type 0
DropKeepsDead =
    (g : Graph) (block at rd to : ℕ) → IsGraph g → slice_get (items_of g block) at ≡ Some (Hi rd to) → ¬ IsLive g rd (place_lines g block (at + 1)) → KeepsDead g (replaced g block at 1 []) (UpTo block at)

abbrev pub DropMovesDead : Type 0
DropMovesDead =
    (g : Graph) (block at rd to : ℕ) → IsGraph g → slice_get (items_of g block) at ≡ Some (Hi rd to) → ¬ IsLive g rd (place_lines g block (at + 1)) → MovesDead g (replaced g block at 1 []) block (at + 1) block at

-- A jump by an upper half becomes one of a single word, and the half goes.
abbrev pub ShortenKeepsDead : Type 0
ShortenKeepsDead = (g : Graph) (block at link part to : ℕ) → IsGraph g → IsShortable g block at link part to → KeepsDead g (shortened g block at link to) (UpTo block at)

-- A lone Jump gives its name to its target, and goes.
abbrev pub DetourKeepsDead : Type 0
DetourKeepsDead = (g : Graph) (block to : ℕ) → IsGraph g → IsDetourTo g block to → KeepsDead g (without_jump g block to) (Elsewhere block)

-- A Branch over a lone Jump becomes the inverted one to its target.
abbrev pub InvertKeepsDead : Type 0
InvertKeepsDead =
    (g : Graph) (block : ℕ) (cond : Cond) (a b over behind to : ℕ) → IsGraph g → IsJumpedOver g block cond a b over behind to → KeepsDead g (inverted_over g block cond a b over to) (Elsewhere over)

-- The blocks of a closed set stay alone, with the procedures that these call.
abbrev pub UnreachedKeepsDead : Type 0
UnreachedKeepsDead = (g : Graph) (keep held : ℕ → Bool) → IsGraph g → IsClosed g keep held → KeepsDead g (restricted keep held g) (λ block place. keep block ≡ true)

-- A block is split. What is dead at a place of its second half is dead at that of the new block.
abbrev pub SplitKeepsDead : Type 0
SplitKeepsDead = (g : Graph) (new block at : ℕ) → IsGraph g → IsNew g new → HasBlock g block → KeepsDead g (split_at g new block at) (UpTo block at)

abbrev pub SplitMovesDead : Type 0
SplitMovesDead = (g : Graph) (new block at : ℕ) → IsGraph g → IsNew g new → HasBlock g block → MovesDead g (split_at g new block at) block at new 0

-- The body of a procedure stands in place of a call of it, in a sound graph.
abbrev pub InlineKeepsDead : Type 0
InlineKeepsDead = (g : Graph) (block at procedure : ℕ) → IsGraph g → IsSound g → slice_get (items_of g block) at ≡ Some (Out procedure) → KeepsDead g (inlined g block at) (UpTo block at)

abbrev pub InlineMovesDead : Type 0
InlineMovesDead = (g : Graph) (block at procedure : ℕ) → IsGraph g → IsSound g → slice_get (items_of g block) at ≡ Some (Out procedure) → MovesDead g (inlined g block at) block (at + 1) block (at + length (body_of g procedure))

-- A procedure is called in place of an equal one.
abbrev pub RecallKeepsDead : Type 0
RecallKeepsDead = (g : Graph) (from to : ℕ) → IsGraph g → AreEqual g from to → KeepsDead g (redirected_calls g from to) Anywhere

-- A procedure that nothing calls goes.
abbrev pub UncalledGoesKeepsDead : Type 0
UncalledGoesKeepsDead = (g : Graph) (procedure : ℕ) → IsGraph g → ¬ Contains (calls g) procedure → KeepsDead g (without_procedure g procedure) Anywhere

-- A lone Jump to the next slot comes behind a block.
abbrev pub InsertKeepsDead : Type 0
InsertKeepsDead = (g : Graph) (new block next : ℕ) → IsGraph g → IsNew g new → HasBlock g block → next_of g block ≡ Some next → KeepsDead g (inserted_after g new block (Jump next)) Anywhere

-- A Branch and the lone Jump behind it exchange their targets.
abbrev pub ExchangeKeepsDead : Type 0
ExchangeKeepsDead =
    (g : Graph) (block : ℕ) (cond : Cond) (a b over away to : ℕ) → IsGraph g → IsOverJump g block cond a b over away to → KeepsDead g (exchanged g block cond a b over away to) (Elsewhere over)

-- The blocks stand in an order in which each that goes on keeps its next slot.
abbrev pub ReorderKeepsDead : Type 0
ReorderKeepsDead = (g : Graph) (blocks : List Block) → IsGraph g → AreReordered g blocks → KeepsDead g (record g { blocks = blocks }) Anywhere

-- Blocks that are empty with Fall go, and others are joined to those before.
abbrev pub CanonicalKeepsDead : Type 0
CanonicalKeepsDead = (g : Graph) → IsGraph g → KeepsDead g (canonical_of g) (λ block place. HasBlock (canonical_of g) block)

-- The end of a block that is equal to another block goes, and a Jump to that stands in its place.
abbrev pub MergeKeepsDead : Type 0
MergeKeepsDead = (g : Graph) (dropped at kept : ℕ) → IsGraph g → IsMergeable g dropped at kept → KeepsDead g (merged g dropped at kept) (UpTo dropped at)

-- All of a block whose body matches another's goes.
abbrev pub BodyKeepsDead : Type 0
BodyKeepsDead = (g : Graph) (dropped kept : ℕ) → IsGraph g → HaveBodies g dropped kept → KeepsDead g (merged g dropped 0 kept) (UpTo dropped 0)

-- Equal tails of two blocks become one. What is dead at a place of the tail is dead at that of the new block.
abbrev pub TailKeepsDead : Type 0
TailKeepsDead =
    (g : Graph) (new dropped at kept from : ℕ) → IsGraph g → IsNew g new → HaveTail g dropped at kept from → KeepsDead g (tailed g new dropped at kept from) (λ block place. UpTo dropped at block place × UpTo kept from block place)

abbrev pub TailMovesDead : Type 0
TailMovesDead = (g : Graph) (new dropped at kept from : ℕ) → IsGraph g → IsNew g new → HaveTail g dropped at kept from → MovesDead g (tailed g new dropped at kept from) kept from new 0

-- Items of a block come as the body of one more procedure.
abbrev pub OutlineKeepsDead : Type 0
OutlineKeepsDead = (g : Graph) (block at size link : ℕ) → IsGraph g → KeepsDead g (outlined g block at size link) Anywhere

-- Items that are the body of a procedure, or match it, become a call of it. So several calls may be made one after
-- another, in a block from the last to the first.
abbrev pub CallKeepsDead : Type 0
CallKeepsDead = (g : Graph) (block at procedure : ℕ) → IsGraph g → IsCallable g block at procedure → KeepsDead g (called_there g block at procedure) (UpTo block at)

abbrev pub CallMovesDead : Type 0
CallMovesDead = (g : Graph) (block at procedure : ℕ) → IsGraph g → IsCallable g block at procedure → MovesDead g (called_there g block at procedure) block (call_end g at procedure) block (at + 1)

abbrev pub MatchKeepsDead : Type 0
MatchKeepsDead = (g : Graph) (block at procedure : ℕ) → IsGraph g → IsMatching g block at procedure → KeepsDead g (called_there g block at procedure) (UpTo block at)

abbrev pub MatchMovesDead : Type 0
MatchMovesDead = (g : Graph) (block at procedure : ℕ) → IsGraph g → IsMatching g block at procedure → MovesDead g (called_there g block at procedure) block (call_end g at procedure) block (at + 1)
