-- Operations on graphs that keep runs.
use Rattle.std.specs.Prelude.{◌≡◌, ℕ, zero, suc, ◌+◌, ◌⊎◌, length, [], Some, slice_get}
use Rattle.std.specs.List.{slice_range}
use Rattle.sq_graph.specs.declared.item.Item.TheVariants.{Hi, Out}
use Rattle.sq_graph.specs.declared.item.Term.{Term}
use Rattle.sq_graph.specs.declared.item.Term.TheVariants.{Fall, Jump, Call, PartJump}
use Rattle.sq_graph.specs.Graph.{Graph}
use Rattle.sq_graph.specs.Blocks.{HasBlock, items_of, next_of, term_of}
use Rattle.sq_graph.specs.Rules.{IsGraph}
use Rattle.sq_graph.specs.Operations.{IsNew, split_at, replaced, inlined, outlined, with_term}
use Rattle.sq_graph.specs.Renames.{renamed}
use Rattle.sq_graph.specs.Canonical.{canonical_of}
use Rattle.sq_graph.specs.Lines.{block_lines, place_lines}
use Rattle.sq_graph.specs.Walks.{IsLive}
use Rattle.sq_graph.specs.Soundness.{IsSoundBody, IsSound}
use Rattle.law_runs.specs.Follows.{LocksWith}
use Rattle.sq_system.specs.Starts.{Start}
use Rattle.law_follow.specs.Worlds.{World, setting_of}
use Rattle.law_follow.specs.GraphRuns.{graph_step}
use Rattle.law_follow.specs.Follows.{state_at_start, Follows}

-- A graph with one block split follows it, and is sound where it is.
abbrev pub SplitFollows : Type 0
SplitFollows = (g : Graph) (new block at : ℕ) → IsGraph g → IsNew g new → Follows g (split_at g new block at)

abbrev pub SplitIsSound : Type 0
SplitIsSound = (g : Graph) (new block at : ℕ) → IsGraph g → IsNew g new → IsSound g → IsSound (split_at g new block at)

-- A graph in which a Jump to the next slot became Fall follows it, and is sound where it is.
abbrev pub FallFollows : Type 0
FallFollows = (g : Graph) (block n : ℕ) → IsGraph g → term_of g block ≡ Some (Jump n) → next_of g block ≡ Some n → Follows g (with_term g block Fall)

abbrev pub FallIsSound : Type 0
FallIsSound = (g : Graph) (block n : ℕ) → IsGraph g → term_of g block ≡ Some (Jump n) → next_of g block ≡ Some n → IsSound g → IsSound (with_term g block Fall)

-- A graph without an upper half whose register is dead behind it follows it, and is sound where it is.
abbrev pub DropFollows : Type 0
DropFollows = (g : Graph) (block at rd to : ℕ) → IsGraph g → slice_get (items_of g block) at ≡ Some (Hi rd to) → ¬ IsLive g rd (place_lines g block (at + 1)) → Follows g (replaced g block at 1 [])

abbrev pub DropIsSound : Type 0
DropIsSound = (g : Graph) (block at rd to : ℕ) → IsGraph g → slice_get (items_of g block) at ≡ Some (Hi rd to) → ¬ IsLive g rd (place_lines g block (at + 1)) → IsSound g → IsSound (replaced g block at 1 [])

-- a jump by an upper half as one of a single word: a Call, or a Jump where the link is x0
abbrev pub hastened : ℕ → ℕ → Term
hastened zero to = Jump to
hastened (suc link) to = Call (suc link) to

-- A graph in which a PartJump became a Call, or a Jump where its link is x0, follows it, and is sound where it is.
abbrev pub HastenFollows : Type 0
HastenFollows = (g : Graph) (block link part to : ℕ) → IsGraph g → term_of g block ≡ Some (PartJump link part to) → Follows g (with_term g block (hastened link to))

abbrev pub HastenIsSound : Type 0
HastenIsSound = (g : Graph) (block link part to : ℕ) → IsGraph g → term_of g block ≡ Some (PartJump link part to) → IsSound g → IsSound (with_term g block (hastened link to))

-- A graph in which the body of a procedure stands in place of a call of it follows it, and is sound where it is.
abbrev pub InlineFollows : Type 0
InlineFollows = (g : Graph) (block at procedure : ℕ) → IsGraph g → slice_get (items_of g block) at ≡ Some (Out procedure) → Follows g (inlined g block at)

abbrev pub InlineIsSound : Type 0
InlineIsSound = (g : Graph) (block at procedure : ℕ) → IsGraph g → slice_get (items_of g block) at ≡ Some (Out procedure) → IsSound g → IsSound (inlined g block at)

-- The canonical graph of a graph follows it.
abbrev pub CanonicalFollows : Type 0
CanonicalFollows = (g : Graph) → IsGraph g → Follows g (canonical_of g)

-- The canonical graph of a graph is sound where the graph is.
abbrev pub CanonicalIsSound : Type 0
CanonicalIsSound = (g : Graph) → IsGraph g → IsSound g → IsSound (canonical_of g)

-- A graph whose blocks have other names, different ones different names, follows it.
abbrev pub RenameFollows : Type 0
RenameFollows =
    (g : Graph) (f : ℕ → ℕ) → IsGraph g → ((m n : ℕ) → HasBlock g m → HasBlock g n → f m ≡ f n → m ≡ n) → Follows g (renamed f g)

-- The graph h keeps step with the graph g: over every world and from every start its run shows what that of g shows, after
-- each number of steps, while that is unbroken. The run of h is then unbroken too.
abbrev pub KeepsStep : Graph → Graph → Type 0
KeepsStep g h =
    (w : World) (start : Start) → LocksWith (graph_step (setting_of w start) g) (state_at_start w g start) (graph_step (setting_of w start) h) (state_at_start w h start)

-- So does a graph whose blocks have other names, different ones different names.
abbrev pub RenameKeepsStep : Type 0
RenameKeepsStep =
    (g : Graph) (f : ℕ → ℕ) → IsGraph g → ((m n : ℕ) → HasBlock g m → HasBlock g n → f m ≡ f n → m ≡ n) → KeepsStep g (renamed f g)

-- A graph with a body of its own items as one more procedure follows it, and is sound where it and the body are.
abbrev pub OutlineFollows : Type 0
OutlineFollows = (g : Graph) (block at length link : ℕ) → IsGraph g → Follows g (outlined g block at length link)

abbrev pub OutlineIsSound : Type 0
OutlineIsSound =
    (g : Graph) (block at length link : ℕ) → IsGraph g → IsSoundBody (record { link = link; body = slice_range (items_of g block) at (at + length) }) → IsSound g → IsSound (outlined g block at length link)

-- The last item of a block is the upper half by which it jumps, whose register is the link or dead at the target.
pub record IsShortable (g : Graph) (block at link part to : ℕ) : Type 0 where
  pub half : slice_get (items_of g block) at ≡ Some (Hi part to)
  pub last : at + 1 ≡ length (items_of g block)
  pub jump : term_of g block ≡ Some (PartJump link part to)
  pub dead : (part ≡ link) ⊎ (¬ IsLive g part (block_lines g to))

-- It goes, and the jump becomes one of a single word.
abbrev pub shortened : Graph → ℕ → ℕ → ℕ → ℕ → Graph
shortened g block at link to = with_term (replaced g block at 1 []) block (hastened link to)

-- A graph in which it went follows it, and is sound where it is.
abbrev pub ShortenFollows : Type 0
ShortenFollows = (g : Graph) (block at link part to : ℕ) → IsGraph g → IsShortable g block at link part to → Follows g (shortened g block at link to)

abbrev pub ShortenIsSound : Type 0
ShortenIsSound = (g : Graph) (block at link part to : ℕ) → IsGraph g → IsShortable g block at link part to → IsSound g → IsSound (shortened g block at link to)
