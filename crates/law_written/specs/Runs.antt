-- Writing keeps runs.
use Rattle.std.specs.Prelude.{◌≡◌, ℕ, ◌+◌, ◌*◌, true, false, Some, None, map, slice_get}
use Rattle.sq_num.specs.Halves.{high_half}
use Rattle.sq_isa.specs.Registers.{written}
use Rattle.sq_isa.specs.Words.{upper_word}
use Rattle.law_runs.specs.Follows.{LocksWith}
use Rattle.sq_memory.specs.Cells.{Cells, AgreeOn}
use Rattle.sq_memory.specs.Regions.{get}
use Rattle.sq_system.specs.Starts.{Start, stack_pointer}
use Rattle.sq_system.specs.World.{World as Layout, is_writable, is_executable, is_range}
use Rattle.sq_machine.specs.State.{State, aligned_number}
use Rattle.sq_machine.specs.Steps.{step_of}
use Rattle.sq_graph.specs.Graph.{Graph}
use Rattle.sq_graph.specs.Blocks.{HasBlock}
use Rattle.sq_graph.specs.Walks.{word_name}
use Rattle.law_follow.specs.Settings.{Setting, is_in_text}
use Rattle.law_follow.specs.GraphRuns.{graph_step}
use Rattle.law_follow.specs.Worlds.{World, layout_of, setting_of, regions_at_start}
use Rattle.law_follow.specs.Follows.{state_at_start}
use Rattle.law_erasure.specs.Erasure.{Erasing, IsErasedCell}
use Rattle.sq_write.specs.Points.{Point, new_address, point_word, text_points}
use Rattle.law_written.specs.Writable.{IsWritable}

-- the name of a block stands for its new address, an upper half is that of this address, and a stale byte stands for the
-- one that was there at the start
abbrev pub new_names : Graph → ℕ → Cells ℕ → Erasing
new_names g lo first = record {
  Names = λ n. HasBlock g n;
  address = λ n. new_address g lo n;
  Halves = λ n w. w ≡ None;
  word = λ n w. upper_word (high_half (new_address g lo n));
  stale = first;
}

abbrev pub IsOutsideText : Setting → ℕ → Type 0
IsOutsideText s x = is_in_text s x ≡ false

-- Outside text the plain machine's memory is laid out as the world's. In text no more may be executed.
pub record IsLaidOutAround (w : World) (start : Start) (plain : Layout) : Type 0 where
  pub base : plain.base ≡ start.base
  pub size : plain.size ≡ start.size
  pub writable : (x : ℕ) → IsOutsideText (setting_of w start) x → is_writable plain x ≡ is_writable (layout_of w start) x
  pub executable : (x : ℕ) → is_executable (layout_of w start) x ≡ false → is_executable plain x ≡ false

-- the words of the graph stand at their new addresses, where they may be executed
abbrev pub HasWords : Graph → ℕ → Layout → Cells ℕ → Type 0
HasWords g lo plain memory =
    (i : ℕ) (p : Point) → slice_get (text_points g lo) i ≡ Some p → (is_range (is_executable plain) (lo + 4 * i) 4 ≡ true) × (aligned_number memory (lo + 4 * i) 4 ≡ Some (point_word p))

-- the plain machine starts as the run of the graph does: at the entry's new address, with the stack pointer, the words of
-- the graph in text, and outside text the bytes of the cells in memory, where code words hold the new addresses
pub record IsWrittenStart (w : World) (g : Graph) (start : Start) (plain : Layout) (b : State) : Type 0 where
  pub laid_out : IsLaidOutAround w start plain
  pub text : HasWords g w.lo plain b.memory
  pub pc : b.pc ≡ new_address g w.lo g.entry
  pub registers : (r : ℕ) → b.registers r ≡ written 2 (stack_pointer start) (λ r. 0) r
  pub memory : AgreeOn (IsOutsideText (setting_of w start)) (IsErasedCell (new_names g w.lo b.memory)) (get (regions_at_start w (map word_name g.code_words) start)) b.memory
  pub input : b.input ≡ start.input
  pub reservation : b.reservation ≡ None

-- The plain machine shows what the run of the graph shows, after each number of steps, while that is unbroken.
abbrev pub WritingKeepsRuns : Type 0
WritingKeepsRuns =
    (w : World) (g : Graph) → IsWritable g w.lo w.hi → (start : Start) (plain : Layout) (b : State) → IsWrittenStart w g start plain b
    → LocksWith (graph_step (setting_of w start) g) (state_at_start w g start) (step_of plain) b
