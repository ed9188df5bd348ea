-- The erasure law for the run of a program: the monitor sees what the plain machine does.
use Rattle.std.specs.Prelude.{◌≡◌, ◌⊎◌, ℕ, ◌^◌, ◌≤◌, Bool, true, false, Some, None, map}
use Rattle.std.specs.Option.{unwrap_or}
use Rattle.sq_isa.specs.Registers.{written}
use Rattle.sq_isa.specs.Words.{wrapped}
use Rattle.law_runs.specs.Follows.{LocksWith}
use Rattle.law_runs.specs.Simulation.{SimulatesInStep}
use Rattle.sq_memory.specs.Cells.{Cells, AgreeOn}
use Rattle.sq_memory.specs.Regions.{get}
use Rattle.sq_system.specs.Starts.{Start, stack_pointer}
use Rattle.sq_system.specs.World.{World as Layout, is_writable, is_executable, is_range}
use Rattle.sq_machine.specs.State.{State, aligned_number}
use Rattle.sq_machine.specs.Steps.{step_of}
use Rattle.law_follow.specs.Values.{Byte}
use Rattle.law_follow.specs.GraphRuns.{is_lost}
use Rattle.law_follow.specs.Worlds.{World, layout_of, regions_at_start}
use Rattle.law_patch.specs.LiveAgreement.{everywhere}
use Rattle.law_erasure.specs.Erasure.{Erasing, IsErasedCell, IsErasedCore}
use Rattle.law_program.specs.Programs.{Word, Program, word_at, is_in_text, end_of, target_of}
use Rattle.law_program.specs.Reached.{Decides}
use Rattle.law_program.specs.Faults.{text_refusal}
use Rattle.law_program.specs.Monitored.{Watched, monitored_step}
use Rattle.law_program.specs.FileRuns.{watched_start}
use Rattle.law_lifting.specs.Lifting.{IsLinked}

-- each reached word stands for its own address, an upper half keeps its word, and a stale byte stands for the one that was
-- there at the start
abbrev pub own_names : (ℕ → Bool) → Cells ℕ → Erasing
own_names is first = record {
  Names = λ n. is n ≡ true;
  address = λ n. n;
  Halves = λ n w. (u : ℕ) × (w ≡ Some u);
  word = λ n w. wrapped (unwrap_or w 0);
  stale = first;
}

-- the plain machine's memory is laid out as the world's
pub record IsLaidOut (w : World) (start : Start) (plain : Layout) : Type 0 where
  pub base : plain.base ≡ start.base
  pub size : plain.size ≡ start.size
  pub writable : (x : ℕ) → is_writable plain x ≡ is_writable (layout_of w start) x
  pub executable : (x : ℕ) → is_executable plain x ≡ is_executable (layout_of w start) x

-- the plain machine starts as the monitored run does: with the entry, the stack pointer, the program's words in text, and
-- the bytes of the cells in memory
pub record IsPlainStart (is : ℕ → Bool) (w : World) (start : Start) (p : Program) (plain : Layout) (b : State) : Type 0 where
  pub laid_out : IsLaidOut w start plain
  pub end : end_of p.text ≤ 2 ^ 32
  pub text : (x : ℕ) (word : Word) → word_at p.text x ≡ Some word → (is_range (is_executable plain) x 4 ≡ true) × (aligned_number b.memory x 4 ≡ Some word.number)
  pub bytes : (x : ℕ) → is_in_text p.text x ≡ true → (c : ℕ) × (get (regions_at_start w (map target_of p.code_words) start) x ≡ Some (Byte c))
  pub pc : b.pc ≡ p.entry
  pub registers : (r : ℕ) → b.registers r ≡ written 2 (stack_pointer start) (λ r. 0) r
  pub memory : AgreeOn everywhere (IsErasedCell (own_names is b.memory)) (get (regions_at_start w (map target_of p.code_words) start)) b.memory
  pub input : b.input ≡ start.input
  pub reservation : b.reservation ≡ None

-- The plain machine shows what the monitored run of the program shows, after each number of steps, while that is unbroken.
abbrev pub WatchingErases : Type 0
WatchingErases =
    (p : Program) (is : ℕ → Bool) → IsLinked p → Decides p is → text_refusal is p ≡ None → (w : World) (start : Start) (plain : Layout) (b : State)
    → w.lo ≡ p.text.lo → w.hi ≡ end_of p.text → IsPlainStart is w start p plain b
    → LocksWith (monitored_step (layout_of w start) p.text) (watched_start w p start) (step_of plain) b

-- The plain state is the monitored one without its tags: pc is the same; each name stands for its address, each upper half
-- for its word, and each stale byte for the one that was there at the start; text is as at the start; and pc is at a reached
-- word, or where nothing is executable.
pub record IsErasureOf (p : Program) (is : ℕ → Bool) (w : World) (start : Start) (plain : Layout) (first : State) (a : Watched) (b : State) : Type 0 where
  pub pc : b.pc ≡ a.pc
  pub core : IsErasedCore everywhere (own_names is first.memory) a.core b
  pub kept : (r : ℕ) → is_lost (a.core.registers r) ≡ false
  pub text : (x : ℕ) → is_in_text p.text x ≡ true → a.core.store.memory x ≡ get (regions_at_start w (map target_of p.code_words) start) x
  pub place : (is a.pc ≡ true) ⊎ (is_executable plain a.pc ≡ false)

-- The erasure law. At the start the plain state is the monitored one without its tags. From two such states, a step of the
-- monitored run that is no break has the same event or end as one of the plain machine, and leads to two such states.
abbrev pub ErasureLaw : Type 0
ErasureLaw =
    (p : Program) (is : ℕ → Bool) → IsLinked p → Decides p is → text_refusal is p ≡ None → (w : World) (start : Start) (plain : Layout) (b : State)
    → w.lo ≡ p.text.lo → w.hi ≡ end_of p.text → IsPlainStart is w start p plain b
    → IsErasureOf p is w start plain b (watched_start w p start) b × SimulatesInStep (monitored_step (layout_of w start) p.text) (step_of plain) (IsErasureOf p is w start plain b)
