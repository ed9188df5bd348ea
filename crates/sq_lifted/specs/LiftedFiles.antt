-- What `lift` gives for a file.
use Rattle.std.specs.Prelude.{◌≡◌, ℕ, ◌+◌, ◌*◌, ◌<◌, ◌≤◌, Bool, List, IsSome}
use Rattle.std.specs.List.{All, AllByRecursion}
use Rattle.law_runs.specs.Runs.{IsUnbroken}
use Rattle.law_runs.specs.Follows.{LeadsTo}
use Rattle.sq_num.specs.declared.refusal.Refusal.{Refusal}
use Rattle.sq_system.specs.Starts.{Start}
use Rattle.sq_elf.specs.Text.{text_of}
use Rattle.sq_reloc.specs.Outside.{code_word_at}
use Rattle.sq_graph.specs.Graph.{Graph}
use Rattle.sq_graph.specs.Leaders.{IsCanonical}
use Rattle.sq_graph.specs.Soundness.{IsSound}
use Rattle.sq_graph.specs.Words.{words_of}
use Rattle.sq_graph.specs.Places.{IsInReach}
use Rattle.sq_graph.specs.Slotted.{slotted}
use Rattle.law_program.specs.Programs.{Program}
use Rattle.law_follow.specs.Follows.{graph_run}
use Rattle.law_program.specs.FilePrograms.{IsProgramOf, IsLiftRefusal, IsLiftedFrom, IsRefusalOf, IsAcceptedFile}
use Rattle.law_program.specs.FileRuns.{world_of, IsUnbrokenRun}
use Rattle.sq_run.specs.FileRuns.{file_trace}
use Rattle.law_files.specs.Shows.{IsFileStart}

-- the file is accepted, and g is its lifted graph, but for the names of blocks
pub record IsLiftedFile (bytes : List ℕ) (g : Graph) : Type 0 where
  pub is : ℕ → Bool
  pub program : Program
  pub lifted : IsLiftedFrom bytes is program g

-- the file is refused by its text or its note
pub record IsRefusedFile (bytes : List ℕ) (refusal : Refusal) : Type 0 where
  pub is : ℕ → Bool
  pub program : Program
  pub refuses : IsLiftRefusal bytes is program refusal

-- A graph fits a file: it is canonical, sound and in reach, its words are no more than those of text, and its code words
-- stand where the file has some.
pub record FitsFile (bytes : List ℕ) (g : Graph) : Type 0 where
  pub canonical : IsCanonical g
  pub sound : IsSound g
  pub reach : IsInReach g
  pub words : (text_of bytes).lo + 4 * words_of g ≤ (text_of bytes).hi
  pub code_words : All (λ word. IsSome (code_word_at bytes word.at)) g.code_words

-- While the monitored run of the file is unbroken, the graph's run over the file's world is that of the file's plain
-- machine: each moment of the plain run is one of the graph's, and each moment of the graph's run leads to one of the plain
-- run. The graph's run is then unbroken too. p is the program of the file.
pub record RunsAsFile (bytes : List ℕ) (p : Program) (g : Graph) (start : Start) : Type 0 where
  pub kept : (n : ℕ) → IsUnbrokenRun bytes p start n → (m : ℕ) × IsUnbroken (graph_run (world_of bytes p) g start m) × (graph_run (world_of bytes p) g start m ≡ file_trace bytes start n)
  pub only : (m : ℕ) → (n : ℕ) × (IsUnbrokenRun bytes p start n → IsUnbroken (graph_run (world_of bytes p) g start m) × LeadsTo (graph_run (world_of bytes p) g start m) (file_trace bytes start n))

-- so from every start that is valid for the file
abbrev pub KeepsRunsOf : List ℕ → Graph → Type 0
KeepsRunsOf bytes g = (p : Program) → IsProgramOf bytes p → (start : Start) → IsFileStart bytes start → RunsAsFile bytes p g start

-- The run of the graph over the file's world shows, after each number of steps, what the file's plain machine shows, while
-- the monitored run of the file is unbroken. The graph's run is then unbroken too.
abbrev pub ShowsFile : List ℕ → Graph → Type 0
ShowsFile bytes g =
    (p : Program) → IsProgramOf bytes p → (start : Start) (n : ℕ) → IsUnbrokenRun bytes p start n
    → IsUnbroken (graph_run (world_of bytes p) g start n) × (graph_run (world_of bytes p) g start n ≡ file_trace bytes start n)

-- A file of which nothing is refused has no refusal.
abbrev pub AcceptedIsNotRefused : Type 0
AcceptedIsNotRefused = (bytes : List ℕ) → IsAcceptedFile bytes → (refusal : Refusal) → ¬ IsRefusalOf bytes refusal

-- A file has one lifted graph, but for the names of blocks: named by their positions, its lifted graphs are one.
abbrev pub LiftedGraphsAreOne : Type 0
LiftedGraphsAreOne =
    (bytes : List ℕ) (g h : Graph) → AllByRecursion (λ b. b < 256) bytes → IsLiftedFile bytes g → IsLiftedFile bytes h
    → slotted g ≡ slotted h

-- A file has at most one refusal.
abbrev pub RefusalsAreOne : Type 0
RefusalsAreOne = (bytes : List ℕ) (r s : Refusal) → IsRefusalOf bytes r → IsRefusalOf bytes s → r ≡ s
