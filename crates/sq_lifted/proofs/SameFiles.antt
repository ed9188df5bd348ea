-- A file does what another does, where it shows what a graph shows that follows the other's lifted graph.
use Rattle.std.proofs.Common.{◌≡◌, ℕ, ◌<◌, Bool, List, length, refl, sym, ◌∙◌, subst}
use Rattle.std.specs.List.{AllByRecursion}
use Rattle.std.proofs.lemmas.List.{length-map}
use Rattle.law_runs.specs.Runs.{IsUnbroken}
use Rattle.law_runs.specs.Follows.{LeadsTo}
use Rattle.law_runs.proofs.Follow.{assemble}
use Rattle.sq_system.specs.Starts.{Start, IsValidStart}
use Rattle.sq_machine.specs.Steps.{step_of}
use Rattle.sq_graph.specs.Graph.{Graph}
use Rattle.law_follow.specs.Worlds.{setting_of}
use Rattle.law_follow.specs.GraphRuns.{graph_step}
use Rattle.law_follow.specs.Follows.{state_at_start, graph_run, Follows}
use Rattle.law_follow.proofs.Following.{graph_follows_through}
use Rattle.law_program.specs.Programs.{Program}
use Rattle.law_program.specs.Lifted.{code_ref, lifted}
use Rattle.law_program.specs.FilePrograms.{IsLiftedFrom}
use Rattle.law_program.specs.Monitored.{monitored_step}
use Rattle.law_program.specs.FileRuns.{world_of, watched_start, watched_layout, IsUnbrokenRun}
use Rattle.sq_run.specs.FileRuns.{file_world, file_state, file_trace}
use Rattle.sq_lift.proofs.FilePrograms.{one_program}
use Rattle.law_lifting.proofs.Watched.{watching_erases}
use Rattle.law_files.specs.Shows.{IsFileStart, ShowsGraph}
use Rattle.sq_lifted.specs.LiftedFiles.{IsLiftedFile, RunsAsFile, KeepsRunsOf, ShowsFile}
use Rattle.sq_lifted.specs.Same.{HaveSameRuns, ShownGraphsAreSame}
use Rattle.sq_lifted.proofs.Files.{files_linked}
use Rattle.sq_lifted.proofs.FileWorlds.{early_readable, files_keep_runs, files_follow, files_keep_step}
use Rattle.sq_lifted.proofs.PlainStarts.{start_plain, show_plain}
use Rattle.sq_lifted.proofs.FilePieces.{files_are_worlds, file_extents}

module _ (bytes other : List ℕ) (is : ℕ → Bool) (p : Program) (g h : Graph) (fit : AllByRecursion (λ b. b < 256) bytes) (from : IsLiftedFrom bytes is p g) (follows : Follows g h) (shows : ShowsGraph bytes p h other) where
  -- what the graph follows that is named by addresses
  through : Follows (lifted is p) h
  through = graph_follows_through (lifted is p) g h (files_follow bytes is p g fit from) follows

  same_runs : (start : Start) → IsFileStart bytes start → HaveSameRuns bytes other p start
  same_runs start valid =
      let a = from.accepted in
      let linked = (files_linked bytes is p fit a.read).linked in
      let text = (early_readable bytes is p a.early).text in
      let over : IsValidStart _ start = subst (λ pieces. IsValidStart pieces start) (file_extents bytes p) valid in
      let count : length p.code_words ≡ length (lifted is p).code_words = sym (length-map p.code_words code_ref) in
      assemble (monitored_step (watched_layout bytes p start) p.text) (watched_start (world_of bytes p) p start) (step_of (file_world bytes start)) (file_state bytes start)
      (graph_step (setting_of (world_of bytes p) start) (lifted is p)) (state_at_start (world_of bytes p) (lifted is p) start)
      (graph_step (setting_of (world_of bytes p) start) h) (state_at_start (world_of bytes p) h start)
      (step_of (file_world other start)) (file_state other start)
      (watching_erases p is linked a.read.reached text (world_of bytes p) start (file_world bytes start) (file_state bytes start) refl refl (start_plain bytes is p fit a.read start))
      (files_keep_runs bytes is p fit a start)
      (through.runs (world_of bytes p) (files_are_worlds bytes is p fit a.read) count start over)
      (shows.runs start valid)

pub same_through : ShownGraphsAreSame
same_through bytes other is p g h fit from follows shows =
    let are = from.accepted.read.program in
    record {
      starts = shows.starts;
      runs = λ q of start valid. subst (λ r. HaveSameRuns bytes other r start) (one_program bytes p.code_words p are.code_words are ∙ sym (one_program bytes p.code_words q are.code_words of)) (same_runs bytes other is p g h fit from follows shows start valid);
    }

-- a lifted graph of a file runs as the file does
pub lifted_runs : (bytes : List ℕ) (g : Graph) → AllByRecursion (λ b. b < 256) bytes → IsLiftedFile bytes g → KeepsRunsOf bytes g
lifted_runs bytes g fit file = λ q of start valid.
    let p = file.program in
    let a = file.lifted.accepted in
    let are = a.read.program in
    let over : IsValidStart _ start = subst (λ pieces. IsValidStart pieces start) (file_extents bytes p) valid in
    let count : length p.code_words ≡ length (lifted file.is p).code_words = sym (length-map p.code_words code_ref) in
    let runs = (files_follow bytes file.is p g fit file.lifted).runs (world_of bytes p) (files_are_worlds bytes file.is p fit a.read) count start over in
    let plain = show_plain bytes file.is p fit a start in
    let one : p ≡ q = one_program bytes p.code_words p are.code_words are ∙ sym (one_program bytes p.code_words q are.code_words of) in
    subst (λ r. RunsAsFile bytes r g start) one (record {
      kept = λ n unbroken.
          let shown = plain n unbroken in
          let found = runs.kept n shown.0 in
          (found.0, found.1, found.2 ∙ shown.1);
      only = λ m.
          let found = runs.only m in (
            found.0,
            λ unbroken.
                let shown = plain found.0 unbroken in
                let leads = found.1 shown.0 in
                (leads.0, subst (LeadsTo (graph_run (world_of bytes p) g start m)) shown.1 leads.1),
          );
    })

-- and shows, step for step, what the file's plain machine shows: the lifted graph that is named by addresses does, and with
-- that it keeps step
pub lifted_shows : (bytes : List ℕ) (g : Graph) → AllByRecursion (λ b. b < 256) bytes → IsLiftedFile bytes g → ShowsFile bytes g
lifted_shows bytes g fit file =
    let p = file.program in
    let a = file.lifted.accepted in
    let are = a.read.program in
    let Shows : Program → Type 0 = λ r. (start : Start) (n : ℕ) → IsUnbrokenRun bytes r start n → IsUnbroken (graph_run (world_of bytes r) g start n) × (graph_run (world_of bytes r) g start n ≡ file_trace bytes start n) in
    λ q of.
    subst Shows (one_program bytes p.code_words p are.code_words are ∙ sym (one_program bytes p.code_words q are.code_words of)) (λ start n unbroken.
    let plain = show_plain bytes file.is p fit a start n unbroken in
    let own = files_keep_step bytes file.is p g fit file.lifted (world_of bytes p) start n plain.0 in
    (own.0, own.1 ∙ plain.1))
