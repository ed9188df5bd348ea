-- With no break a watch shows what the plain run shows, and is told by the lines that tell that.
use Rattle.std.proofs.Common.{◌≡◌, ℕ, ◌+◌, ◌*◌, ◌^◌, ◌<◌, ◌≤◌, Bool, List, ◌++◌, codes, length, Option, Some, None, refl, sym, ap, subst, ◌∙◌, arith}
use Rattle.std.specs.List.{AllByRecursion}
use Rattle.sq_isa.specs.Words.{wrapped}
use Rattle.law_runs.specs.Runs.{Status, Running, Halted, Broken, IsNotBroken, trace, first_break, state_after}
use Rattle.law_runs.proofs.Breaks.{unbroken_none}
use Rattle.sq_system.specs.Starts.{Start}
use Rattle.sq_system.specs.Lines.{events_text, end_text}
use Rattle.sq_system.specs.declared.event.Halt.{Halt}
use Rattle.sq_system.specs.declared.event.Halt.TheVariants.{Exit, Illegal, Breakpoint, Fetch, Load, Store}
use Rattle.law_follow.specs.declared.kind.Kind.{Kind}
use Rattle.law_program.specs.Programs.{Program, word_at}
use Rattle.law_program.specs.FilePrograms.{IsAccepted}
use Rattle.law_program.specs.Monitored.{Watched, Watches, monitored_step}
use Rattle.law_program.specs.FileRuns.{world_of, watched_start, watched_layout, monitored_trace, IsUnbrokenRun}
use Rattle.sq_run.specs.FileRuns.{file_world, file_state, file_trace}
use Rattle.sq_run.specs.Transcripts.{halt_of, trace_text}
use Rattle.law_lifting.proofs.TextWords.{some_is, stood}
use Rattle.sq_lifted.proofs.Files.{files_linked}
use Rattle.sq_lifted.proofs.FileWorlds.{files_keep_runs}
use Rattle.sq_lifted.proofs.PlainStarts.{start_plain, show_plain}
use Rattle.sq_monitor.specs.Steps.{told, outcome_of}
use Rattle.sq_monitor.specs.Transcripts.{outcome_text, file_outcome, transcript_text}
use Rattle.sq_top.proofs.Fetches.{FetchFits, EndFits, fetches_fit}

same_address : (x : ℕ) → x < 2 ^ 32 → wrapped x ≡ x
same_address x fits = grind arith

-- an end of the plain machine is told as it is
told_as_it_is : (halt : Halt) → FetchFits halt → told halt ≡ halt
told_as_it_is (Exit status) fits = refl
told_as_it_is Illegal fits = refl
told_as_it_is Breakpoint fits = refl
told_as_it_is (Fetch x) fits = ap Fetch (same_address x fits)
told_as_it_is (Load x) fits = refl
told_as_it_is (Store x) fits = refl

-- the line of the end where there is no break
one_line : (first : Option Kind) (status : Status Halt) (pc : ℕ) → first ≡ None → IsNotBroken status → EndFits status → outcome_text (outcome_of first status pc) ≡ end_text (halt_of status)
one_line (Some kind) status pc none fine fits = absurd (cc none)
one_line None Running pc none fine fits = refl
one_line None (Halted halt) pc none fine fits = ap (λ h. end_text (Some h)) (told_as_it_is halt fits)
one_line None Broken pc none fine fits = absurd fine

module _ (bytes : List ℕ) (is : ℕ → Bool) (p : Program) (fit : AllByRecursion (λ b. b < 256) bytes) (accepted : IsAccepted bytes is p) (start : Start) where
  -- the plain machine starts at a word of text
  starts_below : (file_state bytes start).pc < 2 ^ 32
  starts_below =
      let begins = start_plain bytes is p fit accepted.read start in
      let word = some_is (word_at p.text p.entry) (files_linked bytes is p fit accepted.read).linked.entry in
      let stands = stood p.entry p.text.lo word.0 p.text.words word.1 in
      let below : p.entry + 4 ≤ p.text.lo + 4 * length p.text.words = stands.most in
      let end : p.text.lo + 4 * length p.text.words ≤ 2 ^ 32 = begins.end in
      subst (λ x. x < 2 ^ 32) (sym begins.pc) (omega (arith, below, end))

  ends_fit : (n : ℕ) → EndFits (file_trace bytes start n).status
  unfolding file_trace
  ends_fit n = fetches_fit (file_world bytes start) n (file_state bytes start) starts_below

  pub seen_plainly : (n : ℕ) → IsUnbrokenRun bytes p start n → monitored_trace bytes p start n ≡ file_trace bytes start n
  seen_plainly n unbroken = sym (files_keep_runs bytes is p fit accepted start n unbroken).1 ∙ (show_plain bytes is p fit accepted start n unbroken).1

  pub told_plainly : (n : ℕ) → IsUnbrokenRun bytes p start n → transcript_text bytes p start n ≡ trace_text (file_trace bytes start n)
  unfolding transcript_text file_outcome trace_text
  told_plainly n unbroken =
      let same = seen_plainly n unbroken in
      let step : Watched → Watches = monitored_step (watched_layout bytes p start) p.text in
      let first : Watched = watched_start (world_of bytes p) p start in
      let fits : EndFits (monitored_trace bytes p start n).status = subst (λ t. EndFits t.status) (sym same) (ends_fit n) in
      let line = one_line (first_break step n first) (trace step n first).status (state_after step n first).pc (unbroken_none step n first unbroken) unbroken fits in
      ap (λ text. events_text (monitored_trace bytes p start n).events ++ (text ++ codes "\n")) line
      ∙ ap (λ t. events_text t.events ++ (end_text (halt_of t.status) ++ codes "\n")) same
