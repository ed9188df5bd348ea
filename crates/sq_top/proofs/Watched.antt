-- What is seen of a watch by what is told of it.
use Rattle.std.proofs.Common.{◌≡◌, ℕ, ◌<◌, ◌≤◌, List, length, take, Option, Some, None, refl, sym, subst, ap, ◌∙◌}
use Rattle.std.specs.Prelude.{⊤}
use Rattle.std.specs.List.{AllByRecursion}
use Rattle.law_runs.specs.Runs.{Trace, Status, Running, Halted, Broken, IsNotBroken, IsHalted, HasHalted, trace, first_break, state_after}
use Rattle.law_runs.proofs.Breaks.{unbroken_none, none_unbroken}
use Rattle.sq_system.specs.Starts.{Start, IsBadStart}
use Rattle.sq_system.specs.declared.event.Event.{Event}
use Rattle.sq_system.specs.declared.event.Halt.{Halt}
use Rattle.law_follow.specs.declared.kind.Kind.{Kind}
use Rattle.law_follow.specs.Worlds.{extents}
use Rattle.law_program.specs.Programs.{Program}
use Rattle.law_program.specs.FilePrograms.{IsProgramOf, IsAcceptedFile}
use Rattle.law_program.specs.Monitored.{Watched, Watches, monitored_step}
use Rattle.law_program.specs.FileRuns.{world_of, watched_start, watched_layout, monitored_trace}
use Rattle.sq_run.specs.FileRuns.{IsBadFileStart}
use Rattle.sq_lifted.proofs.FilePieces.{file_extents}
use Rattle.sq_monitor.specs.Steps.{outcome_of, outcome_at}
use Rattle.sq_monitor.specs.Transcripts.{file_outcome, transcript_text}
use Rattle.sq_monitor.specs.declared.moved.WatchOutcome.{WatchOutcome}
use Rattle.sq_monitor.specs.declared.moved.WatchOutcome.TheVariants.{Ended, Limit as AtLimit, Break as AtBreak}
use Rattle.sq_monitor.specs.declared.fault.WatchFault.{WatchFault}
use Rattle.sq_monitor.specs.declared.fault.WatchFault.TheVariants.{BadStart as NoWatch, Memory as NoSpace}
use Rattle.sq_monitor.specs.declared.transcript.WatchTranscript.{WatchTranscript}
use Rattle.sq_command.specs.Commands.{RunRequest}
use Rattle.sq_desk.specs.Outside.{Outside, Files, ForFiles, NoneFall, KeepsFiles, KeepsPrinted, extended_text}
use Rattle.sq_top.specs.declared.ending.Ending.{Ending}
use Rattle.sq_top.specs.declared.ending.Ending.TheVariants.{Done, Words, Desk, Refused, Memory, Break, Limit, BadStart, Differs}
use Rattle.sq_top.specs.declared.ending.DeskCall.TheVariants.{Load, Store, Print}
use Rattle.sq_top.specs.Denials.{watch_fault_ending}
use Rattle.sq_top.specs.Running.{file_of, input_of, start_at, start_in, longest_input, IsAtLimit}
use Rattle.sq_top.specs.Watching.{lines_in, HasBroken, HasBadWatch, HasWatched}
use Rattle.sq_top.specs.WatchEndings.{IsToldAs, IsWatchTranscript, watch_ending, LeavesTold, LeavesUnwatched, WatchLeft, LeavesWatch}
use Rattle.sq_top.proofs.Later.{rose_then}
use Rattle.sq_top.proofs.ToldPlainly.{seen_plainly, told_plainly}

broken_is : (status : Status Halt) → (IsNotBroken status → ⊥) → status ≡ Broken
broken_is Running never = absurd (never tt)
broken_is (Halted halt) never = absurd (never tt)
broken_is Broken never = refl

by_parts : (first : Option Kind) (status : Status Halt) (pc : ℕ) → (first ≡ None → IsNotBroken status) → (IsNotBroken status → first ≡ None) → (t : Trace Event Halt) → t.status ≡ status → IsToldAs (outcome_of first status pc) t
by_parts (Some kind) status pc unbroken none t is = is ∙ broken_is status (λ fine. let never : Some kind ≡ None = none fine in absurd (cc never))
by_parts None Running pc unbroken none t is = is
by_parts None (Halted halt) pc unbroken none t is = subst IsHalted (sym is) tt
by_parts None Broken pc unbroken none t is = absurd (unbroken refl)

told : (step : Watched → Watches) (n : ℕ) (s : Watched) → IsToldAs (outcome_at step n s) (trace step n s)
told step n s = by_parts (first_break step n s) (trace step n s).status (state_after step n s).pc (none_unbroken step n s) (unbroken_none step n s) (trace step n s) refl

pub seen_as : (bytes : List ℕ) (p : Program) (start : Start) (n : ℕ) (outcome : WatchOutcome) → outcome ≡ file_outcome bytes p start n → IsToldAs outcome (monitored_trace bytes p start n)
unfolding file_outcome
seen_as bytes p start n outcome is =
    subst (λ o. IsToldAs o (monitored_trace bytes p start n)) (sym is) (told (monitored_step (watched_layout bytes p start) p.text) n (watched_start (world_of bytes p) p start))

-- a start is bad for a file exactly where it is for its world
bad_there : (bytes : List ℕ) (p : Program) (start : Start) → IsBadStart (extents (world_of bytes p)) start → IsBadFileStart bytes start
unfolding IsBadFileStart
bad_there bytes p start bad = subst (λ es. IsBadStart es start) (sym (file_extents bytes p)) bad

bad_here : (bytes : List ℕ) (p : Program) (start : Start) → IsBadFileStart bytes start → IsBadStart (extents (world_of bytes p)) start
unfolding IsBadFileStart
bad_here bytes p start bad = subst (λ es. IsBadStart es start) (file_extents bytes p) bad

-- what was loaded is what the files held
module _ (request : RunRequest) (bytes input : List ℕ) (n : ℕ) (files : Files) (b : bytes ≡ file_of request files) (i : input ≡ input_of request files) (limit : n ≡ request.limit) (fit : AllByRecursion (λ b. b < 256) bytes) (accepted : IsAcceptedFile bytes) (short : length input ≤ longest_input) where
  moved : (P : List ℕ → List ℕ → ℕ → Type 0) → P bytes input n → P (file_of request files) (input_of request files) request.limit
  moved P holds = subst (P (file_of request files) (input_of request files)) limit (subst (λ y. P (file_of request files) y n) i (subst (λ x. P x input n) b holds))

  held : IsAcceptedFile (file_of request files)
  held = subst IsAcceptedFile b accepted

  within : length (input_of request files) ≤ longest_input
  within = subst (λ y. length y ≤ longest_input) i short

  pub bad_watch : ((p : Program) → IsProgramOf bytes p → IsBadStart (extents (world_of bytes p)) (start_at request input)) → HasBadWatch request files
  bad_watch bad = record {
    accepted = record { file = held; input = within };
    bad = moved (λ x y m. IsBadFileStart x (start_at request y)) (bad_there bytes accepted.program (start_at request input) (bad accepted.program accepted.accepted.read.program));
  }

  pub has_watched : (outcome : WatchOutcome) (text : List ℕ) →
      ((p : Program) → IsProgramOf bytes p → ¬ IsBadStart (extents (world_of bytes p)) (start_at request input)) →
      ((p : Program) → IsProgramOf bytes p → outcome ≡ file_outcome bytes p (start_at request input) n) →
      ((p : Program) → IsProgramOf bytes p → text ≡ transcript_text bytes p (start_at request input) n) → HasWatched request (IsToldAs outcome) files text
  has_watched outcome text valid told lines =
      let fits = subst (AllByRecursion (λ b. b < 256)) b fit in
      let lines_are : text ≡ lines_in request files held.program = moved (λ x y m. (p : Program) → IsProgramOf x p → text ≡ transcript_text x p (start_at request y) m) lines held.program held.accepted.read.program in
      record {
        can = record {
          accepted = record { file = held; input = within };
          valid = moved (λ x y m. ¬ IsBadFileStart x (start_at request y)) (λ bad. valid accepted.program accepted.accepted.read.program (bad_here bytes accepted.program (start_at request input) bad));
        };
        seen =
            seen_as (file_of request files) held.program (start_in request files) request.limit outcome
            (moved (λ x y m. (p : Program) → IsProgramOf x p → outcome ≡ file_outcome x p (start_at request y) m) told held.program held.accepted.read.program);
        text_is = lines_are;
        plain = λ unbroken. (
          seen_plainly (file_of request files) held.reached held.program fits held.accepted (start_in request files) request.limit unbroken,
          lines_are ∙ told_plainly (file_of request files) held.reached held.program fits held.accepted (start_in request files) request.limit unbroken,
        );
      }

-- where there is no watch
pub unstarted : (request : RunRequest) (fault : WatchFault) (before after : Outside) → (fault ≡ NoWatch → ForFiles before (HasBadWatch request)) → LeavesUnwatched request (watch_fault_ending fault) before after
unstarted request NoWatch before after bad = bad refl
unstarted request NoSpace before after bad = tt

halted : (outcome : WatchOutcome) → watch_ending outcome ≡ Done → (t : Trace Event Halt) → IsToldAs outcome t → HasHalted t
halted (Ended halt) is t seen = seen
halted AtLimit is t seen = absurd (cc is)
halted (AtBreak pc kind) is t seen = absurd (cc is)

at_limit : (outcome : WatchOutcome) → watch_ending outcome ≡ Limit → (t : Trace Event Halt) → IsToldAs outcome t → IsAtLimit t
at_limit (Ended halt) is t seen = absurd (cc is)
at_limit AtLimit is t seen = seen
at_limit (AtBreak pc kind) is t seen = absurd (cc is)

broken : (outcome : WatchOutcome) → watch_ending outcome ≡ Break → (t : Trace Event Halt) → IsToldAs outcome t → HasBroken t
broken (Ended halt) is t seen = absurd (cc is)
broken AtLimit is t seen = absurd (cc is)
broken (AtBreak pc kind) is t seen = seen

seen_so : (request : RunRequest) (P Q : Trace Event Halt → Type 0) (text : List ℕ) (before : Outside) → ((t : Trace Event Halt) → P t → Q t) → ForFiles before (λ files. HasWatched request P files text) → ForFiles before (λ files. HasWatched request Q files text)
seen_so request P Q text before so all files told = let w = all files told in record { can = w.can; seen = so _ w.seen; text_is = w.text_is; plain = w.plain }

-- what the printing of a transcript leaves of a watch
module _ (request : RunRequest) (transcript : WatchTranscript) (before middle after : Outside) (first : NoneFall before middle) (kept : KeepsPrinted before middle) (watched : IsWatchTranscript request transcript before) where
  shown_left : (ending : Ending) → LeavesTold transcript ending middle after → WatchLeft request ending before after
  shown_left Done left =
      (transcript.text, seen_so request (IsToldAs transcript.outcome) HasHalted transcript.text before (halted transcript.outcome left.0) watched, left.1 ∙ ap (extended_text transcript.text) kept)
  shown_left Words left = absurd left
  shown_left (Desk Load) left = absurd left
  shown_left (Desk Store) left = absurd left
  shown_left (Desk Print) left =
      (rose_then _ before middle after first left.0, (transcript.text, seen_so request (IsToldAs transcript.outcome) (λ trace. ⊤) transcript.text before (λ t seen. tt) watched, (left.1.0, left.1.1 ∙ ap (extended_text (take left.1.0 transcript.text)) kept)))
  shown_left (Refused refusal) left = absurd left
  shown_left Memory left = left ∙ kept
  shown_left Break left =
      (transcript.text, seen_so request (IsToldAs transcript.outcome) HasBroken transcript.text before (broken transcript.outcome left.0) watched, left.1 ∙ ap (extended_text transcript.text) kept)
  shown_left Limit left =
      (transcript.text, seen_so request (IsToldAs transcript.outcome) IsAtLimit transcript.text before (at_limit transcript.outcome left.0) watched, left.1 ∙ ap (extended_text transcript.text) kept)
  shown_left BadStart left = absurd left
  shown_left (Differs line) left = absurd left

  pub shown : (ending : Ending) → KeepsFiles before middle → KeepsFiles middle after → LeavesTold transcript ending middle after → LeavesWatch request ending before after
  shown ending one other left = (other ∙ one, shown_left ending left)
