-- What is told of the watched run of a file, and the lines that tell it.
use Rattle.std.specs.Prelude.{ℕ, List, ◌++◌, codes, Some, None}
use Rattle.sq_num.specs.Texts.{hex_text}
use Rattle.sq_system.specs.Starts.{Start}
use Rattle.sq_system.specs.Lines.{events_text, end_text}
use Rattle.law_follow.specs.declared.kind.Kind.{Kind}
use Rattle.law_follow.specs.declared.kind.Kind.TheVariants.{Arithmetic, Half, Call, Fragment, Stale, Text, Jump, Address}
use Rattle.law_program.specs.Programs.{Program}
use Rattle.law_program.specs.Monitored.{monitored_step}
use Rattle.law_program.specs.FileRuns.{world_of, watched_start, watched_layout, monitored_trace}
use Rattle.sq_monitor.specs.Steps.{outcome_at}
use Rattle.sq_monitor.specs.declared.moved.WatchOutcome.{WatchOutcome}
use Rattle.sq_monitor.specs.declared.moved.WatchOutcome.TheVariants.{Limit, Ended, Break}

-- how the watched run of a file stands after n steps: at its limit, at its end, or at its first break
unfoldable pub file_outcome : List ℕ → Program → Start → ℕ → WatchOutcome
file_outcome bytes p start n =
    outcome_at (monitored_step (watched_layout bytes p start) p.text) n (watched_start (world_of bytes p) p start)

-- the kind of a break in lower case
abbrev pub kind_text : Kind → List ℕ
kind_text Arithmetic = codes "arithmetic"
kind_text Half = codes "half"
kind_text Call = codes "call"
kind_text Fragment = codes "fragment"
kind_text Stale = codes "stale"
kind_text Text = codes "text"
kind_text Jump = codes "jump"
kind_text Address = codes "address"

-- the line of an end, a break or a limit, without its newline
abbrev pub outcome_text : WatchOutcome → List ℕ
outcome_text Limit = end_text None
outcome_text (Ended halt) = end_text (Some halt)
outcome_text (Break pc kind) = codes "break " ++ kind_text kind ++ codes " at " ++ hex_text pc

-- the lines of the events in order, and the one line of the end, the break or the limit
unfoldable pub transcript_text : List ℕ → Program → Start → ℕ → List ℕ
transcript_text bytes p start n =
    events_text (monitored_trace bytes p start n).events ++ (outcome_text (file_outcome bytes p start n) ++ codes "\n")
