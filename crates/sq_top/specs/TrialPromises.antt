-- The promises of the top call for `trial`, over what is outside before it and after it.
use Rattle.std.specs.Prelude.{◌≡◌, ℕ, ◌⊎◌, List, Some}
use Rattle.sq_command.specs.Commands.{TrialForm, form_of}
use Rattle.sq_desk.specs.Outside.{Outside, Rose, Printing, Prints}
use Rattle.sq_top.specs.declared.ending.DeskCall.TheVariants.{Print}
use Rattle.sq_top.specs.Statuses.{call_text}
use Rattle.sq_top.specs.Endings.{ComplainsLine}
use Rattle.sq_top.specs.Trials.{TellsTrial}

-- P holds of the numbers where the words are `trial FIRST BLOCKS`
abbrev pub ForTrial : List (List ℕ) → (ℕ → ℕ → Type 0) → Type 0
ForTrial words P = (first blocks : ℕ) → form_of words ≡ Some (TrialForm first blocks) → P first blocks

-- status 0 of `trial`: its line was printed
abbrev pub IsTrialDone : ℕ → ℕ → Outside → Outside → Type 0
IsTrialDone first blocks before after = (line : List ℕ) × TellsTrial first blocks line × Prints line before after

-- status 2 of `trial` has its cause, a fault of printing, and its line names it
abbrev pub HasTrialFault : Outside → Outside → Type 0
HasTrialFault before after = Rose Printing before after × ComplainsLine (Some (call_text Print)) before after

-- with no fault of printing the status of `trial` is 0 or 4
abbrev pub IsTrialComplete : ℕ → Outside → Outside → Type 0
IsTrialComplete status before after = (Rose Printing before after → ⊥) → (status ≡ 0) ⊎ (status ≡ 4)
