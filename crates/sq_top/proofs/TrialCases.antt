-- How `trial` can end.
use Rattle.std.proofs.Common.{ℕ, List}
use Rattle.sq_desk.specs.Outside.{Outside}
use Rattle.sq_top.specs.declared.ending.Ending.{Ending}
use Rattle.sq_top.specs.declared.ending.Ending.TheVariants.{Done, Words, Desk, Refused, Memory, Break, Limit, BadStart, Differs}
use Rattle.sq_top.specs.declared.ending.DeskCall.TheVariants.{Load, Store, Print}
use Rattle.sq_top.specs.Endings.{LeavesPrinted}
use Rattle.sq_top.specs.Trials.{TellsTrial, TrialLeft}

-- P holds of each ending that `trial` can have, by what it leaves
pub record TrialCases (first blocks : ℕ) (before after : Outside) (P : Ending → Type 0) : Type 0 where
  pub done : TrialLeft first blocks Done before after → P Done
  pub print : TrialLeft first blocks (Desk Print) before after → P (Desk Print)
  pub memory : TrialLeft first blocks Memory before after → P Memory

-- so it holds of the ending
pub trial_by_case : (first blocks : ℕ) (before after : Outside) (P : Ending → Type 0) → TrialCases first blocks before after P → (ending : Ending) → TrialLeft first blocks ending before after → P ending
trial_by_case first blocks before after P cases Done left = cases.done left
trial_by_case first blocks before after P cases Words left = absurd left
trial_by_case first blocks before after P cases (Desk Load) left = absurd left
trial_by_case first blocks before after P cases (Desk Store) left = absurd left
trial_by_case first blocks before after P cases (Desk Print) left = cases.print left
trial_by_case first blocks before after P cases (Refused refusal) left = absurd left
trial_by_case first blocks before after P cases Memory left = cases.memory left
trial_by_case first blocks before after P cases Break left = absurd left
trial_by_case first blocks before after P cases Limit left = absurd left
trial_by_case first blocks before after P cases BadStart left = absurd left
trial_by_case first blocks before after P cases (Differs line) left = absurd left

-- what the printing of its line leaves of `trial`
pub line_printed : (first blocks : ℕ) (before after : Outside) (line : List ℕ) → TellsTrial first blocks line → (ending : Ending) → LeavesPrinted line ending before after → TrialLeft first blocks ending before after
line_printed first blocks before after line tells Done left = (line, tells, left)
line_printed first blocks before after line tells Words left = absurd left
line_printed first blocks before after line tells (Desk Load) left = absurd left
line_printed first blocks before after line tells (Desk Store) left = absurd left
line_printed first blocks before after line tells (Desk Print) left = (left.1, line, tells, left.0)
line_printed first blocks before after line tells (Refused refusal) left = absurd left
line_printed first blocks before after line tells Memory left = left
line_printed first blocks before after line tells Break left = absurd left
line_printed first blocks before after line tells Limit left = absurd left
line_printed first blocks before after line tells BadStart left = absurd left
line_printed first blocks before after line tells (Differs number) left = absurd left
