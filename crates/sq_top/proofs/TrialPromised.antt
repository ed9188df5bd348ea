-- How the ending of `trial` keeps each promise.
use Rattle.std.proofs.Common.{◌≡◌, ℕ, ◌⊎◌, inl, inr, List, Some, refl}
use Rattle.sq_command.specs.Commands.{TrialForm, form_of}
use Rattle.sq_desk.specs.Outside.{Outside, KeepsFiles}
use Rattle.sq_top.specs.declared.ending.Ending.{Ending}
use Rattle.sq_top.specs.Statuses.{status_of, complaint_of}
use Rattle.sq_top.specs.Endings.{ComplainsLine}
use Rattle.sq_top.specs.Promises.{Ends}
use Rattle.sq_top.specs.Trials.{LeavesTrial}
use Rattle.sq_top.specs.TrialPromises.{ForTrial, IsTrialDone, HasTrialFault, IsTrialComplete}
use Rattle.sq_top.proofs.TrialCases.{trial_by_case}

module _ (words : List (List ℕ)) (ending : Ending) (before after : Outside) (ends : Ends words ending before after) where
  left : (first blocks : ℕ) → form_of words ≡ Some (TrialForm first blocks) → LeavesTrial first blocks ending before after
  left first blocks form = rw form at ends.leaves

  pub trial_files_promised : ForTrial words (λ _ _. KeepsFiles before after)
  trial_files_promised first blocks form = (left first blocks form).0

  pub trial_done_promised : ForTrial words (λ first blocks. status_of ending ≡ 0 → IsTrialDone first blocks before after)
  trial_done_promised first blocks form status = trial_by_case first blocks before after (λ e. status_of e ≡ 0 → IsTrialDone first blocks before after) (record {
    done = λ gone is. gone;
    print = λ gone is. absurd (cc is);
    memory = λ gone is. absurd (cc is);
  }) ending (left first blocks form).1 status

  pub trial_fault_promised : ForTrial words (λ _ _. status_of ending ≡ 2 → HasTrialFault before after)
  trial_fault_promised first blocks form status = trial_by_case first blocks before after (λ e. status_of e ≡ 2 → ComplainsLine (complaint_of e) before after → HasTrialFault before after) (record {
    done = λ gone is said. absurd (cc is);
    print = λ gone is said. (gone.0, said);
    memory = λ gone is said. absurd (cc is);
  }) ending (left first blocks form).1 status ends.complains

  pub trial_complete_promised : ForTrial words (λ _ _. IsTrialComplete (status_of ending) before after)
  trial_complete_promised first blocks form no_fault = trial_by_case first blocks before after (λ e. (status_of e ≡ 0) ⊎ (status_of e ≡ 4)) (record {
    done = λ gone. inl refl;
    print = λ gone. absurd (no_fault gone.0);
    memory = λ gone. inr refl;
  }) ending (left first blocks form).1
