-- How the ending of a run keeps each promise.
use Rattle.std.proofs.Common.{◌≡◌, ℕ, ◌⊎◌, inl, inr, List, Some, refl, subst, arith}
use Rattle.sq_num.specs.declared.refusal.Refusal.{Refusal}
use Rattle.law_runs.specs.Runs.{Trace, HasHalted, IsHalted}
use Rattle.sq_system.specs.declared.event.Event.{Event}
use Rattle.sq_system.specs.declared.event.Halt.{Halt}
use Rattle.sq_command.specs.Commands.{RunRequest, RunForm, form_of}
use Rattle.sq_desk.specs.Outside.{Outside, Files, KeepsFiles}
use Rattle.sq_top.specs.declared.ending.Ending.{Ending}
use Rattle.sq_top.specs.declared.ending.Ending.TheVariants.{Done, Words, Desk, Refused, Memory, Break, Limit, BadStart, Differs}
use Rattle.sq_top.specs.declared.ending.DeskCall.TheVariants.{Load, Store, Print}
use Rattle.sq_top.specs.Statuses.{status_of, complaint_of}
use Rattle.sq_top.specs.Endings.{ComplainsLine}
use Rattle.sq_top.specs.Running.{trace_in, IsAtLimit, IsRunRefused, IsAccepted}
use Rattle.sq_top.specs.RunEndings.{PrintsRun, LeavesRun, RunLeft}
use Rattle.sq_top.specs.RunPromises.{ForRun, HasRunFault, HasRunRefusal, IsBadRun, RunCause, MeetsFault, RunsExactly, IsRunComplete}
use Rattle.sq_top.specs.Promises.{Ends}

-- a trace that has halted is not at its limit
pub not_both : (trace : Trace Event Halt) → HasHalted trace → IsAtLimit trace → ⊥
not_both trace halted limit = subst IsHalted limit halted

-- what is refused is not accepted
not_accepted : (request : RunRequest) (files : Files) (refusal : Refusal) → IsRunRefused request files refusal → IsAccepted request files → ⊥
not_accepted request files refusal (inl file) accepted = absurd (cc (file, accepted.file))
not_accepted request files refusal (inr input) accepted = omega (arith, input.1, accepted.input)

-- two causes give one status
same_status : (request : RunRequest) (files : Files) (first second : Ending) → RunCause request first files → RunCause request second files → status_of first ≡ status_of second
same_status request files Done Done one other = refl
same_status request files Done Break one other = absurd other
same_status request files Done Limit one other = absurd (not_both (trace_in request files) one.1 other.1)
same_status request files Done BadStart one other = absurd (one.0.valid other.bad)
same_status request files Done (Differs line) one other = absurd other
same_status request files Done (Refused refusal) one other = absurd (not_accepted request files refusal other one.0.accepted)
same_status request files Done Words one other = absurd other
same_status request files Done (Desk call) one other = absurd other
same_status request files Done Memory one other = absurd other
same_status request files Limit Done one other = absurd (not_both (trace_in request files) other.1 one.1)
same_status request files Limit Break one other = absurd other
same_status request files Limit Limit one other = refl
same_status request files Limit BadStart one other = absurd (one.0.valid other.bad)
same_status request files Limit (Differs line) one other = absurd other
same_status request files Limit (Refused refusal) one other = absurd (not_accepted request files refusal other one.0.accepted)
same_status request files Limit Words one other = absurd other
same_status request files Limit (Desk call) one other = absurd other
same_status request files Limit Memory one other = absurd other
same_status request files BadStart Done one other = absurd (other.0.valid one.bad)
same_status request files BadStart Break one other = absurd other
same_status request files BadStart Limit one other = absurd (other.0.valid one.bad)
same_status request files BadStart BadStart one other = refl
same_status request files BadStart (Differs line) one other = absurd other
same_status request files BadStart (Refused refusal) one other = absurd (not_accepted request files refusal other one.accepted)
same_status request files BadStart Words one other = absurd other
same_status request files BadStart (Desk call) one other = absurd other
same_status request files BadStart Memory one other = absurd other
same_status request files (Refused refusal) Done one other = absurd (not_accepted request files refusal one other.0.accepted)
same_status request files (Refused refusal) Break one other = absurd other
same_status request files (Refused refusal) Limit one other = absurd (not_accepted request files refusal one other.0.accepted)
same_status request files (Refused refusal) BadStart one other = absurd (not_accepted request files refusal one other.accepted)
same_status request files (Refused refusal) (Differs line) one other = absurd other
same_status request files (Refused refusal) (Refused more) one other = refl
same_status request files (Refused refusal) Words one other = absurd other
same_status request files (Refused refusal) (Desk call) one other = absurd other
same_status request files (Refused refusal) Memory one other = absurd other
same_status request files Break second one other = absurd one
same_status request files Words second one other = absurd one
same_status request files (Desk call) second one other = absurd one
same_status request files Memory second one other = absurd one
same_status request files (Differs line) second one other = absurd one

module _ (words : List (List ℕ)) (ending : Ending) (before after : Outside) (ends : Ends words ending before after) where
  left : (request : RunRequest) → form_of words ≡ Some (RunForm request) → LeavesRun request ending before after
  left request form = rw form at ends.leaves

  pub run_files_promised : ForRun words (λ _. KeepsFiles before after)
  run_files_promised request form = (left request form).0

  pub run_done_promised : ForRun words (λ request. status_of ending ≡ 0 → PrintsRun request HasHalted before after)
  run_done_promised request form status = by_case ending status (left request form).1
    where
      by_case : (e : Ending) → status_of e ≡ 0 → RunLeft request e before after → PrintsRun request HasHalted before after
      by_case Done is gone = gone
      by_case Words is gone = absurd gone
      by_case (Desk call) is gone = absurd (cc is)
      by_case (Refused refusal) is gone = absurd (cc is)
      by_case Memory is gone = absurd (cc is)
      by_case Break is gone = absurd gone
      by_case Limit is gone = absurd (cc is)
      by_case BadStart is gone = absurd (cc is)
      by_case (Differs line) is gone = absurd gone

  pub run_limit_promised : ForRun words (λ request. status_of ending ≡ 6 → PrintsRun request IsAtLimit before after)
  run_limit_promised request form status = by_case ending status (left request form).1
    where
      by_case : (e : Ending) → status_of e ≡ 6 → RunLeft request e before after → PrintsRun request IsAtLimit before after
      by_case Done is gone = absurd (cc is)
      by_case Words is gone = absurd gone
      by_case (Desk call) is gone = absurd (cc is)
      by_case (Refused refusal) is gone = absurd (cc is)
      by_case Memory is gone = absurd (cc is)
      by_case Break is gone = absurd gone
      by_case Limit is gone = gone
      by_case BadStart is gone = absurd (cc is)
      by_case (Differs line) is gone = absurd gone

  pub run_bad_promised : ForRun words (λ request. status_of ending ≡ 7 → IsBadRun request before after)
  run_bad_promised request form status = by_case ending status (left request form).1 ends.complains
    where
      by_case : (e : Ending) → status_of e ≡ 7 → RunLeft request e before after → ComplainsLine (complaint_of e) before after → IsBadRun request before after
      by_case Done is gone said = absurd (cc is)
      by_case Words is gone said = absurd gone
      by_case (Desk call) is gone said = absurd (cc is)
      by_case (Refused refusal) is gone said = absurd (cc is)
      by_case Memory is gone said = absurd (cc is)
      by_case Break is gone said = absurd gone
      by_case Limit is gone said = absurd (cc is)
      by_case BadStart is gone said = (gone.0, gone.1, said)
      by_case (Differs line) is gone said = absurd gone

  pub run_fault_promised : ForRun words (λ request. status_of ending ≡ 2 → HasRunFault request before after)
  run_fault_promised request form status = by_case ending status (left request form).1 ends.complains
    where
      by_case : (e : Ending) → status_of e ≡ 2 → RunLeft request e before after → ComplainsLine (complaint_of e) before after → HasRunFault request before after
      by_case Done is gone said = absurd (cc is)
      by_case Words is gone said = absurd gone
      by_case (Desk Load) is gone said = (Load, elim gone.1 [ inl file ↦ inl file | inr input ↦ inr input.1 ], said)
      by_case (Desk Store) is gone said = absurd gone
      by_case (Desk Print) is gone said = (Print, gone.0, said)
      by_case (Refused refusal) is gone said = absurd (cc is)
      by_case Memory is gone said = absurd (cc is)
      by_case Break is gone said = absurd gone
      by_case Limit is gone said = absurd (cc is)
      by_case BadStart is gone said = absurd (cc is)
      by_case (Differs line) is gone said = absurd gone

  pub run_refused_promised : ForRun words (λ request. status_of ending ≡ 3 → HasRunRefusal request before after)
  run_refused_promised request form status = by_case ending status (left request form).1 ends.complains
    where
      by_case : (e : Ending) → status_of e ≡ 3 → RunLeft request e before after → ComplainsLine (complaint_of e) before after → HasRunRefusal request before after
      by_case Done is gone said = absurd (cc is)
      by_case Words is gone said = absurd gone
      by_case (Desk call) is gone said = absurd (cc is)
      by_case (Refused refusal) is gone said = (gone.0, refusal, gone.1, said)
      by_case Memory is gone said = absurd (cc is)
      by_case Break is gone said = absurd gone
      by_case Limit is gone said = absurd (cc is)
      by_case BadStart is gone said = absurd (cc is)
      by_case (Differs line) is gone said = absurd gone

  pub run_exact_promised : ForRun words (λ request. RunsExactly request (status_of ending) before after)
  run_exact_promised request form files told cause_of causes = by_case ending (left request form).1
    where
      by_cause : (e : Ending) → RunCause request e files → (status_of e ≡ status_of cause_of) ⊎ ((status_of e ≡ 2) × MeetsFault request files before after) ⊎ (status_of e ≡ 4)
      by_cause e cause = inl (same_status request files e cause_of cause causes)

      by_case : (e : Ending) → RunLeft request e before after → (status_of e ≡ status_of cause_of) ⊎ ((status_of e ≡ 2) × MeetsFault request files before after) ⊎ (status_of e ≡ 4)
      by_case Done gone = by_cause Done ((gone.1 files told).0.can, (gone.1 files told).1)
      by_case Words gone = absurd gone
      by_case (Desk Load) gone = inr (inl (refl, elim gone.1 [ inl file ↦ inl file | inr input ↦ inr (inl (input.0 files told, input.1)) ]))
      by_case (Desk Store) gone = absurd gone
      by_case (Desk Print) gone = inr (inl (refl, inr (inr ((gone.1.1 files told).can, gone.0))))
      by_case (Refused refusal) gone = by_cause (Refused refusal) (gone.1 files told)
      by_case Memory gone = inr (inr refl)
      by_case Break gone = absurd gone
      by_case Limit gone = by_cause Limit ((gone.1 files told).0.can, (gone.1 files told).1)
      by_case BadStart gone = by_cause BadStart (gone.1 files told)
      by_case (Differs line) gone = absurd gone

  pub run_complete_promised : ForRun words (λ request. IsRunComplete request (status_of ending) before after)
  run_complete_promised request form no_fault files told accepted = by_case ending (left request form).1
    where
      by_case : (e : Ending) → RunLeft request e before after → (status_of e ≡ 0) ⊎ (status_of e ≡ 4) ⊎ (status_of e ≡ 6) ⊎ (status_of e ≡ 7)
      by_case Done gone = inl refl
      by_case Words gone = absurd gone
      by_case (Desk Load) gone = absurd (no_fault Load (elim gone.1 [ inl file ↦ inl file | inr input ↦ inr input.1 ]))
      by_case (Desk Store) gone = absurd gone
      by_case (Desk Print) gone = absurd (no_fault Print gone.0)
      by_case (Refused refusal) gone = absurd (accepted refusal (gone.1 files told))
      by_case Memory gone = inr (inl refl)
      by_case Break gone = absurd gone
      by_case Limit gone = inr (inr (inl refl))
      by_case BadStart gone = inr (inr (inr refl))
      by_case (Differs line) gone = absurd gone
