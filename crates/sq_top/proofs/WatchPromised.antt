-- How the ending of a watch keeps each promise.
use Rattle.std.proofs.Common.{◌≡◌, ℕ, ◌⊎◌, inl, inr, List, Some, refl, sym, subst, ◌∙◌, arith}
use Rattle.sq_num.specs.declared.refusal.Refusal.{Refusal}
use Rattle.law_runs.specs.Runs.{Trace, HasHalted, IsHalted}
use Rattle.sq_system.specs.declared.event.Event.{Event}
use Rattle.sq_system.specs.declared.event.Halt.{Halt}
use Rattle.law_program.specs.FilePrograms.{IsAcceptedFile}
use Rattle.sq_lift.proofs.FilePrograms.{one_program}
use Rattle.sq_lifted.proofs.Accepting.{not_refused}
use Rattle.sq_command.specs.Commands.{RunRequest, WatchForm, form_of}
use Rattle.sq_desk.specs.Outside.{Outside, Files, KeepsFiles}
use Rattle.sq_top.specs.declared.ending.Ending.{Ending}
use Rattle.sq_top.specs.declared.ending.Ending.TheVariants.{Done, Words, Desk, Refused, Memory, Break, Limit, BadStart, Differs}
use Rattle.sq_top.specs.declared.ending.DeskCall.TheVariants.{Load, Store, Print}
use Rattle.sq_top.specs.Statuses.{status_of, complaint_of}
use Rattle.sq_top.specs.Endings.{ComplainsLine}
use Rattle.sq_top.specs.Running.{file_of, IsAtLimit}
use Rattle.sq_top.specs.RunPromises.{HasRunFault}
use Rattle.sq_top.specs.Watching.{watched_in, HasBroken, IsWatchRefused, IsWatchAccepted, HasBadWatch, CanWatch}
use Rattle.sq_top.specs.WatchEndings.{PrintsWatch, LeavesWatch, WatchLeft}
use Rattle.sq_top.specs.WatchPromises.{ForWatch, HasWatchRefusal, IsBadWatch, WatchCause, MeetsWatchFault, WatchesExactly, IsWatchComplete}
use Rattle.sq_top.specs.Promises.{Ends}
use Rattle.sq_top.proofs.RunPromised.{not_both}

halted_not_broken : (trace : Trace Event Halt) → HasHalted trace → HasBroken trace → ⊥
halted_not_broken trace halted broken = subst IsHalted broken halted

limit_not_broken : (trace : Trace Event Halt) → IsAtLimit trace → HasBroken trace → ⊥
limit_not_broken trace limit broken = absurd (cc (limit, broken))

-- a file has one program
same_program : (bytes : List ℕ) (a b : IsAcceptedFile bytes) → a.program ≡ b.program
same_program bytes a b =
    one_program bytes a.program.code_words a.program a.accepted.read.program.code_words a.accepted.read.program
    ∙ sym (one_program bytes a.program.code_words b.program a.accepted.read.program.code_words b.accepted.read.program)

-- what cannot both hold of a trace cannot both be seen
apart : {P Q : Trace Event Halt → Type 0} → ((trace : Trace Event Halt) → P trace → Q trace → ⊥) → (request : RunRequest) (files : Files) (a b : CanWatch request files) →
    P (watched_in request files a.accepted.file.program) → Q (watched_in request files b.accepted.file.program) → ⊥
apart {Q = Q} never request files a b p q =
    never (watched_in request files a.accepted.file.program) p (subst (λ x. Q (watched_in request files x)) (same_program (file_of request files) b.accepted.file a.accepted.file) q)

bad_or_valid : (request : RunRequest) (files : Files) → HasBadWatch request files → CanWatch request files → ⊥
bad_or_valid request files bad can = can.valid bad.bad

-- what is refused is not accepted
not_accepted : (request : RunRequest) (files : Files) (refusal : Refusal) → IsWatchRefused request files refusal → IsWatchAccepted request files → ⊥
not_accepted request files refusal (inl file) accepted = not_refused (file_of request files) accepted.file refusal file
not_accepted request files refusal (inr input) accepted = omega (arith, input.1, accepted.input)

-- two causes give one status
same_status : (request : RunRequest) (files : Files) (first second : Ending) → WatchCause request first files → WatchCause request second files → status_of first ≡ status_of second
same_status request files Done Done one other = refl
same_status request files Done Break one other = absurd (apart halted_not_broken request files one.0 other.0 one.1 other.1)
same_status request files Done Limit one other = absurd (apart not_both request files one.0 other.0 one.1 other.1)
same_status request files Done BadStart one other = absurd (bad_or_valid request files other one.0)
same_status request files Done (Differs line) one other = absurd other
same_status request files Done (Refused refusal) one other = absurd (not_accepted request files refusal other one.0.accepted)
same_status request files Done Words one other = absurd other
same_status request files Done (Desk call) one other = absurd other
same_status request files Done Memory one other = absurd other
same_status request files Break Done one other = absurd (apart halted_not_broken request files other.0 one.0 other.1 one.1)
same_status request files Break Break one other = refl
same_status request files Break Limit one other = absurd (apart limit_not_broken request files other.0 one.0 other.1 one.1)
same_status request files Break BadStart one other = absurd (bad_or_valid request files other one.0)
same_status request files Break (Differs line) one other = absurd other
same_status request files Break (Refused refusal) one other = absurd (not_accepted request files refusal other one.0.accepted)
same_status request files Break Words one other = absurd other
same_status request files Break (Desk call) one other = absurd other
same_status request files Break Memory one other = absurd other
same_status request files Limit Done one other = absurd (apart not_both request files other.0 one.0 other.1 one.1)
same_status request files Limit Break one other = absurd (apart limit_not_broken request files one.0 other.0 one.1 other.1)
same_status request files Limit Limit one other = refl
same_status request files Limit BadStart one other = absurd (bad_or_valid request files other one.0)
same_status request files Limit (Differs line) one other = absurd other
same_status request files Limit (Refused refusal) one other = absurd (not_accepted request files refusal other one.0.accepted)
same_status request files Limit Words one other = absurd other
same_status request files Limit (Desk call) one other = absurd other
same_status request files Limit Memory one other = absurd other
same_status request files BadStart Done one other = absurd (bad_or_valid request files one other.0)
same_status request files BadStart Break one other = absurd (bad_or_valid request files one other.0)
same_status request files BadStart Limit one other = absurd (bad_or_valid request files one other.0)
same_status request files BadStart BadStart one other = refl
same_status request files BadStart (Differs line) one other = absurd other
same_status request files BadStart (Refused refusal) one other = absurd (not_accepted request files refusal other one.accepted)
same_status request files BadStart Words one other = absurd other
same_status request files BadStart (Desk call) one other = absurd other
same_status request files BadStart Memory one other = absurd other
same_status request files (Refused refusal) Done one other = absurd (not_accepted request files refusal one other.0.accepted)
same_status request files (Refused refusal) Break one other = absurd (not_accepted request files refusal one other.0.accepted)
same_status request files (Refused refusal) Limit one other = absurd (not_accepted request files refusal one other.0.accepted)
same_status request files (Refused refusal) BadStart one other = absurd (not_accepted request files refusal one other.accepted)
same_status request files (Refused refusal) (Differs line) one other = absurd other
same_status request files (Refused refusal) (Refused more) one other = refl
same_status request files (Refused refusal) Words one other = absurd other
same_status request files (Refused refusal) (Desk call) one other = absurd other
same_status request files (Refused refusal) Memory one other = absurd other
same_status request files Words second one other = absurd one
same_status request files (Desk call) second one other = absurd one
same_status request files Memory second one other = absurd one
same_status request files (Differs line) second one other = absurd one

module _ (words : List (List ℕ)) (ending : Ending) (before after : Outside) (ends : Ends words ending before after) where
  left : (request : RunRequest) → form_of words ≡ Some (WatchForm request) → LeavesWatch request ending before after
  left request form = rw form at ends.leaves

  pub watch_files_promised : ForWatch words (λ _. KeepsFiles before after)
  watch_files_promised request form = (left request form).0

  pub watch_done_promised : ForWatch words (λ request. status_of ending ≡ 0 → PrintsWatch request HasHalted before after)
  watch_done_promised request form status = by_case ending status (left request form).1
    where
      by_case : (e : Ending) → status_of e ≡ 0 → WatchLeft request e before after → PrintsWatch request HasHalted before after
      by_case Done is gone = gone
      by_case Words is gone = absurd gone
      by_case (Desk call) is gone = absurd (cc is)
      by_case (Refused refusal) is gone = absurd (cc is)
      by_case Memory is gone = absurd (cc is)
      by_case Break is gone = absurd (cc is)
      by_case Limit is gone = absurd (cc is)
      by_case BadStart is gone = absurd (cc is)
      by_case (Differs line) is gone = absurd gone

  pub watch_limit_promised : ForWatch words (λ request. status_of ending ≡ 6 → PrintsWatch request IsAtLimit before after)
  watch_limit_promised request form status = by_case ending status (left request form).1
    where
      by_case : (e : Ending) → status_of e ≡ 6 → WatchLeft request e before after → PrintsWatch request IsAtLimit before after
      by_case Done is gone = absurd (cc is)
      by_case Words is gone = absurd gone
      by_case (Desk call) is gone = absurd (cc is)
      by_case (Refused refusal) is gone = absurd (cc is)
      by_case Memory is gone = absurd (cc is)
      by_case Break is gone = absurd (cc is)
      by_case Limit is gone = gone
      by_case BadStart is gone = absurd (cc is)
      by_case (Differs line) is gone = absurd gone

  pub watch_break_promised : ForWatch words (λ request. status_of ending ≡ 5 → PrintsWatch request HasBroken before after)
  watch_break_promised request form status = by_case ending status (left request form).1
    where
      by_case : (e : Ending) → status_of e ≡ 5 → WatchLeft request e before after → PrintsWatch request HasBroken before after
      by_case Done is gone = absurd (cc is)
      by_case Words is gone = absurd gone
      by_case (Desk call) is gone = absurd (cc is)
      by_case (Refused refusal) is gone = absurd (cc is)
      by_case Memory is gone = absurd (cc is)
      by_case Break is gone = gone
      by_case Limit is gone = absurd (cc is)
      by_case BadStart is gone = absurd (cc is)
      by_case (Differs line) is gone = absurd gone

  pub watch_bad_promised : ForWatch words (λ request. status_of ending ≡ 7 → IsBadWatch request before after)
  watch_bad_promised request form status = by_case ending status (left request form).1 ends.complains
    where
      by_case : (e : Ending) → status_of e ≡ 7 → WatchLeft request e before after → ComplainsLine (complaint_of e) before after → IsBadWatch request before after
      by_case Done is gone said = absurd (cc is)
      by_case Words is gone said = absurd gone
      by_case (Desk call) is gone said = absurd (cc is)
      by_case (Refused refusal) is gone said = absurd (cc is)
      by_case Memory is gone said = absurd (cc is)
      by_case Break is gone said = absurd (cc is)
      by_case Limit is gone said = absurd (cc is)
      by_case BadStart is gone said = (gone.0, gone.1, said)
      by_case (Differs line) is gone said = absurd gone

  pub watch_fault_promised : ForWatch words (λ request. status_of ending ≡ 2 → HasRunFault request before after)
  watch_fault_promised request form status = by_case ending status (left request form).1 ends.complains
    where
      by_case : (e : Ending) → status_of e ≡ 2 → WatchLeft request e before after → ComplainsLine (complaint_of e) before after → HasRunFault request before after
      by_case Done is gone said = absurd (cc is)
      by_case Words is gone said = absurd gone
      by_case (Desk Load) is gone said = (Load, elim gone.1 [ inl file ↦ inl file | inr input ↦ inr input.1 ], said)
      by_case (Desk Store) is gone said = absurd gone
      by_case (Desk Print) is gone said = (Print, gone.0, said)
      by_case (Refused refusal) is gone said = absurd (cc is)
      by_case Memory is gone said = absurd (cc is)
      by_case Break is gone said = absurd (cc is)
      by_case Limit is gone said = absurd (cc is)
      by_case BadStart is gone said = absurd (cc is)
      by_case (Differs line) is gone said = absurd gone

  pub watch_refused_promised : ForWatch words (λ request. status_of ending ≡ 3 → HasWatchRefusal request before after)
  watch_refused_promised request form status = by_case ending status (left request form).1 ends.complains
    where
      by_case : (e : Ending) → status_of e ≡ 3 → WatchLeft request e before after → ComplainsLine (complaint_of e) before after → HasWatchRefusal request before after
      by_case Done is gone said = absurd (cc is)
      by_case Words is gone said = absurd gone
      by_case (Desk call) is gone said = absurd (cc is)
      by_case (Refused refusal) is gone said = (gone.0, refusal, gone.1, said)
      by_case Memory is gone said = absurd (cc is)
      by_case Break is gone said = absurd (cc is)
      by_case Limit is gone said = absurd (cc is)
      by_case BadStart is gone said = absurd (cc is)
      by_case (Differs line) is gone said = absurd gone

  pub watch_exact_promised : ForWatch words (λ request. WatchesExactly request (status_of ending) before after)
  watch_exact_promised request form files told cause_of causes = by_case ending (left request form).1
    where
      by_cause : (e : Ending) → WatchCause request e files → (status_of e ≡ status_of cause_of) ⊎ ((status_of e ≡ 2) × MeetsWatchFault request files before after) ⊎ (status_of e ≡ 4)
      by_cause e cause = inl (same_status request files e cause_of cause causes)

      by_case : (e : Ending) → WatchLeft request e before after → (status_of e ≡ status_of cause_of) ⊎ ((status_of e ≡ 2) × MeetsWatchFault request files before after) ⊎ (status_of e ≡ 4)
      by_case Done gone = by_cause Done ((gone.1 files told).can, (gone.1 files told).seen)
      by_case Break gone = by_cause Break ((gone.1 files told).can, (gone.1 files told).seen)
      by_case Limit gone = by_cause Limit ((gone.1 files told).can, (gone.1 files told).seen)
      by_case Words gone = absurd gone
      by_case (Desk Load) gone = inr (inl (refl, elim gone.1 [ inl file ↦ inl file | inr input ↦ inr (inl (input.0 files told, input.1)) ]))
      by_case (Desk Store) gone = absurd gone
      by_case (Desk Print) gone = inr (inl (refl, inr (inr ((gone.1.1 files told).can, gone.0))))
      by_case (Refused refusal) gone = by_cause (Refused refusal) (gone.1 files told)
      by_case Memory gone = inr (inr refl)
      by_case BadStart gone = by_cause BadStart (gone.1 files told)
      by_case (Differs line) gone = absurd gone

  pub watch_complete_promised : ForWatch words (λ request. IsWatchComplete request (status_of ending) before after)
  watch_complete_promised request form no_fault files told accepted = by_case ending (left request form).1
    where
      by_case : (e : Ending) → WatchLeft request e before after → (status_of e ≡ 0) ⊎ (status_of e ≡ 4) ⊎ (status_of e ≡ 5) ⊎ (status_of e ≡ 6) ⊎ (status_of e ≡ 7)
      by_case Done gone = inl refl
      by_case Words gone = absurd gone
      by_case (Desk Load) gone = absurd (no_fault Load (elim gone.1 [ inl file ↦ inl file | inr input ↦ inr input.1 ]))
      by_case (Desk Store) gone = absurd gone
      by_case (Desk Print) gone = absurd (no_fault Print gone.0)
      by_case (Refused refusal) gone = absurd (accepted refusal (gone.1 files told))
      by_case Memory gone = inr (inl refl)
      by_case Break gone = inr (inr (inl refl))
      by_case Limit gone = inr (inr (inr (inl refl)))
      by_case BadStart gone = inr (inr (inr (inr refl)))
      by_case (Differs line) gone = absurd gone
