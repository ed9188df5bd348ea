-- How the ending of `names` keeps each promise.
use Rattle.std.proofs.Common.{◌≡◌, ℕ, ◌⊎◌, inl, inr, List, Some, refl, arith}
use Rattle.sq_num.specs.declared.refusal.Refusal.{Refusal}
use Rattle.sq_command.specs.Commands.{NamesForm, form_of}
use Rattle.sq_desk.specs.Outside.{Outside, Files, content_of, KeepsFiles}
use Rattle.sq_lifted.proofs.Accepting.{not_refused}
use Rattle.sq_top.specs.declared.ending.Ending.{Ending}
use Rattle.sq_top.specs.declared.ending.Ending.TheVariants.{Done, Words, Desk, Refused, Memory, Break, Limit, BadStart, Differs}
use Rattle.sq_top.specs.declared.ending.DeskCall.TheVariants.{Load, Print}
use Rattle.sq_top.specs.Statuses.{status_of, complaint_of}
use Rattle.sq_top.specs.Endings.{ComplainsLine}
use Rattle.sq_top.specs.NamesEndings.{MayName, IsNamesRefused, FailsToName, LeavesNames}
use Rattle.sq_top.specs.NamesPromises.{ForNames, IsNamesDone, HasStepFault, NamesFault, HasNamesFault, HasNamesRefusal, NamesCause, MeetsNamesFault, NamesExactly, IsNamesComplete}
use Rattle.sq_top.specs.Promises.{Ends}
use Rattle.sq_top.proofs.NamesCases.{names_by_case}

-- what is refused has no lines
refused_not : (input cert : List ℕ) (files : Files) (refusal : Refusal) → IsNamesRefused input cert files refusal → MayName input cert files → ⊥
refused_not input cert files refusal (inl given) may = not_refused (content_of files input) may.given refusal given
refused_not input cert files refusal (inr long) may = omega (arith, long.1, may.short)

-- two causes give one status
same_status : (input cert : List ℕ) (files : Files) (first second : Ending) → NamesCause input cert first files → NamesCause input cert second files → status_of first ≡ status_of second
same_status input cert files Done Done one other = refl
same_status input cert files Done (Differs line) one other = absurd (other.never one.1 one.2)
same_status input cert files Done (Refused refusal) one other = absurd (refused_not input cert files refusal other one.0)
same_status input cert files Done Words one other = absurd other
same_status input cert files Done (Desk call) one other = absurd other
same_status input cert files Done Memory one other = absurd other
same_status input cert files Done Break one other = absurd other
same_status input cert files Done Limit one other = absurd other
same_status input cert files Done BadStart one other = absurd other
same_status input cert files (Differs line) Done one other = absurd (one.never other.1 other.2)
same_status input cert files (Differs line) (Differs more) one other = refl
same_status input cert files (Differs line) (Refused refusal) one other = absurd (refused_not input cert files refusal other one.may)
same_status input cert files (Differs line) Words one other = absurd other
same_status input cert files (Differs line) (Desk call) one other = absurd other
same_status input cert files (Differs line) Memory one other = absurd other
same_status input cert files (Differs line) Break one other = absurd other
same_status input cert files (Differs line) Limit one other = absurd other
same_status input cert files (Differs line) BadStart one other = absurd other
same_status input cert files (Refused refusal) Done one other = absurd (refused_not input cert files refusal one other.0)
same_status input cert files (Refused refusal) (Differs line) one other = absurd (refused_not input cert files refusal one other.may)
same_status input cert files (Refused refusal) (Refused more) one other = refl
same_status input cert files (Refused refusal) Words one other = absurd other
same_status input cert files (Refused refusal) (Desk call) one other = absurd other
same_status input cert files (Refused refusal) Memory one other = absurd other
same_status input cert files (Refused refusal) Break one other = absurd other
same_status input cert files (Refused refusal) Limit one other = absurd other
same_status input cert files (Refused refusal) BadStart one other = absurd other
same_status input cert files Words second one other = absurd one
same_status input cert files (Desk call) second one other = absurd one
same_status input cert files Memory second one other = absurd one
same_status input cert files Break second one other = absurd one
same_status input cert files Limit second one other = absurd one
same_status input cert files BadStart second one other = absurd one

-- where loading failed, the faults of a place rose
any_load : (input cert : List ℕ) (before after : Outside) → FailsToName input cert before after → NamesFault Load input cert before after
any_load input cert before after (inl given) = inl given
any_load input cert before after (inr text) = inr text.1

-- and the files let it come to this place
met_load : (input cert : List ℕ) (before after : Outside) (files : Files) → before.files ≡ Some files → FailsToName input cert before after → MeetsNamesFault input cert files before after
met_load input cert before after files told (inl given) = inl given
met_load input cert before after files told (inr text) = inr (inl (text.0 files told, text.1))

module _ (words : List (List ℕ)) (ending : Ending) (before after : Outside) (ends : Ends words ending before after) where
  left : (input cert : List ℕ) → form_of words ≡ Some (NamesForm input cert) → LeavesNames input cert ending before after
  left input cert form = rw form at ends.leaves

  pub names_files_promised : ForNames words (λ _ _. KeepsFiles before after)
  names_files_promised input cert form = (left input cert form).0

  pub names_done_promised : ForNames words (λ input cert. status_of ending ≡ 0 → IsNamesDone input cert before after)
  names_done_promised input cert form status = names_by_case input cert before after (λ e. status_of e ≡ 0 → IsNamesDone input cert before after) (record {
    done = λ gone is. gone;
    load = λ gone is. absurd (cc is);
    print = λ gone is. absurd (cc is);
    refused = λ refusal gone is. absurd (cc is);
    memory = λ gone is. absurd (cc is);
    differs = λ line gone is. absurd (cc is);
  }) ending (left input cert form).1 status

  pub names_differs_promised : ForNames words (λ input cert. status_of ending ≡ 8 → HasStepFault input cert before after)
  names_differs_promised input cert form status = names_by_case input cert before after (λ e. status_of e ≡ 8 → ComplainsLine (complaint_of e) before after → HasStepFault input cert before after) (record {
    done = λ gone is said. absurd (cc is);
    load = λ gone is said. absurd (cc is);
    print = λ gone is said. absurd (cc is);
    refused = λ refusal gone is said. absurd (cc is);
    memory = λ gone is said. absurd (cc is);
    differs = λ line gone is said. (gone.0, line, gone.1, said);
  }) ending (left input cert form).1 status ends.complains

  pub names_fault_promised : ForNames words (λ input cert. status_of ending ≡ 2 → HasNamesFault input cert before after)
  names_fault_promised input cert form status = names_by_case input cert before after (λ e. status_of e ≡ 2 → ComplainsLine (complaint_of e) before after → HasNamesFault input cert before after) (record {
    done = λ gone is said. absurd (cc is);
    load = λ gone is said. (Load, any_load input cert before after gone.1, said);
    print = λ gone is said. (Print, gone.0, said);
    refused = λ refusal gone is said. absurd (cc is);
    memory = λ gone is said. absurd (cc is);
    differs = λ line gone is said. absurd (cc is);
  }) ending (left input cert form).1 status ends.complains

  pub names_refused_promised : ForNames words (λ input cert. status_of ending ≡ 3 → HasNamesRefusal input cert before after)
  names_refused_promised input cert form status = names_by_case input cert before after (λ e. status_of e ≡ 3 → ComplainsLine (complaint_of e) before after → HasNamesRefusal input cert before after) (record {
    done = λ gone is said. absurd (cc is);
    load = λ gone is said. absurd (cc is);
    print = λ gone is said. absurd (cc is);
    refused = λ refusal gone is said. (gone.0, refusal, gone.1, said);
    memory = λ gone is said. absurd (cc is);
    differs = λ line gone is said. absurd (cc is);
  }) ending (left input cert form).1 status ends.complains

  pub names_complete_promised : ForNames words (λ input cert. IsNamesComplete input cert (status_of ending) before after)
  names_complete_promised input cert form no_fault files told accepted = names_by_case input cert before after (λ e. (status_of e ≡ 0) ⊎ (status_of e ≡ 4) ⊎ (status_of e ≡ 8)) (record {
    done = λ gone. inl refl;
    load = λ gone. absurd (no_fault Load (any_load input cert before after gone.1));
    print = λ gone. absurd (no_fault Print gone.0);
    refused = λ refusal gone. absurd (accepted refusal (gone.1 files told));
    memory = λ gone. inr (inl refl);
    differs = λ line gone. inr (inr refl);
  }) ending (left input cert form).1

  pub names_exact_promised : ForNames words (λ input cert. NamesExactly input cert (status_of ending) before after)
  names_exact_promised input cert form files told cause_of causes = names_by_case input cert before after (λ e. (status_of e ≡ status_of cause_of) ⊎ ((status_of e ≡ 2) × MeetsNamesFault input cert files before after) ⊎ (status_of e ≡ 4)) (record {
    done = λ gone. let named = gone.1 files told in by_cause Done (named.may, named.are.tracks, named.are.are);
    load = λ gone. inr (inl (refl, met_load input cert before after files told gone.1));
    print = λ gone. inr (inl (refl, inr (inr (gone.1, gone.2 files told, gone.0))));
    refused = λ refusal gone. by_cause (Refused refusal) (gone.1 files told);
    memory = λ gone. inr (inr refl);
    differs = λ line gone. by_cause (Differs line) (gone.1 files told);
  }) ending (left input cert form).1
    where
      by_cause : (e : Ending) → NamesCause input cert e files → (status_of e ≡ status_of cause_of) ⊎ ((status_of e ≡ 2) × MeetsNamesFault input cert files before after) ⊎ (status_of e ≡ 4)
      by_cause e cause = inl (same_status input cert files e cause_of cause causes)
