-- How the ending of `check` keeps each promise.
use Rattle.std.proofs.Common.{◌≡◌, ℕ, ◌⊎◌, inl, inr, List, Some, refl, arith}
use Rattle.sq_num.specs.declared.refusal.Refusal.{Refusal}
use Rattle.sq_command.specs.Commands.{CheckForm, form_of}
use Rattle.sq_desk.specs.Outside.{Outside, Files, content_of, KeepsFiles}
use Rattle.sq_lifted.proofs.Accepting.{not_refused}
use Rattle.sq_top.specs.declared.ending.Ending.{Ending}
use Rattle.sq_top.specs.declared.ending.Ending.TheVariants.{Done, Words, Desk, Refused, Memory, Break, Limit, BadStart, Differs}
use Rattle.sq_top.specs.declared.ending.DeskCall.TheVariants.{Load, Print}
use Rattle.sq_top.specs.Statuses.{status_of, complaint_of}
use Rattle.sq_top.specs.Endings.{ComplainsLine}
use Rattle.sq_top.specs.CertEndings.{MayCertify, IsCertRefused, FailsToCertify, LeavesCert}
use Rattle.sq_top.specs.CertPromises.{ForCheck, IsCertDone, HasNoProof, CertFault, HasCertFault, HasCertRefusal, CertCause, MeetsCertFault, CertifiesExactly, IsCertComplete}
use Rattle.sq_top.specs.Promises.{Ends}
use Rattle.sq_top.proofs.CertCases.{cert_by_case}

-- what is refused is not checked
refused_not : (input output cert : List ℕ) (files : Files) (refusal : Refusal) → IsCertRefused input output cert files refusal → MayCertify input output cert files → ⊥
refused_not input output cert files refusal (inl (inl given)) may = not_refused (content_of files input) may.given refusal given
refused_not input output cert files refusal (inl (inr packed)) may = not_refused (content_of files output) may.packed refusal packed.1
refused_not input output cert files refusal (inr long) may = omega (arith, long.2, may.short)

-- two causes give one status
same_status : (input output cert : List ℕ) (files : Files) (first second : Ending) → CertCause input output cert first files → CertCause input output cert second files → status_of first ≡ status_of second
same_status input output cert files Done Done one other = refl
same_status input output cert files Done (Differs line) one other = absurd (other.never one.0 one.1.proves)
same_status input output cert files Done (Refused refusal) one other = absurd (refused_not input output cert files refusal other one.1.may)
same_status input output cert files Done Words one other = absurd other
same_status input output cert files Done (Desk call) one other = absurd other
same_status input output cert files Done Memory one other = absurd other
same_status input output cert files Done Break one other = absurd other
same_status input output cert files Done Limit one other = absurd other
same_status input output cert files Done BadStart one other = absurd other
same_status input output cert files (Differs line) Done one other = absurd (one.never other.0 other.1.proves)
same_status input output cert files (Differs line) (Differs more) one other = refl
same_status input output cert files (Differs line) (Refused refusal) one other = absurd (refused_not input output cert files refusal other one.may)
same_status input output cert files (Differs line) Words one other = absurd other
same_status input output cert files (Differs line) (Desk call) one other = absurd other
same_status input output cert files (Differs line) Memory one other = absurd other
same_status input output cert files (Differs line) Break one other = absurd other
same_status input output cert files (Differs line) Limit one other = absurd other
same_status input output cert files (Differs line) BadStart one other = absurd other
same_status input output cert files (Refused refusal) Done one other = absurd (refused_not input output cert files refusal one other.1.may)
same_status input output cert files (Refused refusal) (Differs line) one other = absurd (refused_not input output cert files refusal one other.may)
same_status input output cert files (Refused refusal) (Refused more) one other = refl
same_status input output cert files (Refused refusal) Words one other = absurd other
same_status input output cert files (Refused refusal) (Desk call) one other = absurd other
same_status input output cert files (Refused refusal) Memory one other = absurd other
same_status input output cert files (Refused refusal) Break one other = absurd other
same_status input output cert files (Refused refusal) Limit one other = absurd other
same_status input output cert files (Refused refusal) BadStart one other = absurd other
same_status input output cert files Words second one other = absurd one
same_status input output cert files (Desk call) second one other = absurd one
same_status input output cert files Memory second one other = absurd one
same_status input output cert files Break second one other = absurd one
same_status input output cert files Limit second one other = absurd one
same_status input output cert files BadStart second one other = absurd one

-- where loading failed, the faults of a place rose
any_load : (input output cert : List ℕ) (before after : Outside) → FailsToCertify input output cert before after → CertFault Load input output cert before after
any_load input output cert before after (inl given) = inl given
any_load input output cert before after (inr (inl packed)) = inr (inl packed.1)
any_load input output cert before after (inr (inr text)) = inr (inr text.1)

-- and the files let it come to this place
met_load : (input output cert : List ℕ) (before after : Outside) (files : Files) → before.files ≡ Some files → FailsToCertify input output cert before after → MeetsCertFault input output cert files before after
met_load input output cert before after files told (inl given) = inl given
met_load input output cert before after files told (inr (inl packed)) = inr (inl (packed.0 files told, packed.1))
met_load input output cert before after files told (inr (inr text)) =
    let both = text.0 files told in
    inr (inr (inl (both.0, both.1, text.1)))

module _ (words : List (List ℕ)) (ending : Ending) (before after : Outside) (ends : Ends words ending before after) where
  left : (input output cert : List ℕ) → form_of words ≡ Some (CheckForm input output cert) → LeavesCert input output cert ending before after
  left input output cert form = rw form at ends.leaves

  pub cert_files_promised : ForCheck words (λ _ _ _. KeepsFiles before after)
  cert_files_promised input output cert form = (left input output cert form).0

  pub cert_done_promised : ForCheck words (λ input output cert. status_of ending ≡ 0 → IsCertDone input output cert before after)
  cert_done_promised input output cert form status = cert_by_case input output cert before after (λ e. status_of e ≡ 0 → IsCertDone input output cert before after) (record {
    done = λ gone is. gone;
    load = λ gone is. absurd (cc is);
    print = λ gone is. absurd (cc is);
    refused = λ refusal gone is. absurd (cc is);
    memory = λ gone is. absurd (cc is);
    differs = λ line gone is. absurd (cc is);
  }) ending (left input output cert form).1 status

  pub cert_differs_promised : ForCheck words (λ input output cert. status_of ending ≡ 8 → HasNoProof input output cert before after)
  cert_differs_promised input output cert form status = cert_by_case input output cert before after (λ e. status_of e ≡ 8 → ComplainsLine (complaint_of e) before after → HasNoProof input output cert before after) (record {
    done = λ gone is said. absurd (cc is);
    load = λ gone is said. absurd (cc is);
    print = λ gone is said. absurd (cc is);
    refused = λ refusal gone is said. absurd (cc is);
    memory = λ gone is said. absurd (cc is);
    differs = λ line gone is said. (gone.0, line, gone.1, said);
  }) ending (left input output cert form).1 status ends.complains

  pub cert_fault_promised : ForCheck words (λ input output cert. status_of ending ≡ 2 → HasCertFault input output cert before after)
  cert_fault_promised input output cert form status = cert_by_case input output cert before after (λ e. status_of e ≡ 2 → ComplainsLine (complaint_of e) before after → HasCertFault input output cert before after) (record {
    done = λ gone is said. absurd (cc is);
    load = λ gone is said. (Load, any_load input output cert before after gone.1, said);
    print = λ gone is said. (Print, gone.0, said);
    refused = λ refusal gone is said. absurd (cc is);
    memory = λ gone is said. absurd (cc is);
    differs = λ line gone is said. absurd (cc is);
  }) ending (left input output cert form).1 status ends.complains

  pub cert_refused_promised : ForCheck words (λ input output cert. status_of ending ≡ 3 → HasCertRefusal input output cert before after)
  cert_refused_promised input output cert form status = cert_by_case input output cert before after (λ e. status_of e ≡ 3 → ComplainsLine (complaint_of e) before after → HasCertRefusal input output cert before after) (record {
    done = λ gone is said. absurd (cc is);
    load = λ gone is said. absurd (cc is);
    print = λ gone is said. absurd (cc is);
    refused = λ refusal gone is said. (gone.0, refusal, gone.1, said);
    memory = λ gone is said. absurd (cc is);
    differs = λ line gone is said. absurd (cc is);
  }) ending (left input output cert form).1 status ends.complains

  pub cert_complete_promised : ForCheck words (λ input output cert. IsCertComplete input output cert (status_of ending) before after)
  cert_complete_promised input output cert form no_fault files told accepted = cert_by_case input output cert before after (λ e. (status_of e ≡ 0) ⊎ (status_of e ≡ 4) ⊎ (status_of e ≡ 8)) (record {
    done = λ gone. inl refl;
    load = λ gone. absurd (no_fault Load (any_load input output cert before after gone.1));
    print = λ gone. absurd (no_fault Print gone.0);
    refused = λ refusal gone. absurd (accepted refusal (gone.1 files told));
    memory = λ gone. inr (inl refl);
    differs = λ line gone. inr (inr refl);
  }) ending (left input output cert form).1

  pub cert_exact_promised : ForCheck words (λ input output cert. CertifiesExactly input output cert (status_of ending) before after)
  cert_exact_promised input output cert form files told cause_of causes = cert_by_case input output cert before after (λ e. (status_of e ≡ status_of cause_of) ⊎ ((status_of e ≡ 2) × MeetsCertFault input output cert files before after) ⊎ (status_of e ≡ 4)) (record {
    done = λ gone. by_cause Done (gone.0, (gone.1 files told).0);
    load = λ gone. inr (inl (refl, met_load input output cert before after files told gone.1));
    print = λ gone. inr (inl (refl, inr (inr (inr (gone.1, (gone.2 files told).0, gone.0)))));
    refused = λ refusal gone. by_cause (Refused refusal) (gone.1 files told);
    memory = λ gone. inr (inr refl);
    differs = λ line gone. by_cause (Differs line) (gone.1 files told);
  }) ending (left input output cert form).1
    where
      by_cause : (e : Ending) → CertCause input output cert e files → (status_of e ≡ status_of cause_of) ⊎ ((status_of e ≡ 2) × MeetsCertFault input output cert files before after) ⊎ (status_of e ≡ 4)
      by_cause e cause = inl (same_status input output cert files e cause_of cause causes)
