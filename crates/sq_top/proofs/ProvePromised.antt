-- How the ending of `prove` keeps each promise.
use Rattle.std.proofs.Common.{◌≡◌, ℕ, ◌⊎◌, inl, inr, List, Some, refl}
use Rattle.sq_command.specs.Commands.{ProveForm, form_of}
use Rattle.sq_desk.specs.Outside.{Outside, content_of, Loading, Rose}
use Rattle.sq_top.specs.declared.ending.Ending.{Ending}
use Rattle.sq_top.specs.declared.ending.DeskCall.TheVariants.{Load, Store, Print}
use Rattle.sq_top.specs.Packing.{packed_text}
use Rattle.sq_top.specs.Statuses.{status_of, complaint_of}
use Rattle.sq_top.specs.Endings.{ComplainsLine}
use Rattle.sq_top.specs.ProveEndings.{FailsToStore, LeavesProve}
use Rattle.sq_top.specs.ProvePromises.{ForProve, IsProveDone, ProveFault, HasProveFault, IsProveComplete}
use Rattle.sq_top.specs.Promises.{Ends, HasRefusal, RefusesExactly}
use Rattle.sq_lifted.proofs.Accepting.{not_refused}
use Rattle.sq_top.proofs.ProveCases.{prove_by_case}
use Rattle.sq_top.proofs.ProveHeld.{both_in_place}
use Rattle.sq_top.proofs.Promised.{headline}

-- the faults of a place where it stores rose
pub any_store : (input output cert : List ℕ) (bytes : List ℕ) (before after : Outside) → FailsToStore output bytes cert before after → ProveFault Store input output cert before after
any_store input output cert bytes before after (inl one) = inl one.0
any_store input output cert bytes before after (inr two) = inr two.0

module _ (words : List (List ℕ)) (ending : Ending) (before after : Outside) (ends : Ends words ending before after) where
  left : (input output cert : List ℕ) → form_of words ≡ Some (ProveForm input output cert) → LeavesProve input output cert ending before after
  left input output cert form = rw form at ends.leaves

  pub prove_done_promised : ForProve words (λ input output cert. status_of ending ≡ 0 → IsProveDone input output cert before after)
  prove_done_promised input output cert form status = prove_by_case input output cert before after (λ e. status_of e ≡ 0 → IsProveDone input output cert before after) (record {
    done = λ gone is files told.
        let p = gone.2 files told in
        (gone.0.bytes, packed_text gone.0, gone.1, p.count, headline (content_of files input) gone.0 p.packs, p.proves, both_in_place output gone.0.bytes cert (Some gone.1) before after files told gone.3, gone.4);
    load = λ gone is. absurd (cc is);
    store = λ gone is. absurd (cc is);
    print = λ gone is. absurd (cc is);
    refused = λ refusal gone is. absurd (cc is);
    memory = λ gone is. absurd (cc is);
  }) ending (left input output cert form) status

  pub prove_fault_promised : ForProve words (λ input output cert. status_of ending ≡ 2 → HasProveFault input output cert before after)
  prove_fault_promised input output cert form status = prove_by_case input output cert before after (λ e. status_of e ≡ 2 → ComplainsLine (complaint_of e) before after → HasProveFault input output cert before after) (record {
    done = λ gone is said. absurd (cc is);
    load = λ gone is said. (Load, gone.0, said);
    store = λ gone is said. (Store, any_store input output cert gone.1.bytes before after gone.4, said);
    print = λ gone is said. (Print, gone.0, said);
    refused = λ refusal gone is said. absurd (cc is);
    memory = λ gone is said. absurd (cc is);
  }) ending (left input output cert form) status ends.complains

  pub prove_refused_promised : ForProve words (λ input _ _. status_of ending ≡ 3 → HasRefusal input before after)
  prove_refused_promised input output cert form status = prove_by_case input output cert before after (λ e. status_of e ≡ 3 → ComplainsLine (complaint_of e) before after → HasRefusal input before after) (record {
    done = λ gone is said. absurd (cc is);
    load = λ gone is said. absurd (cc is);
    store = λ gone is said. absurd (cc is);
    print = λ gone is said. absurd (cc is);
    refused = λ refusal gone is said. (gone.1, gone.2, refusal, gone.0, said);
    memory = λ gone is said. absurd (cc is);
  }) ending (left input output cert form) status ends.complains

  pub prove_complete_promised : ForProve words (λ input output cert. IsProveComplete input output cert (status_of ending) before after)
  prove_complete_promised input output cert form no_fault files told accepted = prove_by_case input output cert before after (λ e. (status_of e ≡ 0) ⊎ (status_of e ≡ 4)) (record {
    done = λ gone. inl refl;
    load = λ gone. absurd (no_fault Load gone.0);
    store = λ gone. absurd (no_fault Store (any_store input output cert gone.1.bytes before after gone.4));
    print = λ gone. absurd (no_fault Print gone.0);
    refused = λ refusal gone. absurd (accepted refusal (gone.0 files told));
    memory = λ gone. inr refl;
  }) ending (left input output cert form)

  -- what is refused is not packed
  pub prove_exact_promised : ForProve words (λ input _ _. RefusesExactly input (status_of ending) before after)
  prove_exact_promised input output cert form files told refusal refused = prove_by_case input output cert before after (λ e. (status_of e ≡ 3) ⊎ ((status_of e ≡ 2) × Rose (Loading input) before after) ⊎ (status_of e ≡ 4)) (record {
    done = λ gone. absurd (not_refused (content_of files input) (gone.2 files told).packs.good.made.accepted refusal refused);
    load = λ gone. inr (inl (refl, gone.0));
    store = λ gone. absurd (not_refused (content_of files input) (gone.3 files told).packs.good.made.accepted refusal refused);
    print = λ gone. absurd (not_refused (content_of files input) (gone.3 files told).packs.good.made.accepted refusal refused);
    refused = λ other gone. inl refl;
    memory = λ gone. inr (inr refl);
  }) ending (left input output cert form)
