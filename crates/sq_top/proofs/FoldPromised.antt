-- How the ending of `fold` keeps each promise.
use Rattle.std.proofs.Common.{◌≡◌, ℕ, ◌⊎◌, inl, inr, List, Some, refl}
use Rattle.sq_command.specs.Commands.{FoldForm, form_of}
use Rattle.sq_desk.specs.Outside.{Outside, content_of, Loading, Rose}
use Rattle.sq_top.specs.declared.ending.Ending.{Ending}
use Rattle.sq_top.specs.declared.ending.DeskCall.TheVariants.{Load, Store, Print}
use Rattle.sq_top.specs.declared.folding.FoldedFile.{FoldedFile}
use Rattle.sq_top.specs.Folding.{Folds, FoldHeadline, folded_text}
use Rattle.sq_top.specs.Statuses.{status_of, complaint_of}
use Rattle.sq_top.specs.Endings.{ComplainsLine}
use Rattle.sq_top.specs.FoldEndings.{FoldsFile, LeavesFold}
use Rattle.sq_top.specs.FoldPromises.{ForFold, IsFoldDone}
use Rattle.sq_top.specs.Promises.{Ends, HasFault, HasRefusal, RefusesExactly, IsComplete}
use Rattle.sq_lifted.proofs.Accepting.{not_refused}
use Rattle.sq_top.proofs.FoldCases.{fold_by_case}
use Rattle.sq_top.proofs.FoldHeld.{fold_in_place}
use Rattle.sq_top.proofs.Promised.{same_sizes}

-- the line of a folding is that of its headline
fold_headline : (given : List ℕ) (folded : FoldedFile) → Folds given folded → FoldHeadline given folded.bytes.items (folded_text folded)
unfolding folded_text
fold_headline given folded folds = record {
  good = folds.good;
  printed_line = same_sizes folds.text_before folds.text_after folds.loaded_before folds.loaded_after;
}

module _ (words : List (List ℕ)) (ending : Ending) (before after : Outside) (ends : Ends words ending before after) where
  left : (input output : List ℕ) → form_of words ≡ Some (FoldForm input output) → LeavesFold input output ending before after
  left input output form = rw form at ends.leaves

  pub fold_done_promised : ForFold words (λ input output. status_of ending ≡ 0 → IsFoldDone input output before after)
  fold_done_promised input output form status = fold_by_case input output before after (λ e. status_of e ≡ 0 → IsFoldDone input output before after) (record {
    done = λ gone is files told.
        (gone.0.bytes.items, folded_text gone.0, fold_headline (content_of files input) gone.0 (gone.1.folds files told), fold_in_place gone.1 files told, gone.2);
    load = λ gone is. absurd (cc is);
    store = λ gone is. absurd (cc is);
    print = λ gone is. absurd (cc is);
    refused = λ refusal gone is. absurd (cc is);
    memory = λ gone is. absurd (cc is);
  }) ending (left input output form) status

  pub fold_fault_promised : ForFold words (λ input output. status_of ending ≡ 2 → HasFault input output before after)
  fold_fault_promised input output form status = fold_by_case input output before after (λ e. status_of e ≡ 2 → ComplainsLine (complaint_of e) before after → HasFault input output before after) (record {
    done = λ gone is said. absurd (cc is);
    load = λ gone is said. (Load, gone.0, said);
    store = λ gone is said. (Store, gone.2, said);
    print = λ gone is said. (Print, gone.2, said);
    refused = λ refusal gone is said. absurd (cc is);
    memory = λ gone is said. absurd (cc is);
  }) ending (left input output form) status ends.complains

  pub fold_refused_promised : ForFold words (λ input _. status_of ending ≡ 3 → HasRefusal input before after)
  fold_refused_promised input output form status = fold_by_case input output before after (λ e. status_of e ≡ 3 → ComplainsLine (complaint_of e) before after → HasRefusal input before after) (record {
    done = λ gone is said. absurd (cc is);
    load = λ gone is said. absurd (cc is);
    store = λ gone is said. absurd (cc is);
    print = λ gone is said. absurd (cc is);
    refused = λ refusal gone is said. (gone.1, gone.2, refusal, gone.0, said);
    memory = λ gone is said. absurd (cc is);
  }) ending (left input output form) status ends.complains

  pub fold_complete_promised : ForFold words (λ input output. IsComplete input output (status_of ending) before after)
  fold_complete_promised input output form no_fault files told accepted = fold_by_case input output before after (λ e. (status_of e ≡ 0) ⊎ (status_of e ≡ 4)) (record {
    done = λ gone. inl refl;
    load = λ gone. absurd (no_fault Load gone.0);
    store = λ gone. absurd (no_fault Store gone.2);
    print = λ gone. absurd (no_fault Print gone.2);
    refused = λ refusal gone. absurd (accepted refusal (gone.0 files told));
    memory = λ gone. inr refl;
  }) ending (left input output form)

  -- what is refused is not folded
  pub fold_exact_promised : ForFold words (λ input _. RefusesExactly input (status_of ending) before after)
  fold_exact_promised input output form files told refusal refused = fold_by_case input output before after (λ e. (status_of e ≡ 3) ⊎ ((status_of e ≡ 2) × Rose (Loading input) before after) ⊎ (status_of e ≡ 4)) (record {
    done = λ gone. absurd (folds_not gone.0 gone.1.folds);
    load = λ gone. inr (inl (refl, gone.0));
    store = λ gone. absurd (folds_not gone.0 gone.1);
    print = λ gone. absurd (folds_not gone.0 gone.1.folds);
    refused = λ other gone. inl refl;
    memory = λ gone. inr (inr refl);
  }) ending (left input output form)
    where
      folds_not : (folded : FoldedFile) → FoldsFile input folded before → ⊥
      folds_not folded folds = not_refused (content_of files input) (folds files told).good.made.accepted refusal refused
