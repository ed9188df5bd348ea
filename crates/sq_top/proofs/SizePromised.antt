-- How the ending of `size` keeps each promise.
use Rattle.std.proofs.Common.{◌≡◌, ℕ, ◌⊎◌, inl, inr, List, Some, refl}
use Rattle.sq_num.specs.declared.packed.Packed.{Packed}
use Rattle.sq_command.specs.Commands.{SizeForm, form_of}
use Rattle.sq_desk.specs.Outside.{Outside, content_of, KeepsFiles, Rose, Loading, Prints}
use Rattle.sq_lifted.proofs.Accepting.{not_refused}
use Rattle.sq_top.specs.declared.ending.Ending.{Ending}
use Rattle.sq_top.specs.declared.ending.DeskCall.TheVariants.{Load, Print}
use Rattle.sq_top.specs.Packing.{Packs}
use Rattle.sq_top.specs.Statuses.{status_of, complaint_of}
use Rattle.sq_top.specs.Endings.{PacksFile, report_line, LeavesSize, ComplainsLine}
use Rattle.sq_top.specs.Promises.{Ends, HasRefusal, RefusesExactly}
use Rattle.sq_top.specs.SizePromises.{ForSize, IsSizeDone, HasSizeFault, IsSizeComplete}
use Rattle.sq_top.proofs.SizeCases.{size_by_case}

module _ (words : List (List ℕ)) (ending : Ending) (before after : Outside) (ends : Ends words ending before after) where
  left : (input : List ℕ) → form_of words ≡ Some (SizeForm input) → LeavesSize input ending before after
  left input form = rw form at ends.leaves

  pub size_files_promised : ForSize words (λ _. KeepsFiles before after)
  size_files_promised input form = (left input form).0

  pub size_done_promised : ForSize words (λ input. status_of ending ≡ 0 → IsSizeDone input before after)
  size_done_promised input form status files told = size_by_case input before after (λ e. status_of e ≡ 0 → (packed : Packed) × Packs (content_of files input) packed × Prints (report_line packed) before after) (record {
    done = λ gone is. (gone.0, gone.1 files told, gone.2);
    load = λ gone is. absurd (cc is);
    print = λ gone is. absurd (cc is);
    refused = λ refusal gone is. absurd (cc is);
    memory = λ gone is. absurd (cc is);
  }) ending (left input form).1 status

  pub size_fault_promised : ForSize words (λ input. status_of ending ≡ 2 → HasSizeFault input before after)
  size_fault_promised input form status = size_by_case input before after (λ e. status_of e ≡ 2 → ComplainsLine (complaint_of e) before after → HasSizeFault input before after) (record {
    done = λ gone is said. absurd (cc is);
    load = λ gone is said. (Load, gone.1, said);
    print = λ gone is said. (Print, gone.0, said);
    refused = λ refusal gone is said. absurd (cc is);
    memory = λ gone is said. absurd (cc is);
  }) ending (left input form).1 status ends.complains

  pub size_refused_promised : ForSize words (λ input. status_of ending ≡ 3 → HasRefusal input before after)
  size_refused_promised input form status = size_by_case input before after (λ e. status_of e ≡ 3 → ComplainsLine (complaint_of e) before after → HasRefusal input before after) (record {
    done = λ gone is said. absurd (cc is);
    load = λ gone is said. absurd (cc is);
    print = λ gone is said. absurd (cc is);
    refused = λ refusal gone is said. ((left input form).0, gone.0, refusal, gone.1, said);
    memory = λ gone is said. absurd (cc is);
  }) ending (left input form).1 status ends.complains

  pub size_exact_promised : ForSize words (λ input. RefusesExactly input (status_of ending) before after)
  size_exact_promised input form files told refusal refused = size_by_case input before after (λ e. (status_of e ≡ 3) ⊎ ((status_of e ≡ 2) × Rose (Loading input) before after) ⊎ (status_of e ≡ 4)) (record {
    done = λ gone. absurd (packs_not gone.0 gone.1);
    load = λ gone. inr (inl (refl, gone.1));
    print = λ gone. absurd (packs_not gone.1 gone.2);
    refused = λ other gone. inl refl;
    memory = λ gone. inr (inr refl);
  }) ending (left input form).1
    where
      packs_not : (packed : Packed) → PacksFile input packed before → ⊥
      packs_not packed packs = not_refused (content_of files input) (packs files told).good.made.accepted refusal refused

  pub size_complete_promised : ForSize words (λ input. IsSizeComplete input (status_of ending) before after)
  size_complete_promised input form no_fault files told accepted = size_by_case input before after (λ e. (status_of e ≡ 0) ⊎ (status_of e ≡ 4)) (record {
    done = λ gone. inl refl;
    load = λ gone. absurd (no_fault Load gone.1);
    print = λ gone. absurd (no_fault Print gone.0);
    refused = λ refusal gone. absurd (accepted refusal (gone.1 files told));
    memory = λ gone. inr refl;
  }) ending (left input form).1
