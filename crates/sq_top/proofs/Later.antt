-- What a command left stays said after its complaint.
use Rattle.std.proofs.Common.{ℕ, ◌-◌, ◌^◌, inl, inr, List, take, Option, Some, None, ap, ◌∙◌, arith}
use Rattle.std.proofs.lemmas.Bool.{cases_lt}
use Rattle.sq_num.specs.declared.packed.Packed.{Packed}
use Rattle.sq_desk.specs.Outside.{Outside, Place, Rose, NoneFall, Complaining, KeepsFiles, KeepsPrinted, KeepsComplained, extended_text}
use Rattle.sq_top.specs.declared.ending.Ending.{Ending}
use Rattle.sq_top.specs.declared.ending.Ending.TheVariants.{Done, Words, Desk, Refused, Memory, Break, Limit, BadStart, Differs}
use Rattle.sq_top.specs.declared.ending.DeskCall.TheVariants.{Load, Store, Print}
use Rattle.sq_command.specs.Commands.{RunRequest, Form, PackForm, RunForm, WatchForm, HexForm, HexcheckForm, SizeForm, TrialForm, CheckForm, ProveForm, NamesForm, FoldForm, form_of}
use Rattle.sq_top.specs.Statuses.{complaint_of}
use Rattle.sq_top.specs.Endings.{StoresPacked, LeavesPack, SizeLeft, Leaves, ComplainsLine}
use Rattle.sq_top.specs.RunEndings.{FailsToLoad, IsReadable, RunLeft}
use Rattle.sq_top.specs.WatchEndings.{WatchLeft}
use Rattle.sq_top.specs.HexEndings.{StoresText, LeavesHex, FailsToCheck, CheckLeft}
use Rattle.law_program.specs.FilePrograms.{IsAcceptedFile}
use Rattle.sq_top.specs.Promises.{Ends}
use Rattle.sq_top.proofs.SizeCases.{size_by_case}
use Rattle.sq_top.specs.Trials.{TrialLeft}
use Rattle.sq_top.proofs.TrialCases.{trial_by_case}
use Rattle.sq_top.specs.CertEndings.{FailsToCertify, CertLeft}
use Rattle.sq_top.proofs.CertCases.{cert_by_case}
use Rattle.sq_top.specs.ProveEndings.{SetsBoth, FailsToStore, LeavesProve}
use Rattle.sq_top.proofs.ProveCases.{prove_by_case}
use Rattle.sq_top.specs.NamesEndings.{FailsToName, NamesLeft}
use Rattle.sq_top.proofs.NamesCases.{names_by_case}
use Rattle.sq_top.specs.declared.folding.FoldedFile.{FoldedFile}
use Rattle.sq_top.specs.FoldEndings.{StoresFolded, LeavesFold}
use Rattle.sq_top.proofs.FoldCases.{fold_by_case}

-- a complaint: files and what is printed stay, and no faults fall
pub record OnlyComplains (before after : Outside) : Type 0 where
  pub files : KeepsFiles before after
  pub printed : KeepsPrinted before after
  pub faults : NoneFall before after

-- faults that rose before have risen
pub rose_on : (place : Place) (before middle after : Outside) → NoneFall before middle → NoneFall middle after → Rose place before middle → Rose place before after
rose_on place before middle after first second (inl less) = inl (omega (arith, second place))
rose_on place before middle after first second (inr last) =
    elim (cases_lt (2 ^ 64 - 1) (after.faults place)) [ inl more ↦ inl (omega (arith, first place)) | inr most ↦ inr (omega (arith, second place)) ]

-- faults that rose later have risen
pub rose_then : (place : Place) (before middle after : Outside) → NoneFall before middle → Rose place middle after → Rose place before after
rose_then place before middle after first (inl less) = inl (omega (arith, first place))
rose_then place before middle after first (inr last) = inr last

module _ (before middle after : Outside) (first : NoneFall before middle) (quiet : OnlyComplains middle after) where
  stores_on : {input output : List ℕ} {packed : Packed} → StoresPacked input output packed before middle → StoresPacked input output packed before after
  stores_on stored = record { packs = stored.packs; stores = quiet.files ∙ stored.stores }

  pack_on : (input output : List ℕ) (ending : Ending) → LeavesPack input output ending before middle → LeavesPack input output ending before after
  pack_on input output Done left = (left.0, stores_on left.1, quiet.printed ∙ left.2)
  pack_on input output Words left = left
  pack_on input output (Desk Load) left = (rose_on _ before middle after first quiet.faults left.0, quiet.files ∙ left.1, quiet.printed ∙ left.2)
  pack_on input output (Desk Store) left =
      (left.0, left.1, rose_on _ before middle after first quiet.faults left.2, (left.3.0, quiet.files ∙ left.3.1), quiet.printed ∙ left.4)
  pack_on input output (Desk Print) left =
      (left.0, stores_on left.1, rose_on _ before middle after first quiet.faults left.2, (left.3.0, quiet.printed ∙ left.3.1))
  pack_on input output (Refused refusal) left = (left.0, quiet.files ∙ left.1, quiet.printed ∙ left.2)
  pack_on input output Memory left =
      (elim left.0 [ inl kept ↦ inl (quiet.files ∙ kept) | inr stored ↦ inr (stored.0, stores_on stored.1) ], quiet.printed ∙ left.1)
  pack_on input output Break left = left
  pack_on input output Limit left = left
  pack_on input output BadStart left = left
  pack_on input output (Differs line) left = absurd left

  fails_on : (Accepts : List ℕ → Type 0) (request : RunRequest) → FailsToLoad Accepts request before middle → FailsToLoad Accepts request before after
  fails_on Accepts request (inl file) = inl (rose_on _ before middle after first quiet.faults file)
  fails_on Accepts request (inr input) = inr (input.0, rose_on _ before middle after first quiet.faults input.1)

  run_left_on : (request : RunRequest) (ending : Ending) → RunLeft request ending before middle → RunLeft request ending before after
  run_left_on request Done left = (left.0, left.1, quiet.printed ∙ left.2)
  run_left_on request Words left = left
  run_left_on request (Desk Load) left = (quiet.printed ∙ left.0, fails_on IsReadable request left.1)
  run_left_on request (Desk Store) left = left
  run_left_on request (Desk Print) left =
      (rose_on _ before middle after first quiet.faults left.0, (left.1.0, left.1.1, (left.1.2.0, quiet.printed ∙ left.1.2.1)))
  run_left_on request (Refused refusal) left = (quiet.printed ∙ left.0, left.1)
  run_left_on request Memory left = quiet.printed ∙ left
  run_left_on request Break left = left
  run_left_on request Limit left = (left.0, left.1, quiet.printed ∙ left.2)
  run_left_on request BadStart left = (quiet.printed ∙ left.0, left.1)
  run_left_on request (Differs line) left = absurd left

  watch_left_on : (request : RunRequest) (ending : Ending) → WatchLeft request ending before middle → WatchLeft request ending before after
  watch_left_on request Done left = (left.0, left.1, quiet.printed ∙ left.2)
  watch_left_on request Words left = left
  watch_left_on request (Desk Load) left = (quiet.printed ∙ left.0, fails_on IsAcceptedFile request left.1)
  watch_left_on request (Desk Store) left = left
  watch_left_on request (Desk Print) left =
      (rose_on _ before middle after first quiet.faults left.0, (left.1.0, left.1.1, (left.1.2.0, quiet.printed ∙ left.1.2.1)))
  watch_left_on request (Refused refusal) left = (quiet.printed ∙ left.0, left.1)
  watch_left_on request Memory left = quiet.printed ∙ left
  watch_left_on request Break left = (left.0, left.1, quiet.printed ∙ left.2)
  watch_left_on request Limit left = (left.0, left.1, quiet.printed ∙ left.2)
  watch_left_on request BadStart left = (quiet.printed ∙ left.0, left.1)
  watch_left_on request (Differs line) left = absurd left

  text_on : {input output text : List ℕ} → StoresText input output text before middle → StoresText input output text before after
  text_on stored = record { writes = stored.writes; stores = quiet.files ∙ stored.stores }

  hex_on : (input output : List ℕ) (ending : Ending) → LeavesHex input output ending before middle → LeavesHex input output ending before after
  hex_on input output Done left = (left.0, text_on left.1, quiet.printed ∙ left.2)
  hex_on input output Words left = left
  hex_on input output (Desk Load) left = (rose_on _ before middle after first quiet.faults left.0, quiet.files ∙ left.1, quiet.printed ∙ left.2)
  hex_on input output (Desk Store) left =
      (left.0, left.1, rose_on _ before middle after first quiet.faults left.2, (left.3.0, quiet.files ∙ left.3.1), quiet.printed ∙ left.4)
  hex_on input output (Desk Print) left =
      (left.0, text_on left.1, rose_on _ before middle after first quiet.faults left.2, (left.3.0, quiet.printed ∙ left.3.1))
  hex_on input output (Refused refusal) left = (left.0, quiet.files ∙ left.1, quiet.printed ∙ left.2)
  hex_on input output Memory left =
      (elim left.0 [ inl kept ↦ inl (quiet.files ∙ kept) | inr stored ↦ inr (stored.0, text_on stored.1) ], quiet.printed ∙ left.1)
  hex_on input output Break left = left
  hex_on input output Limit left = left
  hex_on input output BadStart left = left
  hex_on input output (Differs line) left = left

  check_fails_on : (input text : List ℕ) → FailsToCheck input text before middle → FailsToCheck input text before after
  check_fails_on input text (inl file) = inl (rose_on _ before middle after first quiet.faults file)
  check_fails_on input text (inr other) = inr (other.0, rose_on _ before middle after first quiet.faults other.1)

  check_on : (input text : List ℕ) (ending : Ending) → CheckLeft input text ending before middle → CheckLeft input text ending before after
  check_on input text Done left = (left.0, quiet.printed ∙ left.1)
  check_on input text Words left = left
  check_on input text (Desk Load) left = (quiet.printed ∙ left.0, check_fails_on input text left.1)
  check_on input text (Desk Store) left = left
  check_on input text (Desk Print) left =
      (rose_on _ before middle after first quiet.faults left.0, left.1, (left.2.0, quiet.printed ∙ left.2.1))
  check_on input text (Refused refusal) left = (quiet.printed ∙ left.0, left.1)
  check_on input text Memory left = quiet.printed ∙ left
  check_on input text Break left = left
  check_on input text Limit left = left
  check_on input text BadStart left = left
  check_on input text (Differs line) left = (quiet.printed ∙ left.0, left.1)

  size_on : (input : List ℕ) (ending : Ending) → SizeLeft input ending before middle → SizeLeft input ending before after
  size_on input = size_by_case input before middle (λ e. SizeLeft input e before after) (record {
    done = λ left. (left.0, left.1, quiet.printed ∙ left.2);
    load = λ left. (quiet.printed ∙ left.0, rose_on _ before middle after first quiet.faults left.1);
    print = λ left. (rose_on _ before middle after first quiet.faults left.0, left.1, left.2, (left.3.0, quiet.printed ∙ left.3.1));
    refused = λ refusal left. (quiet.printed ∙ left.0, left.1);
    memory = λ left. quiet.printed ∙ left;
  })

  trial_on : (number blocks : ℕ) (ending : Ending) → TrialLeft number blocks ending before middle → TrialLeft number blocks ending before after
  trial_on number blocks = trial_by_case number blocks before middle (λ e. TrialLeft number blocks e before after) (record {
    done = λ left. (left.0, left.1, quiet.printed ∙ left.2);
    print = λ left. (rose_on _ before middle after first quiet.faults left.0, left.1, left.2, (left.3.0, quiet.printed ∙ left.3.1));
    memory = λ left. quiet.printed ∙ left;
  })

  cert_fails_on : (input output cert : List ℕ) → FailsToCertify input output cert before middle → FailsToCertify input output cert before after
  cert_fails_on input output cert (inl given) = inl (rose_on _ before middle after first quiet.faults given)
  cert_fails_on input output cert (inr (inl packed)) = inr (inl (packed.0, rose_on _ before middle after first quiet.faults packed.1))
  cert_fails_on input output cert (inr (inr text)) = inr (inr (text.0, rose_on _ before middle after first quiet.faults text.1))

  cert_on : (input output cert : List ℕ) (ending : Ending) → CertLeft input output cert ending before middle → CertLeft input output cert ending before after
  cert_on input output cert = cert_by_case input output cert before middle (λ e. CertLeft input output cert e before after) (record {
    done = λ left. (left.0, left.1, quiet.printed ∙ left.2);
    load = λ left. (quiet.printed ∙ left.0, cert_fails_on input output cert left.1);
    print = λ left. (rose_on _ before middle after first quiet.faults left.0, left.1, left.2, (left.3.0, quiet.printed ∙ left.3.1));
    refused = λ refusal left. (quiet.printed ∙ left.0, left.1);
    memory = λ left. quiet.printed ∙ left;
    differs = λ line left. (quiet.printed ∙ left.0, left.1);
  })

  both_on : (output bytes cert : List ℕ) (content : Option (List ℕ)) → SetsBoth output bytes cert content before middle → SetsBoth output bytes cert content before after
  both_on output bytes cert content set = quiet.files ∙ set

  store_fails_on : (output bytes cert : List ℕ) → FailsToStore output bytes cert before middle → FailsToStore output bytes cert before after
  store_fails_on output bytes cert (inl one) = inl (rose_on _ before middle after first quiet.faults one.0, (one.1.0, quiet.files ∙ one.1.1))
  store_fails_on output bytes cert (inr two) = inr (rose_on _ before middle after first quiet.faults two.0, two.1, both_on output bytes cert two.1 two.2)

  prove_on : (input output cert : List ℕ) (ending : Ending) → LeavesProve input output cert ending before middle → LeavesProve input output cert ending before after
  prove_on input output cert = prove_by_case input output cert before middle (λ e. LeavesProve input output cert e before after) (record {
    done = λ left. (left.0, left.1, left.2, both_on output left.0.bytes cert (Some left.1) left.3, quiet.printed ∙ left.4);
    load = λ left. (rose_on _ before middle after first quiet.faults left.0, quiet.files ∙ left.1, quiet.printed ∙ left.2);
    store = λ left. (quiet.printed ∙ left.0, left.1, left.2, left.3, store_fails_on output left.1.bytes cert left.4);
    print = λ left. (rose_on _ before middle after first quiet.faults left.0, left.1, left.2, left.3, both_on output left.1.bytes cert (Some left.2) left.4, (left.5.0, quiet.printed ∙ left.5.1));
    refused = λ refusal left. (left.0, quiet.files ∙ left.1, quiet.printed ∙ left.2);
    memory = λ left. (
      quiet.printed ∙ left.0,
      elim left.1 [
        | inl kept ↦ inl (quiet.files ∙ kept)
        | inr proved ↦ inr (proved.0, proved.1, proved.2, elim proved.3 [ inl one ↦ inl (quiet.files ∙ one) | inr two ↦ inr (both_on output proved.0.bytes cert (Some proved.1) two) ])
      ],
    );
  })

  name_fails_on : (input cert : List ℕ) → FailsToName input cert before middle → FailsToName input cert before after
  name_fails_on input cert (inl given) = inl (rose_on _ before middle after first quiet.faults given)
  name_fails_on input cert (inr text) = inr (text.0, rose_on _ before middle after first quiet.faults text.1)

  names_on : (input cert : List ℕ) (ending : Ending) → NamesLeft input cert ending before middle → NamesLeft input cert ending before after
  names_on input cert = names_by_case input cert before middle (λ e. NamesLeft input cert e before after) (record {
    done = λ left. (left.0, left.1, quiet.printed ∙ left.2);
    load = λ left. (quiet.printed ∙ left.0, name_fails_on input cert left.1);
    print = λ left. (rose_on _ before middle after first quiet.faults left.0, left.1, left.2, (left.3.0, quiet.printed ∙ left.3.1));
    refused = λ refusal left. (quiet.printed ∙ left.0, left.1);
    memory = λ left. quiet.printed ∙ left;
    differs = λ line left. (quiet.printed ∙ left.0, left.1);
  })

  folded_on : {input output : List ℕ} {folded : FoldedFile} → StoresFolded input output folded before middle → StoresFolded input output folded before after
  folded_on stored = record { folds = stored.folds; stores = quiet.files ∙ stored.stores }

  fold_on : (input output : List ℕ) (ending : Ending) → LeavesFold input output ending before middle → LeavesFold input output ending before after
  fold_on input output = fold_by_case input output before middle (λ e. LeavesFold input output e before after) (record {
    done = λ left. (left.0, folded_on left.1, quiet.printed ∙ left.2);
    load = λ left. (rose_on _ before middle after first quiet.faults left.0, quiet.files ∙ left.1, quiet.printed ∙ left.2);
    store = λ left. (left.0, left.1, rose_on _ before middle after first quiet.faults left.2, (left.3.0, quiet.files ∙ left.3.1), quiet.printed ∙ left.4);
    print = λ left. (left.0, folded_on left.1, rose_on _ before middle after first quiet.faults left.2, (left.3.0, quiet.printed ∙ left.3.1));
    refused = λ refusal left. (left.0, quiet.files ∙ left.1, quiet.printed ∙ left.2);
    memory = λ left. (elim left.0 [ inl kept ↦ inl (quiet.files ∙ kept) | inr stored ↦ inr (stored.0, folded_on stored.1) ], quiet.printed ∙ left.1);
  })

  leaves_on : (form : Option Form) (ending : Ending) → Leaves form ending before middle → Leaves form ending before after
  leaves_on None ending left = (left.0, quiet.files ∙ left.1, quiet.printed ∙ left.2)
  leaves_on (Some (PackForm input output)) ending left = pack_on input output ending left
  leaves_on (Some (RunForm request)) ending left = (quiet.files ∙ left.0, run_left_on request ending left.1)
  leaves_on (Some (WatchForm request)) ending left = (quiet.files ∙ left.0, watch_left_on request ending left.1)
  leaves_on (Some (HexForm input output)) ending left = hex_on input output ending left
  leaves_on (Some (HexcheckForm input text)) ending left = (quiet.files ∙ left.0, check_on input text ending left.1)
  leaves_on (Some (SizeForm input)) ending left = (quiet.files ∙ left.0, size_on input ending left.1)
  leaves_on (Some (TrialForm number blocks)) ending left = (quiet.files ∙ left.0, trial_on number blocks ending left.1)
  leaves_on (Some (CheckForm input output cert)) ending left = (quiet.files ∙ left.0, cert_on input output cert ending left.1)
  leaves_on (Some (ProveForm input output cert)) ending left = prove_on input output cert ending left
  leaves_on (Some (NamesForm input cert)) ending left = (quiet.files ∙ left.0, names_on input cert ending left.1)
  leaves_on (Some (FoldForm input output)) ending left = fold_on input output ending left

  complains_on : (line : Option (List ℕ)) → KeepsComplained before middle → ComplainsLine line middle after → ComplainsLine line before after
  complains_on None silent said = said ∙ silent
  complains_on (Some line) silent (inl all) = inl (all ∙ ap (extended_text line) silent)
  complains_on (Some line) silent (inr (inl prefix)) =
      inr (inl ((prefix.0.0, prefix.0.1 ∙ ap (extended_text (take prefix.0.0 line)) silent), rose_then Complaining before middle after first prefix.1))
  complains_on (Some line) silent (inr (inr none)) = inr (inr (none ∙ silent))

  pub ends_by : (words : List (List ℕ)) (ending : Ending) → Leaves (form_of words) ending before middle → KeepsComplained before middle → ComplainsLine (complaint_of ending) middle after → Ends words ending before after
  ends_by words ending left silent said = record {
    leaves = leaves_on (form_of words) ending left;
    complains = complains_on (complaint_of ending) silent said;
    faults = λ place. omega (arith, first place, quiet.faults place);
  }
