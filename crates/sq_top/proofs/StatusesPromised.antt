-- What every command's status says, and what each prints.
use Rattle.std.proofs.Common.{◌≡◌, ◌≢◌, ◌↔◌, ℕ, ◌≤◌, ◌⊎◌, inl, inr, List, Option, Some, None, refl, ap, arith}
use Rattle.std.specs.Prelude.{⊤}
use Rattle.sq_num.specs.declared.packed.Packed.{Packed}
use Rattle.sq_command.specs.Commands.{RunRequest, Form, PackForm, RunForm, WatchForm, HexForm, HexcheckForm, SizeForm, TrialForm, CheckForm, ProveForm, NamesForm, FoldForm, form_of}
use Rattle.sq_desk.specs.Outside.{Outside, Place, ForFiles, content_of, Loading, Storing, Printing, Rose}
use Rattle.sq_top.specs.declared.ending.Ending.{Ending}
use Rattle.sq_top.specs.declared.ending.Ending.TheVariants.{Done, Words, Desk, Refused, Memory, Break, Limit, BadStart, Differs}
use Rattle.sq_top.specs.declared.ending.DeskCall.TheVariants.{Load, Store, Print}
use Rattle.sq_top.specs.Statuses.{status_of, complaint_of, IsStatusOf}
use Rattle.sq_top.specs.Endings.{PacksFile, LeavesPack, SizeLeft, Leaves, ComplainsLine}
use Rattle.sq_top.specs.RunEndings.{RunLeft}
use Rattle.sq_top.specs.WatchEndings.{WatchLeft}
use Rattle.sq_top.specs.HexEndings.{LeavesHex, CheckLeft}
use Rattle.sq_top.specs.Watching.{HasWatched}
use Rattle.law_runs.specs.Runs.{Trace}
use Rattle.sq_system.specs.declared.event.Event.{Event}
use Rattle.sq_system.specs.declared.event.Halt.{Halt}
use Rattle.sq_lifted.proofs.Accepting.{not_refused}
use Rattle.sq_top.specs.Promises.{Ends, ForPack, HasFault, RefusesExactly, PrintsAsSaid}
use Rattle.sq_top.proofs.SizeCases.{size_by_case}
use Rattle.sq_top.specs.Trials.{TrialLeft}
use Rattle.sq_top.proofs.TrialCases.{trial_by_case}
use Rattle.sq_top.specs.CertEndings.{FailsToCertify, CertLeft}
use Rattle.sq_top.proofs.CertCases.{cert_by_case}
use Rattle.sq_top.specs.ProveEndings.{FailsToStore, LeavesProve}
use Rattle.sq_top.proofs.ProveCases.{prove_by_case}
use Rattle.sq_top.specs.NamesEndings.{FailsToName, NamesLeft}
use Rattle.sq_top.proofs.NamesCases.{names_by_case}
use Rattle.sq_top.specs.FoldEndings.{LeavesFold}
use Rattle.sq_top.proofs.FoldCases.{fold_by_case}

-- where no faults are counted none rose
none_rose : (place : Place) (before after : Outside) → after.faults place ≡ 0 → Rose place before after → ⊥
none_rose place before after none (inl more) = omega (arith, none)
none_rose place before after none (inr last) = omega (arith, none)

module _ (words : List (List ℕ)) (ending : Ending) (before after : Outside) (ends : Ends words ending before after) where
  -- status 1 is that of words without a form
  pub words_promised : (status_of ending ≡ 1) ↔ (form_of words ≡ None)
  words_promised = (λ one. only (form_of words) refl ends.leaves one, λ none. alone (rw none at ends.leaves))
    where
      alone : Leaves None ending before after → status_of ending ≡ 1
      alone gone = ap status_of gone.0

      pack_else : (input output : List ℕ) (e : Ending) → LeavesPack input output e before after → status_of e ≡ 1 → ⊥
      pack_else input output Done gone one = absurd (cc one)
      pack_else input output Words gone one = gone
      pack_else input output (Desk call) gone one = absurd (cc one)
      pack_else input output (Refused refusal) gone one = absurd (cc one)
      pack_else input output Memory gone one = absurd (cc one)
      pack_else input output Break gone one = absurd (cc one)
      pack_else input output Limit gone one = absurd (cc one)
      pack_else input output BadStart gone one = absurd (cc one)
      pack_else input output (Differs line) gone one = absurd gone

      run_else : (request : RunRequest) (e : Ending) → RunLeft request e before after → status_of e ≡ 1 → ⊥
      run_else request Done gone one = absurd (cc one)
      run_else request Words gone one = gone
      run_else request (Desk call) gone one = absurd (cc one)
      run_else request (Refused refusal) gone one = absurd (cc one)
      run_else request Memory gone one = absurd (cc one)
      run_else request Break gone one = gone
      run_else request Limit gone one = absurd (cc one)
      run_else request BadStart gone one = absurd (cc one)
      run_else request (Differs line) gone one = absurd gone

      watch_else : (request : RunRequest) (e : Ending) → WatchLeft request e before after → status_of e ≡ 1 → ⊥
      watch_else request Done gone one = absurd (cc one)
      watch_else request Words gone one = gone
      watch_else request (Desk call) gone one = absurd (cc one)
      watch_else request (Refused refusal) gone one = absurd (cc one)
      watch_else request Memory gone one = absurd (cc one)
      watch_else request Break gone one = absurd (cc one)
      watch_else request Limit gone one = absurd (cc one)
      watch_else request BadStart gone one = absurd (cc one)
      watch_else request (Differs line) gone one = absurd gone

      hex_else : (input output : List ℕ) (e : Ending) → LeavesHex input output e before after → status_of e ≡ 1 → ⊥
      hex_else input output Done gone one = absurd (cc one)
      hex_else input output Words gone one = gone
      hex_else input output (Desk call) gone one = absurd (cc one)
      hex_else input output (Refused refusal) gone one = absurd (cc one)
      hex_else input output Memory gone one = absurd (cc one)
      hex_else input output Break gone one = gone
      hex_else input output Limit gone one = gone
      hex_else input output BadStart gone one = gone
      hex_else input output (Differs line) gone one = gone

      check_else : (input text : List ℕ) (e : Ending) → CheckLeft input text e before after → status_of e ≡ 1 → ⊥
      check_else input text Done gone one = absurd (cc one)
      check_else input text Words gone one = gone
      check_else input text (Desk call) gone one = absurd (cc one)
      check_else input text (Refused refusal) gone one = absurd (cc one)
      check_else input text Memory gone one = absurd (cc one)
      check_else input text Break gone one = gone
      check_else input text Limit gone one = gone
      check_else input text BadStart gone one = gone
      check_else input text (Differs line) gone one = absurd (cc one)

      size_else : (input : List ℕ) (e : Ending) → SizeLeft input e before after → status_of e ≡ 1 → ⊥
      size_else input = size_by_case input before after (λ e. status_of e ≡ 1 → ⊥) (record {
        done = λ gone one. absurd (cc one);
        load = λ gone one. absurd (cc one);
        print = λ gone one. absurd (cc one);
        refused = λ refusal gone one. absurd (cc one);
        memory = λ gone one. absurd (cc one);
      })

      trial_else : (first blocks : ℕ) (e : Ending) → TrialLeft first blocks e before after → status_of e ≡ 1 → ⊥
      trial_else first blocks = trial_by_case first blocks before after (λ e. status_of e ≡ 1 → ⊥) (record {
        done = λ gone one. absurd (cc one);
        print = λ gone one. absurd (cc one);
        memory = λ gone one. absurd (cc one);
      })

      cert_else : (input output cert : List ℕ) (e : Ending) → CertLeft input output cert e before after → status_of e ≡ 1 → ⊥
      cert_else input output cert = cert_by_case input output cert before after (λ e. status_of e ≡ 1 → ⊥) (record {
        done = λ gone one. absurd (cc one);
        load = λ gone one. absurd (cc one);
        print = λ gone one. absurd (cc one);
        refused = λ refusal gone one. absurd (cc one);
        memory = λ gone one. absurd (cc one);
        differs = λ line gone one. absurd (cc one);
      })

      prove_else : (input output cert : List ℕ) (e : Ending) → LeavesProve input output cert e before after → status_of e ≡ 1 → ⊥
      prove_else input output cert = prove_by_case input output cert before after (λ e. status_of e ≡ 1 → ⊥) (record {
        done = λ gone one. absurd (cc one);
        load = λ gone one. absurd (cc one);
        store = λ gone one. absurd (cc one);
        print = λ gone one. absurd (cc one);
        refused = λ refusal gone one. absurd (cc one);
        memory = λ gone one. absurd (cc one);
      })

      names_else : (input cert : List ℕ) (e : Ending) → NamesLeft input cert e before after → status_of e ≡ 1 → ⊥
      names_else input cert = names_by_case input cert before after (λ e. status_of e ≡ 1 → ⊥) (record {
        done = λ gone one. absurd (cc one);
        load = λ gone one. absurd (cc one);
        print = λ gone one. absurd (cc one);
        refused = λ refusal gone one. absurd (cc one);
        memory = λ gone one. absurd (cc one);
        differs = λ line gone one. absurd (cc one);
      })

      fold_else : (input output : List ℕ) (e : Ending) → LeavesFold input output e before after → status_of e ≡ 1 → ⊥
      fold_else input output = fold_by_case input output before after (λ e. status_of e ≡ 1 → ⊥) (record {
        done = λ gone one. absurd (cc one);
        load = λ gone one. absurd (cc one);
        store = λ gone one. absurd (cc one);
        print = λ gone one. absurd (cc one);
        refused = λ refusal gone one. absurd (cc one);
        memory = λ gone one. absurd (cc one);
      })

      only : (form : Option Form) → form_of words ≡ form → Leaves form ending before after → status_of ending ≡ 1 → form_of words ≡ None
      only None is gone one = is
      only (Some (PackForm input output)) is gone one = absurd (pack_else input output ending gone one)
      only (Some (RunForm request)) is gone one = absurd (run_else request ending gone.1 one)
      only (Some (WatchForm request)) is gone one = absurd (watch_else request ending gone.1 one)
      only (Some (HexForm input output)) is gone one = absurd (hex_else input output ending gone one)
      only (Some (HexcheckForm input text)) is gone one = absurd (check_else input text ending gone.1 one)
      only (Some (SizeForm input)) is gone one = absurd (size_else input ending gone.1 one)
      only (Some (TrialForm first blocks)) is gone one = absurd (trial_else first blocks ending gone.1 one)
      only (Some (CheckForm input output cert)) is gone one = absurd (cert_else input output cert ending gone.1 one)
      only (Some (ProveForm input output cert)) is gone one = absurd (prove_else input output cert ending gone one)
      only (Some (NamesForm input cert)) is gone one = absurd (names_else input cert ending gone.1 one)
      only (Some (FoldForm input output)) is gone one = absurd (fold_else input output ending gone one)

  -- each form has its statuses
  pub statuses_promised : IsStatusOf (form_of words) (status_of ending)
  statuses_promised = by_form (form_of words) ends.leaves
    where
      pack_status : (input output : List ℕ) (e : Ending) → LeavesPack input output e before after → status_of e ≤ 4
      pack_status input output Done gone = omega arith
      pack_status input output Words gone = omega arith
      pack_status input output (Desk call) gone = omega arith
      pack_status input output (Refused refusal) gone = omega arith
      pack_status input output Memory gone = omega arith
      pack_status input output Break gone = absurd gone
      pack_status input output Limit gone = absurd gone
      pack_status input output BadStart gone = absurd gone
      pack_status input output (Differs line) gone = absurd gone

      run_status : (request : RunRequest) (e : Ending) → RunLeft request e before after → (status_of e ≤ 4) ⊎ (status_of e ≡ 6) ⊎ (status_of e ≡ 7)
      run_status request Done gone = inl (omega arith)
      run_status request Words gone = inl (omega arith)
      run_status request (Desk call) gone = inl (omega arith)
      run_status request (Refused refusal) gone = inl (omega arith)
      run_status request Memory gone = inl (omega arith)
      run_status request Break gone = absurd gone
      run_status request Limit gone = inr (inl refl)
      run_status request BadStart gone = inr (inr refl)
      run_status request (Differs line) gone = absurd gone

      watch_status : (request : RunRequest) (e : Ending) → WatchLeft request e before after → (status_of e ≤ 4) ⊎ (status_of e ≡ 5) ⊎ (status_of e ≡ 6) ⊎ (status_of e ≡ 7)
      watch_status request Done gone = inl (omega arith)
      watch_status request Words gone = inl (omega arith)
      watch_status request (Desk call) gone = inl (omega arith)
      watch_status request (Refused refusal) gone = inl (omega arith)
      watch_status request Memory gone = inl (omega arith)
      watch_status request Break gone = inr (inl refl)
      watch_status request Limit gone = inr (inr (inl refl))
      watch_status request BadStart gone = inr (inr (inr refl))
      watch_status request (Differs line) gone = absurd gone

      hex_status : (input output : List ℕ) (e : Ending) → LeavesHex input output e before after → status_of e ≤ 4
      hex_status input output Done gone = omega arith
      hex_status input output Words gone = omega arith
      hex_status input output (Desk call) gone = omega arith
      hex_status input output (Refused refusal) gone = omega arith
      hex_status input output Memory gone = omega arith
      hex_status input output Break gone = absurd gone
      hex_status input output Limit gone = absurd gone
      hex_status input output BadStart gone = absurd gone
      hex_status input output (Differs line) gone = absurd gone

      check_status : (input text : List ℕ) (e : Ending) → CheckLeft input text e before after → (status_of e ≤ 4) ⊎ (status_of e ≡ 8)
      check_status input text Done gone = inl (omega arith)
      check_status input text Words gone = inl (omega arith)
      check_status input text (Desk call) gone = inl (omega arith)
      check_status input text (Refused refusal) gone = inl (omega arith)
      check_status input text Memory gone = inl (omega arith)
      check_status input text Break gone = absurd gone
      check_status input text Limit gone = absurd gone
      check_status input text BadStart gone = absurd gone
      check_status input text (Differs line) gone = inr refl

      size_status : (input : List ℕ) (e : Ending) → SizeLeft input e before after → status_of e ≤ 4
      size_status input = size_by_case input before after (λ e. status_of e ≤ 4) (record {
        done = λ gone. omega arith;
        load = λ gone. omega arith;
        print = λ gone. omega arith;
        refused = λ refusal gone. omega arith;
        memory = λ gone. omega arith;
      })

      trial_status : (first blocks : ℕ) (e : Ending) → TrialLeft first blocks e before after → (status_of e ≡ 0) ⊎ (status_of e ≡ 2) ⊎ (status_of e ≡ 4)
      trial_status first blocks = trial_by_case first blocks before after (λ e. (status_of e ≡ 0) ⊎ (status_of e ≡ 2) ⊎ (status_of e ≡ 4)) (record {
        done = λ gone. inl refl;
        print = λ gone. inr (inl refl);
        memory = λ gone. inr (inr refl);
      })

      cert_status : (input output cert : List ℕ) (e : Ending) → CertLeft input output cert e before after → (status_of e ≤ 4) ⊎ (status_of e ≡ 8)
      cert_status input output cert = cert_by_case input output cert before after (λ e. (status_of e ≤ 4) ⊎ (status_of e ≡ 8)) (record {
        done = λ gone. inl (omega arith);
        load = λ gone. inl (omega arith);
        print = λ gone. inl (omega arith);
        refused = λ refusal gone. inl (omega arith);
        memory = λ gone. inl (omega arith);
        differs = λ line gone. inr refl;
      })

      prove_status : (input output cert : List ℕ) (e : Ending) → LeavesProve input output cert e before after → status_of e ≤ 4
      prove_status input output cert = prove_by_case input output cert before after (λ e. status_of e ≤ 4) (record {
        done = λ gone. omega arith;
        load = λ gone. omega arith;
        store = λ gone. omega arith;
        print = λ gone. omega arith;
        refused = λ refusal gone. omega arith;
        memory = λ gone. omega arith;
      })

      names_status : (input cert : List ℕ) (e : Ending) → NamesLeft input cert e before after → (status_of e ≤ 4) ⊎ (status_of e ≡ 8)
      names_status input cert = names_by_case input cert before after (λ e. (status_of e ≤ 4) ⊎ (status_of e ≡ 8)) (record {
        done = λ gone. inl (omega arith);
        load = λ gone. inl (omega arith);
        print = λ gone. inl (omega arith);
        refused = λ refusal gone. inl (omega arith);
        memory = λ gone. inl (omega arith);
        differs = λ line gone. inr refl;
      })

      fold_status : (input output : List ℕ) (e : Ending) → LeavesFold input output e before after → status_of e ≤ 4
      fold_status input output = fold_by_case input output before after (λ e. status_of e ≤ 4) (record {
        done = λ gone. omega arith;
        load = λ gone. omega arith;
        store = λ gone. omega arith;
        print = λ gone. omega arith;
        refused = λ refusal gone. omega arith;
        memory = λ gone. omega arith;
      })

      by_form : (form : Option Form) → Leaves form ending before after → IsStatusOf form (status_of ending)
      by_form None gone = ap status_of gone.0
      by_form (Some (PackForm input output)) gone = pack_status input output ending gone
      by_form (Some (RunForm request)) gone = run_status request ending gone.1
      by_form (Some (WatchForm request)) gone = watch_status request ending gone.1
      by_form (Some (HexForm input output)) gone = hex_status input output ending gone
      by_form (Some (HexcheckForm input text)) gone = check_status input text ending gone.1
      by_form (Some (SizeForm input)) gone = size_status input ending gone.1
      by_form (Some (TrialForm first blocks)) gone = trial_status first blocks ending gone.1
      by_form (Some (CheckForm input output cert)) gone = cert_status input output cert ending gone.1
      by_form (Some (ProveForm input output cert)) gone = prove_status input output cert ending gone
      by_form (Some (NamesForm input cert)) gone = names_status input cert ending gone.1
      by_form (Some (FoldForm input output)) gone = fold_status input output ending gone

  -- without faults the status is not 2
  pub sound_promised : ((place : Place) → after.faults place ≡ 0) → status_of ending ≢ 2
  sound_promised none two = by_form (form_of words) ends.leaves
    where
      pack_sound : (input output : List ℕ) (e : Ending) → LeavesPack input output e before after → status_of e ≡ 2 → ⊥
      pack_sound input output Done gone is = absurd (cc is)
      pack_sound input output Words gone is = gone
      pack_sound input output (Desk Load) gone is = none_rose (Loading input) before after (none (Loading input)) gone.0
      pack_sound input output (Desk Store) gone is = none_rose (Storing output) before after (none (Storing output)) gone.2
      pack_sound input output (Desk Print) gone is = none_rose Printing before after (none Printing) gone.2
      pack_sound input output (Refused refusal) gone is = absurd (cc is)
      pack_sound input output Memory gone is = absurd (cc is)
      pack_sound input output Break gone is = gone
      pack_sound input output Limit gone is = gone
      pack_sound input output BadStart gone is = gone
      pack_sound input output (Differs line) gone is = absurd gone

      run_sound : (request : RunRequest) (e : Ending) → RunLeft request e before after → status_of e ≡ 2 → ⊥
      run_sound request Done gone is = absurd (cc is)
      run_sound request Words gone is = gone
      run_sound request (Desk Load) gone is =
          elim gone.1 [ inl file ↦ none_rose (Loading request.file) before after (none (Loading request.file)) file | inr input ↦ none_rose (Loading request.input) before after (none (Loading request.input)) input.1 ]
      run_sound request (Desk Store) gone is = gone
      run_sound request (Desk Print) gone is = none_rose Printing before after (none Printing) gone.0
      run_sound request (Refused refusal) gone is = absurd (cc is)
      run_sound request Memory gone is = absurd (cc is)
      run_sound request Break gone is = gone
      run_sound request Limit gone is = absurd (cc is)
      run_sound request BadStart gone is = absurd (cc is)
      run_sound request (Differs line) gone is = absurd gone

      watch_sound : (request : RunRequest) (e : Ending) → WatchLeft request e before after → status_of e ≡ 2 → ⊥
      watch_sound request Done gone is = absurd (cc is)
      watch_sound request Words gone is = gone
      watch_sound request (Desk Load) gone is =
          elim gone.1 [ inl file ↦ none_rose (Loading request.file) before after (none (Loading request.file)) file | inr input ↦ none_rose (Loading request.input) before after (none (Loading request.input)) input.1 ]
      watch_sound request (Desk Store) gone is = gone
      watch_sound request (Desk Print) gone is = none_rose Printing before after (none Printing) gone.0
      watch_sound request (Refused refusal) gone is = absurd (cc is)
      watch_sound request Memory gone is = absurd (cc is)
      watch_sound request Break gone is = absurd (cc is)
      watch_sound request Limit gone is = absurd (cc is)
      watch_sound request BadStart gone is = absurd (cc is)
      watch_sound request (Differs line) gone is = absurd gone

      hex_sound : (input output : List ℕ) (e : Ending) → LeavesHex input output e before after → status_of e ≡ 2 → ⊥
      hex_sound input output Done gone is = absurd (cc is)
      hex_sound input output Words gone is = gone
      hex_sound input output (Desk Load) gone is = none_rose (Loading input) before after (none (Loading input)) gone.0
      hex_sound input output (Desk Store) gone is = none_rose (Storing output) before after (none (Storing output)) gone.2
      hex_sound input output (Desk Print) gone is = none_rose Printing before after (none Printing) gone.2
      hex_sound input output (Refused refusal) gone is = absurd (cc is)
      hex_sound input output Memory gone is = absurd (cc is)
      hex_sound input output Break gone is = gone
      hex_sound input output Limit gone is = gone
      hex_sound input output BadStart gone is = gone
      hex_sound input output (Differs line) gone is = gone

      check_sound : (input text : List ℕ) (e : Ending) → CheckLeft input text e before after → status_of e ≡ 2 → ⊥
      check_sound input text Done gone is = absurd (cc is)
      check_sound input text Words gone is = gone
      check_sound input text (Desk Load) gone is =
          elim gone.1 [ inl file ↦ none_rose (Loading input) before after (none (Loading input)) file | inr other ↦ none_rose (Loading text) before after (none (Loading text)) other.1 ]
      check_sound input text (Desk Store) gone is = gone
      check_sound input text (Desk Print) gone is = none_rose Printing before after (none Printing) gone.0
      check_sound input text (Refused refusal) gone is = absurd (cc is)
      check_sound input text Memory gone is = absurd (cc is)
      check_sound input text Break gone is = gone
      check_sound input text Limit gone is = gone
      check_sound input text BadStart gone is = gone
      check_sound input text (Differs line) gone is = absurd (cc is)

      size_sound : (input : List ℕ) (e : Ending) → SizeLeft input e before after → status_of e ≡ 2 → ⊥
      size_sound input = size_by_case input before after (λ e. status_of e ≡ 2 → ⊥) (record {
        done = λ gone is. absurd (cc is);
        load = λ gone is. none_rose (Loading input) before after (none (Loading input)) gone.1;
        print = λ gone is. none_rose Printing before after (none Printing) gone.0;
        refused = λ refusal gone is. absurd (cc is);
        memory = λ gone is. absurd (cc is);
      })

      trial_sound : (first blocks : ℕ) (e : Ending) → TrialLeft first blocks e before after → status_of e ≡ 2 → ⊥
      trial_sound first blocks = trial_by_case first blocks before after (λ e. status_of e ≡ 2 → ⊥) (record {
        done = λ gone is. absurd (cc is);
        print = λ gone is. none_rose Printing before after (none Printing) gone.0;
        memory = λ gone is. absurd (cc is);
      })

      cert_loads : (input output cert : List ℕ) → FailsToCertify input output cert before after → ⊥
      cert_loads input output cert (inl given) = none_rose (Loading input) before after (none (Loading input)) given
      cert_loads input output cert (inr (inl packed)) = none_rose (Loading output) before after (none (Loading output)) packed.1
      cert_loads input output cert (inr (inr text)) = none_rose (Loading cert) before after (none (Loading cert)) text.1

      cert_sound : (input output cert : List ℕ) (e : Ending) → CertLeft input output cert e before after → status_of e ≡ 2 → ⊥
      cert_sound input output cert = cert_by_case input output cert before after (λ e. status_of e ≡ 2 → ⊥) (record {
        done = λ gone is. absurd (cc is);
        load = λ gone is. cert_loads input output cert gone.1;
        print = λ gone is. none_rose Printing before after (none Printing) gone.0;
        refused = λ refusal gone is. absurd (cc is);
        memory = λ gone is. absurd (cc is);
        differs = λ line gone is. absurd (cc is);
      })

      prove_stores : (output bytes cert : List ℕ) → FailsToStore output bytes cert before after → ⊥
      prove_stores output bytes cert (inl one) = none_rose (Storing output) before after (none (Storing output)) one.0
      prove_stores output bytes cert (inr two) = none_rose (Storing cert) before after (none (Storing cert)) two.0

      prove_sound : (input output cert : List ℕ) (e : Ending) → LeavesProve input output cert e before after → status_of e ≡ 2 → ⊥
      prove_sound input output cert = prove_by_case input output cert before after (λ e. status_of e ≡ 2 → ⊥) (record {
        done = λ gone is. absurd (cc is);
        load = λ gone is. none_rose (Loading input) before after (none (Loading input)) gone.0;
        store = λ gone is. prove_stores output gone.1.bytes cert gone.4;
        print = λ gone is. none_rose Printing before after (none Printing) gone.0;
        refused = λ refusal gone is. absurd (cc is);
        memory = λ gone is. absurd (cc is);
      })

      name_loads : (input cert : List ℕ) → FailsToName input cert before after → ⊥
      name_loads input cert (inl given) = none_rose (Loading input) before after (none (Loading input)) given
      name_loads input cert (inr text) = none_rose (Loading cert) before after (none (Loading cert)) text.1

      names_sound : (input cert : List ℕ) (e : Ending) → NamesLeft input cert e before after → status_of e ≡ 2 → ⊥
      names_sound input cert = names_by_case input cert before after (λ e. status_of e ≡ 2 → ⊥) (record {
        done = λ gone is. absurd (cc is);
        load = λ gone is. name_loads input cert gone.1;
        print = λ gone is. none_rose Printing before after (none Printing) gone.0;
        refused = λ refusal gone is. absurd (cc is);
        memory = λ gone is. absurd (cc is);
        differs = λ line gone is. absurd (cc is);
      })

      fold_sound : (input output : List ℕ) (e : Ending) → LeavesFold input output e before after → status_of e ≡ 2 → ⊥
      fold_sound input output = fold_by_case input output before after (λ e. status_of e ≡ 2 → ⊥) (record {
        done = λ gone is. absurd (cc is);
        load = λ gone is. none_rose (Loading input) before after (none (Loading input)) gone.0;
        store = λ gone is. none_rose (Storing output) before after (none (Storing output)) gone.2;
        print = λ gone is. none_rose Printing before after (none Printing) gone.2;
        refused = λ refusal gone is. absurd (cc is);
        memory = λ gone is. absurd (cc is);
      })

      by_form : (form : Option Form) → Leaves form ending before after → ⊥
      by_form None gone = absurd (cc (gone.0, two))
      by_form (Some (PackForm input output)) gone = pack_sound input output ending gone two
      by_form (Some (RunForm request)) gone = run_sound request ending gone.1 two
      by_form (Some (WatchForm request)) gone = watch_sound request ending gone.1 two
      by_form (Some (HexForm input output)) gone = hex_sound input output ending gone two
      by_form (Some (HexcheckForm input text)) gone = check_sound input text ending gone.1 two
      by_form (Some (SizeForm input)) gone = size_sound input ending gone.1 two
      by_form (Some (TrialForm first blocks)) gone = trial_sound first blocks ending gone.1 two
      by_form (Some (CheckForm input output cert)) gone = cert_sound input output cert ending gone.1 two
      by_form (Some (ProveForm input output cert)) gone = prove_sound input output cert ending gone two
      by_form (Some (NamesForm input cert)) gone = names_sound input cert ending gone.1 two
      by_form (Some (FoldForm input output)) gone = fold_sound input output ending gone two

  left : (input output : List ℕ) → form_of words ≡ Some (PackForm input output) → LeavesPack input output ending before after
  left input output form = rw form at ends.leaves

  pub fault_promised : ForPack words (λ input output. status_of ending ≡ 2 → HasFault input output before after)
  fault_promised input output form status = by_case ending status (left input output form) ends.complains
    where
      by_case : (e : Ending) → status_of e ≡ 2 → LeavesPack input output e before after → ComplainsLine (complaint_of e) before after → HasFault input output before after
      by_case Done is gone said = absurd (cc is)
      by_case Words is gone said = absurd gone
      by_case (Desk Load) is gone said = (Load, gone.0, said)
      by_case (Desk Store) is gone said = (Store, gone.2, said)
      by_case (Desk Print) is gone said = (Print, gone.2, said)
      by_case (Refused refusal) is gone said = absurd (cc is)
      by_case Memory is gone said = absurd (cc is)
      by_case Break is gone said = absurd gone
      by_case Limit is gone said = absurd gone
      by_case BadStart is gone said = absurd gone
      by_case (Differs line) is gone said = absurd gone

  pub exact_promised : ForPack words (λ input _. RefusesExactly input (status_of ending) before after)
  exact_promised input output form files told refusal refused = by_case ending (left input output form)
    where
      packs_not : (packed : Packed) → PacksFile input packed before → ⊥
      packs_not packed packs = not_refused (content_of files input) (packs files told).good.made.accepted refusal refused

      by_case : (e : Ending) → LeavesPack input output e before after → (status_of e ≡ 3) ⊎ ((status_of e ≡ 2) × Rose (Loading input) before after) ⊎ (status_of e ≡ 4)
      by_case Done gone = absurd (packs_not gone.0 gone.1.packs)
      by_case Words gone = absurd gone
      by_case (Desk Load) gone = inr (inl (refl, gone.0))
      by_case (Desk Store) gone = absurd (packs_not gone.0 gone.1)
      by_case (Desk Print) gone = absurd (packs_not gone.0 gone.1.packs)
      by_case (Refused more) gone = inl refl
      by_case Memory gone = inr (inr refl)
      by_case Break gone = absurd gone
      by_case Limit gone = absurd gone
      by_case BadStart gone = absurd gone
      by_case (Differs line) gone = absurd gone

  -- what each command prints
  pub printed_promised : PrintsAsSaid words (status_of ending) before after
  printed_promised = by_form (form_of words) refl ends.leaves
    where
      pack_printed : (input output : List ℕ) → form_of words ≡ Some (PackForm input output) → (e : Ending) → LeavesPack input output e before after → PrintsAsSaid words (status_of e) before after
      pack_printed input output form Done gone = inr (inl (input, output, form, gone.0, gone.1.packs, inl (refl, gone.2)))
      pack_printed input output form Words gone = absurd gone
      pack_printed input output form (Desk Load) gone = inl ((λ is. cc is), (λ is. cc is), (λ is. cc is), gone.2)
      pack_printed input output form (Desk Store) gone = inl ((λ is. cc is), (λ is. cc is), (λ is. cc is), gone.4)
      pack_printed input output form (Desk Print) gone = inr (inl (input, output, form, gone.0, gone.1.packs, inr (refl, gone.2, gone.3)))
      pack_printed input output form (Refused refusal) gone = inl ((λ is. cc is), (λ is. cc is), (λ is. cc is), gone.2)
      pack_printed input output form Memory gone = inl ((λ is. cc is), (λ is. cc is), (λ is. cc is), gone.1)
      pack_printed input output form Break gone = absurd gone
      pack_printed input output form Limit gone = absurd gone
      pack_printed input output form BadStart gone = absurd gone
      pack_printed input output form (Differs line) gone = absurd gone

      run_printed : (request : RunRequest) → form_of words ≡ Some (RunForm request) → (e : Ending) → RunLeft request e before after → PrintsAsSaid words (status_of e) before after
      run_printed request form Done gone = inr (inr (inl (request, form, gone.0, (λ files told. (gone.1 files told).0), inl (inl refl, gone.2))))
      run_printed request form Words gone = absurd gone
      run_printed request form (Desk Load) gone = inl ((λ is. cc is), (λ is. cc is), (λ is. cc is), gone.0)
      run_printed request form (Desk Store) gone = absurd gone
      run_printed request form (Desk Print) gone = inr (inr (inl (request, form, gone.1.0, gone.1.1, inr (refl, gone.0, gone.1.2))))
      run_printed request form (Refused refusal) gone = inl ((λ is. cc is), (λ is. cc is), (λ is. cc is), gone.0)
      run_printed request form Memory gone = inl ((λ is. cc is), (λ is. cc is), (λ is. cc is), gone)
      run_printed request form Break gone = absurd gone
      run_printed request form Limit gone = inr (inr (inl (request, form, gone.0, (λ files told. (gone.1 files told).0), inl (inr refl, gone.2))))
      run_printed request form BadStart gone = inl ((λ is. cc is), (λ is. cc is), (λ is. cc is), gone.0)
      run_printed request form (Differs line) gone = absurd gone

      watch_seen : (request : RunRequest) (P : Trace Event Halt → Type 0) (text : List ℕ) → ForFiles before (λ files. HasWatched request P files text) → ForFiles before (λ files. HasWatched request (λ trace. ⊤) files text)
      watch_seen request P text seen files told = let w = seen files told in record { can = w.can; seen = tt; text_is = w.text_is; plain = w.plain }

      watch_printed : (request : RunRequest) → form_of words ≡ Some (WatchForm request) → (e : Ending) → WatchLeft request e before after → PrintsAsSaid words (status_of e) before after
      watch_printed request form Done gone = inr (inr (inr (inl (request, form, gone.0, watch_seen request _ gone.0 gone.1, inl (inl refl, gone.2)))))
      watch_printed request form Words gone = absurd gone
      watch_printed request form (Desk Load) gone = inl ((λ is. cc is), (λ is. cc is), (λ is. cc is), gone.0)
      watch_printed request form (Desk Store) gone = absurd gone
      watch_printed request form (Desk Print) gone = inr (inr (inr (inl (request, form, gone.1.0, gone.1.1, inr (refl, gone.0, gone.1.2)))))
      watch_printed request form (Refused refusal) gone = inl ((λ is. cc is), (λ is. cc is), (λ is. cc is), gone.0)
      watch_printed request form Memory gone = inl ((λ is. cc is), (λ is. cc is), (λ is. cc is), gone)
      watch_printed request form Break gone = inr (inr (inr (inl (request, form, gone.0, watch_seen request _ gone.0 gone.1, inl (inr (inl refl), gone.2)))))
      watch_printed request form Limit gone = inr (inr (inr (inl (request, form, gone.0, watch_seen request _ gone.0 gone.1, inl (inr (inr refl), gone.2)))))
      watch_printed request form BadStart gone = inl ((λ is. cc is), (λ is. cc is), (λ is. cc is), gone.0)
      watch_printed request form (Differs line) gone = absurd gone

      hex_printed : (input output : List ℕ) → form_of words ≡ Some (HexForm input output) → (e : Ending) → LeavesHex input output e before after → PrintsAsSaid words (status_of e) before after
      hex_printed input output form Done gone = inr (inr (inr (inr (inl (input, output, form, gone.0, gone.1.writes, inl (refl, gone.2))))))
      hex_printed input output form Words gone = absurd gone
      hex_printed input output form (Desk Load) gone = inl ((λ is. cc is), (λ is. cc is), (λ is. cc is), gone.2)
      hex_printed input output form (Desk Store) gone = inl ((λ is. cc is), (λ is. cc is), (λ is. cc is), gone.4)
      hex_printed input output form (Desk Print) gone = inr (inr (inr (inr (inl (input, output, form, gone.0, gone.1.writes, inr (refl, gone.2, gone.3))))))
      hex_printed input output form (Refused refusal) gone = inl ((λ is. cc is), (λ is. cc is), (λ is. cc is), gone.2)
      hex_printed input output form Memory gone = inl ((λ is. cc is), (λ is. cc is), (λ is. cc is), gone.1)
      hex_printed input output form Break gone = absurd gone
      hex_printed input output form Limit gone = absurd gone
      hex_printed input output form BadStart gone = absurd gone
      hex_printed input output form (Differs line) gone = absurd gone

      check_printed : (input text : List ℕ) → form_of words ≡ Some (HexcheckForm input text) → (e : Ending) → CheckLeft input text e before after → PrintsAsSaid words (status_of e) before after
      check_printed input text form Done gone = inr (inr (inr (inr (inr (inl (input, text, form, gone.0, inl (refl, gone.1)))))))
      check_printed input text form Words gone = absurd gone
      check_printed input text form (Desk Load) gone = inl ((λ is. cc is), (λ is. cc is), (λ is. cc is), gone.0)
      check_printed input text form (Desk Store) gone = absurd gone
      check_printed input text form (Desk Print) gone = inr (inr (inr (inr (inr (inl (input, text, form, gone.1, inr (refl, gone.0, gone.2)))))))
      check_printed input text form (Refused refusal) gone = inl ((λ is. cc is), (λ is. cc is), (λ is. cc is), gone.0)
      check_printed input text form Memory gone = inl ((λ is. cc is), (λ is. cc is), (λ is. cc is), gone)
      check_printed input text form Break gone = absurd gone
      check_printed input text form Limit gone = absurd gone
      check_printed input text form BadStart gone = absurd gone
      check_printed input text form (Differs line) gone = inl ((λ is. cc is), (λ is. cc is), (λ is. cc is), gone.0)

      size_printed : (input : List ℕ) → form_of words ≡ Some (SizeForm input) → (e : Ending) → SizeLeft input e before after → PrintsAsSaid words (status_of e) before after
      size_printed input form = size_by_case input before after (λ e. PrintsAsSaid words (status_of e) before after) (record {
        done = λ gone. inr (inr (inr (inr (inr (inr (inl (input, form, gone.0, gone.1, inl (refl, gone.2))))))));
        load = λ gone. inl ((λ is. cc is), (λ is. cc is), (λ is. cc is), gone.0);
        print = λ gone. inr (inr (inr (inr (inr (inr (inl (input, form, gone.1, gone.2, inr (refl, gone.0, gone.3))))))));
        refused = λ refusal gone. inl ((λ is. cc is), (λ is. cc is), (λ is. cc is), gone.0);
        memory = λ gone. inl ((λ is. cc is), (λ is. cc is), (λ is. cc is), gone);
      })

      trial_printed : (first blocks : ℕ) → form_of words ≡ Some (TrialForm first blocks) → (e : Ending) → TrialLeft first blocks e before after → PrintsAsSaid words (status_of e) before after
      trial_printed first blocks form = trial_by_case first blocks before after (λ e. PrintsAsSaid words (status_of e) before after) (record {
        done = λ gone. inr (inr (inr (inr (inr (inr (inr (inl (first, blocks, form, gone.0, gone.1, inl (refl, gone.2)))))))));
        print = λ gone. inr (inr (inr (inr (inr (inr (inr (inl (first, blocks, form, gone.1, gone.2, inr (refl, gone.0, gone.3)))))))));
        memory = λ gone. inl ((λ is. cc is), (λ is. cc is), (λ is. cc is), gone);
      })

      cert_printed : (input output cert : List ℕ) → form_of words ≡ Some (CheckForm input output cert) → (e : Ending) → CertLeft input output cert e before after → PrintsAsSaid words (status_of e) before after
      cert_printed input output cert form = cert_by_case input output cert before after (λ e. PrintsAsSaid words (status_of e) before after) (record {
        done = λ gone. inr (inr (inr (inr (inr (inr (inr (inr (inl (input, output, cert, form, gone.0, gone.1, inl (refl, gone.2))))))))));
        load = λ gone. inl ((λ is. cc is), (λ is. cc is), (λ is. cc is), gone.0);
        print = λ gone. inr (inr (inr (inr (inr (inr (inr (inr (inl (input, output, cert, form, gone.1, gone.2, inr (refl, gone.0, gone.3))))))))));
        refused = λ refusal gone. inl ((λ is. cc is), (λ is. cc is), (λ is. cc is), gone.0);
        memory = λ gone. inl ((λ is. cc is), (λ is. cc is), (λ is. cc is), gone);
        differs = λ line gone. inl ((λ is. cc is), (λ is. cc is), (λ is. cc is), gone.0);
      })

      prove_printed : (input output cert : List ℕ) → form_of words ≡ Some (ProveForm input output cert) → (e : Ending) → LeavesProve input output cert e before after → PrintsAsSaid words (status_of e) before after
      prove_printed input output cert form = prove_by_case input output cert before after (λ e. PrintsAsSaid words (status_of e) before after) (record {
        done = λ gone. inr (inr (inr (inr (inr (inr (inr (inr (inr (inl (input, output, cert, form, gone.0, gone.1, gone.2, inl (refl, gone.4)))))))))));
        load = λ gone. inl ((λ is. cc is), (λ is. cc is), (λ is. cc is), gone.2);
        store = λ gone. inl ((λ is. cc is), (λ is. cc is), (λ is. cc is), gone.0);
        print = λ gone. inr (inr (inr (inr (inr (inr (inr (inr (inr (inl (input, output, cert, form, gone.1, gone.2, gone.3, inr (refl, gone.0, gone.5)))))))))));
        refused = λ refusal gone. inl ((λ is. cc is), (λ is. cc is), (λ is. cc is), gone.2);
        memory = λ gone. inl ((λ is. cc is), (λ is. cc is), (λ is. cc is), gone.0);
      })

      names_printed : (input cert : List ℕ) → form_of words ≡ Some (NamesForm input cert) → (e : Ending) → NamesLeft input cert e before after → PrintsAsSaid words (status_of e) before after
      names_printed input cert form = names_by_case input cert before after (λ e. PrintsAsSaid words (status_of e) before after) (record {
        done = λ gone. inr (inr (inr (inr (inr (inr (inr (inr (inr (inr (inl (input, cert, form, gone.0, gone.1, inl (refl, gone.2))))))))))));
        load = λ gone. inl ((λ is. cc is), (λ is. cc is), (λ is. cc is), gone.0);
        print = λ gone. inr (inr (inr (inr (inr (inr (inr (inr (inr (inr (inl (input, cert, form, gone.1, gone.2, inr (refl, gone.0, gone.3))))))))))));
        refused = λ refusal gone. inl ((λ is. cc is), (λ is. cc is), (λ is. cc is), gone.0);
        memory = λ gone. inl ((λ is. cc is), (λ is. cc is), (λ is. cc is), gone);
        differs = λ line gone. inl ((λ is. cc is), (λ is. cc is), (λ is. cc is), gone.0);
      })

      fold_printed : (input output : List ℕ) → form_of words ≡ Some (FoldForm input output) → (e : Ending) → LeavesFold input output e before after → PrintsAsSaid words (status_of e) before after
      fold_printed input output form = fold_by_case input output before after (λ e. PrintsAsSaid words (status_of e) before after) (record {
        done = λ gone. inr (inr (inr (inr (inr (inr (inr (inr (inr (inr (inr (input, output, form, gone.0, gone.1.folds, inl (refl, gone.2))))))))))));
        load = λ gone. inl ((λ is. cc is), (λ is. cc is), (λ is. cc is), gone.2);
        store = λ gone. inl ((λ is. cc is), (λ is. cc is), (λ is. cc is), gone.4);
        print = λ gone. inr (inr (inr (inr (inr (inr (inr (inr (inr (inr (inr (input, output, form, gone.0, gone.1.folds, inr (refl, gone.2, gone.3))))))))))));
        refused = λ refusal gone. inl ((λ is. cc is), (λ is. cc is), (λ is. cc is), gone.2);
        memory = λ gone. inl ((λ is. cc is), (λ is. cc is), (λ is. cc is), gone.1);
      })

      by_form : (form : Option Form) → form_of words ≡ form → Leaves form ending before after → PrintsAsSaid words (status_of ending) before after
      by_form None is gone = inl ((λ zero. cc (gone.0, zero)), (λ five. cc (gone.0, five)), (λ six. cc (gone.0, six)), gone.2)
      by_form (Some (PackForm input output)) is gone = pack_printed input output is ending gone
      by_form (Some (RunForm request)) is gone = run_printed request is ending gone.1
      by_form (Some (WatchForm request)) is gone = watch_printed request is ending gone.1
      by_form (Some (HexForm input output)) is gone = hex_printed input output is ending gone
      by_form (Some (HexcheckForm input text)) is gone = check_printed input text is ending gone.1
      by_form (Some (SizeForm input)) is gone = size_printed input is ending gone.1
      by_form (Some (TrialForm first blocks)) is gone = trial_printed first blocks is ending gone.1
      by_form (Some (CheckForm input output cert)) is gone = cert_printed input output cert is ending gone.1
      by_form (Some (ProveForm input output cert)) is gone = prove_printed input output cert is ending gone
      by_form (Some (NamesForm input cert)) is gone = names_printed input cert is ending gone.1
      by_form (Some (FoldForm input output)) is gone = fold_printed input output is ending gone
