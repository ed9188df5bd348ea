-- each promise follows from the ending and what it leaves
use Rattle.std.proofs.Common.{◌≡◌, ◌≢◌, ◌↔◌, ℕ, None, sym, subst, ◌∙◌}
use Rattle.sq_command.specs.Commands.{form_of}
use Rattle.sq_desk.specs.Outside.{Outside, Place}
use Rattle.sq_top.specs.Statuses.{IsStatusOf}
use Rattle.sq_top.specs.Promises.{ForPack, RefusesExactly, IsComplete, StayOrHold, PrintsAsSaid}
use Rattle.sq_top.specs.RunPromises.{ForRun, RunsExactly, IsRunComplete}
use Rattle.sq_top.proofs.Promised.{done_promised, refused_promised, complete_promised, files_promised}
use Rattle.sq_top.proofs.StatusesPromised.{words_promised, statuses_promised, sound_promised, fault_promised, exact_promised, printed_promised}
use Rattle.sq_top.proofs.RunPromised.{run_files_promised, run_done_promised, run_limit_promised, run_bad_promised, run_fault_promised, run_refused_promised, run_exact_promised, run_complete_promised}
use Rattle.sq_top.specs.WatchPromises.{ForWatch, WatchesExactly, IsWatchComplete}
use Rattle.sq_top.proofs.WatchPromised.{watch_files_promised, watch_done_promised, watch_break_promised, watch_limit_promised, watch_bad_promised, watch_fault_promised, watch_refused_promised, watch_exact_promised, watch_complete_promised}
use Rattle.sq_top.specs.HexPromises.{ForHex, ForHexcheck, HexRefusesExactly, IsHexComplete, ChecksExactly, IsCheckComplete}
use Rattle.sq_top.proofs.HexPromised.{hex_done_promised, hex_fault_promised, hex_refused_promised, hex_exact_promised, hex_complete_promised, check_done_promised, check_differs_promised, check_fault_promised, check_refused_promised, check_exact_promised, check_complete_promised, check_files_promised}
use Rattle.sq_top.specs.SizePromises.{ForSize, IsSizeComplete}
use Rattle.sq_top.proofs.SizePromised.{size_done_promised, size_fault_promised, size_refused_promised, size_exact_promised, size_complete_promised, size_files_promised}
use Rattle.sq_top.specs.TrialPromises.{IsTrialComplete, ForTrial}
use Rattle.sq_top.proofs.TrialPromised.{trial_done_promised, trial_fault_promised, trial_complete_promised, trial_files_promised}
use Rattle.sq_top.specs.CertPromises.{ForCheck, CertifiesExactly, IsCertComplete}
use Rattle.sq_top.proofs.CertPromised.{cert_done_promised, cert_differs_promised, cert_fault_promised, cert_refused_promised, cert_exact_promised, cert_complete_promised, cert_files_promised}
use Rattle.sq_top.specs.ProvePromises.{ForProve, IsProveComplete}
use Rattle.sq_top.proofs.ProvePromised.{prove_done_promised, prove_fault_promised, prove_refused_promised, prove_exact_promised, prove_complete_promised}
use Rattle.sq_top.specs.NamesPromises.{ForNames, NamesExactly, IsNamesComplete}
use Rattle.sq_top.proofs.NamesPromised.{names_done_promised, names_differs_promised, names_fault_promised, names_refused_promised, names_exact_promised, names_complete_promised, names_files_promised}
use Rattle.sq_top.specs.FoldPromises.{ForFold}
use Rattle.sq_top.proofs.FoldPromised.{fold_done_promised, fold_fault_promised, fold_refused_promised, fold_exact_promised, fold_complete_promised}
use Rattle.sq_top.proofs.top.squeeze.Goals as goal

pub returns-clause-done : goal.returns-clause-done
returns-clause-done g c = λ input output form status.
    done_promised c.args.words.now c.run_and_complain-ending.result _ _ c.run_and_complain-ending.ensures input output form (sym c.status.ensures ∙ status)

pub returns-clause-fault : goal.returns-clause-fault
returns-clause-fault g c = λ input output form status.
    fault_promised c.args.words.now c.run_and_complain-ending.result _ _ c.run_and_complain-ending.ensures input output form (sym c.status.ensures ∙ status)

pub returns-clause-refused : goal.returns-clause-refused
returns-clause-refused g c = λ input output form status.
    refused_promised c.args.words.now c.run_and_complain-ending.result _ _ c.run_and_complain-ending.ensures input output form (sym c.status.ensures ∙ status)

pub returns-clause-exact : goal.returns-clause-exact
returns-clause-exact g c =
    let before : Outside = g.D.Desk.outside c.args.desk.now in
    let after : Outside = g.D.Desk.outside c.run_and_complain-ending.new.desk in
    let P : ℕ → Type 0 = λ status. ForPack c.args.words.now (λ input _. RefusesExactly input status before after) in
    subst P (sym c.status.ensures) (exact_promised c.args.words.now c.run_and_complain-ending.result before after c.run_and_complain-ending.ensures)

pub returns-clause-complete : goal.returns-clause-complete
returns-clause-complete g c =
    let before : Outside = g.D.Desk.outside c.args.desk.now in
    let after : Outside = g.D.Desk.outside c.run_and_complain-ending.new.desk in
    let P : ℕ → Type 0 = λ status. ForPack c.args.words.now (λ input output. IsComplete input output status before after) in
    subst P (sym c.status.ensures) (complete_promised c.args.words.now c.run_and_complain-ending.result before after c.run_and_complain-ending.ensures)

pub returns-clause-run_done : goal.returns-clause-run_done
returns-clause-run_done g c = λ request form status.
    run_done_promised c.args.words.now c.run_and_complain-ending.result _ _ c.run_and_complain-ending.ensures request form (sym c.status.ensures ∙ status)

pub returns-clause-run_limit : goal.returns-clause-run_limit
returns-clause-run_limit g c = λ request form status.
    run_limit_promised c.args.words.now c.run_and_complain-ending.result _ _ c.run_and_complain-ending.ensures request form (sym c.status.ensures ∙ status)

pub returns-clause-run_bad : goal.returns-clause-run_bad
returns-clause-run_bad g c = λ request form status.
    run_bad_promised c.args.words.now c.run_and_complain-ending.result _ _ c.run_and_complain-ending.ensures request form (sym c.status.ensures ∙ status)

pub returns-clause-run_fault : goal.returns-clause-run_fault
returns-clause-run_fault g c = λ request form status.
    run_fault_promised c.args.words.now c.run_and_complain-ending.result _ _ c.run_and_complain-ending.ensures request form (sym c.status.ensures ∙ status)

pub returns-clause-run_refused : goal.returns-clause-run_refused
returns-clause-run_refused g c = λ request form status.
    run_refused_promised c.args.words.now c.run_and_complain-ending.result _ _ c.run_and_complain-ending.ensures request form (sym c.status.ensures ∙ status)

pub returns-clause-run_exact : goal.returns-clause-run_exact
returns-clause-run_exact g c =
    let before : Outside = g.D.Desk.outside c.args.desk.now in
    let after : Outside = g.D.Desk.outside c.run_and_complain-ending.new.desk in
    let P : ℕ → Type 0 = λ status. ForRun c.args.words.now (λ request. RunsExactly request status before after) in
    subst P (sym c.status.ensures) (run_exact_promised c.args.words.now c.run_and_complain-ending.result before after c.run_and_complain-ending.ensures)

pub returns-clause-run_complete : goal.returns-clause-run_complete
returns-clause-run_complete g c =
    let before : Outside = g.D.Desk.outside c.args.desk.now in
    let after : Outside = g.D.Desk.outside c.run_and_complain-ending.new.desk in
    let P : ℕ → Type 0 = λ status. ForRun c.args.words.now (λ request. IsRunComplete request status before after) in
    subst P (sym c.status.ensures) (run_complete_promised c.args.words.now c.run_and_complain-ending.result before after c.run_and_complain-ending.ensures)

pub returns-clause-run_files : goal.returns-clause-run_files
returns-clause-run_files g c = run_files_promised c.args.words.now c.run_and_complain-ending.result _ _ c.run_and_complain-ending.ensures

pub returns-clause-watch_done : goal.returns-clause-watch_done
returns-clause-watch_done g c = λ request form status.
    watch_done_promised c.args.words.now c.run_and_complain-ending.result _ _ c.run_and_complain-ending.ensures request form (sym c.status.ensures ∙ status)

pub returns-clause-watch_break : goal.returns-clause-watch_break
returns-clause-watch_break g c = λ request form status.
    watch_break_promised c.args.words.now c.run_and_complain-ending.result _ _ c.run_and_complain-ending.ensures request form (sym c.status.ensures ∙ status)

pub returns-clause-watch_limit : goal.returns-clause-watch_limit
returns-clause-watch_limit g c = λ request form status.
    watch_limit_promised c.args.words.now c.run_and_complain-ending.result _ _ c.run_and_complain-ending.ensures request form (sym c.status.ensures ∙ status)

pub returns-clause-watch_bad : goal.returns-clause-watch_bad
returns-clause-watch_bad g c = λ request form status.
    watch_bad_promised c.args.words.now c.run_and_complain-ending.result _ _ c.run_and_complain-ending.ensures request form (sym c.status.ensures ∙ status)

pub returns-clause-watch_fault : goal.returns-clause-watch_fault
returns-clause-watch_fault g c = λ request form status.
    watch_fault_promised c.args.words.now c.run_and_complain-ending.result _ _ c.run_and_complain-ending.ensures request form (sym c.status.ensures ∙ status)

pub returns-clause-watch_refused : goal.returns-clause-watch_refused
returns-clause-watch_refused g c = λ request form status.
    watch_refused_promised c.args.words.now c.run_and_complain-ending.result _ _ c.run_and_complain-ending.ensures request form (sym c.status.ensures ∙ status)

pub returns-clause-watch_exact : goal.returns-clause-watch_exact
returns-clause-watch_exact g c =
    let before : Outside = g.D.Desk.outside c.args.desk.now in
    let after : Outside = g.D.Desk.outside c.run_and_complain-ending.new.desk in
    let P : ℕ → Type 0 = λ status. ForWatch c.args.words.now (λ request. WatchesExactly request status before after) in
    subst P (sym c.status.ensures) (watch_exact_promised c.args.words.now c.run_and_complain-ending.result before after c.run_and_complain-ending.ensures)

pub returns-clause-watch_complete : goal.returns-clause-watch_complete
returns-clause-watch_complete g c =
    let before : Outside = g.D.Desk.outside c.args.desk.now in
    let after : Outside = g.D.Desk.outside c.run_and_complain-ending.new.desk in
    let P : ℕ → Type 0 = λ status. ForWatch c.args.words.now (λ request. IsWatchComplete request status before after) in
    subst P (sym c.status.ensures) (watch_complete_promised c.args.words.now c.run_and_complain-ending.result before after c.run_and_complain-ending.ensures)

pub returns-clause-watch_files : goal.returns-clause-watch_files
returns-clause-watch_files g c = watch_files_promised c.args.words.now c.run_and_complain-ending.result _ _ c.run_and_complain-ending.ensures

pub returns-clause-hex_done : goal.returns-clause-hex_done
returns-clause-hex_done g c = λ input output form status.
    hex_done_promised c.args.words.now c.run_and_complain-ending.result _ _ c.run_and_complain-ending.ensures input output form (sym c.status.ensures ∙ status)

pub returns-clause-hex_fault : goal.returns-clause-hex_fault
returns-clause-hex_fault g c = λ input output form status.
    hex_fault_promised c.args.words.now c.run_and_complain-ending.result _ _ c.run_and_complain-ending.ensures input output form (sym c.status.ensures ∙ status)

pub returns-clause-hex_refused : goal.returns-clause-hex_refused
returns-clause-hex_refused g c = λ input output form status.
    hex_refused_promised c.args.words.now c.run_and_complain-ending.result _ _ c.run_and_complain-ending.ensures input output form (sym c.status.ensures ∙ status)

pub returns-clause-check_done : goal.returns-clause-check_done
returns-clause-check_done g c = λ input text form status.
    check_done_promised c.args.words.now c.run_and_complain-ending.result _ _ c.run_and_complain-ending.ensures input text form (sym c.status.ensures ∙ status)

pub returns-clause-check_differs : goal.returns-clause-check_differs
returns-clause-check_differs g c = λ input text form status.
    check_differs_promised c.args.words.now c.run_and_complain-ending.result _ _ c.run_and_complain-ending.ensures input text form (sym c.status.ensures ∙ status)

pub returns-clause-check_fault : goal.returns-clause-check_fault
returns-clause-check_fault g c = λ input text form status.
    check_fault_promised c.args.words.now c.run_and_complain-ending.result _ _ c.run_and_complain-ending.ensures input text form (sym c.status.ensures ∙ status)

pub returns-clause-check_refused : goal.returns-clause-check_refused
returns-clause-check_refused g c = λ input text form status.
    check_refused_promised c.args.words.now c.run_and_complain-ending.result _ _ c.run_and_complain-ending.ensures input text form (sym c.status.ensures ∙ status)

pub returns-clause-hex_exact : goal.returns-clause-hex_exact
returns-clause-hex_exact g c =
    let before : Outside = g.D.Desk.outside c.args.desk.now in
    let after : Outside = g.D.Desk.outside c.run_and_complain-ending.new.desk in
    let P : ℕ → Type 0 = λ status. ForHex c.args.words.now (λ input _. HexRefusesExactly input status before after) in
    subst P (sym c.status.ensures) (hex_exact_promised c.args.words.now c.run_and_complain-ending.result before after c.run_and_complain-ending.ensures)

pub returns-clause-hex_complete : goal.returns-clause-hex_complete
returns-clause-hex_complete g c =
    let before : Outside = g.D.Desk.outside c.args.desk.now in
    let after : Outside = g.D.Desk.outside c.run_and_complain-ending.new.desk in
    let P : ℕ → Type 0 = λ status. ForHex c.args.words.now (λ input output. IsHexComplete input output status before after) in
    subst P (sym c.status.ensures) (hex_complete_promised c.args.words.now c.run_and_complain-ending.result before after c.run_and_complain-ending.ensures)

pub returns-clause-check_exact : goal.returns-clause-check_exact
returns-clause-check_exact g c =
    let before : Outside = g.D.Desk.outside c.args.desk.now in
    let after : Outside = g.D.Desk.outside c.run_and_complain-ending.new.desk in
    let P : ℕ → Type 0 = λ status. ForHexcheck c.args.words.now (λ input text. ChecksExactly input text status before after) in
    subst P (sym c.status.ensures) (check_exact_promised c.args.words.now c.run_and_complain-ending.result before after c.run_and_complain-ending.ensures)

pub returns-clause-check_complete : goal.returns-clause-check_complete
returns-clause-check_complete g c =
    let before : Outside = g.D.Desk.outside c.args.desk.now in
    let after : Outside = g.D.Desk.outside c.run_and_complain-ending.new.desk in
    let P : ℕ → Type 0 = λ status. ForHexcheck c.args.words.now (λ input text. IsCheckComplete input text status before after) in
    subst P (sym c.status.ensures) (check_complete_promised c.args.words.now c.run_and_complain-ending.result before after c.run_and_complain-ending.ensures)

pub returns-clause-check_files : goal.returns-clause-check_files
returns-clause-check_files g c = check_files_promised c.args.words.now c.run_and_complain-ending.result _ _ c.run_and_complain-ending.ensures

pub returns-clause-size_done : goal.returns-clause-size_done
returns-clause-size_done g c = λ input form status.
    size_done_promised c.args.words.now c.run_and_complain-ending.result _ _ c.run_and_complain-ending.ensures input form (sym c.status.ensures ∙ status)

pub returns-clause-size_fault : goal.returns-clause-size_fault
returns-clause-size_fault g c = λ input form status.
    size_fault_promised c.args.words.now c.run_and_complain-ending.result _ _ c.run_and_complain-ending.ensures input form (sym c.status.ensures ∙ status)

pub returns-clause-size_refused : goal.returns-clause-size_refused
returns-clause-size_refused g c = λ input form status.
    size_refused_promised c.args.words.now c.run_and_complain-ending.result _ _ c.run_and_complain-ending.ensures input form (sym c.status.ensures ∙ status)

pub returns-clause-size_exact : goal.returns-clause-size_exact
returns-clause-size_exact g c =
    let before : Outside = g.D.Desk.outside c.args.desk.now in
    let after : Outside = g.D.Desk.outside c.run_and_complain-ending.new.desk in
    let P : ℕ → Type 0 = λ status. ForSize c.args.words.now (λ input. RefusesExactly input status before after) in
    subst P (sym c.status.ensures) (size_exact_promised c.args.words.now c.run_and_complain-ending.result before after c.run_and_complain-ending.ensures)

pub returns-clause-size_complete : goal.returns-clause-size_complete
returns-clause-size_complete g c =
    let before : Outside = g.D.Desk.outside c.args.desk.now in
    let after : Outside = g.D.Desk.outside c.run_and_complain-ending.new.desk in
    let P : ℕ → Type 0 = λ status. ForSize c.args.words.now (λ input. IsSizeComplete input status before after) in
    subst P (sym c.status.ensures) (size_complete_promised c.args.words.now c.run_and_complain-ending.result before after c.run_and_complain-ending.ensures)

pub returns-clause-size_files : goal.returns-clause-size_files
returns-clause-size_files g c = size_files_promised c.args.words.now c.run_and_complain-ending.result _ _ c.run_and_complain-ending.ensures

pub returns-clause-trial_done : goal.returns-clause-trial_done
returns-clause-trial_done g c = λ first blocks form status.
    trial_done_promised c.args.words.now c.run_and_complain-ending.result _ _ c.run_and_complain-ending.ensures first blocks form (sym c.status.ensures ∙ status)

pub returns-clause-trial_fault : goal.returns-clause-trial_fault
returns-clause-trial_fault g c = λ first blocks form status.
    trial_fault_promised c.args.words.now c.run_and_complain-ending.result _ _ c.run_and_complain-ending.ensures first blocks form (sym c.status.ensures ∙ status)

pub returns-clause-trial_complete : goal.returns-clause-trial_complete
returns-clause-trial_complete g c =
    let before : Outside = g.D.Desk.outside c.args.desk.now in
    let after : Outside = g.D.Desk.outside c.run_and_complain-ending.new.desk in
    let P : ℕ → Type 0 = λ status. ForTrial c.args.words.now (λ _ _. IsTrialComplete status before after) in
    subst P (sym c.status.ensures) (trial_complete_promised c.args.words.now c.run_and_complain-ending.result before after c.run_and_complain-ending.ensures)

pub returns-clause-trial_files : goal.returns-clause-trial_files
returns-clause-trial_files g c = trial_files_promised c.args.words.now c.run_and_complain-ending.result _ _ c.run_and_complain-ending.ensures

pub returns-clause-cert_done : goal.returns-clause-cert_done
returns-clause-cert_done g c = λ input output cert form status.
    cert_done_promised c.args.words.now c.run_and_complain-ending.result _ _ c.run_and_complain-ending.ensures input output cert form (sym c.status.ensures ∙ status)

pub returns-clause-cert_differs : goal.returns-clause-cert_differs
returns-clause-cert_differs g c = λ input output cert form status.
    cert_differs_promised c.args.words.now c.run_and_complain-ending.result _ _ c.run_and_complain-ending.ensures input output cert form (sym c.status.ensures ∙ status)

pub returns-clause-cert_fault : goal.returns-clause-cert_fault
returns-clause-cert_fault g c = λ input output cert form status.
    cert_fault_promised c.args.words.now c.run_and_complain-ending.result _ _ c.run_and_complain-ending.ensures input output cert form (sym c.status.ensures ∙ status)

pub returns-clause-cert_refused : goal.returns-clause-cert_refused
returns-clause-cert_refused g c = λ input output cert form status.
    cert_refused_promised c.args.words.now c.run_and_complain-ending.result _ _ c.run_and_complain-ending.ensures input output cert form (sym c.status.ensures ∙ status)

pub returns-clause-cert_exact : goal.returns-clause-cert_exact
returns-clause-cert_exact g c =
    let before : Outside = g.D.Desk.outside c.args.desk.now in
    let after : Outside = g.D.Desk.outside c.run_and_complain-ending.new.desk in
    let P : ℕ → Type 0 = λ status. ForCheck c.args.words.now (λ input output cert. CertifiesExactly input output cert status before after) in
    subst P (sym c.status.ensures) (cert_exact_promised c.args.words.now c.run_and_complain-ending.result before after c.run_and_complain-ending.ensures)

pub returns-clause-cert_complete : goal.returns-clause-cert_complete
returns-clause-cert_complete g c =
    let before : Outside = g.D.Desk.outside c.args.desk.now in
    let after : Outside = g.D.Desk.outside c.run_and_complain-ending.new.desk in
    let P : ℕ → Type 0 = λ status. ForCheck c.args.words.now (λ input output cert. IsCertComplete input output cert status before after) in
    subst P (sym c.status.ensures) (cert_complete_promised c.args.words.now c.run_and_complain-ending.result before after c.run_and_complain-ending.ensures)

pub returns-clause-cert_files : goal.returns-clause-cert_files
returns-clause-cert_files g c = cert_files_promised c.args.words.now c.run_and_complain-ending.result _ _ c.run_and_complain-ending.ensures

pub returns-clause-prove_done : goal.returns-clause-prove_done
returns-clause-prove_done g c = λ input output cert form status.
    prove_done_promised c.args.words.now c.run_and_complain-ending.result _ _ c.run_and_complain-ending.ensures input output cert form (sym c.status.ensures ∙ status)

pub returns-clause-prove_fault : goal.returns-clause-prove_fault
returns-clause-prove_fault g c = λ input output cert form status.
    prove_fault_promised c.args.words.now c.run_and_complain-ending.result _ _ c.run_and_complain-ending.ensures input output cert form (sym c.status.ensures ∙ status)

pub returns-clause-prove_refused : goal.returns-clause-prove_refused
returns-clause-prove_refused g c = λ input output cert form status.
    prove_refused_promised c.args.words.now c.run_and_complain-ending.result _ _ c.run_and_complain-ending.ensures input output cert form (sym c.status.ensures ∙ status)

pub returns-clause-prove_exact : goal.returns-clause-prove_exact
returns-clause-prove_exact g c =
    let before : Outside = g.D.Desk.outside c.args.desk.now in
    let after : Outside = g.D.Desk.outside c.run_and_complain-ending.new.desk in
    let P : ℕ → Type 0 = λ status. ForProve c.args.words.now (λ input output cert. RefusesExactly input status before after) in
    subst P (sym c.status.ensures) (prove_exact_promised c.args.words.now c.run_and_complain-ending.result before after c.run_and_complain-ending.ensures)

pub returns-clause-prove_complete : goal.returns-clause-prove_complete
returns-clause-prove_complete g c =
    let before : Outside = g.D.Desk.outside c.args.desk.now in
    let after : Outside = g.D.Desk.outside c.run_and_complain-ending.new.desk in
    let P : ℕ → Type 0 = λ status. ForProve c.args.words.now (λ input output cert. IsProveComplete input output cert status before after) in
    subst P (sym c.status.ensures) (prove_complete_promised c.args.words.now c.run_and_complain-ending.result before after c.run_and_complain-ending.ensures)

pub returns-clause-names_done : goal.returns-clause-names_done
returns-clause-names_done g c = λ input cert form status.
    names_done_promised c.args.words.now c.run_and_complain-ending.result _ _ c.run_and_complain-ending.ensures input cert form (sym c.status.ensures ∙ status)

pub returns-clause-names_differs : goal.returns-clause-names_differs
returns-clause-names_differs g c = λ input cert form status.
    names_differs_promised c.args.words.now c.run_and_complain-ending.result _ _ c.run_and_complain-ending.ensures input cert form (sym c.status.ensures ∙ status)

pub returns-clause-names_fault : goal.returns-clause-names_fault
returns-clause-names_fault g c = λ input cert form status.
    names_fault_promised c.args.words.now c.run_and_complain-ending.result _ _ c.run_and_complain-ending.ensures input cert form (sym c.status.ensures ∙ status)

pub returns-clause-names_refused : goal.returns-clause-names_refused
returns-clause-names_refused g c = λ input cert form status.
    names_refused_promised c.args.words.now c.run_and_complain-ending.result _ _ c.run_and_complain-ending.ensures input cert form (sym c.status.ensures ∙ status)

pub returns-clause-names_exact : goal.returns-clause-names_exact
returns-clause-names_exact g c =
    let before : Outside = g.D.Desk.outside c.args.desk.now in
    let after : Outside = g.D.Desk.outside c.run_and_complain-ending.new.desk in
    let P : ℕ → Type 0 = λ status. ForNames c.args.words.now (λ input cert. NamesExactly input cert status before after) in
    subst P (sym c.status.ensures) (names_exact_promised c.args.words.now c.run_and_complain-ending.result before after c.run_and_complain-ending.ensures)

pub returns-clause-names_complete : goal.returns-clause-names_complete
returns-clause-names_complete g c =
    let before : Outside = g.D.Desk.outside c.args.desk.now in
    let after : Outside = g.D.Desk.outside c.run_and_complain-ending.new.desk in
    let P : ℕ → Type 0 = λ status. ForNames c.args.words.now (λ input cert. IsNamesComplete input cert status before after) in
    subst P (sym c.status.ensures) (names_complete_promised c.args.words.now c.run_and_complain-ending.result before after c.run_and_complain-ending.ensures)

pub returns-clause-names_files : goal.returns-clause-names_files
returns-clause-names_files g c = names_files_promised c.args.words.now c.run_and_complain-ending.result _ _ c.run_and_complain-ending.ensures

pub returns-clause-fold_done : goal.returns-clause-fold_done
returns-clause-fold_done g c = λ input output form status.
    fold_done_promised c.args.words.now c.run_and_complain-ending.result _ _ c.run_and_complain-ending.ensures input output form (sym c.status.ensures ∙ status)

pub returns-clause-fold_fault : goal.returns-clause-fold_fault
returns-clause-fold_fault g c = λ input output form status.
    fold_fault_promised c.args.words.now c.run_and_complain-ending.result _ _ c.run_and_complain-ending.ensures input output form (sym c.status.ensures ∙ status)

pub returns-clause-fold_refused : goal.returns-clause-fold_refused
returns-clause-fold_refused g c = λ input output form status.
    fold_refused_promised c.args.words.now c.run_and_complain-ending.result _ _ c.run_and_complain-ending.ensures input output form (sym c.status.ensures ∙ status)

pub returns-clause-fold_exact : goal.returns-clause-fold_exact
returns-clause-fold_exact g c =
    let before : Outside = g.D.Desk.outside c.args.desk.now in
    let after : Outside = g.D.Desk.outside c.run_and_complain-ending.new.desk in
    let P : ℕ → Type 0 = λ status. ForFold c.args.words.now (λ input _. RefusesExactly input status before after) in
    subst P (sym c.status.ensures) (fold_exact_promised c.args.words.now c.run_and_complain-ending.result before after c.run_and_complain-ending.ensures)

pub returns-clause-fold_complete : goal.returns-clause-fold_complete
returns-clause-fold_complete g c =
    let before : Outside = g.D.Desk.outside c.args.desk.now in
    let after : Outside = g.D.Desk.outside c.run_and_complain-ending.new.desk in
    let P : ℕ → Type 0 = λ status. ForFold c.args.words.now (λ input output. IsComplete input output status before after) in
    subst P (sym c.status.ensures) (fold_complete_promised c.args.words.now c.run_and_complain-ending.result before after c.run_and_complain-ending.ensures)

pub returns-clause-words : goal.returns-clause-words
returns-clause-words g c =
    let before : Outside = g.D.Desk.outside c.args.desk.now in
    let after : Outside = g.D.Desk.outside c.run_and_complain-ending.new.desk in
    let P : ℕ → Type 0 = λ status. (status ≡ 1) ↔ (form_of c.args.words.now ≡ None) in
    subst P (sym c.status.ensures) (words_promised c.args.words.now c.run_and_complain-ending.result before after c.run_and_complain-ending.ensures)

pub returns-clause-sound : goal.returns-clause-sound
returns-clause-sound g c =
    let before : Outside = g.D.Desk.outside c.args.desk.now in
    let after : Outside = g.D.Desk.outside c.run_and_complain-ending.new.desk in
    let P : ℕ → Type 0 = λ status. ((place : Place) → after.faults place ≡ 0) → status ≢ 2 in
    subst P (sym c.status.ensures) (sound_promised c.args.words.now c.run_and_complain-ending.result before after c.run_and_complain-ending.ensures)

pub returns-clause-statuses : goal.returns-clause-statuses
returns-clause-statuses g c =
    let before : Outside = g.D.Desk.outside c.args.desk.now in
    let after : Outside = g.D.Desk.outside c.run_and_complain-ending.new.desk in
    let P : ℕ → Type 0 = λ status. IsStatusOf (form_of c.args.words.now) status in
    subst P (sym c.status.ensures) (statuses_promised c.args.words.now c.run_and_complain-ending.result before after c.run_and_complain-ending.ensures)

pub returns-clause-files : goal.returns-clause-files
returns-clause-files g c =
    let before : Outside = g.D.Desk.outside c.args.desk.now in
    let after : Outside = g.D.Desk.outside c.run_and_complain-ending.new.desk in
    let P : ℕ → Type 0 = λ status. StayOrHold c.args.words.now status before after in
    subst P (sym c.status.ensures) (files_promised c.args.words.now c.run_and_complain-ending.result before after c.run_and_complain-ending.ensures)

pub returns-clause-printed : goal.returns-clause-printed
returns-clause-printed g c =
    let before : Outside = g.D.Desk.outside c.args.desk.now in
    let after : Outside = g.D.Desk.outside c.run_and_complain-ending.new.desk in
    let P : ℕ → Type 0 = λ status. PrintsAsSaid c.args.words.now status before after in
    subst P (sym c.status.ensures) (printed_promised c.args.words.now c.run_and_complain-ending.result before after c.run_and_complain-ending.ensures)
