-- by the first word
use Rattle.std.proofs.Common.{◌≡◌, None, sym, ap, ◌∙◌}
use Rattle.std.specs.Option.{option_map}
use Rattle.sq_command.specs.Commands.{form}
use Rattle.sq_command.proofs.Forms.{at_none, at_pack, at_run, at_watch, at_hex, at_hexcheck, at_size, at_trial, at_check, at_prove, at_names, at_fold, at_other}
use Rattle.sq_command.proofs.command.named_command.Goals as goal

pub returns-in_err-verb : goal.returns-in_err-verb
returns-in_err-verb c =
    let none : option_map (form c.args.words.now) c.from_residual.result ≡ None = ap (option_map (form c.args.words.now)) c.from_residual.ensures in
    none ∙ sym (at_none c.args.words.now (sym c.in_err-verb.ensures))

pub returns-then-eq : goal.returns-then-eq
returns-then-eq c =
    c.pack_words.ensures ∙ sym (at_pack c.args.words.now c.in_ok-verb.verb.now (sym c.in_ok-verb.ensures) (sym c.if-eq.ensures))

pub returns-then-eq-2 : goal.returns-then-eq-2
returns-then-eq-2 c =
    c.run_command.ensures ∙ sym (at_run c.args.words.now c.in_ok-verb.verb.now (sym c.in_ok-verb.ensures) (sym c.if-eq.ensures) (sym c.if-eq-2.ensures))

pub returns-then-eq-3 : goal.returns-then-eq-3
returns-then-eq-3 c =
    c.watch_command.ensures ∙ sym (at_watch c.args.words.now c.in_ok-verb.verb.now (sym c.in_ok-verb.ensures) (sym c.if-eq.ensures) (sym c.if-eq-2.ensures) (sym c.if-eq-3.ensures))

pub returns-then-eq-4 : goal.returns-then-eq-4
returns-then-eq-4 c =
    c.hex_words.ensures ∙ sym (at_hex c.args.words.now c.in_ok-verb.verb.now (sym c.in_ok-verb.ensures) (sym c.if-eq.ensures) (sym c.if-eq-2.ensures) (sym c.if-eq-3.ensures) (sym c.if-eq-4.ensures))

pub returns-then-eq-5 : goal.returns-then-eq-5
returns-then-eq-5 c =
    c.hexcheck_words.ensures ∙ sym (at_hexcheck c.args.words.now c.in_ok-verb.verb.now (sym c.in_ok-verb.ensures) (sym c.if-eq.ensures) (sym c.if-eq-2.ensures) (sym c.if-eq-3.ensures) (sym c.if-eq-4.ensures) (sym c.if-eq-5.ensures))

pub returns-then-eq-6 : goal.returns-then-eq-6
returns-then-eq-6 c =
    c.size_words.ensures ∙ sym (at_size c.args.words.now c.in_ok-verb.verb.now (sym c.in_ok-verb.ensures) (sym c.if-eq.ensures) (sym c.if-eq-2.ensures) (sym c.if-eq-3.ensures) (sym c.if-eq-4.ensures) (sym c.if-eq-5.ensures) (sym c.if-eq-6.ensures))

pub returns-then-eq-7 : goal.returns-then-eq-7
returns-then-eq-7 c =
    c.trial_words.ensures ∙ sym (at_trial c.args.words.now c.in_ok-verb.verb.now (sym c.in_ok-verb.ensures) (sym c.if-eq.ensures) (sym c.if-eq-2.ensures) (sym c.if-eq-3.ensures) (sym c.if-eq-4.ensures) (sym c.if-eq-5.ensures) (sym c.if-eq-6.ensures) (sym c.if-eq-7.ensures))

pub returns-then-eq-8 : goal.returns-then-eq-8
returns-then-eq-8 c =
    c.check_words.ensures ∙ sym (at_check c.args.words.now c.in_ok-verb.verb.now (sym c.in_ok-verb.ensures) (sym c.if-eq.ensures) (sym c.if-eq-2.ensures) (sym c.if-eq-3.ensures) (sym c.if-eq-4.ensures) (sym c.if-eq-5.ensures) (sym c.if-eq-6.ensures) (sym c.if-eq-7.ensures) (sym c.if-eq-8.ensures))

pub returns-then-eq-9 : goal.returns-then-eq-9
returns-then-eq-9 c =
    c.prove_words.ensures ∙ sym (at_prove c.args.words.now c.in_ok-verb.verb.now (sym c.in_ok-verb.ensures) (sym c.if-eq.ensures) (sym c.if-eq-2.ensures) (sym c.if-eq-3.ensures) (sym c.if-eq-4.ensures) (sym c.if-eq-5.ensures) (sym c.if-eq-6.ensures) (sym c.if-eq-7.ensures) (sym c.if-eq-8.ensures) (sym c.if-eq-9.ensures))

pub returns-then-eq-10 : goal.returns-then-eq-10
returns-then-eq-10 c =
    c.names_words.ensures ∙ sym (at_names c.args.words.now c.in_ok-verb.verb.now (sym c.in_ok-verb.ensures) (sym c.if-eq.ensures) (sym c.if-eq-2.ensures) (sym c.if-eq-3.ensures) (sym c.if-eq-4.ensures) (sym c.if-eq-5.ensures) (sym c.if-eq-6.ensures) (sym c.if-eq-7.ensures) (sym c.if-eq-8.ensures) (sym c.if-eq-9.ensures) (sym c.if-eq-10.ensures))

pub returns-then-eq-11 : goal.returns-then-eq-11
returns-then-eq-11 c =
    c.fold_words.ensures ∙ sym (at_fold c.args.words.now c.in_ok-verb.verb.now (sym c.in_ok-verb.ensures) (sym c.if-eq.ensures) (sym c.if-eq-2.ensures) (sym c.if-eq-3.ensures) (sym c.if-eq-4.ensures) (sym c.if-eq-5.ensures) (sym c.if-eq-6.ensures) (sym c.if-eq-7.ensures) (sym c.if-eq-8.ensures) (sym c.if-eq-9.ensures) (sym c.if-eq-10.ensures) (sym c.if-eq-11.ensures))

pub returns-else-eq-11 : goal.returns-else-eq-11
returns-else-eq-11 c =
    sym (at_other c.args.words.now c.in_ok-verb.verb.now (sym c.in_ok-verb.ensures) (sym c.if-eq.ensures) (sym c.if-eq-2.ensures) (sym c.if-eq-3.ensures) (sym c.if-eq-4.ensures) (sym c.if-eq-5.ensures) (sym c.if-eq-6.ensures) (sym c.if-eq-7.ensures) (sym c.if-eq-8.ensures) (sym c.if-eq-9.ensures) (sym c.if-eq-10.ensures) (sym c.if-eq-11.ensures))
