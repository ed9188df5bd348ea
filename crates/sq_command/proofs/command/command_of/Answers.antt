-- the words of each form
use Rattle.sq_command.proofs.Forms.{pack_is, run_is, watch_is, hex_is, hexcheck_is, size_is, trial_is, check_is, prove_is, names_is, fold_is}
use Rattle.sq_command.proofs.command.command_of.Goals as goal

pub returns-clause-pack : goal.returns-clause-pack
returns-clause-pack c = pack_is c.args.words.now

pub returns-clause-run : goal.returns-clause-run
returns-clause-run c = run_is c.args.words.now

pub returns-clause-watch : goal.returns-clause-watch
returns-clause-watch c = watch_is c.args.words.now

pub returns-clause-hex : goal.returns-clause-hex
returns-clause-hex c = hex_is c.args.words.now

pub returns-clause-hexcheck : goal.returns-clause-hexcheck
returns-clause-hexcheck c = hexcheck_is c.args.words.now

pub returns-clause-size : goal.returns-clause-size
returns-clause-size c = size_is c.args.words.now

pub returns-clause-trial : goal.returns-clause-trial
returns-clause-trial c = trial_is c.args.words.now

pub returns-clause-check : goal.returns-clause-check
returns-clause-check c = check_is c.args.words.now

pub returns-clause-prove : goal.returns-clause-prove
returns-clause-prove c = prove_is c.args.words.now

pub returns-clause-names : goal.returns-clause-names
returns-clause-names c = names_is c.args.words.now

pub returns-clause-fold : goal.returns-clause-fold
returns-clause-fold c = fold_is c.args.words.now
