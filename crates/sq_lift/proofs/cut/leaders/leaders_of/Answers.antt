use Rattle.std.proofs.Common.{[]}
use Rattle.law_program.specs.Programs.{Program}
use Rattle.sq_lift.specs.Flags.{is_flagged}
use Rattle.sq_lift.proofs.Raising.{leaders_are}
use Rattle.sq_lift.proofs.cut.leaders.leaders_of.Goals as goal

pub returns : goal.returns
returns c = λ x.
    let p : Program = record { text = c.args.text.now; entry = c.args.entry; code_words = c.args.code_words.now; notes = [] } in
    leaders_are (is_flagged c.args.reached.now) c.args.procedures.now p c.in_ok-leaders.leaders c.add.new.set c.add_targets.new.set c.add_words.new.set c.in_ok-leaders.ensures c.add.ensures c.add_targets.ensures c.add_words.ensures x
