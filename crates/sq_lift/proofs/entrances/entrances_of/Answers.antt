use Rattle.std.proofs.Common.{[]}
use Rattle.law_program.specs.Programs.{Program}
use Rattle.sq_lift.specs.Flags.{is_flagged}
use Rattle.sq_lift.proofs.Gathered.{gathered}
use Rattle.sq_lift.proofs.entrances.entrances_of.Goals as goal

pub returns : goal.returns
returns c =
    let p : Program = record { text = c.args.text.now; entry = c.args.entry; code_words = c.args.code_words.now; notes = [] } in
    gathered (is_flagged c.args.reached.now) p c.in_ok-entrances.entrances c.add.new.self c.add_targets.new.self c.add_words.new.self c.in_ok-entrances.ensures c.add.ensures c.add_targets.ensures c.add_words.ensures
