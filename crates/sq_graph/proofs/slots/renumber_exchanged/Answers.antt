use Rattle.std.proofs.Common.{◌∙◌, arith}
use Rattle.sq_graph.proofs.Exchanged.{second_settles, second_call}
use Rattle.sq_graph.proofs.slots.renumber_exchanged.Goals as goal

pub renumber_until_right-requires-clause-place : goal.renumber_until_right-requires-clause-place
renumber_until_right-requires-clause-place c =
    (second_settles c.args.slots.now.entries c.args.front c.args.start c.args.back c.args.middle c.requires.exchanged c.requires.distinct).is_place

pub renumber_until_right-requires-clause-settles : goal.renumber_until_right-requires-clause-settles
renumber_until_right-requires-clause-settles c =
    (second_settles c.args.slots.now.entries c.args.front c.args.start c.args.back c.args.middle c.requires.exchanged c.requires.distinct).settles

pub renumber_until_right-requires-clause-fits : goal.renumber_until_right-requires-clause-fits
renumber_until_right-requires-clause-fits c =
    omega (arith, (second_settles c.args.slots.now.entries c.args.front c.args.start c.args.back c.args.middle c.requires.exchanged c.requires.distinct).counted, c.requires.fits)

pub renumber_until_right-requires-2-clause-distinct : goal.renumber_until_right-requires-2-clause-distinct
renumber_until_right-requires-2-clause-distinct c =
    (second_call c.args.slots.now.entries c.args.front c.args.start c.args.back c.args.middle c.requires.exchanged c.requires.distinct c.renumber_until_right.new.slots.entries c.renumber_until_right.ensures.entries).still

pub renumber_until_right-requires-2-clause-place : goal.renumber_until_right-requires-2-clause-place
renumber_until_right-requires-2-clause-place c =
    (second_call c.args.slots.now.entries c.args.front c.args.start c.args.back c.args.middle c.requires.exchanged c.requires.distinct c.renumber_until_right.new.slots.entries c.renumber_until_right.ensures.entries).call.is_place

pub renumber_until_right-requires-2-clause-settles : goal.renumber_until_right-requires-2-clause-settles
renumber_until_right-requires-2-clause-settles c =
    (second_call c.args.slots.now.entries c.args.front c.args.start c.args.back c.args.middle c.requires.exchanged c.requires.distinct c.renumber_until_right.new.slots.entries c.renumber_until_right.ensures.entries).call.settles

pub renumber_until_right-requires-2-clause-fits : goal.renumber_until_right-requires-2-clause-fits
renumber_until_right-requires-2-clause-fits c =
    let second = second_call c.args.slots.now.entries c.args.front c.args.start c.args.back c.args.middle c.requires.exchanged c.requires.distinct c.renumber_until_right.new.slots.entries c.renumber_until_right.ensures.entries in
    omega (arith, second.call.counted, second.length_is, c.requires.fits)

pub returns-clause-entries : goal.returns-clause-entries
returns-clause-entries c =
    c.renumber_until_right-2.ensures.entries
    ∙ (second_call c.args.slots.now.entries c.args.front c.args.start c.args.back c.args.middle c.requires.exchanged c.requires.distinct c.renumber_until_right.new.slots.entries c.renumber_until_right.ensures.entries).call.is
