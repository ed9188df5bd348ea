use Rattle.std.proofs.Common.{sym, ap, subst}
use Rattle.sq_graph.specs.Room.{GraphAndRoom}
use Rattle.sq_graph.specs.Slotted.{IsSlotted}
use Rattle.sq_graph.proofs.Slotting.{slotted_again}
use Rattle.law_follow.specs.Follows.{Follows}
use Rattle.sq_drive.proofs.Replays.{tidy_lighter}
use Rattle.sq_drive.proofs.Rewrites.{made_canonical}
use Rattle.sq_drive.proofs.replaying.tidy.Goals as goal

pub returns-in_err-name_by_slots-clause-follows : goal.returns-in_err-name_by_slots-clause-follows
returns-in_err-name_by_slots-clause-follows c =
    let old = c.args.graph.now.graph in
    let made = c.canonical.ensures in
    subst (Follows old) (sym (ap (λ (v : GraphAndRoom). v.graph) c.in_err-name_by_slots.ensures.err))
    (made_canonical old c.canonical.new.self.graph c.learn.ensures.rules made.graph made.canonical made.words).follows

pub returns-clause-lighter : goal.returns-clause-lighter
returns-clause-lighter c =
    let made = c.canonical.ensures in
    tidy_lighter c.args.graph.now.graph c.canonical.new.self.graph c.name_by_slots.new.self.graph c.learn.ensures.rules made.rules made.graph made.canonical made.words c.in_ok-name_by_slots.ensures.graph

pub returns-clause-slotted : goal.returns-clause-slotted
returns-clause-slotted c = subst IsSlotted (sym c.in_ok-name_by_slots.ensures.graph) (slotted_again c.canonical.new.self.graph c.canonical.ensures.rules)

pub returns-clause-follows : goal.returns-clause-follows
returns-clause-follows c = (returns-clause-lighter c).follows
