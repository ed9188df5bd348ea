use Rattle.std.proofs.Common.{Ok, ap, subst}
use Rattle.sq_graph.specs.Graph.{Graph}
use Rattle.sq_pass.specs.Applied.{IsApplied}
use Rattle.sq_drive.specs.Rows.{row_described}
use Rattle.sq_drive.proofs.Replays.{none_given}
use Rattle.sq_drive.proofs.Rewrites.{small_room}
use Rattle.sq_drive.proofs.Tracked.{row_made_so}
use Rattle.sq_drive.proofs.tracking.making.make_row.Goals as goal

pub returns-in_default-clause-none : goal.returns-in_default-clause-none
returns-in_default-clause-none c = λ e.
    none_given c.args.cut c.args.graph.now.graph c.requires.row (c.in_ok-cut.ensures.none (ap Ok c.in_default.is))

pub reserve-requires : goal.reserve-requires
reserve-requires c = small_room c.args.graph.now.graph c.room.result c.requires.canonical c.requires.words c.room.ensures.within

pub returns-clause-made : goal.returns-clause-made
returns-clause-made c = λ e.
    let mid = c.apply.new.graph.graph in
    let found = rw c.in-Some.is at c.in_ok-cut.ensures.some in
    let applied = subst (λ (same : Graph). IsApplied c.in-Some.cut.saving (row_described same c.in-Some.cut) same mid) c.reserve.ensures.graph c.apply.ensures.applied in
    row_made_so c.args.cut c.in-Some.cut c.args.graph.now.graph mid found.1 found.0 applied
