use Rattle.std.proofs.Common.{Ok, ap, subst}
use Rattle.sq_graph.specs.Graph.{Graph}
use Rattle.law_follow.proofs.Following.{graph_follows_itself, graph_follows_through}
use Rattle.sq_pass.specs.Applied.{IsApplied}
use Rattle.sq_drive.specs.Rows.{row_described}
use Rattle.sq_drive.proofs.Replays.{follows_same, less_by, row_taken, none_given}
use Rattle.sq_drive.proofs.Rewrites.{small_room}
use Rattle.sq_drive.proofs.replaying.take_row.Goals as goal

pub returns-in_err-live-clause-follows : goal.returns-in_err-live-clause-follows
returns-in_err-live-clause-follows c = graph_follows_itself c.args.graph.now.graph

pub returns-in_err-cut-clause-follows : goal.returns-in_err-cut-clause-follows
returns-in_err-cut-clause-follows c = graph_follows_itself c.args.graph.now.graph

pub returns-in_default-clause-none : goal.returns-in_default-clause-none
returns-in_default-clause-none c = λ e.
    none_given c.args.cut c.args.graph.now.graph c.requires.row (c.in_ok-cut.ensures.none (ap Ok c.in_default.is))

pub returns-in_default-clause-follows : goal.returns-in_default-clause-follows
returns-in_default-clause-follows c = graph_follows_itself c.args.graph.now.graph

pub reserve-requires : goal.reserve-requires
reserve-requires c = small_room c.args.graph.now.graph c.room.result c.requires.canonical c.requires.words c.room.ensures.within

pub returns-in_err-reserve-clause-follows : goal.returns-in_err-reserve-clause-follows
returns-in_err-reserve-clause-follows c = follows_same c.args.graph.now.graph c.reserve.new.self.graph c.reserve.ensures.graph

pub returns-in_err-tidy-clause-follows : goal.returns-in_err-tidy-clause-follows
returns-in_err-tidy-clause-follows c =
    let mid = c.apply.new.graph.graph in
    let applied = subst (λ (same : Graph). IsApplied c.in-Some.cut.saving (row_described same c.in-Some.cut) same mid) c.reserve.ensures.graph c.apply.ensures.applied in
    graph_follows_through c.args.graph.now.graph mid c.tidy.new.graph.graph applied.follows c.tidy.ensures.follows

pub returns-clause-taken : goal.returns-clause-taken
returns-clause-taken c = λ e.
    let mid = c.apply.new.graph.graph in
    let found = rw c.in-Some.is at c.in_ok-cut.ensures.some in
    let applied = subst (λ (same : Graph). IsApplied c.in-Some.cut.saving (row_described same c.in-Some.cut) same mid) c.reserve.ensures.graph c.apply.ensures.applied in
    row_taken c.args.cut c.in-Some.cut c.args.graph.now.graph mid c.tidy.new.graph.graph found.1 found.0 applied c.in_ok-tidy.ensures.graph

pub returns-clause-less : goal.returns-clause-less
returns-clause-less c = λ e.
    let g = c.args.graph.now.graph in
    let mid = c.apply.new.graph.graph in
    let applied = subst (λ (same : Graph). IsApplied c.in-Some.cut.saving (row_described same c.in-Some.cut) same mid) c.reserve.ensures.graph c.apply.ensures.applied in
    less_by c.in-Some.cut.saving (row_described g c.in-Some.cut) g mid c.tidy.new.graph.graph applied c.in_ok-tidy.ensures.lighter c.in_ok-tidy.ensures.slotted

pub returns-clause-follows : goal.returns-clause-follows
returns-clause-follows c =
    let mid = c.apply.new.graph.graph in
    let applied = subst (λ (same : Graph). IsApplied c.in-Some.cut.saving (row_described same c.in-Some.cut) same mid) c.reserve.ensures.graph c.apply.ensures.applied in
    graph_follows_through c.args.graph.now.graph mid c.tidy.new.graph.graph applied.follows c.tidy.ensures.follows
