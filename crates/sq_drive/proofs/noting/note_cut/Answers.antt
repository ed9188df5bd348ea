use Rattle.std.proofs.Common.{sym, subst}
use Rattle.sq_graph.specs.Graph.{Graph}
use Rattle.law_follow.proofs.Following.{graph_follows_through}
use Rattle.sq_pass.specs.Applied.{IsApplied}
use Rattle.sq_pass.proofs.Rewriting.{lighter_made}
use Rattle.sq_cert.specs.declared.step.Step.{Step}
use Rattle.sq_drive.specs.Replay.{IsStep}
use Rattle.sq_drive.specs.Rows.{row_described, row_saves}
use Rattle.sq_drive.proofs.NotedSteps.{row_stepped, row_rewritten, fewer_by}
use Rattle.sq_drive.proofs.Replays.{follows_same, less_by}
use Rattle.sq_drive.proofs.Rewrites.{small_room}
use Rattle.sq_drive.proofs.noting.note_cut.Goals as goal

pub reserve-requires : goal.reserve-requires
reserve-requires c = small_room c.args.graph.now.graph c.room.result c.requires.canonical c.requires.words c.room.ensures.within

pub returns-in_err-reserve-clause-follows : goal.returns-in_err-reserve-clause-follows
returns-in_err-reserve-clause-follows c = follows_same c.args.graph.now.graph c.reserve.new.self.graph c.reserve.ensures.graph

pub returns-in_err-tidy-clause-follows : goal.returns-in_err-tidy-clause-follows
returns-in_err-tidy-clause-follows c =
    let mid = c.apply.new.graph.graph in
    let applied = subst (λ (same : Graph). IsApplied c.args.cut.saving (row_described same c.args.cut) same mid) c.reserve.ensures.graph c.apply.ensures.applied in
    graph_follows_through c.args.graph.now.graph mid c.tidy.new.graph.graph applied.follows c.tidy.ensures.follows

pub returns-clause-step : goal.returns-clause-step
returns-clause-step c =
    let g = c.args.graph.now.graph in
    let mid = c.apply.new.graph.graph in
    let new = c.tidy.new.graph.graph in
    let candidate = c.requires.candidate in
    let applied = subst (λ (same : Graph). IsApplied c.args.cut.saving (row_described same c.args.cut) same mid) c.reserve.ensures.graph c.apply.ensures.applied in
    subst (λ (step : Step). IsStep step g new) (sym c.step_of.ensures) (row_stepped c.args.cut g mid new candidate applied c.in_ok-tidy.ensures.graph)

pub returns-clause-rewrite : goal.returns-clause-rewrite
returns-clause-rewrite c =
    let g = c.args.graph.now.graph in
    let mid = c.apply.new.graph.graph in
    let new = c.tidy.new.graph.graph in
    let candidate = c.requires.candidate in
    let applied = subst (λ (same : Graph). IsApplied c.args.cut.saving (row_described same c.args.cut) same mid) c.reserve.ensures.graph c.apply.ensures.applied in
    row_rewritten c.args.cut g mid new candidate applied c.in_ok-tidy.ensures.graph

pub returns-clause-lighter : goal.returns-clause-lighter
returns-clause-lighter c =
    let g = c.args.graph.now.graph in
    let mid = c.apply.new.graph.graph in
    let applied = subst (λ (same : Graph). IsApplied c.args.cut.saving (row_described same c.args.cut) same mid) c.reserve.ensures.graph c.apply.ensures.applied in
    lighter_made c.args.cut.saving (row_described g c.args.cut) g mid c.tidy.new.graph.graph applied c.in_ok-tidy.ensures.lighter

pub returns-clause-less : goal.returns-clause-less
returns-clause-less c =
    let g = c.args.graph.now.graph in
    let mid = c.apply.new.graph.graph in
    let applied = subst (λ (same : Graph). IsApplied c.args.cut.saving (row_described same c.args.cut) same mid) c.reserve.ensures.graph c.apply.ensures.applied in
    less_by c.args.cut.saving (row_described g c.args.cut) g mid c.tidy.new.graph.graph applied c.in_ok-tidy.ensures.lighter c.in_ok-tidy.ensures.slotted

pub returns-clause-fewer : goal.returns-clause-fewer
returns-clause-fewer c =
    let g = c.args.graph.now.graph in
    let mid = c.apply.new.graph.graph in
    let candidate = c.requires.candidate in
    let applied = subst (λ (same : Graph). IsApplied c.args.cut.saving (row_described same c.args.cut) same mid) c.reserve.ensures.graph c.apply.ensures.applied in
    fewer_by c.args.cut.saving (row_described g c.args.cut) g mid c.tidy.new.graph.graph applied c.in_ok-tidy.ensures.lighter (row_saves g c.args.cut candidate)

pub returns-clause-follows : goal.returns-clause-follows
returns-clause-follows c =
    let mid = c.apply.new.graph.graph in
    let applied = subst (λ (same : Graph). IsApplied c.args.cut.saving (row_described same c.args.cut) same mid) c.reserve.ensures.graph c.apply.ensures.applied in
    graph_follows_through c.args.graph.now.graph mid c.tidy.new.graph.graph applied.follows c.tidy.ensures.follows
