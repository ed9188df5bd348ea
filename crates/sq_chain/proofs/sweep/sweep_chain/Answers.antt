use Rattle.std.proofs.Common.{◌≡◌, sym, subst}
use Rattle.std.specs.Prelude.{IfSome}
use Rattle.sq_graph.specs.Room.{GraphAndRoom}
use Rattle.law_follow.specs.Follows.{Follows}
use Rattle.law_follow.proofs.Following.{graph_follows_itself}
use Rattle.sq_lookup.specs.Counts.{AreKnown}
use Rattle.sq_chain.specs.Moves.{carried, fallen}
use Rattle.sq_chain.specs.Settled.{Widens}
use Rattle.sq_chain.proofs.Broad.{near_least, least_by}
use Rattle.sq_chain.proofs.Swept.{swept_follows}
use Rattle.sq_chain.proofs.sweep.sweep_chain.Goals as goal

pub returns-in_err-outlook-clause-follows : goal.returns-in_err-outlook-clause-follows
returns-in_err-outlook-clause-follows c = graph_follows_itself c.args.graph.now.graph

pub sweep_near-requires-clause-stays : goal.sweep_near-requires-clause-stays
sweep_near-requires-clause-stays c = subst (λ o. IfSome o (λ wide. c.args.view.now.falls ≡ 0)) c.in-Some.is c.local_wide.ensures.stays

pub sweep_near-requires-clause-wide : goal.sweep_near-requires-clause-wide
sweep_near-requires-clause-wide c =
    let g = c.args.graph.now.graph in
    let from = c.args.corners.from in
    let to = c.args.corners.to in
    least_by g (fallen (carried g from to)) c.in_ok-outlook.outlook c.in-Some.wide
    (subst (λ o. IfSome o (λ wide. Widens c.in_ok-outlook.outlook wide)) c.in-Some.is c.local_wide.ensures.wide)
    (λ same. near_least g from to c.learn.ensures.rules c.requires.movable (c.in_ok-outlook.ensures.near (cc)))
    (λ few same. c.in_ok-outlook.ensures.few few (cc))

pub returns-in_err-sweep_near-clause-follows : goal.returns-in_err-sweep_near-clause-follows
returns-in_err-sweep_near-clause-follows c = c.sweep_near.ensures.follows

pub move_by-requires-clause-near : goal.move_by-requires-clause-near
move_by-requires-clause-near c = λ same. c.in_ok-outlook.ensures.near (cc)

pub move_by-requires-clause-stays : goal.move_by-requires-clause-stays
move_by-requires-clause-stays c = λ same. c.in_ok-outlook.ensures.still (cc)

pub returns-in_err-move_by-clause-follows : goal.returns-in_err-move_by-clause-follows
returns-in_err-move_by-clause-follows c =
    subst (λ (v : GraphAndRoom). Follows c.args.graph.now.graph v.graph) (sym c.in_err-move_by.ensures.kept) (graph_follows_itself c.args.graph.now.graph)

pub returns-then-not-branch-clause-uses : goal.returns-then-not-branch-clause-uses
returns-then-not-branch-clause-uses c =
    subst (λ (v : GraphAndRoom). AreKnown v.graph c.args.uses.now) (sym (c.in_ok-move_by.ensures.same (cc))) c.requires.uses

pub returns-clause-swept : goal.returns-clause-swept
returns-clause-swept c = λ done.
    record {
      mid = c.move_by.new.graph.graph;
      moved = record { from = c.args.corners.from; to = c.args.corners.to; moved = c.in_ok-move_by.ensures.moved (cc) };
      is = c.canonical.ensures.graph;
    }

pub returns-then-not-branch-clause-follows : goal.returns-then-not-branch-clause-follows
returns-then-not-branch-clause-follows c =
    subst (λ (v : GraphAndRoom). Follows c.args.graph.now.graph v.graph) (sym (c.in_ok-move_by.ensures.same (cc))) (graph_follows_itself c.args.graph.now.graph)

pub returns-clause-follows : goal.returns-clause-follows
returns-clause-follows c =
    swept_follows c.args.graph.now.graph c.canonical.new.self.graph
    (record {
      mid = c.move_by.new.graph.graph;
      moved = record { from = c.args.corners.from; to = c.args.corners.to; moved = c.in_ok-move_by.ensures.moved (cc) };
      is = c.canonical.ensures.graph;
    })

pub returns-in_err-view-clause-follows : goal.returns-in_err-view-clause-follows
returns-in_err-view-clause-follows c =
    swept_follows c.args.graph.now.graph c.canonical.new.self.graph
    (record {
      mid = c.move_by.new.graph.graph;
      moved = record { from = c.args.corners.from; to = c.args.corners.to; moved = c.in_ok-move_by.ensures.moved (cc) };
      is = c.canonical.ensures.graph;
    })
