use Rattle.std.proofs.Common.{sym, ◌∙◌, subst, arith}
use Rattle.sq_graph.specs.Graph.{Graph}
use Rattle.law_follow.specs.Follows.{Follows}
use Rattle.law_follow.proofs.Following.{graph_follows_itself}
use Rattle.sq_chain.specs.Candidates.{IsSwept}
use Rattle.sq_chain.specs.Surveys.{IsPlaced, NoneFalls}
use Rattle.sq_chain.proofs.Distant.{stays, addresses_stay}
use Rattle.sq_chain.proofs.Replaced.{placed_survey}
use Rattle.sq_chain.proofs.Swept.{swept_follows}
use Rattle.sq_chain.proofs.sweep.sweep_near.Goals as goal

pub returns-in_err-they-clause-follows : goal.returns-in_err-they-clause-follows
returns-in_err-they-clause-follows c = graph_follows_itself c.args.graph.now.graph

pub returns-in_err-loosen-clause-follows : goal.returns-in_err-loosen-clause-follows
returns-in_err-loosen-clause-follows c = subst (λ (k : Graph). Follows c.args.graph.now.graph k) (sym c.loosen.ensures.graph) (graph_follows_itself c.args.graph.now.graph)

pub returns-in_err-reserve-clause-follows : goal.returns-in_err-reserve-clause-follows
returns-in_err-reserve-clause-follows c =
    subst (λ (k : Graph). Follows c.args.graph.now.graph k) (sym (c.reserve.ensures.graph ∙ c.loosen.ensures.graph)) (graph_follows_itself c.args.graph.now.graph)

pub carry_joined-requires-clause-placed : goal.carry_joined-requires-clause-placed
carry_joined-requires-clause-placed c =
    subst (λ (k : Graph). IsPlaced k c.args.view.now.places) (sym (c.reserve.ensures.graph ∙ c.loosen.ensures.graph))
    (record {
      addresses = addresses_stay c.args.graph.now.graph c.args.view.now c.requires.survey c.requires.stays;
      words = c.requires.survey.words;
      branches = c.requires.survey.branches;
    })

pub carry_joined-requires-clause-falls : goal.carry_joined-requires-clause-falls
carry_joined-requires-clause-falls c =
    subst NoneFalls (sym (c.reserve.ensures.graph ∙ c.loosen.ensures.graph))
    (stays c.args.graph.now.graph (omega (arith, c.requires.survey.falls, c.requires.stays)))

pub returns-in_err-view-clause-follows : goal.returns-in_err-view-clause-follows
returns-in_err-view-clause-follows c =
    swept_follows c.args.graph.now.graph c.carry_joined.new.graph.graph
    (subst (λ (k : Graph). IsSwept k c.carry_joined.new.graph.graph) (c.reserve.ensures.graph ∙ c.loosen.ensures.graph) c.carry_joined.ensures.swept.0)

pub returns-then-carry_joined-clause-survey : goal.returns-then-carry_joined-clause-survey
returns-then-carry_joined-clause-survey c =
    placed_survey c.carry_joined.new.graph.graph c.args.view.now c.carry_joined.new.places c.names-view.result c.requires.stays c.carry_joined.ensures.swept.1
    (c.carry_joined.ensures.placed c.if-carry_joined.true) (c.carry_joined.ensures.falls c.if-carry_joined.true) c.names-view.ensures.count

pub returns-then-carry_joined-clause-follows : goal.returns-then-carry_joined-clause-follows
returns-then-carry_joined-clause-follows c =
    swept_follows c.args.graph.now.graph c.carry_joined.new.graph.graph
    (subst (λ (k : Graph). IsSwept k c.carry_joined.new.graph.graph) (c.reserve.ensures.graph ∙ c.loosen.ensures.graph) c.carry_joined.ensures.swept.0)

pub returns-in_ok-view-clause-follows : goal.returns-in_ok-view-clause-follows
returns-in_ok-view-clause-follows c =
    swept_follows c.args.graph.now.graph c.carry_joined.new.graph.graph
    (subst (λ (k : Graph). IsSwept k c.carry_joined.new.graph.graph) (c.reserve.ensures.graph ∙ c.loosen.ensures.graph) c.carry_joined.ensures.swept.0)
