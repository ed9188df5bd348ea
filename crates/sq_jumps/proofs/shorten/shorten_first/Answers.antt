use Rattle.law_follow.proofs.Following.{graph_follows_itself}
use Rattle.sq_jumps.proofs.ShortenRuns.{first_run}
use Rattle.sq_jumps.proofs.shorten.shorten_first.Goals as goal

pub returns-in_err-live-clause-follows : goal.returns-in_err-live-clause-follows
returns-in_err-live-clause-follows c = graph_follows_itself c.args.graph.now.graph

pub returns-in_err-count-clause-follows : goal.returns-in_err-count-clause-follows
returns-in_err-count-clause-follows c = graph_follows_itself c.args.graph.now.graph

pub returns-clause-shortened : goal.returns-clause-shortened
returns-clause-shortened c = (first_run c.args.graph.now.graph c.shorten_each.new.graph.graph c.args.blocks.now c.in_ok-count.count c.learn.ensures.rules c.requires c.in_ok-count.ensures c.shorten_each.ensures).shortened

pub returns-clause-lighter : goal.returns-clause-lighter
returns-clause-lighter c = (first_run c.args.graph.now.graph c.shorten_each.new.graph.graph c.args.blocks.now c.in_ok-count.count c.learn.ensures.rules c.requires c.in_ok-count.ensures c.shorten_each.ensures).lighter

pub returns-clause-slotted : goal.returns-clause-slotted
returns-clause-slotted c = (first_run c.args.graph.now.graph c.shorten_each.new.graph.graph c.args.blocks.now c.in_ok-count.count c.learn.ensures.rules c.requires c.in_ok-count.ensures c.shorten_each.ensures).slotted

pub returns-clause-follows : goal.returns-clause-follows
returns-clause-follows c = (first_run c.args.graph.now.graph c.shorten_each.new.graph.graph c.args.blocks.now c.in_ok-count.count c.learn.ensures.rules c.requires c.in_ok-count.ensures c.shorten_each.ensures).lighter.follows
