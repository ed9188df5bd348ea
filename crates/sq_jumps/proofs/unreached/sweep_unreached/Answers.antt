use Rattle.std.proofs.Common.{ap, ◌∙◌, arith}
use Rattle.law_follow.proofs.Following.{graph_follows_itself}
use Rattle.sq_pass.proofs.Rewriting.{rewritten_itself}
use Rattle.sq_jumps.specs.Candidates.{IsCandidate, described}
use Rattle.sq_jumps.specs.Unreached.{without_all}
use Rattle.sq_jumps.proofs.Cutting.{unreached_gone}
use Rattle.sq_jumps.proofs.Rewritten.{unreached_rewritten}
use Rattle.sq_jumps.proofs.UnreachedCounted.{cut_of, cut_is}
use Rattle.sq_jumps.proofs.unreached.sweep_unreached.Goals as goal

pub returns-in_err-names-clause-follows : goal.returns-in_err-names-clause-follows
returns-in_err-names-clause-follows c = graph_follows_itself c.args.graph.now.graph

pub returns-in_err-found-clause-follows : goal.returns-in_err-found-clause-follows
returns-in_err-found-clause-follows c = graph_follows_itself c.args.graph.now.graph

pub returns-then-found-eq0-clause-rewritten : goal.returns-then-found-eq0-clause-rewritten
returns-then-found-eq0-clause-rewritten c = rewritten_itself IsCandidate described c.args.savings c.args.graph.now.graph c.requires.canonical

pub returns-then-found-eq0-clause-follows : goal.returns-then-found-eq0-clause-follows
returns-then-found-eq0-clause-follows c = graph_follows_itself c.args.graph.now.graph

pub count-requires : goal.count-requires
count-requires c =
    let g = c.args.graph.now.graph in
    let found = c.in_ok-found.found in
    let more = c.if-found-eq0.false in
    let u = cut_is g found.gone found.saving c.in_ok-found.ensures.unreached c.in_ok-found.ensures.saving (omega (arith, more)) in
    let applied = unreached_gone g c.drop_unreached.new.graph.graph (cut_of found.gone found.saving) c.learn.ensures.rules u c.drop_unreached.ensures.rules (c.drop_unreached.ensures.graph ∙ ap (λ ns. without_all g ns) c.as_slice.ensures) in
    omega (arith, applied.words, c.requires.words)

pub returns-clause-rewritten : goal.returns-clause-rewritten
returns-clause-rewritten c =
    let g = c.args.graph.now.graph in
    let found = c.in_ok-found.found in
    let more = c.if-found-eq0.false in
    let u = cut_is g found.gone found.saving c.in_ok-found.ensures.unreached c.in_ok-found.ensures.saving (omega (arith, more)) in
    unreached_rewritten (cut_of found.gone found.saving) c.args.savings c.count.result g c.drop_unreached.new.graph.graph c.canonical.new.self.graph c.learn.ensures.rules u c.drop_unreached.ensures.rules (c.drop_unreached.ensures.graph ∙ ap (λ ns. without_all g ns) c.as_slice.ensures) c.canonical.ensures.graph c.canonical.ensures.canonical c.canonical.ensures.words c.count.ensures.value

pub returns-clause-follows : goal.returns-clause-follows
returns-clause-follows c = (returns-clause-rewritten c).lighter.follows
