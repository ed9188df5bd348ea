use Rattle.std.proofs.Common.{◌≡◌, ◌-◌, ◌∙◌, ap, sym, subst, arith}
use Rattle.sq_graph.specs.Room.{GraphAndRoom}
use Rattle.sq_graph.specs.Words.{words_of}
use Rattle.law_follow.specs.Follows.{Follows}
use Rattle.law_follow.proofs.Following.{graph_follows_itself}
use Rattle.sq_chain.proofs.Moved.{canonical_few}
use Rattle.sq_chain.proofs.Swept.{swept_fewer, swept_rewritten}
use Rattle.sq_chain.proofs.sweep.sweep_corners.Goals as goal

pub sweep_chain-requires-clause-blocks : goal.sweep_chain-requires-clause-blocks
sweep_chain-requires-clause-blocks c =
    let few = canonical_few c.args.graph.now.graph c.requires.canonical in
    let words = c.requires.words in
    omega (arith, few, words)

pub returns-in_err-sweep_chain-clause-follows : goal.returns-in_err-sweep_chain-clause-follows
returns-in_err-sweep_chain-clause-follows c = c.sweep_chain.ensures.follows

pub returns-then-not-branch-clause-follows : goal.returns-then-not-branch-clause-follows
returns-then-not-branch-clause-follows c =
    subst (λ (v : GraphAndRoom). Follows c.args.graph.now.graph v.graph) (sym (c.in_ok-sweep_chain.ensures.same (cc))) (graph_follows_itself c.args.graph.now.graph)

pub overflow_sub-done : goal.overflow_sub-done
overflow_sub-done c =
    omega (arith, c.requires.survey.words, c.in_ok-sweep_chain.ensures.survey.words, swept_fewer c.args.graph.now.graph c.sweep_chain.new.graph.graph (c.in_ok-sweep_chain.ensures.swept (cc)))

pub returns-clause-rewritten : goal.returns-clause-rewritten
returns-clause-rewritten c =
    let g = c.args.graph.now.graph in
    let words = c.in_ok-sweep_chain.ensures.survey.words in
    let is : c.args.looks.now.view.places.words - c.sweep_chain.new.view.places.words ≡ words_of g - words_of c.sweep_chain.new.graph.graph =
    ap (λ n. n - c.sweep_chain.new.view.places.words) c.requires.survey.words ∙ ap (λ n. words_of g - n) words
    in
    swept_rewritten g c.sweep_chain.new.graph.graph (c.in_ok-sweep_chain.ensures.swept (cc)) (c.args.looks.now.view.places.words - c.sweep_chain.new.view.places.words) c.args.savings c.count.result is c.count.ensures.value

pub returns-clause-follows : goal.returns-clause-follows
returns-clause-follows c = (returns-clause-rewritten c).lighter.follows
