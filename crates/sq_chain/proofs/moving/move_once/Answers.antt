use Rattle.std.proofs.Common.{◌≡◌, ◌-◌, ◌∙◌, ap, arith}
use Rattle.sq_graph.specs.Words.{words_of}
use Rattle.sq_chain.proofs.Moved.{canonical_few, move_rewrite, move_lighter}
use Rattle.sq_chain.proofs.moving.move_once.Goals as goal

pub move_first-requires-clause-blocks : goal.move_first-requires-clause-blocks
move_first-requires-clause-blocks c =
    let few = canonical_few c.args.graph.now.graph c.requires.canonical in
    let words = c.requires.words in
    omega (arith, few, words)

pub returns-clause-some : goal.returns-clause-some
returns-clause-some c =
    let g = c.args.graph.now.graph in
    let m = c.in_ok-move_first.ensures.moved (cc) in
    let is : c.words_of-before.result - c.words_of.result ≡ words_of c.args.graph.now.graph - words_of c.canonical.new.self.graph = ap (λ n. n - c.words_of.result) c.words_of-before.ensures ∙ ap (λ n. words_of g - n) c.words_of.ensures in
    move_rewrite g c.move_first.new.graph.graph c.canonical.new.self.graph m.from m.to m.moved c.canonical.ensures.graph c.canonical.ensures.canonical c.canonical.ensures.words (c.words_of-before.result - c.words_of.result) is

pub returns-clause-lighter : goal.returns-clause-lighter
returns-clause-lighter c =
    let g = c.args.graph.now.graph in
    let m = c.in_ok-move_first.ensures.moved (cc) in
    let is : c.words_of-before.result - c.words_of.result ≡ words_of c.args.graph.now.graph - words_of c.canonical.new.self.graph = ap (λ n. n - c.words_of.result) c.words_of-before.ensures ∙ ap (λ n. words_of g - n) c.words_of.ensures in
    move_lighter g c.move_first.new.graph.graph c.canonical.new.self.graph m.from m.to m.moved c.canonical.ensures.graph c.canonical.ensures.canonical c.canonical.ensures.words (c.words_of-before.result - c.words_of.result) is
