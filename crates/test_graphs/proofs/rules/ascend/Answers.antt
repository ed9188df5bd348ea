use Rattle.std.proofs.Common.{ℕ, ◌-◌, map, arith}
use Rattle.std.proofs.lemmas.List.{get_or-map, length-map}
use Rattle.sq_graph.specs.declared.parts.CodeRef.{CodeRef}
use Rattle.test_graphs.proofs.Looked.{ascends, ascends_more}
use Rattle.test_graphs.proofs.rules.ascend.Goals as goal

abbrev at_of : CodeRef → ℕ
at_of w = w.at

abbrev none : CodeRef
none = record { at = 0; block = 0 }

pub loop-place-preserved : goal.loop-place-preserved
loop-place-preserved c =
    ascends_more (map at_of c.args.words.now) c.loop-place.place c.loop-place.invariant
    (omega (arith, c.if-words-place.false, get_or-map at_of c.args.words.now (c.loop-place.place - 1) none 0 (omega (arith, c.loop-place-test.true)), get_or-map at_of c.args.words.now c.loop-place.place none 0 c.loop-place-test.true))

pub returns : goal.returns
returns c = λ _.
    ascends (map at_of c.args.words.now)
    (λ m there some. c.loop-place.invariant m (omega (arith, there, length-map c.args.words.now at_of, c.loop-place-test.false)) some)
