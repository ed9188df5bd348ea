use Rattle.std.proofs.Common.{ap, ◌∙◌, arith}
use Rattle.sq_pass.specs.Counted.{counted}
use Rattle.sq_pass.specs.declared.cut.Row.TheVariants.{O2}
use Rattle.sq_outline.proofs.Calling.{is_matching}
use Rattle.sq_outline.specs.Called.{call_saving}
use Rattle.sq_outline.proofs.Sweeping.{call_rewritten, called_still, call_words}
use Rattle.sq_outline.proofs.sweep.rewrite_called.Goals as goal

pub call-requires-clause-some : goal.call-requires-clause-some
call-requires-clause-some c = let may = c.requires.may in let saves = may.saves in let some = may.some in omega arith

pub call-requires-clause-matching : goal.call-requires-clause-matching
call-requires-clause-matching c = is_matching c.args.graph.now.graph c.args.block c.args.procedure (call_saving c.args.graph.now.graph c.args.procedure) c.learn.ensures.rules c.requires.may

pub count-requires : goal.count-requires
count-requires c =
    let few = call_words c.args.graph.now.graph c.args.block c.args.procedure c.learn.ensures.rules c.requires.may in
    omega (arith, few, c.call_saving-saving.ensures, c.requires.words)

pub returns-clause-rewritten : goal.returns-clause-rewritten
returns-clause-rewritten c =
    call_rewritten c.args.graph.now.graph c.call.new.graph.graph c.args.block c.args.procedure c.learn.ensures.rules c.requires.procedure c.requires.may c.call.ensures.graph c.args.savings c.count.result c.requires.canonical
    (c.count.ensures.value ∙ ap (counted c.args.savings O2) c.call_saving-saving.ensures)

pub returns-clause-still : goal.returns-clause-still
returns-clause-still c = called_still c.args.graph.now.graph c.call.new.graph.graph c.args.block c.args.procedure c.learn.ensures.rules c.requires.procedure c.requires.may c.call.ensures.graph
