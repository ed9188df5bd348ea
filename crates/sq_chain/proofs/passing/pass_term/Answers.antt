use Rattle.std.proofs.Common.{sym, ◌∙◌, subst}
use Rattle.std.specs.Prelude.{IfSome}
use Rattle.sq_graph.specs.Graph.{Graph}
use Rattle.sq_lookup.specs.Counts.{AreUses}
use Rattle.sq_chain.specs.Passing.{IsTurned, IsPassedOn}
use Rattle.sq_chain.proofs.PassedOn.{added, passed_none, passed_one, one_rules, still_counted, uses_one}
use Rattle.sq_chain.proofs.passing.pass_term.Goals as goal

pub returns-in_default : goal.returns-in_default
returns-in_default c = record { passed = passed_none c.args.bare c.args.next c.args.graph.now.graph; uses = λ _. c.requires.uses }

pub returns-then-is_err-clause-passed : goal.returns-then-is_err-clause-passed
returns-then-is_err-clause-passed c = passed_none c.args.bare c.args.next c.args.graph.now.graph

pub take-requires : goal.take-requires
take-requires c =
    let g = c.args.graph.now.graph in
    let turns = subst (λ o. IfSome o (λ new. IsTurned c.args.bare c.args.next c.term.result new)) c.in-Some.is c.turned.ensures in
    still_counted g c.args.block c.args.bare c.args.next c.term.result c.in-Some.term c.learn.ensures.rules c.term.ensures turns c.args.uses.now c.add.new.self c.requires.uses (added c.add.result c.add.ensures (sym c.is_err.ensures.value ∙ c.if-is_err.false))

pub set_term-requires-clause-rules : goal.set_term-requires-clause-rules
set_term-requires-clause-rules c =
    let g = c.args.graph.now.graph in
    let turns = subst (λ o. IfSome o (λ new. IsTurned c.args.bare c.args.next c.term.result new)) c.in-Some.is c.turned.ensures in
    one_rules g c.args.block c.args.bare c.args.next c.term.result c.in-Some.term c.learn.ensures.rules c.term.ensures turns c.requires.next

pub returns-clause-passed : goal.returns-clause-passed
returns-clause-passed c =
    let g = c.args.graph.now.graph in
    let turns = subst (λ o. IfSome o (λ new. IsTurned c.args.bare c.args.next c.term.result new)) c.in-Some.is c.turned.ensures in
    subst (λ (k : Graph). IsPassedOn c.args.bare c.args.next c.args.graph.now.graph k) (sym c.set_term.ensures.graph)
    (passed_one g c.args.block c.args.bare c.args.next c.term.result c.in-Some.term c.learn.ensures.rules c.term.ensures turns)

pub returns-clause-uses : goal.returns-clause-uses
returns-clause-uses c = λ done.
    let g = c.args.graph.now.graph in
    let turns = subst (λ o. IfSome o (λ new. IsTurned c.args.bare c.args.next c.term.result new)) c.in-Some.is c.turned.ensures in
    subst (λ (k : Graph). AreUses k c.take.new.self) (sym c.set_term.ensures.graph)
    (uses_one g c.args.block c.args.bare c.args.next c.term.result c.in-Some.term c.learn.ensures.rules c.term.ensures turns c.args.uses.now c.add.new.self c.requires.uses (added c.add.result c.add.ensures (sym c.is_err.ensures.value ∙ c.if-is_err.false)) c.take.new.self c.take.ensures)
