use Rattle.std.proofs.Common.{◌≡◌, ◌+◌, Ok, ap, subst, arith}
use Rattle.law_follow.proofs.Following.{graph_follows_itself}
use Rattle.sq_drive.specs.Replay.{FailsAt}
use Rattle.sq_drive.proofs.Checked.{fails_within, no_candidate, fault_only}
use Rattle.sq_drive.proofs.checking.check_graph.Goals as goal

pub returns-in_err-said-clause-follows : goal.returns-in_err-said-clause-follows
returns-in_err-said-clause-follows c = graph_follows_itself c.args.graph.now.graph

pub overflow_cast-line : goal.overflow_cast-line
overflow_cast-line c =
    let said = c.in_ok-said.said in
    let old = c.args.graph.now.graph in
    let fails = subst (λ steps. FailsAt steps old c.in-Some.number) c.steps-steps.ensures (c.in_ok-number.ensures.fault c.in-Some.number (ap Ok c.in-Some.is)) in
    omega (arith, fails_within said.cert old c.in-Some.number fails, c.in_ok-said.ensures.few, c.requires.text)

pub overflow_add-line : goal.overflow_add-line
overflow_add-line c =
    let said = c.in_ok-said.said in
    let old = c.args.graph.now.graph in
    let fails = subst (λ steps. FailsAt steps old c.in-Some.number) c.steps-steps.ensures (c.in_ok-number.ensures.fault c.in-Some.number (ap Ok c.in-Some.is)) in
    omega (arith, fails_within said.cert old c.in-Some.number fails, c.in_ok-said.ensures.few, c.requires.text)

pub returns-in-Some-clause-no : goal.returns-in-Some-clause-no
returns-in-Some-clause-no c = λ line e.
    let said = c.in_ok-said.said in
    let old = c.args.graph.now.graph in
    let text = c.args.text.now in
    let fails = subst (λ steps. FailsAt steps old c.in-Some.number) c.steps-steps.ensures (c.in_ok-number.ensures.fault c.in-Some.number (ap Ok c.in-Some.is)) in
    let is : line ≡ c.in-Some.number + 2 = cc e in
    no_candidate text old said c.in_ok-said.ensures.value c.in-Some.number line fails is

pub returns-in-Some-clause-only : goal.returns-in-Some-clause-only
returns-in-Some-clause-only c = λ line e. fault_only c.args.text.now c.args.graph.now.graph line (returns-in-Some-clause-no c line e)
