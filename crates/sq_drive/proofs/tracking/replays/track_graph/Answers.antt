use Rattle.std.proofs.Common.{◌≡◌, ◌+◌, Ok, Some, None, ap, subst, arith}
use Rattle.sq_drive.specs.Replay.{IsReplay, FailsAt}
use Rattle.sq_drive.specs.Tracking.{AreCarried}
use Rattle.sq_drive.proofs.Checked.{fails_within, no_candidate, no_form, fault_only}
use Rattle.sq_drive.proofs.Tracked.{replayed, one_tracked}
use Rattle.sq_drive.proofs.tracking.replays.track_graph.Goals as goal

pub overflow_cast-result : goal.overflow_cast-result
overflow_cast-result c =
    let said = c.in_ok-said.said in
    let old = c.args.graph.now.graph in
    let fails = subst (λ steps. FailsAt steps old c.in-Some.number) c.steps.ensures (c.in_ok-number.ensures.fault c.in-Some.number (ap Ok c.in-Some.is)) in
    omega (arith, fails_within said.cert old c.in-Some.number fails, c.in_ok-said.ensures.few, c.requires.text)

pub overflow_add-result : goal.overflow_add-result
overflow_add-result c =
    let said = c.in_ok-said.said in
    let old = c.args.graph.now.graph in
    let fails = subst (λ steps. FailsAt steps old c.in-Some.number) c.steps.ensures (c.in_ok-number.ensures.fault c.in-Some.number (ap Ok c.in-Some.is)) in
    omega (arith, fails_within said.cert old c.in-Some.number fails, c.in_ok-said.ensures.few, c.requires.text)

pub returns-in-Some-clause-fault : goal.returns-in-Some-clause-fault
returns-in-Some-clause-fault c = λ line e.
    let said = c.in_ok-said.said in
    let old = c.args.graph.now.graph in
    let fails = subst (λ steps. FailsAt steps old c.in-Some.number) c.steps.ensures (c.in_ok-number.ensures.fault c.in-Some.number (ap Ok c.in-Some.is)) in
    let is : line ≡ c.in-Some.number + 2 = cc e in
    no_candidate c.args.text.now old said c.in_ok-said.ensures.value c.in-Some.number line fails is

pub returns-in-Some-clause-only : goal.returns-in-Some-clause-only
returns-in-Some-clause-only c = λ line e. fault_only c.args.text.now c.args.graph.now.graph line (returns-in-Some-clause-fault c line e)

pub returns-clause-fault : goal.returns-clause-fault
returns-clause-fault c = λ line e.
    let said = c.in_ok-said.said in
    let old = c.args.graph.now.graph in
    let new = c.track_steps.new.graph.graph in
    let carried = c.in_ok-number.ensures.carried (ap Ok c.in_default.is) in
    let replay = subst (λ steps. IsReplay steps old new) c.steps.ensures (replayed c.steps.result.now old new c.args.tracks.now.items c.track_steps.new.tracks.items carried) in
    let fault : said.fault ≡ Some line = cc e in
    no_form c.args.text.now old said c.in_ok-said.ensures.value new line replay fault

pub returns-clause-only : goal.returns-clause-only
returns-clause-only c = λ line e. fault_only c.args.text.now c.args.graph.now.graph line (returns-clause-fault c line e)

pub returns-clause-tracked : goal.returns-clause-tracked
returns-clause-tracked c = λ e.
    let said = c.in_ok-said.said in
    let old = c.args.graph.now.graph in
    let new = c.track_steps.new.graph.graph in
    let none : said.fault ≡ None = cc e in
    record {
      steps = said.cert;
      form = c.in_ok-said.ensures.form;
      text_is = c.in_ok-said.ensures.text none;
      carried = subst (λ steps. AreCarried steps old new c.args.tracks.now.items c.track_steps.new.tracks.items) c.steps.ensures (c.in_ok-number.ensures.carried (ap Ok c.in_default.is));
    }

pub returns-clause-one : goal.returns-clause-one
returns-clause-one c = λ e new after other.
    one_tracked c.args.text.now c.args.graph.now.graph new c.track_steps.new.graph.graph c.args.tracks.now.items after c.track_steps.new.tracks.items other (returns-clause-tracked c e)

pub returns-clause-starts : goal.returns-clause-starts
returns-clause-starts c = λ e. c.in_ok-number.ensures.starts (ap Ok c.in_default.is)
