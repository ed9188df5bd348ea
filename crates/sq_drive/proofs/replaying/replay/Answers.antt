use Rattle.std.proofs.Common.{◌≡◌, List, slice_get, Some, Ok, refl, ap, subst, arith}
use Rattle.std.proofs.lemmas.List.{length-drop, take_rest}
use Rattle.law_follow.proofs.Following.{graph_follows_through}
use Rattle.sq_cert.specs.declared.step.Step.{Step}
use Rattle.sq_drive.specs.Replay.{MayStep, FailsAt}
use Rattle.sq_drive.specs.Replaying.{AreTaken}
use Rattle.sq_drive.proofs.Replays.{less_itself, less_through}
use Rattle.sq_drive.proofs.CallRuns.{taken_on, fails_here}
use Rattle.sq_drive.proofs.replaying.replay.Goals as goal

pub loop-number-init : goal.loop-number-init
loop-number-init c = record {
  within = omega arith;
  replayed = refl;
  less = less_itself c.args.graph.now.graph c.requires.canonical;
  canonical = c.requires.canonical;
  slotted = c.requires.slotted;
  words = c.requires.words;
}

pub returns-in_err-taken-clause-follows : goal.returns-in_err-taken-clause-follows
returns-in_err-taken-clause-follows c =
    let l = c.loop-number in
    graph_follows_through c.args.graph.now.graph l.graph.graph c.take_first.new.graph.graph l.invariant.less.lighter.follows c.take_first.ensures.follows

pub returns-then-taken-eq0-clause-fault : goal.returns-then-taken-eq0-clause-fault
returns-then-taken-eq0-clause-fault c = λ number e.
    let l = c.loop-number in
    let same : l.number ≡ number = cc e in
    let steps = c.args.steps.now in
    let none = subst (λ (ss : List Step). (step : Step) → slice_get ss 0 ≡ Some step → ¬ MayStep l.graph.graph step) (take_rest steps l.number) (c.in_ok-taken.ensures.none (ap Ok c.if-taken-eq0.true)) in
    subst (FailsAt steps c.args.graph.now.graph) same (fails_here steps l.number c.args.graph.now.graph l.graph.graph c.loop-number-test.true l.invariant.replayed none)

pub loop-number-preserved : goal.loop-number-preserved
loop-number-preserved c =
    let l = c.loop-number in
    let old = c.args.graph.now.graph in
    let new = c.take_first.new.graph.graph in
    let steps = c.args.steps.now in
    let taken = subst (λ (ss : List Step). AreTaken c.in_ok-taken.taken ss l.graph.graph new) (take_rest steps l.number) c.in_ok-taken.ensures.taken in
    record {
      within = omega (arith, taken.within, length-drop l.number steps, c.loop-number-test.true);
      replayed = taken_on l.number c.in_ok-taken.taken steps old l.graph.graph new l.invariant.replayed taken;
      less = less_through old l.graph.graph new l.invariant.less taken.less;
      canonical = taken.less.lighter.canonical;
      slotted = taken.less.slotted l.invariant.slotted;
      words = omega (arith, taken.less.lighter.words, l.invariant.words);
    }
