use Rattle.std.proofs.Common.{◌≡◌, ℕ, ◌+◌, ◌<◌, List, [], ◌∷◌, ◌++◌, length, map, get_or, take, drop, Ok, refl, sym, ap, ◌∙◌, subst, arith}
use Rattle.std.proofs.lemmas.List.{take-append-drop, take_more, drop_more, length-take-le}
use Rattle.std.specs.List.{AllZip}
use Rattle.sq_cert.specs.declared.step.Step.{Step}
use Rattle.sq_drive.specs.Tracking.{by_step, made_by, AreCarried, KeepsStarts}
use Rattle.sq_drive.proofs.KeptStarts.{starts_themselves, starts_through}
use Rattle.sq_drive.proofs.Replays.{less_itself, less_through}
use Rattle.sq_drive.proofs.Tracked.{carried_on, replayed}
use Rattle.sq_drive.proofs.tracking.replays.track_steps.Goals as goal

pub loop-number-init : goal.loop-number-init
loop-number-init c = record {
  carried = (refl, refl);
  starts = starts_themselves c.args.graph.now.graph c.args.tracks.now.items;
  less = less_itself c.args.graph.now.graph c.requires.canonical;
  canonical = c.requires.canonical;
  words = c.requires.words;
}

-- a step, and those in front of it and behind it
split : (steps : List Step) (n : ℕ) (step : Step) → n < length steps → step ≡ get_or steps n step → steps ≡ take n steps ++ step ∷ drop (n + 1) steps
split steps n step within is = sym (take-append-drop n steps) ∙ ap (λ back. take n steps ++ back) (drop_more steps n step within ∙ ap (λ s. s ∷ drop (n + 1) steps) (sym is))

one_more : (steps : List Step) (n : ℕ) (step : Step) → n < length steps → step ≡ get_or steps n step → take (n + 1) steps ≡ take n steps ++ step ∷ []
one_more steps n step within is = take_more steps n step within ∙ ap (λ s. take n steps ++ s ∷ []) (sym is)

pub returns-in-None-clause-fault : goal.returns-in-None-clause-fault
returns-in-None-clause-fault c = λ number e.
    let l = c.loop-number in
    let steps = c.args.steps.now in
    let step = c.index-steps-number.result in
    let same : l.number ≡ number = cc e in
    record {
      front = take l.number steps;
      step = step;
      back = drop (l.number + 1) steps;
      steps_are = split steps l.number step c.loop-number-test.true c.index-steps-number.is;
      number_is = sym same ∙ sym (length-take-le l.number steps (omega (arith, c.loop-number-test.true)));
      before = l.graph.graph;
      replay = replayed (take l.number steps) c.args.graph.now.graph l.graph.graph c.args.tracks.now.items l.tracks.items l.invariant.carried;
      none = c.in_ok-after.ensures.none (ap Ok c.in-None.is);
    }

pub loop-number-preserved : goal.loop-number-preserved
loop-number-preserved c =
    let l = c.loop-number in
    let old = c.args.graph.now.graph in
    let new = c.track_step.new.graph.graph in
    let steps = c.args.steps.now in
    let step = c.index-steps-number.result in
    let before = c.args.tracks.now.items in
    let after = c.in-Some.after.items in
    let stepped = rw c.in-Some.is at c.in_ok-after.ensures.carried in
    let starts = rw c.in-Some.is at c.in_ok-after.ensures.starts in
    let less = rw c.in-Some.is at c.in_ok-after.ensures.less in
    let more = one_more steps l.number step c.loop-number-test.true c.index-steps-number.is in
    let is = stepped.2 ∙ ap (map (by_step step l.graph.graph (made_by step l.graph.graph stepped.0))) c.as_slice.ensures.value in
    record {
      carried = subst (λ front. AreCarried front old new before after) (sym more) (carried_on (take l.number steps) step old l.graph.graph new before l.tracks.items after l.invariant.carried stepped.0 stepped.1 is);
      starts = starts_through old l.graph.graph new before l.tracks.items after l.invariant.starts (subst (λ ts. AllZip (KeepsStarts l.graph.graph new) ts after) c.as_slice.ensures.value starts);
      less = less_through old l.graph.graph new l.invariant.less less;
      canonical = less.lighter.canonical;
      words = omega (arith, less.lighter.words, l.invariant.words);
    }
