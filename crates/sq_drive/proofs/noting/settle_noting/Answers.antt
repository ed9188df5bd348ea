use Rattle.std.proofs.Common.{Ok, refl, sym, ap, subst, arith}
use Rattle.std.proofs.lemmas.List.Elements.{All-nil, All-push}
use Rattle.std.specs.List.{All}
use Rattle.sq_cert.specs.Steps.{HasForm}
use Rattle.sq_graph.specs.Graph.{Graph}
use Rattle.sq_graph.specs.Slotted.{IsSlotted}
use Rattle.law_follow.proofs.Following.{graph_follows_through}
use Rattle.sq_num.specs.declared.packed.TheConstants.Savings.{NONE}
use Rattle.sq_pass.proofs.Rewriting.{rewritten_itself, rewritten_on}
use Rattle.sq_drive.specs.Replay.{IsReplay}
use Rattle.sq_drive.specs.Rows.{IsCandidate, described, IsLeftoverFree}
use Rattle.sq_drive.proofs.Formed.{set_stepped}
use Rattle.sq_drive.proofs.Moves.{leftover_free_is_still}
use Rattle.sq_drive.proofs.Replays.{replay_on, less_itself, less_through}
use Rattle.sq_drive.proofs.noting.settle_noting.Goals as goal

pub loop-hints-init : goal.loop-hints-init
loop-hints-init c =
    let g = c.args.graph.now.graph in
    record {
      replayed = subst (λ steps. IsReplay steps g g) (sym c.new-cert.ensures) refl;
      form = subst (All HasForm) (sym c.new-cert.ensures) (All-nil HasForm);
      less = less_itself g c.requires.canonical;
      rewritten = rewritten_itself IsCandidate described NONE g c.requires.canonical;
      canonical = c.requires.canonical;
      words = c.requires.words;
    }

pub returns-in_err-step-clause-follows : goal.returns-in_err-step-clause-follows
returns-in_err-step-clause-follows c =
    let l = c.loop-hints in
    graph_follows_through c.args.graph.now.graph l.graph.graph c.note_step.new.graph.graph l.invariant.less.lighter.follows c.note_step.ensures.follows

pub returns-in_err-push-clause-follows : goal.returns-in_err-push-clause-follows
returns-in_err-push-clause-follows c =
    let l = c.loop-hints in
    graph_follows_through c.args.graph.now.graph l.graph.graph c.note_step.new.graph.graph l.invariant.less.lighter.follows c.note_step.ensures.follows

pub loop-hints-preserved : goal.loop-hints-preserved
loop-hints-preserved c =
    let l = c.loop-hints in
    let old = c.args.graph.now.graph in
    let new = c.note_step.new.graph.graph in
    let taken = rw c.in-Some.is at c.in_ok-step.ensures.step in
    let less = rw c.in-Some.is at c.in_ok-step.ensures.less in
    let rewrite = rw c.in-Some.is at c.in_ok-step.ensures.rewrite in
    let lighter = rw c.in-Some.is at c.in_ok-step.ensures.lighter in
    record {
      replayed = subst (λ steps. IsReplay steps old new) (sym c.in_ok-push.ensures.ok) (replay_on l.cert c.in-Some.step old l.graph.graph new l.invariant.replayed taken);
      form = subst (All HasForm) (sym c.in_ok-push.ensures.ok) (All-push HasForm l.cert c.in-Some.step l.invariant.form (record { small = c.learn_step.ensures; set = set_stepped l.graph.graph c.in-Some.step taken.given }));
      less = less_through old l.graph.graph new l.invariant.less less;
      rewritten = rewritten_on IsCandidate described NONE l.savings c.count-savings.result c.in-Some.done old l.graph.graph new l.invariant.rewritten rewrite lighter c.count-savings.ensures.value;
      canonical = less.lighter.canonical;
      words = omega (arith, less.lighter.words, l.invariant.words);
    }

pub count-savings-requires : goal.count-savings-requires
count-savings-requires c =
    let l = c.loop-hints in
    let lighter = rw c.in-Some.is at c.in_ok-step.ensures.lighter in
    omega (arith, lighter.words, l.invariant.rewritten.total, l.invariant.rewritten.lighter.words, c.requires.words)

pub returns-clause-left : goal.returns-clause-left
returns-clause-left c =
    subst (λ (g : Graph). IsLeftoverFree g) (sym (c.in_ok-step.ensures.same (ap Ok c.in_default.is))) (c.in_ok-step.ensures.left (ap Ok c.in_default.is))

pub returns-clause-still : goal.returns-clause-still
returns-clause-still c = leftover_free_is_still c.note_step.new.graph.graph (returns-clause-left c)

pub returns-clause-slotted : goal.returns-clause-slotted
returns-clause-slotted c =
    let l = c.loop-hints in
    subst IsSlotted (sym (c.in_ok-step.ensures.same (ap Ok c.in_default.is))) (l.invariant.less.slotted c.requires.slotted)
