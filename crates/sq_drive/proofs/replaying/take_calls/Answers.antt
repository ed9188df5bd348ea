use Rattle.std.proofs.Common.{◌≡◌, ℕ, List, length, map, take, sym, subst}
use Rattle.sq_cert.specs.declared.step.Step.TheVariants.{C}
use Rattle.law_follow.proofs.Following.{graph_follows_itself}
use Rattle.sq_drive.proofs.CallRuns.{none_taken, calls_taken_if}
use Rattle.sq_drive.proofs.replaying.take_calls.Goals as goal

pub returns-in_err-blocks-clause-follows : goal.returns-in_err-blocks-clause-follows
returns-in_err-blocks-clause-follows c = graph_follows_itself c.args.graph.now.graph

pub returns-then-is_empty-clause-taken : goal.returns-then-is_empty-clause-taken
returns-then-is_empty-clause-taken c = none_taken c.args.steps.now c.args.graph.now.graph c.requires.canonical

pub returns-then-is_empty-clause-follows : goal.returns-then-is_empty-clause-follows
returns-then-is_empty-clause-follows c = graph_follows_itself c.args.graph.now.graph

pub returns-clause-taken : goal.returns-clause-taken
returns-clause-taken c =
    let steps = c.args.steps.now in
    let blocks = c.deref.result.now in
    let made = c.shorten_first.ensures in
    let calls : take (length blocks) steps ≡ map C blocks = subst (λ (bs : List ℕ). take (length bs) steps ≡ map C bs) (sym c.deref.ensures.value) c.in_ok-blocks.ensures in
    calls_taken_if steps blocks c.args.graph.now.graph c.shorten_first.new.graph.graph c.learn.ensures.rules c.requires.canonical c.requires.slotted calls made.slotted c.shorten_first.result made.first made.shortened made.lighter
