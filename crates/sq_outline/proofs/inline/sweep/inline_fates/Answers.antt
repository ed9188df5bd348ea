use Rattle.std.proofs.Common.{◌≡◌, ◌∙◌, length, replicate, ap}
use Rattle.sq_graph.specs.declared.fates.Fate.TheVariants.{Stays}
use Rattle.sq_outline.proofs.SweepingInlines.{tries_none, tries_inline}
use Rattle.sq_outline.proofs.inline.sweep.inline_fates.Goals as goal

pub loop-procedure-init : goal.loop-procedure-init
loop-procedure-init c =
    let many : c.procedures.result ≡ length c.args.graph.now.graph.procedures = c.procedures.ensures in
    let all : c.in_ok-fates.fates.items ≡ replicate (length c.args.graph.now.graph.procedures) Stays = c.in_ok-fates.ensures.items_if_clones_equal (λ y same. same) ∙ ap (λ n. replicate n Stays) many in
    rw all (tries_none c.args.graph.now.graph c.args.savings c.learn.ensures.rules c.requires.canonical)

pub loop-procedure-preserved : goal.loop-procedure-preserved
loop-procedure-preserved c =
    tries_inline c.args.graph.now.graph c.loop-procedure.procedure c.loop-procedure.fates.items c.args.savings c.loop-procedure.after c.loop-procedure.invariant c.in-Some.saving c.learn.ensures.rules c.in-Some.ensures.saving c.in-Some.ensures.some c.count-after.result c.count-after.ensures.value
