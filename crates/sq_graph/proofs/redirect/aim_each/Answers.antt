use Rattle.std.proofs.Common.{◌∷◌, [], sym, ap, ◌∙◌, refl, take, get_or, arith}
use Rattle.std.proofs.lemmas.List.{take_more, take_all}
use Rattle.sq_graph.specs.Aims.{aimed_each, target_or_start}
use Rattle.sq_graph.proofs.Restarting.{aimed_none, aimed_more, distinct-restarted}
use Rattle.sq_graph.proofs.redirect.aim_each.Goals as goal

pub loop-block-init : goal.loop-block-init
loop-block-init c = record { entries = sym (aimed_none c.args.slots.now.entries); spare = refl }

pub aim_one-requires : goal.aim_one-requires
aim_one-requires c =
    rw c.loop-block.invariant.entries (distinct-restarted (target_or_start (take c.loop-block.block-index c.args.blocks.now)) c.args.slots.now.entries c.requires)

pub loop-block-preserved : goal.loop-block-preserved
loop-block-preserved c =
    let old = c.args.slots.now.entries in
    let name = get_or c.args.blocks.now c.loop-block.block-index 0 in
    let done = take c.loop-block.block-index c.args.blocks.now in
    record {
      entries =
          c.aim_one.ensures.entries
          ∙ ap (aimed_each (name ∷ [])) c.loop-block.invariant.entries
          ∙ aimed_more (name ∷ []) done old
          ∙ ap (λ ns. aimed_each ns old) (sym (take_more c.args.blocks.now c.loop-block.block-index 0 c.loop-block-test.true));
      spare = c.aim_one.ensures.spare ∙ c.loop-block.invariant.spare;
    }

pub returns-clause-entries : goal.returns-clause-entries
returns-clause-entries c =
    c.loop-block.invariant.entries
    ∙ ap (λ ns. aimed_each ns c.args.slots.now.entries) (take_all c.loop-block.block-index c.args.blocks.now (omega (arith, c.loop-block-test.false)))
