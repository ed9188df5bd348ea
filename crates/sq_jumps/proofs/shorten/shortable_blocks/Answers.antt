use Rattle.std.proofs.Common.{ℕ, ◌+◌, List, is_some, ap, sym, ◌∙◌, subst}
use Rattle.sq_live.proofs.Layouts.{block_at}
use Rattle.sq_jumps.proofs.shorten.shortable_blocks.Goals as goal
use Rattle.sq_jumps.proofs.shorten.shortable_blocks.Goals.{then-jumps_by_dead_part+in_ok-push, else-jumps_by_dead_part}
use Rattle.sq_jumps.proofs.ShortenSwept.{Found, found_none, found_more, found_same}

pub loop-name-init : goal.loop-name-init
loop-name-init c = found_none c.args.graph.now.graph c.args.names.now c.new-blocks.result.items c.new-blocks.ensures.items

pub jumps_by_dead_part-requires-clause-block : goal.jumps_by_dead_part-requires-clause-block
jumps_by_dead_part-requires-clause-block c = ap is_some (block_at c.args.graph.now.graph c.args.names.now c.loop-name.name-index c.learn.ensures.rules c.requires.names c.loop-name-test.true).found

pub loop-name-preserved : goal.loop-name-preserved
loop-name-preserved c =
    let g = c.args.graph.now.graph in
    let names = c.args.names.now in
    let place = c.loop-name.name-index in
    elim c.if-jumps_by_dead_part.branch [
      | then-jumps_by_dead_part+in_ok-push w ↦
          subst (λ (blocks : List ℕ). Found g names (place + 1) blocks) (sym (ap (λ blocks. blocks.items) w.blocks-is ∙ w.in_ok-push.ensures.items))
          (found_more g names c.learn.ensures.rules c.requires.names place c.loop-name.blocks.items c.loop-name-test.true c.loop-name.invariant (c.jumps_by_dead_part.ensures.some w.if-jumps_by_dead_part.true))
      | else-jumps_by_dead_part w ↦
          subst (λ (blocks : List ℕ). Found g names (place + 1) blocks) (sym (ap (λ blocks. blocks.items) w.blocks-is)) (found_same g names c.learn.ensures.rules c.requires.names place c.loop-name.blocks.items c.loop-name.invariant)
    ]
