use Rattle.sq_write.specs.Points.{blocks_points, procedures_at, procedures_points}
use Rattle.sq_write.proofs.Texts.{appends_both}
use Rattle.sq_write.proofs.text.push_text.Goals as goal

pub returns : goal.returns
returns c =
    let g = c.args.placed.now.g.now.graph in
    let lo = c.args.placed.now.lo in
    appends_both (blocks_points g lo lo g.blocks) (procedures_points g lo (procedures_at g lo) g.procedures) c.args.out.now c.push_blocks.new.out c.push_procedures.new.out c.in_ok-push_blocks.ensures c.in_ok-push_procedures.ensures
