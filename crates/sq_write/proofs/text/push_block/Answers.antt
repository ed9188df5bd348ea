use Rattle.std.proofs.Common.{◌+◌, ◌*◌, length}
use Rattle.sq_write.specs.Points.{items_points, term_points}
use Rattle.sq_write.proofs.Texts.{appends_both}
use Rattle.sq_write.proofs.text.push_block.Goals as goal

pub returns : goal.returns
returns c =
    let g = c.args.placed.now.g.now.graph in
    let lo = c.args.placed.now.lo in
    appends_both (items_points g lo c.args.at c.args.items.now) (term_points g lo (c.args.at + 4 * length c.args.items.now) c.args.term) c.args.out.now c.push_items.new.out c.push_term.new.out c.in_ok-push_items.ensures c.in_ok-push_term.ensures
