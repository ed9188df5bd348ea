use Rattle.std.proofs.Common.{arith}
use Rattle.std.proofs.lemmas.Bool.{leb-true, le-leb}
use Rattle.sq_graph.specs.Blocks.{items_of}
use Rattle.sq_tail.proofs.Ending.{common_less}
use Rattle.sq_tail.proofs.admit.have_end.Goals as goal

pub returns-then-go_on_alike : goal.returns-then-go_on_alike
returns-then-go_on_alike c =
    let g = c.args.graph.now.graph in
    let dropped = c.args.dropped in
    let kept = c.args.kept in (
      λ most. record {
        other = λ e. absurd (omega (arith, c.if-dropped-kept.false, e));
        some = omega (arith, c.if-length-eq0.false);
        items = common_less (items_of g dropped) (items_of g kept) c.args.length c.common_items.result (leb-true c.args.length c.common_items.result most) c.common_items.ensures.common;
        terms = c.go_on_alike.ensures.0 c.if-go_on_alike.true;
      },
      λ end. le-leb c.args.length c.common_items.result (c.common_items.ensures.longest c.args.length end.items),
    )
