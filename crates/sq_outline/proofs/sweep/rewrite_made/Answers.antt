use Rattle.std.proofs.Common.{◌≡◌, length, get_or, sym, ap, subst, arith}
use Rattle.sq_graph.specs.Graph.{Graph}
use Rattle.sq_layout.proofs.Walks.{items_few}
use Rattle.law_follow.specs.Follows.{Follows}
use Rattle.law_follow.proofs.Following.{graph_follows_itself}
use Rattle.sq_outline.specs.Made.{first_block, made}
use Rattle.sq_outline.proofs.Totals.{items_are_words}
use Rattle.sq_outline.proofs.Sweeping.{room_for_procedure, cut_words, cut_rewritten, cut_still}
use Rattle.sq_outline.proofs.sweep.rewrite_made.Goals as goal

pub overflow_cast-items : goal.overflow_cast-items
overflow_cast-items c =
    let few = items_few c.args.graph.now.graph (get_or c.as_slice-blocks.result.now 0 0) c.learn.ensures.few in
    let is = ap length c.items.ensures in
    omega arith

pub reserve-requires : goal.reserve-requires
reserve-requires c =
    let g = c.args.graph.now.graph in
    let small = c.learn.ensures.small.blocks in
    let is = ap length c.items.ensures in
    let own = items_are_words g (get_or c.as_slice-blocks.result.now 0 0) in
    let few = c.requires.words in
    room_for_procedure g (length c.items.result.now) (omega (arith, small)) (omega (arith, few)) (omega (arith, is, own, few))

pub returns-in_err-reserve-clause-follows : goal.returns-in_err-reserve-clause-follows
returns-in_err-reserve-clause-follows c = subst (Follows c.args.graph.now.graph) (sym c.reserve.ensures.graph) (graph_follows_itself c.args.graph.now.graph)

pub count-requires : goal.count-requires
count-requires c =
    let few = cut_words c.args.graph.now.graph c.args.cut.now c.learn.ensures.rules c.requires.candidate in
    omega (arith, few, c.requires.words)

pub returns-clause-still : goal.returns-clause-still
returns-clause-still c =
    let cut = c.args.cut.now in
    let h = c.make.new.graph.graph in
    let told : h ≡ made c.reserve.new.self.graph (first_block cut.blocks) cut.blocks cut.link = subst (λ bs. h ≡ made c.reserve.new.self.graph (first_block bs) bs cut.link) c.as_slice-blocks.ensures c.make.ensures.graph in
    let is = subst (λ (k : Graph). h ≡ made k (first_block cut.blocks) cut.blocks cut.link) c.reserve.ensures.graph told in
    cut_still c.args.graph.now.graph h cut c.learn.ensures.rules c.requires.candidate is

pub returns-clause-rewritten : goal.returns-clause-rewritten
returns-clause-rewritten c =
    let cut = c.args.cut.now in
    let h = c.make.new.graph.graph in
    let told : h ≡ made c.reserve.new.self.graph (first_block cut.blocks) cut.blocks cut.link = subst (λ bs. h ≡ made c.reserve.new.self.graph (first_block bs) bs cut.link) c.as_slice-blocks.ensures c.make.ensures.graph in
    let is = subst (λ (k : Graph). h ≡ made k (first_block cut.blocks) cut.blocks cut.link) c.reserve.ensures.graph told in
    cut_rewritten c.args.graph.now.graph h cut c.learn.ensures.rules c.requires.candidate is c.args.savings c.count.result c.requires.canonical c.count.ensures.value

pub returns-clause-follows : goal.returns-clause-follows
returns-clause-follows c = (returns-clause-rewritten c).lighter.follows
