use Rattle.std.proofs.Common.{◌≡◌, ◌↔◌, true, length, ap, subst, arith}
use Rattle.std.specs.Prelude.{MatchOption}
use Rattle.sq_isa.specs.Registers.{is_member}
use Rattle.sq_graph.specs.Blocks.{items_of}
use Rattle.sq_graph.specs.Lines.{place_lines}
use Rattle.sq_graph.specs.Walks.{IsLive}
use Rattle.sq_rename.specs.Bodies.{IsBodyMatch, IsMatchBy, MayLive, IsLiveBehind}
use Rattle.sq_rename.proofs.Bodies.{live_match}
use Rattle.sq_rename.proofs.Sizes.{few_items}
use Rattle.sq_rename.proofs.matching.match_block.Goals as goal

pub overflow_cast-items : goal.overflow_cast-items
overflow_cast-items c =
    let few = few_items c.args.g.now c.args.block c.learn.ensures.small in
    let is = ap length c.items-items.ensures in
    omega arith

pub returns : goal.returns
returns c =
    let g = c.args.g.now.graph in
    let block = c.args.block in
    let others = c.args.others.now in
    let dead = c.dead_registers-dead.result in
    let is = c.items-items.ensures in
    let count = ap length is in
    let told = subst (λ z. MatchOption c.match_items.result (¬ IsBodyMatch g.procedures z others (MayLive dead)) (IsMatchBy g.procedures z others (MayLive dead))) is c.match_items.ensures in
    live_match g.procedures (items_of g block) others dead (IsLiveBehind g block)
    (λ r k l. subst (λ n. (is_member dead r ≡ true) ↔ (¬ IsLive g r (place_lines g block n))) count (c.dead_registers-dead.ensures.dead g c.requires.live c.requires.block (omega arith) r k l))
    c.match_items.result told
