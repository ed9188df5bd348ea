use Rattle.std.proofs.Common.{vec_capacity, is_some, ap, arith}
use Rattle.sq_graph.proofs.SlotPasses.{pair_of}
use Rattle.sq_graph.proofs.Strewn.{laid_ends, ends_found}
use Rattle.sq_graph.proofs.Carrying.{two_names, follows_one, follows_two, keeps_contain}
use Rattle.sq_graph.proofs.loose.approach.Goals as goal

pub slot-second-requires : goal.slot-second-requires
slot-second-requires c =
    ap is_some (pair_of c.args.slots.now.entries c.args.block c.slot-first.result c.args.next c.requires.gaps.distinct c.slot-first.ensures c.requires.next).at.found

pub overflow_add-end : goal.overflow_add-end
overflow_add-end c =
    let ends = laid_ends c.args.slots.now.entries c.args.blocks_end.now c.args.loose.now.free (vec_capacity c.args.loose.now.scratch) c.requires.gaps.lie in
    omega (arith, ends_found c.args.slots.now.entries c.args.blocks_end.now c.args.block c.slot-first.result ends c.slot-first.ensures, c.requires.small)

pub returns-then-end-free-clause-follows : goal.returns-then-end-free-clause-follows
returns-then-end-free-clause-follows c =
    let apart = two_names c.args.slots.now.entries c.args.block c.slot-first.result c.args.next c.requires.gaps.distinct c.slot-first.ensures c.requires.next in
    λ free loose. follows_one c.args.slots.now.entries c.carry.new.slots.entries c.args.block c.args.next c.slot-first.result c.args.loose.now.free c.in-Some.free free apart c.slot-first.ensures c.in-Some.is c.if-end-free.true (c.carry.ensures.carries free loose)

pub carry-requires-3-clause-block : goal.carry-requires-3-clause-block
carry-requires-3-clause-block c =
    keeps_contain c.args.next c.carry-2.ensures.kept (ap is_some (pair_of c.args.slots.now.entries c.args.block c.slot-first.result c.args.next c.requires.gaps.distinct c.slot-first.ensures c.requires.next).at.found)

pub returns-clause-follows : goal.returns-clause-follows
returns-clause-follows c =
    let apart = two_names c.args.slots.now.entries c.args.block c.slot-first.result c.args.next c.requires.gaps.distinct c.slot-first.ensures c.requires.next in
    λ free loose. follows_two c.args.slots.now.entries c.carry-2.new.slots.entries c.carry-3.new.slots.entries c.args.block c.args.next c.args.loose.now.free c.carry-2.new.loose.free free apart c.carry-2.ensures.carries (c.carry-3.ensures.carries free loose)
