use Rattle.std.proofs.Common.{ℕ, Option, vec_capacity, subst, refl, arith}
use Rattle.sq_graph.specs.Packed.{AreLaid}
use Rattle.sq_graph.proofs.Strewn.{laid_ends, ends_found}
use Rattle.sq_graph.proofs.Carrying.{carries_keep}
use Rattle.sq_graph.proofs.loose.carry.Goals as goal

pub copy_to-requires-clause-from : goal.copy_to-requires-clause-from
copy_to-requires-clause-from c =
    let ends = laid_ends c.args.slots.now.entries c.args.blocks_end.now c.args.loose.now.free (vec_capacity c.args.loose.now.scratch) c.requires.gaps.lie in
    omega (arith, ends_found c.args.slots.now.entries c.args.blocks_end.now c.args.block c.slot-found.result ends c.slot-found.ensures, c.requires.gaps.within, c.args.items.now.ok.0)

pub returns-clause-kept : goal.returns-clause-kept
returns-clause-kept c =
    let lie = subst (λ (o : Option ℕ). AreLaid c.args.slots.now.entries c.args.blocks_end.now o (vec_capacity c.args.loose.now.scratch)) c.in-Some.is c.requires.gaps.lie in
    carries_keep c.args.slots.now c.set.new.slots c.args.items.now c.copy_to.new.items c.args.blocks_end.now c.args.gaps.now c.args.loose.now _ c.args.block c.slot-found.result c.in-Some.free
    c.requires.gaps c.in-Some.is c.slot-found.ensures (omega (arith, lie.1.0, c.if-blocks_end-free.false)) c.copy_to.ensures.items c.copy_to.ensures.capacity c.set.ensures.entries c.set.ensures.spare refl refl
