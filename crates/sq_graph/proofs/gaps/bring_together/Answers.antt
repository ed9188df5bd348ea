use Rattle.std.proofs.Common.{◌≡◌, ◌++◌, length, drop, vec_capacity, ap, ◌∙◌, arith}
use Rattle.sq_graph.specs.Packed.{pieces_of}
use Rattle.sq_graph.proofs.Strewn.{laid_ends, ends_raise, strewn_long}
use Rattle.sq_graph.proofs.Collecting.{collected}
use Rattle.sq_graph.proofs.gaps.bring_together.Goals as goal

pub collect-requires-clause-there : goal.collect-requires-clause-there
collect-requires-clause-there c =
    let ends = laid_ends c.args.slots.now.entries c.args.end c.args.loose.now.free (vec_capacity c.args.loose.now.scratch) c.requires.lie in
    ends_raise c.args.slots.now.entries c.args.end (length c.deref.result.now) (omega (arith, c.requires.end, c.deref.ensures.len)) ends

pub overflow_cast-count : goal.overflow_cast-count
overflow_cast-count c =
    let ends = laid_ends c.args.slots.now.entries c.args.end c.args.loose.now.free (vec_capacity c.args.loose.now.scratch) c.requires.lie in
    let long = strewn_long c.args.slots.now.entries c.args.items.now.items c.args.end ends (omega (arith, c.requires.end, c.args.items.now.ok.0)) in
    omega (arith, long, c.requires.fits, c.ranges.end.fits, c.len-count.ensures, c.collect.new.to.ok.0, ap length c.collect.ensures, ap (λ ys. length (pieces_of ys c.args.slots.now.entries)) c.deref.ensures.value)

pub overwrite-requires : goal.overwrite-requires
overwrite-requires c =
    let ends = laid_ends c.args.slots.now.entries c.args.end c.args.loose.now.free (vec_capacity c.args.loose.now.scratch) c.requires.lie in
    let long = strewn_long c.args.slots.now.entries c.args.items.now.items c.args.end ends (omega (arith, c.requires.end, c.args.items.now.ok.0)) in
    omega (arith, long, c.requires.fits, c.requires.end, c.deref-2.ensures.len, c.collect.new.to.ok.0, ap length c.collect.ensures, ap (λ ys. length (pieces_of ys c.args.slots.now.entries)) c.deref.ensures.value)

pub overflow_sub-end : goal.overflow_sub-end
overflow_sub-end c =
    let ends = laid_ends c.args.slots.now.entries c.args.end c.args.loose.now.free (vec_capacity c.args.loose.now.scratch) c.requires.lie in
    let long = strewn_long c.args.slots.now.entries c.args.items.now.items c.args.end ends (omega (arith, c.requires.end, c.args.items.now.ok.0)) in
    omega (arith, long, c.requires.fits, c.len-count.ensures, c.collect.new.to.ok.0, ap length c.collect.ensures, ap (λ ys. length (pieces_of ys c.args.slots.now.entries)) c.deref.ensures.value)

pub returns-clause-count : goal.returns-clause-count
returns-clause-count c =
    let ends = laid_ends c.args.slots.now.entries c.args.end c.args.loose.now.free (vec_capacity c.args.loose.now.scratch) c.requires.lie in
    let long = strewn_long c.args.slots.now.entries c.args.items.now.items c.args.end ends (omega (arith, c.requires.end, c.args.items.now.ok.0)) in
    omega (arith, long, c.len-count.ensures, c.collect.new.to.ok.0, ap length c.collect.ensures, ap (λ ys. length (pieces_of ys c.args.slots.now.entries)) c.deref.ensures.value)

pub returns-clause-items : goal.returns-clause-items
returns-clause-items c =
    let ends = laid_ends c.args.slots.now.entries c.args.end c.args.loose.now.free (vec_capacity c.args.loose.now.scratch) c.requires.lie in
    let long = strewn_long c.args.slots.now.entries c.args.items.now.items c.args.end ends (omega (arith, c.requires.end, c.args.items.now.ok.0)) in
    let is : c.deref-2.result.now ≡ pieces_of c.args.items.now.items c.args.slots.now.entries = c.deref-2.ensures.value ∙ c.collect.ensures ∙ ap (λ ys. pieces_of ys c.args.slots.now.entries) c.deref.ensures.value in
    collected c.args.items.now.items c.deref-2.result.now c.overwrite.new.items.items c.cut.new.items.items c.len-count.result c.args.end
    (omega (arith, c.len-count.ensures, c.deref-2.ensures.len))
    (omega (arith, long, c.requires.fits, c.len-count.ensures, c.deref-2.ensures.len, ap length is))
    (omega (arith, c.requires.end, c.args.items.now.ok.0)) c.overwrite.ensures.items c.cut.ensures.items
    ∙ ap (λ ys. ys ++ drop c.args.end c.args.items.now.items) is
