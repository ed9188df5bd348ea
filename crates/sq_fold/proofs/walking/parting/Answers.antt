use Rattle.std.proofs.Common.{get_or, length, ap, sym, ◌∙◌, arith}
use Rattle.std.specs.HashMap.{get}
use Rattle.sq_finger.specs.Classes.{is_same_kind}
use Rattle.sq_fold.specs.Nodes.{class_by}
use Rattle.sq_fold.specs.Partition.{references_of}
use Rattle.sq_fold.proofs.Parting.{alike_next, alike_end, alike_short, few_references, no_more, name_here, name_at, classes_apart, classes_same}
use Rattle.sq_fold.proofs.walking.parting.Goals as goal

pub returns-in_default : goal.returns-in_default
returns-in_default c =
    let g = c.args.graph.now.graph in
    let class = class_by (get is_same_kind c.args.index.now) c.args.classes.now in
    alike_short g class c.args.pair.0 c.args.pair.1 c.loop-number.number c.loop-number.invariant
    (no_more c.deref.result.now (references_of g c.args.pair.1) c.loop-number.number (c.deref.ensures.value ∙ c.in_ok-theirs.ensures) c.in_default.ensures.lookup.0)

pub overflow_cast-result : goal.overflow_cast-result
overflow_cast-result c =
    let g = c.args.graph.now.graph in
    let few = few_references g c.args.pair.0 c.args.graph.now.spare.items c.requires.first c.learn.ensures.small.items in
    let same = ap length (c.deref-m-items.ensures.value ∙ c.in_ok-ours.ensures) in
    let l = c.loop-number-test.true in
    omega (arith, few)

pub returns-then-ne : goal.returns-then-ne
returns-then-ne c =
    let g = c.args.graph.now.graph in
    let class = class_by (get is_same_kind c.args.index.now) c.args.classes.now in
    record {
      refers = record {
        first = name_at c.deref-m-items.result.now (references_of g c.args.pair.0) c.loop-number.number (c.deref-m-items.ensures.value ∙ c.in_ok-ours.ensures) c.loop-number-test.true;
        second = name_here c.deref.result.now (references_of g c.args.pair.1) c.loop-number.number c.in-Some.n.now (c.deref.ensures.value ∙ c.in_ok-theirs.ensures) c.in-Some.ensures.lookup.0 c.in-Some.ensures.lookup.1;
      };
      apart = λ e. classes_apart c.class_by.result c.class_by-in-loop-number.result c.ne.result c.ne.ensures c.if-ne.true (c.class_by.ensures ∙ e ∙ sym c.class_by-in-loop-number.ensures);
    }

pub loop-number-preserved : goal.loop-number-preserved
loop-number-preserved c =
    let g = c.args.graph.now.graph in
    let class = class_by (get is_same_kind c.args.index.now) c.args.classes.now in
    alike_next g class c.args.pair.0 c.args.pair.1 c.loop-number.number (get_or c.deref-m-items.result.now c.loop-number.number 0) c.in-Some.n.now c.loop-number.invariant
    (name_at c.deref-m-items.result.now (references_of g c.args.pair.0) c.loop-number.number (c.deref-m-items.ensures.value ∙ c.in_ok-ours.ensures) c.loop-number-test.true)
    (name_here c.deref.result.now (references_of g c.args.pair.1) c.loop-number.number c.in-Some.n.now (c.deref.ensures.value ∙ c.in_ok-theirs.ensures) c.in-Some.ensures.lookup.0 c.in-Some.ensures.lookup.1)
    (sym c.class_by.ensures ∙ classes_same c.class_by.result c.class_by-in-loop-number.result c.ne.result c.ne.ensures c.if-ne.false ∙ c.class_by-in-loop-number.ensures)

pub returns : goal.returns
returns c =
    let g = c.args.graph.now.graph in
    let class = class_by (get is_same_kind c.args.index.now) c.args.classes.now in
    alike_end g class c.args.pair.0 c.args.pair.1 c.loop-number.number c.loop-number.invariant
    (let same = ap length (c.deref-m-items.ensures.value ∙ c.in_ok-ours.ensures) in let l = c.loop-number-test.false in omega arith)
