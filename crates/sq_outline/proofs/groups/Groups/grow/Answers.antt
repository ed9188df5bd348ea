use Rattle.std.proofs.Common.{◌∷◌, [], arith, ap, ◌∙◌, sym, length-append}
use Rattle.sq_finger.specs.Groups.{grown}
use Rattle.sq_finger.proofs.Grouping.{kept_more, kept_end}
use Rattle.sq_outline.proofs.groups.Groups.grow.Goals as goal

pub loop-alloc-preserved : goal.loop-alloc-preserved
loop-alloc-preserved c =
    let old = c.loop-alloc.self-inside.groups.items in
    let e = c.in_ok-push.ensures.items in
    let l = c.loop-alloc-test.true in
    let n = c.len.ensures in
    record {
      few = let k = length-append old (c.new.result ∷ []) in let ok = c.loop-alloc.self-inside.groups.ok in rw e (omega arith);
      same = rw e (kept_more (λ v. v.items) c.args.group old c.new.result c.new.ensures.items (omega arith)) ∙ c.loop-alloc.invariant.same;
    }

pub returns : goal.returns
returns c =
    let old = c.loop-alloc.self-inside.groups.items in
    let l = c.loop-alloc-test.false in
    let n = c.len.ensures in
    sym (kept_end (λ v. v.items) c.args.group old (omega arith)) ∙ c.loop-alloc.invariant.same ∙ ap (grown c.args.group) c.self.view_is
