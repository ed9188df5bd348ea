use Rattle.std.proofs.Common.{◌+◌, [], drop, arith}
use Rattle.sq_rename.proofs.Joining.{dropped}
use Rattle.sq_rename.proofs.LiveApart.{apart_fails}
use Rattle.sq_rename.proofs.Places.{forms_step, pair_head, pair_tail}
use Rattle.sq_rename.proofs.apart.are_live_apart.Goals as goal

pub loop-k-init : goal.loop-k-init
loop-k-init c = record { forms = λ f. f; pairs = λ ps r s p. p }

pub returns-then-have_apart : goal.returns-then-have_apart
returns-then-have_apart c = λ _ ps m.
    let items = c.args.items.now in
    let others = c.args.others.now in
    let k = c.loop-k.k in
    let x = c.index-items-k.result in
    let y = c.index-others-k.result in
    let e = dropped items k x (omega arith) c.index-items-k.is in
    let f = dropped others k y (omega arith) c.index-others-k.is in
    let step = forms_step ps (drop k items) (drop k others) (drop (k + 1) items) (drop (k + 1) others) x y e f (c.loop-k.invariant.forms m.match.forms) in
    apart_fails ps items others c.args.dead x y c.registers.result c.registers-in-loop-k.result step.0
    (λ r s p. c.loop-k.invariant.pairs ps r s (pair_head ps (drop k items) (drop k others) (drop (k + 1) items) (drop (k + 1) others) x y e f r s p))
    c.registers.ensures c.registers-in-loop-k.ensures (c.have_apart.ensures c.if-have_apart.true) m

pub loop-k-preserved : goal.loop-k-preserved
loop-k-preserved c =
    let items = c.args.items.now in
    let others = c.args.others.now in
    let k = c.loop-k.k in
    let x = c.index-items-k.result in
    let y = c.index-others-k.result in
    let e = dropped items k x (omega arith) c.index-items-k.is in
    let f = dropped others k y (omega arith) c.index-others-k.is in
    record {
      forms = λ h. (forms_step [] (drop k items) (drop k others) (drop (k + 1) items) (drop (k + 1) others) x y e f (c.loop-k.invariant.forms h)).1;
      pairs = λ ps r s p. c.loop-k.invariant.pairs ps r s (pair_tail ps (drop k items) (drop k others) (drop (k + 1) items) (drop (k + 1) others) x y e f r s p);
    }
