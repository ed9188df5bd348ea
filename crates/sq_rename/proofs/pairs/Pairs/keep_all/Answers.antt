use Rattle.std.proofs.Common.{◌≤◌, ◌+◌, length, drop, arith, inr}
use Rattle.sq_graph.specs.Matches.{item_registers, IsPairIn}
use Rattle.sq_rename.specs.Pairs.{Nothing}
use Rattle.sq_rename.proofs.Joining.{Kept, dropped, kept_head, kept_tail, kept_split, kept_none, join_step, join_fail, join_end}
use Rattle.sq_rename.proofs.Places.{kept_joins}
use Rattle.std.proofs.Common.{true, false}
use Rattle.sq_rename.proofs.pairs.Pairs.keep_all.Goals as goal

pub returns-then-not-pair_all : goal.returns-then-not-pair_all
returns-then-not-pair_all c =
    let items = c.args.items.now in
    let k = c.loop-item.item-index in
    let x = c.item-item.result in
    let e = dropped items k x (omega arith) c.item-item.is in
    let own = IsPairIn (item_registers x) (item_registers x) in
    join_fail c.args.self.now c.loop-item.self (Kept items) (Kept (drop k items)) own Nothing c.loop-item.invariant
    (λ q t p. inr (kept_head (drop k items) (drop (k + 1) items) x e q t p))
    (kept_joins false c.loop-item.self c.pair_all.new.self x c.registers-registers.result c.loop-item.invariant.tables c.registers-registers.ensures c.if-not-pair_all.ensures)

pub loop-item-preserved : goal.loop-item-preserved
loop-item-preserved c =
    let items = c.args.items.now in
    let k = c.loop-item.item-index in
    let x = c.item-item.result in
    let e = dropped items k x (omega arith) c.item-item.is in
    let own = IsPairIn (item_registers x) (item_registers x) in
    join_step c.args.self.now c.loop-item.self (Kept items) (Kept (drop k items)) own (Kept (drop (k + 1) items)) c.loop-item.invariant
    (λ q t p. inr (kept_head (drop k items) (drop (k + 1) items) x e q t p))
    c.pair_all.new.self
    (λ q t p. kept_tail (drop k items) (drop (k + 1) items) x e q t p)
    (λ q t p. kept_split (drop k items) (drop (k + 1) items) x e q t p)
    (kept_joins true c.loop-item.self c.pair_all.new.self x c.registers-registers.result c.loop-item.invariant.tables c.registers-registers.ensures c.if-not-pair_all.ensures)

pub returns : goal.returns
returns c =
    let items = c.args.items.now in
    let k = c.loop-item.item-index in
    let l : length items ≤ k = (let t = c.loop-item-test.false in let e = c.loop-item.auto in omega arith) in
    join_end c.args.self.now c.loop-item.self (Kept items) (Kept (drop k items)) (kept_none items k l) c.loop-item.invariant
