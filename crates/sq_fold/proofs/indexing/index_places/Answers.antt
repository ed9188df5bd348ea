use Rattle.std.proofs.Common.{get_or}
use Rattle.std.specs.HashMap.{get}
use Rattle.std.proofs.lemmas.Option.{slice_get-get_or}
use Rattle.sq_finger.specs.Classes.{is_same_kind}
use Rattle.sq_fold.proofs.Finding.{index_next, index_end}
use Rattle.sq_fold.proofs.indexing.index_places.Goals as goal

pub loop-i-preserved : goal.loop-i-preserved
loop-i-preserved c =
    index_next c.args.line.now c.loop-i.i (get_or c.args.line.now c.loop-i.i (record { block = 0; at = 0 })) (get is_same_kind c.loop-i.index) (get is_same_kind c.insert.new.self)
    (slice_get-get_or c.args.line.now c.loop-i.i (record { block = 0; at = 0 }) c.loop-i-test.true) c.loop-i.invariant c.in_ok-insert.ensures.updates.0

pub returns : goal.returns
returns c = index_end c.args.line.now c.loop-i.i (get is_same_kind c.loop-i.index) c.loop-i-test.false c.loop-i.invariant
