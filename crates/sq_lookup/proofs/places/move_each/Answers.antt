use Rattle.std.proofs.Common.{ℕ, refl}
use Rattle.std.proofs.Common.{get_or}
use Rattle.sq_lookup.specs.Shifting.{changed_word, shifted_word}
use Rattle.sq_lookup.proofs.Moving.{moved_more, behind_more}
use Rattle.sq_lookup.proofs.places.move_each.Goals as goal

pub loop-slot-preserved : goal.loop-slot-preserved
loop-slot-preserved c =
    let f : ℕ → ℕ = λ w. changed_word c.args.change (shifted_word c.args.part.shift w) in
    let k = c.loop-slot.slot in
    let name = get_or c.args.order.now k 0 in
    let l = c.loop-slot.invariant in
    let it = c.move_one.ensures in
    record {
      moved = moved_more f c.args.number c.args.to c.args.part.start k name c.args.order.now c.args.places.now c.loop-slot.places c.move_one.new.places refl c.loop-slot.auto.slot l.moved l.behind it.count it.others it.part it.slot it.same it.moved;
      behind = behind_more f c.args.number c.args.to c.args.part.start k name c.args.order.now c.args.places.now c.loop-slot.places c.move_one.new.places refl c.loop-slot.auto.slot l.moved l.behind it.count it.others it.part it.slot it.same it.moved;
    }
