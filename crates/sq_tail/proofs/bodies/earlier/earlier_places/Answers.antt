use Rattle.std.proofs.Common.{[], ◌∷◌, length, nat_eq, slice_get, sym, ap, ◌∙◌, subst, arith, length-append}
use Rattle.std.specs.Prelude.{slice_index}
use Rattle.std.specs.HashMap.{get}
use Rattle.sq_tail.specs.BodiesEarlier.{IsLast}
use Rattle.sq_tail.proofs.BodiesEarlier.{last_next, earlier_next}
use Rattle.sq_tail.proofs.bodies.earlier.earlier_places.Goals as goal

pub loop-i-preserved : goal.loop-i-preserved
loop-i-preserved c =
    let keys = c.args.keys.now in
    let i = c.loop-i.i in
    let is = c.in_ok-push.ensures.items in
    let here : IsLast c.args.keys.now (slice_index c.args.keys.now c.loop-i.i) c.loop-i.i c.in_ok-earlier.earlier =
    subst (IsLast c.args.keys.now (slice_index c.args.keys.now c.loop-i.i) c.loop-i.i) (sym c.in_ok-earlier.ensures.old) (c.loop-i.invariant.last (slice_index c.args.keys.now c.loop-i.i)) in
    let count = ap length is in
    record {
      many = omega (arith, c.loop-i.invariant.many, length-append c.loop-i.places.items (c.in_ok-earlier.earlier ∷ []));
      earlier = λ k place e.
          earlier_next keys c.loop-i.places.items i c.in_ok-earlier.earlier c.loop-i.invariant.many c.loop-i.invariant.earlier here k place (sym (ap (λ places. slice_get places k) is) ∙ e);
      last = last_next keys i (get nat_eq c.loop-i.last) (get nat_eq c.insert.new.self) c.loop-i.invariant.last c.in_ok-earlier.ensures.updates.0;
    }
