use Rattle.std.proofs.Common.{◌≡◌, ◌<◌, length, inl, inr, sym, subst, arith, get_or}
use Rattle.std.proofs.lemmas.Bool.{cases_lt}
use Rattle.sq_lookup.specs.Lowering.{nowhere}
use Rattle.sq_lookup.specs.Shifting.{shifted_word, IsBetween}
use Rattle.sq_lookup.specs.Standing.{place_at}
use Rattle.sq_lookup.proofs.places.bounds_of.Goals as goal

pub loop-slot-preserved : goal.loop-slot-preserved
loop-slot-preserved c = λ n within is there.
    let places = c.args.places.now in
    let place = place_at places n in
    elim (cases_lt place.slot c.loop-slot.slot) [
      | inl before ↦ c.widened_at-bounds.ensures.old (shifted_word c.args.part.shift place.words) (c.loop-slot.invariant n within (record { part = is.part; from = is.from; before = before; slot = is.slot; listed = is.listed }) there)
      | inr past ↦
          let here : place.slot ≡ c.loop-slot.slot = omega (arith, past, is.before) in
          let name : n ≡ get_or c.args.order.now c.loop-slot.slot 0 = sym (subst (λ k. get_or c.args.order.now k 0 ≡ n) here is.listed) in
          subst (λ m. m < length places → (place_at places m).part ≡ c.args.number → (place_at places m).words < nowhere → IsBetween c.widened_at-bounds.result (shifted_word c.args.part.shift (place_at places m).words)) (sym name) c.widened_at-bounds.ensures.new within is.part there
    ]
