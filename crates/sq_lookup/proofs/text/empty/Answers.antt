use Rattle.std.proofs.Common.{◌/◌, ◌<◌, length, ap, refl, subst, sym, arith}
use Rattle.sq_lookup.specs.Standing.{place_of, row_of, word_in, IsPlaced}
use Rattle.sq_lookup.proofs.Placing.{placed_in}
use Rattle.sq_lookup.proofs.text.empty.Goals as goal

pub returns-clause-kept : goal.returns-clause-kept
returns-clause-kept c =
    let parts = c.in_ok-parts.parts.items in
    let order = c.in_ok-order.order.items in
    let places = c.in_ok-places.places.items in
    record {
      few = c.in_ok-parts.ensures.few;
      each = λ n within.
          let few : n < c.args.names = omega (arith, within, c.in_ok-places.ensures.count) in
          let row : n / 256 < length parts = omega (arith, few, c.in_ok-parts.ensures.all) in
          subst (IsPlaced parts order n) (sym (c.in_ok-places.ensures.each n within))
          (placed_in parts order n (place_of n) (row_of (n / 256)) (c.in_ok-parts.ensures.each (n / 256) row) row
          (record { part = refl; from = omega arith; before = omega arith; slot = omega (arith, few, c.in_ok-order.ensures.count); listed = c.in_ok-order.ensures.each n (omega (arith, few, c.in_ok-order.ensures.count)) })
          (λ there. (omega (arith, there), omega (arith, there))));
    }

pub returns-clause-none : goal.returns-clause-none
returns-clause-none c = λ n within.
    let parts = c.in_ok-parts.parts.items in
    ap (word_in parts) (c.in_ok-places.ensures.each n within)
