use Rattle.std.proofs.Common.{◌≡◌, ◌<◌, ℕ, List, [], ◌∷◌, ◌++◌, length, ap, subst, sym, arith}
use Rattle.std.proofs.lemmas.List.{length-append}
use Rattle.sq_lookup.specs.declared.places.Place.{Place}
use Rattle.sq_lookup.specs.Standing.{place_at, place_of, no_place}
use Rattle.sq_lookup.proofs.Placing.{pushed_each}
use Rattle.sq_lookup.proofs.text.rooms.Goals as goal

pub loop-name-preserved : goal.loop-name-preserved
loop-name-preserved c =
    let l = c.loop-name.invariant in
    let places = c.loop-name.places.items in
    let new : Place = place_of c.loop-name.name in
    let is : c.push.new.self.items ≡ places ++ new ∷ [] = c.in_ok-push.ensures.items in
    let all = pushed_each (λ n (place : Place). place ≡ place_of n) places new no_place l.each (ap place_of (sym l.count)) in
    record {
      count = omega (arith, ap (λ (xs : List Place). length xs) is, length-append places (new ∷ []), l.count);
      each = subst (λ xs. (n : ℕ) → n < length xs → place_at xs n ≡ place_of n) (sym is) all;
    }
