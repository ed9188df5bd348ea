use Rattle.std.proofs.Common.{◌≡◌, ◌<◌, ℕ, List, [], ◌∷◌, ◌++◌, length, get_or, ap, subst, sym, arith}
use Rattle.std.proofs.lemmas.List.{length-append}
use Rattle.sq_lookup.proofs.Placing.{pushed_each}
use Rattle.sq_lookup.proofs.text.slots.Goals as goal

pub loop-name-preserved : goal.loop-name-preserved
loop-name-preserved c =
    let l = c.loop-name.invariant in
    let order = c.loop-name.order.items in
    let new : ℕ = c.loop-name.name in
    let is : c.push.new.self.items ≡ order ++ new ∷ [] = c.in_ok-push.ensures.items in
    let all = pushed_each (λ n (name : ℕ). name ≡ n) order new 0 l.each (sym l.count) in
    record {
      count = omega (arith, ap (λ (xs : List ℕ). length xs) is, length-append order (new ∷ []), l.count);
      each = subst (λ xs. (n : ℕ) → n < length xs → get_or xs n 0 ≡ n) (sym is) all;
    }
