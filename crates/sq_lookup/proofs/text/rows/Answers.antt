use Rattle.std.proofs.Common.{◌≡◌, ◌<◌, ℕ, length, ap, arith, subst, sym, List, [], ◌∷◌, ◌++◌}
use Rattle.std.proofs.lemmas.List.{length-append}
use Rattle.sq_lookup.specs.declared.places.Part.{Part}
use Rattle.sq_lookup.specs.Standing.{part_at, row_of, no_part}
use Rattle.sq_lookup.proofs.Placing.{pushed_each}
use Rattle.sq_lookup.proofs.text.rows.Goals as goal

pub overflow_add-start : goal.overflow_add-start
overflow_add-start c = record { fits = omega (arith, c.loop-row-test.true, c.requires) }

pub loop-row-preserved : goal.loop-row-preserved
loop-row-preserved c =
    let parts = c.loop-row.parts.items in
    let new = row_of c.loop-row.row in
    let is : c.push.new.self.items ≡ parts ++ new ∷ [] = c.in_ok-push.ensures.items in
    let all = pushed_each (λ p (part : Part). part ≡ row_of p) parts new no_part c.loop-row.invariant.each (ap row_of (sym c.loop-row.invariant.count)) in
    record {
      count = omega (arith, ap (λ (xs : List Part). length xs) is, length-append parts (new ∷ []), c.loop-row.invariant.count);
      each = subst (λ xs. (p : ℕ) → p < length xs → part_at xs p ≡ row_of p) (sym is) all;
    }
