-- By lesser weights two places come no further apart, so branches reach on.
use Rattle.std.proofs.Common.{◌≡◌, ℕ, ◌+◌, ◌*◌, ◌≤◌, ◌==◌, List, [], ◌∷◌, length, Option, Some, inl, inr, refl, ap, subst, arith}
use Rattle.std.proofs.lemmas.Bool.{cases_Bool}
use Rattle.sq_arena.specs.Entries.{value_of}
use Rattle.sq_graph.specs.Graph.{Block, Graph}
use Rattle.sq_graph.specs.Blocks.{named, block_items, items_of}
use Rattle.sq_graph.specs.Places.{address_in}
use Rattle.sq_graph.specs.Words.{block_words}
use Rattle.sq_layout.specs.Weights.{address_by, BranchReachesBy}
use Rattle.sq_layout.proofs.Shrinking.{IsNearer, IsNoFurther, nearer_on, nearer_here, ahead_of, behind_it, reaches_on, same_block, some_is}

-- by their words blocks stand where they stand
pub by_words : (bs : List Block) (at n : ℕ) → address_by block_words bs at n ≡ address_in bs at n
by_words [] at n = refl
by_words (b ∷ bs) at n =
    elim (cases_Bool (b.name == n)) [ inl here ↦ rw here refl | inr apart ↦ rw apart (by_words bs (at + 4 * block_words b) n) ]

module _ (heavy light : Block → ℕ) (less : (b : Block) → light b ≤ heavy b) where
  -- a block that is found by some weights is found by others
  placed_by : (bs : List Block) (at new n y : ℕ) → address_by light bs new n ≡ Some y → (x : ℕ) × (address_by heavy bs at n ≡ Some x)
  placed_by [] at new n y found = absurd (cc)
  placed_by (b ∷ bs) at new n y found =
      elim (cases_Bool (b.name == n)) [
        | inl here ↦ (at, rw here refl)
        | inr apart ↦ let later = placed_by bs (at + 4 * heavy b) (new + 4 * light b) n y (rw apart at found) in (later.0, rw apart later.1)
      ]

  comes_nearer_by : (bs : List Block) (at new n x y : ℕ) → address_by heavy bs at n ≡ Some x → address_by light bs new n ≡ Some y → IsNearer at new x y
  comes_nearer_by [] at new n x y old found = absurd (cc)
  comes_nearer_by (b ∷ bs) at new n x y old found =
      elim (cases_Bool (b.name == n)) [
        | inl here ↦ nearer_here at new x y (rw here at old) (rw here at found)
        | inr apart ↦
            nearer_on at new (heavy b) (light b) x y (less b)
            (comes_nearer_by bs (at + 4 * heavy b) (new + 4 * light b) n x y (rw apart at old) (rw apart at found))
      ]

  no_further_by : (bs : List Block) (at new n m : ℕ) (c : Block) (x x' y y' : ℕ) → value_of (named bs) n ≡ Some c
      → address_by heavy bs at n ≡ Some x → address_by light bs new n ≡ Some x' → address_by heavy bs at m ≡ Some y → address_by light bs new m ≡ Some y' → IsNoFurther (4 * heavy c) (4 * light c) x x' y y'
  no_further_by [] at new n m c x x' y y' is e e' f f' = absurd (cc)
  no_further_by (b ∷ bs) at new n m c x x' y y' is e e' f f' =
      elim (cases_Bool (b.name == n)) [
        | inl here ↦
            let x_is = some_is at x (rw here at e) in
            let x'_is = some_is new x' (rw here at e') in
            let c_is : b ≡ c = same_block b c (rw here at is) in
            elim (cases_Bool (b.name == m)) [
              | inl too ↦
                  let y_is = some_is at y (rw too at f) in
                  let y'_is = some_is new y' (rw too at f') in
                  inl (omega arith, omega arith, omega arith)
              | inr apart ↦
                  let near : IsNearer (x + 4 * heavy b) (x' + 4 * light b) y y' =
                  subst (λ k. IsNearer (k + 4 * heavy b) (x' + 4 * light b) y y') x_is
                  (subst (λ k. IsNearer (at + 4 * heavy b) (k + 4 * light b) y y') x'_is
                  (comes_nearer_by bs (at + 4 * heavy b) (new + 4 * light b) m y y' (rw apart at f) (rw apart at f'))) in
                  subst (λ k. IsNoFurther (4 * heavy k) (4 * light k) x x' y y') c_is (behind_it (4 * heavy b) (4 * light b) x x' y y' near)
            ]
        | inr other ↦
            elim (cases_Bool (b.name == m)) [
              | inl here ↦
                  let near : IsNearer at new x x' = nearer_on at new (heavy b) (light b) x x' (less b)
                  (comes_nearer_by bs (at + 4 * heavy b) (new + 4 * light b) n x x' (rw other at e) (rw other at e')) in
                  ahead_of (4 * heavy c) (4 * light c) x x' y y'
                  (subst (λ k. IsNearer k y' x x') (some_is at y (rw here at f)) (subst (λ k. IsNearer at k x x') (some_is new y' (rw here at f')) near))
              | inr apart ↦
                  no_further_by bs (at + 4 * heavy b) (new + 4 * light b) n m c x x' y y' (rw other at is) (rw other at e) (rw other at e') (rw apart at f) (rw apart at f')
            ]
      ]

  found_by : (bs : List Block) (at n x : ℕ) → address_by light bs at n ≡ Some x → (b : Block) × (value_of (named bs) n ≡ Some b)
  found_by [] at n x found = absurd (cc)
  found_by (b ∷ bs) at n x found =
      elim (cases_Bool (b.name == n)) [
        | inl here ↦ (b, rw here refl)
        | inr apart ↦ let later = found_by bs (at + 4 * light b) n x (rw apart at found) in (later.0, rw apart later.1)
      ]

  -- what is reached by some weights is reached by lesser ones that cover the items
  pub nearer_by : (g : Graph) (from to : ℕ) → ((b : Block) → length b.items ≤ light b) → BranchReachesBy heavy g from to → BranchReachesBy light g from to
  nearer_by g from to cover reach at target here there =
      let b = found_by g.blocks 0 from at here in
      let was_at = placed_by g.blocks 0 0 from at here in
      let was_target = placed_by g.blocks 0 0 to target there in
      let near = no_further_by g.blocks 0 0 from to b.0 was_at.0 at was_target.0 target b.1 was_at.1 here was_target.1 there in
      let items : length (items_of g from) ≡ length b.0.items = ap (λ (o : Option Block). length (block_items o)) b.1 in
      let light_is = less b.0 in
      let covers = cover b.0 in
      reaches_on (4 * heavy b.0) (4 * light b.0) was_at.0 at was_target.0 target (4 * length (items_of g from)) (4 * length (items_of g from))
      (omega (arith, items, covers)) (omega arith) (omega (arith, light_is)) near
      (reach was_at.0 was_target.0 was_at.1 was_target.1)
