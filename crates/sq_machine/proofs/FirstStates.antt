-- The start of a run.
use Rattle.std.proofs.Common.{◌≡◌, ◌↔◌, ◌<◌, ℕ, zero, suc, Bool, IsTrue, List, [], ◌∷◌, length, map, replicate, slice_index_or, Any, inl, inr, refl, sym, ap, ◌∙◌, subst, arith}
use Rattle.std.proofs.lemmas.List.{get_or-map, length-map}
use Rattle.sq_system.specs.Starts.{Start, HasRoom, stack_pointer, ram_end, Meets, IsBadStart}
use Rattle.sq_system.specs.declared.start.Extent.{Extent}
use Rattle.sq_machine.specs.declared.world.LoadedPiece.{LoadedPiece}
use Rattle.sq_machine.specs.Views.{numbers}
use Rattle.sq_machine.specs.Starts.{zeros, seen, extent_of}

zero_at : (n x : ℕ) → numbers (replicate n 0) x ≡ 0
zero_at zero x = refl
zero_at (suc n) zero = refl
zero_at (suc n) (suc x) = zero_at n x

pub zero_registers : (n : ℕ) → numbers (replicate n 0) ≡ zeros
zero_registers n = λ i x. zero_at n x i

-- P of some element of a mapped list
any_mapped : {A B : Type 0} (P : B → Type 0) (f : A → B) (xs : List A) → Any (λ a. P (f a)) xs → Any P (map f xs)
any_mapped P f xs h =
    let below : h.0 < length (map f xs) = rw length-map h.2 in (h.0, f h.1, below, get_or-map f xs h.0 h.1 (f h.1) h.2 ∙ ap f h.3, h.4)

unmapped : {A B : Type 0} (P : B → Type 0) (f : A → B) (xs : List A) (k : ℕ) (b : B) → k < length (map f xs) → slice_index_or (map f xs) k b ≡ b → P b → Any (λ a. P (f a)) xs
unmapped P f [] k b h e p = absurd (omega arith)
unmapped P f (x ∷ xs) zero b h e p = (0, x, omega arith, refl, subst P (sym e) p)
unmapped P f (x ∷ xs) (suc k) b h e p =
    let r = unmapped P f xs k b (omega arith) e p in (suc r.0, r.1, omega (arith, r.2), r.3, r.4)

-- what a test of each piece says of a start that has room
pub bad_by_test : (pieces : List LoadedPiece) (s : Start) (from to : ℕ) (b : Bool) → HasRoom s → from ≡ stack_pointer s → to ≡ ram_end s →
    IsTrue b ↔ Any (λ loaded. Meets from to (extent_of (seen loaded))) pieces → IsTrue b ↔ IsBadStart (map extent_of (map seen pieces)) s
bad_by_test pieces s from to b room p q h =
    let P : Extent → Type 0 = Meets (stack_pointer s) (ram_end s) in
    let f : IsTrue b ↔ Any (λ loaded. Meets (stack_pointer s) to (extent_of (seen loaded))) pieces = subst (λ x. IsTrue b ↔ Any (λ loaded. Meets x to (extent_of (seen loaded))) pieces) p h in
    let g : IsTrue b ↔ Any (λ loaded. P (extent_of (seen loaded))) pieces = subst (λ y. IsTrue b ↔ Any (λ loaded. Meets (stack_pointer s) y (extent_of (seen loaded))) pieces) q f in
    (λ t. inr (any_mapped P extent_of (map seen pieces) (any_mapped (λ piece. P (extent_of piece)) seen pieces (g.0 t))), λ bad. g.1 (from_bad bad))
  where
    from_bad : IsBadStart (map extent_of (map seen pieces)) s → Any (λ loaded. Meets (stack_pointer s) (ram_end s) (extent_of (seen loaded))) pieces
    from_bad (inl n) = absurd (n room)
    from_bad (inr a) =
        let here : Any (λ piece. Meets (stack_pointer s) (ram_end s) (extent_of piece)) (map seen pieces) = unmapped (Meets (stack_pointer s) (ram_end s)) extent_of (map seen pieces) a.0 a.1 a.2 a.3 a.4 in
        unmapped (λ piece. Meets (stack_pointer s) (ram_end s) (extent_of piece)) seen pieces here.0 here.1 here.2 here.3 here.4
