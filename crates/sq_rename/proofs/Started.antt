-- How a walk begins.
use Rattle.std.proofs.Common.{◌≡◌, ℕ, zero, suc, ◌==◌, Bool, false, if◌then◌else◌, ◌∷◌, Option, Some, None, get_or, replicate, refl, sym, ap, ◌∙◌}
use Rattle.std.proofs.lemmas.Bool.{ne_eqb}
use Rattle.sq_rename.specs.Prints.{started}

none_met : (n r : ℕ) → get_or (replicate n (let o : Option ℕ = None in o)) r None ≡ None
none_met zero r = refl
none_met (suc n) zero = refl
none_met (suc n) (suc r) = none_met n r

pub zero_met : (print r : ℕ) → get_or (Some 0 ∷ replicate 31 None) r None ≡ (started print).codes r
zero_met print zero = refl
zero_met print (suc r) =
    let apart : (0 == suc r) ≡ false = ne_eqb 0 (suc r) (λ e. absurd (cc)) in
    none_met 31 r ∙ sym (ap (λ (b : Bool). if b then Some 0 else None) apart)
