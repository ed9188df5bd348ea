-- The first target of each address, entry by entry.
use Rattle.std.proofs.Common.{◌≡◌, ℕ, Bool, true, false, ◌&&◌, nat_eq, cond, if◌then◌else◌, List, [], ◌∷◌, ◌++◌, Option, Some, None, refl}
use Rattle.std.specs.Option.{option_map, option_or}
use Rattle.std.specs.List.{find}
use Rattle.sq_reloc.specs.declared.entry.Entry.{Entry}
use Rattle.sq_reloc.specs.Entries.{target_of, first_target}

-- what one entry gives to an address
abbrev pub given : (Entry → Bool) → Entry → ℕ → Option ℕ
given test e address = if test e && nat_eq e.offset address then Some (target_of e) else None

one_given : (p : Bool) (e : Entry) → option_map target_of (cond p (Some e) None) ≡ cond p (Some (target_of e)) None
one_given true e = refl
one_given false e = refl

one_more : (p : Bool) (e : Entry) (found last : Option Entry) (given : Option ℕ) → option_map target_of last ≡ option_or (option_map target_of found) given → option_map target_of (cond p (Some e) last) ≡ option_or (option_map target_of (cond p (Some e) found)) given
one_more true e found last given rest = refl
one_more false e found last given rest = rest

-- an entry behind gives its target only to an address that has none yet
pub first_push : (test : Entry → Bool) (entries : List Entry) (e : Entry) (address : ℕ) → first_target test (entries ++ e ∷ []) address ≡ option_or (first_target test entries address) (given test e address)
first_push test [] e address = one_given (test e && nat_eq e.offset address) e
first_push test (x ∷ xs) e address =
    one_more (test x && nat_eq x.offset address) x (find (λ y. test y && nat_eq y.offset address) xs) (find (λ y. test y && nat_eq y.offset address) (xs ++ e ∷ [])) (given test e address) (first_push test xs e address)
