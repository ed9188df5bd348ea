-- The first block of each class, as a table is filled with them.
use Rattle.std.proofs.Common.{◌≡◌, ℕ, ◌==◌, nat_eq, true, false, if◌then◌else◌, cond, List, [], ◌∷◌, ◌++◌, map, Option, None, Some, IsSome, is_some, inl, inr, refl, sym, ap, ◌∙◌}
use Rattle.std.specs.List.{AllByRecursion}
use Rattle.std.specs.Option.{option_eq, option_or, unwrap_or}
use Rattle.std.proofs.lemmas.Bool.{cases_Bool, eqb-true}
use Rattle.sq_graph.specs.Blocks.{HasBlock}
use Rattle.sq_graph.specs.Graph.{Block, Graph}
use Rattle.sq_graph.specs.Parts.{names_of}
use Rattle.sq_graph.proofs.Renamed.{names_there}
use Rattle.sq_quotient.specs.Folding.{first_alike}
use Rattle.sq_quotient.specs.Staying.{first_of, stays_by}

-- the same number, and none
same_some : (m n : ℕ) → option_eq nat_eq (Some m) (Some n) ≡ (m == n)
same_some m n = refl

some_there : (o : Option ℕ) → is_some o ≡ true → (m : ℕ) × (o ≡ Some m)
some_there None e = absurd (cc)
some_there (Some m) e = (m, refl)

none_there : (o : Option ℕ) → is_some o ≡ false → o ≡ None
none_there None e = refl
none_there (Some m) e = absurd (cc)

module _ (class : ℕ → Option ℕ) where
  -- one more name
  abbrev own : ℕ → ℕ → Option ℕ
  own n c = if option_eq nat_eq (class n) (Some c) then Some n else None

  pub first_more : (names : List ℕ) (n c : ℕ) → first_of class (names ++ n ∷ []) c ≡ option_or (first_of class names c) (own n c)
  first_more [] n c = refl
  first_more (m ∷ names) n c =
      elim (cases_Bool (option_eq nat_eq (class m) (Some c))) [
        | inl here ↦ rw here refl
        | inr other ↦ rw other (first_more names n c)
      ]

  or_none : (o : Option ℕ) → o ≡ option_or o None
  or_none None = refl
  or_none (Some x) = refl

  -- it has no class
  pub step_none : (names : List ℕ) (n : ℕ) (find : ℕ → Option ℕ) → class n ≡ None → ((c : ℕ) → find c ≡ first_of class names c) → (c : ℕ) → find c ≡ first_of class (names ++ n ∷ []) c
  step_none names n find none are c =
      let e : own n c ≡ None = ap (λ (o : Option ℕ). if option_eq nat_eq o (Some c) then Some n else None) none in
      are c ∙ or_none (first_of class names c) ∙ ap (option_or (first_of class names c)) (sym e) ∙ sym (first_more names n c)

  -- its class has a first block
  pub step_known : (names : List ℕ) (n d : ℕ) (find : ℕ → Option ℕ) → class n ≡ Some d → is_some (find d) ≡ true → ((c : ℕ) → find c ≡ first_of class names c) → (c : ℕ) → find c ≡ first_of class (names ++ n ∷ []) c
  step_known names n d find is known are c =
      elim (cases_Bool (d == c)) [
        | inl here ↦
            let same : d ≡ c = eqb-true d c here in
            let m = some_there (find d) known in
            let there : first_of class names c ≡ Some m.0 = sym (are c) ∙ ap find (sym same) ∙ m.1 in
            are c ∙ there ∙ ap (λ o. option_or o (own n c)) (sym there) ∙ sym (first_more names n c)
        | inr apart ↦
            let e : own n c ≡ None = ap (λ (o : Option ℕ). if option_eq nat_eq o (Some c) then Some n else None) is ∙ rw apart refl in
            are c ∙ or_none (first_of class names c) ∙ ap (option_or (first_of class names c)) (sym e) ∙ sym (first_more names n c)
      ]

  -- it is the first block of its class
  pub step_new : (names : List ℕ) (n d : ℕ) (find more : ℕ → Option ℕ) → class n ≡ Some d → is_some (find d) ≡ false → ((c : ℕ) → more c ≡ cond (nat_eq d c) (Some n) (find c)) → ((c : ℕ) → find c ≡ first_of class names c) → (c : ℕ) → more c ≡ first_of class (names ++ n ∷ []) c
  step_new names n d find more is none put are c =
      elim (cases_Bool (d == c)) [
        | inl here ↦
            let same : d ≡ c = eqb-true d c here in
            let empty : first_of class names c ≡ None = sym (are c) ∙ ap find (sym same) ∙ none_there (find d) none in
            let e : own n c ≡ Some n = ap (λ (o : Option ℕ). if option_eq nat_eq o (Some c) then Some n else None) is ∙ rw here refl in
            put c ∙ rw here (sym e) ∙ ap (λ o. option_or o (own n c)) (sym empty) ∙ sym (first_more names n c)
        | inr apart ↦
            let e : own n c ≡ None = ap (λ (o : Option ℕ). if option_eq nat_eq o (Some c) then Some n else None) is ∙ rw apart refl in
            put c ∙ rw apart (are c) ∙ or_none (first_of class names c) ∙ ap (option_or (first_of class names c)) (sym e) ∙ sym (first_more names n c)
      ]

  -- ---- the block that stays

  of_class : (names : List ℕ) (n c : ℕ) → class n ≡ Some c → unwrap_or (first_of class names c) n ≡ first_alike class names n
  of_class [] n c is = refl
  of_class (m ∷ names) n c is =
      let test : option_eq nat_eq (class m) (Some c) ≡ option_eq nat_eq (class m) (class n) = ap (option_eq nat_eq (class m)) (sym is) in
      elim (cases_Bool (option_eq nat_eq (class m) (Some c))) [
        | inl here ↦ let t = sym test ∙ here in rw (here, t) refl
        | inr other ↦ let t = sym test ∙ other in rw (other, t) (of_class names n c is)
      ]

  of_none : (names : List ℕ) (n : ℕ) → class n ≡ None → AllByRecursion (λ m. IsSome (class m)) names → n ≡ first_alike class names n
  of_none [] n none all = refl
  of_none (m ∷ names) n none all = by (class m) refl all.0 (of_none names n none all.1)
    where
      by : (o : Option ℕ) → class m ≡ o → IsSome (class m) → n ≡ first_alike class names n → n ≡ first_alike class (m ∷ names) n
      by None e some later = absurd (let t = ap is_some e in cc)
      by (Some c) e some later =
          let t : option_eq nat_eq (class m) (class n) ≡ false = ap (λ o. option_eq nat_eq o (class n)) e ∙ ap (option_eq nat_eq (Some c)) none in
          rw t later

  pub stays_is : (names : List ℕ) (first : ℕ → Option ℕ) → ((c : ℕ) → first c ≡ first_of class names c) → AllByRecursion (λ m. IsSome (class m)) names → (n : ℕ) → stays_by first (class n) n ≡ first_alike class names n
  stays_is names first are all n = by (class n) refl
    where
      by : (o : Option ℕ) → class n ≡ o → stays_by first (class n) n ≡ first_alike class names n
      by None e = ap (λ o. stays_by first o n) e ∙ of_none names n e all
      by (Some c) e = ap (λ o. stays_by first o n) e ∙ ap (λ o. unwrap_or o n) (are c) ∙ of_class names n c e

-- each block of a graph has a class
pub all_classed : (g : Graph) (class : ℕ → Option ℕ) → ((n : ℕ) → HasBlock g n → IsSome (class n)) → AllByRecursion (λ m. IsSome (class m)) (names_of g)
all_classed g class some = go g.blocks (names_there g.blocks)
  where
    go : (bs : List Block) → AllByRecursion (λ b. HasBlock g b.name) bs → AllByRecursion (λ m. IsSome (class m)) (map (λ b. b.name) bs)
    go [] there = tt
    go (b ∷ bs) there = (some b.name there.0, go bs there.1)
