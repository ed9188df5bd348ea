-- Where names go, as the code finds it, is where they go in the definition.
use Rattle.std.proofs.Common.{◌≡◌, ℕ, zero, suc, ◌<◌, false, ◌==◌, nat_eq, cond, List, [], ◌∷◌, length, get_or, Option, Some, None, refl, sym, ap, ◌∙◌, inl, inr, arith}
use Rattle.std.specs.List.{AllByRecursion, IsDistinct}
use Rattle.std.specs.Option.{unwrap_or}
use Rattle.std.proofs.lemmas.Bool.{cases_Bool, eqb-true, eq-eqb, eqb-false, ne_eqb}
use Rattle.sq_arena.specs.Entries.{keys, HasDistinctKeys, value_of}
use Rattle.sq_graph.specs.Blocks.{named}
use Rattle.sq_graph.specs.Bypasses.{passed}
use Rattle.sq_graph.specs.Graph.{Block}
use Rattle.sq_graph.specs.Leaders.{is_bare}
use Rattle.sq_graph.proofs.Bypassing.{passed-other, passed-bare, passed-kept}
use Rattle.sq_drive.specs.Landing.{landing, landing_before, landing_of}

-- a name that is apart from each of these isn't there
absent : (bs : List Block) (n : ℕ) → AllByRecursion (λ m. nat_eq n m ≡ false) (keys (named bs)) → value_of (named bs) n ≡ None
absent [] n apart = refl
absent (b ∷ rest) n apart =
    let other : (b.name == n) ≡ false = ne_eqb b.name n (λ same. eqb-false n b.name apart.0 (sym same)) in
    rw other (absent rest n apart.1)

first_apart : (b : Block) (rest : List Block) → HasDistinctKeys (named (b ∷ rest)) → value_of (named rest) b.name ≡ None
unfolding IsDistinct
first_apart b rest distinct = absent rest b.name distinct.0

rest_distinct : (b : Block) (rest : List Block) → HasDistinctKeys (named (b ∷ rest)) → HasDistinctKeys (named rest)
unfolding IsDistinct
rest_distinct b rest distinct = distinct.1

-- of the first block
first_landed : (b : Block) (rest : List Block) → HasDistinctKeys (named (b ∷ rest)) → landing_before (landing rest) b ≡ passed (b ∷ rest) b.name
first_landed b [] distinct =
    elim (cases_Bool (is_bare b)) [
      | inl bare ↦ rw (bare, eq-eqb b.name b.name refl) refl
      | inr solid ↦ rw solid refl
    ]
first_landed b (next ∷ rest) distinct =
    elim (cases_Bool (is_bare b)) [
      | inl bare ↦
          let ahead : landing_before (landing rest) next ≡ passed (next ∷ rest) next.name = first_landed next rest (rest_distinct b (next ∷ rest) distinct) in
          let here : landing_before (landing (next ∷ rest)) b ≡ landing_before (landing rest) next = rw bare refl in
          here ∙ ahead ∙ sym (passed-bare b next rest bare)
      | inr solid ↦
          let here : landing_before (landing (next ∷ rest)) b ≡ b.name = rw solid refl in
          here ∙ sym (passed-kept b (next ∷ rest) solid (first_apart b (next ∷ rest) distinct))
    ]

-- THE NAMES GO where they go in the definition
pub landed : (bs : List Block) → HasDistinctKeys (named bs) → (x : ℕ) → unwrap_or (landing_of bs x) x ≡ passed bs x
landed [] distinct x = refl
landed (b ∷ rest) distinct x =
    elim (cases_Bool (b.name == x)) [
      | inl here ↦
          let found : unwrap_or (landing_of (b ∷ rest) x) x ≡ landing_before (landing rest) b = rw here refl in
          found ∙ first_landed b rest distinct ∙ ap (passed (b ∷ rest)) (eqb-true b.name x here)
      | inr apart ↦
          let found : unwrap_or (landing_of (b ∷ rest) x) x ≡ unwrap_or (landing_of rest x) x = rw apart refl in
          found ∙ landed rest (rest_distinct b rest distinct) x ∙ sym (passed-other b rest x apart)
    ]

-- one block more at the front
pub one_landed : (bs tail : List Block) (b : Block) (at : ℕ) (old new : ℕ → Option ℕ) → bs ≡ b ∷ tail → at ≡ landing_before (landing tail) b → ((x : ℕ) → old x ≡ landing_of tail x) → ((x : ℕ) → new x ≡ cond (nat_eq b.name x) (Some at) (old x)) → (x : ℕ) → new x ≡ landing_of bs x
one_landed bs tail b at old new whole is before updated x =
    let here : cond (nat_eq b.name x) (Some at) (old x) ≡ landing_of (b ∷ tail) x =
    elim (cases_Bool (nat_eq b.name x)) [
      | inl same ↦ rw same (ap Some is)
      | inr apart ↦ rw apart (before x)
    ]
    in
    updated x ∙ here ∙ ap (λ cs. landing_of cs x) (sym whole)

-- an element that is there, whatever else there would be
pub same_default : (xs : List ℕ) (i d e : ℕ) → i < length xs → get_or xs i d ≡ get_or xs i e
same_default [] i d e near = absurd (omega (arith, near))
same_default (x ∷ xs) zero d e near = refl
same_default (x ∷ xs) (suc i) d e near = same_default xs i d e (omega (arith, near))
