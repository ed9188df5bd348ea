-- One more name in a table of what names resolve to.
use Rattle.std.proofs.Common.{◌≡◌, ℕ, ◌+◌, ◌<◌, ◌≤◌, ◌==◌, ◌⊎◌, arith, Bool, true, false, if◌then◌else◌, List, [], ◌∷◌, map, Option, None, Some, IsSome, is_some, Result, Ok, Err, OnOk, inl, inr, refl, sym, ap, ◌∙◌, subst, nat_eq}
use Rattle.std.proofs.lemmas.Bool.{cases_Bool, eqb-true, eq-eqb}
use Rattle.std.specs.Map.{update}
use Rattle.sq_arena.specs.Entries.{value_of}
use Rattle.sq_graph.specs.Graph.{Block, Graph}
use Rattle.sq_graph.specs.Blocks.{named}
use Rattle.sq_graph.specs.Resolve.{jump_from, resolved}
use Rattle.sq_lookup.specs.Tables.{value_at}
use Rattle.sq_lookup.specs.Resolutions.{AreResolutions, AreClosed}
use Rattle.sq_lookup.proofs.Following.{off_cycle, resolves_by}

-- where a lone Jump has something, its target has, too, or is this one
abbrev pub IsClosedBut : ℕ → Graph → List (Option ℕ) → Type 0
IsClosedBut at g found = (n to : ℕ) → IsSome (value_at found n) → jump_from g n ≡ Some to → IsSome (value_at found to) ⊎ (to ≡ at)

-- how many of these names have nothing
abbrev pub missing : List (Option ℕ) → List ℕ → ℕ
missing found [] = 0
missing found (n ∷ ns) = (if is_some (value_at found n) then 0 else 1) + missing found ns

-- the old table and the new one, in which a value was put under a name
module _ (g : Graph) (old new : List (Option ℕ)) (name value : ℕ) (put : (n : ℕ) → value_at new n ≡ update nat_eq (value_at old) name (Some value) n) where
  pub here : value_at new name ≡ Some value
  here = put name ∙ rw (eq-eqb name name refl) refl

  pub known : IsSome (value_at new name)
  known = subst IsSome (sym here) refl

  apart : (n : ℕ) → (name == n) ≡ false → value_at new n ≡ value_at old n
  apart n differs = put n ∙ rw differs refl

  pub stays_known : (n : ℕ) → IsSome (value_at old n) → IsSome (value_at new n)
  stays_known n some =
      elim (cases_Bool (name == n)) [
        | inl same ↦ subst (λ m. IsSome (value_at new m)) (eqb-true name n same) known
        | inr differs ↦ subst IsSome (sym (apart n differs)) some
      ]

  was_known : (n : ℕ) → IsSome (value_at new n) → (name ≡ n) ⊎ IsSome (value_at old n)
  was_known n some =
      elim (cases_Bool (name == n)) [
        | inl same ↦ inl (eqb-true name n same)
        | inr differs ↦ inr (subst IsSome (apart n differs) some)
      ]

  pub are_on : resolved g name ≡ value → AreResolutions g old → AreResolutions g new
  are_on is are n to found =
      elim (cases_Bool (name == n)) [
        | inl same ↦
            let at = eqb-true name n same in
            let value_is : Some value ≡ Some to = sym here ∙ ap (value_at new) at ∙ found in
            ap (resolved g) (sym at) ∙ is ∙ (let e : value ≡ to = cc in e)
        | inr differs ↦ are n to (sym (apart n differs) ∙ found)
      ]

  -- the table is closed again where the name's target has something
  pub closed_on : ((to : ℕ) → jump_from g name ≡ Some to → IsSome (value_at old to)) → AreClosed g old → AreClosed g new
  closed_on next closed n to some jump =
      elim (was_known n some) [
        | inl same ↦ stays_known to (next to (subst (λ m. jump_from g m ≡ Some to) (sym same) jump))
        | inr was ↦ stays_known to (closed n to was jump)
      ]

  -- it is closed but for where the name leads, where it was but for the name
  pub closed_but : (next : ℕ) → jump_from g name ≡ Some next → IsClosedBut name g old → IsClosedBut next g new
  closed_but next leads closed n to some jump =
      elim (was_known n some) [
        | inl same ↦ inr (let e : Some to ≡ Some next = sym jump ∙ ap (jump_from g) (sym same) ∙ leads in cc)
        | inr was ↦ elim (closed n to was jump) [
          | inl there ↦ inl (stays_known to there)
          | inr at ↦ inl (subst (λ m. IsSome (value_at new m)) (sym at) known)
        ]
      ]

  -- so many fewer have nothing
  no_more : (ns : List ℕ) → missing new ns ≤ missing old ns
  no_more [] = omega arith
  no_more (n ∷ ns) = omega (arith, one (is_some (value_at old n)) (is_some (value_at new n)) (stays_known n), no_more ns)
    where
      one : (a b : Bool) → (a ≡ true → b ≡ true) → (if b then 0 else 1) ≤ (if a then 0 else 1)
      one true b more = rw (more refl) (omega arith)
      one false true more = omega arith
      one false false more = omega arith

  pub fewer : (bs : List Block) → IsSome (value_of (named bs) name) → value_at old name ≡ None → missing new (map (λ (b : Block). b.name) bs) < missing old (map (λ (b : Block). b.name) bs)
  fewer [] there none = absurd (cc)
  fewer (b ∷ bs) there none =
      elim (cases_Bool (b.name == name)) [
        | inl same ↦
            let is = eqb-true b.name name same in
            let was : value_at old b.name ≡ None = ap (value_at old) is ∙ none in
            let now : value_at new b.name ≡ Some value = ap (value_at new) is ∙ here in
            rw (was, now) (omega (arith, no_more (map (λ (w : Block). w.name) bs)))
        | inr differs ↦
            let rest = fewer bs (subst IsSome (rw differs refl) there) none in
            let more = no_more (b.name ∷ []) in
            omega (arith, rest, more)
      ]

-- what holds where a call answers Ok
pub on_ok : {T E : Type 0} (r : Result T E) (P Q : Type 0) → (P → Q) → OnOk r P → OnOk r Q
on_ok (Ok x) P Q f p = f p
on_ok (Err e) P Q f p = tt

pub is_nothing : (o : Option ℕ) → is_some o ≡ false → o ≡ None
is_nothing None is = refl
is_nothing (Some n) is = absurd (cc)

-- what a lone Jump that isn't in a table resolves to, where its target is in it
pub noted_by : (g : Graph) (found : List (Option ℕ)) (at next to : ℕ) → AreResolutions g found → AreClosed g found → value_at found at ≡ None → jump_from g at ≡ Some next → value_at found next ≡ Some to → resolved g at ≡ to
noted_by g found at next to are closed none jump there =
    resolves_by g at next (off_cycle g found at next closed none jump (subst IsSome (sym there) refl)) jump ∙ are next to there
