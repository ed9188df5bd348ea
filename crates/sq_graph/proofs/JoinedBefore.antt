-- Joining a few names, one after another, each to the block before where it isn't used, makes the graph canonical that isn't
-- at these names alone.
use Rattle.std.proofs.Common.{◌≡◌, ℕ, ◌==◌, Bool, true, false, ◌&&◌, ◌||◌, not, List, [], ◌∷◌, refl, sym, ap, ◌∙◌, inl, inr, append_assoc}
use Rattle.std.proofs.lemmas.Bool.{cases_Bool, eq-eqb, eqb-true, ne_eqb, eqb-false}
use Rattle.std.specs.List.{All}
use Rattle.sq_isa.specs.Registers.{is_among}
use Rattle.sq_graph.specs.Graph.{Block, Graph}
use Rattle.sq_graph.specs.Uses.{uses}
use Rattle.sq_graph.specs.Rules.{IsGraph}
use Rattle.sq_graph.specs.Leaders.{is_fall, is_bare, FallsIntoLeaders}
use Rattle.sq_graph.specs.Canonical.{joined_onto, joined_blocks, joined_by, all_but, joined, joined_before, canonical_of}
use Rattle.sq_graph.proofs.Joining.{takes, with_next}
use Rattle.sq_graph.proofs.BlockPasses.{head_joined, onto_same, used_joins}
use Rattle.sq_graph.proofs.CanonicalLaws.{uses-joined_by, none_joined, none_bypassed}

-- JOINING TWICE

module _ (p q : ℕ → Bool) where
  -- a name leads where it does both times
  abbrev pub lead_both : ℕ → Bool
  lead_both n = p n && q n

  too : (b next : Block) → takes q b next ≡ true → (is_fall b.term && not (p next.name && q next.name)) ≡ true
  too b next joins = by (is_fall b.term) (p next.name) (q next.name) joins
    where
      by : (f x y : Bool) → (f && not y) ≡ true → (f && not (x && y)) ≡ true
      by true true false joins = refl
      by true false false joins = refl
      by true x true joins = absurd (cc)
      by false x y joins = absurd (cc)

  -- a block that takes over the next one the first time
  onto_taken : (b next : Block) (rest : List Block) → takes q b next ≡ true → joined_onto p (with_next q b next) rest ≡ joined_onto lead_both b (joined_onto p next rest)
  onto_taken b next [] joins = rw (too b next joins) refl
  onto_taken b next (other ∷ rest) joins =
      elim (cases_Bool (takes p next other)) [
        | inl more ↦
            rw (more, too b next joins)
            (ap (λ is. record { name = b.name; items = is; term = other.term } ∷ rest) (append_assoc b.items next.items other.items))
        | inr ends ↦ rw (ends, too b next joins) refl
      ]

  -- and one that doesn't
  onto_left : (b next : Block) (rest : List Block) → takes q b next ≡ false → joined_onto p b (joined_onto p next rest) ≡ joined_onto lead_both b (joined_onto p next rest)
  onto_left b next rest stays =
      onto_same p lead_both b next.name (joined_onto p next rest) (head_joined p next rest)
      (λ falls. by (is_fall b.term) (p next.name) (q next.name) stays falls)
    where
      by : (f x y : Bool) → (f && not y) ≡ false → f ≡ true → x ≡ (x && y)
      by true true true stays falls = refl
      by true false y stays falls = refl
      by true true false stays falls = absurd (cc)
      by false x y stays falls = absurd (cc)

  onto_twice : (b : Block) (bs : List Block) → joined_blocks p (joined_onto q b bs) ≡ joined_onto lead_both b (joined_blocks p bs)
  onto_twice b [] = refl
  onto_twice b (next ∷ bs) =
      elim (cases_Bool (takes q b next)) [
        | inl joins ↦ rw joins (onto_taken b next (joined_blocks p bs) joins)
        | inr stays ↦ rw stays (onto_left b next (joined_blocks p bs) stays)
      ]

  pub joined_twice : (bs : List Block) → joined_blocks p (joined_blocks q bs) ≡ joined_blocks lead_both bs
  joined_twice [] = refl
  joined_twice (b ∷ bs) = onto_twice b (joined_blocks q bs) ∙ ap (joined_onto lead_both b) (joined_twice bs)

-- where blocks are joined depends on those names alone that are fallen into
pub joined_agree : (leads p q : ℕ → Bool) (bs : List Block) → ((n : ℕ) → leads n ≡ true → p n ≡ q n) → FallsIntoLeaders leads bs → joined_blocks p bs ≡ joined_blocks q bs
joined_agree leads p q [] same falls = refl
joined_agree leads p q (b ∷ []) same falls = refl
joined_agree leads p q (b ∷ next ∷ bs) same falls =
    onto_same p q b next.name (joined_blocks p (next ∷ bs)) (head_joined p next (joined_blocks p bs)) (λ fall. same next.name (falls.0 fall))
    ∙ ap (joined_onto q b) (joined_agree leads p q (next ∷ bs) same falls.1)

all_lead : (leads : ℕ → Bool) (bs : List Block) → ((n : ℕ) → leads n ≡ true) → FallsIntoLeaders leads bs
all_lead leads [] lead = tt
all_lead leads (b ∷ []) lead = tt
all_lead leads (b ∷ next ∷ bs) lead = (λ fall. lead next.name, all_lead leads (next ∷ bs) lead)

joined_same : (p q : ℕ → Bool) (g : Graph) → ((n : ℕ) → p n ≡ q n) → joined_by p g ≡ joined_by q g
joined_same p q g same =
    ap (λ bs. record g { blocks = bs }) (joined_agree (λ n. true) p q g.blocks (λ n lead. same n) (all_lead (λ n. true) g.blocks (λ n. refl)))

-- ONE NAME AFTER ANOTHER

abbrev pub joined_before_each : List ℕ → Graph → Graph
joined_before_each [] g = g
joined_before_each (name ∷ names) g = joined_before_each names (joined_before g name)

-- whether a name is used, or none of these
abbrev pub leads_but : List ℕ → List ℕ → ℕ → Bool
leads_but names used n = not (is_among names n) || is_among used n

pub uses-before : (g : Graph) (name : ℕ) → uses (joined_before g name) ≡ uses g
uses-before g name =
    elim (cases_Bool (is_among (uses g) name)) [ inl used ↦ rw used refl | inr unused ↦ rw unused (uses-joined_by (all_but name) g) ]

one_before : (g : Graph) (name : ℕ) (names : List ℕ) → joined_by (leads_but names (uses g)) (joined_before g name) ≡ joined_by (leads_but (name ∷ names) (uses g)) g
one_before g name names =
    elim (cases_Bool (is_among (uses g) name)) [
      | inl used ↦
          rw used
          (joined_same (leads_but names (uses g)) (leads_but (name ∷ names) (uses g)) g
          (λ n.
          elim (cases_Bool (name == n)) [
            | inl here ↦ rw here (leading (is_among names n) (is_among (uses g) n) (ap (is_among (uses g)) (sym (eqb-true name n here)) ∙ used))
            | inr apart ↦ rw apart refl
          ]))
      | inr unused ↦
          rw unused
          (ap (λ bs. record g { blocks = bs }) (joined_twice (leads_but names (uses g)) (all_but name) g.blocks)
          ∙ joined_same (λ n. leads_but names (uses g) n && all_but name n) (leads_but (name ∷ names) (uses g)) g
          (λ n.
          elim (cases_Bool (name == n)) [
            | inl here ↦
                let is = eqb-true name n here in
                rw (here, eq-eqb n name (sym is), ap (is_among (uses g)) (sym is) ∙ unused) (nowhere (not (is_among names n) || false))
            | inr apart ↦
                rw (apart, ne_eqb n name (λ same. eqb-false name n apart (sym same))) (everywhere (not (is_among names n) || is_among (uses g) n))
          ]))
    ]
  where
    leading : (a u : Bool) → u ≡ true → (not a || u) ≡ u
    leading true u used = refl
    leading false u used = sym used

    nowhere : (a : Bool) → (a && false) ≡ false
    nowhere true = refl
    nowhere false = refl

    everywhere : (a : Bool) → (a && true) ≡ a
    everywhere true = refl
    everywhere false = refl

pub before_each_is : (names : List ℕ) (g : Graph) → joined_before_each names g ≡ joined_by (leads_but names (uses g)) g
before_each_is [] g =
    sym (ap (λ bs. record g { blocks = bs }) (none_joined (leads_but [] (uses g)) g.blocks (all_lead (leads_but [] (uses g)) g.blocks (λ n. refl))))
before_each_is (name ∷ names) g =
    before_each_is names (joined_before g name)
    ∙ ap (λ us. joined_by (leads_but names us) (joined_before g name)) (uses-before g name)
    ∙ one_before g name names

-- where no block is empty with Fall, and those that are fallen into are used or among these names
pub canonical_before : (names : List ℕ) (g : Graph) → IsGraph g → All (λ b. is_bare b ≡ false) g.blocks → FallsIntoLeaders (λ n. is_among names n || is_among (uses g) n) g.blocks → canonical_of g ≡ joined_before_each names g
canonical_before names g rules solid falls =
    ap joined (none_bypassed g.blocks g solid)
    ∙ ap (λ bs. record g { blocks = bs })
    (sym (used_joins (uses g) g.blocks [] g.blocks refl rules.distinct)
    ∙ joined_agree (λ n. is_among names n || is_among (uses g) n) (is_among (uses g)) (leads_but names (uses g)) g.blocks (λ n. same (is_among names n) (is_among (uses g) n)) falls)
    ∙ sym (before_each_is names g)
  where
    same : (a u : Bool) → (a || u) ≡ true → u ≡ (not a || u)
    same true u lead = refl
    same false true lead = refl
    same false false lead = absurd (cc)
