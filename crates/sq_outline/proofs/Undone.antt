-- A canonical graph stays canonical when calls go to another procedure, when a procedure goes whose names are used elsewhere, and
-- when a body stands in place of calls.
use Rattle.std.proofs.Common.{◌≡◌, ◌≢◌, ◌<◌, ℕ, zero, suc, ◌==◌, Bool, true, false, ◌&&◌, ◌||◌, not, if◌then◌else◌, List, [], ◌∷◌, ◌++◌, map, remove, slice_get, ◌⊎◌, inl, inr, refl, sym, ap, ◌∙◌, subst, arith}
use Rattle.std.specs.List.{All}
use Rattle.std.proofs.lemmas.Bool.{cases_Bool, cases_lt, or_cases, or_left, or_right}
use Rattle.std.proofs.lemmas.List.{map-append}
use Rattle.std.proofs.lemmas.List.Elements.{All-nil, All-cons, All-head, All-tail}
use Rattle.sq_isa.specs.Registers.{is_among}
use Rattle.sq_graph.specs.declared.item.Item.{Item}
use Rattle.sq_graph.specs.declared.item.Item.TheVariants.{Op, Hi, Lo, Out}
use Rattle.sq_graph.specs.Graph.{Block, Procedure, Graph}
use Rattle.sq_graph.specs.Blocks.{items_of_blocks, items_of_bodies, procedure_body, body_of}
use Rattle.sq_graph.specs.Leaders.{is_fall, has_no_items, is_bare, follows_a_term, is_leader, FallsIntoLeaders, IsCanonical}
use Rattle.sq_graph.specs.Operations.{redirected_calls, without_procedure}
use Rattle.sq_graph.specs.Renames.{recalled_item, recalled_items, recalled_block, recalled_procedure, recalled, swapped, lowered}
use Rattle.sq_graph.specs.Terms.{goes_on}
use Rattle.sq_graph.specs.Uses.{items_uses, term_uses, terms_uses, code_word_uses, uses}
use Rattle.sq_outline.specs.Recalled.{AreDoubles, without_double}
use Rattle.sq_outline.specs.Inlined.{is_call, call_count, spread, spread_block, spread_all, inlined_all}
use Rattle.sq_outline.proofs.Kept.{Uses, uses_left, uses_right, uses_either, body_used, all_used, falls_more}
use Rattle.sq_outline.proofs.Spreading.{calls_in, is_one, calls_in-cons, calls_in_blocks-cons}

-- OTHER ITEMS

abbrev pub with_items : (List Item → List Item) → Block → Block
with_items f b = record b { items = f b.items }

and_still : (a b c : Bool) → (a ≡ false → b ≡ false) → a && c ≡ false → b && c ≡ false
and_still true true c still e = e
and_still true false c still e = refl
and_still false true c still e = absurd (let f = still refl in cc)
and_still false false c still e = refl

-- Each block gets other items, and there are other procedures: a graph stays canonical where no block gets empty and all names
-- are used still.
module _ (f : List Item → List Item) (solid : (is : List Item) → has_no_items is ≡ false → has_no_items (f is) ≡ false) (used : (is : List Item) (n : ℕ) → Uses is n → Uses (f is) n) where
  terms_same : (bs : List Block) → terms_uses (map (with_items f) bs) ≡ terms_uses bs
  terms_same [] = refl
  terms_same (b ∷ bs) = ap (λ us. term_uses b.term ++ us) (terms_same bs)

  follows_same : (bs : List Block) (n : ℕ) → follows_a_term (map (with_items f) bs) n ≡ follows_a_term bs n
  follows_same [] n = refl
  follows_same (b ∷ []) n = refl
  follows_same (b ∷ c ∷ bs) n = ap (λ later. goes_on b.term && not (is_fall b.term) && c.name == n || later) (follows_same (c ∷ bs) n)

  falls_same : (leads : ℕ → Bool) (bs : List Block) → FallsIntoLeaders leads bs → FallsIntoLeaders leads (map (with_items f) bs)
  falls_same leads [] falls = tt
  falls_same leads (b ∷ []) falls = tt
  falls_same leads (b ∷ c ∷ bs) falls = (falls.0, falls_same leads (c ∷ bs) falls.1)

  still_solid : (bs : List Block) → All (λ b. is_bare b ≡ false) bs → All (λ b. is_bare b ≡ false) (map (with_items f) bs)
  still_solid [] all = All-nil (λ b. is_bare b ≡ false)
  still_solid (b ∷ bs) all =
      All-cons (λ b. is_bare b ≡ false) (with_items f b) (map (with_items f) bs)
      (and_still (has_no_items b.items) (has_no_items (f b.items)) (is_fall b.term) (solid b.items) (All-head (λ b. is_bare b ≡ false) b bs all))
      (still_solid bs (All-tail (λ b. is_bare b ≡ false) b bs all))

  blocks_used : (bs : List Block) (n : ℕ) → Uses (items_of_blocks bs) n → Uses (items_of_blocks (map (with_items f) bs)) n
  blocks_used [] n u = u
  blocks_used (b ∷ bs) n u =
      elim (uses_either b.items (items_of_blocks bs) n u) [
        | inl here ↦ uses_left (f b.items) (items_of_blocks (map (with_items f) bs)) n (used b.items n here)
        | inr later ↦ uses_right (f b.items) (items_of_blocks (map (with_items f) bs)) n (blocks_used bs n later)
      ]

  pub other_items_canonical : (g : Graph) (ps : List Procedure)
      → ((n : ℕ) → Uses (items_of_bodies g.procedures) n → Uses (items_of_blocks (map (with_items f) g.blocks) ++ items_of_bodies ps) n)
      → IsCanonical g → IsCanonical (record g { blocks = map (with_items f) g.blocks; procedures = ps })
  other_items_canonical g ps bodies canonical =
      let h : Graph = record g { blocks = map (with_items f) g.blocks; procedures = ps } in
      let olds : List Item = items_of_blocks g.blocks ++ items_of_bodies g.procedures in
      let news : List Item = items_of_blocks h.blocks ++ items_of_bodies ps in
      let all : (n : ℕ) → Uses olds n → Uses news n = λ n u.
      elim (uses_either (items_of_blocks g.blocks) (items_of_bodies g.procedures) n u) [
        | inl here ↦ uses_left (items_of_blocks h.blocks) (items_of_bodies ps) n (blocks_used g.blocks n here)
        | inr later ↦ bodies n later
      ] in
      let leads : (n : ℕ) → is_leader g n ≡ true → is_leader h n ≡ true = λ n e.
      elim (or_cases (is_among (uses g) n) (follows_a_term g.blocks n) e) [
        | inl here ↦
            or_left (is_among (uses h) n) (follows_a_term h.blocks n)
            (subst (λ ts. is_among (g.entry ∷ (code_word_uses g.code_words ++ (ts ++ items_uses news))) n ≡ true) (sym (terms_same g.blocks))
            (all_used g.entry n (code_word_uses g.code_words) (terms_uses g.blocks) olds news (all n) here))
        | inr behind ↦ or_right (is_among (uses h) n) (follows_a_term h.blocks n) (follows_same g.blocks n ∙ behind)
      ] in
      record {
        no_bare = still_solid g.blocks canonical.no_bare;
        leaders = falls_more (is_leader g) (is_leader h) leads h.blocks (falls_same (is_leader g) g.blocks canonical.leaders);
      }

-- other procedures alone
pub other_procedures_canonical : (g : Graph) (ps : List Procedure) → ((n : ℕ) → Uses (items_of_bodies g.procedures) n → Uses (items_of_blocks g.blocks ++ items_of_bodies ps) n) → IsCanonical g → IsCanonical (record g { procedures = ps })
other_procedures_canonical g ps bodies canonical =
    subst (λ bs. IsCanonical (record g { blocks = bs; procedures = ps })) (same_blocks g.blocks)
    (other_items_canonical (λ is. is) (λ is solid. solid) (λ is n u. u) g ps
    (λ n u. subst (λ bs. Uses (items_of_blocks bs ++ items_of_bodies ps) n) (sym (same_blocks g.blocks)) (bodies n u)) canonical)
  where
    same_blocks : (bs : List Block) → map (with_items (λ is. is)) bs ≡ bs
    same_blocks [] = refl
    same_blocks (b ∷ bs) = ap (λ cs. b ∷ cs) (same_blocks bs)

-- OTHER NUMBERS OF PROCEDURES

module _ (f : ℕ → ℕ) where
  recalled_uses : (items : List Item) → items_uses (recalled_items f items) ≡ items_uses items
  recalled_uses [] = refl
  recalled_uses (Op insn ∷ items) = recalled_uses items
  recalled_uses (Hi rd to ∷ items) = ap (λ us. to ∷ us) (recalled_uses items)
  recalled_uses (Lo rd rs to ∷ items) = ap (λ us. to ∷ us) (recalled_uses items)
  recalled_uses (Out p ∷ items) = recalled_uses items

  still_used : (items : List Item) (n : ℕ) → Uses items n → Uses (recalled_items f items) n
  still_used items n u = subst (λ us. is_among us n ≡ true) (sym (recalled_uses items)) u

  bodies_recalled : (ps : List Procedure) → items_of_bodies (map (recalled_procedure f) ps) ≡ recalled_items f (items_of_bodies ps)
  bodies_recalled [] = refl
  bodies_recalled (p ∷ ps) =
      ap (λ is. recalled_items f p.body ++ is) (bodies_recalled ps) ∙ sym (map-append (recalled_item f) p.body (items_of_bodies ps))

  pub body_recalled : (ps : List Procedure) (q : ℕ) → procedure_body (slice_get (map (recalled_procedure f) ps) q) ≡ recalled_items f (procedure_body (slice_get ps q))
  body_recalled [] q = refl
  body_recalled (p ∷ ps) zero = refl
  body_recalled (p ∷ ps) (suc q) = body_recalled ps q

  still_some : (is : List Item) → has_no_items is ≡ false → has_no_items (recalled_items f is) ≡ false
  still_some [] none = none
  still_some (item ∷ is) some = some

  pub recalled_canonical : (g : Graph) → IsCanonical g → IsCanonical (recalled f g)
  recalled_canonical g canonical =
      other_items_canonical (recalled_items f) still_some still_used g (map (recalled_procedure f) g.procedures)
      (λ n u.
      uses_right (items_of_blocks (map (recalled_block f) g.blocks)) (items_of_bodies (map (recalled_procedure f) g.procedures)) n
      (subst (λ is. Uses is n) (sym (bodies_recalled g.procedures)) (still_used (items_of_bodies g.procedures) n u)))
      canonical

-- A PROCEDURE GOES

own_or_other : (ps : List Procedure) (p n : ℕ) → Uses (items_of_bodies ps) n → Uses (procedure_body (slice_get ps p)) n ⊎ Uses (items_of_bodies (remove ps p)) n
own_or_other [] p n u = absurd (cc)
own_or_other (r ∷ ps) zero n u = uses_either r.body (items_of_bodies ps) n u
own_or_other (r ∷ ps) (suc p) n u =
    elim (uses_either r.body (items_of_bodies ps) n u) [
      | inl here ↦ inr (uses_left r.body (items_of_bodies (remove ps p)) n here)
      | inr later ↦
          elim (own_or_other ps p n later) [
            | inl own ↦ inl own
            | inr other ↦ inr (uses_right r.body (items_of_bodies (remove ps p)) n other)
          ]
    ]

-- the body of another procedure is left
other_left : (ps : List Procedure) (gone p n : ℕ) → p ≢ gone → Uses (procedure_body (slice_get ps p)) n → Uses (items_of_bodies (remove ps gone)) n
other_left [] gone p n apart u = absurd (cc)
other_left (r ∷ ps) zero zero n apart u = absurd (apart refl)
other_left (r ∷ ps) zero (suc p) n apart u = body_used ps p n u
other_left (r ∷ ps) (suc gone) zero n apart u = uses_left r.body (items_of_bodies (remove ps gone)) n u
other_left (r ∷ ps) (suc gone) (suc p) n apart u =
    uses_right r.body (items_of_bodies (remove ps gone)) n (other_left ps gone p n (λ same. apart (ap suc same)) u)

pub without_canonical : (g : Graph) (p : ℕ) → ((n : ℕ) → Uses (body_of g p) n → Uses (items_of_blocks g.blocks ++ items_of_bodies (remove g.procedures p)) n) → IsCanonical g → IsCanonical (without_procedure g p)
without_canonical g p elsewhere canonical =
    recalled_canonical (lowered p) (record g { procedures = remove g.procedures p })
    (other_procedures_canonical g (remove g.procedures p)
    (λ n u.
    elim (own_or_other g.procedures p n u) [
      | inl own ↦ elsewhere n own
      | inr other ↦ uses_right (items_of_blocks g.blocks) (items_of_bodies (remove g.procedures p)) n other
    ])
    canonical)

-- ROW O3

pub double_canonical : (g : Graph) (stays goes : ℕ) → AreDoubles g stays goes → IsCanonical g → IsCanonical (without_double g stays goes)
double_canonical g stays goes doubles canonical =
    let f = swapped goes stays in
    let h = redirected_calls g goes stays in
    let bodies = doubles.equal.bodies in
    let same : body_of h goes ≡ body_of h stays =
    body_recalled f g.procedures goes ∙ ap (recalled_items f) bodies ∙ sym (body_recalled f g.procedures stays) in
    without_canonical h goes
    (λ n u. uses_right (items_of_blocks h.blocks) (items_of_bodies (remove h.procedures goes)) n (other_left h.procedures goes stays n doubles.apart (subst (λ is. Uses is n) same u)))
    (recalled_canonical f g canonical)

-- ROW O4

module _ (p : ℕ) (body : List Item) where
  spread_used : (items : List Item) (n : ℕ) → Uses items n → Uses (spread p body items) n
  spread_used [] n u = u
  spread_used (Op insn ∷ items) n u = spread_used items n u
  spread_used (Hi rd to ∷ items) n u =
      elim (uses_either (Hi rd to ∷ []) items n u) [
        | inl here ↦ uses_left (Hi rd to ∷ []) (spread p body items) n here
        | inr later ↦ uses_right (Hi rd to ∷ []) (spread p body items) n (spread_used items n later)
      ]
  spread_used (Lo rd rs to ∷ items) n u =
      elim (uses_either (Lo rd rs to ∷ []) items n u) [
        | inl here ↦ uses_left (Lo rd rs to ∷ []) (spread p body items) n here
        | inr later ↦ uses_right (Lo rd rs to ∷ []) (spread p body items) n (spread_used items n later)
      ]
  spread_used (Out q ∷ items) n u = uses_right (if q == p then body else Out q ∷ []) (spread p body items) n (spread_used items n u)

  -- a body of some items leaves no block empty
  front_some : (xs ys : List Item) → has_no_items xs ≡ false → has_no_items (xs ++ ys) ≡ false
  front_some [] ys some = absurd (cc)
  front_some (x ∷ xs) ys some = refl

  either_some : (t : Bool) (x : Item) → has_no_items body ≡ false → has_no_items (if t then body else x ∷ []) ≡ false
  either_some true x some = some
  either_some false x some = refl

  spread_some : has_no_items body ≡ false → (items : List Item) → has_no_items items ≡ false → has_no_items (spread p body items) ≡ false
  spread_some some [] none = none
  spread_some some (x ∷ items) none = front_some (if is_call p x then body else x ∷ []) (spread p body items) (either_some (is_call p x) x some)

  -- where there is a call the body stands
  body_stands : (items : List Item) (n : ℕ) → 0 < calls_in p items → Uses body n → Uses (spread p body items) n
  body_stands [] n some u = absurd (omega (arith, some))
  body_stands (x ∷ items) n some u =
      elim (cases_Bool (is_call p x)) [
        | inl own ↦ rw own (uses_left body (spread p body items) n u)
        | inr other ↦
            let none : is_one p x ≡ 0 = rw other refl in
            let rest = body_stands items n (omega (arith, calls_in-cons p x items, none, some)) u in
            rw other (uses_right (x ∷ []) (spread p body items) n rest)
      ]

  body_stands_in : (bs : List Block) (n : ℕ) → 0 < calls_in p (items_of_blocks bs) → Uses body n → Uses (items_of_blocks (map (spread_block p body) bs)) n
  body_stands_in [] n some u = absurd (omega (arith, some))
  body_stands_in (b ∷ bs) n some u =
      elim (cases_lt 0 (calls_in p b.items)) [
        | inl here ↦ uses_left (spread p body b.items) (items_of_blocks (map (spread_block p body) bs)) n (body_stands b.items n here u)
        | inr none ↦
            uses_right (spread p body b.items) (items_of_blocks (map (spread_block p body) bs)) n
            (body_stands_in bs n (omega (arith, calls_in_blocks-cons p b bs, none, some)) u)
      ]

pub inlined_canonical : (g : Graph) (p : ℕ) → has_no_items (body_of g p) ≡ false → 0 < call_count g p → IsCanonical g → IsCanonical (inlined_all g p)
inlined_canonical g p some called canonical =
    let body = body_of g p in
    let h = spread_all g p in
    without_canonical h p
    (λ n u. uses_left (items_of_blocks h.blocks) (items_of_bodies (remove g.procedures p)) n (body_stands_in p body g.blocks n called u))
    (other_items_canonical (spread p body) (spread_some p body some) (spread_used p body) g g.procedures
    (λ n u. uses_right (items_of_blocks h.blocks) (items_of_bodies g.procedures) n u) canonical)
