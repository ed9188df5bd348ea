-- Procedures that no block calls go, from the highest number on.
use Rattle.std.proofs.Common.{◌≡◌, ℕ, zero, suc, ◌-◌, ◌<◌, ◌≤◌, nat_lt, Bool, true, false, ◌||◌, not, nat_eq, List, [], ◌∷◌, ◌++◌, map, take, drop, remove, length, refl, sym, ap, ◌∙◌, subst, inl, inr, arith}
use Rattle.std.specs.List.{flat_map}
use Rattle.std.proofs.lemmas.Bool.{cases_Bool, cases_lt, ne_eqb}
use Rattle.std.proofs.lemmas.Bool.Decides.{nat_tests}
use Rattle.std.proofs.lemmas.List.{length-map}
use Rattle.std.proofs.lemmas.List.Edits.{length-remove}
use Rattle.std.proofs.Math.Bool.{or-true}
use Rattle.sq_graph.specs.declared.item.Item.{Item}
use Rattle.sq_graph.specs.declared.item.Item.TheVariants.{Op, Hi, Lo, Out}
use Rattle.sq_graph.specs.Graph.{Block, Procedure, Graph}
use Rattle.sq_graph.specs.Operations.{without_procedure}
use Rattle.sq_graph.specs.Renames.{recalled_items, recalled_block, recalled_procedure, recalled, lowered}
use Rattle.sq_graph.specs.Uses.{item_calls}
use Rattle.law_patch.specs.Restrictions.{procedures_held, number_held}
use Rattle.sq_lookup.specs.Names.{is_listed}
use Rattle.sq_jumps.specs.Unreached.{is_called_in}
use Rattle.sq_jumps.specs.UnreachedClear.{is_called, TellsCalled, without_uncalled}

-- TESTS THAT AGREE

pub number_same : (h h' : ℕ → Bool) (n : ℕ) → ((k : ℕ) → k < n → h k ≡ h' k) → number_held h n ≡ number_held h' n
number_same h h' zero same = refl
number_same h h' (suc n) same =
    let first = same 0 (omega arith) in
    let rest = number_same (λ q. h (suc q)) (λ q. h' (suc q)) n (λ k below. same (suc k) (omega (arith, below))) in
    elim (cases_Bool (h' 0)) [
      | inl held ↦ let held' : h 0 ≡ true = first ∙ held in rw (held, held') (ap suc rest)
      | inr gone ↦ let gone' : h 0 ≡ false = first ∙ gone in rw (gone, gone') rest
    ]

pub held_same : (h h' : ℕ → Bool) (ps : List Procedure) → ((k : ℕ) → k < length ps → h k ≡ h' k) → procedures_held h ps ≡ procedures_held h' ps
held_same h h' [] same = refl
held_same h h' (p ∷ ps) same =
    let first = same 0 (omega arith) in
    let rest = held_same (λ q. h (suc q)) (λ q. h' (suc q)) ps (λ k below. same (suc k) (omega (arith, below))) in
    elim (cases_Bool (h' 0)) [
      | inl held ↦ let held' : h 0 ≡ true = first ∙ held in rw (held, held') (ap (λ rs. p ∷ rs) rest)
      | inr gone ↦ let gone' : h 0 ≡ false = first ∙ gone in rw (gone, gone') rest
    ]

all_numbers : (h : ℕ → Bool) (n : ℕ) → ((k : ℕ) → h k ≡ true) → number_held h n ≡ n
all_numbers h zero all = refl
all_numbers h (suc n) all = let first = all 0 in rw first (ap suc (all_numbers (λ q. h (suc q)) n (λ k. all (suc k))))

all_procedures : (h : ℕ → Bool) (ps : List Procedure) → ((k : ℕ) → h k ≡ true) → procedures_held h ps ≡ ps
all_procedures h [] all = refl
all_procedures h (p ∷ ps) all = let first = all 0 in rw first (ap (λ rs. p ∷ rs) (all_procedures (λ q. h (suc q)) ps (λ k. all (suc k))))

-- ONE NUMBER FEWER

-- the one test without the number is the other
record IsLess (q : ℕ) (h h' : ℕ → Bool) : Type 0 where
  gone : h q ≡ false
  below : (k : ℕ) → k < q → h' k ≡ h k
  above : (k : ℕ) → q ≤ k → h' k ≡ h (suc k)

less_behind : (q : ℕ) (h h' : ℕ → Bool) → IsLess (suc q) h h' → IsLess q (λ n. h (suc n)) (λ n. h' (suc n))
less_behind q h h' less = record {
  gone = less.gone;
  below = λ k b. less.below (suc k) (omega (arith, b));
  above = λ k a. less.above (suc k) (omega (arith, a));
}

held_less : (q : ℕ) (h h' : ℕ → Bool) (ps : List Procedure) → q < length ps → IsLess q h h' → procedures_held h' (take q ps ++ drop (suc q) ps) ≡ procedures_held h ps
held_less q h h' [] within less = absurd (omega (arith, within))
held_less zero h h' (p ∷ ps) within less = let gone = less.gone in rw gone (held_same h' (λ n. h (suc n)) ps (λ k below. less.above k (omega arith)))
held_less (suc q) h h' (p ∷ ps) within less =
    let first : h' 0 ≡ h 0 = less.below 0 (omega arith) in
    let rest = held_less q (λ n. h (suc n)) (λ n. h' (suc n)) ps (omega (arith, within)) (less_behind q h h' less) in
    elim (cases_Bool (h 0)) [
      | inl held ↦ let held' : h' 0 ≡ true = first ∙ held in rw (held, held') (ap (λ rs. p ∷ rs) rest)
      | inr gone ↦ let gone' : h' 0 ≡ false = first ∙ gone in rw (gone, gone') rest
    ]

number_above : (q m : ℕ) (h h' : ℕ → Bool) → q ≤ m → IsLess q h h' → number_held h' m ≡ number_held h (suc m)
number_above zero m h h' le less = let gone = less.gone in rw gone (number_same h' (λ n. h (suc n)) m (λ k below. less.above k (omega arith)))
number_above (suc q) zero h h' le less = absurd (omega (arith, le))
number_above (suc q) (suc m) h h' le less =
    let first : h' 0 ≡ h 0 = less.below 0 (omega arith) in
    let rest = number_above q m (λ n. h (suc n)) (λ n. h' (suc n)) (omega (arith, le)) (less_behind q h h' less) in
    elim (cases_Bool (h 0)) [
      | inl held ↦ let held' : h' 0 ≡ true = first ∙ held in rw (held, held') (ap suc rest)
      | inr gone ↦ let gone' : h' 0 ≡ false = first ∙ gone in rw (gone, gone') rest
    ]

number_less : (q n : ℕ) (h h' : ℕ → Bool) → IsLess q h h' → number_held h' (lowered q n) ≡ number_held h n
number_less q n h h' less =
    elim (cases_lt q n) [
      | inr le ↦
          let t : nat_lt q n ≡ false = grind (arith, nat_tests) in
          rw t (number_same h' h n (λ k below. less.below k (omega (arith, below, le))))
      | inl lt ↦ let t : nat_lt q n ≡ true = grind (arith, nat_tests) in rw t (by_pred n lt)
    ]
  where
    by_pred : (n : ℕ) → q < n → number_held h' (n - 1) ≡ number_held h n
    by_pred zero lt = absurd (omega (arith, lt))
    by_pred (suc m) lt = let e : suc m - 1 ≡ m = omega arith in ap (number_held h') e ∙ number_above q m h h' (omega (arith, lt)) less

-- NUMBERS OF PROCEDURES, TWICE MADE OTHERS

module _ (f f' f'' : ℕ → ℕ) (twice : (n : ℕ) → f' (f n) ≡ f'' n) where
  items_twice : (items : List Item) → recalled_items f' (recalled_items f items) ≡ recalled_items f'' items
  items_twice [] = refl
  items_twice (Op insn ∷ items) = ap (λ is. Op insn ∷ is) (items_twice items)
  items_twice (Hi rd to ∷ items) = ap (λ is. Hi rd to ∷ is) (items_twice items)
  items_twice (Lo rd rs to ∷ items) = ap (λ is. Lo rd rs to ∷ is) (items_twice items)
  items_twice (Out q ∷ items) = ap (λ n. Out n ∷ recalled_items f' (recalled_items f items)) (twice q) ∙ ap (λ is. Out (f'' q) ∷ is) (items_twice items)

  blocks_twice : (bs : List Block) → map (recalled_block f') (map (recalled_block f) bs) ≡ map (recalled_block f'') bs
  blocks_twice [] = refl
  blocks_twice (b ∷ bs) = ap (λ is. record b { items = is } ∷ map (recalled_block f') (map (recalled_block f) bs)) (items_twice b.items) ∙ ap (λ cs. recalled_block f'' b ∷ cs) (blocks_twice bs)

  procedures_twice : (ps : List Procedure) → map (recalled_procedure f') (map (recalled_procedure f) ps) ≡ map (recalled_procedure f'') ps
  procedures_twice [] = refl
  procedures_twice (p ∷ ps) = ap (λ is. record p { body = is } ∷ map (recalled_procedure f') (map (recalled_procedure f) ps)) (items_twice p.body) ∙ ap (λ rs. recalled_procedure f'' p ∷ rs) (procedures_twice ps)

module _ (f : ℕ → ℕ) (same : (n : ℕ) → f n ≡ n) where
  items_own : (items : List Item) → recalled_items f items ≡ items
  items_own [] = refl
  items_own (Op insn ∷ items) = ap (λ is. Op insn ∷ is) (items_own items)
  items_own (Hi rd to ∷ items) = ap (λ is. Hi rd to ∷ is) (items_own items)
  items_own (Lo rd rs to ∷ items) = ap (λ is. Lo rd rs to ∷ is) (items_own items)
  items_own (Out q ∷ items) = ap (λ n. Out n ∷ recalled_items f items) (same q) ∙ ap (λ is. Out q ∷ is) (items_own items)

  blocks_own : (bs : List Block) → map (recalled_block f) bs ≡ bs
  blocks_own [] = refl
  blocks_own (b ∷ bs) = ap (λ is. record b { items = is } ∷ map (recalled_block f) bs) (items_own b.items) ∙ ap (λ cs. b ∷ cs) (blocks_own bs)

  procedures_own : (ps : List Procedure) → map (recalled_procedure f) ps ≡ ps
  procedures_own [] = refl
  procedures_own (p ∷ ps) = ap (λ is. record p { body = is } ∷ map (recalled_procedure f) ps) (items_own p.body) ∙ ap (λ rs. p ∷ rs) (procedures_own ps)

held_mapped : (h : ℕ → Bool) (f : Procedure → Procedure) (ps : List Procedure) → procedures_held h (map f ps) ≡ map f (procedures_held h ps)
held_mapped h f [] = refl
held_mapped h f (p ∷ ps) =
    elim (cases_Bool (h 0)) [
      | inl held ↦ rw held (ap (λ rs. f p ∷ rs) (held_mapped (λ q. h (suc q)) f ps))
      | inr gone ↦ rw gone (held_mapped (λ q. h (suc q)) f ps)
    ]

-- WHAT IS LEFT

-- the procedures that are held, under the numbers that they then have
abbrev pub only_held : (ℕ → Bool) → Graph → Graph
only_held h g = recalled (number_held h) (record g { procedures = procedures_held h g.procedures })

-- those that a block calls, and those from a number on
abbrev pub held_from : Graph → ℕ → ℕ → Bool
held_from g q n = is_called g n || not (nat_lt n q)

lowered_same : (q n p : ℕ) → n < q → nat_eq n (lowered q p) ≡ nat_eq n p
lowered_same q n p below =
    elim (cases_lt q p) [
      | inl lt ↦
          let t : nat_lt q p ≡ true = grind (arith, nat_tests) in
          let a : nat_eq n p ≡ false = ne_eqb n p (λ e. omega (arith, e, below, lt)) in
          let b : nat_eq n (p - 1) ≡ false = ne_eqb n (p - 1) (λ e. omega (arith, e, below, lt)) in
          rw (t, a) b
      | inr le ↦ let t : nat_lt q p ≡ false = grind (arith, nat_tests) in rw t refl
    ]

items_call : (q n : ℕ) (items : List Item) → n < q → is_listed (flat_map item_calls (recalled_items (lowered q) items)) n ≡ is_listed (flat_map item_calls items) n
items_call q n [] below = refl
items_call q n (Op insn ∷ items) below = items_call q n items below
items_call q n (Hi rd to ∷ items) below = items_call q n items below
items_call q n (Lo rd rs to ∷ items) below = items_call q n items below
items_call q n (Out p ∷ items) below = ap (λ t. t || is_listed (flat_map item_calls (recalled_items (lowered q) items)) n) (lowered_same q n p below) ∙ ap (λ t. nat_eq n p || t) (items_call q n items below)

blocks_call : (q n : ℕ) (bs : List Block) → n < q → is_called_in (λ m. true) (map (recalled_block (lowered q)) bs) n ≡ is_called_in (λ m. true) bs n
blocks_call q n [] below = refl
blocks_call q n (b ∷ bs) below = ap (λ t. t || is_called_in (λ m. true) (map (recalled_block (lowered q)) bs) n) (items_call q n b.items below) ∙ ap (λ t. is_listed (flat_map item_calls b.items) n || t) (blocks_call q n bs below)

-- a set that told of a procedure and those below it tells of the latter still, once the procedure went
pub tells_still : (g : Graph) (q : ℕ) (called : List ℕ) → TellsCalled g q called → TellsCalled (without_procedure g q) q called
tells_still g q called tells = λ n below. tells n below ∙ sym (blocks_call q n g.blocks below)

-- the tests before and after one went
less_one : (g : Graph) (q : ℕ) → is_called g q ≡ false → IsLess q (held_from g (suc q)) (held_from (without_procedure g q) q)
less_one g q none = record {
  gone = let t : nat_lt q (suc q) ≡ true = grind (arith, nat_tests) in rw (none, t) refl;
  below = λ k b.
      let s : nat_lt k q ≡ true = grind (arith, nat_tests) in
      let t : nat_lt k (suc q) ≡ true = grind (arith, nat_tests) in
      rw (s, t) (ap (λ u. u || false) (blocks_call q k g.blocks b));
  above = λ k a.
      let s : nat_lt k q ≡ false = grind (arith, nat_tests) in
      let t : nat_lt (suc k) (suc q) ≡ false = grind (arith, nat_tests) in
      rw (s, t) (or-true (is_called (without_procedure g q) k) ∙ sym (or-true (is_called g (suc k))));
}

pub uncalled_is : (q : ℕ) (g : Graph) → q ≤ length g.procedures → without_uncalled q g ≡ only_held (held_from g q) g
uncalled_is zero g within =
    let all : (n : ℕ) → held_from g 0 n ≡ true = λ n. let t : nat_lt n 0 ≡ false = grind (arith, nat_tests) in rw t (or-true (is_called g n)) in
    let own : (n : ℕ) → number_held (held_from g 0) n ≡ n = λ n. all_numbers (held_from g 0) n all in
    sym (
    ap (λ (bs : List Block). record g { blocks = bs; procedures = map (recalled_procedure (number_held (held_from g 0))) (procedures_held (held_from g 0) g.procedures) }) (blocks_own (number_held (held_from g 0)) own g.blocks)
    ∙ ap (λ (ps : List Procedure). record g { procedures = ps }) (procedures_own (number_held (held_from g 0)) own (procedures_held (held_from g 0) g.procedures) ∙ all_procedures (held_from g 0) g.procedures all)
    )
uncalled_is (suc q) g within =
    elim (cases_Bool (is_called g q)) [
      | inl called ↦ rw called (uncalled_is q g (omega (arith, within)) ∙ same_tests called)
      | inr none ↦ rw none (one_goes none (uncalled_is q (without_procedure g q) fits))
    ]
  where
    same_tests : is_called g q ≡ true → only_held (held_from g q) g ≡ only_held (held_from g (suc q)) g
    same_tests called =
        let same : (n : ℕ) → held_from g q n ≡ held_from g (suc q) n = λ n. test n in
        let numbers : (n : ℕ) → number_held (held_from g q) n ≡ number_held (held_from g (suc q)) n = λ n. number_same (held_from g q) (held_from g (suc q)) n (λ k below. same k) in
        ap (λ (ps : List Procedure). recalled (number_held (held_from g q)) (record g { procedures = ps })) (held_same (held_from g q) (held_from g (suc q)) g.procedures (λ k below. same k))
        ∙ ap (λ (f : ℕ → ℕ). recalled f (record g { procedures = procedures_held (held_from g (suc q)) g.procedures })) (λ i n. numbers n i)
      where
        test : (n : ℕ) → held_from g q n ≡ held_from g (suc q) n
        test n =
            elim (cases_lt n q) [
              | inl lt ↦
                  let s : nat_lt n q ≡ true = grind (arith, nat_tests) in
                  let t : nat_lt n (suc q) ≡ true = grind (arith, nat_tests) in
                  rw (s, t) refl
              | inr le ↦ at_or_above n le
            ]
          where
            at_or_above : (n : ℕ) → q ≤ n → held_from g q n ≡ held_from g (suc q) n
            at_or_above n le =
                let s : nat_lt n q ≡ false = grind (arith, nat_tests) in
                elim (cases_lt q n) [
                  | inl lt ↦ let t : nat_lt n (suc q) ≡ false = grind (arith, nat_tests) in rw (s, t) refl
                  | inr ge ↦
                      let e : q ≡ n = omega (arith, le, ge) in
                      let yes : is_called g n ≡ true = subst (λ m. is_called g m ≡ true) e called in
                      rw yes refl
                ]

    fits : q ≤ length (map (recalled_procedure (lowered q)) (remove g.procedures q))
    fits = omega (arith, within, length-map (remove g.procedures q) (recalled_procedure (lowered q)), length-remove g.procedures q (omega (arith, within)))

    one_goes : is_called g q ≡ false → without_uncalled q (without_procedure g q) ≡ only_held (held_from (without_procedure g q) q) (without_procedure g q) → without_uncalled q (without_procedure g q) ≡ only_held (held_from g (suc q)) g
    one_goes none before =
        let h = held_from g (suc q) in
        let k = without_procedure g q in
        let h' = held_from (without_procedure g q) q in
        let less = less_one g q none in
        let numbers : (n : ℕ) → number_held (held_from (without_procedure g q) q) (lowered q n) ≡ number_held (held_from g (suc q)) n = λ n. number_less q n (held_from g (suc q)) (held_from (without_procedure g q) q) less in
        let left : procedures_held (held_from (without_procedure g q) q) (map (recalled_procedure (lowered q)) (remove g.procedures q)) ≡ map (recalled_procedure (lowered q)) (procedures_held (held_from g (suc q)) g.procedures) =
        held_mapped (held_from (without_procedure g q) q) (recalled_procedure (lowered q)) (remove g.procedures q) ∙ ap (map (recalled_procedure (lowered q))) (held_less q (held_from g (suc q)) (held_from (without_procedure g q) q) g.procedures (omega (arith, within)) less) in
        before
        ∙ ap (λ (bs : List Block). record g { blocks = bs; procedures = map (recalled_procedure (number_held (held_from (without_procedure g q) q))) (procedures_held (held_from (without_procedure g q) q) (map (recalled_procedure (lowered q)) (remove g.procedures q))) })
        (blocks_twice (lowered q) (number_held (held_from (without_procedure g q) q)) (number_held (held_from g (suc q))) numbers g.blocks)
        ∙ ap (λ (ps : List Procedure). record g { blocks = map (recalled_block (number_held (held_from g (suc q)))) g.blocks; procedures = ps })
        (ap (map (recalled_procedure (number_held (held_from (without_procedure g q) q)))) left ∙ procedures_twice (lowered q) (number_held (held_from (without_procedure g q) q)) (number_held (held_from g (suc q))) numbers (procedures_held (held_from g (suc q)) g.procedures))
