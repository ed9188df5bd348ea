-- Items that match others, and items that don't. Registers have the names of the calling convention: t0, t1, t2 are x5,
-- x6, x7, and a1, a2, a3 are x11, x12, x13.
use Rattle.std.proofs.Common.{◌≡◌, ℕ, true, false, ◌==◌, ◌⊎◌, inl, inr, List, [], ◌∷◌, pos, if◌then◌else◌, refl, sym, ◌∙◌, ⊎_elim}
use Rattle.std.proofs.lemmas.Bool.{eq-eqb}
use Rattle.sq_isa.specs.declared.instructions.Insn.TheVariants.{OpImm, Op as Reg, Ecall}
use Rattle.sq_isa.specs.declared.instructions.ImmOp.TheVariants.{Addi}
use Rattle.sq_isa.specs.declared.instructions.RegOp.TheVariants.{Add}
use Rattle.sq_graph.specs.declared.item.Item.{Item}
use Rattle.sq_graph.specs.declared.item.Item.TheVariants.{Op, Out}
use Rattle.sq_graph.specs.Graph.{Procedure}
use Rattle.sq_graph.specs.Matches.{registers_of, AreSameForms, IsPairIn, IsPair, IsWrittenFirst, Match}

-- `addi rd,rs,1` and `add rd,a,b`
abbrev next : ℕ → ℕ → Item
next rd rs = Op (OpImm Addi rd rs (pos 1))

abbrev add : ℕ → ℕ → ℕ → Item
add rd a b = Op (Reg Add rd a b)

-- a procedure called through t0
abbrev calling : List Item → Procedure
calling items = record { link = 5; body = items }

-- what holds of each pair
abbrev EachPairIn : (ℕ → ℕ → Type 0) → List ℕ → List ℕ → Type 0
EachPairIn P [] ys = Unit {0}
EachPairIn P (x ∷ xs) [] = Unit {0}
EachPairIn P (x ∷ xs) (y ∷ ys) = P x y × EachPairIn P xs ys

each_in : (P : ℕ → ℕ → Type 0) (xs ys : List ℕ) → EachPairIn P xs ys → (r s : ℕ) → IsPairIn xs ys r s → P r s
each_in P [] ys h r s p = absurd p
each_in P (x ∷ xs) [] h r s p = absurd p
each_in P (x ∷ xs) (y ∷ ys) h r s (inl e) = rw (e.0, e.1) h.0
each_in P (x ∷ xs) (y ∷ ys) h r s (inr p) = each_in P xs ys h.1 r s p

abbrev EachPair : (ℕ → ℕ → Type 0) → List Procedure → List Item → List Item → Type 0
EachPair P ps [] others = Unit {0}
EachPair P ps (item ∷ items) [] = Unit {0}
EachPair P ps (item ∷ items) (other ∷ others) = EachPairIn P (registers_of ps item) (registers_of ps other) × EachPair P ps items others

each_pair : (P : ℕ → ℕ → Type 0) (ps : List Procedure) (items others : List Item) → EachPair P ps items others → (r s : ℕ) → IsPair ps items others r s → P r s
each_pair P ps [] others h r s p = absurd p
each_pair P ps (i ∷ items) [] h r s p = absurd p
each_pair P ps (i ∷ items) (j ∷ others) h r s (inl p) = each_in P (registers_of ps i) (registers_of ps j) h.0 r s p
each_pair P ps (i ∷ items) (j ∷ others) h r s (inr p) = each_pair P ps items others h.1 r s p

-- Items with t1 for t2 and t2 for t1.
abbrev swap : ℕ → ℕ
swap r = if r == 6 then 7 else if r == 7 then 6 else r

abbrev IsSwapped : List Item → ℕ → ℕ → Type 0
IsSwapped items r s = (s ≡ swap r) × ((r ≡ swap s) × ((s ≡ r) ⊎ IsWrittenFirst r items))

swapped_match : (ps : List Procedure) (items others : List Item) → AreSameForms items others → EachPair (IsSwapped items) ps items others → Match ps items others
swapped_match ps items others forms pairs =
    let each = each_pair (IsSwapped items) ps items others pairs in
    record {
      forms = forms;
      there = λ r s t p q. (each r s p).0 ∙ sym (each r t q).0;
      back = λ q r s p o. (each q s p).1.0 ∙ sym (each r s o).1.0;
      zero_there = λ s p. (each 0 s p).0;
      zero_back = λ r p. (each r 0 p).1.0;
      first = λ r s p ne. ⊎_elim (λ e. absurd (ne e)) (λ w. w) (each r s p).1.1;
    }

stays : (items : List Item) (r : ℕ) → r ≡ swap r → IsSwapped items r r
stays items r e = (e, (e, inl refl))

turned : (items : List Item) → IsWrittenFirst 6 items → IsSwapped items 6 7
turned items w = (refl, (refl, inr w))

-- `addi t1,a1,1; add a2,t1,a1` matches the same with t2
abbrev adds : ℕ → List Item
adds t = next t 11 ∷ add 12 t 11 ∷ []

renamed_matches : Match [] (adds 6) (adds 7)
renamed_matches =
    let stay = stays (adds 6) in
    let turn = turned (adds 6) (refl, inl refl) in
    swapped_match [] (adds 6) (adds 7) (refl, (refl, tt)) ((turn, (stay 11 refl, tt)), ((stay 12 refl, (turn, (stay 11 refl, tt))), tt))

-- also round a call of a procedure that mentions neither: `add a2,a1,a1`
abbrev apart : List Procedure
apart = calling (add 12 11 11 ∷ []) ∷ []

abbrev calls : ℕ → List Item
calls t = next t 11 ∷ Out 0 ∷ add 13 t 12 ∷ []

renamed_round_a_call : Match apart (calls 6) (calls 7)
renamed_round_a_call =
    let stay = stays (calls 6) in
    let turn = turned (calls 6) (refl, inl refl) in
    swapped_match apart (calls 6) (calls 7) (refl, (refl, (refl, tt)))
    ((turn, (stay 11 refl, tt)), ((stay 5 refl, (stay 12 refl, (stay 11 refl, (stay 11 refl, tt)))), ((stay 13 refl, (turn, (stay 12 refl, tt))), tt)))

differ : (x y : ℕ) → (x == y) ≡ false → x ≡ y → ⊥
differ x y f e = let t : (x == y) ≡ true = eq-eqb x y e in cc

-- but not round one that mentions t1, `add a2,t1,t1; add a3,t1,t1`, neither way
abbrev mentioning : List Procedure
mentioning = calling (add 12 6 6 ∷ add 13 6 6 ∷ []) ∷ []

not_for_a_call : ¬ Match mentioning (next 6 11 ∷ Out 0 ∷ []) (next 7 11 ∷ Out 0 ∷ [])
not_for_a_call m = differ 7 6 refl (m.there 6 7 6 (inl (inl (refl, refl))) (inr (inl (inr (inr (inl (refl, refl)))))))

not_back_for_a_call : ¬ Match mentioning (next 7 11 ∷ Out 0 ∷ []) (next 6 11 ∷ Out 0 ∷ [])
not_back_for_a_call m = differ 7 6 refl (m.back 7 6 6 (inl (inl (refl, refl))) (inr (inl (inr (inr (inl (refl, refl)))))))

-- nor does a call's link stand for another register
not_for_a_link : ¬ Match apart (next 5 11 ∷ Out 0 ∷ []) (next 6 11 ∷ Out 0 ∷ [])
not_for_a_link m = differ 6 5 refl (m.there 5 6 5 (inl (inl (refl, refl))) (inr (inl (inl (refl, refl)))))

-- a call of another procedure doesn't match, even of one with an equal body
not_another_procedure : (p : Procedure) → ¬ Match (p ∷ p ∷ []) (Out 0 ∷ []) (Out 1 ∷ [])
not_another_procedure p m = differ 1 0 refl m.forms.0

-- t1 is read here before it is written
not_read_first : ¬ Match [] (next 6 6 ∷ []) (next 7 7 ∷ [])
not_read_first m =
    let first : IsWrittenFirst 6 (next 6 6 ∷ []) = m.first 6 7 (inl (inl (refl, refl))) (λ e. differ 7 6 refl e) in
    let unread : true ≡ false = first.0 in cc

-- x0 goes with x0 alone
not_for_x0 : ¬ Match [] (add 12 0 11 ∷ []) (add 12 13 11 ∷ [])
not_for_x0 m = differ 13 0 refl (m.zero_there 13 (inl (inr (inl (refl, refl)))))

-- two registers don't become one
not_two_as_one : ¬ Match [] (next 6 11 ∷ next 7 11 ∷ []) (next 6 11 ∷ next 6 11 ∷ [])
not_two_as_one m = differ 6 7 refl (m.back 6 7 6 (inl (inl (refl, refl))) (inr (inl (inl (refl, refl)))))

-- the registers of an ECALL are fixed: here the number of the call, in a7
not_for_a_number : ¬ Match [] (next 17 0 ∷ Op Ecall ∷ []) (next 6 0 ∷ Op Ecall ∷ [])
not_for_a_number m = differ 6 17 refl (m.there 17 6 17 (inl (inl (refl, refl))) (inr (inl (inr (inr (inr (inr (inl (refl, refl)))))))))

-- nor does a constant change
not_another_constant : ¬ Match [] (Op (OpImm Addi 6 11 (pos 1)) ∷ []) (Op (OpImm Addi 6 11 (pos 2)) ∷ [])
not_another_constant m = let e : OpImm Addi 6 11 (pos 2) ≡ OpImm Addi 6 11 (pos 1) = m.forms.0 in cc
