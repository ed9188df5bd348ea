-- Items that match others go on like them, with the registers of the pairs.
use Rattle.std.proofs.Common.{◌≡◌, ◌≢◌, ℕ, zero, suc, Bool, true, false, not, ◌&&◌, ◌||◌, ◌==◌, ◌⊎◌, List, [], ◌∷◌, ◌++◌, Option, Some, None, length, map, slice_get, pos, refl, sym, ap, ◌∙◌, subst, inl, inr, ⊎_elim}
use Rattle.std.proofs.lemmas.Bool.{cases_eq, eq-eqb, ne_eqb, or_left, or_right}
use Rattle.std.specs.List.{Contains, flat_map}
use Rattle.sq_isa.specs.Forms.{first_of, second_of, with_registers}
use Rattle.sq_isa.specs.Registers.{is_among, is_among_but_x0}
use Rattle.sq_isa.specs.Uses.{sources_of, destination_of, is_read}
use Rattle.sq_isa.specs.declared.instructions.Insn.{Insn}
use Rattle.sq_isa.specs.declared.instructions.Insn.TheVariants.{Lui, Auipc, Jal, Jalr, Branch, Load, Store, OpImm, Op as Reg, Fence, Ecall, Ebreak, Unimp, Atomic}
use Rattle.sq_isa.specs.declared.instructions.ImmOp.TheVariants.{Addi}
use Rattle.sq_graph.specs.declared.item.Item.{Item}
use Rattle.sq_graph.specs.declared.item.Item.TheVariants.{Op, Hi, Lo, Out}
use Rattle.sq_graph.specs.Graph.{Procedure, Graph}
use Rattle.sq_graph.specs.Uses.{uses, item_calls}
use Rattle.sq_graph.specs.Rules.{IsGraph}
use Rattle.sq_graph.specs.Lines.{AddressHalf, Plain, Upper, Lower, Line, Do, Enter, Return, line_of}
use Rattle.sq_graph.specs.Walks.{is_register, code_targets}
use Rattle.sq_graph.specs.Matches.{item_registers, procedure_registers, item_reads, item_writes, IsSameInsn, IsSameForm, AreSameForms, IsPairIn, IsPair, IsWrittenFirst, Match, PairsDie}
use Rattle.law_patch.specs.Registers.{IsSource, AreSources}
use Rattle.law_patch.specs.Changes.{Change, Alike, IsNamedHalf, shift, both_do, both_enter, both_return, guarded}
use Rattle.law_patch.proofs.LiveSteps.{own_registers}
use Rattle.law_patch.proofs.Carrying.{AreOf, ItemGoes, later_items}
use Rattle.law_patch.proofs.Restricting.{own}
use Rattle.law_patch.proofs.Relating.{relating, bodies_stay}
use Rattle.law_patch.proofs.Used.{contains_first, from_slice, body_calls_none}

-- where items stand for others: the registers written so far, and the link that is lost
pub record Matched : Type 0 where
  pub procedures : List Procedure
  pub items : List Item
  pub others : List Item
  pub link : ℕ
  pub written : List ℕ

abbrev pub wrote : List ℕ → ℕ → Bool
wrote [] r = false
wrote (d ∷ ds) r = is_register d r || wrote ds r

-- r of the first stands for s of the second
pub record StandsMatched (m : Matched) (r s : ℕ) : Type 0 where
  pub link : is_register m.link s ≡ false
  pub there : (t : ℕ) → IsPair m.procedures m.items m.others r t → t ≡ s
  pub back : (q : ℕ) → IsPair m.procedures m.items m.others q s → q ≡ r
  pub known : (s ≡ r) ⊎ (wrote m.written r ≡ true)

-- a register is itself, but for x0
none_left : (t : Bool) → (t && (false || false)) ≡ false
none_left true = refl
none_left false = refl

not_register : (d r : ℕ) → d ≢ r → is_register d r ≡ false
not_register d r e = let t : (d == r) ≡ false = ne_eqb d r e in rw t (none_left (not (r == 0)))

pub is_itself : (r : ℕ) → is_register (suc r) (suc r) ≡ true
is_itself r =
    let same : (suc r == suc r) ≡ true = eq-eqb (suc r) (suc r) refl in
    let other : (suc r == 0) ≡ false = ne_eqb (suc r) 0 (λ e. absurd (cc)) in rw (same, other) refl

pub zero_register : (r : ℕ) → is_register 0 r ≡ false
zero_register zero = refl
zero_register (suc r) = not_register 0 (suc r) (λ e. absurd (cc))

-- both are the destination, or neither is
written_same : (d e r s : ℕ) → (d ≡ 0 → e ≡ 0) → (e ≡ 0 → d ≡ 0) → (s ≡ e → r ≡ d) → (r ≡ d → s ≡ e) → is_register e s ≡ is_register d r
written_same zero zero r s z y h k = zero_register s ∙ sym (zero_register r)
written_same zero (suc e) r s z y h k = absurd (let i = z refl in cc)
written_same (suc d) zero r s z y h k = absurd (let i = y refl in cc)
written_same (suc d) (suc e) r s z y h k =
    ⊎_elim
    (λ i. subst (λ q. is_register (suc e) q ≡ is_register (suc d) r) (sym i) (subst (λ q. is_register (suc e) (suc e) ≡ is_register (suc d) q) (sym (h i)) (is_itself e ∙ sym (is_itself d))))
    (λ ne. not_register (suc e) s (λ i. ne (sym i)) ∙ sym (not_register (suc d) r (λ i. ne (k (sym i)))))
    (cases_eq s (suc e))

-- an instruction with other registers has as many sources
pub same_count : (d x y : ℕ) (insn : Insn) → length (sources_of (with_registers d x y insn)) ≡ length (sources_of insn)
same_count d x y (Lui rd upper) = refl
same_count d x y (Auipc rd upper) = refl
same_count d x y (Jal rd offset) = refl
same_count d x y (Jalr rd rs offset) = refl
same_count d x y (Branch c a b offset) = refl
same_count d x y (Load kind rd rs offset) = refl
same_count d x y (Store kind rs src offset) = refl
same_count d x y (OpImm op rd rs imm) = refl
same_count d x y (Reg op rd a b) = refl
same_count d x y (Fence word) = refl
same_count d x y Ecall = refl
same_count d x y Ebreak = refl
same_count d x y (Unimp word) = refl
same_count d x y (Atomic op order rd rs src) = refl

are_sources : (P : ℕ → ℕ → Type 0) (xs ys : List ℕ) → length ys ≡ length xs → ((r s : ℕ) → IsPairIn xs ys r s → IsSource P r s) → AreSources P xs ys
are_sources P [] [] n h = tt
are_sources P [] (y ∷ ys) n h = absurd (cc)
are_sources P (x ∷ xs) [] n h = absurd (cc)
are_sources P (x ∷ xs) (y ∷ ys) n h = (h x y (inl (refl, refl)), are_sources P xs ys (let m : length ys ≡ length xs = cc in m) (λ r s p. h r s (inr p)))

-- a source is read
among : (xs ys : List ℕ) (r s : ℕ) → IsPairIn xs ys r s → is_among xs r ≡ true
among [] ys r s p = absurd p
among (x ∷ xs) [] r s p = absurd p
among (x ∷ xs) (y ∷ ys) r s (inl e) = or_left (x == r) (is_among xs r) (eq-eqb x r (sym e.0))
among (x ∷ xs) (y ∷ ys) r s (inr p) = or_right (x == r) (is_among xs r) (among xs ys r s p)

-- and its counterpart is among the others
among_seconds : (xs ys : List ℕ) (r s : ℕ) → IsPairIn xs ys r s → is_among ys s ≡ true
among_seconds [] ys r s p = absurd p
among_seconds (x ∷ xs) [] r s p = absurd p
among_seconds (x ∷ xs) (y ∷ ys) r s (inl e) = or_left (y == s) (is_among ys s) (eq-eqb y s (sym e.1))
among_seconds (x ∷ xs) (y ∷ ys) r s (inr p) = or_right (y == s) (is_among ys s) (among_seconds xs ys r s p)

pub among_others : (xs ys : List ℕ) (r s : ℕ) → IsPairIn xs ys r s → s ≢ 0 → is_among_but_x0 ys s ≡ true
among_others xs ys r s p nz = let e = among_seconds xs ys r s p in let n : (s == 0) ≡ false = ne_eqb s 0 nz in rw (n, e) refl

read_at : (xs ys : List ℕ) (r s : ℕ) → IsPairIn xs ys r s → r ≢ 0 → is_among_but_x0 xs r ≡ true
read_at xs ys r s p nz = let e = among xs ys r s p in let n : (r == 0) ≡ false = ne_eqb r 0 nz in rw (n, e) refl

none_read : (t : Bool) → (t && false) ≡ true → ⊥
none_read true e = cc
none_read false e = cc

-- the destination of an item
abbrev pub item_dest : Item → ℕ
item_dest (Op insn) = destination_of insn
item_dest (Hi rd to) = rd
item_dest (Lo rd rs to) = rd
item_dest (Out procedure) = 0

writes_dest : (item : Item) (r : ℕ) → item_writes item r ≡ true → is_register (item_dest item) r ≡ true
writes_dest (Op insn) r e = e
writes_dest (Hi rd to) r e = e
writes_dest (Lo rd rs to) r e = e
writes_dest (Out procedure) r e = absurd (cc)

-- registers in equal places of a list and itself are the same
same_pair : (xs : List ℕ) (r s : ℕ) → IsPairIn xs xs r s → s ≡ r
same_pair [] r s p = absurd p
same_pair (x ∷ xs) r s (inl e) = e.1 ∙ sym e.0
same_pair (x ∷ xs) r s (inr p) = same_pair xs r s p

pair_left : (xs ys : List ℕ) (r s : ℕ) → IsPairIn xs xs r s → IsPairIn (xs ++ ys) (xs ++ ys) r s
pair_left [] ys r s p = absurd p
pair_left (x ∷ xs) ys r s (inl e) = inl e
pair_left (x ∷ xs) ys r s (inr p) = inr (pair_left xs ys r s p)

pair_right : (xs ys : List ℕ) (r s : ℕ) → IsPairIn ys ys r s → IsPairIn (xs ++ ys) (xs ++ ys) r s
pair_right [] ys r s p = p
pair_right (x ∷ xs) ys r s p = inr (pair_right xs ys r s p)

-- an item has its own form
own_form : (item : Item) → IsSameForm item item
own_form (Op insn) = sym (own_registers insn)
own_form (Hi rd to) = refl
own_form (Lo rd rs to) = refl
own_form (Out procedure) = refl

-- An item of a body, which is no Out, goes on as itself.
abbrev pub GoesPlainly : Change → Item → Type 0
GoesPlainly C item = (item_calls item ≡ []) × ItemGoes C own item

-- A procedure that is called stays, and its body goes on as itself.
abbrev pub CallsStay : Change → Type 0
CallsStay C = (q : ℕ) (p : Procedure) → slice_get C.before.procedures q ≡ Some p → (slice_get C.after.procedures q ≡ Some p) × AreOf C own (GoesPlainly C) p.body

pub calls_stay : (Mode : Type 0) (StandsIn : Mode → ℕ → ℕ → Type 0) (MayHold MayGo : ℕ → ℕ → Type 0) (K : ℕ → Type 0) (X : List Line → ℕ → Type 0) (Z : Type 0) (g h : Graph) (rules : IsGraph g) (procedures : h.procedures ≡ g.procedures) (words : h.code_words ≡ g.code_words) (may_hold : (n : ℕ) → Contains (code_targets g) n → MayHold n n) (may_go : (n : ℕ) → Contains (uses g) n → MayGo n n) → CallsStay (relating Mode StandsIn MayHold MayGo X Z g h)
calls_stay Mode StandsIn MayHold MayGo K X Z g h rules procedures words may_hold may_go q p e =
    let here = from_slice g.procedures q p e in (
      ap (λ ps. slice_get ps q) procedures ∙ e,
      λ item c. (body_calls_none g rules p item here c, bodies_stay Mode StandsIn MayHold MayGo K X Z g h rules procedures words may_hold may_go p here item c),
    )

module _ (MayHold MayGo : ℕ → ℕ → Type 0) (X : List Line → ℕ → Type 0) (Z : Type 0) (g h : Graph) (a b : List Item) (link : ℕ) (match : Match g.procedures a b) (free : (r s : ℕ) → IsPair g.procedures a b r s → is_register link s ≡ false) where
  abbrev C : Change
  C = relating Matched StandsMatched MayHold MayGo X Z g h

  abbrev pub at : List ℕ → Matched
  at ws = record { procedures = g.procedures; items = a; others = b; link = link; written = ws }

  abbrev Pair : ℕ → ℕ → Type 0
  Pair r s = IsPair g.procedures a b r s

  -- of two different registers that are a pair the first is written already, or will be before it is read
  abbrev Ready : List ℕ → List Item → Type 0
  Ready ws items = (r s : ℕ) → Pair r s → s ≢ r → (wrote ws r ≡ true) ⊎ IsWrittenFirst r items

  abbrev Known : List ℕ → ℕ → ℕ → Type 0
  Known ws r s = (s ≡ r) ⊎ (wrote ws r ≡ true)

  source : (ws : List ℕ) (r s : ℕ) → Pair r s → (r ≢ 0 → Known ws r s) → IsSource (StandsMatched (at ws)) r s
  source ws zero zero p k = tt
  source ws zero (suc s) p k = absurd (let i = match.zero_there (suc s) p in cc)
  source ws (suc r) zero p k = absurd (let i = match.zero_back (suc r) p in cc)
  source ws (suc r) (suc s) p k = record {
    link = free (suc r) (suc s) p;
    there = λ t q. match.there (suc r) t (suc s) q p;
    back = λ q t. match.back q (suc r) (suc s) t p;
    known = k (λ e. absurd (cc));
  }

  known_after : (d : ℕ) (ws : List ℕ) (r s : ℕ) → is_register d r ≡ false → Known (d ∷ ws) r s → Known ws r s
  known_after d ws r s e (inl i) = inl i
  known_after d ws r s e (inr w) = inr (either (is_register d r) (wrote ws r) e w)
    where
      either : (t u : Bool) → t ≡ false → (t || u) ≡ true → u ≡ true
      either true u e w = absurd (cc)
      either false u e w = w

  ready_next : (ws : List ℕ) (i : Item) (is : List Item) → Ready ws (i ∷ is) → Ready (item_dest i ∷ ws) is
  ready_next ws i is rd r s p ne =
      ⊎_elim
      (λ w. inl (or_right (is_register (item_dest i) r) (wrote ws r) w))
      (λ f. ⊎_elim (λ w. inl (or_left (is_register (item_dest i) r) (wrote ws r) (writes_dest i r w))) (λ l. inr l) f.1)
      (rd r s p ne)

  -- what a register that is read here stands for
  known_read : (ws : List ℕ) (i : Item) (is : List Item) (r s : ℕ) → Ready ws (i ∷ is) → Pair r s → item_reads i r ≡ true → Known ws r s
  known_read ws i is r s rd p e =
      ⊎_elim (λ same. inl same) (λ ne. ⊎_elim (λ w. inr w) (λ f. absurd (let n : item_reads i r ≡ false = f.0 in cc)) (rd r s p ne)) (cases_eq s r)

  -- where a pair is written, no other register that stands for one is either of the two
  pair_written : (ws : List ℕ) (d e : ℕ) → Pair d e → (r s : ℕ) → StandsMatched (at ws) r s → is_register e s ≡ is_register d r
  pair_written ws d e p r s n =
      written_same d e r s
      (λ z. match.zero_there e (subst (λ y. Pair y e) z p))
      (λ z. match.zero_back d (subst (λ y. Pair d y) z p))
      (λ z. sym (n.back d (subst (λ y. Pair d y) (sym z) p)))
      (λ z. sym (n.there e (subst (λ y. Pair y e) (sym z) p)))

  match_do : (f : Bool) (half half' : AddressHalf) (i j : Insn) (ws : List ℕ) (xs ys : List Line) → IsNamedHalf C half half' i → IsSameInsn i j → ((r s : ℕ) → IsPairIn (destination_of i ∷ sources_of i) (destination_of j ∷ sources_of j) r s → Pair r s) → ((r s : ℕ) → IsPairIn (destination_of i ∷ sources_of i) (destination_of j ∷ sources_of j) r s → is_read i r ≡ true → Known ws r s) → Alike C true (Some (at (destination_of i ∷ ws))) xs ys → Alike C f (Some (at ws)) (Do half i ∷ xs) (Do half' j ∷ ys)
  match_do f half half' i j ws xs ys named same sub known p =
      let P : ℕ → ℕ → Type 0 = StandsMatched (at ws) in
      let d = sub (destination_of i) (destination_of j) (inl (refl, refl)) in
      let count : length (sources_of j) ≡ length (sources_of i) = ap (λ o. length (sources_of o)) same ∙ same_count (destination_of j) (first_of j) (second_of j) i in
      let sources : AreSources P (sources_of i) (sources_of j) =
      are_sources P (sources_of i) (sources_of j) count (λ r s q. source ws r s (sub r s (inr q)) (λ nz. known r s (inr q) (read_at (sources_of i) (sources_of j) r s q nz))) in
      let made : Alike C f (Some (at ws)) (Do half i ∷ xs) (Do half' (with_registers (destination_of j) (first_of j) (second_of j) i) ∷ ys) =
      both_do {m = Some (at ws)} {m' = Some (at (destination_of i ∷ ws))} i (destination_of j) (first_of j) (second_of j) named
      (subst (λ o. AreSources P (sources_of i) (sources_of o)) same sources)
      (λ r s x n. (
        subst (λ o. is_register (destination_of o) s ≡ is_register (destination_of i) r) same (pair_written (destination_of i ∷ ws) (destination_of i) (destination_of j) d r s n),
        λ e. record { link = n.link; there = n.there; back = n.back; known = known_after (destination_of i) ws r s e n.known },
      )) p in
      subst (λ o. Alike C f (Some (at ws)) (Do half i ∷ xs) (Do half' o ∷ ys)) (sym same) made

  -- an item that is no Out
  match_plain : (f : Bool) (i j : Item) (ws : List ℕ) (xs ys : List Line) → IsSameForm i j → GoesPlainly C i → ((r s : ℕ) → IsPairIn (item_registers i) (item_registers j) r s → Pair r s) → ((r s : ℕ) → IsPairIn (item_registers i) (item_registers j) r s → item_reads i r ≡ true → Known ws r s) → Alike C true (Some (at (item_dest i ∷ ws))) xs ys → Alike C f (Some (at ws)) (line_of i ∷ xs) (line_of j ∷ ys)
  match_plain f (Op i) (Op j) ws xs ys same goes sub known p = match_do f Plain Plain i j ws xs ys tt same sub known p
  match_plain f (Hi d to) (Hi d' to') ws xs ys same goes sub known p =
      match_do f (Upper to None) (Upper to' None) (Lui d 0) (Lui d' 0) ws xs ys same refl sub (λ r s q e. absurd (none_read (not (r == 0)) e)) p
  match_plain f (Lo d o to) (Lo d' o' to') ws xs ys same goes sub known p =
      match_do f (Lower to) (Lower to') (OpImm Addi d o (pos 0)) (OpImm Addi d' o' (pos 0)) ws xs ys (same, subst (λ n. MayHold to n) (sym same) goes.1) refl sub known p
  match_plain f (Op i) (Hi d' to') ws xs ys same goes sub known p = absurd same
  match_plain f (Op i) (Lo d' o' to') ws xs ys same goes sub known p = absurd same
  match_plain f (Op i) (Out q') ws xs ys same goes sub known p = absurd same
  match_plain f (Hi d to) (Op j) ws xs ys same goes sub known p = absurd same
  match_plain f (Hi d to) (Lo d' o' to') ws xs ys same goes sub known p = absurd same
  match_plain f (Hi d to) (Out q') ws xs ys same goes sub known p = absurd same
  match_plain f (Lo d o to) (Op j) ws xs ys same goes sub known p = absurd same
  match_plain f (Lo d o to) (Hi d' to') ws xs ys same goes sub known p = absurd same
  match_plain f (Lo d o to) (Out q') ws xs ys same goes sub known p = absurd same
  match_plain f (Out q) j ws xs ys same goes sub known p = absurd (let e : q ∷ [] ≡ [] = goes.0 in cc)

  -- more registers are written
  more_written : {f : Bool} {d : ℕ} {ws : List ℕ} {xs ys : List Line} → Alike C f (Some (at ws)) xs ys → Alike C f (Some (at (d ∷ ws))) xs ys
  more_written {d = d} {ws = ws} p =
      shift (λ r s x n. record { link = n.link; there = n.there; back = n.back; known = ⊎_elim (λ e. inl e) (λ w. inr (or_right (is_register d r) (wrote ws r) w)) n.known }) p

  -- a body whose registers are pairs with themselves
  match_body : (items : List Item) (ws : List ℕ) (xs ys : List Line) → AreOf C own (GoesPlainly C) items → ((r s : ℕ) → IsPairIn (flat_map item_registers items) (flat_map item_registers items) r s → Pair r s) → Alike C true (Some (at ws)) xs ys → Alike C true (Some (at ws)) (map line_of items ++ xs) (map line_of items ++ ys)
  match_body [] ws xs ys each sub p = p
  match_body (i ∷ is) ws xs ys each sub p =
      let here = item_registers i in
      let later = flat_map item_registers is in
      match_plain true i i ws (map line_of is ++ xs) (map line_of is ++ ys) (own_form i) (each i (contains_first i is)) (λ r s q. sub r s (pair_left here later r s q)) (λ r s q e. inl (same_pair here r s q))
      (more_written (match_body is ws xs ys (later_items C own (GoesPlainly C) i is each) (λ r s q. sub r s (pair_right here later r s q)) p))

  -- an Out, whose link and all that its body mentions are pairs with themselves
  match_out : (f : Bool) (q : ℕ) (p : Procedure) (ws : List ℕ) (xs ys : List Line) → slice_get g.procedures q ≡ Some p → CallsStay C → ((r s : ℕ) → IsPairIn (procedure_registers (Some p)) (procedure_registers (Some p)) r s → Pair r s) → Alike C true (Some (at ws)) xs ys → Alike C f (Some (at ws)) (Enter q ∷ xs) (Enter q ∷ ys)
  match_out f q p ws xs ys e stay sub k =
      let there = stay q p e in
      both_enter {m = Some (at ws)} {m' = Some (at ws)} p p e there.0
      (λ r s x n. (pair_written ws p.link p.link (sub p.link p.link (inl (refl, refl))) r s n, λ i. n))
      (match_body p.body ws (Return p.link ∷ xs) (Return p.link ∷ ys) there.1 (λ r s q. sub r s (inr q)) (both_return k))

  module _ (stay : CallsStay C) where
    match_item : (f : Bool) (i j : Item) (is js : List Item) (ws : List ℕ) (xs ys : List Line) → IsSameForm i j → ItemGoes C own i → ((r s : ℕ) → IsPair g.procedures (i ∷ is) (j ∷ js) r s → Pair r s) → Ready ws (i ∷ is) → ((ws : List ℕ) → Ready ws is → Alike C true (Some (at ws)) xs ys) → Alike C f (Some (at ws)) (line_of i ∷ xs) (line_of j ∷ ys)
    match_item f (Op i) (Op j) is js ws xs ys same goes sub rd p =
        match_plain f (Op i) (Op j) ws xs ys same (refl, goes) (λ r s q. sub r s (inl q)) (λ r s q e. known_read ws (Op i) is r s rd (sub r s (inl q)) e) (p (destination_of i ∷ ws) (ready_next ws (Op i) is rd))
    match_item f (Hi d to) (Hi d' to') is js ws xs ys same goes sub rd p =
        match_plain f (Hi d to) (Hi d' to') ws xs ys same (refl, goes) (λ r s q. sub r s (inl q)) (λ r s q e. known_read ws (Hi d to) is r s rd (sub r s (inl q)) e) (p (d ∷ ws) (ready_next ws (Hi d to) is rd))
    match_item f (Lo d o to) (Lo d' o' to') is js ws xs ys same goes sub rd p =
        match_plain f (Lo d o to) (Lo d' o' to') ws xs ys same (refl, goes) (λ r s q. sub r s (inl q)) (λ r s q e. known_read ws (Lo d o to) is r s rd (sub r s (inl q)) e) (p (d ∷ ws) (ready_next ws (Lo d o to) is rd))
    match_item f (Out q) (Out q') is js ws xs ys same goes sub rd p =
        subst (λ n. Alike C f (Some (at ws)) (Enter q ∷ xs) (Enter n ∷ ys)) (sym same)
        (match_out f q goes.procedure ws xs ys goes.before stay
        (λ r s k. sub r s (inl
        (subst (λ n. IsPairIn (procedure_registers (slice_get g.procedures q)) (procedure_registers (slice_get g.procedures n)) r s) (sym same)
        (subst (λ o. IsPairIn (procedure_registers o) (procedure_registers o) r s) (sym goes.before) k)))) (p ws (ready_out ws rd)))
      where
        ready_out : (ws : List ℕ) → Ready ws (Out q ∷ is) → Ready ws is
        ready_out ws rd r s p ne = ⊎_elim (λ w. inl w) (λ f. ⊎_elim (λ w. absurd (let n : false ≡ true = w in cc)) (λ l. inr l) f.1) (rd r s p ne)
    match_item f (Op i) (Hi d' to') is js ws xs ys same goes sub rd p = absurd same
    match_item f (Op i) (Lo d' o' to') is js ws xs ys same goes sub rd p = absurd same
    match_item f (Op i) (Out q') is js ws xs ys same goes sub rd p = absurd same
    match_item f (Hi d to) (Op j) is js ws xs ys same goes sub rd p = absurd same
    match_item f (Hi d to) (Lo d' o' to') is js ws xs ys same goes sub rd p = absurd same
    match_item f (Hi d to) (Out q') is js ws xs ys same goes sub rd p = absurd same
    match_item f (Lo d o to) (Op j) is js ws xs ys same goes sub rd p = absurd same
    match_item f (Lo d o to) (Hi d' to') is js ws xs ys same goes sub rd p = absurd same
    match_item f (Lo d o to) (Out q') is js ws xs ys same goes sub rd p = absurd same
    match_item f (Out q) (Op j) is js ws xs ys same goes sub rd p = absurd same
    match_item f (Out q) (Hi d' to') is js ws xs ys same goes sub rd p = absurd same
    match_item f (Out q) (Lo d' o' to') is js ws xs ys same goes sub rd p = absurd same

    lift_in : {f : Bool} {m : Option Matched} {xs ys : List Line} → Alike C f m xs ys → Alike C true m xs ys
    lift_in {f = true} p = p
    lift_in {f = false} p = guarded p

    match_items : (f : Bool) (is js : List Item) (ws : List ℕ) (xs ys : List Line) → AreSameForms is js → AreOf C own (ItemGoes C own) is → ((r s : ℕ) → IsPair g.procedures is js r s → Pair r s) → Ready ws is → ((ws : List ℕ) → Alike C f (Some (at ws)) xs ys) → Alike C f (Some (at ws)) (map line_of is ++ xs) (map line_of js ++ ys)
    match_items f [] [] ws xs ys same each sub rd p = p ws
    match_items f [] (j ∷ js) ws xs ys same each sub rd p = absurd same
    match_items f (i ∷ is) [] ws xs ys same each sub rd p = absurd same
    match_items f (i ∷ is) (j ∷ js) ws xs ys same each sub rd p =
        match_item f i j is js ws (map line_of is ++ xs) (map line_of js ++ ys) same.0 (each i (contains_first i is)) sub rd
        (λ ws rd. match_items true is js ws xs ys same.1 (later_items C own (ItemGoes C own) i is each) (λ r s q. sub r s (inr q)) rd (λ ws. lift_in (p ws)))

    -- behind the first of them both have taken a step
    match_some : (f : Bool) (is js : List Item) (ws : List ℕ) (xs ys : List Line) → is ≢ [] → AreSameForms is js → AreOf C own (ItemGoes C own) is → ((r s : ℕ) → IsPair g.procedures is js r s → Pair r s) → Ready ws is → ((ws : List ℕ) → Alike C true (Some (at ws)) xs ys) → Alike C f (Some (at ws)) (map line_of is ++ xs) (map line_of js ++ ys)
    match_some f [] js ws xs ys full same each sub rd p = absurd (full refl)
    match_some f (i ∷ is) [] ws xs ys full same each sub rd p = absurd same
    match_some f (i ∷ is) (j ∷ js) ws xs ys full same each sub rd p =
        match_item f i j is js ws (map line_of is ++ xs) (map line_of js ++ ys) same.0 (each i (contains_first i is)) sub rd
        (λ ws rd. match_items true is js ws xs ys same.1 (later_items C own (ItemGoes C own) i is each) (λ r s q. sub r s (inr q)) rd p)

    -- the items go on like those that they match
    pub matched : (f : Bool) (xs ys : List Line) → AreOf C own (ItemGoes C own) a → ((ws : List ℕ) → Alike C f (Some (at ws)) xs ys) → Alike C f (Some (at [])) (map line_of a ++ xs) (map line_of b ++ ys)
    matched f xs ys each p = match_items f a b [] xs ys match.forms each (λ r s q. q) (λ r s q ne. inr (match.first r s q ne)) p

    pub matched_some : (f : Bool) (xs ys : List Line) → a ≢ [] → AreOf C own (ItemGoes C own) a → ((ws : List ℕ) → Alike C true (Some (at ws)) xs ys) → Alike C f (Some (at [])) (map line_of a ++ xs) (map line_of b ++ ys)
    matched_some f xs ys full each p = match_some f a b [] xs ys full match.forms each (λ r s q. q) (λ r s q ne. inr (match.first r s q ne)) p

  -- before them each register stands for itself
  pub at_first : (r s : ℕ) → StandsMatched (at []) r s → s ≡ r
  at_first r s n = ⊎_elim (λ e. e) (λ e. absurd (let w : false ≡ true = e in cc)) n.known

  -- and behind them each that is live
  pub at_last : (ws : List ℕ) (xs : List Line) → PairsDie g.procedures a b (X xs) → ((r : ℕ) → X xs r → is_register link r ≡ false) → (r s : ℕ) → X xs r → s ≡ r → StandsMatched (at ws) r s
  at_last ws xs dead lost r s x e = subst (λ s. StandsMatched (at ws) r s) (sym e) (record {
    link = lost r x;
    there = λ t q. ⊎_elim (λ i. i) (λ ne. absurd ((dead r t q ne).0 x)) (cases_eq t r);
    back = λ q t. ⊎_elim (λ i. i) (λ ne. absurd ((dead q r t (λ i. ne (sym i))).1 x)) (cases_eq q r);
    known = inl refl;
  })
