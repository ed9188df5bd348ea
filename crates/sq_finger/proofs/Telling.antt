-- Numbers that tell members apart, and runs of members.
use Rattle.std.proofs.Common.{◌≡◌, ◌↔◌, ℕ, zero, suc, ◌+◌, ◌<◌, ◌≤◌, ◌⊎◌, inl, inr, List, [], ◌∷◌, ◌++◌, map, length, Option, Some, None, slice_get, Contains, Bool, refl, sym, ap, ◌∙◌, subst, arith, add-one}
use Rattle.std.specs.Option.{option_map, option_flatten, option_zip}
use Rattle.std.proofs.lemmas.Bool.{cases_lt}
use Rattle.std.proofs.lemmas.List.{length-map}
use Rattle.std.proofs.lemmas.Option.{slice_get-map, slice_get-get_or, slice_get_past, slice_get_within}
use Rattle.sq_graph.specs.declared.item.Item.{Item}
use Rattle.sq_graph.specs.declared.item.Term.{Term}
use Rattle.sq_graph.specs.Rules.{ItemFits}
use Rattle.sq_finger.specs.Exact.{IsExact}
use Rattle.sq_finger.specs.ItemKeys.{key_of}
use Rattle.sq_finger.specs.TermKeys.{term_key_of}
use Rattle.sq_finger.specs.Numbers.{AreNumbers, member_at, AreNumbersOf}
use Rattle.sq_finger.specs.Runs.{run_at, AreRunNumbers}
use Rattle.sq_finger.specs.contracts.keys.ItemKeyPartialEq.TheImpl as item_key_eq
use Rattle.sq_finger.specs.contracts.keys.TermKeyPartialEq.TheImpl as term_key_eq
use Rattle.sq_finger.proofs.Exactness.{exact_item_key, exact_term_key}
use Rattle.sq_finger.proofs.Grouping.{at_contains}
use Rattle.sq_finger.proofs.Keying.{one_item, one_term}

some_same : {X : Type 0} {x y : X} → Some x ≡ Some y → x ≡ y
some_same e = cc

-- ---- what two functions of places tell

-- the one tells nothing where the other does, and the same where the other does
pub record Tells {X Y : Type 0} (f : ℕ → Option X) (g : ℕ → Option Y) : Type 0 where
  pub none : (i : ℕ) → (f i ≡ None) ↔ (g i ≡ None)
  pub same : (i j : ℕ) → (f i ≡ f j) ↔ (g i ≡ g j)

module _ {X Y : Type 0} where
  apart : (x : Option X) (y : Option Y) → ((x ≡ None) ↔ (y ≡ None)) → ((x ≡ None) × (y ≡ None)) ⊎ ((a : X) × ((b : Y) × ((x ≡ Some a) × (y ≡ Some b))))
  apart None y h = inl (refl, h.0 refl)
  apart (Some a) None h = absurd (let e = h.1 refl in cc)
  apart (Some a) (Some b) h = inr (a, (b, (refl, refl)))

  -- it is enough to look at the places where both tell something
  tells : (f : ℕ → Option X) (g : ℕ → Option Y) → ((i : ℕ) → (f i ≡ None) ↔ (g i ≡ None))
      → ((i j : ℕ) (a b : X) (c d : Y) → f i ≡ Some a → f j ≡ Some b → g i ≡ Some c → g j ≡ Some d → (a ≡ b) ↔ (c ≡ d)) → Tells f g
  tells f g none some = record {
    none = none;
    same = λ i j. elim (apart (f i) (g i) (none i)) [
      | inl p ↦ elim (apart (f j) (g j) (none j)) [
        | inl q ↦ (λ e. p.1 ∙ sym q.1, λ e. p.0 ∙ sym q.0)
        | inr q ↦ (λ e. absurd (let k = q.1.1.0 in let l = p.0 in cc), λ e. absurd (let k = q.1.1.1 in let l = p.1 in cc))
      ]
      | inr p ↦ elim (apart (f j) (g j) (none j)) [
        | inl q ↦ (λ e. absurd (let k = p.1.1.0 in let l = q.0 in cc), λ e. absurd (let k = p.1.1.1 in let l = q.1 in cc))
        | inr q ↦
            let h = some i j p.0 q.0 p.1.0 q.1.0 p.1.1.0 q.1.1.0 p.1.1.1 q.1.1.1 in (
              λ e. p.1.1.1 ∙ ap Some (h.0 (some_same (sym p.1.1.0 ∙ e ∙ q.1.1.0))) ∙ sym q.1.1.1,
              λ e. p.1.1.0 ∙ ap Some (h.1 (some_same (sym p.1.1.1 ∙ e ∙ q.1.1.1))) ∙ sym q.1.1.0,
            )
      ]
    ];
  }

tells_through : {X Y Z : Type 0} (f : ℕ → Option X) (g : ℕ → Option Y) (h : ℕ → Option Z) → Tells f g → Tells g h → Tells f h
tells_through f g h first second = record {
  none = λ i. let a = first.none i in let b = second.none i in (λ e. b.0 (a.0 e), λ e. a.1 (b.1 e));
  same = λ i j. let a = first.same i j in let b = second.same i j in (λ e. b.0 (a.0 e), λ e. a.1 (b.1 e));
}

tells_itself : {X : Type 0} (f : ℕ → Option X) → Tells f f
tells_itself f = record { none = λ i. (λ e. e, λ e. e); same = λ i j. (λ e. e, λ e. e) }

-- the same at each place
tells_there : {X Y : Type 0} (f g : ℕ → Option X) (h : ℕ → Option Y) → ((i : ℕ) → f i ≡ g i) → Tells g h → Tells f h
tells_there f g h there told = record {
  none = λ i. let a = told.none i in (λ e. a.0 (sym (there i) ∙ e), λ e. there i ∙ a.1 e);
  same = λ i j. let a = told.same i j in (λ e. a.0 (sym (there i) ∙ e ∙ there j), λ e. there i ∙ a.1 e ∙ sym (there j));
}

-- ---- numbers of members

module _ {X : Type 0} where
  flat_none : (o : Option (Option X)) → o ≡ None → option_flatten o ≡ None
  flat_none o e = rw e refl

  flat_some : (o : Option (Option X)) (x : X) → option_flatten o ≡ Some x → o ≡ Some (Some x)
  flat_some None x e = absurd (cc)
  flat_some (Some o) x e = ap Some e

  pub at_member : (members : List (Option X)) (i : ℕ) (x : X) → member_at members i ≡ Some x → slice_get members i ≡ Some (Some x)
  at_member members i x e = flat_some (slice_get members i) x e

  pub member_there : (members : List (Option X)) (i : ℕ) (x : X) → slice_get members i ≡ Some (Some x) → member_at members i ≡ Some x
  member_there members i x e = ap option_flatten e

  pub tells_members : (members : List (Option X)) (numbers : List (Option ℕ)) → AreNumbersOf members numbers → Tells (member_at numbers) (member_at members)
  tells_members members numbers are = record { none = are.none; same = are.same }

module _ {X : Type 0} where
  get_past : (xs : List (Option X)) (i : ℕ) → slice_get xs i ≡ None → length xs ≤ i
  get_past xs i e = elim (cases_lt i (length xs)) [
    | inl l ↦ absurd (let there = slice_get-get_or xs i None l in cc)
    | inr past ↦ past
  ]

-- where equality is exact, numbers of keys tell keys apart
module _ {K : Type 0} (eq : K → K → Bool) (exactly : IsExact eq) (keys : List (Option K)) (numbers : List (Option ℕ)) (are : AreNumbers eq keys numbers) where
  no_key : (i : ℕ) (o : Option (Option K)) (p : Option (Option ℕ)) → slice_get keys i ≡ o → slice_get numbers i ≡ p → option_flatten p ≡ None → option_flatten o ≡ None
  no_key i None p e f h = refl
  no_key i (Some None) p e f h = refl
  no_key i (Some (Some k)) None e f h =
      absurd (
      let l = slice_get_within keys i (Some k) e in
      let m = are.many in
      let past = get_past numbers i f in omega arith)
  no_key i (Some (Some k)) (Some None) e f h = absurd (let g = (are.none i).0 f in cc)
  no_key i (Some (Some k)) (Some (Some n)) e f h = absurd (cc)

  no_number : (i : ℕ) (o : Option (Option K)) → slice_get keys i ≡ o → option_flatten o ≡ None → member_at numbers i ≡ None
  no_number i None e h = flat_none (slice_get numbers i) (slice_get_past numbers i (let l = get_past keys i e in let m = are.many in omega arith))
  no_number i (Some None) e h = ap option_flatten ((are.none i).1 e)
  no_number i (Some (Some k)) e h = absurd (cc)

  pub numbers_of_keys : AreNumbersOf keys numbers
  numbers_of_keys =
      let told = tells (member_at numbers) (member_at keys)
      (λ i. (λ e. no_key i (slice_get keys i) (slice_get numbers i) refl refl e, λ e. no_number i (slice_get keys i) refl e))
      (λ i j m n k l at_m at_n at_k at_l.
      let h = are.same i j m n k l (at_member keys i k at_k) (at_member keys j l at_l) (at_member numbers i m at_m) (at_member numbers j n at_n) in
      let t = exactly k l in (λ s. t.0 (h.0 s), λ s. h.1 (t.1 s))) in
      record { many = are.many; none = told.none; same = told.same }

-- and the members apart that have these keys, where members of one key are equal
module _ {X K : Type 0} (key : X → K) where
  key_none : (o : Option X) → (o ≡ None) ↔ (option_map key o ≡ None)
  key_none None = (λ e. refl, λ e. refl)
  key_none (Some x) = (λ e. absurd (cc), λ e. absurd (cc))

  key_there : (o : Option X) (x : X) (k : K) → o ≡ Some x → option_map key o ≡ Some k → k ≡ key x
  key_there o x k e f = some_same (sym f ∙ ap (option_map key) e)

  -- where what has one key is equal
  tells_keys : (f : ℕ → Option X) → ((i j : ℕ) (x y : X) → f i ≡ Some x → f j ≡ Some y → key x ≡ key y → x ≡ y) → Tells (λ i. option_map key (f i)) f
  tells_keys f one =
      tells (λ i. option_map key (f i)) f
      (λ i. let h = key_none (f i) in (h.1, h.0))
      (λ i j k l x y at_k at_l at_x at_y.
      let a = key_there (f i) x k at_x at_k in
      let b = key_there (f j) y l at_y at_l in
      (λ e. one i j x y at_x at_y (sym a ∙ e ∙ b), λ e. a ∙ ap key e ∙ sym b))

  flat_map : (o : Option (Option X)) → option_flatten (option_map (option_map key) o) ≡ option_map key (option_flatten o)
  flat_map None = refl
  flat_map (Some o) = refl

  pub numbers_of_members : (members : List (Option X)) (numbers : List (Option ℕ)) → ((x y : X) → Contains members (Some x) → Contains members (Some y) → key x ≡ key y → x ≡ y)
      → AreNumbersOf (map (option_map key) members) numbers → AreNumbersOf members numbers
  numbers_of_members members numbers one are =
      let keys = tells_there (member_at (map (option_map key) members)) (λ i. option_map key (member_at members i)) (member_at members)
      (λ i. ap option_flatten (slice_get-map (option_map key) members i) ∙ flat_map (slice_get members i))
      (tells_keys (member_at members) (λ i j x y at_x at_y. one x y (at_contains members i (Some x) (at_member members i x at_x)) (at_contains members j (Some y) (at_member members j y at_y)))) in
      let told = tells_through (member_at numbers) (member_at (map (option_map key) members)) (member_at members) (tells_members (map (option_map key) members) numbers are) keys in
      record { many = are.many ∙ length-map members (option_map key); none = told.none; same = told.same }

-- ---- items and terms

pub items_numbered : (items : List (Option Item)) (numbers : List (Option ℕ)) → ((item : Item) → Contains items (Some item) → ItemFits item)
    → AreNumbers (item_key_eq.ghosts).eq (map (option_map key_of) items) numbers → AreNumbersOf items numbers
items_numbered items numbers fits are =
    numbers_of_members key_of items numbers (λ a b c d. one_item a b (fits a c) (fits b d))
    (numbers_of_keys (item_key_eq.ghosts).eq exact_item_key (map (option_map key_of) items) numbers are)

pub terms_numbered : (terms : List (Option Term)) (numbers : List (Option ℕ)) → AreNumbers (term_key_eq.ghosts).eq (map (option_map term_key_of) terms) numbers → AreNumbersOf terms numbers
terms_numbered terms numbers are =
    numbers_of_members term_key_of terms numbers (λ a b c d. one_term a b)
    (numbers_of_keys (term_key_eq.ghosts).eq exact_term_key (map (option_map term_key_of) terms) numbers are)

-- ---- runs

module _ {X Y Z W : Type 0} where
  zip_none : (x : Option X) (y : Option Y) (z : Option Z) (w : Option W) → (x ≡ None) ↔ (y ≡ None) → (z ≡ None) ↔ (w ≡ None) → option_zip x z ≡ None → option_zip y w ≡ None
  zip_none None y z w a b e = let f = a.0 refl in rw f refl
  zip_none (Some x) None z w a b e = absurd (let f = a.1 refl in cc)
  zip_none (Some x) (Some y) None w a b e = let f = b.0 refl in rw f refl
  zip_none (Some x) (Some y) (Some z) None a b e = refl
  zip_none (Some x) (Some y) (Some z) (Some w) a b e = absurd (cc)

module _ {X Z : Type 0} where
  zip_first : (x : Option X) (z : Option Z) (p : X × Z) → option_zip x z ≡ Some p → x ≡ Some p.0
  zip_first None z p e = absurd (cc)
  zip_first (Some x) None p e = absurd (cc)
  zip_first (Some x) (Some z) p e = ap (λ q. Some q.0) (some_same e)

  zip_second : (x : Option X) (z : Option Z) (p : X × Z) → option_zip x z ≡ Some p → z ≡ Some p.1
  zip_second None z p e = absurd (cc)
  zip_second (Some x) None p e = absurd (cc)
  zip_second (Some x) (Some z) p e = ap (λ q. Some q.1) (some_same e)

pub tells_zip : {X Y Z W : Type 0} (f : ℕ → Option X) (g : ℕ → Option Y) (h : ℕ → Option Z) (k : ℕ → Option W) → Tells f g → Tells h k → Tells (λ i. option_zip (f i) (h i)) (λ i. option_zip (g i) (k i))
tells_zip {X} {Y} {Z} {W} f g h k first second =
    tells (λ i. option_zip (f i) (h i)) (λ i. option_zip (g i) (k i))
    (λ i.
    let a = first.none i in
    let b = second.none i in
    (zip_none (f i) (g i) (h i) (k i) a b, zip_none (g i) (f i) (k i) (h i) (a.1, a.0) (b.1, b.0)))
    (λ i j p q r s at_p at_q at_r at_s.
    let one = first.same i j in
    let two = second.same i j in
    let fi = zip_first (f i) (h i) p at_p in
    let fj = zip_first (f j) (h j) q at_q in
    let hi = zip_second (f i) (h i) p at_p in
    let hj = zip_second (f j) (h j) q at_q in
    let gi = zip_first (g i) (k i) r at_r in
    let gj = zip_first (g j) (k j) s at_s in
    let ki = zip_second (g i) (k i) r at_r in
    let kj = zip_second (g j) (k j) s at_s in (
      λ e.
          let a : r.0 ≡ s.0 = some_same (sym gi ∙ one.0 (fi ∙ ap (λ x. Some x.0) e ∙ sym fj) ∙ gj) in
          let b : r.1 ≡ s.1 = some_same (sym ki ∙ two.0 (hi ∙ ap (λ x. Some x.1) e ∙ sym hj) ∙ kj) in
          rw (a, b) refl,
      λ e.
          let a : p.0 ≡ q.0 = some_same (sym fi ∙ one.1 (gi ∙ ap (λ x. Some x.0) e ∙ sym gj) ∙ fj) in
          let b : p.1 ≡ q.1 = some_same (sym hi ∙ two.1 (ki ∙ ap (λ x. Some x.1) e ∙ sym kj) ∙ hj) in
          rw (a, b) refl,
    ))

module _ {X : Type 0} where
  abbrev front : X × List X → List X
  front run = run.0 ∷ run.1

  same_front : (p q : X × List X) → front p ≡ front q → p ≡ q
  same_front (x, xs) (y, ys) e =
      let a : x ≡ y = cc in
      let b : xs ≡ ys = cc in
      rw (a, b) refl

  tells_front : (f : ℕ → Option (X × List X)) → Tells (λ i. option_map front (f i)) f
  tells_front f = tells_keys front f (λ i j p q at_p at_q. same_front p q)

tells_back : {X Y : Type 0} (f : ℕ → Option X) (g : ℕ → Option Y) → Tells f g → Tells g f
tells_back f g told = record {
  none = λ i. let a = told.none i in (a.1, a.0);
  same = λ i j. let a = told.same i j in (a.1, a.0);
}

tells_behind : {X Y : Type 0} (f : ℕ → Option X) (g : ℕ → Option Y) → Tells f g → Tells (λ i. f (i + 1)) (λ i. g (i + 1))
tells_behind f g told = record { none = λ i. told.none (i + 1); same = λ i j. told.same (i + 1) (j + 1) }

-- the runs of members that the others tell apart
tells_runs : {X Y : Type 0} (n : ℕ) (xs : List (Option X)) (ys : List (Option Y)) → Tells (member_at xs) (member_at ys) → Tells (run_at n xs) (run_at n ys)
tells_runs zero xs ys told = record { none = λ i. (λ e. absurd (cc), λ e. absurd (cc)); same = λ i j. (λ e. refl, λ e. refl) }
tells_runs (suc n) xs ys told =
    let rest = tells_behind (run_at n xs) (run_at n ys) (tells_runs n xs ys told) in
    let both = tells_zip (member_at xs) (member_at ys) (λ i. run_at n xs (i + 1)) (λ i. run_at n ys (i + 1)) told rest in
    tells_through (run_at (suc n) xs) (λ i. option_zip (member_at xs i) (run_at n xs (i + 1))) (run_at (suc n) ys)
    (tells_front (λ i. option_zip (member_at xs i) (run_at n xs (i + 1))))
    (tells_through (λ i. option_zip (member_at xs i) (run_at n xs (i + 1))) (λ i. option_zip (member_at ys i) (run_at n ys (i + 1))) (run_at (suc n) ys) both
    (tells_back (run_at (suc n) ys) (λ i. option_zip (member_at ys i) (run_at n ys (i + 1))) (tells_front (λ i. option_zip (member_at ys i) (run_at n ys (i + 1))))))

run_numbers : {X : Type 0} (n : ℕ) (members : List (Option X)) (numbers : List (Option ℕ)) → length numbers ≡ length members → Tells (member_at numbers) (run_at n members) → AreRunNumbers n members numbers
run_numbers n members numbers many told = record { many = many; none = told.none; same = told.same }

abbrev empty_run : (X : Type 0) → Option (List X)
empty_run X = Some []

module _ {X : Type 0} where
  abbrev alone : X → X × List X
  alone x = (x, [])

  single : (o : Option X) → option_zip o (empty_run X) ≡ option_map alone o
  single None = refl
  single (Some x) = refl

  tells_single : (f : ℕ → Option X) → Tells (λ i. option_zip (f i) (empty_run X)) f
  tells_single f =
      tells_there (λ i. option_zip (f i) (empty_run X)) (λ i. option_map alone (f i)) f (λ i. single (f i))
      (tells_keys alone f (λ i j x y at_x at_y e. ap (λ p. p.0) e))

-- numbers of members are those of their runs of one
pub single_runs : {X : Type 0} (members : List (Option X)) (numbers : List (Option ℕ)) → AreNumbersOf members numbers → AreRunNumbers 1 members numbers
single_runs {X} members numbers are =
    run_numbers 1 members numbers are.many
    (tells_through (member_at numbers) (member_at members) (run_at 1 members) (tells_members members numbers are)
    (tells_back (run_at 1 members) (member_at members)
    (tells_through (run_at 1 members) (λ i. option_zip (member_at members i) (empty_run X)) (member_at members)
    (tells_front (λ i. option_zip (member_at members i) (empty_run X)))
    (tells_single (member_at members)))))

-- numbers of the runs of numbers are those of the runs of members
pub runs_of_members : {X : Type 0} (n : ℕ) (members : List (Option X)) (firsts numbers : List (Option ℕ)) → AreNumbersOf members firsts → AreRunNumbers n firsts numbers → AreRunNumbers n members numbers
runs_of_members n members firsts numbers firsts_are are =
    run_numbers n members numbers (are.many ∙ firsts_are.many)
    (tells_through (member_at numbers) (run_at n firsts) (run_at n members) (record { none = are.none; same = are.same }) (tells_runs n firsts members (tells_members members firsts firsts_are)))

-- numbers of the pairs of a member's number and that of the run behind it
pub longer_runs : (n : ℕ) (firsts runs : List (Option ℕ)) (pairs : List (Option (ℕ × ℕ))) (numbers : List (Option ℕ)) → length pairs ≡ length firsts
    → ((i : ℕ) → member_at pairs i ≡ option_zip (member_at firsts i) (member_at runs (i + 1))) → AreNumbersOf pairs numbers → AreRunNumbers n firsts runs → AreRunNumbers (n + 1) firsts numbers
longer_runs n firsts runs pairs numbers many there are runs_are =
    subst (λ m. AreRunNumbers m firsts numbers) (sym (add-one n))
    (run_numbers (suc n) firsts numbers (are.many ∙ many)
    (tells_through (member_at numbers) (member_at pairs) (run_at (suc n) firsts) (tells_members pairs numbers are)
    (tells_there (member_at pairs) (λ i. option_zip (member_at firsts i) (member_at runs (i + 1))) (run_at (suc n) firsts) there
    (tells_through (λ i. option_zip (member_at firsts i) (member_at runs (i + 1))) (λ i. option_zip (member_at firsts i) (run_at n firsts (i + 1))) (run_at (suc n) firsts)
    (tells_zip (member_at firsts) (member_at firsts) (λ i. member_at runs (i + 1)) (λ i. run_at n firsts (i + 1)) (tells_itself (member_at firsts))
    (tells_behind (member_at runs) (run_at n firsts) (record { none = runs_are.none; same = runs_are.same })))
    (tells_back (run_at (suc n) firsts) (λ i. option_zip (member_at firsts i) (run_at n firsts (i + 1))) (tells_front (λ i. option_zip (member_at firsts i) (run_at n firsts (i + 1)))))))))

-- ---- the loop that makes the pairs

module _ {X : Type 0} where
  pub get_front : (xs ys : List X) (k : ℕ) → k < length xs → slice_get (xs ++ ys) k ≡ slice_get xs k
  get_front [] ys k l = absurd (omega arith)
  get_front (x ∷ xs) ys zero l = refl
  get_front (x ∷ xs) ys (suc k) l = get_front xs ys k (omega arith)

  get_seam : (xs : List X) (y : X) → slice_get (xs ++ y ∷ []) (length xs) ≡ Some y
  get_seam [] y = refl
  get_seam (x ∷ xs) y = get_seam xs y

pub pairs_more : {X : Type 0} (pairs : List (Option X)) (pair : Option X) (i : ℕ) (zip : ℕ → Option X) → length pairs ≡ i → pair ≡ zip i → ((k : ℕ) → k < i → member_at pairs k ≡ zip k)
    → (k : ℕ) → k < i + 1 → member_at (pairs ++ pair ∷ []) k ≡ zip k
pairs_more pairs pair i zip many here below k l = elim (cases_lt k i) [
  | inl ahead ↦ ap option_flatten (get_front pairs (pair ∷ []) k (omega arith)) ∙ below k ahead
  | inr past ↦
      let e : length pairs ≡ k = omega arith in
      let f : i ≡ k = omega arith in
      ap option_flatten (subst (λ j. slice_get (pairs ++ pair ∷ []) j ≡ Some pair) e (get_seam pairs pair)) ∙ here ∙ ap zip f
]

pub pairs_end : (firsts runs : List (Option ℕ)) (pairs : List (Option (ℕ × ℕ))) → length pairs ≡ length firsts → ((k : ℕ) → k < length firsts → member_at pairs k ≡ option_zip (member_at firsts k) (member_at runs (k + 1)))
    → (k : ℕ) → member_at pairs k ≡ option_zip (member_at firsts k) (member_at runs (k + 1))
pairs_end firsts runs pairs many below k = elim (cases_lt k (length firsts)) [
  | inl within ↦ below k within
  | inr past ↦
      let e : member_at pairs k ≡ None = flat_none (slice_get pairs k) (slice_get_past pairs k (omega arith)) in
      let f : member_at firsts k ≡ None = flat_none (slice_get firsts k) (slice_get_past firsts k past) in
      e ∙ sym (ap (λ o. option_zip o (member_at runs (k + 1))) f)
]
