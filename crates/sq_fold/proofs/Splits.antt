-- Classes that are split: they stay sound, and lists stay whole.
use Rattle.std.proofs.Common.{◌≡◌, ◌≢◌, ◌↔◌, ◌⊎◌, ℕ, zero, suc, ◌+◌, ◌<◌, ◌≤◌, inl, inr, Bool, true, false, if◌then◌else◌, nat_eq, List, [], ◌∷◌, ◌++◌, map, take, set, length, Contains, Option, None, Some, slice_get, get_or, refl, sym, ap, ◌∙◌, subst, arith}
use Rattle.std.proofs.lemmas.Bool.{cases_eq, cases_lt}
use Rattle.std.proofs.lemmas.List.{length-append, length-set}
use Rattle.std.proofs.lemmas.List.Elements.{Contains-append_left, Contains-append_right, Contains-append_cases, Contains-push_cases, Contains-push}
use Rattle.std.proofs.lemmas.List.FromFn.{length-range_with_len, get_or-range_with_len}
use Rattle.std.proofs.lemmas.Option.{slice_get-get_or, slice_get-map, slice_get_within}
use Rattle.std.specs.List.{list_any, range_with_len}
use Rattle.std.specs.Option.{option_map, option_flatten, unwrap_or}
use Rattle.indexmap.specs.IndexSet.{insert_key}
use Rattle.indexmap.proofs.CallerLemmas.{Contains-insert_key}
use Rattle.sq_finger.specs.Groups.{group_count, groups_of}
use Rattle.sq_finger.specs.Numbers.{member_at}
use Rattle.sq_finger.proofs.Exactness.{exact_number}
use Rattle.sq_finger.proofs.Grouping.{count_below, Numbered, contains_at, at_contains, in_numbered, numbered_in}
use Rattle.sq_fold.specs.declared.rounds.Node.{Node}
use Rattle.sq_fold.specs.Splitting.{AreTogether, AreSound, IsWhole, HasWholeClasses, AreListed, AreLeft, ArePut, IsSplit, LeadsTo, AreSources, AreInGroups, node_by, labelled}
use Rattle.sq_fold.specs.Stable.{seen_by, view, IsFinerBy}
use Rattle.sq_fold.proofs.Refining.{same_view, view_coarser, finer_many}
use Rattle.sq_fold.proofs.Relabelling.{get_past, get_last}

some_same : {X : Type 0} {x y : X} → Some x ≡ Some y → x ≡ y
some_same e = cc

-- ---- lists

there : {X : Type 0} (xs : List X) (i : ℕ) → i < length xs → (x : X) × (slice_get xs i ≡ Some x)
there [] i l = absurd (omega arith)
there (x ∷ xs) zero l = (x, refl)
there (x ∷ xs) (suc i) l = there xs i (omega arith)

get_front : {X : Type 0} (xs ys : List X) (i : ℕ) (x : X) → slice_get xs i ≡ Some x → slice_get (xs ++ ys) i ≡ Some x
get_front [] ys i x e = absurd (cc)
get_front (y ∷ xs) ys zero x e = e
get_front (y ∷ xs) ys (suc i) x e = get_front xs ys i x e

get_set_same : {X : Type 0} (xs : List X) (i : ℕ) (x : X) → i < length xs → slice_get (set xs i x) i ≡ Some x
get_set_same [] i x l = absurd (omega arith)
get_set_same (y ∷ xs) zero x l = refl
get_set_same (y ∷ xs) (suc i) x l = get_set_same xs i x (omega arith)

get_set_other : {X : Type 0} (xs : List X) (i j : ℕ) (x : X) → j ≢ i → slice_get (set xs i x) j ≡ slice_get xs j
get_set_other [] i j x n = refl
get_set_other (y ∷ xs) zero zero x n = absurd (n refl)
get_set_other (y ∷ xs) zero (suc j) x n = refl
get_set_other (y ∷ xs) (suc i) zero x n = refl
get_set_other (y ∷ xs) (suc i) (suc j) x n = get_set_other xs i j x (λ e. n (ap suc e))

take_suc : {X : Type 0} (xs : List X) (k : ℕ) (x : X) → slice_get xs k ≡ Some x → take (suc k) xs ≡ take k xs ++ x ∷ []
take_suc [] k x e = absurd (cc)
take_suc (y ∷ xs) zero x e = ap (λ z. z ∷ []) (some_same e)
take_suc (y ∷ xs) (suc k) x e = ap (λ zs. y ∷ zs) (take_suc xs k x e)

pub take_next : {X : Type 0} (xs : List X) (k : ℕ) (x : X) → slice_get xs k ≡ Some x → take (k + 1) xs ≡ take k xs ++ x ∷ []
take_next xs k x e = let f : k + 1 ≡ suc k = omega arith in ap (λ n. take n xs) f ∙ take_suc xs k x e

contains_cases : (xs : List ℕ) (x : ℕ) → Contains xs x ⊎ ¬ Contains xs x
contains_cases [] x = inr (λ c. let l = c.1 in absurd (omega arith))
contains_cases (y ∷ xs) x = elim (cases_eq y x) [
  | inl same ↦ inl (at_contains (y ∷ xs) 0 x (ap Some same))
  | inr other ↦ elim (contains_cases xs x) [
    | inl c ↦ inl (Contains-append_right (y ∷ []) xs x c)
    | inr none ↦ inr (λ c. elim (Contains-append_cases (y ∷ []) xs x c) [
      | inl one ↦ let at = contains_at (y ∷ []) x one in only at.0 at.1 other
      | inr rest ↦ none rest
    ])
  ]
]
  where
    only : {A : Type 0} (i : ℕ) → slice_get (y ∷ []) i ≡ Some x → y ≢ x → A
    only zero e n = absurd (n (some_same e))
    only (suc i) e n = absurd (cc)

range_there : (n i : ℕ) → i < n → slice_get (range_with_len 0 n) i ≡ Some i
range_there n i l =
    let e : get_or (range_with_len 0 n) i 0 ≡ i = let f = get_or-range_with_len 0 n i 0 l in omega arith in
    slice_get-get_or (range_with_len 0 n) i 0 (let m = length-range_with_len 0 n in omega arith) ∙ ap Some e

pub range_more : (n : ℕ) → range_with_len 0 (n + 1) ≡ range_with_len 0 n ++ n ∷ []
range_more n = let e : n + 1 ≡ suc n = omega arith in let f : 0 + n ≡ n = omega arith in ap (range_with_len 0) e ∙ go 0 n ∙ ap (λ x. range_with_len 0 n ++ x ∷ []) f
  where
    go : (a n : ℕ) → range_with_len a (suc n) ≡ range_with_len a n ++ (a + n) ∷ []
    go a zero = let e : a ≡ a + 0 = omega arith in ap (λ x. x ∷ []) e
    go a (suc n) = let e : a + 1 + n ≡ a + suc n = omega arith in ap (λ xs. a ∷ xs) (go (a + 1) n ∙ ap (λ x. range_with_len (a + 1) n ++ x ∷ []) e)

range_below : (n i : ℕ) → Contains (range_with_len 0 n) i → i < n
range_below n i c =
    let at = contains_at (range_with_len 0 n) i c in
    let l : at.0 < n = let l = slice_get_within (range_with_len 0 n) at.0 i at.1 in let m = length-range_with_len 0 n in omega arith in
    let e : at.0 ≡ i = some_same (sym (range_there n at.0 l) ∙ at.1) in
    omega arith

-- ---- members at places

member_there : {X : Type 0} (xs : List (Option X)) (i : ℕ) (x : X) → member_at xs i ≡ Some x → slice_get xs i ≡ Some (Some x)
member_there xs i x e = by (slice_get xs i) refl
  where
    by : (o : Option (Option _)) → slice_get xs i ≡ o → slice_get xs i ≡ Some (Some x)
    by None f = absurd (let g = sym e ∙ ap option_flatten f in cc)
    by (Some None) f = absurd (let g = sym e ∙ ap option_flatten f in cc)
    by (Some (Some y)) f = f ∙ ap Some (sym (ap option_flatten f) ∙ e)

-- ---- places that are together

module _ (nodes : List Node) where
  together_back : (i j : ℕ) → AreTogether nodes i j → AreTogether nodes j i
  together_back i j (other, (stable, same)) = (other, (stable, sym same))

  together_within : (i j : ℕ) → AreTogether nodes i j → i < length nodes → j < length nodes
  together_within i j (other, (stable, same)) l = elim (cases_lt j (length nodes)) [
    | inl m ↦ m
    | inr m ↦
        let a = there nodes i l in
        absurd (let e = sym (ap (option_map (seen_by other)) a.1) ∙ stable i j same ∙ ap (option_map (seen_by other)) (get_past nodes j m) in cc)
  ]

  edge_on : (other : ℕ → ℕ) (o p : Option ℕ) (k : ℕ) → option_map other o ≡ option_map other p → o ≡ Some k → (l : ℕ) × ((p ≡ Some l) × (other k ≡ other l))
  edge_on other o None k e f = absurd (let g = sym (ap (option_map other) f) ∙ e in cc)
  edge_on other o (Some l) k e f = (l, (refl, some_same (sym (ap (option_map other) f) ∙ e)))

  -- where one of two leads, the other leads to what is together with it
  leads_on : (i j k : ℕ) → AreTogether nodes i j → LeadsTo nodes i k → (l : ℕ) × (AreTogether nodes k l × LeadsTo nodes j l)
  leads_on i j k t (within, (a, (at, edge))) =
      let b = there nodes j (together_within i j t (slice_get_within nodes i a at)) in
      let seen = some_same (sym (ap (option_map (seen_by t.0)) at) ∙ t.1.0 i j t.1.1 ∙ ap (option_map (seen_by t.0)) b.1) in
      elim edge [
        | inl next ↦
            let on = edge_on t.0 a.next b.0.next k (ap (λ s. s.1) seen) next in
            let u : AreTogether nodes k on.0 = (t.0, (t.1.0, on.1.1)) in
            (on.0, (u, (together_within k on.0 u within, (b.0, (b.1, inl on.1.0)))))
        | inr target ↦
            let on = edge_on t.0 a.target b.0.target k (ap (λ s. s.2) seen) target in
            let u : AreTogether nodes k on.0 = (t.0, (t.1.0, on.1.1)) in
            (on.0, (u, (together_within k on.0 u within, (b.0, (b.1, inr on.1.0)))))
      ]

  pub leading_whole : (sources : List (List ℕ)) (places leading : List ℕ) → AreSources nodes sources → AreInGroups sources places leading → IsWhole nodes places → IsWhole nodes leading
  leading_whole sources places leading are inside whole i j t c =
      let from = (inside i).0 c in
      let on = leads_on i j from.0 t ((are i from.0).0 from.1.1) in
      (inside j).1 (on.0, (whole from.0 on.0 on.1.0 from.1.0, (are j on.0).1 on.1.1))

  pub all_whole : IsWhole nodes (range_with_len 0 (length nodes))
  all_whole i j t c =
      let l = together_within i j t (range_below (length nodes) i c) in
      at_contains (range_with_len 0 (length nodes)) j j (range_there (length nodes) j l)

  pub whole_append : (xs ys : List ℕ) → IsWhole nodes xs → IsWhole nodes ys → IsWhole nodes (xs ++ ys)
  whole_append xs ys whole also i j t c = elim (Contains-append_cases xs ys i c) [
    | inl d ↦ Contains-append_left xs ys j (whole i j t d)
    | inr d ↦ Contains-append_right xs ys j (also i j t d)
  ]

  -- ---- sound classes

  pub first_sound : (numbers : List (Option ℕ)) → IsFinerBy nodes [] numbers → AreSound nodes numbers
  first_sound numbers made = record {
    many = finer_many nodes [] numbers made;
    above = λ i j t.
        (same_view nodes [] numbers made i j).1
        (view_coarser t.0 (member_at []) (λ x y e. refl) (slice_get nodes i) (slice_get nodes j) (t.1.0 i j t.1.1));
  }

  pub classes_whole : (classes : List (Option ℕ)) (places : List ℕ) → AreSound nodes classes → HasWholeClasses classes places → IsWhole nodes places
  classes_whole classes places sound whole i j t c = whole i j (sound.above i j t) c

  pub split_sound : (part : List ℕ) (old new : List (Option ℕ)) → AreSound nodes old → IsWhole nodes part → IsSplit part old new → AreSound nodes new
  split_sound part old new sound whole (inl same) = subst (AreSound nodes) (sym same) sound
  split_sound part old new sound whole (inr (class, put)) = record {
    many = put.many ∙ sound.many;
    above = λ i j t. elim (contains_cases part i) [
      | inl c ↦ elim (cases_lt i (length nodes)) [
        | inl l ↦ put.put i (let m = sound.many in omega arith) c ∙ sym (put.put j (let m = sound.many in let k = together_within i j t l in omega arith) (whole i j t c))
        | inr l ↦ nothing i l ∙ sym (elim (cases_lt j (length nodes)) [
          | inl m ↦ absurd (let k = together_within j i (together_back i j t) m in omega arith)
          | inr m ↦ nothing j m
        ])
      ]
      | inr none ↦ put.kept i none ∙ sound.above i j t ∙ sym (put.kept j (λ c. none (whole j i (together_back i j t) c)))
    ];
  }
    where
      nothing : (i : ℕ) → length nodes ≤ i → member_at new i ≡ None
      nothing i l = ap option_flatten (get_past new i (let m = put.many in let k = sound.many in omega arith))

  -- ---- parts

  abbrev none : Node
  none = record { label = None; next = None; target = None }

  module _ (classes : List (Option ℕ)) (sound : AreSound nodes classes) where
    seen_at : (i : ℕ) (a : Node) → unwrap_or (slice_get nodes i) none ≡ a → seen_by (member_at classes) (node_by nodes classes i) ≡ seen_by (member_at classes) (labelled a (member_at classes i))
    seen_at i a e = ap (λ n. seen_by (member_at classes) (labelled n (member_at classes i))) e

    seen_in : (i j : ℕ) → AreTogether nodes i j → seen_by (member_at classes) (node_by nodes classes i) ≡ seen_by (member_at classes) (node_by nodes classes j)
    seen_in i j t = elim (cases_lt i (length nodes)) [
      | inl l ↦
          let a = there nodes i l in
          let b = there nodes j (together_within i j t l) in
          let e = view_coarser t.0 (member_at classes) (λ x y f. sound.above x y (t.0, (t.1.0, f))) (slice_get nodes i) (slice_get nodes j) (t.1.0 i j t.1.1) in
          let seen = some_same (sym (ap (option_map (seen_by (member_at classes))) a.1) ∙ e ∙ ap (option_map (seen_by (member_at classes))) b.1) in
          seen_at i a.0 (ap (λ o. unwrap_or o none) a.1)
          ∙ same (sound.above i j t) (ap (λ s. s.1) seen) (ap (λ s. s.2) seen)
          ∙ sym (seen_at j b.0 (ap (λ o. unwrap_or o none) b.1))
      | inr l ↦
          seen_at i none (ap (λ o. unwrap_or o none) (get_past nodes i l)) ∙ same (sound.above i j t) refl refl
          ∙ sym (elim (cases_lt j (length nodes)) [
            | inl m ↦ absurd (let k = together_within j i (together_back i j t) m in omega arith)
            | inr m ↦ seen_at j none (ap (λ o. unwrap_or o none) (get_past nodes j m))
          ])
    ]
      where
        same : {k l : Option ℕ} {n m o p : Option (Option ℕ)} → k ≡ l → n ≡ m → o ≡ p → ◌≡◌ {A = Option ℕ × Option (Option ℕ) × Option (Option ℕ)} (k, n, o) (l, m, p)
        same e f g = rw (e, f, g) refl

    module _ (places : List ℕ) (numbers : List (Option ℕ)) (whole : IsWhole nodes places) (made : IsFinerBy (map (node_by nodes classes) places) classes numbers) where
      one_number : (p q x y : ℕ) → slice_get places p ≡ Some x → slice_get places q ≡ Some y → AreTogether nodes x y → member_at numbers p ≡ member_at numbers q
      one_number p q x y e f t = (same_view (map (node_by nodes classes) places) classes numbers made p q).1 (at p x e ∙ ap Some (seen_in x y t) ∙ sym (at q y f))
        where
          at : (p x : ℕ) → slice_get places p ≡ Some x → view (map (node_by nodes classes) places) (member_at classes) p ≡ Some (seen_by (member_at classes) (node_by nodes classes x))
          at p x e = ap (option_map (seen_by (member_at classes))) (slice_get-map (node_by nodes classes) places p ∙ ap (option_map (node_by nodes classes)) e)

      pub part_whole : (n : ℕ) (part : List ℕ) → slice_get (groups_of numbers places) n ≡ Some part → IsWhole nodes part
      part_whole n part is i j t c =
          let p = in_numbered numbers places n i (part, (is, c)) in
          let q = contains_at places j (whole i j t (at_contains places p.0 i p.1.1)) in
          let e = one_number p.0 q.0 i j p.1.1 q.1 t in
          let number = member_there numbers q.0 n (sym e ∙ ap option_flatten p.1.0) in
          let found = numbered_in numbers places n j (q.0, (number, q.1)) in
          subst (λ group. Contains group j) (some_same (sym found.1.0 ∙ is)) found.1.1

-- ---- lists of the members of classes

pub first_listed : (numbers : List (Option ℕ)) → AreListed numbers (groups_of numbers (range_with_len 0 (length numbers)))
first_listed numbers i class e =
    let number = member_there numbers i class e in
    numbered_in numbers (range_with_len 0 (length numbers)) class i (i, (number, range_there (length numbers) i (slice_get_within numbers i (Some class) number)))

pub put_listed : (part : List ℕ) (class : ℕ) (old new : List (Option ℕ)) (lists : List (List ℕ)) → AreListed old lists → ArePut part class old new → class ≡ length lists → AreListed new (lists ++ part ∷ [])
put_listed part class old new lists listed put is i c e = elim (contains_cases part i) [
  | inl there ↦
      let l : i < length old = let l = slice_get_within new i (Some c) (member_there new i c e) in let m = put.many in omega arith in
      let same : c ≡ length lists = some_same (sym e ∙ put.put i l there) ∙ is in
      (part, (ap (slice_get (lists ++ part ∷ [])) same ∙ get_last lists part, there))
  | inr none ↦
      let was = listed i c (sym (put.kept i none) ∙ e) in
      (was.0, (get_front lists (part ∷ []) c was.0 was.1.0, was.1.1))
]

pub left_listed : (lists : List (List ℕ)) (classes : List (Option ℕ)) (class : ℕ) (list left : List ℕ) → AreListed classes lists → slice_get lists class ≡ Some list → AreLeft list classes class left → AreListed classes (set lists class left)
left_listed lists classes class list left listed is are i c e = elim (cases_eq c class) [
  | inl same ↦
      let f : member_at classes i ≡ Some class = e ∙ ap Some same in
      let was = listed i class f in
      (left, (ap (slice_get (set lists class left)) same ∙ get_set_same lists class left (slice_get_within lists class list is), (are i).1 (subst (λ l. Contains l i) (some_same (sym was.1.0 ∙ is)) was.1.1, f)))
  | inr other ↦
      let was = listed i c e in
      (was.0, (get_set_other lists class c left other ∙ was.1.0, was.1.1))
]

pub left_whole : (lists : List (List ℕ)) (classes : List (Option ℕ)) (class : ℕ) (list left : List ℕ) → AreListed classes lists → slice_get lists class ≡ Some list → AreLeft list classes class left → HasWholeClasses classes left
left_whole lists classes class list left listed is are i j e c =
    let f : member_at classes j ≡ Some class = sym e ∙ ((are i).0 c).1 in
    let was = listed j class f in
    (are j).1 (subst (λ l. Contains l j) (some_same (sym was.1.0 ∙ is)) was.1.1, f)

-- ---- what comes so far

contains_next : (xs : List ℕ) (k x : ℕ) → slice_get xs k ≡ Some x → (y : ℕ) → Contains (take (k + 1) xs) y ↔ (Contains (take k xs) y ⊎ (x ≡ y))
contains_next xs k x e y = (
  λ c. Contains-push_cases (take k xs) x y (subst (λ zs. Contains zs y) (take_next xs k x e) c),
  λ c. subst (λ zs. Contains zs y) (sym (take_next xs k x e)) (elim c [
    | inl d ↦ Contains-append_left (take k xs) (x ∷ []) y d
    | inr same ↦ subst (Contains (take k xs ++ x ∷ [])) same (Contains-push (take k xs) x)
  ]),
)

nothing_yet : {A : Type 0} (x : ℕ) → Contains [] x → A
nothing_yet x c = absurd (let l = c.1 in omega arith)

-- those of a class

module _ (list : List ℕ) (classes : List (Option ℕ)) (class : ℕ) where
  pub left_first : AreLeft [] classes class []
  left_first i = (λ c. nothing_yet i c, λ c. nothing_yet i c.0)

  module _ (k place : ℕ) (left : List ℕ) (at : slice_get list k ≡ Some place) (are : AreLeft (take k list) classes class left) where
    pub left_more : member_at classes place ≡ Some class → AreLeft (take (k + 1) list) classes class (left ++ place ∷ [])
    left_more e i = (
      λ c. elim (Contains-push_cases left place i c) [
        | inl d ↦ let f = (are i).0 d in ((contains_next list k place at i).1 (inl f.0), f.1)
        | inr same ↦ ((contains_next list k place at i).1 (inr same), subst (λ j. member_at classes j ≡ Some class) same e)
      ],
      λ c. elim ((contains_next list k place at i).0 c.0) [
        | inl d ↦ Contains-append_left left (place ∷ []) i ((are i).1 (d, c.1))
        | inr same ↦ subst (Contains (left ++ place ∷ [])) same (Contains-push left place)
      ],
    )

    pub left_same : member_at classes place ≢ Some class → AreLeft (take (k + 1) list) classes class left
    left_same other i = (
      λ c. let f = (are i).0 c in ((contains_next list k place at i).1 (inl f.0), f.1),
      λ c. elim ((contains_next list k place at i).0 c.0) [
        | inl d ↦ (are i).1 (d, c.1)
        | inr same ↦ absurd (other (subst (λ j. member_at classes j ≡ Some class) (sym same) c.1))
      ],
    )

-- places that are put

module _ (places : List ℕ) (class : ℕ) (old now : List (Option ℕ)) (k place : ℕ) (at : slice_get places k ≡ Some place) (are : ArePut (take k places) class old now) where
  pub put_more : place < length now → ArePut (take (k + 1) places) class old (set now place (Some class))
  put_more l = record {
    many = length-set now place (Some class) ∙ are.many;
    put = λ i m c. elim (cases_eq i place) [
      | inl same ↦ subst (λ j. member_at (set now place (Some class)) j ≡ Some class) (sym same) (ap option_flatten (get_set_same now place (Some class) l))
      | inr other ↦ elim ((contains_next places k place at i).0 c) [
        | inl d ↦ ap option_flatten (get_set_other now place i (Some class) other) ∙ are.put i m d
        | inr same ↦ absurd (other (sym same))
      ]
    ];
    kept = λ i none. ap option_flatten (get_set_other now place i (Some class) (λ same. none ((contains_next places k place at i).1 (inr (sym same))))) ∙ are.kept i (λ d. none ((contains_next places k place at i).1 (inl d)));
  }

  pub put_same : length now ≤ place → ArePut (take (k + 1) places) class old now
  put_same l = record {
    many = are.many;
    put = λ i m c. elim ((contains_next places k place at i).0 c) [
      | inl d ↦ are.put i m d
      | inr same ↦ absurd (let n = are.many in omega arith)
    ];
    kept = λ i none. are.kept i (λ d. none ((contains_next places k place at i).1 (inl d)));
  }

-- places that are added to a set

abbrev pub AreAdded : List ℕ → List ℕ → List ℕ → Type 0
AreAdded old places new = (x : ℕ) → Contains new x ↔ (Contains old x ⊎ Contains places x)

pub added_first : (old : List ℕ) → AreAdded old [] old
added_first old x = (
  λ c. inl c,
  λ c. elim c [
    | inl d ↦ d
    | inr d ↦ nothing_yet x d
  ],
)

same_number : (x y : ℕ) → nat_eq x y ≡ true → x ≡ y
same_number x y e = (exact_number x y).0 e

inserted : (keys : List ℕ) (k x : ℕ) → Contains (insert_key nat_eq keys k) x ↔ (Contains keys x ⊎ (k ≡ x))
inserted keys k x = by (list_any (nat_eq k) keys) refl
  where
    by : (b : Bool) → list_any (nat_eq k) keys ≡ b → Contains (insert_key nat_eq keys k) x ↔ (Contains keys x ⊎ (k ≡ x))
    by true e =
        let same : insert_key nat_eq keys k ≡ keys = ap (λ c. if c then keys else keys ++ k ∷ []) e in (
          λ c. inl (subst (λ l. Contains l x) same c),
          λ c. elim c [
            | inl d ↦ subst (λ l. Contains l x) (sym same) d
            | inr is ↦ subst (Contains (insert_key nat_eq keys k)) is (Contains-insert_key nat_eq same_number keys k)
          ],
        )
    by false e =
        let more : insert_key nat_eq keys k ≡ keys ++ k ∷ [] = ap (λ c. if c then keys else keys ++ k ∷ []) e in (
          λ c. Contains-push_cases keys k x (subst (λ l. Contains l x) more c),
          λ c. elim c [
            | inl d ↦ subst (λ l. Contains l x) (sym more) (Contains-append_left keys (k ∷ []) x d)
            | inr is ↦ subst (Contains (insert_key nat_eq keys k)) is (Contains-insert_key nat_eq same_number keys k)
          ],
        )

pub added_next : (old places now : List ℕ) (k place : ℕ) → slice_get places k ≡ Some place → AreAdded old (take k places) now → AreAdded old (take (k + 1) places) (insert_key nat_eq now place)
added_next old places now k place at are x = (
  λ c. elim ((inserted now place x).0 c) [
    | inl d ↦ elim ((are x).0 d) [
      | inl e ↦ inl e
      | inr e ↦ inr ((contains_next places k place at x).1 (inl e))
    ]
    | inr same ↦ inr ((contains_next places k place at x).1 (inr same))
  ],
  λ c. (inserted now place x).1 (elim c [
    | inl d ↦ inl ((are x).1 (inl d))
    | inr d ↦ elim ((contains_next places k place at x).0 d) [
      | inl e ↦ inl ((are x).1 (inr e))
      | inr same ↦ inr same
    ]
  ]),
)

-- the members of groups

pub inside_first : (groups : List (List ℕ)) → AreInGroups groups [] []
inside_first groups x = (λ c. nothing_yet x c, λ c. nothing_yet c.0 c.1.0)

module _ (groups : List (List ℕ)) (numbers now : List ℕ) (k n : ℕ) (at : slice_get numbers k ≡ Some n) (are : AreInGroups groups (take k numbers) now) where
  pub inside_more : (group new : List ℕ) → slice_get groups n ≡ Some group → AreAdded now group new → AreInGroups groups (take (k + 1) numbers) new
  inside_more group new is added x = (
    λ c. elim ((added x).0 c) [
      | inl d ↦ let f = (are x).0 d in (f.0, ((contains_next numbers k n at f.0).1 (inl f.1.0), f.1.1))
      | inr d ↦ (n, ((contains_next numbers k n at n).1 (inr refl), (group, (is, d))))
    ],
    λ c. (added x).1 (elim ((contains_next numbers k n at c.0).0 c.1.0) [
      | inl d ↦ inl ((are x).1 (c.0, (d, c.1.1)))
      | inr same ↦ inr (subst (λ g. Contains g x) (some_same (sym c.1.1.1.0 ∙ ap (slice_get groups) (sym same) ∙ is)) c.1.1.1.1)
    ]),
  )

  pub inside_same : length groups ≤ n → AreInGroups groups (take (k + 1) numbers) now
  inside_same l x = (
    λ c. let f = (are x).0 c in (f.0, ((contains_next numbers k n at f.0).1 (inl f.1.0), f.1.1)),
    λ c. elim ((contains_next numbers k n at c.0).0 c.1.0) [
      | inl d ↦ (are x).1 (c.0, (d, c.1.1))
      | inr same ↦ absurd (let m = slice_get_within groups c.0 c.1.1.0 c.1.1.1.0 in omega arith)
    ],
  )

-- where the first nodes lead

numbered_push : (n : ℕ) (numbers : List (Option ℕ)) (xs : List ℕ) (number : Option ℕ) (y x : ℕ) → length numbers ≡ length xs → Numbered n (numbers ++ number ∷ []) (xs ++ y ∷ []) x ↔ (Numbered n numbers xs x ⊎ ((number ≡ Some n) × (y ≡ x)))
numbered_push n [] [] number y x e = (
  λ h. inr (one h.0 h.1.0 h.1.1),
  λ h. elim h [
    | inl g ↦ absurd (let f = g.1.0 in cc)
    | inr g ↦ (0, (ap Some g.0, ap Some g.1))
  ],
)
  where
    one : (i : ℕ) → slice_get (number ∷ []) i ≡ Some (Some n) → slice_get (y ∷ []) i ≡ Some x → (number ≡ Some n) × (y ≡ x)
    one zero f g = (some_same f, some_same g)
    one (suc i) f g = absurd (cc)
numbered_push n [] (z ∷ xs) number y x e = absurd (omega arith)
numbered_push n (m ∷ numbers) [] number y x e = absurd (omega arith)
numbered_push n (m ∷ numbers) (z ∷ xs) number y x e = (
  λ h. to (numbered_push n numbers xs number y x (omega arith)) h.0 h.1,
  λ h. elim h [
    | inl g ↦ from (numbered_push n numbers xs number y x (omega arith)) g.0 g.1
    | inr g ↦ let r = (numbered_push n numbers xs number y x (omega arith)).1 (inr g) in (suc r.0, r.1)
  ],
)
  where
    to : (Numbered n (numbers ++ number ∷ []) (xs ++ y ∷ []) x ↔ (Numbered n numbers xs x ⊎ ((number ≡ Some n) × (y ≡ x)))) → (i : ℕ) → (slice_get (m ∷ numbers ++ number ∷ []) i ≡ Some (Some n)) × (slice_get (z ∷ xs ++ y ∷ []) i ≡ Some x) → Numbered n (m ∷ numbers) (z ∷ xs) x ⊎ ((number ≡ Some n) × (y ≡ x))
    to rest zero h = inl (0, h)
    to rest (suc i) h = elim (rest.0 (i, h)) [
      | inl g ↦ inl (suc g.0, g.1)
      | inr g ↦ inr g
    ]

    from : (Numbered n (numbers ++ number ∷ []) (xs ++ y ∷ []) x ↔ (Numbered n numbers xs x ⊎ ((number ≡ Some n) × (y ≡ x)))) → (i : ℕ) → (slice_get (m ∷ numbers) i ≡ Some (Some n)) × (slice_get (z ∷ xs) i ≡ Some x) → Numbered n (m ∷ numbers ++ number ∷ []) (z ∷ xs ++ y ∷ []) x
    from rest zero h = (0, h)
    from rest (suc i) h = let r = rest.1 (inl (i, h)) in (suc r.0, r.1)

-- these are the first nodes, twice each, and where they lead
pub record LeadSoFar (nodes : List Node) (i : ℕ) (from : List ℕ) (to : List (Option ℕ)) : Type 0 where
  pub many : length to ≡ length from
  pub are : (x k : ℕ) → Numbered k to from x ↔ ((x < i) × LeadsTo nodes x k)

abbrev pub IsBelow : ℕ → Option ℕ → Option ℕ → Type 0
IsBelow bound place below = (k : ℕ) → (below ≡ Some k) ↔ ((k < bound) × (place ≡ Some k))

pub lead_first : (nodes : List Node) → LeadSoFar nodes 0 [] []
lead_first nodes = record {
  many = refl;
  are = λ x k. (λ h. absurd (let f = h.1.0 in cc), λ h. absurd (let l = h.0 in omega arith));
}

pub lead_next : (nodes : List Node) (i : ℕ) (from : List ℕ) (to : List (Option ℕ)) (node : Node) (next target : Option ℕ) → LeadSoFar nodes i from to → slice_get nodes i ≡ Some node → IsBelow (length nodes) node.next next → IsBelow (length nodes) node.target target → LeadSoFar nodes (i + 1) ((from ++ i ∷ []) ++ i ∷ []) ((to ++ next ∷ []) ++ target ∷ [])
lead_next nodes i from to node next target so at first second = record {
  many = omega (arith, m1, m2, m3, m4, so.many);
  are = λ x k. (
    λ h. elim ((numbered_push k (to ++ next ∷ []) (from ++ i ∷ []) target i x same).0 h) [
      | inl g ↦ elim ((numbered_push k to from next i x so.many).0 g) [
        | inl f ↦ let r = (so.are x k).0 f in (let l = r.0 in omega arith, r.1)
        | inr f ↦ let r = (first k).0 f.0 in (let e = f.1 in omega arith, (r.0, (node, (ap (slice_get nodes) (sym f.1) ∙ at, inl r.1))))
      ]
      | inr f ↦ let r = (second k).0 f.0 in (let e = f.1 in omega arith, (r.0, (node, (ap (slice_get nodes) (sym f.1) ∙ at, inr r.1))))
    ],
    λ h. (numbered_push k (to ++ next ∷ []) (from ++ i ∷ []) target i x same).1 (elim (cases_lt x i) [
      | inl l ↦ inl ((numbered_push k to from next i x so.many).1 (inl ((so.are x k).1 (l, h.1))))
      | inr l ↦
          let here : i ≡ x = let m = h.0 in omega arith in
          let is : h.1.1.0 ≡ node = some_same (sym h.1.1.1.0 ∙ ap (slice_get nodes) (sym here) ∙ at) in
          elim h.1.1.1.1 [
            | inl e ↦ inl ((numbered_push k to from next i x so.many).1 (inr ((first k).1 (h.1.0, ap (λ n. n.next) (sym is) ∙ e), here)))
            | inr e ↦ inr ((second k).1 (h.1.0, ap (λ n. n.target) (sym is) ∙ e), here)
          ]
    ]),
  );
}
  where
    m1 : length (to ++ next ∷ []) ≡ length to + 1
    m1 = length-append to (next ∷ [])

    m2 : length (from ++ i ∷ []) ≡ length from + 1
    m2 = length-append from (i ∷ [])

    m3 : length ((to ++ next ∷ []) ++ target ∷ []) ≡ length (to ++ next ∷ []) + 1
    m3 = length-append (to ++ next ∷ []) (target ∷ [])

    m4 : length ((from ++ i ∷ []) ++ i ∷ []) ≡ length (from ++ i ∷ []) + 1
    m4 = length-append (from ++ i ∷ []) (i ∷ [])

    same : length (to ++ next ∷ []) ≡ length (from ++ i ∷ [])
    same = omega (arith, m1, m2, so.many)

module _ (nodes : List Node) (i : ℕ) (from : List ℕ) (to : List (Option ℕ)) (so : LeadSoFar nodes i from to) where
  pub lead_few : group_count to ≤ length nodes
  lead_few = count_below to (length nodes) (λ p n e. let at = there from p (let l = slice_get_within to p (Some n) e in let m = so.many in omega arith) in ((so.are at.0 n).0 (p, (e, at.1))).1.0)

  pub lead_end : length nodes ≤ i → AreSources nodes (groups_of to from)
  lead_end past x k = (
    λ h. ((so.are x k).0 (in_numbered to from k x h)).1,
    λ h. numbered_in to from k x ((so.are x k).1 (let l = slice_get_within nodes x h.1.0 h.1.1.0 in omega arith, h)),
  )
