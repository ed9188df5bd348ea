-- Rounds of finer and finer classes.
use Rattle.std.proofs.Common.{◌≡◌, ◌≢◌, ◌↔◌, ◌&&◌, ℕ, zero, suc, ◌-◌, inl, inr, ◌<◌, ◌≤◌, Bool, true, false, true≢false, not, List, [], ◌∷◌, length, Option, Some, None, IsSome, nat_eq, slice_get, refl, sym, ap, ◌∙◌, subst, arith}
use Rattle.std.proofs.lemmas.Bool.{and_parts, cases_Bool, cases_lt}
use Rattle.std.proofs.lemmas.List.{length-map}
use Rattle.std.proofs.lemmas.Option.{slice_get-get_or}
use Rattle.std.proofs.lemmas.Slice.Eq.{slice_eq-Decides}
use lib.Pointwise.{pointwise}
use Rattle.std.specs.Cmp.{IsEquivalence}
use Rattle.std.specs.Option.{option_map, option_eq}
use Rattle.sq_finger.specs.Exact.{IsExact}
use Rattle.sq_finger.specs.Groups.{group_count}
use Rattle.sq_finger.specs.Numbers.{member_at, AreNumbers}
use Rattle.sq_finger.proofs.Exactness.{exact_number, exact_option}
use Rattle.sq_finger.proofs.Grouping.{count_below}
use Rattle.sq_finger.proofs.Keyed.{equivalence}
use Rattle.sq_finger.proofs.Numbering.{numbers_are}
use Rattle.sq_finger.proofs.Telling.{numbers_of_keys}
use Rattle.sq_fold.specs.declared.rounds.Node.{Node}
use Rattle.sq_fold.specs.Stable.{seen_by, view, IsStable, IsCoarsest, Key, is_same_key, keys_by, IsFinerBy}
use Rattle.sq_fold.proofs.Growing.{weight, full, weight_below, Grows, grows, grows_from_none}

some_same : {X : Type 0} {x y : X} → Some x ≡ Some y → x ≡ y
some_same e = cc

-- ---- keys

exact_label : IsExact {K = Option ℕ} (option_eq nat_eq)
exact_label = exact_option nat_eq exact_number

exact_edge : IsExact {K = Option (Option ℕ)} (option_eq (option_eq nat_eq))
exact_edge = exact_option (option_eq nat_eq) (exact_option nat_eq exact_number)

exact_key : IsExact {K = Key} is_same_key
exact_key a b = (
  λ e.
      let p = and_parts (option_eq nat_eq a.0 b.0 && option_eq (option_eq nat_eq) a.1 b.1) (option_eq (option_eq nat_eq) a.2 b.2) e in
      let q = and_parts (option_eq nat_eq a.0 b.0) (option_eq (option_eq nat_eq) a.1 b.1) p.0 in
      let first : a.0 ≡ b.0 = (exact_label a.0 b.0).0 q.0 in
      let second : a.1 ≡ b.1 = (exact_edge a.1 b.1).0 q.1 in
      let third : a.2 ≡ b.2 = (exact_edge a.2 b.2).0 p.1 in
      rw (first, second, third) refl,
  λ e. subst (λ k. is_same_key a k ≡ true) e (rw ((exact_label a.0 a.0).1 refl, (exact_edge a.1 a.1).1 refl, (exact_edge a.2 a.2).1 refl) refl),
)

key_laws : IsEquivalence is_same_key
key_laws = equivalence {K = Key} is_same_key (λ k l e. (exact_key k l).0 e) (λ k. (exact_key k k).1 refl)

keys_at : (nodes : List Node) (classes : List (Option ℕ)) (i : ℕ) → member_at (keys_by nodes classes) i ≡ view nodes (member_at classes) i
keys_at [] classes i = refl
keys_at (node ∷ nodes) classes zero = refl
keys_at (node ∷ nodes) classes (suc i) = keys_at nodes classes i

are_numbers : (nodes : List Node) (classes finer : List (Option ℕ)) → IsFinerBy nodes classes finer → AreNumbers is_same_key (keys_by nodes classes) finer
are_numbers nodes classes finer made = subst (AreNumbers is_same_key (keys_by nodes classes)) (sym made) (numbers_are is_same_key key_laws (keys_by nodes classes))

pub finer_many : (nodes : List Node) (classes finer : List (Option ℕ)) → IsFinerBy nodes classes finer → length finer ≡ length nodes
finer_many nodes classes finer made = (are_numbers nodes classes finer made).many ∙ length-map nodes (λ node. Some (seen_by (member_at classes) node))

pub finer_count : (nodes : List Node) (classes finer : List (Option ℕ)) → IsFinerBy nodes classes finer → group_count finer ≤ length nodes
finer_count nodes classes finer made = count_below finer (length nodes) (λ i n e. subst (λ m. n < m) (length-map nodes (λ node. Some (seen_by (member_at classes) node))) ((are_numbers nodes classes finer made).below i n e))

pub same_view : (nodes : List Node) (classes finer : List (Option ℕ)) → IsFinerBy nodes classes finer → (i j : ℕ) → (member_at finer i ≡ member_at finer j) ↔ (view nodes (member_at classes) i ≡ view nodes (member_at classes) j)
same_view nodes classes finer made i j =
    let are = numbers_of_keys is_same_key exact_key (keys_by nodes classes) finer (are_numbers nodes classes finer made) in
    let same = are.same i j in
    let a = keys_at nodes classes i in
    let b = keys_at nodes classes j in (
      λ e. sym a ∙ same.0 e ∙ b,
      λ e. same.1 (a ∙ e ∙ sym b),
    )

-- ---- where one partition is finer than another, so is what is seen by it

module _ {K L : Type 0} (f : ℕ → K) (g : ℕ → L) (coarser : (i j : ℕ) → f i ≡ f j → g i ≡ g j) where
  edge_coarser : (x y : Option ℕ) → option_map f x ≡ option_map f y → option_map g x ≡ option_map g y
  edge_coarser None None e = refl
  edge_coarser None (Some y) e = absurd (cc)
  edge_coarser (Some x) None e = absurd (cc)
  edge_coarser (Some x) (Some y) e = ap Some (coarser x y (some_same e))

  pub seen_coarser : (x y : Node) → seen_by f x ≡ seen_by f y → seen_by g x ≡ seen_by g y
  seen_coarser x y e =
      let label : x.label ≡ y.label = ap (λ k. k.0) e in
      let next = edge_coarser x.next y.next (ap (λ k. k.1) e) in
      let target = edge_coarser x.target y.target (ap (λ k. k.2) e) in
      rw (label, next, target) refl

  pub view_coarser : (x y : Option Node) → option_map (seen_by f) x ≡ option_map (seen_by f) y → option_map (seen_by g) x ≡ option_map (seen_by g) y
  view_coarser None None e = refl
  view_coarser None (Some y) e = absurd (cc)
  view_coarser (Some x) None e = absurd (cc)
  view_coarser (Some x) (Some y) e = ap Some (seen_coarser x y (some_same e))

-- ---- rounds

abbrev pub IsAbove : List Node → List (Option ℕ) → Type 0
IsAbove nodes classes = (other : ℕ → ℕ) → IsStable nodes other → (i j : ℕ) → other i ≡ other j → member_at classes i ≡ member_at classes j

-- these classes, and those of one round more
pub record Rounds (nodes : List Node) (classes finer : List (Option ℕ)) : Type 0 where
  pub made : IsFinerBy nodes classes finer
  pub coarser : (i j : ℕ) → member_at finer i ≡ member_at finer j → member_at classes i ≡ member_at classes j
  pub above : IsAbove nodes classes
  pub grown : Grows classes finer

pub rounds_first : (nodes : List Node) (finer : List (Option ℕ)) → IsFinerBy nodes [] finer → Rounds nodes [] finer
rounds_first nodes finer made = record {
  made = made;
  coarser = λ i j e. refl;
  above = λ other stable i j e. refl;
  grown = grows_from_none finer;
}

pub rounds_next : (nodes : List Node) (classes finer finest : List (Option ℕ)) → Rounds nodes classes finer → IsFinerBy nodes finer finest → Rounds nodes finer finest
rounds_next nodes classes finer finest rounds made = record {
  made = made;
  coarser = λ i j e.
      (same_view nodes classes finer rounds.made i j).1
      (view_coarser (member_at finer) (member_at classes) rounds.coarser (slice_get nodes i) (slice_get nodes j) ((same_view nodes finer finest made i j).0 e));
  above = λ other stable i j e.
      (same_view nodes classes finer rounds.made i j).1
      (view_coarser other (member_at classes) (rounds.above other stable) (slice_get nodes i) (slice_get nodes j) (stable i j e));
  grown =
      rw (rounds.made, made)
      (grows is_same_key exact_key (seen_by (member_at classes)) (seen_by (member_at finer)) (seen_coarser (member_at finer) (member_at classes) rounds.coarser) nodes);
}

-- as long as classes change, they weigh more, up to a bound
rounds_bound : (nodes : List Node) (classes finer : List (Option ℕ)) → Rounds nodes classes finer → weight finer ≤ full (length nodes) (length nodes)
rounds_bound nodes classes finer rounds =
    let are = are_numbers nodes classes finer rounds.made in
    let keys = length-map nodes (λ node. Some (seen_by (member_at classes) node)) in
    let below = weight_below (length nodes) finer (λ i m e. subst (λ n. m < n) keys (are.below i m e)) in
    subst (λ n. weight finer ≤ full (length nodes) n) (finer_many nodes classes finer rounds.made) below

pub rounds_end : (nodes : List Node) (classes finer : List (Option ℕ)) → Rounds nodes classes finer → finer ≡ classes → IsCoarsest nodes (member_at classes)
rounds_end nodes classes finer rounds same = record {
  stable = λ i j e. (same_view nodes classes finer rounds.made i j).0 (subst (λ cs. member_at cs i ≡ member_at cs j) (sym same) e);
  coarsest = rounds.above;
}

-- each node has a class
pub finer_some : (nodes : List Node) (classes finer : List (Option ℕ)) → IsFinerBy nodes classes finer → (i : ℕ) → i < length nodes → IsSome (member_at finer i)
finer_some nodes classes finer made i l = go (member_at finer i) refl
  where
    go : (o : Option ℕ) → member_at finer i ≡ o → IsSome o
    go None e =
        let are = numbers_of_keys is_same_key exact_key (keys_by nodes classes) finer (are_numbers nodes classes finer made) in
        let none : Node = record { label = None; next = None; target = None } in
        let key = keys_at nodes classes i ∙ ap (option_map (seen_by (member_at classes))) (slice_get-get_or nodes i none l) in
        absurd (let h = sym ((are.none i).0 e) ∙ key in cc)
    go (Some n) e = refl

-- ---- the test whether a round made no class finer

not_true : (b c : Bool) → b ≡ not c → c ≡ true → b ≡ false
not_true b c e f = rw (e, f) refl

not_false : (b c : Bool) → b ≡ not c → c ≡ false → b ≡ true
not_false b c e f = rw (e, f) refl

pub same_numbers : (xs ys : List (Option ℕ)) (b : Bool) → b ≡ not (pointwise (option_eq nat_eq) xs ys) → b ≡ false → xs ≡ ys
same_numbers xs ys b e f = elim (cases_Bool (pointwise (option_eq nat_eq) xs ys)) [
  | inl t ↦ (slice_eq-Decides (exact_option nat_eq exact_number) xs ys (pointwise (option_eq nat_eq) xs ys) refl).0 t
  | inr t ↦ absurd (true≢false (sym (not_false b (pointwise (option_eq nat_eq) xs ys) e t) ∙ f))
]

other_numbers : (xs ys : List (Option ℕ)) (b : Bool) → b ≡ not (pointwise (option_eq nat_eq) xs ys) → b ≡ true → xs ≢ ys
other_numbers xs ys b e f same = true≢false (sym f ∙ not_true b (pointwise (option_eq nat_eq) xs ys) e ((slice_eq-Decides (exact_option nat_eq exact_number) xs ys (pointwise (option_eq nat_eq) xs ys) refl).1 same))

pub rounds_smaller : (nodes : List Node) (classes finer : List (Option ℕ)) (b : Bool) → Rounds nodes classes finer → b ≡ not (pointwise (option_eq nat_eq) finer classes) → b ≡ true → full (length nodes) (length nodes) - weight finer < full (length nodes) (length nodes) - weight classes
rounds_smaller nodes classes finer b rounds e f =
    let more = rounds.grown.more in
    let bound = rounds_bound nodes classes finer rounds in
    elim (cases_lt (weight classes) (weight finer)) [
      | inl l ↦ omega arith
      | inr l ↦ absurd (other_numbers finer classes b e f (sym (rounds.grown.still (omega arith))))
    ]
