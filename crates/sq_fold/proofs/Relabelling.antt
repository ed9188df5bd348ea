-- The same nodes with finer labels.
use Rattle.std.proofs.Common.{◌≡◌, ℕ, zero, suc, ◌+◌, ◌<◌, ◌≤◌, inl, inr, List, [], ◌∷◌, ◌++◌, length, length-append, Option, None, Some, slice_get, get_or, refl, sym, ap, ◌∙◌, arith}
use Rattle.std.proofs.lemmas.Bool.{cases_lt}
use Rattle.std.proofs.lemmas.Option.{slice_get-get_or}
use Rattle.std.specs.Option.{option_map, option_flatten}
use Rattle.sq_finger.specs.Numbers.{member_at}
use Rattle.sq_fold.specs.declared.rounds.Node.{Node}
use Rattle.sq_fold.specs.Splitting.{labelled, AreLabelled, HaveSameStable, AreSound}
use Rattle.sq_fold.specs.Stable.{seen_by, view, IsStable, IsCoarsest, IsFinerBy}
use Rattle.sq_fold.proofs.Refining.{same_view, view_coarser, finer_many}

some_same : {X : Type 0} {x y : X} → Some x ≡ Some y → x ≡ y
some_same e = cc

-- ---- lists

pub get_past : {X : Type 0} (xs : List X) (i : ℕ) → length xs ≤ i → slice_get xs i ≡ None
get_past [] i l = refl
get_past (x ∷ xs) zero l = absurd (omega arith)
get_past (x ∷ xs) (suc i) l = get_past xs i (omega arith)

get_front : {X : Type 0} (xs ys : List X) (i : ℕ) → i < length xs → slice_get (xs ++ ys) i ≡ slice_get xs i
get_front [] ys i l = absurd (omega arith)
get_front (x ∷ xs) ys zero l = refl
get_front (x ∷ xs) ys (suc i) l = get_front xs ys i (omega arith)

pub get_last : {X : Type 0} (xs : List X) (x : X) → slice_get (xs ++ x ∷ []) (length xs) ≡ Some x
get_last [] x = refl
get_last (y ∷ xs) x = get_last xs x

-- ---- the loop that labels

pub record LabelledTo (nodes : List Node) (labels : List (Option ℕ)) (i : ℕ) (found : List Node) : Type 0 where
  pub many : length found ≡ i
  pub each : (k : ℕ) → k < i → slice_get found k ≡ option_map (λ node. labelled node (member_at labels k)) (slice_get nodes k)

pub labelled_next : (nodes : List Node) (labels : List (Option ℕ)) (i : ℕ) (node made : Node) (found : List Node) → LabelledTo nodes labels i found → slice_get nodes i ≡ Some node → made ≡ labelled node (member_at labels i) → LabelledTo nodes labels (i + 1) (found ++ made ∷ [])
labelled_next nodes labels i node made found so here is = record {
  many = let l = so.many in let m = length-append found (made ∷ []) in omega arith;
  each = λ k l. elim (cases_lt k i) [
    | inl less ↦ get_front found (made ∷ []) k (let m = so.many in omega arith) ∙ so.each k less
    | inr past ↦
        let same : k ≡ i = omega arith in
        let at : k ≡ length found = let m = so.many in omega arith in
        ap (slice_get (found ++ made ∷ [])) at ∙ get_last found made ∙ ap Some is
        ∙ ap (option_map (λ n. labelled n (member_at labels i))) (sym here)
        ∙ ap (λ j. option_map (λ n. labelled n (member_at labels j)) (slice_get nodes j)) (sym same)
  ];
}

pub labelled_end : (nodes : List Node) (labels : List (Option ℕ)) (i : ℕ) (found : List Node) → LabelledTo nodes labels i found → length nodes ≤ i → i ≤ length nodes → AreLabelled nodes labels found
labelled_end nodes labels i found so past within = record {
  many = let l = so.many in omega arith;
  each = λ k. elim (cases_lt k i) [
    | inl less ↦ so.each k less
    | inr more ↦
        get_past found k (let l = so.many in omega arith)
        ∙ ap (option_map (λ n. labelled n (member_at labels k))) (sym (get_past nodes k (omega arith)))
  ];
}

pub label_read : (labels : List (Option ℕ)) (i : ℕ) → i < length labels → get_or labels i None ≡ member_at labels i
label_read labels i l = ap option_flatten (sym (slice_get-get_or labels i None l))

-- ---- labels that are seen

abbrev label_at : List Node → ℕ → Option (Option ℕ)
label_at nodes i = option_map (λ node. node.label) (slice_get nodes i)

abbrev Seen : Type 0 → Type 0
Seen K = Option ℕ × Option K × Option K

abbrev label_seen : {K : Type 0} → Option (Seen K) → Option (Option ℕ)
label_seen seen = option_map (λ s. s.0) seen

label_in_view : {K : Type 0} (class : ℕ → K) (node : Option Node) → option_map (λ n. n.label) node ≡ label_seen (option_map (seen_by class) node)
label_in_view class None = refl
label_in_view class (Some node) = refl

-- places that look alike have one label
pub alike_labels : {K : Type 0} (class : ℕ → K) (nodes : List Node) (i j : ℕ) → view nodes class i ≡ view nodes class j → label_at nodes i ≡ label_at nodes j
alike_labels class nodes i j e = label_in_view class (slice_get nodes i) ∙ ap label_seen e ∙ sym (label_in_view class (slice_get nodes j))

-- ---- labels by what is seen

-- other labels, which each stable partition respects, and which tell apart what the old ones do
pub record AreFinerLabels (nodes : List Node) (labels : List (Option ℕ)) : Type 0 where
  pub many : length labels ≡ length nodes
  pub respects : (other : ℕ → ℕ) → IsStable nodes other → (i j : ℕ) → other i ≡ other j → member_at labels i ≡ member_at labels j
  pub finer : (i j : ℕ) → i < length nodes → j < length nodes → member_at labels i ≡ member_at labels j → label_at nodes i ≡ label_at nodes j

module _ {K : Type 0} (class : ℕ → K) (k l : Option ℕ) where
  relabelled_alike : (a b : Option Node) → k ≡ l → option_map (seen_by class) a ≡ option_map (seen_by class) b → option_map (seen_by class) (option_map (λ n. labelled n k) a) ≡ option_map (seen_by class) (option_map (λ n. labelled n l) b)
  relabelled_alike None None e f = refl
  relabelled_alike None (Some b) e f = absurd (cc)
  relabelled_alike (Some a) None e f = absurd (cc)
  relabelled_alike (Some a) (Some b) e f =
      let seen = some_same f in
      let next = ap (λ s. s.1) seen in
      let target = ap (λ s. s.2) seen in
      rw (e, next, target) refl

  -- what was seen with other labels, where the old ones are alike
  unlabelled_alike : (a b : Option Node) → ((m n : Node) → a ≡ Some m → b ≡ Some n → k ≡ l → m.label ≡ n.label) → option_map (seen_by class) (option_map (λ n. labelled n k) a) ≡ option_map (seen_by class) (option_map (λ n. labelled n l) b) → option_map (seen_by class) a ≡ option_map (seen_by class) b
  unlabelled_alike None None old e = refl
  unlabelled_alike None (Some b) old e = absurd (cc)
  unlabelled_alike (Some a) None old e = absurd (cc)
  unlabelled_alike (Some a) (Some b) old e =
      let seen = some_same e in
      let label = old a b refl refl (ap (λ s. s.0) seen) in
      let next = ap (λ s. s.1) seen in
      let target = ap (λ s. s.2) seen in
      rw (label, next, target) refl

module _ (nodes : List Node) (labels : List (Option ℕ)) (found : List Node) (fine : AreFinerLabels nodes labels) (are : AreLabelled nodes labels found) where
  pub found_stays : (other : ℕ → ℕ) → IsStable nodes other → IsStable found other
  found_stays other stable i j e =
      ap (option_map (seen_by other)) (are.each i)
      ∙ relabelled_alike other (member_at labels i) (member_at labels j) (slice_get nodes i) (slice_get nodes j) (fine.respects other stable i j e) (stable i j e)
      ∙ sym (ap (option_map (seen_by other)) (are.each j))

  get_within : {X : Type 0} (xs : List X) (i : ℕ) (x : X) → slice_get xs i ≡ Some x → i < length xs
  get_within [] i x e = absurd (cc)
  get_within (y ∷ xs) zero x e = omega arith
  get_within (y ∷ xs) (suc i) x e = let l = get_within xs i x e in omega arith

  old_label : (i j : ℕ) (m n : Node) → slice_get nodes i ≡ Some m → slice_get nodes j ≡ Some n → member_at labels i ≡ member_at labels j → m.label ≡ n.label
  old_label i j m n a b e =
      some_same
      (sym (ap (option_map (λ n. n.label)) a) ∙ fine.finer i j (get_within nodes i m a) (get_within nodes j n b) e ∙ ap (option_map (λ n. n.label)) b)

  pub nodes_stable : {K : Type 0} (class : ℕ → K) → IsStable found class → IsStable nodes class
  nodes_stable class stable i j e =
      unlabelled_alike class (member_at labels i) (member_at labels j) (slice_get nodes i) (slice_get nodes j) (λ m n a b. old_label i j m n a b)
      (sym (ap (option_map (seen_by class)) (are.each i)) ∙ stable i j e ∙ ap (option_map (seen_by class)) (are.each j))

-- the numbers of what is seen by sound classes are such labels
finer_labels : (nodes : List Node) (classes labels : List (Option ℕ)) → AreSound nodes classes → IsFinerBy nodes classes labels → AreFinerLabels nodes labels
finer_labels nodes classes labels sound made = record {
  many = finer_many nodes classes labels made;
  respects = λ other stable i j e.
      (same_view nodes classes labels made i j).1
      (view_coarser other (member_at classes) (λ x y f. sound.above x y (other, (stable, f))) (slice_get nodes i) (slice_get nodes j) (stable i j e));
  finer = λ i j l m e. alike_labels (member_at classes) nodes i j ((same_view nodes classes labels made i j).0 e);
}

pub same_stable : (nodes found : List Node) (classes labels : List (Option ℕ)) → AreSound nodes classes → IsFinerBy nodes classes labels → AreLabelled nodes labels found → HaveSameStable nodes found
same_stable nodes found classes labels sound made are =
    let fine = finer_labels nodes classes labels sound made in
    record {
      many = are.many;
      stays = found_stays nodes labels found fine are;
      stable = nodes_stable nodes labels found fine are;
    }

-- a coarsest stable partition of these is one of the nodes
pub coarsest_by : (nodes found : List Node) (class : ℕ → Option ℕ) → HaveSameStable nodes found → IsCoarsest found class → IsCoarsest nodes class
coarsest_by nodes found class same coarsest = record {
  stable = same.stable class coarsest.stable;
  coarsest = λ other stable i j e. coarsest.coarsest other (same.stays other stable) i j e;
}
