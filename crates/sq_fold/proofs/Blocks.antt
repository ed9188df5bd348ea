-- The coarsest stable partition of the places of a graph gives that of its blocks.
use Rattle.std.proofs.Common.{◌≡◌, ◌↔◌, ℕ, zero, suc, ◌+◌, ◌<◌, ◌≤◌, Bool, true, false, List, [], ◌∷◌, ◌++◌, map, append_assoc, length, drop, Option, None, Some, IsSome, option_to_list, slice_get, refl, sym, ap, ◌∙◌, subst, arith}
use Rattle.std.specs.Option.{option_map, option_and_then, option_flatten}
use Rattle.std.proofs.lemmas.List.{map-append}
use Rattle.std.proofs.lemmas.Option.{slice_get-map, slice_get_past, slice_get_within}
use Rattle.sq_graph.specs.declared.item.Item.{Item}
use Rattle.sq_graph.specs.declared.item.Term.{Term}
use Rattle.sq_graph.specs.Blocks.{HasBlock, block_of, block_term, items_of, term_of, next_of}
use Rattle.sq_graph.specs.Graph.{Block, Graph}
use Rattle.sq_graph.specs.Rules.{IsGraph}
use Rattle.sq_graph.specs.Terms.{goes_on}
use Rattle.sq_graph.specs.Uses.{item_uses, items_uses}
use Rattle.sq_finger.specs.declared.places.WindowAt.{WindowAt}
use Rattle.sq_finger.specs.Classes.{is_same_kind}
use Rattle.sq_finger.specs.Exact.{IsExact}
use Rattle.sq_finger.specs.Lines.{line_of}
use Rattle.sq_finger.specs.Numbers.{member_at, numbers_of, AreNumbersOf}
use Rattle.sq_finger.proofs.Keyed.{same_kind, kind_laws}
use Rattle.sq_finger.proofs.Numbering.{numbers_are}
use Rattle.sq_finger.proofs.Telling.{numbers_of_keys}
use Rattle.sq_fold.specs.declared.rounds.Node.{Node}
use Rattle.sq_fold.specs.Index.{IsIndex}
use Rattle.sq_fold.specs.Labels.{bare, bare_at}
use Rattle.sq_fold.specs.Nodes.{item_name, slot_of, At, start_of, starts_of, term_leads, leads_on, leads_by, leads_at, node_of, AreNodes, class_by}
use Rattle.sq_fold.specs.Partition.{bare_item, bare_term, target_references, next_references, references_of, shape_of, IsStablePartition, IsCoarsestPartition}
use Rattle.sq_fold.specs.Stable.{seen_by, view, IsStable, IsCoarsest}
use Rattle.sq_fold.proofs.Growing.{value}
use Rattle.sq_fold.proofs.Places.{place, listed, among}
use Rattle.sq_fold.proofs.Referred.{item_named, term_referred, has_one, bare_one, IsThere, item_there, has_target, has_next, bare_target, bare_next, target_there, next_there, slot_after, IsBlockOf, item_known, leads_known}

some_same : {X : Type 0} {x y : X} → Some x ≡ Some y → x ≡ y
some_same e = cc

-- ---- lists from a place on

pub drop_here : {X : Type 0} (a : ℕ) (all : List X) (x : X) (xs : List X) → drop a all ≡ x ∷ xs → (slice_get all a ≡ Some x) × (drop (a + 1) all ≡ xs)
drop_here zero [] x xs e = absurd (cc)
drop_here zero (y ∷ all) x xs e = (ap (λ l. slice_get l 0) e, ap (λ n. drop n (y ∷ all)) (let k : 0 + 1 ≡ 1 = omega arith in k) ∙ ap (drop 1) e)
drop_here (suc a) [] x xs e = absurd (cc)
drop_here (suc a) (y ∷ all) x xs e =
    let h = drop_here a all x xs e in
    (h.0, ap (λ n. drop n (y ∷ all)) (let k : suc a + 1 ≡ suc (a + 1) = omega arith in k) ∙ h.1)

pub drop_end : {X : Type 0} (a : ℕ) (all : List X) → drop a all ≡ [] → length all ≤ a
drop_end zero [] e = omega arith
drop_end zero (y ∷ all) e = absurd (cc)
drop_end (suc a) [] e = omega arith
drop_end (suc a) (y ∷ all) e = let l = drop_end a all e in omega arith

-- ---- two lists of names that are there or not alike

same_list : {K : Type 0} (C : ℕ → K) (b : Bool) (o p : Option ℕ) → IsThere b o → IsThere b p → option_map C o ≡ option_map C p → map C (option_to_list o) ≡ map C (option_to_list p)
same_list C b None None s t e = refl
same_list C b None (Some n) s t e = absurd (cc)
same_list C b (Some m) None s t e = absurd (cc)
same_list C b (Some m) (Some n) s t e = ap (λ k. k ∷ []) (some_same e)

list_same : {K : Type 0} (C : ℕ → K) (b : Bool) (o p : Option ℕ) → IsThere b o → IsThere b p → map C (option_to_list o) ≡ map C (option_to_list p) → option_map C o ≡ option_map C p
list_same C b None None s t e = refl
list_same C b None (Some n) s t e = absurd (cc)
list_same C b (Some m) None s t e = absurd (cc)
list_same C b (Some m) (Some n) s t e = ap (λ (ks : List _). slice_get ks 0) e

-- appended lists that are equal, of equal first lengths
split_same : {X : Type 0} (us bs cs ds : List X) → length us ≡ length bs → us ++ cs ≡ bs ++ ds → (us ≡ bs) × (cs ≡ ds)
split_same [] [] cs ds l e = (refl, e)
split_same [] (b ∷ bs) cs ds l e = absurd (omega arith)
split_same (a ∷ us) [] cs ds l e = absurd (omega arith)
split_same (a ∷ us) (b ∷ bs) cs ds l e =
    let first : Some a ≡ Some b = ap (λ xs. slice_get xs 0) e in
    let rest = split_same us bs cs ds (omega arith) (ap (drop 1) e) in
    (rw (some_same first, rest.0) refl, rest.1)

option_length : {K : Type 0} (C : ℕ → K) (b : Bool) (o p : Option ℕ) → IsThere b o → IsThere b p → length (map C (option_to_list o)) ≡ length (map C (option_to_list p))
option_length C true None p s t = absurd s
option_length C true (Some m) None s t = absurd t
option_length C true (Some m) (Some n) s t = refl
option_length C false None None s t = refl
option_length C false None (Some n) s t = absurd t
option_length C false (Some m) p s t = absurd s

-- ---- the names of two items, and of two terms, that are equal but for names

module _ {K : Type 0} (C : ℕ → K) where
  abbrev Named : Option ℕ → Type 0
  Named o = Unit {0}

  pub item_names_there : (i j : Item) → bare_item i ≡ bare_item j → IsThere (has_one i) (item_name i) × IsThere (has_one i) (item_name j)
  item_names_there i j e = (item_there i, subst (λ b. IsThere b (item_name j)) (sym (bare_one j) ∙ ap has_one (sym e) ∙ bare_one i) (item_there j))

  pub items_refer : (i j : Item) → bare_item i ≡ bare_item j → option_map C (item_name i) ≡ option_map C (item_name j) → map C (item_uses i) ≡ map C (item_uses j)
  items_refer i j e f =
      let t = item_names_there i j e in
      ap (map C) (item_named i) ∙ same_list C (has_one i) (item_name i) (item_name j) t.0 t.1 f ∙ sym (ap (map C) (item_named j))

  -- the items from one place on refer alike where each does, and then what stands behind them
  pub pick : (xs ys : List Item) (R S : List ℕ) → map bare_item xs ≡ map bare_item ys → map C (items_uses xs ++ R) ≡ map C (items_uses ys ++ S)
      → ((a : ℕ) (i j : Item) → slice_get xs a ≡ Some i → slice_get ys a ≡ Some j → option_map C (item_name i) ≡ option_map C (item_name j)) × (map C R ≡ map C S)
  pick [] [] R S e f = (λ a i j g h. absurd (cc), f)
  pick [] (y ∷ ys) R S e f = absurd (cc)
  pick (x ∷ xs) [] R S e f = absurd (cc)
  pick (x ∷ xs) (y ∷ ys) R S e f =
      let same : bare_item x ≡ bare_item y = some_same (ap (λ (is : List Item). slice_get is 0) e) in
      let later : map bare_item xs ≡ map bare_item ys = ap (drop 1) e in
      let t = item_names_there x y same in
      let long : length (map C (item_uses x)) ≡ length (map C (item_uses y)) =
      ap (λ ns. length (map C ns)) (item_named x) ∙ option_length C (has_one x) (item_name x) (item_name y) t.0 t.1 ∙ sym (ap (λ ns. length (map C ns)) (item_named y)) in
      let whole : map C (item_uses x) ++ map C (items_uses xs ++ R) ≡ map C (item_uses y) ++ map C (items_uses ys ++ S) =
      sym (map-append C (item_uses x) (items_uses xs ++ R)) ∙ ap (map C) (sym (append_assoc (item_uses x) (items_uses xs) R)) ∙ f ∙ ap (map C) (append_assoc (item_uses y) (items_uses ys) S) ∙ map-append C (item_uses y) (items_uses ys ++ S) in
      let parts = split_same (map C (item_uses x)) (map C (item_uses y)) (map C (items_uses xs ++ R)) (map C (items_uses ys ++ S)) long whole in
      let rest = pick xs ys R S later parts.1 in
      let here : option_map C (item_name x) ≡ option_map C (item_name y) =
      list_same C (has_one x) (item_name x) (item_name y) t.0 t.1 (sym (ap (map C) (item_named x)) ∙ parts.0 ∙ ap (map C) (item_named y)) in
      (at_each x y xs ys here rest.0, rest.1)
    where
      at_each : (x y : Item) (xs ys : List Item) → option_map C (item_name x) ≡ option_map C (item_name y) → ((a : ℕ) (i j : Item) → slice_get xs a ≡ Some i → slice_get ys a ≡ Some j → option_map C (item_name i) ≡ option_map C (item_name j))
          → (a : ℕ) (i j : Item) → slice_get (x ∷ xs) a ≡ Some i → slice_get (y ∷ ys) a ≡ Some j → option_map C (item_name i) ≡ option_map C (item_name j)
      at_each x y xs ys here rest zero i j g h = ap (λ k. option_map C (item_name k)) (sym (some_same g)) ∙ here ∙ ap (λ k. option_map C (item_name k)) (some_same h)
      at_each x y xs ys here rest (suc a) i j g h = rest a i j g h

-- ---- the terms of two blocks

module _ (g : Graph) (rules : IsGraph g) where
  pub has_term : (n : ℕ) → HasBlock g n → (t : Term) × (term_of g n ≡ Some t)
  has_term n has = go (block_of g n) refl has
    where
      go : (o : Option Block) → block_of g n ≡ o → IsSome o → (t : Term) × (term_of g n ≡ Some t)
      go None e s = absurd (cc)
      go (Some b) e s = (b.term, ap block_term e)

  abbrev pub term_references : ℕ → List ℕ
  term_references n = target_references (term_of g n) ++ next_references (term_of g n) (next_of g n)

  -- both terms lead to a target or neither does, and so to a next slot
  pub record LeadAlike (x y : ℕ) : Type 0 where
    pub target : Bool
    pub next : Bool
    pub first_target : IsThere target (leads_on g x).1
    pub second_target : IsThere target (leads_on g y).1
    pub first_next : IsThere next (leads_on g x).0
    pub second_next : IsThere next (leads_on g y).0

  lead_alike : (x y : ℕ) → HasBlock g x → HasBlock g y → option_map bare_term (term_of g x) ≡ option_map bare_term (term_of g y) → LeadAlike x y
  lead_alike x y has there e =
      let t = has_term x has in
      let u = has_term y there in
      let same : bare_term t.0 ≡ bare_term u.0 = some_same (sym (ap (option_map bare_term) t.1) ∙ e ∙ ap (option_map bare_term) u.1) in
      let targets : has_target u.0 ≡ has_target t.0 = sym (bare_target u.0) ∙ ap has_target (sym same) ∙ bare_target t.0 in
      let nexts : has_next u.0 ≡ has_next t.0 = sym (bare_next u.0) ∙ ap has_next (sym same) ∙ bare_next t.0 in
      let goes : goes_on t.0 ≡ true → IsSome (next_of g x) = λ on. slot_after g x t.0 rules has t.1 on in
      let goes' : goes_on u.0 ≡ true → IsSome (next_of g y) = λ on. slot_after g y u.0 rules there u.1 on in
      record {
        target = has_target t.0;
        next = has_next t.0;
        first_target = subst (λ o. IsThere (has_target t.0) (term_leads o (slot_of o (next_of g x))).1) (sym t.1) (target_there t.0 (next_of g x) goes);
        second_target = subst (λ o. IsThere (has_target t.0) (term_leads o (slot_of o (next_of g y))).1) (sym u.1) (subst (λ b. IsThere b (term_leads (Some u.0) (slot_of (Some u.0) (next_of g y))).1) targets (target_there u.0 (next_of g y) goes'));
        first_next = subst (λ o. IsThere (has_next t.0) (term_leads o (slot_of o (next_of g x))).0) (sym t.1) (next_there t.0 (next_of g x) goes);
        second_next = subst (λ o. IsThere (has_next t.0) (term_leads o (slot_of o (next_of g y))).0) (sym u.1) (subst (λ b. IsThere b (term_leads (Some u.0) (slot_of (Some u.0) (next_of g y))).0) nexts (next_there u.0 (next_of g y) goes'));
      }

  abbrev split_references : ℕ → List ℕ
  split_references n = option_to_list (leads_on g n).1 ++ option_to_list (leads_on g n).0

  as_split : {K : Type 0} (C : ℕ → K) (n : ℕ) → map C (term_references n) ≡ map C (option_to_list (leads_on g n).1) ++ map C (option_to_list (leads_on g n).0)
  as_split C n = ap (map C) (term_referred (term_of g n) (next_of g n)) ∙ map-append C (option_to_list (leads_on g n).1) (option_to_list (leads_on g n).0)

  pub terms_refer : {K : Type 0} (C : ℕ → K) (x y : ℕ) → HasBlock g x → HasBlock g y → option_map bare_term (term_of g x) ≡ option_map bare_term (term_of g y)
      → (LeadAlike x y → option_map C (leads_on g x).0 ≡ option_map C (leads_on g y).0) → (LeadAlike x y → option_map C (leads_on g x).1 ≡ option_map C (leads_on g y).1) → map C (term_references x) ≡ map C (term_references y)
  terms_refer C x y has there e next target =
      let a = lead_alike x y has there e in
      let first = same_list C a.target (leads_on g x).1 (leads_on g y).1 a.first_target a.second_target (target a) in
      let second = same_list C a.next (leads_on g x).0 (leads_on g y).0 a.first_next a.second_next (next a) in
      as_split C x ∙ ap (λ ks. ks ++ map C (option_to_list (leads_on g x).0)) first ∙ ap (λ ks. map C (option_to_list (leads_on g y).1) ++ ks) second ∙ sym (as_split C y)

  pub refer_terms : {K : Type 0} (C : ℕ → K) (x y : ℕ) → HasBlock g x → HasBlock g y → option_map bare_term (term_of g x) ≡ option_map bare_term (term_of g y)
      → map C (term_references x) ≡ map C (term_references y) → (option_map C (leads_on g x).0 ≡ option_map C (leads_on g y).0) × (option_map C (leads_on g x).1 ≡ option_map C (leads_on g y).1)
  refer_terms C x y has there e f =
      let a = lead_alike x y has there e in
      let long = option_length C a.target (leads_on g x).1 (leads_on g y).1 a.first_target a.second_target in
      let parts = split_same (map C (option_to_list (leads_on g x).1)) (map C (option_to_list (leads_on g y).1)) (map C (option_to_list (leads_on g x).0)) (map C (option_to_list (leads_on g y).0)) long (sym (as_split C x) ∙ f ∙ as_split C y) in (
        list_same C a.next (leads_on g x).0 (leads_on g y).0 a.first_next a.second_next parts.1,
        list_same C a.target (leads_on g x).1 (leads_on g y).1 a.first_target a.second_target parts.0,
      )

-- ---- nodes and blocks

module _ (g : Graph) (rules : IsGraph g) (line : List WindowAt) (whole : line ≡ line_of g) (find : At → Option ℕ) (index : IsIndex line find) (labels : List (Option ℕ)) (labelled : AreNumbersOf (map (λ p. Some (bare_at g p)) line) labels) (nodes : List Node) (are : AreNodes g line labels find nodes) where
  -- the number of a place
  pub number : (block at : ℕ) → HasBlock g block → at ≤ length (items_of g block) → (i : ℕ) × ((find (block, at) ≡ Some i) × (slice_get line i ≡ Some (place block at)))
  number block at has l =
      let h = listed g line block at whole has l in
      go (find (block, at)) refl (index.there (place block at) h.0 (slice_get_within line h.0 (place block at) h.1) h.1)
    where
      go : (o : Option ℕ) → find (block, at) ≡ o → IsSome o → (i : ℕ) × ((find (block, at) ≡ Some i) × (slice_get line i ≡ Some (place block at)))
      go None e s = absurd (cc)
      go (Some i) e s = (i, (e, index.found (place block at) i e))

  bare_member : (i : ℕ) (p : WindowAt) → slice_get line i ≡ Some p → member_at (map (λ p. Some (bare_at g p)) line) i ≡ Some (bare_at g p)
  bare_member i p e = ap option_flatten (slice_get-map (λ p. Some (bare_at g p)) line i ∙ ap (option_map (λ p. Some (bare_at g p))) e)

  bare_same : (i j : ℕ) (p q : WindowAt) → slice_get line i ≡ Some p → slice_get line j ≡ Some q → member_at labels i ≡ member_at labels j → bare_at g p ≡ bare_at g q
  bare_same i j p q e f same = some_same (sym (bare_member i p e) ∙ (labelled.same i j).0 same ∙ bare_member j q f)

  pub same_label : (i j : ℕ) (p q : WindowAt) → slice_get line i ≡ Some p → slice_get line j ≡ Some q → bare_at g p ≡ bare_at g q → member_at labels i ≡ member_at labels j
  same_label i j p q e f same = (labelled.same i j).1 (bare_member i p e ∙ ap Some same ∙ sym (bare_member j q f))

  abbrev pub node : ℕ → WindowAt → Node
  node i p = node_of find (member_at labels i) (leads_at g p)

  pub seen : {K : Type 0} (c : ℕ → K) (i : ℕ) (p : WindowAt) → slice_get line i ≡ Some p → view nodes c i ≡ Some (seen_by c (node i p))
  seen c i p e = ap (option_map (seen_by c)) (are.each i p e)

  module _ {K : Type 0} (c : ℕ → K) (stable : IsStable nodes c) where
    abbrev Seen : Option At → Option K
    Seen o = option_map c (option_and_then find o)

    -- the class of a block, by that of its first place
    abbrev pub class : ℕ → Option K
    class n = option_map c (find (n, 0))

    step : (x y a : ℕ) → HasBlock g x → HasBlock g y → a ≤ length (items_of g x) → a ≤ length (items_of g y) → option_map c (find (x, a)) ≡ option_map c (find (y, a))
        → (bare_at g (place x a) ≡ bare_at g (place y a)) × ((Seen (leads_at g (place x a)).0 ≡ Seen (leads_at g (place y a)).0) × (Seen (leads_at g (place x a)).1 ≡ Seen (leads_at g (place y a)).1))
    step x y a has there l m e =
        let i = number x a has l in
        let j = number y a there m in
        let same : c i.0 ≡ c j.0 = some_same (sym (ap (option_map c) i.1.0) ∙ e ∙ ap (option_map c) j.1.0) in
        let views : seen_by c (node i.0 (place x a)) ≡ seen_by c (node j.0 (place y a)) = some_same (sym (seen c i.0 (place x a) i.1.1) ∙ stable i.0 j.0 same ∙ seen c j.0 (place y a) j.1.1) in
        (bare_same i.0 j.0 (place x a) (place y a) i.1.1 j.1.1 (ap (λ v. v.0) views), (ap (λ v. v.1) views, ap (λ v. v.2) views))

    -- by the classes of the starts of what they name
    names_same : (b : Bool) (o p : Option ℕ) → IsThere b o → IsThere b p → Seen (start_of o) ≡ Seen (start_of p) → option_map class o ≡ option_map class p
    names_same b None None s t e = refl
    names_same true None (Some n) s t e = absurd s
    names_same false None (Some n) s t e = absurd t
    names_same true (Some m) None s t e = absurd t
    names_same false (Some m) None s t e = absurd s
    names_same b (Some m) (Some n) s t e = ap Some e

    -- what is alike from a place of two blocks on
    record AlikeFrom (xs ys : List Item) (x y : ℕ) : Type 0 where
      shapes : map bare_item xs ≡ map bare_item ys
      uses : map class (items_uses xs) ≡ map class (items_uses ys)
      terms : option_map bare_term (term_of g x) ≡ option_map bare_term (term_of g y)
      ends : map class (term_references g rules x) ≡ map class (term_references g rules y)

    at_end : (x a : ℕ) → drop a (items_of g x) ≡ [] → slice_get (items_of g x) a ≡ None
    at_end x a e = slice_get_past (items_of g x) a (drop_end a (items_of g x) e)

    alike_from : (xs ys : List Item) (x y a : ℕ) → HasBlock g x → HasBlock g y → drop a (items_of g x) ≡ xs → drop a (items_of g y) ≡ ys → a ≤ length (items_of g x) → a ≤ length (items_of g y)
        → option_map c (find (x, a)) ≡ option_map c (find (y, a)) → AlikeFrom xs ys x y
    alike_from [] [] x y a has there e f l m same =
        let s = step x y a has there l m same in
        let none = at_end x a e in
        let none' = at_end y a f in
        let terms : option_map bare_term (term_of g x) ≡ option_map bare_term (term_of g y) =
        ap (λ b. b.1) (sym (ap (λ o. bare o (term_of g x)) none) ∙ s.0 ∙ ap (λ o. bare o (term_of g y)) none') in
        let leads : leads_at g (place x a) ≡ starts_of (leads_on g x) = ap (leads_by g (place x a)) none in
        let leads' : leads_at g (place y a) ≡ starts_of (leads_on g y) = ap (leads_by g (place y a)) none' in
        let next : Seen (start_of (leads_on g x).0) ≡ Seen (start_of (leads_on g y).0) = ap (λ p. Seen p.0) (sym leads) ∙ s.1.0 ∙ ap (λ p. Seen p.0) leads' in
        let target : Seen (start_of (leads_on g x).1) ≡ Seen (start_of (leads_on g y).1) = ap (λ p. Seen p.1) (sym leads) ∙ s.1.1 ∙ ap (λ p. Seen p.1) leads' in
        record {
          shapes = refl;
          uses = refl;
          terms = terms;
          ends =
              terms_refer g rules class x y has there terms
              (λ k. names_same k.next (leads_on g x).0 (leads_on g y).0 k.first_next k.second_next next)
              (λ k. names_same k.target (leads_on g x).1 (leads_on g y).1 k.first_target k.second_target target);
        }
    alike_from [] (j ∷ ys) x y a has there e f l m same =
        let s = step x y a has there l m same in
        absurd (let b : None ≡ Some (bare_item j) = ap (λ b. b.0) (sym (ap (λ o. bare o (term_of g x)) (at_end x a e)) ∙ s.0 ∙ ap (λ o. bare o (term_of g y)) (drop_here a (items_of g y) j ys f).0) in cc)
    alike_from (i ∷ xs) [] x y a has there e f l m same =
        let s = step x y a has there l m same in
        absurd (let b : Some (bare_item i) ≡ None = ap (λ b. b.0) (sym (ap (λ o. bare o (term_of g x)) (drop_here a (items_of g x) i xs e).0) ∙ s.0 ∙ ap (λ o. bare o (term_of g y)) (at_end y a f)) in cc)
    alike_from (i ∷ xs) (j ∷ ys) x y a has there e f l m same =
        let s = step x y a has there l m same in
        let here = drop_here a (items_of g x) i xs e in
        let here' = drop_here a (items_of g y) j ys f in
        let bares : bare_item i ≡ bare_item j = some_same (ap (λ b. b.0) (sym (ap (λ o. bare o (term_of g x)) here.0) ∙ s.0 ∙ ap (λ o. bare o (term_of g y)) here'.0)) in
        let leads : leads_at g (place x a) ≡ (Some (x, a + 1), start_of (item_name i)) = ap (leads_by g (place x a)) here.0 in
        let leads' : leads_at g (place y a) ≡ (Some (y, a + 1), start_of (item_name j)) = ap (leads_by g (place y a)) here'.0 in
        let next : option_map c (find (x, a + 1)) ≡ option_map c (find (y, a + 1)) = ap (λ p. Seen p.0) (sym leads) ∙ s.1.0 ∙ ap (λ p. Seen p.0) leads' in
        let target : Seen (start_of (item_name i)) ≡ Seen (start_of (item_name j)) = ap (λ p. Seen p.1) (sym leads) ∙ s.1.1 ∙ ap (λ p. Seen p.1) leads' in
        let t = item_names_there class i j bares in
        let within = slice_get_within (items_of g x) a i here.0 in
        let within' = slice_get_within (items_of g y) a j here'.0 in
        let rest = alike_from xs ys x y (a + 1) has there here.1 here'.1 (omega arith) (omega arith) next in
        record {
          shapes = rw (bares, rest.shapes) refl;
          uses =
              map-append class (item_uses i) (items_uses xs)
              ∙ ap (λ ks. ks ++ map class (items_uses xs)) (items_refer class i j bares (names_same (has_one i) (item_name i) (item_name j) t.0 t.1 target))
              ∙ ap (λ ks. map class (item_uses j) ++ ks) rest.uses
              ∙ sym (map-append class (item_uses j) (items_uses ys));
          terms = rest.terms;
          ends = rest.ends;
        }

    -- so two blocks of one class are alike
    pub alike : (x y : ℕ) → HasBlock g x → HasBlock g y → class x ≡ class y → (shape_of g x ≡ shape_of g y) × (map class (references_of g x) ≡ map class (references_of g y))
    alike x y has there e =
        let a = alike_from (items_of g x) (items_of g y) x y 0 has there refl refl (omega arith) (omega arith) e in (
          rw (a.shapes, a.terms) refl,
          map-append class (items_uses (items_of g x)) (term_references g rules x)
              ∙ ap (λ ks. ks ++ map class (term_references g rules x)) a.uses
              ∙ ap (λ ks. map class (items_uses (items_of g y)) ++ ks) a.ends
              ∙ sym (map-append class (items_uses (items_of g y)) (term_references g rules y)),
        )

-- ---- a stable partition of the blocks is one of the places

pub one_value : (a b : Option ℕ) → value a ≡ value b → a ≡ b
one_value None None e = refl
one_value None (Some n) e = absurd (omega arith)
one_value (Some m) None e = absurd (omega arith)
one_value (Some m) (Some n) e = ap Some (omega arith)

exact_kind : IsExact is_same_kind
exact_kind a b = (λ e. same_kind a b e, λ e. subst (λ k. is_same_kind a k ≡ true) e (kind_laws.refl a))

module _ (g : Graph) (rules : IsGraph g) (line : List WindowAt) (whole : line ≡ line_of g) (find : At → Option ℕ) (index : IsIndex line find) (labels : List (Option ℕ)) (labelled : AreNumbersOf (map (λ p. Some (bare_at g p)) line) labels) (nodes : List Node) (are : AreNodes g line labels find nodes) (other : ℕ → ℕ) (stable : IsStablePartition g other) where
  abbrev pair : WindowAt → ℕ × ℕ
  pair p = (other p.block, p.at)

  abbrev pairs : List (Option (ℕ × ℕ))
  pairs = map (λ p. Some (pair p)) line

  abbrev numbers : List (Option ℕ)
  numbers = numbers_of is_same_kind pairs

  told : AreNumbersOf pairs numbers
  told = numbers_of_keys is_same_kind exact_kind pairs numbers (numbers_are is_same_kind kind_laws pairs)

  -- the class of a place: that of its block, and its number in it
  abbrev pub placed : ℕ → ℕ
  placed i = value (member_at numbers i)

  pair_there : (i : ℕ) (p : WindowAt) → slice_get line i ≡ Some p → member_at pairs i ≡ Some (pair p)
  pair_there i p e = ap option_flatten (slice_get-map (λ p. Some (pair p)) line i ∙ ap (option_map (λ p. Some (pair p))) e)

  no_pair : (i : ℕ) → slice_get line i ≡ None → member_at pairs i ≡ None
  no_pair i e = ap option_flatten (slice_get-map (λ p. Some (pair p)) line i ∙ ap (option_map (λ p. Some (pair p))) e)

  pub same_placed : (i j x y a : ℕ) → slice_get line i ≡ Some (place x a) → slice_get line j ≡ Some (place y a) → other x ≡ other y → placed i ≡ placed j
  same_placed i j x y a e f same = ap value ((told.same i j).1 (pair_there i (place x a) e ∙ ap (λ k. Some (k, a)) same ∙ sym (pair_there j (place y a) f)))

  abbrev Led : Option At → Option ℕ
  Led o = option_map placed (option_and_then find o)

  led_same : (m n : Option ℕ) → IsBlockOf g m → IsBlockOf g n → option_map other m ≡ option_map other n → Led (start_of m) ≡ Led (start_of n)
  led_same None None k l e = refl
  led_same None (Some n) k l e = absurd (cc)
  led_same (Some m) None k l e = absurd (cc)
  led_same (Some m) (Some n) k l e =
      let i = number g rules line whole find index labels labelled nodes are m 0 k (omega arith) in
      let j = number g rules line whole find index labels labelled nodes are n 0 l (omega arith) in
      ap (option_map placed) i.1.0 ∙ ap Some (same_placed i.0 j.0 m n 0 i.1.1 j.1.1 (some_same e)) ∙ sym (ap (option_map placed) j.1.0)

  next_same : (x y a : ℕ) → HasBlock g x → HasBlock g y → a < length (items_of g x) → a < length (items_of g y) → other x ≡ other y → Led (Some (x, a + 1)) ≡ Led (Some (y, a + 1))
  next_same x y a has there l m e =
      let i = number g rules line whole find index labels labelled nodes are x (a + 1) has (omega arith) in
      let j = number g rules line whole find index labels labelled nodes are y (a + 1) there (omega arith) in
      ap (option_map placed) i.1.0 ∙ ap Some (same_placed i.0 j.0 x y (a + 1) i.1.1 j.1.1 e) ∙ sym (ap (option_map placed) j.1.0)

  -- what stands at equal places of two blocks of one class is alike
  record PlacesAlike (x y a : ℕ) : Type 0 where
    bares : bare_at g (place x a) ≡ bare_at g (place y a)
    next : Led (leads_at g (place x a)).0 ≡ Led (leads_at g (place y a)).0
    target : Led (leads_at g (place x a)).1 ≡ Led (leads_at g (place y a)).1

  module _ (x y a : ℕ) (has : HasBlock g x) (there : HasBlock g y) (same : other x ≡ other y) where
    items : map bare_item (items_of g x) ≡ map bare_item (items_of g y)
    items = ap (λ s. s.0) (stable.shapes x y has there same)

    terms : option_map bare_term (term_of g x) ≡ option_map bare_term (term_of g y)
    terms = ap (λ s. s.1) (stable.shapes x y has there same)

    picked : ((k : ℕ) (i j : Item) → slice_get (items_of g x) k ≡ Some i → slice_get (items_of g y) k ≡ Some j → option_map other (item_name i) ≡ option_map other (item_name j)) × (map other (term_references g rules x) ≡ map other (term_references g rules y))
    picked = pick other (items_of g x) (items_of g y) (term_references g rules x) (term_references g rules y) items (stable.references x y has there same)

    bare_here : (o p : Option Item) → slice_get (items_of g x) a ≡ o → slice_get (items_of g y) a ≡ p → option_map bare_item o ≡ option_map bare_item p
    bare_here o p e f =
        sym (ap (option_map bare_item) e) ∙ sym (slice_get-map bare_item (items_of g x) a) ∙ ap (λ is. slice_get is a) items ∙ slice_get-map bare_item (items_of g y) a ∙ ap (option_map bare_item) f

    places_alike : (o p : Option Item) → slice_get (items_of g x) a ≡ o → slice_get (items_of g y) a ≡ p → PlacesAlike x y a
    places_alike None None e f =
        let led : leads_at g (place x a) ≡ starts_of (leads_on g x) = ap (leads_by g (place x a)) e in
        let led' : leads_at g (place y a) ≡ starts_of (leads_on g y) = ap (leads_by g (place y a)) f in
        let names = refer_terms g rules other x y has there terms picked.1 in
        let known = leads_known g rules x has in
        let known' = leads_known g rules y there in
        record {
          bares = ap (λ o. bare o (term_of g x)) e ∙ ap (λ t. (None, t)) terms ∙ sym (ap (λ o. bare o (term_of g y)) f);
          next = ap (λ p. Led p.0) led ∙ led_same (leads_on g x).0 (leads_on g y).0 known.0 known'.0 names.0 ∙ sym (ap (λ p. Led p.0) led');
          target = ap (λ p. Led p.1) led ∙ led_same (leads_on g x).1 (leads_on g y).1 known.1 known'.1 names.1 ∙ sym (ap (λ p. Led p.1) led');
        }
    places_alike None (Some j) e f = absurd (let b = bare_here None (Some j) e f in cc)
    places_alike (Some i) None e f = absurd (let b = bare_here (Some i) None e f in cc)
    places_alike (Some i) (Some j) e f =
        let led : leads_at g (place x a) ≡ (Some (x, a + 1), start_of (item_name i)) = ap (leads_by g (place x a)) e in
        let led' : leads_at g (place y a) ≡ (Some (y, a + 1), start_of (item_name j)) = ap (leads_by g (place y a)) f in
        let known = item_known g rules x i a e in
        let known' = item_known g rules y j a f in
        record {
          bares = ap (λ o. bare o (term_of g x)) e ∙ ap (λ b. (Some b, None)) (some_same (bare_here (Some i) (Some j) e f)) ∙ sym (ap (λ o. bare o (term_of g y)) f);
          next = ap (λ p. Led p.0) led ∙ next_same x y a has there (slice_get_within (items_of g x) a i e) (slice_get_within (items_of g y) a j f) same ∙ sym (ap (λ p. Led p.0) led');
          target = ap (λ p. Led p.1) led ∙ led_same (item_name i) (item_name j) known known' (picked.0 a i j e f) ∙ sym (ap (λ p. Led p.1) led');
        }

  views_same : (i j x y a : ℕ) → slice_get line i ≡ Some (place x a) → slice_get line j ≡ Some (place y a) → other x ≡ other y → view nodes placed i ≡ view nodes placed j
  views_same i j x y a e f same =
      let has = among g line i (place x a) whole e in
      let there = among g line j (place y a) whole f in
      let alike = places_alike x y a has.0 there.0 same (slice_get (items_of g x) a) (slice_get (items_of g y) a) refl refl in
      let label = same_label g rules line whole find index labels labelled nodes are i j (place x a) (place y a) e f alike.bares in
      seen g rules line whole find index labels labelled nodes are placed i (place x a) e
      ∙ ap Some (rw (label, alike.next, alike.target) refl)
      ∙ sym (seen g rules line whole find index labels labelled nodes are placed j (place y a) f)

  no_view : (i : ℕ) → slice_get line i ≡ None → view nodes placed i ≡ None
  no_view i e = ap (option_map (seen_by placed)) (slice_get_past nodes i (let l = past line i e in let m = are.many in omega arith))
    where
      past : {X : Type 0} (xs : List X) (k : ℕ) → slice_get xs k ≡ None → length xs ≤ k
      past [] k e = omega arith
      past (x ∷ xs) zero e = absurd (cc)
      past (x ∷ xs) (suc k) e = let l = past xs k e in omega arith

  pub stable_places : IsStable nodes placed
  stable_places i j e = go (slice_get line i) (slice_get line j) refl refl
    where
      keys : member_at pairs i ≡ member_at pairs j
      keys = (told.same i j).0 (one_value (member_at numbers i) (member_at numbers j) e)

      go : (o p : Option WindowAt) → slice_get line i ≡ o → slice_get line j ≡ p → view nodes placed i ≡ view nodes placed j
      go None None f h = no_view i f ∙ sym (no_view j h)
      go None (Some q) f h = absurd (let k = sym (no_pair i f) ∙ keys ∙ pair_there j q h in cc)
      go (Some p) None f h = absurd (let k = sym (pair_there i p f) ∙ keys ∙ no_pair j h in cc)
      go (Some p) (Some q) f h =
          let same : pair p ≡ pair q = some_same (sym (pair_there i p f) ∙ keys ∙ pair_there j q h) in
          let at : p.at ≡ q.at = ap (λ k. k.1) same in
          views_same i j p.block q.block p.at f (h ∙ ap (λ k. Some (place q.block k)) (sym at)) (ap (λ k. k.0) same)

-- ---- the coarsest partition

module _ (g : Graph) (rules : IsGraph g) (line : List WindowAt) (whole : line ≡ line_of g) (find : At → Option ℕ) (index : IsIndex line find) (labels : List (Option ℕ)) (labelled : AreNumbersOf (map (λ p. Some (bare_at g p)) line) labels) (nodes : List Node) (are : AreNodes g line labels find nodes) (classes : List (Option ℕ)) (coarsest : IsCoarsest nodes (member_at classes)) (some : (i : ℕ) → i < length nodes → IsSome (member_at classes i)) where
  abbrev first : (block : ℕ) → HasBlock g block → (i : ℕ) × ((find (block, 0) ≡ Some i) × (slice_get line i ≡ Some (place block 0)))
  first block has = number g rules line whole find index labels labelled nodes are block 0 has (omega arith)

  abbrev Class : ℕ → Option (Option ℕ)
  Class n = option_map (member_at classes) (find (n, 0))

  flat : (n : ℕ) → class_by find classes n ≡ option_flatten (Class n)
  flat n = go (find (n, 0))
    where
      go : (o : Option ℕ) → option_and_then (member_at classes) o ≡ option_flatten (option_map (member_at classes) o)
      go None = refl
      go (Some i) = refl

  flat_list : (ns : List ℕ) → map (class_by find classes) ns ≡ map option_flatten (map Class ns)
  flat_list [] = refl
  flat_list (n ∷ ns) = rw (flat n, flat_list ns) refl

  class_at : (n i : ℕ) → find (n, 0) ≡ Some i → class_by find classes n ≡ member_at classes i
  class_at n i e = ap (option_and_then (member_at classes)) e

  whole_class : (x y : ℕ) → HasBlock g x → HasBlock g y → class_by find classes x ≡ class_by find classes y → Class x ≡ Class y
  whole_class x y has there e =
      let i = first x has in
      let j = first y there in
      ap (option_map (member_at classes)) i.1.0 ∙ ap Some (sym (class_at x i.0 i.1.0) ∙ e ∙ class_at y j.0 j.1.0) ∙ sym (ap (option_map (member_at classes)) j.1.0)

  pub coarsest_blocks : IsCoarsestPartition g (class_by find classes)
  coarsest_blocks = record {
    stable = record {
      shapes = λ x y has there e. (alike g rules line whole find index labels labelled nodes are (member_at classes) coarsest.stable x y has there (whole_class x y has there e)).0;
      references = λ x y has there e.
          flat_list (references_of g x)
          ∙ ap (map option_flatten) (alike g rules line whole find index labels labelled nodes are (member_at classes) coarsest.stable x y has there (whole_class x y has there e)).1
          ∙ sym (flat_list (references_of g y));
    };
    coarsest = λ other stable x y has there e.
        let i = first x has in
        let j = first y there in
        let one = same_placed g rules line whole find index labels labelled nodes are other stable i.0 j.0 x y 0 i.1.1 j.1.1 e in
        class_at x i.0 i.1.0
        ∙ coarsest.coarsest (placed g rules line whole find index labels labelled nodes are other stable) (stable_places g rules line whole find index labels labelled nodes are other stable) i.0 j.0 one
        ∙ sym (class_at y j.0 j.1.0);
  }

  pub class_there : (block : ℕ) → IsSome (class_by find classes block) ↔ HasBlock g block
  class_there block = (
    λ there. go (find (block, 0)) refl there,
    λ has.
        let i = first block has in
        let l = slice_get_within line i.0 (place block 0) i.1.1 in
        subst IsSome (sym (class_at block i.0 i.1.0)) (some i.0 (let m = are.many in omega arith)),
  )
    where
      go : (o : Option ℕ) → find (block, 0) ≡ o → IsSome (option_and_then (member_at classes) o) → HasBlock g block
      go None e s = absurd (cc)
      go (Some i) e s = (among g line i (place block 0) whole (index.found (place block 0) i e)).0
