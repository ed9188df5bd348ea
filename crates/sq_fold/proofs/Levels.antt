-- Two blocks that are parted after a round were parted there by their shapes, or one round earlier by a reference.
use Rattle.std.proofs.Common.{◌≡◌, ◌≢◌, ℕ, zero, suc, ◌+◌, ◌<◌, ◌≤◌, inl, inr, List, [], ◌∷◌, ◌++◌, map, length, length-append, append-nil, append_assoc, ◌-◌, Bool, true, false, drop, Option, None, Some, IsSome, slice_get, refl, sym, ap, ◌∙◌, subst, arith}
use Rattle.std.specs.Option.{option_map, option_and_then}
use Rattle.std.proofs.lemmas.Bool.{cases_lt}
use Rattle.std.proofs.lemmas.List.{length-map, map-append}
use Rattle.std.proofs.lemmas.Option.{slice_get_past, slice_get_within}
use Rattle.sq_graph.specs.declared.item.Item.{Item}
use Rattle.sq_graph.specs.Blocks.{HasBlock, items_of, term_of}
use Rattle.sq_graph.specs.Graph.{Graph}
use Rattle.sq_graph.specs.Rules.{IsGraph}
use Rattle.sq_graph.specs.Uses.{item_uses, items_uses}
use Rattle.sq_finger.specs.Lines.{line_of}
use Rattle.sq_finger.specs.Numbers.{member_at}
use Rattle.sq_finger.proofs.Telling.{get_front}
use Rattle.sq_fold.specs.declared.rounds.Node.{Node}
use Rattle.sq_fold.specs.Labels.{bare, bare_at}
use Rattle.sq_fold.specs.Nodes.{item_name, At, start_of, starts_of, leads_on, leads_by, leads_at, class_by}
use Rattle.sq_fold.specs.Partition.{bare_item, bare_term, references_of, shape_of, IsCoarsestPartition}
use Rattle.sq_fold.specs.Stable.{view, after, rounds_to}
use Rattle.sq_fold.specs.Walks.{ReferAlike, IsSurveyed, ArePartedAt, Parts, TellsApart, differs, goes, AreOfOneClass}
use Rattle.sq_fold.proofs.Blocks.{drop_here, drop_end, term_references, number, same_label, seen, pick, refer_terms, terms_refer, items_refer, item_names_there, one_value, coarsest_blocks}
use Rattle.sq_fold.proofs.Growing.{value}
use Rattle.sq_fold.proofs.Places.{place}
use Rattle.sq_fold.proofs.Referred.{has_one, IsThere, references_known}
use Rattle.sq_fold.proofs.Refining.{Rounds, rounds_first, rounds_next, rounds_end, finer_some, same_view}

some_same : {X : Type 0} {x y : X} → Some x ≡ Some y → x ≡ y
some_same e = cc

-- ---- the rounds

rounds_at : (nodes : List Node) (k : ℕ) → Rounds nodes (after nodes k) (after nodes (suc k))
rounds_at nodes zero = rounds_first nodes (after nodes 1) refl
rounds_at nodes (suc k) = rounds_next nodes (after nodes k) (after nodes (suc k)) (after nodes (suc (suc k))) (rounds_at nodes k) refl

pub length-rounds : (nodes : List Node) (n : ℕ) → length (rounds_to nodes n) ≡ n
length-rounds nodes zero = refl
length-rounds nodes (suc n) = let h = length-rounds nodes n in let l = length-append (rounds_to nodes n) (after nodes n ∷ []) in omega arith

last_of : {X : Type 0} (xs : List X) (x : X) → slice_get (xs ++ x ∷ []) (length xs) ≡ Some x
last_of [] x = refl
last_of (y ∷ xs) x = last_of xs x

pub round_at : (nodes : List Node) (n k : ℕ) → k < n → slice_get (rounds_to nodes n) k ≡ Some (after nodes k)
round_at nodes zero k l = absurd (omega arith)
round_at nodes (suc n) k l =
    let long = length-rounds nodes n in
    elim (cases_lt k n) [
      | inl less ↦ get_front (rounds_to nodes n) (after nodes n ∷ []) k (omega arith) ∙ round_at nodes n k less
      | inr past ↦
          let same : k ≡ n = omega arith in
          ap (slice_get (rounds_to nodes n ++ after nodes n ∷ [])) (let e : k ≡ length (rounds_to nodes n) = omega arith in e) ∙ last_of (rounds_to nodes n) (after nodes n) ∙ ap (λ m. Some (after nodes m)) (sym same)
    ]

map_coarser : {X K L : Type 0} (F : X → K) (G : X → L) → ((x y : X) → F x ≡ F y → G x ≡ G y) → (xs ys : List X) → map F xs ≡ map F ys → map G xs ≡ map G ys
map_coarser F G coarser [] [] e = refl
map_coarser F G coarser [] (y ∷ ys) e = absurd (cc)
map_coarser F G coarser (x ∷ xs) [] e = absurd (cc)
map_coarser F G coarser (x ∷ xs) (y ∷ ys) e =
    let first : F x ≡ F y = cc in
    let rest : map F xs ≡ map F ys = cc in
    let one = coarser x y first in
    let later = map_coarser F G coarser xs ys rest in
    rw (one, later) refl

option_coarser : {X K L : Type 0} (F : X → K) (G : X → L) → ((x y : X) → F x ≡ F y → G x ≡ G y) → (x y : Option X) → option_map F x ≡ option_map F y → option_map G x ≡ option_map G y
option_coarser F G coarser None None e = refl
option_coarser F G coarser None (Some y) e = absurd (cc)
option_coarser F G coarser (Some x) None e = absurd (cc)
option_coarser F G coarser (Some x) (Some y) e = ap Some (coarser x y (some_same e))

module _ (g : Graph) (rules : IsGraph g) (find : At → Option ℕ) (rounds : List (List (Option ℕ))) (s : IsSurveyed g find rounds) where
  -- the class of a place after a round
  abbrev Placed : ℕ → At → Option (Option ℕ)
  Placed k q = option_map (member_at (after s.nodes k)) (find q)

  abbrev Class : ℕ → ℕ → Option (Option ℕ)
  Class k n = Placed k (n, 0)

  coarser : (k : ℕ) (i j : ℕ) → member_at (after s.nodes (suc k)) i ≡ member_at (after s.nodes (suc k)) j → member_at (after s.nodes k) i ≡ member_at (after s.nodes k) j
  coarser k i j e = let r = rounds_at s.nodes k in r.coarser i j e

  class_coarser : (k : ℕ) (m n : ℕ) → Class (suc k) m ≡ Class (suc k) n → Class k m ≡ Class k n
  class_coarser k m n e = option_coarser (member_at (after s.nodes (suc k))) (member_at (after s.nodes k)) (coarser k) (find (m, 0)) (find (n, 0)) e

  abbrev Seen : ℕ → Option At → Option (Option ℕ)
  Seen k o = option_map (member_at (after s.nodes k)) (option_and_then find o)

  led : (k : ℕ) (m n : Option ℕ) → option_map (Class k) m ≡ option_map (Class k) n → Seen k (start_of m) ≡ Seen k (start_of n)
  led k None None e = refl
  led k None (Some n) e = absurd (cc)
  led k (Some m) None e = absurd (cc)
  led k (Some m) (Some n) e = some_same e

  -- one round more from places that look alike
  one_more : (k x y a : ℕ) → HasBlock g x → HasBlock g y → a ≤ length (items_of g x) → a ≤ length (items_of g y) → bare_at g (place x a) ≡ bare_at g (place y a)
      → Seen k (leads_at g (place x a)).0 ≡ Seen k (leads_at g (place y a)).0 → Seen k (leads_at g (place x a)).1 ≡ Seen k (leads_at g (place y a)).1 → Placed (suc k) (x, a) ≡ Placed (suc k) (y, a)
  one_more k x y a has there l m bares next target =
      let i = number g rules (line_of g) refl find s.index s.labels s.labelled s.nodes s.are x a has l in
      let j = number g rules (line_of g) refl find s.index s.labels s.labelled s.nodes s.are y a there m in
      let label = same_label g rules (line_of g) refl find s.index s.labels s.labelled s.nodes s.are i.0 j.0 (place x a) (place y a) i.1.1 j.1.1 bares in
      let first = seen g rules (line_of g) refl find s.index s.labels s.labelled s.nodes s.are (member_at (after s.nodes k)) i.0 (place x a) i.1.1 in
      let second = seen g rules (line_of g) refl find s.index s.labels s.labelled s.nodes s.are (member_at (after s.nodes k)) j.0 (place y a) j.1.1 in
      let views : view s.nodes (member_at (after s.nodes k)) i.0 ≡ view s.nodes (member_at (after s.nodes k)) j.0 = first ∙ ap Some (rw (label, next, target) refl) ∙ sym second in
      let same = (same_view s.nodes (after s.nodes k) (after s.nodes (suc k)) refl i.0 j.0).1 views in
      ap (option_map (member_at (after s.nodes (suc k)))) i.1.0 ∙ ap Some same ∙ sym (ap (option_map (member_at (after s.nodes (suc k)))) j.1.0)

  -- at first there are no classes
  none_first : (x y a : ℕ) → HasBlock g x → HasBlock g y → a ≤ length (items_of g x) → a ≤ length (items_of g y) → Placed 0 (x, a) ≡ Placed 0 (y, a)
  none_first x y a has there l m =
      let i = number g rules (line_of g) refl find s.index s.labels s.labelled s.nodes s.are x a has l in
      let j = number g rules (line_of g) refl find s.index s.labels s.labelled s.nodes s.are y a there m in
      ap (option_map (member_at [])) i.1.0 ∙ sym (ap (option_map (member_at [])) j.1.0)

  tail_refers : {K : Type 0} (C : ℕ → K) (x y : ℕ) (i j : Item) (xs ys : List Item) → bare_item i ≡ bare_item j → map C (items_uses (i ∷ xs) ++ term_references g rules x) ≡ map C (items_uses (j ∷ ys) ++ term_references g rules y) → map C (items_uses xs ++ term_references g rules x) ≡ map C (items_uses ys ++ term_references g rules y)
  tail_refers C x y i j xs ys same e =
      (pick C (i ∷ []) (j ∷ []) (items_uses xs ++ term_references g rules x) (items_uses ys ++ term_references g rules y) (ap (λ b. b ∷ []) same)
      (sym (ap (map C) (one_ahead i (items_uses xs) (term_references g rules x))) ∙ e ∙ ap (map C) (one_ahead j (items_uses ys) (term_references g rules y)))).1
    where
      one_ahead : (item : Item) (us vs : List ℕ) → (item_uses item ++ us) ++ vs ≡ (item_uses item ++ []) ++ (us ++ vs)
      one_ahead item us vs = append_assoc (item_uses item) us vs ∙ ap (λ ns. ns ++ (us ++ vs)) (sym (append-nil (item_uses item)))

  -- from an item, where what is behind it is of one class
  item_more : (i j : Item) (xs ys : List Item) (k x y a : ℕ) → HasBlock g x → HasBlock g y → slice_get (items_of g x) a ≡ Some i → slice_get (items_of g y) a ≡ Some j → a ≤ length (items_of g x) → a ≤ length (items_of g y)
      → map bare_item (i ∷ xs) ≡ map bare_item (j ∷ ys) → map (Class k) (items_uses (i ∷ xs) ++ term_references g rules x) ≡ map (Class k) (items_uses (j ∷ ys) ++ term_references g rules y) → Placed k (x, a + 1) ≡ Placed k (y, a + 1)
      → Placed (suc k) (x, a) ≡ Placed (suc k) (y, a)
  item_more i j xs ys k x y a has there here here' l m bares refers behind =
      let first : bare_item i ≡ bare_item j = some_same (ap (λ (is : List Item). slice_get is 0) bares) in
      let led_x : leads_at g (place x a) ≡ (Some (x, a + 1), start_of (item_name i)) = ap (leads_by g (place x a)) here in
      let led_y : leads_at g (place y a) ≡ (Some (y, a + 1), start_of (item_name j)) = ap (leads_by g (place y a)) here' in
      let name : option_map (Class k) (item_name i) ≡ option_map (Class k) (item_name j) =
      (pick (Class k) (i ∷ xs) (j ∷ ys) (term_references g rules x) (term_references g rules y) bares refers).0 0 i j refl refl in
      one_more k x y a has there l m
      (ap (λ o. bare o (term_of g x)) here ∙ ap (λ b. (Some b, None)) first ∙ sym (ap (λ o. bare o (term_of g y)) here'))
      (ap (λ p. Seen k p.0) led_x ∙ behind ∙ sym (ap (λ p. Seen k p.0) led_y))
      (ap (λ p. Seen k p.1) led_x ∙ led k (item_name i) (item_name j) name ∙ sym (ap (λ p. Seen k p.1) led_y))

  alike_on : (xs ys : List Item) (k x y a : ℕ) → HasBlock g x → HasBlock g y → drop a (items_of g x) ≡ xs → drop a (items_of g y) ≡ ys → a ≤ length (items_of g x) → a ≤ length (items_of g y) → map bare_item xs ≡ map bare_item ys
      → option_map bare_term (term_of g x) ≡ option_map bare_term (term_of g y) → map (Class k) (items_uses xs ++ term_references g rules x) ≡ map (Class k) (items_uses ys ++ term_references g rules y) → Placed (suc k) (x, a) ≡ Placed (suc k) (y, a)
  alike_on [] [] k x y a has there e f l m bares terms refers =
      let none = slice_get_past (items_of g x) a (drop_end a (items_of g x) e) in
      let none' = slice_get_past (items_of g y) a (drop_end a (items_of g y) f) in
      let led_x : leads_at g (place x a) ≡ starts_of (leads_on g x) = ap (leads_by g (place x a)) none in
      let led_y : leads_at g (place y a) ≡ starts_of (leads_on g y) = ap (leads_by g (place y a)) none' in
      let names = refer_terms g rules (Class k) x y has there terms refers in
      one_more k x y a has there l m
      (ap (λ o. bare o (term_of g x)) none ∙ ap (λ t. (None, t)) terms ∙ sym (ap (λ o. bare o (term_of g y)) none'))
      (ap (λ p. Seen k p.0) led_x ∙ led k (leads_on g x).0 (leads_on g y).0 names.0 ∙ sym (ap (λ p. Seen k p.0) led_y))
      (ap (λ p. Seen k p.1) led_x ∙ led k (leads_on g x).1 (leads_on g y).1 names.1 ∙ sym (ap (λ p. Seen k p.1) led_y))
  alike_on [] (j ∷ ys) k x y a has there e f l m bares terms refers = absurd (cc)
  alike_on (i ∷ xs) [] k x y a has there e f l m bares terms refers = absurd (cc)
  alike_on (i ∷ xs) (j ∷ ys) zero x y a has there e f l m bares terms refers =
      let here = drop_here a (items_of g x) i xs e in
      let here' = drop_here a (items_of g y) j ys f in
      let within = slice_get_within (items_of g x) a i here.0 in
      let within' = slice_get_within (items_of g y) a j here'.0 in
      item_more i j xs ys 0 x y a has there here.0 here'.0 l m bares refers (none_first x y (a + 1) has there (omega arith) (omega arith))
  alike_on (i ∷ xs) (j ∷ ys) (suc k) x y a has there e f l m bares terms refers =
      let here = drop_here a (items_of g x) i xs e in
      let here' = drop_here a (items_of g y) j ys f in
      let within = slice_get_within (items_of g x) a i here.0 in
      let within' = slice_get_within (items_of g y) a j here'.0 in
      let first : bare_item i ≡ bare_item j = some_same (ap (λ (is : List Item). slice_get is 0) bares) in
      let less = map_coarser (Class (suc k)) (Class k) (class_coarser k) (items_uses (i ∷ xs) ++ term_references g rules x) (items_uses (j ∷ ys) ++ term_references g rules y) refers in
      item_more i j xs ys (suc k) x y a has there here.0 here'.0 l m bares refers
      (alike_on xs ys k x y (a + 1) has there here.1 here'.1 (omega arith) (omega arith) (ap (drop 1) bares) terms (tail_refers (Class k) x y i j xs ys first less))

  -- ---- from references to lists of them

  known_class : (k m n : ℕ) → HasBlock g m → HasBlock g n → class_by find (after s.nodes k) m ≡ class_by find (after s.nodes k) n → Class k m ≡ Class k n
  known_class k m n has there e =
      let i = number g rules (line_of g) refl find s.index s.labels s.labelled s.nodes s.are m 0 has (omega arith) in
      let j = number g rules (line_of g) refl find s.index s.labels s.labelled s.nodes s.are n 0 there (omega arith) in
      let same : member_at (after s.nodes k) i.0 ≡ member_at (after s.nodes k) j.0 =
      sym (ap (option_and_then (member_at (after s.nodes k))) i.1.0) ∙ e ∙ ap (option_and_then (member_at (after s.nodes k))) j.1.0 in
      ap (option_map (member_at (after s.nodes k))) i.1.0 ∙ ap Some same ∙ sym (ap (option_map (member_at (after s.nodes k))) j.1.0)

  class_known : (k m n : ℕ) → HasBlock g m → HasBlock g n → Class k m ≡ Class k n → class_by find (after s.nodes k) m ≡ class_by find (after s.nodes k) n
  class_known k m n has there e =
      let i = number g rules (line_of g) refl find s.index s.labels s.labelled s.nodes s.are m 0 has (omega arith) in
      let j = number g rules (line_of g) refl find s.index s.labels s.labelled s.nodes s.are n 0 there (omega arith) in
      let same : member_at (after s.nodes k) i.0 ≡ member_at (after s.nodes k) j.0 =
      some_same (sym (ap (option_map (member_at (after s.nodes k))) i.1.0) ∙ e ∙ ap (option_map (member_at (after s.nodes k))) j.1.0) in
      ap (option_and_then (member_at (after s.nodes k))) i.1.0 ∙ same ∙ sym (ap (option_and_then (member_at (after s.nodes k))) j.1.0)

  abbrev Zero : ℕ → ℕ
  Zero n = 0

  zeros : (b : Bool) (o p : Option ℕ) → IsThere b o → IsThere b p → option_map Zero o ≡ option_map Zero p
  zeros b None None s t = refl
  zeros true None (Some n) s t = absurd s
  zeros false None (Some n) s t = absurd t
  zeros true (Some m) None s t = absurd t
  zeros false (Some m) None s t = absurd s
  zeros b (Some m) (Some n) s t = refl

  zero_uses : (xs ys : List Item) → map bare_item xs ≡ map bare_item ys → map Zero (items_uses xs) ≡ map Zero (items_uses ys)
  zero_uses [] [] e = refl
  zero_uses [] (y ∷ ys) e = absurd (cc)
  zero_uses (x ∷ xs) [] e = absurd (cc)
  zero_uses (x ∷ xs) (y ∷ ys) e =
      let first : bare_item x ≡ bare_item y = some_same (ap (λ (is : List Item). slice_get is 0) e) in
      let t = item_names_there Zero x y first in
      map-append Zero (item_uses x) (items_uses xs)
      ∙ ap (λ ks. ks ++ map Zero (items_uses xs)) (items_refer Zero x y first (zeros (has_one x) (item_name x) (item_name y) t.0 t.1))
      ∙ ap (λ ks. map Zero (item_uses y) ++ ks) (zero_uses xs ys (ap (drop 1) e))
      ∙ sym (map-append Zero (item_uses y) (items_uses ys))

  as_many : (x y : ℕ) → HasBlock g x → HasBlock g y → shape_of g x ≡ shape_of g y → length (references_of g x) ≡ length (references_of g y)
  as_many x y has there e =
      let terms = ap (λ t. t.1) e in
      let ends = terms_refer g rules Zero x y has there terms (λ a. zeros a.next (leads_on g x).0 (leads_on g y).0 a.first_next a.second_next) (λ a. zeros a.target (leads_on g x).1 (leads_on g y).1 a.first_target a.second_target) in
      let all : map Zero (references_of g x) ≡ map Zero (references_of g y) =
      map-append Zero (items_uses (items_of g x)) (term_references g rules x)
      ∙ ap (λ ks. ks ++ map Zero (term_references g rules x)) (zero_uses (items_of g x) (items_of g y) (ap (λ t. t.0) e))
      ∙ ap (λ ks. map Zero (items_uses (items_of g y)) ++ ks) ends
      ∙ sym (map-append Zero (items_uses (items_of g y)) (term_references g rules y)) in
      sym (length-map (references_of g x) Zero) ∙ ap length all ∙ length-map (references_of g y) Zero

  by_number : {K : Type 0} (C : ℕ → K) (us vs : List ℕ) → length us ≡ length vs → ((i m n : ℕ) → slice_get us i ≡ Some m → slice_get vs i ≡ Some n → C m ≡ C n) → map C us ≡ map C vs
  by_number C [] [] l same = refl
  by_number C [] (v ∷ vs) l same = absurd (omega arith)
  by_number C (u ∷ us) [] l same = absurd (omega arith)
  by_number C (u ∷ us) (v ∷ vs) l same =
      let one = same 0 u v refl refl in
      let rest = by_number C us vs (omega arith) (λ i m n e f. same (suc i) m n e f) in
      rw (one, rest) refl

  -- blocks of one shape whose references are of one class each after a round are of one class after the next
  pub one_round : (k x y : ℕ) → HasBlock g x → HasBlock g y → shape_of g x ≡ shape_of g y → ReferAlike g (class_by find (after s.nodes k)) x y → class_by find (after s.nodes (suc k)) x ≡ class_by find (after s.nodes (suc k)) y
  one_round k x y has there e alike =
      let refers = by_number (Class k) (references_of g x) (references_of g y) (as_many x y has there e)
      (λ i m n f h. known_class k m n (references_known g rules x has i m f) (references_known g rules y there i n h) (alike i m n (record { first = f; second = h }))) in
      class_known (suc k) x y has there
      (alike_on (items_of g x) (items_of g y) k x y 0 has there refl refl (omega arith) (omega arith) (ap (λ t. t.0) e) (ap (λ t. t.1) e) refers)

  -- ---- a walk so far

  pub record Walking (x y m n level : ℕ) (walk : List ℕ) : Type 0 where
    pub first : HasBlock g m
    pub second : HasBlock g n
    pub below : level < length rounds
    pub apart : class_by find (after s.nodes level) m ≢ class_by find (after s.nodes level) n
    pub walked : (rest : List ℕ) → TellsApart g m n rest → TellsApart g x y (walk ++ rest)

  pub this_round : (k : ℕ) → k < length rounds → slice_get rounds k ≡ Some (after s.nodes k)
  this_round k l = ap (λ rs. slice_get rs k) s.all.are ∙ round_at s.nodes (suc s.all.last) k (let m = ap length s.all.are in let n = length-rounds s.nodes (suc s.all.last) in omega arith)

  pub walking_first : (x y : ℕ) → HasBlock g x → HasBlock g y → 1 ≤ length rounds → ArePartedAt find rounds (length rounds - 1) x y → Walking x y x y (length rounds - 1) []
  walking_first x y has there l apart = record {
    first = has;
    second = there;
    below = omega arith;
    apart = apart (after s.nodes (length rounds - 1)) (this_round (length rounds - 1) (omega arith));
    walked = λ rest t. t;
  }

  pub walking_end : (x y m n level : ℕ) (walk : List ℕ) → Walking x y m n level walk → shape_of g m ≢ shape_of g n → TellsApart g x y walk
  walking_end x y m n level walk w e = subst (λ ns. TellsApart g x y ns) (append-nil walk) (w.walked [] (differs e))

  pub walking_next : (x y m n k number a b : ℕ) (walk : List ℕ) (classes : List (Option ℕ)) → Walking x y m n (suc k) walk → slice_get rounds k ≡ Some classes → Parts g (class_by find classes) m n number a b → Walking x y a b k (walk ++ number ∷ [])
  walking_next x y m n k number a b walk classes w e parts =
      let same : classes ≡ after s.nodes k = some_same (sym e ∙ this_round k (let l = w.below in omega arith)) in
      record {
        first = references_known g rules m w.first number a parts.refers.first;
        second = references_known g rules n w.second number b parts.refers.second;
        below = let l = w.below in omega arith;
        apart = subst (λ cs. class_by find cs a ≢ class_by find cs b) same parts.apart;
        walked = λ rest t. subst (λ ns. TellsApart g x y ns) (sym (append_assoc walk (number ∷ []) rest)) (w.walked (number ∷ rest) (goes number parts.refers t));
      }

  pub walking_stuck : (x y m n k : ℕ) (walk : List ℕ) (classes : List (Option ℕ)) → Walking x y m n (suc k) walk → slice_get rounds k ≡ Some classes → shape_of g m ≡ shape_of g n → ReferAlike g (class_by find classes) m n → ⊥
  walking_stuck x y m n k walk classes w e same alike =
      let is : classes ≡ after s.nodes k = some_same (sym e ∙ this_round k (let l = w.below in omega arith)) in
      w.apart (one_round k m n w.first w.second same (subst (λ cs. ReferAlike g (class_by find cs) m n) is alike))

  pub walking_zero : (x y m n : ℕ) (walk : List ℕ) → Walking x y m n 0 walk → ⊥
  walking_zero x y m n walk w = w.apart (class_known 0 m n w.first w.second (none_first m n 0 w.first w.second (omega arith) (omega arith)))

-- ---- the last round

same_values : (A : ℕ → Option ℕ) (ns : List ℕ) → map (λ n. value (A n)) ns ≡ map value (map A ns)
same_values A [] = refl
same_values A (n ∷ ns) = ap (λ ks. value (A n) ∷ ks) (same_values A ns)

values_same : (os ps : List (Option ℕ)) → map value os ≡ map value ps → os ≡ ps
values_same [] [] e = refl
values_same [] (p ∷ ps) e = absurd (cc)
values_same (o ∷ os) [] e = absurd (cc)
values_same (o ∷ os) (p ∷ ps) e =
    let first : value o ≡ value p = cc in
    let rest : map value os ≡ map value ps = cc in
    let one = one_value o p first in
    let later = values_same os ps rest in
    rw (one, later) refl

-- two coarsest partitions have the same classes
pub one_partition : (g : Graph) (A B : ℕ → Option ℕ) → IsCoarsestPartition g A → IsCoarsestPartition g B → (x y : ℕ) → HasBlock g x → HasBlock g y → A x ≡ A y → B x ≡ B y
one_partition g A B a b x y has there e =
    b.coarsest (λ n. value (A n))
    (record {
      shapes = λ m n h k same. a.stable.shapes m n h k (one_value (A m) (A n) same);
      references = λ m n h k same.
          same_values A (references_of g m) ∙ ap (map value) (a.stable.references m n h k (one_value (A m) (A n) same)) ∙ sym (same_values A (references_of g n));
    }) x y has there (ap value e)

module _ (g : Graph) (rules : IsGraph g) (find : At → Option ℕ) (rounds : List (List (Option ℕ))) (s : IsSurveyed g find rounds) where
  last_coarsest : IsCoarsestPartition g (class_by find (after s.nodes s.all.last))
  last_coarsest =
      let k = s.all.last in
      let coarsest = rounds_end s.nodes (after s.nodes k) (after s.nodes (suc k)) (rounds_at s.nodes k) s.all.ends in
      coarsest_blocks g rules (line_of g) refl find s.index s.labels s.labelled s.nodes s.are (after s.nodes k) coarsest
      (λ i l. subst (λ cs. IsSome (member_at cs i)) s.all.ends (finer_some s.nodes (after s.nodes k) (after s.nodes (suc k)) refl i l))

  last_is : (classes : List (Option ℕ)) → slice_get rounds (length rounds - 1) ≡ Some classes → classes ≡ after s.nodes s.all.last
  last_is classes e =
      let long = ap length s.all.are ∙ length-rounds s.nodes (suc s.all.last) in
      let at : length rounds - 1 ≡ s.all.last = omega arith in
      some_same (sym e ∙ ap (slice_get rounds) at ∙ ap (λ rs. slice_get rs s.all.last) s.all.are ∙ round_at s.nodes (suc s.all.last) s.all.last (omega arith))

  pub one_class : (classes : List (Option ℕ)) (x y : ℕ) → slice_get rounds (length rounds - 1) ≡ Some classes → HasBlock g x → HasBlock g y → class_by find classes x ≡ class_by find classes y → AreOfOneClass g x y
  one_class classes x y e has there same class coarsest =
      one_partition g (class_by find (after s.nodes s.all.last)) class last_coarsest coarsest x y has there
      (subst (λ cs. class_by find cs x ≡ class_by find cs y) (last_is classes e) same)

  pub other_class : (classes : List (Option ℕ)) (x y : ℕ) → slice_get rounds (length rounds - 1) ≡ Some classes → class_by find classes x ≢ class_by find classes y → ¬ AreOfOneClass g x y
  other_class classes x y e apart one =
      apart (subst (λ cs. class_by find cs x ≡ class_by find cs y) (sym (last_is classes e)) (one (class_by find (after s.nodes s.all.last)) last_coarsest))

pub some_rounds : (g : Graph) (find : At → Option ℕ) (rounds : List (List (Option ℕ))) → IsSurveyed g find rounds → 1 ≤ length rounds
some_rounds g find rounds s = let long = ap length s.all.are ∙ length-rounds s.nodes (suc s.all.last) in omega arith
