-- The places of one number are those where one window stands.
use Rattle.std.proofs.Common.{◌≡◌, ℕ, zero, suc, ◌==◌, Bool, true, false, if◌then◌else◌, ◌+◌, ◌≤◌, ◌<◌, List, [], ◌∷◌, ◌++◌, map, take, drop, length, get_or, Option, None, Some, slice_get, inl, inr, refl, sym, ap, ◌∙◌, subst, arith, eq-eqb, true≢false, add-one}
use Rattle.std.specs.List.{All, list_all}
use Rattle.std.specs.Prelude.{Contains}
use Rattle.std.proofs.lemmas.Bool.{cases_Bool, eqb-true, ne_eqb}
use Rattle.std.proofs.lemmas.List.{length-take, length-drop}
use Rattle.std.proofs.lemmas.List.Elements.{All-nil, All-head, All-tail, All-append}
use Rattle.std.proofs.lemmas.List.FromFn.{get_or-map-range_with_len, length-map-range_with_len}
use Rattle.std.proofs.lemmas.Option.{slice_get-get_or, slice_get_within, get_or_from_slice_get}
use Rattle.sq_graph.specs.declared.item.Item.{Item}
use Rattle.sq_graph.specs.declared.item.Item.TheVariants.{Op, Hi, Lo, Out}
use Rattle.sq_graph.specs.Graph.{Graph}
use Rattle.sq_graph.specs.Blocks.{HasBlock, items_of}
use Rattle.sq_graph.specs.Parts.{names_of}
use Rattle.sq_graph.specs.Rules.{IsGraph}
use Rattle.sq_graph.specs.Uses.{item_calls}
use Rattle.sq_finger.specs.declared.places.WindowAt.{WindowAt}
use Rattle.sq_finger.specs.Groups.{group_count, is_number, members_of, groups_of}
use Rattle.sq_finger.specs.Lines.{block_line, line_in, line_of, AreWindowNumbers}
use Rattle.sq_finger.specs.Windows.{is_plain, window_of, IsWindow}
use Rattle.sq_finger.proofs.Grouping.{counted, contains_at}
use Rattle.sq_finger.proofs.Layouts.{names_are}
use Rattle.sq_finger.proofs.Lining.{place_block}
use Rattle.sq_outline.specs.WindowsPlaces.{StandAt, begins, places_from}
use Rattle.sq_outline.specs.WindowsMade.{items_at, IsWindowMade}
use Rattle.sq_outline.specs.WindowsSearch.{place_in, standing_among, standing, AreStanding, AreWindowClasses}
use Rattle.sq_outline.proofs.WindowsApart.{all_mapped, places_stand}
use Rattle.sq_outline.proofs.WindowsFinding.{long_at}
use Rattle.sq_outline.proofs.WindowsLining.{place_listed}
use Rattle.sq_outline.proofs.WindowsStanding.{begins_is, too_short, stands_from, stands_to}

module _ (g : Graph) (w : List Item) where
  abbrev pub stands_there : WindowAt → Bool
  stands_there p = begins w (drop p.at (items_of g p.block))

  -- those of these places where the window stands
  abbrev pub those : List WindowAt → List WindowAt
  those [] = []
  those (p ∷ ps) = if stands_there p then p ∷ those ps else those ps

  those_append : (xs ys : List WindowAt) → those (xs ++ ys) ≡ those xs ++ those ys
  those_append [] ys = refl
  those_append (x ∷ xs) ys =
      elim (cases_Bool (stands_there x)) [
        | inl here ↦ rw here (ap (λ zs. x ∷ zs) (those_append xs ys))
        | inr none ↦ rw none (those_append xs ys)
      ]

  next_left : (k : ℕ) (xs : List Item) (x : Item) (ys : List Item) → drop k xs ≡ x ∷ ys → drop (suc k) xs ≡ ys
  next_left zero [] x ys e = absurd (cc)
  next_left zero (z ∷ xs) x ys e = let t : xs ≡ ys = cc in t
  next_left (suc k) [] x ys e = absurd (cc)
  next_left (suc k) (z ∷ xs) x ys e = next_left k xs x ys e

  those_in_block : 1 ≤ length w → (name at : ℕ) (rest : List Item) → drop at (items_of g name) ≡ rest → those (block_line name at (length rest)) ≡ map (place_in name) (places_from w at rest)
  those_in_block some name at [] left =
      let none : begins w (drop at (items_of g name)) ≡ false = ap (begins w) left ∙ too_short w [] some in
      rw none refl
  those_in_block some name at (item ∷ rest) left =
      let next : drop (at + 1) (items_of g name) ≡ rest = rw add-one (next_left at (items_of g name) item rest left) in
      let others = those_in_block some name (at + 1) rest next in
      elim (cases_Bool (begins w (item ∷ rest))) [
        | inl here ↦
            let there : begins w (drop at (items_of g name)) ≡ true = ap (begins w) left ∙ here in
            rw (there, here) (ap (λ zs. place_in name at ∷ zs) others)
        | inr none ↦
            let fails : begins w (drop at (items_of g name)) ≡ false = ap (begins w) left ∙ none in
            rw (fails, none) others
      ]

  those_among : 1 ≤ length w → (names : List ℕ) → those (line_in g names) ≡ standing_among g w names
  those_among some [] = refl
  those_among some (name ∷ names) =
      those_append (block_line name 0 (length (items_of g name))) (line_in g names)
      ∙ (λ i. those_in_block some name 0 (items_of g name) refl i ++ those_among some names i)

  pub those_are : 1 ≤ length w → those (line_of g) ≡ standing g w
  those_are some = those_among some (names_of g)

  -- all of them are places where it stands
  all_standing : (names : List ℕ) → ((name : ℕ) → Contains names name → HasBlock g name) → All (λ p. HasBlock g p.block × StandAt g p.block p.at w) (standing_among g w names)
  all_standing [] there = All-nil (λ (p : WindowAt). HasBlock g p.block × StandAt g p.block p.at w)
  all_standing (name ∷ names) there =
      let items = items_of g name in
      let P : WindowAt → Type 0 = λ p. HasBlock g p.block × StandAt g p.block p.at w in
      let has = there name (0, omega arith, refl) in
      All-append (λ (p : WindowAt). HasBlock g p.block × StandAt g p.block p.at w) (map (place_in name) (places_from w 0 (items_of g name))) (standing_among g w names)
      (all_mapped {Y = WindowAt} P (place_in name) (places_from w 0 items)
      (λ k d l. let s = places_stand w items 0 items refl (omega arith) k d l in (has, stands_from g name (get_or (places_from w 0 items) k d) w s.0 s.1)))
      (all_standing names (λ n listed. there n (suc listed.0, omega (arith, listed.1), listed.2)))

  pub are_standing : (n : ℕ) (places : List WindowAt) → n ≡ length w → places ≡ standing g w → AreStanding g n places
  are_standing n places is all =
      let P : WindowAt → Type 0 = λ p. HasBlock g p.block × StandAt g p.block p.at w in
      let each = all_standing (names_of g) (λ name listed. (names_are g name).0 listed) in
      let first : (p : WindowAt) (rest : List WindowAt) → places ≡ p ∷ rest → HasBlock g p.block × StandAt g p.block p.at w =
      λ p rest e. All-head (λ (q : WindowAt). HasBlock g q.block × StandAt g q.block q.at w) p rest (subst (λ (ps : List WindowAt). All (λ (q : WindowAt). HasBlock g q.block × StandAt g q.block q.at w) ps) (sym all ∙ e) each) in
      record {
        there = λ p rest e. (first p rest e).0;
        within = λ p rest e. let l = (first p rest e).1.within in omega (arith, l, is);
        all = λ p rest e.
            let same : items_at g p.block p.at n ≡ w = ap (λ m. take m (drop p.at (items_of g p.block))) is ∙ stands_to g p.block p.at w (first p rest e).1 in
            all ∙ ap (standing g) (sym same);
      }

  -- places by numbers, where those of one number are those where it stands
  pub members_are : (m : ℕ) (numbers : List (Option ℕ)) (line : List WindowAt) → length numbers ≡ length line
      → ((i : ℕ) (p : WindowAt) (o : Option ℕ) → slice_get line i ≡ Some p → slice_get numbers i ≡ Some o → is_number m o ≡ stands_there p) → members_of m numbers line ≡ those line
  members_are m [] [] many told = refl
  members_are m [] (p ∷ line) many told = absurd (omega (arith, many))
  members_are m (o ∷ numbers) [] many told = absurd (omega (arith, many))
  members_are m (o ∷ numbers) (p ∷ line) many told =
      let here = told 0 p o refl refl in
      let rest = members_are m numbers line (omega (arith, many)) (λ i q a e f. told (suc i) q a e f) in
      elim (cases_Bool (stands_there p)) [
        | inl yes' ↦ let number : is_number m o ≡ true = here ∙ yes' in rw (number, yes') (ap (λ ps. p ∷ ps) rest)
        | inr no' ↦ let number : is_number m o ≡ false = here ∙ no' in rw (number, no') rest
      ]

-- a window without Out
plain_by : (items : List Item) → All (λ item. item_calls item ≡ []) items → list_all is_plain items ≡ true
plain_by [] all = refl
plain_by (item ∷ items) all =
    let first = plain_item item (All-head (λ (i : Item). item_calls i ≡ []) item items all) in
    rw first (plain_by items (All-tail (λ (i : Item). item_calls i ≡ []) item items all))
  where
    plain_item : (i : Item) → item_calls i ≡ [] → is_plain i ≡ true
    plain_item (Op insn) e = refl
    plain_item (Hi rd to) e = refl
    plain_item (Lo rd rs to) e = refl
    plain_item (Out procedure) e = absurd (cc)

pub made_window : (g : Graph) (block at n link saving : ℕ) → IsWindowMade g block at n link saving → IsWindow g n (place_in block at)
made_window g block at n link saving made = record { block = made.there; within = made.within; plain = plain_by (items_at g block at n) made.plain.no_calls }

first_numbered : (m : ℕ) (numbers : List (Option ℕ)) (line : List WindowAt) (p : WindowAt) (rest : List WindowAt) → members_of m numbers line ≡ p ∷ rest → (i : ℕ) × ((slice_get numbers i ≡ Some (Some m)) × (slice_get line i ≡ Some p))
first_numbered m [] line p rest e = absurd (cc)
first_numbered m (o ∷ numbers) [] p rest e = absurd (cc)
first_numbered m (None ∷ numbers) (q ∷ line) p rest e = let at = first_numbered m numbers line p rest e in (suc at.0, (at.1.0, at.1.1))
first_numbered m (Some k ∷ numbers) (q ∷ line) p rest e =
    elim (cases_Bool (k == m)) [
      | inl same ↦ let is : q ∷ members_of m numbers line ≡ p ∷ rest = rw same at e in let first : q ≡ p = cc in (0, (ap (λ j. Some (Some j)) (eqb-true k m same), ap Some first))
      | inr apart ↦ let is : members_of m numbers line ≡ p ∷ rest = rw apart at e in let at = first_numbered m numbers line p rest is in (suc at.0, (at.1.0, at.1.1))
    ]

not_both : (o : Option (Option ℕ)) → o ≡ Some None → (m : ℕ) × (o ≡ Some (Some m)) → ⊥
not_both o none number = absurd (let both : Some None ≡ Some (Some number.0) = sym none ∙ number.1 in cc)

module _ (g : Graph) (n : ℕ) (rules : IsGraph g) (some : 1 ≤ n) (line : List WindowAt) (numbers : List (Option ℕ)) (whole : line ≡ line_of g) (are : AreWindowNumbers g n line numbers) where
  module _ (i m : ℕ) (p : WindowAt) (at_line : slice_get line i ≡ Some p) (at_number : slice_get numbers i ≡ Some (Some m)) where
    window : IsWindow g n p
    window = are.window i m p at_line at_number

    long : length (window_of g n p) ≡ n
    long = long_at g p.block p.at n window.within

    some_items : 1 ≤ length (window_of g n p)
    some_items = omega (arith, long, some)

    not_same : {E : Type 0} (q : WindowAt) → (E → window_of g n q ≡ window_of g n p) → stands_there g (window_of g n p) q ≡ false → ¬ E
    not_same q same none e =
        let items = drop q.at (items_of g q.block) in
        let is : take (length (window_of g n p)) (drop q.at (items_of g q.block)) ≡ window_of g n p = ap (λ k. take k items) long ∙ same e in
        let here = (begins_is (window_of g n p) items).1 is in
        true≢false (sym here ∙ none)

    own_window : (q : WindowAt) → stands_there g (window_of g n p) q ≡ true → window_of g n q ≡ window_of g n p
    own_window q here =
        let items = drop q.at (items_of g q.block) in
        let is : take (length (window_of g n p)) (drop q.at (items_of g q.block)) ≡ window_of g n p = (begins_is (window_of g n p) items).0 here in
        subst (λ m. take m (drop q.at (items_of g q.block)) ≡ window_of g n p) long is

    told : (j : ℕ) (q : WindowAt) (o : Option ℕ) → slice_get line j ≡ Some q → slice_get numbers j ≡ Some o → is_number m o ≡ stands_there g (window_of g n p) q
    told j q None e f =
        elim (cases_Bool (stands_there g (window_of g n p) q)) [
          | inl here ↦
              let own = own_window q here in
              let size = ap (λ (is : List Item). length is) own in
              let there : IsWindow g n q = record {
                block =
                    subst (λ (r : WindowAt). HasBlock g r.block) (get_or_from_slice_get line j q q e) (place_block g rules line j q whole (slice_get_within line j q e));
                within = omega (arith, size, long, some, length-take n (drop q.at (items_of g q.block)), length-drop q.at (items_of g q.block));
                plain = subst (λ (is : List Item). list_all is_plain is ≡ true) (sym own) window.plain;
              } in
              absurd (not_both (slice_get numbers j) f (are.numbered j q e there))
          | inr none ↦ sym none
        ]
    told j q (Some k) e f =
        let same = are.same j i k m q p e at_line f at_number in
        elim (cases_Bool (stands_there g (window_of g n p) q)) [
          | inl here ↦
              eq-eqb k m (same.1 (own_window q here)) ∙ sym here
          | inr none ↦
              ne_eqb k m (not_same q (λ e. same.0 e) none) ∙ sym none
        ]

    pub class_is : members_of m numbers line ≡ standing g (window_of g n p)
    class_is =
        members_are g (window_of g n p) m numbers line are.many told
        ∙ ap (those g (window_of g n p)) whole
        ∙ those_are g (window_of g n p) some_items

  class_at : (m : ℕ) → m < group_count numbers → slice_get (groups_of numbers line) m ≡ Some (members_of m numbers line)
  class_at m l =
      let c = length-map-range_with_len (λ k. members_of k numbers line) 0 (group_count numbers) in
      slice_get-get_or (groups_of numbers line) m [] (omega (arith, l, c)) ∙ ap Some (get_or-map-range_with_len (λ k. members_of k numbers line) 0 (group_count numbers) m m [] l (omega arith))

  same_class : (group other : List WindowAt) → Some group ≡ Some other → group ≡ other
  same_class group other e = cc

  each_class : (m : ℕ) (group : List WindowAt) → slice_get (groups_of numbers line) m ≡ Some group → AreStanding g n group
  each_class m [] e = record { there = λ p rest f. absurd (cc); within = λ p rest f. absurd (cc); all = λ p rest f. absurd (cc) }
  each_class m (p ∷ rest) e =
      let c = length-map-range_with_len (λ k. members_of k numbers line) 0 (group_count numbers) in
      let l : m < group_count numbers = omega (arith, c, slice_get_within (groups_of numbers line) m (p ∷ rest) e) in
      let is : members_of m numbers line ≡ p ∷ rest = same_class (members_of m numbers line) (p ∷ rest) (sym (class_at m l) ∙ e) in
      let at = first_numbered m numbers line p rest is in
      are_standing g (window_of g n p) n (p ∷ rest) (sym (long at.0 m p at.1.1 at.1.0)) (sym is ∙ class_is at.0 m p at.1.1 at.1.0)

  pub classes_are : AreWindowClasses g n (groups_of numbers line)
  classes_are = record {
    each = each_class;
    all = λ block at window.
        let p : WindowAt = place_in block at in
        let within = window.within in
        let listed = subst (λ (ps : List WindowAt). Contains ps (place_in block at)) (sym whole) (place_listed g block at window.block (omega (arith, within))) in
        let i = contains_at line (place_in block at) listed in
        let m = are.numbered i.0 (place_in block at) i.1 window in
        let l : m.0 < group_count numbers = let k = counted numbers i.0 m.0 m.1 in omega arith in
        (m.0, class_at m.0 l ∙ ap Some (class_is i.0 m.0 (place_in block at) i.1 m.1));
  }
