-- Numbers tell ends of blocks apart.
use Rattle.std.proofs.Common.{◌≡◌, ◌↔◌, ℕ, zero, suc, ◌<◌, List, [], ◌∷◌, map, length, get_or, Option, Some, None, IsSome, slice_get, inl, inr, refl, sym, ap, ◌∙◌, arith}
use Rattle.std.specs.Option.{option_map, option_flatten, option_zip}
use Rattle.std.proofs.lemmas.Bool.{cases_lt}
use Rattle.std.proofs.lemmas.List.{length-map}
use Rattle.std.proofs.lemmas.Option.{slice_get-map, slice_get-get_or, slice_get_past}
use Rattle.sq_graph.specs.declared.item.Item.{Item}
use Rattle.sq_graph.specs.Graph.{Block, Graph}
use Rattle.sq_graph.specs.Blocks.{HasBlock, block_of, items_of, next_of}
use Rattle.sq_graph.specs.Resolve.{ResolvedTerm, resolved_term, resolved_term_of, block_resolved}
use Rattle.sq_graph.specs.Rules.{ItemFits}
use Rattle.sq_finger.specs.ItemKeys.{key_of}
use Rattle.sq_finger.specs.TermKeys.{term_key_of}
use Rattle.sq_finger.specs.Numbers.{member_at, AreNumbersOf}
use Rattle.sq_finger.specs.declared.keys.ItemKey.{ItemKey}
use Rattle.sq_finger.proofs.Keying.{one_item, one_term}
use Rattle.sq_finger.proofs.Telling.{Tells, tells_zip, tells_members}
use Rattle.sq_tail.specs.Ends.{item_back, end_of}
use Rattle.sq_tail.specs.Numbers.{AreEndNumbers, zipped}
use Rattle.sq_tail.specs.Resolved.{resolved_key, block_key}

some_same : {X : Type 0} {x y : X} → Some x ≡ Some y → x ≡ y
some_same e = cc

-- ---- WHAT TELLS THE SAME

pub through : {X Y Z : Type 0} {f : ℕ → Option X} {g : ℕ → Option Y} {h : ℕ → Option Z} → Tells f g → Tells g h → Tells f h
through first second = record {
  none = λ i. let a = first.none i in let b = second.none i in (λ e. b.0 (a.0 e), λ e. a.1 (b.1 e));
  same = λ i j. let a = first.same i j in let b = second.same i j in (λ e. b.0 (a.0 e), λ e. a.1 (b.1 e));
}

pub back : {X Y : Type 0} {f : ℕ → Option X} {g : ℕ → Option Y} → Tells f g → Tells g f
back told = record { none = λ i. let a = told.none i in (a.1, a.0); same = λ i j. let a = told.same i j in (a.1, a.0) }

-- the same at each place
pub there : {X : Type 0} {f g : ℕ → Option X} → ((i : ℕ) → f i ≡ g i) → Tells f g
there is = record {
  none = λ i. (λ e. sym (is i) ∙ e, λ e. is i ∙ e);
  same = λ i j. (λ e. sym (is i) ∙ e ∙ is j, λ e. is i ∙ e ∙ sym (is j));
}

module _ {X Y : Type 0} (h : X → Y) where
  map_none : (o : Option X) → (option_map h o ≡ None) ↔ (o ≡ None)
  map_none None = (λ e. refl, λ e. refl)
  map_none (Some x) = (λ e. absurd (cc), λ e. absurd (cc))

  map_same : (o p : Option X) → ((x y : X) → o ≡ Some x → p ≡ Some y → h x ≡ h y → x ≡ y) → option_map h o ≡ option_map h p → o ≡ p
  map_same None None one e = refl
  map_same None (Some y) one e = absurd (cc)
  map_same (Some x) None one e = absurd (cc)
  map_same (Some x) (Some y) one e = ap Some (one x y refl refl (some_same e))

  -- what is made of members, equal of equal ones alone, tells what they do
  pub tells_made : (f : ℕ → Option X) → ((i j : ℕ) (x y : X) → f i ≡ Some x → f j ≡ Some y → h x ≡ h y → x ≡ y) → Tells (λ i. option_map h (f i)) f
  tells_made f one = record {
    none = λ i. map_none (f i);
    same = λ i j. (λ e. map_same (f i) (f j) (one i j) e, λ e. ap (option_map h) e);
  }

pub numbers_by : {X Y : Type 0} (members : List (Option X)) (others : List (Option Y)) (numbers : List (Option ℕ)) → length members ≡ length others → Tells (member_at members) (member_at others) → AreNumbersOf members numbers → AreNumbersOf others numbers
numbers_by members others numbers many told are =
    let own = through (tells_members members numbers are) told in
    record { many = are.many ∙ many; none = own.none; same = own.same }

-- ---- MEMBERS AT PLACES

abbrev pub by_name : {X : Type 0} → (ℕ → Option X) → Option ℕ → Option X
by_name f None = None
by_name f (Some name) = f name

pub at_map : {X : Type 0} (f : ℕ → Option X) (names : List ℕ) (i : ℕ) → member_at (map f names) i ≡ by_name f (slice_get names i)
at_map f names i = ap option_flatten (slice_get-map f names i) ∙ flat (slice_get names i)
  where
    flat : (o : Option ℕ) → option_flatten (option_map f o) ≡ by_name f o
    flat None = refl
    flat (Some name) = refl

none_behind : {X Y : Type 0} (o : Option X) (p : Option Y) → p ≡ None → option_zip o p ≡ None
none_behind None p e = refl
none_behind (Some x) None e = refl
none_behind (Some x) (Some y) e = absurd (cc)

pub zipped_at : {X Y : Type 0} (xs : List (Option X)) (ys : List (Option Y)) (i : ℕ) → member_at (zipped xs ys) i ≡ option_zip (member_at xs i) (member_at ys i)
zipped_at [] ys i = refl
zipped_at (None ∷ xs) [] zero = refl
zipped_at (Some x ∷ xs) [] zero = refl
zipped_at (x ∷ xs) [] (suc i) = sym (none_behind (member_at xs i) None refl)
zipped_at (x ∷ xs) (y ∷ ys) zero = refl
zipped_at (x ∷ xs) (y ∷ ys) (suc i) = zipped_at xs ys i

pub zipped_length : {X Y : Type 0} (xs : List (Option X)) (ys : List (Option Y)) → length ys ≡ length xs → length (zipped xs ys) ≡ length xs
zipped_length [] ys e = refl
zipped_length (x ∷ xs) [] e = absurd (omega (arith, e))
zipped_length (x ∷ xs) (y ∷ ys) e = omega (arith, zipped_length xs ys (omega (arith, e)))

-- ---- ENDS OF ONE ITEM MORE

module _ (g : Graph) (names : List ℕ) (fits : (name : ℕ) (n : ℕ) (item : Item) → item_back n (items_of g name) ≡ Some item → ItemFits item) where
  abbrev back_key : ℕ → ℕ → Option ItemKey
  back_key n name = option_map key_of (item_back n (items_of g name))

  abbrev item_there : ℕ → ℕ → Option Item
  item_there n name = item_back n (items_of g name)

  by_key : (n : ℕ) (o : Option ℕ) → by_name (back_key n) o ≡ option_map key_of (by_name (item_there n) o)
  by_key n None = refl
  by_key n (Some name) = refl

  by_fits : (n : ℕ) (o : Option ℕ) (item : Item) → by_name (item_there n) o ≡ Some item → ItemFits item
  by_fits n None item e = absurd (cc)
  by_fits n (Some name) item e = fits name n item e

  keys_tell : (n : ℕ) → Tells (member_at (map (back_key n) names)) (λ i. by_name (item_there n) (slice_get names i))
  keys_tell n =
      through (there (λ i. at_map (back_key n) names i ∙ by_key n (slice_get names i)))
      (tells_made key_of (λ i. by_name (item_there n) (slice_get names i)) (λ i j x y at_x at_y e. one_item x y (by_fits n (slice_get names i) x at_x) (by_fits n (slice_get names j) y at_y) e))

  abbrev longer : (Option ResolvedTerm × List Item) × Item → Option ResolvedTerm × List Item
  longer p = (p.0.0, p.1 ∷ p.0.1)

  one_longer : (p q : (Option ResolvedTerm × List Item) × Item) → longer p ≡ longer q → p ≡ q
  one_longer ((r, is), item) ((s, js), other) e =
      let a : r ≡ s = ap (λ p. p.0) e in
      let both : item ∷ is ≡ other ∷ js = ap (λ p. p.1) e in
      let b : is ≡ js = cc in
      let c : item ≡ other = cc in
      λ i. ((a i, b i), c i)

  by_zip : (n : ℕ) (o : Option ℕ) → option_map longer (option_zip (by_name (end_of g n) o) (by_name (item_there n) o)) ≡ by_name (end_of g (suc n)) o
  by_zip n None = refl
  by_zip n (Some name) = refl

  ends_tell : (n : ℕ) → Tells (λ i. option_zip (by_name (end_of g n) (slice_get names i)) (by_name (item_there n) (slice_get names i))) (member_at (map (end_of g (suc n)) names))
  ends_tell n =
      let zips : ℕ → Option ((Option ResolvedTerm × List Item) × Item) = λ i. option_zip (by_name (end_of g n) (slice_get names i)) (by_name (item_there n) (slice_get names i)) in
      through (back (tells_made longer zips (λ i j p q at_p at_q e. one_longer p q e)))
      (there (λ i. by_zip n (slice_get names i) ∙ sym (at_map (end_of g (suc n)) names i)))

  pub longer_numbers : (n : ℕ) (numbers longer : List (Option ℕ)) → AreEndNumbers g n names numbers → AreNumbersOf (zipped numbers (map (back_key n) names)) longer → AreEndNumbers g (suc n) names longer
  longer_numbers n numbers longer shorter are =
      let pairs = zipped numbers (map (back_key n) names) in
      let many : length (zipped numbers (map (back_key n) names)) ≡ length (map (end_of g (suc n)) names) =
      zipped_length numbers (map (back_key n) names) (length-map names (back_key n) ∙ sym (shorter.many ∙ length-map names (end_of g n))) ∙ shorter.many ∙ length-map names (end_of g n) ∙ sym (length-map names (end_of g (suc n))) in
      let firsts = through (tells_members (map (end_of g n) names) numbers shorter) (there (λ i. at_map (end_of g n) names i)) in
      let told =
      through (there (λ i. zipped_at numbers (map (back_key n) names) i))
      (through (tells_zip (member_at numbers) (λ i. by_name (end_of g n) (slice_get names i)) (member_at (map (back_key n) names)) (λ i. by_name (item_there n) (slice_get names i)) firsts (keys_tell n)) (ends_tell n)) in
      numbers_by pairs (map (end_of g (suc n)) names) longer many told are

-- ---- RESOLVED TERMS

one_key : (r s : ResolvedTerm) → resolved_key r ≡ resolved_key s → r ≡ s
one_key r s e =
    let key : term_key_of r.term ≡ term_key_of s.term = ap (λ p. p.0) e in
    let next : r.next ≡ s.next = ap (λ p. p.1) e in
    let term = one_term r.term s.term key in
    λ i. record { term = term i; next = next i }

abbrev alone : ResolvedTerm → Option ResolvedTerm × List Item
alone r = (Some r, [])

module _ (g : Graph) (names : List ℕ) (there_all : (i : ℕ) → i < length names → HasBlock g (get_or names i 0)) where
  by_term : (o : Option ℕ) → by_name (block_key g) o ≡ option_map resolved_key (by_name (resolved_term_of g) o)
  by_term None = refl
  by_term (Some name) = refl

  resolved_there : (name : ℕ) → HasBlock g name → (r : ResolvedTerm) × (resolved_term_of g name ≡ Some r)
  resolved_there name has = by_block (block_of g name) refl has
    where
      by_block : (o : Option Block) → block_of g name ≡ o → IsSome o → (r : ResolvedTerm) × (resolved_term_of g name ≡ Some r)
      by_block None is some = absurd (cc)
      by_block (Some b) is some = (resolved_term g b.term (next_of g name), ap (λ o. block_resolved g o (next_of g name)) is)

  by_end : (name : ℕ) → HasBlock g name → option_map alone (resolved_term_of g name) ≡ end_of g 0 name
  by_end name has = let r = resolved_there name has in rw r.1 refl

  at_place : (i : ℕ) → option_map alone (by_name (resolved_term_of g) (slice_get names i)) ≡ by_name (end_of g 0) (slice_get names i)
  at_place i = elim (cases_lt i (length names)) [
    | inl l ↦
        let found = slice_get-get_or names i 0 l in
        ap (λ o. option_map alone (by_name (resolved_term_of g) o)) found ∙ by_end (get_or names i 0) (there_all i l) ∙ ap (by_name (end_of g 0)) (sym found)
    | inr l ↦ let past = slice_get_past names i l in ap (λ o. option_map alone (by_name (resolved_term_of g) o)) past ∙ ap (by_name (end_of g 0)) (sym past)
  ]

  pub term_numbers : (numbers : List (Option ℕ)) → AreNumbersOf (map (block_key g) names) numbers → AreEndNumbers g 0 names numbers
  term_numbers numbers are =
      let base : ℕ → Option ResolvedTerm = λ i. by_name (resolved_term_of g) (slice_get names i) in
      let keys = through (there (λ i. at_map (block_key g) names i ∙ by_term (slice_get names i))) (tells_made resolved_key base (λ i j r s at_r at_s e. one_key r s e)) in
      let ends = tells_made alone base (λ i j r s at_r at_s e. some_same (ap (λ p. p.0) e)) in
      let told = through keys (through (back ends) (there (λ i. at_place i ∙ sym (at_map (end_of g 0) names i)))) in
      numbers_by (map (block_key g) names) (map (end_of g 0) names) numbers (length-map names (block_key g) ∙ sym (length-map names (end_of g 0))) told are
