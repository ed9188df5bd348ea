-- Labels tell apart what stands at places.
use Rattle.std.proofs.Common.{◌≡◌, ℕ, ◌<◌, ◌≤◌, ◌&&◌, Bool, true, false, List, [], ◌∷◌, map, length, get_or, nat_lt, Option, Some, None, slice_get, Contains, refl, sym, ap, ◌∙◌, subst, arith}
use Rattle.std.specs.Option.{option_map, option_eq}
use Rattle.std.proofs.lemmas.Bool.Decides.{nat_tests}
use Rattle.std.proofs.lemmas.Option.{slice_get-map, slice_get-get_or, slice_get_past, slice_get_within, get_or_from_slice_get}
use Rattle.sq_graph.specs.declared.item.Item.{Item}
use Rattle.sq_graph.specs.declared.item.Item.TheVariants.{Op, Hi, Lo, Out}
use Rattle.sq_graph.specs.declared.item.Term.{Term}
use Rattle.sq_graph.specs.Blocks.{HasBlock, items_of, term_of}
use Rattle.sq_graph.specs.Graph.{Graph}
use Rattle.sq_graph.specs.Rules.{IsGraph, ItemFits}
use Rattle.sq_finger.specs.declared.keys.ItemKey.{ItemKey}
use Rattle.sq_finger.specs.declared.keys.TermKey.{TermKey}
use Rattle.sq_finger.specs.declared.places.WindowAt.{WindowAt}
use Rattle.sq_finger.specs.contracts.keys.ItemKeyPartialEq.TheImpl as item_key_eq
use Rattle.sq_finger.specs.contracts.keys.TermKeyPartialEq.TheImpl as term_key_eq
use Rattle.sq_finger.specs.Exact.{IsExact}
use Rattle.sq_finger.specs.ItemKeys.{key_of}
use Rattle.sq_finger.specs.TermKeys.{term_key_of}
use Rattle.sq_finger.specs.Lines.{line_of}
use Rattle.sq_finger.specs.Numbers.{AreNumbers, AreNumbersOf}
use Rattle.sq_finger.proofs.Exactness.{exact_item_key, exact_term_key, exact_option, exact_pair}
use Rattle.sq_finger.proofs.Grouping.{contains_at, at_contains}
use Rattle.sq_finger.proofs.Keying.{one_item, one_term}
use Rattle.sq_finger.proofs.Layouts.{items_fit}
use Rattle.sq_finger.proofs.Lining.{place_block}
use Rattle.sq_finger.proofs.Telling.{numbers_of_keys, numbers_of_members}
use Rattle.sq_fold.specs.Partition.{bare_item, bare_term}
use Rattle.sq_fold.specs.Labels.{bare, bare_at, key_of_bare}

some_same : {X : Type 0} {x y : X} → Some x ≡ Some y → x ≡ y
some_same e = cc

abbrev Bare : Type 0
Bare = Option Item × Option Term

abbrev BareKey : Type 0
BareKey = Option ItemKey × Option TermKey

abbrev pub is_same_bare : BareKey → BareKey → Bool
is_same_bare k l = option_eq (item_key_eq.ghosts).eq k.0 l.0 && option_eq (term_key_eq.ghosts).eq k.1 l.1

exact_bare : IsExact {K = BareKey} is_same_bare
exact_bare = exact_pair (option_eq (item_key_eq.ghosts).eq) (option_eq (term_key_eq.ghosts).eq) (exact_option (item_key_eq.ghosts).eq exact_item_key) (exact_option (term_key_eq.ghosts).eq exact_term_key)

-- ---- one key

pub bare_fits : (item : Item) → ItemFits item → ItemFits (bare_item item)
bare_fits (Op insn) fits = fits
bare_fits (Hi rd to) fits = fits
bare_fits (Lo rd rs to) fits = fits
bare_fits (Out procedure) fits = fits

abbrev BareFits : Option Item → Type 0
BareFits None = Unit {0}
BareFits (Some item) = ItemFits item

items_same : (x y : Option Item) → BareFits x → BareFits y → option_map key_of x ≡ option_map key_of y → x ≡ y
items_same None None fits others e = refl
items_same None (Some y) fits others e = absurd (cc)
items_same (Some x) None fits others e = absurd (cc)
items_same (Some x) (Some y) fits others e = ap Some (one_item x y fits others (some_same e))

terms_same : (x y : Option Term) → option_map term_key_of x ≡ option_map term_key_of y → x ≡ y
terms_same None None e = refl
terms_same None (Some y) e = absurd (cc)
terms_same (Some x) None e = absurd (cc)
terms_same (Some x) (Some y) e = ap Some (one_term x y (some_same e))

bare_same : (x y : Bare) → BareFits x.0 → BareFits y.0 → key_of_bare x ≡ key_of_bare y → x ≡ y
bare_same x y fits others e =
    let item = items_same x.0 y.0 fits others (ap (λ k. k.0) e) in
    let term = terms_same x.1 y.1 (ap (λ k. k.1) e) in
    rw (item, term) refl

-- ---- what was looked up

pub key_of_item : (g : Graph) (place : WindowAt) (items : List Item) (item there : Item) (key : ItemKey) → items ≡ items_of g place.block → true ≡ nat_lt place.at (length items) → item ≡ get_or items place.at item
    → there ≡ bare_item item → key ≡ key_of there → (Some key, None) ≡ key_of_bare (bare_at g place)
key_of_item g place items item there key e l f same value =
    let near : place.at < length items = grind (arith, nat_tests) in
    let at : slice_get (items_of g place.block) place.at ≡ Some item = ap (λ is. slice_get is place.at) (sym e) ∙ slice_get-get_or items place.at item near ∙ ap Some (sym f) in
    let keys : key ≡ key_of (bare_item item) = value ∙ ap key_of same in
    rw (at, keys) refl

pub key_of_term : (g : Graph) (place : WindowAt) (items : List Item) (term there : Term) (key : TermKey) → items ≡ items_of g place.block → false ≡ nat_lt place.at (length items) → term_of g place.block ≡ Some term
    → there ≡ bare_term term → key ≡ term_key_of there → (None, Some key) ≡ key_of_bare (bare_at g place)
key_of_term g place items term there key e l f same value =
    let past : length items ≤ place.at = grind (arith, nat_tests) in
    let at : slice_get (items_of g place.block) place.at ≡ None = ap (λ is. slice_get is place.at) (sym e) ∙ slice_get_past items place.at past in
    let keys : key ≡ term_key_of (bare_term term) = value ∙ ap term_key_of same in
    rw (at, f, keys) refl

-- ---- the places of a graph

module _ (g : Graph) (rules : IsGraph g) where
  bare_there : (block : ℕ) → HasBlock g block → (at : ℕ) (o : Option Item) → slice_get (items_of g block) at ≡ o → BareFits (bare o (term_of g block)).0
  bare_there block there at None e = tt
  bare_there block there at (Some item) e = bare_fits item (items_fit g block rules there item (at_contains (items_of g block) at item e))

  members_at : (line : List WindowAt) (i : ℕ) (x : Bare) (o : Option WindowAt) → slice_get line i ≡ o → slice_get (map (λ place. Some (bare_at g place)) line) i ≡ Some (Some x) → (p : WindowAt) × ((slice_get line i ≡ Some p) × (bare_at g p ≡ x))
  members_at line i x None e f = absurd (let h = slice_get-map (λ place. Some (bare_at g place)) line i ∙ ap (option_map (λ place. Some (bare_at g place))) e in cc)
  members_at line i x (Some p) e f =
      let h : Some (Some (bare_at g p)) ≡ Some (Some x) = ap (option_map (λ place. Some (bare_at g place))) (sym e) ∙ sym (slice_get-map (λ place. Some (bare_at g place)) line i) ∙ f in
      (p, (e, some_same (some_same h)))

  members_fit : (line : List WindowAt) → ((i : ℕ) (p : WindowAt) → slice_get line i ≡ Some p → HasBlock g p.block) → (x : Bare) → Contains (map (λ place. Some (bare_at g place)) line) (Some x) → BareFits x.0
  members_fit line blocks x listed =
      let at = contains_at (map (λ place. Some (bare_at g place)) line) (Some x) listed in
      let p = members_at line at.0 x (slice_get line at.0) refl at.1 in
      subst (λ b. BareFits b.0) p.1.1 (bare_there p.0.block (blocks at.0 p.0 p.1.0) p.0.at (slice_get (items_of g p.0.block) p.0.at) refl)

keys_of_members : (g : Graph) (line : List WindowAt) → map (λ place. Some (key_of_bare (bare_at g place))) line ≡ map (option_map key_of_bare) (map (λ place. Some (bare_at g place)) line)
keys_of_members g [] = refl
keys_of_members g (p ∷ line) = ap (λ ks. Some (key_of_bare (bare_at g p)) ∷ ks) (keys_of_members g line)

pub labelled : (g : Graph) → IsGraph g → (line : List WindowAt) (keys : List (Option BareKey)) (labels : List (Option ℕ)) → ((i : ℕ) (p : WindowAt) → slice_get line i ≡ Some p → HasBlock g p.block)
    → keys ≡ map (λ place. Some (key_of_bare (bare_at g place))) line → AreNumbers is_same_bare keys labels → AreNumbersOf (map (λ place. Some (bare_at g place)) line) labels
labelled g rules line keys labels blocks e are =
    let members = map (λ place. Some (bare_at g place)) line in
    let keyed = subst (λ ks. AreNumbersOf ks labels) (e ∙ keys_of_members g line) (numbers_of_keys is_same_bare exact_bare keys labels are) in
    numbers_of_members key_of_bare members labels (λ x y a b same. bare_same x y (members_fit g rules line blocks x a) (members_fit g rules line blocks y b) same) keyed

pub line_blocks : (g : Graph) → IsGraph g → (line : List WindowAt) → line ≡ line_of g → (i : ℕ) (p : WindowAt) → slice_get line i ≡ Some p → HasBlock g p.block
line_blocks g rules line whole i p e = subst (λ q. HasBlock g q.block) (get_or_from_slice_get line i p p e) (place_block g rules line i p whole (slice_get_within line i p e))
