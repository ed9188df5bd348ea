-- Shapes of blocks, by the keys of their items and terms.
use Rattle.std.proofs.Common.{◌≡◌, ◌↔◌, ℕ, Bool, true, List, [], ◌∷◌, map, Some, refl, sym, ap, ◌∙◌}
use Rattle.std.specs.List.{All}
use Rattle.std.specs.Option.{option_map}
use Rattle.std.proofs.lemmas.List.Elements.{All-head, All-tail}
use Rattle.std.proofs.lemmas.Slice.Eq.{slice_eq-Decides}
use lib.Pointwise.{pointwise}
use Rattle.sq_graph.specs.declared.item.Item.{Item}
use Rattle.sq_graph.specs.declared.item.Term.{Term}
use Rattle.sq_graph.specs.Blocks.{items_of, term_of}
use Rattle.sq_graph.specs.Graph.{Graph}
use Rattle.sq_graph.specs.Rules.{IsGraph, ItemFits}
use Rattle.sq_graph.proofs.Fitting.{items_fit}
use Rattle.sq_finger.specs.declared.keys.ItemKey.{ItemKey}
use Rattle.sq_finger.specs.declared.keys.TermKey.{TermKey}
use Rattle.sq_finger.specs.contracts.keys.ItemKeyPartialEq.TheImpl as item_key_eq
use Rattle.sq_finger.specs.contracts.keys.TermKeyPartialEq.TheImpl as term_key_eq
use Rattle.sq_finger.specs.ItemKeys.{key_of}
use Rattle.sq_finger.specs.TermKeys.{term_key_of}
use Rattle.sq_finger.proofs.Exactness.{exact_item_key, exact_term_key}
use Rattle.sq_finger.proofs.Keying.{one_item, one_term}
use Rattle.sq_fold.specs.Partition.{bare_item, bare_term}
use Rattle.sq_fold.proofs.Bareness.{bare_fits}

some_same : {X : Type 0} {x y : X} → Some x ≡ Some y → x ≡ y
some_same e = cc

abbrev pub bare_key : Item → ItemKey
bare_key item = key_of (bare_item item)

bares_same : (xs ys : List Item) → All ItemFits xs → All ItemFits ys → map bare_key xs ≡ map bare_key ys → map bare_item xs ≡ map bare_item ys
bares_same [] [] fits others e = refl
bares_same [] (y ∷ ys) fits others e = absurd (cc)
bares_same (x ∷ xs) [] fits others e = absurd (cc)
bares_same (x ∷ xs) (y ∷ ys) fits others e =
    let first : bare_key x ≡ bare_key y = cc in
    let rest : map bare_key xs ≡ map bare_key ys = cc in
    let same = one_item (bare_item x) (bare_item y) (bare_fits x (All-head ItemFits x xs fits)) (bare_fits y (All-head ItemFits y ys others)) first in
    let later = bares_same xs ys (All-tail ItemFits x xs fits) (All-tail ItemFits y ys others) rest in
    rw (same, later) refl

keys_same : (xs ys : List Item) → map bare_item xs ≡ map bare_item ys → map bare_key xs ≡ map bare_key ys
keys_same [] [] e = refl
keys_same [] (y ∷ ys) e = absurd (cc)
keys_same (x ∷ xs) [] e = absurd (cc)
keys_same (x ∷ xs) (y ∷ ys) e =
    let first : bare_item x ≡ bare_item y = cc in
    let rest : map bare_item xs ≡ map bare_item ys = cc in
    let later = keys_same xs ys rest in
    rw (first, later) refl

-- the items of two blocks are equal but for names where their keys are
pub items_told : (g : Graph) (x y : ℕ) (ours theirs : List ItemKey) (r : Bool) → IsGraph g → ours ≡ map bare_key (items_of g x) → theirs ≡ map bare_key (items_of g y) → r ≡ pointwise (item_key_eq.ghosts).eq ours theirs → (r ≡ true) ↔ (map bare_item (items_of g x) ≡ map bare_item (items_of g y))
items_told g x y ours theirs r rules e f told =
    let d = slice_eq-Decides exact_item_key ours theirs r told in (
      λ t. bares_same (items_of g x) (items_of g y) (items_fit g x rules) (items_fit g y rules) (sym e ∙ d.0 t ∙ f),
      λ s. d.1 (e ∙ keys_same (items_of g x) (items_of g y) s ∙ sym f),
    )

-- and their terms
pub terms_told : (g : Graph) (x y : ℕ) (t u : Term) (k l : TermKey) (r : Bool) → term_of g x ≡ Some t → term_of g y ≡ Some u → k ≡ term_key_of (bare_term t) → l ≡ term_key_of (bare_term u) → r ≡ (term_key_eq.ghosts).eq k l → (r ≡ true) ↔ (option_map bare_term (term_of g x) ≡ option_map bare_term (term_of g y))
terms_told g x y t u k l r e f key key' told =
    let d = exact_term_key k l in (
      λ s.
          let same = one_term (bare_term t) (bare_term u) (sym key ∙ d.0 (sym told ∙ s) ∙ key') in
          ap (option_map bare_term) e ∙ ap Some same ∙ sym (ap (option_map bare_term) f),
      λ s.
          let same : bare_term t ≡ bare_term u = some_same (sym (ap (option_map bare_term) e) ∙ s ∙ ap (option_map bare_term) f) in
          told ∙ d.1 (key ∙ ap term_key_of same ∙ sym key'),
    )
