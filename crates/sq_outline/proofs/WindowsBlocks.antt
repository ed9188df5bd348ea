-- The occurrences of a procedure's body become calls, block by block, in each block from the right.
use Rattle.std.proofs.Common.{◌≡◌, ◌≢◌, ℕ, nat_eq, ◌==◌, true, false, List, [], ◌∷◌, ◌++◌, map, reverse, length, Option, None, Some, inl, inr, refl, sym, ap, ◌∙◌, subst}
use Rattle.std.specs.List.{All, Contains, IsDistinct}
use Rattle.std.proofs.lemmas.Bool.{cases_Bool, eqb-false}
use Rattle.std.proofs.lemmas.List.Elements.{All-nil, All-cons, All-head, All-tail, All-from_recursion}
use Rattle.std.proofs.lemmas.Map.Keys.{IsDistinct-head, IsDistinct-tail}
use Rattle.sq_arena.specs.Entries.{keys, starting_at, next_key}
use Rattle.sq_graph.specs.declared.item.Item.{Item}
use Rattle.sq_graph.specs.declared.item.Item.TheVariants.{Out}
use Rattle.sq_graph.specs.Graph.{Block, Graph}
use Rattle.sq_graph.specs.Blocks.{named, HasBlock, block_items, items_of, body_of, first_of}
use Rattle.sq_graph.specs.Cursor.{IsPlace, rest_from}
use Rattle.sq_graph.specs.Operations.{with_blocks, replaced_items}
use Rattle.sq_graph.specs.Parts.{names_of}
use Rattle.sq_graph.specs.Rules.{IsGraph}
use Rattle.sq_graph.proofs.CursorLaws.{from_first}
use Rattle.sq_finger.proofs.Layouts.{GoesOn, goes_on, keys-named, names_are}
use Rattle.sq_layout.proofs.Standing.{block_of-changed}
use Rattle.law_patch.specs.Calls.{called_there}
use Rattle.sq_outline.specs.declared.sites.Site.{Site}
use Rattle.sq_outline.specs.Sites.{called_each, MatchesAt, MayCallEach}
use Rattle.sq_outline.specs.WindowsPlaces.{in_block, occurrences_in, calls_among, calls_for}
use Rattle.sq_outline.proofs.Standing.{next_calls, still_rules}
use Rattle.sq_outline.proofs.WindowsApart.{all_front, apart_front}

abbrev pub all_called : Graph → ℕ → Graph
all_called g procedure = called_each (calls_for g (body_of g procedure)) procedure g

-- SITES BEHIND SITES

pub later_each : (xs ys : List Site) (procedure : ℕ) (g : Graph) → called_each (xs ++ ys) procedure g ≡ called_each ys procedure (called_each xs procedure g)
later_each [] ys procedure g = refl
later_each (x ∷ xs) ys procedure g = later_each xs ys procedure (called_there g x.block x.at procedure)

pub later_calls : (xs ys : List Site) (procedure : ℕ) (g : Graph) → IsGraph g → MayCallEach g (xs ++ ys) procedure → MayCallEach (called_each xs procedure g) ys procedure
later_calls [] ys procedure g rules may = may
later_calls (x ∷ xs) ys procedure g rules may =
    let can = All-head (MatchesAt g procedure) x (xs ++ ys) may.matching in
    later_calls xs ys procedure (called_there g x.block x.at procedure) (still_rules g x procedure rules can) (next_calls g x (xs ++ ys) procedure rules may)

pub first_calls : (xs ys : List Site) (procedure : ℕ) (g : Graph) → MayCallEach g (xs ++ ys) procedure → MayCallEach g xs procedure
first_calls xs ys procedure g may = record {
  some = may.some;
  apart = apart_front (length (body_of g procedure)) xs ys may.apart;
  matching = all_front (MatchesAt g procedure) xs ys may.matching;
}

-- ALL BLOCKS

same_names : (f : Block → Block) (bs : List Block) (n : ℕ) → ((b : Block) → (f b).name ≡ b.name) → keys (named (with_blocks (λ b. f b ∷ []) bs n)) ≡ keys (named bs)
same_names f [] n names = refl
same_names f (b ∷ bs) n names =
    elim (cases_Bool (b.name == n)) [
      | inl here ↦ rw here (ap (λ k. k ∷ keys (named bs)) (names b))
      | inr apart ↦ rw apart (ap (λ ks. b.name ∷ ks) (same_names f bs n names))
    ]

keys_stay : (sites : List Site) (procedure : ℕ) (g : Graph) → keys (named (called_each sites procedure g).blocks) ≡ keys (named g.blocks)
keys_stay [] procedure g = refl
keys_stay (site ∷ sites) procedure g =
    keys_stay sites procedure (called_there g site.block site.at procedure)
    ∙ same_names (λ b. record b { items = replaced_items b.items site.at (length (body_of g procedure)) (Out procedure ∷ []) }) g.blocks site.block (λ b. refl)

pub body_stays : (sites : List Site) (procedure : ℕ) (g : Graph) → body_of (called_each sites procedure g) procedure ≡ body_of g procedure
body_stays [] procedure g = refl
body_stays (site ∷ sites) procedure g = body_stays sites procedure (called_there g site.block site.at procedure)

items_stay : (places : List ℕ) (block m procedure : ℕ) (g : Graph) → m ≢ block → items_of (called_each (map (in_block block) places) procedure g) m ≡ items_of g m
items_stay [] block m procedure g apart = refl
items_stay (at ∷ places) block m procedure g apart =
    items_stay places block m procedure (called_there g block at procedure) apart
    ∙ ap block_items (block_of-changed (λ b. record b { items = replaced_items b.items at (length (body_of g procedure)) (Out procedure ∷ []) }) g.blocks block m (λ b. refl) apart)

calls_stay : (w : List Item) (g h : Graph) (names : List ℕ) → All (λ m. items_of h m ≡ items_of g m) names → calls_among h w names ≡ calls_among g w names
calls_stay w g h [] all = refl
calls_stay w g h (name ∷ names) all =
    let first = All-head (λ m. items_of h m ≡ items_of g m) name names all in
    let others = calls_stay w g h names (All-tail (λ m. items_of h m ≡ items_of g m) name names all) in
    λ i. map (in_block name) (reverse (occurrences_in w (first i))) ++ others i

key_heads : (x y : ℕ) (xs ys : List ℕ) → x ∷ xs ≡ y ∷ ys → (x ≡ y) × (xs ≡ ys)
key_heads x y xs ys e = let p : x ≡ y = cc in let q : xs ≡ ys = cc in (p, q)

same_rest : {T : Type 0} (es fs : List (ℕ × T)) (key : ℕ) → keys es ≡ keys fs → keys (starting_at es key) ≡ keys (starting_at fs key)
same_rest [] [] key e = refl
same_rest [] (f ∷ fs) key e = absurd (cc)
same_rest (x ∷ es) [] key e = absurd (cc)
same_rest (x ∷ es) (f ∷ fs) key e =
    let parts = key_heads x.0 f.0 (keys es) (keys fs) e in
    elim (cases_Bool (x.0 == key)) [
      | inl here ↦ let there : (f.0 == key) ≡ true = ap (λ k. k == key) (sym parts.0) ∙ here in rw (here, there) e
      | inr apart ↦ let elsewhere : (f.0 == key) ≡ false = ap (λ k. k == key) (sym parts.0) ∙ apart in rw (apart, elsewhere) (same_rest es fs key parts.1)
    ]

-- the blocks from a place on
abbrev pub rest_of : Graph → Option ℕ → List ℕ
rest_of g place = keys (rest_from (named g.blocks) place)

-- the occurrences in these are left to be made calls
pub record AreLeft (result : Graph) (procedure : ℕ) (place : Option ℕ) (g : Graph) : Type 0 where
  pub place_there : IsPlace (named g.blocks) place
  pub may : MayCallEach g (calls_among g (body_of g procedure) (rest_of g place)) procedure
  pub same : result ≡ called_each (calls_among g (body_of g procedure) (rest_of g place)) procedure g

still_distinct : {T : Type 0} (es : List (ℕ × T)) (key : ℕ) → IsDistinct nat_eq (keys es) → IsDistinct nat_eq (keys (starting_at es key))
still_distinct [] key distinct = distinct
still_distinct (e ∷ es) key distinct =
    elim (cases_Bool (e.0 == key)) [
      | inl here ↦ rw here distinct
      | inr apart ↦ rw apart (still_distinct es key (IsDistinct-tail nat_eq e.0 (keys es) distinct))
    ]

-- what follows in all other blocks
others_stay : (g : Graph) (block procedure : ℕ) (places names : List ℕ) → All (λ other. nat_eq block other ≡ false) names → All (λ m. items_of (called_each (map (in_block block) places) procedure g) m ≡ items_of g m) names
others_stay g block procedure places [] all = All-nil (λ m. items_of (called_each (map (in_block block) places) procedure g) m ≡ items_of g m)
others_stay g block procedure places (name ∷ names) all =
    let h = called_each (map (in_block block) places) procedure g in
    let apart : name ≢ block = λ e. eqb-false block name (All-head (λ other. nat_eq block other ≡ false) name names all) (sym e) in
    All-cons (λ m. items_of h m ≡ items_of g m) name names (items_stay places block name procedure g apart) (others_stay g block procedure places names (All-tail (λ other. nat_eq block other ≡ false) name names all))

pub none_blocks : (result : Graph) (procedure : ℕ) (place : Option ℕ) (g : Graph) → AreLeft result procedure place g → place ≡ None → result ≡ g
none_blocks result procedure place g left none = left.same ∙ ap (λ (p : Option ℕ). called_each (calls_among g (body_of g procedure) (rest_of g p)) procedure g) none

pub first_left : (g : Graph) (procedure first : ℕ) (place : Option ℕ) → place ≡ Some first → first_of g ≡ Some first → MayCallEach g (calls_for g (body_of g procedure)) procedure
    → AreLeft (called_each (calls_for g (body_of g procedure)) procedure g) procedure place g
first_left g procedure first place is here may =
    let start = rw here at (from_first (named g.blocks)) in
    let all : rest_of g (Some first) ≡ names_of g = ap keys start.1.1 ∙ keys-named g.blocks in
    let sites : calls_among g (body_of g procedure) (rest_of g (Some first)) ≡ calls_for g (body_of g procedure) = ap (λ ns. calls_among g (body_of g procedure) ns) all in
    subst (λ (p : Option ℕ). AreLeft (called_each (calls_for g (body_of g procedure)) procedure g) procedure p g) (sym is)
    (record {
      place_there = start.0;
      may = subst (λ ss. MayCallEach g ss procedure) (sym sites) may;
      same = ap (λ ss. called_each ss procedure g) (sym sites);
    })

module _ (result : Graph) (procedure block : ℕ) (g : Graph) (rules : IsGraph g) (left : AreLeft result procedure (Some block) g) where
  abbrev w : List Item
  w = body_of g procedure

  abbrev here : List Site
  here = map (in_block block) (reverse (occurrences_in (body_of g procedure) (items_of g block)))

  abbrev behind : List ℕ
  behind = rest_of g (next_key (named g.blocks) block)

  step : GoesOn (named g.blocks) block
  step = goes_on (named g.blocks) block rules.distinct left.place_there

  pub rest_is : rest_of g (Some block) ≡ block ∷ rest_of g (next_key (named g.blocks) block)
  rest_is = step.keys_are

  all_may : MayCallEach g (here ++ calls_among g w behind) procedure
  all_may = subst (λ ns. MayCallEach g (calls_among g w ns) procedure) rest_is left.may

  pub block_may : MayCallEach g here procedure
  block_may = first_calls here (calls_among g w behind) procedure g all_may

  module _ (h : Graph) (is : h ≡ called_each here procedure g) (rules_h : IsGraph h) where
    keys_same : keys (named h.blocks) ≡ keys (named g.blocks)
    keys_same = ap (λ (k : Graph). keys (named k.blocks)) is ∙ keys_stay here procedure g

    pub still_there : HasBlock h block
    still_there =
        let names : names_of g ≡ names_of h = sym (keys-named g.blocks) ∙ sym keys_same ∙ keys-named h.blocks in
        (names_are h block).0 (subst (λ (ns : List ℕ). Contains ns block) names ((names_are g block).1 left.place_there))

    step_h : GoesOn (named h.blocks) block
    step_h = goes_on (named h.blocks) block rules_h.distinct still_there

    pub behind_same : rest_of h (next_key (named h.blocks) block) ≡ behind
    behind_same =
        let all : block ∷ rest_of h (next_key (named h.blocks) block) ≡ block ∷ behind = sym step_h.keys_are ∙ same_rest (named h.blocks) (named g.blocks) block keys_same ∙ rest_is in
        (key_heads block block (rest_of h (next_key (named h.blocks) block)) behind all).1

    unlike : All (λ other. nat_eq block other ≡ false) behind
    unlike =
        let distinct : IsDistinct nat_eq (block ∷ behind) = subst (IsDistinct nat_eq) rest_is (still_distinct (named g.blocks) block rules.distinct) in
        All-from_recursion (λ other. nat_eq block other ≡ false) behind (IsDistinct-head nat_eq block behind distinct)

    window_same : body_of h procedure ≡ w
    window_same = ap (λ (k : Graph). body_of k procedure) is ∙ body_stays here procedure g

    calls_same : calls_among h (body_of h procedure) (rest_of h (next_key (named h.blocks) block)) ≡ calls_among g w behind
    calls_same =
        (λ i. calls_among h (window_same i) (behind_same i))
        ∙ ap (λ (k : Graph). calls_among k w behind) is
        ∙ calls_stay w g (called_each here procedure g) behind (others_stay g block procedure (reverse (occurrences_in w (items_of g block))) behind unlike)

    pub next_left : AreLeft result procedure (next_key (named h.blocks) block) h
    next_left = record {
      place_there = step_h.is_place;
      may =
          subst (λ ss. MayCallEach h ss procedure) (sym calls_same)
          (subst (λ (k : Graph). MayCallEach k (calls_among g w behind) procedure) (sym is) (later_calls here (calls_among g w behind) procedure g rules all_may));
      same =
          left.same
          ∙ ap (λ ns. called_each (calls_among g w ns) procedure g) rest_is
          ∙ later_each here (calls_among g w behind) procedure g
          ∙ ap (λ (k : Graph). called_each (calls_among g w behind) procedure k) (sym is)
          ∙ ap (λ ss. called_each ss procedure h) (sym calls_same);
    }
