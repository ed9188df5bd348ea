-- A block without a kind of the window's items has no place of it.
use Rattle.std.proofs.Common.{◌≡◌, ◌≢◌, ℕ, ◌+◌, ◌<◌, ◌==◌, ◌||◌, ◌&&◌, not, true, false, Bool, List, [], ◌∷◌, ◌++◌, map, take, drop, length, get_or, add-one, Option, None, Some, IfSome, is_some, inl, inr, refl, sym, ap, ◌∙◌, subst, arith}
use Rattle.std.specs.List.{All, Contains}
use Rattle.std.specs.Int.{bit_at}
use Rattle.std.proofs.Math.Seq.{take-suc}
use Rattle.std.proofs.lemmas.Bool.{cases_Bool, eq-eqb, ne_eqb}
use Rattle.std.proofs.lemmas.Bool.Decides.{nat_tests}
use Rattle.std.proofs.lemmas.List.{append-nil, get_or-map, map-append, length-map}
use Rattle.std.proofs.lemmas.List.Elements.{All-tail, All-weaker, All-take, All-drop, All-contains, All-contains_itself, Contains-push}
use Rattle.std.proofs.lemmas.Nat.Bits.{bit_at-lt, same_from_bits}
use Rattle.sq_isa.specs.Registers.{is_member}
use Rattle.sq_graph.specs.declared.item.Item.{Item}
use Rattle.sq_graph.specs.Graph.{Graph}
use Rattle.sq_graph.specs.Blocks.{HasBlock, items_of}
use Rattle.sq_graph.specs.Parts.{names_of}
use Rattle.sq_graph.specs.Rules.{ItemFits, IsGraph}
use Rattle.sq_finger.proofs.Layouts.{items_fit, name_there}
use Rattle.sq_finger.specs.declared.places.WindowAt.{WindowAt}
use Rattle.sq_outline.specs.declared.windows.kinds.BlockKinds.{BlockKinds}
use Rattle.sq_outline.specs.WindowsKinds.{kind_of, HasKind, HasKinds, AreKinds}
use Rattle.sq_outline.specs.WindowsMade.{items_at}
use Rattle.sq_outline.specs.WindowsPlaces.{begins, places_from}
use Rattle.sq_outline.specs.WindowsSearch.{place_in, standing_among}
use Rattle.sq_outline.proofs.Early.{one_more}
use Rattle.sq_outline.proofs.WindowsApart.{all_front}
use Rattle.sq_outline.proofs.WindowsListed.{block_listed}
use Rattle.sq_outline.proofs.WindowsStanding.{begins_is}

-- SETS

same_bit : (m n q : ℕ) → is_member m q ≡ is_member n q → bit_at m q ≡ bit_at n q
same_bit m n q same =
    let left = bit_at-lt m q in
    let right = bit_at-lt n q in
    grind (arith, nat_tests, same)

pub same_set : (m n : ℕ) → ((q : ℕ) → is_member m q ≡ is_member n q) → m ≡ n
same_set m n same = same_from_bits m n (λ q. same_bit m n q (same q))

or_less : (a b : Bool) → (b ≡ true → a ≡ true) → (a || b) ≡ a
or_less true b less = refl
or_less false true less = absurd (let e : false ≡ true = less refl in cc)
or_less false false less = refl

-- a set doesn't grow by one of which it has all
pub not_grown : (set wanted more : ℕ) → ((q : ℕ) → is_member more q ≡ (is_member set q || is_member wanted q)) → ((q : ℕ) → is_member wanted q ≡ true → is_member set q ≡ true) → more ≡ set
not_grown set wanted more grown less = same_set more set (λ q. grown q ∙ or_less (is_member set q) (is_member wanted q) (less q))

-- KINDS OF ITEMS

or_left : (a b : Bool) → a ≡ true → (a || b) ≡ true
or_left true b is = refl
or_left false b is = absurd (cc)

or_right : (a b : Bool) → b ≡ true → (a || b) ≡ true
or_right true b is = refl
or_right false b is = is

-- one is added
abbrev pub IsAdded : ℕ → ℕ → ℕ → Type 0
IsAdded set kind more = (q : ℕ) → is_member more q ≡ (is_member set q || (not (q == 0) && kind == q))

own_kind : (kind : ℕ) → kind ≢ 0 → (not (kind == 0) && kind == kind) ≡ true
own_kind kind some = rw (ne_eqb kind 0 some, eq-eqb kind kind refl) refl

pub all_more : (items : List Item) (i : ℕ) (d : Item) (set kind more : ℕ) → i < length items → IsAdded set kind more → kind ≡ kind_of (get_or items i d) → HasKinds (take i items) set → HasKinds (take (i + 1) items) more
all_more items i d set kind more there added is all =
    one_more (HasKind more) items i d there
    (All-weaker (HasKind set) (HasKind more) (λ item has some. added (kind_of item) ∙ or_left (is_member set (kind_of item)) (not (kind_of item == 0) && kind == kind_of item) (has some)) (take i items) all)
    (subst (λ k. k ≢ 0 → is_member more k ≡ true) is (λ some. added kind ∙ or_right (is_member set kind) (not (kind == 0) && kind == kind) (own_kind kind some)))

added_kind : (kind q : ℕ) → (not (q == 0) && kind == q) ≡ true → (kind ≡ q) × (q ≢ 0)
added_kind kind q is = grind (arith, nat_tests, is)

only_either : (a b : Bool) (P : Type 0) → (a ≡ true → P) → (b ≡ true → P) → (a || b) ≡ true → P
only_either true b P left right is = left refl
only_either false b P left right is = right is

-- a set that has the kinds of all these items has those that were gathered
abbrev pub AreOnly : List Item → ℕ → Type 0
AreOnly items set = (kinds : ℕ) → HasKinds items kinds → (kind : ℕ) → is_member set kind ≡ true → is_member kinds kind ≡ true

pub only_more : (items : List Item) (i : ℕ) (d : Item) (set kind more : ℕ) → i < length items → IsAdded set kind more → kind ≡ kind_of (get_or items i d) → AreOnly (take i items) set → AreOnly (take (i + 1) items) more
only_more items i d set kind more there added is only = λ kinds has q member.
    let parts : take (i + 1) items ≡ take i items ++ get_or items i d ∷ [] = rw add-one (take-suc items i d there) in
    let all : HasKinds (take i items ++ get_or items i d ∷ []) kinds = subst (λ (is : List Item). HasKinds is kinds) parts has in
    let last : HasKind kinds (get_or items i d) = All-contains (HasKind kinds) (take i items ++ get_or items i d ∷ []) (get_or items i d) all (Contains-push (take i items) (get_or items i d)) in
    only_either (is_member set q) (not (q == 0) && kind == q) (is_member kinds q ≡ true)
    (only kinds (all_front (HasKind kinds) (take i items) (get_or items i d ∷ []) all) q)
    (λ own.
    let e = added_kind kind q own in
    let at : kind_of (get_or items i d) ≡ q = sym is ∙ e.0 in
    subst (λ k. k ≢ 0 → is_member kinds k ≡ true) at last e.1)
    (sym (added q) ∙ member)

pub all_fit : (g : Graph) (name : ℕ) → IsGraph g → HasBlock g name → All ItemFits (items_of g name)
all_fit g name rules there =
    All-weaker (Contains (items_of g name)) ItemFits (λ item listed. items_fit g name rules there item listed) (items_of g name) (All-contains_itself (items_of g name))

pub window_fits : (g : Graph) (block at n : ℕ) → IsGraph g → HasBlock g block → All ItemFits (items_at g block at n)
window_fits g block at n rules there = All-take ItemFits n (drop at (items_of g block)) (All-drop ItemFits at (items_of g block) (all_fit g block rules there))

-- PLACES

begins_kinds : (window items : List Item) (set : ℕ) → HasKinds items set → begins window items ≡ true → HasKinds window set
begins_kinds window items set all stands =
    subst (λ (is : List Item). HasKinds is set) ((begins_is window items).0 stands) (All-take (HasKind set) (length window) items all)

pub no_places : (window items : List Item) (at set : ℕ) → HasKinds items set → ¬ HasKinds window set → places_from window at items ≡ []
no_places window [] at set all lacks = refl
no_places window (item ∷ items) at set all lacks =
    let rest = no_places window items (at + 1) set (All-tail (HasKind set) item items all) lacks in
    elim (cases_Bool (begins window (item ∷ items))) [
      | inl stands ↦ absurd (lacks (begins_kinds window (item ∷ items) set all stands))
      | inr none ↦ rw none rest
    ]

-- a set that grows by the kinds of the window lacks one of them
pub lacks : (window : List Item) (set wanted : ℕ) (grown : Option ℕ) → IfSome grown (λ more. (q : ℕ) → is_member more q ≡ (is_member set q || is_member wanted q)) → IfSome grown (λ more. set < more)
    → is_some grown ≡ true → AreOnly window wanted → ¬ HasKinds window set
lacks window set wanted None each more some only = absurd (cc)
lacks window set wanted (Some grown) each more some only = λ has.
    let same = not_grown set wanted grown each (only set has) in
    absurd (omega (arith, same, more))

pub as_many : (g : Graph) (blocks : List BlockKinds) → AreKinds g blocks → length (names_of g) ≡ length blocks
as_many g blocks are = ap (λ (names : List ℕ). length names) (sym are.names) ∙ length-map blocks (λ (block : BlockKinds). block.name)

-- a block of the list
module _ (g : Graph) (blocks : List BlockKinds) (i : ℕ) (d block : BlockKinds) (are : AreKinds g blocks) (there : i < length blocks) (is : block ≡ get_or blocks i d) where
  within : i < length (names_of g)
  within = let many = as_many g blocks are in omega (arith, many, there)

  name_at : get_or (names_of g) i 0 ≡ block.name
  name_at = ap (λ (names : List ℕ). get_or names i 0) (sym are.names) ∙ get_or-map (λ (b : BlockKinds). b.name) blocks i d 0 there ∙ ap (λ (b : BlockKinds). b.name) (sym is)

  pub block_there : HasBlock g block.name
  block_there = subst (HasBlock g) name_at (name_there g (names_of g) i refl within)

  own_kinds : HasKinds (items_of g block.name) block.kinds
  own_kinds = subst (λ (b : BlockKinds). HasKinds (items_of g b.name) b.kinds) (sym is) (are.kinds i d there)

  module _ (window : List Item) (places : List WindowAt) where
    pub listed_there : (places ++ map (place_in block.name) (places_from window 0 (items_of g block.name))) ++ standing_among g window (drop (i + 1) (names_of g)) ≡ places ++ standing_among g window (drop i (names_of g))
    listed_there = block_listed g window (names_of g) i block.name places within name_at

    pub listed_nowhere : ¬ HasKinds window block.kinds → places ++ standing_among g window (drop (i + 1) (names_of g)) ≡ places ++ standing_among g window (drop i (names_of g))
    listed_nowhere fails =
        let none = no_places window (items_of g block.name) 0 block.kinds own_kinds fails in
        ap (λ (ps : List WindowAt). ps ++ standing_among g window (drop (i + 1) (names_of g))) (sym (append-nil places) ∙ ap (λ (ats : List ℕ). places ++ map (place_in block.name) ats) (sym none))
        ∙ listed_there

-- LISTS OF BLOCKS

-- a block more
pub block_more : (names : List ℕ) (i name set : ℕ) (blocks : List BlockKinds) → i < length names → get_or names i 0 ≡ name → map (λ block. block.name) blocks ≡ take i names
    → map (λ block. block.name) (blocks ++ record { name = name; kinds = set } ∷ []) ≡ take (i + 1) names
block_more names i name set blocks there is so_far =
    let more : take (i + 1) names ≡ take i names ++ get_or names i 0 ∷ [] = rw add-one (take-suc names i 0 there) in
    map-append (λ (block : BlockKinds). block.name) blocks (record { name = name; kinds = set } ∷ [])
    ∙ ap (λ (ks : List ℕ). ks ++ name ∷ []) so_far
    ∙ ap (λ k. take i names ++ k ∷ []) (sym is)
    ∙ sym more
