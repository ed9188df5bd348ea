-- Sets at nodes and before places.
use Rattle.std.proofs.Common.{◌≡◌, ℕ, zero, suc, ◌+◌, ◌-◌, ◌<◌, ◌≤◌, ◌==◌, ◌||◌, ◌&&◌, not, true, inl, inr, ⊎_elim, List, [], ◌∷◌, ◌++◌, Option, Some, is_some, slice_get, take, drop, get_or, length, refl, sym, ap, ◌∙◌, subst, arith, length-append, length-drop, get_or-set_same, get_or-set_other}
use Rattle.std.proofs.Math.ListN.{set}
use Rattle.std.proofs.lemmas.Bool.{cases_Bool, cases_eq, eq-eqb}
use Rattle.std.proofs.lemmas.List.{take_more, take_all, take-append-drop, take-append-le, drop-append-le}
use Rattle.std.proofs.lemmas.Option.{slice_get_within}
use Rattle.std.proofs.Math.Bool.{or-false, or_assoc}
use Rattle.sq_isa.specs.Registers.{is_member, is_among_but_x0}
use Rattle.sq_graph.specs.declared.item.Item.{Item}
use Rattle.sq_graph.specs.declared.item.Term.{Term}
use Rattle.sq_arena.specs.Entries.{behind}
use Rattle.sq_graph.specs.Graph.{Block, Graph}
use Rattle.sq_graph.specs.Blocks.{named, all_items, items_of_blocks, items_of_bodies}
use Rattle.sq_graph.specs.Parts.{names_of}
use Rattle.sq_graph.specs.Rules.{IsGraph}
use Rattle.sq_graph.specs.Walks.{term_sources, term_link, is_register}
use Rattle.sq_live.specs.declared.effect.Effect.{Effect}
use Rattle.sq_live.specs.Effects.{before_items}
use Rattle.sq_live.specs.Search.{list_at}
use Rattle.sq_live.specs.Places.{any_member, before_term, ArePlaces, AreInBlock, sets_in, no_span}
use Rattle.sq_live.specs.declared.places.Span.{Span}
use Rattle.sq_live.specs.Exits.{position_in, position_at}
use Rattle.sq_live.proofs.Layouts.{block_at, length-names}
use Rattle.sq_live.proofs.Sequences.{flat_map-push}

pub any_member-append : (nodes xs ys : List ℕ) (r : ℕ) → any_member nodes (xs ++ ys) r ≡ (any_member nodes xs r || any_member nodes ys r)
any_member-append nodes [] ys r = refl
any_member-append nodes (x ∷ xs) ys r =
    ap (λ b. is_member (get_or nodes x 0) r || b) (any_member-append nodes xs ys r)
    ∙ sym (or_assoc (is_member (get_or nodes x 0) r) (any_member nodes xs r) (any_member nodes ys r))

-- one more node
pub any_member_more : (nodes list : List ℕ) (i r : ℕ) → i < length list → any_member nodes (take (i + 1) list) r ≡ (any_member nodes (take i list) r || is_member (get_or nodes (get_or list i 0) 0) r)
any_member_more nodes list i r within =
    ap (λ xs. any_member nodes xs r) (take_more list i 0 within)
    ∙ any_member-append nodes (take i list) (get_or list i 0 ∷ []) r
    ∙ ap (λ b. any_member nodes (take i list) r || b) (or-false (is_member (get_or nodes (get_or list i 0) 0) r))

-- The places of one more block

pub in_block : (calls : List Effect) (nodes list : List ℕ) (block : Block) (items : List Item) (behind : ℕ) (places : List ℕ) → items ≡ block.items → ((r : ℕ) → r < 32 → is_member behind r ≡ before_term block nodes list r) → ArePlaces calls items behind places → AreInBlock calls nodes list block places
in_block calls nodes list block items behind places e h p = record {
  count = p.count ∙ ap (λ xs. length xs + 1) e;
  live = λ k r within small.
      p.live k r (subst (λ xs. k ≤ length xs) (sym e) within) small
      ∙ ap (λ xs. before_items calls (drop k xs) (is_member behind r) r) e
      ∙ ap (λ b. before_items calls (drop k block.items) b r) (h r small);
}

-- a block's sets lie in those of all
pub record IsPlaced (calls : List Effect) (nodes list : List ℕ) (block : Block) (sets : List ℕ) (span : Span) : Type 0 where
  pub within : span.start + span.count ≤ length sets
  pub places : AreInBlock calls nodes list block (sets_in sets span)

-- the blocks before a position have their places
abbrev pub ArePlacedBefore : List Effect → List (List ℕ) → List ℕ → List Block → List ℕ → List Span → ℕ → Type 0
ArePlacedBefore calls exits nodes blocks sets spans k =
    (j : ℕ) (block : Block) → j < k → slice_get blocks j ≡ Some block → IsPlaced calls nodes (list_at exits j) block sets (get_or spans block.name no_span)

-- one place has one name
same_place : (g : Graph) (names : List ℕ) → IsGraph g → names ≡ names_of g → (j k : ℕ) (a b : Block) → slice_get g.blocks j ≡ Some a → slice_get g.blocks k ≡ Some b → a.name ≡ b.name → j ≡ k
same_place g names rules are j k a b at_j at_k same =
    let first = slice_get_within g.blocks j a at_j in
    let second = slice_get_within g.blocks k b at_k in
    let size = length-names g names are in
    let x = block_at g names j rules are (omega (arith, first, size)) in
    let y = block_at g names k rules are (omega (arith, second, size)) in
    let a_is : x.block ≡ a = let f : Some x.block ≡ Some a = sym x.at ∙ at_j in cc in
    let b_is : y.block ≡ b = let f : Some y.block ≡ Some b = sym y.at ∙ at_k in cc in
    let name : get_or names j 0 ≡ get_or names k 0 = sym x.has_name ∙ ap (λ (z : Block). z.name) a_is ∙ same ∙ ap (λ (z : Block). z.name) (sym b_is) ∙ y.has_name in
    let rest : named (drop (j + 1) g.blocks) ≡ named (drop (k + 1) g.blocks) = sym x.behind_is ∙ ap (behind (named g.blocks)) name ∙ y.behind_is in
    let sizes : length (drop (j + 1) g.blocks) ≡ length (drop (k + 1) g.blocks) = sym (length-named (drop (j + 1) g.blocks)) ∙ ap length rest ∙ length-named (drop (k + 1) g.blocks) in
    omega (arith, sizes, length-drop (j + 1) g.blocks, length-drop (k + 1) g.blocks, first, second)
  where
    length-named : (blocks : List Block) → length (named blocks) ≡ length blocks
    length-named [] = refl
    length-named (x ∷ blocks) = ap suc (length-named blocks)

-- what lay in the sets before lies there still
same_sets : (old new : List ℕ) (span : Span) → take (length old) new ≡ old → span.start + span.count ≤ length old → sets_in new span ≡ sets_in old span
same_sets old new span kept fits =
    let whole : new ≡ old ++ drop (length old) new = sym (take-append-drop (length old) new) ∙ ap (λ xs. xs ++ drop (length old) new) kept in
    ap (λ xs. sets_in xs span) whole
    ∙ ap (take span.count) (drop-append-le span.start old (drop (length old) new) (omega (arith, fits)))
    ∙ take-append-le span.count (drop span.start old) (drop (length old) new) (omega (arith, fits, length-drop span.start old))

module _ (g : Graph) (names : List ℕ) (rules : IsGraph g) (are : names ≡ names_of g) (calls : List Effect) (exits : List (List ℕ)) (nodes old new : List ℕ) (spans : List Span) (k : ℕ) (block : Block) where
  pub placed_more : slice_get g.blocks k ≡ Some block → take (length old) new ≡ old → length old ≤ length new → block.name < length spans → AreInBlock calls nodes (list_at exits k) block (drop (length old) new)
      → (span : Span) → span.start ≡ length old → span.count ≡ length new - length old
      → ArePlacedBefore calls exits nodes g.blocks old spans k → ArePlacedBefore calls exits nodes g.blocks new (set spans block.name span) (k + 1)
  placed_more at kept more named these span start count before j other below found =
      ⊎_elim
      (λ (e : j ≡ k).
      let same : other ≡ block = let f : Some other ≡ Some block = sym found ∙ ap (slice_get g.blocks) e ∙ at in cc in
      let here : get_or (set spans block.name span) other.name no_span ≡ span = ap (λ (b : Block). get_or (set spans block.name span) b.name no_span) same ∙ get_or-set_same spans block.name span no_span named in
      subst (λ s. IsPlaced calls nodes (list_at exits j) other new s) (sym here)
      (subst (λ b. IsPlaced calls nodes (list_at exits j) b new span) (sym same)
      (subst (λ i. IsPlaced calls nodes (list_at exits i) block new span) (sym e)
      (record {
        within = omega (arith, start, count, more);
        places =
            subst (λ xs. AreInBlock calls nodes (list_at exits k) block xs)
            (sym (ap (λ n. take span.count (drop n new)) start ∙ take_all span.count (drop (length old) new) (omega (arith, count, length-drop (length old) new))))
            these;
      }))))
      (λ (apart : j ≡ k → ⊥).
      let was = before j other (omega (arith, below, apart)) found in
      let names_apart : other.name ≡ block.name → ⊥ = λ e. apart (same_place g names rules are j k other block found at e) in
      let elsewhere : get_or (set spans block.name span) other.name no_span ≡ get_or spans other.name no_span = get_or-set_other spans block.name other.name span no_span names_apart in
      subst (λ s. IsPlaced calls nodes (list_at exits j) other new s) (sym elsewhere)
      (record {
        within = let h = was.within in omega (arith, h, more);
        places = subst (λ xs. AreInBlock calls nodes (list_at exits j) other xs) (sym (same_sets old new (get_or spans other.name no_span) kept was.within)) was.places;
      }))
      (cases_eq j k)

-- a block's name has a position, and so there is room for it
position_found : (names : List ℕ) (j k : ℕ) → k < length names → is_some (position_in names j (get_or names k 0)) ≡ true
position_found [] j k h = absurd (omega (arith, h))
position_found (n ∷ names) j zero h = let same : (n == n) ≡ true = eq-eqb n n refl in rw same refl
position_found (n ∷ names) j (suc k) h =
    elim (cases_Bool (n == get_or names k 0)) [
      | inl here ↦ rw here refl
      | inr apart ↦ rw apart (position_found names (j + 1) k (omega (arith, h)))
    ]

position_below : (positions : List (Option ℕ)) (name : ℕ) → is_some (position_at positions name) ≡ true → name < length positions
position_below [] name e = absurd (cc)
position_below (x ∷ positions) zero e = omega arith
position_below (x ∷ positions) (suc name) e = let lt = position_below positions name e in omega (arith, lt)

pub has_room : (positions : List (Option ℕ)) (names : List ℕ) (k : ℕ) → ((name : ℕ) → position_at positions name ≡ position_in names 0 name) → k < length names → get_or names k 0 < length positions
has_room positions names k is h =
    position_below positions (get_or names k 0) (ap is_some (is (get_or names k 0)) ∙ position_found names 0 k h)

-- how many sets there are

pub more_sets : (old new : List ℕ) (count : ℕ) → take (length old) new ≡ old → length (drop (length old) new) ≡ count + 1 → length new ≡ length old + (count + 1)
more_sets old new count kept added =
    ap length (sym (take-append-drop (length old) new)) ∙ length-append (take (length old) new) (drop (length old) new) ∙ ap (λ n. n + length (drop (length old) new)) (ap length kept) ∙ ap (λ n. length old + n) added

pub more_items : (blocks : List Block) (k : ℕ) (block : Block) → take (k + 1) blocks ≡ take k blocks ++ block ∷ [] → length (items_of_blocks (take (k + 1) blocks)) ≡ length (items_of_blocks (take k blocks)) + length block.items
more_items blocks k block more =
    ap (λ bs. length (items_of_blocks bs)) more ∙ ap length (flat_map-push (λ b. b.items) (take k blocks) block) ∙ length-append (items_of_blocks (take k blocks)) block.items

pub few_sets : (g : Graph) (k : ℕ) → length (items_of_blocks (take k g.blocks)) ≤ length (all_items g)
few_sets g k = let h = less k g.blocks in omega (arith, h, length-append (items_of_blocks g.blocks) (items_of_bodies g.procedures))
  where
    less : (k : ℕ) (blocks : List Block) → length (items_of_blocks (take k blocks)) ≤ length (items_of_blocks blocks)
    less zero blocks = omega arith
    less (suc k) [] = omega arith
    less (suc k) (b ∷ blocks) =
        let h = less k blocks in
        omega (arith, h, length-append b.items (items_of_blocks (take k blocks)), length-append b.items (items_of_blocks blocks))

-- the set before a term
pub term_before : (block : Block) (term : Term) (nodes these list : List ℕ) (reads writes behind before r : ℕ) → term ≡ block.term → these ≡ list
    → is_member reads r ≡ is_among_but_x0 (term_sources term) r → is_member writes r ≡ is_register (term_link term) r
    → is_member behind r ≡ any_member nodes these r → is_member before r ≡ (is_member reads r || (not (is_member writes r) && is_member behind r))
    → is_member before r ≡ before_term block nodes list r
term_before block term nodes these list reads writes behind before r t l a b c d =
    d ∙ rw (a, b, c, t, l) refl
