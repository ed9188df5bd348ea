-- The occurrences of a procedure's body among some items of a block become calls: those on the right, the last one of the left
-- half, and those before it.
use Rattle.std.proofs.Common.{◌≡◌, ℕ, ◌+◌, ◌-◌, ◌≤◌, ◌<◌, max, List, [], ◌∷◌, ◌++◌, map, reverse, take, drop, length, refl, sym, ap, ◌∙◌, subst, arith, length-append, append_assoc}
use Rattle.std.specs.List.{All}
use Rattle.std.proofs.lemmas.List.{reverse-append, map-append, length-take-le}
use Rattle.std.proofs.lemmas.List.Elements.{All-head, All-tail, All-weaker}
use Rattle.sq_graph.specs.declared.item.Item.{Item}
use Rattle.sq_graph.specs.declared.item.Item.TheVariants.{Out}
use Rattle.sq_graph.specs.Graph.{Graph}
use Rattle.sq_graph.specs.Blocks.{HasBlock, items_of, body_of}
use Rattle.sq_graph.specs.Rules.{IsGraph}
use Rattle.law_patch.specs.Calls.{called_there}
use Rattle.sq_outline.specs.declared.sites.Site.{Site}
use Rattle.sq_outline.specs.Sites.{called_each, MatchesAt, MayCallEach}
use Rattle.sq_outline.specs.WindowsPlaces.{in_block, occurrences_from, calls_between}
use Rattle.sq_outline.proofs.Early.{first_part}
use Rattle.sq_outline.proofs.Standing.{next_calls, still_block, still_rules, items_here}
use Rattle.sq_outline.proofs.WindowsApart.{all_reversed, reversed_cons}
use Rattle.sq_outline.proofs.WindowsBlocks.{later_each, later_calls, first_calls, body_stays}
use Rattle.sq_outline.proofs.WindowsLast.{from_place, behind_first, ends_within, cut_before, none_between}

-- CALLS LEAVE WHAT IS AHEAD OF THEM

one_kept : (block at front procedure : ℕ) (g : Graph) (rules : IsGraph g) → MatchesAt g procedure (in_block block at) → front ≤ at
    → take front (items_of (called_there g block at procedure) block) ≡ take front (items_of g block)
one_kept block at front procedure g rules can ahead =
    let items = items_of g block in
    let there : at ≤ length (items_of g block) = let l = can.within in omega arith in
    ap (λ (is : List Item). take front is) (items_here g (in_block block at) procedure rules can)
    ∙ first_part items (Out procedure ∷ drop (at + length (body_of g procedure)) items) at front ahead there

kept : (places : List ℕ) (block front procedure : ℕ) (g : Graph) → IsGraph g → MayCallEach g (map (in_block block) places) procedure → All (λ at. front ≤ at) places
    → take front (items_of (called_each (map (in_block block) places) procedure g) block) ≡ take front (items_of g block)
kept [] block front procedure g rules may all = refl
kept (at ∷ places) block front procedure g rules may all =
    let site = in_block block at in
    let sites = map (in_block block) places in
    let can = All-head (MatchesAt g procedure) site sites may.matching in
    kept places block front procedure (called_there g block at procedure) (still_rules g site procedure rules can) (next_calls g site sites procedure rules may) (All-tail (λ k. front ≤ k) at places all)
    ∙ one_kept block at front procedure g rules can (All-head (λ k. front ≤ k) at places all)

-- A PART OF A BLOCK

-- what is made of a part of a block
abbrev pub part_called : Graph → ℕ → ℕ → ℕ → ℕ → Graph
part_called g block procedure first end = called_each (calls_between g block procedure first end) procedure g

pub none_called : (g : Graph) (block procedure first end : ℕ) → first ≤ end → end ≤ length (items_of g block) → end - first < length (body_of g procedure) → g ≡ part_called g block procedure first end
none_called g block procedure first end order within short =
    sym (ap (λ ps. called_each (map (in_block block) (reverse ps)) procedure g) (none_between (body_of g procedure) (items_of g block) first end order within short))

-- THE LAST ONE OF THE LEFT HALF

-- An occurrence in a part of a block, the others on its left, and those from a place on, which is behind it.
pub record IsHalved (g : Graph) (block procedure first right end at : ℕ) : Type 0 where
  pub rules : IsGraph g
  pub order : first ≤ end
  pub within : end ≤ length (items_of g block)
  pub may : MayCallEach g (calls_between g block procedure first end) procedure
  pub past : at ≤ right
  pub before : List ℕ
  pub is : occurrences_from (body_of g procedure) first (take end (items_of g block)) ≡ before ++ at ∷ occurrences_from (body_of g procedure) right (take end (items_of g block))

pub halved : (g : Graph) (block procedure first middle end at right : ℕ) (window items : List Item) → IsGraph g → first ≤ end → end ≤ length (items_of g block)
    → MayCallEach g (calls_between g block procedure first end) procedure
    → window ≡ body_of g procedure → items ≡ items_of g block → right ≡ max middle (at + length window)
    → (before : List ℕ) × (occurrences_from window first (take end items) ≡ before ++ at ∷ occurrences_from window (max middle (at + length window)) (take end items))
    → IsHalved g block procedure first right end at
halved g block procedure first middle end at right window items rules order within may e f most found = record {
  rules = rules;
  order = order;
  within = within;
  may = may;
  past = omega (arith, most);
  before = found.0;
  is = sym (λ i. occurrences_from (e i) first (take end (f i))) ∙ found.1 ∙ (λ i. found.0 ++ at ∷ occurrences_from (e i) (sym most i) (take end (f i)));
}

module _ {g : Graph} {block procedure first right end at : ℕ} (parts : IsHalved g block procedure first right end at) where
  abbrev window : List Item
  window = body_of g procedure

  abbrev behind : List ℕ
  behind = occurrences_from (body_of g procedure) right (take end (items_of g block))

  abbrev rights : List Site
  rights = calls_between g block procedure right end

  abbrev site : Site
  site = in_block block at

  abbrev lefts : List Site
  lefts = map (in_block block) (reverse parts.before)

  sites_are : calls_between g block procedure first end ≡ calls_between g block procedure right end ++ in_block block at ∷ map (in_block block) (reverse parts.before)
  sites_are =
      ap (λ ps. map (in_block block) (reverse ps)) parts.is
      ∙ ap (map (in_block block))
      (reverse-append parts.before (at ∷ behind) ∙ ap (λ ps. ps ++ reverse parts.before) (reversed_cons at behind) ∙ append_assoc (reverse behind) (at ∷ []) (reverse parts.before))
      ∙ map-append (in_block block) (reverse behind) (at ∷ reverse parts.before)

  may_each : MayCallEach g (rights ++ site ∷ lefts) procedure
  may_each = subst (λ ss. MayCallEach g ss procedure) sites_are parts.may

  pub right_may : MayCallEach g (calls_between g block procedure right end) procedure
  right_may = first_calls rights (site ∷ lefts) procedure g may_each

  pub fits : at + length (body_of g procedure) ≤ end
  fits = ends_within window parts.may.some (items_of g block) first end at parts.before behind parts.order parts.within parts.is

  pub starts_behind : first ≤ at
  starts_behind = behind_first window parts.may.some (items_of g block) first end at parts.before behind parts.order parts.within parts.is

  module _ (h : Graph) (h_is : h ≡ called_each (calls_between g block procedure right end) procedure g) (h_rules : IsGraph h) where
    may_still : MayCallEach h (site ∷ lefts) procedure
    may_still = subst (λ (k : Graph). MayCallEach k (site ∷ lefts) procedure) (sym h_is) (later_calls rights (site ∷ lefts) procedure g parts.rules may_each)

    pub some : 1 ≤ length (body_of h procedure)
    some = may_still.some

    pub matches : MatchesAt h procedure (in_block block at)
    matches = All-head (MatchesAt h procedure) site lefts may_still.matching

    module _ (k : Graph) (k_is : k ≡ called_there h block at procedure) where
      pub there : HasBlock k block
      there = subst (λ (j : Graph). HasBlock j block) (sym k_is) (still_block h site procedure h_rules matches block matches.block_there)

      pub ahead_there : at ≤ length (items_of k block)
      ahead_there =
          let items = items_of h block in
          let l : at ≤ length (items_of h block) = let fits = matches.within in omega arith in
          omega (
            arith,
            ap (λ (j : Graph). length (items_of j block)) k_is,
            ap (λ (is : List Item). length is) (items_here h site procedure h_rules matches),
            length-append (take at items) (Out procedure ∷ drop (at + length (body_of h procedure)) items),
            length-take-le at items l,
          )

      same_ahead : take at (items_of k block) ≡ take at (items_of g block)
      same_ahead =
          let all = all_reversed (λ p. at ≤ p) behind (All-weaker (λ p. right ≤ p) (λ p. at ≤ p) (λ p l. omega (arith, l, parts.past)) behind (from_place window right right (drop right (take end (items_of g block))))) in
          ap (λ (j : Graph). take at (items_of j block)) k_is
          ∙ one_kept block at at procedure h h_rules matches (omega arith)
          ∙ ap (λ (j : Graph). take at (items_of j block)) h_is
          ∙ kept (reverse behind) block at procedure g parts.rules right_may all

      window_same : body_of k procedure ≡ body_of g procedure
      window_same = ap (λ (j : Graph). body_of j procedure) k_is ∙ ap (λ (j : Graph). body_of j procedure) h_is ∙ body_stays rights procedure g

      left_is : calls_between k block procedure first at ≡ map (in_block block) (reverse parts.before)
      left_is =
          (λ i. map (in_block block) (reverse (occurrences_from (window_same i) first (same_ahead i))))
          ∙ ap (λ ps. map (in_block block) (reverse ps)) (cut_before window parts.may.some (items_of g block) first end at parts.before behind parts.order parts.within parts.is)

      pub left_may : MayCallEach k (calls_between k block procedure first at) procedure
      left_may =
          subst (λ ss. MayCallEach k ss procedure) (sym left_is)
          (subst (λ (j : Graph). MayCallEach j lefts procedure) (sym k_is) (next_calls h site lefts procedure h_rules may_still))

      pub all_parts : part_called k block procedure first at ≡ part_called g block procedure first end
      all_parts =
          ap (λ ss. called_each ss procedure k) left_is
          ∙ ap (λ (j : Graph). called_each lefts procedure j) k_is
          ∙ ap (λ (j : Graph). called_each (site ∷ lefts) procedure j) h_is
          ∙ sym (later_each rights (site ∷ lefts) procedure g)
          ∙ ap (λ ss. called_each ss procedure g) (sym sites_are)
