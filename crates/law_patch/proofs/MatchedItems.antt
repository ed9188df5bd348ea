-- Items of a block in place of which others stand that they match: no more is live in other blocks.
use Rattle.std.proofs.Common.{◌≡◌, ◌≢◌, ℕ, ◌≤◌, ◌+◌, ◌==◌, Bool, true, false, List, [], ◌∷◌, ◌++◌, None, Some, map, take, drop, length, inl, inr, refl, sym, ap, ◌∙◌, subst, arith}
use Rattle.std.specs.List.{All, Contains, flat_map, slice_range}
use Rattle.std.proofs.lemmas.Bool.{cases_Bool}
use Rattle.std.proofs.lemmas.List.{take_at, drop_at, length-take-le}
use Rattle.std.proofs.lemmas.List.Elements.{All-head, All-tail}
use Rattle.std.proofs.Math.Seq.{drop-append-add}
use Rattle.sq_arena.specs.Entries.{value_of}
use Rattle.sq_graph.specs.declared.item.Item.{Item}
use Rattle.sq_graph.specs.declared.item.Item.TheVariants.{Op, Hi, Lo, Out}
use Rattle.sq_graph.specs.Graph.{Block, Graph}
use Rattle.sq_graph.specs.Blocks.{HasBlock, named, block_items, items_of}
use Rattle.sq_graph.specs.Lines.{Line, line_of, term_lines, body_lines, lines_of, behind_name, block_lines, place_lines}
use Rattle.sq_graph.specs.Matches.{IsPair, Match, PairsDie}
use Rattle.sq_graph.specs.Operations.{with_blocks, replaced_items, replaced}
use Rattle.sq_graph.specs.Rules.{IsGraph}
use Rattle.sq_graph.specs.Soundness.{LinksDieIn}
use Rattle.sq_graph.specs.Uses.{item_calls}
use Rattle.sq_graph.specs.Walks.{IsLive, is_register, lower_names, code_targets}
use Rattle.sq_graph.proofs.Located.{IsAt}
use Rattle.law_patch.specs.Changes.{Change, Alike, shift}
use Rattle.law_patch.proofs.Calls.{range_is}
use Rattle.law_patch.proofs.Carrying.{AreOf, ItemGoes, Backs}
use Rattle.law_patch.proofs.Dead.{live, live_carrier}
use Rattle.law_patch.proofs.Matching.{Matched, StandsMatched, CallsStay, calls_stay, zero_register, at as in_mode, matched, at_first, at_last}
use Rattle.law_patch.proofs.Parts.{take_in, drop_in}
use Rattle.law_patch.proofs.Places.{every, absent_from, name_at}
use Rattle.law_patch.proofs.Relating.{items_stay}
use Rattle.law_patch.proofs.Replacing.{behind_items, three_parts, C as replacing, Hold, Go, may_hold, may_go, place, x as block_there, out, behind, replaced_live}
use Rattle.law_patch.proofs.Restricting.{own, block_target, flat_from}
use Rattle.law_patch.proofs.Standing.{stands_at, distinct_at, block_at}
use Rattle.law_patch.proofs.Used.{flat_contains}
use Rattle.law_patch.proofs.MatchedBack.{same_lowers}

-- ITEMS IN PLACE OF SOME

-- at one place twice
twice : (items first second : List Item) (at n : ℕ) → at ≤ length items → replaced_items (replaced_items items at n first) at (length first) second ≡ replaced_items items at n second
twice items first second at n within =
    let front : length (take at items) ≡ at = length-take-le at items within in
    ap (λ is. is ++ (second ++ drop (at + length first) (replaced_items items at n first))) (take_at (take at items) (first ++ drop (at + n) items) at front)
    ∙ ap (λ is. take at items ++ (second ++ is)) (subst (λ k. drop (k + length first) (take at items ++ (first ++ drop (at + n) items)) ≡ drop (length first) (first ++ drop (at + n) items)) front (drop-append-add (take at items) (first ++ drop (at + n) items) (length first)) ∙ drop_at first (drop (at + n) items) (length first) refl)

pub blocks_twice : (bs : List Block) (name at n : ℕ) (first second : List Item) → at ≤ length (block_items (value_of (named bs) name))
    → with_blocks (λ b. record b { items = replaced_items b.items at (length first) second } ∷ []) (with_blocks (λ b. record b { items = replaced_items b.items at n first } ∷ []) bs name) name ≡ with_blocks (λ b. record b { items = replaced_items b.items at n second } ∷ []) bs name
blocks_twice [] name at n first second within = refl
blocks_twice (b ∷ bs) name at n first second within =
    elim (cases_Bool (b.name == name)) [
      | inl here ↦ rw (here, here) (ap (λ is. record b { items = is } ∷ bs) (twice b.items first second at n (rw here at within)))
      | inr apart ↦ rw (apart, apart) (ap (λ cs. b ∷ cs) (blocks_twice bs name at n first second (rw apart at within)))
    ]

-- and by themselves
pub blocks_own : (bs : List Block) (name at n : ℕ) (items : List Item) → slice_range (block_items (value_of (named bs) name)) at (at + n) ≡ items → with_blocks (λ b. record b { items = replaced_items b.items at n items } ∷ []) bs name ≡ bs
blocks_own [] name at n items same = refl
blocks_own (b ∷ bs) name at n items same =
    elim (cases_Bool (b.name == name)) [
      | inl here ↦ rw here (ap (λ is. record b { items = is } ∷ bs) (ap (λ is. take at b.items ++ (is ++ drop (at + n) b.items)) (sym (rw here at same) ∙ range_is b.items at n) ∙ three_parts b.items at n))
      | inr apart ↦ rw apart (ap (λ cs. b ∷ cs) (blocks_own bs name at n items (rw apart at same)))
    ]

-- items without calls call nothing whose link dies
plain_die : (h : Graph) (items : List Item) (lines : List Line) → All (λ item. item_calls item ≡ []) items → LinksDieIn h lines → LinksDieIn h (map line_of items ++ lines)
plain_die h [] lines none die = die
plain_die h (Op insn ∷ items) lines none die = plain_die h items lines (All-tail (λ (item : Item). item_calls item ≡ []) (Op insn) items none) die
plain_die h (Hi rd to ∷ items) lines none die = plain_die h items lines (All-tail (λ (item : Item). item_calls item ≡ []) (Hi rd to) items none) die
plain_die h (Lo rd rs to ∷ items) lines none die = plain_die h items lines (All-tail (λ (item : Item). item_calls item ≡ []) (Lo rd rs to) items none) die
plain_die h (Out q ∷ items) lines none die = absurd (let e : q ∷ [] ≡ [] = All-head (λ (item : Item). item_calls item ≡ []) (Out q) items none in cc)

-- Others stand for items that they match, and behind them both registers of each pair of different ones are dead.
module _ (g : Graph) (block at n : ℕ) (others : List Item) (rules : IsGraph g) (has : HasBlock g block) (within : at + n ≤ length (items_of g block)) (match : Match g.procedures (slice_range (items_of g block) at (at + n)) others) (pairs_die : PairsDie g.procedures (slice_range (items_of g block) at (at + n)) others (λ r. IsLive g r (place_lines g block (at + n)))) (plain : All (λ item. item_calls item ≡ []) others) where
  abbrev h : Graph
  h = replaced g block at n others

  abbrev C : Change
  C = replacing Matched StandsMatched (live g) (Unit {0}) g h rules refl refl

  abbrev x : Block
  x = block_there Matched StandsMatched (live g) (Unit {0}) g (live_carrier g) rules block at n others has

  abbrev later : List Line
  later = behind Matched StandsMatched (live g) (Unit {0}) g (live_carrier g) rules block at n others has

  abbrev before : List Item
  before = out Matched StandsMatched (live g) (Unit {0}) g (live_carrier g) rules block at n others has

  abbrev spot : IsAt g.blocks block
  spot = place Matched StandsMatched (live g) (Unit {0}) g (live_carrier g) rules block at n others has

  whole : spot.front ++ (x ∷ spot.back) ≡ g.blocks
  whole = sym spot.whole

  items_are : items_of g block ≡ x.items
  items_are = ap block_items (subst (λ k. value_of (named g.blocks) k ≡ Some x) spot.has_name (block_at g rules spot.front x spot.back whole))

  before_is : slice_range (items_of g block) at (at + n) ≡ before
  before_is = ap (λ items. slice_range items at (at + n)) items_are ∙ range_is x.items at n

  lines_are : block_lines g block ≡ body_lines x (lines_of spot.back)
  lines_are =
      subst (λ k. behind_name k (lines_of g.blocks) ≡ body_lines x (lines_of spot.back)) spot.has_name
      (subst (λ blocks. behind_name x.name (lines_of blocks) ≡ body_lines x (lines_of spot.back)) whole (name_at spot.front x spot.back (absent_from spot.front x spot.back (distinct_at g rules spot.front x spot.back whole))))

  in_items : at + n ≤ length x.items
  in_items = subst (λ items. at + n ≤ length items) items_are within

  behind_is : place_lines g block (at + n) ≡ later
  behind_is = ap (drop (at + n)) lines_are ∙ behind_items x.items (at + n) (term_lines x.term (lines_of spot.back)) in_items

  matches : Match g.procedures before others
  matches = subst (λ items. Match g.procedures items others) before_is match

  die : PairsDie g.procedures before others (live g later)
  die =
      subst (λ items. PairsDie g.procedures items others (live g later)) before_is
      (subst (λ lines. PairsDie g.procedures (slice_range (items_of g block) at (at + n)) others (live g lines)) behind_is pairs_die)

  abbrev Holds : ℕ → ℕ → Type 0
  Holds = Hold Matched StandsMatched (live g) (Unit {0}) g h rules refl refl

  abbrev Goes : ℕ → ℕ → Type 0
  Goes = Go Matched StandsMatched (live g) (Unit {0}) g h rules refl refl

  here : Contains g.blocks x
  here = stands_at g rules spot.front x spot.back whole

  inside : (item : Item) → Contains before item → Contains x.items item
  inside item c = drop_in x.items at item (take_in (drop at x.items) n item c)

  each : AreOf C own (ItemGoes C own) before
  each item c =
      items_stay Matched StandsMatched Holds Goes every (live g) (Unit {0}) g h rules refl refl (may_hold Matched StandsMatched (live g) (Unit {0}) g h rules refl refl) (may_go Matched StandsMatched (live g) (Unit {0}) g h rules refl refl) x here item (inside item c)

  stay : CallsStay C
  stay = calls_stay Matched StandsMatched Holds Goes every (live g) (Unit {0}) g h rules refl refl (may_hold Matched StandsMatched (live g) (Unit {0}) g h rules refl refl) (may_go Matched StandsMatched (live g) (Unit {0}) g h rules refl refl)

  free : (r s : ℕ) → IsPair g.procedures before others r s → is_register 0 s ≡ false
  free r s p = zero_register s

  alike : (b : Bool) → Alike C b None later later → Alike C b None (map line_of before ++ later) (map line_of others ++ later)
  alike b k =
      shift {m = None} {m' = Some (in_mode Holds Goes (live g) (Unit {0}) g h before others 0 matches free [])}
      (λ r s l e. at_first Holds Goes (live g) (Unit {0}) g h before others 0 matches free r s e)
      (matched Holds Goes (live g) (Unit {0}) g h before others 0 matches free stay b later later each
      (λ ws. shift (at_last Holds Goes (live g) (Unit {0}) g h before others 0 matches free ws later die (λ r l. zero_register r)) k))

  lowers : (m : ℕ) → Contains (flat_map lower_names others) m → Contains (code_targets g) m
  lowers m c =
      let o = flat_from lower_names before m (subst (λ ns. Contains ns m) (same_lowers before others matches.forms) c) in
      block_target g x m here (flat_contains lower_names x.items o.0 m (inside o.0 o.1.0) o.1.1)

  dies : Backs C own → Alike C true None later later → LinksDieIn g (map line_of before ++ later) → LinksDieIn h later → LinksDieIn h (map line_of others ++ later)
  dies backs k links links' = plain_die h others later plain links'

  -- no more is live in other blocks
  pub swapped_live : (other spot r : ℕ) → HasBlock g other → spot ≤ length (items_of g other) → other ≢ block → IsLive h r (place_lines h other spot) → IsLive g r (place_lines g other spot)
  swapped_live other spot r there l apart lives =
      replaced_live Matched StandsMatched (live g) (Unit {0}) g (live_carrier g) rules block at n others has alike lowers dies (λ xs r l. l) tt (let w = in_items in omega (arith, w)) other spot r there l (λ same. absurd (apart same)) lives
