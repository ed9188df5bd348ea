-- A graph with a call in place of items that match a procedure's body follows it.
use Rattle.std.proofs.Common.{◌≡◌, ◌≢◌, ℕ, ◌<◌, ◌≤◌, ◌+◌, Bool, true, false, not, ◌==◌, ⊎_elim, inl, inr, List, [], ◌∷◌, ◌++◌, Some, None, map, drop, length, slice_get, refl, sym, ap, ◌∙◌, subst, arith}
use Rattle.std.proofs.lemmas.Bool.{cases_eq, ne_eqb}
use Rattle.std.specs.List.{Contains, flat_map, slice_range}
use Rattle.sq_arena.specs.Entries.{value_of}
use Rattle.sq_isa.specs.Registers.{is_among_but_x0}
use Rattle.sq_graph.specs.declared.item.Item.{Item}
use Rattle.sq_graph.specs.declared.item.Item.TheVariants.{Op, Hi, Lo, Out}
use Rattle.sq_graph.specs.Graph.{Block, Procedure, Graph}
use Rattle.sq_graph.specs.Blocks.{HasBlock, named, block_items, items_of, body_of, procedure_body, procedure_link}
use Rattle.sq_graph.specs.Uses.{item_calls}
use Rattle.sq_graph.specs.Rules.{IsGraph, mentions, ProcedureFits}
use Rattle.sq_graph.specs.Lines.{Line, Return, line_of, term_lines, body_lines, lines_of, behind_name, block_lines, place_lines}
use Rattle.sq_graph.specs.Walks.{IsLive, is_register, lower_names, code_targets}
use Rattle.sq_graph.specs.Matches.{registers_of, IsPair, Match, PairsDie}
use Rattle.sq_graph.specs.Soundness.{LinksDieIn, IsSound}
use Rattle.sq_graph.proofs.Located.{IsAt}
use Rattle.law_follow.specs.Follows.{Follows}
use Rattle.law_patch.specs.Changes.{Change, Alike, enter_after, return_after, shift}
use Rattle.law_patch.specs.Calls.{IsMatching, call_items, called_there}
use Rattle.law_patch.proofs.Places.{every, absent_from, name_at}
use Rattle.law_patch.proofs.Dead.{live, live_carrier}
use Rattle.law_patch.proofs.Parts.{take_in, drop_in}
use Rattle.law_patch.proofs.Carrying.{same_some, AreOf, ItemGoes, Backs}
use Rattle.law_patch.proofs.Restricting.{own}
use Rattle.law_patch.proofs.Standing.{stands_at, distinct_at, block_at}
use Rattle.law_patch.proofs.Relating.{items_stay}
use Rattle.law_patch.proofs.Replacing.{behind_items, C as replacing, Hold, Go, may_hold, may_go, place, x as block_there, out, behind, replaced_follows, replaced_sound, replaced_live, replaced_moves}
use Rattle.law_patch.proofs.Calls.{range_is, is_other, not_both}
use Rattle.law_patch.proofs.Matching.{Matched, StandsMatched, CallsStay, calls_stay, at as in_mode, matched, at_first, at_last, among_others}
use Rattle.law_patch.proofs.Used.{contains_first, contains_later, from_slice, slice_there, from_all, body_calls_none}

-- a register that stands in a pair of some items and others, which are no Outs, is mentioned by one of the others
mentioned : (procedures : List Procedure) (item : Item) (r : ℕ) → item_calls item ≡ [] → is_among_but_x0 (registers_of procedures item) r ≡ true → mentions item r ≡ true
mentioned procedures (Op insn) r none e = e
mentioned procedures (Hi rd to) r none e = e
mentioned procedures (Lo rd rs to) r none e = e
mentioned procedures (Out q) r none e = absurd (cc)

pair_mentioned : (procedures : List Procedure) (items others : List Item) (r s : ℕ) → ((item : Item) → Contains others item → item_calls item ≡ []) → IsPair procedures items others r s → s ≢ 0 → (item : Item) × (Contains others item × (mentions item s ≡ true))
pair_mentioned ps [] others r s none p nz = absurd p
pair_mentioned ps (i ∷ items) [] r s none p nz = absurd p
pair_mentioned ps (i ∷ items) (j ∷ others) r s none (inl p) nz = (j, (contains_first j others, mentioned ps j s (none j (contains_first j others)) (among_others (registers_of ps i) (registers_of ps j) r s p nz)))
pair_mentioned ps (i ∷ items) (j ∷ others) r s none (inr p) nz = let o = pair_mentioned ps items others r s (λ item c. none item (contains_later j item others c)) p nz in (o.0, (contains_later j o.0 others o.1.0, o.1.1))

module _ (g : Graph) (block at procedure : ℕ) (rules : IsGraph g) (callable : IsMatching g block at procedure) where
  abbrev many : ℕ
  many = length (body_of g procedure)

  abbrev by : List Item
  by = Out procedure ∷ []

  abbrev h : Graph
  h = called_there g block at procedure

  abbrev C : Change
  C = replacing Matched StandsMatched (live g) (Unit {0}) g h rules refl refl

  abbrev x : Block
  x = block_there Matched StandsMatched (live g) (Unit {0}) g (live_carrier g) rules block at many by callable.block_there

  abbrev later : List Line
  later = behind Matched StandsMatched (live g) (Unit {0}) g (live_carrier g) rules block at many by callable.block_there

  abbrev before : List Item
  before = out Matched StandsMatched (live g) (Unit {0}) g (live_carrier g) rules block at many by callable.block_there

  abbrev spot : IsAt g.blocks block
  spot = place Matched StandsMatched (live g) (Unit {0}) g (live_carrier g) rules block at many by callable.block_there

  -- the procedure, and its body
  found : (p : Procedure) × (slice_get g.procedures procedure ≡ Some p)
  found = slice_there g.procedures procedure callable.procedure_there

  abbrev p : Procedure
  p = found.0

  here : Contains g.procedures p
  here = from_slice g.procedures procedure p found.1

  fits : ProcedureFits p
  fits = from_all ProcedureFits g.procedures p rules.procedures here

  body_is : body_of g procedure ≡ p.body
  body_is = ap procedure_body found.1

  whole : spot.front ++ (x ∷ spot.back) ≡ g.blocks
  whole = sym spot.whole

  items_are : items_of g block ≡ x.items
  items_are = ap block_items (subst (λ k. value_of (named g.blocks) k ≡ Some x) spot.has_name (block_at g rules spot.front x spot.back whole))

  before_is : call_items g block at procedure ≡ before
  before_is = ap (λ items. slice_range items at (at + many)) items_are ∙ range_is x.items at many

  match : Match g.procedures before p.body
  match = subst (λ items. Match g.procedures items p.body) before_is (subst (λ body. Match g.procedures (call_items g block at procedure) body) body_is callable.match)

  lines_are : block_lines g block ≡ body_lines x (lines_of spot.back)
  lines_are =
      subst (λ k. behind_name k (lines_of g.blocks) ≡ body_lines x (lines_of spot.back)) spot.has_name
      (subst (λ blocks. behind_name x.name (lines_of blocks) ≡ body_lines x (lines_of spot.back)) whole (name_at spot.front x spot.back (absent_from spot.front x spot.back (distinct_at g rules spot.front x spot.back whole))))

  behind_is : place_lines g block (at + many) ≡ later
  behind_is = ap (drop (at + many)) lines_are ∙ behind_items x.items (at + many) (term_lines x.term (lines_of spot.back)) (subst (λ items. at + many ≤ length items) items_are callable.within)

  -- the link is dead behind the items, and so are pairs of two registers
  dead : ¬ IsLive g p.link later
  dead = subst (λ lines. ¬ IsLive g p.link lines) behind_is (callable.link_dies p.link (ap procedure_link found.1))

  pairs_die : PairsDie g.procedures before p.body (live g later)
  pairs_die =
      subst (λ items. PairsDie g.procedures items p.body (live g later)) before_is
      (subst (λ body. PairsDie g.procedures (call_items g block at procedure) body (live g later)) body_is
      (subst (λ lines. PairsDie g.procedures (call_items g block at procedure) (body_of g procedure) (live g lines)) behind_is callable.pairs_die))

  -- no register of the body is the link
  free : (r s : ℕ) → IsPair g.procedures before p.body r s → is_register p.link s ≡ false
  free r s q =
      ⊎_elim
      (λ (e : p.link ≡ s).
      let o = pair_mentioned g.procedures before p.body r s (λ item c. body_calls_none g rules p item here c) q (λ z. fits.link (e ∙ z)) in
      let none : mentions o.0 p.link ≡ false = from_all (λ item. mentions item p.link ≡ false) p.body o.0 fits.no_mention o.1.0 in
      absurd (let some : mentions o.0 p.link ≡ true = subst (λ k. mentions o.0 k ≡ true) (sym e) o.1.1 in cc))
      (λ (e : p.link ≢ s). let t : (p.link == s) ≡ false = ne_eqb p.link s e in rw t (not_both (not (s == 0)))) (cases_eq p.link s)

  abbrev Holds : ℕ → ℕ → Type 0
  Holds = Hold Matched StandsMatched (live g) (Unit {0}) g h rules refl refl

  abbrev Goes : ℕ → ℕ → Type 0
  Goes = Go Matched StandsMatched (live g) (Unit {0}) g h rules refl refl

  each : AreOf C own (ItemGoes C own) before
  each item c =
      items_stay Matched StandsMatched Holds Goes every (live g) (Unit {0}) g h rules refl refl (may_hold Matched StandsMatched (live g) (Unit {0}) g h rules refl refl) (may_go Matched StandsMatched (live g) (Unit {0}) g h rules refl refl) x (stands_at g rules spot.front x spot.back whole) item
      (drop_in x.items at item (take_in (drop at x.items) many item c))

  stay : CallsStay C
  stay = calls_stay Matched StandsMatched Holds Goes every (live g) (Unit {0}) g h rules refl refl (may_hold Matched StandsMatched (live g) (Unit {0}) g h rules refl refl) (may_go Matched StandsMatched (live g) (Unit {0}) g h rules refl refl)

  -- the items go on like the call
  calls : (b : Bool) → Alike C b None later later → Alike C b None (map line_of before ++ later) (map line_of by ++ later)
  calls b k =
      enter_after {m = None} {m' = Some (in_mode Holds Goes (live g) (Unit {0}) g h before p.body p.link match free [])} tt p found.1
      (λ r s l n. (n.link, at_first Holds Goes (live g) (Unit {0}) g h before p.body p.link match free r s n))
      (matched Holds Goes (live g) (Unit {0}) g h before p.body p.link match free stay b later (Return p.link ∷ later) each
      (λ ws. return_after tt (shift (at_last Holds Goes (live g) (Unit {0}) g h before p.body p.link match free ws later pairs_die (λ r l. is_other g p.link r later dead l)) k)))

  no_lowers : (m : ℕ) → Contains (flat_map lower_names by) m → Contains (code_targets g) m
  no_lowers m c = absurd (let l : c.0 < 0 = c.1 in omega arith)

  dies : Backs C own → Alike C true None later later → LinksDieIn g (map line_of before ++ later) → LinksDieIn h later → LinksDieIn h (map line_of by ++ later)
  dies backs k die die' = (
    (λ q e live.
        let same : q ≡ p = same_some q p (sym e ∙ found.1) in
        let o = backs q.link later live true None later k in
        let is : q.link ≡ o.0 = o.1.0 in
        dead (subst (λ r. IsLive g r later) (sym is ∙ ap (λ (d : Procedure). d.link) same) o.1.1)),
    die',
  )

  pub match_follows : Follows g h
  match_follows = replaced_follows Matched StandsMatched (live g) (Unit {0}) g (live_carrier g) rules block at many by callable.block_there calls no_lowers dies

  pub match_sound : IsSound g → IsSound h
  match_sound sound = replaced_sound Matched StandsMatched (live g) (Unit {0}) g (live_carrier g) rules block at many by callable.block_there calls no_lowers dies (λ xs r l. l) tt sound

  -- the items begin in the block
  begin : at ≤ length x.items
  begin = let l : at + many ≤ length x.items = subst (λ items. at + many ≤ length items) items_are callable.within in omega (arith, l)

  -- no more is live in other blocks, and in this one up to the items
  pub match_live : (other spot r : ℕ) → HasBlock g other → spot ≤ length (items_of g other) → (other ≡ block → spot ≤ at) → IsLive h r (place_lines h other spot) → IsLive g r (place_lines g other spot)
  match_live other spot r has l ahead_of lives =
      replaced_live Matched StandsMatched (live g) (Unit {0}) g (live_carrier g) rules block at many by callable.block_there calls no_lowers dies (λ xs r l. l) tt begin other spot r has l ahead_of lives

  -- nor behind them
  pub match_moves : (spot r : ℕ) → (at + many) + spot ≤ length (items_of g block) → IsLive h r (place_lines h block ((at + 1) + spot)) → IsLive g r (place_lines g block ((at + many) + spot))
  match_moves spot r l lives =
      replaced_moves Matched StandsMatched (live g) (Unit {0}) g (live_carrier g) rules block at many by callable.block_there calls no_lowers dies (λ xs r l. l) tt (subst (λ items. at + many ≤ length items) items_are callable.within) spot r l lives
