-- A graph in which a jump by an upper half became a shorter one, and the upper half went, follows it.
use Rattle.std.proofs.Common.{◌≡◌, ℕ, zero, suc, ◌+◌, ◌≤◌, true, false, ◌==◌, inl, inr, List, [], ◌∷◌, ◌++◌, Some, None, IsSome, map, drop, length, slice_get, refl, sym, ap, ◌∙◌, subst, arith}
use Rattle.std.proofs.lemmas.Bool.{cases_Bool, cases_eq, ne_eqb}
use Rattle.std.proofs.lemmas.List.{drop_all}
use Rattle.std.proofs.lemmas.List.Elements.{All-nil, All-cons}
use Rattle.std.specs.List.{All, Contains}
use Rattle.sq_arena.specs.Entries.{value_of, first_key, behind as entries_behind}
use Rattle.sq_graph.specs.declared.item.Item.TheVariants.{Hi}
use Rattle.sq_graph.specs.declared.item.Term.{Term}
use Rattle.sq_graph.specs.declared.item.Term.TheVariants.{PartJump}
use Rattle.sq_graph.specs.Graph.{Block, Graph}
use Rattle.sq_graph.specs.Blocks.{named, HasBlock, block_of, block_items, items_of, block_term, next_of}
use Rattle.sq_graph.specs.Terms.{goes_on}
use Rattle.sq_graph.specs.Uses.{term_uses}
use Rattle.sq_graph.specs.Rules.{IsGraph, TermFits, last_goes_on}
use Rattle.sq_graph.specs.Operations.{with_blocks, with_term, replaced, replaced_items}
use Rattle.sq_graph.specs.Lines.{Line, Name, Do, Enter, Return, End, line_of, term_lines, body_lines, lines_of, behind_name, block_lines, place_lines}
use Rattle.sq_graph.specs.Walks.{IsLive, read_here, live_behind, is_register, line_reads}
use Rattle.sq_graph.specs.Soundness.{IsSound}
use Rattle.sq_graph.proofs.Located.{IsAt, located}
use Rattle.sq_graph.proofs.Fitting.{term_fits}
use Rattle.sq_graph.proofs.Changes.{with_blocks-at}
use Rattle.sq_graph.proofs.SplitRules.{last_goes_on-append}
use Rattle.sq_graph.proofs.OperationRules.{with_term_rules}
use Rattle.law_follow.specs.Follows.{Follows}
use Rattle.law_follow.proofs.Following.{graph_follows_through}
use Rattle.law_patch.specs.Operations.{hastened, IsShortable, shortened}
use Rattle.law_patch.proofs.Shrink.{no_sources}
use Rattle.law_patch.proofs.Places.{absent_from, found_at, next_at, name_at}
use Rattle.law_patch.proofs.Leading.{others_same}
use Rattle.law_patch.proofs.Carrying.{same_some}
use Rattle.law_patch.proofs.Replacing.{behind_items}
use Rattle.law_patch.proofs.Standing.{stands_at, distinct_at, block_at, there_by_term}
use Rattle.law_patch.proofs.Matching.{is_itself, zero_register}
use Rattle.law_patch.proofs.OneBlock.{hasten_live, hasten_place, drop_live, hasten_sound, drop_sound, hasten_follows, drop_follows}
use Rattle.law_patch.proofs.Used.{contains_first, term_used}

-- x0 is nowhere live
zero_read : (line : Line) → line_reads line 0 ≡ true → ⊥
zero_read (Name n) e = cc
zero_read (Do half insn) e = cc
zero_read (Enter q) e = cc
zero_read (Return r) e = cc
zero_read (End t) e = cc

zero_dead : (h : Graph) {lines : List Line} → IsLive h 0 lines → ⊥
zero_dead h (read_here {line = line} e) = zero_read line e
zero_dead h (live_behind w g l) = zero_dead h l

-- what is live before a jump of a single word is not its link, and live at the target
hastened_live : (h : Graph) (link to r : ℕ) (rest : List Line) → IsLive h r (term_lines (hastened link to) rest) → (is_register link r ≡ false) × IsLive h r (block_lines h to)
hastened_live h zero to r rest (read_here e) = absurd (no_sources r e)
hastened_live h zero to r rest (live_behind w e l) = (zero_register r, subst (λ lines. IsLive h r lines) e l)
hastened_live h (suc link) to r rest (read_here e) = absurd (no_sources r e)
hastened_live h (suc link) to r rest (live_behind w e l) = (w, subst (λ lines. IsLive h r lines) e l)

-- it fits as the longer jump did
pub hastened_fits : (link part to : ℕ) → TermFits (PartJump link part to) → TermFits (hastened link to)
hastened_fits zero part to fits = tt
hastened_fits (suc link) part to fits = (fits.0, λ e. absurd (cc))

-- the order of the two doesn't matter
commute : (p q : Block → Block) (bs : List Block) (name : ℕ) → ((b : Block) → (p b).name ≡ b.name) → ((b : Block) → (q b).name ≡ b.name) → ((b : Block) → p (q b) ≡ q (p b)) → with_blocks (λ b. p b ∷ []) (with_blocks (λ b. q b ∷ []) bs name) name ≡ with_blocks (λ b. q b ∷ []) (with_blocks (λ b. p b ∷ []) bs name) name
commute p q [] name a b c = refl
commute p q (x ∷ bs) name a b c =
    elim (cases_Bool (x.name == name)) [
      | inl here ↦
          let first : ((p x).name == name) ≡ true = ap (λ n. n == name) (a x) ∙ here in
          let second : ((q x).name == name) ≡ true = ap (λ n. n == name) (b x) ∙ here in
          rw here (rw (first, second) (ap (λ y. y ∷ bs) (c x)))
      | inr apart ↦ rw apart (rw apart (ap (λ ys. x ∷ ys) (commute p q bs name a b c)))
    ]

module _ (g : Graph) (block at link part to : ℕ) (rules : IsGraph g) (can : IsShortable g block at link part to) where
  abbrev new : Term
  new = hastened link to

  abbrev h : Graph
  h = with_term g block new

  spot : IsAt g.blocks block
  spot = located g.blocks block (there_by_term (block_of g block) (PartJump link part to) can.jump)

  abbrev x : Block
  x = spot.block

  abbrev y : Block
  y = record x { term = new }

  abbrev back : List Block
  back = spot.back

  whole : spot.front ++ (x ∷ back) ≡ g.blocks
  whole = sym spot.whole

  after : spot.front ++ (y ∷ back) ≡ h.blocks
  after = sym (with_blocks-at (λ b. record b { term = new } ∷ []) g.blocks block spot)

  found : block_of g block ≡ Some x
  found = subst (λ k. value_of (named g.blocks) k ≡ Some x) spot.has_name (block_at g rules spot.front x back whole)

  jump_is : x.term ≡ PartJump link part to
  jump_is = same_some x.term (PartJump link part to) (sym (ap block_term found) ∙ can.jump)

  absent : value_of (named spot.front) x.name ≡ None
  absent = absent_from spot.front x back (distinct_at g rules spot.front x back whole)

  -- the graph with the shorter jump is one
  target_there : HasBlock g to
  target_there = term_used g rules x to (stands_at g rules spot.front x back whole) (subst (λ t. Contains (term_uses t) to) (sym jump_is) (contains_first to []))

  uses_there : (l : ℕ) → All (HasBlock g) (term_uses (hastened l to))
  uses_there zero = All-cons (HasBlock g) to [] target_there (All-nil (HasBlock g))
  uses_there (suc l) = All-cons (HasBlock g) to [] target_there (All-nil (HasBlock g))

  goes_as_was : (l : ℕ) → goes_on (hastened l to) ≡ true → goes_on (PartJump l part to) ≡ true
  goes_as_was zero e = absurd (cc)
  goes_as_was (suc l) e = let n : (suc l == 0) ≡ false = ne_eqb (suc l) 0 (λ i. absurd (cc)) in rw n refl

  next_there : goes_on new ≡ true → IsSome (next_of g block)
  next_there e = by_back back refl
    where
      goes : goes_on x.term ≡ true
      goes = ap goes_on jump_is ∙ goes_as_was link e

      by_back : (bs : List Block) → bs ≡ back → IsSome (next_of g block)
      by_back [] i =
          let last : last_goes_on (spot.front ++ (x ∷ [])) ≡ false = ap (λ cs. last_goes_on (spot.front ++ (x ∷ cs))) i ∙ ap last_goes_on whole ∙ rules.ends in
          absurd (let k : goes_on x.term ≡ false = sym (last_goes_on-append spot.front x []) ∙ last in let m : goes_on x.term ≡ true = goes in cc)
      by_back (w ∷ bs) i =
          let next : entries_behind (named g.blocks) block ≡ named back = subst (λ k. entries_behind (named g.blocks) k ≡ named back) spot.has_name (subst (λ cs. entries_behind (named cs) x.name ≡ named back) whole (next_at spot.front x back absent)) in
          subst IsSome (sym (ap first_key next ∙ ap (λ cs. first_key (named cs)) (sym i))) refl

  h_rules : IsGraph h
  h_rules = with_term_rules g block new rules (subst IsSome (sym found) refl) (hastened_fits link part to (term_fits g block (PartJump link part to) rules can.jump)) (uses_there link) next_there

  -- what stands in it behind the upper half
  items_same : items_of h block ≡ x.items
  items_same =
      ap block_items (subst (λ k. value_of (named h.blocks) k ≡ Some y) spot.has_name (subst (λ cs. value_of (named cs) x.name ≡ Some y) after (found_at spot.front y back absent)))

  half_there : slice_get (items_of h block) at ≡ Some (Hi part to)
  half_there = ap (λ items. slice_get items at) items_same ∙ sym (ap (λ o. slice_get (block_items o) at) found) ∙ can.half

  lines_are : block_lines h block ≡ body_lines y (lines_of back)
  lines_are =
      subst (λ k. behind_name k (lines_of h.blocks) ≡ body_lines y (lines_of back)) spot.has_name
      (subst (λ cs. behind_name x.name (lines_of cs) ≡ body_lines y (lines_of back)) after (name_at spot.front y back absent))

  length_is : at + 1 ≡ length x.items
  length_is = can.last ∙ ap (λ o. length (block_items o)) found

  behind_is : place_lines h block (at + 1) ≡ term_lines new (lines_of back)
  behind_is =
      ap (drop (at + 1)) lines_are
      ∙ behind_items x.items (at + 1) (term_lines new (lines_of back)) (omega (arith, length_is))
      ∙ ap (λ items. map line_of items ++ term_lines new (lines_of back)) (drop_all (at + 1) x.items (omega (arith, length_is)))

  -- there its register is dead
  is_link : (p l : ℕ) → p ≡ l → is_register l p ≡ false → IsLive h p (block_lines h to) → ⊥
  is_link p zero e w live = zero_dead h (subst (λ r. IsLive h r (block_lines h to)) e live)
  is_link p (suc l) e w live = let t : is_register (suc l) p ≡ true = subst (λ r. is_register (suc l) r ≡ true) (sym e) (is_itself l) in cc

  dead : ¬ IsLive h part (place_lines h block (at + 1))
  dead live =
      let o = hastened_live h link to part (lines_of back) (subst (λ lines. IsLive h part lines) behind_is live) in
      elim can.dead [
        | inl same ↦ is_link part link same o.0 o.1
        | inr gone ↦ gone (hasten_live g block link part to rules can.jump part to o.1)
      ]

  same_graph : replaced h block at 1 [] ≡ shortened g block at link to
  same_graph =
      ap (λ bs. record g { blocks = bs })
      (commute (λ b. record b { items = replaced_items b.items at 1 [] }) (λ b. record b { term = new }) g.blocks block (λ b. refl) (λ b. refl) (λ b. refl))

  pub shorten_follows : Follows g (shortened g block at link to)
  shorten_follows =
      subst (λ k. Follows g k) same_graph
      (graph_follows_through g h (replaced h block at 1 []) (hasten_follows g block link part to rules can.jump) (drop_follows h block at part to h_rules half_there dead))

  pub shorten_sound : IsSound g → IsSound (shortened g block at link to)
  shorten_sound sound =
      subst IsSound same_graph (drop_sound h block at part to h_rules half_there dead (hasten_sound g block link part to rules can.jump sound))

  -- a block of the graph is one of that with the shorter jump, with as many items
  other_items : (other : ℕ) → HasBlock g other → HasBlock h other × (items_of h other ≡ items_of g other)
  other_items other has =
      elim (cases_eq other block) [
        | inl here ↦
            let is : block_of h block ≡ Some y = subst (λ k. value_of (named h.blocks) k ≡ Some y) spot.has_name (subst (λ cs. value_of (named cs) x.name ≡ Some y) after (found_at spot.front y back absent)) in
            (subst (λ k. HasBlock h k) (sym here) (subst IsSome (sym is) refl), ap (items_of h) here ∙ items_same ∙ sym (ap block_items found) ∙ sym (ap (items_of g) here))
        | inr differs ↦
            let same : block_of h other ≡ block_of g other =
            ap (λ bs. value_of (named bs) other) (sym after) ∙ others_same spot.front x y back other refl (λ e. differs (e ∙ spot.has_name)) ∙ ap (λ bs. value_of (named bs) other) whole in
            (subst IsSome (sym same) has, ap block_items same)
      ]

  -- no more is live in other blocks, and in this one up to the half
  pub shorten_live : (other place r : ℕ) → HasBlock g other → place ≤ length (items_of g other) → (other ≡ block → place ≤ at) → IsLive (shortened g block at link to) r (place_lines (shortened g block at link to) other place) → IsLive g r (place_lines g other place)
  shorten_live other place r has l ahead_of live =
      let there = other_items other has in
      hasten_place g block link part to rules can.jump other place r l
      (drop_live h block at part to h_rules half_there dead other place r there.0 (subst (λ items. place ≤ length items) (sym there.1) l) ahead_of
      (subst (λ (k : Graph). IsLive k r (place_lines k other place)) (sym same_graph) live))
