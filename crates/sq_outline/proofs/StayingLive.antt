-- What is live at a place of another block stays live when items become a call of a procedure whose body they match: the call is
-- replaced by that body, and the body by the items again, which it matches as well.
use Rattle.std.proofs.Common.{◌≡◌, ◌≢◌, ℕ, ◌<◌, ◌≤◌, ◌+◌, List, [], ◌∷◌, ◌++◌, Option, None, Some, IsSome, map, take, drop, length, slice_get, length-append, inl, inr, refl, sym, ap, ◌∙◌, subst, arith}
use Rattle.std.specs.Prelude.{option_map}
use Rattle.std.specs.List.{All, Contains, slice_range}
use Rattle.std.proofs.lemmas.List.{take_at, drop_at, length-take-le}
use Rattle.std.proofs.lemmas.Option.{slice_get_within}
use Rattle.std.proofs.lemmas.List.Elements.{Contains-append_cases, Contains-append_left}
use Rattle.sq_graph.specs.declared.item.Item.{Item}
use Rattle.sq_graph.specs.declared.item.Item.TheVariants.{Out}
use Rattle.sq_graph.specs.Graph.{Block, Procedure, Graph}
use Rattle.sq_graph.specs.Blocks.{HasBlock, HasProcedure, block_of, block_items, items_of, items_of_blocks, items_of_bodies, all_items, body_of, procedure_body, link_of}
use Rattle.sq_graph.specs.Lines.{place_lines}
use Rattle.sq_graph.specs.Matches.{Match, PairsDie}
use Rattle.sq_graph.specs.Operations.{replaced_items, replaced, call_of, called_body, inlined, outlined}
use Rattle.sq_graph.specs.Renames.{recalled_block}
use Rattle.sq_graph.specs.Rules.{IsGraph, ProcedureFits}
use Rattle.sq_graph.specs.Uses.{calls, item_calls}
use Rattle.sq_graph.specs.Walks.{IsLive}
use Rattle.sq_graph.proofs.OperationRules.{inlined_rules}
use Rattle.sq_layout.proofs.Standing.{block_of-changed, block_of-changed_here}
use Rattle.law_patch.specs.Calls.{IsMatching, call_items, called_there}
use Rattle.law_patch.proofs.Calls.{range_is}
use Rattle.law_patch.proofs.Carrying.{same_some}
use Rattle.law_patch.proofs.MatchedCalls.{match_moves}
use Rattle.law_patch.proofs.OneBlock.{inline_live_by, inline_moves_by}
use Rattle.law_patch.proofs.Recalling.{IsRenumbered, renumbered_live}
use Rattle.law_patch.proofs.Renaming.{still_there}
use Rattle.law_patch.proofs.Restricting.{own, procedure_target, flat_from}
use Rattle.law_patch.proofs.Standing.{own_called_block, own_called_procedure}
use Rattle.law_patch.proofs.Used.{from_slice, from_all, slice_there, item_called, body_calls_none}
use Rattle.law_patch.proofs.MatchedBack.{match_back, dies_back, same_plain}
use Rattle.law_patch.proofs.MatchedItems.{blocks_twice, blocks_own, swapped_live}

abbrev changed : ℕ → ℕ → List Item → Block → Block
changed at n by b = record b { items = replaced_items b.items at n by }

items_change : (at n : ℕ) (by : List Item) (o : Option Block) → IsSome o → block_items (option_map (changed at n by) o) ≡ replaced_items (block_items o) at n by
items_change at n by None some = absurd (cc)
items_change at n by (Some b) some = refl

some_stays : (f : Block → Block) (o : Option Block) → IsSome o → IsSome (option_map f o)
some_stays f None some = some
some_stays f (Some b) some = refl

one_there : (front back : List Item) (item : Item) (at : ℕ) → length front ≡ at → slice_get (front ++ item ∷ back) at ≡ Some item
one_there [] back item at long = ap (λ k. slice_get (item ∷ back) k) (sym long)
one_there (first ∷ front) back item at long = ap (λ k. slice_get (first ∷ (front ++ item ∷ back)) k) (sym long) ∙ one_there front back item (length front) refl

module _ (g : Graph) (block at n : ℕ) (by : List Item) (has : HasBlock g block) where
  here_changed : block_of (replaced g block at n by) block ≡ option_map (changed at n by) (block_of g block)
  here_changed = block_of-changed_here (changed at n by) g.blocks block (λ b. refl)

  has_still : HasBlock (replaced g block at n by) block
  has_still = subst IsSome (sym here_changed) (some_stays (changed at n by) (block_of g block) has)

  items_changed : items_of (replaced g block at n by) block ≡ replaced_items (items_of g block) at n by
  items_changed = ap block_items here_changed ∙ items_change at n by (block_of g block) has

  elsewhere_same : (other : ℕ) → other ≢ block → block_of (replaced g block at n by) other ≡ block_of g other
  elsewhere_same other apart = block_of-changed (changed at n by) g.blocks block other (λ b. refl) apart

module _ (g : Graph) (block at procedure : ℕ) (rules : IsGraph g) (still : IsGraph (called_there g block at procedure)) (can : IsMatching g block at procedure) where
  abbrev many : ℕ
  many = length (body_of g procedure)

  abbrev body : List Item
  body = body_of g procedure

  abbrev items : List Item
  items = call_items g block at procedure

  abbrev call : List Item
  call = Out procedure ∷ []

  abbrev called : Graph
  called = called_there g block at procedure

  -- with the body in place of the items
  abbrev bodied : Graph
  bodied = replaced g block at many body

  in_block : at ≤ length (items_of g block)
  in_block = let l = can.within in omega (arith, l)

  there : slice_get (items_of called block) at ≡ Some (Out procedure)
  there =
      subst (λ is. slice_get is at ≡ Some (Out procedure)) (sym (items_changed g block at many call can.block_there))
      (one_there (take at (items_of g block)) (drop (at + many) (items_of g block)) (Out procedure) at (length-take-le at (items_of g block) in_block))

  is_bodied : inlined called block at ≡ bodied
  is_bodied =
      ap (λ o. replaced called block at 1 (called_body called (call_of o))) there
      ∙ ap (λ bs. record g { blocks = bs }) (blocks_twice g.blocks block at many call body in_block)

  back : replaced bodied block at many items ≡ g
  back = ap (λ bs. record g { blocks = bs }) (blocks_twice g.blocks block at many body items in_block ∙ blocks_own g.blocks block at many items refl)

  bodied_rules : IsGraph bodied
  bodied_rules = subst IsGraph is_bodied (inlined_rules called block at still (has_still g block at many call can.block_there))

  -- behind the call, where the items end
  behind_call : (r : ℕ) → IsLive called r (place_lines called block (at + 1)) → IsLive g r (place_lines g block (at + many))
  behind_call r lives =
      let l = can.within in
      let e : at + 1 ≡ (at + 1) + 0 = omega arith in
      let f : (at + many) + 0 ≡ at + many = omega arith in
      subst (λ k. IsLive g r (place_lines g block k)) f (match_moves g block at procedure rules can 0 r (omega (arith, l)) (subst (λ k. IsLive called r (place_lines called block k)) e lives))

  link_dead : Unit {0} → (link : ℕ) → link_of called procedure ≡ Some link → ¬ IsLive called link (place_lines called block (at + 1))
  link_dead u link is lives = can.link_dies link is (behind_call link lives)

  -- and where the body ends
  behind_body : (r : ℕ) → IsLive bodied r (place_lines bodied block (at + many)) → IsLive g r (place_lines g block (at + many))
  behind_body r lives =
      let l = slice_get_within (items_of called block) at (Out procedure) there in
      let e : at + many ≡ (at + many) + 0 = omega arith in
      let f : (at + 1) + 0 ≡ at + 1 = omega arith in
      behind_call r (subst (λ k. IsLive called r (place_lines called block k)) f
      (inline_moves_by called block at procedure still there (Unit {0}) link_dead tt 0 r (omega (arith, l))
      (subst (λ (k : Graph). IsLive k r (place_lines k block ((at + many) + 0))) (sym is_bodied) (subst (λ k. IsLive bodied r (place_lines bodied block k)) e lives))))

  bodied_items : items_of bodied block ≡ replaced_items (items_of g block) at many body
  bodied_items = items_changed g block at many body can.block_there

  front : length (take at (items_of g block)) ≡ at
  front = length-take-le at (items_of g block) in_block

  slice_is : slice_range (items_of bodied block) at (at + many) ≡ body
  slice_is =
      ap (λ is. slice_range is at (at + many)) bodied_items
      ∙ range_is (replaced_items (items_of g block) at many body) at many
      ∙ ap (take many) (drop_at (take at (items_of g block)) (body ++ drop (at + many) (items_of g block)) at front)
      ∙ take_at body (drop (at + many) (items_of g block)) many refl

  fits_within : at + many ≤ length (items_of bodied block)
  fits_within =
      let whole = ap length bodied_items in
      let first = length-append (take at (items_of g block)) (body ++ drop (at + many) (items_of g block)) in
      let second = length-append body (drop (at + many) (items_of g block)) in
      let f = front in omega (arith, whole, first, second, f)

  -- the body matches the items, too
  matches_back : Match g.procedures body items
  matches_back = match_back g.procedures items body can.match

  calls_none : All (λ item. item_calls item ≡ []) items
  calls_none =
      let p = slice_there g.procedures procedure can.procedure_there in
      let fits = from_all ProcedureFits g.procedures p.0 rules.procedures (from_slice g.procedures procedure p.0 p.1) in
      same_plain body items matches_back.forms (subst (λ (is : List Item). All (λ item. item_calls item ≡ []) is) (sym (ap procedure_body p.1)) fits.no_calls)

  die_behind : PairsDie g.procedures body items (λ r. IsLive bodied r (place_lines bodied block (at + many)))
  die_behind r s p unlike =
      let d = dies_back g.procedures items body (λ r. IsLive g r (place_lines g block (at + many))) can.pairs_die r s p unlike in
      ((λ lives. d.0 (behind_body r lives)), (λ lives. d.1 (behind_body s lives)))

  pub called_lives : (other spot r : ℕ) → HasBlock g other → other ≢ block → spot ≤ length (items_of g other) → IsLive g r (place_lines g other spot) → IsLive called r (place_lines called other spot)
  called_lives other spot r has apart l lives =
      let in_bodied : block_of bodied other ≡ block_of g other = elsewhere_same g block at many body can.block_there other apart in
      let in_called : block_of called other ≡ block_of g other = elsewhere_same g block at many call can.block_there other apart in
      let with_body : IsLive bodied r (place_lines bodied other spot) =
      swapped_live bodied block at many items bodied_rules (has_still g block at many body can.block_there) fits_within
      (subst (λ (is : List Item). Match g.procedures is items) (sym slice_is) matches_back)
      (subst (λ (is : List Item). PairsDie g.procedures is items (λ r. IsLive bodied r (place_lines bodied block (at + many)))) (sym slice_is) die_behind)
      calls_none other spot r (subst IsSome (sym in_bodied) has) (subst (λ o. spot ≤ length (block_items o)) (sym in_bodied) l) apart
      (subst (λ (k : Graph). IsLive k r (place_lines k other spot)) (sym back) lives) in
      inline_live_by called block at procedure still there (Unit {0}) link_dead tt other spot r (subst IsSome (sym in_called) has) (subst (λ o. spot ≤ length (block_items o)) (sym in_called) l) (λ same. absurd (apart same))
      (subst (λ (k : Graph). IsLive k r (place_lines k other spot)) (sym is_bodied) with_body)

-- A PROCEDURE MORE

module _ (g : Graph) (block at size link : ℕ) (rules : IsGraph g) (still : IsGraph (outlined g block at size link)) where
  abbrev more : Graph
  more = outlined g block at size link

  same_blocks : (bs : List Block) → bs ≡ map (recalled_block own) bs
  same_blocks [] = refl
  same_blocks (b ∷ bs) = ap (λ c. c ∷ bs) (sym (own_called_block b)) ∙ ap (λ cs. recalled_block own b ∷ cs) (same_blocks bs)

  -- what calls the new procedure would stand in a block
  was_called : (q : ℕ) → Contains (calls more) q → HasProcedure g q
  was_called q c =
      let o = flat_from item_calls (all_items more) q c in
      elim (Contains-append_cases (items_of_blocks g.blocks) (items_of_bodies more.procedures) o.0 o.1.0) [
        | inl stands ↦ item_called g rules o.0 q (Contains-append_left (items_of_blocks g.blocks) (items_of_bodies g.procedures) o.0 stands) o.1.1
        | inr inside ↦
            let p = flat_from (λ (p : Procedure). p.body) more.procedures o.0 inside in
            absurd (let d = subst (λ ns. Contains ns q) (body_calls_none more still p.0 o.0 p.1.0 p.1.1) o.1.1 in let l : d.0 < 0 = d.1 in omega arith)
      ]

  abbrev last : List Procedure
  last = record { link = link; body = slice_range (items_of g block) at (at + size) } ∷ []

  fewer : IsRenumbered more g own
  fewer = record {
    blocks = same_blocks g.blocks;
    entry = refl;
    words = refl;
    called = λ q p c e.
        let o = slice_there g.procedures q (was_called q c) in
        let same : o.0 ≡ p = same_some o.0 p (sym (still_there g.procedures last q o.0 o.1) ∙ e) in
        o.1 ∙ ap Some (same ∙ sym (own_called_procedure p));
    lowers = λ p m c d. procedure_target more p m (Contains-append_left g.procedures last p c) d;
  }

  pub outlined_lives : (other spot r : ℕ) → spot ≤ length (items_of g other) → IsLive g r (place_lines g other spot) → IsLive more r (place_lines more other spot)
  outlined_lives other spot r l lives = renumbered_live more g own still fewer other spot r l lives
