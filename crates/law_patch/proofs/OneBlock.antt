-- The operations on one block keep runs, and sound graphs sound: a block that is split, a Jump that becomes Fall, an
-- upper half that goes, a jump that becomes a Call or a Jump, and a body in place of its call.
use Rattle.std.proofs.Common.{◌≢◌, ◌≡◌, ℕ, zero, suc, ◌<◌, ◌≤◌, ◌+◌, Bool, true, false, ◌==◌, inl, inr, List, [], ◌∷◌, ◌++◌, Option, Some, None, IsSome, map, take, drop, length, slice_get, refl, sym, ap, ◌∙◌, subst, arith}
use Rattle.std.proofs.lemmas.List.Elements.{Contains-append_cases}
use Rattle.std.specs.List.{Contains, flat_map}
use Rattle.sq_arena.specs.Entries.{value_of, first_key, behind as entries_behind}
use Rattle.sq_graph.specs.declared.item.Item.{Item}
use Rattle.sq_graph.specs.declared.item.Item.TheVariants.{Op, Hi, Lo, Out}
use Rattle.sq_graph.specs.declared.item.Term.TheVariants.{Fall, Jump, PartJump}
use Rattle.sq_graph.specs.Graph.{Block, Procedure, Graph}
use Rattle.sq_graph.specs.Blocks.{named, HasBlock, block_of, block_items, items_of, block_term, term_of, next_of, procedure_body, body_of, procedure_link, link_of}
use Rattle.sq_graph.specs.Terms.{links}
use Rattle.sq_graph.specs.Uses.{uses, item_calls}
use Rattle.sq_graph.specs.Rules.{IsGraph, mentions, ProcedureFits}
use Rattle.sq_graph.specs.Operations.{IsNew, with_blocks, halves, split_at, with_term, replaced, inlined, called_at, called_body, call_of}
use Rattle.sq_graph.specs.Lines.{Line, Name, End, Enter, Return, line_of, term_lines, body_lines, lines_of, inside, behind_name, block_lines, place_lines}
use Rattle.sq_graph.specs.Walks.{IsLive, read_here, live_behind, lower_names, link_names, first_name, code_targets}
use Rattle.sq_graph.specs.Soundness.{LinksDieIn, IsSound}
use Rattle.sq_graph.proofs.Located.{IsAt, located}
use Rattle.sq_graph.proofs.Changes.{with_blocks-at}
use Rattle.sq_graph.proofs.SplitRules.{split_rules}
use Rattle.std.proofs.Common.{drop-drop, length-drop}
use Rattle.std.proofs.lemmas.Bool.{eqb-true, ne_eqb}
use Rattle.law_follow.specs.Follows.{Follows}
use Rattle.law_follow.proofs.Following.{graph_follows_itself}
use Rattle.law_patch.specs.Changes.{Change, Alike, name_before, name_after, jump_before, enter_before, return_before, dead_before}
use Rattle.law_patch.specs.Operations.{hastened}
use Rattle.law_patch.specs.Changes.{SameSlot, both_jumped, both_hastened}
use Rattle.sq_graph.specs.Lines.{slot_name}
use Rattle.law_patch.proofs.Keeping.{NoMode, no_stands, all_matter, every_carrier}
use Rattle.law_patch.proofs.Lines.{body_unnamed}
use Rattle.law_patch.proofs.Changing.{ahead}
use Rattle.law_patch.proofs.Places.{every, other_name, absent_from, name_at, next_at}
use Rattle.law_patch.proofs.Parts.{halved, halves_through, map_parts, take_in, drop_in}
use Rattle.law_patch.proofs.Dead.{live, live_carrier, unwritten}
use Rattle.law_patch.proofs.Bypassing.{slot_known}
use Rattle.law_patch.proofs.Dying.{body_rest, items_rest, term_dies}
use Rattle.law_patch.proofs.Carrying.{same_some, slot_same, AreOf, ItemGoes, carry_items, carry_term, Backs, items_die}
use Rattle.law_patch.proofs.Layouts.{passed, Turn, carries_lines, choose}
use Rattle.law_patch.proofs.Restricting.{own, block_target, procedure_target, slot_targets, target_from, flat_from}
use Rattle.law_patch.proofs.Standing.{stands_at, distinct_at, block_at, there_by_term, there_by_item}
use Rattle.law_patch.proofs.Placing.{C as placing, block_stays, block_goes, all_stay, items_stay, bodies_stay, placed_follows, placed_sound, placed_live, placed_place, placed_backs, body_itself}
use Rattle.law_patch.proofs.Ending.{all_of, one_slot, term_turn, term_at}
use Rattle.law_patch.proofs.Remaining.{fits_at, fits_take, AlikeAt, items_at, first_at}
use Rattle.law_patch.proofs.Replacing.{behind_items, own_items, C as replacing, place, out, behind, replaced_sound, replaced_follows, replaced_live, replaced_moves}
use Rattle.law_patch.proofs.Calls.{items_dead, is_other}
use Rattle.law_patch.proofs.Used.{contains_first, contains_later, flat_contains, from_slice, from_all, slice_there, item_called, block_item, not_new}

module _ (g : Graph) (block n : ℕ) (rules : IsGraph g) (jumps : term_of g block ≡ Some (Jump n)) (slot : next_of g block ≡ Some n) where
  abbrev at : IsAt g.blocks block
  at = located g.blocks block (there_by_term (block_of g block) (Jump n) jumps)

  abbrev h : Graph
  h = with_term g block Fall

  whole : at.front ++ (at.block ∷ at.back) ≡ g.blocks
  whole = sym at.whole

  abbrev C : Change
  C = placing every all_matter (Unit {0}) g h rules (λ m c. tt) refl refl

  -- the block ends in the Jump, and the next slot is the one to which it goes
  falls_from : at.block.term ≡ Jump n
  falls_from = same_some at.block.term (Jump n) (sym (ap block_term (subst (λ k. value_of (named g.blocks) k ≡ Some at.block) at.has_name (block_at g rules at.front at.block at.back whole))) ∙ jumps)

  slot_first : first_key (named at.back) ≡ Some n
  slot_first =
      sym (ap first_key (subst (λ k. entries_behind (named g.blocks) k ≡ named at.back) at.has_name (subst (λ blocks. entries_behind (named blocks) at.block.name ≡ named at.back) whole (next_at at.front at.block at.back (absent_from at.front at.block at.back (distinct_at g rules at.front at.block at.back whole))))))
      ∙ slot

  slot_goes : (b : Bool) (bs : List Block) → at.back ≡ bs → first_key (named bs) ≡ Some n → Alike C b None (block_lines g n) (lines_of bs)
  slot_goes b [] i e = absurd (cc)
  slot_goes b (w ∷ bs) i e =
      let there : (at.front ++ at.block ∷ []) ++ (w ∷ bs) ≡ g.blocks = ahead at.front at.block (w ∷ bs) ∙ ap (λ cs. at.front ++ (at.block ∷ cs)) (sym i) ∙ whole in
      let leads : block_lines g w.name ≡ body_lines w (lines_of bs) =
      subst (λ blocks. behind_name w.name (lines_of blocks) ≡ body_lines w (lines_of bs)) there (name_at (at.front ++ at.block ∷ []) w bs (absent_from (at.front ++ at.block ∷ []) w bs (distinct_at g rules (at.front ++ at.block ∷ []) w bs there))) in
      subst (λ k. Alike C b None (block_lines g k) (lines_of (w ∷ bs))) (same_some w.name n e)
      (subst (λ xs. Alike C b None xs (lines_of (w ∷ bs))) (sym leads) (name_after (body_itself every all_matter (Unit {0}) g h rules (λ m c. tt) refl refl (λ m c. tt) b (at.front ++ at.block ∷ []) w bs there)))

  ended : (b : Bool) → Alike C b None (term_lines at.block.term (lines_of at.back)) (lines_of at.back)
  ended b = subst (λ t. Alike C b None (term_lines t (lines_of at.back)) (lines_of at.back)) (sym falls_from) (jump_before tt (slot_goes b at.back refl slot_first))

  turn : Turn C own every true true (at.block ∷ []) (record at.block { term = Fall } ∷ []) at.back at.back
  turn = term_turn every all_matter (Unit {0}) g h rules (λ m c. tt) refl refl (λ m c. tt) at.block [] at.back Fall (stands_at g rules at.front at.block at.back whole) ended (λ m k. refl) (λ m l c. absurd (cc))

  after : h.blocks ≡ at.front ++ (record at.block { term = Fall } ∷ at.back)
  after = with_blocks-at (λ b. record b { term = Fall } ∷ []) g.blocks block at

  pub fall_follows : Follows g h
  fall_follows =
      placed_follows every all_matter (Unit {0}) g h rules (λ m c. tt) refl refl (λ m c. tt) (at.block ∷ []) (record at.block { term = Fall } ∷ []) at.back refl turn at.front whole after refl (every_carrier g)

  pub fall_sound : IsSound g → IsSound h
  fall_sound sound =
      placed_sound every all_matter (Unit {0}) g h rules (λ m c. tt) refl refl (λ m c. tt) (at.block ∷ []) (record at.block { term = Fall } ∷ []) at.back refl turn at.front whole after refl (every_carrier g) (λ xs r l. tt) tt sound

  -- no more is live at a place than before
  pub fall_live : (m place r : ℕ) → place ≤ length (items_of g m) → IsLive h r (place_lines h m place) → IsLive g r (place_lines g m place)
  fall_live m place r l live =
      placed_place every all_matter (Unit {0}) g h rules (λ m c. tt) refl refl (λ m c. tt) (at.block ∷ []) (record at.block { term = Fall } ∷ []) at.back refl turn at.front whole after refl (every_carrier g) (λ xs r l. tt) tt m place r l
      (term_at every all_matter (Unit {0}) g h rules (λ m c. tt) refl refl (λ m c. tt) at.block [] at.back Fall (stands_at g rules at.front at.block at.back whole) m place (ended true) refl (fits_at g rules m place l at.front at.block at.back whole)) live

module _ (g : Graph) (block link part to : ℕ) (rules : IsGraph g) (jumps : term_of g block ≡ Some (PartJump link part to)) where
  abbrev hat : IsAt g.blocks block
  hat = located g.blocks block (there_by_term (block_of g block) (PartJump link part to) jumps)

  abbrev hh : Graph
  hh = with_term g block (hastened link to)

  hwhole : hat.front ++ (hat.block ∷ hat.back) ≡ g.blocks
  hwhole = sym hat.whole

  abbrev HC : Change
  HC = placing every all_matter (Unit {0}) g hh rules (λ m c. tt) refl refl

  jump_is : hat.block.term ≡ PartJump link part to
  jump_is = same_some hat.block.term (PartJump link part to) (sym (ap block_term (subst (λ k. value_of (named g.blocks) k ≡ Some hat.block) hat.has_name (block_at g rules hat.front hat.block hat.back hwhole))) ∙ jumps)

  meets : {f : Bool} (l : ℕ) (xs ys : List Line) → (links (PartJump l part to) ≡ true → SameSlot HC.MayHold (slot_name xs) (slot_name ys)) → Alike HC f None (End (PartJump l part to) ∷ xs) (End (hastened l to) ∷ ys)
  meets zero xs ys s = both_jumped part to to (refl, tt)
  meets (suc l) xs ys s = both_hastened (suc l) part to to (refl, tt) s

  one_line : (l : ℕ) (rest : List Line) → term_lines (hastened l to) rest ≡ End (hastened l to) ∷ rest
  one_line zero rest = refl
  one_line (suc l) rest = refl

  hended : (b : Bool) → Alike HC b None (term_lines hat.block.term (lines_of hat.back)) (term_lines (hastened link to) (lines_of hat.back))
  hended b =
      let rest = lines_of hat.back in
      let go = block_goes every all_matter (Unit {0}) g hh rules (λ m c. tt) refl refl (λ m c. tt) hat.front hat.block hat.back hat.back hwhole refl in
      subst (λ t. Alike HC b None (term_lines t rest) (term_lines (hastened link to) rest)) (sym jump_is)
      (subst (λ lines. Alike HC b None (End (PartJump link part to) ∷ rest) lines) (sym (one_line link rest))
      (meets link rest rest (λ l. slot_same HC own _ _ (go.slot (ap links jump_is ∙ l)))))

  as_linked : (l : ℕ) → links (hastened l to) ≡ true → links (PartJump l part to) ≡ true
  as_linked zero e = absurd (cc)
  as_linked (suc l) e = e

  abbrev shorter : Block
  shorter = record hat.block { term = hastened link to }

  hturn : Turn HC own every true true (hat.block ∷ []) (shorter ∷ []) hat.back hat.back
  hturn =
      term_turn every all_matter (Unit {0}) g hh rules (λ m c. tt) refl refl (λ m c. tt) hat.block [] hat.back (hastened link to) (stands_at g rules hat.front hat.block hat.back hwhole) hended (λ m k. refl)
      (λ m l c. (m, (refl, (tt, slot_targets g hat.front hat.block hat.back hwhole (ap links jump_is ∙ as_linked link l) m c))))

  hafter : hh.blocks ≡ hat.front ++ (shorter ∷ hat.back)
  hafter = with_blocks-at (λ b. record b { term = hastened link to } ∷ []) g.blocks block hat

  pub hasten_follows : Follows g hh
  hasten_follows = placed_follows every all_matter (Unit {0}) g hh rules (λ m c. tt) refl refl (λ m c. tt) (hat.block ∷ []) (shorter ∷ []) hat.back refl hturn hat.front hwhole hafter refl (every_carrier g)

  pub hasten_sound : IsSound g → IsSound hh
  hasten_sound sound = placed_sound every all_matter (Unit {0}) g hh rules (λ m c. tt) refl refl (λ m c. tt) (hat.block ∷ []) (shorter ∷ []) hat.back refl hturn hat.front hwhole hafter refl (every_carrier g) (λ xs r l. tt) tt sound

  pub hasten_place : (m place r : ℕ) → place ≤ length (items_of g m) → IsLive hh r (place_lines hh m place) → IsLive g r (place_lines g m place)
  hasten_place m place r l live =
      placed_place every all_matter (Unit {0}) g hh rules (λ m c. tt) refl refl (λ m c. tt) (hat.block ∷ []) (shorter ∷ []) hat.back refl hturn hat.front hwhole hafter refl (every_carrier g) (λ xs r l. tt) tt m place r l
      (term_at every all_matter (Unit {0}) g hh rules (λ m c. tt) refl refl (λ m c. tt) hat.block [] hat.back (hastened link to) (stands_at g rules hat.front hat.block hat.back hwhole) m place (hended true) refl (fits_at g rules m place l hat.front hat.block hat.back hwhole)) live

  -- what is live at a name is so before
  pub hasten_live : (r n : ℕ) → IsLive hh r (block_lines hh n) → IsLive g r (block_lines g n)
  hasten_live r n lives = placed_live every all_matter (Unit {0}) g hh rules (λ m c. tt) refl refl (λ m c. tt) (hat.block ∷ []) (shorter ∷ []) hat.back refl hturn hat.front hwhole hafter refl (every_carrier g) (λ xs r l. tt) tt r n tt lives

-- one item, and that it is there
one_item : (items : List Item) (at : ℕ) (item : Item) → slice_get items at ≡ Some item → take 1 (drop at items) ≡ item ∷ []
one_item [] at item e = absurd (cc)
one_item (x ∷ items) zero item e = ap (λ y. y ∷ []) (same_some x item e)
one_item (x ∷ items) (suc at) item e = one_item items at item e

pub item_within : (items : List Item) (at : ℕ) (item : Item) → slice_get items at ≡ Some item → at + 1 ≤ length items
item_within [] at item e = absurd (cc)
item_within (x ∷ items) zero item e = omega arith
item_within (x ∷ items) (suc at) item e = let l = item_within items at item e in omega (arith, l)

-- what stands in a graph from behind an item of a block on
module _ (g : Graph) (rules : IsGraph g) (block : ℕ) (spot : IsAt g.blocks block) where
  stood : spot.front ++ (spot.block ∷ spot.back) ≡ g.blocks
  stood = sym spot.whole

  items_at_block : items_of g block ≡ spot.block.items
  items_at_block = ap block_items (subst (λ k. value_of (named g.blocks) k ≡ Some spot.block) spot.has_name (block_at g rules spot.front spot.block spot.back stood))

  lines_at : block_lines g block ≡ body_lines spot.block (lines_of spot.back)
  lines_at =
      subst (λ k. behind_name k (lines_of g.blocks) ≡ body_lines spot.block (lines_of spot.back)) spot.has_name
      (subst (λ blocks. behind_name spot.block.name (lines_of blocks) ≡ body_lines spot.block (lines_of spot.back)) stood (name_at spot.front spot.block spot.back (absent_from spot.front spot.block spot.back (distinct_at g rules spot.front spot.block spot.back stood))))

  behind_at : (at : ℕ) → at ≤ length spot.block.items → place_lines g block at ≡ map line_of (drop at spot.block.items) ++ term_lines spot.block.term (lines_of spot.back)
  behind_at at l = ap (drop at) lines_at ∙ behind_items spot.block.items at (term_lines spot.block.term (lines_of spot.back)) l

module _ (g : Graph) (block at rd to : ℕ) (rules : IsGraph g) (there : slice_get (items_of g block) at ≡ Some (Hi rd to)) (dead : ¬ IsLive g rd (place_lines g block (at + 1))) where
  drop_there : HasBlock g block
  drop_there = there_by_item (block_of g block) at (Hi rd to) there

  abbrev dh : Graph
  dh = replaced g block at 1 []

  abbrev DC : Change
  DC = replacing NoMode no_stands (live g) (Unit {0}) g dh rules refl refl

  abbrev dspot : IsAt g.blocks block
  dspot = place NoMode no_stands (live g) (Unit {0}) g (live_carrier g) rules block at 1 [] drop_there

  abbrev dlater : List Line
  dlater = behind NoMode no_stands (live g) (Unit {0}) g (live_carrier g) rules block at 1 [] drop_there

  abbrev dbefore : List Item
  dbefore = out NoMode no_stands (live g) (Unit {0}) g (live_carrier g) rules block at 1 [] drop_there

  hi_there : slice_get dspot.block.items at ≡ Some (Hi rd to)
  hi_there = subst (λ items. slice_get items at ≡ Some (Hi rd to)) (items_at_block g rules block dspot) there

  dead_there : ¬ IsLive g rd dlater
  dead_there = subst (λ lines. ¬ IsLive g rd lines) (behind_at g rules block dspot (at + 1) (item_within dspot.block.items at (Hi rd to) hi_there)) dead

  drops : (b : Bool) → Alike DC b None dlater dlater → Alike DC b None (map line_of dbefore ++ dlater) dlater
  drops b k =
      subst (λ items. Alike DC b None (map line_of items ++ dlater) dlater) (sym (one_item dspot.block.items at (Hi rd to) hi_there))
      (dead_before tt refl (λ r l. unwritten g rd r dlater dead_there l) k)

  no_lowers : (m : ℕ) → Contains (flat_map lower_names []) m → Contains (code_targets g) m
  no_lowers m c = absurd (let l : c.0 < 0 = c.1 in omega arith)

  pub drop_follows : Follows g dh
  drop_follows = replaced_follows NoMode no_stands (live g) (Unit {0}) g (live_carrier g) rules block at 1 [] drop_there drops no_lowers (λ backs k die die'. die')

  pub drop_sound : IsSound g → IsSound dh
  drop_sound sound = replaced_sound NoMode no_stands (live g) (Unit {0}) g (live_carrier g) rules block at 1 [] drop_there drops no_lowers (λ backs k die die'. die') (λ xs r l. l) tt sound

  -- no more is live in other blocks, and in this one up to the half
  pub drop_live : (other spot r : ℕ) → HasBlock g other → spot ≤ length (items_of g other) → (other ≡ block → spot ≤ at) → IsLive dh r (place_lines dh other spot) → IsLive g r (place_lines g other spot)
  drop_live other spot r has l ahead_of lives =
      let within = item_within dspot.block.items at (Hi rd to) hi_there in
      replaced_live NoMode no_stands (live g) (Unit {0}) g (live_carrier g) rules block at 1 [] drop_there drops no_lowers (λ backs k die die'. die') (λ xs r l. l) tt (omega (arith, within)) other spot r has l ahead_of lives

  -- nor behind it
  pub drop_moves : (spot r : ℕ) → (at + 1) + spot ≤ length (items_of g block) → IsLive dh r (place_lines dh block ((at + 0) + spot)) → IsLive g r (place_lines g block ((at + 1) + spot))
  drop_moves spot r l lives =
      replaced_moves NoMode no_stands (live g) (Unit {0}) g (live_carrier g) rules block at 1 [] drop_there drops no_lowers (λ backs k die die'. die') (λ xs r l. l) tt (item_within dspot.block.items at (Hi rd to) hi_there) spot r l lives

-- a register that is dead behind a return is dead at it
return_dead : (g : Graph) (link r : ℕ) (rest : List Line) → ¬ IsLive g r rest → ¬ IsLive g r (Return link ∷ rest)
return_dead g link r rest dead (read_here e) = absurd (cc)
return_dead g link r rest dead (live_behind w e l) = dead (subst (λ lines. IsLive g r lines) e l)

-- links die behind the calls of a block
pub die_in : (g : Graph) (front : List Block) (x : Block) (bs : List Block) → LinksDieIn g (lines_of (front ++ (x ∷ bs))) → LinksDieIn g (body_lines x (lines_of bs))
die_in g [] x bs die = die
die_in g (y ∷ front) x bs die = die_in g front x bs (body_rest g y (lines_of (front ++ (x ∷ bs))) die)

die_at : (g : Graph) (items : List Item) (at q : ℕ) (rest : List Line) → slice_get items at ≡ Some (Out q) → LinksDieIn g (map line_of items ++ rest) → (p : Procedure) → slice_get g.procedures q ≡ Some p → ¬ IsLive g p.link (map line_of (drop (at + 1) items) ++ rest)
die_at g [] at q rest e die p f = absurd (cc)
die_at g (x ∷ items) zero q rest e die p f =
    let is : x ≡ Out q = same_some x (Out q) e in
    let here : LinksDieIn g (Enter q ∷ (map line_of items ++ rest)) = subst (λ y. LinksDieIn g (line_of y ∷ (map line_of items ++ rest))) is die in
    here.0 p f
die_at g (x ∷ items) (suc at) q rest e die p f =
    let more : suc at + 1 ≡ suc (at + 1) = omega arith in
    rw more (die_at g items at q rest e (items_rest g (x ∷ []) (map line_of items ++ rest) die) p f)

-- the link is dead behind the call
module _ (g : Graph) (block at q : ℕ) (rules : IsGraph g) (there : slice_get (items_of g block) at ≡ Some (Out q)) (Given : Type 0) (dies : Given → (link : ℕ) → link_of g q ≡ Some link → ¬ IsLive g link (place_lines g block (at + 1))) where
  inline_there : HasBlock g block
  inline_there = there_by_item (block_of g block) at (Out q) there

  abbrev by : List Item
  by = called_body g (called_at g block at)

  abbrev ih : Graph
  ih = inlined g block at

  abbrev IC : Change
  IC = replacing NoMode no_stands (live g) Given g ih rules refl refl

  abbrev ispot : IsAt g.blocks block
  ispot = place NoMode no_stands (live g) Given g (live_carrier g) rules block at 1 by inline_there

  abbrev ilater : List Line
  ilater = behind NoMode no_stands (live g) Given g (live_carrier g) rules block at 1 by inline_there

  abbrev ibefore : List Item
  ibefore = out NoMode no_stands (live g) Given g (live_carrier g) rules block at 1 by inline_there

  out_there : slice_get ispot.block.items at ≡ Some (Out q)
  out_there = subst (λ items. slice_get items at ≡ Some (Out q)) (items_at_block g rules block ispot) there

  in_block : Contains g.blocks ispot.block
  in_block = stands_at g rules ispot.front ispot.block ispot.back (stood g rules block ispot)

  found : (p : Procedure) × (slice_get g.procedures q ≡ Some p)
  found = slice_there g.procedures q (item_called g rules (Out q) q (block_item g rules ispot.block (Out q) in_block (from_slice ispot.block.items at (Out q) out_there)) (contains_first q []))

  abbrev p : Procedure
  p = found.0

  here : Contains g.procedures p
  here = from_slice g.procedures q p found.1

  fits : ProcedureFits p
  fits = from_all ProcedureFits g.procedures p rules.procedures here

  by_is : by ≡ p.body
  by_is = ap (λ o. called_body g (call_of o)) there ∙ ap procedure_body found.1

  calls_none : (item : Item) → Contains p.body item → item_calls item ≡ []
  calls_none item c = from_all (λ item. item_calls item ≡ []) p.body item fits.no_calls c

  -- and so where the body begins
  link_dead : Given → ¬ IsLive g p.link (inside p ilater)
  link_dead given =
      let dead : ¬ IsLive g p.link ilater =
      subst (λ lines. ¬ IsLive g p.link lines) (behind_at g rules block ispot (at + 1) (item_within ispot.block.items at (Out q) out_there)) (dies given p.link (ap procedure_link found.1)) in
      items_dead g p.body p.link (Return p.link ∷ ilater) calls_none (λ item c. from_all (λ item. mentions item p.link ≡ false) p.body item fits.no_mention c) (return_dead g p.link p.link ilater dead)

  inlines : (b : Bool) → Alike IC b None ilater ilater → Alike IC b None (map line_of ibefore ++ ilater) (map line_of by ++ ilater)
  inlines b k =
      let each = bodies_stay every (live g) Given g ih rules (λ n c. tt) refl refl (λ n c. tt) p here in
      let inner : Alike IC b None (inside p ilater) (map line_of p.body ++ ilater) =
      subst (λ items. Alike IC b None (inside p ilater) (map line_of items ++ ilater)) (own_items p.body) (carry_items IC own p.body (Return p.link ∷ ilater) ilater each (return_before tt k)) in
      subst (λ items. Alike IC b None (map line_of items ++ ilater) (map line_of by ++ ilater)) (sym (one_item ispot.block.items at (Out q) out_there))
      (subst (λ items. Alike IC b None (Enter q ∷ ilater) (map line_of items ++ ilater)) (sym by_is)
      (enter_before {m = None} {m' = None} tt p found.1 (λ r t x n z. n) (λ given r l. is_other g p.link r (inside p ilater) (link_dead given) l) inner))

  -- a body calls nothing
  body_dies : (items : List Item) (lines : List Line) → ((item : Item) → Contains items item → item_calls item ≡ []) → LinksDieIn ih lines → LinksDieIn ih (map line_of items ++ lines)
  body_dies [] lines none die = die
  body_dies (Op insn ∷ items) lines none die = body_dies items lines (λ item c. none item (contains_later (Op insn) item items c)) die
  body_dies (Hi rd to ∷ items) lines none die = body_dies items lines (λ item c. none item (contains_later (Hi rd to) item items c)) die
  body_dies (Lo rd rs to ∷ items) lines none die = body_dies items lines (λ item c. none item (contains_later (Lo rd rs to) item items c)) die
  body_dies (Out r ∷ items) lines none die = absurd (let e : r ∷ [] ≡ [] = none (Out r) (contains_first (Out r) items) in cc)

  by_lowers : (m : ℕ) → Contains (flat_map lower_names by) m → Contains (code_targets g) m
  by_lowers m c = procedure_target g p m here (subst (λ items. Contains (flat_map lower_names items) m) by_is c)

  by_dies : Backs IC own → Alike IC true None ilater ilater → LinksDieIn g (map line_of ibefore ++ ilater) → LinksDieIn ih ilater → LinksDieIn ih (map line_of by ++ ilater)
  by_dies backs k die die' = subst (λ (items : List Item). LinksDieIn ih (map line_of items ++ ilater)) (sym by_is) (body_dies p.body ilater calls_none die')

  pub inline_follows_by : Follows g ih
  inline_follows_by = replaced_follows NoMode no_stands (live g) Given g (live_carrier g) rules block at 1 by inline_there inlines by_lowers by_dies

  -- no more is live in other blocks, and in this one up to the call
  pub inline_live_by : Given → (other spot r : ℕ) → HasBlock g other → spot ≤ length (items_of g other) → (other ≡ block → spot ≤ at) → IsLive ih r (place_lines ih other spot) → IsLive g r (place_lines g other spot)
  inline_live_by given other spot r has l ahead_of lives =
      let within = item_within ispot.block.items at (Out q) out_there in
      replaced_live NoMode no_stands (live g) Given g (live_carrier g) rules block at 1 by inline_there inlines by_lowers by_dies (λ xs r l. l) given (omega (arith, within)) other spot r has l ahead_of lives

  -- nor behind it
  pub inline_moves_by : Given → (spot r : ℕ) → (at + 1) + spot ≤ length (items_of g block) → IsLive ih r (place_lines ih block ((at + length (body_of g q)) + spot)) → IsLive g r (place_lines g block ((at + 1) + spot))
  inline_moves_by given spot r l lives =
      let many : length (body_of g q) ≡ length by = ap length (ap procedure_body found.1 ∙ sym by_is) in
      replaced_moves NoMode no_stands (live g) Given g (live_carrier g) rules block at 1 by inline_there inlines by_lowers by_dies (λ xs r l. l) given (item_within ispot.block.items at (Out q) out_there) spot r l
      (subst (λ k. IsLive ih r (place_lines ih block ((at + k) + spot))) many lives)

  pub inline_sound_by : Given → IsSound g → IsSound ih
  inline_sound_by given sound = replaced_sound NoMode no_stands (live g) Given g (live_carrier g) rules block at 1 by inline_there inlines by_lowers by_dies (λ xs r l. l) given sound

-- in a sound graph the link is dead behind each call
module _ (g : Graph) (block at q : ℕ) (rules : IsGraph g) (there : slice_get (items_of g block) at ≡ Some (Out q)) where
  abbrev spot_there : IsAt g.blocks block
  spot_there = place NoMode no_stands (live g) (IsSound g) g (live_carrier g) rules block at 1 [] (there_by_item (block_of g block) at (Out q) there)

  sound_dies : IsSound g → (link : ℕ) → link_of g q ≡ Some link → ¬ IsLive g link (place_lines g block (at + 1))
  sound_dies sound link is =
      let own : slice_get spot_there.block.items at ≡ Some (Out q) = subst (λ items. slice_get items at ≡ Some (Out q)) (items_at_block g rules block spot_there) there in
      let p = linked (slice_get g.procedures q) is in
      let die = die_in g spot_there.front spot_there.block spot_there.back (subst (λ blocks. LinksDieIn g (lines_of blocks)) (sym (stood g rules block spot_there)) sound.links_die) in
      subst (λ lines. ¬ IsLive g link lines) (sym (behind_at g rules block spot_there (at + 1) (item_within spot_there.block.items at (Out q) own)))
      (subst (λ r. ¬ IsLive g r (map line_of (drop (at + 1) spot_there.block.items) ++ term_lines spot_there.block.term (lines_of spot_there.back))) p.2 (die_at g spot_there.block.items at q (term_lines spot_there.block.term (lines_of spot_there.back)) own die p.0 p.1))
    where
      linked : (o : Option Procedure) {link : ℕ} → procedure_link o ≡ Some link → (p : Procedure) × (o ≡ Some p) × (p.link ≡ link)
      linked None e = absurd (cc)
      linked (Some p) {link} e = (p, refl, same_some p.link link e)

  pub inline_follows : Follows g (inlined g block at)
  inline_follows = inline_follows_by g block at q rules there (IsSound g) sound_dies

  pub inline_live : IsSound g → (other spot r : ℕ) → HasBlock g other → spot ≤ length (items_of g other) → (other ≡ block → spot ≤ at) → IsLive (inlined g block at) r (place_lines (inlined g block at) other spot) → IsLive g r (place_lines g other spot)
  inline_live = inline_live_by g block at q rules there (IsSound g) sound_dies

  pub inline_moves : IsSound g → (spot r : ℕ) → (at + 1) + spot ≤ length (items_of g block) → IsLive (inlined g block at) r (place_lines (inlined g block at) block ((at + length (body_of g q)) + spot)) → IsLive g r (place_lines g block ((at + 1) + spot))
  inline_moves = inline_moves_by g block at q rules there (IsSound g) sound_dies

  pub inline_sound : IsSound g → IsSound (inlined g block at)
  inline_sound sound = inline_sound_by g block at q rules there (IsSound g) sound_dies sound sound

module _ (g : Graph) (new block at : ℕ) (rules : IsGraph g) (fresh : IsNew g new) where
  abbrev sh : Graph
  sh = split_at g new block at

  -- every name but the new one
  abbrev N : ℕ → Type 0
  N n = n ≢ new

  used_old : (n : ℕ) → Contains (uses g) n → N n
  used_old n c = not_new g new n fresh (from_all (HasBlock g) (uses g) n rules.named_all c)

  target_old : (n : ℕ) → Contains (code_targets g) n → N n
  target_old n c =
      elim (target_from g n c) [
        | inl named ↦ used_old n named
        | inr slot ↦ not_new g new n fresh (slot_known g rules g.blocks n slot)
      ]

  abbrev SC : Change
  SC = placing N all_matter (Unit {0}) g sh rules used_old refl refl

  module _ (x : Block) (front back : List Block) (e : front ++ (x ∷ back) ≡ g.blocks) (is : x.name ≡ block) where
    abbrev one : List Item
    one = take at x.items

    abbrev two : List Item
    two = drop at x.items

    abbrev ending : List Line
    ending = term_lines x.term (lines_of back)

    abbrev parts : List Block
    parts = record x { items = one; term = Fall } ∷ record x { name = new; items = two } ∷ []

    in_it : Contains g.blocks x
    in_it = stands_at g rules front x back e

    each : AreOf SC own (ItemGoes SC own) x.items
    each = items_stay N all_matter (Unit {0}) g sh rules used_old refl refl target_old x in_it

    ended_same : (b : Bool) → Alike SC b None ending ending
    ended_same b =
        let go = block_goes N all_matter (Unit {0}) g sh rules used_old refl refl target_old front x back back e refl in
        let p = carry_term SC own x.term (lines_of back) (lines_of back) go.term go.slot
        (λ f. carries_lines SC own N b refl (all_stay N all_matter (Unit {0}) g sh rules used_old refl refl target_old true (front ++ x ∷ []) back (ahead front x back ∙ e))) in
        subst (λ t. Alike SC b None ending (term_lines t (lines_of back))) (ap (λ (w : Block). w.term) (sym (block_stays N all_matter (Unit {0}) g sh rules used_old refl refl target_old x))) p

    keep : (b : Bool) (items : List Item) (xs ys : List Line) → AreOf SC own (ItemGoes SC own) items → Alike SC b None xs ys → Alike SC b None (map line_of items ++ xs) (map line_of items ++ ys)
    keep b items xs ys f p = subst (λ is. Alike SC b None (map line_of items ++ xs) (map line_of is ++ ys)) (own_items items) (carry_items SC own items xs ys f p)

    own_die : (items : List Item) (xs ys : List Line) → Backs SC own → AreOf SC own (ItemGoes SC own) items → Alike SC true None xs ys → LinksDieIn g (map line_of items ++ xs) → LinksDieIn sh ys → LinksDieIn sh (map line_of items ++ ys)
    own_die items xs ys backs f p die die' = subst (λ (is : List Item). LinksDieIn sh (map line_of is ++ ys)) (own_items items) (items_die SC own backs items xs ys f p die die')

    in_one : AreOf SC own (ItemGoes SC own) one
    in_one item c = each item (take_in x.items at item c)

    in_two : AreOf SC own (ItemGoes SC own) two
    in_two item c = each item (drop_in x.items at item c)

    -- the second half behind the new name, and both
    second : (b : Bool) → Alike SC b None (map line_of two ++ ending) (Name new ∷ (map line_of two ++ ending))
    second b = name_after (keep b two ending ending in_two (ended_same b))

    lines : (b : Bool) → Alike SC b None (body_lines x (lines_of back)) (halved new at x (lines_of back))
    lines b =
        subst (λ xs. Alike SC b None xs (halved new at x (lines_of back))) (sym (map_parts x.items at ending))
        (keep b one (map line_of two ++ ending) (Name new ∷ (map line_of two ++ ending)) in_one (second b))

    lower_in : (items : List Item) (m : ℕ) → ((item : Item) → Contains items item → Contains x.items item) → Contains (flat_map lower_names items) m → Contains (code_targets g) m
    lower_in items m inside c = let o = flat_from lower_names items m c in block_target g x m in_it (flat_contains lower_names x.items o.0 m (inside o.0 o.1.0) o.1.1)

    held_in : (m : ℕ) → Contains (flat_map lower_names one ++ (flat_map lower_names two ++ [])) m → Contains (code_targets g) m
    held_in m c =
        elim (Contains-append_cases (flat_map lower_names one) (flat_map lower_names two ++ []) m c) [
          | inl d ↦ lower_in one m (take_in x.items at) d
          | inr d ↦ lower_in two m (drop_in x.items at) (all_of (flat_map lower_names two) m d)
        ]

    parts_die : Backs SC own → LinksDieIn g (body_lines x (lines_of back)) → LinksDieIn sh (lines_of back) → LinksDieIn sh (map line_of one ++ (Name new ∷ (map line_of two ++ ending)))
    parts_die backs die die' =
        let in_both : LinksDieIn g (map line_of one ++ (map line_of two ++ ending)) = subst (λ lines. LinksDieIn g lines) (map_parts x.items at ending) die in
        let two_dies = own_die two ending ending backs in_two (ended_same true) (items_rest g one (map line_of two ++ ending) in_both) (term_dies sh x.term (lines_of back) die') in
        own_die one (map line_of two ++ ending) (Name new ∷ (map line_of two ++ ending)) backs in_one (second true) in_both two_dies

    split_turn : Turn SC own N true true (x ∷ []) parts back back
    split_turn = record {
      lines = λ b i p. name_before (name_after (lines b));
      behind = λ m k p q.
          choose (x.name == m) (body_lines x (lines_of back)) (behind_name m (body_lines x (lines_of back))) (halved new at x (lines_of back)) (behind_name m (halved new at x (lines_of back))) (lines false)
          (subst (λ xs. Alike SC false None xs (behind_name m (halved new at x (lines_of back)))) (sym (body_unnamed m x (lines_of back)))
          (subst (λ ys. Alike SC false None (behind_name m (lines_of back)) ys) (sym (halves_through new at m x (lines_of back) k)) q));
      lowers = λ m c. let d = held_in m c in (m, (refl, (target_old m d, d)));
      slots = λ m c. one_slot (links x.term) m (first_name back) (link_names back) c (λ l d. let t = slot_targets g front x back e l m d in (m, (refl, (target_old m t, t))));
      dies = λ backs p die die'. parts_die backs die die';
    }

    split_at_follows : sh.blocks ≡ front ++ (parts ++ back) → Follows g sh
    split_at_follows after =
        placed_follows N all_matter (Unit {0}) g sh rules used_old refl refl target_old (x ∷ []) parts back refl split_turn front e after refl (every_carrier g)

    split_at_sound : sh.blocks ≡ front ++ (parts ++ back) → IsSound g → IsSound sh
    split_at_sound after sound =
        placed_sound N all_matter (Unit {0}) g sh rules used_old refl refl target_old (x ∷ []) parts back refl split_turn front e after refl (every_carrier g) (λ xs r l. tt) tt sound

    -- places of the first half, and of other blocks
    first_at_split : (m place : ℕ) → N m → ((x.name == m) ≡ true → place ≤ length x.items) → (m ≡ block → place ≤ at) → AlikeAt SC own m place back back → AlikeAt SC own m place (x ∷ back) (parts ++ back)
    first_at_split m place k fits up q =
        first_at SC own m place x (record x { items = one; term = Fall }) back (record x { name = new; items = two } ∷ back) refl
        (λ t.
        let within : place ≤ length one = fits_take place at x.items (up (sym (eqb-true x.name m t) ∙ is)) (fits t) in
        subst (λ xs. Alike SC true None (drop place xs) (drop place (halved new at x (lines_of back)))) (sym (map_parts x.items at ending))
        (subst (λ items. Alike SC true None (drop place (map line_of one ++ (map line_of two ++ ending))) (drop place (map line_of items ++ (Name new ∷ (map line_of two ++ ending))))) (own_items one)
        (items_at SC own place one (map line_of two ++ ending) (Name new ∷ (map line_of two ++ ending)) in_one within (second true))))
        (subst (λ ys. Alike SC true None (drop place (behind_name m (lines_of back))) (drop place ys)) (sym (passed (record x { name = new; items = two }) m back (ne_eqb new m (λ i. k (sym i))))) q)

    split_at_live : sh.blocks ≡ front ++ (parts ++ back) → (m place r : ℕ) → HasBlock g m → place ≤ length (items_of g m) → (m ≡ block → place ≤ at) → IsLive sh r (place_lines sh m place) → IsLive g r (place_lines g m place)
    split_at_live after m place r has l up live =
        placed_place N all_matter (Unit {0}) g sh rules used_old refl refl target_old (x ∷ []) parts back refl split_turn front e after refl (every_carrier g) (λ xs r l. tt) tt m place r l
        (first_at_split m place (not_new g new m fresh has) (fits_at g rules m place l front x back e) up) live

    -- places of the second half
    split_at_moves : sh.blocks ≡ front ++ (parts ++ back) → HasBlock g block → (place r : ℕ) → at + place ≤ length x.items → IsLive sh r (place_lines sh new place) → IsLive g r (map line_of (drop (at + place) x.items) ++ ending)
    split_at_moves after has place r l live =
        let there : (front ++ record x { items = one; term = Fall } ∷ []) ++ (record x { name = new; items = two } ∷ back) ≡ sh.blocks = ahead front (record x { items = one; term = Fall }) (record x { name = new; items = two } ∷ back) ∙ sym after in
        let lines : block_lines sh new ≡ map line_of two ++ ending =
        subst (λ blocks. behind_name new (lines_of blocks) ≡ map line_of two ++ ending) there
        (name_at (front ++ record x { items = one; term = Fall } ∷ []) (record x { name = new; items = two }) back (absent_from (front ++ record x { items = one; term = Fall } ∷ []) (record x { name = new; items = two }) back (distinct_at sh (split_rules g new block at rules fresh has) (front ++ record x { items = one; term = Fall } ∷ []) (record x { name = new; items = two }) back there))) in
        let within : place ≤ length two = (let n = length-drop at x.items in omega (arith, l, n)) in
        let place_is : place_lines sh new place ≡ map line_of (drop (at + place) x.items) ++ ending =
        ap (drop place) lines ∙ behind_items two place ending within ∙ ap (λ is. map line_of is ++ ending) (drop-drop place at x.items) in
        let later = map line_of (drop (at + place) x.items) ++ ending in
        let o = placed_backs N all_matter (Unit {0}) g sh rules used_old refl refl target_old (x ∷ []) parts back refl split_turn front e after refl (every_carrier g) (λ xs r l. tt) tt r later
        (subst (λ ys. IsLive sh r ys) place_is live) true None later (keep true (drop (at + place) x.items) ending ending (λ item c. each item (drop_in x.items (at + place) item c)) (ended_same true)) in
        let same : r ≡ o.0 = o.1.0 in
        subst (λ q. IsLive g q later) (sym same) o.1.1

-- the same graph, where no block has the name
no_block : (f : Block → List Block) (bs : List Block) (name : ℕ) → value_of (named bs) name ≡ None → with_blocks f bs name ≡ bs
no_block f [] name e = refl
no_block f (b ∷ bs) name e = let o = other_name (b.name == name) b (value_of (named bs) name) e in rw o.0 (ap (λ cs. b ∷ cs) (no_block f bs name o.1))

split_by : (g : Graph) (new block at : ℕ) → IsGraph g → IsNew g new → (o : Option Block) → value_of (named g.blocks) block ≡ o → Follows g (split_at g new block at) × (IsSound g → IsSound (split_at g new block at))
split_by g new block at rules fresh None e =
    let same : g.blocks ≡ with_blocks (halves new at) g.blocks block = sym (no_block (halves new at) g.blocks block e) in (
      subst (λ bs. Follows g (record g { blocks = bs })) same (graph_follows_itself g),
      λ sound. subst (λ bs. IsSound (record g { blocks = bs })) same sound,
    )
split_by g new block at rules fresh (Some b) e =
    let spot : IsAt g.blocks block = located g.blocks block (subst IsSome (sym e) refl) in
    let after = with_blocks-at (halves new at) g.blocks block spot in (
      split_at_follows g new block at rules fresh spot.block spot.front spot.back (sym spot.whole) spot.has_name after,
      λ sound. split_at_sound g new block at rules fresh spot.block spot.front spot.back (sym spot.whole) spot.has_name after sound,
    )

pub split_follows : (g : Graph) (new block at : ℕ) → IsGraph g → IsNew g new → Follows g (split_at g new block at)
split_follows g new block at rules fresh = (split_by g new block at rules fresh (value_of (named g.blocks) block) refl).0

pub split_sound : (g : Graph) (new block at : ℕ) → IsGraph g → IsNew g new → IsSound g → IsSound (split_at g new block at)
split_sound g new block at rules fresh sound = (split_by g new block at rules fresh (value_of (named g.blocks) block) refl).1 sound

-- no more is live in other blocks, and in this one up to where it is split
pub split_live : (g : Graph) (new block at : ℕ) → IsGraph g → IsNew g new → HasBlock g block → (m place r : ℕ) → HasBlock g m → place ≤ length (items_of g m) → (m ≡ block → place ≤ at) → IsLive (split_at g new block at) r (place_lines (split_at g new block at) m place) → IsLive g r (place_lines g m place)
split_live g new block at rules fresh has m place r there l up live =
    let spot = located g.blocks block has in
    split_at_live g new block at rules fresh spot.block spot.front spot.back (sym spot.whole) spot.has_name (with_blocks-at (halves new at) g.blocks block spot) m place r there l up live

-- and behind that in the new block
pub split_moves : (g : Graph) (new block at : ℕ) → IsGraph g → IsNew g new → HasBlock g block → (place r : ℕ) → at + place ≤ length (items_of g block) → IsLive (split_at g new block at) r (place_lines (split_at g new block at) new place) → IsLive g r (place_lines g block (at + place))
split_moves g new block at rules fresh has place r l live =
    let spot = located g.blocks block has in
    let within : at + place ≤ length spot.block.items = subst (λ items. at + place ≤ length items) (items_at_block g rules block spot) l in
    subst (λ lines. IsLive g r lines) (sym (behind_at g rules block spot (at + place) within))
    (split_at_moves g new block at rules fresh spot.block spot.front spot.back (sym spot.whole) spot.has_name (with_blocks-at (halves new at) g.blocks block spot) has place r within live)
