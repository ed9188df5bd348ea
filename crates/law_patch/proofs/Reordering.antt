-- A graph with its blocks in an order in which each that goes on keeps its next slot follows it.
use Rattle.std.proofs.Common.{◌≡◌, ◌≤◌, drop, length, ℕ, zero, suc, ◌<◌, ◌⊎◌, arith, Bool, true, false, if◌then◌else◌, inl, inr, List, [], ◌∷◌, ◌++◌, Some, None, IsSome, map, refl, sym, ap, ◌∙◌, subst}
use Rattle.std.proofs.lemmas.List.Elements.{Contains-append_cases}
use Rattle.std.specs.List.{Contains, flat_map}
use Rattle.sq_arena.specs.Entries.{value_of, first_key, behind as entries_behind, HasDistinctKeys}
use Rattle.sq_graph.specs.Graph.{Block, Procedure, Graph}
use Rattle.sq_graph.specs.Blocks.{named, HasBlock, items_of, block_of, next_of}
use Rattle.sq_graph.specs.Terms.{links, goes_on}
use Rattle.sq_graph.specs.Uses.{uses, code_word_uses, terms_uses, items_uses}
use Rattle.sq_graph.specs.Blocks.{all_items}
use Rattle.sq_graph.specs.Rules.{IsGraph}
use Rattle.sq_graph.specs.Lines.{Line, term_lines, body_lines, lines_of, behind_name, slot_name, block_lines, place_lines}
use Rattle.sq_graph.specs.Walks.{IsLive, word_name, lower_names, link_names, first_name, code_targets}
use Rattle.sq_graph.specs.Soundness.{LinksDieIn, IsSound}
use Rattle.sq_graph.proofs.Located.{located}
use Rattle.law_follow.specs.Follows.{Follows}
use Rattle.law_patch.specs.Changes.{Change, Alike, falls, ends, name_before, name_after, IsSteady}
use Rattle.law_patch.specs.Inserts.{AreReordered}
use Rattle.law_patch.proofs.Layouts.{none_in}
use Rattle.law_patch.proofs.LiveTargets.{word_target}
use Rattle.law_patch.proofs.Patch.{change_follows}
use Rattle.law_patch.proofs.Shrink.{shrinks}
use Rattle.law_patch.proofs.Keeping.{all_matter, every_carrier}
use Rattle.law_patch.proofs.Changing.{ahead, same_map}
use Rattle.law_patch.proofs.Places.{absent_from, found_at, next_at, name_at}
use Rattle.law_patch.proofs.Bypassing.{slot_known}
use Rattle.law_patch.proofs.Dying.{term_dies}
use Rattle.law_patch.proofs.Carrying.{same_some, SlotGoes, BlockGoes, carry_body, carry_term, carried_block, Backs, items_die}
use Rattle.law_patch.proofs.Restricting.{own, flat_from, block_target, procedure_target, slot_target, target_from, links_goes_on, falls_goes_on}
use Rattle.law_patch.proofs.Standing.{stands_at, distinct_at, block_at}
use Rattle.law_patch.proofs.Placing.{C as placing, block_stays, block_goes as block_was}
use Rattle.law_patch.proofs.OneBlock.{die_in}
use Rattle.law_patch.proofs.Remaining.{fits_at, items_at, live_at}
use Rattle.std.proofs.lemmas.Bool.{eq-eqb}
use Rattle.law_patch.proofs.Leading.{slot_lines, slot_lines_name, first_slot, leads}
use Rattle.law_patch.proofs.Used.{contains_first, from_slice, from_all}

first_named : (bs : List Block) → slot_name (lines_of bs) ≡ first_key (named bs)
first_named [] = refl
first_named (x ∷ bs) = refl

-- a slot behind a link, and the block before it
record Linked (bs : List Block) (m : ℕ) : Type 0 where
  pub front : List Block
  pub block : Block
  pub next : Block
  pub back : List Block
  pub whole : front ++ (block ∷ next ∷ back) ≡ bs
  pub links_on : links block.term ≡ true
  pub name : next.name ≡ m

linked_later : (x : Block) (bs : List Block) (m : ℕ) → Linked bs m → Linked (x ∷ bs) m
linked_later x bs m o = record { front = x ∷ o.front; block = o.block; next = o.next; back = o.back; whole = ap (λ cs. x ∷ cs) o.whole; links_on = o.links_on; name = o.name }

linked_here : (x : Block) (bs : List Block) (m : ℕ) (t : Bool) → links x.term ≡ t → Contains (if t then first_name bs else []) m → Linked (x ∷ bs) m
linked_here x bs m false l c = none_in m c
linked_here x [] m true l c = none_in m c
linked_here x (next ∷ bs) m true l (zero, k, e) = record { front = []; block = x; next = next; back = bs; whole = refl; links_on = l; name = e }
linked_here x (next ∷ bs) m true l (suc i, k, e) = absurd (omega arith)

linked : (bs : List Block) (m : ℕ) → Contains (link_names bs) m → Linked bs m
linked [] m c = none_in m c
linked (x ∷ bs) m c =
    elim (Contains-append_cases (if links x.term then first_name bs else []) (link_names bs) m c) [
      | inl here ↦ linked_here x bs m (links x.term) refl here
      | inr later ↦ linked_later x bs m (linked bs m later)
    ]

-- an element of a list stands between others
split_at : (bs : List Block) (b : Block) → Contains bs b → (front : List Block) × ((back : List Block) × (front ++ (b ∷ back) ≡ bs))
split_at [] b c = absurd (let l : c.0 < 0 = c.1 in omega arith)
split_at (x ∷ bs) b (zero, l, e) = ([], (bs, ap (λ y. y ∷ bs) (sym e)))
split_at (x ∷ bs) b (suc i, l, e) = let o = split_at bs b (i, omega (arith, l), e) in (x ∷ o.0, (o.1.0, ap (λ cs. x ∷ cs) o.1.1))

module _ (g : Graph) (blocks : List Block) (rules : IsGraph g) (order : AreReordered g blocks) where
  abbrev h : Graph
  h = record g { blocks = blocks }

  abbrev K : ℕ → Type 0
  K n = HasBlock g n

  known : (n : ℕ) → Contains (uses g) n → K n
  known n c = from_all (HasBlock g) (uses g) n rules.named_all c

  holds : (n : ℕ) → Contains (code_targets g) n → K n
  holds n c =
      elim (target_from g n c) [
        | inl named ↦ known n named
        | inr slot ↦ slot_known g rules g.blocks n slot
      ]

  abbrev C : Change
  C = placing K all_matter (Unit {0}) g h rules known refl refl

  -- the slot behind a block that goes on
  next_is : (front : List Block) (x : Block) (bs : List Block) → front ++ (x ∷ bs) ≡ g.blocks → next_of g x.name ≡ first_key (named bs)
  next_is front x bs e =
      ap first_key (subst (λ cs. entries_behind (named cs) x.name ≡ named bs) e (next_at front x bs (absent_from front x bs (distinct_at g rules front x bs e))))

  next_kept : (front : List Block) (x : Block) (bs : List Block) → front ++ (x ∷ bs) ≡ g.blocks → goes_on x.term ≡ true → next_of h x.name ≡ first_key (named bs)
  next_kept front x bs e goes = order.next x.name x (block_at g rules front x bs e) goes ∙ next_is front x bs e

  -- the block with the next slot that it then has
  abbrev slot : Block → List Line
  slot x = slot_lines blocks (next_of h x.name)

  x_lines : (front : List Block) (x : Block) (bs : List Block) → front ++ (x ∷ bs) ≡ g.blocks → block_lines h x.name ≡ body_lines x (slot x)
  x_lines front x bs e = leads blocks x.name x order.distinct (order.same x.name ∙ block_at g rules front x bs e)

  slot_goes : (front : List Block) (x : Block) (bs : List Block) → front ++ (x ∷ bs) ≡ g.blocks → links x.term ≡ true → SlotGoes C own (slot_name (lines_of bs)) (slot_name (slot x))
  slot_goes front x bs e l =
      let is : slot_name (slot x) ≡ slot_name (lines_of bs) = slot_lines_name blocks (next_of h x.name) ∙ next_kept front x bs e (links_goes_on x.term l) ∙ sym (first_named bs) in
      subst (λ o. SlotGoes C own (slot_name (lines_of bs)) o) (sym is) ((block_was K all_matter (Unit {0}) g h rules known refl refl holds front x bs bs e refl).slot l)

  block_goes : (front : List Block) (x : Block) (bs : List Block) → front ++ (x ∷ bs) ≡ g.blocks → BlockGoes C own x (lines_of bs) (slot x)
  block_goes front x bs e =
      let was = block_was K all_matter (Unit {0}) g h rules known refl refl holds front x bs bs e refl in
      record { items = was.items; term = was.term; slot = slot_goes front x bs e }

  is_own : (x : Block) → carried_block C own x ≡ x
  is_own x = sym (block_stays K all_matter (Unit {0}) g h rules known refl refl holds x)

  body : (b : Bool) (front : List Block) (x : Block) (bs : List Block) → front ++ (x ∷ bs) ≡ g.blocks → Alike C b None (lines_of bs) (slot_lines blocks (first_key (named bs))) → Alike C b None (body_lines x (lines_of bs)) (body_lines x (slot x))
  body b front x bs e later =
      subst (λ z. Alike C b None (body_lines x (lines_of bs)) (body_lines z (slot x))) (is_own x)
      (carry_body C own x (lines_of bs) (slot x) (block_goes front x bs e)
      (λ f. subst (λ o. Alike C b None (lines_of bs) (slot_lines blocks o)) (sym (next_kept front x bs e (falls_goes_on x.term f))) later))

  -- what stands in a slot goes on like what the other graph has under its name
  lines : (b : Bool) (front bs : List Block) → front ++ bs ≡ g.blocks → Alike C b None (lines_of bs) (slot_lines blocks (first_key (named bs)))
  lines b front [] e = ends
  lines b front (x ∷ bs) e =
      name_before (name_after (subst (λ ys. Alike C b None (body_lines x (lines_of bs)) ys) (sym (x_lines front x bs e)) (body b front x bs e (lines b (front ++ x ∷ []) bs (ahead front x bs ∙ e)))))

  body_here : (b : Bool) (front : List Block) (x : Block) (bs : List Block) → front ++ (x ∷ bs) ≡ g.blocks → Alike C b None (body_lines x (lines_of bs)) (body_lines x (slot x))
  body_here b front x bs e = body b front x bs e (lines b (front ++ x ∷ []) bs (ahead front x bs ∙ e))

  names : (n : ℕ) → K n → Alike C false None (block_lines g n) (block_lines h n)
  names n k =
      let at = located g.blocks n k in
      let e : at.front ++ (at.block ∷ at.back) ≡ g.blocks = sym at.whole in
      let before : block_lines g at.block.name ≡ body_lines at.block (lines_of at.back) = subst (λ cs. behind_name at.block.name (lines_of cs) ≡ body_lines at.block (lines_of at.back)) e (name_at at.front at.block at.back (absent_from at.front at.block at.back (distinct_at g rules at.front at.block at.back e))) in
      subst (λ m. Alike C false None (block_lines g m) (block_lines h m)) at.has_name
      (subst (λ xs. Alike C false None xs (block_lines h at.block.name)) (sym before)
      (subst (λ ys. Alike C false None (body_lines at.block (lines_of at.back)) ys) (sym (x_lines at.front at.block at.back e)) (body_here false at.front at.block at.back e)))

  steady : IsSteady C
  steady = record {
    carrier = every_carrier g;
    names = λ n m j. subst (λ k. Alike C false None (block_lines g n) (block_lines h k)) (sym j.0) (names n j.1);
    values = λ n m v. (v.1.1, (v.0, v.1.0));
  }

  pub reorder_follows : Follows g h
  reorder_follows =
      change_follows C steady (refl, known g.entry (contains_first g.entry (code_word_uses g.code_words ++ (terms_uses g.blocks ++ items_uses (all_items g))))) refl (same_map (map word_name g.code_words))
      (λ i n e. let c = word_target g n (from_slice (map word_name g.code_words) i n e) in (refl, (holds n c, c)))

  -- a block of the other order is one of the graph
  record Was (z : Block) : Type 0 where
    front : List Block
    back : List Block
    whole : front ++ (z ∷ back) ≡ g.blocks

  was : (front : List Block) (z : Block) (bs : List Block) → front ++ (z ∷ bs) ≡ blocks → Was z
  was front z bs e =
      let found : value_of (named blocks) z.name ≡ Some z = subst (λ cs. value_of (named cs) z.name ≡ Some z) e (found_at front z bs (absent_from front z bs (subst (λ cs. HasDistinctKeys (named cs)) (sym e) order.distinct))) in
      let there : block_of g z.name ≡ Some z = sym (order.same z.name) ∙ found in
      let at = located g.blocks z.name (subst IsSome (sym there) refl) in
      let here : block_of g z.name ≡ Some at.block = subst (λ m. value_of (named g.blocks) m ≡ Some at.block) at.has_name (block_at g rules at.front at.block at.back (sym at.whole)) in
      let same : at.block ≡ z = same_some at.block z (sym here ∙ there) in
      record { front = at.front; back = at.back; whole = subst (λ b. at.front ++ (b ∷ at.back) ≡ g.blocks) same (sym at.whole) }

  -- the slot behind it in the other order
  slot_there : (front : List Block) (z : Block) (bs : List Block) → front ++ (z ∷ bs) ≡ blocks → lines_of bs ≡ slot z
  slot_there front z bs e =
      let d : HasDistinctKeys (named (front ++ (z ∷ bs))) = subst (λ cs. HasDistinctKeys (named cs)) (sym e) order.distinct in
      let next : next_of h z.name ≡ first_key (named bs) = ap first_key (subst (λ cs. entries_behind (named cs) z.name ≡ named bs) e (next_at front z bs (absent_from front z bs d))) in
      first_slot blocks (front ++ z ∷ []) bs order.distinct (ahead front z bs ∙ e) ∙ ap (slot_lines blocks) (sym next)

  abbrev Held : ℕ → Type 0
  Held m = (n : ℕ) × C.MayHold n m

  held_of : (m : ℕ) → Contains (code_targets g) m → Held m
  held_of m c = (m, (refl, (holds m c, c)))

  lowers_held : (m : ℕ) → Contains (flat_map (λ (b : Block). flat_map lower_names b.items) blocks) m → Held m
  lowers_held m c =
      let o = flat_from (λ (b : Block). flat_map lower_names b.items) blocks m c in
      let at = split_at blocks o.0 o.1.0 in
      let w = was at.0 o.0 at.1.0 at.1.1 in
      held_of m (block_target g o.0 m (stands_at g rules w.front o.0 w.back w.whole) o.1.1)

  slots_held : (m : ℕ) → Contains (link_names blocks) m → Held m
  slots_held m c =
      let o = linked blocks m c in
      let w = was o.front o.block (o.next ∷ o.back) o.whole in
      let d : HasDistinctKeys (named (o.front ++ (o.block ∷ o.next ∷ o.back))) = subst (λ cs. HasDistinctKeys (named cs)) (sym o.whole) order.distinct in
      let next : next_of h o.block.name ≡ Some o.next.name = ap first_key (subst (λ cs. entries_behind (named cs) o.block.name ≡ named (o.next ∷ o.back)) o.whole (next_at o.front o.block (o.next ∷ o.back) (absent_from o.front o.block (o.next ∷ o.back) d))) in
      let first : first_key (named w.back) ≡ Some o.next.name = sym (next_kept w.front o.block w.back w.whole (links_goes_on o.block.term o.links_on)) ∙ next in
      held_of m (subst (λ k. Contains (code_targets g) k) o.name (by_first w.front o.block w.back o.next.name w.whole o.links_on first))
    where
      by_first : (front : List Block) (x : Block) (bs : List Block) (n : ℕ) → front ++ (x ∷ bs) ≡ g.blocks → links x.term ≡ true → first_key (named bs) ≡ Some n → Contains (code_targets g) n
      by_first front x [] n e l f = absurd (cc)
      by_first front x (y ∷ bs) n e l f = subst (λ k. Contains (code_targets g) k) (same_some y.name n f) (slot_target g front x y bs e l)

  in_either : {A B : Type 0} (m : ℕ) → A ⊎ B → (A → Held m) → (B → Held m) → Held m
  in_either m (inl a) p q = p a
  in_either m (inr b) p q = q b

  held : (m : ℕ) → Contains (code_targets h) m → Held m
  held m c =
      let ws = map word_name g.code_words in
      let bs = flat_map (λ (b : Block). flat_map lower_names b.items) blocks in
      let ps = flat_map (λ (p : Procedure). flat_map lower_names p.body) g.procedures in
      in_either m (Contains-append_cases ((ws ++ bs) ++ ps) (link_names blocks) m c)
      (λ d. in_either m (Contains-append_cases (ws ++ bs) ps m d)
      (λ e. in_either m (Contains-append_cases ws bs m e) (λ f. held_of m (word_target g m f)) (lowers_held m))
      (λ e. let o = flat_from (λ (p : Procedure). flat_map lower_names p.body) g.procedures m e in held_of m (procedure_target g o.0 m o.1.0 o.1.1)))
      (slots_held m)

  backs : Backs C own
  backs q ys live = shrinks C steady (λ m c. let o = held m c in (o.0, steady.values o.0 m o.1)) (λ xs r l. tt) tt q live

  dies : IsSound g → (front bs : List Block) → front ++ bs ≡ blocks → LinksDieIn h (lines_of bs)
  dies sound front [] e = tt
  dies sound front (z ∷ bs) e =
      let later = dies sound (front ++ z ∷ []) bs (ahead front z bs ∙ e) in
      let w = was front z bs e in
      let before = die_in g w.front z w.back (subst (λ cs. LinksDieIn g (lines_of cs)) (sym w.whole) sound.links_die) in
      let go = block_goes w.front z w.back w.whole in
      let term = carry_term C own z.term (lines_of w.back) (slot z) go.term go.slot
      (λ f. subst (λ o. Alike C true None (lines_of w.back) (slot_lines blocks o)) (sym (next_kept w.front z w.back w.whole (falls_goes_on z.term f))) (lines true (w.front ++ z ∷ []) w.back (ahead w.front z w.back ∙ w.whole))) in
      let there : LinksDieIn h (slot z) = subst (λ ys. LinksDieIn h ys) (slot_there front z bs e) later in
      subst (λ ys. LinksDieIn h (body_lines z ys)) (sym (slot_there front z bs e))
      (subst (λ (c : Block). LinksDieIn h (body_lines c (slot z))) (is_own z)
      (items_die C own backs z.items (term_lines z.term (lines_of w.back)) (term_lines (carried_block C own z).term (slot z)) go.items term before (term_dies h (carried_block C own z).term (slot z) there)))

  pub reorder_sound : IsSound g → IsSound h
  reorder_sound sound = record { bodies = sound.bodies; links_die = dies sound [] blocks refl }

  -- no more is live at a place
  pub reorder_live : (n place r : ℕ) → K n → place ≤ length (items_of g n) → IsLive h r (place_lines h n place) → IsLive g r (place_lines g n place)
  reorder_live n place r k l live =
      let at = located g.blocks n k in
      let x = at.block in
      let e : at.front ++ (x ∷ at.back) ≡ g.blocks = sym at.whole in
      let before : block_lines g x.name ≡ body_lines x (lines_of at.back) = subst (λ cs. behind_name x.name (lines_of cs) ≡ body_lines x (lines_of at.back)) e (name_at at.front x at.back (absent_from at.front x at.back (distinct_at g rules at.front x at.back e))) in
      let go = block_goes at.front x at.back e in
      let later : falls x.term ≡ true → Alike C true None (lines_of at.back) (slot x) =
      λ f. subst (λ o. Alike C true None (lines_of at.back) (slot_lines blocks o)) (sym (next_kept at.front x at.back e (falls_goes_on x.term f))) (lines true (at.front ++ x ∷ []) at.back (ahead at.front x at.back ∙ e)) in
      let fits : place ≤ length x.items = fits_at g rules n place l at.front x at.back e (eq-eqb x.name n at.has_name) in
      let body : Alike C true None (drop place (body_lines x (lines_of at.back))) (drop place (body_lines x (slot x))) =
      subst (λ (z : Block). Alike C true None (drop place (body_lines x (lines_of at.back))) (drop place (body_lines z (slot x)))) (is_own x)
      (items_at C own place x.items (term_lines x.term (lines_of at.back)) (term_lines (carried_block C own x).term (slot x)) go.items fits (carry_term C own x.term (lines_of at.back) (slot x) go.term go.slot later)) in
      live_at C own backs n place r
      (subst (λ m. Alike C true None (place_lines g m place) (place_lines h m place)) at.has_name
      (subst (λ xs. Alike C true None (drop place xs) (place_lines h x.name place)) (sym before)
      (subst (λ ys. Alike C true None (drop place (body_lines x (lines_of at.back))) (drop place ys)) (sym (x_lines at.front x at.back e)) body))) live
