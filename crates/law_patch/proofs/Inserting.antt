-- A graph with a lone Jump to the next slot behind a block follows it.
use Rattle.std.proofs.Common.{◌≡◌, ◌≢◌, ◌≤◌, drop, length, ℕ, zero, suc, ◌⊎◌, arith, Bool, true, false, ◌==◌, inl, inr, List, [], ◌∷◌, ◌++◌, Some, None, IsSome, refl, sym, ap, ◌∙◌, subst}
use Rattle.std.proofs.lemmas.Bool.{ne_eqb}
use Rattle.std.proofs.lemmas.List.Elements.{All-nil, All-cons}
use Rattle.std.specs.List.{Contains, flat_map}
use Rattle.sq_arena.specs.Entries.{value_of, first_key, behind as entries_behind}
use Rattle.sq_graph.specs.declared.item.Term.TheVariants.{Jump}
use Rattle.sq_graph.specs.Graph.{Block, Graph}
use Rattle.sq_graph.specs.Blocks.{named, HasBlock, items_of, next_of}
use Rattle.sq_graph.specs.Terms.{links}
use Rattle.sq_graph.specs.Uses.{uses}
use Rattle.sq_graph.specs.Rules.{IsGraph}
use Rattle.sq_graph.specs.Operations.{IsNew, inserted_after}
use Rattle.sq_graph.specs.Lines.{Line, End, term_lines, body_lines, lines_of, behind_name, block_lines, place_lines}
use Rattle.sq_graph.specs.Walks.{IsLive, lower_names, link_names, code_targets}
use Rattle.sq_graph.specs.Soundness.{LinksDieIn, IsSound}
use Rattle.sq_graph.proofs.Located.{IsAt, located}
use Rattle.sq_graph.proofs.Changes.{with_blocks-at}
use Rattle.sq_graph.proofs.OperationRules.{inserted_after_rules}
use Rattle.law_follow.specs.Follows.{Follows}
use Rattle.law_patch.specs.Changes.{Change, Alike, name_before, name_after, jump_after}
use Rattle.law_patch.proofs.Keeping.{NoMode, no_stands, all_matter, every_carrier}
use Rattle.law_patch.proofs.Lines.{body_unnamed}
use Rattle.law_patch.proofs.Changing.{ahead}
use Rattle.law_patch.proofs.Places.{absent_from, next_at, name_at}
use Rattle.law_patch.proofs.Bypassing.{slot_known}
use Rattle.law_patch.proofs.Dying.{term_dies}
use Rattle.law_patch.proofs.Carrying.{same_some, BlockGoes, carry_body, carry_term, carried_block, Backs, items_die}
use Rattle.law_patch.proofs.Layouts.{IsHeld, Turn, carries_lines, choose}
use Rattle.law_patch.proofs.Restricting.{own, block_target, slot_target, target_from}
use Rattle.law_patch.proofs.Standing.{stands_at, distinct_at, block_at}
use Rattle.law_patch.proofs.Relating.{relating, block_stays, block_goes, all_stay, same_names, placed_follows, placed_sound, placed_place}
use Rattle.law_patch.proofs.Remaining.{AlikeAt, fits_at, items_at, first_at}
use Rattle.law_patch.proofs.Ending.{all_of, one_slot}
use Rattle.law_patch.proofs.Used.{not_new, from_all}

module _ (g : Graph) (new block next : ℕ) (rules : IsGraph g) (fresh : IsNew g new) (has : HasBlock g block) (slot : next_of g block ≡ Some next) where
  abbrev h : Graph
  h = inserted_after g new block (Jump next)

  -- every name but the new one; and the next slot may stand for the new block
  abbrev Old : ℕ → Type 0
  Old n = n ≢ new

  abbrev Stands : ℕ → ℕ → Type 0
  Stands n m = (m ≡ n) ⊎ ((n ≡ next) × (m ≡ new))

  abbrev MayGo : ℕ → ℕ → Type 0
  MayGo n m = Old n × Stands n m

  abbrev MayHold : ℕ → ℕ → Type 0
  MayHold n m = Contains (code_targets g) n × MayGo n m

  abbrev C : Change
  C = relating NoMode no_stands MayHold MayGo all_matter (Unit {0}) g h

  old : (n : ℕ) → HasBlock g n → Old n
  old n there = not_new g new n fresh there

  used_old : (n : ℕ) → Contains (uses g) n → Old n
  used_old n c = old n (from_all (HasBlock g) (uses g) n rules.named_all c)

  target_old : (n : ℕ) → Contains (code_targets g) n → Old n
  target_old n c =
      elim (target_from g n c) [
        | inl named ↦ used_old n named
        | inr linked ↦ old n (slot_known g rules g.blocks n linked)
      ]

  may_hold : (n : ℕ) → Contains (code_targets g) n → MayHold n n
  may_hold n c = (c, (target_old n c, inl refl))

  may_go : (n : ℕ) → Contains (uses g) n → MayGo n n
  may_go n c = (used_old n c, inl refl)

  -- where the block stands, and the one behind it
  spot : IsAt g.blocks block
  spot = located g.blocks block has

  abbrev x : Block
  x = spot.block

  whole : spot.front ++ (x ∷ spot.back) ≡ g.blocks
  whole = sym spot.whole

  first_back : first_key (named spot.back) ≡ Some next
  first_back =
      sym (ap first_key (subst (λ k. entries_behind (named g.blocks) k ≡ named spot.back) spot.has_name (subst (λ blocks. entries_behind (named blocks) x.name ≡ named spot.back) whole (next_at spot.front x spot.back (absent_from spot.front x spot.back (distinct_at g rules spot.front x spot.back whole))))))
      ∙ slot

  behind_is : (bs : List Block) → first_key (named bs) ≡ Some next → (w : Block) × ((rest : List Block) × ((bs ≡ w ∷ rest) × (w.name ≡ next)))
  behind_is [] e = absurd (cc)
  behind_is (w ∷ rest) e = (w, (rest, (refl, same_some w.name next e)))

  second : (w : Block) × ((rest : List Block) × ((spot.back ≡ w ∷ rest) × (w.name ≡ next)))
  second = behind_is spot.back first_back

  abbrev w : Block
  w = second.0

  abbrev rest : List Block
  rest = second.1.0

  abbrev jump : Block
  jump = record { name = new; items = []; term = Jump next }

  abbrev front : List Block
  front = spot.front

  two : front ++ (x ∷ w ∷ rest) ≡ g.blocks
  two = subst (λ bs. front ++ (x ∷ bs) ≡ g.blocks) second.1.1.0 whole

  one : (front ++ x ∷ []) ++ (w ∷ rest) ≡ g.blocks
  one = ahead front x (w ∷ rest) ∙ two

  after : h.blocks ≡ front ++ (x ∷ jump ∷ w ∷ rest)
  after = with_blocks-at (λ b. b ∷ jump ∷ []) g.blocks block spot ∙ ap (λ bs. front ++ (x ∷ jump ∷ bs)) second.1.1.0

  w_there : HasBlock g next
  w_there =
      subst (λ k. IsSome (value_of (named g.blocks) k)) second.1.1.1
      (subst IsSome (sym (block_at g rules (front ++ x ∷ []) w rest one)) refl)

  h_rules : IsGraph h
  h_rules = inserted_after_rules g new block (Jump next) rules fresh has tt (All-cons (HasBlock g) next [] w_there (All-nil (HasBlock g))) (λ e. absurd (cc))

  -- what the names lead to in the second graph
  jump_ahead : (front ++ x ∷ []) ++ (jump ∷ w ∷ rest) ≡ h.blocks
  jump_ahead = ahead front x (jump ∷ w ∷ rest) ∙ sym after

  next_ahead : ((front ++ x ∷ []) ++ jump ∷ []) ++ (w ∷ rest) ≡ h.blocks
  next_ahead = ahead (front ++ x ∷ []) jump (w ∷ rest) ∙ jump_ahead

  jump_leads : block_lines h new ≡ End (Jump next) ∷ lines_of (w ∷ rest)
  jump_leads =
      subst (λ blocks. behind_name new (lines_of blocks) ≡ End (Jump next) ∷ lines_of (w ∷ rest)) jump_ahead
      (name_at (front ++ x ∷ []) jump (w ∷ rest) (absent_from (front ++ x ∷ []) jump (w ∷ rest) (distinct_at h h_rules (front ++ x ∷ []) jump (w ∷ rest) jump_ahead)))

  next_leads : block_lines h next ≡ body_lines w (lines_of rest)
  next_leads =
      subst (λ k. behind_name k (lines_of h.blocks) ≡ body_lines w (lines_of rest)) second.1.1.1
      (subst (λ blocks. behind_name w.name (lines_of blocks) ≡ body_lines w (lines_of rest)) next_ahead
      (name_at ((front ++ x ∷ []) ++ jump ∷ []) w rest (absent_from ((front ++ x ∷ []) ++ jump ∷ []) w rest (distinct_at h h_rules ((front ++ x ∷ []) ++ jump ∷ []) w rest next_ahead))))

  in_graph : Contains g.blocks x
  in_graph = stands_at g rules front x (w ∷ rest) two

  -- the block behind goes on as before
  next_goes : (b : Bool) → Alike C b None (body_lines w (lines_of rest)) (body_lines w (lines_of rest))
  next_goes b =
      let e3 : ((front ++ x ∷ []) ++ w ∷ []) ++ rest ≡ g.blocks = ahead (front ++ x ∷ []) w rest ∙ one in
      subst (λ z. Alike C b None (body_lines w (lines_of rest)) (body_lines z (lines_of rest))) (sym (block_stays NoMode no_stands MayHold MayGo Old all_matter (Unit {0}) g h rules refl refl may_hold may_go w))
      (carry_body C own w (lines_of rest) (lines_of rest) (block_goes NoMode no_stands MayHold MayGo Old all_matter (Unit {0}) g h rules refl refl may_hold may_go (front ++ x ∷ []) w rest rest one refl)
      (λ f. carries_lines C own Old b refl (all_stay NoMode no_stands MayHold MayGo Old all_matter (Unit {0}) g h rules refl refl may_hold may_go true ((front ++ x ∷ []) ++ w ∷ []) rest e3)))

  abbrev back : List Line
  back = lines_of (w ∷ rest)

  -- the slot behind the block goes on like the Jump to it
  detour : (b : Bool) → Alike C b None back (lines_of (jump ∷ w ∷ rest))
  detour b =
      name_before (name_after (jump_after tt (subst (λ lines. Alike C b None (body_lines w (lines_of rest)) lines) (sym next_leads) (next_goes b))))

  linked : links x.term ≡ true → MayHold w.name new
  linked l =
      let c = slot_target g front x w rest two l in (c, (target_old w.name c, inr (second.1.1.1, refl)))

  goes : BlockGoes C own x back (lines_of (jump ∷ w ∷ rest))
  goes =
      let as_was = block_goes NoMode no_stands MayHold MayGo Old all_matter (Unit {0}) g h rules refl refl may_hold may_go front x (w ∷ rest) (w ∷ rest) two refl in
      record { items = as_was.items; term = as_was.term; slot = linked }

  x_is : carried_block C own x ≡ x
  x_is = sym (block_stays NoMode no_stands MayHold MayGo Old all_matter (Unit {0}) g h rules refl refl may_hold may_go x)

  body : (b : Bool) → Alike C b None (body_lines x back) (body_lines x (lines_of (jump ∷ w ∷ rest)))
  body b =
      subst (λ z. Alike C b None (body_lines x back) (body_lines z (lines_of (jump ∷ w ∷ rest)))) x_is
      (carry_body C own x back (lines_of (jump ∷ w ∷ rest)) goes (λ f. detour b))

  jump_passed : (m : ℕ) → Old m → behind_name m (lines_of (jump ∷ w ∷ rest)) ≡ behind_name m back
  jump_passed m k = let apart : (new == m) ≡ false = ne_eqb new m (λ e. k (sym e)) in rw apart refl

  new_held : (m : ℕ) → links x.term ≡ true → Contains (new ∷ []) m → IsHeld C own Old m
  new_held m l (zero, k, e) = (w.name, subst (λ i. MayHold w.name i) e (linked l))
  new_held m l (suc i, k, e) = absurd (omega arith)

  block_dies : Backs C own → LinksDieIn g (body_lines x back) → LinksDieIn h back → LinksDieIn h (body_lines x (lines_of (jump ∷ w ∷ rest)))
  block_dies backs die die' =
      subst (λ (z : Block). LinksDieIn h (body_lines z (lines_of (jump ∷ w ∷ rest)))) x_is
      (items_die C own backs x.items (term_lines x.term back) (term_lines (carried_block C own x).term (lines_of (jump ∷ w ∷ rest))) goes.items
      (carry_term C own x.term back (lines_of (jump ∷ w ∷ rest)) goes.term goes.slot (λ f. detour true)) die
      (term_dies h (carried_block C own x).term (lines_of (jump ∷ w ∷ rest)) die'))

  turn : Turn C own Old true true (x ∷ []) (x ∷ jump ∷ []) (w ∷ rest) (w ∷ rest)
  turn = record {
    lines = λ b i p. name_before (name_after (body b));
    behind = λ m k p q.
        choose (x.name == m) (body_lines x back) (behind_name m (body_lines x back)) (body_lines x (lines_of (jump ∷ w ∷ rest))) (behind_name m (body_lines x (lines_of (jump ∷ w ∷ rest)))) (body false)
        (subst (λ xs. Alike C false None xs (behind_name m (body_lines x (lines_of (jump ∷ w ∷ rest))))) (sym (body_unnamed m x back))
        (subst (λ ys. Alike C false None (behind_name m back) ys) (sym (body_unnamed m x (lines_of (jump ∷ w ∷ rest)) ∙ jump_passed m k)) q));
    lowers = λ m c. let d = block_target g x m in_graph (all_of (flat_map lower_names x.items) m c) in (m, may_hold m d);
    slots = λ m c. one_slot (links x.term) m (new ∷ []) (link_names (w ∷ rest)) c (λ l d. new_held m l d);
    dies = λ backs p die die'. block_dies backs die die';
  }

  same : (n : ℕ) → Old n → Alike C false None (block_lines g n) (block_lines h n)
  same n k = same_names NoMode no_stands MayHold MayGo Old all_matter (Unit {0}) g h rules refl refl may_hold may_go (x ∷ []) (x ∷ jump ∷ []) (w ∷ rest) refl turn front two after n k

  names : (n m : ℕ) → MayGo n m → Alike C false None (block_lines g n) (block_lines h m)
  names n m j =
      elim j.1 [
        | inl e ↦ subst (λ k. Alike C false None (block_lines g n) (block_lines h k)) (sym e) (same n j.0)
        | inr e ↦
            subst (λ k. Alike C false None (block_lines g n) (block_lines h k)) (sym e.1)
            (subst (λ ys. Alike C false None (block_lines g n) ys) (sym jump_leads)
            (jump_after tt (subst (λ k. Alike C false None (block_lines g n) (block_lines h k)) e.0 (same n j.0))))
      ]

  values : (n m : ℕ) → MayHold n m → Contains (code_targets g) n × MayGo n m
  values n m v = v

  pub insert_follows : Follows g h
  insert_follows = placed_follows NoMode no_stands MayHold MayGo Old all_matter (Unit {0}) g h rules refl refl may_hold may_go (x ∷ []) (x ∷ jump ∷ []) (w ∷ rest) refl turn front two after refl (every_carrier g) values names

  pub insert_sound : IsSound g → IsSound h
  insert_sound sound = placed_sound NoMode no_stands MayHold MayGo Old all_matter (Unit {0}) g h rules refl refl may_hold may_go (x ∷ []) (x ∷ jump ∷ []) (w ∷ rest) refl turn front two after refl (every_carrier g) values names (λ xs r l. tt) tt sound

  -- places of the block, and of others
  first_at_insert : (m place : ℕ) → Old m → ((x.name == m) ≡ true → place ≤ length x.items) → AlikeAt C own m place (w ∷ rest) (w ∷ rest) → AlikeAt C own m place (x ∷ w ∷ rest) (x ∷ jump ∷ w ∷ rest)
  first_at_insert m place k fits q =
      first_at C own m place x x (w ∷ rest) (jump ∷ w ∷ rest) refl
      (λ t.
      subst (λ (z : Block). Alike C true None (drop place (body_lines x back)) (drop place (body_lines z (lines_of (jump ∷ w ∷ rest))))) x_is
      (items_at C own place x.items (term_lines x.term back) (term_lines (carried_block C own x).term (lines_of (jump ∷ w ∷ rest))) goes.items (fits t)
      (carry_term C own x.term back (lines_of (jump ∷ w ∷ rest)) goes.term goes.slot (λ f. detour true))))
      (subst (λ ys. Alike C true None (drop place (behind_name m back)) (drop place ys)) (sym (jump_passed m k)) q)

  -- no more is live at a place of a block that was there
  pub insert_live : (m place r : ℕ) → HasBlock g m → place ≤ length (items_of g m) → IsLive h r (place_lines h m place) → IsLive g r (place_lines g m place)
  insert_live m place r there l live =
      placed_place NoMode no_stands MayHold MayGo Old all_matter (Unit {0}) g h rules refl refl may_hold may_go (x ∷ []) (x ∷ jump ∷ []) (w ∷ rest) refl turn front two after refl (every_carrier g) values names (λ xs r l. tt) tt m place r l
      (first_at_insert m place (old m there) (fits_at g rules m place l front x (w ∷ rest) two)) live
