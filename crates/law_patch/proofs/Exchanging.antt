-- A graph in which a Branch and the lone Jump behind it exchanged their targets follows it.
use Rattle.std.proofs.Common.{◌≡◌, ◌≢◌, ℕ, Bool, true, false, ◌==◌, inr, List, [], ◌∷◌, ◌++◌, Some, None, map, refl, sym, ap, ◌∙◌, subst}
use Rattle.std.proofs.lemmas.Bool.{ne_eqb}
use Rattle.std.specs.List.{Contains, flat_map}
use Rattle.sq_arena.specs.Entries.{value_of, behind as entries_behind, first_key, HasDistinctKeys}
use Rattle.sq_arena.proofs.EntriesLaws.{distinct_back}
use Rattle.sq_isa.specs.Branches.{inverse_of}
use Rattle.sq_isa.specs.declared.instructions.Cond.{Cond}
use Rattle.sq_graph.specs.declared.item.Item.{Item}
use Rattle.sq_graph.specs.declared.item.Term.{Term}
use Rattle.sq_graph.specs.declared.item.Term.TheVariants.{Jump, Branch}
use Rattle.sq_graph.specs.Graph.{Block, Graph}
use Rattle.sq_graph.specs.Blocks.{named, block_of, block_term, items_of}
use Rattle.sq_graph.specs.Uses.{term_uses, uses}
use Rattle.sq_graph.specs.Rules.{IsGraph}
use Rattle.sq_graph.specs.Operations.{with_term}
use Rattle.sq_graph.specs.Resolve.{lone_jump}
use Rattle.sq_graph.specs.Lines.{Name, End, line_of, body_lines, lines_of, behind_name, term_lines, block_lines, place_lines}
use Rattle.sq_graph.specs.Walks.{IsLive, lower_names, link_names, code_targets}
use Rattle.sq_graph.specs.Soundness.{LinksDieIn, IsSound}
use Rattle.sq_graph.specs.Words.{term_words, block_words, words_of}
use Rattle.std.proofs.lemmas.List.Sums.{sum_by-cons, sum_by-append}
use Rattle.std.proofs.Common.{arith, sum_by, ◌≤◌, drop, length}
use Rattle.sq_graph.proofs.Located.{IsAt, located}
use Rattle.sq_graph.proofs.Kept.{absent_behind}
use Rattle.law_follow.specs.Follows.{Follows}
use Rattle.law_patch.specs.Changes.{Change, Alike, name_before, name_after, jump_before, jump_after, promised, both_turned}
use Rattle.law_patch.specs.LoneJumps.{IsOverJump, exchanged}
use Rattle.law_patch.proofs.Keeping.{all_matter, every_carrier}
use Rattle.law_patch.proofs.Lines.{body_unnamed}
use Rattle.law_patch.proofs.Changing.{ahead}
use Rattle.law_patch.proofs.Places.{absent_from, next_at, named_split}
use Rattle.law_patch.proofs.Carrying.{same_some, AreOf, ItemGoes, carry_items, Backs, items_die}
use Rattle.law_patch.proofs.Layouts.{passed, Turn, choose}
use Rattle.law_patch.proofs.Restricting.{own, block_target, target_from}
use Rattle.law_patch.proofs.Standing.{stands_at, distinct_at, block_at, there_by_term}
use Rattle.law_patch.proofs.Detouring.{lone_block, lone_lines}
use Rattle.law_patch.proofs.Moving.{term_use}
use Rattle.law_patch.proofs.Used.{contains_first}
use Rattle.law_patch.proofs.Placing.{C as placing, items_stay, placed_follows, placed_sound, placed_place}
use Rattle.law_patch.proofs.Remaining.{AlikeAt, fits_at, items_at, first_at}
use Rattle.law_patch.proofs.Ending.{all_of}
use Rattle.law_patch.proofs.Replacing.{own_items}
use Rattle.law_patch.proofs.Inverting.{neither, no_slot_at, first_is, branch_unlinked, same_names, placed_by}

module _ (g : Graph) (block : ℕ) (cond : Cond) (a b over away to : ℕ) (rules : IsGraph g) (over_jump : IsOverJump g block cond a b over away to) where
  at : IsAt g.blocks block
  at = located g.blocks block (there_by_term (block_of g block) (Branch cond a b away) over_jump.branch)

  abbrev x : Block
  x = at.block

  abbrev front : List Block
  front = at.front

  at_whole : front ++ (x ∷ at.back) ≡ g.blocks
  at_whole = sym at.whole

  next_there : first_key (named at.back) ≡ Some over
  next_there =
      sym (ap first_key (subst (λ k. entries_behind (named g.blocks) k ≡ named at.back) at.has_name (subst (λ blocks. entries_behind (named blocks) x.name ≡ named at.back) at_whole (next_at front x at.back (absent_from front x at.back (distinct_at g rules front x at.back at_whole))))))
      ∙ over_jump.next

  second : (n : Block) × ((rest : List Block) × ((at.back ≡ n ∷ rest) × (n.name ≡ over)))
  second = first_is at.back over next_there

  abbrev n : Block
  n = second.0

  abbrev back : List Block
  back = second.1.0

  two : front ++ (x ∷ n ∷ back) ≡ g.blocks
  two = subst (λ bs. front ++ (x ∷ bs) ≡ g.blocks) second.1.1.0 at_whole

  one : (front ++ x ∷ []) ++ (n ∷ back) ≡ g.blocks
  one = ahead front x (n ∷ back) ∙ two

  branch : x.term ≡ Branch cond a b away
  branch =
      same_some x.term (Branch cond a b away)
      (sym (ap block_term (subst (λ k. value_of (named g.blocks) k ≡ Some x) at.has_name (block_at g rules front x at.back at_whole))) ∙ over_jump.branch)

  lone : (n.items ≡ []) × (n.term ≡ Jump to)
  lone =
      lone_block n.items n.term to
      (sym (ap lone_jump (subst (λ k. value_of (named g.blocks) k ≡ Some n) second.1.1.1 (block_at g rules (front ++ x ∷ []) n back one))) ∙ over_jump.jump)

  abbrev turned : Term
  turned = Branch (inverse_of cond) a b to

  abbrev y : Block
  y = record x { term = turned }

  abbrev m : Block
  m = record n { term = Jump away }

  abbrev h : Graph
  h = exchanged g block cond a b over away to

  -- every name but that of the Jump
  abbrev Other : ℕ → Type 0
  Other k = k ≢ over

  absent_ahead_of : value_of (named (front ++ x ∷ [])) n.name ≡ None
  absent_ahead_of = absent_from (front ++ x ∷ []) n back (distinct_at g rules (front ++ x ∷ []) n back one)

  absent_behind_it : value_of (named back) n.name ≡ None
  absent_behind_it =
      absent_behind (n.name, n) (named back)
      (distinct_back (named (front ++ x ∷ [])) (named (n ∷ back)) (subst HasDistinctKeys (named_split (front ++ x ∷ []) n back) (distinct_at g rules (front ++ x ∷ []) n back one)))

  known : (k : ℕ) → Contains (uses g) k → Other k
  known k c is = over_jump.unnamed (subst (λ i. Contains (uses g) i) is c)

  slot_apart : Contains (link_names g.blocks) over → ⊥
  slot_apart c =
      no_slot_at front x n back (branch_unlinked x.term cond a b away branch) absent_ahead_of absent_behind_it
      (subst (λ bs. Contains (link_names bs) n.name) (sym two) (subst (λ k. Contains (link_names g.blocks) k) (sym second.1.1.1) c))

  holds : (k : ℕ) → Contains (code_targets g) k → Other k
  holds k c is = neither (target_from g over (subst (λ i. Contains (code_targets g) i) is c)) over_jump.unnamed slot_apart

  abbrev C : Change
  C = placing Other all_matter (Unit {0}) g h rules known refl refl

  in_graph : Contains g.blocks x
  in_graph = stands_at g rules front x (n ∷ back) two

  each : AreOf C own (ItemGoes C own) x.items
  each = items_stay Other all_matter (Unit {0}) g h rules known refl refl holds x in_graph

  -- the two targets are used, so they are other blocks
  away_other : Other away
  away_other = known away (term_use g x away in_graph (subst (λ t. Contains (term_uses t) away) (sym branch) (contains_first away [])))

  to_other : Other to
  to_other = known to (term_use g n to (stands_at g rules (front ++ x ∷ []) n back one) (subst (λ t. Contains (term_uses t) to) (sym lone.1) (contains_first to [])))

  -- the Jump's block before and after
  jump_before_lines : body_lines n (lines_of back) ≡ End (Jump to) ∷ lines_of back
  jump_before_lines = lone_lines n.items n.term n.name to (lines_of back) lone.0 lone.1

  jump_after_lines : body_lines m (lines_of back) ≡ End (Jump away) ∷ lines_of back
  jump_after_lines = lone_lines n.items (Jump away) n.name away (lines_of back) lone.0 refl

  -- where the Branch is taken on one side, the other goes on by the Jump
  away_goes : Alike C true None (block_lines g away) (lines_of (m ∷ back))
  away_goes =
      subst (λ lines. Alike C true None (block_lines g away) (Name n.name ∷ lines)) (sym jump_after_lines)
      (name_after (jump_after tt (promised (refl, away_other))))

  to_goes : Alike C true None (lines_of (n ∷ back)) (block_lines h to)
  to_goes =
      subst (λ lines. Alike C true None (Name n.name ∷ lines) (block_lines h to)) (sym jump_before_lines)
      (name_before (jump_before tt (promised (refl, to_other))))

  ended : (t : Bool) → Alike C t None (term_lines x.term (lines_of (n ∷ back))) (End turned ∷ lines_of (m ∷ back))
  ended t =
      subst (λ u. Alike C t None (term_lines u (lines_of (n ∷ back))) (End turned ∷ lines_of (m ∷ back))) (sym branch)
      (both_turned cond a b away to away_goes to_goes)

  body : (t : Bool) → Alike C t None (body_lines x (lines_of (n ∷ back))) (body_lines y (lines_of (m ∷ back)))
  body t =
      subst (λ is. Alike C t None (body_lines x (lines_of (n ∷ back))) (map line_of is ++ (End turned ∷ lines_of (m ∷ back)))) (own_items x.items)
      (carry_items C own x.items (term_lines x.term (lines_of (n ∷ back))) (End turned ∷ lines_of (m ∷ back)) each (ended t))

  other_than : (k : ℕ) → Other k → (n.name == k) ≡ false
  other_than k j = ne_eqb n.name k (λ e. j (sym e ∙ second.1.1.1))

  lower_in : (k : ℕ) → Contains (flat_map lower_names x.items ++ (flat_map lower_names n.items ++ [])) k → Contains (code_targets g) k
  lower_in k c =
      let d = subst (λ (is : List Item). Contains (flat_map lower_names x.items ++ (flat_map lower_names is ++ [])) k) lone.0 c in
      block_target g x k in_graph (all_of (flat_map lower_names x.items) k d)

  both_die : Backs C own → LinksDieIn g (body_lines x (lines_of (n ∷ back))) → LinksDieIn h (lines_of back) → LinksDieIn h (body_lines y (lines_of (m ∷ back)))
  both_die backs die die' =
      let later : LinksDieIn h (lines_of (m ∷ back)) = subst (λ lines. LinksDieIn h lines) (sym jump_after_lines) die' in
      subst (λ (is : List Item). LinksDieIn h (map line_of is ++ (End turned ∷ lines_of (m ∷ back)))) (own_items x.items)
      (items_die C own backs x.items (term_lines x.term (lines_of (n ∷ back))) (End turned ∷ lines_of (m ∷ back)) each (ended true) die later)

  turn : Turn C own Other true true (x ∷ n ∷ []) (y ∷ m ∷ []) back back
  turn = record {
    lines = λ t i p. name_before (name_after (body t));
    behind = λ k j p q.
        choose (x.name == k) (body_lines x (lines_of (n ∷ back))) (behind_name k (body_lines x (lines_of (n ∷ back)))) (body_lines y (lines_of (m ∷ back))) (behind_name k (body_lines y (lines_of (m ∷ back)))) (body false)
        (subst (λ xs. Alike C false None xs (behind_name k (body_lines y (lines_of (m ∷ back))))) (sym (body_unnamed k x (lines_of (n ∷ back)) ∙ passed n k back (other_than k j)))
        (subst (λ ys. Alike C false None (behind_name k (lines_of back)) ys) (sym (body_unnamed k y (lines_of (m ∷ back)) ∙ passed m k back (other_than k j))) q));
    lowers = λ k c. let d = lower_in k c in (k, (refl, (holds k d, d)));
    slots = λ k c. inr c;
    dies = λ backs p die die'. both_die backs die die';
  }

  absent_at : value_of (named front) block ≡ None
  absent_at = subst (λ k. value_of (named front) k ≡ None) at.has_name (absent_from front x (n ∷ back) (distinct_at g rules front x (n ∷ back) two))

  after : h.blocks ≡ front ++ (y ∷ m ∷ back)
  after =
      let first : (with_term g block turned).blocks ≡ front ++ (y ∷ n ∷ back) = placed_by front x (n ∷ back) block (λ c. record c { term = turned } ∷ []) g.blocks two at.has_name absent_at in
      placed_by (front ++ y ∷ []) n back over (λ c. record c { term = Jump away } ∷ []) (with_term g block turned).blocks (ahead front y (n ∷ back) ∙ sym first) second.1.1.1
      (subst (λ k. value_of (named (front ++ y ∷ [])) k ≡ None) second.1.1.1 (same_names front x y n.name refl absent_ahead_of))
      ∙ ahead front y (m ∷ back)

  pub exchange_follows : Follows g h
  exchange_follows = placed_follows Other all_matter (Unit {0}) g h rules known refl refl holds (x ∷ n ∷ []) (y ∷ m ∷ []) back refl turn front two after refl (every_carrier g)

  pub exchange_sound : IsSound g → IsSound h
  exchange_sound sound = placed_sound Other all_matter (Unit {0}) g h rules known refl refl holds (x ∷ n ∷ []) (y ∷ m ∷ []) back refl turn front two after refl (every_carrier g) (λ xs r l. tt) tt sound

  branch_word : term_words x.term ≡ 1
  branch_word = ap term_words branch

  jump_word : term_words n.term ≡ 1
  jump_word = ap term_words lone.1

  pub exchange_saves : words_of h ≡ words_of g
  exchange_saves =
      omega (
        arith,
        ap (λ bs. sum_by block_words bs) after,
        sum_by-append block_words front (y ∷ m ∷ back),
        sum_by-cons block_words y (m ∷ back),
        sum_by-cons block_words m back,
        ap (λ bs. sum_by block_words bs) two,
        sum_by-append block_words front (x ∷ n ∷ back),
        sum_by-cons block_words x (n ∷ back),
        sum_by-cons block_words n back,
        branch_word,
        jump_word,
      )

  -- places of the block that branches, and of others
  first_at_exchange : (k place : ℕ) → Other k → ((x.name == k) ≡ true → place ≤ length x.items) → AlikeAt C own k place back back → AlikeAt C own k place (x ∷ n ∷ back) (y ∷ m ∷ back)
  first_at_exchange k place j fits q =
      first_at C own k place x y (n ∷ back) (m ∷ back) refl
      (λ t.
      subst (λ is. Alike C true None (drop place (body_lines x (lines_of (n ∷ back)))) (drop place (map line_of is ++ (End turned ∷ lines_of (m ∷ back))))) (own_items x.items)
      (items_at C own place x.items (term_lines x.term (lines_of (n ∷ back))) (End turned ∷ lines_of (m ∷ back)) each (fits t) (ended true)))
      (subst (λ xs. Alike C true None (drop place xs) (drop place (behind_name k (lines_of (m ∷ back))))) (sym (passed n k back (other_than k j)))
      (subst (λ ys. Alike C true None (drop place (behind_name k (lines_of back))) (drop place ys)) (sym (passed m k back (other_than k j))) q))

  -- no more is live at a place of a block that isn't the Jump
  pub exchange_live : (k place r : ℕ) → Other k → place ≤ length (items_of g k) → IsLive h r (place_lines h k place) → IsLive g r (place_lines g k place)
  exchange_live k place r j l live =
      placed_place Other all_matter (Unit {0}) g h rules known refl refl holds (x ∷ n ∷ []) (y ∷ m ∷ []) back refl turn front two after refl (every_carrier g) (λ xs r l. tt) tt k place r l
      (first_at_exchange k place j (fits_at g rules k place l front x (n ∷ back) two)) live
