-- A graph in which a Branch over a lone Jump became the inverted one, to the Jump's target, follows it.
use Rattle.std.proofs.Common.{◌≡◌, ◌≢◌, ℕ, zero, suc, Bool, true, false, ◌==◌, if◌then◌else◌, ◌⊎◌, inl, inr, List, [], ◌∷◌, ◌++◌, Some, None, refl, sym, ap, ◌∙◌, subst, arith}
use Rattle.std.proofs.lemmas.Bool.{ne_eqb, eqb-false}
use Rattle.std.proofs.lemmas.List.Elements.{Contains-append_cases}
use Rattle.std.specs.List.{Contains}
use Rattle.sq_arena.specs.Entries.{value_of, behind as entries_behind, first_key, HasDistinctKeys}
use Rattle.sq_arena.proofs.EntriesLaws.{distinct_back}
use Rattle.sq_isa.specs.Branches.{inverse_of}
use Rattle.sq_isa.specs.declared.instructions.Cond.{Cond}
use Rattle.sq_graph.specs.declared.item.Term.{Term}
use Rattle.sq_graph.specs.declared.item.Term.TheVariants.{Jump, Branch}
use Rattle.sq_graph.specs.Graph.{Block, Graph}
use Rattle.sq_graph.specs.Blocks.{named, block_of, block_term, next_of, items_of}
use Rattle.sq_graph.specs.Terms.{links}
use Rattle.sq_graph.specs.Uses.{uses}
use Rattle.sq_graph.specs.Rules.{IsGraph}
use Rattle.sq_graph.specs.Operations.{with_blocks, with_term}
use Rattle.sq_graph.specs.Resolve.{lone_jump}
use Rattle.sq_graph.specs.Lines.{Name, End, body_lines, lines_of, behind_name, term_lines, block_lines, place_lines}
use Rattle.sq_graph.specs.Walks.{IsLive, link_names, first_name, code_targets}
use Rattle.sq_graph.specs.Soundness.{IsSound}
use Rattle.sq_graph.specs.Words.{term_words, block_words, words_of}
use Rattle.sq_graph.specs.declared.item.Item.{Item}
use Rattle.std.proofs.lemmas.List.Sums.{sum_by-cons, sum_by-append}
use Rattle.std.proofs.Common.{◌+◌, ◌≤◌, length, sum_by}
use Rattle.sq_graph.proofs.Located.{IsAt, located}
use Rattle.sq_graph.proofs.Changes.{with_blocks-at}
use Rattle.sq_graph.proofs.Kept.{absent_behind}
use Rattle.law_follow.specs.Follows.{Follows}
use Rattle.law_patch.specs.Changes.{Change, Alike, name_before, name_after, jump_before, promised, both_turned}
use Rattle.law_patch.specs.LoneJumps.{IsJumpedOver, inverted_over}
use Rattle.law_patch.proofs.Keeping.{all_matter, every_carrier}
use Rattle.law_patch.proofs.Changing.{ahead}
use Rattle.law_patch.proofs.Places.{absent_from, next_at, name_at, named_split, other_name}
use Rattle.law_patch.proofs.Carrying.{same_some, carry_body}
use Rattle.law_patch.proofs.Layouts.{passed, Turn, carries_lines, none_in}
use Rattle.law_patch.proofs.Restricting.{own, target_from}
use Rattle.law_patch.proofs.Standing.{stands_at, distinct_at, block_at, there_by_term}
use Rattle.law_patch.proofs.Detouring.{lone_block, lone_lines}
use Rattle.law_patch.proofs.Moving.{term_use}
use Rattle.law_patch.proofs.Used.{contains_first}
use Rattle.sq_graph.specs.Uses.{term_uses}
use Rattle.law_patch.proofs.Placing.{C as placing, block_stays, block_goes, all_stay, placed_follows, placed_sound, placed_place}
use Rattle.law_patch.proofs.Ending.{term_turn, term_at}
use Rattle.law_patch.proofs.Remaining.{fits_at}

-- a name that no block has is no slot behind a link
absent_first : (b : Block) (bs : List Block) (m : ℕ) → value_of (named (b ∷ bs)) m ≡ None → (b.name ≡ m → ⊥) × (value_of (named bs) m ≡ None)
absent_first b bs m e =
    let o = other_name (b.name == m) b (value_of (named bs) m) e in (eqb-false b.name m o.0, o.1)

only : (n m : ℕ) → Contains (n ∷ []) m → n ≡ m
only n m (zero, l, e) = e
only n m (suc i, l, e) = absurd (omega arith)

no_first : (t : Bool) (bs : List Block) (m : ℕ) → value_of (named bs) m ≡ None → Contains (if t then first_name bs else []) m → ⊥
no_first false bs m e c = none_in m c
no_first true [] m e c = none_in m c
no_first true (b ∷ bs) m e c = (absent_first b bs m e).0 (only b.name m c)

pub neither : {A B : Type 0} → A ⊎ B → (A → ⊥) → (B → ⊥) → ⊥
neither (inl a) p q = p a
neither (inr b) p q = q b

no_slot : (b : Block) (bs : List Block) (m : ℕ) → value_of (named bs) m ≡ None → Contains (link_names (b ∷ bs)) m → ⊥
no_slot b [] m e c =
    neither (Contains-append_cases (if links b.term then [] else []) [] m c) (no_first (links b.term) [] m e) (none_in m)
no_slot b (next ∷ bs) m e c =
    neither (Contains-append_cases (if links b.term then next.name ∷ [] else []) (link_names (next ∷ bs)) m c)
    (no_first (links b.term) (next ∷ bs) m e) (no_slot next bs m (absent_first next bs m e).1)

-- nor is it where the slot before doesn't link, and no other block has the name
pub no_slot_at : (front : List Block) (x n : Block) (back : List Block) → links x.term ≡ false → value_of (named (front ++ x ∷ [])) n.name ≡ None → value_of (named back) n.name ≡ None → Contains (link_names (front ++ (x ∷ n ∷ back))) n.name → ⊥
no_slot_at [] x n back l e f c =
    neither (Contains-append_cases (if links x.term then n.name ∷ [] else []) (link_names (n ∷ back)) n.name c)
    (λ d. none_in n.name (subst (λ t. Contains (if t then n.name ∷ [] else []) n.name) l d)) (no_slot n back n.name f)
no_slot_at (y ∷ []) x n back l e f c =
    neither (Contains-append_cases (if links y.term then x.name ∷ [] else []) (link_names (x ∷ n ∷ back)) n.name c)
    (no_first (links y.term) (x ∷ []) n.name (absent_first y (x ∷ []) n.name e).1) (no_slot_at [] x n back l (absent_first y (x ∷ []) n.name e).1 f)
no_slot_at (y ∷ z ∷ front) x n back l e f c =
    let e' = (absent_first y (z ∷ (front ++ x ∷ [])) n.name e).1 in
    neither (Contains-append_cases (if links y.term then z.name ∷ [] else []) (link_names (z ∷ (front ++ (x ∷ n ∷ back)))) n.name c)
    (no_first (links y.term) (z ∷ (front ++ x ∷ [])) n.name e') (no_slot_at (z ∷ front) x n back l e' f)

-- the name of the first of these entries
pub first_is : (bs : List Block) (m : ℕ) → first_key (named bs) ≡ Some m → (b : Block) × ((rest : List Block) × ((bs ≡ b ∷ rest) × (b.name ≡ m)))
first_is [] m e = absurd (cc)
first_is (b ∷ rest) m e = (b, (rest, (refl, same_some b.name m e)))

pub branch_unlinked : (t : Term) (cond : Cond) (a b to : ℕ) → t ≡ Branch cond a b to → links t ≡ false
branch_unlinked t cond a b to e = rw e refl

-- the blocks once that of this name has become others
pub placed_by : (front : List Block) (x : Block) (bs : List Block) (name : ℕ) (f : Block → List Block) (blocks : List Block) → front ++ (x ∷ bs) ≡ blocks → x.name ≡ name → value_of (named front) name ≡ None → with_blocks f blocks name ≡ front ++ (f x ++ bs)
placed_by front x bs name f blocks e i absent =
    with_blocks-at f blocks name (record { front = front; block = x; back = bs; whole = sym e; has_name = i; ahead = absent })

-- a block of the same name in place of the last
pub same_names : (front : List Block) (x y : Block) (m : ℕ) → y.name ≡ x.name → value_of (named (front ++ x ∷ [])) m ≡ None → value_of (named (front ++ y ∷ [])) m ≡ None
same_names [] x y m i e = let o = other_name (x.name == m) x None e in let t : (y.name == m) ≡ false = ap (λ k. k == m) i ∙ o.0 in rw t refl
same_names (w ∷ front) x y m i e = let o = other_name (w.name == m) w (value_of (named (front ++ x ∷ [])) m) e in rw o.0 (same_names front x y m i o.1)

-- where the three blocks stand
record Stand (g : Graph) (block over behind to : ℕ) (cond : Cond) (a b : ℕ) : Type 0 where
  pub front : List Block
  pub x : Block
  pub n : Block
  pub z : Block
  pub back : List Block
  pub whole : front ++ (x ∷ n ∷ z ∷ back) ≡ g.blocks
  pub first : x.name ≡ block
  pub second : n.name ≡ over
  pub third : z.name ≡ behind
  pub branch : x.term ≡ Branch cond a b behind
  pub lone : (n.items ≡ []) × (n.term ≡ Jump to)

module _ (g : Graph) (block : ℕ) (cond : Cond) (a b over behind to : ℕ) (rules : IsGraph g) (jumped : IsJumpedOver g block cond a b over behind to) where
  at : IsAt g.blocks block
  at = located g.blocks block (there_by_term (block_of g block) (Branch cond a b behind) jumped.branch)

  abbrev x : Block
  x = at.block

  at_whole : at.front ++ (x ∷ at.back) ≡ g.blocks
  at_whole = sym at.whole

  -- the name in the slot behind a block, by its place
  slot_behind : (front : List Block) (y : Block) (bs : List Block) (name m : ℕ) → front ++ (y ∷ bs) ≡ g.blocks → y.name ≡ name → next_of g name ≡ Some m → first_key (named bs) ≡ Some m
  slot_behind front y bs name m e i s =
      let there = subst (λ blocks. entries_behind (named blocks) y.name ≡ named bs) e (next_at front y bs (absent_from front y bs (distinct_at g rules front y bs e))) in
      sym (ap first_key (subst (λ k. entries_behind (named g.blocks) k ≡ named bs) i there)) ∙ s

  abbrev FirstOf : List Block → ℕ → Type 0
  FirstOf bs m = (b : Block) × ((rest : List Block) × ((bs ≡ b ∷ rest) × (b.name ≡ m)))

  second : FirstOf at.back over
  second = first_is at.back over (slot_behind at.front x at.back block over at_whole at.has_name jumped.next)

  second_whole : at.front ++ (x ∷ second.0 ∷ second.1.0) ≡ g.blocks
  second_whole = subst (λ bs. at.front ++ (x ∷ bs) ≡ g.blocks) second.1.1.0 at_whole

  second_ahead : (at.front ++ x ∷ []) ++ (second.0 ∷ second.1.0) ≡ g.blocks
  second_ahead = ahead at.front x (second.0 ∷ second.1.0) ∙ second_whole

  third : FirstOf second.1.0 behind
  third = first_is second.1.0 behind (slot_behind (at.front ++ x ∷ []) second.0 second.1.0 over behind second_ahead second.1.1.1 jumped.slot)

  branch_found : block_of g block ≡ Some x
  branch_found = subst (λ k. value_of (named g.blocks) k ≡ Some x) at.has_name (block_at g rules at.front x at.back at_whole)

  over_found : block_of g over ≡ Some second.0
  over_found = subst (λ k. value_of (named g.blocks) k ≡ Some second.0) second.1.1.1 (block_at g rules (at.front ++ x ∷ []) second.0 second.1.0 second_ahead)

  stand : Stand g block over behind to cond a b
  stand = record {
    front = at.front;
    x = x;
    n = second.0;
    z = third.0;
    back = third.1.0;
    whole = subst (λ bs. at.front ++ (x ∷ second.0 ∷ bs) ≡ g.blocks) third.1.1.0 second_whole;
    first = at.has_name;
    second = second.1.1.1;
    third = third.1.1.1;
    branch = same_some x.term (Branch cond a b behind) (sym (ap block_term branch_found) ∙ jumped.branch);
    lone = lone_block second.0.items second.0.term to (sym (ap lone_jump over_found) ∙ jumped.jump);
  }

  absent_name : (front : List Block) (w : Block) (bs : List Block) → front ++ (w ∷ bs) ≡ g.blocks → (name : ℕ) → w.name ≡ name → value_of (named front) name ≡ None
  absent_name front w bs e name i = subst (λ k. value_of (named front) k ≡ None) i (absent_from front w bs (distinct_at g rules front w bs e))

  abbrev front : List Block
  front = stand.front

  abbrev n : Block
  n = stand.n

  abbrev back : List Block
  back = stand.z ∷ stand.back

  abbrev turned : Term
  turned = Branch (inverse_of cond) a b to

  abbrev y : Block
  y = record stand.x { term = turned }

  abbrev h : Graph
  h = inverted_over g block cond a b over to

  -- every name but that of the block that goes
  abbrev Other : ℕ → Type 0
  Other m = m ≢ over

  two : front ++ (stand.x ∷ n ∷ back) ≡ g.blocks
  two = stand.whole

  one : (front ++ stand.x ∷ []) ++ (n ∷ back) ≡ g.blocks
  one = ahead front stand.x (n ∷ back) ∙ two

  behind_two : ((front ++ stand.x ∷ []) ++ n ∷ []) ++ back ≡ g.blocks
  behind_two = ahead (front ++ stand.x ∷ []) n back ∙ one

  absent_ahead_of : value_of (named (front ++ stand.x ∷ [])) n.name ≡ None
  absent_ahead_of = absent_from (front ++ stand.x ∷ []) n back (distinct_at g rules (front ++ stand.x ∷ []) n back one)

  absent_behind_it : value_of (named back) n.name ≡ None
  absent_behind_it =
      absent_behind (n.name, n) (named back)
      (distinct_back (named (front ++ stand.x ∷ [])) (named (n ∷ back)) (subst HasDistinctKeys (named_split (front ++ stand.x ∷ []) n back) (distinct_at g rules (front ++ stand.x ∷ []) n back one)))

  known : (m : ℕ) → Contains (uses g) m → Other m
  known m c is = jumped.unused (subst (λ k. Contains (uses g) k) is c)

  slot_apart : Contains (link_names g.blocks) over → ⊥
  slot_apart c =
      no_slot_at front stand.x n back (branch_unlinked stand.x.term cond a b behind stand.branch) absent_ahead_of absent_behind_it
      (subst (λ bs. Contains (link_names bs) n.name) (sym two) (subst (λ k. Contains (link_names g.blocks) k) (sym stand.second) c))

  -- it is no code target: nothing names it, and no link leads behind the Branch
  no_target : Contains (code_targets g) over → ⊥
  no_target c = neither (target_from g over c) jumped.unused slot_apart

  holds : (m : ℕ) → Contains (code_targets g) m → Other m
  holds m c is = no_target (subst (λ k. Contains (code_targets g) k) is c)

  abbrev C : Change
  C = placing Other all_matter (Unit {0}) g h rules known refl refl

  -- the target of the Branch goes on like the slot behind the Jump
  target_goes : Alike C true None (block_lines g behind) (lines_of back)
  target_goes =
      let z = stand.z in
      let at : block_lines g behind ≡ body_lines z (lines_of stand.back) =
      subst (λ m. behind_name m (lines_of g.blocks) ≡ body_lines z (lines_of stand.back)) stand.third
      (subst (λ blocks. behind_name z.name (lines_of blocks) ≡ body_lines z (lines_of stand.back)) behind_two
      (name_at ((front ++ stand.x ∷ []) ++ n ∷ []) z stand.back (absent_from ((front ++ stand.x ∷ []) ++ n ∷ []) z stand.back (distinct_at g rules ((front ++ stand.x ∷ []) ++ n ∷ []) z stand.back behind_two)))) in
      let further : (((front ++ stand.x ∷ []) ++ n ∷ []) ++ z ∷ []) ++ stand.back ≡ g.blocks = ahead ((front ++ stand.x ∷ []) ++ n ∷ []) z stand.back ∙ behind_two in
      let go = carry_body C own z (lines_of stand.back) (lines_of stand.back)
      (block_goes Other all_matter (Unit {0}) g h rules known refl refl holds ((front ++ stand.x ∷ []) ++ n ∷ []) z stand.back stand.back behind_two refl)
      (λ f. carries_lines C own Other true refl (all_stay Other all_matter (Unit {0}) g h rules known refl refl holds true (((front ++ stand.x ∷ []) ++ n ∷ []) ++ z ∷ []) stand.back further)) in
      subst (λ lines. Alike C true None lines (lines_of back)) (sym at)
      (name_after (subst (λ w. Alike C true None (body_lines z (lines_of stand.back)) (body_lines w (lines_of stand.back))) (sym (block_stays Other all_matter (Unit {0}) g h rules known refl refl holds z)) go))

  -- the target of the Jump is used, so it is another block
  to_other : Other to
  to_other =
      known to (term_use g n to (stands_at g rules (front ++ stand.x ∷ []) n back one) (subst (λ t. Contains (term_uses t) to) (sym stand.lone.1) (contains_first to [])))

  -- the slot behind the Branch goes on like the target of the Jump
  detour : Alike C true None (lines_of (n ∷ back)) (block_lines h to)
  detour =
      subst (λ lines. Alike C true None (Name n.name ∷ lines) (block_lines h to)) (sym (lone_lines n.items n.term n.name to (lines_of back) stand.lone.0 stand.lone.1))
      (name_before (jump_before tt (promised (refl, to_other))))

  ended : (t : Bool) → Alike C t None (term_lines stand.x.term (lines_of (n ∷ back))) (term_lines turned (lines_of back))
  ended t = subst (λ u. Alike C t None (term_lines u (lines_of (n ∷ back))) (End turned ∷ lines_of back)) (sym stand.branch) (both_turned cond a b behind to target_goes detour)

  skip : (m : ℕ) → Other m → behind_name m (lines_of (n ∷ back)) ≡ behind_name m (lines_of back)
  skip m k = passed n m back (ne_eqb n.name m (λ e. k (sym e ∙ stand.second)))

  turn : Turn C own Other true true (stand.x ∷ n ∷ []) (y ∷ []) back back
  turn = term_turn Other all_matter (Unit {0}) g h rules known refl refl holds stand.x (n ∷ []) back turned (stands_at g rules front stand.x (n ∷ back) two) ended skip (λ m l c. absurd (cc))

  -- the blocks once the Branch is inverted, and then without the Jump
  after : h.blocks ≡ front ++ (y ∷ back)
  after =
      let turns : (with_term g block turned).blocks ≡ front ++ (y ∷ n ∷ back) = placed_by front stand.x (n ∷ back) block (λ b. record b { term = turned } ∷ []) g.blocks two stand.first (absent_name front stand.x (n ∷ back) two block stand.first) in
      let ahead_of : (front ++ y ∷ []) ++ (n ∷ back) ≡ (with_term g block turned).blocks = ahead front y (n ∷ back) ∙ sym turns in
      placed_by (front ++ y ∷ []) n back over (λ b. []) (with_term g block turned).blocks ahead_of stand.second (subst (λ k. value_of (named (front ++ y ∷ [])) k ≡ None) stand.second (same_names front stand.x y n.name refl absent_ahead_of)) ∙ ahead front y back

  pub invert_follows : Follows g h
  invert_follows = placed_follows Other all_matter (Unit {0}) g h rules known refl refl holds (stand.x ∷ n ∷ []) (y ∷ []) back refl turn front two after refl (every_carrier g)

  pub invert_sound : IsSound g → IsSound h
  invert_sound sound = placed_sound Other all_matter (Unit {0}) g h rules known refl refl holds (stand.x ∷ n ∷ []) (y ∷ []) back refl turn front two after refl (every_carrier g) (λ xs r l. tt) tt sound

  -- no more is live at a place of a block that stays
  pub invert_live : (m place r : ℕ) → m ≢ over → place ≤ length (items_of g m) → IsLive h r (place_lines h m place) → IsLive g r (place_lines g m place)
  invert_live m place r other l live =
      placed_place Other all_matter (Unit {0}) g h rules known refl refl holds (stand.x ∷ n ∷ []) (y ∷ []) back refl turn front two after refl (every_carrier g) (λ xs r l. tt) tt m place r l
      (term_at Other all_matter (Unit {0}) g h rules known refl refl holds stand.x (n ∷ []) back turned (stands_at g rules front stand.x (n ∷ back) two) m place (ended true) (skip m other) (fits_at g rules m place l front stand.x (n ∷ back) two)) live

  -- the Jump's word
  lone_word : block_words n ≡ 1
  lone_word = omega (arith, ap (λ (is : List Item). length is) stand.lone.0, ap term_words stand.lone.1)

  branch_word : term_words stand.x.term ≡ 1
  branch_word = ap term_words stand.branch

  pub invert_saves : words_of h + 1 ≡ words_of g
  invert_saves =
      omega (
        arith,
        ap (λ bs. sum_by block_words bs) after,
        sum_by-append block_words front (y ∷ back),
        sum_by-cons block_words y back,
        ap (λ bs. sum_by block_words bs) two,
        sum_by-append block_words front (stand.x ∷ n ∷ back),
        sum_by-cons block_words stand.x (n ∷ back),
        sum_by-cons block_words n back,
        lone_word,
        branch_word,
      )
