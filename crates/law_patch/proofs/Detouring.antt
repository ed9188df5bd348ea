-- A graph in which a lone Jump block gave its name to its target, and went, follows it.
use Rattle.std.proofs.Common.{◌≡◌, ◌≢◌, ℕ, ◌≤◌, length, Bool, true, false, ◌==◌, List, [], ◌∷◌, ◌++◌, Option, Some, None, IsSome, map, slice_get, refl, sym, ap, ◌∙◌, subst, inl, inr}
use Rattle.std.proofs.lemmas.Bool.{cases_Bool, eq-eqb, ne_eqb, eqb-true, eqb-false}
use Rattle.std.specs.List.{Contains}
use Rattle.sq_arena.specs.Entries.{value_of, behind, first_key}
use Rattle.sq_graph.specs.declared.item.Item.{Item}
use Rattle.sq_graph.specs.declared.item.Term.{Term}
use Rattle.sq_graph.specs.declared.item.Term.TheVariants.{Fall, Jump, Branch, Call, PartJump, Indirect, Stop}
use Rattle.sq_graph.specs.Graph.{Block, Graph}
use Rattle.sq_graph.specs.Blocks.{named, block_of, block_term, items_of, next_of}
use Rattle.sq_graph.specs.Terms.{links, goes_on}
use Rattle.sq_graph.specs.Uses.{uses}
use Rattle.sq_graph.specs.Rules.{IsGraph}
use Rattle.sq_graph.specs.Operations.{with_blocks}
use Rattle.sq_graph.specs.Renames.{swapped, retargeted_block}
use Rattle.sq_graph.specs.Resolve.{jump_of, lone_jump, jump_from}
use Rattle.sq_graph.specs.Lines.{End, Line, body_lines, lines_of, behind_name, slot_name, block_lines, place_lines}
use Rattle.sq_graph.specs.Walks.{IsLive, word_name, code_targets}
use Rattle.sq_graph.specs.Soundness.{IsSound}
use Rattle.sq_graph.proofs.Located.{located}
use Rattle.law_follow.specs.Follows.{Follows}
use Rattle.law_patch.specs.Changes.{Change, Alike, IsSteady, falls, jump_before}
use Rattle.law_patch.specs.LoneJumps.{IsDetourTo, without_jump}
use Rattle.law_patch.proofs.LiveTargets.{word_target}
use Rattle.law_patch.proofs.Patch.{change_follows}
use Rattle.law_patch.proofs.Keeping.{every_carrier}
use Rattle.law_patch.proofs.Changing.{ahead}
use Rattle.law_patch.proofs.Places.{every, absent_from, next_at, name_at}
use Rattle.law_patch.proofs.Moving.{moving, other_names, same_addresses}
use Rattle.law_patch.proofs.Carrying.{same_some, SlotGoes, BlockGoes, carried_block}
use Rattle.law_patch.proofs.Layouts.{Carries, done, stays, turns, gone, carries_lines, carries_behind, carries_back, carried_sound}
use Rattle.law_patch.proofs.Restricting.{own, slot_target, links_goes_on, falls_goes_on}
use Rattle.law_patch.proofs.Standing.{stands_at, distinct_at, block_at, items_go, term_goes, carried_is, words_held, bodies_held, procedures_sound}
use Rattle.law_patch.proofs.Remaining.{fits_at, AlikeAt, nothing_at, stays_at, gone_at, live_at}
use Rattle.law_patch.proofs.Used.{from_slice}

-- a lone Jump block has no items, and ends in the Jump
pub lone_block : (items : List Item) (t : Term) (to : ℕ) → jump_of items t ≡ Some to → (items ≡ []) × (t ≡ Jump to)
lone_block (item ∷ items) t to e = absurd (cc)
lone_block [] Fall to e = absurd (cc)
lone_block [] (Jump n) to e = (refl, ap Jump (same_some n to e))
lone_block [] (Branch cond a b n) to e = absurd (cc)
lone_block [] (Call link n) to e = absurd (cc)
lone_block [] (PartJump link part n) to e = absurd (cc)
lone_block [] (Indirect link at offset) to e = absurd (cc)
lone_block [] (Stop word) to e = absurd (cc)

pub jumps_from : (o : Option Block) (to : ℕ) → lone_jump o ≡ Some to → (b : Block) × ((o ≡ Some b) × (jump_of b.items b.term ≡ Some to))
jumps_from None to e = absurd (cc)
jumps_from (Some b) to e = (b, (refl, e))

pub lone_lines : (items : List Item) (t : Term) (name to : ℕ) (rest : List Line) → items ≡ [] → t ≡ Jump to → body_lines (record { name = name; items = items; term = t }) rest ≡ End (Jump to) ∷ rest
lone_lines items t name to rest e f = rw (e, f) refl

-- what stands behind the name of a lone Jump block
pub jump_lines : (g : Graph) → IsGraph g → (n to : ℕ) → jump_from g n ≡ Some to → (rest : List Line) × (block_lines g n ≡ End (Jump to) ∷ rest)
jump_lines g rules n to e =
    let o = jumps_from (block_of g n) to e in
    let at = located g.blocks n (subst IsSome (sym o.1.0) refl) in
    let w : at.front ++ (at.block ∷ at.back) ≡ g.blocks = sym at.whole in
    let found : block_of g n ≡ Some at.block = subst (λ m. value_of (named g.blocks) m ≡ Some at.block) at.has_name (block_at g rules at.front at.block at.back w) in
    let same : o.0 ≡ at.block = same_some o.0 at.block (sym o.1.0 ∙ found) in
    let lone = lone_block at.block.items at.block.term to (subst (λ (b : Block). jump_of b.items b.term ≡ Some to) same o.1.1) in
    let lines : block_lines g n ≡ body_lines at.block (lines_of at.back) =
    subst (λ m. behind_name m (lines_of g.blocks) ≡ body_lines at.block (lines_of at.back)) at.has_name
    (subst (λ blocks. behind_name at.block.name (lines_of blocks) ≡ body_lines at.block (lines_of at.back)) w (name_at at.front at.block at.back (absent_from at.front at.block at.back (distinct_at g rules at.front at.block at.back w)))) in
    (lines_of at.back, lines ∙ lone_lines at.block.items at.block.term at.block.name to (lines_of at.back) lone.0 lone.1)

-- the name in the slot behind a block
pub next_name_at : (g : Graph) → IsGraph g → (front : List Block) (x next : Block) (bs : List Block) → front ++ (x ∷ next ∷ bs) ≡ g.blocks → next_of g x.name ≡ Some next.name
next_name_at g rules front x next bs e =
    let there : behind (named g.blocks) x.name ≡ named (next ∷ bs) = subst (λ blocks. behind (named blocks) x.name ≡ named (next ∷ bs)) e (next_at front x (next ∷ bs) (absent_from front x (next ∷ bs) (distinct_at g rules front x (next ∷ bs) e))) in
    ap first_key there

pub other_to : (from to n : ℕ) → n ≢ from → swapped from to n ≡ n
other_to from to n e = let apart : (n == from) ≡ false = ne_eqb n from e in rw apart refl

pub this_to : (from to n : ℕ) → n ≡ from → swapped from to n ≡ to
this_to from to n e = let same : (n == from) ≡ true = eq-eqb n from e in rw same refl

module _ (g : Graph) (block to : ℕ) (rules : IsGraph g) (leads : IsDetourTo g block to) where
  abbrev f : ℕ → ℕ
  f = swapped block to

  abbrev h : Graph
  h = without_jump g block to

  abbrev C : Change
  C = moving (Unit {0}) every f g h

  -- every name but the block's
  abbrev Other : ℕ → Type 0
  Other n = n ≢ block

  abbrev moved : List Block → List Block
  moved bs = map (retargeted_block f) bs

  abbrev left : List Block → List Block
  left bs = with_blocks (λ b. []) (moved bs) block

  holds : (n : ℕ) → Contains (code_targets g) n → C.MayHold n (f n)
  holds n c = (refl, (tt, c))

  may_go : (n : ℕ) → Contains (uses g) n → C.MayGo n (f n)
  may_go n c = (refl, tt)

  -- nothing goes on into the block
  next_other : (front : List Block) (x next : Block) (bs : List Block) → front ++ (x ∷ next ∷ bs) ≡ g.blocks → goes_on x.term ≡ true → next.name ≢ block
  next_other front x next bs e goes is =
      let closed : goes_on x.term ≡ false = leads.apart x.name x.term (next_name_at g rules front x next bs e ∙ ap Some is) (ap block_term (block_at g rules front x (next ∷ bs) e)) in cc

  -- the first of these, where something goes on into it
  abbrev FirstOther : List Block → Type 0
  FirstOther [] = Unit {0}
  FirstOther (x ∷ bs) = x.name ≢ block

  next_first : (front : List Block) (x : Block) (bs : List Block) → front ++ (x ∷ bs) ≡ g.blocks → falls x.term ≡ true → FirstOther bs
  next_first front x [] e k = tt
  next_first front x (next ∷ bs) e k = next_other front x next bs e (falls_goes_on x.term k)

  slot_same : (front : List Block) (x next : Block) (bs : List Block) → front ++ (x ∷ next ∷ bs) ≡ g.blocks → links x.term ≡ true → C.MayHold next.name next.name
  slot_same front x next bs e l =
      (sym (other_to block to next.name (next_other front x next bs e (links_goes_on x.term l))), (tt, slot_target g front x next bs e l))

  slot_left : (front : List Block) (x : Block) (bs : List Block) → front ++ (x ∷ bs) ≡ g.blocks → links x.term ≡ true → SlotGoes C own (slot_name (lines_of bs)) (slot_name (lines_of (left bs)))
  slot_left front x [] e l = tt
  slot_left front x (next ∷ bs) e l =
      let apart : (next.name == block) ≡ false = ne_eqb next.name block (next_other front x next bs e (links_goes_on x.term l)) in
      rw apart (slot_same front x next bs e l)

  slot_moved : (front : List Block) (x : Block) (bs : List Block) → front ++ (x ∷ bs) ≡ g.blocks → links x.term ≡ true → SlotGoes C own (slot_name (lines_of bs)) (slot_name (lines_of (moved bs)))
  slot_moved front x [] e l = tt
  slot_moved front x (next ∷ bs) e l = slot_same front x next bs e l

  goes : (front : List Block) (x : Block) (bs cs : List Block) → front ++ (x ∷ bs) ≡ g.blocks → (links x.term ≡ true → SlotGoes C own (slot_name (lines_of bs)) (slot_name (lines_of cs))) → BlockGoes C own x (lines_of bs) (lines_of cs)
  goes front x bs cs e slot = record {
    items = items_go C rules holds may_go refl refl x (stands_at g rules front x bs e);
    term = term_goes C rules holds may_go refl refl x (stands_at g rules front x bs e);
    slot = slot;
  }

  is_moved : (x : Block) → retargeted_block f x ≡ carried_block C own x
  is_moved x = sym (carried_is C rules holds may_go refl refl x)

  -- the blocks behind the one that goes
  rest : (into : Bool) (front bs : List Block) → front ++ bs ≡ g.blocks → Carries C own Other into bs (moved bs)
  rest into front [] e = done
  rest into front (x ∷ bs) e =
      stays x (retargeted_block f x) (is_moved x) (goes front x bs (moved bs) e (slot_moved front x bs e)) (rest (falls x.term) (front ++ x ∷ []) bs (ahead front x bs ∙ e))

  all : (into : Bool) (front bs : List Block) → front ++ bs ≡ g.blocks → (into ≡ true → FirstOther bs) → Carries C own Other into bs (left bs)
  all into front [] e first = done
  all into front (x ∷ bs) e first =
      elim (cases_Bool (x.name == block)) [
        | inl here ↦
            let same : x.name ≡ block = eqb-true x.name block here in
            rw here (turns (x ∷ []) [] (gone C own Other into x bs (moved bs) (λ i. first i same) (λ n k. ne_eqb x.name n (λ e. k (sym e ∙ same)))) (rest false (front ++ x ∷ []) bs (ahead front x bs ∙ e)))
        | inr apart ↦
            rw apart (stays x (retargeted_block f x) (is_moved x) (goes front x bs (left bs) e (slot_left front x bs e)) (all (falls x.term) (front ++ x ∷ []) bs (ahead front x bs ∙ e) (next_first front x bs e)))
      ]

  every_block : Carries C own Other false g.blocks h.blocks
  every_block = all false [] g.blocks refl (λ i. absurd (cc))

  names : (n : ℕ) → Alike C false None (block_lines g n) (block_lines h (f n))
  names n =
      elim (cases_Bool (n == block)) [
        | inl here ↦
            let same : n ≡ block = eqb-true n block here in
            let o = jump_lines g rules block to leads.jump in
            let target : Alike C false None (block_lines g to) (block_lines h to) = carries_behind C own Other to leads.other every_block in
            subst (λ m. Alike C false None (block_lines g n) (block_lines h m)) (sym (this_to block to n same))
            (subst (λ lines. Alike C false None lines (block_lines h to)) (sym (ap (block_lines g) same ∙ o.1)) (jump_before tt target))
        | inr apart ↦
            let other : n ≢ block = eqb-false n block apart in
            subst (λ m. Alike C false None (block_lines g n) (block_lines h m)) (sym (other_to block to n other)) (carries_behind C own Other n other every_block)
      ]

  steady : IsSteady C
  steady = record {
    carrier = every_carrier g;
    names = λ n m j. subst (λ k. Alike C false None (block_lines g n) (block_lines h k)) (sym j.0) (names n);
    values = λ n m v. (v.1.1, (v.0, tt));
  }

  -- places of blocks that stay
  rest_at : (n place : ℕ) → place ≤ length (items_of g n) → (front bs : List Block) → front ++ bs ≡ g.blocks → AlikeAt C own n place bs (moved bs)
  rest_at n place l front [] e = nothing_at C own n place
  rest_at n place l front (x ∷ bs) e =
      let further = ahead front x bs ∙ e in
      stays_at C own n place x (retargeted_block f x) bs (moved bs) (is_moved x) (goes front x bs (moved bs) e (slot_moved front x bs e)) (fits_at g rules n place l front x bs e)
      (λ k. carries_lines C own Other true refl (rest true (front ++ x ∷ []) bs further)) (rest_at n place l (front ++ x ∷ []) bs further)

  all_at : (n place : ℕ) → Other n → place ≤ length (items_of g n) → (front bs : List Block) → front ++ bs ≡ g.blocks → AlikeAt C own n place bs (left bs)
  all_at n place other l front [] e = nothing_at C own n place
  all_at n place other l front (x ∷ bs) e =
      let further = ahead front x bs ∙ e in
      elim (cases_Bool (x.name == block)) [
        | inl here ↦
            let same : x.name ≡ block = eqb-true x.name block here in
            rw here (gone_at C own n place x bs (moved bs) (ne_eqb x.name n (λ i. other (sym i ∙ same))) (rest_at n place l (front ++ x ∷ []) bs further))
        | inr apart ↦
            rw apart (stays_at C own n place x (retargeted_block f x) bs (left bs) (is_moved x) (goes front x bs (left bs) e (slot_left front x bs e)) (fits_at g rules n place l front x bs e)
            (λ k. carries_lines C own Other true refl (all true (front ++ x ∷ []) bs further (λ i. next_first front x bs e k))) (all_at n place other l (front ++ x ∷ []) bs further))
      ]

  word_held : (i n : ℕ) → slice_get (map word_name g.code_words) i ≡ Some n → (f n ≡ f n) × (every n × Contains (code_targets g) n)
  word_held i n e = (refl, (tt, word_target g n (from_slice (map word_name g.code_words) i n e)))

  pub detour_follows : Follows g h
  detour_follows = change_follows C steady (refl, tt) (same_addresses f g.code_words) (other_names f g.code_words) word_held

  pub detour_sound : IsSound g → IsSound h
  detour_sound sound =
      carried_sound C own Other steady (λ xs r l. tt) tt every_block
      (words_held C rules holds may_go refl refl) (bodies_held C rules holds may_go refl refl) sound (procedures_sound C rules holds may_go refl refl sound)

  -- no more is live at a place of a block that stays
  pub detour_live : (n place r : ℕ) → Other n → place ≤ length (items_of g n) → IsLive h r (place_lines h n place) → IsLive g r (place_lines g n place)
  detour_live n place r other l live =
      live_at C own (carries_back C own Other steady (λ xs r l. tt) tt every_block (words_held C rules holds may_go refl refl) (bodies_held C rules holds may_go refl refl)) n place r
      (all_at n place other l [] g.blocks refl) live
