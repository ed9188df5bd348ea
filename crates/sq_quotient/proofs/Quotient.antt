-- A graph whose blocks are folded follows it.
use Rattle.std.proofs.Common.{◌≡◌, ℕ, zero, suc, ◌==◌, Bool, true, false, true≢false, not, ◌&&◌, if◌then◌else◌, ◌⊎◌, inl, inr, List, [], ◌∷◌, ◌++◌, map, None, Some, IsSome, slice_get, refl, sym, ap, ◌∙◌, subst, arith}
use Rattle.std.specs.List.{All, Contains, flat_map}
use Rattle.std.proofs.lemmas.List.Elements.{Contains-append_cases}
use Rattle.std.specs.Option.{option_map}
use Rattle.std.proofs.lemmas.Bool.{cases_Bool, eq-eqb, eqb-true, ne_eqb}
use Rattle.sq_arena.specs.Entries.{value_of, first_key}
use Rattle.sq_graph.specs.declared.item.Item.{Item}
use Rattle.sq_graph.specs.declared.item.Term.{Term}
use Rattle.sq_graph.specs.declared.item.Term.TheVariants.{Fall, Jump, Branch, Call, PartJump, Indirect, Stop}
use Rattle.sq_graph.specs.Graph.{Block, Graph}
use Rattle.sq_graph.specs.Blocks.{named, HasBlock, block_of, block_items, block_term, items_of, term_of, next_of, all_items}
use Rattle.sq_graph.specs.Leaders.{is_fall, has_no_items, is_bare}
use Rattle.sq_graph.specs.Rules.{IsGraph, last_goes_on}
use Rattle.sq_graph.specs.Terms.{goes_on, links}
use Rattle.sq_graph.specs.Uses.{uses, term_uses, code_word_uses, terms_uses, items_uses}
use Rattle.sq_graph.specs.Renames.{retargeted_items, retargeted_term, retargeted_block}
use Rattle.sq_graph.specs.Lines.{Line, Name, End, line_of, term_lines, body_lines, lines_of, behind_name, slot_name, block_lines}
use Rattle.sq_graph.specs.Walks.{code_targets, word_name, lower_names, link_names}
use Rattle.sq_graph.specs.Soundness.{LinksDieIn, IsSound}
use Rattle.sq_graph.proofs.Located.{IsAt, located}
use Rattle.sq_graph.proofs.SlotReads.{block_at as found_at_spot}
use Rattle.sq_graph.proofs.SplitRules.{last_goes_on-append}
use Rattle.law_follow.specs.Follows.{Follows}
use Rattle.sq_fold.specs.Nodes.{item_name, term_name, slot_of, term_leads, leads_on}
use Rattle.sq_fold.specs.Partition.{bare_item, bare_term}
use Rattle.sq_fold.proofs.Blocks.{pick, refer_terms, term_references}
use Rattle.sq_fold.proofs.Referred.{slot_behind}
use Rattle.law_patch.specs.Changes.{Change, falls, Alike, IsSteady, promised, name_before, name_after, jump_before, jump_after, both_end, guarded}
use Rattle.law_patch.proofs.Bypassing.{slot_known}
use Rattle.law_patch.proofs.Carrying.{carried_items, AreOf, ItemGoes, TermGoesOn, SlotGoes, slot_same, carry_items, carry_some, items_die}
use Rattle.law_patch.proofs.Changing.{ahead}
use Rattle.law_patch.proofs.Keeping.{NoMode, no_stands, all_matter, every_carrier}
use Rattle.law_patch.proofs.Layouts.{passed, none_in, IsHeld, lowers_of, Turn, Carries, done, stays, turns, gone as gone_turn, items_held, carried_sound}
use Rattle.law_patch.proofs.Lines.{body_unnamed}
use Rattle.law_patch.proofs.LiveTargets.{word_target}
use Rattle.law_patch.proofs.Moving.{same_addresses, other_names}
use Rattle.law_patch.proofs.Patch.{change_follows}
use Rattle.law_patch.proofs.Places.{absent_from, name_at, other_name}
use Rattle.law_patch.proofs.Restricting.{own, slot_target, target_from, links_goes_on, falls_goes_on}
use Rattle.law_patch.proofs.Standing.{own_calls, own_called_block, stands_at, distinct_at, block_at, items_go, term_goes, words_held, bodies_held, procedures_sound}
use Rattle.law_patch.proofs.Used.{contains_first, from_all, from_slice, not_new}
use Rattle.sq_quotient.specs.Folding.{falls_away, lands_at, landed, stayed, folded_blocks, folded_by, Merges, AreNewNames}
use Rattle.sq_quotient.specs.Laws.{FoldFollows, FoldIsSound}
use Rattle.sq_quotient.proofs.Refilled.{items_again, terms_again, falls_or_jumps, both_go}
use Rattle.sq_lookup.proofs.JoiningBefore.{fall_is}

some_same : {X : Type 0} {x y : X} → Some x ≡ Some y → x ≡ y
some_same e = cc

links_same : (f : ℕ → ℕ) (t : Term) → links (retargeted_term f t) ≡ links t
links_same f Fall = refl
links_same f (Jump to) = refl
links_same f (Branch cond a b to) = refl
links_same f (Call link to) = refl
links_same f (PartJump link part to) = refl
links_same f (Indirect link at offset) = refl
links_same f (Stop word) = refl

term_dies : (g : Graph) (t : Term) (lines : List Line) → LinksDieIn g lines → LinksDieIn g (term_lines t lines)
term_dies g Fall lines die = die
term_dies g (Jump to) lines die = die
term_dies g (Branch cond a b to) lines die = die
term_dies g (Call link to) lines die = die
term_dies g (PartJump link part to) lines die = die
term_dies g (Indirect link at offset) lines die = die
term_dies g (Stop word) lines die = die

-- ---- lines of a block that stays

landed_passed : (d fl : Bool) (b : Block) (n to k : ℕ) (cs : List Block) → (b.name == k) ≡ false → (n == k) ≡ false → behind_name k (lines_of (landed d fl b n to ++ cs)) ≡ behind_name k (lines_of cs)
landed_passed false fl b n to k cs a c = passed b k cs a
landed_passed true true b n to k cs a c = passed (record b { term = Jump to }) k cs a
landed_passed true false b n to k cs a c = passed b k (record { name = n; items = []; term = Jump to } ∷ cs) a ∙ passed (record { name = n; items = []; term = Jump to }) k cs c

abbrev end_lines : Bool → Bool → Term → ℕ → ℕ → List Line → List Line
end_lines false fl term n to rest = term_lines term rest
end_lines true true term n to rest = End (Jump to) ∷ rest
end_lines true false term n to rest = term_lines term (Name n ∷ End (Jump to) ∷ rest)

lines_landed : (d fl : Bool) (b : Block) (n to : ℕ) (cs : List Block) → lines_of (landed d fl b n to ++ cs) ≡ Name b.name ∷ (map line_of b.items ++ end_lines d fl b.term n to (lines_of cs))
lines_landed false fl b n to cs = refl
lines_landed true true b n to cs = refl
lines_landed true false b n to cs = refl

module _ (g : Graph) (f new : ℕ → ℕ) (rules : IsGraph g) (solid : All (λ b. is_bare b ≡ false) g.blocks) (merges : Merges g f) (news : AreNewNames g new) where
  abbrev h : Graph
  h = folded_by f new g

  -- the block of the first name is a lone Jump to the other
  abbrev Jumps : ℕ → ℕ → Type 0
  Jumps m k = (rest : List Line) × (block_lines h m ≡ End (Jump k) ∷ rest)

  abbrev Stands : ℕ → ℕ → Type 0
  Stands n m = (m ≡ f n) ⊎ Jumps m (f n)

  abbrev MayGo : ℕ → ℕ → Type 0
  MayGo n m = HasBlock g n × Stands n m

  abbrev MayHold : ℕ → ℕ → Type 0
  MayHold n m = Contains (code_targets g) n × MayGo n m

  abbrev C : Change
  C = record {
    before = g;
    after = h;
    MayHold = MayHold;
    MayGo = MayGo;
    renamed = f;
    Matters = all_matter;
    Mode = NoMode;
    StandsIn = no_stands;
    Sound = Unit {0};
    MaySkip = Unit {0};
  }

  used : (n : ℕ) → Contains (uses g) n → HasBlock g n
  used n c = from_all (HasBlock g) (uses g) n rules.named_all c

  target_there : (n : ℕ) → Contains (code_targets g) n → HasBlock g n
  target_there n c = elim (target_from g n c) [ inl named ↦ used n named | inr linked ↦ slot_known g rules g.blocks n linked ]

  holds : (n : ℕ) → Contains (code_targets g) n → MayHold n (f n)
  holds n c = (c, (target_there n c, inl refl))

  goes : (n : ℕ) → Contains (uses g) n → MayGo n (f n)
  goes n c = (used n c, inl refl)

  -- ---- where names lead

  abbrev Clear : List Block → ℕ → Type 0
  Clear [] k = Unit {0}
  Clear (b ∷ bs) k = ((b.name == k) ≡ false) × (((new b.name == k) ≡ false) × Clear bs k)

  pass : (t : Bool) (b : Block) (rest bs : List Block) (k : ℕ) → (b.name == k) ≡ false → (new b.name == k) ≡ false → behind_name k (lines_of (folded_blocks f new rest)) ≡ behind_name k (lines_of (folded_blocks f new bs))
      → behind_name k (lines_of (if t then stayed f new b rest ++ folded_blocks f new rest else folded_blocks f new rest)) ≡ behind_name k (lines_of (folded_blocks f new bs))
  pass true b rest bs k a c e = landed_passed (falls_away f b rest) (is_fall b.term) (retargeted_block f b) (new b.name) (lands_at f rest) k (folded_blocks f new rest) a c ∙ e
  pass false b rest bs k a c e = e

  skip : (front bs : List Block) (k : ℕ) → Clear front k → behind_name k (lines_of (folded_blocks f new (front ++ bs))) ≡ behind_name k (lines_of (folded_blocks f new bs))
  skip [] bs k c = refl
  skip (b ∷ front) bs k c = pass (f b.name == b.name) b (front ++ bs) bs k c.0 c.1.0 (skip front bs k c.1.1)

  clear_old : (front : List Block) (k : ℕ) → HasBlock g k → value_of (named front) k ≡ None → Clear front k
  clear_old [] k has e = tt
  clear_old (b ∷ front) k has e =
      let o = other_name (b.name == k) b (value_of (named front) k) e in
      (o.0, (ne_eqb (new b.name) k (λ s. not_new g (new b.name) k (news.fresh b.name) has (sym s)), clear_old front k has o.1))

  clear_new : (pre front rest : List Block) (y : ℕ) → pre ++ (front ++ rest) ≡ g.blocks → value_of (named front) y ≡ None → Clear front (new y)
  clear_new pre [] rest y e none = tt
  clear_new pre (b ∷ front) rest y e none =
      let o = other_name (b.name == y) b (value_of (named front) y) none in
      let has : HasBlock g b.name = subst IsSome (sym (block_at g rules pre b (front ++ rest) e)) refl in (
        ne_eqb b.name (new y) (λ s. not_new g (new y) b.name (news.fresh y) has s),
        (
          ne_eqb (new b.name) (new y) (λ s. true≢false (sym (eq-eqb b.name y (news.apart b.name y s)) ∙ o.0)),
          clear_new (pre ++ b ∷ []) front rest y (ahead pre b (front ++ rest) ∙ e) o.1,
        ),
      )

  -- a block that stays is ahead of what its name leads to
  head_lines : (front : List Block) (b : Block) (rest : List Block) → front ++ (b ∷ rest) ≡ g.blocks → f b.name ≡ b.name → lines_of (folded_blocks f new (b ∷ rest)) ≡ Name b.name ∷ block_lines h b.name
  head_lines front b rest two same =
      let kept : (f b.name == b.name) ≡ true = eq-eqb (f b.name) b.name same in
      let L : List Line = map line_of (retargeted_items f b.items) ++ end_lines (falls_away f b rest) (is_fall b.term) (retargeted_term f b.term) (new b.name) (lands_at f rest) (lines_of (folded_blocks f new rest)) in
      let shape : lines_of (folded_blocks f new (b ∷ rest)) ≡ Name b.name ∷ L =
      rw kept (lines_landed (falls_away f b rest) (is_fall b.term) (retargeted_block f b) (new b.name) (lands_at f rest) (folded_blocks f new rest)) in
      let there : HasBlock g b.name = subst IsSome (sym (block_at g rules front b rest two)) refl in
      let none = absent_from front b rest (distinct_at g rules front b rest two) in
      let here : (b.name == b.name) ≡ true = eq-eqb b.name b.name refl in
      let led : block_lines h b.name ≡ L =
      ap (λ bs. behind_name b.name (lines_of (folded_blocks f new bs))) (sym two)
      ∙ skip front (b ∷ rest) b.name (clear_old front b.name there none)
      ∙ ap (behind_name b.name) shape
      ∙ (rw here refl) in
      shape ∙ ap (λ ls. Name b.name ∷ ls) (sym led)

  module _ (n : ℕ) (at : IsAt g.blocks n) where
    own_ahead : value_of (named at.front) at.block.name ≡ None
    own_ahead = subst (λ k. value_of (named at.front) k ≡ None) (sym at.has_name) at.ahead

    whole : at.front ++ (at.block ∷ at.back) ≡ g.blocks
    whole = sym at.whole

    old_lines : block_lines g n ≡ body_lines at.block (lines_of at.back)
    old_lines =
        subst (λ k. behind_name k (lines_of g.blocks) ≡ body_lines at.block (lines_of at.back)) at.has_name
        (subst (λ bs. behind_name at.block.name (lines_of bs) ≡ body_lines at.block (lines_of at.back)) whole (name_at at.front at.block at.back own_ahead))

    abbrev ends_there : List Line
    ends_there = end_lines (falls_away f at.block at.back) (is_fall at.block.term) (retargeted_term f at.block.term) (new at.block.name) (lands_at f at.back) (lines_of (folded_blocks f new at.back))

    first_lines : (f at.block.name == at.block.name) ≡ true → lines_of (folded_blocks f new (at.block ∷ at.back)) ≡ Name at.block.name ∷ (map line_of (retargeted_items f at.block.items) ++ ends_there)
    first_lines kept =
        rw kept
        (lines_landed (falls_away f at.block at.back) (is_fall at.block.term) (retargeted_block f at.block) (new at.block.name) (lands_at f at.back) (folded_blocks f new at.back))

    kept_name : f n ≡ n → (f at.block.name == at.block.name) ≡ true
    kept_name e = eq-eqb (f at.block.name) at.block.name (ap f at.has_name ∙ e ∙ sym at.has_name)

    -- those of the block that stays
    new_lines : HasBlock g n → f n ≡ n → block_lines h n ≡ map line_of (retargeted_items f at.block.items) ++ ends_there
    new_lines has e =
        ap (λ bs. behind_name n (lines_of (folded_blocks f new bs))) at.whole
        ∙ skip at.front (at.block ∷ at.back) n (clear_old at.front n has at.ahead)
        ∙ ap (behind_name n) (first_lines (kept_name e))
        ∙ (let here : (at.block.name == n) ≡ true = eq-eqb at.block.name n at.has_name in rw here refl)

    -- and of the new block behind it
    jump_lines : f n ≡ n → falls_away f at.block at.back ≡ true → is_fall at.block.term ≡ false → block_lines h (new at.block.name) ≡ End (Jump (lands_at f at.back)) ∷ lines_of (folded_blocks f new at.back)
    jump_lines e away other =
        let k = new at.block.name in
        let has : HasBlock g at.block.name = subst IsSome (sym (block_at g rules at.front at.block at.back whole)) refl in
        let apart : (at.block.name == k) ≡ false = ne_eqb at.block.name k (λ s. not_new g k at.block.name (news.fresh at.block.name) has s) in
        let here : (k == k) ≡ true = eq-eqb k k refl in
        let Z : List Line = Name k ∷ End (Jump (lands_at f at.back)) ∷ lines_of (folded_blocks f new at.back) in
        let ends : ends_there ≡ term_lines (retargeted_term f at.block.term) Z = rw (away, other) refl in
        ap (λ bs. behind_name k (lines_of (folded_blocks f new bs))) at.whole
        ∙ skip at.front (at.block ∷ at.back) k (clear_new [] at.front (at.block ∷ at.back) at.block.name whole own_ahead)
        ∙ ap (behind_name k) (first_lines (kept_name e))
        ∙ (rw apart refl)
        ∙ ap (λ z. behind_name k (map line_of (retargeted_items f at.block.items) ++ z)) ends
        ∙ body_unnamed k (retargeted_block f at.block) Z
        ∙ (rw here refl)

    -- the slot behind the block, where it goes on
    record Slot : Type 0 where
      name : ℕ
      rest : List Block
      block : Block
      back : at.back ≡ block ∷ rest
      is : block.name ≡ name
      has : HasBlock g name
      next : next_of g n ≡ Some name
      lines : lines_of at.back ≡ Name name ∷ block_lines g name

    slot_in : (bs : List Block) → at.back ≡ bs → goes_on at.block.term ≡ true → Slot
    slot_in [] e on =
        absurd (
        let ends : last_goes_on (at.block ∷ at.back) ≡ false = sym (last_goes_on-append at.front at.block at.back) ∙ sym (ap last_goes_on at.whole) ∙ rules.ends in
        let last : last_goes_on (at.block ∷ []) ≡ false = subst (λ bs. last_goes_on (at.block ∷ bs) ≡ false) e ends in
        true≢false (sym on ∙ last))
    slot_in (b ∷ rest) e on =
        let two : (at.front ++ at.block ∷ []) ++ (b ∷ rest) ≡ g.blocks = ahead at.front at.block (b ∷ rest) ∙ subst (λ bs. at.front ++ (at.block ∷ bs) ≡ g.blocks) e whole in
        let none = absent_from (at.front ++ at.block ∷ []) b rest (distinct_at g rules (at.front ++ at.block ∷ []) b rest two) in
        let led : block_lines g b.name ≡ body_lines b (lines_of rest) = subst (λ bs. behind_name b.name (lines_of bs) ≡ body_lines b (lines_of rest)) two (name_at (at.front ++ at.block ∷ []) b rest none) in
        record {
          name = b.name;
          rest = rest;
          block = b;
          back = e;
          is = refl;
          has = subst IsSome (sym (block_at g rules (at.front ++ at.block ∷ []) b rest two)) refl;
          next = slot_behind g.blocks n at ∙ ap (λ bs. first_key (named bs)) e;
          lines = ap lines_of e ∙ ap (λ ls. Name b.name ∷ ls) (sym led);
        }

    slot : goes_on at.block.term ≡ true → Slot
    slot on = slot_in at.back refl on

    further : (s : Slot) → (at.front ++ at.block ∷ []) ++ (s.block ∷ s.rest) ≡ g.blocks
    further s = ahead at.front at.block (s.block ∷ s.rest) ∙ subst (λ bs. at.front ++ (at.block ∷ bs) ≡ g.blocks) s.back whole

    -- ---- what the term leads to

    has_here : block_of g n ≡ Some at.block
    has_here = found_at_spot g.blocks n at

    pub items_here : items_of g n ≡ at.block.items
    items_here = ap block_items has_here

    pub term_here : term_of g n ≡ Some at.block.term
    term_here = ap block_term has_here

    leads_here : leads_on g n ≡ term_leads (Some at.block.term) (slot_of (Some at.block.term) (next_of g n))
    leads_here = ap (λ o. term_leads o (slot_of o (next_of g n))) term_here

    lead_target : is_fall at.block.term ≡ false → (leads_on g n).1 ≡ term_name at.block.term
    lead_target other = ap (λ l. l.1) leads_here ∙ (rw other refl)

    lead_next : is_fall at.block.term ≡ false → goes_on at.block.term ≡ true → (s : Slot) → (leads_on g n).0 ≡ Some s.name
    lead_next other on s = ap (λ l. l.0) leads_here ∙ (rw (other, on) s.next)

    lead_fall : is_fall at.block.term ≡ true → goes_on at.block.term ≡ true → (s : Slot) → (leads_on g n).1 ≡ Some s.name
    lead_fall fall on s = ap (λ l. l.1) leads_here ∙ (rw (fall, on) s.next)

    -- ---- what stands behind the block that stays

    away_is : goes_on at.block.term ≡ true → (s : Slot) → falls_away f at.block at.back ≡ not (f s.name == s.name)
    away_is on s = ap (falls_away f at.block) s.back ∙ ap (λ k. goes_on at.block.term && not (f k == k)) s.is ∙ (rw on refl)

    lands_is : (s : Slot) → lands_at f at.back ≡ f s.name
    lands_is s = ap (lands_at f) s.back ∙ ap f s.is

    -- the next slot stays
    stays_on : goes_on at.block.term ≡ true → (s : Slot) → (f s.name == s.name) ≡ true → ends_there ≡ term_lines (retargeted_term f at.block.term) (Name s.name ∷ block_lines h s.name)
    stays_on on s kept =
        let away : falls_away f at.block at.back ≡ false = away_is on s ∙ ap not kept in
        let same : f s.block.name ≡ s.block.name = ap f s.is ∙ eqb-true (f s.name) s.name kept ∙ sym s.is in
        let lines : lines_of (folded_blocks f new at.back) ≡ Name s.name ∷ block_lines h s.name =
        ap (λ bs. lines_of (folded_blocks f new bs)) s.back ∙ head_lines (at.front ++ at.block ∷ []) s.block s.rest (further s) same ∙ ap (λ k. Name k ∷ block_lines h k) s.is in
        rw away (ap (term_lines (retargeted_term f at.block.term)) lines)

    -- a name that goes over to the same block may stand for it
    record Behind (k : ℕ) : Type 0 where
      name : ℕ
      lines : List Line
      ends : ends_there ≡ term_lines (retargeted_term f at.block.term) lines
      is : lines ≡ Name name ∷ block_lines h name
      stands : (m : ℕ) → f m ≡ k → Stands m name

    behind : f n ≡ n → goes_on at.block.term ≡ true → is_fall at.block.term ≡ false → (s : Slot) → Behind (f s.name)
    behind e on other s =
        elim (cases_Bool (f s.name == s.name)) [
          | inl kept ↦ record {
            name = s.name;
            lines = Name s.name ∷ block_lines h s.name;
            ends = stays_on on s kept;
            is = refl;
            stands = λ m same. inl (sym (same ∙ eqb-true (f s.name) s.name kept));
          }
          | inr gone ↦
              let away : falls_away f at.block at.back ≡ true = away_is on s ∙ ap not gone in
              let jump = jump_lines e away other in
              record {
                name = new at.block.name;
                lines = Name (new at.block.name) ∷ End (Jump (lands_at f at.back)) ∷ lines_of (folded_blocks f new at.back);
                ends = rw (away, other) refl;
                is = ap (λ ls. Name (new at.block.name) ∷ ls) (sym jump);
                stands = λ m same. inr (lines_of (folded_blocks f new at.back), jump ∙ ap (λ k. End (Jump k) ∷ lines_of (folded_blocks f new at.back)) (lands_is s ∙ sym same));
              }
        ]

    -- a Fall leads there
    fall_leads : is_fall at.block.term ≡ true → goes_on at.block.term ≡ true → (s : Slot) → (m : ℕ) → HasBlock g m → f m ≡ f s.name → Alike C true None (block_lines g m) ends_there
    fall_leads fall on s m has same =
        elim (cases_Bool (f s.name == s.name)) [
          | inl kept ↦
              let ends : ends_there ≡ Name s.name ∷ block_lines h s.name = stays_on on s kept ∙ ap (λ t. term_lines (retargeted_term f t) (Name s.name ∷ block_lines h s.name)) (fall_is at.block.term fall) in
              subst (λ ys. Alike C true None (block_lines g m) ys) (sym ends) (name_after (promised (has, inl (sym (same ∙ eqb-true (f s.name) s.name kept)))))
          | inr gone ↦
              let away : falls_away f at.block at.back ≡ true = away_is on s ∙ ap not gone in
              let ends : ends_there ≡ End (Jump (lands_at f at.back)) ∷ lines_of (folded_blocks f new at.back) = rw (away, fall) refl in
              subst (λ ys. Alike C true None (block_lines g m) ys) (sym ends) (jump_after tt (promised (has, inl (lands_is s ∙ sym same))))
        ]

    -- a block that doesn't go on keeps its end
    still_ends : goes_on at.block.term ≡ false → ends_there ≡ term_lines (retargeted_term f at.block.term) (lines_of (folded_blocks f new at.back))
    still_ends off = let away : falls_away f at.block at.back ≡ false = none at.back in rw away refl
      where
        none : (bs : List Block) → falls_away f at.block bs ≡ false
        none [] = refl
        none (b ∷ bs) = rw off refl

    jump_leads : (to : ℕ) → at.block.term ≡ Jump to → (m : ℕ) → HasBlock g m → f m ≡ f to → Alike C true None (block_lines g m) ends_there
    jump_leads to is m has same =
        let ends : ends_there ≡ End (Jump (f to)) ∷ lines_of (folded_blocks f new at.back) = still_ends (ap goes_on is) ∙ ap (λ t. term_lines (retargeted_term f t) (lines_of (folded_blocks f new at.back))) is in
        subst (λ ys. Alike C true None (block_lines g m) ys) (sym ends) (jump_after tt (promised (has, inl (sym same))))

  -- a term that is no Fall
  plain : (t : Term) (xs ys : List Line) → is_fall t ≡ false → TermGoesOn C own t → (links t ≡ true → SlotGoes C own (slot_name xs) (slot_name ys)) → (falls t ≡ true → Alike C true None xs ys) → Alike C false None (term_lines t xs) (term_lines (retargeted_term f t) ys)
  plain Fall xs ys o u s p = absurd (true≢false o)
  plain (Jump to) xs ys o u s p = both_end (Jump to) f (u to (contains_first to [])) p (λ l. slot_same C own (slot_name xs) (slot_name ys) (s l))
  plain (Branch cond x y to) xs ys o u s p = both_end (Branch cond x y to) f (u to (contains_first to [])) p (λ l. slot_same C own (slot_name xs) (slot_name ys) (s l))
  plain (Call link to) xs ys o u s p = both_end (Call link to) f (u to (contains_first to [])) p (λ l. slot_same C own (slot_name xs) (slot_name ys) (s l))
  plain (PartJump link part to) xs ys o u s p = both_end (PartJump link part to) f (u to (contains_first to []), refl) p (λ l. slot_same C own (slot_name xs) (slot_name ys) (s l))
  plain (Indirect link at offset) xs ys o u s p = both_end (Indirect link at offset) f tt p (λ l. slot_same C own (slot_name xs) (slot_name ys) (s l))
  plain (Stop word) xs ys o u s p = both_end (Stop word) f tt p (λ l. slot_same C own (slot_name xs) (slot_name ys) (s l))

  no_items_same : (xs ys : List Item) → map bare_item xs ≡ map bare_item ys → has_no_items xs ≡ has_no_items ys
  no_items_same [] [] e = refl
  no_items_same [] (y ∷ ys) e = absurd (cc)
  no_items_same (x ∷ xs) [] e = absurd (cc)
  no_items_same (x ∷ xs) (y ∷ ys) e = refl

  some_items : (b : Block) → is_bare b ≡ false → is_fall b.term ≡ true → has_no_items b.items ≡ false
  some_items b e fall = elim (cases_Bool (has_no_items b.items)) [ inl none ↦ absurd (let t : is_bare b ≡ true = rw (none, fall) refl in true≢false (sym t ∙ e)) | inr some ↦ some ]

  module _ (n : ℕ) (has : HasBlock g n) where
    abbrev k : ℕ
    k = f n

    there : HasBlock g k
    there = merges.there n has

    kept : f k ≡ k
    kept = merges.again n has

    x : IsAt g.blocks n
    x = located g.blocks n has

    y : IsAt g.blocks k
    y = located g.blocks k there

    abbrev t : Term
    t = x.block.term

    abbrev u : Term
    u = y.block.term

    bares : map bare_item x.block.items ≡ map bare_item y.block.items
    bares = sym (ap (map bare_item) (items_here n x)) ∙ ap (λ s. s.0) (merges.shapes n has) ∙ ap (map bare_item) (items_here k y)

    bare_terms : bare_term t ≡ bare_term u
    bare_terms = some_same (sym (ap (option_map bare_term) (term_here n x)) ∙ ap (λ s. s.1) (merges.shapes n has) ∙ ap (option_map bare_term) (term_here k y))

    picked : ((a : ℕ) (i j : Item) → slice_get (items_of g n) a ≡ Some i → slice_get (items_of g k) a ≡ Some j → option_map f (item_name i) ≡ option_map f (item_name j)) × (map f (term_references g rules n) ≡ map f (term_references g rules k))
    picked = pick f (items_of g n) (items_of g k) (term_references g rules n) (term_references g rules k) (ap (λ s. s.0) (merges.shapes n has)) (merges.references n has)

    same_items : retargeted_items f x.block.items ≡ retargeted_items f y.block.items
    same_items =
        items_again f x.block.items y.block.items bares
        (λ a i j e e'. picked.0 a i j (ap (λ is. slice_get is a) (items_here n x) ∙ e) (ap (λ is. slice_get is a) (items_here k y) ∙ e'))

    led : (option_map f (leads_on g n).0 ≡ option_map f (leads_on g k).0) × (option_map f (leads_on g n).1 ≡ option_map f (leads_on g k).1)
    led = refer_terms g rules f n k has there (ap (λ s. s.1) (merges.shapes n has)) picked.1

    in_graph : Contains g.blocks x.block
    in_graph = stands_at g rules x.front x.block x.back (whole n x)

    is_solid : (m : ℕ) (at : IsAt g.blocks m) → is_bare at.block ≡ false
    is_solid m at = from_all (λ b. is_bare b ≡ false) g.blocks at.block solid (stands_at g rules at.front at.block at.back (whole m at))

    abbrev Goal : Bool → Type 0
    Goal b = Alike C b None (term_lines t (lines_of x.back)) (ends_there k y)

    goes_here : TermGoesOn C own t
    goes_here = term_goes C rules holds goes refl refl x.block in_graph

    -- neither is a Fall
    both_plain : is_fall t ≡ false → is_fall u ≡ false → Goal false
    both_plain e e' =
        let names : option_map f (term_name t) ≡ option_map f (term_name u) = sym (ap (option_map f) (lead_target n x e)) ∙ led.1 ∙ ap (option_map f) (lead_target k y e') in
        let same : retargeted_term f t ≡ retargeted_term f u = terms_again f t u e e' bare_terms names in
        let both : goes_on t ≡ goes_on u = both_go t u e e' bare_terms in
        elim (cases_Bool (goes_on t)) [
          | inl on ↦
              let on' = sym both ∙ on in
              let s = slot n x on in
              let s' = slot k y on' in
              let meet : f s.name ≡ f s'.name = some_same (sym (ap (option_map f) (lead_next n x e on s)) ∙ led.0 ∙ ap (option_map f) (lead_next k y e' on' s')) in
              let b = behind k y kept on' e' s' in
              let ends : ends_there k y ≡ term_lines (retargeted_term f t) b.lines = b.ends ∙ ap (λ w. term_lines w b.lines) (sym same) in
              let stands = b.stands s.name meet in
              subst (λ ys. Alike C false None (term_lines t (lines_of x.back)) ys) (sym ends)
              (plain t (lines_of x.back) b.lines e goes_here
              (λ l. subst (λ ls. SlotGoes C own (slot_name ls) (slot_name b.lines)) (sym s.lines) (subst (λ ls. SlotGoes C own (Some s.name) (slot_name ls)) (sym b.is)
              (subst (λ m. Contains (code_targets g) m) s.is (slot_target g x.front x.block s.block s.rest (subst (λ bs. x.front ++ (x.block ∷ bs) ≡ g.blocks) s.back (whole n x)) l), (s.has, stands))))
              (λ w. subst (λ ls. Alike C true None ls b.lines) (sym s.lines) (subst (λ ls. Alike C true None (Name s.name ∷ block_lines g s.name) ls) (sym b.is) (name_before (name_after (promised (s.has, stands)))))))
          | inr off ↦
              let ends : ends_there k y ≡ term_lines (retargeted_term f t) (lines_of (folded_blocks f new y.back)) = still_ends k y (sym both ∙ off) ∙ ap (λ w. term_lines w (lines_of (folded_blocks f new y.back))) (sym same) in
              subst (λ ys. Alike C false None (term_lines t (lines_of x.back)) ys) (sym ends)
              (plain t (lines_of x.back) (lines_of (folded_blocks f new y.back)) e goes_here
              (λ l. absurd (true≢false (sym (links_goes_on t l) ∙ off)))
              (λ w. absurd (true≢false (sym (falls_goes_on t w) ∙ off))))
        ]

    fall_goes : (w : Term) → is_fall w ≡ true → goes_on w ≡ true
    fall_goes w e = ap goes_on (fall_is w e)

    -- from a block that goes over to where the other term leads
    abbrev Leads : ℕ → Type 0
    Leads to = (m : ℕ) → HasBlock g m → f m ≡ f to → Alike C true None (block_lines g m) (ends_there k y)

    -- one of them is a Fall
    from_fall : is_fall t ≡ true → (to : ℕ) → (leads_on g k).1 ≡ Some to → Leads to → Goal true
    from_fall e to lead on =
        let s = slot n x (fall_goes t e) in
        let meet : f s.name ≡ f to = some_same (sym (ap (option_map f) (lead_fall n x e (fall_goes t e) s)) ∙ led.1 ∙ ap (option_map f) lead) in
        subst (λ w. Alike C true None (term_lines w (lines_of x.back)) (ends_there k y)) (sym (fall_is t e))
        (subst (λ ls. Alike C true None ls (ends_there k y)) (sym s.lines) (name_before (on s.name s.has meet)))

    from_jump : (j to : ℕ) → t ≡ Jump j → (leads_on g k).1 ≡ Some to → Leads to → Goal true
    from_jump j to is lead on =
        let known : HasBlock g j = (goes_here j (subst (λ w. Contains (term_uses w) j) (sym is) (contains_first j []))).0 in
        let meet : f j ≡ f to = some_same (sym (ap (option_map f) (lead_target n x (ap is_fall is) ∙ ap term_name is)) ∙ led.1 ∙ ap (option_map f) lead) in
        subst (λ w. Alike C true None (term_lines w (lines_of x.back)) (ends_there k y)) (sym is) (jump_before tt (on j known meet))

    to_fall : is_fall u ≡ true → Goal true
    to_fall e' =
        let on' = fall_goes u e' in
        let s' = slot k y on' in
        let lead = lead_fall k y e' on' s' in
        let leads = fall_leads k y e' on' s' in
        elim (falls_or_jumps t (bare_terms ∙ ap bare_term (fall_is u e'))) [
          | inl fall ↦ from_fall (ap is_fall fall) s'.name lead leads
          | inr jump ↦ from_jump jump.0 s'.name jump.1 lead leads
        ]

    to_jump : is_fall t ≡ true → (j : ℕ) → u ≡ Jump j → Goal true
    to_jump e j is = from_fall e j (lead_target k y (ap is_fall is) ∙ ap term_name is) (jump_leads k y j is)

    whole_body : Goal false ⊎ (Goal true × (has_no_items x.block.items ≡ false))
    whole_body =
        elim (cases_Bool (is_fall u)) [
          | inl e' ↦ inr (to_fall e', no_items_same x.block.items y.block.items bares ∙ some_items y.block (is_solid k y) e')
          | inr e' ↦ elim (cases_Bool (is_fall t)) [
            | inl e ↦ inr (by_jump e (falls_or_jumps u (sym bare_terms ∙ ap bare_term (fall_is t e))), some_items x.block (is_solid n x) e)
            | inr e ↦ inl (both_plain e e')
          ]
        ]
      where
        by_jump : is_fall t ≡ true → (u ≡ Fall) ⊎ ((j : ℕ) × (u ≡ Jump j)) → Goal true
        by_jump e (inl fall) = to_fall (ap is_fall fall)
        by_jump e (inr jump) = to_jump e jump.0 jump.1

    items_here_go : AreOf C own (ItemGoes C own) x.block.items
    items_here_go item c = items_go C rules holds goes refl refl x.block in_graph item c

    joined_up : (items : List Item) → AreOf C own (ItemGoes C own) items → Goal false ⊎ (Goal true × (has_no_items items ≡ false)) → Alike C false None (map line_of items ++ term_lines t (lines_of x.back)) (map line_of (carried_items C own items) ++ ends_there k y)
    joined_up items each (inl p) = carry_items C own items (term_lines t (lines_of x.back)) (ends_there k y) each p
    joined_up [] each (inr p) = absurd (true≢false p.1)
    joined_up (item ∷ items) each (inr p) = carry_some C own item items (term_lines t (lines_of x.back)) (ends_there k y) each p.0

    -- the block goes on like the one that stays
    pub goes_alike : Alike C false None (block_lines g n) (block_lines h k)
    goes_alike =
        let after : block_lines h k ≡ map line_of (carried_items C own x.block.items) ++ ends_there k y =
        new_lines k y there kept ∙ ap (λ is. map line_of is ++ ends_there k y) (sym same_items ∙ sym (own_calls (retargeted_items f x.block.items))) in
        subst (λ xs. Alike C false None xs (block_lines h k)) (sym (old_lines n x))
        (subst (λ ys. Alike C false None (body_lines x.block (lines_of x.back)) ys) (sym after) (joined_up x.block.items items_here_go whole_body))

  names : (n m : ℕ) → MayGo n m → Alike C false None (block_lines g n) (block_lines h m)
  names n m j =
      elim j.1 [
        | inl e ↦ subst (λ k. Alike C false None (block_lines g n) (block_lines h k)) (sym e) (goes_alike n j.0)
        | inr jump ↦ subst (λ ys. Alike C false None (block_lines g n) ys) (sym jump.1) (jump_after tt (goes_alike n j.0))
      ]

  steady : IsSteady C
  steady = record { carrier = every_carrier g; names = names; values = λ n m v. v }

  pub follows : Follows g h
  follows =
      change_follows C steady
      (goes g.entry (contains_first g.entry (code_word_uses g.code_words ++ (terms_uses g.blocks ++ items_uses (all_items g)))))
      (same_addresses f g.code_words) (other_names f g.code_words)
      (λ i n e. holds n (word_target g n (from_slice (map word_name g.code_words) i n e)))

  -- ---- links die as before

  -- names that stay
  abbrev K : ℕ → Type 0
  K n = HasBlock g n × (f n ≡ n)

  abbrev FirstStays : List Block → Type 0
  FirstStays [] = Unit {0}
  FirstStays (b ∷ bs) = (f b.name == b.name) ≡ true

  abbrev spot : (front : List Block) (x : Block) (bs : List Block) → front ++ (x ∷ bs) ≡ g.blocks → IsAt g.blocks x.name
  spot front x bs e = record {
    front = front;
    block = x;
    back = bs;
    whole = sym e;
    has_name = refl;
    ahead = absent_from front x bs (distinct_at g rules front x bs e);
  }

  name_there : (front : List Block) (x : Block) (bs : List Block) → front ++ (x ∷ bs) ≡ g.blocks → HasBlock g x.name
  name_there front x bs e = subst IsSome (sym (block_at g rules front x bs e)) refl

  -- a block that stays is alike, with what then stands behind it
  stays_alike : (b : Bool) (front : List Block) (x : Block) (bs : List Block) (e : front ++ (x ∷ bs) ≡ g.blocks) → (f x.name == x.name) ≡ true → Alike C b None (body_lines x (lines_of bs)) (map line_of (retargeted_items f x.items) ++ ends_there x.name (spot front x bs e))
  stays_alike b front x bs e kept =
      let has = name_there front x bs e in
      let same : f x.name ≡ x.name = eqb-true (f x.name) x.name kept in
      let old = old_lines x.name (spot front x bs e) in
      let new' = new_lines x.name (spot front x bs e) has same in
      let p : Alike C false None (block_lines g x.name) (block_lines h x.name) = subst (λ m. Alike C false None (block_lines g x.name) (block_lines h m)) same (goes_alike x.name has) in
      raise b (subst (λ xs. Alike C false None xs (map line_of (retargeted_items f x.items) ++ ends_there x.name (spot front x bs e))) old (subst (λ ys. Alike C false None (block_lines g x.name) ys) new' p))
    where
      raise : (b : Bool) {xs ys : List Line} → Alike C false None xs ys → Alike C b None xs ys
      raise true p = guarded p
      raise false p = p

  falls_first : (x : Block) (bs : List Block) → falls_away f x bs ≡ false → goes_on x.term ≡ true → FirstStays bs
  falls_first x [] a on = tt
  falls_first x (b ∷ bs) a on = elim (cases_Bool (f b.name == b.name)) [ inl kept ↦ kept | inr gone ↦ absurd (let t : falls_away f x (b ∷ bs) ≡ true = rw (on, gone) refl in true≢false (sym t ∙ a)) ]

  slots_go : (front : List Block) (x : Block) (bs : List Block) → front ++ (x ∷ bs) ≡ g.blocks → FirstStays bs → links x.term ≡ true → SlotGoes C own (slot_name (lines_of bs)) (slot_name (lines_of (folded_blocks f new bs)))
  slots_go front x [] e first l = tt
  slots_go front x (b ∷ bs) e first l =
      let two = ahead front x (b ∷ bs) ∙ e in
      subst (λ ls. SlotGoes C own (Some b.name) (slot_name ls)) (sym (first_lines b.name (spot (front ++ x ∷ []) b bs two) first))
      (slot_target g front x b bs e l, (name_there (front ++ x ∷ []) b bs two, inl (sym (eqb-true (f b.name) b.name first))))

  -- what stands behind the items of a block that stays goes on alike
  tail_alike : (front : List Block) (x : Block) (bs : List Block) (e : front ++ (x ∷ bs) ≡ g.blocks) → (f x.name == x.name) ≡ true → Alike C true None (term_lines x.term (lines_of bs)) (ends_there x.name (spot front x bs e))
  tail_alike front x bs e kept =
      elim (cases_Bool (is_fall x.term)) [
        | inl fall ↦
            let on : goes_on x.term ≡ true = ap goes_on (fall_is x.term fall) in
            let s = slot x.name (spot front x bs e) on in
            subst (λ w. Alike C true None (term_lines w (lines_of bs)) (ends_there x.name (spot front x bs e))) (sym (fall_is x.term fall))
            (subst (λ ls. Alike C true None ls (ends_there x.name (spot front x bs e))) (sym s.lines) (name_before (fall_leads x.name (spot front x bs e) fall on s s.name s.has refl)))
        | inr other ↦ elim (cases_Bool (goes_on x.term)) [
          | inl on ↦
              let s = slot x.name (spot front x bs e) on in
              let b = behind x.name (spot front x bs e) same on other s in
              let stands = b.stands s.name refl in
              subst (λ ys. Alike C true None (term_lines x.term (lines_of bs)) ys) (sym b.ends)
              (guarded (plain x.term (lines_of bs) b.lines other goes_there
              (λ l. subst (λ ls. SlotGoes C own (slot_name ls) (slot_name b.lines)) (sym s.lines) (subst (λ ls. SlotGoes C own (Some s.name) (slot_name ls)) (sym b.is)
              (subst (λ m. Contains (code_targets g) m) s.is (slot_target g front x s.block s.rest (subst (λ cs. front ++ (x ∷ cs) ≡ g.blocks) s.back e) l), (s.has, stands))))
              (λ w. subst (λ ls. Alike C true None ls b.lines) (sym s.lines) (subst (λ ls. Alike C true None (Name s.name ∷ block_lines g s.name) ls) (sym b.is) (name_before (name_after (promised (s.has, stands))))))))
          | inr off ↦
              subst (λ ys. Alike C true None (term_lines x.term (lines_of bs)) ys) (sym (still_ends x.name (spot front x bs e) off))
              (guarded (plain x.term (lines_of bs) (lines_of (folded_blocks f new bs)) other goes_there
              (λ l. absurd (true≢false (sym (links_goes_on x.term l) ∙ off)))
              (λ w. absurd (true≢false (sym (falls_goes_on x.term w) ∙ off)))))
        ]
      ]
    where
      same : f x.name ≡ x.name
      same = eqb-true (f x.name) x.name kept

      goes_there : TermGoesOn C own x.term
      goes_there = term_goes C rules holds goes refl refl x (stands_at g rules front x bs e)

  items_go_there : (front : List Block) (x : Block) (bs : List Block) → front ++ (x ∷ bs) ≡ g.blocks → AreOf C own (ItemGoes C own) x.items
  items_go_there front x bs e item c = items_go C rules holds goes refl refl x (stands_at g rules front x bs e) item c

  one_of : (xs ys : List ℕ) (m : ℕ) {Q : Type 0} → Contains (xs ++ ys) m → (Contains xs m → Q) → (Contains ys m → Q) → Q
  one_of xs ys m c p q = elim (Contains-append_cases xs ys m c) [ inl a ↦ p a | inr b ↦ q b ]

  landed_lowers : (fl : Bool) (b : Block) (n to m : ℕ) → Contains (lowers_of C own K (landed true fl b n to)) m → Contains (flat_map lower_names b.items) m
  landed_lowers true b n to m c = one_of (flat_map lower_names b.items) [] m c (λ d. d) (none_in m)
  landed_lowers false b n to m c = one_of (flat_map lower_names b.items) [] m c (λ d. d) (none_in m)

  landed_links : (fl : Bool) (b : Block) (n to m : ℕ) (cs : List Block) {Q : Type 0} → Contains (link_names (landed true fl b n to ++ cs)) m → (fl ≡ false → links b.term ≡ true → m ≡ n → Q) → (Contains (link_names cs) m → Q) → Q
  landed_links true b n to m cs c p q = q c
  landed_links false b n to m cs c p q = one_of (if links b.term then n ∷ [] else []) (link_names cs) m c (by (links b.term) (λ l d. p refl l d)) q
    where
      by : {Q : Type 0} (t : Bool) → (t ≡ true → m ≡ n → Q) → Contains (if t then n ∷ [] else []) m → Q
      by true r (zero, l, e) = r refl (sym e)
      by true r (suc i, l, e) = absurd (omega arith)
      by false r d = none_in m d

  module _ (front : List Block) (x : Block) (bs : List Block) (e : front ++ (x ∷ bs) ≡ g.blocks) (kept : (f x.name == x.name) ≡ true) (away : falls_away f x bs ≡ true) (fl : Bool) (fall : is_fall x.term ≡ fl) where
    abbrev others : List Block
    others = landed true fl (retargeted_block f x) (new x.name) (lands_at f bs)

    abbrev Z : List Line
    Z = end_lines true fl (retargeted_term f x.term) (new x.name) (lands_at f bs) (lines_of (folded_blocks f new bs))

    ends_are : ends_there x.name (spot front x bs e) ≡ Z
    ends_are = rw (away, fall) refl

    shape : lines_of (others ++ folded_blocks f new bs) ≡ Name x.name ∷ (map line_of (retargeted_items f x.items) ++ Z)
    shape = lines_landed true fl (retargeted_block f x) (new x.name) (lands_at f bs) (folded_blocks f new bs)

    body : (b : Bool) → Alike C b None (body_lines x (lines_of bs)) (map line_of (retargeted_items f x.items) ++ Z)
    body b = subst (λ z. Alike C b None (body_lines x (lines_of bs)) (map line_of (retargeted_items f x.items) ++ z)) ends_are (stays_alike b front x bs e kept)

    goes_on_away : goes_on x.term ≡ true
    goes_on_away = by bs away
      where
        by : (rest : List Block) → falls_away f x rest ≡ true → goes_on x.term ≡ true
        by [] a = absurd (cc)
        by (b ∷ rest) a = elim (cases_Bool (goes_on x.term)) [ inl on ↦ on | inr off ↦ absurd (let t : falls_away f x (b ∷ rest) ≡ false = rw off refl in true≢false (sym a ∙ t)) ]

    new_held : fl ≡ false → links x.term ≡ true → IsHeld C own K (new x.name)
    new_held other l =
        let s = slot x.name (spot front x bs e) goes_on_away in
        let same : f x.name ≡ x.name = eqb-true (f x.name) x.name kept in
        let jump = jump_lines x.name (spot front x bs e) same away (fall ∙ other) in
        let target = subst (λ m. Contains (code_targets g) m) s.is (slot_target g front x s.block s.rest (subst (λ ds. front ++ (x ∷ ds) ≡ g.blocks) s.back e) l) in
        (s.name, (target, (s.has, inr (lines_of (folded_blocks f new bs), jump ∙ ap (λ k. End (Jump k) ∷ lines_of (folded_blocks f new bs)) (lands_is x.name (spot front x bs e) s)))))

    turn : (into : Bool) → Turn C own K into false (x ∷ []) others bs (folded_blocks f new bs)
    turn into = record {
      lines = λ b i q. subst (λ ys. Alike C b None (lines_of (x ∷ bs)) ys) (sym shape) (name_before (name_after (body b)));
      behind = λ m k q r. elim (cases_Bool (x.name == m)) [
        | inl here ↦
            let old : behind_name m (lines_of (x ∷ bs)) ≡ body_lines x (lines_of bs) = rw here refl in
            let now : behind_name m (lines_of (others ++ folded_blocks f new bs)) ≡ map line_of (retargeted_items f x.items) ++ Z = ap (behind_name m) shape ∙ (rw here refl) in
            subst (λ xs. Alike C false None xs (behind_name m (lines_of (others ++ folded_blocks f new bs)))) (sym old) (subst (λ ys. Alike C false None (body_lines x (lines_of bs)) ys) (sym now) (body false))
        | inr apart ↦
            let fresh : (new x.name == m) ≡ false = ne_eqb (new x.name) m (λ s. not_new g (new x.name) m (news.fresh x.name) k.0 (sym s)) in
            subst (λ xs. Alike C false None xs (behind_name m (lines_of (others ++ folded_blocks f new bs)))) (sym (passed x m bs apart))
            (subst (λ ys. Alike C false None (behind_name m (lines_of bs)) ys) (sym (landed_passed true fl (retargeted_block f x) (new x.name) (lands_at f bs) m (folded_blocks f new bs) apart fresh)) r)
      ];
      lowers = λ m c.
          items_held C own K x.items (items_go_there front x bs e) m
          (subst (λ is. Contains (flat_map lower_names is) m) (sym (own_calls (retargeted_items f x.items))) (landed_lowers fl (retargeted_block f x) (new x.name) (lands_at f bs) m c));
      slots = λ m c. landed_links fl (retargeted_block f x) (new x.name) (lands_at f bs) m (folded_blocks f new bs) c
          (λ other l is. inl (subst (λ k. IsHeld C own K k) (sym is) (new_held other (sym (links_same f x.term) ∙ l))))
          (λ d. inr d);
      dies = λ backs q die die'.
          subst (λ ls. LinksDieIn h ls) (sym shape)
          (subst (λ is. LinksDieIn h (map line_of is ++ Z)) (own_calls (retargeted_items f x.items))
          (items_die C own backs x.items (term_lines x.term (lines_of bs)) Z (items_go_there front x bs e)
          (subst (λ z. Alike C true None (term_lines x.term (lines_of bs)) z) ends_are (tail_alike front x bs e kept)) die (ends_die fl die')));
    }
      where
        ends_die : (fl : Bool) → LinksDieIn h (lines_of (folded_blocks f new bs)) → LinksDieIn h (end_lines true fl (retargeted_term f x.term) (new x.name) (lands_at f bs) (lines_of (folded_blocks f new bs)))
        ends_die true die = die
        ends_die false die = term_dies h (retargeted_term f x.term) (Name (new x.name) ∷ End (Jump (lands_at f bs)) ∷ lines_of (folded_blocks f new bs)) die

  -- all blocks
  carries : (into : Bool) (front bs : List Block) → front ++ bs ≡ g.blocks → (into ≡ true → FirstStays bs) → Carries C own K into bs (folded_blocks f new bs)
  carries into front [] e first = done
  carries into front (x ∷ bs) e first =
      by (f x.name == x.name) refl (falls_away f x bs) refl
      (carries false (front ++ x ∷ []) bs (ahead front x bs ∙ e) (λ t. absurd (cc)))
      (λ stays. carries (falls x.term) (front ++ x ∷ []) bs (ahead front x bs ∙ e) stays)
    where
      by : (t : Bool) → (f x.name == x.name) ≡ t → (d : Bool) → falls_away f x bs ≡ d → Carries C own K false bs (folded_blocks f new bs) → ((falls x.term ≡ true → FirstStays bs) → Carries C own K (falls x.term) bs (folded_blocks f new bs))
          → Carries C own K into (x ∷ bs) (if t then stayed f new x bs ++ folded_blocks f new bs else folded_blocks f new bs)
      by false gone d a rest on =
          turns (x ∷ []) []
          (gone_turn C own K into x bs (folded_blocks f new bs) (λ t. true≢false (sym (first t) ∙ gone))
          (λ n k. ne_eqb x.name n (λ s. true≢false (sym (eq-eqb (f x.name) x.name (ap f s ∙ k.1 ∙ sym s)) ∙ gone)))) rest
      by true kept true a rest on =
          subst (λ vs. Carries C own K into (x ∷ bs) (vs ++ folded_blocks f new bs)) (ap (λ d. landed d (is_fall x.term) (retargeted_block f x) (new x.name) (lands_at f bs)) (sym a))
          (turns (x ∷ []) (landed true (is_fall x.term) (retargeted_block f x) (new x.name) (lands_at f bs)) (turn front x bs e kept a (is_fall x.term) refl into) rest)
      by true kept false a rest on =
          subst (λ vs. Carries C own K into (x ∷ bs) (vs ++ folded_blocks f new bs)) (ap (λ d. landed d (is_fall x.term) (retargeted_block f x) (new x.name) (lands_at f bs)) (sym a))
          (stays x (retargeted_block f x) (sym (own_called_block (retargeted_block f x)))
          (record {
            items = items_go_there front x bs e;
            term = term_goes C rules holds goes refl refl x (stands_at g rules front x bs e);
            slot = λ l. slots_go front x bs e (falls_first x bs a (links_goes_on x.term l)) l;
          })
          (on (λ w. falls_first x bs a (falls_goes_on x.term w))))

  pub sound : IsSound g → IsSound h
  sound is =
      carried_sound C own K steady (λ xs r l. tt) tt (carries false [] g.blocks refl (λ t. absurd (cc)))
      (words_held C rules holds goes refl refl) (bodies_held C rules holds goes refl refl) is
      (procedures_sound C rules holds goes refl refl is)

pub fold_follows : FoldFollows
fold_follows g f new rules solid merges news = follows g f new rules solid merges news

pub fold_sound : FoldIsSound
fold_sound g f new rules solid merges news is = sound g f new rules solid merges news is
