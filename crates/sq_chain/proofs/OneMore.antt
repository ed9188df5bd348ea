-- A graph in which one Branch is widened follows it.
use Rattle.std.proofs.Common.{◌≡◌, ◌≢◌, ℕ, ◌==◌, true, false, arith, List, [], ◌∷◌, ◌++◌, None, Some, IsSome, is_some, inl, inr, refl, sym, ap, ◌∙◌, subst, append_assoc}
use Rattle.std.specs.List.{All}
use Rattle.std.proofs.lemmas.Bool.{cases_Bool, eq-eqb}
use Rattle.std.proofs.lemmas.List.Elements.{All-nil, All-cons, All-append, All-weaker, All-contains}
use Rattle.sq_arena.specs.Entries.{HasDistinctKeys, value_of, first_key, next_key}
use Rattle.sq_arena.proofs.EntriesLaws.{absent_ahead, behind-append}
use Rattle.sq_isa.specs.Branches.{inverse_of}
use Rattle.sq_isa.specs.declared.instructions.Cond.{Cond}
use Rattle.sq_graph.specs.declared.item.Term.{Term}
use Rattle.sq_graph.specs.declared.item.Term.TheVariants.{Jump, Branch}
use Rattle.sq_graph.specs.Graph.{Block, Graph}
use Rattle.sq_graph.specs.Blocks.{named, HasBlock, HasProcedure, block_term, next_of, term_of}
use Rattle.sq_graph.specs.Operations.{IsNew, with_blocks, changed, with_term, inserted_after}
use Rattle.sq_graph.specs.Resolve.{lone_jump}
use Rattle.sq_graph.specs.Rules.{IsGraph, last_goes_on}
use Rattle.sq_graph.specs.Soundness.{IsSound}
use Rattle.sq_graph.specs.Terms.{goes_on}
use Rattle.sq_graph.specs.Uses.{uses}
use Rattle.sq_graph.proofs.Changes.{with_blocks-at}
use Rattle.sq_graph.proofs.Eachs.{All-left, All-right}
use Rattle.sq_graph.proofs.Fitting.{term_fits}
use Rattle.sq_graph.proofs.Located.{IsAt, located, named-append}
use Rattle.sq_graph.proofs.OperationRules.{with_term_rules, inserted_after_rules}
use Rattle.sq_graph.proofs.RulesByBlock.{BlockStands, IsByBlock, by_block, all_named}
use Rattle.sq_graph.proofs.SlotReads.{block_at}
use Rattle.sq_graph.proofs.SplitRules.{keeps_names, last_goes_on-append}
use Rattle.law_follow.specs.Follows.{Follows}
use Rattle.law_follow.proofs.Following.{graph_follows_through}
use Rattle.sq_lookup.proofs.Targets.{has_term, branch_there}
use Rattle.law_patch.specs.LoneJumps.{IsOverJump, exchanged}
use Rattle.law_patch.proofs.Exchanging.{exchange_follows, exchange_sound}
use Rattle.law_patch.proofs.Inserting.{insert_follows, insert_sound}
use Rattle.sq_chain.proofs.Over.{not_new}
use Rattle.sq_chain.specs.Widening.{jumped_over, over_jump}

-- what stands in the slot behind a block
pub slot_behind : (blocks : List Block) (name : ℕ) (at : IsAt blocks name) → next_key (named blocks) name ≡ first_key (named at.back)
slot_behind blocks name at =
    ap (λ bs. next_key (named bs) name) at.whole
    ∙ ap (λ es. next_key es name) (named-append at.front (at.block ∷ at.back))
    ∙ ap (λ k. next_key (named at.front ++ (k, at.block) ∷ named at.back) name) at.has_name
    ∙ ap first_key (behind-append (named at.front) (named at.back) name at.block at.ahead)

-- it is a block
pub slot_there : (g : Graph) (n m : ℕ) → HasBlock g n → next_of g n ≡ Some m → HasBlock g m
slot_there g n m has e =
    let at = located g.blocks n has in
    subst (λ bs. IsSome (value_of (named bs) m)) (sym at.whole) (later at.front at.back at.block (first at.back (sym (slot_behind g.blocks n at) ∙ e)))
  where
    later : (front back : List Block) (x : Block) → IsSome (value_of (named back) m) → IsSome (value_of (named (front ++ (x ∷ back))) m)
    later [] back x some = elim (cases_Bool (x.name == m)) [ inl here ↦ rw here refl | inr apart ↦ rw apart some ]
    later (y ∷ front) back x some = elim (cases_Bool (y.name == m)) [ inl here ↦ rw here refl | inr apart ↦ rw apart (later front back x some) ]

    first : (back : List Block) → first_key (named back) ≡ Some m → IsSome (value_of (named back) m)
    first [] f = absurd (cc)
    first (b ∷ back) f = let same : b.name ≡ m = cc in rw (eq-eqb b.name m same) refl

-- a term that goes on has a slot behind it
pub slot_after : (g : Graph) (n : ℕ) (t : Term) → IsGraph g → term_of g n ≡ Some t → goes_on t ≡ true → IsSome (next_of g n)
slot_after g n t rules e on =
    let at = located g.blocks n (has_term g n t e) in
    let same : at.block.term ≡ t = let f : Some at.block.term ≡ Some t = sym (ap block_term (block_at g.blocks n at)) ∙ e in cc in
    let ends : last_goes_on (at.block ∷ at.back) ≡ false = sym (last_goes_on-append at.front at.block at.back) ∙ sym (ap last_goes_on at.whole) ∙ rules.ends in
    subst (λ o. IsSome o) (sym (slot_behind g.blocks n at)) (by_back at.block at.back (ap goes_on same ∙ on) ends)
  where
    by_back : (b : Block) (back : List Block) → goes_on b.term ≡ true → last_goes_on (b ∷ back) ≡ false → IsSome (first_key (named back))
    by_back b [] on ends = absurd (cc)
    by_back b (c ∷ back) on ends = refl

-- each name stays where a block is put behind one
pub still_there : (h : Graph) (new n : ℕ) (t : Term) (m : ℕ) → HasBlock h m → HasBlock (inserted_after h new n t) m
still_there h new n t m has =
    keeps_names (λ b. b ∷ record { name = new; items = []; term = t } ∷ []) h.blocks n m (λ b. rw (eq-eqb b.name b.name refl) refl) has

module _ (h : Graph) (new n next : ℕ) (cond : Cond) (a b to : ℕ) (rules : IsGraph h) (fresh : IsNew h new) (is : term_of h n ≡ Some (Branch cond a b to)) (slot : next_of h n ≡ Some next) where
  has : HasBlock h n
  has = has_term h n (Branch cond a b to) is

  to_has : HasBlock h to
  to_has = branch_there h n cond a b to rules is

  next_has : HasBlock h next
  next_has = slot_there h n next has slot

  at : IsAt h.blocks n
  at = located h.blocks n has

  term_is : at.block.term ≡ Branch cond a b to
  term_is = let same : Some at.block.term ≡ Some (Branch cond a b to) = sym (ap block_term (block_at h.blocks n at)) ∙ is in cc

  abbrev turned : Block
  turned = record at.block { term = Branch (inverse_of cond) a b next }

  abbrev jump : Block
  jump = record { name = new; items = []; term = Jump next }

  abbrev lone : Block
  lone = record { name = new; items = []; term = Jump to }

  -- the Branch over the Jump
  abbrev wide : Graph
  wide = changed (over_jump new next) h n

  wide_blocks : with_blocks (over_jump new next) h.blocks n ≡ at.front ++ (turned ∷ lone ∷ at.back)
  wide_blocks = with_blocks-at (over_jump new next) h.blocks n at ∙ ap (λ t. at.front ++ (jumped_over new next at.block t ++ at.back)) term_is

  at_lone : (changed (over_jump new next) h n).blocks ≡ (at.front ++ turned ∷ []) ++ (lone ∷ at.back)
  at_lone = wide_blocks ∙ sym (append_assoc at.front (turned ∷ []) (lone ∷ at.back))

  -- the new block is there
  pub one_more_there : HasBlock (changed (over_jump new next) h n) new
  one_more_there = subst (λ bs. IsSome (value_of (named bs) new)) (sym at_lone) (there (at.front ++ turned ∷ []))
    where
      there : (front : List Block) → IsSome (value_of (named (front ++ (lone ∷ at.back))) new)
      there [] = rw (eq-eqb new new refl) refl
      there (y ∷ front) = elim (cases_Bool (y.name == new)) [ inl here ↦ rw here refl | inr apart ↦ rw apart (there front) ]

  -- put in by two calls

  pub put_rules : IsGraph (inserted_after h new n (Jump to))
  put_rules = inserted_after_rules h new n (Jump to) rules fresh has tt (All-cons (HasBlock h) to [] to_has (All-nil (HasBlock h))) (λ on. absurd (cc))

  put_blocks : (inserted_after h new n (Jump to)).blocks ≡ at.front ++ (at.block ∷ lone ∷ at.back)
  put_blocks = with_blocks-at (λ c. c ∷ record { name = new; items = []; term = Jump to } ∷ []) h.blocks n at

  abbrev at_put : IsAt (inserted_after h new n (Jump to)).blocks n
  at_put = record { front = at.front; block = at.block; back = lone ∷ at.back; whole = put_blocks; has_name = at.has_name; ahead = at.ahead }

  pub turned_rules : IsGraph (with_term (inserted_after h new n (Jump to)) n (Branch (inverse_of cond) a b next))
  turned_rules =
      with_term_rules (inserted_after h new n (Jump to)) n (Branch (inverse_of cond) a b next) put_rules (still_there h new n (Jump to) n has) (term_fits h n (Branch cond a b to) rules is)
      (All-cons (HasBlock (inserted_after h new n (Jump to))) next [] (still_there h new n (Jump to) next next_has) (All-nil (HasBlock (inserted_after h new n (Jump to)))))
      (λ on. ap is_some (slot_behind (inserted_after h new n (Jump to)).blocks n at_put))

  pub turned_is : with_term (inserted_after h new n (Jump to)) n (Branch (inverse_of cond) a b next) ≡ changed (over_jump new next) h n
  turned_is =
      ap (λ (bs : List Block). record h { blocks = bs })
      (with_blocks-at (λ c. record c { term = Branch (inverse_of cond) a b next } ∷ []) (inserted_after h new n (Jump to)).blocks n at_put ∙ sym wide_blocks)

  pub one_more_rules : IsGraph (changed (over_jump new next) h n)
  one_more_rules = subst IsGraph turned_is turned_rules

  -- a Jump to the next slot, which then exchanges its target with the Branch

  abbrev mid : Graph
  mid = inserted_after h new n (Jump next)

  mid_rules : IsGraph (inserted_after h new n (Jump next))
  mid_rules = inserted_after_rules h new n (Jump next) rules fresh has tt (All-cons (HasBlock h) next [] next_has (All-nil (HasBlock h))) (λ on. absurd (cc))

  mid_blocks : mid.blocks ≡ at.front ++ (at.block ∷ jump ∷ at.back)
  mid_blocks = with_blocks-at (λ c. c ∷ record { name = new; items = []; term = Jump next } ∷ []) h.blocks n at

  abbrev at_mid : IsAt mid.blocks n
  at_mid = record { front = at.front; block = at.block; back = jump ∷ at.back; whole = mid_blocks; has_name = at.has_name; ahead = at.ahead }

  new_ahead : (x : Block) (y : Block) → x.name ≡ n → y.name ≡ new → HasDistinctKeys (named (at.front ++ (x ∷ y ∷ at.back))) → value_of (named (at.front ++ x ∷ [])) y.name ≡ None
  new_ahead x y x_is y_is distinct =
      let parts : named (at.front ++ (x ∷ y ∷ at.back)) ≡ named (at.front ++ x ∷ []) ++ (y.name, y) ∷ named at.back =
      ap named (sym (append_assoc at.front (x ∷ []) (y ∷ at.back))) ∙ named-append (at.front ++ x ∷ []) (y ∷ at.back) in
      absent_ahead (named (at.front ++ x ∷ [])) (named at.back) y.name y (subst (λ (es : List (ℕ × Block)). HasDistinctKeys es) parts distinct)

  abbrev at_new : IsAt mid.blocks new
  at_new = record {
    front = at.front ++ at.block ∷ [];
    block = jump;
    back = at.back;
    whole = mid_blocks ∙ sym (append_assoc at.front (at.block ∷ []) (jump ∷ at.back));
    has_name = refl;
    ahead = new_ahead at.block jump at.has_name refl (subst (λ bs. HasDistinctKeys (named bs)) mid_blocks mid_rules.distinct);
  }

  -- nothing names the new block
  abbrev Other : ℕ → Type 0
  Other m = m ≢ new

  old_uses : IsByBlock Other (HasProcedure h) h
  old_uses = by_block Other (HasProcedure h) h rules (All-weaker (HasBlock h) Other (λ m there. not_new h new m fresh there) (uses h) rules.named_all) rules.called_all

  mid_uses : All Other (uses mid)
  mid_uses =
      let B = BlockStands Other (HasProcedure h) in
      let all = subst (λ (bs : List Block). All (BlockStands Other (HasProcedure h)) bs) at.whole old_uses.blocks in
      let front = All-left B at.front (at.block ∷ at.back) all in
      let behind = All-right B at.front (at.block ∷ at.back) all in
      let own = All-left B (at.block ∷ []) at.back behind in
      let back = All-right B (at.block ∷ []) at.back behind in
      let added : BlockStands Other (HasProcedure h) jump = record { items = λ k d l. absurd (omega (arith, l)); names = All-cons Other next [] (not_new h new next fresh next_has) (All-nil Other); fits = tt } in
      all_named Other (HasProcedure h) mid
      (record {
        distinct = mid_rules.distinct;
        entry = old_uses.entry;
        words = old_uses.words;
        ends = mid_rules.ends;
        ascending = old_uses.ascending;
        blocks =
            subst (λ (bs : List Block). All (BlockStands Other (HasProcedure h)) bs) (sym mid_blocks)
            (All-append B at.front (at.block ∷ jump ∷ at.back) front (All-append B (at.block ∷ []) (jump ∷ at.back) own (All-cons B jump at.back added back)));
        bodies = old_uses.bodies;
      })

  over : IsOverJump mid n cond a b new to next
  over = record {
    branch = ap block_term (block_at mid.blocks n at_mid) ∙ ap Some term_is;
    next = slot_behind mid.blocks n at_mid;
    jump = ap lone_jump (block_at mid.blocks new at_new);
    unnamed = λ c. All-contains Other (uses mid) new mid_uses c refl;
  }

  half_blocks : with_blocks (λ c. record c { term = Branch (inverse_of cond) a b next } ∷ []) mid.blocks n ≡ at.front ++ (turned ∷ jump ∷ at.back)
  half_blocks = with_blocks-at (λ c. record c { term = Branch (inverse_of cond) a b next } ∷ []) mid.blocks n at_mid

  abbrev at_half : IsAt (with_blocks (λ c. record c { term = Branch (inverse_of cond) a b next } ∷ []) mid.blocks n) new
  at_half = record {
    front = at.front ++ turned ∷ [];
    block = jump;
    back = at.back;
    whole = half_blocks ∙ sym (append_assoc at.front (turned ∷ []) (jump ∷ at.back));
    has_name = refl;
    ahead = new_ahead turned lone at.has_name refl (subst (λ bs. HasDistinctKeys (named bs)) wide_blocks one_more_rules.distinct);
  }

  exchanged_is : exchanged mid n cond a b new to next ≡ wide
  exchanged_is =
      ap (λ (bs : List Block). record h { blocks = bs })
      (with_blocks-at (λ c. record c { term = Jump to } ∷ []) (with_blocks (λ c. record c { term = Branch (inverse_of cond) a b next } ∷ []) mid.blocks n) new at_half
      ∙ append_assoc at.front (turned ∷ []) (lone ∷ at.back) ∙ sym wide_blocks)

  pub one_more_follows : Follows h (changed (over_jump new next) h n)
  one_more_follows =
      graph_follows_through h mid wide (insert_follows h new n next rules fresh has slot)
      (subst (λ (k : Graph). Follows mid k) exchanged_is (exchange_follows mid n cond a b new to next mid_rules over))

  pub one_more_sound : IsSound h → IsSound (changed (over_jump new next) h n)
  one_more_sound sound =
      subst IsSound exchanged_is (exchange_sound mid n cond a b new to next mid_rules over (insert_sound h new n next rules fresh has slot sound))
