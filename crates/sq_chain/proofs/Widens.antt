-- A walk over the blocks of a graph that widens the Branches of a set.
use Rattle.std.proofs.Common.{◌≡◌, ◌≢◌, ℕ, ◌+◌, ◌≤◌, ◌==◌, Bool, true, false, ◌&&◌, if◌then◌else◌, List, [], ◌∷◌, ◌++◌, length, take, drop, Option, None, Some, IsSome, is_some, inl, inr, refl, sym, ap, ◌∙◌, subst, arith}
use Rattle.std.proofs.lemmas.Bool.{cases_Bool, eqb-true, eqb-false, eq-eqb, ne_eqb, both_ways, and_from, and_left, and_right}
use Rattle.std.proofs.lemmas.List.{take-append-drop, take_all}
use Rattle.std.proofs.lemmas.List.Sums.{sum_by-append}
use Rattle.sq_arena.specs.Entries.{HasDistinctKeys, value_of}
use Rattle.sq_arena.proofs.EntriesLaws.{absent_ahead, value_of-append, or_value}
use Rattle.sq_graph.specs.declared.item.Term.{Term}
use Rattle.sq_graph.specs.declared.item.Term.TheVariants.{Fall, Jump, Branch, Call, PartJump, Indirect, Stop}
use Rattle.sq_graph.specs.Graph.{Block, Graph}
use Rattle.sq_graph.specs.Blocks.{named, HasBlock, block_of, block_term, next_of, term_of}
use Rattle.sq_graph.specs.Operations.{IsNew, with_blocks}
use Rattle.sq_graph.specs.Rules.{IsGraph}
use Rattle.sq_graph.specs.Soundness.{IsSound}
use Rattle.sq_graph.proofs.Located.{named-append}
use Rattle.sq_graph.proofs.SplitRules.{keeps_names}
use Rattle.law_follow.specs.Follows.{Follows}
use Rattle.law_follow.proofs.Following.{graph_follows_itself, graph_follows_through}
use Rattle.sq_live.proofs.Layouts.{IsBlockAt}
use Rattle.sq_lookup.proofs.Targets.{has_term}
use Rattle.sq_chain.specs.Widening.{EndsInBranch, jumped_over, over_jump, widened_blocks, widened_by, IsWidened, IsOneWider}
use Rattle.sq_chain.proofs.Over.{not_new, Agree, widened_same, one_wider, widened_block, widened_next}
use Rattle.sq_chain.proofs.Near.{are_apart}
use Rattle.sq_chain.proofs.OneMore.{one_more_there, one_more_rules, one_more_follows, one_more_sound}
use Rattle.sq_chain.proofs.Rounds.{count_of, count_yes, count_no}

-- THE SET SO FAR

-- the members among the first k blocks
abbrev pub upto : (ℕ → Bool) → Graph → ℕ → ℕ → Bool
upto S g k m = S m && is_some (value_of (named (take k g.blocks)) m)

none_is : {T : Type 0} (o : Option T) → o ≡ None → is_some o ≡ false
none_is o e = ap is_some e

module _ (S : ℕ → Bool) (g : Graph) (rules : IsGraph g) (k name : ℕ) (b : IsBlockAt g k name) where
  abbrev front : List Block
  front = take k g.blocks

  abbrev back : List Block
  back = drop (k + 1) g.blocks

  ahead_none : value_of (named (take k g.blocks)) name ≡ None
  ahead_none =
      let whole : g.blocks ≡ front ++ (b.block ∷ back) = sym (take-append-drop k g.blocks) ∙ ap (λ bs. front ++ bs) b.rest in
      let parts : named g.blocks ≡ named front ++ (b.block.name, b.block) ∷ named back = ap named whole ∙ named-append front (b.block ∷ back) in
      subst (λ n. value_of (named front) n ≡ None) b.has_name (absent_ahead (named front) (named back) b.block.name b.block (subst (λ (es : List (ℕ × Block)). HasDistinctKeys es) parts rules.distinct))

  -- the block isn't among those before it
  pub upto_out : upto S g k name ≡ false
  upto_out = and_right (S name) (is_some (value_of (named (take k g.blocks)) name)) (ap is_some ahead_none)

  more : (m : ℕ) → value_of (named (take (k + 1) g.blocks)) m ≡ or_value (value_of (named front) m) (value_of ((b.block.name, b.block) ∷ []) m)
  more m = ap (λ bs. value_of (named bs) m) b.more ∙ ap (λ es. value_of es m) (named-append front (b.block ∷ [])) ∙ value_of-append (named front) ((b.block.name, b.block) ∷ []) m

  -- it is among those up to it
  pub upto_in : S name ≡ true → upto S g (k + 1) name ≡ true
  upto_in within =
      and_from (S name) (is_some (value_of (named (take (k + 1) g.blocks)) name)) within
      (ap is_some (more name ∙ ap (λ o. or_value o (value_of ((b.block.name, b.block) ∷ []) name)) ahead_none) ∙ ap is_some found)
    where
      found : value_of ((b.block.name, b.block) ∷ []) name ≡ Some b.block
      found = rw (eq-eqb b.block.name name b.has_name) refl

  -- and no other came
  pub upto_others : (m : ℕ) → m ≢ name → upto S g (k + 1) m ≡ upto S g k m
  upto_others m differs =
      let apart : (b.block.name == m) ≡ false = ne_eqb b.block.name m (λ same. differs (sym same ∙ b.has_name)) in
      let none : value_of ((b.block.name, b.block) ∷ []) m ≡ None = rw apart refl in
      ap (λ o. S m && is_some o) (more m ∙ ap (or_value (value_of (named front) m)) none ∙ or_none (value_of (named front) m))
    where
      or_none : (o : Option Block) → or_value o None ≡ o
      or_none None = refl
      or_none (Some x) = refl

  -- where the block isn't in the set, nothing came
  pub upto_same : S name ≡ false → upto S g (k + 1) ≡ upto S g k
  upto_same out = λ i m. each m i
    where
      each : (m : ℕ) → upto S g (k + 1) m ≡ upto S g k m
      each m =
          elim (cases_Bool (m == name)) [
            | inl here ↦
                let none : S m ≡ false = subst (λ n. S n ≡ false) (sym (eqb-true m name here)) out in
                and_left (S m) (is_some (value_of (named (take (k + 1) g.blocks)) m)) none ∙ sym (and_left (S m) (is_some (value_of (named (take k g.blocks)) m)) none)
            | inr apart ↦ upto_others m (eqb-false m name apart)
          ]

  -- how many are left
  pub left_in : S name ≡ true → count_of S (drop k g.blocks) ≡ 1 + count_of S (drop (k + 1) g.blocks)
  left_in within = ap (count_of S) b.rest ∙ count_yes S b.block back (subst (λ n. S n ≡ true) (sym b.has_name) within)

  pub left_out : S name ≡ false → count_of S (drop k g.blocks) ≡ count_of S (drop (k + 1) g.blocks)
  left_out out = let e = count_no S b.block back (subst (λ n. S n ≡ false) (sym b.has_name) out) in ap (count_of S) b.rest ∙ e ∙ omega arith

  -- and how many came
  pub came_in : S name ≡ true → count_of S (take (k + 1) g.blocks) ≡ count_of S (take k g.blocks) + 1
  came_in within =
      let e = count_yes S b.block [] (subst (λ n. S n ≡ true) (sym b.has_name) within) in
      let all = sum_by-append (λ (c : Block). if S c.name then 1 else 0) front (b.block ∷ []) in
      omega (arith, ap (count_of S) b.more, all, e)

  pub came_out : S name ≡ false → count_of S (take (k + 1) g.blocks) ≡ count_of S (take k g.blocks)
  came_out out =
      let e = count_no S b.block [] (subst (λ n. S n ≡ false) (sym b.has_name) out) in
      let all = sum_by-append (λ (c : Block). if S c.name then 1 else 0) front (b.block ∷ []) in
      omega (arith, ap (count_of S) b.more, all, e)

  pub came_one : count_of S (take (k + 1) g.blocks) ≡ count_of S (take k g.blocks) + (if S name then 1 else 0)
  came_one =
      elim (cases_Bool (S name)) [
        | inl within ↦ rw within (came_in within)
        | inr out ↦ rw out (omega (arith, came_out out))
      ]

-- in the end it is the set
pub upto_all : (S : ℕ → Bool) (g : Graph) (k : ℕ) → length g.blocks ≤ k → ((n : ℕ) → S n ≡ true → HasBlock g n) → upto S g k ≡ S
upto_all S g k past there = λ i m. each m i
  where
    each : (m : ℕ) → upto S g k m ≡ S m
    each m =
        elim (cases_Bool (S m)) [
          | inl within ↦
              let has : is_some (value_of (named (take k g.blocks)) m) ≡ true = ap (λ bs. is_some (value_of (named bs) m)) (take_all k g.blocks past) ∙ there m within in
              and_from (S m) (is_some (value_of (named (take k g.blocks)) m)) within has ∙ sym within
          | inr out ↦ and_left (S m) (is_some (value_of (named (take k g.blocks)) m)) out ∙ sym out
        ]

-- at first it is empty
pub upto_none : (S : ℕ → Bool) (g : Graph) (m : ℕ) → upto S g 0 m ≡ false
upto_none S g m = and_right (S m) false refl

-- ONE STEP

pub record IsWider (g h : Graph) (S : ℕ → Bool) : Type 0 where
  pub wide : IsWidened g h S
  pub rules : IsGraph h
  pub old : (n : ℕ) → HasBlock g n → HasBlock h n
  pub added : (n : ℕ) → S n ≡ true → HasBlock h (wide.new n)
  pub follows : Follows g h
  pub sound : IsSound g → IsSound h

none_widened : (new : ℕ → ℕ) (S : ℕ → Bool) (bs : List Block) → ((n : ℕ) → S n ≡ false) → widened_blocks new S bs ≡ bs
none_widened new S [] none = refl
none_widened new S (b ∷ []) none = refl
none_widened new S (b ∷ next ∷ rest) none = let out = none b.name in rw out (ap (λ bs. b ∷ bs) (none_widened new S (next ∷ rest) none))

pub wider_itself : (g : Graph) (S : ℕ → Bool) → IsGraph g → ((n : ℕ) → S n ≡ false) → IsWider g g S
wider_itself g S rules none = record {
  rules = rules;
  wide = record {
    new = λ n. n;
    fresh = λ n within. absurd (both_ways (S n) (none n) within);
    apart = λ m n within. absurd (both_ways (S m) (none m) within);
    is = ap (λ (bs : List Block). record g { blocks = bs }) (sym (none_widened (λ n. n) S g.blocks none));
  };
  old = λ n has. has;
  added = λ n within. absurd (both_ways (S n) (none n) within);
  follows = graph_follows_itself g;
  sound = λ s. s;
}

-- what a block that isn't in the set is in the wider graph
module _ (g h : Graph) (S : ℕ → Bool) (rules : IsGraph g) (w : IsWider g h S) (n : ℕ) (has : HasBlock g n) (out : S n ≡ false) where
  pub still_block : block_of h n ≡ block_of g n
  still_block =
      ap (λ (k : Graph). block_of k n) w.wide.is ∙ widened_block w.wide.new S g.blocks n out (are_apart g S rules w.wide.new w.wide.fresh n has g.blocks)

  pub still_next : next_of h n ≡ next_of g n
  still_next =
      ap (λ (k : Graph). next_of k n) w.wide.is ∙ widened_next w.wide.new S g.blocks n out (are_apart g S rules w.wide.new w.wide.fresh n has g.blocks)

  pub still_term : (t : Term) → term_of g n ≡ Some t → term_of h n ≡ Some t
  still_term t e = ap block_term still_block ∙ e

  pub still_branch : EndsInBranch g n → EndsInBranch h n
  still_branch e = record { cond = e.cond; a = e.a; b = e.b; to = e.to; is = still_term (Branch e.cond e.a e.b e.to) e.is }

over_own : (new next : ℕ) (b : Block) (t : Term) → IsSome (value_of (named (jumped_over new next b t)) b.name)
over_own new next b Fall = rw (eq-eqb b.name b.name refl) refl
over_own new next b (Jump to) = rw (eq-eqb b.name b.name refl) refl
over_own new next b (Branch cond x y to) = rw (eq-eqb b.name b.name refl) refl
over_own new next b (Call link to) = rw (eq-eqb b.name b.name refl) refl
over_own new next b (PartJump link part to) = rw (eq-eqb b.name b.name refl) refl
over_own new next b (Indirect link at offset) = rw (eq-eqb b.name b.name refl) refl
over_own new next b (Stop word) = rw (eq-eqb b.name b.name refl) refl

module _ (g h h' : Graph) (S S' : ℕ → Bool) (n : ℕ) (rules : IsGraph g) (w : IsWider g h S) (out : S n ≡ false) (within : S' n ≡ true) (others : (m : ℕ) → m ≢ n → S' m ≡ S m) (ends : EndsInBranch g n) (o : IsOneWider h h' n) where
  -- the new block behind this one, and those behind the others
  abbrev new' : ℕ → ℕ
  new' m = if m == n then o.new else w.wide.new m

  has : HasBlock g n
  has = has_term g n (Branch ends.cond ends.a ends.b ends.to) ends.is

  here_is : new' n ≡ o.new
  here_is = rw (eq-eqb n n refl) refl

  other_is : (m : ℕ) → m ≢ n → new' m ≡ w.wide.new m
  other_is m apart = rw (ne_eqb m n apart) refl

  -- a block of the set so far is another one
  in_old : (m : ℕ) → S m ≡ true → m ≢ n
  in_old m old same = both_ways (S n) out (subst (λ k. S k ≡ true) same old)

  new_is_new : IsNew g o.new
  new_is_new = by_block (block_of g o.new) refl
    where
      by_block : (b : Option Block) → block_of g o.new ≡ b → block_of g o.new ≡ None
      by_block None e = e
      by_block (Some x) e = let some = w.old o.new (ap is_some e) in let none = o.fresh in absurd (not_new h o.new o.new o.fresh some refl)

  fresh' : (m : ℕ) → S' m ≡ true → IsNew g (new' m)
  fresh' m e =
      elim (cases_Bool (m == n)) [
        | inl same ↦ subst (IsNew g) (sym (ap new' (eqb-true m n same) ∙ here_is)) new_is_new
        | inr apart ↦
            let differs = eqb-false m n apart in
            subst (IsNew g) (sym (other_is m differs)) (w.wide.fresh m (sym (others m differs) ∙ e))
      ]

  -- the new name isn't that of another new block
  clash : (m : ℕ) → S m ≡ true → o.new ≡ w.wide.new m → ⊥
  clash m old same = not_new h o.new (w.wide.new m) o.fresh (w.added m old) (sym same)

  apart' : (m k : ℕ) → S' m ≡ true → S' k ≡ true → new' m ≡ new' k → m ≡ k
  apart' m k e f same =
      elim (cases_Bool (m == n)) [
        | inl m_is ↦
            let one : new' m ≡ o.new = ap new' (eqb-true m n m_is) ∙ here_is in
            elim (cases_Bool (k == n)) [
              | inl k_is ↦ eqb-true m n m_is ∙ sym (eqb-true k n k_is)
              | inr k_apart ↦
                  let differs = eqb-false k n k_apart in
                  absurd (clash k (sym (others k differs) ∙ f) (sym one ∙ same ∙ other_is k differs))
            ]
        | inr m_apart ↦
            let m_differs = eqb-false m n m_apart in
            elim (cases_Bool (k == n)) [
              | inl k_is ↦
                  let two : new' k ≡ o.new = ap new' (eqb-true k n k_is) ∙ here_is in
                  absurd (clash m (sym (others m m_differs) ∙ e) (sym two ∙ sym same ∙ other_is m m_differs))
              | inr k_apart ↦
                  let k_differs = eqb-false k n k_apart in
                  w.wide.apart m k (sym (others m m_differs) ∙ e) (sym (others k k_differs) ∙ f) (sym (other_is m m_differs) ∙ same ∙ other_is k k_differs)
            ]
      ]

  agree : (bs : List Block) → Agree w.wide.new new' S S bs
  agree [] = tt
  agree (b ∷ bs) = ((refl, λ old. sym (other_is b.name (in_old b.name old))), agree bs)

  slot : next_of g n ≡ Some o.next
  slot = sym (still_next g h S rules w n has out) ∙ o.slot

  is_wider : h' ≡ widened_by new' S' g
  is_wider =
      let old : h.blocks ≡ widened_blocks new' S g.blocks = ap (λ (k : Graph). k.blocks) w.wide.is ∙ widened_same w.wide.new new' S S g.blocks (agree g.blocks) in
      let step : with_blocks (over_jump (new' n) o.next) (widened_blocks new' S g.blocks) n ≡ widened_blocks new' S' g.blocks =
      one_wider new' S S' g.blocks n o.next out within others rules.distinct slot
      (are_apart g S rules new' (λ m e. fresh' m (others m (in_old m e) ∙ e)) n has g.blocks) in
      o.is
      ∙ ap (λ (k : Graph). record k { blocks = with_blocks (over_jump o.new o.next) h.blocks n }) w.wide.is
      ∙ ap (λ (bs : List Block). record g { blocks = bs })
      (ap (λ k. with_blocks (over_jump k o.next) h.blocks n) (sym here_is) ∙ ap (λ bs. with_blocks (over_jump (new' n) o.next) bs n) old ∙ step)

  branch : term_of h n ≡ Some (Branch ends.cond ends.a ends.b ends.to)
  branch = still_term g h S rules w n has out (Branch ends.cond ends.a ends.b ends.to) ends.is

  goes_over : (m : ℕ) → HasBlock h m → HasBlock h' m
  goes_over m there =
      subst (λ (k : Graph). HasBlock k m) (sym o.is) (keeps_names (over_jump o.new o.next) h.blocks n m (λ b. over_own o.new o.next b b.term) there)

  pub one_step : IsWider g h' S'
  one_step = record {
    wide = record { new = new'; fresh = fresh'; apart = apart'; is = is_wider };
    rules = subst IsGraph (sym o.is) (one_more_rules h o.new n o.next ends.cond ends.a ends.b ends.to w.rules o.fresh branch o.slot);
    old = λ m there. goes_over m (w.old m there);
    added = λ m e.
        elim (cases_Bool (m == n)) [
          | inl same ↦
              subst (HasBlock h') (sym (ap new' (eqb-true m n same) ∙ here_is))
              (subst (λ (k : Graph). HasBlock k o.new) (sym o.is) (one_more_there h o.new n o.next ends.cond ends.a ends.b ends.to w.rules o.fresh branch o.slot))
          | inr apart ↦
              let differs = eqb-false m n apart in
              subst (HasBlock h') (sym (other_is m differs)) (goes_over (w.wide.new m) (w.added m (sym (others m differs) ∙ e)))
        ];
    follows =
        graph_follows_through g h h' w.follows
        (subst (λ (k : Graph). Follows h k) (sym o.is) (one_more_follows h o.new n o.next ends.cond ends.a ends.b ends.to w.rules o.fresh branch o.slot));
    sound = λ s. subst IsSound (sym o.is) (one_more_sound h o.new n o.next ends.cond ends.a ends.b ends.to w.rules o.fresh branch o.slot (w.sound s));
  }
