-- The blocks of a change in layout order: those that it carries over, and a few places where others stand.
use Rattle.std.proofs.Common.{◌≡◌, ℕ, zero, suc, ◌<◌, ◌⊎◌, inl, inr, Bool, true, false, ◌==◌, if◌then◌else◌, List, [], ◌∷◌, ◌++◌, None, map, refl, sym, ap, ◌∙◌, subst, arith}
use Rattle.std.proofs.lemmas.List.Concat.{flat_map-append}
use Rattle.std.proofs.lemmas.List.Elements.{Contains-append_cases}
use Rattle.std.specs.List.{All, Contains, flat_map}
use Rattle.sq_graph.specs.declared.item.Item.{Item}
use Rattle.sq_graph.specs.declared.item.Item.TheVariants.{Op, Hi, Lo, Out}
use Rattle.sq_graph.specs.Graph.{Block, Procedure, Graph}
use Rattle.sq_graph.specs.Terms.{links}
use Rattle.sq_graph.specs.Lines.{Line, term_lines, body_lines, lines_of, behind_name, slot_name}
use Rattle.sq_graph.specs.Renames.{retargeted_term}
use Rattle.sq_graph.specs.Walks.{IsLive, lower_names, link_names, first_name, word_name, code_targets}
use Rattle.sq_graph.specs.Soundness.{IsSoundBody, LinksDieIn, IsSound}
use Rattle.law_patch.specs.Changes.{Change, falls, Alike, ends, name_before, name_after, IsSteady}
use Rattle.law_patch.proofs.Shrink.{shrinks}
use Rattle.law_patch.proofs.Lines.{body_unnamed}
use Rattle.law_patch.proofs.Dying.{links-moved, body_rest, term_dies}
use Rattle.law_patch.proofs.Carrying.{carried_items, carried_block, AreOf, ItemGoes, later_items, BlockGoes, SlotGoes, carry_term, carry_body, Backs, items_die}
use Rattle.law_patch.proofs.Used.{contains_first}

-- a block of another name is passed by
pub passed : (x : Block) (n : ℕ) (bs : List Block) → (x.name == n) ≡ false → behind_name n (lines_of (x ∷ bs)) ≡ behind_name n (lines_of bs)
passed x n bs apart = rw apart (body_unnamed n x (lines_of bs))

-- cases on a test of a name
pub choose : {C : Change} (t : Bool) (xs ys us vs : List Line) → Alike C false None xs us → Alike C false None ys vs → Alike C false None (if t then xs else ys) (if t then us else vs)
choose true xs ys us vs p q = p
choose false xs ys us vs p q = q

pub none_in : {X : Type 0} (m : ℕ) → Contains {X = ℕ} [] m → X
none_in m c = absurd (let l : c.0 < 0 = c.1 in omega arith)

module _ (C : Change) (number : ℕ → ℕ) (K : ℕ → Type 0) where
  -- a value may hold the name for one of the first graph
  abbrev pub IsHeld : ℕ → Type 0
  IsHeld m = (n : ℕ) × C.MayHold n m

  abbrev pub Both : Bool → List Block → List Block → Type 0
  Both b bs cs = Alike C b None (lines_of bs) (lines_of cs)

  abbrev pub Behind : ℕ → List Block → List Block → Type 0
  Behind n bs cs = Alike C false None (behind_name n (lines_of bs)) (behind_name n (lines_of cs))

  abbrev pub lowers_of : List Block → List ℕ
  lowers_of bs = flat_map (λ (b : Block). flat_map lower_names b.items) bs

  -- Blocks become others. Something may go on into the first of them where `into` is true, and from them into what
  -- stands behind where `out` is.
  pub record Turn (into out : Bool) (us vs bs cs : List Block) : Type 0 where
    pub lines : (b : Bool) → into ≡ true → (out ≡ true → Both b bs cs) → Both b (us ++ bs) (vs ++ cs)
    pub behind : (n : ℕ) → K n → (out ≡ true → Both false bs cs) → Behind n bs cs → Behind n (us ++ bs) (vs ++ cs)
    pub lowers : (m : ℕ) → Contains (lowers_of vs) m → IsHeld m
    pub slots : (m : ℕ) → Contains (link_names (vs ++ cs)) m → IsHeld m ⊎ Contains (link_names cs) m
    pub dies : Backs C number → (out ≡ true → Both true bs cs) → LinksDieIn C.before (lines_of (us ++ bs)) → LinksDieIn C.after (lines_of cs) → LinksDieIn C.after (lines_of (vs ++ cs))

  -- The flag says whether something may go on into the first block.
  pub data Carries : Bool → List Block → List Block → Type 0 where
    done : {b : Bool} → Carries b [] []
    stays : {b : Bool} (x y : Block) {bs cs : List Block} → y ≡ carried_block C number x → BlockGoes C number x (lines_of bs) (lines_of cs) → Carries (falls x.term) bs cs → Carries b (x ∷ bs) (y ∷ cs)
    turns : {b c : Bool} (us vs : List Block) {bs cs : List Block} → Turn b c us vs bs cs → Carries c bs cs → Carries b (us ++ bs) (vs ++ cs)

  -- a block that goes: nothing goes on into it, and it isn't asked for
  pub gone : (into : Bool) (x : Block) (bs cs : List Block) → (into ≡ true → ⊥) → ((n : ℕ) → K n → (x.name == n) ≡ false) → Turn into false (x ∷ []) [] bs cs
  gone into x bs cs closed apart = record {
    lines = λ b i p. absurd (closed i);
    behind = λ n k p q. subst (λ lines. Alike C false None lines (behind_name n (lines_of cs))) (sym (passed x n bs (apart n k))) q;
    lowers = λ m c. absurd (let l : c.0 < 0 = c.1 in omega arith);
    slots = λ m c. inr c;
    dies = λ backs p die die'. die';
  }

  pub carries_lines : (b : Bool) {into : Bool} {bs cs : List Block} → into ≡ true → Carries into bs cs → Both b bs cs
  carries_lines b e done = ends
  carries_lines b e (stays x y {bs = bs} {cs = cs} same go rest) =
      subst (λ z. Both b (x ∷ bs) (z ∷ cs)) (sym same) (name_before (name_after (carry_body C number x (lines_of bs) (lines_of cs) go (λ f. carries_lines b f rest))))
  carries_lines b e (turns us vs turn rest) = turn.lines b e (λ f. carries_lines b f rest)

  pub carries_behind : (n : ℕ) → K n → {into : Bool} {bs cs : List Block} → Carries into bs cs → Behind n bs cs
  carries_behind n k done = ends
  carries_behind n k (stays x y {bs = bs} {cs = cs} same go rest) =
      let z : Block = carried_block C number x in
      let q : Alike C false None (behind_name n (body_lines x (lines_of bs))) (behind_name n (body_lines z (lines_of cs))) =
      subst (λ xs. Alike C false None xs (behind_name n (body_lines z (lines_of cs)))) (sym (body_unnamed n x (lines_of bs)))
      (subst (λ ys. Alike C false None (behind_name n (lines_of bs)) ys) (sym (body_unnamed n z (lines_of cs))) (carries_behind n k rest)) in
      subst (λ w. Behind n (x ∷ bs) (w ∷ cs)) (sym same)
      (choose (x.name == n) (body_lines x (lines_of bs)) (behind_name n (body_lines x (lines_of bs))) (body_lines z (lines_of cs)) (behind_name n (body_lines z (lines_of cs)))
      (carry_body C number x (lines_of bs) (lines_of cs) go (λ f. carries_lines false f rest)) q)
  carries_behind n k (turns us vs turn rest) = turn.behind n k (λ f. carries_lines false f rest) (carries_behind n k rest)

  -- behind blocks links die as they do in all of them
  blocks_rest : (g : Graph) (us bs : List Block) → LinksDieIn g (lines_of (us ++ bs)) → LinksDieIn g (lines_of bs)
  blocks_rest g [] bs die = die
  blocks_rest g (u ∷ us) bs die = blocks_rest g us bs (body_rest g u (lines_of (us ++ bs)) die)

  pub carries_die : Backs C number → {into : Bool} {bs cs : List Block} → Carries into bs cs → LinksDieIn C.before (lines_of bs) → LinksDieIn C.after (lines_of cs)
  carries_die backs done die = tt
  carries_die backs (stays x y {bs = bs} {cs = cs} same go rest) die =
      subst (λ (w : Block). LinksDieIn C.after (lines_of (w ∷ cs))) (sym same)
      (items_die C number backs x.items (term_lines x.term (lines_of bs)) (term_lines (retargeted_term C.renamed x.term) (lines_of cs)) go.items
      (carry_term C number x.term (lines_of bs) (lines_of cs) go.term go.slot (λ f. carries_lines true f rest)) die
      (term_dies C.after (retargeted_term C.renamed x.term) (lines_of cs) (carries_die backs rest (body_rest C.before x (lines_of bs) die))))
  carries_die backs (turns us vs {bs = bs} turn rest) die =
      turn.dies backs (λ f. carries_lines true f rest) die (carries_die backs rest (blocks_rest C.before us bs die))

  one_or_later : (n m : ℕ) (rest : List ℕ) {Q : Type 0} → Contains (n ∷ rest) m → (m ≡ n → Q) → (Contains rest m → Q) → Q
  one_or_later n m rest (zero, l, e) p q = p (sym e)
  one_or_later n m rest (suc i, l, e) p q = q (i, omega arith, e)

  -- the addresses that items make which are carried over
  pub items_held : (items : List Item) → AreOf C number (ItemGoes C number) items → (m : ℕ) → Contains (flat_map lower_names (carried_items C number items)) m → IsHeld m
  items_held [] each m c = none_in m c
  items_held (Op insn ∷ items) each m c = items_held items (later_items C number (ItemGoes C number) (Op insn) items each) m c
  items_held (Hi rd to ∷ items) each m c = items_held items (later_items C number (ItemGoes C number) (Hi rd to) items each) m c
  items_held (Lo rd rs to ∷ items) each m c =
      one_or_later (C.renamed to) m (flat_map lower_names (carried_items C number items)) c
      (λ e. (to, subst (λ k. C.MayHold to k) (sym e) (each (Lo rd rs to) (contains_first (Lo rd rs to) items))))
      (λ d. items_held items (later_items C number (ItemGoes C number) (Lo rd rs to) items each) m d)
  items_held (Out q ∷ items) each m c = items_held items (later_items C number (ItemGoes C number) (Out q) items each) m c

  in_either : {A B Q : Type 0} → A ⊎ B → (A → Q) → (B → Q) → Q
  in_either (inl a) p q = p a
  in_either (inr b) p q = q b

  pub carries_lowers : {into : Bool} {bs cs : List Block} → Carries into bs cs → (m : ℕ) → Contains (lowers_of cs) m → IsHeld m
  carries_lowers done m c = none_in m c
  carries_lowers (stays x y {cs = cs} same go rest) m c =
      let d : Contains (flat_map lower_names (carried_items C number x.items) ++ lowers_of cs) m = subst (λ (w : Block). Contains (flat_map lower_names w.items ++ lowers_of cs) m) same c in
      in_either (Contains-append_cases (flat_map lower_names (carried_items C number x.items)) (lowers_of cs) m d) (items_held x.items go.items m) (carries_lowers rest m)
  carries_lowers (turns us vs {cs = cs} turn rest) m c =
      in_either (Contains-append_cases (lowers_of vs) (lowers_of cs) m (subst (λ ns. Contains ns m) (flat_map-append (λ (b : Block). flat_map lower_names b.items) vs cs) c)) (turn.lowers m) (carries_lowers rest m)

  -- the slot behind a link
  slot_held : (bs cs : List Block) → SlotGoes C number (slot_name (lines_of bs)) (slot_name (lines_of cs)) → (m : ℕ) → Contains (first_name cs) m → IsHeld m
  slot_held bs [] s m c = none_in m c
  slot_held [] (y ∷ cs) s m c = absurd s
  slot_held (x ∷ bs) (y ∷ cs) s m c = one_or_later y.name m [] c (λ e. (x.name, subst (λ k. C.MayHold x.name k) (sym e) s)) (none_in m)

  if_linked : (t : Bool) (ns : List ℕ) (m : ℕ) {Q : Type 0} → Contains (if t then ns else []) m → (t ≡ true → Contains ns m → Q) → Q
  if_linked true ns m c p = p refl c
  if_linked false ns m c p = none_in m c

  pub carries_slots : {into : Bool} {bs cs : List Block} → Carries into bs cs → (m : ℕ) → Contains (link_names cs) m → IsHeld m
  carries_slots done m c = none_in m c
  carries_slots (stays x y {bs = bs} {cs = cs} same go rest) m c =
      let t : links y.term ≡ links x.term = ap (λ (w : Block). links w.term) same ∙ links-moved C.renamed x.term in
      let d : Contains ((if links x.term then first_name cs else []) ++ link_names cs) m = subst (λ t. Contains ((if t then first_name cs else []) ++ link_names cs) m) t c in
      in_either (Contains-append_cases (if links x.term then first_name cs else []) (link_names cs) m d)
      (λ k. if_linked (links x.term) (first_name cs) m k (λ l d. slot_held bs cs (go.slot l) m d)) (carries_slots rest m)
  carries_slots (turns us vs turn rest) m c = in_either (turn.slots m c) (λ h. h) (carries_slots rest m)

  module _ (steady : IsSteady C) (matters : (xs : List Line) (r : ℕ) → IsLive C.before r xs → C.Matters xs r) (safe : C.Sound) (all : Carries false C.before.blocks C.after.blocks) (words : (m : ℕ) → Contains (map word_name C.after.code_words) m → IsHeld m) (bodies : (m : ℕ) → Contains (flat_map (λ (p : Procedure). flat_map lower_names p.body) C.after.procedures) m → IsHeld m) where
    -- the code targets of the second graph may be held for some of the first
    held : (m : ℕ) → Contains (code_targets C.after) m → IsHeld m
    held m c =
        let ws = map word_name C.after.code_words in
        let bs = lowers_of C.after.blocks in
        let ps = flat_map (λ (p : Procedure). flat_map lower_names p.body) C.after.procedures in
        in_either (Contains-append_cases ((ws ++ bs) ++ ps) (link_names C.after.blocks) m c)
        (λ d. in_either (Contains-append_cases (ws ++ bs) ps m d) (λ e. in_either (Contains-append_cases ws bs m e) (words m) (carries_lowers all m)) (bodies m))
        (carries_slots all m)

    pub carries_back : Backs C number
    carries_back q ys live = shrinks C steady (λ m c. let h = held m c in (h.0, steady.values h.0 m h.1)) matters safe q live

    pub carried_sound : IsSound C.before → All IsSoundBody C.after.procedures → IsSound C.after
    carried_sound sound sound_bodies = record { bodies = sound_bodies; links_die = carries_die carries_back all sound.links_die }
