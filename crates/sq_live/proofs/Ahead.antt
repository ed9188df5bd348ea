-- Live registers as a fixed point: whether r is live before lines, given whether it is live at each block and at some
-- code target. What meets the inequalities of a fixed point has each register that some walk reads; and where a
-- register is live at the places behind items, it is live before them as `before_items` says.
use Rattle.std.proofs.Common.{◌≡◌, ℕ, zero, suc, ◌<◌, Bool, true, false, not, ◌||◌, ◌&&◌, inl, inr, ⊎_elim, List, [], ◌∷◌, ◌++◌, map, Some, slice_get, refl, sym, ap, ◌∙◌, subst, arith}
use Rattle.std.specs.List.{Contains, All}
use Rattle.std.proofs.lemmas.Bool.Decides.{nat_tests}
use Rattle.std.proofs.lemmas.Option.{slice_get_within, get_or_from_slice_get}
use Rattle.std.proofs.lemmas.Bool.{or_cases, or_right, and_parts, not-true}
use Rattle.sq_isa.specs.Registers.{is_among_but_x0}
use Rattle.sq_isa.specs.Uses.{is_read, is_written}
use Rattle.sq_graph.specs.declared.item.Item.{Item}
use Rattle.sq_graph.specs.declared.item.Item.TheVariants.{Op, Hi, Lo, Out}
use Rattle.sq_graph.specs.declared.item.Term.{Term}
use Rattle.sq_graph.specs.declared.item.Term.TheVariants.{Fall, Jump, Branch, Call, PartJump, Indirect, Stop}
use Rattle.sq_graph.specs.Graph.{Procedure, Graph}
use Rattle.sq_graph.specs.Uses.{item_calls}
use Rattle.sq_graph.specs.Rules.{ProcedureFits}
use Rattle.sq_graph.specs.Lines.{Line, Name, Do, Enter, Return, End, line_of, term_lines, inside, block_lines}
use Rattle.sq_graph.specs.Walks.{IsLive, read_here, live_behind, Goes, TermGoes, code_targets, is_register, is_link_of, line_reads, line_writes, term_sources, term_link}
use Rattle.sq_live.specs.declared.effect.Effect.{Effect}
use Rattle.sq_live.specs.Effects.{effect_reads, effect_writes, item_reads, item_writes, before_items, items_write, call_reads, call_writes, AreCalls}
use Rattle.sq_live.proofs.Sequences.{before_items-split}

-- what is kept behind something that doesn't write it
pub kept : (a b y : Bool) → b ≡ false → y ≡ true → (a || (not b && y)) ≡ true
kept a b y e f = rw (e, f) (or_right a true refl)

-- more is live before where more is live behind
pub grows : (a b x y : Bool) → (x ≡ true → y ≡ true) → (a || (not b && x)) ≡ true → (a || (not b && y)) ≡ true
grows true b x y h e = refl
grows false true x y h e = absurd (cc)
grows false false x y h e = h e

-- no register is written through the link x0
pub no_link : (r : ℕ) → is_register 0 r ≡ false
no_link zero = refl
no_link (suc r) = grind (arith, nat_tests)

pub no_sources : (r : ℕ) → is_among_but_x0 [] r ≡ false
no_sources zero = refl
no_sources (suc r) = grind (arith, nat_tests)

-- a body without an Out does the same whatever calls do

all_head : {X : Type 0} (P : X → Type 0) (x : X) (xs : List X) → All P (x ∷ xs) → P x
all_head P x xs h = h 0 x (omega arith)

all_tail : {X : Type 0} (P : X → Type 0) (x : X) (xs : List X) → All P (x ∷ xs) → All P xs
all_tail P x xs h k d within = h (suc k) d (omega arith)

all_at : {X : Type 0} (P : X → Type 0) (xs : List X) (k : ℕ) (x : X) → All P xs → slice_get xs k ≡ Some x → P x
all_at P xs k x h e = subst P (get_or_from_slice_get xs k x x e) (h k x (slice_get_within xs k x e))

item_plain_reads : (calls : List Effect) (item : Item) (r : ℕ) → item_calls item ≡ [] → item_reads calls item r ≡ item_reads [] item r
item_plain_reads calls (Op insn) r e = refl
item_plain_reads calls (Hi rd to) r e = refl
item_plain_reads calls (Lo rd rs to) r e = refl
item_plain_reads calls (Out procedure) r e = absurd (cc)

item_plain_writes : (calls : List Effect) (item : Item) (r : ℕ) → item_calls item ≡ [] → item_writes calls item r ≡ item_writes [] item r
item_plain_writes calls (Op insn) r e = refl
item_plain_writes calls (Hi rd to) r e = refl
item_plain_writes calls (Lo rd rs to) r e = refl
item_plain_writes calls (Out procedure) r e = absurd (cc)

pub body_plain : (calls : List Effect) (items : List Item) (y : Bool) (r : ℕ) → All (λ item. item_calls item ≡ []) items → before_items calls items y r ≡ before_items [] items y r
body_plain calls [] y r h = refl
body_plain calls (x ∷ items) y r h =
    let p = all_head (λ item. item_calls item ≡ []) x items h in
    let q = body_plain calls items y r (all_tail (λ item. item_calls item ≡ []) x items h) in
    rw (item_plain_reads calls x r p, item_plain_writes calls x r p, q) refl

-- a call, given its link and what its body reads and writes
call_goes : (l a b y : Bool) → l ≡ false → (a || (not b && y)) ≡ true → ((not l && a) || (not (l || b) && y)) ≡ true
call_goes true a b y e f = absurd (cc)
call_goes false a b y e f = f

call_comes : (l a b y : Bool) → ((not l && a) || (not (l || b) && y)) ≡ true → (l ≡ false) × ((a || (not b && y)) ≡ true)
call_comes true a b y e = absurd (cc)
call_comes false a b y e = (refl, e)

-- the procedure that an item calls is there
abbrev pub IsThere : Graph → Item → Type 0
IsThere g item = (k : ℕ) → Contains (item_calls item) k → (p : Procedure) × (slice_get g.procedures k ≡ Some p)

module _ (g : Graph) (calls : List Effect) (r : ℕ) (small : r < 32) (are : AreCalls g.procedures calls) (bodies : All ProcedureFits g.procedures) where
  -- what the effect of a call says of its procedure
  call_is : (k : ℕ) (p : Procedure) (y : Bool) → slice_get g.procedures k ≡ Some p → (effect_reads (slice_get calls k) r || (not (effect_writes (slice_get calls k) r) && y)) ≡ ((not (is_register p.link r) && before_items [] p.body false r) || (not (is_register p.link r || items_write [] p.body r) && y))
  call_is k p y e =
      let a : effect_reads (slice_get calls k) r ≡ call_reads (Some p) r = (are k r small).0 ∙ ap (λ o. call_reads o r) e in
      let b : effect_writes (slice_get calls k) r ≡ call_writes (Some p) r = (are k r small).1 ∙ ap (λ o. call_writes o r) e in
      rw (a, b) refl

  plain_body : (k : ℕ) (p : Procedure) → slice_get g.procedures k ≡ Some p → All (λ item. item_calls item ≡ []) p.body
  plain_body k p e = (all_at ProcedureFits g.procedures k p bodies e).no_calls

  -- COMPLETENESS: sets that meet the inequalities have every register that is live
  module _ (X : ℕ → Bool) (T : Bool) where
    abbrev pub leads : Term → Bool → Bool
    leads Fall next = next
    leads (Jump to) next = X to
    leads (Branch cond a b to) next = X to || next
    leads (Call link to) next = X to
    leads (PartJump link part to) next = X to
    leads (Indirect link at offset) next = T
    leads (Stop word) next = false

    abbrev pub ahead : List Line → Bool
    ahead [] = false
    ahead (Name n ∷ rest) = ahead rest
    ahead (Do half insn ∷ rest) = is_read insn r || (not (is_written insn r) && ahead rest)
    ahead (Enter procedure ∷ rest) = effect_reads (slice_get calls procedure) r || (not (effect_writes (slice_get calls procedure) r) && ahead rest)
    ahead (Return link ∷ rest) = ahead rest
    ahead (End term ∷ rest) = is_among_but_x0 (term_sources term) r || (not (is_register (term_link term) r) && leads term (ahead rest))

    pub items_ahead : (items : List Item) (rest : List Line) → ahead (map line_of items ++ rest) ≡ before_items calls items (ahead rest) r
    items_ahead [] rest = refl
    items_ahead (Op insn ∷ items) rest = rw (items_ahead items rest) refl
    items_ahead (Hi rd to ∷ items) rest = rw (items_ahead items rest) refl
    items_ahead (Lo rd rs to ∷ items) rest = rw (items_ahead items rest) refl
    items_ahead (Out procedure ∷ items) rest = rw (items_ahead items rest) refl

    pub term_ahead : (t : Term) (rest : List Line) → ahead (term_lines t rest) ≡ (is_among_but_x0 (term_sources t) r || (not (is_register (term_link t) r) && leads t (ahead rest)))
    term_ahead Fall rest = rw (no_sources r, no_link r) refl
    term_ahead (Jump to) rest = refl
    term_ahead (Branch cond a b to) rest = refl
    term_ahead (Call link to) rest = refl
    term_ahead (PartJump link part to) rest = refl
    term_ahead (Indirect link at offset) rest = refl
    term_ahead (Stop word) rest = refl

    inside_ahead : (k : ℕ) (p : Procedure) (rest : List Line) → slice_get g.procedures k ≡ Some p → ahead (inside p rest) ≡ (before_items [] p.body false r || (not (items_write [] p.body r) && ahead rest))
    inside_ahead k p rest e =
        items_ahead p.body (Return p.link ∷ rest)
        ∙ body_plain calls p.body (ahead rest) r (plain_body k p e)
        ∙ before_items-split [] p.body (ahead rest) r

    module _ (closed : (n : ℕ) → ahead (block_lines g n) ≡ true → X n ≡ true) (targets : (n : ℕ) → Contains (code_targets g) n → X n ≡ true → T ≡ true) where
      reads_ahead : (line : Line) (rest : List Line) → line_reads line r ≡ true → ahead (line ∷ rest) ≡ true
      reads_ahead (Name n) rest e = absurd (cc)
      reads_ahead (Do half insn) rest e = rw e refl
      reads_ahead (Enter procedure) rest e = absurd (cc)
      reads_ahead (Return link) rest e = absurd (cc)
      reads_ahead (End term) rest e = rw e refl

      to_block : (n : ℕ) (next : List Line) → next ≡ block_lines g n → ahead next ≡ true → X n ≡ true
      to_block n next e h = closed n (subst (λ lines. ahead lines ≡ true) e h)

      to_rest : (rest next : List Line) → next ≡ rest → ahead next ≡ true → ahead rest ≡ true
      to_rest rest next e h = subst (λ lines. ahead lines ≡ true) e h

      goes_ahead : (t : Term) (rest next : List Line) → TermGoes g t rest next → ahead next ≡ true → leads t (ahead rest) ≡ true
      goes_ahead Fall rest next go h = to_rest rest next go h
      goes_ahead (Jump to) rest next go h = to_block to next go h
      goes_ahead (Branch cond a b to) rest next (inl go) h = rw (to_block to next go h) refl
      goes_ahead (Branch cond a b to) rest next (inr go) h = or_right (X to) (ahead rest) (to_rest rest next go h)
      goes_ahead (Call link to) rest next go h = to_block to next go h
      goes_ahead (PartJump link part to) rest next go h = to_block to next go h
      goes_ahead (Indirect link at offset) rest next go h = targets go.0 go.1 (to_block go.0 next go.2 h)
      goes_ahead (Stop word) rest next go h = absurd go

      kept_ahead : (line : Line) (rest next : List Line) → line_writes g.procedures line r ≡ false → Goes g line rest next → ahead next ≡ true → ahead (line ∷ rest) ≡ true
      kept_ahead (Name n) rest next w go h = to_rest rest next go h
      kept_ahead (Do half insn) rest next w go h = kept (is_read insn r) (is_written insn r) (ahead rest) w (to_rest rest next go h)
      kept_ahead (Enter k) rest next w go h =
          let p = go.0 in
          let link : is_register p.link r ≡ false = sym (ap (λ o. is_link_of o r) go.1) ∙ w in
          let body = sym (inside_ahead k p rest go.1) ∙ to_rest (inside p rest) next go.2 h in
          call_is k p (ahead rest) go.1
          ∙ call_goes (is_register p.link r) (before_items [] p.body false r) (items_write [] p.body r) (ahead rest) link body
      kept_ahead (Return link) rest next w go h = to_rest rest next go h
      kept_ahead (End term) rest next w go h =
          kept (is_among_but_x0 (term_sources term) r) (is_register (term_link term) r) (leads term (ahead rest)) w (goes_ahead term rest next go h)

      pub covers : {lines : List Line} → IsLive g r lines → ahead lines ≡ true
      covers (read_here {line = line} {rest = rest} e) = reads_ahead line rest e
      covers (live_behind {line = line} {rest = rest} {next = next} w go h) = kept_ahead line rest next w go (covers h)

  -- SOUNDNESS: what is live behind items and isn't written, or read in them, is live before them
  pub plain_sound : (items : List Item) (y : Bool) (rest : List Line) → All (λ item. item_calls item ≡ []) items → (y ≡ true → IsLive g r rest) → before_items [] items y r ≡ true → IsLive g r (map line_of items ++ rest)
  plain_sound [] y rest h live e = live e
  plain_sound (Op insn ∷ items) y rest h live e =
      ⊎_elim (λ (a : is_read insn r ≡ true). read_here a)
      (λ (b : (not (is_written insn r) && before_items [] items y r) ≡ true).
      let p = and_parts (not (is_written insn r)) (before_items [] items y r) b in
      live_behind (not-true (is_written insn r) p.0) refl (plain_sound items y rest (all_tail (λ item. item_calls item ≡ []) (Op insn) items h) live p.1))
      (or_cases (is_read insn r) (not (is_written insn r) && before_items [] items y r) e)
  plain_sound (Hi rd to ∷ items) y rest h live e =
      ⊎_elim (λ (a : item_reads [] (Hi rd to) r ≡ true). read_here a)
      (λ (b : (not (item_writes [] (Hi rd to) r) && before_items [] items y r) ≡ true).
      let p = and_parts (not (item_writes [] (Hi rd to) r)) (before_items [] items y r) b in
      live_behind (not-true (item_writes [] (Hi rd to) r) p.0) refl (plain_sound items y rest (all_tail (λ item. item_calls item ≡ []) (Hi rd to) items h) live p.1))
      (or_cases (item_reads [] (Hi rd to) r) (not (item_writes [] (Hi rd to) r) && before_items [] items y r) e)
  plain_sound (Lo rd rs to ∷ items) y rest h live e =
      ⊎_elim (λ (a : item_reads [] (Lo rd rs to) r ≡ true). read_here a)
      (λ (b : (not (item_writes [] (Lo rd rs to) r) && before_items [] items y r) ≡ true).
      let p = and_parts (not (item_writes [] (Lo rd rs to) r)) (before_items [] items y r) b in
      live_behind (not-true (item_writes [] (Lo rd rs to) r) p.0) refl (plain_sound items y rest (all_tail (λ item. item_calls item ≡ []) (Lo rd rs to) items h) live p.1))
      (or_cases (item_reads [] (Lo rd rs to) r) (not (item_writes [] (Lo rd rs to) r) && before_items [] items y r) e)
  plain_sound (Out procedure ∷ items) y rest h live e =
      absurd (let n = all_head (λ item. item_calls item ≡ []) (Out procedure) items h in cc)

  enter_sound : (k : ℕ) (p : Procedure) (y : Bool) (rest : List Line) → slice_get g.procedures k ≡ Some p → (y ≡ true → IsLive g r rest) → (effect_reads (slice_get calls k) r || (not (effect_writes (slice_get calls k) r) && y)) ≡ true → IsLive g r (Enter k ∷ rest)
  enter_sound k p y rest e live h =
      let c = call_comes (is_register p.link r) (before_items [] p.body false r) (items_write [] p.body r) y (sym (call_is k p y e) ∙ h) in
      let body : before_items [] p.body y r ≡ true = before_items-split [] p.body y r ∙ c.1 in
      live_behind (ap (λ o. is_link_of o r) e ∙ c.0) (p, e, refl)
      (plain_sound p.body y (Return p.link ∷ rest) (plain_body k p e) (λ t. live_behind refl refl (live t)) body)

  pub items_sound : (items : List Item) (y : Bool) (rest : List Line) → All (IsThere g) items → (y ≡ true → IsLive g r rest) → before_items calls items y r ≡ true → IsLive g r (map line_of items ++ rest)
  items_sound [] y rest h live e = live e
  items_sound (Op insn ∷ items) y rest h live e =
      ⊎_elim (λ (a : is_read insn r ≡ true). read_here a)
      (λ (b : (not (is_written insn r) && before_items calls items y r) ≡ true).
      let p = and_parts (not (is_written insn r)) (before_items calls items y r) b in
      live_behind (not-true (is_written insn r) p.0) refl (items_sound items y rest (all_tail (IsThere g) (Op insn) items h) live p.1))
      (or_cases (is_read insn r) (not (is_written insn r) && before_items calls items y r) e)
  items_sound (Hi rd to ∷ items) y rest h live e =
      ⊎_elim (λ (a : item_reads calls (Hi rd to) r ≡ true). read_here a)
      (λ (b : (not (item_writes calls (Hi rd to) r) && before_items calls items y r) ≡ true).
      let p = and_parts (not (item_writes calls (Hi rd to) r)) (before_items calls items y r) b in
      live_behind (not-true (item_writes calls (Hi rd to) r) p.0) refl (items_sound items y rest (all_tail (IsThere g) (Hi rd to) items h) live p.1))
      (or_cases (item_reads calls (Hi rd to) r) (not (item_writes calls (Hi rd to) r) && before_items calls items y r) e)
  items_sound (Lo rd rs to ∷ items) y rest h live e =
      ⊎_elim (λ (a : item_reads calls (Lo rd rs to) r ≡ true). read_here a)
      (λ (b : (not (item_writes calls (Lo rd rs to) r) && before_items calls items y r) ≡ true).
      let p = and_parts (not (item_writes calls (Lo rd rs to) r)) (before_items calls items y r) b in
      live_behind (not-true (item_writes calls (Lo rd rs to) r) p.0) refl (items_sound items y rest (all_tail (IsThere g) (Lo rd rs to) items h) live p.1))
      (or_cases (item_reads calls (Lo rd rs to) r) (not (item_writes calls (Lo rd rs to) r) && before_items calls items y r) e)
  items_sound (Out k ∷ items) y rest h live e =
      let p = all_head (IsThere g) (Out k) items h k (0, omega arith, refl) in
      enter_sound k p.0 (before_items calls items y r) (map line_of items ++ rest) p.1
      (λ t. items_sound items y rest (all_tail (IsThere g) (Out k) items h) live t) e
