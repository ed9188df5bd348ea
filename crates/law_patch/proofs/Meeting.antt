-- Terms that lead to the same, where names that lead to the same are given, go on alike.
use Rattle.std.proofs.Common.{◌≡◌, ℕ, ℤ, Bool, true, false, List, Option, Some, None, refl, sym, ap, ◌∙◌, subst}
use Rattle.std.specs.Option.{option_map}
use Rattle.std.specs.List.{Contains}
use Rattle.sq_isa.specs.declared.instructions.Cond.{Cond}
use Rattle.sq_graph.specs.declared.item.Term.{Term}
use Rattle.sq_graph.specs.declared.item.Term.TheVariants.{Fall, Jump, Branch, Call, PartJump, Indirect, Stop}
use Rattle.sq_graph.specs.Graph.{Graph}
use Rattle.sq_graph.specs.Terms.{links}
use Rattle.sq_graph.specs.Lines.{Line, term_lines, slot_name}
use Rattle.sq_graph.specs.Resolve.{ResolvedTerm, resolved, resolved_term, next_if, jump_to}
use Rattle.sq_graph.specs.Walks.{code_targets}
use Rattle.law_patch.specs.Changes.{Change, Alike, SameSlot, ends, promised, name_before, name_after, jump_before, jump_after, both_end}
use Rattle.law_patch.proofs.Relating.{relating}
use Rattle.law_patch.proofs.Leading.{slot_lines, Hops, stop, hops}

-- slots, and terms with the slots behind them, that lead to the same
abbrev pub SameLead : (ℕ → ℕ → Type 0) → Option ℕ → Option ℕ → Type 0
SameLead J None None = Unit {0}
SameLead J None (Some m) = ⊥
SameLead J (Some n) None = ⊥
SameLead J (Some n) (Some m) = J n m

pub data EndsMeet (J : ℕ → ℕ → Type 0) : Term → Term → Option ℕ → Option ℕ → Type 0 where
  both_fall : {s o : Option ℕ} → SameLead J s o → EndsMeet J Fall Fall s o
  fall_jumps : {n m : ℕ} {o : Option ℕ} → J n m → EndsMeet J Fall (Jump m) (Some n) o
  jump_falls : {n m : ℕ} {s : Option ℕ} → J n m → EndsMeet J (Jump n) Fall s (Some m)
  both_jump : {n m : ℕ} {s o : Option ℕ} → J n m → EndsMeet J (Jump n) (Jump m) s o
  both_branch : {c : Cond} {a b n m : ℕ} {s o : Option ℕ} → J n m → SameLead J s o → EndsMeet J (Branch c a b n) (Branch c a b m) s o
  both_call : {l n m : ℕ} {s o : Option ℕ} → J n m → SameLead J s o → EndsMeet J (Call l n) (Call l m) s o
  both_part : {l p n : ℕ} {s o : Option ℕ} → (links (PartJump l p n) ≡ true → SameLead J s o) → EndsMeet J (PartJump l p n) (PartJump l p n) s o
  both_indirect : {l a : ℕ} {f : ℤ} {s o : Option ℕ} → (links (Indirect l a f) ≡ true → SameLead J s o) → EndsMeet J (Indirect l a f) (Indirect l a f) s o
  both_stop : {w : ℕ} {s o : Option ℕ} → EndsMeet J (Stop w) (Stop w) s o

lead_weaker : (J I : ℕ → ℕ → Type 0) → ((n m : ℕ) → J n m → I n m) → (s o : Option ℕ) → SameLead J s o → SameLead I s o
lead_weaker J I h None None l = tt
lead_weaker J I h None (Some m) l = absurd l
lead_weaker J I h (Some n) None l = absurd l
lead_weaker J I h (Some n) (Some m) l = h n m l

pub meet_weaker : (J I : ℕ → ℕ → Type 0) → ((n m : ℕ) → J n m → I n m) → {t u : Term} {s o : Option ℕ} → EndsMeet J t u s o → EndsMeet I t u s o
meet_weaker J I h (both_fall {s = s} {o = o} l) = both_fall (lead_weaker J I h s o l)
meet_weaker J I h (fall_jumps {n = n} {m = m} j) = fall_jumps (h n m j)
meet_weaker J I h (jump_falls {n = n} {m = m} j) = jump_falls (h n m j)
meet_weaker J I h (both_jump {n = n} {m = m} j) = both_jump (h n m j)
meet_weaker J I h (both_branch {n = n} {m = m} {s = s} {o = o} j l) = both_branch (h n m j) (lead_weaker J I h s o l)
meet_weaker J I h (both_call {n = n} {m = m} {s = s} {o = o} j l) = both_call (h n m j) (lead_weaker J I h s o l)
meet_weaker J I h (both_part {s = s} {o = o} l) = both_part (λ e. lead_weaker J I h s o (l e))
meet_weaker J I h (both_indirect {s = s} {o = o} l) = both_indirect (λ e. lead_weaker J I h s o (l e))
meet_weaker J I h both_stop = both_stop

next_true : (t : Bool) (o p : Option ℕ) → next_if t o ≡ next_if t p → t ≡ true → o ≡ p
next_true true o p e t = e
next_true false o p e t = absurd (cc)

-- names that resolve to one
module _ (g : Graph) where
  abbrev R : ℕ → ℕ
  R n = resolved g n

  abbrev pub Resolve : ℕ → ℕ → Type 0
  Resolve n m = R n ≡ R m

  lead_so : (s o : Option ℕ) → option_map R s ≡ option_map R o → SameLead Resolve s o
  lead_so None None e = tt
  lead_so None (Some m) e = absurd (cc)
  lead_so (Some n) None e = absurd (cc)
  lead_so (Some n) (Some m) e = let i : R n ≡ R m = cc in i

  -- a Jump against a Jump to the next slot
  fall_jump : (s o : Option ℕ) (n : ℕ) → jump_to (option_map R s) ≡ Jump (R n) → EndsMeet Resolve Fall (Jump n) s o
  fall_jump None o n e = absurd (cc)
  fall_jump (Some m) o n e = fall_jumps (let i : R m ≡ R n = cc in i)

  jump_fall : (n : ℕ) (s o : Option ℕ) → Jump (R n) ≡ jump_to (option_map R o) → EndsMeet Resolve (Jump n) Fall s o
  jump_fall n s None e = absurd (cc)
  jump_fall n s (Some m) e = jump_falls (let i : R n ≡ R m = cc in i)

  fall_fall : (s o : Option ℕ) → jump_to (option_map R s) ≡ jump_to (option_map R o) → EndsMeet Resolve Fall Fall s o
  fall_fall None None e = both_fall tt
  fall_fall None (Some m) e = absurd (cc)
  fall_fall (Some n) None e = absurd (cc)
  fall_fall (Some n) (Some m) e = both_fall (let i : R n ≡ R m = cc in i)

  -- a Fall resolves to a Jump or to itself
  abbrev IsJump : Term → Type 0
  IsJump Fall = Unit {0}
  IsJump (Jump to) = Unit {0}
  IsJump (Branch cond a b to) = ⊥
  IsJump (Call link to) = ⊥
  IsJump (PartJump link part to) = ⊥
  IsJump (Indirect link at offset) = ⊥
  IsJump (Stop word) = ⊥

  falls_so : (o : Option ℕ) → IsJump (jump_to o)
  falls_so None = tt
  falls_so (Some n) = tt

  -- terms that resolve to one and the same
  pub resolved_meet : (t u : Term) (s o : Option ℕ) → resolved_term g t s ≡ resolved_term g u o → EndsMeet Resolve t u s o
  resolved_meet Fall Fall s o e = fall_fall s o (ap (λ (r : ResolvedTerm). r.term) e)
  resolved_meet Fall (Jump n') s o e = fall_jump s o n' (ap (λ (r : ResolvedTerm). r.term) e)
  resolved_meet Fall (Branch c' a' b' n') s o e = absurd (subst IsJump (ap (λ (r : ResolvedTerm). r.term) e) (falls_so (option_map R s)))
  resolved_meet Fall (Call l' n') s o e = absurd (subst IsJump (ap (λ (r : ResolvedTerm). r.term) e) (falls_so (option_map R s)))
  resolved_meet Fall (PartJump l' p' n') s o e = absurd (subst IsJump (ap (λ (r : ResolvedTerm). r.term) e) (falls_so (option_map R s)))
  resolved_meet Fall (Indirect l' a' f') s o e = absurd (subst IsJump (ap (λ (r : ResolvedTerm). r.term) e) (falls_so (option_map R s)))
  resolved_meet Fall (Stop w') s o e = absurd (subst IsJump (ap (λ (r : ResolvedTerm). r.term) e) (falls_so (option_map R s)))
  resolved_meet (Jump n) Fall s o e = jump_fall n s o (ap (λ (r : ResolvedTerm). r.term) e)
  resolved_meet (Jump n) (Jump n') s o e = both_jump (let i : Jump (R n) ≡ Jump (R n') = ap (λ (r : ResolvedTerm). r.term) e in let j : R n ≡ R n' = cc in j)
  resolved_meet (Jump n) (Branch c' a' b' n') s o e = absurd (let i : Jump (R n) ≡ Branch c' a' b' (R n') = ap (λ (r : ResolvedTerm). r.term) e in cc)
  resolved_meet (Jump n) (Call l' n') s o e = absurd (let i : Jump (R n) ≡ Call l' (R n') = ap (λ (r : ResolvedTerm). r.term) e in cc)
  resolved_meet (Jump n) (PartJump l' p' n') s o e = absurd (let i : Jump (R n) ≡ PartJump l' p' n' = ap (λ (r : ResolvedTerm). r.term) e in cc)
  resolved_meet (Jump n) (Indirect l' a' f') s o e = absurd (let i : Jump (R n) ≡ Indirect l' a' f' = ap (λ (r : ResolvedTerm). r.term) e in cc)
  resolved_meet (Jump n) (Stop w') s o e = absurd (let i : Jump (R n) ≡ Stop w' = ap (λ (r : ResolvedTerm). r.term) e in cc)
  resolved_meet (Branch c a b n) Fall s o e = absurd (subst IsJump (sym (ap (λ (r : ResolvedTerm). r.term) e)) (falls_so (option_map R o)))
  resolved_meet (Branch c a b n) (Jump n') s o e = absurd (let i : Branch c a b (R n) ≡ Jump (R n') = ap (λ (r : ResolvedTerm). r.term) e in cc)
  resolved_meet (Branch c a b n) (Branch c' a' b' n') s o e =
      let i : Branch c a b (R n) ≡ Branch c' a' b' (R n') = ap (λ (r : ResolvedTerm). r.term) e in
      let same : Branch c a b n' ≡ Branch c' a' b' n' = cc in
      subst (λ w. EndsMeet Resolve (Branch c a b n) w s o) same (both_branch (let j : R n ≡ R n' = cc in j) (lead_so s o (ap (λ (r : ResolvedTerm). r.next) e)))
  resolved_meet (Branch c a b n) (Call l' n') s o e = absurd (let i : Branch c a b (R n) ≡ Call l' (R n') = ap (λ (r : ResolvedTerm). r.term) e in cc)
  resolved_meet (Branch c a b n) (PartJump l' p' n') s o e = absurd (let i : Branch c a b (R n) ≡ PartJump l' p' n' = ap (λ (r : ResolvedTerm). r.term) e in cc)
  resolved_meet (Branch c a b n) (Indirect l' a' f') s o e = absurd (let i : Branch c a b (R n) ≡ Indirect l' a' f' = ap (λ (r : ResolvedTerm). r.term) e in cc)
  resolved_meet (Branch c a b n) (Stop w') s o e = absurd (let i : Branch c a b (R n) ≡ Stop w' = ap (λ (r : ResolvedTerm). r.term) e in cc)
  resolved_meet (Call l n) Fall s o e = absurd (subst IsJump (sym (ap (λ (r : ResolvedTerm). r.term) e)) (falls_so (option_map R o)))
  resolved_meet (Call l n) (Jump n') s o e = absurd (let i : Call l (R n) ≡ Jump (R n') = ap (λ (r : ResolvedTerm). r.term) e in cc)
  resolved_meet (Call l n) (Branch c' a' b' n') s o e = absurd (let i : Call l (R n) ≡ Branch c' a' b' (R n') = ap (λ (r : ResolvedTerm). r.term) e in cc)
  resolved_meet (Call l n) (Call l' n') s o e =
      let i : Call l (R n) ≡ Call l' (R n') = ap (λ (r : ResolvedTerm). r.term) e in
      let same : Call l n' ≡ Call l' n' = cc in
      subst (λ w. EndsMeet Resolve (Call l n) w s o) same (both_call (let j : R n ≡ R n' = cc in j) (lead_so s o (ap (λ (r : ResolvedTerm). r.next) e)))
  resolved_meet (Call l n) (PartJump l' p' n') s o e = absurd (let i : Call l (R n) ≡ PartJump l' p' n' = ap (λ (r : ResolvedTerm). r.term) e in cc)
  resolved_meet (Call l n) (Indirect l' a' f') s o e = absurd (let i : Call l (R n) ≡ Indirect l' a' f' = ap (λ (r : ResolvedTerm). r.term) e in cc)
  resolved_meet (Call l n) (Stop w') s o e = absurd (let i : Call l (R n) ≡ Stop w' = ap (λ (r : ResolvedTerm). r.term) e in cc)
  resolved_meet (PartJump l p n) Fall s o e = absurd (subst IsJump (sym (ap (λ (r : ResolvedTerm). r.term) e)) (falls_so (option_map R o)))
  resolved_meet (PartJump l p n) (Jump n') s o e = absurd (let i : PartJump l p n ≡ Jump (R n') = ap (λ (r : ResolvedTerm). r.term) e in cc)
  resolved_meet (PartJump l p n) (Branch c' a' b' n') s o e = absurd (let i : PartJump l p n ≡ Branch c' a' b' (R n') = ap (λ (r : ResolvedTerm). r.term) e in cc)
  resolved_meet (PartJump l p n) (Call l' n') s o e = absurd (let i : PartJump l p n ≡ Call l' (R n') = ap (λ (r : ResolvedTerm). r.term) e in cc)
  resolved_meet (PartJump l p n) (PartJump l' p' n') s o e =
      let i : PartJump l p n ≡ PartJump l' p' n' = ap (λ (r : ResolvedTerm). r.term) e in
      let next : next_if (links (PartJump l p n)) (option_map R s) ≡ next_if (links (PartJump l p n)) (option_map R o) = ap (λ (r : ResolvedTerm). r.next) e ∙ ap (λ w. next_if (links w) (option_map R o)) (sym i) in
      subst (λ w. EndsMeet Resolve (PartJump l p n) w s o) i (both_part (λ q. lead_so s o (next_true (links (PartJump l p n)) (option_map R s) (option_map R o) next q)))
  resolved_meet (PartJump l p n) (Indirect l' a' f') s o e = absurd (let i : PartJump l p n ≡ Indirect l' a' f' = ap (λ (r : ResolvedTerm). r.term) e in cc)
  resolved_meet (PartJump l p n) (Stop w') s o e = absurd (let i : PartJump l p n ≡ Stop w' = ap (λ (r : ResolvedTerm). r.term) e in cc)
  resolved_meet (Indirect l a f) Fall s o e = absurd (subst IsJump (sym (ap (λ (r : ResolvedTerm). r.term) e)) (falls_so (option_map R o)))
  resolved_meet (Indirect l a f) (Jump n') s o e = absurd (let i : Indirect l a f ≡ Jump (R n') = ap (λ (r : ResolvedTerm). r.term) e in cc)
  resolved_meet (Indirect l a f) (Branch c' a' b' n') s o e = absurd (let i : Indirect l a f ≡ Branch c' a' b' (R n') = ap (λ (r : ResolvedTerm). r.term) e in cc)
  resolved_meet (Indirect l a f) (Call l' n') s o e = absurd (let i : Indirect l a f ≡ Call l' (R n') = ap (λ (r : ResolvedTerm). r.term) e in cc)
  resolved_meet (Indirect l a f) (PartJump l' p' n') s o e = absurd (let i : Indirect l a f ≡ PartJump l' p' n' = ap (λ (r : ResolvedTerm). r.term) e in cc)
  resolved_meet (Indirect l a f) (Indirect l' a' f') s o e =
      let i : Indirect l a f ≡ Indirect l' a' f' = ap (λ (r : ResolvedTerm). r.term) e in
      let next : next_if (links (Indirect l a f)) (option_map R s) ≡ next_if (links (Indirect l a f)) (option_map R o) = ap (λ (r : ResolvedTerm). r.next) e ∙ ap (λ w. next_if (links w) (option_map R o)) (sym i) in
      subst (λ w. EndsMeet Resolve (Indirect l a f) w s o) i (both_indirect (λ q. lead_so s o (next_true (links (Indirect l a f)) (option_map R s) (option_map R o) next q)))
  resolved_meet (Indirect l a f) (Stop w') s o e = absurd (let i : Indirect l a f ≡ Stop w' = ap (λ (r : ResolvedTerm). r.term) e in cc)
  resolved_meet (Stop w) Fall s o e = absurd (subst IsJump (sym (ap (λ (r : ResolvedTerm). r.term) e)) (falls_so (option_map R o)))
  resolved_meet (Stop w) (Jump n') s o e = absurd (let i : Stop w ≡ Jump (R n') = ap (λ (r : ResolvedTerm). r.term) e in cc)
  resolved_meet (Stop w) (Branch c' a' b' n') s o e = absurd (let i : Stop w ≡ Branch c' a' b' (R n') = ap (λ (r : ResolvedTerm). r.term) e in cc)
  resolved_meet (Stop w) (Call l' n') s o e = absurd (let i : Stop w ≡ Call l' (R n') = ap (λ (r : ResolvedTerm). r.term) e in cc)
  resolved_meet (Stop w) (PartJump l' p' n') s o e = absurd (let i : Stop w ≡ PartJump l' p' n' = ap (λ (r : ResolvedTerm). r.term) e in cc)
  resolved_meet (Stop w) (Indirect l' a' f') s o e = absurd (let i : Stop w ≡ Indirect l' a' f' = ap (λ (r : ResolvedTerm). r.term) e in cc)
  resolved_meet (Stop w) (Stop w') s o e =
      let i : Stop w ≡ Stop w' = ap (λ (r : ResolvedTerm). r.term) e in subst (λ v. EndsMeet Resolve (Stop w) v s o) i both_stop

-- names that lead by lone Jumps to one
abbrev pub Joint : Graph → ℕ → ℕ → Type 0
Joint g n m = (r : ℕ) × (Hops g n r × Hops g m r)

pub joint_itself : (g : Graph) (n : ℕ) → Joint g n n
joint_itself g n = (n, (stop, stop))

pub joint_resolved : (g : Graph) (n m : ℕ) → Resolve g n m → Joint g n m
joint_resolved g n m e = (resolved g n, (hops g n, subst (λ r. Hops g m r) (sym e) (hops g m)))

abbrev pub MayHold : Graph → ℕ → ℕ → Type 0
MayHold g n m = Contains (code_targets g) n × Joint g n m

module _ (Mode : Type 0) (StandsIn : Mode → ℕ → ℕ → Type 0) (X : List Line → ℕ → Type 0) (Z : Type 0) (g h : Graph) where
  abbrev pub C : Change
  C = relating Mode StandsIn (MayHold g) (Joint g) X Z g h

  slots_go : (s o : Option ℕ) → SameLead (Joint g) s o → Alike C true None (slot_lines g.blocks s) (slot_lines h.blocks o)
  slots_go None None j = ends
  slots_go None (Some m) j = absurd j
  slots_go (Some n) None j = absurd j
  slots_go (Some n) (Some m) j = name_before (name_after (promised j))

  abbrev Targets : Option ℕ → Type 0
  Targets s = (n : ℕ) → s ≡ Some n → Contains (code_targets g) n

  slots_hold : (s o : Option ℕ) → SameLead (Joint g) s o → Targets s → SameSlot (MayHold g) (slot_name (slot_lines g.blocks s)) (slot_name (slot_lines h.blocks o))
  slots_hold None o j t = tt
  slots_hold (Some n) None j t = absurd j
  slots_hold (Some n) (Some m) j t = (t n refl, j)

  -- such terms go on alike, once both sides have taken a step
  pub meet : {t u : Term} {s o : Option ℕ} → EndsMeet (Joint g) t u s o → (links t ≡ true → Targets s) → Alike C true None (term_lines t (slot_lines g.blocks s)) (term_lines u (slot_lines h.blocks o))
  meet (both_fall {s = s} {o = o} j) k = slots_go s o j
  meet (fall_jumps j) k = name_before (jump_after tt (promised j))
  meet (jump_falls j) k = jump_before tt (name_after (promised j))
  meet (both_jump {n = n} {m = m} j) k = both_end (Jump n) (λ i. m) j (λ q. absurd (cc)) (λ q. absurd (cc))
  meet (both_branch {c = c} {a = a} {b = b} {n = n} {m = m} {s = s} {o = o} j l) k = both_end (Branch c a b n) (λ i. m) j (λ q. slots_go s o l) (λ q. absurd (cc))
  meet (both_call {l = l} {n = n} {m = m} {s = s} {o = o} j i) k = both_end (Call l n) (λ i. m) j (λ q. absurd (cc)) (λ q. slots_hold s o i (k q))
  meet (both_part {l = l} {p = p} {n = n} {s = s} {o = o} i) k = both_end (PartJump l p n) (λ i. i) (joint_itself g n, refl) (λ q. absurd (cc)) (λ q. slots_hold s o (i q) (k q))
  meet (both_indirect {l = l} {a = a} {f = f} {s = s} {o = o} i) k = both_end (Indirect l a f) (λ i. i) tt (λ q. absurd (cc)) (λ q. slots_hold s o (i q) (k q))
  meet (both_stop {w = w}) k = both_end (Stop w) (λ i. i) tt (λ q. absurd (cc)) (λ q. absurd (cc))
