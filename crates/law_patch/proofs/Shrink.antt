-- What is live in the second graph stands for what is live in the first.
use Rattle.std.proofs.Common.{◌≡◌, ℕ, zero, suc, Bool, true, false, ◌||◌, ◌⊎◌, List, [], ◌∷◌, Option, Some, None, refl, sym, ap, ◌∙◌, subst, inl, inr, ⊎_elim, not, ◌==◌, ◌&&◌, eq-eqb, arith}
use Rattle.std.specs.List.{Contains}
use Rattle.std.proofs.lemmas.Bool.{and_parts, eqb-true, or_cases, and_from}
use Rattle.std.proofs.lemmas.Bool.Decides.{nat_tests}
use Rattle.sq_isa.specs.Forms.{with_registers}
use Rattle.sq_isa.specs.Registers.{is_among, is_among_but_x0}
use Rattle.sq_isa.specs.Uses.{sources_of, destination_of}
use Rattle.sq_graph.specs.declared.item.Term.{Term}
use Rattle.sq_graph.specs.declared.item.Term.TheVariants.{Fall, Jump, Branch, Call, PartJump, Indirect, Stop}
use Rattle.sq_graph.specs.Graph.{Procedure}
use Rattle.sq_graph.specs.Lines.{Line, End, inside, block_lines}
use Rattle.sq_graph.specs.Walks.{IsLive, read_here, live_behind, Goes, TermGoes, code_targets, is_register, is_link_of, line_reads, line_writes, term_link}
use Rattle.law_patch.specs.Registers.{IsSource, AreSources}
use Rattle.law_patch.specs.Changes.{Change, Stands, term_named, MayGoTo, falls, Alike, ends, promised, guarded, shift, name_before, name_after, jump_before, jump_after, return_before, return_after, enter_before, enter_after, dead_before, both_do, both_enter, both_return, both_end, both_turned, both_hastened, both_jumped, IsSteady}
use Rattle.law_patch.proofs.LiveSteps.{no_link}
use Rattle.law_patch.proofs.Patch.{later}

-- a live register of the first that stands for q
abbrev pub Origin : (C : Change) → Option C.Mode → List Line → ℕ → Type 0
Origin C m xs q = (r : ℕ) × (Stands C m r q × IsLive C.before r xs)

abbrev pub IsBacked : Change → ℕ → List Line → Type 0
IsBacked C q ys = (b : Bool) (m : Option C.Mode) (xs : List Line) → Alike C b m xs ys → Origin C m xs q

-- q is read here, or it isn't written and is backed at a place to which a walk leads
pub data IsNear (C : Change) (q : ℕ) : List Line → Type 0 where
  near_read : {line : Line} {rest : List Line} → line_reads line q ≡ true → IsNear C q (line ∷ rest)
  near_kept : {line : Line} {rest next : List Line} → line_writes C.after.procedures line q ≡ false → Goes C.after line rest next → IsBacked C q next → IsNear C q (line ∷ rest)

same_one : (r : ℕ) → (r == r) ≡ true
same_one r = eq-eqb r r refl

not_zero : (r : ℕ) → (suc r == 0) ≡ false
not_zero r = grind (arith, nat_tests)

-- a source that is not x0 is the register itself
first_source : (P : ℕ → ℕ → Type 0) (x y q : ℕ) (rs : List ℕ) → IsSource P x y → y ≡ q → not (q == 0) ≡ true → (r : ℕ) × (P r q × (is_among_but_x0 (x ∷ rs) r ≡ true))
first_source P zero zero q rs h e n = absurd (let f : not (0 == 0) ≡ true = subst (λ k. not (k == 0) ≡ true) (sym e) n in cc)
first_source P zero (suc y) q rs h e n = absurd h
first_source P (suc x) zero q rs h e n = absurd h
first_source P (suc x) (suc y) q rs h e n = (suc x, (subst (P (suc x)) e h, rw (not_zero x, same_one (suc x)) refl))

-- a register that is read by the second is read by the first as the one that stands for it
from_sources : (P : ℕ → ℕ → Type 0) (rs qs : List ℕ) (q : ℕ) → AreSources P rs qs → is_among_but_x0 qs q ≡ true → (r : ℕ) × (P r q × (is_among_but_x0 rs r ≡ true))
from_sources P [] [] q a e = absurd (let p = and_parts (not (q == 0)) (is_among [] q) e in let f : false ≡ true = p.1 in cc)
from_sources P [] (y ∷ qs) q a e = absurd a
from_sources P (x ∷ rs) [] q a e = absurd a
from_sources P (x ∷ rs) (y ∷ qs) q a e =
    let p = and_parts (not (q == 0)) (is_among (y ∷ qs) q) e in
    ⊎_elim
    (λ (t : (y == q) ≡ true). first_source P x y q rs a.0 (eqb-true y q t) p.0)
    (λ (t : is_among qs q ≡ true). let o = from_sources P rs qs q a.1 (and_from (not (q == 0)) (is_among qs q) p.0 t) in (o.0, (o.1.0, later x rs o.0 o.1.1)))
    (or_cases (y == q) (is_among qs q) p.1)

-- a term without sources reads nothing
pub no_sources : (q : ℕ) → is_among_but_x0 [] q ≡ true → ⊥
no_sources q e = let p = and_parts (not (q == 0)) (is_among [] q) e in let f : false ≡ true = p.1 in cc

near_nil : {C : Change} {q : ℕ} {ys : List Line} → IsNear C q ys → ys ≡ [] → ⊥
near_nil (near_read e) i = absurd (cc)
near_nil (near_kept w g y) i = absurd (cc)

module _ (C : Change) (steady : IsSteady C) (targets : (n' : ℕ) → Contains (code_targets C.after) n' → (n : ℕ) × (Contains (code_targets C.before) n × C.MayGo n n')) (matters : (xs : List Line) (r : ℕ) → IsLive C.before r xs → C.Matters xs r) (sound : C.Sound) where
  same_sources : (g : ℕ → ℕ) (t : Term) (q : ℕ) → line_reads (End (term_named g t)) q ≡ line_reads (End t) q
  same_sources g Fall q = refl
  same_sources g (Jump to) q = refl
  same_sources g (Branch cond x y to) q = refl
  same_sources g (Call link to) q = refl
  same_sources g (PartJump link part to) q = refl
  same_sources g (Indirect link at offset) q = refl
  same_sources g (Stop word) q = refl

  -- the same register where the first goes to a name
  at_name : (t : Term) (q n n' : ℕ) (xs next : List Line) → C.MayGo n n' → is_register (term_link t) q ≡ false → Goes C.before (End t) xs (block_lines C.before n) → next ≡ block_lines C.after n' → IsBacked C q next → Origin C None (End t ∷ xs) q
  at_name t q n n' xs next j w go e y =
      let o = subst (IsBacked C q) e y true None (block_lines C.before n) (promised j) in
      let same : q ≡ o.0 = o.1.0 in
      (o.0, (same, live_behind (subst (λ r. is_register (term_link t) r ≡ false) same w) go o.1.1))

  at_slot : (t : Term) (q : ℕ) (xs ys next : List Line) → Alike C true None xs ys → is_register (term_link t) q ≡ false → Goes C.before (End t) xs xs → next ≡ ys → IsBacked C q next → Origin C None (End t ∷ xs) q
  at_slot t q xs ys next p w go e y =
      let o = subst (IsBacked C q) e y true None xs p in
      let same : q ≡ o.0 = o.1.0 in
      (o.0, (same, live_behind (subst (λ r. is_register (term_link t) r ≡ false) same w) go o.1.1))

  ended : (q : ℕ) (t : Term) (g : ℕ → ℕ) (xs ys next : List Line) → MayGoTo C g t → (falls t ≡ true → Alike C true None xs ys) → line_writes C.after.procedures (End (term_named g t)) q ≡ false → TermGoes C.after (term_named g t) ys next → IsBacked C q next → Origin C None (End t ∷ xs) q
  ended q Fall g xs ys next j f w e y = absurd j
  ended q (Jump to) g xs ys next j f w e y = at_name (Jump to) q to (g to) xs next j w refl e y
  ended q (Branch cond a b to) g xs ys next j f w (inl e) y = at_name (Branch cond a b to) q to (g to) xs next j w (inl refl) e y
  ended q (Branch cond a b to) g xs ys next j f w (inr e) y = at_slot (Branch cond a b to) q xs ys next (f refl) w (inr refl) e y
  ended q (Call link to) g xs ys next j f w e y = at_name (Call link to) q to (g to) xs next j w refl e y
  ended q (PartJump link part to) g xs ys next j f w e y = at_name (PartJump link part to) q to (g to) xs next j.0 w refl e y
  ended q (Indirect link at offset) g xs ys next j f w e y =
      let n = targets e.0 e.1 in at_name (Indirect link at offset) q n.0 e.0 xs next n.1.1 w (n.0, n.1.0, refl) e.2 y
  ended q (Stop word) g xs ys next j f w e y = absurd e

  near_alike : (q : ℕ) (b : Bool) → ((n n' : ℕ) → b ≡ true → C.MayGo n n' → IsNear C q (block_lines C.after n') → Origin C None (block_lines C.before n) q) → {m : Option C.Mode} {xs ys : List Line} → Alike C b m xs ys → IsNear C q ys → Origin C m xs q
  near_alike q b pr ends v = absurd (near_nil v refl)
  near_alike q b pr (promised {n = n} {n' = n'} j) v = pr n n' refl j v
  near_alike q b pr (guarded p) v = near_alike q false (λ n n' e j v. absurd (cc)) p v
  near_alike q b pr (shift {xs = xs} h p) v = let o = near_alike q b pr p v in (o.0, (h o.0 q (matters xs o.0 o.1.1) o.1.0, o.1.1))
  near_alike q b pr (name_before p) v = let o = near_alike q b pr p v in (o.0, (o.1.0, live_behind refl refl o.1.1))
  near_alike q b pr (name_after p) (near_read e) = absurd (cc)
  near_alike q b pr (name_after {m = m} {xs = xs} p) (near_kept w g y) = subst (IsBacked C q) g y b m xs p
  near_alike q b pr (jump_before {n = n} may p) v = let o = near_alike q b pr p v in (o.0, (o.1.0, live_behind (no_link o.0) refl o.1.1))
  near_alike q b pr (jump_after may p) (near_read e) = absurd (no_sources q e)
  near_alike q b pr (jump_after {m = m} {xs = xs} may p) (near_kept w g y) = subst (IsBacked C q) g y b m xs p
  near_alike q b pr (return_before may p) v = let o = near_alike q b pr p v in (o.0, (o.1.0, live_behind refl refl o.1.1))
  near_alike q b pr (return_after may p) (near_read e) = absurd (cc)
  near_alike q b pr (return_after {m = m} {xs = xs} may p) (near_kept w g y) = subst (IsBacked C q) g y b m xs p
  near_alike q b pr (enter_before {xs = xs} may d e h z p) v =
      let o = near_alike q b pr p v in
      let l = matters (inside d xs) o.0 o.1.1 in
      let dead = z sound o.0 l in
      (o.0, (h o.0 q l o.1.0 dead, live_behind (ap (λ k. is_link_of k o.0) e ∙ dead) (d, e, refl) o.1.1))
  near_alike q b pr (enter_after may d e h p) (near_read i) = absurd (cc)
  near_alike q b pr (enter_after {m' = m'} {xs = xs} {ys = ys} may d e h p) (near_kept w g y) =
      let i : g.0 ≡ d = let f : Some g.0 ≡ Some d = sym g.1 ∙ e in cc in
      let y' = subst (IsBacked C q) (g.2 ∙ ap (λ (p : Procedure). inside p ys) i) y in
      let o = y' b m' xs p in
      (o.0, ((h o.0 q (matters xs o.0 o.1.1) o.1.0).1, o.1.1))
  near_alike q b pr (dead_before {xs = xs} may none d p) v = let o = near_alike q b pr p v in (o.0, (o.1.0, live_behind (d o.0 (matters xs o.0 o.1.1)) refl o.1.1))
  near_alike q b pr (both_do {m = m} insn d x y nm src h p) (near_read e) =
      let o = from_sources (Stands C m) (sources_of insn) (sources_of (with_registers d x y insn)) q src e in (o.0, (o.1.0, read_here o.1.1))
  near_alike q b pr (both_do {m = m} {m' = m'} {xs = xs} insn d x y nm src h p) (near_kept w g k) =
      let k' = subst (IsBacked C q) g k in
      let o = k' true m' xs p in
      let v = h o.0 q (matters xs o.0 o.1.1) o.1.0 in
      let free : is_register (destination_of insn) o.0 ≡ false = sym v.0 ∙ w in
      (o.0, (v.1 free, live_behind free refl o.1.1))
  near_alike q b pr (both_enter d d' e e' h p) (near_read i) = absurd (cc)
  near_alike q b pr (both_enter {m' = m'} {xs = xs} {ys = ys} d d' e e' h p) (near_kept w g y) =
      let i : g.0 ≡ d' = let f : Some g.0 ≡ Some d' = sym g.1 ∙ e' in cc in
      let y' = subst (IsBacked C q) (g.2 ∙ ap (λ (p : Procedure). inside p ys) i) y in
      let o = y' true m' (inside d xs) p in
      let v = h o.0 q (matters (inside d xs) o.0 o.1.1) o.1.0 in
      let free : is_register d.link o.0 ≡ false = sym v.0 ∙ (sym (ap (λ k. is_link_of k q) e') ∙ w) in
      (o.0, (v.1 free, live_behind (ap (λ k. is_link_of k o.0) e ∙ free) (d, e, refl) o.1.1))
  near_alike q b pr (both_return p) (near_read e) = absurd (cc)
  near_alike q b pr (both_return {m = m} {xs = xs} p) (near_kept w g y) =
      let o = subst (IsBacked C q) g y true m xs p in (o.0, (o.1.0, live_behind refl refl o.1.1))
  near_alike q b pr (both_end t g j f l) (near_read e) = (q, (refl, read_here (sym (same_sources g t q) ∙ e)))
  near_alike q b pr (both_end {xs = xs} {ys = ys} t g j f l) (near_kept {next = next} w e y) = ended q t g xs ys next j f w e y
  near_alike q b pr (both_turned cond x z n n' p r) (near_read e) = (q, (refl, read_here e))
  near_alike q b pr (both_turned {xs = xs} {ys = ys} cond x z n n' p r) (near_kept w (inl e) y) =
      let o = subst (IsBacked C q) e y true None xs r in (o.0, (o.1.0, live_behind (no_link o.0) (inr refl) o.1.1))
  near_alike q b pr (both_turned cond x z n n' p r) (near_kept w (inr e) y) =
      let o = subst (IsBacked C q) e y true None (block_lines C.before n) p in (o.0, (o.1.0, live_behind (no_link o.0) (inl refl) o.1.1))
  near_alike q b pr (both_hastened link part n n' j l) (near_read e) = absurd (no_sources q e)
  near_alike q b pr (both_hastened {xs = xs} link part n n' j l) (near_kept {next = next} w e y) = at_name (PartJump link part n) q n n' xs next j w refl e y
  near_alike q b pr (both_jumped part n n' j) (near_read e) = absurd (no_sources q e)
  near_alike q b pr (both_jumped {xs = xs} part n n' j) (near_kept {next = next} w e y) = at_name (PartJump 0 part n) q n n' xs next j w refl e y

  backed : (q : ℕ) {ys : List Line} → IsNear C q ys → IsBacked C q ys
  backed q v b m xs p = near_alike q b (λ n n' e j v. near_alike q false (λ n n' e j v. absurd (cc)) (steady.names n n' j) v) p v

  -- THE COMPANION: what is live at a place of the second graph stands for what is live at each place that it goes on like
  pub shrinks : (q : ℕ) {ys : List Line} → IsLive C.after q ys → IsBacked C q ys
  shrinks q (read_here e) = backed q (near_read e)
  shrinks q (live_behind w g h) = backed q (near_kept w g (shrinks q h))
