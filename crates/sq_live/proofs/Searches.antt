-- The steps of a search backwards, and of the lists that it goes by.
use Rattle.std.proofs.Common.{◌≡◌, ◌≢◌, ℕ, zero, suc, ◌+◌, ◌-◌, ◌^◌, ◌<◌, ◌≤◌, ◌↔◌, ◌||◌, ◌&&◌, not, Bool, true, false, List, [], ◌∷◌, ◌++◌, ◌⊎◌, inl, inr, ⊎_elim, map, take, length, get_or, refl, sym, ap, ◌∙◌, subst, arith, length-append, get_or-set_same, get_or-set_other, slice_get, add-one}
use Rattle.std.proofs.Math.ListN.{set}
use Rattle.std.specs.List.{Contains}
use Rattle.std.proofs.lemmas.Bool.{cases_eq}
use Rattle.std.proofs.lemmas.List.{get_or_default, length-set, length-map}
use Rattle.std.proofs.lemmas.Nat.Bits.{bit_at-zero}
use Rattle.std.proofs.lemmas.List.Sums.{sum_by-set}
use Rattle.std.proofs.lemmas.List.Elements.{Contains-append_left, Contains-push, Contains-push_cases}
use Rattle.sq_live.specs.declared.effect.Effect.{Effect}
use Rattle.sq_live.specs.Effects.{effect_reads, effect_writes}
use Rattle.sq_isa.specs.Registers.{is_member}
use Rattle.sq_live.proofs.Layouts.{item_at}
use Rattle.sq_live.specs.Search.{list_at, Leads, read_in, leads_on, IsReached, begins, comes, IsSearching, IsVisiting, Has, up_to, work_of}

pub contains_head : {X : Type 0} (x : X) (xs : List X) → Contains (x ∷ xs) x
contains_head x xs = (0, omega arith, refl)

pub contains_cases : {X : Type 0} (y : X) (xs : List X) (x : X) → Contains (y ∷ xs) x → (y ≡ x) ⊎ Contains xs x
contains_cases y xs x (zero, h, e) = inl e
contains_cases y xs x (suc k, h, e) = inr (k, omega arith, e)

pub contains_none : {X : Type 0} (x : X) → Contains [] x → ⊥
contains_none x (k, h, e) = omega arith

-- The sets

-- what is added to a source: what it reads, and what is live at the node and it doesn't write
pub record Adds (effects : List Effect) (sets : List ℕ) (source node live : ℕ) : Type 0 where
  pub members : (q : ℕ) → q < 32 → is_member live q ≡ (effect_reads (slice_get effects source) q || (not (effect_writes (slice_get effects source) q) && is_member (get_or sets node 0) q))

pub no_member : (r : ℕ) → is_member 0 r ≡ false
no_member r = rw (bit_at-zero r) refl

pub has_within : (sets : List ℕ) (r k : ℕ) → Has sets r k → k < length sets
has_within [] r k e = absurd (let none = no_member r in let f = sym none ∙ e in cc)
has_within (s ∷ sets) r zero e = omega arith
has_within (s ∷ sets) r (suc k) e = let h = has_within sets r k e in omega arith

-- The search

-- at its start each node has what it reads, and all nodes wait
pub search_starts : (effects : List Effect) (sources : List (List ℕ)) (sets waiting : List ℕ) → sets ≡ map (λ effect. effect.reads) effects → ((k : ℕ) → Contains waiting k ↔ (k < length effects)) → IsVisiting effects sources 0 [] sets waiting
search_starts effects sources sets waiting is all = record {
  count = ap length is ∙ length-map effects (λ effect. effect.reads);
  there = λ k c. (all k).0 c;
  each = λ r above below. record {
    begun = λ k e. same r k ∙ e;
    visited = λ from to c w e.
        let within = has_within sets r to e in
        inr (inl ((all to).1 (omega (arith, within, ap length is, length-map effects (λ effect. effect.reads)))));
    sound = λ k e. begins (sym (same r k) ∙ e);
  };
}
  where
    reads_at : (es : List Effect) (r k : ℕ) → is_member (get_or (map (λ effect. effect.reads) es) k 0) r ≡ effect_reads (slice_get es k) r
    reads_at [] r k = no_member r
    reads_at (e ∷ es) r zero = refl
    reads_at (e ∷ es) r (suc k) = reads_at es r k

    same : (r k : ℕ) → is_member (get_or sets k 0) r ≡ effect_reads (slice_get effects k) r
    same r k = ap (λ ss. is_member (get_or ss k 0) r) is ∙ reads_at effects r k

module _ (effects : List Effect) (sources : List (List ℕ)) where
  -- at a node with none left, another may be named
  pub at_any : {node : ℕ} {sets waiting : List ℕ} (other : ℕ) → IsVisiting effects sources node [] sets waiting → IsVisiting effects sources other [] sets waiting
  at_any {node} {sets} {waiting} other v = record {
    count = v.count;
    there = v.there;
    each = λ r above below.
        let s = v.each r above below in
        record {
          begun = s.begun;
          visited = λ from to c w e.
              ⊎_elim (λ (a : Has sets r from). inl a)
              (λ (a : Contains waiting to ⊎ ((to ≡ node) × Contains [] from)).
              inr (⊎_elim (λ (b : Contains waiting to). inl b) (λ (b : (to ≡ node) × Contains [] from). absurd (contains_none from b.1)) a))
              (s.visited from to c w e);
          sound = s.sound;
        };
  }

  -- a node that waited is visited
  pub takes : {other : ℕ} {sets waiting : List ℕ} (node : ℕ) → IsVisiting effects sources other [] sets (waiting ++ node ∷ []) → IsVisiting effects sources node (list_at sources node) sets waiting
  takes {other} {sets} {waiting} node v = record {
    count = v.count;
    there = λ k c. v.there k (Contains-append_left waiting (node ∷ []) k c);
    each = λ r above below.
        let s = v.each r above below in
        record {
          begun = s.begun;
          visited = λ from to c w e.
              ⊎_elim (λ (a : Has sets r from). inl a)
              (λ (a : Contains (waiting ++ node ∷ []) to ⊎ ((to ≡ other) × Contains [] from)).
              inr
              (⊎_elim
              (λ (b : Contains (waiting ++ node ∷ []) to).
              ⊎_elim (λ (d : Contains waiting to). inl d) (λ (d : node ≡ to). inr (sym d, subst (λ k. Contains (list_at sources k) from) (sym d) c)) (Contains-push_cases waiting node to b))
              (λ (b : (to ≡ other) × Contains [] from). absurd (contains_none from b.1)) a))
              (s.visited from to c w e);
          sound = s.sound;
        };
  }

  -- those that wait may stand in another order
  pub same_waiting : {node : ℕ} {left sets : List ℕ} (old new : List ℕ) → ((k : ℕ) → Contains old k ↔ Contains new k) → IsVisiting effects sources node left sets old → IsVisiting effects sources node left sets new
  same_waiting {node} {left} {sets} old new same v = record {
    count = v.count;
    there = λ k c. v.there k ((same k).1 c);
    each = λ r above below.
        let s = v.each r above below in
        record {
          begun = s.begun;
          visited = λ from to c w e.
              ⊎_elim (λ (a : Has sets r from). inl a)
              (λ (a : Contains old to ⊎ ((to ≡ node) × Contains left from)).
              inr (⊎_elim (λ (b : Contains old to). inl ((same to).0 b)) (λ (b : (to ≡ node) × Contains left from). inr b) a))
              (s.visited from to c w e);
          sound = s.sound;
        };
  }

  -- one that waits already need not wait twice
  pub waits_already : {node : ℕ} {left sets waiting : List ℕ} (source : ℕ) → Contains waiting source → IsVisiting effects sources node left sets (waiting ++ source ∷ []) → IsVisiting effects sources node left sets waiting
  waits_already {node} {left} {sets} {waiting} source has v =
      same_waiting (waiting ++ source ∷ []) waiting
      (λ k. (λ c. ⊎_elim (λ (d : Contains waiting k). d) (λ (d : source ≡ k). subst (Contains waiting) d has) (Contains-push_cases waiting source k c), λ c. Contains-append_left waiting (source ∷ []) k c)) v

  -- a source that has all already
  pub skips : {node : ℕ} {left sets waiting : List ℕ} (source live : ℕ) → Adds effects sets source node live → ((q : ℕ) → is_member live q ≡ true → Has sets q source) → IsVisiting effects sources node (source ∷ left) sets waiting → IsVisiting effects sources node left sets waiting
  skips {node} {left} {sets} {waiting} source live adds has v = record {
    count = v.count;
    there = v.there;
    each = λ r above below.
        let s = v.each r above below in
        record {
          begun = s.begun;
          visited = λ from to c w e.
              ⊎_elim (λ (a : Has sets r from). inl a)
              (λ (a : Contains waiting to ⊎ ((to ≡ node) × Contains (source ∷ left) from)).
              ⊎_elim (λ (b : Contains waiting to). inr (inl b))
              (λ (b : (to ≡ node) × Contains (source ∷ left) from).
              ⊎_elim
              (λ (d : source ≡ from).
              let here : is_member (get_or sets node 0) r ≡ true = subst (λ k. Has sets r k) b.0 e in
              let free : effect_writes (slice_get effects source) r ≡ false = subst (λ k. effect_writes (slice_get effects k) r ≡ false) (sym d) w in
              inl (subst (λ k. Has sets r k) d (has r (adds.members r below ∙ rw (free, here) (or_true (effect_reads (slice_get effects source) r))))))
              (λ (d : Contains left from). inr (inr (b.0, d)))
              (contains_cases source left from b.1)) a)
              (s.visited from to c w e);
          sound = s.sound;
        };
  }
    where
      or_true : (a : Bool) → (a || (not false && true)) ≡ true
      or_true true = refl
      or_true false = refl

  -- a source that gains a register now, and waits
  module _ (sets waiting : List ℕ) (source node live grown : ℕ) (within : source < length sets) (adds : Adds effects sets source node live)
      (members : (q : ℕ) → is_member grown q ≡ (is_member (get_or sets source 0) q || is_member live q)) where
    abbrev pub new : List ℕ
    new = set sets source grown

    there : (r : ℕ) → is_member (get_or new source 0) r ≡ is_member grown r
    there r = ap (λ s. is_member s r) (get_or-set_same sets source grown 0 within)

    elsewhere : (r k : ℕ) → k ≢ source → is_member (get_or new k 0) r ≡ is_member (get_or sets k 0) r
    elsewhere r k apart = ap (λ s. is_member s r) (get_or-set_other sets source k grown 0 apart)

    stays : (r k : ℕ) → Has sets r k → Has new r k
    stays r k e =
        ⊎_elim
        (λ (a : k ≡ source).
        let had : is_member (get_or sets source 0) r ≡ true = subst (λ j. Has sets r j) a e in
        subst (λ j. Has new r j) (sym a) (there r ∙ members r ∙ rw had refl))
        (λ (a : k ≢ source). elsewhere r k a ∙ e) (cases_eq k source)

    gains : (r : ℕ) → r < 32 → effect_writes (slice_get effects source) r ≡ false → Has sets r node → Has new r source
    gains r below free e =
        let live_in : is_member live r ≡ true = adds.members r below ∙ rw (free, e) (or_true (effect_reads (slice_get effects source) r)) in
        there r ∙ members r ∙ rw live_in (or_right (is_member (get_or sets source 0) r))
      where
        or_true : (a : Bool) → (a || (not false && true)) ≡ true
        or_true true = refl
        or_true false = refl

        or_right : (a : Bool) → (a || true) ≡ true
        or_right true = refl
        or_right false = refl

    -- what it has now it had, or it reads it, or the node has it
    gained_from : (r : ℕ) → r < 32 → Has new r source → Has sets r source ⊎ ((effect_reads (slice_get effects source) r ≡ true) ⊎ ((effect_writes (slice_get effects source) r ≡ false) × Has sets r node))
    gained_from r below e =
        let now : (is_member (get_or sets source 0) r || (effect_reads (slice_get effects source) r || (not (effect_writes (slice_get effects source) r) && is_member (get_or sets node 0) r))) ≡ true = ap (λ b. is_member (get_or sets source 0) r || b) (sym (adds.members r below)) ∙ sym (members r) ∙ sym (there r) ∙ e in
        one_of (is_member (get_or sets source 0) r) (effect_reads (slice_get effects source) r) (effect_writes (slice_get effects source) r) (is_member (get_or sets node 0) r) now
      where
        one_of : (a b w d : Bool) → (a || (b || (not w && d))) ≡ true → (a ≡ true) ⊎ ((b ≡ true) ⊎ ((w ≡ false) × (d ≡ true)))
        one_of true b w d e = inl refl
        one_of false true w d e = inr (inl refl)
        one_of false false true d e = absurd (cc)
        one_of false false false d e = inr (inr (refl, e))

    pub grows : {left : List ℕ} → Contains (list_at sources node) source → IsVisiting effects sources node (source ∷ left) sets waiting → IsVisiting effects sources node left new (waiting ++ source ∷ [])
    grows {left} edge v = record {
      count = length-set sets source grown ∙ v.count;
      there = λ k c.
          ⊎_elim (λ (a : Contains waiting k). v.there k a) (λ (a : source ≡ k). omega (arith, within, v.count, a)) (Contains-push_cases waiting source k c);
      each = λ r above below.
          let s = v.each r above below in
          record {
            begun = λ k e. stays r k (s.begun k e);
            visited = λ from to c w e.
                ⊎_elim (λ (a : to ≡ source). inr (inl (subst (Contains (waiting ++ source ∷ [])) (sym a) (Contains-push waiting source))))
                (λ (a : to ≢ source).
                let before : Has sets r to = sym (elsewhere r to a) ∙ e in
                ⊎_elim (λ (b : Has sets r from). inl (stays r from b))
                (λ (b : Contains waiting to ⊎ ((to ≡ node) × Contains (source ∷ left) from)).
                ⊎_elim (λ (d : Contains waiting to). inr (inl (Contains-append_left waiting (source ∷ []) to d)))
                (λ (d : (to ≡ node) × Contains (source ∷ left) from).
                ⊎_elim
                (λ (f : source ≡ from).
                let free : effect_writes (slice_get effects source) r ≡ false = subst (λ k. effect_writes (slice_get effects k) r ≡ false) (sym f) w in
                inl (subst (λ k. Has new r k) f (gains r below free (subst (λ k. Has sets r k) d.0 before))))
                (λ (f : Contains left from). inr (inr (d.0, f)))
                (contains_cases source left from d.1)) b)
                (s.visited from to c w before))
                (cases_eq to source);
            sound = λ k e.
                ⊎_elim
                (λ (a : k ≡ source).
                subst (IsReached effects sources r) (sym a)
                (elim (gained_from r below (subst (λ j. Has new r j) a e)) [
                  | inl had ↦ s.sound source had
                  | inr (inl reads) ↦ begins reads
                  | inr (inr through) ↦ comes through.0 edge (s.sound node through.1)
                ]))
                (λ (a : k ≢ source). s.sound k (sym (elsewhere r k a) ∙ e)) (cases_eq k source);
          };
    }

    pub work_falls : get_or sets source 0 < grown → grown < 2 ^ 32 → work_of new (waiting ++ source ∷ []) ≤ work_of sets waiting
    work_falls more small =
        let h = sum_by-set (λ s. 2 ^ 32 - s) sets source grown 0 within in
        omega (arith, h, length-append waiting (source ∷ []))

-- what was read at an index
pub read_writes : (effects : List Effect) (k : ℕ) (d : Effect) (r : ℕ) → k < length effects → effect_writes (slice_get effects k) r ≡ is_member (get_or effects k d).writes r
read_writes effects k d r within =
    let at = item_at effects k within in
    let same : at.item ≡ get_or effects k d = sym at.here ∙ get_or_default effects k at.item d within in
    ap (λ o. effect_writes o r) at.at ∙ ap (λ e. is_member e.writes r) same

-- once none waits, exactly the nodes that lead to a read have the register
module _ (effects : List Effect) (sources : List (List ℕ)) (sets : List ℕ) (v : IsVisiting effects sources 0 [] sets []) (r : ℕ) (above : 0 < r) (below : r < 32) where
  s : IsSearching effects sources r 0 [] sets []
  s = v.each r above below

  all_have : {k : ℕ} → IsReached effects sources r k → Has sets r k
  all_have (begins {k = k} e) = s.begun k e
  all_have (comes {k = k} {to = to} w c h) =
      ⊎_elim (λ (a : Has sets r k). a)
      (λ (a : Contains [] to ⊎ ((to ≡ 0) × Contains [] k)).
      absurd (⊎_elim (λ (b : Contains [] to). contains_none to b) (λ (b : (to ≡ 0) × Contains [] k). contains_none k b.1) a))
      (s.visited k to c w (all_have h))

  pub search_ends : (k : ℕ) → Has sets r k ↔ IsReached effects sources r k
  search_ends k = (s.sound k, λ h. all_have h)

pub read_reads : (effects : List Effect) (k : ℕ) (d : Effect) (r : ℕ) → k < length effects → effect_reads (slice_get effects k) r ≡ is_member (get_or effects k d).reads r
read_reads effects k d r within =
    let at = item_at effects k within in
    let same : at.item ≡ get_or effects k d = sym at.here ∙ get_or_default effects k at.item d within in
    ap (λ o. effect_reads o r) at.at ∙ ap (λ e. is_member e.reads r) same

-- what the effect of a source has before a node's set is what the source gets
pub adds_before : (effects : List Effect) (sets : List ℕ) (source node live behind : ℕ) (effect : Effect) → source < length effects → effect ≡ get_or effects source effect → behind ≡ get_or sets node 0 → ((q : ℕ) → q < 32 → is_member live q ≡ (is_member effect.reads q || (not (is_member effect.writes q) && is_member behind q))) → Adds effects sets source node live
adds_before effects sets source node live behind effect within here is before = record {
  members = λ q below.
      let reads : effect_reads (slice_get effects source) q ≡ is_member effect.reads q = read_reads effects source effect q within ∙ ap (λ e. is_member e.reads q) (sym here) in
      let writes : effect_writes (slice_get effects source) q ≡ is_member effect.writes q = read_writes effects source effect q within ∙ ap (λ e. is_member e.writes q) (sym here) in
      before q below ∙ rw (reads, writes, ← is) refl;
}

pub read_set : (sets : List ℕ) (k set : ℕ) → k < length sets → set ≡ get_or sets k set → set ≡ get_or sets k 0
read_set sets k set within here = here ∙ sym (get_or_default sets k 0 set within)

pub none_waits : (waiting : List ℕ) → length waiting ≡ 0 → waiting ≡ []
none_waits [] e = refl
none_waits (x ∷ waiting) e = absurd (omega arith)

-- by the lists of sources and by those of exits the same nodes lead to a read
module _ (effects : List Effect) (exits sources : List (List ℕ)) (r : ℕ) (turned : (from to : ℕ) → Contains (list_at sources to) from ↔ Contains (list_at exits from) to) where
  to_leads : {k : ℕ} → IsReached effects sources r k → Leads effects exits r k
  to_leads (begins e) = read_in e
  to_leads (comes {k = k} {to = to} w c h) = leads_on w ((turned k to).0 c) (to_leads h)

  to_reached : {k : ℕ} → Leads effects exits r k → IsReached effects sources r k
  to_reached (read_in e) = begins e
  to_reached (leads_on {k = k} {to = to} w c h) = comes w ((turned k to).1 c) (to_reached h)

  pub same_nodes : (k : ℕ) → IsReached effects sources r k ↔ Leads effects exits r k
  same_nodes k = (λ h. to_leads h, λ h. to_reached h)

-- one more effect whose reads are known, and one more node
read_suc : (effects : List Effect) (k : ℕ) (effect : Effect) → k < length effects → effect ≡ get_or effects k effect → map (λ (e : Effect). e.reads) (take k effects) ++ effect.reads ∷ [] ≡ map (λ (e : Effect). e.reads) (take (suc k) effects)
read_suc [] k effect within here = absurd (omega arith)
read_suc (e ∷ effects) zero effect within here = ap (λ (x : Effect). x.reads ∷ []) here
read_suc (e ∷ effects) (suc k) effect within here = ap (λ rs. e.reads ∷ rs) (read_suc effects k effect (omega arith) here)

pub read_more : (effects : List Effect) (k : ℕ) (effect : Effect) → k < length effects → effect ≡ get_or effects k effect → map (λ (e : Effect). e.reads) (take k effects) ++ effect.reads ∷ [] ≡ map (λ (e : Effect). e.reads) (take (k + 1) effects)
read_more effects k effect within here = rw add-one (read_suc effects k effect within here)

pub up_to-last : (k : ℕ) → 0 < k → up_to k ≡ up_to (k - 1) ++ (k - 1) ∷ []
up_to-last zero h = absurd (omega (arith, h))
up_to-last (suc k) h = let e : suc k - 1 ≡ k = omega arith in rw e refl

pub below_more : (nodes : List ℕ) (bound : ℕ) → ((k : ℕ) → Contains nodes k ↔ (k < bound)) → (k : ℕ) → Contains (nodes ++ bound ∷ []) k ↔ (k < bound + 1)
below_more nodes bound all k = (
  λ c. ⊎_elim (λ (a : Contains nodes k). let h = (all k).0 a in omega arith) (λ (a : bound ≡ k). omega arith) (Contains-push_cases nodes bound k c),
  λ (h : k < bound + 1).
      ⊎_elim (λ (a : k ≡ bound). subst (Contains (nodes ++ bound ∷ [])) (sym a) (Contains-push nodes bound))
      (λ (a : k ≢ bound). Contains-append_left nodes (bound ∷ []) k ((all k).1 (omega (arith, h, a)))) (cases_eq k bound),
)

pub up_to-below : (bound k : ℕ) → Contains (up_to bound) k ↔ (k < bound)
up_to-below zero k = (λ c. absurd (contains_none k c), λ h. absurd (omega (arith, h)))
up_to-below (suc bound) k =
    let all = below_more (up_to bound) bound (up_to-below bound) k in
    (λ c. let h = all.0 c in omega (arith, h), λ h. all.1 (omega (arith, h)))
