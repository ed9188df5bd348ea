-- Items inside blocks are taken for one call more: what is known of the graph with the calls.
use Rattle.std.proofs.Common.{◌≡◌, ◌≢◌, ◌↔◌, ℕ, suc, ◌+◌, ◌-◌, ◌≤◌, true, false, List, [], ◌∷◌, take, drop, length, slice_get, Some, inl, inr, sym, ap, ◌∙◌, subst, arith}
use Rattle.std.proofs.lemmas.Bool.{cases_eq, cases_lt}
use Rattle.sq_graph.specs.declared.item.Item.{Item}
use Rattle.sq_graph.specs.declared.item.Item.TheVariants.{Out}
use Rattle.sq_graph.specs.declared.calls.ItemFate.{ItemFate}
use Rattle.sq_graph.specs.declared.calls.ItemFate.TheVariants.{Stays, Goes}
use Rattle.sq_graph.specs.Graph.{Graph}
use Rattle.sq_graph.specs.Blocks.{HasBlock, items_of, items_of_blocks, body_of}
use Rattle.sq_graph.specs.Calls.{with_calls, now_at, are_free, AreSpans, with_span, fates_of, items_ahead}
use Rattle.sq_graph.specs.Lines.{place_lines}
use Rattle.sq_graph.specs.Operations.{replaced}
use Rattle.sq_graph.specs.Rules.{IsGraph}
use Rattle.sq_graph.specs.Walks.{IsLive}
use Rattle.sq_graph.proofs.Spans.{count, spans_still, span_long, span_replaced, fates_of_long, items_then, fates_spanned, fates_stay, now_ahead, now_behind, was_behind, get_ahead, get_behind, get_inside, get_first, now_fits, now_least, ahead_within, has_then}
use Rattle.law_patch.specs.Calls.{IsCallable, called_there}
use Rattle.law_patch.proofs.Calls.{call_live, call_moves}
use Rattle.law_patch.proofs.StayingLive.{call_keeps_live, call_moves_live}
use Rattle.sq_outline.specs.WindowsTaken.{AreTaken, IsKept, place_then, KeepsLive}

module _ (g : Graph) (fates : List ItemFate) (taken : AreTaken g fates) (block at n procedure : ℕ) (within : at + n ≤ length (items_of g block)) (some : 1 ≤ n) (free : are_free n (fates_of g fates block) at ≡ true) where
  many : length (items_of_blocks g.blocks) ≤ length fates
  many = omega (arith, taken.many)

  abbrev pub more : List ItemFate
  more = with_span fates (items_ahead g.blocks block + at) n procedure

  own_within : at + n ≤ length (fates_of g fates block)
  own_within = omega (arith, within, fates_of_long g fates many block)

  more_many : length (with_span fates (items_ahead g.blocks block + at) n procedure) ≡ length (items_of_blocks g.blocks)
  more_many = span_long fates (items_ahead g.blocks block + at) n procedure (omega (arith, taken.many, ahead_within g block at n within some)) some ∙ taken.many

  own_fates : fates_of g (with_span fates (items_ahead g.blocks block + at) n procedure) block ≡ with_span (fates_of g fates block) at n procedure
  own_fates = fates_spanned g fates many block at n procedure within some

  pub taken_more : AreTaken g (with_span fates (items_ahead g.blocks block + at) n procedure)
  taken_more = record {
    many = more_many;
    spans = λ b.
        elim (cases_eq b block) [
          | inl same ↦ subst (λ k. AreSpans (fates_of g (with_span fates (items_ahead g.blocks block + at) n procedure) k)) (sym same) (subst AreSpans (sym own_fates) (spans_still false (fates_of g fates block) at n procedure own_within some free (taken.spans block)))
          | inr apart ↦ subst AreSpans (sym (fates_stay g fates many block at n procedure within some b apart)) (taken.spans b)
        ];
  }

  -- the graph with one call more
  pub called_more : length (body_of g procedure) ≡ n → with_calls (with_span fates (items_ahead g.blocks block + at) n procedure) g ≡ called_there (with_calls fates g) block (place_then g fates block at) procedure
  called_more long =
      span_replaced g fates many block at n procedure within some free
      ∙ ap (λ m. replaced (with_calls fates g) block (place_then g fates block at) m (Out procedure ∷ [])) (sym long)

-- LIVE REGISTERS

-- the places of the graph with one call more, by those of the graph before
module _ (g : Graph) (fates : List ItemFate) (taken : AreTaken g fates) (block at n procedure : ℕ) (within : at + n ≤ length (items_of g block)) (some : 1 ≤ n) (free : are_free n (fates_of g fates block) at ≡ true) (long : length (body_of g procedure) ≡ n) (rules : IsGraph (with_calls fates g))
    (still : IsGraph (called_there (with_calls fates g) block (place_then g fates block at) procedure)) (can : IsCallable (with_calls fates g) block (place_then g fates block at) procedure) where
  abbrev here : Graph
  here = with_calls fates g

  abbrev new_fates : List ItemFate
  new_fates = with_span fates (items_ahead g.blocks block + at) n procedure

  abbrev now : ℕ
  now = place_then g fates block at

  few : length (items_of_blocks g.blocks) ≤ length fates
  few = omega (arith, taken.many)

  new_few : length (items_of_blocks g.blocks) ≤ length new_fates
  new_few = let t = taken_more g fates taken block at n procedure within some free in omega (arith, t.many)

  own_long : at + n ≤ length (fates_of g fates block)
  own_long = omega (arith, within, fates_of_long g fates few block)

  own : fates_of g new_fates block ≡ with_span (fates_of g fates block) at n procedure
  own = fates_spanned g fates few block at n procedure within some

  is : with_calls new_fates g ≡ called_there here block now procedure
  is = called_more g fates taken block at n procedure within some free long

  -- what is live at the one place is live at the other
  abbrev Same : ℕ → ℕ → ℕ → ℕ → Type 0
  Same b old new r = IsLive here r (place_lines here b old) ↔ IsLive (called_there here block now procedure) r (place_lines (called_there here block now procedure) b new)

  there_then : (b : ℕ) → HasBlock g b → HasBlock (called_there here block now procedure) b
  there_then b has = subst (λ (k : Graph). HasBlock k b) is (has_then g new_fates b has)

  old_fits : (b q : ℕ) → place_then g fates b q ≤ length (items_of here b)
  old_fits b q = omega (arith, now_fits (fates_of g fates b) (items_of g b) q (fates_of_long g fates few b), ap (λ (xs : List Item). length xs) (items_then g fates few b))

  new_fits : (b q : ℕ) → place_then g new_fates b q ≤ length (items_of (called_there here block now procedure) b)
  new_fits b q =
      subst (λ (k : Graph). place_then g new_fates b q ≤ length (items_of k b)) is
      (omega (arith, now_fits (fates_of g new_fates b) (items_of g b) q (fates_of_long g new_fates new_few b), ap (λ (xs : List Item). length xs) (items_then g new_fates new_few b)))

  -- up to the call, and in other blocks
  unmoved : (b q r : ℕ) → HasBlock g b → place_then g new_fates b q ≡ place_then g fates b q → (b ≡ block → place_then g fates b q ≤ now) → Same b (place_then g fates b q) (place_then g new_fates b q) r
  unmoved b q r has same ahead = (
    λ live. subst (λ k. IsLive (called_there here block now procedure) r (place_lines (called_there here block now procedure) b k)) (sym same)
        (call_keeps_live here block now procedure rules still can b (place_then g fates b q) r (there_then b has) (subst (λ k. k ≤ length (items_of (called_there here block now procedure) b)) same (new_fits b q)) ahead live),
    λ live.
        call_live here block now procedure rules can b (place_then g fates b q) r (has_then g fates b has) (old_fits b q) ahead
        (subst (λ k. IsLive (called_there here block now procedure) r (place_lines (called_there here block now procedure) b k)) same live),
  )

  -- behind it
  moved : (k r : ℕ) → Same block (place_then g fates block (at + n + k)) (place_then g new_fates block (at + n + k)) r
  moved k r =
      let c = count (take k (drop (at + n) (fates_of g fates block))) in
      let old : place_then g fates block (at + n + k) ≡ now + n + count (take k (drop (at + n) (fates_of g fates block))) = was_behind (fates_of g fates block) at n procedure own_long some free k in
      let new : place_then g new_fates block (at + n + k) ≡ now + 1 + count (take k (drop (at + n) (fates_of g fates block))) = ap (λ fs. now_at fs (at + n + k)) own ∙ now_behind (fates_of g fates block) at n procedure own_long some free k in
      let size : now + n + count (take k (drop (at + n) (fates_of g fates block))) ≡ now + length (body_of g procedure) + count (take k (drop (at + n) (fates_of g fates block))) = omega (arith, long) in (
        λ live.
            subst (λ j. IsLive (called_there here block now procedure) r (place_lines (called_there here block now procedure) block j)) (sym new)
            (call_moves_live here block now procedure rules still can (count (take k (drop (at + n) (fates_of g fates block)))) r (subst (λ j. j ≤ length (items_of (called_there here block now procedure) block)) new (new_fits block (at + n + k)))
            (subst (λ j. IsLive here r (place_lines here block j)) (old ∙ size) live)),
        λ live.
            subst (λ j. IsLive here r (place_lines here block j)) (sym (old ∙ size))
            (call_moves here block now procedure rules can (count (take k (drop (at + n) (fates_of g fates block)))) r (subst (λ j. j ≤ length (items_of here block)) (old ∙ size) (old_fits block (at + n + k)))
            (subst (λ j. IsLive (called_there here block now procedure) r (place_lines (called_there here block now procedure) block j)) new live)),
      )

  -- a place that is kept with one call more was kept before
  kept_apart : (b q : ℕ) → b ≢ block → IsKept g new_fates b q → IsKept g fates b q
  kept_apart b q apart kept = subst (λ (fs : List ItemFate). slice_get fs q ≢ Some Goes) (fates_stay g fates few block at n procedure within some b apart) kept

  kept_ahead : (q : ℕ) → q ≤ at → IsKept g new_fates block q → IsKept g fates block q
  kept_ahead q l kept =
      elim (cases_lt q at) [
        | inl less ↦ λ goes. kept (ap (λ fs. slice_get fs q) own ∙ get_ahead (fates_of g fates block) at n procedure own_long some free q less ∙ goes)
        | inr more_or ↦
            let e : q ≡ at = omega (arith, l, more_or) in
            λ goes.
            let both : Some Stays ≡ Some Goes = sym (get_first (fates_of g fates block) at n procedure own_long some free) ∙ ap (slice_get (fates_of g fates block)) (sym e) ∙ goes in
            absurd (cc)
      ]

  kept_behind : (k : ℕ) → IsKept g new_fates block (at + n + k) → IsKept g fates block (at + n + k)
  kept_behind k kept = λ goes. kept (ap (λ fs. slice_get fs (at + n + k)) own ∙ get_behind (fates_of g fates block) at n procedure own_long some free k ∙ goes)

  -- the same registers are live with one call more
  abbrev Live : ℕ → ℕ → ℕ → Type 0
  Live b q r = IsLive g r (place_lines g b q) ↔ IsLive (with_calls new_fates g) r (place_lines (with_calls new_fates g) b (place_then g new_fates b q))

  then_same : (b q r : ℕ) → (IsLive g r (place_lines g b q) ↔ IsLive here r (place_lines here b (place_then g fates b q))) → Same b (place_then g fates b q) (place_then g new_fates b q) r → Live b q r
  then_same b q r first second = (
    λ live. subst (λ (k : Graph). IsLive k r (place_lines k b (place_then g new_fates b q))) (sym is) (second.0 (first.0 live)),
    λ live. first.1 (second.1 (subst (λ (k : Graph). IsLive k r (place_lines k b (place_then g new_fates b q))) is live)),
  )

  live_behind_it : KeepsLive g fates → (k r : ℕ) → HasBlock g block → at + n + k ≤ length (items_of g block) → IsKept g new_fates block (at + n + k) → Live block (at + n + k) r
  live_behind_it keeps k r has l kept = then_same block (at + n + k) r (keeps block (at + n + k) r has l (kept_behind k kept)) (moved k r)

  live_here : KeepsLive g fates → (q r : ℕ) → HasBlock g block → q ≤ length (items_of g block) → IsKept g new_fates block q → Live block q r
  live_here keeps q r has l kept =
      elim (cases_lt at q) [
        | inr before ↦
            let same : place_then g new_fates block q ≡ place_then g fates block q = ap (λ fs. now_at fs q) own ∙ now_ahead (fates_of g fates block) at n procedure own_long some free q before in
            let order : place_then g fates block q ≤ now = now_least (fates_of g fates block) q at before in
            then_same block q r (keeps block q r has l (kept_ahead q before kept)) (unmoved block q r has same (λ e. order))
        | inl behind ↦
            elim (cases_lt q (at + n)) [
              | inl inside ↦
                  let e : at + suc (q - (at + 1)) ≡ q = omega (arith, behind) in
                  let goes : slice_get (fates_of g new_fates block) q ≡ Some Goes =
                  ap (λ fs. slice_get fs q) own ∙ ap (slice_get (with_span (fates_of g fates block) at n procedure)) (sym e) ∙ get_inside (fates_of g fates block) at n procedure own_long some free (q - (at + 1)) (omega (arith, behind, inside)) in
                  absurd (kept goes)
              | inr past ↦
                  let e : at + n + (q - (at + n)) ≡ q = omega (arith, past) in
                  subst (λ j. Live block j r) e
                  (live_behind_it keeps (q - (at + n)) r has (subst (λ j. j ≤ length (items_of g block)) (sym e) l) (subst (λ j. IsKept g new_fates block j) (sym e) kept))
            ]
      ]

  pub live_more : KeepsLive g fates → KeepsLive g new_fates
  live_more keeps b q r has l kept =
      elim (cases_eq b block) [
        | inl e ↦ subst (λ c. Live c q r) (sym e) (live_here keeps q r (subst (HasBlock g) e has) (subst (λ c. q ≤ length (items_of g c)) e l) (subst (λ c. IsKept g new_fates c q) e kept))
        | inr apart ↦
            let same : place_then g new_fates b q ≡ place_then g fates b q = ap (λ fs. now_at fs q) (fates_stay g fates few block at n procedure within some b apart) in
            then_same b q r (keeps b q r has l (kept_apart b q apart kept)) (unmoved b q r has same (λ e. absurd (apart e)))
      ]
