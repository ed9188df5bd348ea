-- One more procedure meets its fate: what that makes of the graph in which the others have met theirs.
use Rattle.std.proofs.Common.{◌≡◌, ◌≢◌, ◌<◌, ℕ, zero, suc, ◌==◌, if◌then◌else◌, List, [], ◌∷◌, ◌++◌, map, length, get_or, slice_set, Option, Some, None, inl, inr, refl, sym, ap, ◌∙◌, subst, arith}
use Rattle.std.specs.Prelude.{replicate}
use Rattle.std.specs.List.{All, slice_get, remove, flat_map}
use Rattle.std.proofs.lemmas.Bool.{cases_Bool, eqb-true, eqb-false, eq-eqb, ne_eqb}
use Rattle.std.proofs.lemmas.List.{append-nil, map-append, get_or-replicate}
use Rattle.std.proofs.lemmas.List.Concat.{flat_map-append}
use Rattle.std.proofs.lemmas.List.Elements.{All-nil, All-cons, All-head, All-tail}
use Rattle.std.proofs.lemmas.Option.{slice_get_within}
use Rattle.sq_graph.specs.declared.fates.Fate.{Fate}
use Rattle.sq_graph.specs.declared.fates.Fate.TheVariants.{Stays, Joins, Inlined}
use Rattle.sq_graph.specs.declared.item.Item.{Item}
use Rattle.sq_graph.specs.declared.item.Item.TheVariants.{Op, Hi, Lo, Out}
use Rattle.sq_graph.specs.Graph.{Block, Procedure, Graph}
use Rattle.sq_graph.specs.Blocks.{HasProcedure, items_of_blocks, items_of_bodies, procedure_body, body_of, procedure_link, link_of}
use Rattle.sq_graph.specs.Fates.{stays, number_among, settled_call, settled_item, settled_items, settled_block, staying, settled}
use Rattle.sq_graph.specs.Renames.{recalled_item, recalled_items, recalled_block, recalled_procedure, swapped, lowered}
use Rattle.sq_graph.specs.Rules.{IsGraph, ProcedureFits}
use Rattle.sq_graph.specs.Uses.{item_calls}
use Rattle.sq_graph.proofs.Eachs.{All-left, All-right}
use Rattle.sq_graph.proofs.Fitting.{procedure_fits}
use Rattle.sq_graph.proofs.Held.{same_graph}
use Rattle.sq_outline.specs.Inlined.{is_call, spread, spread_block, inlined_all, call_count}
use Rattle.sq_outline.specs.Recalled.{AreDoubles, without_double}
use Rattle.sq_outline.proofs.Ranks.{got_fate, joins_inside, set_here, got_apart, number_lowered, numbers_apart, staying_at, staying_set, number_of_all, all_staying}
use Rattle.sq_outline.proofs.Spreading.{calls_in, is_one, calls_in-append, calls_in-cons, calls_in_blocks-cons, spread_none, bodies_call_none}

-- BODIES HAVE NO CALLS

plain_body : (g : Graph) (p : ℕ) → IsGraph g → All (λ item. item_calls item ≡ []) (body_of g p)
plain_body g p rules = each (slice_get g.procedures p) refl
  where
    each : (o : Option Procedure) → slice_get g.procedures p ≡ o → All (λ item. item_calls item ≡ []) (procedure_body o)
    each None is = λ k d below. absurd (omega (arith, below))
    each (Some q) is = (procedure_fits g.procedures p q rules.procedures is).no_calls

recalled_plain_item : (f : ℕ → ℕ) (item : Item) → item_calls item ≡ [] → recalled_item f item ≡ item
recalled_plain_item f (Op insn) plain = refl
recalled_plain_item f (Hi rd to) plain = refl
recalled_plain_item f (Lo rd rs to) plain = refl
recalled_plain_item f (Out q) plain = absurd (cc)

recalled_plain : (f : ℕ → ℕ) (items : List Item) → All (λ item. item_calls item ≡ []) items → recalled_items f items ≡ items
recalled_plain f [] plain = refl
recalled_plain f (x ∷ items) plain =
    ap (λ y. y ∷ recalled_items f items) (recalled_plain_item f x (All-head (λ item. item_calls item ≡ []) x items plain))
    ∙ ap (λ ys. x ∷ ys) (recalled_plain f items (All-tail (λ item. item_calls item ≡ []) x items plain))

procedures_plain : (f : ℕ → ℕ) (ps : List Procedure) → All ProcedureFits ps → map (recalled_procedure f) ps ≡ ps
procedures_plain f [] fits = refl
procedures_plain f (p ∷ ps) fits =
    ap (λ is. record p { body = is } ∷ map (recalled_procedure f) ps) (recalled_plain f p.body (All-head ProcedureFits p ps fits).no_calls)
    ∙ ap (λ qs. p ∷ qs) (procedures_plain f ps (All-tail ProcedureFits p ps fits))

staying_fits : (fs : List Fate) (ps : List Procedure) → All ProcedureFits ps → All ProcedureFits (staying fs ps)
staying_fits [] ps fits = All-nil ProcedureFits
staying_fits (f ∷ fs) [] fits = fits
staying_fits (f ∷ fs) (q ∷ ps) fits =
    let rest = staying_fits fs ps (All-tail ProcedureFits q ps fits) in
    elim (cases_Bool (stays f)) [
      | inl stay ↦ rw stay (All-cons ProcedureFits q (staying fs ps) (All-head ProcedureFits q ps fits) rest)
      | inr go ↦ rw go rest
    ]

procedure_at : (ps : List Procedure) (k : ℕ) → k < length ps → (q : Procedure) × (slice_get ps k ≡ Some q)
procedure_at [] k below = absurd (omega (arith, below))
procedure_at (q ∷ ps) zero below = (q, refl)
procedure_at (q ∷ ps) (suc k) below = procedure_at ps k (omega (arith, below))

-- WHERE ALL STAY

called_inside : (n : ℕ) (items : List Item) → All (λ q. q < n) (flat_map item_calls items) → (g : Graph) → settled_items g (replicate n Stays) items ≡ items
called_inside n [] all g = refl
called_inside n (Op insn ∷ items) all g = ap (λ is. Op insn ∷ is) (called_inside n items all g)
called_inside n (Hi rd to ∷ items) all g = ap (λ is. Hi rd to ∷ is) (called_inside n items all g)
called_inside n (Lo rd rs to ∷ items) all g = ap (λ is. Lo rd rs to ∷ is) (called_inside n items all g)
called_inside n (Out q ∷ items) all g =
    let below : q < n = All-head (λ m. m < n) q (flat_map item_calls items) all in
    ap (λ f. settled_call g (replicate n Stays) q f ++ settled_items g (replicate n Stays) items) (get_or-replicate n q Stays Stays below)
    ∙ ap (λ m. Out m ∷ settled_items g (replicate n Stays) items) (number_of_all n q (omega (arith, below)))
    ∙ ap (λ is. Out q ∷ is) (called_inside n items (All-tail (λ m. m < n) q (flat_map item_calls items) all) g)

blocks_stay : (n : ℕ) (bs : List Block) → All (λ q. q < n) (flat_map item_calls (items_of_blocks bs)) → (g : Graph) → map (settled_block g (replicate n Stays)) bs ≡ bs
blocks_stay n [] all g = refl
blocks_stay n (b ∷ bs) all g =
    let parts = subst (λ ns. All (λ q. q < n) ns) (flat_map-append item_calls b.items (items_of_blocks bs)) all in
    ap (λ is. record b { items = is } ∷ map (settled_block g (replicate n Stays)) bs) (called_inside n b.items (All-left (λ q. q < n) (flat_map item_calls b.items) (flat_map item_calls (items_of_blocks bs)) parts) g)
    ∙ ap (λ cs. b ∷ cs) (blocks_stay n bs (All-right (λ q. q < n) (flat_map item_calls b.items) (flat_map item_calls (items_of_blocks bs)) parts) g)

pub settled_none : (g : Graph) → IsGraph g → settled (replicate (length g.procedures) Stays) g ≡ g
settled_none g rules =
    let split = flat_map-append item_calls (items_of_blocks g.blocks) (items_of_bodies g.procedures) in
    let all = All-left (HasProcedure g) (flat_map item_calls (items_of_blocks g.blocks)) (flat_map item_calls (items_of_bodies g.procedures)) (subst (λ ns. All (HasProcedure g) ns) split rules.called_all) in
    same_graph (settled (replicate (length g.procedures) Stays) g) g (blocks_stay (length g.procedures) g.blocks all g) refl refl (all_staying g.procedures)

-- ONE MORE

-- a procedure stays so far, and so do those that others join, of which it is none
pub record IsNext (g : Graph) (fates : List Fate) (p : ℕ) : Type 0 where
  pub many : length fates ≡ length g.procedures
  pub here : slice_get fates p ≡ Some Stays
  pub joined : (q o : ℕ) → slice_get fates q ≡ Some (Joins o) → (slice_get fates o ≡ Some Stays) × (o ≢ p)

module _ (g : Graph) (rules : IsGraph g) (fates : List Fate) (p : ℕ) (next : IsNext g fates p) where
  pub inside : p < length fates
  inside = slice_get_within fates p Stays next.here

  -- one that stays is there under its number
  pub rank_there : (q : ℕ) → slice_get fates q ≡ Some Stays → HasProcedure (settled fates g) (number_among fates q)
  rank_there q stay =
      let found = procedure_at g.procedures q (omega (arith, slice_get_within fates q Stays stay, next.many)) in
      slice_get_within (staying fates g.procedures) (number_among fates q) found.0 (staying_at fates g.procedures q stay next.many ∙ found.1)

  pub body_same : (q : ℕ) → slice_get fates q ≡ Some Stays → body_of (settled fates g) (number_among fates q) ≡ body_of g q
  body_same q stay = ap procedure_body (staying_at fates g.procedures q stay next.many)

  pub link_same : (q : ℕ) → slice_get fates q ≡ Some Stays → link_of (settled fates g) (number_among fates q) ≡ link_of g q
  link_same q stay = ap procedure_link (staying_at fates g.procedures q stay next.many)

  target_apart : (o : ℕ) → slice_get fates o ≡ Some Stays → o ≢ p → number_among fates o ≢ number_among fates p
  target_apart o stay apart = numbers_apart fates p o next.here (got_fate fates o Stays stay) inside apart

  -- O3

  module _ (o : ℕ) (there : slice_get fates o ≡ Some Stays) (apart : o ≢ p) where
    abbrev recall : ℕ → ℕ
    recall n = lowered (number_among fates p) (swapped (number_among fates p) (number_among fates o) n)

    recall_other : (q : ℕ) → number_among fates q ≢ number_among fates p → q ≢ p → recall (number_among fates q) ≡ number_among (slice_set fates p (Joins o)) q
    recall_other q ranks other =
        rw (ne_eqb (number_among fates q) (number_among fates p) ranks) (number_lowered fates p q (Joins o) next.here refl other)

    recall_mine : recall (number_among fates p) ≡ number_among (slice_set fates p (Joins o)) o
    recall_mine = rw (eq-eqb (number_among fates p) (number_among fates p) refl) (number_lowered fates p o (Joins o) next.here refl apart)

    abbrev twice : List Item → List Item
    twice items = recalled_items (lowered (number_among fates p)) (recalled_items (swapped (number_among fates p) (number_among fates o)) items)

    call_other : (q : ℕ) → q ≢ p → (f : Fate) → get_or fates q Stays ≡ f → twice (settled_call g fates q f) ≡ settled_call g (slice_set fates p (Joins o)) q f
    call_other q other Stays is = ap (λ n. Out n ∷ []) (recall_other q (numbers_apart fates p q next.here is inside other) other)
    call_other q other (Joins t) is =
        let target = next.joined q t (joins_inside fates q t is) in
        ap (λ n. Out n ∷ []) (recall_other t (target_apart t target.0 target.1) target.1)
    call_other q other Inlined is =
        ap (recalled_items (lowered (number_among fates p))) (recalled_plain (swapped (number_among fates p) (number_among fates o)) (body_of g q) (plain_body g q rules))
        ∙ recalled_plain (lowered (number_among fates p)) (body_of g q) (plain_body g q rules)

    item_recalled : (x : Item) → twice (settled_item g fates x) ≡ settled_item g (slice_set fates p (Joins o)) x
    item_recalled (Op insn) = refl
    item_recalled (Hi rd to) = refl
    item_recalled (Lo rd rs to) = refl
    item_recalled (Out q) =
        elim (cases_Bool (q == p)) [
          | inl same ↦
              let is : q ≡ p = eqb-true q p same in
              subst (λ n. twice (settled_call g fates n (get_or fates n Stays)) ≡ settled_call g (slice_set fates p (Joins o)) n (get_or (slice_set fates p (Joins o)) n Stays)) (sym is)
              (ap (λ f. twice (settled_call g fates p f)) (got_fate fates p Stays next.here)
              ∙ ap (λ n. Out n ∷ []) recall_mine
              ∙ ap (λ f. settled_call g (slice_set fates p (Joins o)) p f) (sym (set_here fates p (Joins o) inside)))
          | inr other ↦
              let away : q ≢ p = eqb-false q p other in
              call_other q away (get_or fates q Stays) refl
              ∙ ap (λ f. settled_call g (slice_set fates p (Joins o)) q f) (sym (got_apart fates p q (Joins o) away))
        ]

    items_recalled : (items : List Item) → twice (settled_items g fates items) ≡ settled_items g (slice_set fates p (Joins o)) items
    items_recalled [] = refl
    items_recalled (x ∷ items) =
        ap (recalled_items (lowered (number_among fates p))) (map-append (recalled_item (swapped (number_among fates p) (number_among fates o))) (settled_item g fates x) (settled_items g fates items))
        ∙ map-append (recalled_item (lowered (number_among fates p))) (recalled_items (swapped (number_among fates p) (number_among fates o)) (settled_item g fates x)) (recalled_items (swapped (number_among fates p) (number_among fates o)) (settled_items g fates items))
        ∙ ap (λ is. is ++ twice (settled_items g fates items)) (item_recalled x)
        ∙ ap (λ is. settled_item g (slice_set fates p (Joins o)) x ++ is) (items_recalled items)

    blocks_recalled : (bs : List Block) → map (recalled_block (lowered (number_among fates p))) (map (recalled_block (swapped (number_among fates p) (number_among fates o))) (map (settled_block g fates) bs)) ≡ map (settled_block g (slice_set fates p (Joins o))) bs
    blocks_recalled [] = refl
    blocks_recalled (b ∷ bs) =
        ap (λ is. record b { items = is } ∷ map (recalled_block (lowered (number_among fates p))) (map (recalled_block (swapped (number_among fates p) (number_among fates o))) (map (settled_block g fates) bs))) (items_recalled b.items)
        ∙ ap (λ cs. settled_block g (slice_set fates p (Joins o)) b ∷ cs) (blocks_recalled bs)

    -- the procedure joins another
    pub joins_once : settled (slice_set fates p (Joins o)) g ≡ without_double (settled fates g) (number_among fates o) (number_among fates p)
    joins_once =
        sym (same_graph (without_double (settled fates g) (number_among fates o) (number_among fates p)) (settled (slice_set fates p (Joins o)) g) (blocks_recalled g.blocks) refl refl
        (ap (λ ps. map (recalled_procedure (lowered (number_among fates p))) (remove ps (number_among fates p))) (procedures_plain (swapped (number_among fates p) (number_among fates o)) (staying fates g.procedures) (staying_fits fates g.procedures rules.procedures))
        ∙ ap (map (recalled_procedure (lowered (number_among fates p)))) (staying_set fates g.procedures p (Joins o) next.here refl next.many)
        ∙ procedures_plain (lowered (number_among fates p)) (staying (slice_set fates p (Joins o)) g.procedures) (staying_fits (slice_set fates p (Joins o)) g.procedures rules.procedures)))

    pub doubles_still : AreDoubles g o p → AreDoubles (settled fates g) (number_among fates o) (number_among fates p)
    doubles_still doubles = record {
      apart = target_apart o there apart;
      there = rank_there p next.here;
      equal = record { there = rank_there o there; bodies = body_same p next.here ∙ doubles.equal.bodies ∙ sym (body_same o there); links = link_same p next.here ∙ doubles.equal.links ∙ sym (link_same o there) };
    }

  -- O4

  abbrev put : List Item → List Item
  put items = recalled_items (lowered (number_among fates p)) (spread (number_among fates p) (body_of g p) items)

  put_other : (q : ℕ) → number_among fates q ≢ number_among fates p → q ≢ p → put (Out (number_among fates q) ∷ []) ≡ Out (number_among (slice_set fates p Inlined) q) ∷ []
  put_other q ranks other =
      rw (ne_eqb (number_among fates q) (number_among fates p) ranks) (ap (λ n. Out n ∷ []) (number_lowered fates p q Inlined next.here refl other))

  put_mine : put (Out (number_among fates p) ∷ []) ≡ body_of g p
  put_mine =
      rw (eq-eqb (number_among fates p) (number_among fates p) refl)
      (ap (recalled_items (lowered (number_among fates p))) (append-nil (body_of g p)) ∙ recalled_plain (lowered (number_among fates p)) (body_of g p) (plain_body g p rules))

  spread_call : (q : ℕ) → q ≢ p → (f : Fate) → get_or fates q Stays ≡ f → put (settled_call g fates q f) ≡ settled_call g (slice_set fates p Inlined) q f
  spread_call q other Stays is = put_other q (numbers_apart fates p q next.here is inside other) other
  spread_call q other (Joins t) is =
      let target = next.joined q t (joins_inside fates q t is) in
      put_other t (target_apart t target.0 target.1) target.1
  spread_call q other Inlined is =
      ap (recalled_items (lowered (number_among fates p))) (spread_none (number_among fates p) (body_of g p) (body_of g q) (bodies_call_none g (number_among fates p) q rules))
      ∙ recalled_plain (lowered (number_among fates p)) (body_of g q) (plain_body g q rules)

  item_put : (x : Item) → put (settled_item g fates x) ≡ settled_item g (slice_set fates p Inlined) x
  item_put (Op insn) = refl
  item_put (Hi rd to) = refl
  item_put (Lo rd rs to) = refl
  item_put (Out q) =
      elim (cases_Bool (q == p)) [
        | inl same ↦
            let is : q ≡ p = eqb-true q p same in
            subst (λ n. put (settled_call g fates n (get_or fates n Stays)) ≡ settled_call g (slice_set fates p Inlined) n (get_or (slice_set fates p Inlined) n Stays)) (sym is)
            (ap (λ f. put (settled_call g fates p f)) (got_fate fates p Stays next.here)
            ∙ put_mine
            ∙ ap (λ f. settled_call g (slice_set fates p Inlined) p f) (sym (set_here fates p Inlined inside)))
        | inr other ↦
            let away : q ≢ p = eqb-false q p other in
            spread_call q away (get_or fates q Stays) refl
            ∙ ap (λ f. settled_call g (slice_set fates p Inlined) q f) (sym (got_apart fates p q Inlined away))
      ]

  items_put : (items : List Item) → put (settled_items g fates items) ≡ settled_items g (slice_set fates p Inlined) items
  items_put [] = refl
  items_put (x ∷ items) =
      ap (recalled_items (lowered (number_among fates p))) (flat_map-append (λ item. if is_call (number_among fates p) item then body_of g p else item ∷ []) (settled_item g fates x) (settled_items g fates items))
      ∙ map-append (recalled_item (lowered (number_among fates p))) (spread (number_among fates p) (body_of g p) (settled_item g fates x)) (spread (number_among fates p) (body_of g p) (settled_items g fates items))
      ∙ ap (λ is. is ++ put (settled_items g fates items)) (item_put x)
      ∙ ap (λ is. settled_item g (slice_set fates p Inlined) x ++ is) (items_put items)

  blocks_put : (bs : List Block) → map (recalled_block (lowered (number_among fates p))) (map (spread_block (number_among fates p) (body_of g p)) (map (settled_block g fates) bs)) ≡ map (settled_block g (slice_set fates p Inlined)) bs
  blocks_put [] = refl
  blocks_put (b ∷ bs) =
      ap (λ is. record b { items = is } ∷ map (recalled_block (lowered (number_among fates p))) (map (spread_block (number_among fates p) (body_of g p)) (map (settled_block g fates) bs))) (items_put b.items)
      ∙ ap (λ cs. settled_block g (slice_set fates p Inlined) b ∷ cs) (blocks_put bs)

  -- the body of the procedure stands in place of its calls
  pub inlined_once : settled (slice_set fates p Inlined) g ≡ inlined_all (settled fates g) (number_among fates p)
  inlined_once =
      sym (same_graph (inlined_all (settled fates g) (number_among fates p)) (settled (slice_set fates p Inlined) g)
      (ap (λ body. map (recalled_block (lowered (number_among fates p))) (map (spread_block (number_among fates p) body) (map (settled_block g fates) g.blocks))) (body_same p next.here) ∙ blocks_put g.blocks) refl refl
      (ap (map (recalled_procedure (lowered (number_among fates p)))) (staying_set fates g.procedures p Inlined next.here refl next.many)
      ∙ procedures_plain (lowered (number_among fates p)) (staying (slice_set fates p Inlined) g.procedures) (staying_fits (slice_set fates p Inlined) g.procedures rules.procedures)))

  -- and it was called as often as at first
  one_call : (q : ℕ) → q ≢ p → (f : Fate) → get_or fates q Stays ≡ f → calls_in (number_among fates p) (settled_call g fates q f) ≡ 0
  one_call q other Stays is = rw (ne_eqb (number_among fates q) (number_among fates p) (numbers_apart fates p q next.here is inside other)) refl
  one_call q other (Joins t) is =
      let target = next.joined q t (joins_inside fates q t is) in
      rw (ne_eqb (number_among fates t) (number_among fates p) (target_apart t target.0 target.1)) refl
  one_call q other Inlined is = bodies_call_none g (number_among fates p) q rules

  item_calls_same : (x : Item) → calls_in (number_among fates p) (settled_item g fates x) ≡ is_one p x
  item_calls_same (Op insn) = refl
  item_calls_same (Hi rd to) = refl
  item_calls_same (Lo rd rs to) = refl
  item_calls_same (Out q) =
      elim (cases_Bool (q == p)) [
        | inl same ↦
            let is : q ≡ p = eqb-true q p same in
            rw same
            (ap (λ n. calls_in (number_among fates p) (settled_call g fates n (get_or fates n Stays))) is
            ∙ ap (λ f. calls_in (number_among fates p) (settled_call g fates p f)) (got_fate fates p Stays next.here)
            ∙ (rw (eq-eqb (number_among fates p) (number_among fates p) refl) refl))
        | inr other ↦ rw other (one_call q (eqb-false q p other) (get_or fates q Stays) refl)
      ]

  calls_same : (items : List Item) → calls_in (number_among fates p) (settled_items g fates items) ≡ calls_in p items
  calls_same [] = refl
  calls_same (x ∷ items) =
      omega (arith, calls_in-append (number_among fates p) (settled_item g fates x) (settled_items g fates items), calls_in-cons p x items, item_calls_same x, calls_same items)

  blocks_calls : (bs : List Block) → calls_in (number_among fates p) (items_of_blocks (map (settled_block g fates) bs)) ≡ calls_in p (items_of_blocks bs)
  blocks_calls [] = refl
  blocks_calls (b ∷ bs) =
      omega (arith, calls_in_blocks-cons (number_among fates p) (settled_block g fates b) (map (settled_block g fates) bs), calls_in_blocks-cons p b bs, calls_same b.items, blocks_calls bs)

  pub count_same : call_count (settled fates g) (number_among fates p) ≡ call_count g p
  count_same = blocks_calls g.blocks
