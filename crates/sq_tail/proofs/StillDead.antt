-- What is dead behind a block stays so while the whole body of another goes.
use Rattle.std.proofs.Common.{Result, Ok, Err, ◌≡◌, ◌≢◌, ℕ, zero, suc, ◌+◌, ◌-◌, ◌<◌, ◌≤◌, ◌==◌, Bool, true, false, List, [], ◌∷◌, ◌++◌, Option, None, Some, IsSome, is_some, length, slice_get, inl, inr, refl, sym, ap, ◌∙◌, subst, arith}
use Rattle.std.specs.Prelude.{IfOk, MatchOption}
use Rattle.std.proofs.lemmas.Bool.{cases_eq, eq-eqb, ne_eqb}
use Rattle.std.proofs.lemmas.Option.{get_or_from_slice_get, slice_get_within}
use Rattle.sq_num.specs.declared.memory.Memory.{Memory}
use Rattle.sq_num.specs.declared.packed.Savings.{Savings}
use Rattle.sq_isa.specs.Registers.{is_member}
use Rattle.sq_graph.specs.Graph.{Block, Graph}
use Rattle.sq_graph.specs.Blocks.{HasBlock, block_of, block_items, items_of}
use Rattle.sq_graph.specs.Canonical.{canonical_of}
use Rattle.sq_graph.specs.Matches.{IsPair}
use Rattle.sq_graph.specs.Rules.{IsGraph}
use Rattle.sq_graph.specs.Resolve.{resolved_term_of}
use Rattle.sq_layout.proofs.Standing.{block_of-changed}
use Rattle.law_patch.specs.Bodies.{HaveBodies}
use Rattle.law_patch.specs.Merges.{merged}
use Rattle.law_patch.proofs.StayingDead.{body_dead, canonical_dead}
use Rattle.sq_rename.specs.Bodies.{IsBodyMatch, IsMatchBy, MayLive, IsLiveBehind}
use Rattle.sq_tail.specs.Bodies.{IsBodyPair, MayDrop}
use Rattle.sq_tail.specs.StillDead.{AreDead, IsDeadBehind, IsStillDead, AreTold, KeepsDeadElsewhere, IsJoinedWhole}
use Rattle.sq_tail.specs.Tails.{joined}
use Rattle.sq_tail.specs.declared.sweep.bodies.Behind.{Behind}
use Rattle.sq_tail.proofs.Applying.{body_ends}
use Rattle.sq_tail.proofs.BodiesFound.{bodies_of, pair_of}
use Rattle.sq_tail.proofs.Grown.{canonical_there, canonical_grown}
use Rattle.sq_tail.proofs.Merging.{merged_blocks, merged_rules, ended}

-- ONE REWRITE

-- where the whole body goes, the end of a block becomes a Jump alone
body_merged : (g : Graph) (new dropped kept : ℕ) → HaveBodies g dropped kept → joined g new dropped kept (length (items_of g kept)) ≡ merged g dropped 0 kept
body_merged g new dropped kept bodies =
    let ends = body_ends g dropped kept bodies in
    let at_is : length (items_of g dropped) - length (items_of g kept) ≡ 0 = omega (arith, ends.first) in
    rw (eq-eqb (length (items_of g kept)) (length (items_of g kept)) refl) (ap (λ k. merged g dropped k kept) at_is)

other_block : (g : Graph) (dropped kept m : ℕ) → m ≢ dropped → block_of (merged g dropped 0 kept) m ≡ block_of g m
other_block g dropped kept m apart =
    ap (λ (bs : List Block). block_of (record g { blocks = bs }) m) (merged_blocks g dropped 0 kept)
    ∙ block_of-changed (ended kept 0 (length (items_of g kept))) g.blocks dropped m (λ b. refl) apart

module _ (g : Graph) (dropped kept : ℕ) (rules : IsGraph g) (bodies : HaveBodies g dropped kept) where
  abbrev mid : Graph
  mid = merged g dropped 0 kept

  mid_rules : IsGraph mid
  mid_rules = let ends = body_ends g dropped kept bodies in merged_rules g dropped 0 kept rules ends.has ends.there

  dead_still : (block items dead : ℕ) → block ≢ dropped → IsStillDead g block items dead → IsStillDead (canonical_of mid) block items dead
  dead_still block items dead apart told left =
      let there : HasBlock mid block = canonical_there mid mid_rules block left in
      let same : block_of mid block ≡ block_of g block = other_block g dropped kept block apart in
      let has : HasBlock g block = subst IsSome same there in
      let before : IsDeadBehind g block items dead = told has in
      let as_many : length (items_of mid block) ≡ length (items_of g block) = ap (λ o. length (block_items o)) same in
      let within : items ≤ length (items_of mid block) = omega (arith, before.within, as_many) in
      record {
        within = omega (arith, within, canonical_grown mid mid_rules block left);
        dead = λ r over under member. canonical_dead mid mid_rules block items r there within left (body_dead g dropped kept rules bodies block items r has before.within (λ is. absurd (apart is)) (before.dead r over under member));
      }

  pub keeps_dead : (h : Graph) → IsJoinedWhole g dropped kept (length (items_of g kept)) h → KeepsDeadElsewhere g h dropped
  keeps_dead h (whole, ((new, (unused, is)), made)) block items dead apart told =
      subst (λ k. IsStillDead k block items dead) (sym (made ∙ ap canonical_of (is ∙ body_merged g new dropped kept bodies))) (dead_still block items dead apart told)

-- by what a rewrite answers
pub keeps_dead_where : (g h : Graph) (dropped kept length_of : ℕ) (result : Result Savings Memory) → IsGraph g → HaveBodies g dropped kept → length_of ≡ length (items_of g kept) → IfOk result (λ after. IsJoinedWhole g dropped kept length_of h) → IfOk result (λ after. KeepsDeadElsewhere g h dropped)
keeps_dead_where g h dropped kept n (Ok after) rules bodies is made = keeps_dead g dropped kept rules bodies h (subst (λ k. IsJoinedWhole g dropped kept k h) is made)
keeps_dead_where g h dropped kept n (Err memory) rules bodies is made = made

-- WHAT IS TOLD

-- one block more
pub told_next : (P : ℕ → Behind → Type 0) (told : List (Option Behind)) (here : Option Behind) → ((i : ℕ) (b : Behind) → slice_get told i ≡ Some (Some b) → P i b) → ((b : Behind) → here ≡ Some b → P (length told) b) → (i : ℕ) (b : Behind) → slice_get (told ++ here ∷ []) i ≡ Some (Some b) → P i b
told_next P [] here old last zero b e = last b (cc)
told_next P [] here old last (suc i) b e = absurd (cc)
told_next P (t ∷ told) here old last zero b e = old 0 b e
told_next P (t ∷ told) here old last (suc i) b e = told_next (λ k. P (suc k)) told here (λ j. old (suc j)) last i b e

-- A BLOCK THAT MAY BE DROPPED

module _ (g : Graph) (dropped kept dead : ℕ) (apart : kept ≢ dropped) (may : MayDrop g dropped) (dies : AreDead dead g dropped (length (items_of g dropped))) (terms : resolved_term_of g dropped ≡ resolved_term_of g kept) where
  abbrev Matched : List ℕ → Type 0
  Matched to = IsMatchBy g.procedures (items_of g dropped) (items_of g kept) (MayLive dead) to

  body_by : (to : List ℕ) → Matched to → IsBodyMatch g.procedures (items_of g dropped) (items_of g kept) (IsLiveBehind g dropped)
  body_by to m = record {
    match = m.match.match;
    pairs_die = λ r s p ne. (
      still r (m.match.pairs_die r s p ne).0 (λ e. ne (m.match.match.zero_there s (subst (λ z. IsPair g.procedures (items_of g dropped) (items_of g kept) z s) e p) ∙ sym e)) (small r s p),
      still s (m.match.pairs_die r s p ne).1 (λ e. ne (e ∙ sym (m.match.match.zero_back r (subst (λ z. IsPair g.procedures (items_of g dropped) (items_of g kept) r z) e p)))) (small_back r s p),
    );
  } where
    small : (r s : ℕ) → IsPair g.procedures (items_of g dropped) (items_of g kept) r s → r < 32
    small r s p = let w = slice_get_within to r s (m.pairs r s p) in let c = m.permutation.count in omega arith

    small_back : (r s : ℕ) → IsPair g.procedures (items_of g dropped) (items_of g kept) r s → s < 32
    small_back r s p =
        let at = get_or_from_slice_get to r s 0 (m.pairs r s p) in
        let b = m.permutation.below r (small r s p) in
        omega arith

    known : (r : ℕ) → (¬ MayLive dead r) → 0 < r → r < 32 → (b : Bool) → is_member dead r ≡ b → is_member dead r ≡ true
    known r n k l true e = e
    known r n k l false e = absurd (n (k, (l, e)))

    still : (r : ℕ) → (¬ MayLive dead r) → r ≢ 0 → r < 32 → ¬ IsLiveBehind g dropped r
    still r n z l = dies r (omega arith) l (known r n (omega arith) l (is_member dead r) refl)

  pub pair_by : (result : Option (List ℕ)) → MatchOption result (¬ IsBodyMatch g.procedures (items_of g dropped) (items_of g kept) (MayLive dead)) Matched → is_some result ≡ true → IsBodyPair g dropped kept
  pair_by None none sure = absurd (cc)
  pair_by (Some to) m sure = pair_of g dropped kept may (bodies_of g dropped kept apart may terms (body_by to m))

-- WHAT IS TOLD UNDER NAMES

-- of one block more
pub told_more : (g : Graph) {block : ℕ} (own : Behind) (before after : ℕ → Option Behind) → AreTold g before → IsStillDead g block own.items own.dead → after block ≡ Some own → ((other : ℕ) → (block == other) ≡ false → after other ≡ before other) → AreTold g after
told_more g {block} own before after told dead here others other b is =
    elim (cases_eq other block) [
      | inl same ↦
          let one : Some own ≡ Some b = sym here ∙ subst (λ k. after k ≡ Some b) same is in
          let equal : own ≡ b = cc in
          subst (λ k. IsStillDead g k b.items b.dead) (sym same) (subst (λ (c : Behind). IsStillDead g block c.items c.dead) equal dead)
      | inr apart ↦ told other b (sym (others other (ne_eqb block other (λ e. apart (sym e)))) ∙ is)
    ]

-- no more of the block that goes, and what is told of the others holds still
pub told_still : (g h : Graph) (gone : ℕ) (before after : ℕ → Option Behind) → AreTold g before → after gone ≡ None → ((other : ℕ) → (gone == other) ≡ false → after other ≡ before other) → KeepsDeadElsewhere g h gone → AreTold h after
told_still g h gone before after told none others keeps block b is =
    elim (cases_eq block gone) [
      | inl same ↦ absurd (let e : None ≡ Some b = sym none ∙ subst (λ k. after k ≡ Some b) same is in cc)
      | inr apart ↦ keeps block b.items b.dead apart (told block b (sym (others block (ne_eqb gone block (λ e. apart (sym e)))) ∙ is))
    ]
