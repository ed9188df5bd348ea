-- Row J3: the rules hold, what there is and to spare stays, and what a pass promises is kept.
use Rattle.std.proofs.Common.{◌≡◌, ◌≢◌, ℕ, zero, suc, ◌<◌, List, [], ◌∷◌, length, None, Some, inl, inr, refl, sym, ap, ◌∙◌, subst, arith, ◌+◌, ◌==◌, get_or, is_some}
use Rattle.std.specs.List.{Contains, All}
use Rattle.std.proofs.lemmas.Bool.{cases_Bool, eqb-true, eqb-false}
use Rattle.sq_isa.specs.declared.instructions.Cond.{Cond}
use Rattle.sq_isa.specs.Branches.{inverse_of}
use Rattle.sq_graph.specs.declared.item.Term.{Term}
use Rattle.sq_graph.specs.declared.item.Term.TheVariants.{Branch, Jump}
use Rattle.sq_graph.specs.Graph.{Graph}
use Rattle.sq_graph.specs.Blocks.{items_of, next_of, term_of, HasBlock, block_term}
use Rattle.sq_graph.specs.Operations.{without_block, with_term}
use Rattle.sq_graph.specs.Resolve.{jump_from}
use Rattle.sq_graph.specs.Rules.{IsGraph}
use Rattle.sq_graph.specs.Uses.{uses}
use Rattle.sq_graph.specs.Words.{term_words}
use Rattle.law_patch.specs.LoneJumps.{IsJumpedOver, inverted_over}
use Rattle.sq_layout.specs.Branches.{BranchReaches}
use Rattle.sq_jumps.specs.Invert.{BranchesOverJump, inverted_to, target_of, inverted}
use Rattle.sq_lookup.proofs.Targets.{jump_there, targets_are, has_term, lone, lone_term}
use Rattle.sq_layout.proofs.Shrunk.{shrinks_twice, one_shrinks, without_shrinks, term_shrunk}
use Rattle.std.proofs.lemmas.List.Elements.{All-nil, All-cons, All-head}
use Rattle.sq_graph.specs.declared.parts.Room.{Room}
use Rattle.sq_graph.specs.Room.{count_of, sum_of}
use Rattle.sq_graph.proofs.Fitting.{term_fits}
use Rattle.sq_graph.proofs.OperationRules.{with_term_rules, without_block_rules}
use Rattle.sq_layout.proofs.Standing.{block_of-changed, block_of-without, below}
use Rattle.sq_graph.proofs.AlikeGraphs.{alike_itself}
use Rattle.law_patch.proofs.Inverting.{invert_follows, invert_sound, invert_saves}
use Rattle.sq_pass.specs.Applied.{IsApplied}
use Rattle.sq_layout.specs.Shrinks.{IsBranch, Shrinks}
use Rattle.sq_layout.specs.Reach.{LedThere}
use Rattle.sq_layout.proofs.Shrinking.{shrunk_in_reach}
use Rattle.sq_jumps.proofs.Blocks.{next-term, same_term, term_elsewhere, term_here, gone_block}
use Rattle.sq_jumps.proofs.Totals.{term_total, without_total}
use Rattle.sq_jumps.proofs.Ruled.{still_unused}

-- its parts are known
pub invert_to : (g : Graph) (block : ℕ) (cond cond' : Cond) (a a' b b' over over' behind behind' to to' : ℕ) → IsJumpedOver g block cond a b over behind to → term_of g block ≡ Some (Branch cond' a' b' behind') → next_of g block ≡ Some over' → jump_from g over' ≡ Some to' → IsJumpedOver g block cond' a' b' over' behind' to'
invert_to g block cond cond' a a' b b' over over' behind behind' to to' jumped branch next jump =
    let term : Some (Branch cond a b behind) ≡ Some (Branch cond' a' b' behind') = sym jumped.branch ∙ branch in
    let behind_is : behind ≡ behind' = cc in
    let over_is : over ≡ over' = let f : Some over ≡ Some over' = sym jumped.next ∙ next in cc in
    record {
      branch = branch;
      next = next;
      slot = subst (λ n. next_of g n ≡ Some behind') over_is (jumped.slot ∙ ap Some behind_is);
      jump = jump;
      unused = subst (λ n. ¬ Contains (uses g) n) over_is jumped.unused;
    }

-- what isn't used isn't among the uses
pub all_apart : (xs : List ℕ) (x : ℕ) → ¬ Contains xs x → All (λ n. n ≢ x) xs
all_apart xs x none k d below same = none (k, below, same_item xs k x d below ∙ same)
  where
    same_item : (xs : List ℕ) (k d e : ℕ) → k < length xs → get_or xs k d ≡ get_or xs k e
    same_item [] k d e below = absurd (omega (arith, below))
    same_item (y ∷ xs) zero d e below = refl
    same_item (y ∷ xs) (suc k) d e below = same_item xs k d e (omega (arith, below))

module _ (g : Graph) (block : ℕ) (cond : Cond) (a b over behind to : ℕ) (new : Cond) (rules : IsGraph g) (jumped : IsJumpedOver g block cond a b over behind to) where
  abbrev t : Term
  t = Branch new a b to

  abbrev m : Graph
  m = with_term g block (Branch new a b to)

  -- the Jump's own target is another block
  pub invert_to_apart : to ≢ over
  invert_to_apart = All-head (λ n. n ≢ over) to [] (targets_are (λ n. n ≢ over) g over (Jump to) rules (all_apart (uses g) over jumped.unused) (lone_term g over to (lone g over to jumped.jump)))

  pub invert_over_apart : over ≢ block
  invert_over_apart same =
      let f : Some (Jump to) ≡ Some (Branch cond a b behind) = sym (lone_term g over to (lone g over to jumped.jump)) ∙ subst (λ k. term_of g k ≡ Some (Branch cond a b behind)) (sym same) jumped.branch in
      cc

  pub invert_turned : IsGraph (with_term g block (Branch new a b to))
  invert_turned =
      with_term_rules g block (Branch new a b to) rules (has_term g block (Branch cond a b behind) jumped.branch) (term_fits g block (Branch cond a b behind) rules jumped.branch)
      (All-cons (HasBlock g) to [] (jump_there g over to rules jumped.jump) (All-nil (HasBlock g))) (λ on. ap is_some jumped.next)

  pub invert_over_there : HasBlock (with_term g block (Branch new a b to)) over
  invert_over_there = ap is_some (block_of-changed (λ c. record c { term = Branch new a b to }) g.blocks block over (λ c. refl) invert_over_apart ∙ (lone g over to jumped.jump).found)

  pub invert_rules : IsGraph (without_block (with_term g block (Branch new a b to)) over)
  invert_rules =
      without_block_rules (with_term g block (Branch new a b to)) over invert_turned invert_over_there
      (still_unused g block over (Branch new a b to) rules invert_turned (has_term g block (Branch cond a b behind) jumped.branch) (all_apart (uses g) over jumped.unused)
      (All-cons (λ n. n ≢ over) to [] invert_to_apart (All-nil (λ n. n ≢ over))) (term_fits g block (Branch cond a b behind) rules jumped.branch))
      (ap is_some (next-term g block over (Branch new a b to) ∙ jumped.slot))

  pub invert_total : (spare : Room) → sum_of (count_of (without_block (with_term g block (Branch new a b to)) over)) (record spare { blocks = spare.blocks + 1; items = spare.items + length (items_of (with_term g block (Branch new a b to)) over) }) ≡ sum_of (count_of g) spare
  invert_total spare =
      without_total (with_term g block (Branch new a b to)) over spare invert_over_there ∙ term_total g block (Branch new a b to) spare (has_term g block (Branch cond a b behind) jumped.branch)

pub invert_made : (g : Graph) (block : ℕ) (cond : Cond) (a b over behind to : ℕ) → IsJumpedOver g block cond a b over behind to → inverted g block ≡ inverted_over g block cond a b over to
invert_made g block cond a b over behind to j =
    ap (λ t. inverted_to g block t (next_of g block) (target_of g (next_of g block))) j.branch
    ∙ ap (λ o. inverted_to g block (Some (Branch cond a b behind)) o (target_of g o)) j.next
    ∙ ap (λ o. inverted_to g block (Some (Branch cond a b behind)) (Some over) o) j.jump

pub invert_shrinks : (g : Graph) (block : ℕ) → (o : BranchesOverJump g block) → Shrinks g.blocks (inverted_over g block o.cond o.a o.b o.over o.to).blocks
invert_shrinks g block o =
    shrinks_twice
    (one_shrinks (λ b. record b { term = Branch (inverse_of o.cond) o.a o.b o.to }) g.blocks block (λ b is.
    let term : b.term ≡ Branch o.cond o.a o.b o.behind = same_term b.term (Branch o.cond o.a o.b o.behind) (sym (ap block_term is) ∙ o.jumped.branch) in
    term_shrunk b (Branch (inverse_of o.cond) o.a o.b o.to) (omega (arith, ap term_words term)) (λ yes. subst IsBranch (sym term) tt)))
    (without_shrinks (with_term g block (Branch (inverse_of o.cond) o.a o.b o.to)).blocks o.over)

pub invert_applied : (g : Graph) (block : ℕ) → IsGraph g → BranchesOverJump g block → IsApplied 1 (inverted g block) g (inverted g block)
invert_applied g block rules o =
    subst (λ h. IsApplied 1 h g h) (sym (invert_made g block o.cond o.a o.b o.over o.behind o.to o.jumped))
    (record {
      rules = invert_rules g block o.cond o.a o.b o.over o.behind o.to (inverse_of o.cond) rules o.jumped;
      follows = invert_follows g block o.cond o.a o.b o.over o.behind o.to rules o.jumped;
      sound = λ sound. invert_sound g block o.cond o.a o.b o.over o.behind o.to rules o.jumped sound;
      reach = λ reach. shrunk_in_reach g (inverted_over g block o.cond o.a o.b o.over o.to) rules.distinct (invert_rules g block o.cond o.a o.b o.over o.behind o.to (inverse_of o.cond) rules o.jumped).distinct (invert_shrinks g block o) led reach;
      words = invert_saves g block o.cond o.a o.b o.over o.behind o.to rules o.jumped;
      described = alike_itself (inverted_over g block o.cond o.a o.b o.over o.to);
      kept = λ n has. refl;
    })
  where
    t : Term
    t = Branch (inverse_of o.cond) o.a o.b o.to

    turned : IsGraph (with_term g block (Branch (inverse_of o.cond) o.a o.b o.to))
    turned = invert_turned g block o.cond o.a o.b o.over o.behind o.to (inverse_of o.cond) rules o.jumped

    led : LedThere g (inverted_over g block o.cond o.a o.b o.over o.to)
    led n cond a b to e =
        elim (cases_Bool (n == o.over)) [
          | inl here ↦
              let none : term_of (inverted_over g block o.cond o.a o.b o.over o.to) n ≡ None =
              subst (λ k. term_of (inverted_over g block o.cond o.a o.b o.over o.to) k ≡ None) (sym (eqb-true n o.over here)) (ap block_term (gone_block (with_term g block (Branch (inverse_of o.cond) o.a o.b o.to)).blocks o.over turned.distinct)) in
              absurd (cc)
          | inr apart ↦
              let left : term_of (with_term g block (Branch (inverse_of o.cond) o.a o.b o.to)) n ≡ Some (Branch cond a b to) =
              sym (ap block_term (block_of-without (with_term g block (Branch (inverse_of o.cond) o.a o.b o.to)).blocks o.over n (eqb-false n o.over apart))) ∙ e in
              elim (cases_Bool (n == block)) [
                | inl this ↦
                    let is : n ≡ block = eqb-true n block this in
                    let own : Some (Branch (inverse_of o.cond) o.a o.b o.to) ≡ Some (Branch cond a b to) =
                    sym (term_here g block (Branch o.cond o.a o.b o.behind) (Branch (inverse_of o.cond) o.a o.b o.to) o.jumped.branch) ∙ subst (λ k. term_of (with_term g block (Branch (inverse_of o.cond) o.a o.b o.to)) k ≡ Some (Branch cond a b to)) is left in
                    let to_is : o.to ≡ to = cc in
                    inr (subst (λ k. BranchReaches (inverted_over g block o.cond o.a o.b o.over o.to) n k) to_is (subst (λ k. BranchReaches (inverted_over g block o.cond o.a o.b o.over o.to) k o.to) (sym is) o.near))
                | inr other ↦ inl (cond, a, b, sym (term_elsewhere g block n (λ c. record c { term = Branch (inverse_of o.cond) o.a o.b o.to }) (λ c. refl) (eqb-false n block other)) ∙ left)
              ]
        ]
