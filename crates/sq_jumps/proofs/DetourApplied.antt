-- Row J2: the rules hold, what there is and to spare stays, and what a pass promises is kept.
use Rattle.std.proofs.Common.{◌≡◌, ℕ, false, length, Option, None, Some, inl, inr, refl, sym, ap, ◌∙◌, subst, ◌+◌, ◌==◌, map, is_some, if◌then◌else◌}
use Rattle.std.proofs.lemmas.Bool.{cases_Bool, eqb-true, eqb-false}
use Rattle.sq_graph.specs.declared.item.Term.{Term}
use Rattle.sq_graph.specs.declared.item.Term.TheVariants.{Branch}
use Rattle.sq_graph.specs.Graph.{Graph, Block}
use Rattle.sq_graph.specs.Blocks.{items_of, term_of, named, HasBlock, block_of, block_term}
use Rattle.sq_graph.specs.Operations.{redirected, without_block}
use Rattle.sq_graph.specs.Resolve.{jump_from}
use Rattle.sq_graph.specs.Rules.{IsGraph}
use Rattle.sq_graph.specs.Terms.{goes_on}
use Rattle.law_patch.specs.LoneJumps.{IsDetourTo, without_jump}
use Rattle.sq_layout.specs.Branches.{BranchReaches}
use Rattle.sq_jumps.specs.Detour.{IsDetour, without_detour_to, without_detour}
use Rattle.sq_lookup.proofs.Targets.{jump_there, lone}
use Rattle.sq_layout.proofs.Shrunk.{shrinks_twice, each_shrinks, without_shrinks, retargeted_shrunk}
use Rattle.std.specs.Prelude.{option_map}
use Rattle.sq_arena.specs.Entries.{HasDistinctKeys}
use Rattle.sq_graph.specs.declared.parts.Room.{Room}
use Rattle.sq_graph.specs.Renames.{retargeted_term, retargeted_block, swapped}
use Rattle.sq_graph.specs.Room.{count_of, sum_of}
use Rattle.sq_graph.proofs.OperationRules.{redirected_rules, redirected_unused}
use Rattle.sq_layout.proofs.Standing.{block_of-retargeted, block_of-without}
use Rattle.sq_graph.proofs.AlikeGraphs.{alike_itself}
use Rattle.law_patch.proofs.Detouring.{detour_follows, detour_sound}
use Rattle.law_patch.proofs.Saving.{detour_saves}
use Rattle.sq_pass.specs.Applied.{IsApplied}
use Rattle.sq_layout.specs.Shrinks.{Shrinks}
use Rattle.sq_layout.specs.Reach.{LedThere}
use Rattle.sq_layout.proofs.Shrinking.{shrunk_in_reach}
use Rattle.sq_jumps.proofs.Blocks.{next-redirected, goes_on-retargeted, gone_block, retargeted_before}
use Rattle.sq_jumps.proofs.Totals.{without_total, redirected_total}
use Rattle.sq_jumps.proofs.Ruled.{IsEntered, ends_without, without_rules}

-- its target is known
pub detour_to : (g : Graph) (block to found : ℕ) → IsDetourTo g block to → jump_from g block ≡ Some found → IsDetourTo g block found
detour_to g block to found leads e = let same : to ≡ found = let f : Some to ≡ Some found = sym leads.jump ∙ e in cc in subst (IsDetourTo g block) same leads

-- a lone Jump, once its target has its names
module _ (g : Graph) (block to : ℕ) (jump : jump_from g block ≡ Some to) where
  pub lone_redirected : IsGraph g → IsGraph (redirected g block to)
  lone_redirected rules = redirected_rules g block to rules (jump_there g block to rules jump)

  pub lone_there : HasBlock (redirected g block to) block
  lone_there = ap is_some (block_of-retargeted (swapped block to) g.blocks block ∙ ap (option_map (retargeted_block (swapped block to))) (lone g block to jump).found)

module _ (g : Graph) (block to : ℕ) (rules : IsGraph g) (leads : IsDetourTo g block to) where
  abbrev h : Graph
  h = redirected g block to

  pub detour_redirected : IsGraph (redirected g block to)
  detour_redirected = lone_redirected g block to leads.jump rules

  pub detour_there : HasBlock (redirected g block to) block
  detour_there = lone_there g block to leads.jump

  detour_entered : IsEntered (redirected g block to) block
  detour_entered before t next e = by_term (term_of g before) refl
    where
      term-retargeted : (o : Option Block) → block_term (option_map (retargeted_block (swapped block to)) o) ≡ option_map (retargeted_term (swapped block to)) (block_term o)
      term-retargeted None = refl
      term-retargeted (Some b) = refl

      by_term : (o : Option Term) → term_of g before ≡ o → goes_on t ≡ false
      by_term o is =
          let f : option_map (retargeted_term (swapped block to)) (term_of g before) ≡ Some t =
          sym (ap block_term (block_of-retargeted (swapped block to) g.blocks before) ∙ term-retargeted (block_of g before)) ∙ e in
          elim_term o is (subst (λ p. option_map (retargeted_term (swapped block to)) p ≡ Some t) is f)
        where
          elim_term : (o : Option Term) → term_of g before ≡ o → option_map (retargeted_term (swapped block to)) o ≡ Some t → goes_on t ≡ false
          elim_term None is f = absurd (cc)
          elim_term (Some old) is f =
              let same : retargeted_term (swapped block to) old ≡ t = cc in
              ap goes_on (sym same) ∙ goes_on-retargeted (swapped block to) old ∙ leads.apart before old (sym (next-redirected g block to before) ∙ next) is

  pub detour_rules : IsGraph (without_block (redirected g block to) block)
  detour_rules =
      without_rules (redirected g block to) block detour_redirected detour_there (redirected_unused g block to leads.other)
      (ends_without (redirected g block to) block detour_redirected detour_there detour_entered)

  pub detour_total : (spare : Room) → sum_of (count_of (without_block (redirected g block to) block)) (record spare { blocks = spare.blocks + 1; items = spare.items + length (items_of (redirected g block to) block) }) ≡ sum_of (count_of g) spare
  detour_total spare = without_total (redirected g block to) block spare detour_there ∙ redirected_total g block to spare

pub detour_made : (g : Graph) (block to : ℕ) → jump_from g block ≡ Some to → without_detour g block ≡ without_jump g block to
detour_made g block to jump = ap (without_detour_to g block) jump

pub detour_shrinks : (g : Graph) (block to : ℕ) → Shrinks g.blocks (without_jump g block to).blocks
detour_shrinks g block to =
    shrinks_twice (each_shrinks (retargeted_block (swapped block to)) (retargeted_shrunk (swapped block to)) g.blocks) (without_shrinks (map (retargeted_block (swapped block to)) g.blocks) block)

pub detour_applied : (g : Graph) (block : ℕ) → IsGraph g → IsDetour g block → IsApplied 1 (without_detour g block) g (without_detour g block)
detour_applied g block rules d =
    subst (λ h. IsApplied 1 h g h) (sym (detour_made g block d.to d.leads.jump))
    (record {
      rules = detour_rules g block d.to rules d.leads;
      follows = detour_follows g block d.to rules d.leads;
      sound = λ sound. detour_sound g block d.to rules d.leads sound;
      reach = λ reach. shrunk_in_reach g (without_jump g block d.to) rules.distinct (detour_rules g block d.to rules d.leads).distinct (detour_shrinks g block d.to) led reach;
      words = detour_saves g block d.to d.leads;
      described = alike_itself (without_jump g block d.to);
      kept = λ n has. refl;
    })
  where
    f : ℕ → ℕ
    f = swapped block d.to

    middle : HasDistinctKeys (named (map (retargeted_block (swapped block d.to)) g.blocks))
    middle = (detour_redirected g block d.to rules d.leads).distinct

    led : LedThere g (without_jump g block d.to)
    led n cond a b to e =
        elim (cases_Bool (n == block)) [
          | inl here ↦
              let none : term_of (without_jump g block d.to) n ≡ None = subst (λ k. term_of (without_jump g block d.to) k ≡ None) (sym (eqb-true n block here)) (ap block_term (gone_block (map (retargeted_block (swapped block d.to)) g.blocks) block middle)) in
              absurd (cc)
          | inr apart ↦
              let before = retargeted_before (swapped block d.to) (block_of g n) cond a b to
              (sym (ap block_term (block_of-without (map (retargeted_block (swapped block d.to)) g.blocks) block n (eqb-false n block apart) ∙ block_of-retargeted (swapped block d.to) g.blocks n)) ∙ e) in
              elim (cases_Bool (before.0 == block)) [
                | inl this ↦
                    let is : before.0 ≡ block = eqb-true before.0 block this in
                    let to_is : d.to ≡ to = sym (ap (λ t. if t then d.to else before.0) this) ∙ before.2 in
                    inr (subst (λ k. BranchReaches (without_jump g block d.to) n k) to_is (d.near n cond a b (subst (λ k. term_of g n ≡ Some (Branch cond a b k)) is before.1)))
                | inr other ↦
                    let to_is : before.0 ≡ to = sym (ap (λ t. if t then d.to else before.0) other) ∙ before.2 in
                    inl (cond, a, b, subst (λ k. term_of g n ≡ Some (Branch cond a b k)) to_is before.1)
              ]
        ]
