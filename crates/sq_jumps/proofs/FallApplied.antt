-- Row J1: the rules hold, and what a pass promises is kept.
use Rattle.std.proofs.Common.{◌≡◌, ℕ, Some, inl, inr, refl, sym, ap, ◌∙◌, subst, arith, ◌==◌, is_some}
use Rattle.std.proofs.lemmas.Bool.{cases_Bool, eqb-true, eqb-false}
use Rattle.sq_graph.specs.declared.item.Term.TheVariants.{Branch, Fall, Jump}
use Rattle.sq_graph.specs.Graph.{Graph}
use Rattle.sq_graph.specs.Blocks.{next_of, term_of, HasBlock, block_term}
use Rattle.sq_graph.specs.Operations.{with_term}
use Rattle.sq_graph.specs.Rules.{IsGraph}
use Rattle.sq_lookup.proofs.Targets.{has_term}
use Rattle.sq_layout.proofs.Shrunk.{one_shrinks, term_shrunk}
use Rattle.std.proofs.lemmas.List.Elements.{All-nil}
use Rattle.sq_graph.proofs.OperationRules.{with_term_rules}
use Rattle.sq_graph.proofs.AlikeGraphs.{alike_itself}
use Rattle.law_patch.proofs.OneBlock.{fall_follows, fall_sound}
use Rattle.law_patch.proofs.Saving.{fall_saves}
use Rattle.sq_pass.specs.Applied.{IsApplied}
use Rattle.sq_jumps.specs.Fall.{JumpsToNext, falling}
use Rattle.sq_layout.specs.Shrinks.{Shrinks}
use Rattle.sq_layout.specs.Reach.{LedThere}
use Rattle.sq_layout.proofs.Shrinking.{shrunk_in_reach}
use Rattle.sq_jumps.proofs.Blocks.{same_term, term_elsewhere, term_here}

pub fall_rules : (g : Graph) (block to : ℕ) → IsGraph g → term_of g block ≡ Some (Jump to) → next_of g block ≡ Some to → IsGraph (with_term g block Fall)
fall_rules g block to rules jump next = with_term_rules g block Fall rules (has_term g block (Jump to) jump) tt (All-nil (HasBlock g)) (λ on. ap is_some next)

fall_shrinks : (g : Graph) (block to : ℕ) → term_of g block ≡ Some (Jump to) → Shrinks g.blocks (with_term g block Fall).blocks
fall_shrinks g block to jump =
    one_shrinks (λ b. record b { term = Fall }) g.blocks block (λ b is.
    let term : b.term ≡ Jump to = same_term b.term (Jump to) (sym (ap block_term is) ∙ jump) in
    term_shrunk b Fall (omega arith) (λ no. absurd no))

pub fall_applied : (g : Graph) (block : ℕ) → IsGraph g → JumpsToNext g block → IsApplied 1 (falling g block) g (falling g block)
fall_applied g block rules j =
    let h = with_term g block Fall in
    record {
      rules = fall_rules g block j.to rules j.jump j.next;
      follows = fall_follows g block j.to rules j.jump j.next;
      sound = λ sound. fall_sound g block j.to rules j.jump j.next sound;
      reach = λ reach. shrunk_in_reach g (with_term g block Fall) rules.distinct (fall_rules g block j.to rules j.jump j.next).distinct (fall_shrinks g block j.to j.jump) led reach;
      words = fall_saves g block j.to j.jump;
      described = alike_itself (with_term g block Fall);
      kept = λ n has. refl;
    }
  where
    led : LedThere g (with_term g block Fall)
    led n cond a b to e =
        elim (cases_Bool (n == block)) [
          | inl here ↦
              let own : term_of (with_term g block Fall) n ≡ Some Fall = subst (λ k. term_of (with_term g block Fall) k ≡ Some Fall) (sym (eqb-true n block here)) (term_here g block (Jump j.to) Fall j.jump) in
              absurd (let f : Some Fall ≡ Some (Branch cond a b to) = sym own ∙ e in cc)
          | inr apart ↦ inl (cond, a, b, sym (term_elsewhere g block n (λ c. record c { term = Fall }) (λ c. refl) (eqb-false n block apart)) ∙ e)
        ]
