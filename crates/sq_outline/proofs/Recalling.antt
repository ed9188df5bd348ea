-- What row O3 makes of a graph keeps what a pass promises.
use Rattle.std.proofs.Common.{◌≡◌, ◌≢◌, ℕ, zero, suc, ◌+◌, ◌==◌, List, [], ◌∷◌, map, length, slice_get, refl, sym, ◌∙◌, inl, inr, arith}
use Rattle.std.specs.List.{Contains}
use Rattle.std.proofs.lemmas.Bool.{cases_Bool}
use Rattle.std.proofs.lemmas.List.{length-map}
use Rattle.std.proofs.lemmas.List.Elements.{All-contains}
use Rattle.sq_arena.specs.Entries.{value_of}
use Rattle.sq_graph.specs.Graph.{Block, Procedure, Graph}
use Rattle.sq_graph.specs.Blocks.{named, HasProcedure, block_term, procedure_body, body_of}
use Rattle.sq_graph.specs.Operations.{redirected_calls, without_procedure}
use Rattle.sq_graph.specs.Renames.{recalled_item, recalled_block, recalled_procedure, swapped, lowered}
use Rattle.sq_graph.specs.Rules.{IsGraph}
use Rattle.sq_graph.specs.Uses.{calls}
use Rattle.sq_graph.proofs.AlikeGraphs.{alike_itself}
use Rattle.sq_graph.proofs.OperationRules.{redirected_calls_rules, redirected_calls_unused, without_procedure_rules}
use Rattle.law_follow.proofs.Following.{graph_follows_through}
use Rattle.sq_layout.specs.Reach.{LedThere}
use Rattle.sq_layout.proofs.Shrinking.{shrunk_in_reach}
use Rattle.sq_layout.proofs.Shrunk.{shrinks_twice, each_shrinks, recalled_shrunk}
use Rattle.law_patch.proofs.Recalling.{recall_follows, recall_sound, uncalled_goes_follows, uncalled_goes_sound}
use Rattle.law_patch.proofs.Saving.{recall_saves, uncalled_goes_saves}
use Rattle.sq_pass.specs.Applied.{IsApplied}
use Rattle.sq_outline.specs.Recalled.{AreDoubles, without_double}

-- other numbers leave the terms of blocks and the sizes of bodies
recalled_term : (f : ℕ → ℕ) (bs : List Block) (n : ℕ) → block_term (value_of (named (map (recalled_block f) bs)) n) ≡ block_term (value_of (named bs) n)
recalled_term f [] n = refl
recalled_term f (b ∷ bs) n =
    elim (cases_Bool (b.name == n)) [ inl here ↦ rw here refl | inr apart ↦ rw apart (recalled_term f bs n) ]

pub recalled_size : (f : ℕ → ℕ) (ps : List Procedure) (q : ℕ) → length (procedure_body (slice_get (map (recalled_procedure f) ps) q)) ≡ length (procedure_body (slice_get ps q))
recalled_size f [] q = refl
recalled_size f (p ∷ ps) zero = length-map p.body (recalled_item f)
recalled_size f (p ∷ ps) (suc q) = recalled_size f ps q

module _ (g : Graph) (stays goes : ℕ) (rules : IsGraph g) (doubles : AreDoubles g stays goes) where
  abbrev h : Graph
  h = redirected_calls g goes stays

  pub given_rules : IsGraph (redirected_calls g goes stays)
  given_rules = redirected_calls_rules g goes stays rules doubles.equal.there

  pub still_there : HasProcedure (redirected_calls g goes stays) goes
  still_there = omega (arith, doubles.there, length-map g.procedures (recalled_procedure (swapped goes stays)))

  unused : ¬ Contains (calls (redirected_calls g goes stays)) goes
  unused c =
      All-contains (λ n. n ≢ goes) (calls (redirected_calls g goes stays)) goes (redirected_calls_unused g goes stays doubles.apart rules) c refl

  pub left_rules : IsGraph (without_double g stays goes)
  left_rules =
      without_procedure_rules h goes given_rules still_there (redirected_calls_unused g goes stays doubles.apart rules)

  led : LedThere g (without_double g stays goes)
  led n cond a b to e =
      inl (cond, a, b, sym (recalled_term (lowered goes) h.blocks n ∙ recalled_term (swapped goes stays) g.blocks n) ∙ e)

  -- the calls of the one are the other's, and it is gone
  pub double_applied : IsApplied (length (body_of g goes) + 1) (without_double g stays goes) g (without_double g stays goes)
  double_applied = record {
    rules = left_rules;
    follows =
        graph_follows_through g h (without_procedure h goes) (recall_follows g goes stays rules doubles.equal)
        (uncalled_goes_follows h goes given_rules unused);
    sound = λ sound. uncalled_goes_sound h goes given_rules unused (recall_sound g goes stays rules doubles.equal sound);
    reach = λ reach.
        shrunk_in_reach g (without_double g stays goes) rules.distinct left_rules.distinct
        (shrinks_twice (each_shrinks (recalled_block (swapped goes stays)) (recalled_shrunk (swapped goes stays)) g.blocks)
        (each_shrinks (recalled_block (lowered goes)) (recalled_shrunk (lowered goes)) h.blocks)) led reach;
    words = omega (arith, uncalled_goes_saves h goes still_there, recall_saves g goes stays, recalled_size (swapped goes stays) g.procedures goes);
    described = alike_itself (without_double g stays goes);
    kept = λ n has. refl;
  }
