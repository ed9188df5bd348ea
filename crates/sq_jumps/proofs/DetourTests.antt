-- Row J2: what its test finds is a detour.
use Rattle.std.proofs.Common.{◌≡◌, ◌≢◌, ◌⊎◌, ℕ, ℤ, pos, neg_ℤ, true, false, List, Option, Some, inl, inr, sym, ◌∙◌, subst, arith}
use Rattle.std.proofs.lemmas.Bool.{cases_Bool}
use Rattle.std.proofs.lemmas.Int.{ints, by_lt_z}
use Rattle.sq_isa.specs.declared.instructions.Cond.{Cond}
use Rattle.sq_graph.specs.declared.item.Term.{Term}
use Rattle.sq_graph.specs.declared.item.Term.TheVariants.{Branch}
use Rattle.sq_graph.specs.Graph.{Graph}
use Rattle.sq_graph.specs.Blocks.{next_of, term_of}
use Rattle.sq_graph.specs.Operations.{redirected, without_block}
use Rattle.sq_graph.specs.Places.{Reaches}
use Rattle.sq_graph.specs.Resolve.{jump_from}
use Rattle.sq_graph.specs.Rules.{IsGraph}
use Rattle.sq_graph.specs.Terms.{goes_on}
use Rattle.sq_layout.specs.Branches.{BranchReaches}
use Rattle.sq_lookup.specs.Names.{is_listed}
use Rattle.sq_jumps.specs.Surveys.{Needs, IsSurvey}
use Rattle.sq_jumps.specs.Detour.{IsDetour}
use Rattle.sq_lookup.proofs.Targets.{jump_there}
use Rattle.sq_jumps.proofs.Distances.{detour_near}

reaches_or_not : (d : ℤ) → Reaches d ⊎ (Reaches d → ⊥)
reaches_or_not d =
    by_lt_z (pos 4094) d
    (λ above. inr (λ r. let m = r.most in absurd (omega (arith, ints))))
    (λ most. by_lt_z d (neg_ℤ (pos 4096)) (λ below. inr (λ r. let l = r.least in absurd (omega (arith, ints)))) (λ least. inl (record { least = least; most = most })))

module _ (g : Graph) (address : ℕ → Option ℕ) (used needed : List ℕ) (rules : IsGraph g) (survey : IsSurvey g address used needed) where
  not_needed : (from n : ℕ) → is_listed needed n ≡ false → Needs g from n → ⊥
  not_needed from n none need = let yes = (survey.needs_are n).1 (from, need) in cc

  pub detour_is : (block to : ℕ) → jump_from g block ≡ Some to → to ≢ block → is_listed needed block ≡ false → IsDetour g block
  detour_is block to jump other none = record {
    to = to;
    leads = record { jump = jump; other = other; apart = apart };
    near = near;
  }
    where
      apart : (before : ℕ) (term : Term) → next_of g before ≡ Some block → term_of g before ≡ Some term → goes_on term ≡ false
      apart before term next is =
          elim (cases_Bool (goes_on term)) [
            | inl on ↦ absurd (not_needed before block none (inl (record { term = term; is = is; on = on; next = next })))
            | inr off ↦ off
          ]

      near : (from : ℕ) (cond : Cond) (a b : ℕ) → term_of g from ≡ Some (Branch cond a b block) → BranchReaches (without_block (redirected g block to) block) from to
      near from cond a b branch =
          let same = detour_near g block from to cond a b jump branch (jump_there g block to rules jump) other in
          elim (reaches_or_not _) [
            | inl reach ↦ same.1 reach
            | inr far ↦ absurd (not_needed from block none (inr (record { to = to; cond = cond; a = a; b = b; branch = branch; jump = jump; other = other; far = λ reach. far (same.0 reach) })))
          ]

  pub detour_not : (block : ℕ) → is_listed needed block ≡ true → IsDetour g block → ⊥
  detour_not block is detour =
      let need = (survey.needs_are block).0 is in
      elim need.1 [
        | inl into ↦ let off = detour.leads.apart need.0 into.term into.next into.is in let on = into.on in cc
        | inr far ↦
            let to_is : detour.to ≡ far.to = let f : Some detour.to ≡ Some far.to = sym detour.leads.jump ∙ far.jump in cc in
            far.far (subst (λ n. BranchReaches (without_block (redirected g block n) block) need.0 n) to_is (detour.near need.0 far.cond far.a far.b far.branch))
      ]
