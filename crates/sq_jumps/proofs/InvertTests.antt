-- Row J3: what its test finds is a Branch over a lone Jump that can go.
use Rattle.std.proofs.Common.{◌≡◌, ℕ, zero, suc, ◌<◌, ◌^◌, Bool, true, false, not, ◌||◌, nat_eq, List, [], ◌∷◌, Option, None, Some, inl, inr, refl, sym, ap, ◌∙◌, subst, arith}
use Rattle.std.specs.List.{Contains}
use Rattle.std.specs.Option.{option_eq}
use Rattle.std.proofs.lemmas.Bool.{cases_Bool, eqb-true, eq-eqb}
use Rattle.sq_isa.specs.declared.instructions.Cond.{Cond}
use Rattle.sq_isa.specs.Branches.{inverse_of}
use Rattle.sq_graph.specs.declared.item.Term.TheVariants.{Branch}
use Rattle.sq_graph.specs.Graph.{Graph}
use Rattle.sq_graph.specs.Blocks.{next_of, term_of}
use Rattle.sq_graph.specs.Resolve.{jump_from}
use Rattle.sq_graph.specs.Rules.{IsGraph}
use Rattle.sq_graph.specs.Uses.{uses}
use Rattle.sq_graph.specs.Words.{words_of}
use Rattle.law_patch.specs.LoneJumps.{IsJumpedOver}
use Rattle.sq_lookup.specs.Names.{is_listed}
use Rattle.sq_jumps.specs.Surveys.{ReachesWithout, IsSurvey}
use Rattle.sq_jumps.specs.Invert.{BranchesOverJump, IsStillSafe}
use Rattle.sq_lookup.proofs.Targets.{jump_there}
use Rattle.sq_layout.proofs.Shrunk.{all_stay}
use Rattle.sq_jumps.proofs.Distances.{invert_near}
use Rattle.sq_jumps.proofs.InvertApplied.{invert_to_apart}

module _ (g : Graph) (address : ℕ → Option ℕ) (used needed : List ℕ) (rules : IsGraph g) (survey : IsSurvey g address used needed) where
  listed_if : (xs : List ℕ) (x : ℕ) → Contains xs x → is_listed xs x ≡ true
  listed_if [] x c = absurd (omega (arith, c.1))
  listed_if (y ∷ xs) x (zero, l, e) = or_left (nat_eq x y) (is_listed xs x) (eq-eqb x y (sym e))
    where
      or_left : (a b : Bool) → a ≡ true → (a || b) ≡ true
      or_left true b e = refl
      or_left false b e = absurd (cc)
  listed_if (y ∷ xs) x (suc k, l, e) = or_right (nat_eq x y) (is_listed xs x) (listed_if xs x (k, omega (arith, l), e))
    where
      or_right : (a b : Bool) → b ≡ true → (a || b) ≡ true
      or_right true b e = refl
      or_right false b e = e

  contains_if : (xs : List ℕ) (x : ℕ) → is_listed xs x ≡ true → Contains xs x
  contains_if [] x e = absurd (cc)
  contains_if (y ∷ xs) x e =
      elim (cases_Bool (nat_eq x y)) [
        | inl same ↦ (0, omega arith, sym (eqb-true x y same))
        | inr apart ↦ let later = contains_if xs x (rw apart at e) in (suc later.0, omega (arith, later.1), later.2)
      ]

  pub unused_if : (n : ℕ) → is_listed used n ≡ false → ¬ Contains (uses g) n
  unused_if n none c = let yes = survey.uses_are n ∙ listed_if (uses g) n c in cc

  -- a survey is on the safe side of its own graph
  pub survey_safe : words_of g < 2 ^ 31 → IsStillSafe address used g
  survey_safe few =
      record { before = g; distinct = rules.distinct; few = few; addresses = survey.addresses; shrinks = all_stay g.blocks; unused = unused_if }

  pub invert_unused : (block over : ℕ) → next_of g block ≡ Some over → is_listed used over ≡ true → BranchesOverJump g block → ⊥
  invert_unused block over next is o =
      let same : o.over ≡ over = let f : Some o.over ≡ Some over = sym o.jumped.next ∙ next in cc in
      o.jumped.unused (subst (λ n. Contains (uses g) n) (sym same) (contains_if (uses g) over (sym (survey.uses_are over) ∙ is)))

  pub invert_reaches : (block : ℕ) (cond : Cond) (a b over behind to : ℕ) → term_of g block ≡ Some (Branch cond a b behind) → next_of g block ≡ Some over → jump_from g over ≡ Some to → BranchesOverJump g block → ReachesWithout g over block to
  invert_reaches block cond a b over behind to branch next jump o =
      let over_same : o.over ≡ over = let f : Some o.over ≡ Some over = sym o.jumped.next ∙ next in cc in
      let to_same : o.to ≡ to = let f : Some o.to ≡ Some to = sym o.jumped.jump ∙ (ap (jump_from g) over_same ∙ jump) in cc in
      let other = invert_to_apart g block o.cond o.a o.b o.over o.behind o.to o.cond rules o.jumped in
      let reach = (invert_near g o.over block o.to o.cond (inverse_of o.cond) o.a o.b o.behind o.a o.b o.jumped.jump o.jumped.branch (jump_there g o.over o.to rules o.jumped.jump) other).0 o.near in
      subst (λ n. ReachesWithout g n block to) over_same (subst (λ n. ReachesWithout g o.over block n) to_same reach)

pub invert_is : (g : Graph) (block : ℕ) (cond : Cond) (a b over behind to : ℕ) → IsGraph g → term_of g block ≡ Some (Branch cond a b behind) → next_of g block ≡ Some over → next_of g over ≡ Some behind → jump_from g over ≡ Some to → ¬ Contains (uses g) over → ReachesWithout g over block to → BranchesOverJump g block
invert_is g block cond a b over behind to rules branch next slot jump none reach =
    let jumped : IsJumpedOver g block cond a b over behind to = record { branch = branch; next = next; slot = slot; jump = jump; unused = none } in
    let other = invert_to_apart g block cond a b over behind to cond rules jumped in
    record {
      cond = cond;
      a = a;
      b = b;
      over = over;
      behind = behind;
      to = to;
      jumped = jumped;
      near = (invert_near g over block to cond (inverse_of cond) a b behind a b jump branch (jump_there g over to rules jump) other).1 reach;
    }

-- a test of slots that doesn't fail
pub slot_if : (o : Option ℕ) (n : ℕ) → false ≡ not (option_eq nat_eq o (Some n)) → o ≡ Some n
slot_if None n e = absurd (cc)
slot_if (Some m) n e = elim (cases_Bool (nat_eq m n)) [ inl same ↦ ap Some (eqb-true m n same) | inr apart ↦ absurd (differ (rw apart at e)) ]
  where
    differ : false ≡ true → ⊥
    differ e = cc
