-- What names resolve to, hop by hop.
use Rattle.std.proofs.Common.{◌≡◌, ℕ, zero, suc, ◌+◌, ◌-◌, ◌<◌, ◌≤◌, arith, ◌==◌, ◌||◌, Bool, true, false, true≢false, length, Option, None, Some, inl, inr, refl, sym, ap, ◌∙◌, subst}
use Rattle.std.proofs.lemmas.Bool.{cases_Bool, eqb-true, eq-eqb}
use Rattle.sq_graph.specs.Graph.{Graph}
use Rattle.sq_graph.specs.Resolve.{jump_from, leads_to, is_on_cycle, resolved_within}

-- what at most so many hops and one more tell
abbrev hop : Graph → ℕ → ℕ → Option ℕ → Bool
hop g left goal o = elim o [ None ↦ false | Some to ↦ to == goal || leads_to g left to goal ]

pub leads_nowhere : (g : Graph) (left at goal : ℕ) → jump_from g at ≡ None → leads_to g left at goal ≡ false
leads_nowhere g zero at goal jump = refl
leads_nowhere g (suc left) at goal jump = ap (hop g left goal) jump

pub leads_there : (g : Graph) (left at goal to : ℕ) → jump_from g at ≡ Some to → (to == goal) ≡ true → leads_to g (suc left) at goal ≡ true
leads_there g left at goal to jump same = ap (hop g left goal) jump ∙ ap (λ t. t || leads_to g left to goal) same

pub leads_on : (g : Graph) (left at goal to : ℕ) → jump_from g at ≡ Some to → (to == goal) ≡ false → leads_to g (suc left) at goal ≡ leads_to g left to goal
leads_on g left at goal to jump apart = ap (hop g left goal) jump ∙ ap (λ t. t || leads_to g left to goal) apart

pub resolves_here : (g : Graph) (left at : ℕ) → is_on_cycle g at ≡ true → resolved_within g left at ≡ at
resolves_here g zero at cycle = refl
resolves_here g (suc left) at cycle = rw cycle refl

pub resolves_last : (g : Graph) (left at : ℕ) → is_on_cycle g at ≡ false → jump_from g at ≡ None → resolved_within g left at ≡ at
resolves_last g zero at off jump = refl
resolves_last g (suc left) at off jump = rw off (rw jump refl)

pub resolves_on : (g : Graph) (left at to : ℕ) → is_on_cycle g at ≡ false → jump_from g at ≡ Some to → resolved_within g (suc left) at ≡ resolved_within g left to
resolves_on g left at to off jump = rw off (rw jump refl)

-- where fewer hops lead, more do
pub fewer : (g : Graph) (more left at goal : ℕ) → leads_to g (more + left) at goal ≡ false → leads_to g left at goal ≡ false
fewer g more zero at goal not = refl
fewer g more (suc left) at goal not =
    let one : more + suc left ≡ suc (more + left) = omega arith in
    by_jump (jump_from g at) refl (ap (λ n. leads_to g n at goal) (sym one) ∙ not) (λ to. fewer g more left to goal)
  where
    by_jump : (o : Option ℕ) → jump_from g at ≡ o → leads_to g (suc (more + left)) at goal ≡ false → ((to : ℕ) → leads_to g (more + left) to goal ≡ false → leads_to g left to goal ≡ false) → leads_to g (suc left) at goal ≡ false
    by_jump None jump none behind = leads_nowhere g (suc left) at goal jump
    by_jump (Some to) jump none behind =
        elim (cases_Bool (to == goal)) [
          | inl same ↦ absurd (true≢false (sym (leads_there g (more + left) at goal to jump same) ∙ none))
          | inr apart ↦ leads_on g left at goal to jump apart ∙ behind to (sym (leads_on g (more + left) at goal to jump apart) ∙ none)
        ]

-- marks to which hops may come back

-- here is some hops after the mark: with so many more, the mark leads to the goal just where here does
abbrev pub IsPassed : Graph → ℕ → ℕ → ℕ → Type 0
IsPassed g mark at goal = (passed : ℕ) × ((left : ℕ) → leads_to g (passed + left) mark goal ≡ leads_to g left at goal)

pub passed_here : (g : Graph) (at goal : ℕ) → IsPassed g at at goal
passed_here g at goal = (0, λ left. let none : 0 + left ≡ left = omega arith in ap (λ n. leads_to g n at goal) none)

pub passed_on : (g : Graph) (mark at goal to : ℕ) → IsPassed g mark at goal → jump_from g at ≡ Some to → (to == goal) ≡ false → IsPassed g mark to goal
passed_on g mark at goal to is jump apart = (
  suc is.0,
  λ left.
      let one : suc is.0 + left ≡ is.0 + suc left = omega arith in
      ap (λ n. leads_to g n mark goal) one ∙ is.1 (suc left) ∙ leads_on g left at goal to jump apart,
)

-- where hops come to the mark again without the goal, they never come to it
pub round : (g : Graph) (mark at goal : ℕ) → IsPassed g mark at goal → jump_from g at ≡ Some mark → (mark == goal) ≡ false → (left : ℕ) → leads_to g left mark goal ≡ false
round g mark at goal is jump apart zero = refl
round g mark at goal is jump apart (suc left) =
    fewer g is.0 (suc left) mark goal (is.1 (suc left) ∙ leads_on g left at goal mark jump apart ∙ round g mark at goal is jump apart left)

-- blocks before the end

pub leads_from : (g : Graph) (left at goal to : ℕ) → jump_from g at ≡ Some to → leads_to g left to goal ≡ true → leads_to g (suc left) at goal ≡ true
leads_from g left at goal to jump leads =
    elim (cases_Bool (to == goal)) [
      | inl same ↦ leads_there g left at goal to jump same
      | inr apart ↦ leads_on g left at goal to jump apart ∙ leads
    ]

-- where hops lead to a block, one more leads to where it jumps
pub leads_past : (g : Graph) (left at goal to : ℕ) → leads_to g left at goal ≡ true → jump_from g goal ≡ Some to → leads_to g (suc left) at to ≡ true
leads_past g zero at goal to leads jump = absurd (true≢false (sym leads))
leads_past g (suc left) at goal to leads jump = by_jump (jump_from g at) refl (λ next on. leads_past g left next goal to on jump)
  where
    by_jump : (o : Option ℕ) → jump_from g at ≡ o → ((next : ℕ) → leads_to g left next goal ≡ true → leads_to g (suc left) next to ≡ true) → leads_to g (suc (suc left)) at to ≡ true
    by_jump None none behind = absurd (true≢false (sym leads ∙ leads_nowhere g (suc left) at goal none))
    by_jump (Some next) first behind =
        leads_from g (suc left) at to next first (
        elim (cases_Bool (next == goal)) [
          | inl same ↦ leads_there g left next to to (ap (jump_from g) (eqb-true next goal same) ∙ jump) (eq-eqb to to refl)
          | inr apart ↦ behind next (sym (leads_on g left at goal next first apart) ∙ leads)
        ]
        )

-- the block to which one on a cycle jumps is on it, too
pub off_before : (g : Graph) (left at to : ℕ) → jump_from g at ≡ Some to → leads_to g left to to ≡ false → leads_to g left at at ≡ false
off_before g zero at to jump off = refl
off_before g (suc left) at to jump off =
    elim (cases_Bool (to == at)) [
      | inl same ↦ subst (λ n. leads_to g (suc left) n n ≡ false) (eqb-true to at same) off
      | inr apart ↦ leads_on g left at at to jump apart ∙ elim (cases_Bool (leads_to g left to at)) [
        | inl back ↦ absurd (true≢false (sym (leads_past g left to at to back jump) ∙ off))
        | inr not ↦ not
      ]
    ]

-- no other block that jumps to this one is on a cycle
abbrev pub AreOffBefore : Graph → ℕ → Type 0
AreOffBefore g at = (from : ℕ) → jump_from g from ≡ Some at → (at == from) ≡ false → is_on_cycle g from ≡ false

pub off_before_off : (g : Graph) (at : ℕ) → is_on_cycle g at ≡ false → AreOffBefore g at
off_before_off g at off from jump apart = off_before g (length g.blocks) from at jump off

-- a Jump to itself leads to no other block
pub leads_itself : (g : Graph) (left at goal : ℕ) → jump_from g at ≡ Some at → (at == goal) ≡ false → leads_to g left at goal ≡ false
leads_itself g zero at goal jump apart = refl
leads_itself g (suc left) at goal jump apart = leads_on g left at goal at jump apart ∙ leads_itself g left at goal jump apart

pub off_before_itself : (g : Graph) (at : ℕ) → jump_from g at ≡ Some at → AreOffBefore g at
off_before_itself g at itself from jump apart = within (length g.blocks)
  where
    within : (left : ℕ) → leads_to g left from from ≡ false
    within zero = refl
    within (suc left) = leads_on g left from from at jump apart ∙ leads_itself g left at from itself apart

pub resolves_itself : (g : Graph) (left at : ℕ) → jump_from g at ≡ Some at → resolved_within g left at ≡ at
resolves_itself g zero at jump = refl
resolves_itself g (suc left) at jump =
    elim (cases_Bool (is_on_cycle g at)) [
      | inl cycle ↦ resolves_here g (suc left) at cycle
      | inr off ↦ resolves_on g left at at off jump ∙ resolves_itself g left at jump
    ]

-- hops that are left

pub one_left : (n k : ℕ) → k < n → n - k ≡ suc (n - (k + 1))
one_left n k below = omega (arith, below)

pub none_left : (n k : ℕ) → n ≤ k → n - k ≡ 0
none_left n k past = omega (arith, past)
