use Rattle.std.proofs.Common.{◌≡◌, ◌==◌, ◌||◌, ℕ, refl, ap, ◌∙◌, subst, arith}
use Rattle.std.proofs.lemmas.Bool.{eq-eqb, or_left, or_right}
use Rattle.std.proofs.lemmas.List.{take_all}
use Rattle.sq_lookup.specs.Marks.{is_marked}
use Rattle.sq_chain.proofs.Marked.{AreListed, listed_more, marked_listed, no_branch}
use Rattle.sq_chain.proofs.survey.branches_of.Goals as goal
use Rattle.sq_chain.proofs.survey.branches_of.Goals.{in-Branch, in_default}

pub loop-extent-preserved : goal.loop-extent-preserved
loop-extent-preserved c =
    let e = c.extent-item.result in
    let old = c.loop-extent.branches in
    elim c.match-extent.branch [
      | in-Branch w ↦
          let put : (n : ℕ) → is_marked c.match-extent.branches n ≡ (c.extent-item.result.name == n || is_marked c.loop-extent.branches n) = λ n. ap (λ marks. is_marked marks n) w.branches-is ∙ w.put.ensures n in
          listed_more c.args.extents.now c.loop-extent.extent-index e old c.match-extent.branches c.loop-extent-test.true c.extent-item.is (λ n was. put n ∙ or_right (e.name == n) (is_marked old n) was)
          (λ _. put e.name ∙ or_left (e.name == e.name) (is_marked old e.name) (eq-eqb e.name e.name refl)) c.loop-extent.invariant
      | in_default w ↦
          listed_more c.args.extents.now c.loop-extent.extent-index e old c.match-extent.branches c.loop-extent-test.true c.extent-item.is (λ n was. ap (λ marks. is_marked marks n) w.branches-is ∙ was)
          (λ is. absurd (no_branch e.term w.in_default.not-Branch is)) c.loop-extent.invariant
    ]

pub returns : goal.returns
returns c = λ g listed.
    marked_listed g c.args.extents.now c.loop-extent.branches listed
    (subst (AreListed c.loop-extent.branches) (take_all c.loop-extent.extent-index c.args.extents.now (omega (arith, c.loop-extent-test.false))) c.loop-extent.invariant)
