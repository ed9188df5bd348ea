use Rattle.std.proofs.Common.{◌≡◌, ◌<◌, ℕ, length, IsSome, ap, ◌∙◌, subst, arith}
use Rattle.std.proofs.lemmas.Result.{IfOk-weaker}
use Rattle.sq_finger.specs.Numbers.{member_at}
use Rattle.sq_fold.specs.Stable.{IsCoarsest}
use Rattle.sq_fold.proofs.Relabelling.{coarsest_by}
use Rattle.sq_fold.proofs.rounds.coarsest.Goals as goal

pub by_rounds-requires : goal.by_rounds-requires
by_rounds-requires c =
    let many = ap length c.deref.ensures.value ∙ c.in_ok-labelled.ensures.many in
    let few = c.requires in
    omega arith

pub returns-clause-many : goal.returns-clause-many
returns-clause-many c =
    IfOk-weaker c.by_rounds.result (λ classes. length classes.items ≡ length c.deref.result.now) (λ classes. length classes.items ≡ length c.args.nodes.now)
    (λ classes e. e ∙ ap length c.deref.ensures.value ∙ c.in_ok-labelled.ensures.many)
    c.by_rounds.ensures.many

pub returns-clause-some : goal.returns-clause-some
returns-clause-some c =
    let many = ap length c.deref.ensures.value ∙ c.in_ok-labelled.ensures.many in
    IfOk-weaker c.by_rounds.result (λ classes. (i : ℕ) → i < length c.deref.result.now → IsSome (member_at classes.items i)) (λ classes. (i : ℕ) → i < length c.args.nodes.now → IsSome (member_at classes.items i))
    (λ classes some i l. some i (omega arith))
    c.by_rounds.ensures.some

pub returns-clause-coarsest : goal.returns-clause-coarsest
returns-clause-coarsest c =
    IfOk-weaker c.by_rounds.result (λ classes. IsCoarsest c.deref.result.now (member_at classes.items)) (λ classes. IsCoarsest c.args.nodes.now (member_at classes.items))
    (λ classes coarsest. coarsest_by c.args.nodes.now c.in_ok-labelled.labelled.items (member_at classes.items) c.in_ok-labelled.ensures (subst (λ ns. IsCoarsest ns (member_at classes.items)) c.deref.ensures.value coarsest))
    c.by_rounds.ensures.coarsest
