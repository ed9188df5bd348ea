use Rattle.std.proofs.Common.{subst}
use Rattle.std.specs.Prelude.{IfSome}
use Rattle.sq_tail.specs.Admitted.{TwoBlocks, CanJoin, Saves}
use Rattle.sq_tail.proofs.Admitting.{admitted, completes, one_pair}
use Rattle.sq_tail.proofs.admit.admit_cut.Goals as goal

pub returns-in_default-saving_of-clause-none : goal.returns-in_default-saving_of-clause-none
returns-in_default-saving_of-clause-none c = λ e given completed candidate.
    let g = c.args.graph.now.graph in
    let n = c.args.cut.length in
    let x = completes g c.args.cut given completed candidate in
    let two : TwoBlocks c.args.cut c.in-Some.dropped c.in-Some.kept = subst (λ o. IfSome o (λ pair. TwoBlocks c.args.cut pair.0 pair.1)) c.in-Some.is c.two_blocks.ensures.some in
    let same = one_pair c.args.cut x.0 x.1.0 c.in-Some.dropped c.in-Some.kept x.1.1.0 two in
    let can = subst (λ d. CanJoin g d c.in-Some.kept n) same.0 (subst (λ k. CanJoin g x.0 k n) same.1 x.1.1.1.0) in
    c.saving_of.ensures.none c.in_default-saving_of.is can x.1.1.1.1.0 (subst (λ d. Saves g d n x.1.1.1.1.0) same.0 x.1.1.1.1.1)

pub returns-clause-some : goal.returns-clause-some
returns-clause-some c =
    let g = c.args.graph.now.graph in
    let n = c.args.cut.length in
    let two : TwoBlocks c.args.cut c.in-Some.dropped c.in-Some.kept = subst (λ o. IfSome o (λ pair. TwoBlocks c.args.cut pair.0 pair.1)) c.in-Some.is c.two_blocks.ensures.some in
    let both : CanJoin g c.in-Some.dropped c.in-Some.kept n × Saves g c.in-Some.dropped n c.in-Some-saving_of.saving =
    subst (λ o. IfSome o (λ saving. CanJoin g c.in-Some.dropped c.in-Some.kept n × Saves g c.in-Some.dropped n saving)) c.in-Some-saving_of.is c.saving_of.ensures.some in
    admitted g c.args.cut (record c.args.cut { link = c.no_register.result; saving = c.in-Some-saving_of.saving }) c.in-Some.dropped c.in-Some.kept c.in-Some-saving_of.saving two both.0 both.1
    (λ i. record c.args.cut { link = c.no_register.ensures i; saving = c.in-Some-saving_of.saving })
