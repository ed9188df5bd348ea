use mathlib.Core.List.{mem-append_right}
use Rattle.std.proofs.Common.{refl, sym, subst}
use Rattle.sq_graph.specs.Room.{Covers}
use Rattle.sq_pass.specs.Applied.{IsApplied}
use Rattle.sq_pass.proofs.boxed.BoxDynPassPass.apply.Goals as goal

pub apply-requires : goal.apply-requires
apply-requires g c =
    let candidate = subst (λ p. (goal.Pass-dyn g p).is_candidate p.1 c.args.graph.now.graph c.args.cut.now) (sym c.as_ref.ensures.1) c.requires.candidate in
    let room = subst (λ p. Covers c.args.graph.now.spare ((goal.Pass-dyn g p).room_for p.1 c.args.graph.now.graph c.args.cut.now)) (sym c.as_ref.ensures.1) c.requires.room in
    λ κs. (refl, λ i. (tt, (λ a m. i a (mem-append_right _ m), (candidate, room))))

pub returns-clause-applied : goal.returns-clause-applied
returns-clause-applied g c =
    subst (λ p. IsApplied c.args.cut.now.saving ((goal.Pass-dyn g p).described p.1 c.args.graph.now.graph c.args.cut.now) c.args.graph.now.graph c.apply.new.graph.graph) c.as_ref.ensures.1 c.apply.ensures.0
