use mathlib.Core.List.{mem-append_right}
use Rattle.std.proofs.Common.{◌≡◌, refl, sym, subst}
use Rattle.sq_pass.proofs.boxed.BoxDynPassPass.room.Goals as goal

pub room-requires : goal.room-requires
room-requires g c = λ κs. (refl, λ i. (tt, (λ a m. i a (mem-append_right _ m), subst (λ p. (goal.Pass-dyn g p).is_candidate p.1 c.args.graph.now.graph c.args.cut.now) (sym c.as_ref.ensures.1) c.requires)))

pub returns-clause-value : goal.returns-clause-value
returns-clause-value g c = subst (λ p. c.room.result ≡ (goal.Pass-dyn g p).room_for p.1 c.args.graph.now.graph c.args.cut.now) c.as_ref.ensures.1 c.room.ensures.0
