use Rattle.std.proofs.Common.{subst}
use Rattle.sq_graph.specs.Room.{Covers}
use Rattle.test_graphs.proofs.passes.applied.Goals as goal

pub apply-requires : goal.apply-requires
apply-requires g c =
    record {
      candidate = rw c.in-Some.is at c.in_ok-cut.ensures.some;
      room = subst (λ room. Covers c.args.graph.now.spare room) c.room-room.ensures.value
          (subst (λ spare. Covers spare c.room-room.result) c.spare-spare.ensures.value
          (record { blocks = c.if-spare-room.false; items = c.if-spare-room-2.false; procedures = c.if-spare-room-3.false }));
    }
