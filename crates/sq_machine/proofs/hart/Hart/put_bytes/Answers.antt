use Rattle.std.proofs.Common.{refl}
use Rattle.sq_machine.specs.Views.{state_of}
use Rattle.sq_machine.proofs.MemoryWrites.{with_bytes-regions}
use Rattle.sq_machine.proofs.hart.Hart.put_bytes.Goals as goal

pub returns : goal.returns
unfolding state_of
returns c = with_bytes-regions (state_of c.args.self.now) c.args.self.now.memory c.put_all.new.self c.args.x c.args.bytes.now refl c.put_all.ensures
