use Rattle.std.proofs.Common.{◌≡◌, take, ap, ◌∙◌}
use Rattle.byteorder.specs.Endian.{little_bytes}
use Rattle.sq_machine.specs.State.{with_bytes}
use Rattle.sq_machine.specs.Views.{state_of}
use Rattle.sq_machine.proofs.MemoryWrites.{take-little}
use Rattle.sq_machine.proofs.hart.Hart.put_number.Goals as goal

pub returns : goal.returns
returns c =
    let e : take c.args.width c.to_le_bytes-bytes.result ≡ little_bytes c.args.width c.args.number = ap (take c.args.width) c.to_le_bytes-bytes.ensures ∙ take-little c.args.width c.args.number c.requires.width in
    c.put_bytes.ensures ∙ ap (λ bytes. with_bytes c.args.address bytes (state_of c.args.self.now)) e
