use Rattle.sq_machine.proofs.Pieces.{no_bare_ram}
use Rattle.sq_machine.proofs.bare_ram.bare_from.Goals as goal

pub returns-then-low-base : goal.returns-then-low-base
returns-then-low-base c = no_bare_ram c.args.pieces.now c.args.base c.args.size

pub returns-then-meets_ram : goal.returns-then-meets_ram
returns-then-meets_ram c = no_bare_ram c.args.pieces.now c.args.base c.args.size
