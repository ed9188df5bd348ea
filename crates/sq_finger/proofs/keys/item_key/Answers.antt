use Rattle.std.proofs.Common.{sym, ◌∙◌}
use Rattle.sq_finger.proofs.Keying.{only_instruction}
use Rattle.sq_finger.proofs.keys.item_key.Goals as goal

pub returns-in-Op-clause-only : goal.returns-in-Op-clause-only
returns-in-Op-clause-only c = λ other fits e. only_instruction c.in-Op.insn c.encode.result c.encode.ensures.read_back other fits e ∙ sym c.in-Op.is
