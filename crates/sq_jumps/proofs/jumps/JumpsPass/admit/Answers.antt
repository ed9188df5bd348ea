use Rattle.std.proofs.Common.{sym, ◌∙◌}
use Rattle.sq_jumps.proofs.Cutting.{jump_of, given_jump}
use Rattle.sq_jumps.proofs.jumps.JumpsPass.admit.Goals as goal

pub returns-in_default : goal.returns-in_default
returns-in_default c =
    record {
      some = given_jump c.args.graph.now.graph c.args.cut c.admit_block.result c.admit_block.ensures.some;
      none = λ e given completed candidate. c.admit_block.ensures.none e given completed c.in_default.not-U
          (jump_of c.args.graph.now.graph given candidate (λ same. c.in_default.not-U (sym completed.row ∙ same)));
    }
