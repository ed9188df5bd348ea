-- The laws of the table, at the word that was made.
use Rattle.std.proofs.Common.{◌∙◌, sym, ap}
use Rattle.sq_isa.specs.Table.{insn_of}
use Rattle.sq_isa.proofs.Encoded.{insn_of-word_of}
use Rattle.sq_isa.proofs.Unique.{word_of-unique}
use Rattle.sq_encode.proofs.encode.Goals as goal

pub returns-clause-read_back : goal.returns-clause-read_back
returns-clause-read_back c = ap insn_of c.assemble.ensures ∙ insn_of-word_of c.args.insn.now c.requires

pub returns-clause-only : goal.returns-clause-only
returns-clause-only c = λ other below same. word_of-unique other c.args.insn.now below same ∙ sym c.assemble.ensures
