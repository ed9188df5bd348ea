-- of no section nothing, and then one more
use Rattle.std.proofs.Common.{◌+◌, refl, arith}
use Rattle.sq_reloc.specs.Gathering.{IsNoted}
use Rattle.sq_reloc.specs.Repeats.{fresh_before}
use Rattle.sq_reloc.proofs.TablePasses.{next_section}
use Rattle.sq_reloc.proofs.words.noted_of.Goals as goal

pub loop-index-init : goal.loop-index-init
unfolding fresh_before
loop-index-init c = record { words_are = c.in_ok-words.ensures; refused_is = refl }

pub loop-index-preserved : goal.loop-index-preserved
loop-index-preserved c =
    next_section (IsNoted c.args.elf.now c.add_section.new.self) c.args.elf.now c.loop-index.index (c.loop-index.index + 1) (omega arith)
    (c.add_section.ensures (fresh_before c.args.elf.now c.loop-index.index) c.loop-index.invariant)
