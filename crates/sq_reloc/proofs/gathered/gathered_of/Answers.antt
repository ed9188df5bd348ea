-- of no section nothing, and then one more
use Rattle.std.proofs.Common.{◌+◌, refl, rules, arith}
use Rattle.sq_reloc.specs.Gathering.{IsGathered}
use Rattle.sq_reloc.specs.Repeats.{fresh_before}
use Rattle.sq_reloc.proofs.TablePasses.{next_section}
use Rattle.sq_reloc.proofs.gathered.gathered_of.Goals as goal

pub loop-index-init : goal.loop-index-init
unfolding fresh_before
loop-index-init c = record { stale_is = λ address. search rules; targets_are = λ address. search rules; uppers_are = λ address. search rules; lacking_is = refl }

pub loop-index-preserved : goal.loop-index-preserved
loop-index-preserved c =
    next_section (IsGathered c.args.elf.now c.add_section.new.self) c.args.elf.now c.loop-index.index (c.loop-index.index + 1) (omega arith)
    (c.in_ok-add_section.ensures (fresh_before c.args.elf.now c.loop-index.index) c.loop-index.invariant)
