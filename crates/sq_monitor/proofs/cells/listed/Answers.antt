use Rattle.std.proofs.Common.{◌<◌, length, sym, ◌∙◌, arith}
use Rattle.std.specs.Ordering.{nat_cmp}
use Rattle.std.specs.BTreeMap as tree
use Rattle.sq_monitor.proofs.FirstCells.{no_word, listed_more}
use Rattle.sq_monitor.proofs.cells.listed.Goals as goal

pub loop-word-preserved : goal.loop-word-preserved
loop-word-preserved c = λ address.
    let within : c.loop-word.word-index < length c.args.words.now = omega arith in
    c.in_ok-put_first.ensures address
    ∙ sym (listed_more c.args.words.now c.loop-word.word-index no_word address (tree.get nat_cmp c.loop-word.targets address) within (c.loop-word.invariant address))
