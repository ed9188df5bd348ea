use Rattle.std.proofs.Common.{◌<◌, length, arith}
use Rattle.sq_monitor.proofs.ZeroCells.{words_step, kept_step}
use Rattle.sq_monitor.proofs.zeros.insert_pages.Goals as goal

pub loop-word-preserved : goal.loop-word-preserved
loop-word-preserved c =
    let within : c.loop-word.word-index < length c.args.words.now = omega arith in
    record {
      words = words_step c.args.words.now c.loop-word.word-index c.loop-word.pages c.insert_page.new.pages within c.loop-word.invariant.words c.in_ok-insert_page.ensures;
      kept = λ page h. kept_step c.loop-word.pages c.insert_page.new.pages _ c.in_ok-insert_page.ensures page (c.loop-word.invariant.kept page h);
    }
