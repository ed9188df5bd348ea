use Rattle.std.proofs.Common.{sym, subst}
use Rattle.std.specs.Option.{IsSome}
use Rattle.sq_monitor.proofs.zeros.marked_pages.Goals as goal

pub returns : goal.returns
returns c = record {
  stale = λ x h. c.in_ok-insert_pages.ensures.kept _ (c.in_ok-pages.ensures.every x h);
  words = λ x h. c.in_ok-insert_pages.ensures.words x (subst IsSome (sym (c.code_words.ensures.value.exactly x)) h);
}
