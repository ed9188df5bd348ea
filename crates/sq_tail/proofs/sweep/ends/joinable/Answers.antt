use Rattle.std.proofs.Common.{arith}
use Rattle.sq_tail.proofs.Sweeping.{end_candidate}
use Rattle.sq_tail.proofs.sweep.ends.joinable.Goals as goal

pub returns : goal.returns
returns c =
    end_candidate c.args.graph.now.graph c.args.dropped c.args.kept c.common_items-length.result (λ e. absurd (omega (arith, c.if-dropped-kept.false, e))) (omega (arith, c.if-length-eq0.false)) c.common_items-length.ensures (c.go_on_alike.ensures.0 c.if-not-go_on_alike.false)
    (omega (arith, c.if-length-eq0.false, c.end_words.ensures, c.if-length-end_words-eq0.false))
