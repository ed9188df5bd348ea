use Rattle.std.proofs.Common.{◌+◌, drop, not, ap, refl, sym, ◌∙◌, arith}
use Rattle.sq_graph.specs.Blocks.{body_of}
use Rattle.sq_layout.proofs.Counts.{procedure_here}
use Rattle.sq_lookup.specs.Names.{is_listed}
use Rattle.sq_jumps.proofs.UnreachedCounted.{called_words, uncalled_words, all_uncalled_few}
use Rattle.sq_jumps.proofs.unreached.words_of_uncalled.Goals as goal

pub loop-procedure-preserved-then-has : goal.loop-procedure-preserved-then-has
loop-procedure-preserved-then-has c =
    let g = c.args.graph.now.graph in
    let k = c.loop-procedure.procedure in
    let h = procedure_here g k (body_of g k) (omega arith) refl in
    let called = sym c.has.ensures ∙ c.if-has.true in
    let skip = called_words (is_listed c.args.called.now) k h.procedure (drop k g.procedures) (drop (k + 1) g.procedures) h.rest called in
    let so_far = c.loop-procedure.invariant in
    ap (λ n. c.loop-procedure.words + n) (sym skip) ∙ so_far

pub overflow_add-words-in-loop-procedure : goal.overflow_add-words-in-loop-procedure
overflow_add-words-in-loop-procedure c =
    let g = c.args.graph.now.graph in
    let k = c.loop-procedure.procedure in
    let h = procedure_here g k c.body.result.now (omega arith) c.body.ensures in
    let called = sym c.has.ensures ∙ c.if-has.false in
    let add = uncalled_words (is_listed c.args.called.now) k h.procedure (drop k g.procedures) (drop (k + 1) g.procedures) h.rest called in
    let so_far = c.loop-procedure.invariant in
    omega (arith, add, so_far, h.words, all_uncalled_few g (λ q. not (is_listed c.args.called.now q)) c.requires)

pub loop-procedure-preserved : goal.loop-procedure-preserved
loop-procedure-preserved c =
    let g = c.args.graph.now.graph in
    let k = c.loop-procedure.procedure in
    let h = procedure_here g k c.body.result.now (omega arith) c.body.ensures in
    let called = sym c.has.ensures ∙ c.if-has.false in
    let add = uncalled_words (is_listed c.args.called.now) k h.procedure (drop k g.procedures) (drop (k + 1) g.procedures) h.rest called in
    let so_far = c.loop-procedure.invariant in
    omega (arith, add, so_far, h.words)
