use Rattle.std.proofs.Common.{◌+◌, take, ap, arith}
use Rattle.sq_graph.specs.Uses.{code_word_uses}
use Rattle.sq_lookup.specs.Counts.{times_named}
use Rattle.sq_lookup.proofs.Counting.{times_word}
use Rattle.sq_lookup.proofs.counts.count_words.Goals as goal

pub loop-word-preserved : goal.loop-word-preserved
loop-word-preserved c = λ n.
    let i = c.loop-word.word-index in
    let words = c.code_words-word-items in
    omega (
      arith,
      c.in_ok-add_one-2.ensures n,
      c.loop-word.invariant n,
      times_word words.result.now i n (record { at = 0; block = 0 }) c.loop-word-test.true,
      ap (λ ws. times_named (code_word_uses (take i ws)) n) words.ensures,
      ap (λ ws. times_named (code_word_uses (take (i + 1) ws)) n) words.ensures,
    )
