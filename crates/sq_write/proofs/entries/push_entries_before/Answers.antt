use Rattle.std.proofs.Common.{ℕ, List, inl, inr, get_or, ap, ◌∙◌, nat_lt}
use Rattle.sq_graph.specs.declared.parts.CodeRef.{CodeRef}
use Rattle.sq_write.specs.Written.{word_entry}
use Rattle.sq_write.proofs.WordEntries.{step, is_below, is_not_below}
use Rattle.sq_write.proofs.entries.push_entries_before.Goals as goal
use Rattle.sq_write.proofs.entries.push_entries_before.Goals.{then-word-placed+in_ok-push_word_entry, else-word-placed}

pub loop-word-preserved : goal.loop-word-preserved
loop-word-preserved c =
    let g = c.args.placed.now.g.now.graph in
    let lo : ℕ = c.args.placed.now.lo in
    let list : List CodeRef = c.code_words-word-items.result.now in
    let i : ℕ = c.loop-word.word-index in
    let none : CodeRef = record { at = 0; block = 0 } in
    step (word_entry g lo) (λ word. nat_lt word.at lo) g.code_words list i none c.loop-word.entries.items c.if-word-placed.entries.items _ c.code_words-word-items.ensures c.loop-word-test.true c.loop-word.invariant
    (elim c.if-word-placed.branch [
      | then-word-placed+in_ok-push_word_entry w ↦ inl (is_below (get_or list i none).at lo w.if-word-placed.true, ap (λ v. v.items) w.entries-is ∙ w.in_ok-push_word_entry.ensures)
      | else-word-placed w ↦ inr (is_not_below (get_or list i none).at lo w.if-word-placed.false, ap (λ v. v.items) w.entries-is)
    ])
