use Rattle.std.proofs.Common.{ℕ, List, inl, inr, get_or, ap, ◌∙◌, nat_le}
use Rattle.sq_graph.specs.declared.parts.CodeRef.{CodeRef}
use Rattle.sq_write.specs.Written.{word_entry}
use Rattle.sq_write.proofs.WordEntries.{step, is_at_most, is_not_at_most}
use Rattle.sq_write.proofs.entries.push_entries_behind.Goals as goal
use Rattle.sq_write.proofs.entries.push_entries_behind.Goals.{then-placed-word+in_ok-push_word_entry, else-placed-word}

pub loop-word-preserved : goal.loop-word-preserved
loop-word-preserved c =
    let g = c.args.placed.now.g.now.graph in
    let lo : ℕ = c.args.placed.now.lo in
    let list : List CodeRef = c.code_words-word-items.result.now in
    let i : ℕ = c.loop-word.word-index in
    let none : CodeRef = record { at = 0; block = 0 } in
    step (word_entry g lo) (λ word. nat_le lo word.at) g.code_words list i none c.loop-word.entries.items c.if-placed-word.entries.items _ c.code_words-word-items.ensures c.loop-word-test.true c.loop-word.invariant
    (elim c.if-placed-word.branch [
      | then-placed-word+in_ok-push_word_entry w ↦ inl (is_at_most lo (get_or list i none).at w.if-placed-word.true, ap (λ v. v.items) w.entries-is ∙ w.in_ok-push_word_entry.ensures)
      | else-placed-word w ↦ inr (is_not_at_most lo (get_or list i none).at w.if-placed-word.false, ap (λ v. v.items) w.entries-is)
    ])
