use Rattle.std.proofs.Common.{◌≡◌, ◌==◌, ◌||◌, not, sym, ap, ◌∙◌}
use Rattle.sq_isa.specs.Registers.{is_among}
use Rattle.sq_graph.specs.Blocks.{all_items}
use Rattle.sq_graph.specs.Uses.{items_uses}
use Rattle.sq_lookup.specs.Counts.{count_at, word_uses}
use Rattle.sq_lookup.proofs.Counting.{used_is}
use Rattle.sq_lookup.proofs.counts.Uses.has.Goals as goal
use Rattle.sq_lookup.proofs.counts.Uses.has.Goals.{then-has_item, else-has_item}

pub returns-then-has_word : goal.returns-then-has_word
returns-then-has_word c = λ g are.
    let they = c.args.self.now in
    let name = c.args.name in
    let items = is_among (items_uses (all_items g)) name in
    let value : c.if-has_item.value ≡ (items || is_among (word_uses g) name) = elim c.if-has_item.branch [
      | then-has_item w ↦ w.value-is ∙ w.if-has_item.true ∙ sym (ap (λ t. t || is_among (word_uses g) name) (sym (c.has_item.ensures g are) ∙ w.if-has_item.true))
      | else-has_item w ↦ w.value-is ∙ w.has_word.ensures g are ∙ sym (ap (λ t. t || is_among (word_uses g) name) (sym (c.has_item.ensures g are) ∙ w.if-has_item.false))
    ] in
    c.if-has_word.true ∙ sym (ap (λ t. t || not (count_at they.terms.items name == 0)) (sym value ∙ c.if-has_word.true)) ∙ used_is g they name are

pub returns-else-has_word : goal.returns-else-has_word
returns-else-has_word c = λ g are.
    let they = c.args.self.now in
    let name = c.args.name in
    let items = is_among (items_uses (all_items g)) name in
    let value : c.if-has_item.value ≡ (items || is_among (word_uses g) name) = elim c.if-has_item.branch [
      | then-has_item w ↦ w.value-is ∙ w.if-has_item.true ∙ sym (ap (λ t. t || is_among (word_uses g) name) (sym (c.has_item.ensures g are) ∙ w.if-has_item.true))
      | else-has_item w ↦ w.value-is ∙ w.has_word.ensures g are ∙ sym (ap (λ t. t || is_among (word_uses g) name) (sym (c.has_item.ensures g are) ∙ w.if-has_item.false))
    ] in
    ap (λ k. not (k == 0)) (c.count.ensures ∙ ap (λ xs. count_at xs name) c.deref.ensures.value)
    ∙ sym (ap (λ t. t || not (count_at they.terms.items name == 0)) (sym value ∙ c.if-has_word.false))
    ∙ used_is g they name are
