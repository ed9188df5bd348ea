use Rattle.std.proofs.Common.{◌≡◌, ◌∙◌, ◌+◌, Some, is_some, refl, sym, ap, arith}
use Rattle.std.specs.Option.{option_copied}
use Rattle.sq_graph.specs.declared.item.Term.{Term}
use Rattle.sq_graph.specs.declared.item.Term.TheVariants.{Fall, Jump, Branch, Call, PartJump, Indirect, Stop}
use Rattle.sq_graph.specs.Words.{term_words}
use Rattle.sq_graph.proofs.LinkReads.{value_of-links, slot_length}
use Rattle.sq_layout.proofs.Walks.{items_few}
use Rattle.sq_chain.proofs.Surveyed.{slot_extent}
use Rattle.sq_chain.proofs.survey.extent_of.Goals.{in-Fall, in_default-term}
use Rattle.sq_chain.proofs.survey.extent_of.Goals as goal

pub unreachable-requires : goal.unreachable-requires
unreachable-requires c =
    let none = sym c.get.ensures ∙ ap (λ o. option_copied o) c.in_default.is in
    let some = sym (ap (λ o. is_some o) none) ∙ value_of-links c.links.result.now.entries c.args.graph.now.graph.blocks c.args.block c.links.ensures.blocks ∙ c.requires.block in
    cc

pub overflow_add-words : goal.overflow_add-words
overflow_add-words c =
    let found = sym c.get.ensures ∙ ap (λ o. option_copied o) c.in-Some.is in
    let length = slot_length c.links.result.now.entries c.args.graph.now.graph.blocks c.args.block c.in-Some.slot.now c.links.ensures.blocks found in
    omega (arith, length, items_few c.args.graph.now.graph c.args.block c.requires.few)

other_words : (t : Term) → (t ≡ Fall → ⊥) → term_words t ≡ 1
other_words Fall other = absurd (other refl)
other_words (Jump to) other = refl
other_words (Branch cond a b to) other = refl
other_words (Call link to) other = refl
other_words (PartJump link part to) other = refl
other_words (Indirect link at offset) other = refl
other_words (Stop word) other = refl

pub returns : goal.returns
returns c =
    let slot = c.in-Some.slot.now in
    let found = sym c.get.ensures ∙ ap (λ o. option_copied o) c.in-Some.is in
    let words : slot.length + term_words slot.term ≡ c.match-term.words =
    elim c.match-term.branch [
      | in-Fall w ↦ omega (arith, ap term_words w.in-Fall.is, w.words-is)
      | in_default-term w ↦ omega (arith, other_words slot.term w.in_default-term.not-Fall, w.words-is)
    ] in
    slot_extent c.links.result.now.entries c.args.graph.now.graph.blocks c.args.block slot c.links.ensures.blocks found
    ∙ ap (λ n. Some (record { name = c.args.block; words = n; term = slot.term })) words
