use Rattle.std.proofs.Common.{◌<◌, List, length, slice_index_or, sym, ap, ◌∙◌, subst, arith}
use Rattle.sq_graph.specs.declared.parts.CodeRef.{CodeRef}
use Rattle.sq_graph.specs.Graph.{Graph}
use Rattle.sq_lookup.specs.Counts.{AreUses}
use Rattle.sq_chain.specs.Passing.{IsHandedOn}
use Rattle.sq_chain.proofs.HandedOn.{word_handed, word_counted, word_uses_are}
use Rattle.sq_chain.proofs.PassedOn.{added}
use Rattle.sq_chain.proofs.handing.hand_word.Goals as goal

pub take_word-requires : goal.take_word-requires
take_word-requires c =
    let g = c.args.graph.now.graph in
    let other : CodeRef = record { at = 0; block = 0 } in
    let within : c.args.at < length c.args.graph.now.graph.code_words = omega (arith, c.if-words-at.false, ap length c.code_words-words.ensures) in
    let is = ap (λ (ws : List CodeRef). (slice_index_or ws c.args.at (record { at = 0; block = 0 })).block) (sym c.code_words-words.ensures) ∙ c.if-words-at-2.false in
    word_counted g c.args.at c.args.bare c.args.next other within is c.args.uses.now c.add_word.new.self c.requires.uses (added c.add_word.result c.add_word.ensures (sym c.is_err.ensures.value ∙ c.if-is_err.false))

pub returns-clause-handed : goal.returns-clause-handed
returns-clause-handed c =
    let g = c.args.graph.now.graph in
    let other : CodeRef = record { at = 0; block = 0 } in
    let within : c.args.at < length c.args.graph.now.graph.code_words = omega (arith, c.if-words-at.false, ap length c.code_words-words.ensures) in
    let is = ap (λ (ws : List CodeRef). (slice_index_or ws c.args.at (record { at = 0; block = 0 })).block) (sym c.code_words-words.ensures) ∙ c.if-words-at-2.false in
    subst (λ (k : Graph). IsHandedOn c.args.bare c.args.next c.args.graph.now.graph k) (sym c.set_word.ensures.graph)
    (word_handed g c.args.at c.args.bare c.args.next other within is)

pub returns-clause-uses : goal.returns-clause-uses
returns-clause-uses c = λ done.
    let g = c.args.graph.now.graph in
    let other : CodeRef = record { at = 0; block = 0 } in
    let within : c.args.at < length c.args.graph.now.graph.code_words = omega (arith, c.if-words-at.false, ap length c.code_words-words.ensures) in
    let is = ap (λ (ws : List CodeRef). (slice_index_or ws c.args.at (record { at = 0; block = 0 })).block) (sym c.code_words-words.ensures) ∙ c.if-words-at-2.false in
    subst (λ (k : Graph). AreUses k c.take_word.new.self) (sym c.set_word.ensures.graph)
    (word_uses_are g c.args.at c.args.bare c.args.next other within is c.args.uses.now c.add_word.new.self c.requires.uses (added c.add_word.result c.add_word.ensures (sym c.is_err.ensures.value ∙ c.if-is_err.false)) c.take_word.new.self c.take_word.ensures)
