use Rattle.std.proofs.Common.{◌∷◌, [], sym, ap, ◌∙◌, refl, take, get_or}
use Rattle.sq_graph.specs.declared.parts.CodeRef.{CodeRef}
use Rattle.sq_graph.specs.Uses.{code_word_uses}
use Rattle.sq_graph.specs.CanonicalSlots.{marked}
use Rattle.sq_graph.proofs.Marks.{marked_none, distinct-marked, marked_more, words_more}
use Rattle.sq_graph.proofs.canonical.mark_words.Goals as goal

pub loop-word-init : goal.loop-word-init
loop-word-init c = record { entries = sym (marked_none c.args.slots.now.entries); spare = refl }

pub mark-requires : goal.mark-requires
mark-requires c =
    rw c.loop-word.invariant.entries (distinct-marked (code_word_uses (take c.loop-word.word-index c.args.words.now)) c.args.slots.now.entries c.requires)

pub loop-word-preserved : goal.loop-word-preserved
loop-word-preserved c =
    let none : CodeRef = record { at = 0; block = 0 } in
    let old = c.args.slots.now.entries in
    let name = (get_or c.args.words.now c.loop-word.word-index none).block in
    let done = code_word_uses (take c.loop-word.word-index c.args.words.now) in
    record {
      entries =
          c.mark.ensures.entries
          ∙ ap (marked (name ∷ [])) c.loop-word.invariant.entries
          ∙ marked_more (name ∷ []) done old
          ∙ ap (λ us. marked us old) (words_more c.args.words.now c.loop-word.word-index none c.loop-word-test.true);
      spare = c.mark.ensures.spare ∙ c.loop-word.invariant.spare;
    }
