use Rattle.std.proofs.Common.{ap, length, ◌<◌, arith, subst, sym, map, ◌∙◌}
use Rattle.std.proofs.lemmas.List.{get_or-map, length-map}
use Rattle.std.proofs.lemmas.List.Elements.{All-get_or}
use Rattle.sq_graph.specs.declared.parts.CodeRef.{CodeRef}
use Rattle.sq_graph.specs.Renames.{retargeted_word}
use Rattle.sq_graph.proofs.Mapped.{mapped_reads, mapped_step}
use Rattle.sq_graph.proofs.rename.retarget_words.Goals as goal

pub retarget_word-requires : goal.retarget_word-requires
retarget_word-requires g c =
    let none : CodeRef = record { at = 0; block = 0 } in
    let xs = c.args.words.now.items in
    let i = c.loop-word.word-index in
    let there : i < length xs = omega (arith, ap (λ ws. length ws) c.deref_mut-word-items.ensures.value) in
    let same = mapped_reads (retargeted_word (g.R.Rename.name_of c.args.by.now)) xs c.loop-word.word-items i none there c.loop-word.invariant in
    let counted : i < length (map (λ (w : CodeRef). w.block) xs) = omega (arith, length-map xs (λ (w : CodeRef). w.block)) in
    let known = All-get_or (g.R.Rename.Knows c.args.by.now) (map (λ (w : CodeRef). w.block) xs) i 0 counted c.requires in
    subst (g.R.Rename.Knows c.args.by.now) (get_or-map (λ (w : CodeRef). w.block) xs i none 0 there ∙ sym (ap (λ w. w.block) same)) known

pub loop-word-preserved : goal.loop-word-preserved
loop-word-preserved g c =
    let none : CodeRef = record { at = 0; block = 0 } in
    mapped_step (retargeted_word (g.R.Rename.name_of c.args.by.now)) c.args.words.now.items c.loop-word.word-items c.loop-word.word-index none c.retarget_word.result
    (omega (arith, ap (λ xs. length xs) c.deref_mut-word-items.ensures.value)) (omega arith) c.loop-word.invariant c.retarget_word.ensures
