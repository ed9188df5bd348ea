use Rattle.std.proofs.Common.{◌≡◌, ◌∙◌, ◌∷◌, [], ◌++◌, Some, ap, sym, length, arith}
use Rattle.sq_graph.specs.Blocks.{procedure_link}
use Rattle.sq_layout.proofs.Counts.{procedure_here}
use Rattle.sq_write.specs.Output.{words}
use Rattle.sq_write.proofs.TextWalks.{first_noted, start_here, next_noted, last_noted}
use Rattle.sq_write.proofs.note.push_note_entries.Goals as goal

pub loop-procedure-init : goal.loop-procedure-init
loop-procedure-init c = first_noted c.args.placed.now.g.now.graph c.args.placed.now.lo c.args.note.now.items

pub overflow_cast-length : goal.overflow_cast-length
overflow_cast-length c =
    let g = c.args.placed.now.g.now.graph in
    let lo = c.args.placed.now.lo in
    let k = c.loop-procedure.procedure in
    let h = procedure_here g k c.body.result.now (omega arith) c.body.ensures in
    omega (arith, ap length h.body_is, h.few, h.words, c.requires.fits)

pub loop-procedure-preserved : goal.loop-procedure-preserved
loop-procedure-preserved c =
    let g = c.args.placed.now.g.now.graph in
    let lo = c.args.placed.now.lo in
    let k = c.loop-procedure.procedure in
    let h = procedure_here g k c.body.result.now (omega arith) c.body.ensures in
    let at = c.start.ensures ∙ start_here g lo k h c.loop-procedure.invariant.place in
    let link : c.number.result ≡ h.procedure.link = c.number.ensures.value ∙ (let e : Some h.procedure.link ≡ Some c.link.result = sym (ap procedure_link h.found) ∙ c.link.ensures in cc) in
    let place = c.loop-procedure.invariant.place in
    let entry : words (c.start.result ∷ c.number.result ∷ length c.body.result.now ∷ []) ≡ words (place.at ∷ h.procedure.link ∷ length h.procedure.body ∷ []) =
    ap (λ x. words (x ∷ c.number.result ∷ length c.body.result.now ∷ [])) at
    ∙ ap (λ x. words (place.at ∷ x ∷ length c.body.result.now ∷ [])) link
    ∙ ap (λ x. words (place.at ∷ h.procedure.link ∷ length x ∷ [])) h.body_is in
    let more = c.in_ok-push_words.ensures ∙ ap (λ bytes. c.loop-procedure.note.items ++ bytes) entry in
    next_noted g lo k c.args.note.now.items c.loop-procedure.note.items c.push_words.new.file.items h c.loop-procedure.invariant more

pub returns : goal.returns
returns c =
    last_noted c.args.placed.now.g.now.graph c.args.placed.now.lo c.loop-procedure.procedure c.args.note.now.items c.loop-procedure.note.items (omega arith) c.loop-procedure.invariant
