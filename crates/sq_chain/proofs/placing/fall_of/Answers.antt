use Rattle.std.proofs.Common.{◌≡◌, ◌∙◌, Some, sym, ap}
use Rattle.sq_graph.specs.declared.item.Term.TheVariants.{Jump}
use Rattle.sq_graph.specs.Blocks.{block_term}
use Rattle.sq_chain.specs.declared.survey.Extent.{Extent}
use Rattle.sq_chain.specs.Moves.{JumpsToNext}
use Rattle.sq_chain.proofs.Lighter.{falls_one, falls_none}
use Rattle.sq_chain.proofs.placing.fall_of.Goals as goal

pub returns-then-jumps_to : goal.returns-then-jumps_to
returns-then-jumps_to c = λ h b d same next was is.
    let j = c.jumps_to.ensures.0 c.if-jumps_to.true in
    let term = ap (λ (e : Extent). e.term) same ∙ j.jump in
    falls_one h b.name b d (record { to = j.to; jump = ap block_term was ∙ ap Some term; next = next ∙ j.slot }) was is

pub returns-else-jumps_to : goal.returns-else-jumps_to
returns-else-jumps_to c = λ h b d same next was is.
    let other : ¬ JumpsToNext h b.name = λ j.
    let some : Some b.term ≡ Some (Jump j.to) = sym (ap block_term was) ∙ j.jump in
    let term : b.term ≡ Jump j.to = cc in
    let yes = c.jumps_to.ensures.1 (record { to = j.to; jump = sym (ap (λ (e : Extent). e.term) same) ∙ term; slot = sym next ∙ j.next }) in
    let no = c.if-jumps_to.false in
    cc in
    falls_none h b.name b d other was is
