use Rattle.std.proofs.Common.{◌<◌, List, ap, sym, ◌∙◌, subst}
use Rattle.std.specs.List.{AllByRecursion}
use Rattle.std.specs.Option.{unwrap_or}
use Rattle.sq_graph.specs.Parts.{names_of}
use Rattle.sq_graph.specs.Renames.{renamed}
use Rattle.law_program.specs.Programs.{Note, Program}
use Rattle.law_program.specs.Lifted.{cut, lifted_with}
use Rattle.sq_lift.specs.Flags.{is_flagged}
use Rattle.sq_lift.specs.Cuts.{kept_by, position_by}
use Rattle.sq_graph.specs.Slotted.{position_in}
use Rattle.sq_lift.proofs.Assembling.{parts_make, lengths_fit, used_links}
use Rattle.sq_lift.proofs.cut.parts.parts_of.Goals as goal

pub returns-clause-graph : goal.returns-clause-graph
returns-clause-graph c =
    let p : Program = record { text = c.args.text.now; entry = c.args.entry; code_words = c.args.code_words.now; notes = c.args.notes.now } in
    let is = is_flagged c.args.reached.now in
    let ns : List Note = c.in_ok-procedures.procedures in
    let used = c.in_ok-procedures.ensures in
    let Small : List Note → Type 0 = λ ns. AllByRecursion (λ n. n.link < 32) ns in
    let links = subst Small (sym used) (used_links is c.args.notes.now c.requires.links) in
    let f = position_by c.in_ok-positions.positions in
    parts_make is ns p (is_flagged c.in_ok-frame.frame.inside) (is_flagged c.in_ok-frame.frame.leaders) c.in_ok-frame.ensures.inside c.in_ok-frame.ensures.leaders f c.in_ok-frame.frame.starts.items c.in_ok-items.items.items c.push_bodies.new.items.items c.in_ok-items.blocks.items c.in_ok-procedures-2.procedures.items c.of.result c.in_ok-code_refs.field-0.items c.in_ok-frame.ensures.starts (λ x. ap (λ o. unwrap_or o 0) (c.in_ok-positions.ensures x) ∙ ap (λ starts. position_in starts x) c.deref.ensures.value) c.in_ok-items.ensures c.in_ok-procedures-2.ensures.items c.in_ok-procedures-2.ensures.parts links c.of.ensures c.in_ok-code_refs.ensures
    ∙ ap (λ (ns : List Note). renamed (position_in (names_of (lifted_with is ns p))) (lifted_with is ns p)) used

pub returns-clause-lengths : goal.returns-clause-lengths
returns-clause-lengths c =
    let ns : List Note = c.in_ok-procedures.procedures in
    let blocks = (cut (kept_by c.args.reached.now c.in_ok-frame.frame.inside) (is_flagged c.in_ok-frame.frame.leaders) ns c.args.text.now c.args.text.now.lo c.args.text.now.words).blocks in
    lengths_fit (position_by c.in_ok-positions.positions) c.args.text.now blocks ns c.in_ok-items.items.items c.push_bodies.new.items.items c.in_ok-items.blocks.items c.in_ok-procedures-2.procedures.items c.in_ok-items.ensures c.in_ok-procedures-2.ensures.items c.in_ok-procedures-2.ensures.parts
