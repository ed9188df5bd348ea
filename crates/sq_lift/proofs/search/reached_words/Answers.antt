use Rattle.std.proofs.Common.{sym, ap, ◌∙◌, subst, []}
use Rattle.law_program.specs.Programs.{Program}
use Rattle.law_program.specs.Reached.{leads_from, Decides}
use Rattle.sq_lift.specs.Flags.{Flags, is_flagged}
use Rattle.sq_lift.proofs.Searches.{started, looked_at, finished, decides_with, fewer_left}
use Rattle.sq_lift.proofs.search.reached_words.Goals as goal

pub loop-address-init : goal.loop-address-init
loop-address-init c =
    let p : Program = record { text = c.args.text.now; entry = c.args.entry; code_words = c.args.code_words.now; notes = [] } in
    let first = rw c.in_ok-search.ensures at c.in_ok-reach.ensures in
    started p c.reach.new.self c.reach_targets.new.self first c.in_ok-reach_targets.ensures

pub loop-address-smaller : goal.loop-address-smaller
loop-address-smaller c =
    fewer_left c.loop-address.search c.next.new.self c.visit.new.self c.in-Some.address (leads_from c.args.text.now c.in-Some.address) c.in-Some.ensures.some c.in_ok-visit.ensures

pub loop-address-preserved : goal.loop-address-preserved
loop-address-preserved c =
    let p : Program = record { text = c.args.text.now; entry = c.args.entry; code_words = c.args.code_words.now; notes = [] } in
    looked_at p c.loop-address.search c.next.new.self c.visit.new.self c.in-Some.address c.in-Some.ensures.some c.loop-address.invariant c.in_ok-visit.ensures

pub returns : goal.returns
returns c = λ notes.
    let p : Program = record { text = c.args.text.now; entry = c.args.entry; code_words = c.args.code_words.now; notes = [] } in
    let all = c.into_reached.ensures ∙ ap (λ f. f.reached) c.in_default.ensures.none.0 in
    let ByFlags : Flags → Type 0 = λ f. Decides p (is_flagged f) in
    decides_with p notes (is_flagged c.into_reached.result) (subst ByFlags (sym all) (finished p c.loop-address.search c.loop-address.invariant c.in_default.ensures.none.1))
