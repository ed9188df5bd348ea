use Rattle.std.proofs.Common.{◌≡◌, ◌+◌, ◌∷◌, get_or, sym, ◌∙◌}
use Rattle.sq_hex.proofs.FlashLemmas.{goes_on, one_more, heads}
use Rattle.sq_hex.proofs.flash.next_are.Goals as goal
use Rattle.sq_hex.proofs.flash.next_are.Goals.{then-at-address-via-then-at-address, then-at-address-via-else-at-address+then-found-byte}

pub returns-then-at-address-clause-other : goal.returns-then-at-address-clause-other
returns-then-at-address-clause-other c wrong rest same =
    let l = c.loop-index in
    let on = goes_on c.args.address c.args.bytes.now l.index c.loop-index-test.true c.args.entries.now l.entries l.invariant rest same in
    let both = heads c.in-Some.at.now c.in-Some.found.now (c.args.address + l.index) (get_or c.args.bytes.now l.index 0) c.next.new.self _ (sym c.in-Some.ensures.steps ∙ on) in
    elim c.then-at-address.branch [
      | then-at-address-via-then-at-address w ↦ w.if-at-address.true both.0
      | then-at-address-via-else-at-address+then-found-byte w ↦ w.if-found-byte.true both.1
    ]

pub returns-in-None-clause-other : goal.returns-in-None-clause-other
returns-in-None-clause-other c wrong rest same =
    let l = c.loop-index in
    let on = goes_on c.args.address c.args.bytes.now l.index c.loop-index-test.true c.args.entries.now l.entries l.invariant rest same in
    cc (on, c.in-None.ensures.steps.0)

pub loop-index-preserved : goal.loop-index-preserved
loop-index-preserved c =
    let l = c.loop-index in
    let next : l.entries ≡ (c.args.address + l.index, get_or c.args.bytes.now l.index 0) ∷ c.next.new.self =
    rw (← c.if-at-address.false, ← c.if-found-byte.false) c.in-Some.ensures.steps in
    one_more c.args.address c.args.bytes.now l.index c.loop-index-test.true c.args.entries.now l.entries l.invariant c.next.new.self next
