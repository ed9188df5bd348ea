use Rattle.std.proofs.Common.{Some, None, get_or, ap, ◌∙◌, sym, arith}
use Rattle.std.proofs.lemmas.List.{get_or_default}
use Rattle.std.proofs.lemmas.Option.{slice_get-get_or}
use Rattle.sq_finger.proofs.Grouping.{counted, gathered_some, gathered_none, gathered_end, gathered_are}
use Rattle.sq_outline.proofs.groups.Groups.by_number.Goals as goal
use Rattle.sq_outline.proofs.groups.Groups.by_number.Goals.{in-Some+in_ok-push, in_default}

pub push-requires : goal.push-requires
push-requires c =
    let n = counted c.args.numbers.now c.loop-i.i c.in-Some.number (slice_get-get_or c.args.numbers.now c.loop-i.i None c.loop-i-test.true ∙ ap Some c.in-Some.is) in
    let few = c.requires.few in omega arith

pub loop-i-preserved : goal.loop-i-preserved
loop-i-preserved c =
    elim c.match-number.branch [
      | in-Some+in_ok-push w ↦
          let new = w.in_ok-push.ensures in
          rw (w.groups-is, new)
          (gathered_some c.loop-i.groups c.args.numbers.now c.args.members.now c.loop-i.i w.in-Some.number (get_or c.args.members.now c.loop-i.i 0) c.loop-i-test.true c.requires.many w.in-Some.is
          (get_or_default c.args.members.now c.loop-i.i 0 (get_or c.args.members.now c.loop-i.i 0) (omega (arith, c.loop-i-test.true, c.requires.many)))
          ∙ c.loop-i.invariant)
      | in_default w ↦ rw w.groups-is (gathered_none c.loop-i.groups c.args.numbers.now c.args.members.now c.loop-i.i c.loop-i-test.true c.requires.many w.in_default.is ∙ c.loop-i.invariant)
    ]

pub returns : goal.returns
returns c =
    sym (gathered_end c.loop-i.groups c.args.numbers.now c.args.members.now c.loop-i.i c.loop-i-test.false)
    ∙ c.loop-i.invariant ∙ gathered_are c.args.numbers.now c.args.members.now c.requires.many
