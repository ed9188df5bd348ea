use Rattle.std.proofs.Common.{IsTrue, Some, None, get_or, ap, ◌∙◌}
use Rattle.std.specs.Prelude.{slice_index}
use Rattle.std.proofs.lemmas.Option.{slice_get-get_or}
use Rattle.sq_tail.proofs.BodiesFound.{pair_of, may_of, first_print, none_is, place_within}
use Rattle.sq_tail.proofs.bodies.pair_at.Goals as goal
use Rattle.sq_tail.proofs.bodies.pair_at.Goals.{then-is_none-via-then-is_none, then-is_none-via-else-is_none+then-not-may_drop}

pub returns-then-is_none-clause-none : goal.returns-then-is_none-clause-none
returns-then-is_none-clause-none c = λ e j ahead pair.
    let g = c.args.graph.now.graph in
    let names = c.args.names.now in
    let earlier = c.args.earlier.now in
    let place = c.args.place in
    let within = place_within c.args.live.now g names place c.requires.place c.learn.ensures.rules c.requires.live earlier c.requires.earlier in
    elim c.then-is_none.branch [
      | then-is_none-via-then-is_none w ↦
          first_print c.args.live.now g names place c.requires.place c.learn.ensures.rules c.requires.live earlier c.requires.earlier
          (slice_get-get_or earlier place None within ∙ ap Some (none_is (get_or earlier place None) c.is_none.result c.is_none.ensures w.if-is_none.true))
          j ahead pair
      | then-is_none-via-else-is_none+then-not-may_drop w ↦
          let sure : IsTrue w.may_drop.result = w.may_drop.ensures.1 (may_of g (slice_index names place) (slice_index names j) pair) in
          let fails = w.if-not-may_drop.true in
          absurd (cc)
    ]

pub returns-in-Some-clause-some : goal.returns-in-Some-clause-some
returns-in-Some-clause-some c =
    pair_of c.args.graph.now.graph (slice_index c.args.names.now c.args.place) c.in-Some.kept (c.may_drop.ensures.0 c.if-not-may_drop.false) c.in-Some.ensures
