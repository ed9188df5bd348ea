use Rattle.std.proofs.Common.{inl, inr, arith}
use Rattle.std.proofs.lemmas.Bool.{cases_Bool}
use Rattle.sq_chain.proofs.around.look_at_seams.Goals as goal

pub returns-clause-first : goal.returns-clause-first
returns-clause-first c = λ near.
    let behind = c.look_on-second.ensures.before (c.look_on.ensures.before near) in
    let spans = c.spans_at-spans.ensures in
    c.look_around_span-first.ensures.near behind c.args.shift.seams.first (omega (arith, spans.first)) spans.first_last

pub returns-clause-second : goal.returns-clause-second
returns-clause-second c = λ near.
    let order = c.requires.settled.1 in
    let last = c.look_on.ensures.before near in
    let spans = c.spans_at-spans.ensures in
    let second = c.args.shift.seams.second in
    elim (cases_Bool c.spans_at-spans.result.second_seen) [
      | inl seen ↦ c.look_around_span-first.ensures.near (c.look_on-second.ensures.before last) second (omega (arith, spans.first, order.first)) (omega (arith, spans.second_last, spans.second_seen seen))
      | inr apart ↦ c.look_on-second.ensures.near last apart second (omega (arith, spans.second)) spans.second_last
    ]

pub returns-clause-third : goal.returns-clause-third
returns-clause-third c = λ near.
    let order = c.requires.settled.1 in
    let last = c.look_on.ensures.before near in
    let spans = c.spans_at-spans.ensures in
    let end = c.args.shift.seams.end in
    elim (cases_Bool c.spans_at-spans.result.end_seen) [
      | inl end_seen ↦ elim (cases_Bool c.spans_at-spans.result.second_seen) [
        | inl seen ↦
            c.look_around_span-first.ensures.near (c.look_on-second.ensures.before last) end (omega (arith, spans.first, order.first, order.second))
            (omega (arith, spans.end_last, spans.end_seen end_seen, spans.second_seen seen))
        | inr apart ↦ c.look_on-second.ensures.near last apart end (omega (arith, spans.second, order.second)) (omega (arith, spans.end_last, spans.end_seen end_seen))
      ]
      | inr apart ↦ c.look_on.ensures.near near apart end (omega (arith, spans.end)) (omega (arith, spans.end_last))
    ]
