use Rattle.std.proofs.Common.{◌≡◌, ◌+◌, ◌-◌, ◌<◌, suc, length, take, drop, arith}
use Rattle.std.proofs.lemmas.Grind.{common_steps}
use Rattle.sq_hex.proofs.LineLemmas.{EndsAt, first_line_ended, first_line_last, lines_end}
use Rattle.sq_hex.proofs.line.first_line.Goals as goal

pub returns-then-end-text-clause-lines : goal.returns-then-end-text-clause-lines
returns-then-end-text-clause-lines c =
    rw lines_end (first_line_last c.args.text.now c.requires (λ k below. c.line_end-end.ensures.plain k (omega arith)))

pub returns-else-end-text-clause-lines : goal.returns-else-end-text-clause-lines
returns-else-end-text-clause-lines c =
    let text = c.args.text.now in
    let end = c.line_end-end.result in
    let within : end < length text = omega (arith, c.line_end-end.ensures.within, c.if-end-text.false) in
    let at : EndsAt text end = record { within = within; plain = c.line_end-end.ensures.plain; newline = c.line_end-end.ensures.newline within } in
    let lines = first_line_ended text end at in
    let rest : take (length text - (end + 1)) (drop (end + 1) text) ≡ drop (suc end) text = grind (arith, common_steps) in
    rw (rest, c.without_return.ensures.value) lines
