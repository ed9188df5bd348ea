use Rattle.std.proofs.Common.{◌≡◌, ℕ, List, ◌+◌, ◌-◌, ◌<◌, suc, length, take, drop, arith}
use Rattle.std.proofs.lemmas.Grind.{common_steps}
use Rattle.sq_cert.proofs.Splitting.{StandsAt, plain_lacks, pieces_whole, pieces_at}
use Rattle.sq_cert.proofs.piece.first_piece.Goals as goal

rest_of : (text : List ℕ) (end : ℕ) → take (length text - (end + 1)) (drop (end + 1) text) ≡ drop (suc end) text
rest_of text end = grind (arith, common_steps)

pub returns-then-end-text-clause-pieces : goal.returns-then-end-text-clause-pieces
returns-then-end-text-clause-pieces c =
    pieces_whole c.args.mark c.args.text.now (plain_lacks c.args.mark c.args.text.now (λ k below. c.first_mark-end.ensures.plain k (omega arith)))

pub returns-else-end-text-clause-pieces : goal.returns-else-end-text-clause-pieces
returns-else-end-text-clause-pieces c =
    let text = c.args.text.now in
    let end = c.first_mark-end.result in
    let within : end < length text = omega (arith, c.first_mark-end.ensures.within, c.if-end-text.false) in
    let at : StandsAt c.args.mark text end = record { within = within; plain = c.first_mark-end.ensures.plain; marked = c.first_mark-end.ensures.mark within } in
    let rest = rest_of text end in
    rw rest (pieces_at c.args.mark text end at)
