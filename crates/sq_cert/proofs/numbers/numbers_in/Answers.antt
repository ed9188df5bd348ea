use Rattle.std.proofs.Common.{◌≡◌, ℕ, List, ◌∷◌, Option, Bor, sym, ap, ◌∙◌}
use Rattle.std.specs.Option.{option_map}
use Rattle.sq_cert.specs.Pieces.{pieces_behind}
use Rattle.sq_cert.specs.Readings.{numbers_behind}
use Rattle.sq_cert.proofs.Numerals.{numbers_next, numbers_stop, numbers_end}
use Rattle.sq_cert.proofs.numbers.numbers_in.Goals as goal

-- the words of what is left
abbrev words_of : Option (Bor (List ℕ)) → List (List ℕ)
words_of rest = pieces_behind 32 (option_map (λ text. text.now) rest)

pub returns-in_default-number_in : goal.returns-in_default-number_in
returns-in_default-number_in c =
    let l = c.loop-rest in
    let first = c.first_piece.result in
    let here : words_of l.rest ≡ first.0.now ∷ words_of first.1 = ap words_of c.in-Some.is ∙ c.first_piece.ensures.pieces in
    sym (ap (numbers_behind l.numbers) here ∙ numbers_stop l.numbers first.0.now (words_of first.1) (sym c.number_in.ensures ∙ c.in_default-number_in.is)) ∙ l.invariant

pub loop-rest-preserved : goal.loop-rest-preserved
loop-rest-preserved c =
    let l = c.loop-rest in
    let first = c.first_piece.result in
    let n = c.in-Some-number_in.number in
    let here : words_of l.rest ≡ first.0.now ∷ words_of first.1 = ap words_of c.in-Some.is ∙ c.first_piece.ensures.pieces in
    ap (λ numbers. numbers_behind numbers (words_of first.1)) c.in_ok-push.ensures.ok
    ∙ sym (ap (numbers_behind l.numbers) here ∙ numbers_next l.numbers first.0.now (words_of first.1) n (sym c.number_in.ensures ∙ c.in-Some-number_in.is))
    ∙ l.invariant

pub returns : goal.returns
returns c =
    let l = c.loop-rest in
    sym (numbers_end l.numbers) ∙ ap (λ rest. numbers_behind l.numbers (words_of rest)) (sym c.in_default.is) ∙ l.invariant
