-- what is read is a number where it is printed as it was
use Rattle.std.proofs.Common.{◌≡◌, None, sym, ◌∙◌, arith}
use Rattle.std.proofs.lemmas.Slice.Eq.{bytes_eq-Decides}
use Rattle.std.specs.Fmt.{decimal}
use Rattle.sq_command.proofs.NumberTexts.{number_is, unread, unprinted, meaning}
use Rattle.sq_command.proofs.number.number_of.Goals as goal

pub returns-in_err-number-clause-value : goal.returns-in_err-number-clause-value
returns-in_err-number-clause-value c =
    c.from_residual.ensures ∙ sym (unread c.args.word.now c.parse.result c.parse.ensures.value.0 (sym c.ok.ensures.value ∙ c.in_err-number.was))

pub returns-in_err-number-clause-meaning : goal.returns-in_err-number-clause-meaning
returns-in_err-number-clause-meaning c = meaning c.args.word.now c.from_residual.result (returns-in_err-number-clause-value c)

pub returns-then-eq-clause-value : goal.returns-then-eq-clause-value
returns-then-eq-clause-value c =
    let printed : c.format.result.now ≡ c.args.word.now = (bytes_eq-Decides c.format.result.now c.args.word.now).0 (sym c.if-eq.ensures) in
    sym (number_is c.args.word.now c.in_ok-number.number (omega arith) (sym printed ∙ c.format.ensures.text))

pub returns-then-eq-clause-meaning : goal.returns-then-eq-clause-meaning
returns-then-eq-clause-meaning c = meaning c.args.word.now _ (returns-then-eq-clause-value c)

pub returns-else-eq-clause-value : goal.returns-else-eq-clause-value
returns-else-eq-clause-value c =
    let other : decimal c.in_ok-number.number ≡ c.args.word.now → ⊥ = λ same. let is = (bytes_eq-Decides c.format.result.now c.args.word.now).1 (c.format.ensures.text ∙ same) in absurd (cc (is, c.if-eq.ensures)) in
    sym (unprinted c.args.word.now c.parse.result c.in_ok-number.number c.parse.ensures.value.0 (sym c.ok.ensures.value ∙ c.in_ok-number.was) other)

pub returns-else-eq-clause-meaning : goal.returns-else-eq-clause-meaning
returns-else-eq-clause-meaning c = meaning c.args.word.now None (returns-else-eq-clause-value c)
