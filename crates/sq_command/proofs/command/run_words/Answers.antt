-- the words behind the verb, one after another
use Rattle.std.proofs.Common.{◌≡◌, List, ◌∷◌, drop, ℕ, sym, ap, ◌∙◌}
use Rattle.sq_command.specs.Commands.{run_of, run_request}
use Rattle.sq_command.proofs.Words.{dropped}
use Rattle.sq_command.proofs.command.run_words.Goals as goal

pub returns : goal.returns
returns c =
    let words : List (List ℕ) = c.args.words.now in
    let first = dropped words 1 c.in_ok-file.file.now (sym c.in_ok-file.ensures) in
    let second = dropped words 2 c.in_ok-input.input.now (sym c.in_ok-input.ensures) in
    let third = dropped words 3 c.in_ok-limit.limit.now (sym c.in_ok-limit.ensures) in
    let fourth = dropped words 4 c.in_ok-base.base.now (sym c.in_ok-base.ensures) in
    let fifth = dropped words 5 c.in_ok-size.size.now (sym c.in_ok-size.ensures) in
    let tail : drop 1 words ≡ c.in_ok-file.file.now ∷ c.in_ok-input.input.now ∷ c.in_ok-limit.limit.now ∷ c.in_ok-base.base.now ∷ c.in_ok-size.size.now ∷ drop 6 words = cc (first, second, third, fourth, fifth) in
    c.run_of.ensures words
    ∙ (λ i. run_of c.in_ok-file.file.now c.in_ok-input.input.now (c.number_of.ensures.value i) (c.number_of-2.ensures.value i) (c.number_of-3.ensures.value i) (drop 6 words))
    ∙ sym (ap run_request tail)
