use Rattle.std.proofs.Common.{◌≡◌, ◌++◌, take, ap, ◌∙◌, arith}
use Rattle.std.proofs.lemmas.Grind.{common_steps}
use Rattle.sq_cert.specs.Texts.{first_line, last_line, ended, steps_text, text_of}
use Rattle.sq_cert.proofs.cert.Cert.text.Goals as goal

pub returns : goal.returns
unfolding text_of
returns c =
    let l = c.loop-step in
    let items = c.deref-step-items.result.now in
    let all : take l.step-index items ≡ items = grind (arith, common_steps) in
    c.in_ok-extend_from_slice-2.ensures.items
    ∙ ap (λ t. t ++ ended last_line) (l.invariant ∙ ap (λ steps. ended first_line ++ steps_text steps) (all ∙ c.deref-step-items.ensures.value ∙ c.self.view_is))
