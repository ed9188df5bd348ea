use Rattle.std.proofs.Common.{◌≡◌, ◌+◌, ◌≤◌, List, None, length, ap, sym, ◌∙◌, subst, arith}
use Rattle.std.proofs.lemmas.Result.{IfOk-weaker}
use Rattle.std.specs.List.{All}
use Rattle.sq_cert.specs.declared.read.Reading.{Reading}
use Rattle.sq_cert.specs.declared.step.Step.{Step}
use Rattle.sq_cert.specs.Readings.{reading, reading_of}
use Rattle.sq_cert.specs.Steps.{HasForm}
use Rattle.sq_cert.specs.Texts.{text_of}
use Rattle.sq_cert.proofs.Counts.{text_few}
use Rattle.sq_cert.proofs.RoundTrip.{text_form, text_read, text_found}
use Rattle.sq_cert.proofs.read.read_cert.Goals as goal

pub returns-clause-form : goal.returns-clause-form
returns-clause-form c =
    let text = c.args.text.now in
    IfOk-weaker c.read_text.result (λ said. said ≡ reading_of text) (λ said. All HasForm said.cert)
    (λ said is. let P : Reading → Type 0 = λ r. All HasForm r.cert in subst P (sym is) (text_form text)) c.read_text.ensures

pub returns-clause-few : goal.returns-clause-few
returns-clause-few c =
    let text = c.args.text.now in
    IfOk-weaker c.read_text.result (λ said. said ≡ reading_of text) (λ said. length said.cert ≤ length text + 1)
    (λ said is. omega (arith, ap (λ r. length r.cert) is, text_few text)) c.read_text.ensures

pub returns-clause-text : goal.returns-clause-text
returns-clause-text c =
    let text = c.args.text.now in
    IfOk-weaker c.read_text.result (λ said. said ≡ reading_of text) (λ said. said.fault ≡ None → text ≡ text_of said.cert)
    (λ said is whole. text_read text (ap (λ r. r.fault) (sym is) ∙ whole) ∙ ap (λ r. text_of r.cert) (sym is)) c.read_text.ensures

pub returns-clause-each : goal.returns-clause-each
returns-clause-each c =
    let text = c.args.text.now in
    IfOk-weaker c.read_text.result (λ said. said ≡ reading_of text) (λ said. (steps : List Step) → All HasForm steps → text ≡ text_of steps → said ≡ reading steps None)
    (λ said is steps form same. is ∙ ap reading_of same ∙ text_found steps form) c.read_text.ensures
