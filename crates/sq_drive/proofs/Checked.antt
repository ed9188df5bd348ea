-- What the reading of a text and the replay of its steps say of it.
use Rattle.std.proofs.Common.{◌≡◌, ℕ, ◌+◌, ◌<◌, List, ◌∷◌, ◌++◌, length, Some, None, inl, inr, sym, ap, ◌∙◌, subst, arith}
use Rattle.std.proofs.lemmas.Grind.{common_steps}
use Rattle.std.specs.List.{All}
use Rattle.sq_graph.specs.Graph.{Graph}
use Rattle.sq_cert.specs.declared.read.Reading.{Reading}
use Rattle.sq_cert.specs.declared.step.Step.{Step}
use Rattle.sq_cert.specs.Readings.{reading, reading_of}
use Rattle.sq_cert.specs.Steps.{HasForm}
use Rattle.sq_cert.specs.Texts.{text_of}
use Rattle.sq_cert.proofs.RoundTrip.{text_found}
use Rattle.sq_drive.specs.Checking.{Leads, IsFirstFault}
use Rattle.sq_drive.specs.Replay.{IsReplay, FailsAt}
use Rattle.sq_drive.proofs.OneReplay.{fails_only}

-- the step that fails is one of the steps
pub fails_within : (steps : List Step) (old : Graph) (number : ℕ) → FailsAt steps old number → number < length steps
fails_within steps old number fails =
    let size : length (fails.front ++ fails.step ∷ fails.back) ≡ length fails.front + length (fails.step ∷ fails.back) = grind (arith, common_steps) in
    omega (arith, fails.number_is, ap length fails.steps_are, size)

module _ (text : List ℕ) (old : Graph) (said : Reading) (is : said ≡ reading_of text) where
  cert_is : said.cert ≡ (reading_of text).cert
  cert_is = ap (λ (r : Reading). r.cert) is

  pub leads : (new : Graph) (count : ℕ) → All HasForm said.cert → (said.fault ≡ None → text ≡ text_of said.cert) → said.fault ≡ None → IsReplay said.cert old new → count ≡ length said.cert → Leads text old new count
  leads new count form whole none replay counted = record { steps = said.cert; form = form; text_is = whole none; replay = replay; count_is = counted }

  pub no_candidate : (number line : ℕ) → FailsAt said.cert old number → line ≡ number + 2 → IsFirstFault text old line
  no_candidate number line fails line_is = inl (record { number = number; fails = subst (λ steps. FailsAt steps old number) cert_is fails; line_is = line_is })

  pub no_form : (before : Graph) (line : ℕ) → IsReplay said.cert old before → said.fault ≡ Some line → IsFirstFault text old line
  no_form before line replay fault = inr (record { before = before; replay = subst (λ steps. IsReplay steps old before) cert_is replay; fault = ap (λ (r : Reading). r.fault) (sym is) ∙ fault })

-- a text with a first fault leads nowhere
pub fault_only : (text : List ℕ) (old : Graph) (line : ℕ) → IsFirstFault text old line → (new : Graph) (count : ℕ) → ¬ Leads text old new count
fault_only text old line first new count leads =
    let found : reading_of text ≡ reading leads.steps None = ap reading_of leads.text_is ∙ text_found leads.steps leads.form in
    by_fault first found
  where
    by_fault : IsFirstFault text old line → reading_of text ≡ reading leads.steps None → ⊥
    by_fault (inl fails) found = fails_only leads.steps old fails.number (subst (λ (r : Reading). FailsAt r.cert old fails.number) found fails.fails) new leads.replay
    by_fault (inr fault) found = let no : None ≡ Some line = sym (ap (λ (r : Reading). r.fault) found) ∙ fault.fault in absurd (cc no)
