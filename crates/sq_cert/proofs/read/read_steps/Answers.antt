use Rattle.std.proofs.Common.{◌≡◌, ◌+◌, true, false, List, [], ◌∷◌, ◌++◌, length, Some, None, if◌then◌else◌, ap, sym, ◌∙◌, arith}
use Rattle.std.proofs.lemmas.Grind.{common_steps}
use Rattle.std.specs.Option.{option_map}
use Rattle.std.specs.Prelude.{nat_eq}
use Rattle.std.specs.Str.{bytes_eq}
use Rattle.sq_cert.specs.declared.step.Step.{Step}
use Rattle.sq_cert.specs.Pieces.{pieces, pieces_behind}
use Rattle.sq_cert.specs.Readings.{step_of, reading, reading_behind}
use Rattle.sq_cert.specs.Texts.{last_line}
use Rattle.sq_cert.proofs.RoundTrip.{cut_line, fault_line, taken_line, closing_text}
use Rattle.sq_cert.proofs.Splitting.{some_pieces}
use Rattle.sq_cert.proofs.read.read_steps.Goals as goal

pub returns-in_default : goal.returns-in_default
returns-in_default c =
    let l = c.loop-behind in
    let line = c.first_piece.result.0.now in
    let here : pieces 10 l.rest.now ≡ line ∷ [] = c.first_piece.ensures.pieces ∙ ap (λ more. line ∷ pieces_behind 10 (option_map (λ b. b.now) more)) c.in_default.is in
    ap (λ n. reading l.cert (Some n)) l.invariant.number ∙ sym (ap (reading_behind l.cert) here ∙ cut_line l.cert line) ∙ l.invariant.said

pub returns-then-eq : goal.returns-then-eq
returns-then-eq c =
    let l = c.loop-behind in
    let line = c.first_piece.result.0.now in
    let behind = c.in-Some.behind.now in
    let here : pieces 10 l.rest.now ≡ line ∷ pieces 10 behind = c.first_piece.ensures.pieces ∙ ap (λ more. line ∷ pieces_behind 10 (option_map (λ b. b.now) more)) c.in-Some.is in
    let last : bytes_eq line last_line ≡ true = ap (bytes_eq line) (sym c.as_slice.ensures) ∙ sym c.if-eq.ensures in
    let number : l.number + 1 ≡ length l.cert + 3 = omega (arith, l.invariant.number) in
    ap (reading l.cert) (c.fault_behind-fault.ensures ∙ ap (λ n. if nat_eq (length behind) 0 then None else Some n) number)
    ∙ sym (ap (reading_behind l.cert) here ∙ closing_text l.cert line behind last)
    ∙ l.invariant.said

pub returns-in_default-2 : goal.returns-in_default-2
returns-in_default-2 c =
    let l = c.loop-behind in
    let line = c.first_piece.result.0.now in
    let behind = c.in-Some.behind.now in
    let here : pieces 10 l.rest.now ≡ line ∷ pieces 10 behind = c.first_piece.ensures.pieces ∙ ap (λ more. line ∷ pieces_behind 10 (option_map (λ b. b.now) more)) c.in-Some.is in
    let other : bytes_eq line last_line ≡ false = ap (bytes_eq line) (sym c.as_slice.ensures) ∙ sym c.if-eq.ensures in
    let none : step_of line ≡ None = sym c.in_ok-step.ensures ∙ c.in_default-2.is in
    ap (λ n. reading l.cert (Some n)) l.invariant.number ∙ sym (ap (reading_behind l.cert) here ∙ fault_line l.cert line (pieces 10 behind) other none) ∙ l.invariant.said

length_push : (steps : List Step) (step : Step) → length (steps ++ step ∷ []) ≡ length steps + 1
length_push steps step = grind (arith, common_steps)

pub loop-behind-preserved : goal.loop-behind-preserved
loop-behind-preserved c =
    let l = c.loop-behind in
    let line = c.first_piece.result.0.now in
    let behind = c.in-Some.behind.now in
    let step = c.in-Some-2.step in
    let here : pieces 10 l.rest.now ≡ line ∷ pieces 10 behind = c.first_piece.ensures.pieces ∙ ap (λ more. line ∷ pieces_behind 10 (option_map (λ b. b.now) more)) c.in-Some.is in
    let other : bytes_eq line last_line ≡ false = ap (bytes_eq line) (sym c.as_slice.ensures) ∙ sym c.if-eq.ensures in
    let is : step_of line ≡ Some step = sym c.in_ok-step.ensures ∙ c.in-Some-2.is in
    let falls = rw c.in-Some.is at c.first_piece.ensures.falls in
    let more : length c.push.new.self ≡ length l.cert + 1 = ap length c.in_ok-push.ensures.ok ∙ length_push l.cert step in
    record {
      said =
          ap (λ cert. reading_behind cert (pieces 10 behind)) c.in_ok-push.ensures.ok
          ∙ sym (ap (reading_behind l.cert) here ∙ taken_line l.cert line (pieces 10 behind) step (some_pieces 10 behind) other is)
          ∙ l.invariant.said;
      number = omega (arith, more, l.invariant.number);
      few = omega (arith, falls, l.invariant.few);
    }
