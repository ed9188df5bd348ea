-- A certificate has no more steps than its text has bytes.
use Rattle.std.proofs.Common.{◌≡◌, ℕ, ◌+◌, ◌≤◌, Bool, true, false, if◌then◌else◌, List, [], ◌∷◌, ◌++◌, length, Option, Some, None, arith}
use Rattle.std.proofs.lemmas.Grind.{common_steps}
use Rattle.std.specs.Prelude.{nat_eq}
use Rattle.std.specs.Str.{bytes_eq}
use Rattle.sq_cert.specs.declared.step.Step.{Step}
use Rattle.sq_cert.specs.Pieces.{in_front, pieces, newline}
use Rattle.sq_cert.specs.Readings.{step_of, reading, closed, taken, reading_behind, begun, reading_of}
use Rattle.sq_cert.specs.Texts.{first_line, last_line}

in_front_few : (byte : ℕ) (lines : List (List ℕ)) → length (in_front byte lines) ≤ length lines + 1
in_front_few byte [] = omega arith
in_front_few byte (line ∷ lines) = omega arith

pieces_few : (mark : ℕ) (text : List ℕ) → length (pieces mark text) ≤ length text + 1
unfolding pieces
pieces_few mark [] = omega arith
pieces_few mark (byte ∷ bytes) = by_mark (nat_eq byte mark) (pieces_few mark bytes)
  where
    by_mark : (is : Bool) → length (pieces mark bytes) ≤ length bytes + 1 → length (if is then [] ∷ pieces mark bytes else in_front byte (pieces mark bytes)) ≤ length (byte ∷ bytes) + 1
    by_mark true few = omega (arith, few)
    by_mark false few = omega (arith, few, in_front_few byte (pieces mark bytes))

steps_few : (before : List Step) (lines : List (List ℕ)) → length (reading_behind before lines).cert ≤ length before + length lines
unfolding reading_behind
steps_few before [] = omega arith
steps_few before (line ∷ []) = omega arith
steps_few before (line ∷ next ∷ lines) = by_last (λ more. steps_few more (next ∷ lines)) (bytes_eq line last_line)
  where
    by_step : ((more : List Step) → length (reading_behind more (next ∷ lines)).cert ≤ length more + length (next ∷ lines)) → (found : Option Step) → length (taken before found (λ more. reading_behind more (next ∷ lines))).cert ≤ length before + length (line ∷ next ∷ lines)
    by_step few None = omega arith
    by_step few (Some step) =
        let push : length (before ++ step ∷ []) ≡ length before + 1 = grind (arith, common_steps) in
        omega (arith, few (before ++ step ∷ []), push)

    by_last : ((more : List Step) → length (reading_behind more (next ∷ lines)).cert ≤ length more + length (next ∷ lines)) → (last : Bool) → length (if last then closed before (next ∷ lines) else taken before (step_of line) (λ more. reading_behind more (next ∷ lines))).cert ≤ length before + length (line ∷ next ∷ lines)
    by_last few true = omega arith
    by_last few false = by_step few (step_of line)

begun_few : (lines : List (List ℕ)) → length (begun lines).cert + 1 ≤ length lines + 1
begun_few [] = omega arith
begun_few (line ∷ []) = omega arith
begun_few (line ∷ next ∷ lines) = by_first (bytes_eq line first_line)
  where
    by_first : (first : Bool) → length (if first then reading_behind [] (next ∷ lines) else reading [] (Some 1)).cert + 1 ≤ length (line ∷ next ∷ lines) + 1
    by_first true = omega (arith, steps_few [] (next ∷ lines))
    by_first false = omega arith

pub text_few : (text : List ℕ) → length (reading_of text).cert ≤ length text + 1
unfolding reading_of
text_few text = omega (arith, begun_few (pieces newline text), pieces_few newline text)
