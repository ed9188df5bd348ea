-- What a text says as a certificate.
use Rattle.std.specs.Prelude.{ℕ, ◌+◌, nat_eq, ◌&&◌, if◌then◌else◌, List, [], ◌∷◌, ◌++◌, length, Option, Some, None, option_and_then}
use Rattle.std.specs.Str.{bytes_eq}
use Rattle.sq_command.specs.Numbers.{number_of}
use Rattle.sq_cert.specs.declared.step.Step.{Step}
use Rattle.sq_cert.specs.declared.read.Reading.{Reading}
use Rattle.sq_cert.specs.Names.{row_named}
use Rattle.sq_cert.specs.Pieces.{pieces, newline, space}
use Rattle.sq_cert.specs.Steps.{step_with}
use Rattle.sq_cert.specs.Texts.{first_line, last_line}

-- behind some numbers, those that the next words are; none where one of them is no number of 32 bits
unfoldable pub numbers_behind : List ℕ → List (List ℕ) → Option (List ℕ)
numbers_behind numbers [] = Some numbers
numbers_behind numbers (word ∷ words) = option_and_then (λ n. numbers_behind (numbers ++ n ∷ []) words) (number_of word)

-- the step of a line that has these words
abbrev pub step_of_words : List (List ℕ) → Option Step
step_of_words [] = None
step_of_words (name ∷ words) = option_and_then (λ row. option_and_then (step_with row) (numbers_behind [] words)) (row_named name)

-- the step of a line, or none where it is that of no step
unfoldable pub step_of : List ℕ → Option Step
step_of line = step_of_words (pieces space line)

abbrev pub reading : List Step → Option ℕ → Reading
reading steps fault = record { cert = steps; fault = fault }

-- the line behind the first and these steps is at fault
abbrev pub faulty : List Step → Reading
faulty steps = reading steps (Some (length steps + 2))

-- the last line stands behind these steps, and nothing behind it, or else that is at fault
abbrev pub closed : List Step → List (List ℕ) → Reading
closed steps [] = faulty steps
closed steps (line ∷ lines) = reading steps (if nat_eq (length line) 0 && nat_eq (length lines) 0 then None else Some (length steps + 3))

abbrev pub taken : List Step → Option Step → (List Step → Reading) → Reading
taken steps None next = faulty steps
taken steps (Some step) next = next (steps ++ step ∷ [])

-- these steps, and what the next lines say; what stands behind the last newline is no line
unfoldable pub reading_behind : List Step → List (List ℕ) → Reading
reading_behind steps [] = faulty steps
reading_behind steps (line ∷ []) = faulty steps
reading_behind steps (line ∷ next ∷ lines) =
    if bytes_eq line last_line then closed steps (next ∷ lines)
    else taken steps (step_of line) (λ more. reading_behind more (next ∷ lines))

abbrev pub begun : List (List ℕ) → Reading
begun [] = reading [] (Some 1)
begun (line ∷ []) = reading [] (Some 1)
begun (line ∷ next ∷ lines) = if bytes_eq line first_line then reading_behind [] (next ∷ lines) else reading [] (Some 1)

-- THE steps of the lines in front of the first that is at fault, and the number of that line, counted from 1; no line is at
-- fault where the text is that of a certificate
unfoldable pub reading_of : List ℕ → Reading
reading_of text = begun (pieces newline text)
