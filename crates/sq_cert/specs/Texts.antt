-- The text of a certificate.
use Rattle.std.specs.Prelude.{ℕ, List, [], ◌∷◌, ◌++◌, flat_map, codes, decimal}
use Rattle.sq_cert.specs.declared.step.Step.{Step}
use Rattle.sq_cert.specs.Names.{name_of}
use Rattle.sq_cert.specs.Pieces.{newline, space}
use Rattle.sq_cert.specs.Steps.{row_of, numbers_of}

-- numbers in decimal, each behind a space
abbrev pub numbers_text : List ℕ → List ℕ
numbers_text numbers = flat_map (λ n. space ∷ decimal n) numbers

-- the line of a step: the name of its row, and its numbers
abbrev pub line_of : Step → List ℕ
line_of step = name_of (row_of step) ++ numbers_text (numbers_of step)

-- the first line of a certificate, and the last
abbrev pub first_line : List ℕ
first_line = codes "squeeze certificate 1"

abbrev pub last_line : List ℕ
last_line = codes "end"

-- a line with its end
abbrev pub ended : List ℕ → List ℕ
ended line = line ++ newline ∷ []

abbrev pub steps_text : List Step → List ℕ
steps_text steps = flat_map (λ step. ended (line_of step)) steps

-- THE text of the certificate with these steps
unfoldable pub text_of : List Step → List ℕ
text_of steps = ended first_line ++ steps_text steps ++ ended last_line
