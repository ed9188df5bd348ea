-- The text of a certificate is read as its steps, and no other text is.
use Rattle.std.proofs.Common.{◌≡◌, ℕ, ◌+◌, ◌<◌, Bool, true, false, ◌&&◌, if◌then◌else◌, List, [], ◌∷◌, ◌++◌, length, Option, Some, None, refl, sym, ap, ◌∙◌, append_assoc, arith}
use Rattle.std.proofs.lemmas.Bool.Decides.{nat_tests}
use Rattle.std.proofs.lemmas.List.{append-nil}
use Rattle.std.proofs.lemmas.List.Elements.{All-from_recursion, recursion_from_All}
use Rattle.std.proofs.lemmas.Slice.Eq.{bytes_eq-Decides}
use Rattle.std.specs.List.{All, AllByRecursion}
use Rattle.std.specs.Prelude.{nat_eq}
use Rattle.std.specs.Str.{bytes_eq}
use Rattle.sq_pass.specs.declared.cut.Row.{Row}
use Rattle.sq_pass.specs.declared.cut.Row.TheVariants as row_is
use Rattle.sq_cert.specs.declared.step.Step.{Step}
use Rattle.sq_cert.specs.Names.{name_of}
use Rattle.sq_cert.specs.Pieces.{in_front, pieces, newline}
use Rattle.sq_cert.specs.Readings.{step_of, reading, faulty, closed, taken, reading_behind, begun, reading_of}
use Rattle.sq_cert.specs.Steps.{row_of, numbers_of, HasForm}
use Rattle.sq_cert.specs.Texts.{line_of, numbers_text, first_line, last_line, ended, steps_text, text_of}
use Rattle.sq_cert.proofs.Lines.{line_lacks, line_found, line_back}
use Rattle.sq_cert.proofs.Splitting.{AreSome, some_pieces, pieces_front, pieces_joined, joined}

abbrev pub HaveForm : List Step → Type 0
HaveForm steps = AllByRecursion HasForm steps

-- the line of a step isn't the last one
not_last : (row : Row) (rest : List ℕ) → bytes_eq (name_of row ++ rest) last_line ≡ false
not_last row_is.U rest = refl
not_last row_is.J1 rest = refl
not_last row_is.J2 rest = refl
not_last row_is.J3 rest = refl
not_last row_is.C rest = refl
not_last row_is.T rest = refl
not_last row_is.O1 rest = refl
not_last row_is.O2 rest = refl
not_last row_is.O3 rest = refl
not_last row_is.O4 rest = refl
not_last row_is.W rest = refl
not_last row_is.V rest = refl
not_last row_is.L rest = refl

-- a line that is that of a step
pub taken_line : (before : List Step) (line : List ℕ) (lines : List (List ℕ)) (step : Step) → AreSome lines → bytes_eq line last_line ≡ false → step_of line ≡ Some step → reading_behind before (line ∷ lines) ≡ reading_behind (before ++ step ∷ []) lines
unfolding reading_behind
taken_line before line [] step some other is = absurd (cc some.are)
taken_line before line (next ∷ lines) step some other is = rw (other, is) refl

-- one that isn't
pub fault_line : (before : List Step) (line : List ℕ) (lines : List (List ℕ)) → bytes_eq line last_line ≡ false → step_of line ≡ None → reading_behind before (line ∷ lines) ≡ faulty before
unfolding reading_behind
fault_line before line [] other is = refl
fault_line before line (next ∷ lines) other is = rw (other, is) refl

-- one without an end
pub cut_line : (before : List Step) (line : List ℕ) → reading_behind before (line ∷ []) ≡ faulty before
unfolding reading_behind
cut_line before line = refl

-- the last one
pub closing_line : (before : List Step) (line : List ℕ) (lines : List (List ℕ)) → AreSome lines → bytes_eq line last_line ≡ true → reading_behind before (line ∷ lines) ≡ closed before lines
unfolding reading_behind
closing_line before line [] some last = absurd (cc some.are)
closing_line before line (next ∷ lines) some last = rw last refl

-- the lines of steps are read as these steps
lines_found : (before steps : List Step) → HaveForm steps → reading_behind before (pieces newline (steps_text steps ++ ended last_line)) ≡ reading (before ++ steps) None
unfolding pieces reading_behind
lines_found before [] form = ap (λ steps. reading steps None) (sym (append-nil before))
lines_found before (step ∷ steps) form =
    let line = line_of step in
    let rest = steps_text steps ++ ended last_line in
    let text : steps_text (step ∷ steps) ++ ended last_line ≡ line ++ newline ∷ rest =
    append_assoc (ended line) (steps_text steps) (ended last_line) ∙ append_assoc line (newline ∷ []) rest in
    ap (λ t. reading_behind before (pieces newline t)) text
    ∙ ap (reading_behind before) (pieces_front newline line rest (line_lacks step form.0))
    ∙ taken_line before line (pieces newline rest) step (some_pieces newline rest) (not_last (row_of step) (numbers_text (numbers_of step))) (line_found step form.0)
    ∙ lines_found (before ++ step ∷ []) steps form.1
    ∙ ap (λ steps. reading steps None) (append_assoc before (step ∷ []) steps)

pub text_found : (steps : List Step) → All HasForm steps → reading_of (text_of steps) ≡ reading steps None
unfolding reading_of text_of
text_found steps form =
    let rest = steps_text steps ++ ended last_line in
    let text : ended first_line ++ steps_text steps ++ ended last_line ≡ first_line ++ newline ∷ rest =
    append_assoc (ended first_line) (steps_text steps) (ended last_line) ∙ append_assoc first_line (newline ∷ []) rest in
    ap (λ t. begun (pieces newline t)) text
    ∙ ap begun (pieces_front newline first_line rest refl)
    ∙ begun_with (pieces newline rest) (some_pieces newline rest)
    ∙ lines_found [] steps (recursion_from_All HasForm steps form)
  where
    begun_with : (lines : List (List ℕ)) → AreSome lines → begun (first_line ∷ lines) ≡ reading_behind [] lines
    begun_with [] some = absurd (cc some.are)
    begun_with (next ∷ lines) some = refl

-- the steps that are read have their form
push_form : (steps : List Step) (step : Step) → HaveForm steps → HasForm step → HaveForm (steps ++ step ∷ [])
push_form [] step forms form = (form, tt)
push_form (first ∷ steps) step forms form = (forms.0, push_form steps step forms.1 form)

lines_form : (before : List Step) (lines : List (List ℕ)) → HaveForm before → HaveForm (reading_behind before lines).cert
unfolding reading_behind
lines_form before [] forms = forms
lines_form before (line ∷ []) forms = forms
lines_form before (line ∷ next ∷ lines) forms = by_last (λ more had. lines_form more (next ∷ lines) had) (bytes_eq line last_line)
  where
    by_step : ((more : List Step) → HaveForm more → HaveForm (reading_behind more (next ∷ lines)).cert) → (found : Option Step) → step_of line ≡ found → HaveForm (taken before found (λ more. reading_behind more (next ∷ lines))).cert
    by_step later None is = forms
    by_step later (Some step) is = later (before ++ step ∷ []) (push_form before step forms (line_back line step is).form)

    by_last : ((more : List Step) → HaveForm more → HaveForm (reading_behind more (next ∷ lines)).cert) → (last : Bool) → HaveForm (if last then closed before (next ∷ lines) else taken before (step_of line) (λ more. reading_behind more (next ∷ lines))).cert
    by_last later true = forms
    by_last later false = by_step later (step_of line) refl

pub text_form : (text : List ℕ) → All HasForm (reading_of text).cert
unfolding reading_of
text_form text = All-from_recursion HasForm (begun (pieces newline text)).cert (begun_form (pieces newline text))
  where
    begun_form : (lines : List (List ℕ)) → HaveForm (begun lines).cert
    begun_form [] = tt
    begun_form (line ∷ []) = tt
    begun_form (line ∷ next ∷ lines) = by_first (bytes_eq line first_line)
      where
        by_first : (is : Bool) → HaveForm (if is then reading_behind [] (next ∷ lines) else reading [] (Some 1)).cert
        by_first true = lines_form [] (next ∷ lines) tt
        by_first false = tt

-- a text in which no line is at fault is that of these steps
record AreLinesOf (before : List Step) (lines : List (List ℕ)) (all : List Step) : Type 0 where
  steps : List Step
  all_are : all ≡ before ++ steps
  lines_are : joined newline lines ≡ steps_text steps ++ ended last_line

closed_lines : (before : List Step) (line next : List ℕ) (lines : List (List ℕ)) → bytes_eq line last_line ≡ true → (closed before (next ∷ lines)).fault ≡ None → AreLinesOf before (line ∷ next ∷ lines) before
closed_lines before line [] [] last whole =
    let is : line ≡ last_line = (bytes_eq-Decides line last_line).0 last in
    record { steps = []; all_are = sym (append-nil before); lines_are = ap ended is }
closed_lines before line [] (more ∷ lines) last whole =
    let some : nat_eq (length (more ∷ lines)) 0 ≡ false = grind (arith, nat_tests) in
    absurd (cc (rw some at whole))
closed_lines before line (byte ∷ bytes) lines last whole =
    let some : nat_eq (length (byte ∷ bytes)) 0 ≡ false = grind (arith, nat_tests) in
    absurd (cc (rw some at whole))

lines_read : (before : List Step) (lines : List (List ℕ)) → (reading_behind before lines).fault ≡ None → AreLinesOf before lines (reading_behind before lines).cert
unfolding reading_behind
lines_read before [] whole = absurd (cc whole)
lines_read before (line ∷ []) whole = absurd (cc whole)
lines_read before (line ∷ next ∷ lines) whole = by_last (λ more whole. lines_read more (next ∷ lines) whole) (bytes_eq line last_line) refl whole
  where
    by_step : ((more : List Step) → (reading_behind more (next ∷ lines)).fault ≡ None → AreLinesOf more (next ∷ lines) (reading_behind more (next ∷ lines)).cert) → (found : Option Step) → step_of line ≡ found → (taken before found (λ more. reading_behind more (next ∷ lines))).fault ≡ None → AreLinesOf before (line ∷ next ∷ lines) (taken before found (λ more. reading_behind more (next ∷ lines))).cert
    by_step read None is whole = absurd (cc whole)
    by_step read (Some step) is whole =
        let later = read (before ++ step ∷ []) whole in
        let here = line_back line step is in
        record {
          steps = step ∷ later.steps;
          all_are = later.all_are ∙ append_assoc before (step ∷ []) later.steps;
          lines_are =
              ap (λ l. l ++ newline ∷ joined newline (next ∷ lines)) here.line_is
              ∙ ap (λ rest. line_of step ++ newline ∷ rest) later.lines_are
              ∙ sym (append_assoc (ended (line_of step)) (steps_text later.steps) (ended last_line) ∙ append_assoc (line_of step) (newline ∷ []) (steps_text later.steps ++ ended last_line));
        }

    by_last : ((more : List Step) → (reading_behind more (next ∷ lines)).fault ≡ None → AreLinesOf more (next ∷ lines) (reading_behind more (next ∷ lines)).cert) → (last : Bool) → bytes_eq line last_line ≡ last → (if last then closed before (next ∷ lines) else taken before (step_of line) (λ more. reading_behind more (next ∷ lines))).fault ≡ None → AreLinesOf before (line ∷ next ∷ lines) (if last then closed before (next ∷ lines) else taken before (step_of line) (λ more. reading_behind more (next ∷ lines))).cert
    by_last read true is whole = closed_lines before line next lines is whole
    by_last read false is whole = by_step read (step_of line) refl whole

begun_read : (lines : List (List ℕ)) → (begun lines).fault ≡ None → joined newline lines ≡ text_of (begun lines).cert
unfolding text_of
begun_read [] whole = absurd (cc whole)
begun_read (line ∷ []) whole = absurd (cc whole)
begun_read (line ∷ next ∷ lines) whole = by_first (bytes_eq line first_line) refl whole
  where
    by_first : (first : Bool) → bytes_eq line first_line ≡ first → (if first then reading_behind [] (next ∷ lines) else reading [] (Some 1)).fault ≡ None → line ++ newline ∷ joined newline (next ∷ lines) ≡ text_of (if first then reading_behind [] (next ∷ lines) else reading [] (Some 1)).cert
    by_first false is whole = absurd (cc whole)
    by_first true is whole =
        let read = lines_read [] (next ∷ lines) whole in
        let first : line ≡ first_line = (bytes_eq-Decides line first_line).0 is in
        ap (λ l. l ++ newline ∷ joined newline (next ∷ lines)) first
        ∙ ap (λ rest. first_line ++ newline ∷ rest) read.lines_are
        ∙ sym (append_assoc (ended first_line) (steps_text read.steps) (ended last_line) ∙ append_assoc first_line (newline ∷ []) (steps_text read.steps ++ ended last_line))
        ∙ ap (λ steps. ended first_line ++ steps_text steps ++ ended last_line) (sym read.all_are)

pub text_read : (text : List ℕ) → (reading_of text).fault ≡ None → text ≡ text_of (reading_of text).cert
unfolding reading_of
text_read text whole = sym (pieces_joined newline text) ∙ begun_read (pieces newline text) whole

-- the last line, and the text behind it
closed_some : (before : List Step) (first : List ℕ) (more : List (List ℕ)) → 0 < length first + length more → closed before (first ∷ more) ≡ reading before (Some (length before + 3))
closed_some before first more some =
    let test : (nat_eq (length first) 0 && nat_eq (length more) 0) ≡ false = grind (arith, nat_tests) in
    rw test refl

in_front_some : (before : List Step) (byte : ℕ) (lines : List (List ℕ)) → closed before (in_front byte lines) ≡ reading before (Some (length before + 3))
in_front_some before byte [] = closed_some before (byte ∷ []) [] (omega arith)
in_front_some before byte (line ∷ lines) = closed_some before (byte ∷ line) lines (omega arith)

closed_text : (before : List Step) (text : List ℕ) → closed before (pieces newline text) ≡ reading before (if nat_eq (length text) 0 then None else Some (length before + 3))
unfolding pieces
closed_text before [] = refl
closed_text before (byte ∷ bytes) =
    let some : nat_eq (length (byte ∷ bytes)) 0 ≡ false = grind (arith, nat_tests) in
    by_mark (nat_eq byte newline) ∙ ap (λ none. reading before (if none then None else Some (length before + 3))) (sym some)
  where
    by_mark : (is : Bool) → closed before (if is then [] ∷ pieces newline bytes else in_front byte (pieces newline bytes)) ≡ reading before (Some (length before + 3))
    by_mark true =
        let later = some_pieces newline bytes in
        closed_some before [] (pieces newline bytes) (let n = ap length later.are in omega (arith, n))
    by_mark false = in_front_some before byte (pieces newline bytes)

pub closing_text : (before : List Step) (line text : List ℕ) → bytes_eq line last_line ≡ true → reading_behind before (line ∷ pieces newline text) ≡ reading before (if nat_eq (length text) 0 then None else Some (length before + 3))
closing_text before line text last = closing_line before line (pieces newline text) (some_pieces newline text) last ∙ closed_text before text

-- the first line
module _ (text line : List ℕ) where
  pub text_cut : pieces newline text ≡ line ∷ [] → reading_of text ≡ reading [] (Some 1)
  unfolding reading_of
  text_cut are = ap begun are

  pub text_other : (lines : List (List ℕ)) → AreSome lines → pieces newline text ≡ line ∷ lines → bytes_eq line first_line ≡ false → reading_of text ≡ reading [] (Some 1)
  unfolding reading_of
  text_other [] some are other = absurd (cc some.are)
  text_other (next ∷ lines) some are other = ap begun are ∙ rw other refl

  pub text_begun : (lines : List (List ℕ)) → AreSome lines → pieces newline text ≡ line ∷ lines → bytes_eq line first_line ≡ true → reading_of text ≡ reading_behind [] lines
  unfolding reading_of
  text_begun [] some are first = absurd (cc some.are)
  text_begun (next ∷ lines) some are first = ap begun are ∙ rw first refl
