-- A line is that of a step exactly where it is read as that step.
use Rattle.std.proofs.Common.{◌≡◌, ℕ, ◌<◌, ◌^◌, Bool, true, false, if◌then◌else◌, List, [], ◌∷◌, ◌++◌, map, Option, Some, None, IsTrue, refl, sym, ap, ◌∙◌, subst, arith}
use Rattle.std.proofs.lemmas.Bool.Decides.{nat_tests}
use Rattle.std.proofs.lemmas.List.Elements.{All-from_recursion, recursion_from_All}
use Rattle.std.proofs.lemmas.Slice.Eq.{bytes_eq-Decides}
use Rattle.std.specs.Fmt.{decimal}
use Rattle.std.specs.Option.{option_map, option_and_then}
use Rattle.std.specs.Str.{bytes_eq}
use Rattle.sq_pass.specs.declared.cut.Row.{Row}
use Rattle.sq_pass.specs.declared.cut.Row.TheVariants as row_is
use Rattle.sq_cert.specs.declared.step.Step.{Step}
use Rattle.sq_cert.specs.declared.step.Step.TheVariants.{U, J1, J2, J3, C, T, O1, O2, O3, O4, W, V, L}
use Rattle.sq_cert.specs.Names.{name_of, row_named}
use Rattle.sq_cert.specs.Pieces.{pieces, space}
use Rattle.sq_cert.specs.Readings.{numbers_behind, step_of_words, step_of}
use Rattle.sq_cert.specs.Steps.{row_of, numbers_of, is_set, IsSetOf, HasForm, one, two, three, is_none, step_with}
use Rattle.sq_cert.specs.Texts.{numbers_text, line_of}
use Rattle.sq_cert.proofs.Numerals.{AreSmall, decimals_lack, numbers_joined, text_lacks, numbers_found, numbers_read}
use Rattle.sq_cert.proofs.Splitting.{lacks, lacks_append, behind, joined, pieces_joined, joined_pieces}

-- the name of a row is read as that row
pub row_found : (row : Row) → row_named (name_of row) ≡ Some row
unfolding row_named
row_found row_is.U = refl
row_found row_is.J1 = refl
row_found row_is.J2 = refl
row_found row_is.J3 = refl
row_found row_is.C = refl
row_found row_is.T = refl
row_found row_is.O1 = refl
row_found row_is.O2 = refl
row_found row_is.O3 = refl
row_found row_is.O4 = refl
row_found row_is.W = refl
row_found row_is.V = refl
row_found row_is.L = refl

by_name : (name : List ℕ) (row found : Row) (rest : Option Row) → (rest ≡ Some found → name ≡ name_of found) → (if bytes_eq name (name_of row) then Some row else rest) ≡ Some found → name ≡ name_of found
by_name name row found rest later e = by_test (bytes_eq name (name_of row)) refl e
  where
    by_test : (is : Bool) → bytes_eq name (name_of row) ≡ is → (if is then Some row else rest) ≡ Some found → name ≡ name_of found
    by_test true is e = let same : row ≡ found = cc e in (bytes_eq-Decides name (name_of row)).0 is ∙ ap name_of same
    by_test false is e = later e

pub row_back : (name : List ℕ) (found : Row) → row_named name ≡ Some found → name ≡ name_of found
unfolding row_named
row_back name found e =
    by_name name row_is.U found _ (
    by_name name row_is.J1 found _ (
    by_name name row_is.J2 found _ (
    by_name name row_is.J3 found _ (
    by_name name row_is.C found _ (
    by_name name row_is.T found _ (
    by_name name row_is.O1 found _ (
    by_name name row_is.O2 found _ (
    by_name name row_is.O3 found _ (
    by_name name row_is.O4 found _ (
    by_name name row_is.W found _ (
    by_name name row_is.V found _ (
    by_name name row_is.L found _ (λ none. absurd (cc none))
    )))))))))))) e

-- neither a newline nor a space stands in a name
name_lacks : (row : Row) → (lacks 10 (name_of row) ≡ true) × (lacks 32 (name_of row) ≡ true)
name_lacks row_is.U = (refl, refl)
name_lacks row_is.J1 = (refl, refl)
name_lacks row_is.J2 = (refl, refl)
name_lacks row_is.J3 = (refl, refl)
name_lacks row_is.C = (refl, refl)
name_lacks row_is.T = (refl, refl)
name_lacks row_is.O1 = (refl, refl)
name_lacks row_is.O2 = (refl, refl)
name_lacks row_is.O3 = (refl, refl)
name_lacks row_is.O4 = (refl, refl)
name_lacks row_is.W = (refl, refl)
name_lacks row_is.V = (refl, refl)
name_lacks row_is.L = (refl, refl)

-- a step is that of its row and its numbers
step_found : (step : Step) → IsSetOf step → step_with (row_of step) (numbers_of step) ≡ Some step
unfolding step_with
step_found U set = refl
step_found (J1 block) set = refl
step_found (J2 block) set = refl
step_found (J3 block) set = refl
step_found (C block) set = refl
step_found (T dropped kept many) set = refl
step_found (O1 blocks) set = by_set (is_set blocks) set
  where
    by_set : (is : Bool) → IsTrue is → (if is then Some (O1 blocks) else None) ≡ Some (O1 blocks)
    by_set true set = refl
    by_set false set = absurd (cc set)
step_found (O2 block procedure) set = refl
step_found (O3 stays goes) set = refl
step_found (O4 procedure) set = refl
step_found (W block at many) set = refl
step_found (V block at procedure) set = refl
step_found (L from to) set = refl

-- and the only one
pub record Tells (row : Row) (numbers : List ℕ) (step : Step) : Type 0 where
  pub row_is : row_of step ≡ row
  pub numbers_are : numbers_of step ≡ numbers
  pub set : IsSetOf step

tells_along : (row : Row) (numbers : List ℕ) (made step : Step) → Tells row numbers made → Some made ≡ Some step → Tells row numbers step
tells_along row numbers made step tells e = let same : made ≡ step = cc e in subst (Tells row numbers) same tells

by_one : (row : Row) (make : ℕ → Step) → ((n : ℕ) → Tells row (n ∷ []) (make n)) → (numbers : List ℕ) (step : Step) → option_map make (one numbers) ≡ Some step → Tells row numbers step
by_one row make told [] step e = absurd (cc e)
by_one row make told (n ∷ []) step e = tells_along row (n ∷ []) (make n) step (told n) e
by_one row make told (n ∷ m ∷ more) step e = absurd (cc e)

by_two : (row : Row) (make : ℕ → ℕ → Step) → ((m n : ℕ) → Tells row (m ∷ n ∷ []) (make m n)) → (numbers : List ℕ) (step : Step) → option_map (λ ns. make ns.0 ns.1) (two numbers) ≡ Some step → Tells row numbers step
by_two row make told [] step e = absurd (cc e)
by_two row make told (m ∷ []) step e = absurd (cc e)
by_two row make told (m ∷ n ∷ []) step e = tells_along row (m ∷ n ∷ []) (make m n) step (told m n) e
by_two row make told (m ∷ n ∷ k ∷ more) step e = absurd (cc e)

by_three : (row : Row) (make : ℕ → ℕ → ℕ → Step) → ((k m n : ℕ) → Tells row (k ∷ m ∷ n ∷ []) (make k m n)) → (numbers : List ℕ) (step : Step) → option_map (λ ns. make ns.0 ns.1 ns.2) (three numbers) ≡ Some step → Tells row numbers step
by_three row make told [] step e = absurd (cc e)
by_three row make told (k ∷ []) step e = absurd (cc e)
by_three row make told (k ∷ m ∷ []) step e = absurd (cc e)
by_three row make told (k ∷ m ∷ n ∷ []) step e = tells_along row (k ∷ m ∷ n ∷ []) (make k m n) step (told k m n) e
by_three row make told (k ∷ m ∷ n ∷ i ∷ more) step e = absurd (cc e)

by_none : (numbers : List ℕ) (step : Step) → (if is_none numbers then Some U else None) ≡ Some step → Tells row_is.U numbers step
by_none [] step e = tells_along row_is.U [] U step (record { row_is = refl; numbers_are = refl; set = tt }) e
by_none (n ∷ numbers) step e =
    let some : is_none (n ∷ numbers) ≡ false = grind (arith, nat_tests) in
    absurd (cc (rw some at e))

by_set : (numbers : List ℕ) (step : Step) (set : Bool) → is_set numbers ≡ set → (if set then Some (O1 numbers) else None) ≡ Some step → Tells row_is.O1 numbers step
by_set numbers step true is e = tells_along row_is.O1 numbers (O1 numbers) step (record { row_is = refl; numbers_are = refl; set = is }) e
by_set numbers step false is e = absurd (cc e)

pub step_told : (row : Row) (numbers : List ℕ) (step : Step) → step_with row numbers ≡ Some step → Tells row numbers step
unfolding step_with
step_told row_is.U numbers step e = by_none numbers step e
step_told row_is.J1 numbers step e = by_one row_is.J1 J1 (λ n. record { row_is = refl; numbers_are = refl; set = tt }) numbers step e
step_told row_is.J2 numbers step e = by_one row_is.J2 J2 (λ n. record { row_is = refl; numbers_are = refl; set = tt }) numbers step e
step_told row_is.J3 numbers step e = by_one row_is.J3 J3 (λ n. record { row_is = refl; numbers_are = refl; set = tt }) numbers step e
step_told row_is.C numbers step e = by_one row_is.C C (λ n. record { row_is = refl; numbers_are = refl; set = tt }) numbers step e
step_told row_is.T numbers step e = by_three row_is.T T (λ k m n. record { row_is = refl; numbers_are = refl; set = tt }) numbers step e
step_told row_is.O1 numbers step e = by_set numbers step (is_set numbers) refl e
step_told row_is.O2 numbers step e = by_two row_is.O2 O2 (λ m n. record { row_is = refl; numbers_are = refl; set = tt }) numbers step e
step_told row_is.O3 numbers step e = by_two row_is.O3 O3 (λ m n. record { row_is = refl; numbers_are = refl; set = tt }) numbers step e
step_told row_is.O4 numbers step e = by_one row_is.O4 O4 (λ n. record { row_is = refl; numbers_are = refl; set = tt }) numbers step e
step_told row_is.W numbers step e = by_three row_is.W W (λ k m n. record { row_is = refl; numbers_are = refl; set = tt }) numbers step e
step_told row_is.V numbers step e = by_three row_is.V V (λ k m n. record { row_is = refl; numbers_are = refl; set = tt }) numbers step e
step_told row_is.L numbers step e = by_two row_is.L L (λ m n. record { row_is = refl; numbers_are = refl; set = tt }) numbers step e

small_of : (step : Step) → HasForm step → AreSmall (numbers_of step)
small_of step form = recursion_from_All (λ n. n < 2 ^ 32) (numbers_of step) form.small

-- no newline stands in the line of a step
pub line_lacks : (step : Step) → HasForm step → lacks 10 (line_of step) ≡ true
line_lacks step form =
    lacks_append 10 (name_of (row_of step)) (numbers_text (numbers_of step)) (name_lacks (row_of step)).0 (text_lacks (numbers_of step) (small_of step form))

-- the line of a step is read as that step
pub line_found : (step : Step) → HasForm step → step_of (line_of step) ≡ Some step
unfolding step_of
line_found step form =
    let small = small_of step form in
    let name = name_of (row_of step) in
    let numbers = numbers_of step in
    let words : pieces space (line_of step) ≡ name ∷ map decimal numbers =
    ap (λ t. pieces space (name ++ t)) (numbers_joined numbers) ∙ joined_pieces space name (map decimal numbers) (name_lacks (row_of step)).1 (decimals_lack space numbers (omega arith) small) in
    ap step_of_words words
    ∙ ap (option_and_then (λ row. option_and_then (step_with row) (numbers_behind [] (map decimal numbers)))) (row_found (row_of step))
    ∙ ap (option_and_then (step_with (row_of step))) (numbers_found [] numbers small)
    ∙ step_found step form.set

-- and only that line is
pub record IsLineOf (line : List ℕ) (step : Step) : Type 0 where
  pub line_is : line ≡ line_of step
  pub form : HasForm step

by_words : (words : List (List ℕ)) (step : Step) → step_of_words words ≡ Some step → IsLineOf (joined space words) step
by_words [] step e = absurd (cc e)
by_words (name ∷ words) step e = by_row (row_named name) refl e
  where
    by_numbers : (row : Row) → row_named name ≡ Some row → (found : Option (List ℕ)) → numbers_behind [] words ≡ found → option_and_then (step_with row) found ≡ Some step → IsLineOf (name ++ behind space words) step
    by_numbers row is None none e = absurd (cc e)
    by_numbers row is (Some numbers) found e =
        let tells = step_told row numbers step e in
        let read = numbers_read [] words numbers found in
        let numbers_are : numbers_of step ≡ read.numbers = tells.numbers_are ∙ read.all_are in
        record {
          line_is =
              ap (λ n. n ++ behind space words) (row_back name row is ∙ ap name_of (sym tells.row_is))
              ∙ ap (λ t. name_of (row_of step) ++ t) (ap (behind space) read.words_are ∙ sym (numbers_joined read.numbers) ∙ ap numbers_text (sym numbers_are));
          form = record {
            small = All-from_recursion (λ n. n < 2 ^ 32) (numbers_of step) (subst AreSmall (sym numbers_are) read.small);
            set = tells.set;
          };
        }

    by_row : (found : Option Row) → row_named name ≡ found → option_and_then (λ row. option_and_then (step_with row) (numbers_behind [] words)) found ≡ Some step → IsLineOf (name ++ behind space words) step
    by_row None is e = absurd (cc e)
    by_row (Some row) is e = by_numbers row is (numbers_behind [] words) refl e

pub line_back : (line : List ℕ) (step : Step) → step_of line ≡ Some step → IsLineOf line step
unfolding step_of
line_back line step e = subst (λ l. IsLineOf l step) (pieces_joined space line) (by_words (pieces space line) step e)
