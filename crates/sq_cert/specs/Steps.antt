-- The steps of a certificate: their rows, and their numbers.
use Rattle.std.specs.Prelude.{ℕ, ◌<◌, ◌^◌, nat_eq, nat_le, ◌&&◌, Bool, IsTrue, if◌then◌else◌, List, [], ◌∷◌, length, Option, Some, None}
use Rattle.std.specs.List.{All}
use Rattle.std.specs.Option.{option_map}
use Rattle.std.specs.Set.{distinct_count}
use Rattle.sq_pass.specs.declared.cut.Row.{Row}
use Rattle.sq_pass.specs.declared.cut.Row.TheVariants as row_is
use Rattle.sq_cert.specs.declared.step.Step.{Step}
use Rattle.sq_cert.specs.declared.step.Step.TheVariants.{U, J1, J2, J3, C, T, O1, O2, O3, O4, W, V, L}

abbrev pub row_of : Step → Row
row_of U = row_is.U
row_of (J1 block) = row_is.J1
row_of (J2 block) = row_is.J2
row_of (J3 block) = row_is.J3
row_of (C block) = row_is.C
row_of (T dropped kept length) = row_is.T
row_of (O1 blocks) = row_is.O1
row_of (O2 block procedure) = row_is.O2
row_of (O3 stays goes) = row_is.O3
row_of (O4 procedure) = row_is.O4
row_of (W block at length) = row_is.W
row_of (V block at procedure) = row_is.V
row_of (L from to) = row_is.L

abbrev pub numbers_of : Step → List ℕ
numbers_of U = []
numbers_of (J1 block) = block ∷ []
numbers_of (J2 block) = block ∷ []
numbers_of (J3 block) = block ∷ []
numbers_of (C block) = block ∷ []
numbers_of (T dropped kept length) = dropped ∷ kept ∷ length ∷ []
numbers_of (O1 blocks) = blocks
numbers_of (O2 block procedure) = block ∷ procedure ∷ []
numbers_of (O3 stays goes) = stays ∷ goes ∷ []
numbers_of (O4 procedure) = procedure ∷ []
numbers_of (W block at length) = block ∷ at ∷ length ∷ []
numbers_of (V block at procedure) = block ∷ at ∷ procedure ∷ []
numbers_of (L from to) = from ∷ to ∷ []

-- at least two, no two of which are equal
abbrev pub is_set : List ℕ → Bool
is_set numbers = nat_le 2 (length numbers) && nat_eq (distinct_count nat_eq numbers) (length numbers)

abbrev pub IsSetOf : Step → Type 0
IsSetOf (O1 blocks) = IsTrue (is_set blocks)
IsSetOf step = Unit {0}

-- a step that a certificate can tell: its numbers have at most 32 bits, and the blocks of O1 are at least two and distinct
pub record HasForm (step : Step) : Type 0 where
  pub small : All (λ n. n < 2 ^ 32) (numbers_of step)
  pub set : IsSetOf step

-- the only number, the two, and the three of a list
abbrev pub one : List ℕ → Option ℕ
one (n ∷ []) = Some n
one numbers = None

abbrev pub two : List ℕ → Option (ℕ × ℕ)
two (m ∷ n ∷ []) = Some (m, n)
two numbers = None

abbrev pub three : List ℕ → Option (ℕ × ℕ × ℕ)
three (k ∷ m ∷ n ∷ []) = Some (k, m, n)
three numbers = None

abbrev pub is_none : List ℕ → Bool
is_none numbers = nat_eq (length numbers) 0

-- the step of this row with these numbers
unfoldable pub step_with : Row → List ℕ → Option Step
step_with row_is.U numbers = if is_none numbers then Some U else None
step_with row_is.J1 numbers = option_map J1 (one numbers)
step_with row_is.J2 numbers = option_map J2 (one numbers)
step_with row_is.J3 numbers = option_map J3 (one numbers)
step_with row_is.C numbers = option_map C (one numbers)
step_with row_is.T numbers = option_map (λ ns. T ns.0 ns.1 ns.2) (three numbers)
step_with row_is.O1 numbers = if is_set numbers then Some (O1 numbers) else None
step_with row_is.O2 numbers = option_map (λ ns. O2 ns.0 ns.1) (two numbers)
step_with row_is.O3 numbers = option_map (λ ns. O3 ns.0 ns.1) (two numbers)
step_with row_is.O4 numbers = option_map O4 (one numbers)
step_with row_is.W numbers = option_map (λ ns. W ns.0 ns.1 ns.2) (three numbers)
step_with row_is.V numbers = option_map (λ ns. V ns.0 ns.1 ns.2) (three numbers)
step_with row_is.L numbers = option_map (λ ns. L ns.0 ns.1) (two numbers)
