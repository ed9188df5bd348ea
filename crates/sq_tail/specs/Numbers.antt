-- Numbers of the ends of blocks.
use Rattle.std.specs.Prelude.{◌≡◌, ◌≢◌, ℕ, ◌<◌, ◌≤◌, List, [], ◌∷◌, Option, None, Some, map, slice_get, slice_index}
use Rattle.std.specs.Option.{option_zip}
use Rattle.sq_graph.specs.Graph.{Graph}
use Rattle.sq_finger.specs.Numbers.{AreNumbersOf}
use Rattle.sq_tail.specs.Tails.{end_words}
use Rattle.sq_tail.specs.Ends.{end_of}

-- two of these blocks have one number exactly where their ends of n items are equal
abbrev pub AreEndNumbers : Graph → ℕ → List ℕ → List (Option ℕ) → Type 0
AreEndNumbers g n names numbers = AreNumbersOf (map (end_of g n) names) numbers

abbrev pub zipped : {X Y : Type 0} → List (Option X) → List (Option Y) → List (Option (X × Y))
zipped [] ys = []
zipped (x ∷ xs) [] = []
zipped (x ∷ xs) (y ∷ ys) = option_zip x y ∷ zipped xs ys

-- under a number the place of a block that has it and whose term takes a word; there is one, if there is such a block among the first ones
pub record AreWords (g : Graph) (names : List ℕ) (numbers : List (Option ℕ)) (count : ℕ) (at : ℕ → Option ℕ) : Type 0 where
  pub known : (m i : ℕ) → at m ≡ Some i → (slice_get numbers i ≡ Some (Some m)) × (1 ≤ end_words g (slice_index names i))
  pub all : (m i : ℕ) → at m ≡ None → i < count → slice_get numbers i ≡ Some (Some m) → end_words g (slice_index names i) ≡ 0

-- a place, and another that stands under its number
pub record IsMeeting (numbers : List (Option ℕ)) (at : ℕ → Option ℕ) (other place : ℕ) : Type 0 where
  pub apart : other ≢ place
  pub number : ℕ
  pub stands : slice_get numbers place ≡ Some (Some number)
  pub meets : at number ≡ Some other
