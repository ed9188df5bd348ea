-- Whether the link of a procedure is dead behind its calls, as the code finds it. No public clause cites this module.
use Rattle.std.specs.Prelude.{◌≡◌, ℕ, ◌+◌, ◌<◌, ◌⊎◌, Bool, true, false, List, [], ◌∷◌, length, Option, Some, None, slice_get, slice_index, get_or, if◌then◌else◌, drop}
use Rattle.sq_graph.specs.declared.item.Item.{Item}
use Rattle.sq_graph.specs.declared.item.Item.TheVariants.{Out}
use Rattle.sq_graph.specs.Graph.{Graph}
use Rattle.sq_graph.specs.Blocks.{items_of, link_of}
use Rattle.sq_graph.specs.Lines.{Line, lines_of, place_lines}
use Rattle.sq_graph.specs.Walks.{IsLive}
use Rattle.law_program.specs.Programs.{Note}
use Rattle.law_program.specs.Notes.{used_notes}
use Rattle.law_program.specs.FilePrograms.{LinkDies}

-- in front of these lines the link of the procedure is dead
abbrev pub IsLinkDead : Graph → ℕ → List Line → Type 0
IsLinkDead g q lines = (r : ℕ) → link_of g q ≡ Some r → ¬ IsLive g r lines

-- behind an item of a block, where it calls the procedure
abbrev pub ItemDies : Graph → ℕ → ℕ → Item → ℕ → Type 0
ItemDies g block place item q = item ≡ Out q → IsLinkDead g q (place_lines g block (place + 1))

-- behind so many items of a block
abbrev pub ItemsDie : Graph → ℕ → ℕ → ℕ → Type 0
ItemsDie g block count q = (i : ℕ) (item : Item) → i < count → slice_get (items_of g block) i ≡ Some item → ItemDies g block i item q

abbrev pub BlockDies : Graph → ℕ → ℕ → Type 0
BlockDies g block q = ItemsDie g block (length (items_of g block)) q

-- in so many of these blocks
abbrev pub BlocksDie : Graph → List ℕ → ℕ → ℕ → Type 0
BlocksDie g names count q = (k : ℕ) → k < count → BlockDies g (slice_index names k) q

-- flags of the procedures of which this doesn't hold are set
pub record Marks (holds : ℕ → Type 0) (old new : List Bool) : Type 0 where
  pub count : length new ≡ length old
  pub unset : (q : ℕ) → slice_get new q ≡ Some false → (slice_get old q ≡ Some false) × holds q
  pub set : (q : ℕ) → slice_get new q ≡ Some true → (slice_get old q ≡ Some true) ⊎ ¬ holds q

-- a flag for each procedure whose link is live behind one of its calls
pub record AreLiveLinks (g : Graph) (flags : List Bool) : Type 0 where
  pub count : length flags ≡ length g.procedures
  pub dead : (q r : ℕ) → link_of g q ≡ Some r → slice_get flags q ≡ Some false → LinkDies g q r (lines_of g.blocks)
  pub live : (q r : ℕ) → link_of g q ≡ Some r → slice_get flags q ≡ Some true → ¬ LinkDies g q r (lines_of g.blocks)

-- the number of the first note whose procedure has its flag set: notes are counted from i and procedures, which are
-- those of the notes whose addresses are reached, from q
abbrev pub first_set : (ℕ → Bool) → List Bool → ℕ → ℕ → List Note → Option ℕ
first_set is flags q i [] = None
first_set is flags q i (note ∷ notes) =
    if is note.address
    then (if get_or flags q false then Some i else first_set is flags (q + 1) (i + 1) notes)
    else first_set is flags q (i + 1) notes

-- the number of the first note whose procedure's link is live behind one of its calls
pub record IsFirstLive (g : Graph) (is : ℕ → Bool) (notes : List Note) (found : Option ℕ) : Type 0 where
  pub flags : List Bool
  pub links : AreLiveLinks g flags
  pub first : found ≡ first_set is flags 0 0 notes

-- what is left to be found behind so many notes and procedures
pub record IsBehind (is : ℕ → Bool) (flags : List Bool) (notes : List Note) (q i : ℕ) : Type 0 where
  pub found : first_set is flags 0 0 notes ≡ first_set is flags q i (drop i notes)
  pub count : q + length (used_notes is (drop i notes)) ≡ length flags
