-- The lines that tell where the functions of a file went.
use Rattle.std.specs.Prelude.{◌≡◌, ℕ, ◌&&◌, nat_le, if◌then◌else◌, List, [], ◌∷◌, ◌++◌, map, flat_map, codes}
use Rattle.std.specs.List.Sorted.{IsPermutation, IsSorted}
use Rattle.std.specs.Cmp.Lexicographic.{slice_cmp}
use Rattle.std.specs.Ordering.{nat_cmp, ordering_then}
use Rattle.std.specs.declared.cmp.Ordering.{Ordering}
use Rattle.std.specs.declared.cmp.Ordering.TheVariants.{Less, Equal, Greater}
use Rattle.sq_num.specs.Texts.{hex_text}
use Rattle.sq_names.specs.declared.track.Track.{Track}
use Rattle.sq_names.specs.declared.track.Track.TheVariants.{At, Inside, Gone}
use Rattle.sq_names.specs.Functions.{NamedFunction}

-- a function by its name, and where it went
pub record Entry : Type 0 where
  pub track : Track
  pub name : List ℕ

-- each function with the track that stands in its place
abbrev pub entries_of : List NamedFunction → List Track → List Entry
entries_of (function ∷ functions) (track ∷ tracks) = record { track = track; name = function.name } ∷ entries_of functions tracks
entries_of functions tracks = []

-- those at an address come first, ascending, then those inside a block, then those that are gone
abbrev pub track_cmp : Track → Track → Ordering
track_cmp (At a) (At b) = nat_cmp a b
track_cmp (At a) Inside = Less
track_cmp (At a) Gone = Less
track_cmp Inside (At b) = Greater
track_cmp Inside Inside = Equal
track_cmp Inside Gone = Less
track_cmp Gone (At b) = Greater
track_cmp Gone Inside = Greater
track_cmp Gone Gone = Equal

-- by where they went, and then by the bytes of the name
abbrev pub entry_cmp : Entry → Entry → Ordering
entry_cmp a b = ordering_then (track_cmp a.track b.track) (slice_cmp nat_cmp a.name b.name)

-- a byte that isn't printable, or is a space, is told as `?`
abbrev pub printable : ℕ → ℕ
printable byte = if nat_le 33 byte && nat_le byte 126 then byte else 63

-- the address, or one word
abbrev pub place_text : Track → List ℕ
place_text (At address) = hex_text address
place_text Inside = codes "inside"
place_text Gone = codes "gone"

-- `ADDRESS NAME`, `inside NAME` or `gone NAME`, and a newline
abbrev pub entry_line : Entry → List ℕ
entry_line entry = place_text entry.track ++ codes " " ++ map printable entry.name ++ codes "\n"

-- THE LINES, one for each function, in order
pub record AreListed (functions : List NamedFunction) (tracks : List Track) (text : List ℕ) : Type 0 where
  pub entries : List Entry
  pub each : IsPermutation (entries_of functions tracks) entries
  pub sorted : IsSorted entry_cmp entries
  pub text_is : text ≡ flat_map entry_line entries
