-- What a program has of the outside: files, what is printed and complained, and faults.
use Rattle.std.specs.Prelude.{◌≡◌, ℕ, ◌-◌, ◌^◌, ◌<◌, ◌≤◌, ◌⊎◌, List, [], ◌++◌, take, Option, Some, unwrap_or}
use Rattle.std.specs.Option.{option_map}
use Rattle.std.specs.Map.{update}
use Rattle.std.specs.Str.{bytes_eq}

-- the bytes under each name that has a file
abbrev pub Files : Type 0
Files = List ℕ → Option (List ℕ)

-- what a name holds: a name without a file stands for the empty file
abbrev pub content_of : Files → List ℕ → List ℕ
content_of files name = unwrap_or (files name) []

-- the files after that of `name` became `content`, where None is no file
abbrev pub with_file : List ℕ → Option (List ℕ) → Files → Files
with_file name content files = update bytes_eq files name content

-- where a fault can come: the loading of one name, the storing of one name, printing, complaining
pub data Place : Type 0 where
  Loading : List ℕ → Place
  Storing : List ℕ → Place
  Printing : Place
  Complaining : Place

-- what a desk has of the outside. Files and texts are told or not; faults are counted for each place
pub record Outside : Type 0 where
  pub files : Option Files
  pub printed : Option (List ℕ)
  pub complained : Option (List ℕ)
  pub faults : Place → ℕ

-- the faults of the place rose: their number is greater than before, or at the last of a u64
abbrev pub Rose : Place → Outside → Outside → Type 0
Rose place before after = (before.faults place < after.faults place) ⊎ (after.faults place ≡ 2 ^ 64 - 1)

-- no place's faults fall
abbrev pub NoneFall : Outside → Outside → Type 0
NoneFall before after = (place : Place) → before.faults place ≤ after.faults place

-- no file changes
abbrev pub KeepsFiles : Outside → Outside → Type 0
KeepsFiles before after = after.files ≡ before.files

-- the file of `name` becomes `content`, and every other stays
abbrev pub SetsFile : List ℕ → Option (List ℕ) → Outside → Outside → Type 0
SetsFile name content before after = after.files ≡ option_map (with_file name content) before.files

-- the file of `name` becomes one that is not known, and every other stays
abbrev pub LosesFile : List ℕ → Outside → Outside → Type 0
LosesFile name before after = (content : Option (List ℕ)) × SetsFile name content before after

abbrev pub KeepsPrinted : Outside → Outside → Type 0
KeepsPrinted before after = after.printed ≡ before.printed

abbrev pub KeepsComplained : Outside → Outside → Type 0
KeepsComplained before after = after.complained ≡ before.complained

-- what was told, with these bytes behind it
abbrev pub extended_text : List ℕ → Option (List ℕ) → Option (List ℕ)
extended_text bytes told = option_map (λ text. text ++ bytes) told

abbrev pub Prints : List ℕ → Outside → Outside → Type 0
Prints bytes before after = after.printed ≡ extended_text bytes before.printed

-- a prefix of the bytes was printed
abbrev pub PrintsPrefix : List ℕ → Outside → Outside → Type 0
PrintsPrefix bytes before after = (n : ℕ) × Prints (take n bytes) before after

abbrev pub Complains : List ℕ → Outside → Outside → Type 0
Complains bytes before after = after.complained ≡ extended_text bytes before.complained

-- a prefix of the bytes was complained
abbrev pub ComplainsPrefix : List ℕ → Outside → Outside → Type 0
ComplainsPrefix bytes before after = (n : ℕ) × Complains (take n bytes) before after

-- where files are told, P holds of them
abbrev pub ForFiles : Outside → (Files → Type 0) → Type 0
ForFiles outside P = (files : Files) → outside.files ≡ Some files → P files
