-- Words on a list of pairs of key and value, whose keys are distinct.
use Rattle.std.specs.Prelude.{◌≡◌, ◌≢◌, ℕ, ◌+◌, List, [], ◌∷◌, ◌++◌, map, Option, None, Some, IsSome, ◌==◌, if◌then◌else◌, nat_eq}
use Rattle.std.specs.List.{IsDistinct}

module _ {T : Type 0} where
  abbrev pub keys : List (ℕ × T) → List ℕ
  keys entries = map (λ entry. entry.0) entries

  abbrev pub values : List (ℕ × T) → List T
  values entries = map (λ entry. entry.1) entries

  -- each value under its position, where the first one stands at this one
  abbrev pub at_positions : ℕ → List T → List (ℕ × T)
  at_positions position [] = []
  at_positions position (value ∷ rest) = (position, value) ∷ at_positions (position + 1) rest

  abbrev pub HasDistinctKeys : List (ℕ × T) → Type 0
  HasDistinctKeys entries = IsDistinct nat_eq (keys entries)

  -- the value of the key
  abbrev pub value_of : List (ℕ × T) → ℕ → Option T
  value_of [] key = None
  value_of (entry ∷ rest) key = if entry.0 == key then Some entry.1 else value_of rest key

  abbrev pub ContainsKey : List (ℕ × T) → ℕ → Type 0
  ContainsKey entries key = IsSome (value_of entries key)

  -- each key but this one keeps its value
  abbrev pub KeepsOthers : List (ℕ × T) → List (ℕ × T) → ℕ → Type 0
  KeepsOthers old new key =
      (other : ℕ) → other ≢ key → value_of new other ≡ value_of old other

  -- each key keeps its value
  abbrev pub KeepsValues : List (ℕ × T) → List (ℕ × T) → Type 0
  KeepsValues old new = (key : ℕ) → value_of new key ≡ value_of old key

  -- the pairs ahead of the key
  abbrev pub before : List (ℕ × T) → ℕ → List (ℕ × T)
  before [] key = []
  before (entry ∷ rest) key = if entry.0 == key then [] else entry ∷ before rest key

  -- the pairs up to the key, with its own
  abbrev pub through : List (ℕ × T) → ℕ → List (ℕ × T)
  through [] key = []
  through (entry ∷ rest) key = if entry.0 == key then entry ∷ [] else entry ∷ through rest key

  -- the pairs from the key on, with its own
  abbrev pub starting_at : List (ℕ × T) → ℕ → List (ℕ × T)
  starting_at [] key = []
  starting_at (entry ∷ rest) key =
      if entry.0 == key then entry ∷ rest else starting_at rest key

  -- the pairs behind the key
  abbrev pub behind : List (ℕ × T) → ℕ → List (ℕ × T)
  behind [] key = []
  behind (entry ∷ rest) key = if entry.0 == key then rest else behind rest key

  -- the pairs from `first` to `last`, with both
  abbrev pub run : List (ℕ × T) → ℕ → ℕ → List (ℕ × T)
  run entries first last = through (starting_at entries first) last

  -- the other pairs, in their order
  abbrev pub without_run : List (ℕ × T) → ℕ → ℕ → List (ℕ × T)
  without_run entries first last =
      before entries first ++ behind (starting_at entries first) last

  -- `first` is a key of the list, and `last` is `first` or stands behind it
  pub record IsRun (entries : List (ℕ × T)) (first last : ℕ) : Type 0 where
    pub starts : ContainsKey entries first
    pub ends : ContainsKey (starting_at entries first) last

  -- the list without the key and its value
  abbrev pub without : List (ℕ × T) → ℕ → List (ℕ × T)
  without entries key = before entries key ++ behind entries key

  -- the list with these pairs right behind the key
  abbrev pub insert_run_after : List (ℕ × T) → ℕ → List (ℕ × T) → List (ℕ × T)
  insert_run_after entries key pairs = through entries key ++ (pairs ++ behind entries key)

  -- the list with this pair right behind the key
  abbrev pub insert_after : List (ℕ × T) → ℕ → ℕ × T → List (ℕ × T)
  insert_after entries key pair = insert_run_after entries key (pair ∷ [])

  -- the list with the run from `first` to `last` right behind `after`, and the rest in its order
  abbrev pub move_run_after : List (ℕ × T) → ℕ → ℕ → ℕ → List (ℕ × T)
  move_run_after entries first last after =
      insert_run_after (without_run entries first last) after (run entries first last)

  -- the list with another value at the key
  abbrev pub with_value : List (ℕ × T) → ℕ → T → List (ℕ × T)
  with_value [] key value = []
  with_value (entry ∷ rest) key value =
      if entry.0 == key then (key, value) ∷ rest else entry ∷ with_value rest key value

  abbrev pub first_key : List (ℕ × T) → Option ℕ
  first_key [] = None
  first_key (entry ∷ rest) = Some entry.0

  abbrev pub last_key : List (ℕ × T) → Option ℕ
  last_key [] = None
  last_key (entry ∷ []) = Some entry.0
  last_key (entry ∷ next ∷ rest) = last_key (next ∷ rest)

  -- the key right behind this one
  abbrev pub next_key : List (ℕ × T) → ℕ → Option ℕ
  next_key entries key = first_key (behind entries key)

  -- the key right ahead of this one
  abbrev pub previous_key : List (ℕ × T) → ℕ → Option ℕ
  previous_key entries key = last_key (before entries key)
