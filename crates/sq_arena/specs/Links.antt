-- How the list of an arena lies in its slab. No public clause cites this module.
-- A place is `Some` of a key, or `None`: the end ahead of the first key and behind the last one.
-- So the places make a ring, and each two that follow each other are joined.
use Rattle.std.specs.Prelude.{◌≡◌, ℕ, zero, suc, ◌+◌, ◌≤◌, ◌<◌, ◌^◌, List, [], ◌∷◌, ◌++◌, map, length, Option, None, Some, IsSome, ◌==◌, if◌then◌else◌, ◌≢◌}
use Rattle.slab.specs.Slab.{get}
use Rattle.sq_arena.specs.Entries.{last_key}
use Rattle.sq_arena.specs.declared.links.Links.{Links}
use Rattle.sq_arena.specs.declared.links.Node.{Node}

-- 1 where both are the same place, else 0
abbrev pub once : Option ℕ → Option ℕ → ℕ
once None None = 1
once None (Some k) = 0
once (Some j) None = 0
once (Some j) (Some k) = if j == k then 1 else 0

-- how often the place stands in the list
abbrev pub times : Option ℕ → List (Option ℕ) → ℕ
times p [] = 0
times p (q ∷ rest) = once p q + times p rest

-- each place is joined to the next one
abbrev pub IsPath : (Option ℕ → Option ℕ → Type 0) → Option ℕ → List (Option ℕ) → Type 0
IsPath J p [] = Unit {0}
IsPath J p (q ∷ rest) = J p q × IsPath J q rest

-- so many keys, from this one on
abbrev pub keys_from : ℕ → ℕ → List ℕ
keys_from key zero = []
keys_from key (suc n) = key ∷ keys_from (key + 1) n

module _ {T : Type 0} where
  abbrev pub node_value : Option (Node T) → Option T
  node_value None = None
  node_value (Some node) = node.value

  abbrev pub node_next : Option (Node T) → Option ℕ
  node_next None = None
  node_next (Some node) = node.next

  abbrev pub node_previous : Option (Node T) → Option ℕ
  node_previous None = None
  node_previous (Some node) = node.previous

  abbrev pub HasNode : Links T → ℕ → Type 0
  HasNode l key = IsSome (get l.nodes key)

  abbrev pub value_at : Links T → ℕ → Option T
  value_at l key = node_value (get l.nodes key)

  abbrev pub next_at : Links T → Option ℕ → Option ℕ
  next_at l None = l.first
  next_at l (Some key) = node_next (get l.nodes key)

  abbrev pub previous_at : Links T → Option ℕ → Option ℕ
  previous_at l None = l.last
  previous_at l (Some key) = node_previous (get l.nodes key)

  -- the end, or a key with a node
  abbrev pub IsPlace : Links T → Option ℕ → Type 0
  IsPlace l None = Unit {0}
  IsPlace l (Some key) = HasNode l key

  abbrev pub IsJoined : Links T → Option ℕ → Option ℕ → Type 0
  IsJoined l p q = (next_at l p ≡ q) × (previous_at l q ≡ p)

  abbrev pub places : List (ℕ × T) → List (Option ℕ)
  places [] = []
  places (entry ∷ rest) = Some entry.0 ∷ places rest

  -- the slab holds each value under its key
  abbrev pub HoldsEach : Links T → List (ℕ × T) → Type 0
  HoldsEach l [] = Unit {0}
  HoldsEach l (entry ∷ rest) = (value_at l entry.0 ≡ Some entry.1) × HoldsEach l rest

  -- these keys are to spare, from this place on: each has a node and names the next
  abbrev pub IsSpareList : Links T → Option ℕ → List ℕ → Type 0
  IsSpareList l p [] = p ≡ None
  IsSpareList l p (key ∷ rest) =
      (p ≡ Some key) × HasNode l key × IsSpareList l (next_at l (Some key)) rest

  -- the list lies in the slab: each value under its key and none elsewhere, the places in a ring of
  -- joined ones, and beside it these keys to spare, all of them different
  pub record IsLinked (l : Links T) (entries : List (ℕ × T)) (spare_keys : List ℕ) : Type 0 where
    pub values : HoldsEach l entries
    pub others : (key : ℕ) → times (Some key) (places entries) ≡ 0 → value_at l key ≡ None
    pub path : IsPath (IsJoined l) None (places entries ++ None ∷ [])
    pub spare : IsSpareList l l.vacant spare_keys
    pub distinct : (p : Option ℕ) → once p None + times p (places entries)
        + times p (map Some spare_keys) ≤ 1

  -- the pair of the key and its value ahead of the others, or nothing
  abbrev pub with_pair : ℕ → Option T → List (ℕ × T) → List (ℕ × T)
  with_pair key None rest = []
  with_pair key (Some value) rest = (key, value) ∷ rest

  -- at most n pairs, from this place on
  abbrev pub listed_from : Links T → ℕ → Option ℕ → List (ℕ × T)
  listed_from l zero p = []
  listed_from l (suc n) None = []
  listed_from l (suc n) (Some key) =
      with_pair key (value_at l key) (listed_from l n (next_at l (Some key)))

  abbrev pub listed : Links T → ℕ → List (ℕ × T)
  listed l count = listed_from l count l.first

  -- the fields of an arena show its list, of this length, and so many keys to spare
  pub record IsArena (l : Links T) (len spare : ℕ) : Type 0 where
    pub spare_keys : List ℕ
    pub linked : IsLinked l (listed l len) spare_keys
    pub counted : length (listed l len) ≡ len
    pub to_spare : length spare_keys ≡ spare
    pub bound : len + spare < 2 ^ 32

  -- the list falls into these two parts, and the place is the end of the first
  pub record FallsAt (entries : List (ℕ × T)) (place : Option ℕ) (front back : List (ℕ × T))
      : Type 0 where
    pub whole : entries ≡ front ++ back
    pub ends : last_key front ≡ place

  -- p names q as the next place now, and nothing else has changed
  pub record SetsNext (old new : Links T) (p q : Option ℕ) : Type 0 where
    pub set : next_at new p ≡ q
    pub next : (other : Option ℕ) → other ≢ p → next_at new other ≡ next_at old other
    pub previous : (other : Option ℕ) → previous_at new other ≡ previous_at old other
    pub values : (key : ℕ) → value_at new key ≡ value_at old key
    pub nodes : (key : ℕ) → HasNode old key → HasNode new key
    pub vacant : new.vacant ≡ old.vacant

  -- p names q as the previous place now, and nothing else has changed
  pub record SetsPrevious (old new : Links T) (p q : Option ℕ) : Type 0 where
    pub set : previous_at new p ≡ q
    pub next : (other : Option ℕ) → next_at new other ≡ next_at old other
    pub previous : (other : Option ℕ) → other ≢ p
        → previous_at new other ≡ previous_at old other
    pub values : (key : ℕ) → value_at new key ≡ value_at old key
    pub nodes : (key : ℕ) → HasNode old key → HasNode new key
    pub vacant : new.vacant ≡ old.vacant

  -- p and q are joined now, and nothing else has changed
  pub record Joins (old new : Links T) (p q : Option ℕ) : Type 0 where
    pub joined : IsJoined new p q
    pub next : (other : Option ℕ) → other ≢ p → next_at new other ≡ next_at old other
    pub previous : (other : Option ℕ) → other ≢ q
        → previous_at new other ≡ previous_at old other
    pub values : (key : ℕ) → value_at new key ≡ value_at old key
    pub nodes : (key : ℕ) → HasNode old key → HasNode new key
    pub vacant : new.vacant ≡ old.vacant

  -- the run from `first` to `last` is joined in right behind the place
  pub record Splices (old new : Links T) (after : Option ℕ) (first last : ℕ) : Type 0 where
    pub between : Links T
    pub front : Joins old between after (Some first)
    pub back : Joins between new (Some last) (next_at old after)

  -- the first key to spare holds the value now
  pub record Fills (old new : Links T) (key : ℕ) (value : T) : Type 0 where
    pub was_vacant : old.vacant ≡ Some key
    pub filled : value_at new key ≡ Some value
    pub values : (other : ℕ) → other ≢ key → value_at new other ≡ value_at old other
    pub next : (other : Option ℕ) → next_at new other ≡ next_at old other
    pub previous : (other : Option ℕ) → previous_at new other ≡ previous_at old other
    pub nodes : (other : ℕ) → HasNode old other → HasNode new other
    pub vacant : new.vacant ≡ next_at old (Some key)

  -- the key has given up the value, and is the first to spare
  pub record Frees (old new : Links T) (key : ℕ) (value : T) : Type 0 where
    pub held : value_at old key ≡ Some value
    pub emptied : value_at new key ≡ None
    pub values : (other : ℕ) → other ≢ key → value_at new other ≡ value_at old other
    pub next : (other : Option ℕ) → other ≢ Some key → next_at new other ≡ next_at old other
    pub previous : (other : Option ℕ) → previous_at new other ≡ previous_at old other
    pub nodes : (other : ℕ) → HasNode old other → HasNode new other
    pub vacant : new.vacant ≡ Some key
    pub link : next_at new (Some key) ≡ old.vacant

  -- a new key is the first to spare
  pub record AddsSpare (old new : Links T) (key : ℕ) : Type 0 where
    pub was_absent : get old.nodes key ≡ None
    pub node : HasNode new key
    pub values : (other : ℕ) → value_at new other ≡ value_at old other
    pub next : (other : Option ℕ) → other ≢ Some key → next_at new other ≡ next_at old other
    pub previous : (other : Option ℕ) → other ≢ Some key
        → previous_at new other ≡ previous_at old other
    pub nodes : (other : ℕ) → HasNode old other → HasNode new other
    pub vacant : new.vacant ≡ Some key
    pub link : next_at new (Some key) ≡ old.vacant

  -- the same nodes, in the same order and with the same keys to spare
  pub record SameLinks (old new : Links T) : Type 0 where
    pub nodes : new.nodes.slots ≡ old.nodes.slots
    pub first : new.first ≡ old.first
    pub last : new.last ≡ old.last
    pub vacant : new.vacant ≡ old.vacant
