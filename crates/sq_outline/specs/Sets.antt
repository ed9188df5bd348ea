-- How blocks are searched whose bodies may become calls of one new procedure.
use Rattle.std.specs.Prelude.{◌≡◌, ◌≢◌, ℕ, nat_eq, nat_lt, ◌+◌, ◌*◌, ◌-◌, ◌^◌, ◌≤◌, ◌<◌, min, List, [], ◌∷◌, length, slice_index, if◌then◌else◌}
use Rattle.std.specs.List.{All, Contains, IsDistinct, sum_by}
use Rattle.sq_graph.specs.Graph.{Graph}
use Rattle.sq_graph.specs.Blocks.{HasBlock, items_of}
use Rattle.sq_rename.specs.Bodies.{IsLiveBehind}
use Rattle.sq_outline.specs.Links.{link_order, MayLink, IsLink}
use Rattle.sq_outline.specs.Made.{HasBody, ends_of}
use Rattle.sq_outline.specs.Prints.{print_groups}

-- the second list has exactly those of the first for which P holds, in their order
pub data Keeps (P : ℕ → Type 0) : List ℕ → List ℕ → Type 0 where
  nothing : Keeps P [] []
  kept : (x : ℕ) {xs ys : List ℕ} → P x → Keeps P xs ys → Keeps P (x ∷ xs) (x ∷ ys)
  left_out : (x : ℕ) {xs ys : List ℕ} → ¬ P x → Keeps P xs ys → Keeps P (x ∷ xs) ys

-- another block, whose body matches that of the first
abbrev pub IsOther : Graph → ℕ → ℕ → Type 0
IsOther g first block = (block ≢ first) × HasBody g (items_of g first) block

-- these are they, each once
pub record AreOthers (g : Graph) (first : ℕ) (others : List ℕ) : Type 0 where
  pub each : (block : ℕ) → Contains others block → IsOther g first block
  pub all : (block : ℕ) → IsOther g first block → Contains others block
  pub distinct : IsDistinct nat_eq others

-- all blocks are among these whose bodies match that of the first
pub record IsGroupOf (g : Graph) (first : ℕ) (group : List ℕ) : Type 0 where
  pub there : All (HasBlock g) group
  pub distinct : IsDistinct nat_eq group
  pub whole : (block : ℕ) → HasBody g (items_of g first) block → Contains group block

abbrev pub IsDeadBehind : Graph → ℕ → ℕ → Type 0
IsDeadBehind g r block = ¬ IsLiveBehind g block r

-- with so many calls for bodies of so many items at least a word is saved
abbrev pub Pays : ℕ → ℕ → Type 0
Pays calls items = items + 2 ≤ calls * (items - 1)

-- the register is one of those that are tried
abbrev pub IsTried : ℕ → Type 0
IsTried r = (k : ℕ) × ((k < length link_order) × (slice_index link_order k ≡ r))

-- These bodies match that of the first, and may be called through some register. The link is the first such register.
pub record CanMake (g : Graph) (first : ℕ) (others : List ℕ) : Type 0 where
  pub register : ℕ
  pub tried : IsTried register
  pub distinct : IsDistinct nat_eq (first ∷ others)
  pub bodies : All (HasBody g (items_of g first)) (first ∷ others)
  pub may : MayLink g (items_of g first) (ends_of g (first ∷ others)) register
  pub pays : Pays (length (first ∷ others)) (length (items_of g first))

-- The bodies of these blocks match that of the first, and this is their link.
pub record HaveLink (g : Graph) (first : ℕ) (blocks : List ℕ) (link : ℕ) : Type 0 where
  pub distinct : IsDistinct nat_eq blocks
  pub bodies : All (HasBody g (items_of g first)) blocks
  pub pays : Pays (length blocks) (length (items_of g first))
  pub linked : IsLink g (items_of g first) (ends_of g blocks) link

-- So many pairs of a group's members are compared at most, counted in a u64 that stays at its last value. Where the body of the first
-- has fewer than two items none are: no set of such bodies pays.
abbrev pub pairs_in : Graph → List ℕ → ℕ
pairs_in g [] = 0
pairs_in g (first ∷ group) = if nat_lt (length (items_of g first)) 2 then 0 else min (length (first ∷ group) * length (first ∷ group)) (2 ^ 64 - 1)

-- those of all groups of one print
abbrev pub count_pairs : Graph → ℕ
count_pairs g = min (sum_by (pairs_in g) (print_groups g)) (2 ^ 64 - 1)
