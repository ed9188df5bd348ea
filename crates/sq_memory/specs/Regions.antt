-- Memory as a list of regions. The first region that has a cell at an address holds it.
use Rattle.std.specs.Prelude.{ℕ, ◌+◌, ◌-◌, List, [], ◌∷◌, Option, Some, None, is_some, nat_le, slice_get, slice_set, map, if◌then◌else◌}
use Rattle.sq_memory.specs.Cells.{Cells}

-- cells from an address on, one at each
pub record Region (C : Type 0) : Type 0 where
  pub start : ℕ
  pub cells : List C

-- what a region has at address x
abbrev pub region_cell : {C : Type 0} → Region C → ℕ → Option C
region_cell r x = if nat_le r.start x then slice_get r.cells (x - r.start) else None

abbrev pub or_else : {C : Type 0} → Option C → Option C → Option C
or_else None o = o
or_else (Some c) o = Some c

-- The cell at an address.
abbrev pub get : {C : Type 0} → List (Region C) → Cells C
get [] x = None
get (r ∷ rs) x = or_else (region_cell r x) (get rs x)

abbrev pub region_with : {C : Type 0} → Region C → ℕ → C → Region C
region_with r x c = record { start = r.start; cells = slice_set r.cells (x - r.start) c }

-- The memory with c at address x, where a cell is there.
abbrev pub put : {C : Type 0} → List (Region C) → ℕ → C → List (Region C)
put [] x c = []
put (r ∷ rs) x c = if is_some (region_cell r x) then region_with r x c ∷ rs else r ∷ put rs x c

abbrev pub map_region : {C D : Type 0} → (C → D) → Region C → Region D
map_region f r = record { start = r.start; cells = map f r.cells }

-- each cell as f gives it
abbrev pub map_regions : {C D : Type 0} → (C → D) → List (Region C) → List (Region D)
map_regions f rs = map (map_region f) rs

-- the memory with these cells from address x on
abbrev pub put_all : {C : Type 0} → List (Region C) → ℕ → List C → List (Region C)
put_all rs x [] = rs
put_all rs x (c ∷ cs) = put_all (put rs x c) (x + 1) cs
