-- A `Contents` as a list of regions.
use Rattle.std.specs.Prelude.{◌≡◌, ℕ, ◌<◌, ◌≤◌, List, map, Some, is_some, position}
use Rattle.sq_memory.specs.declared.contents.Region.{Region as RustRegion}
use Rattle.sq_memory.specs.declared.contents.Near.{Near}
use Rattle.sq_memory.specs.Regions.{Region, region_cell}

abbrev pub region_of : {C : Type 0} → RustRegion C → Region C
region_of r = record { start = r.start; cells = r.cells.items }

abbrev pub regions_of : {C : Type 0} → List (RustRegion C) → List (Region C)
regions_of rs = map region_of rs

-- x is one of the addresses from low up to high
abbrev pub HasAddress : Near → ℕ → Type 0
HasAddress near x = (near.low ≤ x) × (x < near.high)

-- At each of these addresses the region at that place is the first that has a cell.
abbrev pub Serves : {C : Type 0} → List (Region C) → Near → Type 0
Serves rs near = (x : ℕ) → HasAddress near x → position (λ r. is_some (region_cell r x)) rs ≡ Some near.place
