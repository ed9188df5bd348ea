-- The nodes from which a read is led to, and the search for them. No public clause cites this module.
use Rattle.std.specs.Prelude.{◌≡◌, ℕ, zero, suc, ◌++◌, ◌∷◌, ◌+◌, ◌-◌, ◌^◌, ◌<◌, true, false, List, [], ◌⊎◌, length, slice_get, slice_index_or, sum_by}
use Rattle.std.specs.List.{Contains}
use Rattle.sq_isa.specs.Registers.{is_member}
use Rattle.sq_live.specs.declared.effect.Effect.{Effect}
use Rattle.sq_live.specs.Effects.{effect_reads, effect_writes}

abbrev pub list_at : List (List ℕ) → ℕ → List ℕ
list_at nodes k = slice_index_or nodes k []

-- Some way from a node comes to one that reads r, and none on the way writes it. The lists say where nodes lead.
pub data Leads (effects : List Effect) (exits : List (List ℕ)) (r : ℕ) : ℕ → Type 0 where
  read_in : {k : ℕ} → effect_reads (slice_get effects k) r ≡ true → Leads effects exits r k
  leads_on : {k to : ℕ} → effect_writes (slice_get effects k) r ≡ false → Contains (list_at exits k) to → Leads effects exits r to → Leads effects exits r k

-- the same, where the lists say which nodes lead to a node
pub data IsReached (effects : List Effect) (sources : List (List ℕ)) (r : ℕ) : ℕ → Type 0 where
  begins : {k : ℕ} → effect_reads (slice_get effects k) r ≡ true → IsReached effects sources r k
  comes : {k to : ℕ} → effect_writes (slice_get effects k) r ≡ false → Contains (list_at sources to) k → IsReached effects sources r to → IsReached effects sources r k

-- A set has the register at a node.
abbrev pub Has : List ℕ → ℕ → ℕ → Type 0
Has sets r k = is_member (slice_index_or sets k 0) r ≡ true

-- A search backwards from the nodes that read a register: where a set has the register, its node leads to a read, and the
-- nodes that lead on to it have the register too, but where it waits. At `node` these sources are still to be looked at.
pub record IsSearching (effects : List Effect) (sources : List (List ℕ)) (r node : ℕ) (left : List ℕ) (sets waiting : List ℕ) : Type 0 where
  pub begun : (k : ℕ) → effect_reads (slice_get effects k) r ≡ true → Has sets r k
  pub visited : (from to : ℕ) → Contains (list_at sources to) from → effect_writes (slice_get effects from) r ≡ false → Has sets r to → Has sets r from ⊎ (Contains waiting to ⊎ ((to ≡ node) × Contains left from))
  pub sound : (k : ℕ) → Has sets r k → IsReached effects sources r k

-- the same of all registers but x0 at once
pub record IsVisiting (effects : List Effect) (sources : List (List ℕ)) (node : ℕ) (left : List ℕ) (sets waiting : List ℕ) : Type 0 where
  pub count : length sets ≡ length effects
  pub there : (k : ℕ) → Contains waiting k → k < length effects
  pub each : (r : ℕ) → 0 < r → r < 32 → IsSearching effects sources r node left sets waiting

-- the nodes before one, whose turn comes later
abbrev pub up_to : ℕ → List ℕ
up_to zero = []
up_to (suc k) = up_to k ++ k ∷ []

-- how much the sets may grow, and how many nodes wait
abbrev pub work_of : List ℕ → List ℕ → ℕ
work_of sets waiting = sum_by (λ set. 2 ^ 32 - set) sets + length waiting
