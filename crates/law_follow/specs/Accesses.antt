-- Loads and stores of tagged values, once their address is known.
use Rattle.std.specs.Prelude.{ℕ, Bool, true, false, not, ◌&&◌, List, Option, Some, None, map, if◌then◌else◌}
use Rattle.std.specs.List.{list_any}
use Rattle.sq_isa.specs.Accesses.{load_width, store_width, extended, bytes_number, is_aligned, is_reserved}
use Rattle.sq_isa.specs.declared.instructions.LoadKind.{LoadKind}
use Rattle.sq_isa.specs.declared.instructions.LoadKind.TheVariants.{Lb, Lh, Lw, Lbu, Lhu}
use Rattle.sq_isa.specs.declared.instructions.StoreKind.{StoreKind}
use Rattle.sq_isa.specs.declared.instructions.StoreKind.TheVariants.{Sb, Sh, Sw}
use Rattle.sq_isa.specs.declared.instructions.AtomicOp.{AtomicOp}
use Rattle.sq_isa.specs.declared.instructions.AtomicOp.TheVariants.{Lr, Sc}
use Rattle.law_runs.specs.Runs.{Next, Went, Ended, Broke}
use Rattle.sq_memory.specs.Cells.{cells_from, with_cells}
use Rattle.sq_system.specs.declared.event.Event.{Event}
use Rattle.sq_system.specs.declared.event.Halt.{Halt}
use Rattle.sq_system.specs.declared.event.Halt.TheVariants.{Load as LoadFault, Store as StoreFault}
use Rattle.law_follow.specs.declared.kind.Kind.{Kind}
use Rattle.law_follow.specs.declared.kind.Kind.TheVariants.{Arithmetic, Fragment, Stale as StaleByte, Text}
use Rattle.law_follow.specs.Values.{Tag, Value, Num, Tagged, Cell, is_tagged, is_stale, is_fragment, byte_of, whole, cells_of}
use Rattle.law_follow.specs.Settings.{Setting, Store, Made, meets_text, may_store}
use Rattle.law_follow.specs.Arithmetic.{atomic_result}

-- what one instruction gives
abbrev pub Step : Type 0
Step = Next Event Halt Kind Made

abbrev pub gives : Value → Store → Step
gives value store = Went None (record { value = value; store = store })

-- the value, or a break where there is none
abbrev pub gives_or_breaks : Kind → Option Value → Store → Step
gives_or_breaks kind None store = Broke kind
gives_or_breaks kind (Some value) store = gives value store

-- the cells at an address that is a multiple of the width, where all of them are in memory
abbrev pub aligned_cells : Store → ℕ → ℕ → Option (List Cell)
aligned_cells store x width = if is_aligned x width then cells_from store.memory x width else None

abbrev pub stored : ℕ → ℕ → Value → Store → Store
stored x width value store = record store { memory = with_cells store.memory x (cells_of width value) }

abbrev pub reserved : Option ℕ → Store → Store
reserved reservation store = record store { reservation = reservation }

-- only a load of a whole word can find a tagged value
abbrev pub tag_in : LoadKind → List Cell → Option Tag
tag_in Lw cells = whole cells
tag_in Lb cells = None
tag_in Lh cells = None
tag_in Lbu cells = None
tag_in Lhu cells = None

abbrev pub with_tag_or_number : LoadKind → List Cell → (Value → Step) → Option Tag → Step
with_tag_or_number kind cells go (Some tag) = go (Tagged tag)
with_tag_or_number kind cells go None =
    if list_any is_fragment cells then Broke Fragment else go (Num (extended kind (bytes_number (map byte_of cells))))

-- goes on with what a load finds in these cells: a stale byte breaks, and so does a part, but where a whole word
-- is parts 0 to 3 of one value
abbrev pub with_loaded : LoadKind → List Cell → (Value → Step) → Step
with_loaded kind cells go =
    if list_any is_stale cells then Broke StaleByte else with_tag_or_number kind cells go (tag_in kind cells)

-- a load, where its cells are there
abbrev pub load_cells : LoadKind → ℕ → Store → Option (List Cell) → Step
load_cells kind x store None = Ended (LoadFault x)
load_cells kind x store (Some cells) = with_loaded kind cells (λ value. gives value store)

-- a load at x: a byte in text breaks, and then come the ends of the plain machine
abbrev pub load_at : Setting → LoadKind → ℕ → Store → Step
load_at s kind x store =
    if meets_text s x (load_width kind) then Broke Text
    else load_cells kind x store (aligned_cells store x (load_width kind))

abbrev pub is_word : StoreKind → Bool
is_word Sb = false
is_word Sh = false
is_word Sw = true

-- a store at x: a tagged value that isn't stored as a word breaks, and then a byte in text
abbrev pub store_at : Setting → StoreKind → Value → ℕ → Store → Step
store_at s kind value x store =
    if is_tagged value && not (is_word kind) then Broke Fragment
    else if meets_text s x (store_width kind) then Broke Text
    else if may_store s x (store_width kind) then gives (Num 0) (stored x (store_width kind) value store)
    else Ended (StoreFault x)

-- LR: the word as `lw` loads it, and a reservation of its address
abbrev pub lr_cells : ℕ → Store → Option (List Cell) → Step
lr_cells x store None = Ended (LoadFault x)
lr_cells x store (Some cells) = with_loaded Lw cells (λ value. gives value (reserved (Some x) store))

-- SC: where its address is reserved, the source is stored as `sw` stores it, and the destination is 0; else it is
-- 1. The reservation is gone
abbrev pub sc_step : ℕ → Value → Store → Bool → Step
sc_step x src store true = gives (Num 0) (reserved None (stored x 4 src store))
sc_step x src store false = gives (Num 1) (reserved None store)

-- the result is stored, and the destination has the old value
abbrev pub update : ℕ → Value → Store → Option Value → Step
update x old store None = Broke Arithmetic
update x old store (Some new) = gives old (stored x 4 new store)

-- the others: the old value as `lw` loads it
abbrev pub amo_cells : AtomicOp → ℕ → Value → Store → Option (List Cell) → Step
amo_cells op x src store None = Ended (StoreFault x)
amo_cells op x src store (Some cells) = with_loaded Lw cells (λ old. update x old store (atomic_result op old src))

-- an atomic operation outside text
abbrev pub atomic_row : Setting → AtomicOp → ℕ → Value → Store → Step
atomic_row s Lr x src store = lr_cells x store (aligned_cells store x 4)
atomic_row s Sc x src store =
    if may_store s x 4 then sc_step x src store (is_reserved x store.reservation) else Ended (StoreFault x)
atomic_row s op x src store =
    if may_store s x 4 then amo_cells op x src store (aligned_cells store x 4) else Ended (StoreFault x)

-- an atomic operation at x: a byte in text breaks
abbrev pub atomic_at : Setting → AtomicOp → ℕ → Value → Store → Step
atomic_at s op x src store = if meets_text s x 4 then Broke Text else atomic_row s op x src store
