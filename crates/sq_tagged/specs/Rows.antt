-- What the answer of a row says, and parts of rows.
use Rattle.std.specs.Prelude.{◌≡◌, ℕ, Bool, true, false, List, [], ◌++◌, map, Option, None, Result, Ok, Err, if◌then◌else◌}
use Rattle.std.specs.List.{list_any}
use Rattle.sq_isa.specs.Accesses.{bytes_number, is_reserved}
use Rattle.sq_isa.specs.declared.instructions.AtomicOp.{AtomicOp}
use Rattle.sq_isa.specs.declared.instructions.Insn.{Insn}
use Rattle.sq_isa.specs.declared.instructions.Insn.TheVariants.{Load, Store as StoreInsn, Atomic}
use Rattle.law_runs.specs.Runs.{Went, Ended, Broke, with_event}
use Rattle.sq_system.specs.declared.event.Event.{Event}
use Rattle.sq_system.specs.declared.event.Halt.TheVariants.{Store as StoreFault}
use Rattle.law_follow.specs.declared.kind.Kind.{Kind}
use Rattle.law_follow.specs.declared.kind.Kind.TheVariants.{Fragment, Stale as StaleByte}
use Rattle.law_follow.specs.Values.{Value, Cell, is_stale, is_fragment, byte_of}
use Rattle.law_follow.specs.Settings.{Setting, Store, may_store}
use Rattle.law_follow.specs.Accesses.{Step, gives, aligned_cells, sc_step, amo_cells}
use Rattle.sq_tagged.specs.declared.values.Value.{Value as RustValue}
use Rattle.sq_tagged.specs.declared.made.Made.{Made}
use Rattle.sq_tagged.specs.declared.made.Made.TheVariants.{Gives, Ends, Breaks}
use Rattle.sq_tagged.specs.Views.{value_of}

-- a load, a store or an atomic operation
abbrev pub is_access : Insn → Bool
is_access (Load kind rd rs offset) = true
is_access (StoreInsn kind rs src offset) = true
is_access (Atomic op order rd rs src) = true
is_access insn = false

-- goes on with what was found; else the step breaks
abbrev pub go_with : Result RustValue Kind → (Value → Step) → Step
go_with (Ok value) go = go (value_of value)
go_with (Err kind) go = Broke kind

-- the number of these bytes, or why they can't be read
abbrev pub number_in : List Cell → Result ℕ Kind
number_in cells =
    if list_any is_stale cells then Err StaleByte
    else if list_any is_fragment cells then Err Fragment
    else Ok (bytes_number (map byte_of cells))

-- SC outside text
abbrev pub sc_row : Setting → ℕ → Value → Store → Step
sc_row s x src store =
    if may_store s x 4 then sc_step x src store (is_reserved x store.reservation) else Ended (StoreFault x)

-- an atomic operation other than LR and SC, outside text
abbrev pub amo_row : Setting → AtomicOp → ℕ → Value → Store → Step
amo_row s op x src store =
    if may_store s x 4 then amo_cells op x src store (aligned_cells store x 4) else Ended (StoreFault x)

-- A row without an event: what is answered, and the store before and after. An end and a break change nothing.
abbrev pub IsQuiet : Step → Made → Store → Store → Type 0
IsQuiet step (Gives value) old new = step ≡ gives (value_of value) new
IsQuiet step (Ends halt) old new = (step ≡ Ended halt) × (new ≡ old)
IsQuiet step (Breaks kind) old new = (step ≡ Broke kind) × (new ≡ old)

abbrev pub event_in : Step → Option Event
event_in (Went event made) = event
event_in (Ended halt) = None
event_in (Broke kind) = None

-- A row: what is answered, the store before and after, and the log before and after.
abbrev pub IsMade : Step → Made → Store → Store → List Event → List Event → Type 0
IsMade step (Gives value) old new before after =
    (step ≡ Went (event_in step) (record { value = value_of value; store = new })) × (after ≡ before ++ with_event (event_in step) [])
IsMade step (Ends halt) old new before after = (step ≡ Ended halt) × (new ≡ old) × (after ≡ before)
IsMade step (Breaks kind) old new before after = (step ≡ Broke kind) × (new ≡ old) × (after ≡ before)
