-- Which bytes are in memory, at a start and after steps.
use Rattle.std.proofs.Common.{◌≡◌, ℕ, zero, suc, ◌+◌, ◌-◌, Bool, true, false, ◌||◌, ◌&&◌, nat_le, nat_lt, List, [], ◌∷◌, ◌++◌, length, take, map, Option, Some, None, is_some, if◌then◌else◌, refl, subst, ap, ◌∙◌, arith}
use Rattle.std.proofs.lemmas.Bool.Decides.{nat_tests}
use Rattle.std.proofs.lemmas.Grind.{common_steps}
use Rattle.std.specs.List.{slice_get, list_any}
use Rattle.byteorder.specs.Endian.{little_bytes}
use Rattle.sq_isa.specs.Table.{insn_of}
use Rattle.sq_isa.specs.declared.instructions.Insn.{Insn}
use Rattle.sq_isa.specs.declared.instructions.Insn.TheVariants.{Lui, Auipc, Jal, Jalr, Branch, Load, Store, OpImm, Op, Fence, Ecall, Ebreak, Unimp, Atomic}
use Rattle.sq_isa.specs.declared.instructions.AtomicOp.{AtomicOp}
use Rattle.sq_isa.specs.declared.instructions.AtomicOp.TheVariants.{Lr, Sc, Swap, Add, Xor, And, Or, Min, Max, MinU, MaxU}
use Rattle.sq_isa.specs.Atomics.{atomic_value_of}
use Rattle.sq_isa.specs.Branches.{taken_of}
use Rattle.law_runs.specs.Runs.{Next, Went, Ended, Broke, state_after, state_from}
use Rattle.sq_memory.specs.Regions.{Region, region_cell, or_else, get}
use Rattle.sq_memory.proofs.RangeLaws.{with_cells-present}
use Rattle.sq_system.specs.Calls.{effect_of, answer_of}
use Rattle.sq_system.specs.Starts.{Start, StartFits, HasRoom}
use Rattle.sq_system.specs.declared.call.CallArgs.{CallArgs}
use Rattle.sq_system.specs.declared.call.Effect.{Effect}
use Rattle.sq_system.specs.declared.call.Effect.TheVariants.{Exit, Write, Read, Brk, Fail, Ask}
use Rattle.sq_system.specs.declared.event.Event.{Event}
use Rattle.sq_system.specs.declared.event.Halt.{Halt}
use Rattle.sq_system.proofs.Areas.{length-ram_at_start}
use Rattle.sq_system.specs.World.{World, is_in}
use Rattle.sq_machine.specs.State.{State, aligned_number, with_register, with_bytes, with_reservation, without_input, jump, advance, finish, address_of, target_of}
use Rattle.sq_machine.specs.Calls.{call_of, called, answered}
use Rattle.sq_isa.specs.Accesses.{store_width, is_reserved}
use Rattle.sq_machine.specs.Rows.{load_step, loaded, may_store, lr_step, sc_step, amo_step, amo_row, atomic_row, row_of}
use Rattle.sq_machine.specs.Steps.{fetched, insn_step, word_step, step_of}
use Rattle.sq_machine.specs.Starts.{StartPiece, piece_of, extent_of, bytes_of, piece_region, ram_region}
use Rattle.sq_machine.specs.Presence.{HasSameBytes, MappedAtStart, KeptByStep, KeptByRun}

-- a place of a list has an element exactly where it is below its length
present_at : (xs : List ℕ) (i : ℕ) → is_some (slice_get xs i) ≡ nat_lt i (length xs)
present_at [] i = grind (arith, nat_tests)
present_at (x ∷ xs) zero = grind (arith, nat_tests)
present_at (x ∷ xs) (suc i) = present_at xs i ∙ grind (arith, nat_tests)

-- a region has a cell exactly from its start up to its end
region_present : (r : Region ℕ) (x : ℕ) → is_some (region_cell r x) ≡ (nat_le r.start x && nat_lt x (r.start + length r.cells))
region_present r x = by_test (nat_le r.start x) refl
  where
    by_test : (from : Bool) → nat_le r.start x ≡ from → is_some (region_cell r x) ≡ (nat_le r.start x && nat_lt x (r.start + length r.cells))
    by_test true from =
        let below : nat_lt (x - r.start) (length r.cells) ≡ nat_lt x (r.start + length r.cells) = grind (arith, nat_tests) in
        rw from (present_at r.cells (x - r.start) ∙ below)
    by_test false from = rw from refl

-- regions one behind another
either : {C : Type 0} (o p : Option C) → is_some (or_else o p) ≡ (is_some o || is_some p)
either None p = refl
either (Some c) p = refl

-- a piece has as many bytes as it is long
length-bytes_of : (piece : StartPiece) → length (bytes_of piece) ≡ (extent_of piece).length
length-bytes_of piece = grind (arith, common_steps)

piece_present : (piece : StartPiece) (x : ℕ) → is_some (region_cell (piece_region piece) x) ≡ is_in x (piece_of piece)
piece_present piece x = region_present (piece_region piece) x ∙ ap (λ n. nat_le (extent_of piece).address x && nat_lt x ((extent_of piece).address + n)) (length-bytes_of piece)

ram_present : (start : Start) → StartFits start.base start.size → HasRoom start → (x : ℕ) → is_some (region_cell (ram_region start) x) ≡ (nat_le start.base x && nat_lt x (start.base + start.size))
ram_present start fits room x = region_present (ram_region start) x ∙ ap (λ n. nat_le start.base x && nat_lt x (start.base + n)) (length-ram_at_start start fits room)

behind : (a b c : Bool) → (a || (b || c)) ≡ ((a || b) || c)
behind true b c = refl
behind false b c = refl

all_present : (pieces : List StartPiece) (r : Region ℕ) (x : ℕ) → is_some (get (map piece_region pieces ++ r ∷ []) x) ≡ (list_any (is_in x) (map piece_of pieces) || is_some (region_cell r x))
all_present [] r x = either (region_cell r x) None ∙ alone (is_some (region_cell r x))
  where
    alone : (b : Bool) → (b || false) ≡ (false || b)
    alone true = refl
    alone false = refl
all_present (piece ∷ pieces) r x =
    either (region_cell (piece_region piece) x) (get (map piece_region pieces ++ r ∷ []) x)
    ∙ (λ i. piece_present piece x i || all_present pieces r x i)
    ∙ behind (is_in x (piece_of piece)) (list_any (is_in x) (map piece_of pieces)) (is_some (region_cell r x))

pub mapped_at_start : MappedAtStart
unfolding with_register
mapped_at_start entry pieces start fits room x =
    all_present pieces (ram_region start) x ∙ ap (λ b. list_any (is_in x) (map piece_of pieces) || b) (ram_present start fits room x)

-- P of the state of a step that goes on
abbrev Going : Next Event Halt ⊥ State → (State → Type 0) → Type 0
Going (Went e t) P = P t
Going (Ended h) P = Unit {0}
Going (Broke b) P = Unit {0}

-- the bytes that are in memory are the same
record Kept (s t : State) : Type 0 where
  same : HasSameBytes s t

register_kept : (r v : ℕ) (s : State) → Kept s (with_register r v s)
unfolding with_register
register_kept r v s = record { same = λ x. refl }

finish_kept : (rd v : ℕ) (s : State) → Kept s (finish rd v s)
unfolding with_register jump
finish_kept rd v s = record { same = λ x. refl }

jump_kept : (target : ℕ) (s : State) → Kept s (jump target s)
unfolding jump
jump_kept target s = record { same = λ x. refl }

linked_kept : (target rd v : ℕ) (s : State) → Kept s (jump target (with_register rd v s))
unfolding with_register jump
linked_kept target rd v s = record { same = λ x. refl }

written_kept : (x : ℕ) (bytes : List ℕ) (s : State) → Kept s (with_bytes x bytes s)
unfolding with_bytes
written_kept x bytes s = record { same = with_cells-present bytes s.memory x }

input_kept : (count : ℕ) (s : State) → Kept s (without_input count s)
unfolding without_input
input_kept count s = record { same = λ x. refl }

reserved_kept : (reservation : Option ℕ) (s : State) → Kept s (with_reservation reservation s)
unfolding with_reservation
reserved_kept reservation s = record { same = λ x. refl }

-- one after another
then_kept : {s t u : State} → Kept s t → Kept t u → Kept s u
then_kept first second = record { same = λ x. second.same x ∙ first.same x }

branch_kept : (taken : Bool) (target : ℕ) (s : State) → Kept s (if taken then jump target s else advance s)
branch_kept true target s = jump_kept target s
branch_kept false target s = jump_kept _ s

load_kept : (x rd : ℕ) (s : State) (found : Option ℕ) → Going (load_step x rd s found) (Kept s)
load_kept x rd s None = tt
load_kept x rd s (Some v) = finish_kept rd v s

store_kept : (may : Bool) (x : ℕ) (bytes : List ℕ) (s : State) (h : Halt) → Going (if may then Went None (advance (with_bytes x bytes s)) else Ended h) (Kept s)
store_kept true x bytes s h = then_kept (written_kept x bytes s) (jump_kept _ (with_bytes x bytes s))
store_kept false x bytes s h = tt

lr_kept : (x rd : ℕ) (s : State) (found : Option ℕ) → Going (lr_step x rd s found) (Kept s)
lr_kept x rd s None = tt
lr_kept x rd s (Some v) = then_kept (reserved_kept (Some x) s) (finish_kept rd v (with_reservation (Some x) s))

sc_kept : (x rd src : ℕ) (s : State) (reserved : Bool) → Kept s (sc_step x rd src s reserved)
sc_kept x rd src s true =
    let bare : State = with_reservation None s in
    then_kept (then_kept (reserved_kept None s) (written_kept x (little_bytes 4 src) bare)) (finish_kept rd 0 (with_bytes x (little_bytes 4 src) bare))
sc_kept x rd src s false = then_kept (reserved_kept None s) (finish_kept rd 1 (with_reservation None s))

sc_row_kept : (may : Bool) (x rd src : ℕ) (s : State) (reserved : Bool) (h : Halt) → Going (if may then Went None (sc_step x rd src s reserved) else Ended h) (Kept s)
sc_row_kept true x rd src s reserved h = sc_kept x rd src s reserved
sc_row_kept false x rd src s reserved h = tt

amo_kept : (may : Bool) (op : AtomicOp) (x rd src : ℕ) (s : State) (found : Option ℕ) (h : Halt) → Going (if may then amo_step op x rd src s found else Ended h) (Kept s)
amo_kept true op x rd src s None h = tt
amo_kept true op x rd src s (Some old) h = then_kept (written_kept x (little_bytes 4 (atomic_value_of op old src)) s) (finish_kept rd old (with_bytes x (little_bytes 4 (atomic_value_of op old src)) s))
amo_kept false op x rd src s found h = tt

amo_row_kept : (w : World) (op : AtomicOp) (rd rs src : ℕ) (s : State) → Going (amo_row w op rd rs src s) (Kept s)
amo_row_kept w op rd rs src s = amo_kept (may_store w (s.registers rs) 4) op (s.registers rs) rd (s.registers src) s (aligned_number s.memory (s.registers rs) 4) _

atomic_kept : (w : World) (op : AtomicOp) (rd rs src : ℕ) (s : State) → Going (atomic_row w op rd rs src s) (Kept s)
atomic_kept w Lr rd rs src s = lr_kept (s.registers rs) rd s (aligned_number s.memory (s.registers rs) 4)
atomic_kept w Sc rd rs src s = sc_row_kept (may_store w (s.registers rs) 4) (s.registers rs) rd (s.registers src) s (is_reserved (s.registers rs) s.reservation) _
atomic_kept w Swap rd rs src s = amo_row_kept w Swap rd rs src s
atomic_kept w Add rd rs src s = amo_row_kept w Add rd rs src s
atomic_kept w Xor rd rs src s = amo_row_kept w Xor rd rs src s
atomic_kept w And rd rs src s = amo_row_kept w And rd rs src s
atomic_kept w Or rd rs src s = amo_row_kept w Or rd rs src s
atomic_kept w Min rd rs src s = amo_row_kept w Min rd rs src s
atomic_kept w Max rd rs src s = amo_row_kept w Max rd rs src s
atomic_kept w MinU rd rs src s = amo_row_kept w MinU rd rs src s
atomic_kept w MaxU rd rs src s = amo_row_kept w MaxU rd rs src s

answered_kept : (answer : Option ℕ) (s : State) → Kept s (answered answer s)
answered_kept None s = jump_kept _ s
answered_kept (Some answer) s = then_kept (register_kept 10 answer s) (jump_kept _ (with_register 10 answer s))

called_kept : (call : CallArgs) (s : State) (effect : Effect) → Going (called call s effect) (Kept s)
called_kept call s (Exit status) = tt
called_kept call s (Write fd) = answered_kept (answer_of call (Write fd)) s
called_kept call s (Read count) =
    let filled : State = with_bytes call.a1 (take count s.input) s in
    then_kept (then_kept (written_kept call.a1 (take count s.input) s) (input_kept count filled)) (answered_kept (answer_of call (Read count)) (without_input count filled))
called_kept call s (Brk answer) = answered_kept (answer_of call (Brk answer)) s
called_kept call s (Fail code) = answered_kept (answer_of call (Fail code)) s
called_kept call s Ask = answered_kept (answer_of call Ask) s

row_kept : (w : World) (s : State) (insn : Insn) → Going (row_of w s insn) (Kept s)
row_kept w s (Lui rd upper) = finish_kept rd _ s
row_kept w s (Auipc rd upper) = finish_kept rd _ s
row_kept w s (Jal rd offset) = linked_kept _ rd _ s
row_kept w s (Jalr rd rs offset) = linked_kept _ rd _ s
row_kept w s (Branch c a b offset) = branch_kept (taken_of c (s.registers a) (s.registers b)) (target_of offset s) s
row_kept w s (Load kind rd rs offset) = load_kept (address_of rs offset s) rd s (loaded kind s.memory (address_of rs offset s))
row_kept w s (Store kind rs src offset) = store_kept (may_store w (address_of rs offset s) (store_width kind)) (address_of rs offset s) (little_bytes (store_width kind) (s.registers src)) s _
row_kept w s (OpImm op rd rs imm) = finish_kept rd _ s
row_kept w s (Op op rd a b) = finish_kept rd _ s
row_kept w s (Fence word) = jump_kept _ s
row_kept w s Ecall = called_kept (call_of w s) s (effect_of (call_of w s))
row_kept w s Ebreak = tt
row_kept w s (Unimp word) = tt
row_kept w s (Atomic op order rd rs src) = atomic_kept w op rd rs src s

insn_kept : (w : World) (s : State) (insn : Option Insn) → Going (insn_step w s insn) (Kept s)
insn_kept w s None = tt
insn_kept w s (Some insn) = row_kept w s insn

word_kept : (w : World) (s : State) (word : Option ℕ) → Going (word_step w s word) (Kept s)
word_kept w s None = tt
word_kept w s (Some word) = insn_kept w s (insn_of word)

step_kept : (w : World) (s : State) → Going (step_of w s) (Kept s)
unfolding step_of
step_kept w s = word_kept w s (fetched w s)

pub kept_by_step : KeptByStep
kept_by_step w s t e goes =
    let kept : Kept s t = subst (λ next. Going next (Kept s)) goes (step_kept w s) in
    kept.same

-- from one step on
run_from : (s : State) (next : Next Event Halt ⊥ State) (go : State → State) → Going next (Kept s) → ((t : State) → Kept t (go t)) → Kept s (state_from next s go)
run_from s (Went e t) go kept later = then_kept kept (later t)
run_from s (Ended h) go kept later = record { same = λ x. refl }
run_from s (Broke b) go kept later = record { same = λ x. refl }

run_kept : (w : World) (n : ℕ) (s : State) → Kept s (state_after (step_of w) n s)
run_kept w zero s = record { same = λ x. refl }
run_kept w (suc n) s = run_from s (step_of w s) (state_after (step_of w) n) (step_kept w s) (λ t. run_kept w n t)

pub kept_by_run : KeptByRun
kept_by_run w n s = (run_kept w n s).same
