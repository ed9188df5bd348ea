-- Each instruction of the plain machine leaves pc below 2^32, so that a run which starts there fetches there.
use Rattle.std.proofs.Common.{ℕ, zero, suc, ◌^◌, ◌<◌, Bool, true, false, Option, Some, None, if◌then◌else◌, arith}
use Rattle.sq_isa.specs.Words.{wrapped, even}
use Rattle.sq_isa.specs.Table.{insn_of}
use Rattle.sq_isa.specs.Accesses.{store_width, is_reserved}
use Rattle.sq_isa.specs.Branches.{taken_of}
use Rattle.sq_isa.specs.declared.instructions.Insn.{Insn}
use Rattle.sq_isa.specs.declared.instructions.Insn.TheVariants.{Lui, Auipc, Jal, Jalr, Branch, Load, Store, OpImm, Op, Fence, Ecall, Ebreak, Unimp, Atomic}
use Rattle.sq_isa.specs.declared.instructions.AtomicOp.{AtomicOp}
use Rattle.sq_isa.specs.declared.instructions.AtomicOp.TheVariants.{Lr, Sc, Swap, Add, Xor, And, Or, Min, Max, MinU, MaxU}
use Rattle.law_runs.specs.Runs.{Next, Went, Ended, Broke, Status, Running, Halted, Broken, Trace, trace, trace_from}
use Rattle.sq_system.specs.World.{World}
use Rattle.sq_system.specs.Calls.{effect_of, answer_of}
use Rattle.sq_system.specs.declared.call.CallArgs.{CallArgs}
use Rattle.sq_system.specs.declared.call.Effect.{Effect}
use Rattle.sq_system.specs.declared.call.Effect.TheVariants.{Exit, Write, Read, Brk, Fail, Ask}
use Rattle.sq_system.specs.declared.event.Event.{Event}
use Rattle.sq_system.specs.declared.event.Halt.{Halt}
use Rattle.sq_system.specs.declared.event.Halt.TheVariants.{Exit as Exited, Illegal, Breakpoint, Fetch, Load as LoadFault, Store as StoreFault}
use Rattle.sq_machine.specs.State.{State, aligned_number, jump, advance, address_of}
use Rattle.sq_machine.specs.Calls.{call_of, called, answered}
use Rattle.sq_machine.specs.Rows.{load_step, loaded, may_store, lr_step, sc_step, amo_step, amo_row, atomic_row, row_of}
use Rattle.sq_machine.specs.Steps.{fetched, insn_step, word_step, step_of, trace_of}

-- where this is a fetch, its address is below 2^32
abbrev pub FetchFits : Halt → Type 0
FetchFits (Exited status) = Unit {0}
FetchFits Illegal = Unit {0}
FetchFits Breakpoint = Unit {0}
FetchFits (Fetch x) = x < 2 ^ 32
FetchFits (LoadFault x) = Unit {0}
FetchFits (StoreFault x) = Unit {0}

-- where this is the end of a run, and a fetch
abbrev pub EndFits : Status Halt → Type 0
EndFits Running = Unit {0}
EndFits (Halted halt) = FetchFits halt
EndFits Broken = Unit {0}

-- pc is below 2^32 where a step goes on, and so is the address of a fetch where it ends
abbrev Fits : Next Event Halt ⊥ State → Type 0
Fits (Went e t) = t.pc < 2 ^ 32
Fits (Ended h) = FetchFits h
Fits (Broke b) = Unit {0}

wrapped_fits : (x : ℕ) (s : State) → (jump (wrapped x) s).pc < 2 ^ 32
unfolding jump
wrapped_fits x s = grind arith

even_fits : (x : ℕ) (s : State) → (jump (even (wrapped x)) s).pc < 2 ^ 32
unfolding jump
even_fits x s = grind arith

branch_fits : (taken : Bool) (offset : ℕ) (s : State) → (if taken then jump (wrapped offset) s else advance s).pc < 2 ^ 32
branch_fits true offset s = wrapped_fits offset s
branch_fits false offset s = wrapped_fits _ s

load_fits : (x rd : ℕ) (s : State) (found : Option ℕ) → Fits (load_step x rd s found)
load_fits x rd s None = tt
load_fits x rd s (Some v) = wrapped_fits _ _

lr_fits : (x rd : ℕ) (s : State) (found : Option ℕ) → Fits (lr_step x rd s found)
lr_fits x rd s None = tt
lr_fits x rd s (Some v) = wrapped_fits _ _

sc_fits : (x rd src : ℕ) (s : State) (reserved : Bool) → (sc_step x rd src s reserved).pc < 2 ^ 32
sc_fits x rd src s true = wrapped_fits _ _
sc_fits x rd src s false = wrapped_fits _ _

amo_fits : (op : AtomicOp) (x rd src : ℕ) (s : State) (found : Option ℕ) → Fits (amo_step op x rd src s found)
amo_fits op x rd src s None = tt
amo_fits op x rd src s (Some old) = wrapped_fits _ _

-- a step that is made where it may be
where_it_may : (may : Bool) (next : Next Event Halt ⊥ State) (h : Halt) → Fits next → FetchFits h → Fits (if may then next else Ended h)
where_it_may true next h fits end = fits
where_it_may false next h fits end = end

amo_row_fits : (w : World) (op : AtomicOp) (rd rs src : ℕ) (s : State) → Fits (amo_row w op rd rs src s)
amo_row_fits w op rd rs src s =
    where_it_may (may_store w (s.registers rs) 4) _ _ (amo_fits op (s.registers rs) rd (s.registers src) s (aligned_number s.memory (s.registers rs) 4)) tt

atomic_fits : (w : World) (op : AtomicOp) (rd rs src : ℕ) (s : State) → Fits (atomic_row w op rd rs src s)
atomic_fits w Lr rd rs src s = lr_fits (s.registers rs) rd s (aligned_number s.memory (s.registers rs) 4)
atomic_fits w Sc rd rs src s =
    where_it_may (may_store w (s.registers rs) 4) _ _ (sc_fits (s.registers rs) rd (s.registers src) s (is_reserved (s.registers rs) s.reservation)) tt
atomic_fits w Swap rd rs src s = amo_row_fits w Swap rd rs src s
atomic_fits w Add rd rs src s = amo_row_fits w Add rd rs src s
atomic_fits w Xor rd rs src s = amo_row_fits w Xor rd rs src s
atomic_fits w And rd rs src s = amo_row_fits w And rd rs src s
atomic_fits w Or rd rs src s = amo_row_fits w Or rd rs src s
atomic_fits w Min rd rs src s = amo_row_fits w Min rd rs src s
atomic_fits w Max rd rs src s = amo_row_fits w Max rd rs src s
atomic_fits w MinU rd rs src s = amo_row_fits w MinU rd rs src s
atomic_fits w MaxU rd rs src s = amo_row_fits w MaxU rd rs src s

answered_fits : (answer : Option ℕ) (s : State) → (answered answer s).pc < 2 ^ 32
answered_fits None s = wrapped_fits _ _
answered_fits (Some answer) s = wrapped_fits _ _

called_fits : (call : CallArgs) (s : State) (effect : Effect) → Fits (called call s effect)
called_fits call s (Exit status) = tt
called_fits call s (Write fd) = answered_fits (answer_of call (Write fd)) _
called_fits call s (Read count) = answered_fits (answer_of call (Read count)) _
called_fits call s (Brk answer) = answered_fits (answer_of call (Brk answer)) _
called_fits call s (Fail code) = answered_fits (answer_of call (Fail code)) _
called_fits call s Ask = answered_fits (answer_of call Ask) _

row_fits : (w : World) (s : State) (insn : Insn) → Fits (row_of w s insn)
row_fits w s (Lui rd upper) = wrapped_fits _ _
row_fits w s (Auipc rd upper) = wrapped_fits _ _
row_fits w s (Jal rd offset) = wrapped_fits _ _
row_fits w s (Jalr rd rs offset) = even_fits _ _
row_fits w s (Branch c a b offset) = branch_fits (taken_of c (s.registers a) (s.registers b)) _ s
row_fits w s (Load kind rd rs offset) = load_fits (address_of rs offset s) rd s (loaded kind s.memory (address_of rs offset s))
row_fits w s (Store kind rs src offset) = where_it_may (may_store w (address_of rs offset s) (store_width kind)) _ _ (wrapped_fits _ _) tt
row_fits w s (OpImm op rd rs imm) = wrapped_fits _ _
row_fits w s (Op op rd a b) = wrapped_fits _ _
row_fits w s (Fence word) = wrapped_fits _ _
row_fits w s Ecall = called_fits (call_of w s) s (effect_of (call_of w s))
row_fits w s Ebreak = tt
row_fits w s (Unimp word) = tt
row_fits w s (Atomic op order rd rs src) = atomic_fits w op rd rs src s

insn_fits : (w : World) (s : State) (insn : Option Insn) → Fits (insn_step w s insn)
insn_fits w s None = tt
insn_fits w s (Some insn) = row_fits w s insn

word_fits : (w : World) (s : State) (word : Option ℕ) → s.pc < 2 ^ 32 → Fits (word_step w s word)
word_fits w s None small = small
word_fits w s (Some word) small = insn_fits w s (insn_of word)

step_fits : (w : World) (s : State) → s.pc < 2 ^ 32 → Fits (step_of w s)
unfolding step_of
step_fits w s small = word_fits w s (fetched w s) small

-- from one step on
run_from : (next : Next Event Halt ⊥ State) (go : State → Trace Event Halt) → Fits next → ((t : State) → t.pc < 2 ^ 32 → EndFits (go t).status) → EndFits (trace_from next go).status
run_from (Went e t) go fits later = later t fits
run_from (Ended h) go fits later = fits
run_from (Broke b) go fits later = tt

pub fetches_fit : (w : World) (n : ℕ) (s : State) → s.pc < 2 ^ 32 → EndFits (trace_of w n s).status
fetches_fit w zero s small = tt
fetches_fit w (suc n) s small = run_from (step_of w s) (trace (step_of w) n) (step_fits w s small) (λ t. fetches_fit w n t)
