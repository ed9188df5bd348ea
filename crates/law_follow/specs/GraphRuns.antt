-- The run of a graph: a step is one item, one term other than Fall, or the return of a procedure.
use Rattle.std.specs.Prelude.{ℕ, zero, suc, pos, Bool, true, false, List, [], ◌∷◌, Option, Some, None, slice_get, if◌then◌else◌}
use Rattle.std.specs.List.{list_any}
use Rattle.sq_isa.specs.Uses.{sources_of, destination_of}
use Rattle.sq_isa.specs.Registers.{written}
use Rattle.sq_isa.specs.declared.instructions.Insn.{Insn}
use Rattle.law_runs.specs.Runs.{Next, Went, Ended, Broke}
use Rattle.sq_system.specs.declared.event.Event.{Event}
use Rattle.sq_system.specs.declared.event.Halt.{Halt}
use Rattle.sq_system.specs.declared.event.Halt.TheVariants.{Fetch}
use Rattle.sq_graph.specs.declared.item.Term.{Term}
use Rattle.sq_graph.specs.declared.item.Term.TheVariants.{Fall, Jump, Branch, Call, PartJump, Indirect, Stop}
use Rattle.sq_graph.specs.Graph.{Procedure, Graph}
use Rattle.sq_graph.specs.Lines.{AddressHalf, Line, Name, Do, Enter, Return, End, inside, slot_name, block_lines}
use Rattle.sq_graph.specs.Walks.{term_sources}
use Rattle.law_follow.specs.declared.kind.Kind.{Kind}
use Rattle.law_follow.specs.declared.kind.Kind.TheVariants.{Arithmetic}
use Rattle.law_follow.specs.Values.{Code, Value, Num, Tagged, Held, Holds, Lost}
use Rattle.law_follow.specs.Settings.{Setting, Store}
use Rattle.law_follow.specs.Arithmetic.{is_taken}
use Rattle.law_follow.specs.Accesses.{Step}
use Rattle.law_follow.specs.Rows.{Operands, source, row_of}
use Rattle.law_follow.specs.Jumps.{Destination, ToName, ToNumber, Jumped, indirect_jump, part_jump, stop}

-- why a run breaks: by the monitor's table, by reading a register that is lost, or by leaving the graph
pub data Break : Type 0 where
  Monitored : Kind → Break
  ReadsLost : Break
  LeavesGraph : Break

-- the registers and the store
pub record Core : Type 0 where
  pub registers : ℕ → Held
  pub store : Store

-- a place in the graph, as what stands from it on, or an address at which the next step ends: then nothing else is kept
pub data State : Type 0 where
  At : List Line → Core → State
  Fetching : ℕ → State

abbrev pub Moves : Type 0
Moves = Next Event Halt Break State

-- the value that is held; where a register that is lost is read, the step breaks before this value counts
abbrev pub value_in : Held → Value
value_in (Holds value) = value
value_in Lost = Num 0

-- the value of a register, 0 for x0
abbrev pub register_value : ℕ → (ℕ → Held) → Value
register_value zero registers = Num 0
register_value (suc r) registers = value_in (registers (suc r))

abbrev pub is_lost : Held → Bool
is_lost (Holds value) = false
is_lost Lost = true

-- one of these registers is lost; x0 never is
abbrev pub lost_in : (ℕ → Held) → ℕ → Bool
lost_in registers zero = false
lost_in registers (suc r) = is_lost (registers (suc r))

abbrev pub reads_lost : List ℕ → Core → Bool
reads_lost sources core = list_any (lost_in core.registers) sources

abbrev pub with_register : ℕ → Held → Core → Core
with_register r held core = record core { registers = written r held core.registers }

-- the operands of an instruction
abbrev pub operands : Insn → (ℕ → Held) → Operands
operands insn registers i = register_value (source insn i) registers

-- to the lines behind an instruction with what it made
abbrev pub finish : ℕ → List Line → Core → Step → Moves
finish destination rest core (Went event made) =
    Went event (At rest (record { registers = written destination (Holds made.value) core.registers; store = made.store }))
finish destination rest core (Ended halt) = Ended halt
finish destination rest core (Broke kind) = Broke (Monitored kind)

abbrev pub do_line : Setting → AddressHalf → Insn → List Line → Core → Moves
do_line s half insn rest core =
    if reads_lost (sources_of insn) core then Broke ReadsLost
    else finish (destination_of insn) rest core (row_of s half insn (operands insn core.registers) core.store)

-- an Out: the link is lost, and the body follows
abbrev pub enter : Option Procedure → List Line → Core → Moves
enter None rest core = Broke LeavesGraph
enter (Some procedure) rest core = Went None (At (inside procedure rest) (with_register procedure.link Lost core))

-- goes on with the name of the next slot in the link; x0 takes none
abbrev pub link_to : ℕ → Option ℕ → Core → (Core → Moves) → Moves
link_to link None core go = Broke LeavesGraph
link_to link (Some n) core go = go (with_register link (Holds (Tagged (Code n))) core)

abbrev pub with_link : ℕ → List Line → Core → (Core → Moves) → Moves
with_link zero rest core go = go core
with_link (suc r) rest core go = link_to (suc r) (slot_name rest) core go

abbrev pub to_block : Graph → ℕ → Core → Moves
to_block g n core = Went None (At (block_lines g n) core)

abbrev pub land : Graph → Core → Destination → Moves
land g core (ToName n) = to_block g n core
land g core (ToNumber x) = Went None (Fetching x)

-- the jump is read before the link is written
abbrev pub jump : Graph → ℕ → List Line → Core → Jumped → Moves
jump g link rest core (Went event destination) = with_link link rest core (λ linked. land g linked destination)
jump g link rest core (Ended halt) = Ended halt
jump g link rest core (Broke kind) = Broke (Monitored kind)

abbrev pub branch : Graph → ℕ → List Line → Core → Option Bool → Moves
branch g n rest core None = Broke (Monitored Arithmetic)
branch g n rest core (Some true) = to_block g n core
branch g n rest core (Some false) = Went None (At rest core)

-- what a term does; a Fall takes no step, so it is never asked for
abbrev pub term_step : Setting → Graph → Term → List Line → Core → Moves
term_step s g Fall rest core = Went None (At rest core)
term_step s g (Jump to) rest core = to_block g to core
term_step s g (Branch cond a b to) rest core = branch g to rest core (is_taken s cond (register_value a core.registers) (register_value b core.registers))
term_step s g (Call link to) rest core = with_link link rest core (to_block g to)
term_step s g (PartJump link part to) rest core = jump g link rest core (part_jump s to (pos 0) (register_value part core.registers))
term_step s g (Indirect link at offset) rest core = jump g link rest core (indirect_jump s offset (register_value at core.registers))
term_step s g (Stop word) rest core = Ended (stop word)

abbrev pub term_line : Setting → Graph → Term → List Line → Core → Moves
term_line s g term rest core =
    if reads_lost (term_sources term) core then Broke ReadsLost else term_step s g term rest core

-- what the lines do from here on: a name takes no step, and neither does a Fall
abbrev pub lines_step : Setting → Graph → List Line → Core → Moves
lines_step s g [] core = Broke LeavesGraph
lines_step s g (Name n ∷ rest) core = lines_step s g rest core
lines_step s g (Do half insn ∷ rest) core = do_line s half insn rest core
lines_step s g (Enter procedure ∷ rest) core = enter (slice_get g.procedures procedure) rest core
lines_step s g (Return link ∷ rest) core = Went None (At rest core)
lines_step s g (End Fall ∷ rest) core = lines_step s g rest core
lines_step s g (End term ∷ rest) core = term_line s g term rest core

-- One step of a graph.
abbrev pub graph_step : Setting → Graph → State → Moves
graph_step s g (At lines core) = lines_step s g lines core
graph_step s g (Fetching x) = Ended (Fetch x)
