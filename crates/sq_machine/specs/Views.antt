-- The world and the state that a machine stands for.
use Rattle.std.specs.Prelude.{ℕ, List, slice_index, drop}
use Rattle.sq_memory.specs.Regions.{get}
use Rattle.sq_system.specs.World.{World}
use Rattle.sq_machine.specs.State.{State}
use Rattle.sq_machine.specs.declared.world.World.{World as RustWorld}
use Rattle.sq_machine.specs.declared.hart.Hart.{Hart}
use Rattle.sq_machine.specs.declared.machine.Machine.{Machine}

unfoldable pub world_of : RustWorld → World
world_of w = record { pieces = w.pieces.items; base = w.base; size = w.size }

abbrev pub numbers : List ℕ → ℕ → ℕ
numbers registers r = slice_index registers r

unfoldable pub state_of : Hart → State
state_of h = record {
  pc = h.pc;
  registers = numbers h.registers;
  memory = get h.memory;
  input = drop h.read h.input.items;
  reservation = h.reservation;
}

abbrev pub machine_world : Machine → World
machine_world m = world_of m.world

abbrev pub machine_state : Machine → State
machine_state m = state_of m.hart
