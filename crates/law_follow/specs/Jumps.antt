-- Where jumps go, on tagged values.
use Rattle.std.specs.Prelude.{ℕ, ℤ, ◌+◌, pos, None, ◌==◌, if◌then◌else◌}
use Rattle.std.specs.Ordering.{int_eq}
use Rattle.sq_isa.specs.Words.{wrapped, unsigned, even}
use Rattle.law_runs.specs.Runs.{Next, Went, Broke}
use Rattle.sq_system.specs.World.{is_executable}
use Rattle.sq_system.specs.declared.event.Event.{Event}
use Rattle.sq_system.specs.declared.event.Halt.{Halt}
use Rattle.sq_system.specs.declared.event.Halt.TheVariants.{Illegal, Breakpoint}
use Rattle.law_follow.specs.declared.kind.Kind.{Kind}
use Rattle.law_follow.specs.declared.kind.Kind.TheVariants.{Half, Jump}
use Rattle.law_follow.specs.Values.{Code, Part, Value, Num, Tagged}
use Rattle.law_follow.specs.Settings.{Setting}
use Rattle.law_follow.specs.Arithmetic.{is_upper_half}

-- to a name, or to an address outside code, at which the next step ends
pub data Destination : Type 0 where
  ToName : ℕ → Destination
  ToNumber : ℕ → Destination

abbrev pub Jumped : Type 0
Jumped = Next Event Halt Kind Destination

-- to a number: a break where the byte there is executable
abbrev pub number_jump : Setting → ℕ → Jumped
number_jump s x = if is_executable s.world x then Broke Jump else Went None (ToNumber x)

-- `jalr` to what a register holds plus an offset
abbrev pub indirect_jump : Setting → ℤ → Value → Jumped
indirect_jump s offset (Num x) = number_jump s (even (wrapped (x + unsigned offset)))
indirect_jump s offset (Tagged (Code n)) = if int_eq offset (pos 0) then Went None (ToName n) else Broke Jump
indirect_jump s offset (Tagged (Part n word)) = Broke Jump

-- to a name; on a file to a number where it isn't in text
abbrev pub name_jump : Setting → ℕ → Jumped
name_jump s n = if s.is_code n then Went None (ToName n) else number_jump s (even n)

-- `jalr` whose offset is the lower half of an address
abbrev pub part_jump : Setting → ℕ → ℤ → Value → Jumped
part_jump s n offset value = if is_upper_half n offset value then name_jump s n else Broke Half

-- EBREAK, and the words that stand for no instruction
abbrev pub stop : ℕ → Halt
stop word = if word == 0x00100073 then Breakpoint else Illegal
