-- What a desk in memory that fails chosen calls has of the outside, and how it counts.
use Rattle.std.specs.Prelude.{◌≡◌, ℕ, ◌+◌, ◌-◌, ◌^◌, min, nat_eq, Bool, List, ◌||◌, if◌then◌else◌, is_none, length, ◌/◌, take}
use Rattle.std.specs.List.{list_any}
use Rattle.sq_desk.specs.Outside.{Outside, Files}
use Rattle.sq_desk.specs.Held.{outside_of, files_of}
use Rattle.sq_desk.specs.declared.memory_desk.MemoryDesk.{MemoryDesk}

-- all is told, with one count of faults for all places
abbrev pub memory_outside : MemoryDesk → Outside
memory_outside desk = outside_of desk.held (λ _. desk.faults)

abbrev pub memory_files : MemoryDesk → Files
memory_files desk = files_of desk.held

-- how many calls there were
abbrev pub call_number : MemoryDesk → ℕ
call_number desk = desk.calls

-- how many faults there were
abbrev pub fault_count : MemoryDesk → ℕ
fault_count desk = desk.faults

-- the numbers of the calls that fail
abbrev pub failing_calls : MemoryDesk → List ℕ
failing_calls desk = desk.failing.items

-- whether the next call is one that fails
abbrev pub next_fails : MemoryDesk → Bool
next_fails desk = list_any (λ call. nat_eq call desk.calls) desk.failing.items

-- whether the next call, a load of the name, fails: it is to, or there is no such file
abbrev pub load_fails : MemoryDesk → List ℕ → Bool
load_fails desk name = next_fails desk || is_none (memory_files desk name)

-- one more, in a u64 that stays at its last value
abbrev pub one_more : ℕ → ℕ
one_more n = min (n + 1) (2 ^ 64 - 1)

-- one call was counted, and one fault where it failed
pub record CountsCall (old new : MemoryDesk) (failed : Bool) : Type 0 where
  pub calls : new.calls ≡ one_more old.calls
  pub failing : new.failing.items ≡ old.failing.items
  pub faults : new.faults ≡ (if failed then one_more old.faults else old.faults)

-- nothing was counted
pub record CountsNothing (old new : MemoryDesk) : Type 0 where
  pub calls : new.calls ≡ old.calls
  pub failing : new.failing.items ≡ old.failing.items
  pub faults : new.faults ≡ old.faults

-- the first half of the bytes, the odd one left out
abbrev pub first_half : List ℕ → List ℕ
first_half bytes = take (length bytes / 2) bytes
