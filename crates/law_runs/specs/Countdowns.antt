-- Little machines that show what following says.
use Rattle.std.specs.Prelude.{◌≡◌, ℕ, zero, suc, Some, None, nat_eq, if◌then◌else◌}
use Rattle.law_runs.specs.Runs.{Next, Went, Ended, Broke}

-- counts down aloud, and ends with 0
abbrev pub counting : ℕ → Next ℕ ℕ ⊥ ℕ
counting zero = Ended 0
counting (suc n) = Went (Some n) n

-- a state between two numbers
pub data Tick : Type 0 where
  Rest : ℕ → Tick
  Ready : ℕ → Tick

-- counts down aloud, with a silent step before each number and before the end
abbrev pub ticking : Tick → Next ℕ ℕ ⊥ Tick
ticking (Rest n) = Went None (Ready n)
ticking (Ready zero) = Ended 0
ticking (Ready (suc n)) = Went (Some n) (Rest n)

-- counts down aloud, with a silent step behind each number, and breaks where the others end
abbrev pub cracking : Tick → Next ℕ ℕ ℕ Tick
cracking (Rest n) = Went None (Ready n)
cracking (Ready zero) = Broke 7
cracking (Ready (suc n)) = Went (Some n) (Rest n)

-- counts down aloud, and breaks before the number 13
abbrev pub wary : ℕ → Next ℕ ℕ ℕ ℕ
wary zero = Ended 0
wary (suc n) = if nat_eq n 13 then Broke n else Went (Some n) n

-- goes on for ever, silently
abbrev pub idling : Unit {0} → Next ℕ ℕ ⊥ (Unit {0})
idling u = Went None u

-- the same number to come, before its silent step
abbrev pub AtRest : ℕ → Tick → Type 0
AtRest n (Rest m) = m ≡ n
AtRest n (Ready m) = ⊥

abbrev pub RestsAt : Tick → ℕ → Type 0
RestsAt (Rest m) n = m ≡ n
RestsAt (Ready m) n = ⊥
