-- Contents of memory: a map from addresses to cells of any kind.
use Rattle.std.specs.Prelude.{ℕ, zero, suc, ◌+◌, ◌<◌, List, [], ◌∷◌, Option, Some, None, IsSome, Bool, is_some, nat_eq, option_map, if◌then◌else◌}

-- what stands at an address, where something does
abbrev pub Cells : Type 0 → Type 0
Cells C = ℕ → Option C

-- whether something stands at x
abbrev pub is_in_memory : {C : Type 0} → Cells C → ℕ → Bool
is_in_memory m x = is_some (m x)

-- c in the place of a cell that is there
abbrev pub replaced : {C : Type 0} → Option C → C → Option C
replaced None c = None
replaced (Some d) c = Some c

-- The contents with c at address x, where a cell is there.
abbrev pub with_cell : {C : Type 0} → Cells C → ℕ → C → Cells C
with_cell m x c y = if nat_eq y x then replaced (m y) c else m y

-- the contents with these cells from address x on
abbrev pub with_cells : {C : Type 0} → Cells C → ℕ → List C → Cells C
with_cells m x [] = m
with_cells m x (c ∷ cs) = with_cells (with_cell m x c) (x + 1) cs

abbrev pub cons_some : {C : Type 0} → Option C → Option (List C) → Option (List C)
cons_some None o = None
cons_some (Some c) None = None
cons_some (Some c) (Some cs) = Some (c ∷ cs)

-- The n cells from address x on, where all of them are there.
abbrev pub cells_from : {C : Type 0} → Cells C → ℕ → ℕ → Option (List C)
cells_from m x zero = Some []
cells_from m x (suc n) = cons_some (m x) (cells_from m (x + 1) n)

-- each cell as f gives it
abbrev pub map_cells : {C D : Type 0} → (C → D) → Cells C → Cells D
map_cells f m x = option_map f (m x)

-- The n addresses from x on are in memory.
abbrev pub ArePresent : {C : Type 0} → Cells C → ℕ → ℕ → Type 0
ArePresent m x n = (i : ℕ) → i < n → IsSome (m (x + i))

-- nothing in both, or related cells
abbrev pub Agree : {C D : Type 0} → (C → D → Type 0) → Option C → Option D → Type 0
Agree R None None = Unit {0}
Agree R None (Some d) = ⊥
Agree R (Some c) None = ⊥
Agree R (Some c) (Some d) = R c d

-- equally many, related one by one
abbrev pub AllAgree : {C D : Type 0} → (C → D → Type 0) → List C → List D → Type 0
AllAgree R [] [] = Unit {0}
AllAgree R [] (d ∷ ds) = ⊥
AllAgree R (c ∷ cs) [] = ⊥
AllAgree R (c ∷ cs) (d ∷ ds) = R c d × AllAgree R cs ds

-- At each address with P the two contents have related cells, or both none.
abbrev pub AgreeOn : {C D : Type 0} → (ℕ → Type 0) → (C → D → Type 0) → Cells C → Cells D → Type 0
AgreeOn P R m n = (x : ℕ) → P x → Agree R (m x) (n x)
