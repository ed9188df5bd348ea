-- Tables of where blocks stand, by their names: how many words are before each.
use Rattle.std.specs.Prelude.{ℕ, ◌*◌, nat_lt, if◌then◌else◌, List, Option, None, Some, get_or}
use Rattle.sq_lookup.specs.Lowering.{nowhere}

-- the address behind so many words
abbrev pub address_behind : ℕ → Option ℕ
address_behind words = if nat_lt words nowhere then Some (4 * words) else None

-- the address of the block of a name, if there is one
abbrev pub placed_at : List ℕ → ℕ → Option ℕ
placed_at table name = address_behind (get_or table name nowhere)
