-- Places of addresses among words.
use Rattle.std.specs.Prelude.{ℕ, ◌-◌, ◌/◌, ◌%◌, ◌==◌, ◌&&◌, nat_le, Option, Some, None, if◌then◌else◌}

-- the place of the word at an address, where words stand from `lo` on; none where the address lies below or within one
unfoldable pub place_of : ℕ → ℕ → Option ℕ
place_of lo x = if nat_le lo x && (x - lo) % 4 == 0 then Some ((x - lo) / 4) else None
