-- The values, the cells, the setting and the store that the Rust types stand for.
use Rattle.std.specs.Prelude.{ℕ, ◌^◌, ◌&&◌, nat_le, nat_lt, List, [], ◌∷◌, slice_index_or, drop}
use Rattle.sq_memory.specs.Cells.{map_cells}
use Rattle.sq_pages.specs.Pages.{cells_of}
use Rattle.sq_system.specs.World.{World}
use Rattle.sq_graph.specs.Lines.{AddressHalf, Plain, Upper, Lower}
use Rattle.law_follow.specs.Values.{Tag, Code, Part, Value, Num, Tagged, Cell, Byte, Frag, Stale, Held, Holds}
use Rattle.law_follow.specs.Settings.{Setting, Store}
use Rattle.law_follow.specs.Calls.{CallOperands}
use Rattle.sq_tagged.specs.declared.values.Tag.{Tag as RustTag}
use Rattle.sq_tagged.specs.declared.values.Tag.TheVariants.{Code as CodeAt, End as CodeAtEnd, Part as PartOf}
use Rattle.sq_tagged.specs.declared.values.Value.{Value as RustValue}
use Rattle.sq_tagged.specs.declared.values.Value.TheVariants.{Num as Number, Tagged as TaggedWith}
use Rattle.sq_tagged.specs.declared.values.Cell.{Cell as RustCell}
use Rattle.sq_tagged.specs.declared.values.Cell.TheVariants.{Byte as ByteOf, Frag as FragOf, Stale as StaleByte}
use Rattle.sq_tagged.specs.declared.values.WordCells.{WordCells}
use Rattle.sq_tagged.specs.declared.setting.Setting.{Setting as RustSetting}
use Rattle.sq_tagged.specs.declared.store.Store.{Store as RustStore}
use Rattle.sq_tagged.specs.declared.calls.CallOperands.{CallOperands as RustOperands}
use Rattle.sq_tagged.specs.declared.registers.Registers.{Registers}
use Rattle.sq_tagged.specs.declared.rows.AddressHalf.{AddressHalf as RustHalf}
use Rattle.sq_tagged.specs.declared.rows.AddressHalf.TheVariants.{Plain as PlainHalf, Upper as UpperHalf, Lower as LowerHalf}

-- the address behind the last one is 2^32
abbrev pub tag_of : RustTag → Tag
tag_of (CodeAt address) = Code address
tag_of CodeAtEnd = Code (2 ^ 32)
tag_of (PartOf to word) = Part to word

abbrev pub value_of : RustValue → Value
value_of (Number x) = Num x
value_of (TaggedWith tag) = Tagged (tag_of tag)

abbrev pub cell_of : RustCell → Cell
cell_of (ByteOf b) = Byte b
cell_of (FragOf tag k) = Frag (tag_of tag) k
cell_of StaleByte = Stale

abbrev pub cells_in : WordCells → List Cell
cells_in w = cell_of w.first ∷ cell_of w.second ∷ cell_of w.third ∷ cell_of w.fourth ∷ []

abbrev pub half_in : RustHalf → AddressHalf
half_in PlainHalf = Plain
half_in (UpperHalf to word) = Upper to word
half_in (LowerHalf to) = Lower to

-- memory as it is laid out
unfoldable pub layout_of : RustSetting → World
layout_of s = record { pieces = s.pieces.items; base = s.base; size = s.size }

-- on a file the addresses in text are code
unfoldable pub setting_of : RustSetting → Setting
setting_of s = record { world = layout_of s; lo = s.lo; hi = s.hi; is_code = λ x. nat_le s.lo x && nat_lt x s.hi }

unfoldable pub store_of : RustStore → Store
store_of s = record { memory = map_cells cell_of (cells_of s.memory); input = drop s.read s.input.items; reservation = s.reservation }

-- on a file no register is lost
abbrev pub held : List RustValue → ℕ → Held
held values r = Holds (value_of (slice_index_or values r (Number 0)))

unfoldable pub registers_of : Registers → ℕ → Held
registers_of registers = held registers.values

abbrev pub operands_of : RustOperands → CallOperands
operands_of r = record { a0 = value_of r.a0; a1 = value_of r.a1; a2 = value_of r.a2; a7 = value_of r.a7 }
