-- The kinds of the items of blocks, by which a block is seen not to hold a window. No public clause cites this module.
use Rattle.std.specs.Prelude.{◌≡◌, ◌≢◌, ℕ, ◌+◌, ◌%◌, true, List, map}
use Rattle.std.specs.List.{All}
use Rattle.sq_isa.specs.Encoding.{word_of}
use Rattle.sq_isa.specs.Registers.{is_member}
use Rattle.sq_graph.specs.declared.item.Item.{Item}
use Rattle.sq_graph.specs.declared.item.Item.TheVariants.{Op, Hi, Lo, Out}
use Rattle.sq_graph.specs.Graph.{Graph}
use Rattle.sq_graph.specs.Blocks.{items_of}
use Rattle.sq_graph.specs.Parts.{names_of}
use Rattle.sq_outline.specs.declared.windows.kinds.BlockKinds.{BlockKinds}

-- the kind of an item, 1 to 31, or 0 for a call
abbrev pub kind_of : Item → ℕ
kind_of (Op insn) = word_of insn % 31 + 1
kind_of (Hi rd to) = (to % 31 + rd) % 31 + 1
kind_of (Lo rd rs to) = (to % 31 + rd + 15) % 31 + 1
kind_of (Out procedure) = 0

-- the set has the kind of the item, if that is no call
abbrev pub HasKind : ℕ → Item → Type 0
HasKind kinds item = kind_of item ≢ 0 → is_member kinds (kind_of item) ≡ true

-- and so for each of these items
abbrev pub HasKinds : List Item → ℕ → Type 0
HasKinds items kinds = All (HasKind kinds) items

-- the blocks of a graph in layout order, each with a set that has the kinds of its items
pub record AreKinds (g : Graph) (blocks : List BlockKinds) : Type 0 where
  pub names : map (λ block. block.name) blocks ≡ names_of g
  pub kinds : All (λ block. HasKinds (items_of g block.name) block.kinds) blocks
