-- Code as lines. What stands from a place on is a list of lines, and the name of a block is a line of its own.
use Rattle.std.specs.Prelude.{ℕ, pos, Bool, false, List, [], ◌∷◌, ◌++◌, Option, Some, None, ◌==◌, map, drop, if◌then◌else◌}
use Rattle.sq_isa.specs.declared.instructions.Insn.{Insn}
use Rattle.sq_isa.specs.declared.instructions.Insn.TheVariants.{Lui, OpImm}
use Rattle.sq_isa.specs.declared.instructions.ImmOp.TheVariants.{Addi}
use Rattle.sq_graph.specs.declared.item.Item.{Item}
use Rattle.sq_graph.specs.declared.item.Item.TheVariants.{Op, Hi, Lo, Out}
use Rattle.sq_graph.specs.declared.item.Term.{Term}
use Rattle.sq_graph.specs.declared.item.Term.TheVariants.{Fall, Jump, Branch, Call, PartJump, Indirect, Stop}
use Rattle.sq_graph.specs.Graph.{Block, Procedure, Graph}

-- Which half of an address an instruction has in place of its immediate: neither, the upper or the lower. The
-- address is given by a name: a block of a graph, or on a file the address itself. On a file the instruction
-- with an upper half also makes a word, which is kept with it.
pub data AddressHalf : Type 0 where
  Plain : AddressHalf
  Upper : ℕ → Option ℕ → AddressHalf
  Lower : ℕ → AddressHalf

-- a name, an instruction, the entry into a procedure and the return from it (through this link, which the writer
-- needs), and a term. A Fall is no line.
pub data Line : Type 0 where
  Name : ℕ → Line
  Do : AddressHalf → Insn → Line
  Enter : ℕ → Line
  Return : ℕ → Line
  End : Term → Line

-- the upper and the lower half are those of `lui` and `addi`
abbrev pub line_of : Item → Line
line_of (Op insn) = Do Plain insn
line_of (Hi rd to) = Do (Upper to None) (Lui rd 0)
line_of (Lo rd rs to) = Do (Lower to) (OpImm Addi rd rs (pos 0))
line_of (Out procedure) = Enter procedure

-- a term in front of the lines behind it
abbrev pub term_lines : Term → List Line → List Line
term_lines Fall rest = rest
term_lines (Jump to) rest = End (Jump to) ∷ rest
term_lines (Branch cond a b to) rest = End (Branch cond a b to) ∷ rest
term_lines (Call link to) rest = End (Call link to) ∷ rest
term_lines (PartJump link part to) rest = End (PartJump link part to) ∷ rest
term_lines (Indirect link at offset) rest = End (Indirect link at offset) ∷ rest
term_lines (Stop word) rest = End (Stop word) ∷ rest

-- the items and the term of a block in front of the lines behind it
abbrev pub body_lines : Block → List Line → List Line
body_lines block rest = map line_of block.items ++ term_lines block.term rest

-- the lines of blocks in layout order
abbrev pub lines_of : List Block → List Line
lines_of [] = []
lines_of (block ∷ blocks) = Name block.name ∷ body_lines block (lines_of blocks)

-- what stands from a procedure's first item on: its body, and the return to what stands behind the Out
abbrev pub inside : Procedure → List Line → List Line
inside procedure rest = map line_of procedure.body ++ (Return procedure.link ∷ rest)

abbrev pub has_name : ℕ → Line → Bool
has_name n (Name m) = m == n
has_name n (Do half insn) = false
has_name n (Enter procedure) = false
has_name n (Return link) = false
has_name n (End term) = false

-- what stands behind a name; nothing where there is no such name
abbrev pub behind_name : ℕ → List Line → List Line
behind_name n [] = []
behind_name n (line ∷ lines) = if has_name n line then lines else behind_name n lines

-- the name of the next slot, where these lines stand behind a term
abbrev pub slot_name : List Line → Option ℕ
slot_name [] = None
slot_name (Name n ∷ lines) = Some n
slot_name (Do half insn ∷ lines) = None
slot_name (Enter procedure ∷ lines) = None
slot_name (Return link ∷ lines) = None
slot_name (End term ∷ lines) = None

-- what stands from a block's first item on
abbrev pub block_lines : Graph → ℕ → List Line
block_lines g block = behind_name block (lines_of g.blocks)

-- what stands from a place on: place i is before item i, and the last place is before the term
abbrev pub place_lines : Graph → ℕ → ℕ → List Line
place_lines g block place = drop place (block_lines g block)
