-- The text of a graph, word by word: the instruction of each word at its new address, and its relocation entry where
-- it has one.
use Rattle.std.specs.Prelude.{ℕ, ℤ, pos, ◌+◌, ◌*◌, ◌-ℤ◌, ◌==◌, List, [], ◌∷◌, ◌++◌, length, sum_by, if◌then◌else◌}
use Rattle.std.specs.Option.{unwrap_or}
use Rattle.sq_num.specs.Halves.{high_half, low_half}
use Rattle.sq_isa.specs.declared.instructions.Insn.{Insn}
use Rattle.sq_isa.specs.declared.instructions.Insn.TheVariants.{Lui, Jal, Jalr, Branch as BranchInsn, OpImm, Ebreak, Unimp}
use Rattle.sq_isa.specs.declared.instructions.ImmOp.TheVariants.{Addi}
use Rattle.sq_isa.specs.Encoding.{word_of}
use Rattle.sq_graph.specs.declared.item.Item.{Item}
use Rattle.sq_graph.specs.declared.item.Item.TheVariants.{Op, Hi, Lo, Out}
use Rattle.sq_graph.specs.declared.item.Term.{Term}
use Rattle.sq_graph.specs.declared.item.Term.TheVariants.{Fall, Jump, Branch, Call, PartJump, Indirect, Stop}
use Rattle.sq_graph.specs.Graph.{Block, Procedure, Graph}
use Rattle.sq_graph.specs.Blocks.{link_of}
use Rattle.sq_graph.specs.Words.{block_words, procedure_words}
use Rattle.sq_graph.specs.Places.{block_address, procedure_address}
use Rattle.sq_write.specs.Output.{Relocation}

-- the new address of a block, of a procedure, and the link of a procedure. Each name and number that a graph uses is there
abbrev pub new_address : Graph → ℕ → ℕ → ℕ
new_address g lo block = unwrap_or (block_address g lo block) 0

abbrev pub new_start : Graph → ℕ → ℕ → ℕ
new_start g lo procedure = unwrap_or (procedure_address g lo procedure) 0

abbrev pub call_link : Graph → ℕ → ℕ
call_link g procedure = unwrap_or (link_of g procedure) 0

-- the offset that leads from one address to another
abbrev pub offset_to : ℕ → ℕ → ℤ
offset_to from to = pos to -ℤ pos from

-- a word of text: its instruction, and its relocation entries (none or one)
pub record Point : Type 0 where
  pub insn : Insn
  pub entries : List Relocation

abbrev pub point_word : Point → ℕ
point_word p = word_of p.insn

-- R_RISCV_HI20 and R_RISCV_LO12_I: the word at an address has a half of another, which is given whole
abbrev pub high_entry : ℕ → ℕ → List Relocation
high_entry at to = record { offset = at; kind = 26; addend = to } ∷ []

abbrev pub low_entry : ℕ → ℕ → List Relocation
low_entry at to = record { offset = at; kind = 27; addend = to } ∷ []

-- an Op is itself; Hi is `lui rd,%hi(T)` and Lo `addi rd,rs,%lo(T)`, T the new address; Out is `jal link` to the procedure
abbrev pub item_insn : Graph → ℕ → ℕ → Item → Insn
item_insn g lo at (Op insn) = insn
item_insn g lo at (Hi rd to) = Lui rd (high_half (new_address g lo to))
item_insn g lo at (Lo rd rs to) = OpImm Addi rd rs (low_half (new_address g lo to))
item_insn g lo at (Out procedure) = Jal (call_link g procedure) (offset_to at (new_start g lo procedure))

abbrev pub item_entries : Graph → ℕ → ℕ → Item → List Relocation
item_entries g lo at (Op insn) = []
item_entries g lo at (Hi rd to) = high_entry at (new_address g lo to)
item_entries g lo at (Lo rd rs to) = low_entry at (new_address g lo to)
item_entries g lo at (Out procedure) = []

abbrev pub item_point : Graph → ℕ → ℕ → Item → Point
item_point g lo at item = record { insn = item_insn g lo at item; entries = item_entries g lo at item }

-- items that stand from an address on
abbrev pub items_points : Graph → ℕ → ℕ → List Item → List Point
items_points g lo at [] = []
items_points g lo at (item ∷ items) = item_point g lo at item ∷ items_points g lo (at + 4) items

-- EBREAK, or a word that stands for no instruction
abbrev pub stop_insn : ℕ → Insn
stop_insn word = if word == 0x00100073 then Ebreak else Unimp word

abbrev pub plain_point : Insn → List Point
plain_point insn = record { insn = insn; entries = [] } ∷ []

-- the word of a term at an address, and none for a Fall. Jump is `jal x0`, Call `jal link`, Branch has its condition;
-- PartJump is `jalr link,%lo(T)(part)`, T the new address; Indirect is `jalr link,offset(at)`
abbrev pub term_points : Graph → ℕ → ℕ → Term → List Point
term_points g lo at Fall = []
term_points g lo at (Jump to) = plain_point (Jal 0 (offset_to at (new_address g lo to)))
term_points g lo at (Branch cond a b to) = plain_point (BranchInsn cond a b (offset_to at (new_address g lo to)))
term_points g lo at (Call link to) = plain_point (Jal link (offset_to at (new_address g lo to)))
term_points g lo at (PartJump link part to) =
    record { insn = Jalr link part (low_half (new_address g lo to)); entries = low_entry at (new_address g lo to) } ∷ []
term_points g lo at (Indirect link register offset) = plain_point (Jalr link register offset)
term_points g lo at (Stop word) = plain_point (stop_insn word)

abbrev pub block_points : Graph → ℕ → ℕ → Block → List Point
block_points g lo at block =
    items_points g lo at block.items ++ term_points g lo (at + 4 * length block.items) block.term

-- blocks that stand from an address on
abbrev pub blocks_points : Graph → ℕ → ℕ → List Block → List Point
blocks_points g lo at [] = []
blocks_points g lo at (block ∷ blocks) = block_points g lo at block ++ blocks_points g lo (at + 4 * block_words block) blocks

-- a procedure ends with `jalr x0,0(link)`
abbrev pub procedure_points : Graph → ℕ → ℕ → Procedure → List Point
procedure_points g lo at procedure = items_points g lo at procedure.body ++ plain_point (Jalr 0 procedure.link (pos 0))

-- procedures that stand from an address on
abbrev pub procedures_points : Graph → ℕ → ℕ → List Procedure → List Point
procedures_points g lo at [] = []
procedures_points g lo at (procedure ∷ procedures) =
    procedure_points g lo at procedure ++ procedures_points g lo (at + 4 * procedure_words procedure) procedures

-- where the procedures begin, behind the blocks
abbrev pub procedures_at : Graph → ℕ → ℕ
procedures_at g lo = lo + 4 * sum_by block_words g.blocks

-- THE text of a graph from the address `lo` on
abbrev pub text_points : Graph → ℕ → List Point
text_points g lo = blocks_points g lo lo g.blocks ++ procedures_points g lo (procedures_at g lo) g.procedures
