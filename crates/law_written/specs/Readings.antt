-- How the words of text of the file of a graph read.
use Rattle.std.specs.Prelude.{◌≡◌, ℕ, pos, ◌+◌, ◌*◌, List, [], ◌∷◌, ◌++◌, map, Some}
use Rattle.std.specs.List.{slice_get, flat_map}
use Rattle.sq_elf.specs.Text.{text_of}
use Rattle.sq_graph.specs.declared.item.Item.{Item}
use Rattle.sq_graph.specs.declared.item.Item.TheVariants.{Op, Hi, Lo, Out}
use Rattle.sq_graph.specs.declared.item.Term.{Term}
use Rattle.sq_graph.specs.declared.item.Term.TheVariants.{Fall, Jump, Branch, Call, PartJump, Indirect, Stop}
use Rattle.sq_graph.specs.Graph.{Block, Procedure, Graph}
use Rattle.law_program.specs.Readings.{Reading, IsItem, IsTerm, Links, reading_at}
use Rattle.sq_write.specs.Points.{new_address, new_start, call_link}
use Rattle.law_written.specs.Written.{IsWritable}
use Rattle.law_written.specs.Programs.{graph_text}

-- an item as it reads, with new addresses for names
abbrev pub item_reading : Graph → ℕ → Item → Reading
item_reading g lo (Op insn) = IsItem (Op insn)
item_reading g lo (Hi rd to) = IsItem (Hi rd (new_address g lo to))
item_reading g lo (Lo rd rs to) = IsItem (Lo rd rs (new_address g lo to))
item_reading g lo (Out procedure) = Links (call_link g procedure) (new_start g lo procedure)

-- a term as it reads; a Fall has no word
abbrev pub term_readings : Graph → ℕ → Term → List Reading
term_readings g lo Fall = []
term_readings g lo (Jump to) = IsTerm (Jump (new_address g lo to)) ∷ []
term_readings g lo (Branch cond a b to) = IsTerm (Branch cond a b (new_address g lo to)) ∷ []
term_readings g lo (Call link to) = Links link (new_address g lo to) ∷ []
term_readings g lo (PartJump link part to) = IsTerm (PartJump link part (new_address g lo to)) ∷ []
term_readings g lo (Indirect link register offset) = IsTerm (Indirect link register offset) ∷ []
term_readings g lo (Stop word) = IsTerm (Stop word) ∷ []

abbrev pub block_readings : Graph → ℕ → Block → List Reading
block_readings g lo block = map (item_reading g lo) block.items ++ term_readings g lo block.term

-- a procedure reads as its body, and an Indirect through its link
abbrev pub procedure_readings : Graph → ℕ → Procedure → List Reading
procedure_readings g lo procedure =
    map (item_reading g lo) procedure.body ++ IsTerm (Indirect 0 procedure.link (pos 0)) ∷ []

-- the whole text, word by word
abbrev pub text_readings : Graph → ℕ → List Reading
text_readings g lo = flat_map (block_readings g lo) g.blocks ++ flat_map (procedure_readings g lo) g.procedures

-- Each word of the program of the file reads as what it was written of.
abbrev pub WrittenWordsReadBack : Type 0
WrittenWordsReadBack =
    (bytes : List ℕ) (g : Graph) → IsWritable bytes g → (k : ℕ) (r : Reading)
    → slice_get (text_readings g (text_of bytes).lo) k ≡ Some r
    → reading_at (graph_text g (text_of bytes).lo) ((text_of bytes).lo + 4 * k) ≡ Some r
