-- A graph whose blocks or procedures are used under other names.
use Rattle.std.specs.Prelude.{ℕ, List, map, ◌==◌, ◌-◌, nat_lt, if◌then◌else◌}
use Rattle.sq_graph.specs.declared.item.Item.{Item}
use Rattle.sq_graph.specs.declared.item.Item.TheVariants.{Op, Hi, Lo, Out}
use Rattle.sq_graph.specs.declared.item.Term.{Term}
use Rattle.sq_graph.specs.declared.item.Term.TheVariants.{Fall, Jump, Branch, Call, PartJump, Indirect, Stop}
use Rattle.sq_graph.specs.declared.parts.CodeRef.{CodeRef}
use Rattle.sq_graph.specs.Graph.{Block, Procedure, Graph}

-- each name that is used becomes another
abbrev pub retargeted_item : (ℕ → ℕ) → Item → Item
retargeted_item f (Op insn) = Op insn
retargeted_item f (Hi rd to) = Hi rd (f to)
retargeted_item f (Lo rd rs to) = Lo rd rs (f to)
retargeted_item f (Out procedure) = Out procedure

abbrev pub retargeted_term : (ℕ → ℕ) → Term → Term
retargeted_term f Fall = Fall
retargeted_term f (Jump to) = Jump (f to)
retargeted_term f (Branch c a b to) = Branch c a b (f to)
retargeted_term f (Call link to) = Call link (f to)
retargeted_term f (PartJump link part to) = PartJump link part (f to)
retargeted_term f (Indirect link at offset) = Indirect link at offset
retargeted_term f (Stop word) = Stop word

abbrev pub retargeted_items : (ℕ → ℕ) → List Item → List Item
retargeted_items f items = map (retargeted_item f) items

abbrev pub retargeted_block : (ℕ → ℕ) → Block → Block
retargeted_block f b = record b { items = retargeted_items f b.items; term = retargeted_term f b.term }

abbrev pub retargeted_procedure : (ℕ → ℕ) → Procedure → Procedure
retargeted_procedure f p = record p { body = retargeted_items f p.body }

abbrev pub retargeted_word : (ℕ → ℕ) → CodeRef → CodeRef
retargeted_word f w = record w { block = f w.block }

abbrev pub retargeted_words : (ℕ → ℕ) → List CodeRef → List CodeRef
retargeted_words f words = map (retargeted_word f) words

abbrev pub retargeted : (ℕ → ℕ) → Graph → Graph
retargeted f g =
    record {
      blocks = map (retargeted_block f) g.blocks;
      entry = f g.entry;
      code_words = retargeted_words f g.code_words;
      procedures = map (retargeted_procedure f) g.procedures;
    }

-- the blocks themselves have other names too
abbrev pub renamed_block : (ℕ → ℕ) → Block → Block
renamed_block f b = record (retargeted_block f b) { name = f b.name }

abbrev pub renamed : (ℕ → ℕ) → Graph → Graph
renamed f g = record (retargeted f g) { blocks = map (renamed_block f) g.blocks }

-- each number of a procedure that is used becomes another
abbrev pub recalled_item : (ℕ → ℕ) → Item → Item
recalled_item f (Op insn) = Op insn
recalled_item f (Hi rd to) = Hi rd to
recalled_item f (Lo rd rs to) = Lo rd rs to
recalled_item f (Out procedure) = Out (f procedure)

abbrev pub recalled_items : (ℕ → ℕ) → List Item → List Item
recalled_items f items = map (recalled_item f) items

abbrev pub recalled_block : (ℕ → ℕ) → Block → Block
recalled_block f b = record b { items = recalled_items f b.items }

abbrev pub recalled_procedure : (ℕ → ℕ) → Procedure → Procedure
recalled_procedure f p = record p { body = recalled_items f p.body }

abbrev pub recalled : (ℕ → ℕ) → Graph → Graph
recalled f g =
    record g {
      blocks = map (recalled_block f) g.blocks;
      procedures = map (recalled_procedure f) g.procedures;
    }

-- one number in place of another
abbrev pub swapped : ℕ → ℕ → ℕ → ℕ
swapped from to name = if name == from then to else name

-- the numbers above this one fall by one
abbrev pub lowered : ℕ → ℕ → ℕ
lowered gone number = if nat_lt gone number then number - 1 else number
