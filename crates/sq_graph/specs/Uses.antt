-- Where a graph uses the names of its blocks and the numbers of its procedures.
use Rattle.std.specs.Prelude.{ℕ, List, [], ◌∷◌, ◌++◌, map}
use Rattle.std.specs.List.{flat_map}
use Rattle.sq_graph.specs.declared.item.Item.{Item}
use Rattle.sq_graph.specs.declared.item.Item.TheVariants.{Op, Hi, Lo, Out}
use Rattle.sq_graph.specs.declared.item.Term.{Term}
use Rattle.sq_graph.specs.declared.item.Term.TheVariants.{Fall, Jump, Branch, Call, PartJump, Indirect, Stop}
use Rattle.sq_graph.specs.declared.parts.CodeRef.{CodeRef}
use Rattle.sq_graph.specs.Graph.{Block, Graph}
use Rattle.sq_graph.specs.Blocks.{all_items}

-- the names that an item uses
abbrev pub item_uses : Item → List ℕ
item_uses (Op insn) = []
item_uses (Hi rd to) = to ∷ []
item_uses (Lo rd rs to) = to ∷ []
item_uses (Out procedure) = []

-- the names that a term uses
abbrev pub term_uses : Term → List ℕ
term_uses Fall = []
term_uses (Jump to) = to ∷ []
term_uses (Branch c a b to) = to ∷ []
term_uses (Call link to) = to ∷ []
term_uses (PartJump link part to) = to ∷ []
term_uses (Indirect link at offset) = []
term_uses (Stop word) = []

abbrev pub items_uses : List Item → List ℕ
items_uses items = flat_map item_uses items

abbrev pub terms_uses : List Block → List ℕ
terms_uses blocks = flat_map (λ b. term_uses b.term) blocks

abbrev pub code_word_uses : List CodeRef → List ℕ
code_word_uses words = map (λ w. w.block) words

-- every use of a name: the entry, code words, terms, and Hi and Lo in blocks and in all procedures, called or not
abbrev pub uses : Graph → List ℕ
uses g = g.entry ∷ (code_word_uses g.code_words ++ (terms_uses g.blocks ++ items_uses (all_items g)))

-- the procedures that an item calls
abbrev pub item_calls : Item → List ℕ
item_calls (Op insn) = []
item_calls (Hi rd to) = []
item_calls (Lo rd rs to) = []
item_calls (Out procedure) = procedure ∷ []

-- every use of a procedure's number
abbrev pub calls : Graph → List ℕ
calls g = flat_map item_calls (all_items g)
