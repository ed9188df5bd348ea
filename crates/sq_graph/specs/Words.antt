-- How many words a graph takes.
use Rattle.std.specs.Prelude.{ℕ, ◌+◌, length, sum_by}
use Rattle.sq_graph.specs.declared.item.Term.{Term}
use Rattle.sq_graph.specs.declared.item.Term.TheVariants.{Fall, Jump, Branch, Call, PartJump, Indirect, Stop}
use Rattle.sq_graph.specs.Graph.{Block, Procedure, Graph}

-- a Fall takes no word, and each other term one
abbrev pub term_words : Term → ℕ
term_words Fall = 0
term_words (Jump to) = 1
term_words (Branch c a b to) = 1
term_words (Call link to) = 1
term_words (PartJump link part to) = 1
term_words (Indirect link at offset) = 1
term_words (Stop word) = 1

-- an item takes one word
abbrev pub block_words : Block → ℕ
block_words b = length b.items + term_words b.term

-- a procedure takes its body and one word, which returns
abbrev pub procedure_words : Procedure → ℕ
procedure_words p = length p.body + 1

abbrev pub words_of : Graph → ℕ
words_of g = sum_by block_words g.blocks + sum_by procedure_words g.procedures

-- the most words of a graph for which a rewriting is asked: those that fit a text of 2^20 bytes are fewer
abbrev pub most_words : ℕ
most_words = 1048576
