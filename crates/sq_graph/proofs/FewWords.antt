-- Words are few where blocks, items and procedures are.
use Rattle.std.proofs.Common.{◌+◌, ◌<◌, ◌≤◌, ◌^◌, List, [], ◌∷◌, length, sum_by, arith, length-append}
use Rattle.std.proofs.lemmas.List.Sums.{sum_by-cons}
use Rattle.sq_graph.specs.declared.item.Term.{Term}
use Rattle.sq_graph.specs.declared.item.Term.TheVariants.{Fall, Jump, Branch, Call, PartJump, Indirect, Stop}
use Rattle.sq_graph.specs.Graph.{Block, Procedure}
use Rattle.sq_graph.specs.Blocks.{items_of_blocks, items_of_bodies}
use Rattle.sq_graph.specs.Room.{GraphAndRoom, IsSmall, total_of}
use Rattle.sq_graph.specs.Words.{term_words, block_words, procedure_words, words_of}

pub term_at_most : (t : Term) → term_words t ≤ 1
term_at_most Fall = omega arith
term_at_most (Jump to) = omega arith
term_at_most (Branch c a b to) = omega arith
term_at_most (Call link to) = omega arith
term_at_most (PartJump link part to) = omega arith
term_at_most (Indirect link at offset) = omega arith
term_at_most (Stop word) = omega arith

words_of_blocks_few : (blocks : List Block) → sum_by block_words blocks ≤ length (items_of_blocks blocks) + length blocks
words_of_blocks_few [] = omega arith
words_of_blocks_few (b ∷ blocks) =
    omega (arith, sum_by-cons block_words b blocks, term_at_most b.term, words_of_blocks_few blocks, length-append b.items (items_of_blocks blocks))

words_of_procedures_few : (procedures : List Procedure) → sum_by procedure_words procedures ≤ length (items_of_bodies procedures) + length procedures
words_of_procedures_few [] = omega arith
words_of_procedures_few (p ∷ procedures) =
    omega (arith, sum_by-cons procedure_words p procedures, words_of_procedures_few procedures, length-append p.body (items_of_bodies procedures))

pub few_words : (v : GraphAndRoom) → IsSmall (total_of v) → words_of v.graph < 2 ^ 31
few_words v small =
    omega (arith, words_of_blocks_few v.graph.blocks, words_of_procedures_few v.graph.procedures, length-append (items_of_blocks v.graph.blocks) (items_of_bodies v.graph.procedures), small.blocks, small.items, small.procedures)
