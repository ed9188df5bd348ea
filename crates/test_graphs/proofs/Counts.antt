-- A graph has no more items and procedures than words.
use Rattle.std.proofs.Common.{◌+◌, ◌≤◌, List, [], ◌∷◌, length, sum_by, arith, length-append}
use Rattle.std.proofs.lemmas.List.Sums.{sum_by-cons}
use Rattle.sq_graph.specs.Graph.{Block, Procedure, Graph}
use Rattle.sq_graph.specs.Blocks.{items_of_blocks, items_of_bodies, all_items}
use Rattle.sq_graph.specs.Words.{block_words, procedure_words, words_of}

items_of_blocks_few : (bs : List Block) → length (items_of_blocks bs) ≤ sum_by block_words bs
items_of_blocks_few [] = omega arith
items_of_blocks_few (b ∷ bs) = omega (arith, items_of_blocks_few bs, sum_by-cons block_words b bs, length-append b.items (items_of_blocks bs))

procedures_few : (ps : List Procedure) → length ps + length (items_of_bodies ps) ≤ sum_by procedure_words ps
procedures_few [] = omega arith
procedures_few (p ∷ ps) = omega (arith, procedures_few ps, sum_by-cons procedure_words p ps, length-append p.body (items_of_bodies ps))

pub few_items : (g : Graph) → length g.procedures + length (all_items g) ≤ words_of g
few_items g = omega (arith, items_of_blocks_few g.blocks, procedures_few g.procedures, length-append (items_of_blocks g.blocks) (items_of_bodies g.procedures))
