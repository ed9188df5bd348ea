use Rattle.std.proofs.Common.{◌≡◌, ◌∙◌, ◌+◌, ◌∷◌, [], ap, sym, drop, length, Some, is_some, arith}
use Rattle.sq_graph.specs.Blocks.{block_term}
use Rattle.sq_graph.specs.Walks.{code_targets}
use Rattle.sq_live.specs.Exits.{position_at, nodes_of, term_exits, next_node}
use Rattle.sq_live.proofs.Layouts.{block_at, length-names, next_node-some, next_node-none}
use Rattle.sq_live.proofs.Nodes.{block_exits}
use Rattle.sq_live.proofs.exits.block_exits.Goals as goal
use Rattle.sq_live.proofs.exits.block_exits.Goals.{then-k-names, else-k-names}

pub term-requires : goal.term-requires
term-requires c =
    let b = block_at c.args.g.now.graph c.args.names.now c.args.k c.requires.rules c.requires.names c.requires.within in
    ap is_some b.found

pub returns : goal.returns
returns c =
    let g = c.args.g.now.graph in
    let k = c.args.k in
    let at = position_at c.args.positions.now in
    let n = length c.args.names.now in
    let b = block_at g c.args.names.now k c.requires.rules c.requires.names c.requires.within in
    let back = drop (k + 1) g.blocks in
    let sizes = length-names g c.args.names.now c.requires.names in
    let term : c.term.result ≡ b.block.term = let e : Some b.block.term ≡ Some c.term.result = sym (ap block_term b.found) ∙ c.term.ensures in cc in
    let next : c.if-k-names.next ≡ next_node k back =
    elim c.if-k-names.branch [
      | then-k-names w ↦ w.next-is ∙ sym (next_node-some k g.blocks (omega (arith, sizes, w.if-k-names.true)))
      | else-k-names w ↦ w.next-is ∙ sym (next_node-none k g.blocks (omega (arith, sizes, w.if-k-names.false)))
    ] in
    let sum : 0 + k ≡ k = omega arith in
    c.term_exits.ensures
    ∙ ap (λ o. term_exits at n o c.term.result) next
    ∙ ap (term_exits at n (next_node k back)) term
    ∙ ap (λ i. term_exits at n (next_node i back) b.block.term) (sym sum)
    ∙ sym (block_exits at n g.blocks 0 k b.block back (nodes_of at (code_targets g) ∷ []) b.rest)
