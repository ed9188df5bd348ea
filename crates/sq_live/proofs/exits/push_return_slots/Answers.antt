use Rattle.std.proofs.Common.{◌≡◌, true, false, ◌∙◌, ◌+◌, ◌++◌, ap, sym, drop, Some, is_some, append_assoc, option_to_list}
use Rattle.sq_graph.specs.Blocks.{block_term}
use Rattle.sq_graph.specs.Terms.{links}
use Rattle.sq_graph.specs.Walks.{link_names, first_name}
use Rattle.sq_live.proofs.Layouts.{block_at, next_name}
use Rattle.sq_live.proofs.exits.push_return_slots.Goals as goal
use Rattle.sq_live.proofs.exits.push_return_slots.Goals.{then-links+in_ok-push_some, else-links}

pub term-requires : goal.term-requires
term-requires c =
    let b = block_at c.args.g.now.graph c.args.names.now c.loop-name.name-index c.requires.rules c.requires.names c.loop-name-test.true in
    ap is_some b.found

pub loop-name-preserved : goal.loop-name-preserved
loop-name-preserved c =
    let blocks = c.args.g.now.graph.blocks in
    let k = c.loop-name.name-index in
    let b = block_at c.args.g.now.graph c.args.names.now k c.requires.rules c.requires.names c.loop-name-test.true in
    let term : c.term.result ≡ b.block.term = let e : Some b.block.term ≡ Some c.term.result = sym (ap block_term b.found) ∙ c.term.ensures in cc in
    let unfolded = rw b.rest at c.loop-name.invariant in
    elim c.if-links.branch [
      | then-links+in_ok-push_some w ↦
          let linked : links b.block.term ≡ true = sym (ap links term) ∙ sym c.links.ensures ∙ w.if-links.true in
          let next : option_to_list w.next.result ≡ first_name (drop (k + 1) blocks) = ap option_to_list w.next.ensures ∙ next_name c.args.g.now.graph k b in
          ap (λ v. v.items ++ link_names (drop (k + 1) blocks)) w.targets-is
          ∙ ap (λ xs. xs ++ link_names (drop (k + 1) blocks)) (w.in_ok-push_some.ensures ∙ ap (λ xs. c.loop-name.targets.items ++ xs) next)
          ∙ append_assoc c.loop-name.targets.items (first_name (drop (k + 1) blocks)) (link_names (drop (k + 1) blocks))
          ∙ (rw linked at unfolded)
      | else-links w ↦
          let linked : links b.block.term ≡ false = sym (ap links term) ∙ sym c.links.ensures ∙ w.if-links.false in
          ap (λ v. v.items ++ link_names (drop (k + 1) blocks)) w.targets-is ∙ (rw linked at unfolded)
    ]
