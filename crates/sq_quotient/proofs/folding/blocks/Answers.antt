use Rattle.std.proofs.Common.{◌≡◌, ◌+◌, ◌==◌, true, false, ◌++◌, ◌∙◌, List, Some, drop, length, get_or, is_some, ap, sym, subst, arith}
use Rattle.sq_graph.specs.declared.item.Item.{Item}
use Rattle.sq_graph.specs.Blocks.{block_items, block_term}
use Rattle.sq_graph.specs.Graph.{Block}
use Rattle.sq_graph.specs.Renames.{retargeted_items}
use Rattle.sq_layout.proofs.Walks.{items_few}
use Rattle.sq_live.proofs.Layouts.{block_at}
use Rattle.sq_quotient.specs.Staying.{stays_in, place_in, gone_next, next_in, parts_by, parts_of, items_left}
use Rattle.sq_quotient.proofs.Left.{gone_here, same_term}
use Rattle.sq_quotient.proofs.PartsLeft.{parts_kept, items_kept, parts_gone, items_gone}
use Rattle.sq_quotient.proofs.folding.blocks.Goals as goal
use Rattle.sq_quotient.proofs.folding.blocks.Goals.{then-stays+in_ok-push_parts+in_ok-push_items, else-stays}

pub items-body-requires : goal.items-body-requires
items-body-requires c = let b = block_at c.args.graph.now.graph c.args.names.now c.loop-name.name-index c.learn.ensures.rules c.requires c.loop-name-test.true in ap is_some b.found

pub gone_next-gone-requires : goal.gone_next-gone-requires
gone_next-gone-requires c = let b = block_at c.args.graph.now.graph c.args.names.now c.loop-name.name-index c.learn.ensures.rules c.requires c.loop-name-test.true in ap is_some b.found

pub overflow_cast-body : goal.overflow_cast-body
overflow_cast-body c =
    let few = items_few c.args.graph.now.graph (get_or c.args.names.now c.loop-name.name-index 0) c.learn.ensures.few in
    omega (arith, few, ap (λ (is : List Item). length is) c.items-body.ensures)

pub term-requires : goal.term-requires
term-requires c = let b = block_at c.args.graph.now.graph c.args.names.now c.loop-name.name-index c.learn.ensures.rules c.requires c.loop-name-test.true in ap is_some b.found

pub loop-name-preserved : goal.loop-name-preserved
loop-name-preserved c =
    let g = c.args.graph.now.graph in
    let q = place_in c.args.folding.now in
    let f = stays_in c.args.folding.now.staying in
    let i = c.loop-name.name-index in
    let rest = drop (c.loop-name.name-index + 1) c.args.graph.now.graph.blocks in
    let b = block_at g c.args.names.now i c.learn.ensures.rules c.requires c.loop-name-test.true in
    elim c.if-stays.branch [
      | then-stays+in_ok-push_parts+in_ok-push_items w ↦
          let kept : (stays_in c.args.folding.now.staying b.block.name == b.block.name) ≡ true = subst (λ n. (stays_in c.args.folding.now.staying n == n) ≡ true) (sym b.has_name) (sym c.stays.ensures ∙ w.if-stays.true) in
          let body : w.items-body.result.now ≡ b.block.items = w.items-body.ensures ∙ ap block_items b.found in
          let term : w.term.result ≡ b.block.term = same_term w.term.result b.block.term (sym w.term.ensures ∙ ap block_term b.found) in
          let gone : w.gone_next-gone.result ≡ gone_next (stays_in c.args.folding.now.staying) (Some b.block.term) (next_in (drop (c.loop-name.name-index + 1) c.args.graph.now.graph.blocks)) =
          w.gone_next-gone.ensures ∙ gone_here f g (get_or c.args.names.now i 0) b.block rest b.found b.behind_is in
          let parts : w.push_parts.new.parts.items ≡ c.loop-name.parts.items ++ parts_by (place_in c.args.folding.now) (length b.block.items) b.block.term (gone_next (stays_in c.args.folding.now.staying) (Some b.block.term) (next_in (drop (c.loop-name.name-index + 1) c.args.graph.now.graph.blocks))) =
          w.in_ok-push_parts.ensures ∙ (λ j. c.loop-name.parts.items ++ parts_by (place_in c.args.folding.now) (length (body j)) (term j) (gone j)) in
          let items : w.push_items.new.items.items ≡ c.loop-name.items.items ++ retargeted_items (place_in c.args.folding.now) b.block.items = w.in_ok-push_items.ensures ∙ ap (λ (is : List Item). c.loop-name.items.items ++ retargeted_items (place_in c.args.folding.now) is) body in
          record {
            parts =
                ap (λ (v : _). v.items ++ parts_of (place_in c.args.folding.now) (stays_in c.args.folding.now.staying) (drop (c.loop-name.name-index + 1) c.args.graph.now.graph.blocks)) w.parts-is
                ∙ ap (λ xs. xs ++ parts_of q f rest) parts
                ∙ parts_kept q f b.block rest c.loop-name.parts.items kept
                ∙ ap (λ (bs : List Block). c.loop-name.parts.items ++ parts_of q f bs) (sym b.rest)
                ∙ c.loop-name.invariant.parts;
            items =
                ap (λ (v : _). v.items ++ items_left (place_in c.args.folding.now) (stays_in c.args.folding.now.staying) (drop (c.loop-name.name-index + 1) c.args.graph.now.graph.blocks)) w.items-is
                ∙ ap (λ xs. xs ++ items_left q f rest) items
                ∙ items_kept q f b.block rest c.loop-name.items.items kept
                ∙ ap (λ (bs : List Block). c.loop-name.items.items ++ items_left q f bs) (sym b.rest)
                ∙ c.loop-name.invariant.items;
          }
      | else-stays w ↦
          let gone : (stays_in c.args.folding.now.staying b.block.name == b.block.name) ≡ false = subst (λ n. (stays_in c.args.folding.now.staying n == n) ≡ false) (sym b.has_name) (sym c.stays.ensures ∙ w.if-stays.false) in
          record {
            parts =
                ap (λ (v : _). v.items ++ parts_of (place_in c.args.folding.now) (stays_in c.args.folding.now.staying) (drop (c.loop-name.name-index + 1) c.args.graph.now.graph.blocks)) w.parts-is
                ∙ ap (λ xs. c.loop-name.parts.items ++ xs) (parts_gone q f b.block rest gone)
                ∙ ap (λ (bs : List Block). c.loop-name.parts.items ++ parts_of q f bs) (sym b.rest)
                ∙ c.loop-name.invariant.parts;
            items =
                ap (λ (v : _). v.items ++ items_left (place_in c.args.folding.now) (stays_in c.args.folding.now.staying) (drop (c.loop-name.name-index + 1) c.args.graph.now.graph.blocks)) w.items-is
                ∙ ap (λ xs. c.loop-name.items.items ++ xs) (items_gone q f b.block rest gone)
                ∙ ap (λ (bs : List Block). c.loop-name.items.items ++ items_left q f bs) (sym b.rest)
                ∙ c.loop-name.invariant.items;
          }
    ]
