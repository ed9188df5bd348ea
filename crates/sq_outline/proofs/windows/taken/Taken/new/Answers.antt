use Rattle.std.proofs.Common.{◌≡◌, ◌+◌, List, drop, length, sym, ap, ◌∙◌, subst, arith, replicate, rules}
use Rattle.std.proofs.lemmas.List.{drop_all}
use Rattle.sq_graph.specs.Graph.{Block}
use Rattle.sq_graph.specs.declared.calls.ItemFate.TheVariants.{Stays}
use Rattle.sq_graph.specs.Blocks.{block_items}
use Rattle.sq_live.proofs.Layouts.{block_at, length-names}
use Rattle.sq_lookup.proofs.Sizes.{drop_distinct}
use Rattle.sq_lookup.specs.Tables.{number_at}
use Rattle.sq_finger.proofs.Layouts.{name_there}
use Rattle.sq_outline.proofs.WindowsTakenOf.{IsCounted, one_counted, new_taken}
use Rattle.sq_outline.proofs.windows.taken.Taken.new.Goals as goal

pub items-requires : goal.items-requires
items-requires c = name_there c.args.graph.now.graph c.deref-name-items.result.now c.loop-name.name-index c.loop-name.invariant.all c.loop-name-test.true

pub loop-name-preserved : goal.loop-name-preserved
loop-name-preserved c =
    let g = c.args.graph.now.graph in
    let b = block_at g c.deref-name-items.result.now c.loop-name.name-index c.learn.ensures.rules c.loop-name.invariant.all c.loop-name-test.true in
    let size : length b.block.items ≡ length c.items.result.now = sym (ap length c.items.ensures ∙ ap (λ o. length (block_items o)) b.found) in
    let counted = subst (λ (bs : List Block). IsCounted g.blocks (number_at c.loop-name.ahead) bs c.loop-name.count) b.rest c.loop-name.invariant.counted in
    record {
      all = c.loop-name.invariant.all;
      counted =
          subst (λ n. IsCounted g.blocks (number_at c.insert.new.self) (drop (c.loop-name.name-index + 1) g.blocks) (c.loop-name.count + n)) size
          (one_counted g.blocks (number_at c.loop-name.ahead) (number_at c.insert.new.self) b.block (drop (c.loop-name.name-index + 1) g.blocks) c.loop-name.count counted
          (drop_distinct g c.loop-name.name-index b.block (drop (c.loop-name.name-index + 1) g.blocks) c.learn.ensures.rules b.rest) (λ n. rw b.has_name (c.in_ok-insert.ensures n)));
    }

pub returns-clause-taken : goal.returns-clause-taken
returns-clause-taken c =
    let g = c.args.graph.now.graph in
    let all = drop_all c.loop-name.name-index g.blocks (omega (arith, length-names g c.deref-name-items.result.now c.loop-name.invariant.all, c.loop-name-test.false)) in
    let counted = subst (λ (bs : List Block). IsCounted g.blocks (number_at c.loop-name.ahead) bs c.loop-name.count) all c.loop-name.invariant.counted in
    let stay : c.in_ok-fates.fates.items ≡ replicate c.loop-name.count Stays = search rules in
    new_taken g _ c.loop-name.count counted stay
