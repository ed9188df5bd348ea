use Rattle.std.proofs.Common.{◌≡◌, ◌∙◌, ◌+◌, ◌*◌, ◌<◌, ◌^◌, ℕ, List, Option, drop, ap, is_some, length, subst, sym, arith, if◌then◌else◌}
use Rattle.std.proofs.lemmas.List.{drop_all}
use Rattle.sq_layout.proofs.Walks.{words_here}
use Rattle.sq_live.proofs.Layouts.{block_at, length-names}
use Rattle.sq_lookup.specs.Names.{is_listed}
use Rattle.sq_lookup.specs.Tables.{number_at}
use Rattle.sq_lookup.proofs.Sizes.{drop_distinct}
use Rattle.sq_chain.specs.Widening.{swollen}
use Rattle.sq_chain.proofs.Placed.{IsPlacedBy, none_placed_by, all_placed_by, behind_by, one_placed_by, swollen_few, swollen_small}
use Rattle.sq_chain.proofs.short.swollen_addresses.Goals as goal

pub block_words-requires : goal.block_words-requires
block_words-requires c =
    let b = block_at c.args.graph.now.graph c.args.names.now c.loop-name.name-index c.learn.ensures.rules c.requires c.loop-name-test.true in
    ap is_some b.found

pub overflow_add-at-in-loop-name : goal.overflow_add-at-in-loop-name
overflow_add-at-in-loop-name c =
    let g = c.args.graph.now.graph in
    let b = block_at g c.args.names.now c.loop-name.name-index c.learn.ensures.rules c.requires c.loop-name-test.true in
    let words = words_here g _ c.block_words.result b.block b.found c.block_words.ensures in
    let one : c.one_for-more.result ≡ (if is_listed c.args.wide.now b.block.name then 1 else 0) = c.one_for-more.ensures ∙ ap (λ n. if is_listed c.args.wide.now n then 1 else 0) (sym b.has_name) in
    let placed = subst (λ bs. IsPlacedBy (swollen (is_listed c.args.wide.now)) g.blocks (number_at c.loop-name.addresses) bs c.loop-name.at) b.rest c.loop-name.invariant.placed in
    let behind = behind_by (swollen (is_listed c.args.wide.now)) g.blocks c.loop-name.at (number_at c.loop-name.addresses) b.block (drop (c.loop-name.name-index + 1) g.blocks) placed in
    let few = c.learn.ensures.few in
    let few' = c.learn.ensures.small.blocks in
    let all = swollen_few (is_listed c.args.wide.now) g.blocks in
    omega (arith, words, one, behind, few, few', all, c.from.ensures, c.from-in-loop-name.ensures)

pub loop-name-init : goal.loop-name-init
loop-name-init c = record {
  placed =
      none_placed_by (swollen (is_listed c.args.wide.now)) c.args.graph.now.graph.blocks (number_at c.new-addresses.result)
      (λ n. ap (λ (table : List (Option ℕ)). number_at table n) c.new-addresses.ensures);
}

pub loop-name-preserved : goal.loop-name-preserved
loop-name-preserved c =
    let g = c.args.graph.now.graph in
    let b = block_at g c.args.names.now c.loop-name.name-index c.learn.ensures.rules c.requires c.loop-name-test.true in
    let words = words_here g _ c.block_words.result b.block b.found c.block_words.ensures in
    let one : c.one_for-more.result ≡ (if is_listed c.args.wide.now b.block.name then 1 else 0) = c.one_for-more.ensures ∙ ap (λ n. if is_listed c.args.wide.now n then 1 else 0) (sym b.has_name) in
    let size : c.from.result + c.from-in-loop-name.result ≡ swollen (is_listed c.args.wide.now) b.block = omega (arith, words, one, c.from.ensures, c.from-in-loop-name.ensures) in
    let placed = subst (λ bs. IsPlacedBy (swollen (is_listed c.args.wide.now)) g.blocks (number_at c.loop-name.addresses) bs c.loop-name.at) b.rest c.loop-name.invariant.placed in
    record {
      placed =
          subst (λ n. IsPlacedBy (swollen (is_listed c.args.wide.now)) g.blocks (number_at c.insert.new.self) (drop (c.loop-name.name-index + 1) g.blocks) (c.loop-name.at + 4 * n)) (sym size)
          (one_placed_by (swollen (is_listed c.args.wide.now)) g.blocks c.loop-name.at (number_at c.loop-name.addresses) (number_at c.insert.new.self) b.block (drop (c.loop-name.name-index + 1) g.blocks) placed
          (drop_distinct g c.loop-name.name-index b.block (drop (c.loop-name.name-index + 1) g.blocks) c.learn.ensures.rules b.rest) (λ n. rw b.has_name (c.in_ok-insert.ensures n)));
    }

pub returns-clause-addresses : goal.returns-clause-addresses
returns-clause-addresses c =
    let g = c.args.graph.now.graph in
    let all = drop_all c.loop-name.name-index g.blocks (omega (arith, length-names g c.args.names.now c.requires)) in
    all_placed_by (swollen (is_listed c.args.wide.now)) g.blocks c.loop-name.at (number_at c.loop-name.addresses)
    (subst (λ bs. IsPlacedBy (swollen (is_listed c.args.wide.now)) g.blocks (number_at c.loop-name.addresses) bs c.loop-name.at) all c.loop-name.invariant.placed)

pub returns-clause-small : goal.returns-clause-small
returns-clause-small c =
    let g = c.args.graph.now.graph in
    let all = drop_all c.loop-name.name-index g.blocks (omega (arith, length-names g c.args.names.now c.requires)) in
    let few' : length c.args.graph.now.graph.blocks < 2 ^ 29 = let s = c.learn.ensures.small.blocks in omega (arith, s) in
    swollen_small g (is_listed c.args.wide.now) (number_at c.loop-name.addresses)
    (all_placed_by (swollen (is_listed c.args.wide.now)) g.blocks c.loop-name.at (number_at c.loop-name.addresses)
    (subst (λ bs. IsPlacedBy (swollen (is_listed c.args.wide.now)) g.blocks (number_at c.loop-name.addresses) bs c.loop-name.at) all c.loop-name.invariant.placed))
    c.learn.ensures.few few'
