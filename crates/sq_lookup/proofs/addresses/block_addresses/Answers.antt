use Rattle.std.proofs.Common.{ℕ, List, Option, ◌+◌, ◌*◌, drop, ap, subst, is_some, sym, ◌∙◌, arith}
use Rattle.std.proofs.lemmas.List.{drop_all}
use Rattle.sq_lookup.specs.Tables.{number_at}
use Rattle.sq_layout.proofs.Placed.{IsPlaced, none_placed, all_placed, at_behind, one_placed}
use Rattle.sq_layout.proofs.Walks.{words_here}
use Rattle.sq_live.proofs.Layouts.{block_at, length-names}
use Rattle.sq_lookup.proofs.Sizes.{drop_distinct}
use Rattle.sq_lookup.proofs.addresses.block_addresses.Goals as goal

pub block_words-requires : goal.block_words-requires
block_words-requires c =
    let b = block_at c.args.graph.now.graph c.args.names.now c.loop-name.name-index c.learn.ensures.rules c.requires c.loop-name-test.true in
    ap is_some b.found

pub overflow_mul-at : goal.overflow_mul-at
overflow_mul-at c =
    let g = c.args.graph.now.graph in
    let b = block_at g c.args.names.now c.loop-name.name-index c.learn.ensures.rules c.requires c.loop-name-test.true in
    let words = words_here g _ c.block_words.result b.block b.found c.block_words.ensures in
    let placed = subst (λ bs. IsPlaced g.blocks 0 (number_at c.loop-name.addresses) bs c.loop-name.at) b.rest c.loop-name.invariant.placed in
    let behind = at_behind g.blocks 0 c.loop-name.at (number_at c.loop-name.addresses) b.block (drop (c.loop-name.name-index + 1) g.blocks) placed in
    let few = c.learn.ensures.few in
    omega arith

pub overflow_add-at : goal.overflow_add-at
overflow_add-at c =
    let g = c.args.graph.now.graph in
    let b = block_at g c.args.names.now c.loop-name.name-index c.learn.ensures.rules c.requires c.loop-name-test.true in
    let words = words_here g _ c.block_words.result b.block b.found c.block_words.ensures in
    let placed = subst (λ bs. IsPlaced g.blocks 0 (number_at c.loop-name.addresses) bs c.loop-name.at) b.rest c.loop-name.invariant.placed in
    let behind = at_behind g.blocks 0 c.loop-name.at (number_at c.loop-name.addresses) b.block (drop (c.loop-name.name-index + 1) g.blocks) placed in
    let few = c.learn.ensures.few in
    omega arith

pub loop-name-preserved : goal.loop-name-preserved
loop-name-preserved c =
    let g = c.args.graph.now.graph in
    let rest = drop (c.loop-name.name-index + 1) g.blocks in
    let b = block_at g c.args.names.now c.loop-name.name-index c.learn.ensures.rules c.requires c.loop-name-test.true in
    let words = words_here g _ c.block_words.result b.block b.found c.block_words.ensures in
    let placed = subst (λ bs. IsPlaced g.blocks 0 (number_at c.loop-name.addresses) bs c.loop-name.at) b.rest c.loop-name.invariant.placed in
    record {
      placed =
          subst (λ n. IsPlaced g.blocks 0 (number_at c.insert.new.self) (drop (c.loop-name.name-index + 1) g.blocks) (c.loop-name.at + 4 * n)) (sym (c.from.ensures ∙ words))
          (one_placed g.blocks 0 c.loop-name.at (number_at c.loop-name.addresses) (number_at c.insert.new.self) b.block (drop (c.loop-name.name-index + 1) g.blocks) placed
          (drop_distinct g c.loop-name.name-index b.block (drop (c.loop-name.name-index + 1) g.blocks) c.learn.ensures.rules b.rest) (λ n. rw b.has_name (c.in_ok-insert.ensures n)));
    }

pub returns : goal.returns
returns c =
    let g = c.args.graph.now.graph in
    let all = drop_all c.loop-name.name-index g.blocks (omega (arith, length-names g c.args.names.now c.requires)) in
    all_placed g.blocks 0 c.loop-name.at (number_at c.loop-name.addresses) (subst (λ bs. IsPlaced g.blocks 0 (number_at c.loop-name.addresses) bs c.loop-name.at) all c.loop-name.invariant.placed)

pub loop-name-init : goal.loop-name-init
loop-name-init c =
    record { placed = none_placed c.args.graph.now.graph.blocks 0 (number_at c.new-addresses.result) (λ n. ap (λ (table : List (Option ℕ)). number_at table n) c.new-addresses.ensures) }
