use Rattle.std.proofs.Common.{◌∙◌, ◌++◌, ◌∷◌, [], ap, sym, length, Some, append_assoc, arith}
use Rattle.sq_arena.specs.Entries.{keys, next_key}
use Rattle.sq_graph.specs.Blocks.{named}
use Rattle.sq_graph.specs.Cursor.{rest_from}
use Rattle.sq_graph.proofs.CursorLaws.{from_first}
use Rattle.sq_live.proofs.Layouts.{goes_on, keys-named, length-keys}
use Rattle.sq_live.proofs.layout.block_names.Goals as goal

pub loop-place-init : goal.loop-place-init
loop-place-init c =
    let start = rw c.first.ensures at (from_first (named c.args.g.now.graph.blocks)) in
    record {
      place = start.0;
      names = rw (c.in_ok-names.ensures.items) (ap keys start.1.1 ∙ keys-named c.args.g.now.graph.blocks);
    }

pub loop-place-smaller : goal.loop-place-smaller
loop-place-smaller c =
    let there = rw c.in-Some.is at c.loop-place.invariant.place in
    let step = goes_on (named c.args.g.now.graph.blocks) c.in-Some.name c.requires.distinct there in
    let sizes = ap length step.keys_are in
    rw (c.in-Some.is, c.next-place.ensures)
    (omega (arith, sizes, length-keys (rest_from (named c.args.g.now.graph.blocks) (Some c.in-Some.name)), length-keys (rest_from (named c.args.g.now.graph.blocks) (next_key (named c.args.g.now.graph.blocks) c.in-Some.name))))

pub loop-place-preserved : goal.loop-place-preserved
loop-place-preserved c =
    let there = rw c.in-Some.is at c.loop-place.invariant.place in
    let names = rw c.in-Some.is at c.loop-place.invariant.names in
    let step = goes_on (named c.args.g.now.graph.blocks) c.in-Some.name c.requires.distinct there in
    record {
      place = rw c.next-place.ensures step.is_place;
      names =
          rw (c.in_ok-push.ensures.items, c.next-place.ensures)
          (append_assoc c.loop-place.names.items (c.in-Some.name ∷ []) (keys (rest_from (named c.args.g.now.graph.blocks) (next_key (named c.args.g.now.graph.blocks) c.in-Some.name)))
          ∙ ap (λ ks. c.loop-place.names.items ++ ks) (sym step.keys_are)
          ∙ names);
    }
