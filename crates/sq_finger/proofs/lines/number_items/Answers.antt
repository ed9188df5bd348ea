use Rattle.std.proofs.Common.{Option, map, length, ap, ◌∙◌, arith}
use Rattle.std.specs.Option.{option_map}
use Rattle.std.proofs.lemmas.List.{length-map}
use Rattle.std.proofs.lemmas.Result.{IfOk-weaker}
use Rattle.sq_finger.specs.contracts.keys.ItemKeyPartialEq.TheImpl as item_key_eq
use Rattle.sq_finger.specs.declared.places.WindowAt.{WindowAt}
use Rattle.sq_finger.specs.declared.keys.ItemKey.{ItemKey}
use Rattle.sq_finger.specs.ItemKeys.{key_of}
use Rattle.sq_finger.specs.Lines.{item_at}
use Rattle.sq_finger.specs.Numbers.{AreNumbers, AreNumbersOf}
use Rattle.sq_finger.proofs.Keyed.{mapped_end}
use Rattle.sq_finger.proofs.Lining.{place_block, numbers_of_items, few_line}
use Rattle.sq_finger.proofs.lines.number_items.Goals as goal

pub key_at-requires-clause-block : goal.key_at-requires-clause-block
key_at-requires-clause-block c = place_block c.args.graph.now.graph c.learn.ensures.rules c.args.line.now c.loop-place.place-index (record { block = 0; at = 0 }) c.requires c.loop-place-test.true

pub number_all-requires : goal.number_all-requires
number_all-requires c =
    let g = c.args.graph.now.graph in
    let line = c.args.line.now in
    let key : WindowAt → Option ItemKey = λ place. option_map key_of (item_at g place) in
    let small = c.learn.ensures.small in
    let few = few_line g c.args.graph.now.spare.items c.args.graph.now.spare.blocks c.learn.ensures.rules small.items small.blocks in
    let keys = c.deref.ensures.value ∙ mapped_end key c.loop-place.keys.items (map key line) line c.loop-place.place-index c.loop-place-test.false c.loop-place.invariant in
    let many = ap length keys ∙ length-map line key ∙ ap length c.requires in
    record { few = omega arith }

pub returns : goal.returns
returns c =
    let g = c.args.graph.now.graph in
    let line = c.args.line.now in
    let key : WindowAt → Option ItemKey = λ place. option_map key_of (item_at g place) in
    let keys = c.deref.ensures.value ∙ mapped_end key c.loop-place.keys.items (map key line) line c.loop-place.place-index c.loop-place-test.false c.loop-place.invariant in
    IfOk-weaker c.number_all.result (λ numbers. AreNumbers (item_key_eq.ghosts).eq c.deref.result.now numbers.items) (λ numbers. AreNumbersOf (map (item_at g) line) numbers.items)
    (λ numbers are. numbers_of_items g c.learn.ensures.rules line c.deref.result.now numbers.items c.requires keys are)
    c.number_all.ensures.numbers
