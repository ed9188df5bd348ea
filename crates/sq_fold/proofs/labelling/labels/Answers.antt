use Rattle.std.proofs.Common.{Option, Some, map, length, ap, ◌∙◌, arith}
use Rattle.std.proofs.lemmas.List.{length-map}
use Rattle.std.proofs.lemmas.Result.{IfOk-weaker}
use Rattle.sq_finger.specs.declared.keys.ItemKey.{ItemKey}
use Rattle.sq_finger.specs.declared.keys.TermKey.{TermKey}
use Rattle.sq_finger.specs.declared.places.WindowAt.{WindowAt}
use Rattle.sq_finger.specs.Numbers.{AreNumbers, AreNumbersOf}
use Rattle.sq_finger.proofs.Keyed.{mapped_end}
use Rattle.sq_finger.proofs.Lining.{place_block, few_line}
use Rattle.sq_fold.specs.Labels.{bare_at, key_of_bare}
use Rattle.sq_fold.proofs.Bareness.{is_same_bare, labelled, line_blocks}
use Rattle.sq_fold.proofs.labelling.labels.Goals as goal

pub key_at-requires-clause-block : goal.key_at-requires-clause-block
key_at-requires-clause-block c = place_block c.args.graph.now.graph c.learn.ensures.rules c.args.line.now c.loop-place.place-index (record { block = 0; at = 0 }) c.requires c.loop-place-test.true

pub number_all-requires : goal.number_all-requires
number_all-requires c =
    let g = c.args.graph.now.graph in
    let line = c.args.line.now in
    let key : WindowAt → Option (Option ItemKey × Option TermKey) = λ place. Some (key_of_bare (bare_at g place)) in
    let small = c.learn.ensures.small in
    let few = few_line g c.args.graph.now.spare.items c.args.graph.now.spare.blocks c.learn.ensures.rules small.items small.blocks in
    let keys = c.deref.ensures.value ∙ mapped_end key c.loop-place.keys.items (map key line) line c.loop-place.place-index c.loop-place-test.false c.loop-place.invariant in
    let many = ap length keys ∙ length-map line key ∙ ap length c.requires in
    record { few = omega arith }

pub returns : goal.returns
returns c =
    let g = c.args.graph.now.graph in
    let line = c.args.line.now in
    let rules = c.learn.ensures.rules in
    let key : WindowAt → Option (Option ItemKey × Option TermKey) = λ place. Some (key_of_bare (bare_at g place)) in
    let keys = c.deref.ensures.value ∙ mapped_end key c.loop-place.keys.items (map key line) line c.loop-place.place-index c.loop-place-test.false c.loop-place.invariant in
    IfOk-weaker c.number_all.result (λ numbers. AreNumbers is_same_bare c.deref.result.now numbers.items) (λ labels. AreNumbersOf (map (λ place. Some (bare_at g place)) line) labels.items)
    (λ labels are. labelled g rules line c.deref.result.now labels.items (line_blocks g rules line c.requires) keys are)
    c.number_all.ensures.numbers
