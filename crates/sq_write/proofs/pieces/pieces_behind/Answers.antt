use Rattle.std.proofs.Common.{◌∙◌, ap, map, filter, nat_eq, arith}
use Rattle.std.specs.HashMap.{get}
use Rattle.std.proofs.lemmas.List.{take_all}
use Rattle.std.proofs.lemmas.List.Elements.{All-get_or}
use Rattle.sq_elf.specs.declared.segment.Segment.{Segment}
use Rattle.sq_write.proofs.SegmentFacts.{IsShaped, segments_are_shaped}
use Rattle.sq_write.specs.Pieces.{is_some_piece, part_behind}
use Rattle.sq_write.proofs.Segments.{segments_are}
use Rattle.sq_write.proofs.pieces.pieces_behind.Goals as goal

pub returns : goal.returns
returns c =
    let segments = c.segments-segment-items.result.now in
    let all = take_all c.loop-segment.segment-index segments (omega arith) in
    c.loop-segment.invariant
    ∙ ap (λ ss. filter is_some_piece (map (part_behind c.args.elf.now (get nat_eq c.args.set.now)) ss)) (all ∙ segments_are c.args.elf.now segments c.bytes-bytes.ensures.accepted c.segments-segment-items.ensures)

pub part_of-requires-clause-fits : goal.part_of-requires-clause-fits
part_of-requires-clause-fits c =
    let segments = c.segments-segment-items.result.now in
    let none : Segment = record { offset = 0; address = 0; load_address = 0; filesz = 0; memsz = 0; flags = 0 } in
    let shaped = All-get_or IsShaped segments c.loop-segment.segment-index none c.loop-segment-test.true (segments_are_shaped c.args.elf.now c.bytes-bytes.ensures.accepted segments c.segments-segment-items.ensures) in
    omega (arith, shaped.fits, c.if-size-gt0.true)
