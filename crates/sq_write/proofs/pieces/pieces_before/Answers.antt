use Rattle.std.proofs.Common.{◌∙◌, ap, map, filter, nat_eq, arith}
use Rattle.std.specs.HashMap.{get}
use Rattle.std.proofs.lemmas.List.{take_all}
use Rattle.sq_write.specs.Pieces.{is_some_piece, part_before}
use Rattle.sq_write.proofs.Segments.{segments_are}
use Rattle.sq_write.proofs.pieces.pieces_before.Goals as goal

pub returns : goal.returns
returns c =
    let segments = c.segments-segment-items.result.now in
    let all = take_all c.loop-segment.segment-index segments (omega arith) in
    c.loop-segment.invariant
    ∙ ap (λ ss. filter is_some_piece (map (part_before c.args.elf.now (get nat_eq c.args.set.now)) ss)) (all ∙ segments_are c.args.elf.now segments c.bytes-bytes.ensures.accepted c.segments-segment-items.ensures)
