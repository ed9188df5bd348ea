use Rattle.std.proofs.Common.{◌≡◌, ◌++◌, drop, None}
use Rattle.std.specs.List.{flat_map}
use Rattle.sq_hex.specs.Flash.{ranges_of}
use Rattle.sq_hex.specs.Texts.{cut, data_text}
use Rattle.sq_hex.proofs.write.text_of.Given as goal

abbrev pub invariant-loop-segment : goal.invariant-loop-segment
invariant-loop-segment l =
    l.writer.text.items ++ data_text l.writer.base (flat_map (λ range. cut range.0 range.1) (ranges_of l.file (drop l.segment-index l.loads)))
    ≡ data_text None (flat_map (λ range. cut range.0 range.1) (ranges_of l.file l.loads))
