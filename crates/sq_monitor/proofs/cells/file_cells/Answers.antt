use Rattle.std.proofs.Common.{◌<◌, ◌∷◌, [], ◌++◌, map, length, sym, ap, ap₂, ◌∙◌, arith}
use Rattle.std.proofs.lemmas.List.{map-append}
use Rattle.law_follow.specs.Values.{Cell}
use Rattle.sq_tagged.specs.Views.{cell_of}
use Rattle.sq_monitor.proofs.FirstCells.{cells_more}
use Rattle.sq_monitor.proofs.cells.file_cells.Goals as goal

pub loop-i-preserved : goal.loop-i-preserved
loop-i-preserved c =
    let within : c.loop-i.i < length c.args.bytes.now = omega arith in
    ap (map cell_of) c.in_ok-push.ensures.items ∙ map-append cell_of c.loop-i.cells.items (c.file_cell.result ∷ [])
    ∙ ap₂ (λ cells (cell : Cell). cells ++ cell ∷ []) c.loop-i.invariant c.file_cell.ensures
    ∙ sym (cells_more c.args.relocs.now c.args.bytes.now c.args.x c.loop-i.i within)
