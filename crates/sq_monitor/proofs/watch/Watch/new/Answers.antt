-- what is laid out is what the file's world says
use Rattle.std.proofs.Common.{◌≡◌, map, sym, ap, ◌∙◌, subst}
use Rattle.std.specs.List.{flat_map}
use Rattle.sq_elf.specs.Memory.{segments_of}
use Rattle.sq_memory.specs.Cells.{map_cells}
use Rattle.sq_memory.specs.Regions.{get, region_cell}
use Rattle.sq_pages.specs.Pages.{cells_of, over}
use Rattle.sq_system.specs.Starts.{start_of, stack_pointer, IsBadStart}
use Rattle.law_follow.specs.Worlds.{ram_region}
use Rattle.sq_tagged.specs.Views.{cell_of}
use Rattle.sq_monitor.specs.FileCells.{segment_regions, segment_layout}
use Rattle.sq_monitor.specs.Starts.{extent_of, state_at}
use Rattle.sq_monitor.proofs.Regions.{ram_behind}
use Rattle.sq_monitor.proofs.FileStarts.{layout_same, start_same, extents_same}
use Rattle.sq_monitor.proofs.watch.Watch.new.Goals as goal

pub returns-then-is_bad_start-clause-bad : goal.returns-then-is_bad_start-clause-bad
returns-then-is_bad_start-clause-bad c = λ told p is.
    let start = start_of c.args.start.now in
    let pieces = subst (λ bytes. c.in_ok-laid.laid.pieces.items ≡ flat_map (segment_layout bytes) (segments_of bytes)) c.bytes.ensures.value c.in_ok-laid.ensures.pieces in
    let e = c.deref-2.ensures.value ∙ c.in_ok-extents.ensures ∙ ap (map extent_of) c.deref.ensures.value ∙ extents_same c.args.elf.now p is start c.in_ok-laid.laid.pieces.items pieces in
    subst (λ xs. IsBadStart xs start) e (c.is_bad_start.ensures.bad.0 c.if-is_bad_start.true)

pub returns-clause-valid : goal.returns-clause-valid
returns-clause-valid c = λ p is bad.
    let start = start_of c.args.start.now in
    let pieces = subst (λ bytes. c.in_ok-laid.laid.pieces.items ≡ flat_map (segment_layout bytes) (segments_of bytes)) c.bytes.ensures.value c.in_ok-laid.ensures.pieces in
    let e = c.deref-2.ensures.value ∙ c.in_ok-extents.ensures ∙ ap (map extent_of) c.deref.ensures.value ∙ extents_same c.args.elf.now p is start c.in_ok-laid.laid.pieces.items pieces in
    let told = c.is_bad_start.ensures.bad.1 (subst (λ xs. IsBadStart xs start) (sym e) bad) in
    absurd (cc (told, c.if-is_bad_start.false))

pub returns-clause-layout : goal.returns-clause-layout
returns-clause-layout c = λ p is.
    let pieces = subst (λ bytes. c.in_ok-laid.laid.pieces.items ≡ flat_map (segment_layout bytes) (segments_of bytes)) c.bytes.ensures.value c.in_ok-laid.ensures.pieces in
    c.in_ok-watch.ensures.layout ∙ layout_same c.args.elf.now p is (start_of c.args.start.now) c.in_ok-laid.laid.pieces.items pieces

pub returns-clause-state : goal.returns-clause-state
returns-clause-state c = λ p is.
    let start = start_of c.args.start.now in
    let marked = subst (λ marked. map_cells cell_of (cells_of c.in_ok-laid.laid.memory) ≡ get (flat_map (segment_regions marked c.bytes.result.now) (segments_of c.bytes.result.now))) c.requires.same c.in_ok-laid.ensures.memory in
    let memory = subst (λ bytes. map_cells cell_of (cells_of c.in_ok-laid.laid.memory) ≡ get (flat_map (segment_regions c.args.elf.now bytes) (segments_of bytes))) c.bytes.ensures.value marked in
    let both = ap (λ m. over m (region_cell (ram_region start))) memory ∙ ram_behind (flat_map (segment_regions c.args.elf.now c.args.elf.now) (segments_of c.args.elf.now)) (ram_region start) in
    c.in_ok-watch.ensures.state
    ∙ (λ i. state_at c.entry.result (stack_pointer start) (both i) start.input)
    ∙ start_same c.args.elf.now p is start c.entry.result c.entry.ensures
