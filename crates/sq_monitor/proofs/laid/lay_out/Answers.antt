use Rattle.std.proofs.Common.{◌≡◌, ◌<◌, ◌++◌, true, false, refl, ap, sym, ◌∙◌, arith}
use Rattle.sq_memory.specs.Cells.{map_cells}
use Rattle.sq_memory.specs.Regions.{get}
use Rattle.sq_pages.specs.Pages.{cells_of, over}
use Rattle.std.specs.List.{flat_map}
use Rattle.sq_elf.specs.Headers.{phnum_of, segment_of}
use Rattle.sq_elf.specs.Memory.{has_memory, segments_before}
use Rattle.sq_tagged.specs.Views.{cell_of}
use Rattle.sq_monitor.specs.FileCells.{segment_regions, segment_layout}
use Rattle.sq_monitor.proofs.Headers.{with_segment, without_segment}
use Rattle.sq_monitor.proofs.SegmentFacts.{segment_fits}
use Rattle.sq_monitor.proofs.Regions.{get_append, nothing}
use Rattle.sq_monitor.proofs.laid.lay_out.Goals as goal
use Rattle.sq_monitor.proofs.laid.lay_out.Goals.{then-has_memory+in_ok-push_segment, else-has_memory}

pub loop-index-init : goal.loop-index-init
unfolding segments_before
loop-index-init c = record { pieces = c.new.ensures.items; memory = ap (λ m. map_cells cell_of (cells_of m)) c.new-2.ensures ∙ nothing }

pub push_segment-requires-clause-whole : goal.push_segment-requires-clause-whole
push_segment-requires-clause-whole c =
    let within : c.loop-index.index < phnum_of c.args.bytes.now = omega (arith, c.header_count-index-end.ensures.value) in
    let has : has_memory c.args.bytes.now c.loop-index.index ≡ true = sym c.has_memory.ensures ∙ c.if-has_memory.true in
    rw c.segment_at-segment.ensures (segment_fits c.args.bytes.now c.requires c.loop-index.index within has).whole

pub push_segment-requires-clause-end : goal.push_segment-requires-clause-end
push_segment-requires-clause-end c =
    let within : c.loop-index.index < phnum_of c.args.bytes.now = omega (arith, c.header_count-index-end.ensures.value) in
    let has : has_memory c.args.bytes.now c.loop-index.index ≡ true = sym c.has_memory.ensures ∙ c.if-has_memory.true in
    rw c.segment_at-segment.ensures (segment_fits c.args.bytes.now c.requires c.loop-index.index within has).end

pub push_segment-requires-clause-copy_end : goal.push_segment-requires-clause-copy_end
push_segment-requires-clause-copy_end c =
    let within : c.loop-index.index < phnum_of c.args.bytes.now = omega (arith, c.header_count-index-end.ensures.value) in
    let has : has_memory c.args.bytes.now c.loop-index.index ≡ true = sym c.has_memory.ensures ∙ c.if-has_memory.true in
    rw c.segment_at-segment.ensures (segment_fits c.args.bytes.now c.requires c.loop-index.index within has).copy_end

pub loop-index-preserved : goal.loop-index-preserved
loop-index-preserved c =
    let bytes = c.args.bytes.now in
    let marked = c.args.relocs.now in
    let at = c.loop-index.index in
    let old = c.loop-index.laid in
    elim c.if-has_memory.branch [
      | then-has_memory+in_ok-push_segment w ↦
          (let has : has_memory bytes at ≡ true = sym c.has_memory.ensures ∙ w.if-has_memory.true in
          let pieces = w.in_ok-push_segment.ensures.pieces ∙ ap (λ s. old.pieces.items ++ segment_layout bytes s) w.segment_at-segment.ensures in
          let before = flat_map (segment_regions marked bytes) (segments_before bytes at) in
          let memory =
          w.in_ok-push_segment.ensures.memory ∙ ap (λ s. over (map_cells cell_of (cells_of old.memory)) (get (segment_regions marked bytes s))) w.segment_at-segment.ensures
          ∙ ap (λ m. over m (get (segment_regions marked bytes (segment_of bytes at)))) c.loop-index.invariant.memory
          ∙ sym (get_append before (segment_regions marked bytes (segment_of bytes at)))
          ∙ ap get (with_segment (segment_regions marked bytes) bytes at before _ refl has refl) in
          rw w.laid-is (record {
            pieces = with_segment (segment_layout bytes) bytes at _ _ c.loop-index.invariant.pieces has pieces;
            memory = memory;
          }))
      | else-has_memory w ↦
          (let has : has_memory bytes at ≡ false = sym c.has_memory.ensures ∙ w.if-has_memory.false in
          rw w.laid-is (record {
            pieces = without_segment (segment_layout bytes) bytes at _ _ c.loop-index.invariant.pieces has refl;
            memory = c.loop-index.invariant.memory ∙ ap get (without_segment (segment_regions marked bytes) bytes at (flat_map (segment_regions marked bytes) (segments_before bytes at)) _ refl has refl);
          }))
    ]
