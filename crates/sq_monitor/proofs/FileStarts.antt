-- The start of a watched run of a file, by how it is laid out.
use Rattle.std.proofs.Common.{◌≡◌, ℕ, List, [], ◌∷◌, ◌++◌, map, refl, sym, ap, ◌∙◌}
use Rattle.std.specs.List.{flat_map}
use Rattle.sq_elf.specs.Headers.{entry_of}
use Rattle.sq_elf.specs.Memory.{segments_of}
use Rattle.sq_memory.specs.Regions.{get}
use Rattle.sq_system.specs.Starts.{Start, stack_pointer}
use Rattle.sq_system.specs.declared.piece.Piece.{Piece}
use Rattle.sq_system.specs.declared.start.Extent.{Extent}
use Rattle.law_follow.specs.Worlds.{StartPiece, piece_of, ram_region, extents, extent_of as start_extent}
use Rattle.law_program.specs.Programs.{Program}
use Rattle.law_program.specs.FilePrograms.{IsProgramOf}
use Rattle.law_program.specs.FileRuns.{world_of, watched_start, watched_layout}
use Rattle.sq_monitor.specs.FileCells.{segment_regions, segment_layout}
use Rattle.sq_monitor.specs.Starts.{extent_of, state_at}
use Rattle.sq_monitor.proofs.FileWorlds.{regions_are, layout_is}

extents_of : (pieces : List StartPiece) → map extent_of (map piece_of pieces) ≡ map start_extent pieces
extents_of [] = refl
extents_of (piece ∷ pieces) = ap (λ (rest : List Extent). start_extent piece ∷ rest) (extents_of pieces)

module _ (bytes : List ℕ) (p : Program) (is : IsProgramOf bytes p) (start : Start) where
  pub layout_same : (pieces : List Piece) → pieces ≡ flat_map (segment_layout bytes) (segments_of bytes) → record { pieces = pieces; base = start.base; size = start.size } ≡ watched_layout bytes p start
  layout_same pieces e =
      ap (λ (pieces : List Piece). record { pieces = pieces; base = start.base; size = start.size }) (e ∙ sym (layout_is bytes p.code_words is.code_words (segments_of bytes)))

  pub start_same : (entry : ℕ) → entry ≡ entry_of bytes →
      state_at entry (stack_pointer start) (get (flat_map (segment_regions bytes bytes) (segments_of bytes) ++ ram_region start ∷ [])) start.input ≡ watched_start (world_of bytes p) p start
  start_same entry e = λ i.
      state_at ((e ∙ sym is.entry) i) (stack_pointer start) (get (sym (regions_are bytes p.code_words is.code_words (segments_of bytes)) i ++ ram_region start ∷ [])) start.input

  pub extents_same : (pieces : List Piece) → pieces ≡ flat_map (segment_layout bytes) (segments_of bytes) → map extent_of pieces ≡ extents (world_of bytes p)
  extents_same pieces e =
      ap (map extent_of) (e ∙ sym (layout_is bytes p.code_words is.code_words (segments_of bytes))) ∙ extents_of (world_of bytes p).pieces
