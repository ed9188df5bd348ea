-- The file of a graph without candidates that is lighter than the lifted one is a settled output.
use Rattle.std.proofs.Common.{◌≡◌, ℕ, ◌<◌, List, refl, sym, ◌∙◌, subst}
use Rattle.std.specs.List.{AllByRecursion}
use Rattle.sq_graph.specs.Graph.{Graph}
use Rattle.sq_graph.specs.Rules.{IsGraph}
use Rattle.sq_graph.specs.Slotted.{IsSlotted}
use Rattle.sq_write.specs.Written.{written}
use Rattle.law_written.specs.Written.{IsWritable}
use Rattle.law_written.proofs.Bytes.{written_is_bytes}
use Rattle.sq_lifted.specs.LiftedFiles.{IsLiftedFile, FitsFile}
use Rattle.sq_lifted.proofs.OneReading.{lifted_one}
use Rattle.sq_pass.specs.Rewrites.{IsLighter}
use Rattle.sq_drive.specs.Rows.{IsLeftoverFree}
use Rattle.sq_drive.proofs.Moves.{leftover_free_is_still}
use Rattle.sq_top.specs.Packing.{IsReachedFile, SettledOutput}
use Rattle.sq_top.specs.Settled.{IsSettledFile}
use Rattle.sq_top.proofs.ReadBack.{reads_back}
use Rattle.sq_top.proofs.SettledFiles.{written_is_settled}
use Rattle.sq_top.proofs.WholeGraphs.{whole_without_candidates}
use Rattle.sq_top.proofs.LighterFile.{lifted_is_accepted, lighter_writable, lighter_is_same, loads_less}

module _ (bytes : List ℕ) (first g : Graph) (saved : ℕ) (fit : AllByRecursion (λ b. b < 256) bytes) (l : IsLiftedFile bytes first) (f : FitsFile bytes first) (lighter : IsLighter saved first g) (rules : IsGraph g) (none : IsLeftoverFree g) (slotted : IsSlotted g) where
  writable : IsWritable bytes g
  writable = lighter_writable bytes first g saved fit l f lighter rules

  pub back : IsReachedFile (written bytes g) g
  back = reads_back bytes g writable lighter.canonical (lighter.sound f.sound) (whole_without_candidates g rules lighter.canonical none)

  -- there is one reading that is named by positions
  pub one_reading : (h : Graph) → IsLiftedFile (written bytes g) h → IsSlotted h → h ≡ g
  one_reading h lifted named = sym named ∙ lifted_one (written bytes g) h g (written_is_bytes bytes g writable) lifted back.lifted ∙ slotted

  pub left : (h : Graph) → IsLiftedFile (written bytes g) h → IsSlotted h → IsLeftoverFree h
  left h lifted named = subst IsLeftoverFree (sym (one_reading h lifted named)) none

  pub settled : IsSettledFile (written bytes g)
  settled = written_is_settled bytes g writable back.lifted slotted none

  abbrev pub settled_output : SettledOutput bytes (written bytes g)
  settled_output = record {
    accepted = lifted_is_accepted bytes first l;
    same = lighter_is_same bytes first g saved fit l f lighter rules;
    loads_no_more = loads_less bytes first g saved fit l f lighter rules;
    graph = g;
    read_back = back;
    slotted = slotted;
    left = left;
    still = λ h lifted named. leftover_free_is_still h (left h lifted named);
    output_is = refl;
    settled = settled;
  }
