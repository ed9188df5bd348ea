-- A graph whose blocks are named by their positions.
use Rattle.std.proofs.Common.{arith}
use Rattle.sq_graph.specs.Graph.{Graph}
use Rattle.sq_graph.specs.Leaders.{IsCanonical}
use Rattle.sq_graph.specs.Parts.{names_of}
use Rattle.sq_graph.specs.Rules.{IsGraph}
use Rattle.sq_graph.specs.Slotted.{position_in, slotted}
use Rattle.sq_graph.proofs.RenamedReach.{alike_words, alike_in_reach}
use Rattle.sq_graph.proofs.RenamedSound.{canonical_kept, sound_kept}
use Rattle.sq_graph.proofs.Slotting.{positions_apart, slotted_alike}
use Rattle.law_patch.proofs.Renaming.{rename_follows}
use Rattle.sq_pass.specs.Rewrites.{IsLighter}

-- it is what the graph was
pub slotted_lighter : (g : Graph) → IsGraph g → IsCanonical g → IsLighter 0 g (slotted g)
slotted_lighter g rules canonical =
    let alike = slotted_alike g in
    record {
      follows = rename_follows g (position_in (names_of g)) rules (positions_apart g);
      sound = λ s. sound_kept g (slotted g) rules alike s;
      reach = λ r. alike_in_reach g (slotted g) rules alike r;
      canonical = canonical_kept g (slotted g) rules alike canonical;
      words = omega (arith, alike_words g (slotted g) alike);
    }
