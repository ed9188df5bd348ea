-- What folding is of a graph, and the file of a folded graph of the file that the first graph was lifted from.
use Rattle.std.proofs.Common.{◌≡◌, ℕ, ◌+◌, ◌-◌, ◌*◌, ◌<◌, ◌≤◌, List, sym, ap, ◌∙◌, subst, arith}
use Rattle.std.specs.List.{AllByRecursion}
use Rattle.sq_num.specs.declared.packed.Savings.{Savings}
use Rattle.sq_num.specs.declared.packed.TheConstants.Savings.{NONE}
use Rattle.sq_elf.specs.Refusing.{text_size}
use Rattle.sq_elf.specs.Sizes.{loaded_of}
use Rattle.sq_graph.specs.Graph.{Graph}
use Rattle.sq_graph.specs.Leaders.{IsCanonical}
use Rattle.sq_graph.specs.Places.{IsInReach}
use Rattle.sq_graph.specs.Rules.{IsGraph}
use Rattle.sq_graph.specs.Slotted.{IsSlotted, slotted}
use Rattle.sq_graph.specs.Soundness.{IsSound}
use Rattle.sq_graph.specs.Words.{words_of}
use Rattle.sq_graph.proofs.Slotting.{slotted_again}
use Rattle.law_follow.specs.Follows.{Follows}
use Rattle.sq_write.specs.Written.{written}
use Rattle.law_written.specs.Written.{HasSizes}
use Rattle.sq_lifted.specs.LiftedFiles.{IsLiftedFile, FitsFile}
use Rattle.sq_pass.specs.Rewrites.{IsLighter, IsRewritten}
use Rattle.sq_pass.proofs.Rewriting.{lighter_through}
use Rattle.sq_drive.specs.Replaying.{IsLess}
use Rattle.sq_drive.specs.Rows.{IsCandidate, described, IsLeftoverFree}
use Rattle.sq_drive.proofs.Slots.{slotted_lighter}
use Rattle.sq_quotient.specs.Folded.{FoldSavesNothing}
use Rattle.sq_top.specs.declared.folding.FoldedFile.{FoldedFile}
use Rattle.sq_top.specs.Packing.{CanBeWritten}
use Rattle.sq_top.specs.Folding.{GoodFold, Folds}
use Rattle.sq_top.proofs.LighterFile.{lighter_fits, lighter_sizes, text_written}
use Rattle.sq_top.proofs.SettledOutputs.{one_reading, settled_output}

-- a graph that was settled is less
pub settled_less : (savings : Savings) (old new : Graph) → IsRewritten IsCandidate described NONE savings old new → IsSlotted new → IsLess old new
settled_less savings old new r named = record { saved = r.saved; lighter = r.lighter; slotted = λ before. named }

-- as is one that was folded with fewer words, and whose blocks were named by their positions then
module _ (old mid : Graph) (follows : Follows old mid) (sound : IsSound old → IsSound mid) (reach : IsInReach old → IsInReach mid) (canonical : IsCanonical mid) (fewer : words_of mid < words_of old) (rules : IsGraph mid) where
  folded_lighter : IsLighter (words_of old - words_of mid) old mid
  folded_lighter = record { follows = follows; sound = sound; reach = reach; canonical = canonical; words = omega (arith, fewer) }

  pub folded_less : IsLess old (slotted mid)
  folded_less = record {
    saved = words_of old - words_of mid + 0;
    lighter = lighter_through (words_of old - words_of mid) 0 old mid (slotted mid) folded_lighter (slotted_lighter mid rules canonical);
    slotted = λ before. slotted_again mid rules;
  }

  pub folded_fewer : words_of (slotted mid) < words_of old
  folded_fewer = let same = (slotted_lighter mid rules canonical).words in omega (arith, fewer, same)

-- a graph that is less can be written in the place of the text
pub less_fits : (bytes : List ℕ) (first g : Graph) → FitsFile bytes first → IsLess first g → CanBeWritten bytes g
less_fits bytes first g f less = lighter_fits bytes first g less.saved f less.lighter

module _ (bytes : List ℕ) (first g : Graph) (fit : AllByRecursion (λ b. b < 256) bytes) (l : IsLiftedFile bytes first) (f : FitsFile bytes first) (less : IsLess first g) (rules : IsGraph g) where
  sizes : HasSizes bytes g (written bytes g)
  sizes = lighter_sizes bytes first g less.saved fit l f less.lighter rules

  pub less_loaded : text_size bytes ≤ loaded_of bytes + 4 * words_of g
  less_loaded = omega (arith, sizes.size)

  module _ (none : IsLeftoverFree g) (named : IsSlotted g) (saves : FoldSavesNothing g) where
    good : GoodFold bytes (written bytes g)
    good = record {
      made = settled_output bytes first g less.saved fit l f less.lighter rules none named;
      folded = λ h lifted slot. subst FoldSavesNothing (sym (one_reading bytes first g less.saved fit l f less.lighter rules none named h lifted slot)) saves;
    }

    pub folds : (folded : FoldedFile) → folded.bytes.items ≡ written bytes g → folded.text_before ≡ text_size bytes → folded.text_after ≡ 4 * words_of g → folded.loaded_before ≡ loaded_of bytes → folded.loaded_after + text_size bytes ≡ loaded_of bytes + 4 * words_of g → Folds bytes folded
    folds folded output before after loaded left = record {
      good = subst (GoodFold bytes) (sym output) good;
      text_before = before;
      text_after = after ∙ sym (text_written bytes first g less.saved fit l f less.lighter rules) ∙ ap text_size (sym output);
      loaded_before = loaded;
      loaded_after = omega (arith, left, sizes.size) ∙ ap loaded_of (sym output);
    }
