-- What the file of a lifted graph is of the file that the graph was lifted from.
use Rattle.std.proofs.Common.{◌≡◌, ℕ, ◌+◌, ◌*◌, ◌<◌, ◌≤◌, None, List, length, sym, ap, ◌∙◌, subst, arith}
use Rattle.std.specs.List.{AllByRecursion}
use Rattle.sq_num.specs.declared.packed.Packed.{Packed}
use Rattle.sq_num.specs.declared.packed.Savings.{Savings}
use Rattle.sq_num.specs.Saved.{words_saved}
use Rattle.sq_elf.specs.Refusing.{text_size, file_refusal_of, largest_text}
use Rattle.sq_elf.specs.Sizes.{loaded_of}
use Rattle.sq_elf.specs.Text.{text_of}
use Rattle.sq_graph.specs.Graph.{Graph}
use Rattle.sq_graph.specs.Rules.{IsGraph}
use Rattle.sq_graph.specs.Slotted.{IsSlotted}
use Rattle.sq_graph.specs.Words.{words_of}
use Rattle.sq_write.specs.Written.{written}
use Rattle.sq_write.proofs.SegmentFacts.{few_text}
use Rattle.law_written.specs.Written.{HasSizes}
use Rattle.sq_lifted.specs.LiftedFiles.{IsLiftedFile, FitsFile}
use Rattle.sq_num.specs.declared.packed.TheConstants.Savings.{NONE}
use Rattle.sq_pass.specs.Rewrites.{IsLighter, IsRewritten}
use Rattle.sq_drive.specs.Rows.{IsCandidate, described, IsLeftoverFree}
use Rattle.sq_top.specs.Packing.{CanBeWritten, GoodOutput, Packs}
use Rattle.sq_top.proofs.SettledFiles.{settled_stays}
use Rattle.sq_top.proofs.SettledOutputs.{settled_output}
use Rattle.sq_top.proofs.LighterFile.{lighter_fits, lighter_sizes, text_written}

-- a graph that was made by rewriting can be written where the first one can
pub rewritten_fits : (bytes : List ℕ) (first g : Graph) (savings : Savings) → FitsFile bytes first → IsRewritten IsCandidate described NONE savings first g → CanBeWritten bytes g
rewritten_fits bytes first g savings f r = lighter_fits bytes first g r.saved f r.lighter

module _ (bytes : List ℕ) (first g : Graph) (savings : Savings) (fit : AllByRecursion (λ b. b < 256) bytes) (l : IsLiftedFile bytes first) (f : FitsFile bytes first) (r : IsRewritten IsCandidate described NONE savings first g) (rules : IsGraph g) where
  lighter : IsLighter r.saved first g
  lighter = r.lighter

  sizes : HasSizes bytes g (written bytes g)
  sizes = lighter_sizes bytes first g r.saved fit l f lighter rules

  pub enough_loaded : text_size bytes ≤ loaded_of bytes + 4 * words_of g
  enough_loaded = omega (arith, sizes.size)

  module _ (none : IsLeftoverFree g) (slotted : IsSlotted g) (slotted_first : IsSlotted first) where
    abbrev good : GoodOutput bytes (written bytes g)
    good = record {
      made = settled_output bytes first g r.saved fit l f lighter rules none slotted;
      first = first;
      lifted = l;
      savings = savings;
      rewritten = r;
      again = settled_stays bytes first g NONE savings fit l slotted_first r;
    }

    pub packs : (packed : Packed) → packed.bytes ≡ written bytes g → packed.text_before ≡ text_size bytes → packed.text_after ≡ 4 * words_of g → packed.loaded_before ≡ loaded_of bytes → packed.loaded_after + text_size bytes ≡ loaded_of bytes + 4 * words_of g → packed.procedures ≡ length g.procedures → 4 * (packed.unreached + words_of first) ≡ text_size bytes → packed.savings ≡ savings → packed.text_before ≡ packed.text_after + 4 * (packed.unreached + words_saved packed.savings) → Packs bytes packed
    packs packed output before after loaded left procedures unreached saved balance =
        subst (Packs bytes) (ap (λ file. record packed { bytes = file }) (sym output)) (record {
          good = good;
          text_before = before;
          text_after = after ∙ sym (text_written bytes first g r.saved fit l f lighter rules);
          loaded_before = loaded;
          loaded_after = omega (arith, left, sizes.size);
          procedures = procedures;
          unreached = unreached;
          savings = saved;
          balance = balance;
        })

-- what is asked of the sizes before a packing is made
pub few_bytes : (bytes : List ℕ) → file_refusal_of bytes ≡ None → (text_of bytes).hi ≤ (text_of bytes).lo + largest_text
few_bytes bytes accepted = few_text bytes accepted
