-- The file of a graph that is whole, canonical and sound is read back as this graph.
use Rattle.std.proofs.Common.{◌≡◌, ℕ, Bool, List, None, sym, ap, subst}
use Rattle.sq_elf.specs.Text.{text_of}
use Rattle.sq_graph.specs.Alike.{AreAlike}
use Rattle.sq_graph.specs.Graph.{Graph}
use Rattle.sq_graph.specs.Leaders.{IsCanonical}
use Rattle.sq_graph.specs.Soundness.{IsSound}
use Rattle.law_program.specs.FilePrograms.{early_refusal, IsReadAs, IsLiftedFrom}
use Rattle.law_program.specs.Lifted.{lifted, lifted_with}
use Rattle.law_program.specs.Programs.{Program, is_word, IsWord}
use Rattle.law_program.specs.Reached.{IsReached, entry, code_word, walk, Decides}
use Rattle.sq_write.specs.Written.{written}
use Rattle.law_written.specs.Written.{IsWritable}
use Rattle.law_written.specs.Programs.{graph_text, graph_program}
use Rattle.law_written.specs.Whole.{IsWhole}
use Rattle.law_written.specs.Cutting.{lifted_back}
use Rattle.law_written.proofs.Programs.{written_files_are_read}
use Rattle.law_written.proofs.NoteFaults.{written_files_pass_early}
use Rattle.law_written.proofs.WordsReached.{written_words_are_reached, written_notes_are_used}
use Rattle.law_written.proofs.AlikeBack.{lifted_back_is_alike}
use Rattle.sq_lifted.proofs.FileWorlds.{early_readable}
use Rattle.sq_graph.proofs.RenamedSound.{sound_kept}
use Rattle.sq_lifted.proofs.SoundNotes.{sound_notes_die}
use Rattle.sq_top.specs.Packing.{IsReachedFile}

-- what is reached is a word
reached_word : (p : Program) (x : ℕ) → IsReached p x → IsWord p.text x
reached_word p x (entry word) = word
reached_word p x (code_word to word) = word
reached_word p x (walk before leads word) = word

module _ (bytes : List ℕ) (g : Graph) (can : IsWritable bytes g) (canonical : IsCanonical g) (sound : IsSound g) (whole : IsWhole g) where
  abbrev lo : ℕ
  lo = (text_of bytes).lo

  abbrev p : Program
  p = graph_program g lo

  -- just the words of text are reached
  abbrev is : ℕ → Bool
  is x = is_word (graph_text g lo) x

  each_reached : (x : ℕ) → IsWord (graph_text g lo) x → IsReached p x
  each_reached = written_words_are_reached bytes g can whole

  decides : Decides p is
  decides = record { only = each_reached; all = reached_word p }

  read : IsReadAs (written bytes g) is p
  read = written_files_are_read bytes g can is decides

  early : early_refusal (written bytes g) is p ≡ None
  early = written_files_pass_early bytes g can sound.bodies is

  all_used : lifted_back is g lo ≡ lifted is p
  all_used = ap (λ ns. lifted_with is ns p) (sym (written_notes_are_used bytes g can whole is decides))

  there : AreAlike (lifted is p) g
  there = subst (λ h. AreAlike h g) all_used (lifted_back_is_alike bytes g can canonical whole is (λ x word. word)).there

  back : AreAlike g (lifted is p)
  back = subst (AreAlike g) all_used (lifted_back_is_alike bytes g can canonical whole is (λ x word. word)).back

  from : IsLiftedFrom (written bytes g) is p g
  from = record {
    accepted = record {
      read = read;
      early = early;
      dies = sound_notes_die is p (early_readable (written bytes g) is p early) (sound_kept g (lifted is p) can.rules back sound);
    };
    alike = there;
  }

  pub reads_back : IsReachedFile (written bytes g) g
  reads_back = record { lifted = record { is = is; program = p; lifted = from }; reached = each_reached }
