-- What the file of a graph is of the file from which it was lifted, where the graph is lighter than the lifted one.
use Rattle.std.proofs.Common.{◌≡◌, ℕ, ◌*◌, ◌-◌, ◌<◌, ◌≤◌, None, IsSome, List, [], ◌∷◌, map, refl, sym, ap, ◌∙◌, subst, arith}
use Rattle.std.specs.List.{AllByRecursion}
use Rattle.std.proofs.lemmas.List.Elements.{All-from_recursion, recursion_from_All}
use Rattle.sq_elf.specs.declared.text.Text.{Text}
use Rattle.sq_elf.specs.Refusing.{text_size, file_refusal_of}
use Rattle.sq_elf.specs.Sizes.{loaded_of}
use Rattle.sq_reloc.specs.declared.mark.CodeWord.{CodeWord}
use Rattle.sq_reloc.specs.Outside.{code_word_at}
use Rattle.sq_graph.specs.declared.parts.CodeRef.{CodeRef}
use Rattle.sq_graph.specs.Graph.{Graph}
use Rattle.sq_graph.specs.Rules.{IsGraph}
use Rattle.sq_graph.specs.Words.{words_of, most_words}
use Rattle.law_follow.specs.Follows.{word_address}
use Rattle.law_program.specs.FilePrograms.{IsAcceptedFile}
use Rattle.law_program.specs.Lifted.{code_ref, lifted}
use Rattle.sq_write.specs.Written.{written}
use Rattle.sq_write.proofs.AlikeGraphs.{alike_fit}
use Rattle.sq_write.proofs.SegmentFacts.{few_text}
use Rattle.law_written.specs.Written.{IsWritable, HasSizes}
use Rattle.law_written.proofs.Writing.{written_sizes}
use Rattle.law_written.specs.Files.{code_word_address, IsWritableInto}
use Rattle.law_written.proofs.FileStarts.{written_files_show_graphs}
use Rattle.sq_lifted.specs.LiftedFiles.{IsLiftedFile, FitsFile}
use Rattle.sq_lifted.specs.Same.{Same}
use Rattle.sq_lifted.proofs.FileWorlds.{files_good}
use Rattle.sq_lifted.proofs.SameFiles.{same_through}
use Rattle.sq_pass.specs.Rewrites.{IsLighter}
use Rattle.sq_top.specs.Packing.{CanBeWritten}

refs_at : (ws : List CodeWord) → map word_address (map code_ref ws) ≡ map code_word_address ws
refs_at [] = refl
refs_at (w ∷ ws) = ap (λ xs. w.at ∷ xs) (refs_at ws)

-- what holds at each of equal addresses
at_each : (P : ℕ → Type 0) (ws vs : List CodeRef) → map word_address ws ≡ map word_address vs → AllByRecursion (λ w. P w.at) vs → AllByRecursion (λ w. P w.at) ws
at_each P [] vs e all = tt
at_each P (w ∷ ws) [] e all = absurd (cc)
at_each P (w ∷ ws) (v ∷ vs) e all =
    let here : w.at ≡ v.at = cc in
    let rest : map word_address ws ≡ map word_address vs = cc in
    (subst P (sym here) all.0, at_each P ws vs rest all.1)

-- a graph that is lighter can be written where the first one can
module _ (bytes : List ℕ) (first g : Graph) (saved : ℕ) (f : FitsFile bytes first) (s : IsLighter saved first g) where
  pub lighter_fits : CanBeWritten bytes g
  lighter_fits = record {
    reach = s.reach f.reach;
    words = omega (arith, f.words, s.words);
    code_words =
        All-from_recursion (λ word. IsSome (code_word_at bytes word.at)) g.code_words
        (at_each (λ x. IsSome (code_word_at bytes x)) g.code_words first.code_words s.follows.addresses
        (recursion_from_All (λ word. IsSome (code_word_at bytes word.at)) first.code_words f.code_words));
  }

pub small_text : (bytes : List ℕ) (g : Graph) → file_refusal_of bytes ≡ None → FitsFile bytes g → words_of g ≤ most_words
small_text bytes g accepted f = omega (arith, f.words, few_text bytes accepted)

pub lifted_is_accepted : (bytes : List ℕ) (g : Graph) → IsLiftedFile bytes g → IsAcceptedFile bytes
lifted_is_accepted bytes g l = record { reached = l.is; program = l.program; accepted = l.lifted.accepted }

module _ (bytes : List ℕ) (first g : Graph) (saved : ℕ) (fit : AllByRecursion (λ b. b < 256) bytes) (l : IsLiftedFile bytes first) (f : FitsFile bytes first) (lighter : IsLighter saved first g) (rules : IsGraph g) where
  can : CanBeWritten bytes g
  can = lighter_fits bytes first g saved f lighter

  pub lighter_writable : IsWritable bytes g
  lighter_writable = record {
    bytes = fit;
    accepted = l.lifted.accepted.read.file;
    relocs = l.lifted.accepted.read.relocs;
    rules = rules;
    code_words = can.code_words;
    reach = can.reach;
    words = can.words;
  }

  into : IsWritableInto bytes l.program g
  into = record {
    rules = rules;
    reach = can.reach;
    words = can.words;
    code_words = lighter.follows.addresses ∙ ((alike_fit (lifted l.is l.program) first (files_good bytes l.is l.program fit l.lifted.accepted).graph l.lifted.alike).code_words ∙ refs_at l.program.code_words);
  }

  pub lighter_is_same : Same bytes (written bytes g)
  lighter_is_same =
      same_through bytes (written bytes g) l.is l.program first g fit l.lifted lighter.follows
      (written_files_show_graphs bytes l.is l.program g fit l.lifted.accepted.read into)

  pub lighter_sizes : HasSizes bytes g (written bytes g)
  lighter_sizes = written_sizes bytes g lighter_writable

  pub text_written : text_size (written bytes g) ≡ 4 * words_of g
  text_written = ap (λ (t : Text). t.hi - t.lo) lighter_sizes.text ∙ omega arith

  pub loads_less : loaded_of (written bytes g) ≤ loaded_of bytes
  loads_less = omega (arith, lighter_sizes.size, can.words)
