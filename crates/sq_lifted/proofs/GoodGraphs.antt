-- The lifted graph of a file fits the file, whatever its blocks are called.
use Rattle.std.proofs.Common.{◌≡◌, ℕ, ◌+◌, ◌*◌, ◌<◌, ◌≤◌, inl, inr, nat_eq, List, [], ◌∷◌, map, length, IsSome, refl, sym, ap, subst, arith}
use Rattle.std.specs.List.{All, AllByRecursion}
use Rattle.std.proofs.lemmas.Bool.{cases_Bool, eq-eqb}
use Rattle.std.proofs.lemmas.List.Elements.{All-from_recursion}
use Rattle.sq_elf.specs.Text.{text_of}
use Rattle.sq_reloc.specs.declared.mark.CodeWord.{CodeWord}
use Rattle.sq_reloc.specs.CodeWords.{AreCodeWords, listed_at}
use Rattle.sq_reloc.specs.Outside.{code_word_at}
use Rattle.sq_graph.specs.declared.parts.CodeRef.{CodeRef}
use Rattle.sq_graph.specs.Graph.{Graph}
use Rattle.sq_graph.specs.Words.{words_of}
use Rattle.sq_graph.proofs.RenamedSound.{canonical_kept, sound_kept}
use Rattle.law_program.specs.Programs.{Text}
use Rattle.law_program.specs.FilePrograms.{text_of as program_text}
use Rattle.law_program.specs.Lifted.{code_ref, lifted}
use Rattle.sq_write.specs.Alike.{FitsAs}
use Rattle.sq_write.proofs.AlikeGraphs.{alike_fit}
use Rattle.sq_lifted.specs.Lifted.{IsGoodGraph}
use Rattle.sq_lifted.specs.LiftedFiles.{IsLiftedFile, FitsFile}
use Rattle.sq_lifted.proofs.Files.{ends_at}
use Rattle.sq_lifted.proofs.FileWorlds.{files_good}

-- CODE WORDS STAND WHERE THE FILE HAS SOME

listed_there : (ws : List CodeWord) → AllByRecursion (λ w. IsSome (listed_at ws w.at)) ws
listed_there [] = tt
listed_there (x ∷ rest) = (rw (eq-eqb x.at x.at refl) refl, widen rest (listed_there rest))
  where
    one : (w : CodeWord) → IsSome (listed_at rest w.at) → IsSome (listed_at (x ∷ rest) w.at)
    one w there = elim (cases_Bool (nat_eq x.at w.at)) [ inl same ↦ rw same refl | inr apart ↦ rw apart there ]

    widen : (ws : List CodeWord) → AllByRecursion (λ w. IsSome (listed_at rest w.at)) ws → AllByRecursion (λ w. IsSome (listed_at (x ∷ rest) w.at)) ws
    widen [] all = tt
    widen (w ∷ ws) all = (one w all.0, widen ws all.1)

there_each : (P : ℕ → Type 0) (ws : List CodeWord) → AllByRecursion (λ w. P w.at) ws → AllByRecursion P (map (λ w. w.at) (map code_ref ws))
there_each P [] all = tt
there_each P (w ∷ ws) all = (all.0, there_each P ws all.1)

refs_there : (P : ℕ → Type 0) (rs : List CodeRef) → AllByRecursion P (map (λ w. w.at) rs) → AllByRecursion (λ w. P w.at) rs
refs_there P [] all = tt
refs_there P (r ∷ rs) all = (all.0, refs_there P rs all.1)

each_listed : (bytes : List ℕ) (words : List CodeWord) (ws : List CodeWord) → AreCodeWords bytes words → AllByRecursion (λ w. IsSome (listed_at words w.at)) ws → AllByRecursion (λ w. IsSome (code_word_at bytes w.at)) ws
each_listed bytes words [] are all = tt
each_listed bytes words (w ∷ ws) are all = (subst IsSome (are.exactly w.at) all.0, each_listed bytes words ws are all.1)

-- ALL OF IT

module _ (bytes : List ℕ) (g : Graph) (fit : AllByRecursion (λ b. b < 256) bytes) (l : IsLiftedFile bytes g) where
  good : IsGoodGraph l.is l.program
  good = files_good bytes l.is l.program fit l.lifted.accepted

  fits : FitsAs (lifted l.is l.program) g
  fits = alike_fit (lifted l.is l.program) g good.graph l.lifted.alike

  few_words : (text_of bytes).lo + 4 * words_of g ≤ (text_of bytes).hi
  few_words =
      let read = l.lifted.accepted.read in
      let count : words_of g ≤ length l.program.text.words = omega (arith, fits.words, good.words) in
      let end : (text_of bytes).lo + 4 * length (program_text bytes).words ≡ (text_of bytes).hi = ends_at bytes l.is l.program read in
      let words : length l.program.text.words ≡ length (program_text bytes).words = ap (λ (t : Text). length t.words) read.program.text in
      omega (arith, count, end, words)

  code_words_there : All (λ word. IsSome (code_word_at bytes word.at)) g.code_words
  code_words_there =
      let are = l.lifted.accepted.read.program.code_words in
      let P : ℕ → Type 0 = λ x. IsSome (code_word_at bytes x) in
      let own = each_listed bytes l.program.code_words l.program.code_words are (listed_there l.program.code_words) in
      let addresses = subst (AllByRecursion P) (sym fits.code_words) (there_each P l.program.code_words own) in
      All-from_recursion (λ word. IsSome (code_word_at bytes word.at)) g.code_words (refs_there P g.code_words addresses)

  fits_file : FitsFile bytes g
  fits_file = record {
    canonical = canonical_kept (lifted l.is l.program) g good.graph l.lifted.alike good.canonical;
    sound = sound_kept (lifted l.is l.program) g good.graph l.lifted.alike good.sound;
    reach = fits.reach good.reach;
    words = few_words;
    code_words = code_words_there;
  }

pub lifted_fits : (bytes : List ℕ) (g : Graph) → AllByRecursion (λ b. b < 256) bytes → IsLiftedFile bytes g → FitsFile bytes g
lifted_fits bytes g fit l = fits_file bytes g fit l
