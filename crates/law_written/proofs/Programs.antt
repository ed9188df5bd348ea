-- The program of the file of a graph.
use Rattle.std.proofs.Common.{◌≡◌, ℕ, suc, ◌+◌, ◌-◌, ◌*◌, ◌/◌, ◌<◌, true, false, nat_eq, List, [], ◌∷◌, length, map, Some, option_map, slice_get, ◌⊎◌, inl, inr, refl, sym, ap, ◌∙◌, arith}
use Rattle.std.specs.List.{AllByRecursion, find}
use Rattle.std.specs.List.Sorted.{IsStrictlyIncreasing}
use Rattle.std.specs.Option.{unwrap_or}
use Rattle.std.proofs.lemmas.Bool.{cases_Bool}
use Rattle.sq_elf.specs.declared.text.Text.{Text as TextRange}
use Rattle.sq_elf.specs.Reading.{word_of}
use Rattle.sq_elf.specs.Text.{text_of}
use Rattle.sq_reloc.specs.Marks.{mark_of}
use Rattle.sq_reloc.specs.declared.mark.CodeWord.{CodeWord}
use Rattle.sq_reloc.specs.CodeWords.{IsAscending, listed_at, AreCodeWords}
use Rattle.sq_graph.specs.declared.parts.CodeRef.{CodeRef}
use Rattle.sq_graph.specs.Graph.{Graph}
use Rattle.sq_graph.specs.Words.{words_of}
use Rattle.law_program.specs.Programs.{Word, Text}
use Rattle.law_program.specs.FilePrograms.{file_word, words_from, text_of as program_text, IsProgramOf}
use Rattle.sq_write.specs.Points.{Point, new_address, point_word, text_points}
use Rattle.sq_write.specs.Written.{written}
use Rattle.sq_write.proofs.Lengths.{length_text}
use Rattle.law_written.specs.Written.{IsWritable}
use Rattle.law_written.proofs.Writing.{written_sizes, written_is_accepted}
use Rattle.law_written.specs.Programs.{word_at_point, graph_text, new_code_word, graph_program, WrittenProgramsAreRead, WrittenFilesAreRead}
use Rattle.law_written.specs.Words.{point_mark}
use Rattle.law_written.proofs.CodeWords.{text_is, code_word_here}
use Rattle.law_written.proofs.Notes.{notes_here}
use Rattle.law_written.proofs.Refusing.{relocations_accepted}
use Rattle.law_written.proofs.Words.{word_here, mark_is}
use Rattle.law_written.proofs.WrittenRelocations.{increasing_tail, all_above, first_above}

-- words that are read one by one
words_read : (file : List ℕ) (at : ℕ) (ps : List Point) → ((k : ℕ) (p : Point) → slice_get ps k ≡ Some p → file_word file (at + 4 * k) ≡ word_at_point p) → words_from file at (length ps) ≡ map word_at_point ps
words_read file at [] each = refl
words_read file at (p ∷ ps) each =
    let none : at ≡ at + 4 * 0 = omega arith in
    let here : file_word file at ≡ word_at_point p = ap (file_word file) none ∙ each 0 p refl in
    let more : words_from file (at + 4) (length ps) ≡ map word_at_point ps = words_read file (at + 4) ps (λ k q is. let next : at + 4 + 4 * k ≡ at + 4 * suc k = omega arith in ap (file_word file) next ∙ each (suc k) q is) in
    ap (λ w. w ∷ words_from file (at + 4) (length ps)) here ∙ ap (λ ws. word_at_point p ∷ ws) more

made_text : ℕ → List Word → Text
made_text low words = record { lo = low; words = words }

made_file_word : (file : List ℕ) (at number : ℕ) (p : Point) → word_of file at ≡ Some number → mark_of file at ≡ point_mark p → file_word file at ≡ record { number = number; mark = point_mark p }
made_file_word file at number p word mark = rw (word, mark) refl

module _ (bytes : List ℕ) (g : Graph) (can : IsWritable bytes g) where
  each_word : (k : ℕ) (p : Point) → slice_get (text_points g (text_of bytes).lo) k ≡ Some p → file_word (written bytes g) ((text_of bytes).lo + 4 * k) ≡ word_at_point p
  each_word k p is = made_file_word (written bytes g) ((text_of bytes).lo + 4 * k) (point_word p) p (word_here bytes g can k p is) (mark_is bytes g can k p is)

  text_words : words_from (written bytes g) (text_of bytes).lo (length (text_points g (text_of bytes).lo)) ≡ map word_at_point (text_points g (text_of bytes).lo)
  text_words = words_read (written bytes g) (text_of bytes).lo (text_points g (text_of bytes).lo) each_word

  text_here : graph_text g (text_of bytes).lo ≡ program_text (written bytes g)
  unfolding made_text
  text_here =
      let low : (text_of (written bytes g)).lo ≡ (text_of bytes).lo = ap (λ (t : TextRange). t.lo) (text_is bytes g can) in
      let high : (text_of (written bytes g)).hi ≡ (text_of bytes).lo + 4 * words_of g = ap (λ (t : TextRange). t.hi) (text_is bytes g can) in
      let count : ((text_of (written bytes g)).hi - (text_of (written bytes g)).lo) / 4 ≡ length (text_points g (text_of bytes).lo) = omega (arith, low, high, length_text g (text_of bytes).lo) in
      sym (ap (λ n. made_text n (words_from (written bytes g) n (((text_of (written bytes g)).hi - (text_of (written bytes g)).lo) / 4))) low
      ∙ ap (λ n. made_text (text_of bytes).lo (words_from (written bytes g) (text_of bytes).lo n)) count
      ∙ ap (made_text (text_of bytes).lo) text_words)

-- Code words

listed : (g : Graph) (lo address : ℕ) (words : List CodeRef) → listed_at (map (new_code_word g lo) words) address ≡ option_map (λ word. new_address g lo word.block) (find (λ word. nat_eq word.at address) words)
listed g lo address [] = refl
listed g lo address (word ∷ words) = by_test (cases_Bool (nat_eq word.at address)) (listed g lo address words)
  where
    by_test : (nat_eq word.at address ≡ true) ⊎ (nat_eq word.at address ≡ false) → listed_at (map (new_code_word g lo) words) address ≡ option_map (λ w. new_address g lo w.block) (find (λ w. nat_eq w.at address) words) → listed_at (map (new_code_word g lo) (word ∷ words)) address ≡ option_map (λ w. new_address g lo w.block) (find (λ w. nat_eq w.at address) (word ∷ words))
    by_test (inl e) more = rw e refl
    by_test (inr e) more = rw e more

above_new : (g : Graph) (lo low : ℕ) (words : List CodeRef) → AllByRecursion (λ w. low < w.at) words → AllByRecursion (λ (w : CodeWord). low < w.at) (map (new_code_word g lo) words)
above_new g lo low [] all = tt
above_new g lo low (word ∷ words) all = (all.0, above_new g lo low words all.1)

ascend : (g : Graph) (lo : ℕ) (words : List CodeRef) → IsStrictlyIncreasing (map (λ w. w.at) words) → IsAscending (map (new_code_word g lo) words)
ascend g lo [] up = tt
ascend g lo (word ∷ words) up =
    let tail = increasing_tail word.at (map (λ w. w.at) words) up in
    (above_new g lo word.at words (all_above word.at words (first_above word words up) tail), ascend g lo words tail)

module _ (bytes : List ℕ) (g : Graph) (can : IsWritable bytes g) where
  code_words_here : AreCodeWords (written bytes g) (map (new_code_word g (text_of bytes).lo) g.code_words)
  code_words_here = record {
    ascending = ascend g (text_of bytes).lo g.code_words can.rules.code_words;
    exactly = λ address. listed g (text_of bytes).lo address g.code_words ∙ sym (code_word_here bytes g can address);
  }

  pub program_here : IsProgramOf (written bytes g) (graph_program g (text_of bytes).lo)
  program_here =
      let sizes = written_sizes bytes g can in
      record {
        text = text_here bytes g can;
        entry = sym sizes.entry;
        code_words = code_words_here;
        notes = sym (ap (λ found. unwrap_or found []) (notes_here bytes g can (program_text (written bytes g))));
      }

pub written_programs_are_read : WrittenProgramsAreRead
written_programs_are_read = λ bytes g can. program_here bytes g can

pub written_files_are_read : WrittenFilesAreRead
written_files_are_read = λ bytes g can is decides.
    record {
      file = written_is_accepted bytes g can;
      relocs = relocations_accepted bytes g can;
      program = program_here bytes g can;
      reached = decides;
    }
