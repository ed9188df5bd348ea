-- The starts of a file are those of its program.
use Rattle.std.proofs.Common.{◌≡◌, ℕ, nat_eq, ◌&&◌, List, [], sym, ap, ◌∙◌}
use Rattle.std.specs.Map.{lookup}
use Rattle.std.specs.Option.{unwrap_or}
use Rattle.sq_elf.specs.Headers.{entry_of}
use Rattle.sq_reloc.specs.declared.mark.CodeWord.{CodeWord}
use Rattle.sq_reloc.specs.CodeWords.{AreCodeWords}
use Rattle.sq_graph.specs.Parts.{names_of}
use Rattle.sq_graph.specs.Slotted.{number_in}
use Rattle.law_program.specs.Programs.{Text, Note, Program, is_word}
use Rattle.law_program.specs.Notes.{used_notes, is_in_procedures}
use Rattle.law_program.specs.Lifted.{is_leader, lifted, lifted_with}
use Rattle.law_program.specs.FilePrograms.{IsProgramOf}
use Rattle.sq_lift.specs.Flags.{Flags, is_flagged}
use Rattle.sq_lift.specs.Cuts.{kept_by, starts}
use Rattle.sq_lift.specs.Refused.{IsReadNoted}
use Rattle.sq_lift.specs.Starts.{AreStarts}
use Rattle.sq_lift.proofs.Assembling.{names_cut}
use Rattle.sq_lift.proofs.CodeWordLists.{one_list}

module _ (bytes : List ℕ) (t : Text) (f : Flags) (notes : List Note) (words : List CodeWord) (entry : ℕ) (read : IsReadNoted bytes t f notes) (listed : AreCodeWords bytes words) (begun : entry ≡ entry_of bytes) where
  abbrev found : Program
  found = record { text = t; entry = entry; code_words = words; notes = notes }

  found_is : (p : Program) → IsProgramOf bytes p → p ≡ found
  found_is p is =
      let text = is.text ∙ sym read.text in
      let start = is.entry ∙ sym begun in
      let codes = one_list bytes p.code_words words is.code_words listed in
      let noted = is.notes ∙ ap (λ o. unwrap_or o []) read.notes in
      λ i. record { text = text i; entry = start i; code_words = codes i; notes = noted i }

  pub starts_are : (procedures : List Note) (inside leaders : Flags) (begins : List ℕ) (entries : List (ℕ × ℕ)) → procedures ≡ used_notes (is_flagged f) notes → ((x : ℕ) → is_flagged inside x ≡ (is_word t x && is_in_procedures procedures x)) → ((x : ℕ) → is_flagged leaders x ≡ (is_word t x && is_leader (is_flagged f) procedures (record { text = t; entry = entry; code_words = words; notes = [] }) x)) → begins ≡ starts (kept_by f inside) (is_flagged leaders) t.lo t.words → ((x : ℕ) → lookup (nat_eq x) entries ≡ number_in begins 0 x) → (p : Program) → IsProgramOf bytes p → AreStarts p (record { reached = f; numbers = entries })
  starts_are procedures inside leaders begins entries used inside_is leaders_are are slots p is =
      let same : p ≡ found = found_is p is in
      let names : begins ≡ names_of (lifted (is_flagged f) p) =
      are
      ∙ names_cut (is_flagged f) procedures found (is_flagged inside) (is_flagged leaders) inside_is leaders_are
      ∙ ap (λ (ns : List Note). names_of (lifted_with (is_flagged f) ns found)) used
      ∙ ap (λ (q : Program). names_of (lifted (is_flagged f) q)) (sym same)
      in
      record { reached = read.reached p is; slot = λ x. slots x ∙ ap (λ names. number_in names 0 x) names }
