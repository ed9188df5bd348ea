-- Functions at the entry of a file, and those to which its code words point, in the file that is written of the last graph.
use Rattle.std.proofs.Common.{◌≡◌, ℕ, ◌<◌, true, nat_eq, List, [], ◌∷◌, map, Option, Some, None, refl, sym, ap, ◌∙◌, subst}
use Rattle.std.specs.List.{AllByRecursion, AllZip, Contains, find}
use Rattle.std.specs.Option.{option_map}
use Rattle.std.proofs.lemmas.Bool.{eqb-true}
use Rattle.std.proofs.lemmas.List.Elements.{All-contains, All-from_recursion}
use Rattle.sq_elf.specs.Headers.{entry_of}
use Rattle.sq_elf.specs.Text.{text_of}
use Rattle.sq_graph.specs.declared.parts.CodeRef.{CodeRef}
use Rattle.sq_graph.specs.Blocks.{HasBlock}
use Rattle.sq_graph.specs.Graph.{Graph}
use Rattle.sq_graph.specs.Parts.{names_of}
use Rattle.sq_graph.specs.Renames.{retargeted_word}
use Rattle.sq_graph.specs.Rules.{IsGraph}
use Rattle.sq_graph.specs.Slotted.{number_in, position_in, slotted, IsSlotted}
use Rattle.sq_graph.proofs.Slotting.{one_slotted}
use Rattle.sq_reloc.specs.declared.mark.CodeWord.{CodeWord}
use Rattle.sq_reloc.specs.CodeWords.{listed_at}
use Rattle.sq_reloc.proofs.Found.{found_at}
use Rattle.law_program.specs.FilePrograms.{IsProgramOf}
use Rattle.law_program.specs.Lifted.{lifted, code_ref}
use Rattle.law_program.specs.Programs.{target_of}
use Rattle.law_program.specs.Reached.{entry, code_word}
use Rattle.sq_lifted.specs.LiftedFiles.{IsLiftedFile}
use Rattle.sq_lifted.proofs.EarlyGraphs.{rules}
use Rattle.sq_lifted.proofs.Files.{files_linked}
use Rattle.sq_write.specs.Points.{new_address}
use Rattle.sq_write.specs.Written.{written}
use Rattle.law_written.specs.Written.{IsWritable}
use Rattle.law_written.proofs.Writing.{written_sizes}
use Rattle.law_written.proofs.CodeWords.{written_code_words_are_read}
use Rattle.law_written.proofs.Outside.{code_word_stands}
use Rattle.law_written.proofs.WrittenRelocations.{IsGoodWord, all_good}
use Rattle.sq_names.specs.Functions.{NamedFunction}
use Rattle.sq_names.specs.declared.track.Track.{Track}
use Rattle.sq_names.specs.declared.track.Track.TheVariants.{At}
use Rattle.sq_drive.specs.Tracking.{carried, standing, HoldsAt, KeepsStarts}
use Rattle.sq_drive.proofs.KeptPlaces.{entry_there, number_there}
use Rattle.sq_drive.proofs.KeptStarts.{contains_mapped, word_there, some_number}
use Rattle.sq_top.specs.Tracks.{begun_in, addressed, PointsTo, KeepsFileStarts}

-- a code word of a list, by its address
record IsListed (words : List CodeWord) (at to : ℕ) : Type 0 where
  word : CodeWord
  within : Contains words word
  place : word.at ≡ at
  to_is : word.to ≡ to

listed_word : (words : List CodeWord) (at to : ℕ) → listed_at words at ≡ Some to → IsListed words at to
listed_word words at to is = by_found (find (λ word. nat_eq word.at at) words) refl is
  where
    by_found : (found : Option CodeWord) → find (λ word. nat_eq word.at at) words ≡ found → option_map target_of found ≡ Some to → IsListed words at to
    by_found None is there = absurd (cc there)
    by_found (Some word) is there =
        let found = found_at (λ word. nat_eq word.at at) word word words is in
        record { word = word; within = (found.place, found.within, found.is); place = eqb-true word.at at found.passes; to_is = cc there }

module _ (bytes : List ℕ) (first : Graph) (file : IsLiftedFile bytes first) (is_slotted : IsSlotted first) (fit : AllByRecursion (λ b. b < 256) bytes) where
  abbrev k : Graph
  k = lifted file.is file.program

  k_rules : IsGraph (lifted file.is file.program)
  k_rules = rules bytes file.is file.program fit file.lifted.accepted.read file.lifted.accepted.early

  abbrev read : IsProgramOf bytes file.program
  read = file.lifted.accepted.read.program

  abbrev place : ℕ → ℕ
  place = position_in (names_of (lifted file.is file.program))

  is_first : first ≡ slotted (lifted file.is file.program)
  is_first = sym is_slotted ∙ one_slotted k first k_rules file.lifted.alike

  begun_at : (function : NamedFunction) → HasBlock (lifted file.is file.program) function.value → file.is function.value ≡ true → begun_in bytes first file function ≡ At (place function.value)
  begun_at function has reached =
      let number = some_number (number_in (names_of k) 0 function.value) (number_there k.blocks 0 function.value ∙ has) in
      rw reached (ap standing number)

  -- a function at the entry is at the first graph's entry
  begun_entry : (function : NamedFunction) → function.value ≡ file.program.entry → begun_in bytes first file function ≡ At first.entry
  begun_entry function is =
      let linked = (files_linked bytes file.is file.program fit file.lifted.accepted.read).linked in
      let reached = file.lifted.accepted.read.reached.all file.program.entry (entry linked.entry) in
      begun_at function (subst (HasBlock k) (sym is) (entry_there k k_rules)) (subst (λ x. file.is x ≡ true) (sym is) reached)
      ∙ ap At (ap place is ∙ sym (ap (λ (g : Graph). g.entry) is_first))

  -- and one to which a word points is at the block that its code word holds
  abbrev first_word : CodeWord → CodeRef
  first_word word = retargeted_word place (code_ref word)

  first_within : (word : CodeWord) → Contains file.program.code_words word → Contains first.code_words (first_word word)
  first_within word within =
      subst (λ (g : Graph). Contains g.code_words (first_word word)) (sym is_first)
      (contains_mapped (retargeted_word place) (map code_ref file.program.code_words) (code_ref word) (contains_mapped code_ref file.program.code_words word within))

  begun_word : (function : NamedFunction) (word : CodeWord) → Contains file.program.code_words word → function.value ≡ word.to → begun_in bytes first file function ≡ At (place word.to)
  begun_word function word within is =
      let linked = (files_linked bytes file.is file.program fit file.lifted.accepted.read).linked in
      let aimed = contains_mapped target_of file.program.code_words word within in
      let reached = file.lifted.accepted.read.reached.all word.to (code_word aimed (linked.code_words word.to aimed)) in
      let has = word_there k (code_ref word) k_rules (contains_mapped code_ref file.program.code_words word within) in
      begun_at function (subst (HasBlock k) (sym is) has) (subst (λ x. file.is x ≡ true) (sym is) reached) ∙ ap (λ n. At (place n)) is

  -- THE WRITTEN FILE

  module _ (last : Graph) (can : IsWritable bytes last) where
    abbrev lo : ℕ
    lo = (text_of bytes).lo

    written_entry : addressed last (text_of bytes).lo last.entry ≡ At (entry_of (written bytes last))
    written_entry = ap At (sym (written_sizes bytes last can).entry)

    -- the code word of the last graph points to its block
    written_word : (word : CodeRef) → Contains last.code_words word → PointsTo (written bytes last) word.at (addressed last (text_of bytes).lo word.block)
    written_word word within =
        let good = All-contains (IsGoodWord bytes last) last.code_words word (All-from_recursion (IsGoodWord bytes last) last.code_words (all_good bytes last can)) within in
        record {
          to = new_address last lo word.block;
          code_word = written_code_words_are_read bytes last can word.at ∙ ap (option_map (λ (w : CodeRef). new_address last lo w.block)) good.own;
          stands = code_word_stands bytes last can word good;
          held = refl;
        }

    kept_word : (at : ℕ) (after : Track) (word : CodeWord) → word.at ≡ at → HoldsAt last word.at after → PointsTo (written bytes last) at (carried (addressed last (text_of bytes).lo) after)
    kept_word at after word place held =
        subst (λ x. PointsTo (written bytes last) x (carried (addressed last lo) after)) (held.place ∙ place)
        (subst (PointsTo (written bytes last) held.word.at) (sym (ap (carried (addressed last lo)) held.held)) (written_word held.word held.within))

    -- by their addresses in the end
    pub file_starts : (functions : List NamedFunction) (after : List Track) → AllZip (KeepsStarts first last) (map (begun_in bytes first file) functions) after →
        AllZip (KeepsFileStarts bytes (written bytes last)) functions (map (carried (addressed last (text_of bytes).lo)) after)
    file_starts [] [] keep = tt
    file_starts [] (track ∷ after) keep = absurd keep
    file_starts (function ∷ functions) [] keep = absurd keep
    file_starts (function ∷ functions) (track ∷ after) (keeps, more) = (
      record {
        entry = λ is. ap (carried (addressed last lo)) (keeps.entry (begun_entry function (is ∙ sym read.entry))) ∙ written_entry;
        words = λ at is.
            let listed = listed_word file.program.code_words at function.value (read.code_words.exactly at ∙ is) in
            kept_word at track listed.word listed.place (keeps.words (first_word listed.word) (first_within listed.word listed.within) (begun_word function listed.word listed.within (sym listed.to_is)));
      },
      file_starts functions after more,
    )
