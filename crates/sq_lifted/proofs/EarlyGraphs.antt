-- The graph of a file that neither its text nor its note refuses, but for what is asked of the graph.
use Rattle.std.proofs.Common.{◌≡◌, ℕ, suc, ◌+◌, ◌*◌, ◌^◌, ◌<◌, ◌≤◌, Bool, true, false, List, [], ◌∷◌, length, map, get_or, Option, None, Fits, w8, refl, sym, ap, ◌∙◌, subst, arith, if◌then◌else◌}
use Rattle.std.specs.Prelude.{sum_by}
use Rattle.std.specs.List.{AllByRecursion}
use Rattle.std.specs.Option.{unwrap_or}
use Rattle.std.proofs.lemmas.List.{length-map, length-append}
use Rattle.std.proofs.lemmas.List.Sums.{sum_by-cons}
use Rattle.sq_elf.specs.Headers.{entry_of}
use Rattle.sq_elf.specs.Refusing.{file_refusal_of}
use Rattle.sq_reloc.specs.Refusing.{reloc_refusal_of}
use Rattle.sq_reloc.specs.declared.mark.CodeWord.{CodeWord}
use Rattle.sq_reloc.specs.CodeWords.{AreCodeWords}
use Rattle.sq_graph.specs.Graph.{Block, Procedure, Graph}
use Rattle.sq_graph.specs.Blocks.{items_of_blocks, items_of_bodies}
use Rattle.sq_graph.specs.Parts.{names_of}
use Rattle.sq_graph.specs.Slotted.{position_in, slotted}
use Rattle.sq_graph.proofs.Renamed.{renamed_rules}
use Rattle.sq_graph.proofs.Slotting.{positions_apart, slotted_alike}
use Rattle.sq_graph.specs.Rules.{IsGraph}
use Rattle.sq_graph.specs.Renames.{retargeted_item, retargeted_items, retargeted_procedure, renamed_block, renamed}
use Rattle.sq_graph.specs.declared.parts.Room.{Room}
use Rattle.sq_graph.specs.Room.{IsSmall, Covers, count_of}
use Rattle.sq_graph.specs.Words.{block_words, procedure_words, words_of}
use Rattle.law_program.specs.Programs.{Word, Text, Note, Program}
use Rattle.law_program.specs.Notes.{used_notes}
use Rattle.law_program.specs.NoteSections.{notes_of}
use Rattle.law_program.specs.Lifted.{is_kept, is_leader, cut, lifted}
use Rattle.sq_graph.specs.Alike.{AreAlike}
use Rattle.law_program.specs.FilePrograms.{text_of, early_refusal, IsProgramOf, IsReadAs}
use Rattle.sq_lift.specs.Flags.{Flags, is_flagged}
use Rattle.sq_lift.specs.Refused.{IsReadNoted}
use Rattle.sq_lift.proofs.FilePrograms.{program_with, is_program, one_program}
use Rattle.sq_lift.specs.Cuts.{starts}
use Rattle.sq_lift.proofs.Cutting.{names_are}
use Rattle.law_lifting.specs.Lifting.{IsReadable}
use Rattle.sq_lifted.specs.Files.{IsLinkedProgram}
use Rattle.sq_lifted.proofs.Graphs.{is_graph}
use Rattle.sq_lifted.proofs.Counting.{words_fit}
use Rattle.sq_lifted.proofs.Files.{files_linked}
use Rattle.sq_lifted.proofs.FileWorlds.{early_readable}

-- HOW MUCH IT HAS

-- as many blocks, items and procedures as text has words
abbrev room_for : Text → Room
room_for t = record { blocks = length t.words; items = length t.words; procedures = length t.words }

items_count : (bs : List Block) → length (items_of_blocks bs) ≤ sum_by block_words bs
items_count [] = omega arith
items_count (b ∷ bs) =
    let rest = items_count bs in
    omega (arith, length-append b.items (items_of_blocks bs), sum_by-cons block_words b bs, rest)

bodies_count : (ps : List Procedure) → length (items_of_bodies ps) + length ps ≡ sum_by procedure_words ps
bodies_count [] = refl
bodies_count (p ∷ ps) =
    let rest = bodies_count ps in
    omega (arith, length-append p.body (items_of_bodies ps), sum_by-cons procedure_words p ps, rest)

blocks_count : (keeps leads : ℕ → Bool) (ns : List Note) (t : Text) (at : ℕ) (words : List Word) → length (cut keeps leads ns t at words).blocks ≤ length words
blocks_count keeps leads ns t at words =
    let names = ap length (names_are keeps leads ns t at words) in
    omega (arith, names, length-map (cut keeps leads ns t at words).blocks (λ (b : Block). b.name), few at words)
  where
    few : (at : ℕ) (words : List Word) → length (starts keeps leads at words) ≤ length words
    few at [] = omega arith
    few at (w ∷ words) = by (keeps at) (leads at) (few (at + 4) words)
      where
        by : (k l : Bool) → length (starts keeps leads (at + 4) words) ≤ length words → length (if k then (if l then at ∷ starts keeps leads (at + 4) words else starts keeps leads (at + 4) words) else starts keeps leads (at + 4) words) ≤ suc (length words)
        by true true h = omega (arith, h)
        by true false h = omega (arith, h)
        by false l h = omega (arith, h)

module _ (f : ℕ → ℕ) where
  blocks_long : (bs : List Block) → length (items_of_blocks (map (renamed_block f) bs)) ≡ length (items_of_blocks bs)
  blocks_long [] = refl
  blocks_long (b ∷ bs) =
      length-append (retargeted_items f b.items) (items_of_blocks (map (renamed_block f) bs))
      ∙ (λ i. length-map b.items (retargeted_item f) i + blocks_long bs i)
      ∙ sym (length-append b.items (items_of_blocks bs))

  bodies_long : (ps : List Procedure) → length (items_of_bodies (map (retargeted_procedure f) ps)) ≡ length (items_of_bodies ps)
  bodies_long [] = refl
  bodies_long (p ∷ ps) =
      length-append (retargeted_items f p.body) (items_of_bodies (map (retargeted_procedure f) ps))
      ∙ (λ i. length-map p.body (retargeted_item f) i + bodies_long ps i)
      ∙ sym (length-append p.body (items_of_bodies ps))

  few_enough : (g : Graph) (t : Text) → length g.blocks ≤ length t.words → words_of g ≤ length t.words → Covers (room_for t) (count_of (renamed f g))
  few_enough g t blocks words =
      let a = items_count g.blocks in
      let b = bodies_count g.procedures in
      let all = length-append (items_of_blocks (map (renamed_block f) g.blocks)) (items_of_bodies (map (retargeted_procedure f) g.procedures)) in
      let c = blocks_long g.blocks in
      let d = bodies_long g.procedures in
      record {
        blocks = omega (arith, length-map g.blocks (renamed_block f), blocks);
        items = omega (arith, all, a, b, c, d, words);
        procedures = omega (arith, length-map g.procedures (retargeted_procedure f), b, words);
      }

small_count : (t : Text) (count : Room) → 4 * length t.words ≤ 2 ^ 20 → Covers (room_for t) count → IsSmall count
small_count t count short few = record {
  blocks = let h = few.blocks in omega (arith, h, short);
  items = let h = few.items in omega (arith, h, short);
  procedures = let h = few.procedures in omega (arith, h, short);
}

-- ITS PARTS

module _ (bytes : List ℕ) (is : ℕ → Bool) (p : Program) (fit : AllByRecursion (λ b. b < 256) bytes) (read : IsReadAs bytes is p) (early : early_refusal bytes is p ≡ None) where
  abbrev pub g : Graph
  g = lifted is p

  linked : IsLinkedProgram p
  linked = files_linked bytes is p fit read

  readable : IsReadable is p
  readable = early_readable bytes is p early

  pub rules : IsGraph g
  rules = is_graph p is linked.linked read.reached readable linked.code_words

  pub part_rules : IsGraph (slotted g)
  part_rules = renamed_rules (position_in (names_of g)) g (positions_apart g) rules

  few : (f : ℕ → ℕ) → Covers (room_for p.text) (count_of (renamed f g))
  few f =
      let ns = used_notes is p.notes in
      few_enough f g p.text (blocks_count (is_kept is ns) (is_leader is ns p) ns p.text p.text.lo p.text.words) (words_fit p is linked.linked read.reached readable)

  pub part_count : IsSmall (count_of (slotted g))
  part_count = small_count p.text (count_of (slotted g)) linked.short.short (few (position_in (names_of g)))

-- THE PROGRAM AS THE CODE NAMES ITS PARTS

-- what is found of a file whose bytes these are: its text, the flags of its reached words, its notes and code words
pub record IsFoundNoted (bytes : List ℕ) (t : Text) (f : Flags) (notes : List Note) (words : List CodeWord) (entry : ℕ) : Type 0 where
  pub fit : AllByRecursion (λ b. b < 256) bytes
  pub noted : IsReadNoted bytes t f notes
  pub file : file_refusal_of bytes ≡ None
  pub relocs : reloc_refusal_of bytes ≡ None
  pub code_words : AreCodeWords bytes words
  pub start : entry ≡ entry_of bytes

pub found_noted : (bytes read other : List ℕ) (t : Text) (f : Flags) (notes items : List Note) (words : List CodeWord) (entry : ℕ) → read ≡ bytes → AllByRecursion (λ b. b < 256) read → other ≡ bytes → reloc_refusal_of other ≡ None → AreCodeWords other words → notes ≡ items → IsReadNoted bytes t f items → file_refusal_of bytes ≡ None → entry ≡ entry_of bytes → IsFoundNoted bytes t f notes words entry
found_noted bytes read other t f notes items words entry same fit alike fine are all noted file start =
    let Fit : List ℕ → Type 0 = λ bytes. AllByRecursion (λ b. b < 256) bytes in
    let Accepts : List ℕ → Type 0 = λ bytes. reloc_refusal_of bytes ≡ None in
    let Lists : List ℕ → Type 0 = λ bytes. AreCodeWords bytes words in
    let Noted : List Note → Type 0 = λ notes. IsReadNoted bytes t f notes in
    record {
      fit = subst Fit same fit;
      noted = subst Noted (sym all) noted;
      file = file;
      relocs = subst Accepts alike fine;
      code_words = subst Lists alike are;
      start = start;
    }

module _ (bytes : List ℕ) (t : Text) (f : Flags) (notes : List Note) (words : List CodeWord) (entry : ℕ) (here : IsFoundNoted bytes t f notes words entry) where
  abbrev pub seen : Program
  seen = record { text = t; entry = entry; code_words = words; notes = notes }

  seen_is : seen ≡ program_with bytes words
  seen_is =
      let all : notes ≡ unwrap_or (notes_of bytes (text_of bytes)) [] = sym (ap (λ (o : Option (List Note)). unwrap_or o []) here.noted.notes) in
      λ i. record { text = here.noted.text i; entry = here.start i; code_words = words; notes = all i }

  seen_program : IsProgramOf bytes seen
  seen_program = subst (IsProgramOf bytes) (sym seen_is) (is_program bytes words here.code_words)

  pub seen_read : IsReadAs bytes (is_flagged f) seen
  seen_read = record { file = here.file; relocs = here.relocs; program = seen_program; reached = here.noted.reached seen seen_program }

  pub seen_early : early_refusal bytes (is_flagged f) seen ≡ None
  seen_early = here.noted.fine seen seen_program

  pub seen_rules : (parts : Graph) → parts ≡ slotted (lifted (is_flagged f) seen) → IsGraph parts
  seen_rules parts is = subst IsGraph (sym is) (part_rules bytes (is_flagged f) seen here.fit seen_read seen_early)

  pub seen_count : (parts : Graph) → parts ≡ slotted (lifted (is_flagged f) seen) → IsSmall (count_of parts)
  seen_count parts is = subst (λ (g : Graph). IsSmall (count_of g)) (sym is) (part_count bytes (is_flagged f) seen here.fit seen_read seen_early)

  pub seen_slotted : (made : Graph) → made ≡ slotted (lifted (is_flagged f) seen) → (p : Program) → IsProgramOf bytes p → made ≡ slotted (lifted (is_flagged f) p)
  seen_slotted made is p of = is ∙ ap (λ p. slotted (lifted (is_flagged f) p)) (seen_is ∙ sym (one_program bytes words p here.code_words of))

-- the slotted graph of each program of a file is alike it
pub early_alike : (bytes : List ℕ) (is : ℕ → Bool) (made : Graph) → ((p : Program) → IsProgramOf bytes p → made ≡ slotted (lifted is p)) → (p : Program) → IsProgramOf bytes p → AreAlike (lifted is p) made
early_alike bytes is made same p of = subst (AreAlike (lifted is p)) (sym (same p of)) (slotted_alike (lifted is p))

-- the numbers of bytes
pub each_fits : (xs : List ℕ) → ((i : ℕ) → Fits w8 (get_or xs i 0)) → AllByRecursion (λ b. b < 256) xs
each_fits [] h = tt
each_fits (x ∷ xs) h = (let first = h 0 in omega (arith, first), each_fits xs (λ i. h (suc i)))
