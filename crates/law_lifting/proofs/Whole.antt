-- Lifting keeps runs: the start, and all put together.
use Rattle.std.proofs.Common.{◌≡◌, ℕ, zero, suc, Bool, true, false, not, ◌==◌, ◌&&◌, List, [], ◌∷◌, map, Option, Some, None, slice_get, if◌then◌else◌, refl, sym, ap, ◌∙◌, subst, arith}
use Rattle.std.specs.Option.{option_map}
use Rattle.std.specs.List.{Contains}
use Rattle.std.proofs.lemmas.Option.{slice_get-map}
use Rattle.std.proofs.lemmas.Bool.{false_from_ne_true}
use Rattle.law_runs.specs.Follows.{LocksWith}
use Rattle.sq_memory.specs.Regions.{get}
use Rattle.sq_system.specs.Starts.{Start, stack_pointer}
use Rattle.sq_reloc.specs.declared.mark.CodeWord.{CodeWord}
use Rattle.sq_graph.specs.Graph.{Procedure, Graph}
use Rattle.sq_graph.specs.Lines.{Line, Name, Do, Enter, Return, End, lines_of}
use Rattle.sq_graph.specs.Walks.{IsLive, word_name}
use Rattle.sq_graph.specs.Soundness.{LinksDieIn}
use Rattle.law_follow.specs.Values.{Holds, Num}
use Rattle.law_follow.specs.Worlds.{World, all_names, layout_of, setting_of, core_at_start, first_registers, regions_at_start}
use Rattle.law_follow.specs.GraphRuns.{is_lost, graph_step}
use Rattle.law_follow.specs.Follows.{state_at_start}
use Rattle.law_patch.specs.Agreement.{SameHeld, SameMemory}
use Rattle.law_patch.specs.LiveAgreement.{everywhere}
use Rattle.law_patch.proofs.Loading.{with_code}
use Rattle.law_patch.proofs.LiveTargets.{lines_make, word_target}
use Rattle.law_patch.proofs.Starts.{start_memory_rel}
use Rattle.law_program.specs.Programs.{Note, Program, target_of}
use Rattle.law_program.specs.Reached.{entry, code_word, Decides}
use Rattle.law_program.specs.Notes.{used_notes, is_in_procedure, is_in_procedures}
use Rattle.law_program.specs.Lifted.{procedure_of, code_ref, lifted}
use Rattle.law_program.specs.FilePrograms.{LinkDies}
use Rattle.law_program.specs.Monitored as monitored
use Rattle.law_program.specs.Monitored.{monitored_step}
use Rattle.law_program.specs.FileRuns.{watched_start}
use Rattle.law_lifting.specs.Lifting.{IsLinked, IsReadable, NotesDie, IsFine, IsWorldOf, LiftingKeepsRuns}
use Rattle.law_lifting.proofs.Lifts.{ties, IsNamed, NeverLost}
use Rattle.law_lifting.proofs.NoteFacts.{notes_find, IsGoodNote, good_note, used_good, own_number}
use Rattle.law_lifting.proofs.Cutting.{true_not_false, kept_from, lead_entry, lead_code}
use Rattle.law_lifting.proofs.CutLines.{has_name_of, lifts_whole}
use Rattle.law_lifting.proofs.Lifting.{lifted_locks, starts_alike}

pub readable : (is : ℕ → Bool) (p : Program) → IsFine is p → IsReadable is p
readable is p fine = record { text = fine.text; notes = fine.notes }

module _ (p : Program) (is : ℕ → Bool) (linked : IsLinked p) (dec : Decides p is) (fine : IsReadable is p) where
  abbrev G : Graph
  G = lifted is p

  abbrev N : List Note
  N = used_notes is p.notes

  -- THE LINKS OF PROCEDURES ARE DEAD

  abbrev pub DieAll : List Line → Type 0
  DieAll lines = (q : ℕ) (n : Note) → slice_get N q ≡ Some n → LinkDies G q n.link lines

  note_of : (q : ℕ) (procedure : Procedure) (o : Option Note) → slice_get N q ≡ o → option_map (procedure_of p.text) o ≡ Some procedure → (n : Note) × (slice_get N q ≡ Some n) × (procedure_of p.text n ≡ procedure)
  note_of q procedure None e h = absurd (cc)
  note_of q procedure (Some n) e h = (n, e, cc)

  pub noted : (q : ℕ) (procedure : Procedure) → slice_get G.procedures q ≡ Some procedure → (n : Note) × (slice_get N q ≡ Some n) × (procedure_of p.text n ≡ procedure)
  noted q procedure h = note_of q procedure (slice_get N q) refl (sym (slice_get-map (procedure_of p.text) N q) ∙ h)

  pub dies_lines : (lines : List Line) → DieAll lines → LinksDieIn G lines
  dies_lines [] f = tt
  dies_lines (Name n ∷ rest) f = dies_lines rest f
  dies_lines (Do half insn ∷ rest) f = dies_lines rest f
  dies_lines (Return link ∷ rest) f = dies_lines rest f
  dies_lines (End term ∷ rest) f = dies_lines rest f
  dies_lines (Enter q ∷ rest) f = (
    λ procedure h.
        let n = noted q procedure h in
        subst (λ procedure. ¬ IsLive G procedure.link rest) n.2 ((f q n.0 n.1).0 refl),
    dies_lines rest (λ q n e. (f q n e).1),
  )

  pub die_all : NotesDie is p → DieAll (lines_of G.blocks)
  die_all dies q n e =
      let u = used_good is p None 1 p.notes q n fine.notes e in
      dies u.index n u.there q (own_number is p None 1 p.notes q n fine.notes e)

  -- NAMES

  outside : (x : ℕ) → ((q : ℕ) (n : Note) → IsGoodNote is p n → is_in_procedure n x ≡ false) → is_in_procedures N x ≡ false
  outside x f = false_from_ne_true (is_in_procedures N x) (λ b. let h = notes_find N x b in true_not_false (sym h.holds ∙ f h.number h.note (good_note is p h.number h.note fine.notes h.there)))

  pub entry_named : IsNamed p.text N G p.entry
  entry_named =
      has_name_of p is linked.text dec fine p.entry
      (kept_from p is linked.text dec fine p.entry (dec.all p.entry (entry linked.entry)) (outside p.entry (λ q n g. g.entry)))
      (lead_entry p is linked.text dec fine)

  pub code_named : (x : ℕ) → Contains (map target_of p.code_words) x → IsNamed p.text N G x
  code_named x c =
      has_name_of p is linked.text dec fine x
      (kept_from p is linked.text dec fine x (dec.all x (code_word c (linked.code_words x c))) (outside x (λ q n g. g.codes x c)))
      (lead_code p is linked.text dec fine x c)

  -- THE START

  pub names_are : (words : List CodeWord) → map word_name (map code_ref words) ≡ map target_of words
  names_are [] = refl
  names_are (word ∷ words) = ap (λ xs. word.to ∷ xs) (names_are words)

  map_own : (xs : List ℕ) → map (λ x. x) xs ≡ xs
  map_own [] = refl
  map_own (x ∷ xs) = ap (λ ys. x ∷ ys) (map_own xs)

  pub contains_at : (xs : List ℕ) (i n : ℕ) → slice_get xs i ≡ Some n → Contains xs n
  contains_at [] i n e = absurd (cc)
  contains_at (x ∷ xs) zero n e = (0, omega arith, cc)
  contains_at (x ∷ xs) (suc i) n e = let c = contains_at xs i n e in (suc c.0, omega (arith, c.1), c.2)

  code_tied : (i n : ℕ) → slice_get (map target_of p.code_words) i ≡ Some n → (ties p.text N G).code n n
  code_tied i n e =
      let c = contains_at (map target_of p.code_words) i n e in
      (refl, code_named n c, word_target G n (subst (λ xs. Contains xs n) (sym (names_are p.code_words)) c))

  start_held : (start : Start) (r : ℕ) → SameHeld (ties p.text N G) (first_registers start r) (first_registers start r)
  start_held start r = go (r == 2 && not (2 == 0))
    where
      go : (b : Bool) → SameHeld (ties p.text N G) (if b then Holds (Num (stack_pointer start)) else Holds (Num 0)) (if b then Holds (Num (stack_pointer start)) else Holds (Num 0))
      go true = refl
      go false = refl

  start_kept : (start : Start) → NeverLost p.text N G (first_registers start)
  start_kept start r = go (r == 2 && not (2 == 0))
    where
      go : (b : Bool) → is_lost (if b then Holds (Num (stack_pointer start)) else Holds (Num 0)) ≡ false
      go true = refl
      go false = refl

  start_memory : (w : World) (start : Start) → SameMemory everywhere (ties p.text N G) (get (regions_at_start w (map target_of p.code_words) start)) (get (regions_at_start w (map word_name G.code_words) start))
  start_memory w start =
      subst (λ names. SameMemory everywhere (ties p.text N G) (get (regions_at_start w (map target_of p.code_words) start)) (get (regions_at_start w names start)))
      (map_own (map target_of p.code_words) ∙ sym (names_are p.code_words))
      (start_memory_rel (ties p.text N G) (λ x. x) w (map target_of p.code_words) start code_tied)

  starts : NotesDie is p → (w : World) (start : Start) → IsWorldOf w start p → LocksWith (monitored_step (layout_of w start) p.text) (watched_start w p start) (graph_step (setting_of w start) G) (state_at_start w G start)
  starts dies w start of =
      let text = linked.text in
      let lifts = lifts_whole p is text dec fine (lines_make G) (dies_lines (lines_of G.blocks) (die_all dies)) in
      let same : setting_of w start ≡ with_code (monitored.setting_of (layout_of w start) p.text) all_names = rw (of.lo, of.hi) refl in
      subst (λ s. LocksWith (monitored_step (layout_of w start) p.text) (watched_start w p start) (graph_step s G) (state_at_start w G start)) (sym same)
      (lifted_locks p.text N G (layout_of w start) None lifts text.small of.executable (watched_start w p start) (state_at_start w G start)
      (starts_alike p.text N G (layout_of w start) None lifts text.small of.executable p.entry (core_at_start w (map target_of p.code_words) start) (core_at_start w (map word_name G.code_words) start) entry_named (start_kept start)
      (record {
        registers = λ r q n. subst (λ q. SameHeld (ties p.text N G) (first_registers start r) (first_registers start q)) (sym n.0) (start_held start r);
        store = record { memory = start_memory w start; input = refl; reservation = refl };
      })))

pub lifting_keeps : LiftingKeepsRuns
lifting_keeps p is linked dec fine w start of = starts p is linked dec (readable is p fine) fine.dies w start of
