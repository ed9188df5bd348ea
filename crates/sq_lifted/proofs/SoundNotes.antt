-- Where the graph of a program is sound, the links of its notes die.
use Rattle.std.proofs.Common.{◌≡◌, ℕ, zero, suc, Bool, true, false, List, [], ◌∷◌, Some, None, slice_get, if◌then◌else◌, sym, ap, ◌∙◌}
use Rattle.std.specs.Option.{option_map}
use Rattle.std.proofs.lemmas.Option.{slice_get-map}
use Rattle.sq_graph.specs.Graph.{Procedure, Graph}
use Rattle.sq_graph.specs.Lines.{Line, Name, Do, Enter, Return, End, lines_of}
use Rattle.sq_graph.specs.Soundness.{LinksDieIn, IsSound}
use Rattle.law_program.specs.Programs.{Note, Program}
use Rattle.law_program.specs.Notes.{used_notes}
use Rattle.law_program.specs.Lifted.{procedure_of, lifted}
use Rattle.law_program.specs.FilePrograms.{LinkDies, NoteDies}
use Rattle.law_lifting.specs.Lifting.{IsReadable, NotesDie}
use Rattle.law_lifting.proofs.NoteFacts.{at_number, used_good, own_number}

-- links that die behind every call die behind the calls of one procedure
one_dies : (g : Graph) (k : ℕ) (p : Procedure) (lines : List Line) → slice_get g.procedures k ≡ Some p → LinksDieIn g lines → LinkDies g k p.link lines
one_dies g k p [] there h = tt
one_dies g k p (Enter other ∷ rest) there h = (λ same. h.0 p (ap (slice_get g.procedures) same ∙ there), one_dies g k p rest there h.1)
one_dies g k p (Name n ∷ rest) there h = one_dies g k p rest there h
one_dies g k p (Do half insn ∷ rest) there h = one_dies g k p rest there h
one_dies g k p (Return r ∷ rest) there h = one_dies g k p rest there h
one_dies g k p (End term ∷ rest) there h = one_dies g k p rest there h

-- a note whose address is reached is used
found_used : (is : ℕ → Bool) (notes : List Note) (i : ℕ) (note : Note) → slice_get notes i ≡ Some note → is note.address ≡ true → (q : ℕ) × (slice_get (used_notes is notes) q ≡ Some note)
found_used is [] i note there reached = absurd (cc)
found_used is (m ∷ notes) zero note there reached =
    let same : m ≡ note = cc in
    let here : is m.address ≡ true = ap (λ (n : Note). is n.address) same ∙ reached in
    rw here (0, there)
found_used is (m ∷ notes) (suc i) note there reached = by (is m.address) (found_used is notes i note there reached)
  where
    by : (b : Bool) → (q : ℕ) × (slice_get (used_notes is notes) q ≡ Some note) → (q : ℕ) × (slice_get (if b then m ∷ used_notes is notes else used_notes is notes) q ≡ Some note)
    by true found = (suc found.0, found.1)
    by false found = found

module _ (is : ℕ → Bool) (p : Program) (readable : IsReadable is p) (sound : IsSound (lifted is p)) where
  abbrev used : List Note
  used = used_notes is p.notes

  procedure_there : (q : ℕ) (note : Note) → slice_get used q ≡ Some note → slice_get (lifted is p).procedures q ≡ Some (procedure_of p.text note)
  procedure_there q note there = slice_get-map (procedure_of p.text) used q ∙ ap (option_map (procedure_of p.text)) there

  note_dies : (i : ℕ) (note : Note) → slice_get p.notes i ≡ Some note → NoteDies is p note
  note_dies i note there procedure at =
      let m = at_number used note.address procedure at in
      let reached : is note.address ≡ true = ap is (sym m.2) ∙ (used_good is p None 1 p.notes procedure m.0 readable.notes m.1).reached in
      let found = found_used is p.notes i note there reached in
      let own = own_number is p None 1 p.notes found.0 note readable.notes found.1 in
      let both : Some found.0 ≡ Some procedure = sym own ∙ at in
      let same : found.0 ≡ procedure = cc in
      one_dies (lifted is p) procedure (procedure_of p.text note) (lines_of (lifted is p).blocks) (procedure_there procedure note (ap (slice_get used) (sym same) ∙ found.1)) sound.links_die

  pub sound_notes_die : NotesDie is p
  sound_notes_die = note_dies
