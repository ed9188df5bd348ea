-- The world of a file: each word of text stands in a piece that is executable.
use Rattle.std.proofs.Common.{◌≡◌, ◌≢◌, ◌⊎◌, inl, inr, ℕ, zero, suc, ◌+◌, ◌≤◌, ◌<◌, nat_eq, nat_le, nat_lt, Bool, true, false, not, ◌==◌, ◌&&◌, ◌||◌, List, [], ◌∷◌, ◌++◌, map, Option, Some, None, if◌then◌else◌, refl, sym, subst, arith, bit_and}
use Rattle.std.specs.Option.{option_map}
use Rattle.std.specs.List.{AllByRecursion, list_any, flat_map}
use Rattle.std.proofs.lemmas.Bool.{and_from, or_left, eqb-true, eqb-false}
use Rattle.sq_num.specs.declared.refusal.Refusal.TheVariants.{BadNote}
use Rattle.sq_system.specs.Starts.{Start}
use Rattle.sq_system.specs.declared.piece.Piece.{Piece}
use Rattle.sq_system.specs.World.{PF_X, is_in, is_in_with, is_executable}
use Rattle.sq_elf.specs.declared.segment.Segment.{Segment}
use Rattle.sq_elf.specs.Headers.{phnum_of, segment_of}
use Rattle.sq_elf.specs.Text.{text_of as text_range, text_segment_of}
use Rattle.sq_elf.specs.Memory.{has_memory, segments_before}
use Rattle.sq_elf.proofs.TextFacts.{TextFacts, text_facts}
use Rattle.law_follow.specs.Worlds.{StartPiece, piece_of, layout_of}
use Rattle.law_program.specs.Programs.{Word, Note, Program, word_at}
use Rattle.law_program.specs.FilePrograms.{IsLiftedFrom, text_of, note_refusal, early_refusal, IsReadAs, IsAccepted}
use Rattle.law_program.specs.Notes.{bad_note}
use Rattle.law_program.specs.NoteSections.{notes_of}
use Rattle.law_program.specs.Faults.{text_refusal}
use Rattle.law_program.specs.FileRuns.{segment_pieces, world_of}
use Rattle.law_lifting.specs.Lifting.{IsReadable, IsFine, IsWorldOf}
use Rattle.law_lifting.proofs.TextWords.{stood}
use Rattle.law_lifting.proofs.Facts.{or_none}
use Rattle.law_follow.specs.Follows.{Follows}
use Rattle.sq_graph.specs.Graph.{Graph}
use Rattle.law_patch.specs.Operations.{KeepsStep}
use Rattle.law_patch.proofs.Renaming.{rename_follows, rename_keeps_step}
use Rattle.law_program.specs.Lifted.{lifted}
use Rattle.law_lifting.proofs.Whole.{lifting_keeps}
use Rattle.sq_lifted.specs.Files.{FileWorldsFit, LiftedFilesKeepRuns, LiftedFilesAreGood, LiftedFilesFollow}
use Rattle.sq_lifted.proofs.Files.{ends_at, files_linked}
use Rattle.law_files.proofs.FileBytes.{le_is, lt_is}
use Rattle.law_files.proofs.TextSegment.{flagged, text_whole, has_text}
use Rattle.sq_lifted.proofs.Counting.{lifted_good}

-- some of these, or of those
any_append : {X : Type 0} (f : X → Bool) (xs ys : List X) → (list_any f xs ≡ true) ⊎ (list_any f ys ≡ true) → list_any f (xs ++ ys) ≡ true
any_append f [] ys (inl h) = absurd (cc)
any_append f [] ys (inr h) = h
any_append f (x ∷ xs) ys h = go (f x) h (any_append f xs ys)
  where
    go : (b : Bool) → ((b || list_any f xs) ≡ true) ⊎ (list_any f ys ≡ true) → ((list_any f xs ≡ true) ⊎ (list_any f ys ≡ true) → list_any f (xs ++ ys) ≡ true) → (b || list_any f (xs ++ ys)) ≡ true
    go true h rec = refl
    go false h rec = rec h

-- the pieces of a program header's segment are among the pieces of the world
module _ (test : Piece → Bool) (f : Segment → List StartPiece) (bytes : List ℕ) where
  abbrev some_of : List Segment → Bool
  some_of segments = list_any test (map piece_of (flat_map f segments))

  some_append : (xs ys : List Segment) → (some_of xs ≡ true) ⊎ (some_of ys ≡ true) → some_of (xs ++ ys) ≡ true
  some_append [] ys (inl h) = absurd (cc)
  some_append [] ys (inr h) = h
  some_append (x ∷ xs) ys h = join (f x) (flat_map f xs) (flat_map f (xs ++ ys)) h (some_append xs ys)
    where
      join : (ps qs rs : List StartPiece) → (list_any test (map piece_of (ps ++ qs)) ≡ true) ⊎ (some_of ys ≡ true) → ((list_any test (map piece_of qs) ≡ true) ⊎ (some_of ys ≡ true) → list_any test (map piece_of rs) ≡ true) → list_any test (map piece_of (ps ++ rs)) ≡ true
      join [] qs rs h rec = rec h
      join (q ∷ ps) qs rs h rec = go (test (piece_of q)) h (λ h. join ps qs rs h rec)
        where
          go : (b : Bool) → ((b || list_any test (map piece_of (ps ++ qs))) ≡ true) ⊎ (some_of ys ≡ true) → ((list_any test (map piece_of (ps ++ qs)) ≡ true) ⊎ (some_of ys ≡ true) → list_any test (map piece_of (ps ++ rs)) ≡ true) → (b || list_any test (map piece_of (ps ++ rs))) ≡ true
          go true h rec = refl
          go false h rec = rec h

  some_segment : (count k : ℕ) → k < count → has_memory bytes k ≡ true → list_any test (map piece_of (f (segment_of bytes k))) ≡ true → some_of (segments_before bytes count) ≡ true
  unfolding segments_before
  some_segment zero k lt has h = absurd (omega (arith, lt))
  some_segment (suc count) k lt has h = go (has_memory bytes count) (k == count) refl refl (some_segment count k)
    where
      alone : list_any test (map piece_of (f (segment_of bytes k))) ≡ true → some_of (segment_of bytes k ∷ []) ≡ true
      alone h = single (f (segment_of bytes k)) h
        where
          single : (ps : List StartPiece) → list_any test (map piece_of ps) ≡ true → list_any test (map piece_of (ps ++ [])) ≡ true
          single [] h = h
          single (q ∷ ps) h = step (test (piece_of q)) h (single ps)
            where
              step : (b : Bool) → (b || list_any test (map piece_of ps)) ≡ true → (list_any test (map piece_of ps) ≡ true → list_any test (map piece_of (ps ++ [])) ≡ true) → (b || list_any test (map piece_of (ps ++ []))) ≡ true
              step true h rec = refl
              step false h rec = rec h

      go : (b c : Bool) → has_memory bytes count ≡ b → (k == count) ≡ c → (k < count → has_memory bytes k ≡ true → list_any test (map piece_of (f (segment_of bytes k))) ≡ true → some_of (segments_before bytes count) ≡ true) → some_of (if b then segments_before bytes count ++ segment_of bytes count ∷ [] else segments_before bytes count) ≡ true
      go true true e q rec =
          let same : k ≡ count = eqb-true k count q in
          some_append (segments_before bytes count) (segment_of bytes count ∷ []) (inr (subst (λ j. some_of (segment_of bytes j ∷ []) ≡ true) same (alone h)))
      go true false e q rec =
          let apart : k ≢ count = eqb-false k count q in
          some_append (segments_before bytes count) (segment_of bytes count ∷ []) (inl (rec (omega (arith, lt, apart)) has h))
      go false true e q rec = absurd (let same : k ≡ count = eqb-true k count q in let no_way : has_memory bytes k ≡ false = subst (λ j. has_memory bytes j ≡ false) (sym same) e in cc (has, no_way))
      go false false e q rec = let apart : k ≢ count = eqb-false k count q in rec (omega (arith, lt, apart)) has h

not_zero : (n : ℕ) → nat_eq n 1 ≡ true → not (n == 0) ≡ true
not_zero n e = let one : n ≡ 1 = eqb-true n 1 e in rw one refl

module _ (bytes : List ℕ) (is : ℕ → Bool) (p : Program) (read : IsReadAs bytes is p) where
  facts : TextFacts bytes read.file
  facts = text_facts bytes read.file

  abbrev number : ℕ
  number = text_segment_of bytes

  abbrev segment : Segment
  segment = segment_of bytes number

  -- a byte of text is in a piece that may be executed
  pub text_executable : (start : Start) (x : ℕ) → (text_range bytes).lo ≤ x → x < (text_range bytes).hi → is_executable (layout_of (world_of bytes p) start) x ≡ true
  unfolding is_executable
  text_executable start x least most =
      some_segment (is_in_with PF_X x) (segment_pieces bytes p.code_words) bytes (phnum_of bytes) number facts.within (has_text bytes read.file)
      (or_left (is_in x own && not (bit_and segment.flags PF_X == 0)) _ (and_from (is_in x own) (not (bit_and segment.flags PF_X == 0)) inside (not_zero (bit_and segment.flags PF_X) (flagged bytes read.file))))
    where
      own : Piece
      own = record { extent = record { address = segment.address; length = segment.memsz }; flags = segment.flags }

      inside : is_in x own ≡ true
      inside =
          let c = facts.inside.low in
          let d = facts.inside.high in
          let f = text_whole bytes read.file in
          let low : segment.address ≤ x = omega arith in
          let high : x < segment.address + segment.memsz = omega arith in
          and_from (nat_le segment.address x) (nat_lt x (segment.address + segment.memsz)) (le_is segment.address x low) (lt_is x (segment.address + segment.memsz) high)

  executable : (start : Start) (x : ℕ) (w : Word) → word_at (text_of bytes) x ≡ Some w → is_executable (layout_of (world_of bytes p) start) x ≡ true
  executable start x w e =
      let s = stood x (text_of bytes).lo w (text_of bytes).words e in
      let a = s.least in
      let b = s.most in
      let top = ends_at bytes is p read in
      text_executable start x a (omega (arith, b, top))

  world_fits : (start : Start) → IsWorldOf (world_of bytes p) start p
  world_fits start = record { lo = refl; hi = refl; executable = λ x e. go x e (word_at p.text x) refl }
    where
      go : (x : ℕ) → is_executable (layout_of (world_of bytes p) start) x ≡ false → (o : Option Word) → word_at p.text x ≡ o → o ≡ None
      go x e None f = refl
      go x e (Some w) f =
          let there : word_at (text_of bytes) x ≡ Some w = subst (λ t. word_at t x ≡ Some w) read.program.text f in
          absurd (let yes = executable start x w there in cc (yes, e))

pub worlds_fit : FileWorldsFit
worlds_fit bytes is p read start = world_fits bytes is p read start

-- RUNS AND GRAPHS OF FILES

none_mapped : (o : Option ℕ) → option_map BadNote o ≡ None → o ≡ None
none_mapped None e = refl
none_mapped (Some i) e = absurd (cc)

good_notes : (is : ℕ → Bool) (p : Program) (o : Option (List Note)) → note_refusal is p o ≡ None → bad_note is p ≡ None
good_notes is p None e = absurd (cc)
good_notes is p (Some notes) e = none_mapped (bad_note is p) e

pub early_readable : (bytes : List ℕ) (is : ℕ → Bool) (p : Program) → early_refusal bytes is p ≡ None → IsReadable is p
early_readable bytes is p early =
    let e = or_none (text_refusal is p) (note_refusal is p (notes_of bytes p.text)) early in
    record { text = e.0; notes = good_notes is p (notes_of bytes p.text) e.1 }

accepted_fine : (bytes : List ℕ) (is : ℕ → Bool) (p : Program) → IsAccepted bytes is p → IsFine is p
accepted_fine bytes is p a =
    let early = early_readable bytes is p a.early in record { text = early.text; notes = early.notes; dies = a.dies }

pub files_keep_runs : LiftedFilesKeepRuns
files_keep_runs bytes is p fit a start =
    let linked = files_linked bytes is p fit a.read in
    lifting_keeps p is linked.linked a.read.reached (accepted_fine bytes is p a) (world_of bytes p) start (world_fits bytes is p a.read start)

pub files_good : LiftedFilesAreGood
files_good bytes is p fit a =
    let linked = files_linked bytes is p fit a.read in
    lifted_good p is linked.linked linked.short linked.code_words a.read.reached (accepted_fine bytes is p a)

pub files_follow : LiftedFilesFollow
files_follow bytes is p g fit from =
    subst (Follows (lifted is p)) (sym from.alike.is) (rename_follows (lifted is p) from.alike.name (files_good bytes is p fit from.accepted).graph from.alike.one_to_one)

-- and keep step with it
pub files_keep_step : (bytes : List ℕ) (is : ℕ → Bool) (p : Program) (g : Graph) → AllByRecursion (λ b. b < 256) bytes → IsLiftedFrom bytes is p g → KeepsStep (lifted is p) g
files_keep_step bytes is p g fit from =
    subst (KeepsStep (lifted is p)) (sym from.alike.is) (rename_keeps_step (lifted is p) from.alike.name (files_good bytes is p fit from.accepted).graph from.alike.one_to_one)
