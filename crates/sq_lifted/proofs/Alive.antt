-- The first note whose procedure's link is live behind a call.
use Rattle.std.proofs.Common.{◌≡◌, ℕ, zero, suc, ◌+◌, ◌<◌, inl, inr, Bool, true, false, List, [], ◌∷◌, length, get_or, Some, None, slice_get, if◌then◌else◌, refl, sym, ap, ◌∙◌, subst, arith}
use Rattle.std.specs.Option.{option_map}
use Rattle.std.proofs.lemmas.List.{length-map}
use Rattle.std.proofs.lemmas.Bool.{cases_lt}
use Rattle.std.proofs.lemmas.Option.{slice_get-map, slice_get-get_or}
use Rattle.sq_graph.specs.Graph.{Graph}
use Rattle.sq_graph.specs.Blocks.{procedure_link, link_of}
use Rattle.sq_graph.specs.Rules.{IsGraph}
use Rattle.sq_graph.specs.Renames.{retargeted_procedure, renamed}
use Rattle.sq_graph.specs.Lines.{lines_of}
use Rattle.law_program.specs.Programs.{Note, Program}
use Rattle.law_program.specs.Notes.{used_notes}
use Rattle.law_program.specs.Lifted.{procedure_of, procedure_at, lifted}
use Rattle.sq_graph.specs.Alike.{AreAlike}
use Rattle.law_program.specs.FilePrograms.{LinkDies, NoteDies, IsFirstAlive}
use Rattle.law_lifting.specs.Lifting.{IsReadable, NotesDie}
use Rattle.law_lifting.proofs.NoteFacts.{at_number, used_good, own_number}
use Rattle.sq_lifted.specs.LiveLinks.{AreLiveLinks, first_set}
use Rattle.sq_lifted.proofs.RenamedLinks.{all_die, all_died}

pub in_range : {A : Type 0} (xs : List A) (i : ℕ) (x : A) → slice_get xs i ≡ Some x → i < length xs
in_range [] i x e = absurd (cc)
in_range (y ∷ xs) zero x e = omega arith
in_range (y ∷ xs) (suc i) x e = let h = in_range xs i x e in omega (arith, h)

module _ (is : ℕ → Bool) (p : Program) (readable : IsReadable is p) (rules : IsGraph (lifted is p)) (made : Graph) (alike : AreAlike (lifted is p) made) where
  abbrev g : Graph
  g = lifted is p

  abbrev used : List Note
  used = used_notes is p.notes

  abbrev other : Graph
  other = renamed alike.name g

  pub procedures_count : length made.procedures ≡ length used
  procedures_count =
      ap (λ (g : Graph). length g.procedures) alike.is
      ∙ length-map g.procedures (retargeted_procedure alike.name)
      ∙ length-map used (procedure_of p.text)

  link_is : (q : ℕ) (n : Note) → slice_get used q ≡ Some n → link_of other q ≡ Some n.link
  link_is q n there =
      ap procedure_link
      (slice_get-map (retargeted_procedure alike.name) g.procedures q
      ∙ ap (option_map (retargeted_procedure alike.name)) (slice_get-map (procedure_of p.text) used q ∙ ap (option_map (procedure_of p.text)) there))

  own : (q : ℕ) (n : Note) → slice_get used q ≡ Some n → procedure_at used n.address ≡ Some q
  own q n there = own_number is p None 1 p.notes q n readable.notes there

  -- a note whose address isn't reached asks nothing
  unreached : (n : Note) → is n.address ≡ false → NoteDies is p n
  unreached n never procedure at =
      let m = at_number used n.address procedure at in
      let reached : is m.0.address ≡ true = (used_good is p None 1 p.notes procedure m.0 readable.notes m.1).reached in
      let same : is m.0.address ≡ is n.address = ap is m.2 in
      absurd (cc)

  module _ (flags : List Bool) (are : AreLiveLinks made flags) where
    links : AreLiveLinks other flags
    links = subst (λ made. AreLiveLinks made flags) alike.is are

    flag_is : (q : ℕ) (n : Note) → slice_get used q ≡ Some n → slice_get flags q ≡ Some (get_or flags q false)
    flag_is q n there =
        let below = in_range used q n there in
        slice_get-get_or flags q false (omega (arith, below, are.count, procedures_count))

    dies : (q : ℕ) (n : Note) → slice_get used q ≡ Some n → get_or flags q false ≡ false → NoteDies is p n
    dies q n there unset procedure at =
        let both : Some q ≡ Some procedure = sym (own q n there) ∙ at in
        let same : q ≡ procedure = cc in
        let link = links.dead q n.link (link_is q n there) (flag_is q n there ∙ ap Some unset) in
        subst (λ k. LinkDies g k n.link (lines_of g.blocks)) same (all_died alike.name g rules alike.one_to_one q n.link link)

    lives : (q : ℕ) (n : Note) → slice_get used q ≡ Some n → get_or flags q false ≡ true → ¬ NoteDies is p n
    lives q n there set h =
        links.live q n.link (link_is q n there) (flag_is q n there ∙ ap Some set) (all_die alike.name g rules alike.one_to_one q n.link (h q (own q n there)))

    -- these are the used notes from number q on
    abbrev IsRest : ℕ → List Note → Type 0
    IsRest q notes = (k : ℕ) (n : Note) → slice_get notes k ≡ Some n → slice_get used (q + k) ≡ Some n

    rest_first : (q : ℕ) (m : Note) (notes : List Note) → IsRest q (m ∷ notes) → slice_get used q ≡ Some m
    rest_first q m notes s = let same : q + 0 ≡ q = omega arith in ap (slice_get used) (sym same) ∙ s 0 m refl

    rest_behind : (q : ℕ) (m : Note) (notes : List Note) → IsRest q (m ∷ notes) → IsRest (q + 1) notes
    rest_behind q m notes s k n h = let same : q + suc k ≡ q + 1 + k = omega arith in ap (slice_get used) (sym same) ∙ s (suc k) n h

    abbrev AllDie : List Note → Type 0
    AllDie rest = (j : ℕ) (n : Note) → slice_get rest j ≡ Some n → NoteDies is p n

    one_dies : (m : Note) (rest : List Note) → NoteDies is p m → AllDie rest → AllDie (m ∷ rest)
    one_dies m rest h all zero n e = let same : m ≡ n = cc in subst (λ n. NoteDies is p n) same h
    one_dies m rest h all (suc j) n e = all j n e

    none_alive : (q i : ℕ) (rest : List Note) → IsRest q (used_notes is rest) → first_set is flags q i rest ≡ None → AllDie rest
    none_alive q i [] s e = λ j n h. absurd (cc)
    none_alive q i (m ∷ rest) s e = by (is m.address) refl s e (λ q s e. none_alive q (i + 1) rest s e)
      where
        flagged : (b : Bool) → get_or flags q false ≡ b → IsRest q (m ∷ used_notes is rest) → (if b then Some i else first_set is flags (q + 1) (i + 1) rest) ≡ None → ((q : ℕ) → IsRest q (used_notes is rest) → first_set is flags q (i + 1) rest ≡ None → AllDie rest) → AllDie (m ∷ rest)
        flagged true f s e behind = absurd (cc)
        flagged false f s e behind = one_dies m rest (dies q m (rest_first q m (used_notes is rest) s) f) (behind (q + 1) (rest_behind q m (used_notes is rest) s) e)

        by : (b : Bool) → is m.address ≡ b → IsRest q (if b then m ∷ used_notes is rest else used_notes is rest) → (if b then (if get_or flags q false then Some i else first_set is flags (q + 1) (i + 1) rest) else first_set is flags q (i + 1) rest) ≡ None → ((q : ℕ) → IsRest q (used_notes is rest) → first_set is flags q (i + 1) rest ≡ None → AllDie rest) → AllDie (m ∷ rest)
        by true at s e behind = flagged (get_or flags q false) refl s e behind
        by false at s e behind = one_dies m rest (unreached m at) (behind q s e)

    record IsFirstIn (i : ℕ) (rest : List Note) (entry : ℕ) : Type 0 where
      place : ℕ
      is_at : entry ≡ i + place
      before : (k : ℕ) (n : Note) → k < place → slice_get rest k ≡ Some n → NoteDies is p n
      note : Note
      there : slice_get rest place ≡ Some note
      alive : ¬ NoteDies is p note

    one_before : (i : ℕ) (m : Note) (rest : List Note) (entry : ℕ) → NoteDies is p m → IsFirstIn (i + 1) rest entry → IsFirstIn i (m ∷ rest) entry
    one_before i m rest entry h first = record { place = suc first.place; is_at = let at = first.is_at in omega (arith, at); before = earlier; note = first.note; there = first.there; alive = first.alive }
      where
        earlier : (k : ℕ) (n : Note) → k < suc first.place → slice_get (m ∷ rest) k ≡ Some n → NoteDies is p n
        earlier zero n below e = let same : m ≡ n = cc in subst (λ n. NoteDies is p n) same h
        earlier (suc k) n below e = first.before k n (omega (arith, below)) e

    some_alive : (q i : ℕ) (rest : List Note) (entry : ℕ) → IsRest q (used_notes is rest) → first_set is flags q i rest ≡ Some entry → IsFirstIn i rest entry
    some_alive q i [] entry s e = absurd (cc)
    some_alive q i (m ∷ rest) entry s e = by (is m.address) refl s e (λ q s e. some_alive q (i + 1) rest entry s e)
      where
        flagged : (b : Bool) → get_or flags q false ≡ b → IsRest q (m ∷ used_notes is rest) → (if b then Some i else first_set is flags (q + 1) (i + 1) rest) ≡ Some entry → ((q : ℕ) → IsRest q (used_notes is rest) → first_set is flags q (i + 1) rest ≡ Some entry → IsFirstIn (i + 1) rest entry) → IsFirstIn i (m ∷ rest) entry
        flagged true f s e behind =
            let here : i ≡ entry = cc in
            record { place = 0; is_at = omega (arith, here); before = λ k n below. absurd (omega (arith, below)); note = m; there = refl; alive = lives q m (rest_first q m (used_notes is rest) s) f }
        flagged false f s e behind = one_before i m rest entry (dies q m (rest_first q m (used_notes is rest) s) f) (behind (q + 1) (rest_behind q m (used_notes is rest) s) e)

        by : (b : Bool) → is m.address ≡ b → IsRest q (if b then m ∷ used_notes is rest else used_notes is rest) → (if b then (if get_or flags q false then Some i else first_set is flags (q + 1) (i + 1) rest) else first_set is flags q (i + 1) rest) ≡ Some entry → ((q : ℕ) → IsRest q (used_notes is rest) → first_set is flags q (i + 1) rest ≡ Some entry → IsFirstIn (i + 1) rest entry) → IsFirstIn i (m ∷ rest) entry
        by true at s e behind = flagged (get_or flags q false) refl s e behind
        by false at s e behind = one_before i m rest entry (unreached m at) (behind q s e)

    all_used : IsRest 0 used
    all_used k n h = let same : 0 + k ≡ k = omega arith in ap (slice_get used) same ∙ h

    pub no_first : first_set is flags 0 0 p.notes ≡ None → NotesDie is p
    no_first e = none_alive 0 0 p.notes all_used e

    pub a_first : (entry : ℕ) → first_set is flags 0 0 p.notes ≡ Some entry → IsFirstAlive is p entry
    a_first entry e =
        let first = some_alive 0 0 p.notes entry all_used e in
        let same : entry ≡ first.place = (let at = first.is_at in omega (arith, at)) in
        subst (IsFirstAlive is p) (sym same) (record { before = first.before; note = first.note; there = first.there; alive = first.alive })

-- one note is the first
pub one_first : (is : ℕ → Bool) (p : Program) (i j : ℕ) → IsFirstAlive is p i → IsFirstAlive is p j → i ≡ j
one_first is p i j a b =
    elim (cases_lt i j) [
      | inl below ↦ absurd (a.alive (b.before i a.note below a.there))
      | inr above ↦
          elim (cases_lt j i) [
            | inl below ↦ absurd (b.alive (a.before j b.note below b.there))
            | inr other ↦ omega (arith, above, other)
          ]
    ]
