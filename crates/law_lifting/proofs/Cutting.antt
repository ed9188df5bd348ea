-- The lines that are cut from a program's words are the readings of these words.
use Rattle.std.proofs.Common.{◌≡◌, ◌⊎◌, inl, inr, ℕ, ℤ, suc, ◌+◌, Bool, true, false, not, ◌==◌, ◌&&◌, ◌||◌, List, [], ◌∷◌, ◌++◌, map, Some, slice_get, if◌then◌else◌, refl, sym, ap, ◌∙◌, subst, arith}
use Rattle.std.specs.List.{Contains, list_any}
use Rattle.std.proofs.lemmas.Bool.{eqb-true, and_parts, and_from, or_left, or_right, false_from_ne_true, not-true, or_parts}
use Rattle.std.proofs.lemmas.List.Elements.{Contains-append_left, Contains-append_cases}
use Rattle.sq_isa.specs.Registers.{is_among}
use Rattle.sq_isa.specs.declared.instructions.Insn.{Insn}
use Rattle.sq_isa.specs.declared.instructions.Insn.TheVariants.{Jal}
use Rattle.sq_graph.specs.Terms.{goes_on as term_goes_on}
use Rattle.sq_graph.specs.Uses.{term_uses}
use Rattle.sq_graph.specs.Lines.{Line, line_of, term_lines, lines_of}
use Rattle.law_program.specs.Programs.{Word, Text, Note, Program, word_from, word_at, insn_in, target_of}
use Rattle.law_program.specs.Reached.{target_from, jump_target, half_target, insn_goes_on, next_word, insn_leads, marked_leads, word_leads, IsReached, entry, code_word, walk, Decides}
use Rattle.law_program.specs.Readings.{Reading, Links, marked_reading, reading_of}
use Rattle.law_program.specs.Notes.{used_notes, is_in_procedure, is_in_procedures, is_within, is_call, enters_from_outside, insn_enters, marked_enters}
use Rattle.law_program.specs.Lifted.{Form, ItemForm, TermForm, link_form, form_of, form_leads, reading_leads, words_lead, is_leader, is_kept, Rest, procedure_at}
use Rattle.law_lifting.specs.Lifting.{IsMarkedText, IsReadable}
use Rattle.law_lifting.proofs.Lifts.{form_line, closes}
use Rattle.law_lifting.proofs.TextWords.{same_itself, in_text_of}
use Rattle.law_lifting.proofs.Facts.{any_none, one, one_is, none_in, reading_uses, IsSoundWord, UsedBy, ReadWord, read_word, marked_of, used, used_reached, next_reached}
use Rattle.law_lifting.proofs.NoteFacts.{notes_have, notes_find, noted_at, at_number, in_procedure_start, within_next, good_note}
use Rattle.law_lifting.proofs.ReadingFacts.{contains_among, form_uses, form_used, used_form, jump_used, half_used, goes_alike, jal_links}

-- the lines from a place on
abbrev pub rest_lines : Rest → List Line
rest_lines rest = map line_of rest.items ++ term_lines rest.term (lines_of rest.blocks)

pub true_not_false : {A : Type 0} → true ≡ false → A
true_not_false e = absurd (cc)

call_is : (n : Note) (i : Insn) (y : ℕ) → is_call n i y ≡ true → (offset : ℤ) × (i ≡ Jal n.link offset) × (y ≡ n.address)
call_is n (Jal rd offset) y e =
    let a = and_parts (rd == n.link) (y == n.address) e in
    let q : rd ≡ n.link = eqb-true rd n.link a.0 in
    (offset, ap (λ r. Jal r offset) q, eqb-true y n.address a.1)
call_is n i y e = absurd (cc)

-- a leader
leads_by : (is : ℕ → Bool) (ns : List Note) (t : Text) (x at y : ℕ) (w : Word) (words : List Word) → is x ≡ true → word_from x at words ≡ Some w → is_among (reading_leads ns x (reading_of t x w)) y ≡ true → words_lead is ns t at words y ≡ true
leads_by is ns t x at y w [] i e l = absurd (cc)
leads_by is ns t x at y w (v ∷ words) i e l = go (x == at) refl e (λ h. leads_by is ns t x (at + 4) y w words i h l)
  where
    go : (b : Bool) → (x == at) ≡ b → (if b then Some v else word_from x (at + 4) words) ≡ Some w → (word_from x (at + 4) words ≡ Some w → words_lead is ns t (at + 4) words y ≡ true) → words_lead is ns t at (v ∷ words) y ≡ true
    go true b h rec =
        let q : x ≡ at = eqb-true x at b in
        let r : v ≡ w = cc in
        let m : (is x && is_among (reading_leads ns x (reading_of t x v)) y) ≡ true = and_from (is x) (is_among (reading_leads ns x (reading_of t x v)) y) i (subst (λ w. is_among (reading_leads ns x (reading_of t x w)) y ≡ true) (sym r) l) in
        or_left (is at && is_among (reading_leads ns at (reading_of t at v)) y) (words_lead is ns t (at + 4) words y) (subst (λ z. (is z && is_among (reading_leads ns z (reading_of t z v)) y) ≡ true) q m)
    go false b h rec = or_right (is at && is_among (reading_leads ns at (reading_of t at v)) y) (words_lead is ns t (at + 4) words y) (rec h)

module _ (p : Program) (is : ℕ → Bool) (marked : IsMarkedText p.text) (dec : Decides p is) (fine : IsReadable is p) where
  abbrev pub t : Text
  t = p.text

  abbrev pub ns : List Note
  ns = used_notes is p.notes

  abbrev pub keep : ℕ → Bool
  keep = is_kept is ns

  abbrev pub lead : ℕ → Bool
  lead = is_leader is ns p

  abbrev pub Sound : ℕ → Word → Type 0
  Sound x w = IsSoundWord p.text x w

  abbrev pub Read : ℕ → Type 0
  Read x = ReadWord p is marked dec fine.text x

  pub kept_is : (x : ℕ) → keep x ≡ true → (is x ≡ true) × (is_in_procedures ns x ≡ false)
  kept_is x k = let a = and_parts (is x) (not (is_in_procedures ns x)) k in (a.0, not-true (is_in_procedures ns x) a.1)

  pub kept_from : (x : ℕ) → is x ≡ true → is_in_procedures ns x ≡ false → keep x ≡ true
  kept_from x i n = rw (i, n) refl

  pub read_at : (x : ℕ) → is x ≡ true → Read x
  read_at x i = read_word p is marked dec fine.text x i

  -- NOTHING ENTERS A PROCEDURE

  entering : (x : ℕ) (w : Word) (s : Sound x w) (q : ℕ) (n : Note) → is x ≡ true → word_at t x ≡ Some w → slice_get ns q ≡ Some n → insn_enters n x w.mark s.insn ≡ false
  entering x w s q n i e h =
      let good = good_note is p q n fine.notes h in
      subst (λ o. marked_enters n x w.mark o ≡ false) s.is (good.words x w i e)

  pub halves_out : (x y : ℕ) (w : Word) (s : Sound x w) → is x ≡ true → word_at t x ≡ Some w → Contains (half_target w.mark) y → is_in_procedures ns y ≡ false
  halves_out x y w s i e c = false_from_ne_true (is_in_procedures ns y) (λ b.
      let f = notes_find ns y b in
      let a = or_parts (list_any (is_in_procedure f.note) (half_target w.mark)) (enters_from_outside f.note x s.insn) (entering x w s f.number f.note i e f.there) in
      true_not_false (sym f.holds ∙ any_none (is_in_procedure f.note) (half_target w.mark) y a.0 c))

  no_procedure : (x q : ℕ) (n : Note) → is_in_procedures ns x ≡ false → slice_get ns q ≡ Some n → is_in_procedure n x ≡ false
  no_procedure x q n k e = false_from_ne_true (is_in_procedure n x) (λ b. true_not_false (sym (notes_have ns q x n e b) ∙ k))

  -- from outside neither the next word nor a target is in a procedure, but by a `jal` with its link to its first word
  outside : (x : ℕ) (w : Word) (s : Sound x w) (q : ℕ) (n : Note) → keep x ≡ true → word_at t x ≡ Some w → slice_get ns q ≡ Some n → (list_any (is_in_procedure n) (next_word x s.insn) ≡ false) × (list_any (λ z. is_in_procedure n z && not (is_call n s.insn z)) (jump_target x s.insn) ≡ false)
  outside x w s q n k e h =
      let i = kept_is x k in
      let a = or_parts (list_any (is_in_procedure n) (half_target w.mark)) (enters_from_outside n x s.insn) (entering x w s q n i.0 e h) in
      let o = no_procedure x q n i.1 h in
      or_parts (list_any (is_in_procedure n) (next_word x s.insn)) (list_any (λ z. is_in_procedure n z && not (is_call n s.insn z)) (jump_target x s.insn))
      (subst (λ b. (not b && (list_any (is_in_procedure n) (next_word x s.insn) || list_any (λ z. is_in_procedure n z && not (is_call n s.insn z)) (jump_target x s.insn))) ≡ false) o a.1)

  next_out : (x : ℕ) (w : Word) (s : Sound x w) → keep x ≡ true → word_at t x ≡ Some w → insn_goes_on s.insn ≡ true → is_in_procedures ns (x + 4) ≡ false
  next_out x w s k e g = false_from_ne_true (is_in_procedures ns (x + 4)) (λ b.
      let f = notes_find ns (x + 4) b in
      let a = outside x w s f.number f.note k e f.there in
      let c : Contains (next_word x s.insn) (x + 4) = rw g (one (x + 4)) in
      true_not_false (sym f.holds ∙ any_none (is_in_procedure f.note) (next_word x s.insn) (x + 4) a.0 c))

  pub door : (x y : ℕ) (w : Word) (s : Sound x w) (q : ℕ) (n : Note) → keep x ≡ true → word_at t x ≡ Some w → slice_get ns q ≡ Some n → Contains (jump_target x s.insn) y → is_in_procedure n y ≡ true → (offset : ℤ) × (s.insn ≡ Jal n.link offset) × (y ≡ n.address)
  door x y w s q n k e h c b =
      let a = outside x w s q n k e h in
      let d = any_none (λ z. is_in_procedure n z && not (is_call n s.insn z)) (jump_target x s.insn) y a.1 c in
      let f : not (is_call n s.insn y) ≡ false = subst (λ b. (b && not (is_call n s.insn y)) ≡ false) b d in
      call_is n s.insn y (not_false_is (is_call n s.insn y) f)
    where
      not_false_is : (b : Bool) → not b ≡ false → b ≡ true
      not_false_is true e = refl
      not_false_is false e = absurd (cc)

  -- KEPT WORDS

  pub next_kept : (x : ℕ) (w : Word) (s : Sound x w) → keep x ≡ true → word_at t x ≡ Some w → insn_goes_on s.insn ≡ true → keep (x + 4) ≡ true
  next_kept x w s k e g = kept_from (x + 4) (next_reached p is marked dec fine.text x w s (kept_is x k).0 e g) (next_out x w s k e g)

  -- what a form uses is no procedure's word
  jump_out : (x y : ℕ) (w : Word) (r : Reading) (s : Sound x w) → keep x ≡ true → word_at t x ≡ Some w → reading_of t x w ≡ Some r → Contains (form_uses (form_of ns r)) y → Contains (jump_target x s.insn) y → is_in_procedures ns y ≡ false
  jump_out x y w r s k e rd c j = false_from_ne_true (is_in_procedures ns y) (λ b.
      let f = notes_find ns y b in
      let d = door x y w s f.number f.note k e f.there j f.holds in
      let good = good_note is p f.number f.note fine.notes f.there in
      let m : marked_reading t x w.mark (Jal f.note.link d.0) ≡ Some r = subst (λ i. marked_reading t x w.mark i ≡ Some r) d.1 (marked_of p is marked dec fine.text x w r s rd) in
      let l = jal_links t x f.note.link d.0 w.mark r good.link m in
      let u : Contains (reading_uses r) y = form_used ns r y c in
      linked f.note (target_from x d.0) r l c u (noted_at ns f.number f.note f.there) d.2)
    where
      linked : (n : Note) (to : ℕ) (r : Reading) → r ≡ Links n.link to → Contains (form_uses (form_of ns r)) y → Contains (reading_uses r) y → (q : ℕ) × (procedure_at ns n.address ≡ Some q) → y ≡ n.address → ⊥
      linked n to r l c u q a =
          let v : to ≡ y = one_is to y (subst (λ r. Contains (reading_uses r) y) l u) in
          let h : procedure_at ns to ≡ Some q.0 = rw (v ∙ a) q.1 in
          let d : Contains (form_uses (form_of ns (Links n.link to))) y = subst (λ r. Contains (form_uses (form_of ns r)) y) l c in
          none_in y (subst (λ o. Contains (form_uses (link_form n.link to o)) y) h d)

  pub used_kept : (x y : ℕ) (w : Word) (r : Reading) (s : Sound x w) → keep x ≡ true → word_at t x ≡ Some w → reading_of t x w ≡ Some r → Contains (form_uses (form_of ns r)) y → keep y ≡ true
  used_kept x y w r s k e rd c =
      let u = used p is marked dec fine.text x y w r s rd (form_used ns r y c) in
      kept_from y (used_reached p is marked dec fine.text x y w s (kept_is x k).0 e u) (go u)
    where
      go : UsedBy t x w.mark s.insn y → is_in_procedures ns y ≡ false
      go (inl j) = jump_out x y w r s k e rd c j
      go (inr h) = halves_out x y w s (kept_is x k).0 e h.0

  -- LEADERS

  pub lead_of : (x y : ℕ) (w : Word) (r : Reading) → is x ≡ true → word_at t x ≡ Some w → reading_of t x w ≡ Some r → Contains (form_leads x (form_of ns r)) y → lead y ≡ true
  lead_of x y w r i e rd c =
      or_right (p.entry == y || is_among (map target_of p.code_words) y) (words_lead is ns t t.lo t.words y)
      (leads_by is ns t x t.lo y w t.words i e (rw rd (contains_among (form_leads x (form_of ns r)) y c)))

  uses_lead : (x y : ℕ) (shape : Form) → Contains (form_uses shape) y → Contains (form_leads x shape) y
  uses_lead x y (ItemForm item) c = c
  uses_lead x y (TermForm term) c = Contains-append_left (term_uses term) (if term_goes_on term then (x + 4) ∷ [] else []) y c

  pub lead_used : (x y : ℕ) (w : Word) (r : Reading) → is x ≡ true → word_at t x ≡ Some w → reading_of t x w ≡ Some r → Contains (form_uses (form_of ns r)) y → lead y ≡ true
  lead_used x y w r i e rd c = lead_of x y w r i e rd (uses_lead x y (form_of ns r) c)

  pub lead_entry : lead p.entry ≡ true
  lead_entry = or_left (p.entry == p.entry || is_among (map target_of p.code_words) p.entry) (words_lead is ns t t.lo t.words p.entry) (or_left (p.entry == p.entry) (is_among (map target_of p.code_words) p.entry) (same_itself p.entry))

  pub lead_code : (y : ℕ) → Contains (map target_of p.code_words) y → lead y ≡ true
  lead_code y c =
      or_left (p.entry == y || is_among (map target_of p.code_words) y) (words_lead is ns t t.lo t.words y)
      (or_right (p.entry == y) (is_among (map target_of p.code_words) y) (contains_among (map target_of p.code_words) y c))

  -- what goes on to a kept word that is no leader
  pub record IsBehind (y : ℕ) : Type 0 where
    pub pc : ℕ
    pub next : pc + 4 ≡ y
    pub kept : keep pc ≡ true
    pub read : Read pc
    pub goes : closes (form_line (form_of ns read.reading)) ≡ false

  pub behind : (y : ℕ) → IsReached p y → is_in_procedures ns y ≡ false → lead y ≡ false → IsBehind y
  behind y (entry w) n l = true_not_false (sym lead_entry ∙ l)
  behind y (code_word c w) n l = true_not_false (sym (lead_code y c) ∙ l)
  behind y (walk {x = x} h c v) n l =
      let i = dec.all x h in
      let rd = read_at x i in
      let s = rd.sound in
      let d : Contains (insn_leads x rd.word.mark s.insn) y = let c' : Contains (word_leads x (word_at t x)) y = c in go_there x rd.word s.insn rd.there s.is c' in
      cases x i rd (Contains-append_cases (jump_target x s.insn ++ half_target rd.word.mark) (next_word x s.insn) y d)
    where
      go_there : (x : ℕ) (w : Word) (i : Insn) → word_at t x ≡ Some w → insn_in w ≡ Some i → Contains (word_leads x (word_at t x)) y → Contains (insn_leads x w.mark i) y
      go_there x w i e f c = subst (λ o. Contains (marked_leads x w.mark o) y) f (subst (λ o. Contains (word_leads x o) y) e c)

      named : (x : ℕ) → is x ≡ true → (rd : Read x) → Contains (reading_uses rd.reading) y → IsBehind y
      named x i rd u = pick (used_form ns rd.reading y u)
        where
          pick : Contains (form_uses (form_of ns rd.reading)) y ⊎ ((q : ℕ) × (procedure_at ns y ≡ Some q)) → IsBehind y
          pick (inl c) = true_not_false (sym (lead_used x y rd.word rd.reading i rd.there rd.reads c) ∙ l)
          pick (inr q) =
              let a = at_number ns y q.0 q.1 in
              true_not_false (sym (notes_have ns q.0 y a.0 a.1 (subst (λ z. is_in_procedure a.0 z ≡ true) a.2 (in_procedure_start a.0))) ∙ n)

      onto : (x : ℕ) → is x ≡ true → (rd : Read x) → insn_goes_on rd.sound.insn ≡ true → x + 4 ≡ y → IsBehind y
      onto x i rd g e = pick (is_in_procedures ns x) refl
        where
          m : marked_reading t x rd.word.mark rd.sound.insn ≡ Some rd.reading
          m = marked_of p is marked dec fine.text x rd.word rd.reading rd.sound rd.reads

          pick : (b : Bool) → is_in_procedures ns x ≡ b → IsBehind y
          pick false k = record { pc = x; next = e; kept = kept_from x i k; read = rd; goes = not-true (closes (form_line (form_of ns rd.reading))) (goes_alike ns t x rd.word.mark rd.sound.insn rd.reading m ∙ g) }
          pick true k =
              let f = notes_find ns x k in
              let good = good_note is p f.number f.note fine.notes f.there in
              let len : f.note.length + 1 ≡ suc f.note.length = omega arith in
              let here = subst (λ z. is_within f.note.address z x ≡ true) len f.holds in
              let there = within_next t f.note.link f.note.address f.note.length x rd.word rd.sound.insn good.body here rd.there rd.sound.is g in
              true_not_false (sym (notes_have ns f.number y f.note f.there (subst (λ z. is_in_procedure f.note z ≡ true) e (subst (λ z. is_within f.note.address z (x + 4) ≡ true) (sym len) there))) ∙ n)

      next_is : (x : ℕ) (i : Insn) → Contains (next_word x i) y → (insn_goes_on i ≡ true) × (x + 4 ≡ y)
      next_is x i c = pick (insn_goes_on i) refl c
        where
          pick : (b : Bool) → insn_goes_on i ≡ b → Contains (if b then (x + 4) ∷ [] else []) y → (insn_goes_on i ≡ true) × (x + 4 ≡ y)
          pick true g c = (g, one_is (x + 4) y c)
          pick false g c = none_in y c

      halved : (x : ℕ) → is x ≡ true → (rd : Read x) → Contains (half_target rd.word.mark) y → IsBehind y
      halved x i rd c = named x i rd (half_used t x rd.word.mark rd.sound.insn rd.reading y (marked_of p is marked dec fine.text x rd.word rd.reading rd.sound rd.reads) c (in_text_of t y v))

      cases : (x : ℕ) → is x ≡ true → (rd : Read x) → Contains (jump_target x rd.sound.insn ++ half_target rd.word.mark) y ⊎ Contains (next_word x rd.sound.insn) y → IsBehind y
      cases x i rd (inr c) = let a = next_is x rd.sound.insn c in onto x i rd a.0 a.1
      cases x i rd (inl c) = pick (Contains-append_cases (jump_target x rd.sound.insn) (half_target rd.word.mark) y c)
        where
          pick : Contains (jump_target x rd.sound.insn) y ⊎ Contains (half_target rd.word.mark) y → IsBehind y
          pick (inl j) = named x i rd (jump_used t x rd.word.mark rd.sound.insn rd.reading y (marked_of p is marked dec fine.text x rd.word rd.reading rd.sound rd.reads) j)
          pick (inr h) = halved x i rd h
