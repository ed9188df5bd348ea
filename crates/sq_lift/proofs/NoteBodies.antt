-- Noted procedures by what leads to each word.
use Rattle.std.proofs.Common.{◌≡◌, ℕ, zero, suc, ◌+◌, ◌-◌, ◌*◌, ◌<◌, ◌≤◌, Bool, true, false, not, ◌==◌, ◌&&◌, ◌||◌, nat_eq, List, [], ◌∷◌, length, drop, get_or, Option, Some, None, inl, inr, refl, sym, ap, ◌∙◌, subst, arith, if◌then◌else◌}
use Rattle.std.specs.Prelude.{slice_get}
use Rattle.std.specs.Option.{option_and_then, unwrap_or}
use Rattle.std.proofs.lemmas.Bool.{cases_Bool, eqb-true, eq-eqb, and_parts, or_right}
use Rattle.std.proofs.Math.Seq.{drop-cons}
use Rattle.sq_isa.specs.declared.instructions.Insn.{Insn}
use Rattle.sq_isa.specs.declared.instructions.Insn.TheVariants.{Lui, Auipc, Jal, Jalr, Branch as BranchInsn, Load, Store, OpImm, Op as OpInsn, Fence, Ecall, Ebreak, Unimp, Atomic}
use Rattle.sq_reloc.specs.declared.mark.Mark.{Mark}
use Rattle.sq_reloc.specs.declared.mark.Mark.TheVariants.{Plain, Hi, Lo, Unsupported, Disagrees, Conflict, Lone}
use Rattle.sq_graph.specs.declared.item.Item.{Item}
use Rattle.sq_graph.specs.declared.item.Term.TheVariants.{Jump}
use Rattle.law_program.specs.Programs.{Word, Text, Note, Program, word_at, insn_in}
use Rattle.law_program.specs.Reached.{target_from, jump_target}
use Rattle.law_program.specs.Readings.{Reading, IsItem, IsTerm, Links, jal_reading, marked_reading, reading_of, reading_at}
use Rattle.law_program.specs.Notes.{is_within, is_item_without, returns_through, is_return, has_body, is_procedure, is_in_order, is_entered, is_good_note, bad_note_from, is_plain}
use Rattle.sq_lift.specs.declared.entrances.Entrance.{Entrance}
use Rattle.sq_lift.specs.declared.entrances.Entrance.TheVariants.{Closed}
use Rattle.sq_lift.specs.Places.{place_of}
use Rattle.sq_lift.specs.Entrances.{entrance_of, Entrances, entrance_at, entrance_in, AreEntrances, is_entered_but_by, is_open, some_open, is_fallen_into, is_entered_by, is_good_by}
use Rattle.sq_lift.proofs.Placed.{place_is, past}
use Rattle.sq_lift.proofs.Entered.{entered_by_words}

-- A WORD OF A BODY

-- it is there, and no branch or `jal` stands in it
pub record IsBodyWord (t : Text) (x : ℕ) : Type 0 where
  pub word : Word
  pub there : word_at t x ≡ Some word
  pub straight : (insn : Insn) → insn_in word ≡ Some insn → jump_target x insn ≡ []

jal_is_no_item : (rd to : ℕ) (item : Item) → jal_reading rd to ≡ IsItem item → ⊥
jal_is_no_item rd to item e = go (rd == 0) e
  where
    go : (b : Bool) → (if b then IsTerm (Jump to) else Links rd to) ≡ IsItem item → ⊥
    go true e = cc
    go false e = cc

-- what reads as an item is no jump
item_straight : (t : Text) (x : ℕ) (mark : Mark) (insn : Insn) (item : Item) → marked_reading t x mark insn ≡ Some (IsItem item) → jump_target x insn ≡ []
item_straight t x mark (Jal rd offset) item e = absurd (by_mark mark e)
  where
    some_item : (r : Reading) → Some r ≡ Some (IsItem item) → r ≡ IsItem item
    some_item r e = cc

    by_mark : (mark : Mark) → marked_reading t x mark (Jal rd offset) ≡ Some (IsItem item) → ⊥
    by_mark Plain e = jal_is_no_item rd (target_from x offset) item (some_item (jal_reading rd (target_from x offset)) e)
    by_mark (Hi to) e = cc
    by_mark (Lo to) e = cc
    by_mark (Unsupported kind) e = cc
    by_mark (Disagrees kind) e = cc
    by_mark Conflict e = cc
    by_mark Lone e = cc
item_straight t x mark (BranchInsn cond a b offset) item e = absurd (by_mark mark e)
  where
    by_mark : (mark : Mark) → marked_reading t x mark (BranchInsn cond a b offset) ≡ Some (IsItem item) → ⊥
    by_mark Plain e = cc
    by_mark (Hi to) e = cc
    by_mark (Lo to) e = cc
    by_mark (Unsupported kind) e = cc
    by_mark (Disagrees kind) e = cc
    by_mark Conflict e = cc
    by_mark Lone e = cc
item_straight t x mark (Lui rd upper) item e = refl
item_straight t x mark (Auipc rd upper) item e = refl
item_straight t x mark (Jalr rd rs offset) item e = refl
item_straight t x mark (Load kind rd rs offset) item e = refl
item_straight t x mark (Store kind rs src offset) item e = refl
item_straight t x mark (OpImm op rd rs imm) item e = refl
item_straight t x mark (OpInsn op rd a b) item e = refl
item_straight t x mark (Fence word) item e = refl
item_straight t x mark Ecall item e = refl
item_straight t x mark Ebreak item e = refl
item_straight t x mark (Unimp word) item e = refl
item_straight t x mark (Atomic op order rd rs src) item e = refl

item_word : (t : Text) (link x : ℕ) → is_item_without link (reading_at t x) ≡ true → IsBodyWord t x
item_word t link x e = by_word (word_at t x) refl e
  where
    by_word : (o : Option Word) → word_at t x ≡ o → is_item_without link (option_and_then (reading_of t x) o) ≡ true → IsBodyWord t x
    by_word None there e = absurd (cc)
    by_word (Some w) there e = record {
      word = w;
      there = there;
      straight = λ insn is. by_reading insn (marked_reading t x w.mark insn) refl (subst (λ o. is_item_without link (option_and_then (marked_reading t x w.mark) o) ≡ true) is e);
    }
      where
        by_reading : (insn : Insn) (r : Option Reading) → marked_reading t x w.mark insn ≡ r → is_item_without link r ≡ true → jump_target x insn ≡ []
        by_reading insn None is e = absurd (cc)
        by_reading insn (Some (IsItem item)) is e = item_straight t x w.mark insn item is
        by_reading insn (Some (IsTerm term)) is e = absurd (cc)
        by_reading insn (Some (Links r to)) is e = absurd (cc)

return_straight : (x link : ℕ) (insn : Insn) → returns_through link (Some insn) ≡ true → jump_target x insn ≡ []
return_straight x link (Jal rd offset) e = absurd (cc)
return_straight x link (BranchInsn cond a b offset) e = absurd (cc)
return_straight x link (Lui rd upper) e = refl
return_straight x link (Auipc rd upper) e = refl
return_straight x link (Jalr rd rs offset) e = refl
return_straight x link (Load kind rd rs offset) e = refl
return_straight x link (Store kind rs src offset) e = refl
return_straight x link (OpImm op rd rs imm) e = refl
return_straight x link (OpInsn op rd a b) e = refl
return_straight x link (Fence word) e = refl
return_straight x link Ecall e = refl
return_straight x link Ebreak e = refl
return_straight x link (Unimp word) e = refl
return_straight x link (Atomic op order rd rs src) e = refl

return_word : (t : Text) (link x : ℕ) → is_return link (word_at t x) ≡ true → IsBodyWord t x
return_word t link x e = by_word (word_at t x) refl e
  where
    by_word : (o : Option Word) → word_at t x ≡ o → is_return link o ≡ true → IsBodyWord t x
    by_word None there e = absurd (cc)
    by_word (Some w) there e = record {
      word = w;
      there = there;
      straight = λ insn is. return_straight x link insn (subst (λ o. returns_through link o ≡ true) is (and_parts (is_plain w.mark) (returns_through link (insn_in w)) e).1);
    }

pub body_word : (t : Text) (link at n x : ℕ) → has_body t link at n ≡ true → is_within at (suc n) x ≡ true → IsBodyWord t x
body_word t link at zero x body within =
    elim (cases_Bool (nat_eq at x)) [
      | inl here ↦ return_word t link x (subst (λ y. is_return link (word_at t y) ≡ true) (eqb-true at x here) body)
      | inr apart ↦ absurd (let none : false ≡ true = rw apart at within in cc)
    ]
body_word t link at (suc n) x body within =
    let parts = and_parts (is_item_without link (reading_at t at)) (has_body t link (at + 4) n) body in
    elim (cases_Bool (nat_eq at x)) [
      | inl here ↦ item_word t link x (subst (λ y. is_item_without link (reading_at t y) ≡ true) (eqb-true at x here) parts.0)
      | inr apart ↦ body_word t link (at + 4) n x parts.1 (rw apart at within)
    ]

-- where no word stands there is no body
pub no_body : (t : Text) (link at n : ℕ) → word_at t at ≡ None → has_body t link at n ≡ false
no_body t link at zero none = rw none refl
no_body t link at (suc n) none = rw none refl

-- a body word by word
pub body_next : (t : Text) (link at left : ℕ) → is_item_without link (reading_at t at) ≡ true → 0 < left → has_body t link at left ≡ has_body t link (at + 4) (left - 1)
body_next t link at zero item some = absurd (omega (arith, some))
body_next t link at (suc left) item some = let e : suc left - 1 ≡ left = omega arith in rw (item, e) refl

pub body_stops : (t : Text) (link at left : ℕ) → is_item_without link (reading_at t at) ≡ false → 0 < left → has_body t link at left ≡ false
body_stops t link at zero item some = absurd (omega (arith, some))
body_stops t link at (suc left) item some = rw item refl

-- BY THE TABLE

-- past the last word nothing leads anywhere
closed_past : (e : Entrances) (x : ℕ) → e.lo + 4 * length e.entrances ≤ x → entrance_in e x ≡ Closed
unfolding entrance_at
closed_past e x far = by_place (place_of e.lo x) refl
  where
    by_place : (p : Option ℕ) → place_of e.lo x ≡ p → unwrap_or (option_and_then (slice_get e.entrances) p) Closed ≡ Closed
    by_place None is = refl
    by_place (Some k) is = rw (past e.entrances k (omega (arith, place_is e.lo x k is, far))) refl

pub none_open_past : (e : Entrances) (x n : ℕ) → e.lo + 4 * length e.entrances ≤ x → some_open (entrance_in e) x n ≡ false
none_open_past e x zero far = refl
none_open_past e x (suc n) far = (λ i. is_open (closed_past e x far i) || none_open_past e (x + 4) n (omega (arith, far)) i)

-- word by word
pub open_next : (f : ℕ → Entrance) (at left : ℕ) → is_open (f at) ≡ false → 0 < left → some_open f at left ≡ some_open f (at + 4) (left - 1)
open_next f at zero closed some = absurd (omega (arith, some))
open_next f at (suc left) closed some = let e : suc left - 1 ≡ left = omega arith in rw (closed, e) refl

pub open_stops : (f : ℕ → Entrance) (at left : ℕ) → is_open (f at) ≡ true → 0 < left → some_open f at left ≡ true
open_stops f at zero h some = absurd (omega (arith, some))
open_stops f at (suc left) h some = rw h refl

some_open_same : (f g : ℕ → Entrance) (at n : ℕ) → ((x : ℕ) → is_within at n x ≡ true → f x ≡ g x) → some_open f at n ≡ some_open g at n
some_open_same f g at zero same = refl
some_open_same f g at (suc n) same =
    (λ i. is_open (same at (rw (eq-eqb at at refl) refl) i) || some_open_same f g (at + 4) n (λ x within. same x (or_right (nat_eq at x) (is_within (at + 4) n x) within)) i)

module _ (is : ℕ → Bool) (p : Program) (e : Entrances) (are : AreEntrances is p e) where
  entrance_is : (x : ℕ) → IsBodyWord p.text x → entrance_in e x ≡ entrance_of is p x
  entrance_is x b = ap (λ (o : Option Entrance). unwrap_or o Closed) (are x) ∙ rw b.there refl

  same_entered : (note : Note) → is_procedure p.text note ≡ true → is_entered_by is (entrance_in e) p.text note ≡ is_entered_by is (entrance_of is p) p.text note
  same_entered note procedure =
      let body = (and_parts _ (has_body p.text note.link note.address note.length) procedure).1 in
      let each = λ (x : ℕ) (within : is_within note.address (suc note.length) x ≡ true). entrance_is x (body_word p.text note.link note.address note.length x body within) in
      (λ i. is_entered_but_by note.link (each note.address (rw (eq-eqb note.address note.address refl) refl) i) || (some_open_same (entrance_in e) (entrance_of is p) (note.address + 4) note.length (λ x within. each x (or_right (nat_eq note.address x) (is_within (note.address + 4) note.length x) within)) i || is_fallen_into is p.text note.address))

  entered_is : (note : Note) → is_procedure p.text note ≡ true → is_entered_by is (entrance_in e) p.text note ≡ is_entered is p note
  entered_is note procedure =
      let body = (and_parts _ (has_body p.text note.link note.address note.length) procedure).1 in
      same_entered note procedure
      ∙ sym (entered_by_words note is p (λ x w insn there inside insn_is. straight x w insn (body_word p.text note.link note.address note.length x body inside) there insn_is))
    where
      straight : (x : ℕ) (w : Word) (insn : Insn) → IsBodyWord p.text x → word_at p.text x ≡ Some w → insn_in w ≡ Some insn → jump_target x insn ≡ []
      straight x w insn b there is = let same : b.word ≡ w = some_word b.word w (sym b.there ∙ there) in b.straight insn (ap insn_in same ∙ is)
        where
          some_word : (v w : Word) → Some v ≡ Some w → v ≡ w
          some_word v w e = cc

  pub good_is : (before : Option ℕ) (note : Note) → is_good_by is (entrance_in e) p.text before note ≡ is_good_note is p before note
  good_is before note = ap (λ b. is_in_order p.text before note && (not (is note.address) || b)) (by_procedure (is_procedure p.text note) refl)
    where
      by_procedure : (b : Bool) → is_procedure p.text note ≡ b → (is_procedure p.text note && not (is_entered_by is (entrance_in e) p.text note)) ≡ (is_procedure p.text note && not (is_entered is p note))
      by_procedure true q = ap (λ b. is_procedure p.text note && not b) (entered_is note q)
      by_procedure false q = rw q refl

-- NOTE BY NOTE

module _ (is : ℕ → Bool) (p : Program) (before : Option ℕ) (number i : ℕ) (notes : List Note) (note : Note) (h : i < length notes) (at : note ≡ get_or notes i note) where
  parted : drop i notes ≡ note ∷ drop (i + 1) notes
  parted = let e : suc i ≡ i + 1 = omega arith in drop-cons notes i note h ∙ (λ j. sym at j ∷ drop (e j) notes)

  pub good_next : is_good_note is p before note ≡ true → bad_note_from is p before number (drop i notes) ≡ bad_note_from is p (Some note.address) (number + 1) (drop (i + 1) notes)
  good_next good = ap (bad_note_from is p before number) parted ∙ rw good refl

  pub bad_here : is_good_note is p before note ≡ false → bad_note_from is p before number (drop i notes) ≡ Some number
  bad_here bad = ap (bad_note_from is p before number) parted ∙ rw bad refl
