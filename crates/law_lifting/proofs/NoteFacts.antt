-- What holds of the noted procedures of a program that is not refused.
use Rattle.std.proofs.Common.{◌≡◌, ◌≢◌, ◌⊎◌, inl, inr, ℕ, zero, suc, ◌+◌, ◌<◌, pos, Bool, true, false, not, ◌==◌, ◌&&◌, ◌||◌, List, [], ◌∷◌, map, Option, Some, None, slice_get, if◌then◌else◌, refl, sym, ap, ◌∙◌, subst, arith, nat_lt, ne_eqb}
use Rattle.std.specs.Option.{option_map}
use Rattle.std.specs.Ordering.{int_eq}
use Rattle.std.specs.List.{Contains, list_any}
use Rattle.std.proofs.lemmas.Bool.{eqb-true, and_parts, or_left, or_right, or_cases, not-true, or_parts}
use Rattle.std.proofs.lemmas.Bool.Decides.{nat_tests, Decides-int_eq}
use Rattle.sq_isa.specs.declared.instructions.Insn.{Insn}
use Rattle.sq_isa.specs.declared.instructions.Insn.TheVariants.{Jal, Jalr, Branch}
use Rattle.sq_reloc.specs.declared.mark.Mark.{Mark}
use Rattle.sq_reloc.specs.declared.mark.Mark.TheVariants.{Plain, Hi as HiMark, Lo as LoMark, Unsupported, Disagrees, Conflict, Lone}
use Rattle.sq_graph.specs.declared.item.Item.{Item}
use Rattle.sq_graph.specs.Rules.{mentions}
use Rattle.law_program.specs.Programs.{Word, Text, Note, Program, word_from, word_at, is_word, insn_in, target_of}
use Rattle.sq_graph.specs.declared.item.Term.TheVariants.{Jump}
use Rattle.law_program.specs.Reached.{target_from, jump_target, insn_goes_on}
use Rattle.law_program.specs.Readings.{Reading, IsItem, IsTerm, Links, marked_reading, reading_at}
use Rattle.law_program.specs.Notes.{used_notes, is_within, is_in_procedure, is_in_procedures, is_above, is_real_register, is_in_order, is_item_without, returns_through, is_plain, is_return, has_body, is_procedure, marked_enters, words_enter, is_entered, is_good_note, bad_note_from, bad_note}
use Rattle.law_program.specs.Lifted.{procedure_at}
use Rattle.law_lifting.proofs.TextWords.{same_itself}
use Rattle.law_lifting.proofs.Facts.{any_none}

-- Spans

pub within_start : (a n : ℕ) → is_within a (suc n) a ≡ true
within_start a n = or_left (a == a) (is_within (a + 4) n a) (same_itself a)

pub in_procedure_start : (note : Note) → is_in_procedure note note.address ≡ true
in_procedure_start note = let e : note.length + 1 ≡ suc note.length = omega arith in rw e (within_start note.address note.length)

-- Lists of notes

pub notes_have : (ns : List Note) (q x : ℕ) (n : Note) → slice_get ns q ≡ Some n → is_in_procedure n x ≡ true → is_in_procedures ns x ≡ true
notes_have [] q x n e h = absurd (cc)
notes_have (m ∷ ns) zero x n e h = let i : m ≡ n = cc in or_left (is_in_procedure m x) (is_in_procedures ns x) (subst (λ m. is_in_procedure m x ≡ true) (sym i) h)
notes_have (m ∷ ns) (suc q) x n e h = or_right (is_in_procedure m x) (is_in_procedures ns x) (notes_have ns q x n e h)

pub record Found (ns : List Note) (x : ℕ) : Type 0 where
  pub number : ℕ
  pub note : Note
  pub there : slice_get ns number ≡ Some note
  pub holds : is_in_procedure note x ≡ true

pub notes_find : (ns : List Note) (x : ℕ) → is_in_procedures ns x ≡ true → Found ns x
notes_find [] x e = absurd (cc)
notes_find (n ∷ ns) x e = go (or_cases (is_in_procedure n x) (is_in_procedures ns x) e) (notes_find ns x)
  where
    go : (is_in_procedure n x ≡ true) ⊎ (is_in_procedures ns x ≡ true) → (is_in_procedures ns x ≡ true → Found ns x) → Found (n ∷ ns) x
    go (inl h) rec = record { number = 0; note = n; there = refl; holds = h }
    go (inr h) rec = let r = rec h in record { number = suc r.number; note = r.note; there = r.there; holds = r.holds }

suc_is : (o : Option ℕ) (q : ℕ) → option_map suc o ≡ Some q → (p : ℕ) × (o ≡ Some p) × (q ≡ suc p)
suc_is None q e = absurd (cc)
suc_is (Some p) q e = (p, refl, cc)

-- what is noted at an address stands there
pub at_number : (ns : List Note) (x q : ℕ) → procedure_at ns x ≡ Some q → (n : Note) × (slice_get ns q ≡ Some n) × (n.address ≡ x)
at_number [] x q e = absurd (cc)
at_number (n ∷ ns) x q e = go (n.address == x) refl e (λ p h. at_number ns x p h)
  where
    go : (b : Bool) → (n.address == x) ≡ b → (if b then Some 0 else option_map suc (procedure_at ns x)) ≡ Some q → ((p : ℕ) → procedure_at ns x ≡ Some p → (m : Note) × (slice_get ns p ≡ Some m) × (m.address ≡ x)) → (m : Note) × (slice_get (n ∷ ns) q ≡ Some m) × (m.address ≡ x)
    go true t h rec = let z : q ≡ 0 = cc in (n, rw z refl, eqb-true n.address x t)
    go false t h rec =
        let p = suc_is (procedure_at ns x) q h in
        let r = rec p.0 p.1 in
        (r.0, subst (λ q. slice_get (n ∷ ns) q ≡ Some r.0) (sym p.2) r.1, r.2)

-- where a procedure stands, one is noted
pub noted_at : (ns : List Note) (q : ℕ) (n : Note) → slice_get ns q ≡ Some n → (p : ℕ) × (procedure_at ns n.address ≡ Some p)
noted_at [] q n e = absurd (cc)
noted_at (m ∷ ns) zero n e = let i : m ≡ n = cc in (0, rw (ap (λ k. k.address) i, same_itself n.address) refl)
noted_at (m ∷ ns) (suc q) n e = go (m.address == n.address) (noted_at ns q n e)
  where
    go : (b : Bool) → (p : ℕ) × (procedure_at ns n.address ≡ Some p) → (p : ℕ) × ((if b then Some 0 else option_map suc (procedure_at ns n.address)) ≡ Some p)
    go true r = (0, refl)
    go false r = (suc r.0, rw r.1 refl)

jal_no_item : (b : Bool) (rd to : ℕ) (item : Item) → Some (if b then IsTerm (Jump to) else Links rd to) ≡ Some (IsItem item) → ⊥
jal_no_item true rd to item e = absurd (cc)
jal_no_item false rd to item e = absurd (cc)

-- Readings of items lead to no jump, and none is an Out
pub item_jumps : (t : Text) (at : ℕ) (mark : Mark) (i : Insn) (item : Item) → marked_reading t at mark i ≡ Some (IsItem item) → jump_target at i ≡ []
item_jumps t at Plain (Jal rd offset) item e = absurd (jal_no_item (rd == 0) rd (target_from at offset) item e)
item_jumps t at (HiMark to) (Jal rd offset) item e = absurd (cc)
item_jumps t at (LoMark to) (Jal rd offset) item e = absurd (cc)
item_jumps t at (Unsupported kind) (Jal rd offset) item e = absurd (cc)
item_jumps t at (Disagrees kind) (Jal rd offset) item e = absurd (cc)
item_jumps t at Conflict (Jal rd offset) item e = absurd (cc)
item_jumps t at Lone (Jal rd offset) item e = absurd (cc)
item_jumps t at Plain (Branch c a b offset) item e = absurd (cc)
item_jumps t at (HiMark to) (Branch c a b offset) item e = absurd (cc)
item_jumps t at (LoMark to) (Branch c a b offset) item e = absurd (cc)
item_jumps t at (Unsupported kind) (Branch c a b offset) item e = absurd (cc)
item_jumps t at (Disagrees kind) (Branch c a b offset) item e = absurd (cc)
item_jumps t at Conflict (Branch c a b offset) item e = absurd (cc)
item_jumps t at Lone (Branch c a b offset) item e = absurd (cc)
item_jumps t at mark i item e = refl

-- The words of a body

pub read_item : (link : ℕ) (o : Option Reading) → is_item_without link o ≡ true → (item : Item) × (o ≡ Some (IsItem item)) × (mentions item link ≡ false)
read_item link None e = absurd (cc)
read_item link (Some (IsItem item)) e = (item, refl, not_true_is (mentions item link) e)
  where
    not_true_is : (b : Bool) → not b ≡ true → b ≡ false
    not_true_is true e = absurd (cc)
    not_true_is false e = refl
read_item link (Some (IsTerm term)) e = absurd (cc)
read_item link (Some (Links r to)) e = absurd (cc)

plain_is : (mark : Mark) → is_plain mark ≡ true → mark ≡ Plain
plain_is Plain e = refl
plain_is (HiMark to) e = absurd (cc)
plain_is (LoMark to) e = absurd (cc)
plain_is (Unsupported kind) e = absurd (cc)
plain_is (Disagrees kind) e = absurd (cc)
plain_is Conflict e = absurd (cc)
plain_is Lone e = absurd (cc)

returns_is : (link : ℕ) (o : Option Insn) → returns_through link o ≡ true → o ≡ Some (Jalr 0 link (pos 0))
returns_is link (Some (Jalr rd rs offset)) e =
    let a = and_parts (rd == 0 && rs == link) (int_eq offset (pos 0)) e in
    let b = and_parts (rd == 0) (rs == link) a.0 in
    let x : rd ≡ 0 = eqb-true rd 0 b.0 in
    let y : rs ≡ link = eqb-true rs link b.1 in
    let z : offset ≡ pos 0 = (Decides-int_eq offset (pos 0)).0 a.1 in
    rw (x, y, z) refl
returns_is link None e = absurd (cc)
returns_is link (Some i) e = absurd (cc)

pub record IsReturn (t : Text) (at link : ℕ) : Type 0 where
  pub word : Word
  pub there : word_at t at ≡ Some word
  pub plain : word.mark ≡ Plain
  pub insn : insn_in word ≡ Some (Jalr 0 link (pos 0))

pub return_is : (t : Text) (at link : ℕ) (o : Option Word) → word_at t at ≡ o → is_return link o ≡ true → IsReturn t at link
return_is t at link None h e = absurd (cc)
return_is t at link (Some w) h e =
    let a = and_parts (is_plain w.mark) (returns_through link (insn_in w)) e in
    record { word = w; there = h; plain = plain_is w.mark a.0; insn = returns_is link (insn_in w) a.1 }

-- a word of a body: it reads as an item that doesn't mention the link, or it is the return
pub data BodyWord (t : Text) (link x : ℕ) : Type 0 where
  item_word : (item : Item) → reading_at t x ≡ Some (IsItem item) → mentions item link ≡ false → BodyWord t link x
  return_word : IsReturn t x link → BodyWord t link x

pub body_word : (t : Text) (link a n x : ℕ) → has_body t link a n ≡ true → is_within a (suc n) x ≡ true → BodyWord t link x
body_word t link a zero x e h = go (or_cases (a == x) false h)
  where
    go : ((a == x) ≡ true) ⊎ (false ≡ true) → BodyWord t link x
    go (inl h) = let q : a ≡ x = eqb-true a x h in subst (BodyWord t link) q (return_word (return_is t a link (word_at t a) refl e))
    go (inr h) = absurd (cc)
body_word t link a (suc n) x e h =
    let b = and_parts (is_item_without link (reading_at t a)) (has_body t link (a + 4) n) e in
    go b.0 (or_cases (a == x) (is_within (a + 4) (suc n) x) h) (λ h. body_word t link (a + 4) n x b.1 h)
  where
    go : is_item_without link (reading_at t a) ≡ true → ((a == x) ≡ true) ⊎ (is_within (a + 4) (suc n) x ≡ true) → (is_within (a + 4) (suc n) x ≡ true → BodyWord t link x) → BodyWord t link x
    go b (inl h) rec =
        let q : a ≡ x = eqb-true a x h in
        let i = read_item link (reading_at t a) b in
        subst (BodyWord t link) q (item_word i.0 i.1 i.2)
    go b (inr h) rec = rec h

-- behind a word of a procedure that goes on stands another
pub within_next : (t : Text) (link a n x : ℕ) (w : Word) (i : Insn) → has_body t link a n ≡ true → is_within a (suc n) x ≡ true → word_at t x ≡ Some w → insn_in w ≡ Some i → insn_goes_on i ≡ true → is_within a (suc n) (x + 4) ≡ true
within_next t link a zero x w i e h f k g = go (or_cases (a == x) false h)
  where
    go : ((a == x) ≡ true) ⊎ (false ≡ true) → is_within a 1 (x + 4) ≡ true
    go (inr h) = absurd (cc)
    go (inl h) =
        let q : a ≡ x = eqb-true a x h in
        let r = return_is t a link (word_at t a) refl e in
        let s : Some r.word ≡ Some w = sym r.there ∙ subst (λ y. word_at t y ≡ Some w) (sym q) f in
        let u : r.word ≡ w = cc in
        let v : Some (Jalr 0 link (pos 0)) ≡ Some i = sym r.insn ∙ ap insn_in u ∙ k in
        let z : Jalr 0 link (pos 0) ≡ i = cc in
        let no_way : insn_goes_on (Jalr 0 link (pos 0)) ≡ true = subst (λ i. insn_goes_on i ≡ true) (sym z) g in absurd (cc)
within_next t link a (suc n) x w i e h f k g =
    let b = and_parts (is_item_without link (reading_at t a)) (has_body t link (a + 4) n) e in
    go (or_cases (a == x) (is_within (a + 4) (suc n) x) h) (λ h. within_next t link (a + 4) n x w i b.1 h f k g)
  where
    go : ((a == x) ≡ true) ⊎ (is_within (a + 4) (suc n) x ≡ true) → (is_within (a + 4) (suc n) x ≡ true → is_within (a + 4) (suc n) (x + 4) ≡ true) → is_within a (suc (suc n)) (x + 4) ≡ true
    go (inl h) rec = let q : a ≡ x = eqb-true a x h in or_right (a == x + 4) (is_within (a + 4) (suc n) (x + 4)) (subst (λ y. is_within (a + 4) (suc n) (y + 4) ≡ true) q (within_start (a + 4) n))
    go (inr h) rec = or_right (a == x + 4) (is_within (a + 4) (suc n) (x + 4)) (rec h)

-- Notes that are good

pub record IsUsedNote (is : ℕ → Bool) (p : Program) (notes : List Note) (n : Note) : Type 0 where
  pub before : Option ℕ
  pub index : ℕ
  pub there : slice_get notes index ≡ Some n
  pub good : is_good_note is p before n ≡ true
  pub reached : is n.address ≡ true

pub used_good : (is : ℕ → Bool) (p : Program) (before : Option ℕ) (number : ℕ) (notes : List Note) (q : ℕ) (n : Note) → bad_note_from is p before number notes ≡ None → slice_get (used_notes is notes) q ≡ Some n → IsUsedNote is p notes n
used_good is p before number [] q n e h = absurd (cc)
used_good is p before number (m ∷ notes) q n e h = go (is_good_note is p before m) refl e (λ f k g. used_good is p (Some m.address) (number + 1) notes k n f g)
  where
    later : IsUsedNote is p notes n → IsUsedNote is p (m ∷ notes) n
    later r = record { before = r.before; index = suc r.index; there = r.there; good = r.good; reached = r.reached }

    pick : (c : Bool) → is m.address ≡ c → is_good_note is p before m ≡ true → (k : ℕ) → slice_get (if c then m ∷ used_notes is notes else used_notes is notes) k ≡ Some n → ((k : ℕ) → slice_get (used_notes is notes) k ≡ Some n → IsUsedNote is p notes n) → IsUsedNote is p (m ∷ notes) n
    pick true i g zero h rec =
        let u : m ≡ n = cc in
        record { before = before; index = 0; there = ap Some u; good = subst (λ m. is_good_note is p before m ≡ true) u g; reached = subst (λ k. is k.address ≡ true) u i }
    pick true i g (suc k) h rec = later (rec k h)
    pick false i g k h rec = later (rec k h)

    go : (c : Bool) → is_good_note is p before m ≡ c → (if c then bad_note_from is p (Some m.address) (number + 1) notes else Some number) ≡ None → (bad_note_from is p (Some m.address) (number + 1) notes ≡ None → (k : ℕ) → slice_get (used_notes is notes) k ≡ Some n → IsUsedNote is p notes n) → IsUsedNote is p (m ∷ notes) n
    go true g f rec = pick (is m.address) refl g q h (rec f)
    go false g f rec = absurd (cc)

-- reached words don't enter it
enter_free : (is : ℕ → Bool) (n : Note) (x at : ℕ) (w : Word) (words : List Word) → words_enter is n at words ≡ false → is x ≡ true → word_from x at words ≡ Some w → marked_enters n x w.mark (insn_in w) ≡ false
enter_free is n x at w [] e i f = absurd (cc)
enter_free is n x at w (v ∷ words) e i f =
    let o = or_parts (is at && marked_enters n at v.mark (insn_in v)) (words_enter is n (at + 4) words) e in go (x == at) refl f o.0 (enter_free is n x (at + 4) w words o.1 i)
  where
    go : (b : Bool) → (x == at) ≡ b → (if b then Some v else word_from x (at + 4) words) ≡ Some w → (is at && marked_enters n at v.mark (insn_in v)) ≡ false → (word_from x (at + 4) words ≡ Some w → marked_enters n x w.mark (insn_in w) ≡ false) → marked_enters n x w.mark (insn_in w) ≡ false
    go true b h o rec =
        let q : x ≡ at = eqb-true x at b in
        let r : v ≡ w = cc in
        let m : is at ≡ true = subst (λ y. is y ≡ true) q i in
        let u : marked_enters n at v.mark (insn_in v) ≡ false = subst (λ c. (c && marked_enters n at v.mark (insn_in v)) ≡ false) m o in
        subst (λ w. marked_enters n x w.mark (insn_in w) ≡ false) r (subst (λ y. marked_enters n y v.mark (insn_in v) ≡ false) (sym q) u)
    go false b h o rec = rec h

-- what is known of a note whose procedure is reached
pub record IsGoodNote (is : ℕ → Bool) (p : Program) (n : Note) : Type 0 where
  pub link : n.link ≢ 0
  pub some : n.length ≢ 0
  pub body : has_body p.text n.link n.address n.length ≡ true
  pub reached : is n.address ≡ true
  pub entry : is_in_procedure n p.entry ≡ false
  pub codes : (x : ℕ) → Contains (map target_of p.code_words) x → is_in_procedure n x ≡ false
  pub words : (x : ℕ) (w : Word) → is x ≡ true → word_at p.text x ≡ Some w → marked_enters n x w.mark (insn_in w) ≡ false

if_reached : (b c : Bool) → b ≡ true → (not b || c) ≡ true → c ≡ true
if_reached true c e h = h
if_reached false c e h = absurd (cc)

pub good_note : (is : ℕ → Bool) (p : Program) (q : ℕ) (n : Note) → bad_note is p ≡ None → slice_get (used_notes is p.notes) q ≡ Some n → IsGoodNote is p n
good_note is p q n e h =
    let u = used_good is p None 1 p.notes q n e h in
    let a = and_parts (is_in_order p.text u.before n) (not (is n.address) || is_procedure p.text n && not (is_entered is p n)) u.good in
    let b = if_reached (is n.address) (is_procedure p.text n && not (is_entered is p n)) u.reached a.1 in
    let c = and_parts (is_procedure p.text n) (not (is_entered is p n)) b in
    let d = and_parts (nat_lt 0 n.length) (has_body p.text n.link n.address n.length) c.0 in
    let o = and_parts (is_word p.text n.address && is_above u.before n.address) (is_real_register n.link) a.0 in
    let f = or_parts (is_in_procedure n p.entry || list_any (is_in_procedure n) (map target_of p.code_words)) (words_enter is n p.text.lo p.text.words) (not-true (is_entered is p n) c.1) in
    let g = or_parts (is_in_procedure n p.entry) (list_any (is_in_procedure n) (map target_of p.code_words)) f.0 in
    let r = and_parts (nat_lt 0 n.link) (nat_lt n.link 32) o.1 in
    record {
      link = let k = r.0 in grind (arith, nat_tests);
      some = let k = d.0 in grind (arith, nat_tests);
      body = d.1;
      reached = u.reached;
      entry = g.0;
      codes = λ x k. any_none (is_in_procedure n) (map target_of p.code_words) x g.1 k;
      words = λ x w i k. enter_free is n x p.text.lo w p.text.words f.1 i k;
    }

-- Notes ascend by address

ascends : (is : ℕ → Bool) (p : Program) (before : Option ℕ) (n : Note) → is_good_note is p before n ≡ true → is_above before n.address ≡ true
ascends is p before n e =
    let a = and_parts (is_in_order p.text before n) (not (is n.address) || is_procedure p.text n && not (is_entered is p n)) e in
    let b = and_parts (is_word p.text n.address && is_above before n.address) (is_real_register n.link) a.0 in
    (and_parts (is_word p.text n.address) (is_above before n.address) b.0).1

later_good : (is : ℕ → Bool) (p : Program) (before : Option ℕ) (number : ℕ) (m : Note) (notes : List Note) → bad_note_from is p before number (m ∷ notes) ≡ None → (is_good_note is p before m ≡ true) × (bad_note_from is p (Some m.address) (number + 1) notes ≡ None)
later_good is p before number m notes e = go (is_good_note is p before m) refl e
  where
    go : (b : Bool) → is_good_note is p before m ≡ b → (if b then bad_note_from is p (Some m.address) (number + 1) notes else Some number) ≡ None → (is_good_note is p before m ≡ true) × (bad_note_from is p (Some m.address) (number + 1) notes ≡ None)
    go true g h = (g, h)
    go false g h = absurd (cc)

above : (is : ℕ → Bool) (p : Program) (a number : ℕ) (notes : List Note) (q : ℕ) (n : Note) → bad_note_from is p (Some a) number notes ≡ None → slice_get (used_notes is notes) q ≡ Some n → a < n.address
above is p a number [] q n e h = absurd (cc)
above is p a number (m ∷ notes) q n e h =
    let g = later_good is p (Some a) number m notes e in
    let less : a < m.address = let k = ascends is p (Some a) m g.0 in grind (arith, nat_tests) in
    pick (is m.address) q h less (λ k f. above is p m.address (number + 1) notes k n g.1 f)
  where
    pick : (c : Bool) (q : ℕ) → slice_get (if c then m ∷ used_notes is notes else used_notes is notes) q ≡ Some n → a < m.address → ((k : ℕ) → slice_get (used_notes is notes) k ≡ Some n → m.address < n.address) → a < n.address
    pick true zero h less rec = let u : m ≡ n = cc in subst (λ k. a < k.address) u less
    pick true (suc k) h less rec = let r : m.address < n.address = rec k h in omega arith
    pick false k h less rec = let r : m.address < n.address = rec k h in omega arith

-- so a procedure's number is that of its address
pub own_number : (is : ℕ → Bool) (p : Program) (before : Option ℕ) (number : ℕ) (notes : List Note) (q : ℕ) (n : Note) → bad_note_from is p before number notes ≡ None → slice_get (used_notes is notes) q ≡ Some n → procedure_at (used_notes is notes) n.address ≡ Some q
own_number is p before number [] q n e h = absurd (cc)
own_number is p before number (m ∷ notes) q n e h =
    let g = later_good is p before number m notes e in
    pick (is m.address) q h (λ k f. above is p m.address (number + 1) notes k n g.1 f) (λ k f. own_number is p (Some m.address) (number + 1) notes k n g.1 f)
  where
    pick : (c : Bool) (q : ℕ) → slice_get (if c then m ∷ used_notes is notes else used_notes is notes) q ≡ Some n → ((k : ℕ) → slice_get (used_notes is notes) k ≡ Some n → m.address < n.address) → ((k : ℕ) → slice_get (used_notes is notes) k ≡ Some n → procedure_at (used_notes is notes) n.address ≡ Some k) → procedure_at (if c then m ∷ used_notes is notes else used_notes is notes) n.address ≡ Some q
    pick true zero h less rec = let u : m ≡ n = cc in rw (ap (λ k. k.address) u, same_itself n.address) refl
    pick true (suc k) h less rec =
        let other : (m.address == n.address) ≡ false = let l = less k h in ne_eqb m.address n.address (λ e. omega (arith, l)) in
        rw (other, rec k h) refl
    pick false k h less rec = rec k h
