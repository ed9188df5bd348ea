-- What holds of the reached words of a program that is not refused.
use Rattle.std.proofs.Common.{◌≡◌, ◌⊎◌, inl, inr, ℕ, ℤ, zero, suc, ◌+◌, ◌%◌, ◌<◌, Bool, true, false, not, ◌==◌, ◌&&◌, ◌||◌, List, [], ◌∷◌, ◌++◌, Option, Some, None, if◌then◌else◌, refl, sym, subst, arith, is_some}
use Rattle.std.specs.Option.{option_or, option_and_then}
use Rattle.std.specs.List.{Contains, list_any}
use Rattle.std.proofs.lemmas.Bool.{eqb-true, or_parts, not-false}
use Rattle.std.proofs.lemmas.List.Elements.{Contains-append_left, Contains-append_right}
use Rattle.sq_num.specs.declared.refusal.Refusal.{Refusal}
use Rattle.sq_num.specs.declared.refusal.Refusal.TheVariants.{UnsupportedInstruction, BadTarget, FallsOffText, UnrelocatedAuipc, ReadsText, ConflictingReloc, LoneHalf}
use Rattle.sq_num.specs.Halves.{high_half, low_half}
use Rattle.sq_isa.specs.declared.instructions.Insn.{Insn}
use Rattle.sq_isa.specs.declared.instructions.Insn.TheVariants.{Lui, Auipc, Jal, Jalr, Branch, Load, Store, OpImm, Op as OpInsn, Fence, Ecall, Ebreak, Unimp, Atomic}
use Rattle.sq_isa.specs.declared.instructions.ImmOp.TheVariants.{Addi}
use Rattle.sq_reloc.specs.declared.mark.Mark.{Mark}
use Rattle.sq_reloc.specs.declared.mark.Mark.TheVariants.{Plain, Hi as HiMark, Lo as LoMark, Unsupported, Disagrees, Conflict, Lone}
use Rattle.sq_reloc.specs.Marks.{IsMarked}
use Rattle.sq_reloc.specs.Required.{loads_upper, takes_low}
use Rattle.sq_graph.specs.declared.item.Item.TheVariants.{Op, Hi, Lo}
use Rattle.sq_graph.specs.declared.item.Term.TheVariants.{Jump, PartJump, Indirect}
use Rattle.sq_graph.specs.Uses.{item_uses, term_uses}
use Rattle.law_program.specs.Programs.{Word, Text, Program, word_from, word_at, is_word, IsWord, end_of, is_in_text, insn_in}
use Rattle.law_program.specs.Reached.{target_from, jump_target, half_target, insn_goes_on, next_word, insn_leads, leads_from, IsReached, entry, code_word, walk, Decides}
use Rattle.law_program.specs.Readings.{Reading, IsItem, IsTerm, Links, jal_reading, upper_item, plain_reading, upper_reading, lower_reading, marked_reading, reading_of}
use Rattle.law_program.specs.Notes.{is_plain}
use Rattle.law_program.specs.Faults.{refuse_if, mark_refusal, insn_is, is_astray, falls_off, is_auipc, is_access, is_lower_in_text, is_conflict, is_lone, fault_of, fault_from, text_refusal}
use Rattle.law_lifting.specs.Lifting.{IsMarkedText}
use Rattle.law_lifting.proofs.TextWords.{some_is, in_text_word, next_there}

-- Tests

pub or_none : {A : Type 0} (o p : Option A) → option_or o p ≡ None → (o ≡ None) × (p ≡ None)
or_none None p e = (refl, e)
or_none (Some x) p e = absurd (cc)

refuse_none : (b : Bool) (r : Refusal) (later : Option Refusal) → refuse_if b r later ≡ None → (b ≡ false) × (later ≡ None)
refuse_none true r later e = absurd (cc)
refuse_none false r later e = (refl, e)

pub any_none : (f : ℕ → Bool) (xs : List ℕ) (y : ℕ) → list_any f xs ≡ false → Contains xs y → f y ≡ false
any_none f [] y e c = absurd (let h : c.0 < 0 = c.1 in omega arith)
any_none f (x ∷ xs) y e (zero, h, g) = let q : x ≡ y = g in subst (λ z. f z ≡ false) q (or_parts (f x) (list_any f xs) e).0
any_none f (x ∷ xs) y e (suc i, h, g) = any_none f xs y (or_parts (f x) (list_any f xs) e).1 (i, omega (arith, h), g)

pub one : (x : ℕ) → Contains (x ∷ []) x
one x = (0, omega arith, refl)

pub one_is : (x y : ℕ) → Contains (x ∷ []) y → x ≡ y
one_is x y (zero, h, g) = g
one_is x y (suc i, h, g) = absurd (let f : suc i < 1 = h in omega arith)

pub none_in : {A : Type 0} (y : ℕ) → Contains [] y → A
none_in y c = absurd (let h : c.0 < 0 = c.1 in omega arith)

-- A reached word

pub record IsSoundWord (t : Text) (at : ℕ) (w : Word) : Type 0 where
  pub insn : Insn
  pub is : insn_in w ≡ Some insn
  pub mark : mark_refusal at w.mark ≡ None
  pub astray : is_astray t at w.mark insn ≡ false
  pub falls : falls_off t at insn ≡ false
  pub auipc : (is_auipc insn && is_plain w.mark) ≡ false
  pub access : (is_access insn && is_lower_in_text t w.mark) ≡ false
  pub conflict : is_conflict w.mark ≡ false
  pub lone : is_lone w.mark ≡ false

insn_there : (o : Option Insn) → not (is_some o) ≡ false → (i : Insn) × (o ≡ Some i)
insn_there None e = absurd (cc)
insn_there (Some i) e = (i, refl)

no_fault : (t : Text) (at : ℕ) (w : Word) → fault_of t at w ≡ None → IsSoundWord t at w
no_fault t at w e =
    let o : Option Insn = insn_in w in
    let lone : Option Refusal = refuse_if (is_lone w.mark) (LoneHalf at) None in
    let conflict : Option Refusal = refuse_if (is_conflict w.mark) (ConflictingReloc at) lone in
    let access : Option Refusal = refuse_if (insn_is is_access o && is_lower_in_text t w.mark) (ReadsText at) conflict in
    let auipc : Option Refusal = refuse_if (insn_is is_auipc o && is_plain w.mark) (UnrelocatedAuipc at) access in
    let falls : Option Refusal = refuse_if (insn_is (falls_off t at) o) (FallsOffText at) auipc in
    let astray : Option Refusal = refuse_if (insn_is (is_astray t at w.mark) o) (BadTarget at) falls in
    let insn : Option Refusal = refuse_if (not (is_some o)) (UnsupportedInstruction at w.number) astray in
    let a = or_none (mark_refusal at w.mark) insn e in
    let b = refuse_none (not (is_some o)) (UnsupportedInstruction at w.number) astray a.1 in
    let c = refuse_none (insn_is (is_astray t at w.mark) o) (BadTarget at) falls b.1 in
    let d = refuse_none (insn_is (falls_off t at) o) (FallsOffText at) auipc c.1 in
    let f = refuse_none (insn_is is_auipc o && is_plain w.mark) (UnrelocatedAuipc at) access d.1 in
    let g = refuse_none (insn_is is_access o && is_lower_in_text t w.mark) (ReadsText at) conflict f.1 in
    let h = refuse_none (is_conflict w.mark) (ConflictingReloc at) lone g.1 in
    let k = refuse_none (is_lone w.mark) (LoneHalf at) None h.1 in
    let i = insn_there o b.0 in
    record {
      insn = i.0;
      is = i.1;
      mark = a.0;
      astray = subst (λ o. insn_is (is_astray t at w.mark) o ≡ false) i.1 c.0;
      falls = subst (λ o. insn_is (falls_off t at) o ≡ false) i.1 d.0;
      auipc = subst (λ o. (insn_is is_auipc o && is_plain w.mark) ≡ false) i.1 f.0;
      access = subst (λ o. (insn_is is_access o && is_lower_in_text t w.mark) ≡ false) i.1 g.0;
      conflict = h.0;
      lone = k.0;
    }

fault_free : (is : ℕ → Bool) (t : Text) (x at : ℕ) (w : Word) (words : List Word) → fault_from is t at words ≡ None → is x ≡ true → word_from x at words ≡ Some w → fault_of t x w ≡ None
fault_free is t x at w [] e i f = absurd (cc)
fault_free is t x at w (v ∷ words) e i f =
    let n = or_none (if is at then fault_of t at v else None) (fault_from is t (at + 4) words) e in go (x == at) refl f n.0 (fault_free is t x (at + 4) w words n.1 i)
  where
    go : (b : Bool) → (x == at) ≡ b → (if b then Some v else word_from x (at + 4) words) ≡ Some w → (if is at then fault_of t at v else None) ≡ None → (word_from x (at + 4) words ≡ Some w → fault_of t x w ≡ None) → fault_of t x w ≡ None
    go true b h n rec =
        let q : x ≡ at = eqb-true x at b in
        let r : v ≡ w = cc in
        let m : is at ≡ true = subst (λ y. is y ≡ true) q i in
        let u : fault_of t at v ≡ None = subst (λ c. (if c then fault_of t at v else None) ≡ None) m n in
        subst (λ w. fault_of t x w ≡ None) r (subst (λ y. fault_of t y v ≡ None) (sym q) u)
    go false b h n rec = rec h

-- each has a reading

has_plain : (at : ℕ) (i : Insn) → (is_auipc i && true) ≡ false → (r : Reading) × (plain_reading at i ≡ Some r)
has_plain at (Lui rd upper) e = (IsItem (Op (Lui rd upper)), refl)
has_plain at (Auipc rd upper) e = absurd (cc)
has_plain at (Jal rd offset) e = (jal_reading rd (target_from at offset), refl)
has_plain at (Jalr rd rs offset) e = (IsTerm (Indirect rd rs offset), refl)
has_plain at (Branch c a b offset) e = (_, refl)
has_plain at (Load kind rd rs offset) e = (IsItem (Op (Load kind rd rs offset)), refl)
has_plain at (Store kind rs src offset) e = (IsItem (Op (Store kind rs src offset)), refl)
has_plain at (OpImm op rd rs imm) e = (IsItem (Op (OpImm op rd rs imm)), refl)
has_plain at (OpInsn op rd a b) e = (IsItem (Op (OpInsn op rd a b)), refl)
has_plain at (Fence word) e = (IsItem (Op (Fence word)), refl)
has_plain at Ecall e = (IsItem (Op Ecall), refl)
has_plain at Ebreak e = (_, refl)
has_plain at (Unimp word) e = (_, refl)
has_plain at (Atomic op order rd rs src) e = (IsItem (Op (Atomic op order rd rs src)), refl)

has_upper : (t : Text) (to : ℕ) (i : Insn) → loads_upper (Some i) ≡ true → (r : Reading) × (upper_reading t to i ≡ Some r)
has_upper t to (Lui rd upper) e = (IsItem (upper_item t to rd), refl)
has_upper t to (Auipc rd upper) e = (IsItem (upper_item t to rd), refl)
has_upper t to i e = absurd (cc)

some_if : (b : Bool) (r : Reading) → (true && b) ≡ false → (r' : Reading) × ((if b then None else Some r) ≡ Some r')
some_if true r e = absurd (cc)
some_if false r e = (r, refl)

has_lower : (t : Text) (to : ℕ) (i : Insn) → takes_low (Some i) ≡ true → (is_access i && is_in_text t to) ≡ false → (r : Reading) × (lower_reading t to i ≡ Some r)
has_lower t to (OpImm Addi rd rs imm) e a = (_, refl)
has_lower t to (Load kind rd rs offset) e a = some_if (is_in_text t to) (IsItem (Op (Load kind rd rs (low_half to)))) a
has_lower t to (Store kind rs src offset) e a = some_if (is_in_text t to) (IsItem (Op (Store kind rs src (low_half to)))) a
has_lower t to (Jalr rd rs offset) e a = (_, refl)
has_lower t to i e a = absurd (cc)

has_reading : (t : Text) (at : ℕ) (mark : Mark) (i : Insn) → IsMarked (Some i) mark → mark_refusal at mark ≡ None → (is_auipc i && is_plain mark) ≡ false → (is_access i && is_lower_in_text t mark) ≡ false → is_conflict mark ≡ false → is_lone mark ≡ false → (r : Reading) × (marked_reading t at mark i ≡ Some r)
has_reading t at Plain i m f a l c o = has_plain at i a
has_reading t at (HiMark to) i m f a l c o = has_upper t to i m
has_reading t at (LoMark to) i m f a l c o = has_lower t to i m l
has_reading t at (Unsupported kind) i m f a l c o = absurd (cc)
has_reading t at (Disagrees kind) i m f a l c o = absurd (cc)
has_reading t at Conflict i m f a l c o = absurd (cc)
has_reading t at Lone i m f a l c o = absurd (cc)

-- the names that a reading uses
abbrev pub reading_uses : Reading → List ℕ
reading_uses (IsItem item) = item_uses item
reading_uses (IsTerm term) = term_uses term
reading_uses (Links link to) = to ∷ []

-- a reading uses the target of its jump, or the address in text whose half it holds
abbrev pub UsedBy : Text → ℕ → Mark → Insn → ℕ → Type 0
UsedBy t at mark i y = Contains (jump_target at i) y ⊎ (Contains (half_target mark) y × (is_in_text t y ≡ true))

-- of a reading that is there
abbrev uses_of : Option Reading → List ℕ
uses_of None = []
uses_of (Some r) = reading_uses r

jal_used : (c : Bool) (t : Text) (at link y : ℕ) (offset : ℤ) → Contains (reading_uses (if c then IsTerm (Jump (target_from at offset)) else Links link (target_from at offset))) y → UsedBy t at Plain (Jal link offset) y
jal_used true t at link y offset h = inl h
jal_used false t at link y offset h = inl h

plain_used : (t : Text) (at : ℕ) (i : Insn) (r : Reading) (y : ℕ) → plain_reading at i ≡ Some r → Contains (reading_uses r) y → UsedBy t at Plain i y
plain_used t at (Jal rd offset) r y e h =
    jal_used (rd == 0) t at rd y offset (subst (λ o. Contains (uses_of o) y) (sym e) h)
plain_used t at (Branch c a b offset) r y e h = inl (subst (λ o. Contains (uses_of o) y) (sym e) h)
plain_used t at (Lui rd upper) r y e h = none_in y (subst (λ o. Contains (uses_of o) y) (sym e) h)
plain_used t at (Auipc rd upper) r y e h = absurd (cc)
plain_used t at (Jalr rd rs offset) r y e h = none_in y (subst (λ o. Contains (uses_of o) y) (sym e) h)
plain_used t at (Load kind rd rs offset) r y e h = none_in y (subst (λ o. Contains (uses_of o) y) (sym e) h)
plain_used t at (Store kind rs src offset) r y e h = none_in y (subst (λ o. Contains (uses_of o) y) (sym e) h)
plain_used t at (OpImm op rd rs imm) r y e h = none_in y (subst (λ o. Contains (uses_of o) y) (sym e) h)
plain_used t at (OpInsn op rd a b) r y e h = none_in y (subst (λ o. Contains (uses_of o) y) (sym e) h)
plain_used t at (Fence word) r y e h = none_in y (subst (λ o. Contains (uses_of o) y) (sym e) h)
plain_used t at Ecall r y e h = none_in y (subst (λ o. Contains (uses_of o) y) (sym e) h)
plain_used t at Ebreak r y e h = none_in y (subst (λ o. Contains (uses_of o) y) (sym e) h)
plain_used t at (Unimp word) r y e h = none_in y (subst (λ o. Contains (uses_of o) y) (sym e) h)
plain_used t at (Atomic op order rd rs src) r y e h = none_in y (subst (λ o. Contains (uses_of o) y) (sym e) h)

if_used : (b : Bool) (t : Text) (at to y : ℕ) (mark : Mark) (i : Insn) (inner outer : Reading) → is_in_text t to ≡ b → half_target mark ≡ to ∷ [] → reading_uses inner ≡ to ∷ [] → reading_uses outer ≡ [] → Contains (reading_uses (if b then inner else outer)) y → UsedBy t at mark i y
if_used true t at to y mark i inner outer e m u v h =
    let c : Contains (to ∷ []) y = subst (λ xs. Contains xs y) u h in
    let q : to ≡ y = one_is to y c in
    inr (subst (λ xs. Contains xs y) (sym m) c, subst (λ z. is_in_text t z ≡ true) q e)
if_used false t at to y mark i inner outer e m u v h = none_in y (subst (λ xs. Contains xs y) v h)

-- the same, where only one of the two is a reading
none_if_used : (b : Bool) (t : Text) (at to y : ℕ) (mark : Mark) (i : Insn) (r outer : Reading) → reading_uses outer ≡ [] → (if b then None else Some outer) ≡ Some r → Contains (reading_uses r) y → UsedBy t at mark i y
none_if_used true t at to y mark i r outer u e h = absurd (cc)
none_if_used false t at to y mark i r outer u e h = none_in y (subst (λ xs. Contains xs y) u (subst (λ o. Contains (uses_of o) y) (sym e) h))

upper_choice : (b : Bool) (to rd : ℕ) → IsItem (if b then Hi rd to else Op (Lui rd (high_half to))) ≡ (if b then IsItem (Hi rd to) else IsItem (Op (Lui rd (high_half to))))
upper_choice true to rd = refl
upper_choice false to rd = refl

addi_choice : (b : Bool) (to rd rs : ℕ) → IsItem (if b then Lo rd rs to else Op (OpImm Addi rd rs (low_half to))) ≡ (if b then IsItem (Lo rd rs to) else IsItem (Op (OpImm Addi rd rs (low_half to))))
addi_choice true to rd rs = refl
addi_choice false to rd rs = refl

jalr_choice : (b : Bool) (to rd rs : ℕ) → IsTerm (if b then PartJump rd rs to else Indirect rd rs (low_half to)) ≡ (if b then IsTerm (PartJump rd rs to) else IsTerm (Indirect rd rs (low_half to)))
jalr_choice true to rd rs = refl
jalr_choice false to rd rs = refl

upper_used : (t : Text) (at to : ℕ) (i : Insn) (r : Reading) (y : ℕ) → upper_reading t to i ≡ Some r → Contains (reading_uses r) y → UsedBy t at (HiMark to) i y
upper_used t at to (Lui rd upper) r y e h =
    if_used (is_in_text t to) t at to y (HiMark to) (Lui rd upper) (IsItem (Hi rd to)) (IsItem (Op (Lui rd (high_half to)))) refl refl refl refl
    (subst (λ r. Contains (reading_uses r) y) (upper_choice (is_in_text t to) to rd) (subst (λ o. Contains (uses_of o) y) (sym e) h))
upper_used t at to (Auipc rd upper) r y e h =
    if_used (is_in_text t to) t at to y (HiMark to) (Auipc rd upper) (IsItem (Hi rd to)) (IsItem (Op (Lui rd (high_half to)))) refl refl refl refl
    (subst (λ r. Contains (reading_uses r) y) (upper_choice (is_in_text t to) to rd) (subst (λ o. Contains (uses_of o) y) (sym e) h))
upper_used t at to i r y e h = absurd (cc)

lower_used : (t : Text) (at to : ℕ) (i : Insn) (r : Reading) (y : ℕ) → lower_reading t to i ≡ Some r → Contains (reading_uses r) y → UsedBy t at (LoMark to) i y
lower_used t at to (OpImm Addi rd rs imm) r y e h =
    if_used (is_in_text t to) t at to y (LoMark to) (OpImm Addi rd rs imm) (IsItem (Lo rd rs to)) (IsItem (Op (OpImm Addi rd rs (low_half to)))) refl refl refl refl
    (subst (λ r. Contains (reading_uses r) y) (addi_choice (is_in_text t to) to rd rs) (subst (λ o. Contains (uses_of o) y) (sym e) h))
lower_used t at to (Load kind rd rs imm) r y e h = none_if_used (is_in_text t to) t at to y (LoMark to) (Load kind rd rs imm) r (IsItem (Op (Load kind rd rs (low_half to)))) refl e h
lower_used t at to (Store kind rs src imm) r y e h = none_if_used (is_in_text t to) t at to y (LoMark to) (Store kind rs src imm) r (IsItem (Op (Store kind rs src (low_half to)))) refl e h
lower_used t at to (Jalr rd rs imm) r y e h =
    if_used (is_in_text t to) t at to y (LoMark to) (Jalr rd rs imm) (IsTerm (PartJump rd rs to)) (IsTerm (Indirect rd rs (low_half to))) refl refl refl refl
    (subst (λ r. Contains (reading_uses r) y) (jalr_choice (is_in_text t to) to rd rs) (subst (λ o. Contains (uses_of o) y) (sym e) h))
lower_used t at to i r y e h = absurd (cc)

marked_used : (t : Text) (at : ℕ) (mark : Mark) (i : Insn) (r : Reading) (y : ℕ) → marked_reading t at mark i ≡ Some r → Contains (reading_uses r) y → UsedBy t at mark i y
marked_used t at Plain i r y e h = plain_used t at i r y e h
marked_used t at (HiMark to) i r y e h = upper_used t at to i r y e h
marked_used t at (LoMark to) i r y e h = lower_used t at to i r y e h
marked_used t at mark i r y e h = absurd (cc)

-- Facts by address
module _ (p : Program) (is : ℕ → Bool) (marked : IsMarkedText p.text) (dec : Decides p is) (fine : text_refusal is p ≡ None) where
  pub sound_word : (x : ℕ) (w : Word) → is x ≡ true → word_at p.text x ≡ Some w → IsSoundWord p.text x w
  sound_word x w i e = no_fault p.text x w (fault_free is p.text x p.text.lo w p.text.words fine i e)

  -- a reached word that reads
  pub record ReadWord (x : ℕ) : Type 0 where
    pub word : Word
    pub there : word_at p.text x ≡ Some word
    pub sound : IsSoundWord p.text x word
    pub reading : Reading
    pub reads : reading_of p.text x word ≡ Some reading

  pub reached_word : {x : ℕ} → IsReached p x → IsWord p.text x
  reached_word (entry w) = w
  reached_word (code_word c w) = w
  reached_word (walk h c w) = w

  pub read_word : (x : ℕ) → is x ≡ true → ReadWord x
  read_word x i =
      let w = some_is (word_at p.text x) (reached_word (dec.only x i)) in
      let s = sound_word x w.0 i w.1 in
      let m : IsMarked (Some s.insn) w.0.mark = subst (λ o. IsMarked o w.0.mark) s.is (marked.marked x w.0 w.1) in
      let r = has_reading p.text x w.0.mark s.insn m s.mark s.auipc s.access s.conflict s.lone in
      record {
        word = w.0;
        there = w.1;
        sound = s;
        reading = r.0;
        reads = subst (λ o. option_and_then (marked_reading p.text x w.0.mark) o ≡ Some r.0) (sym s.is) r.1;
      }

  -- what a sound word reads as
  pub marked_of : (x : ℕ) (w : Word) (r : Reading) → (s : IsSoundWord p.text x w) → reading_of p.text x w ≡ Some r → marked_reading p.text x w.mark s.insn ≡ Some r
  marked_of x w r s e = subst (λ o. option_and_then (marked_reading p.text x w.mark) o ≡ Some r) s.is e

  -- where a reached word leads is reached, where a word stands there
  pub led : (x y : ℕ) (w : Word) (s : IsSoundWord p.text x w) → is x ≡ true → word_at p.text x ≡ Some w → Contains (insn_leads x w.mark s.insn) y → IsWord p.text y → is y ≡ true
  led x y w s i e c word =
      let leads : Contains (leads_from p.text x) y = rw (e, s.is) c in
      dec.all y (walk (dec.only x i) leads word)

  pub used : (x y : ℕ) (w : Word) (r : Reading) (s : IsSoundWord p.text x w) → reading_of p.text x w ≡ Some r → Contains (reading_uses r) y → UsedBy p.text x w.mark s.insn y
  used x y w r s e c = marked_used p.text x w.mark s.insn r y (marked_of x w r s e) c

  used_word : (x y : ℕ) (w : Word) (s : IsSoundWord p.text x w) → UsedBy p.text x w.mark s.insn y → IsWord p.text y
  used_word x y w s (inl c) =
      let a = or_parts (list_any (λ z. not (is_word p.text z)) (jump_target x s.insn)) (list_any (λ z. is_in_text p.text z && not (z % 4 == 0)) (half_target w.mark)) s.astray in
      not-false (is_word p.text y) (any_none (λ z. not (is_word p.text z)) (jump_target x s.insn) y a.0 c)
  used_word x y w s (inr c) =
      let a = or_parts (list_any (λ z. not (is_word p.text z)) (jump_target x s.insn)) (list_any (λ z. is_in_text p.text z && not (z % 4 == 0)) (half_target w.mark)) s.astray in
      let b = any_none (λ z. is_in_text p.text z && not (z % 4 == 0)) (half_target w.mark) y a.1 c.0 in
      let d : not (y % 4 == 0) ≡ false = subst (λ c. (c && not (y % 4 == 0)) ≡ false) c.1 b in
      in_text_word p.text y marked.aligned c.1 (eqb-true (y % 4) 0 (not-false (y % 4 == 0) d))

  used_leads : (x y : ℕ) (mark : Mark) (i : Insn) → UsedBy p.text x mark i y → Contains (insn_leads x mark i) y
  used_leads x y mark i (inl c) = Contains-append_left (jump_target x i ++ half_target mark) (next_word x i) y (Contains-append_left (jump_target x i) (half_target mark) y c)
  used_leads x y mark i (inr c) = Contains-append_left (jump_target x i ++ half_target mark) (next_word x i) y (Contains-append_right (jump_target x i) (half_target mark) y c.0)

  -- what a reached word uses is a reached word
  pub used_reached : (x y : ℕ) (w : Word) (s : IsSoundWord p.text x w) → is x ≡ true → word_at p.text x ≡ Some w → UsedBy p.text x w.mark s.insn y → is y ≡ true
  used_reached x y w s i e u = led x y w s i e (used_leads x y w.mark s.insn u) (used_word x y w s u)

  -- and so is the next word, where it goes on
  pub next_reached : (x : ℕ) (w : Word) (s : IsSoundWord p.text x w) → is x ≡ true → word_at p.text x ≡ Some w → insn_goes_on s.insn ≡ true → is (x + 4) ≡ true
  next_reached x w s i e g =
      let f : (x + 4 == end_of p.text) ≡ false = subst (λ c. (c && x + 4 == end_of p.text) ≡ false) g s.falls in
      let c : Contains (next_word x s.insn) (x + 4) = rw g (one (x + 4)) in
      led x (x + 4) w s i e (Contains-append_right (jump_target x s.insn ++ half_target w.mark) (next_word x s.insn) (x + 4) c) (next_there p.text x w e f)
