-- A noted procedure is entered but by its calls where its words are so by what leads to each.
use Rattle.std.proofs.Common.{◌≡◌, ℕ, zero, suc, ◌+◌, ◌-◌, ◌<◌, ◌≤◌, Bool, true, false, not, ◌==◌, ◌&&◌, ◌||◌, nat_le, nat_eq, List, [], ◌∷◌, map, Option, Some, None, inl, inr, refl, sym, ap, ◌∙◌, subst, arith, if◌then◌else◌}
use Rattle.std.specs.Option.{option_and_then}
use Rattle.std.specs.List.{list_any}
use Rattle.std.proofs.lemmas.Bool.{cases_Bool, eqb-true, eqb-false, eq-eqb, ne_eqb}
use Rattle.std.proofs.lemmas.Bool.Decides.{nat_tests}
use Rattle.std.proofs.Math.Bool.{or-false}
use Rattle.sq_isa.specs.declared.instructions.Insn.{Insn}
use Rattle.sq_isa.specs.declared.instructions.Insn.TheVariants.{Lui, Auipc, Jal, Jalr, Branch as BranchInsn, Load, Store, OpImm, Op as OpInsn, Fence, Ecall, Ebreak, Unimp, Atomic}
use Rattle.sq_reloc.specs.declared.mark.Mark.{Mark}
use Rattle.law_program.specs.Programs.{Word, Note, Program, word_from, insn_in, target_of}
use Rattle.law_program.specs.Reached.{target_from, jump_target, half_target, insn_goes_on, next_word}
use Rattle.law_program.specs.Notes.{is_within, is_call, insn_enters, marked_enters, words_enter, is_entered}
use Rattle.law_program.specs.Faults.{insn_is}
use Rattle.sq_lift.specs.declared.entrances.Entrance.{Entrance}
use Rattle.sq_lift.specs.declared.entrances.Entrance.TheVariants.{Closed, Calls, Open}
use Rattle.sq_lift.specs.Search.{is_among}
use Rattle.sq_lift.specs.Entrances.{merged, entrance_if, jump_entrance, marked_entrance, words_entrance, entrance_of, is_entered_but_by, is_open, some_open, is_fallen_into, is_entered_by}

-- TESTS

-- of pairs of tests
or_swap : (a b c d : Bool) → ((a || b) || (c || d)) ≡ ((a || c) || (b || d))
or_swap true b c d = refl
or_swap false true true d = refl
or_swap false true false d = refl
or_swap false false c d = refl

le_is : (a b : ℕ) → a ≤ b → nat_le a b ≡ true
le_is a b le = grind (arith, nat_tests)

le_of : (a b : ℕ) → nat_le a b ≡ true → a ≤ b
le_of a b is = grind (arith, nat_tests)

-- WORDS

pub word_least : (x at : ℕ) (words : List Word) (w : Word) → word_from x at words ≡ Some w → at ≤ x
word_least x at [] w e = absurd (cc)
word_least x at (v ∷ words) w e =
    elim (cases_Bool (nat_eq x at)) [
      | inl here ↦ omega (arith, eqb-true x at here)
      | inr apart ↦ let h = word_least x (at + 4) words w (rw apart at e) in omega (arith, h)
    ]

first_word : (at : ℕ) (w : Word) (words : List Word) → word_from at at (w ∷ words) ≡ Some w
first_word at w words = rw (eq-eqb at at refl) refl

later_word : (x at : ℕ) (w : Word) (words : List Word) (v : Word) → word_from x (at + 4) words ≡ Some v → word_from x at (w ∷ words) ≡ Some v
later_word x at w words v e = let h = word_least x (at + 4) words v e in rw (ne_eqb x at (λ same. omega (arith, h, same))) e

-- an instruction goes on to no other word than the next
apart_goes : (a at : ℕ) (o : Option Insn) → (at + 4 ≡ a → ⊥) → insn_is (λ insn. insn_goes_on insn && nat_eq (at + 4) a) o ≡ false
apart_goes a at None apart = refl
apart_goes a at (Some insn) apart = ap (λ b. insn_goes_on insn && b) (ne_eqb (at + 4) a apart) ∙ and_false (insn_goes_on insn)
  where
    and_false : (b : Bool) → (b && false) ≡ false
    and_false true = refl
    and_false false = refl

same_goes : (a at : ℕ) (o : Option Insn) → at + 4 ≡ a → insn_is (λ insn. insn_goes_on insn && nat_eq (at + 4) a) o ≡ insn_is insn_goes_on o
same_goes a at None same = refl
same_goes a at (Some insn) same = ap (λ b. insn_goes_on insn && b) (eq-eqb (at + 4) a same) ∙ and_true (insn_goes_on insn)
  where
    and_true : (b : Bool) → (b && true) ≡ b
    and_true true = refl
    and_true false = refl

-- SOME WORD OF A RANGE

abbrev pub some_in : (ℕ → Bool) → ℕ → ℕ → Bool
some_in q at zero = false
some_in q at (suc n) = q at || some_in q (at + 4) n

some_same : (q r : ℕ → Bool) → ((x : ℕ) → q x ≡ r x) → (at n : ℕ) → some_in q at n ≡ some_in r at n
some_same q r same at zero = refl
some_same q r same at (suc n) = λ i. same at i || some_same q r same (at + 4) n i

some_both : (q r : ℕ → Bool) (at n : ℕ) → some_in (λ x. q x || r x) at n ≡ (some_in q at n || some_in r at n)
some_both q r at zero = refl
some_both q r at (suc n) =
    ap (λ b. (q at || r at) || b) (some_both q r (at + 4) n) ∙ or_swap (q at) (r at) (some_in q (at + 4) n) (some_in r (at + 4) n)

some_none : (at n : ℕ) → some_in (λ x. false) at n ≡ false
some_none at zero = refl
some_none at (suc n) = some_none (at + 4) n

-- where the test holds of one address at most
some_one : (t : ℕ) (e : ℕ → Bool) (at n : ℕ) → some_in (λ x. nat_eq x t && e x) at n ≡ (is_within at n t && e t)
some_one t e at zero = refl
some_one t e at (suc n) =
    elim (cases_Bool (nat_eq at t)) [
      | inl here ↦ let same : at ≡ t = eqb-true at t here in rw (here, some_one t e (at + 4) n) (subst (λ x. (e x || (is_within (at + 4) n t && e t)) ≡ e t) (sym same) (absorbed (e t) (is_within (at + 4) n t)))
      | inr apart ↦ rw apart (some_one t e (at + 4) n)
    ]
  where
    absorbed : (a b : Bool) → (a || (b && a)) ≡ a
    absorbed true b = refl
    absorbed false true = refl
    absorbed false false = refl

some_among : (xs : List ℕ) (at n : ℕ) → some_in (is_among xs) at n ≡ list_any (is_within at n) xs
some_among [] at n = some_none at n
some_among (t ∷ xs) at n =
    some_both (λ x. nat_eq x t) (is_among xs) at n ∙ (λ i. one i || some_among xs at n i)
  where
    and_true : (a : Bool) → (a && true) ≡ a
    and_true true = refl
    and_true false = refl

    one : some_in (λ x. nat_eq x t) at n ≡ is_within at n t
    one = some_same (λ x. nat_eq x t) (λ x. nat_eq x t && true) (λ x. sym (and_true (nat_eq x t))) at n ∙ some_one t (λ x. true) at n ∙ and_true (is_within at n t)

-- WHERE A PROCEDURE'S WORDS ARE

within_from : (at n x : ℕ) → is_within at n x ≡ true → at ≤ x
within_from at zero x e = absurd (cc)
within_from at (suc n) x e =
    elim (cases_Bool (nat_eq at x)) [
      | inl here ↦ omega (arith, eqb-true at x here)
      | inr apart ↦ let h = within_from (at + 4) n x (rw apart at e) in omega (arith, h)
    ]

within_next : (at n x : ℕ) → is_within (at + 4) n (x + 4) ≡ is_within at n x
within_next at zero x = refl
within_next at (suc n) x = λ i. (same_test i) || within_next (at + 4) n x i
  where
    same_test : nat_eq (at + 4) (x + 4) ≡ nat_eq at x
    same_test = elim (cases_Bool (nat_eq at x)) [
      | inl here ↦ eq-eqb (at + 4) (x + 4) (omega (arith, eqb-true at x here)) ∙ sym here
      | inr apart ↦ ne_eqb (at + 4) (x + 4) (λ e. eqb-false at x apart (omega (arith, e))) ∙ sym apart
    ]

-- the first of them is the only one before which a word outside stands
within_behind : (at n x : ℕ) → (not (is_within at (suc n) x) && is_within at (suc n) (x + 4)) ≡ nat_eq (x + 4) at
within_behind at n x =
    elim (cases_Bool (nat_eq at (x + 4))) [
      | inl here ↦
          let same : at ≡ x + 4 = eqb-true at (x + 4) here in
          rw (here, eq-eqb (x + 4) at (sym same), outside (is_within at (suc n) x) refl same) refl
      | inr apart ↦
          rw (apart, within_next at n x, ne_eqb (x + 4) at (λ e. eqb-false at (x + 4) apart (sym e))) (none (is_within at (suc n) x) (is_within at n x) refl refl)
    ]
  where
    outside : (b : Bool) → is_within at (suc n) x ≡ b → at ≡ x + 4 → is_within at (suc n) x ≡ false
    outside true e same = absurd (let h = within_from at (suc n) x e in omega (arith, h, same))
    outside false e same = e

    longer : (at n : ℕ) → is_within at n x ≡ true → is_within at (suc n) x ≡ true
    longer at zero e = absurd (cc)
    longer at (suc n) e =
        elim (cases_Bool (nat_eq at x)) [
          | inl here ↦ rw here refl
          | inr apart ↦ rw apart (longer (at + 4) n (rw apart at e))
        ]

    none : (b c : Bool) → is_within at (suc n) x ≡ b → is_within at n x ≡ c → (not b && c) ≡ false
    none true c e f = refl
    none false false e f = refl
    none false true e f = let h = longer at n f in absurd (cc)

-- HOW A PROCEDURE IS ENTERED BY WHAT LEADS TO ITS WORDS

-- its first word, and a later one
abbrev pub enters_at : Bool → ℕ → Entrance → Bool
enters_at first link e = if first then is_entered_but_by link e else is_open e

enters_merged : (first : Bool) (link : ℕ) (e d : Entrance) → enters_at first link (merged e d) ≡ (enters_at first link e || enters_at first link d)
enters_merged true link Closed d = refl
enters_merged false link Closed d = refl
enters_merged true link Open d = refl
enters_merged false link Open d = refl
enters_merged true link (Calls r) Closed = sym (or-false (not (r == link)))
enters_merged false link (Calls r) Closed = refl
enters_merged true link (Calls r) Open = sym (or_true (not (r == link)))
  where
    or_true : (a : Bool) → (a || true) ≡ true
    or_true true = refl
    or_true false = refl
enters_merged false link (Calls r) Open = refl
enters_merged first link (Calls r) (Calls s) = go first (r == s) (r == link) (s == link) refl refl refl
  where
    go : (first a b c : Bool) → (r == s) ≡ a → (r == link) ≡ b → (s == link) ≡ c → enters_at first link (if a then Calls r else Open) ≡ (enters_at first link (Calls r) || enters_at first link (Calls s))
    go false true b c e f h = refl
    go false false b c e f h = refl
    go true true true true e f h = rw (f, h) refl
    go true true true false e f h = absurd (eqb-false s link h (sym (eqb-true r s e) ∙ eqb-true r link f))
    go true true false c e f h = rw f refl
    go true false true true e f h = absurd (eqb-false r s e (eqb-true r link f ∙ sym (eqb-true s link h)))
    go true false true false e f h = rw (f, h) refl
    go true false false c e f h = rw f refl

module _ (note : Note) where
  abbrev pub P : ℕ → Bool
  P x = is_within note.address (suc note.length) x

  abbrev enters : ℕ → Entrance → Bool
  enters x e = enters_at (nat_eq x note.address) note.link e

  some_enter : (ℕ → Entrance) → Bool
  some_enter e = some_in (λ x. enters x (e x)) note.address (suc note.length)

  enter_both : (e d : ℕ → Entrance) → some_enter (λ x. merged (e x) (d x)) ≡ (some_enter e || some_enter d)
  unfolding some_enter
  enter_both e d =
      some_same (λ x. enters x (merged (e x) (d x))) (λ x. enters x (e x) || enters x (d x)) (λ x. enters_merged (nat_eq x note.address) note.link (e x) (d x)) note.address (suc note.length)
      ∙ some_both (λ x. enters x (e x)) (λ x. enters x (d x)) note.address (suc note.length)

  enter_closed : some_enter (λ x. Closed) ≡ false
  unfolding some_enter
  enter_closed = some_same (λ x. enters x Closed) (λ x. false) (λ x. closed (nat_eq x note.address)) note.address (suc note.length) ∙ some_none note.address (suc note.length)
    where
      closed : (first : Bool) → enters_at first note.link Closed ≡ false
      closed true = refl
      closed false = refl

  -- names
  enter_named : (xs : List ℕ) → some_enter (λ x. entrance_if (is_among xs x) Open) ≡ list_any P xs
  unfolding some_enter
  enter_named xs =
      some_same (λ x. enters x (entrance_if (is_among xs x) Open)) (is_among xs) (λ x. named (nat_eq x note.address) (is_among xs x)) note.address (suc note.length)
      ∙ some_among xs note.address (suc note.length)
    where
      named : (first b : Bool) → enters_at first note.link (entrance_if b Open) ≡ b
      named true true = refl
      named true false = refl
      named false true = refl
      named false false = refl

  -- one target
  enter_one : (t : ℕ) (e : Entrance) → some_enter (λ x. entrance_if (is_among (t ∷ []) x) e) ≡ (P t && enters t e)
  unfolding some_enter
  enter_one t e =
      some_same (λ x. enters x (entrance_if (is_among (t ∷ []) x) e)) (λ x. nat_eq x t && enters x e) (λ x. one (nat_eq x note.address) (nat_eq x t)) note.address (suc note.length)
      ∙ some_one t (λ x. enters x e) note.address (suc note.length)
    where
      one : (first b : Bool) → enters_at first note.link (entrance_if (b || false) e) ≡ (b && enters_at first note.link e)
      one first true = refl
      one true false = refl
      one false false = refl

  -- jumps
  abbrev jumps_in : ℕ → Insn → Bool
  jumps_in at insn = list_any (λ x. P x && not (is_call note insn x)) (jump_target at insn)

  jal_enters : (rd t : ℕ) (first : Bool) → enters_at first note.link (Calls rd) ≡ not (rd == note.link && first)
  jal_enters rd t true = by_link (rd == note.link)
    where
      by_link : (b : Bool) → not b ≡ not (b && true)
      by_link true = refl
      by_link false = refl
  jal_enters rd t false = by_link (rd == note.link)
    where
      by_link : (b : Bool) → true ≡ not (b && false)
      by_link true = refl
      by_link false = refl

  open_enters : (first : Bool) → enters_at first note.link Open ≡ true
  open_enters true = refl
  open_enters false = refl

  enter_jumps : (at : ℕ) (insn : Insn) → some_enter (λ x. entrance_if (is_among (jump_target at insn) x) (jump_entrance insn)) ≡ jumps_in at insn
  enter_jumps at (Jal rd offset) = one (target_from at offset)
    where
      one : (t : ℕ) → some_enter (λ x. entrance_if (is_among (t ∷ []) x) (Calls rd)) ≡ ((P t && not (rd == note.link && t == note.address)) || false)
      one t = enter_one t (Calls rd) ∙ ap (λ b. P t && b) (jal_enters rd t (nat_eq t note.address)) ∙ sym (or-false (P t && not (rd == note.link && t == note.address)))
  enter_jumps at (BranchInsn cond a b offset) = one (target_from at offset)
    where
      one : (t : ℕ) → some_enter (λ x. entrance_if (is_among (t ∷ []) x) Open) ≡ ((P t && true) || false)
      one t = enter_one t Open ∙ ap (λ b. P t && b) (open_enters (nat_eq t note.address)) ∙ sym (or-false (P t && true))
  enter_jumps at (Lui rd upper) = enter_closed
  enter_jumps at (Auipc rd upper) = enter_closed
  enter_jumps at (Jalr rd rs offset) = enter_closed
  enter_jumps at (Load kind rd rs offset) = enter_closed
  enter_jumps at (Store kind rs src offset) = enter_closed
  enter_jumps at (OpImm op rd rs imm) = enter_closed
  enter_jumps at (OpInsn op rd a b) = enter_closed
  enter_jumps at (Fence word) = enter_closed
  enter_jumps at Ecall = enter_closed
  enter_jumps at Ebreak = enter_closed
  enter_jumps at (Unimp word) = enter_closed
  enter_jumps at (Atomic op order rd rs src) = enter_closed

  -- an instruction, but for its next word
  abbrev leads_in : ℕ → Mark → Option Insn → Bool
  leads_in at mark None = false
  leads_in at mark (Some insn) = list_any P (half_target mark) || jumps_in at insn

  enter_marked : (at : ℕ) (mark : Mark) (o : Option Insn) → some_enter (λ x. marked_entrance x at mark o) ≡ leads_in at mark o
  enter_marked at mark None = enter_closed
  enter_marked at mark (Some insn) =
      enter_both (λ x. entrance_if (is_among (half_target mark) x) Open) (λ x. entrance_if (is_among (jump_target at insn) x) (jump_entrance insn))
      ∙ (λ i. enter_named (half_target mark) i || enter_jumps at insn i)

  enter_if : (b : Bool) (e : ℕ → Entrance) → some_enter (λ x. entrance_if b (e x)) ≡ (b && some_enter e)
  enter_if true e = refl
  enter_if false e = enter_closed

  module _ (is : ℕ → Bool) where
    abbrev leads_in_words : ℕ → List Word → Bool
    leads_in_words at [] = false
    leads_in_words at (w ∷ words) = (is at && leads_in at w.mark (insn_in w)) || leads_in_words (at + 4) words

    enter_words : (at : ℕ) (words : List Word) → some_enter (λ x. words_entrance is x at words) ≡ leads_in_words at words
    enter_words at [] = enter_closed
    enter_words at (w ∷ words) =
        enter_both (λ x. entrance_if (is at) (marked_entrance x at w.mark (insn_in w))) (λ x. words_entrance is x (at + 4) words)
        ∙ (λ i. (enter_if (is at) (λ x. marked_entrance x at w.mark (insn_in w)) ∙ ap (λ b. is at && b) (enter_marked at w.mark (insn_in w))) i || enter_words (at + 4) words i)

    -- THE NEXT WORD

    -- the instruction goes on to the word at a
    abbrev goes_to : ℕ → ℕ → Option Insn → Bool
    goes_to a at o = insn_is (λ insn. insn_goes_on insn && nat_eq (at + 4) a) o

    abbrev falls_in_words : ℕ → ℕ → List Word → Bool
    falls_in_words a at [] = false
    falls_in_words a at (w ∷ words) = (is at && goes_to a at (insn_in w)) || falls_in_words a (at + 4) words

    -- of tests: p and q are of the word and the one behind it, r of the first word
    tests : (h p q r g j : Bool) → (not p && q) ≡ r → (p ≡ true → j ≡ false) → (h || (not p && ((g && q) || j))) ≡ ((h || j) || (g && r))
    tests true p q r g j e f = refl
    tests false true q true g j e f = absurd (cc)
    tests false true q false g true e f = absurd (let h = f refl in cc)
    tests false true q false true false e f = refl
    tests false true q false false false e f = refl
    tests false false q r true true e f = or_true q
      where
        or_true : (a : Bool) → (a || true) ≡ true
        or_true true = refl
        or_true false = refl
    tests false false q r true false e f = or-false q ∙ e
    tests false false q r false true e f = refl
    tests false false q r false false e f = refl

    insn_is_entered : (at : ℕ) (mark : Mark) (insn : Insn) → (P at ≡ true → jump_target at insn ≡ []) → insn_enters note at mark insn ≡ (leads_in at mark (Some insn) || goes_to note.address at (Some insn))
    insn_is_entered at mark insn straight =
        ap in_range one_more
        ∙ ap (λ b. list_any P (half_target mark) || (not (P at) && (b || jumps_in at insn))) (next_any (insn_goes_on insn))
        ∙ tests (list_any P (half_target mark)) (P at) (P (at + 4)) (nat_eq (at + 4) note.address) (insn_goes_on insn) (jumps_in at insn) (within_behind note.address note.length at) (λ inside. ap (list_any (λ x. P x && not (is_call note insn x))) (straight inside))
      where
        one_more : note.length + 1 ≡ suc note.length
        one_more = omega arith

        in_range : ℕ → Bool
        in_range n = list_any (is_within note.address n) (half_target mark) || (not (is_within note.address n at) && (list_any (is_within note.address n) (next_word at insn) || list_any (λ x. is_within note.address n x && not (is_call note insn x)) (jump_target at insn)))

        next_any : (goes : Bool) → list_any P (if goes then (at + 4) ∷ [] else []) ≡ (goes && P (at + 4))
        next_any true = or-false (P (at + 4))
        next_any false = refl

    -- where no jump stands in the procedure
    abbrev Straight : ℕ → List Word → Type 0
    Straight at words = (x : ℕ) (w : Word) (insn : Insn) → word_from x at words ≡ Some w → P x ≡ true → insn_in w ≡ Some insn → jump_target x insn ≡ []

    words_are_entered : (at : ℕ) (words : List Word) → Straight at words → words_enter is note at words ≡ (leads_in_words at words || falls_in_words note.address at words)
    words_are_entered at [] straight = refl
    words_are_entered at (w ∷ words) straight =
        (λ i. (is at && one (insn_in w) refl i) || words_are_entered (at + 4) words behind i)
        ∙ split (is at) (leads_in at w.mark (insn_in w)) (goes_to note.address at (insn_in w)) (leads_in_words (at + 4) words) (falls_in_words note.address (at + 4) words)
      where
        one : (o : Option Insn) → insn_in w ≡ o → marked_enters note at w.mark o ≡ (leads_in at w.mark o || goes_to note.address at o)
        one None e = refl
        one (Some insn) e = insn_is_entered at w.mark insn (λ inside. straight at w insn (first_word at w words) inside e)

        behind : Straight (at + 4) words
        behind x v insn there inside e = straight x v insn (later_word x at w words v there) inside e

        split : (b l g m f : Bool) → ((b && (l || g)) || (m || f)) ≡ (((b && l) || m) || ((b && g) || f))
        split true l g m f = or_swap l g m f
        split false l g m f = refl

    -- only the word before a can go on to it
    falls_past : (a at : ℕ) (words : List Word) → a ≤ at → falls_in_words a at words ≡ false
    falls_past a at [] past = refl
    falls_past a at (w ∷ words) past =
        (λ i. (is at && none (insn_in w) i) || falls_past a (at + 4) words (omega (arith, past)) i) ∙ closed (is at)
      where
        none : (o : Option Insn) → goes_to a at o ≡ false
        none o = apart_goes a at o (λ e. omega (arith, past, e))

        closed : (b : Bool) → ((b && false) || false) ≡ false
        closed true = refl
        closed false = refl

    falls_are : (a at : ℕ) (words : List Word) → falls_in_words a at words ≡ (nat_le 4 a && (is (a - 4) && insn_is insn_goes_on (option_and_then insn_in (word_from (a - 4) at words))))
    falls_are a at [] = closed (nat_le 4 a) (is (a - 4))
      where
        closed : (b c : Bool) → false ≡ (b && (c && false))
        closed true true = refl
        closed true false = refl
        closed false c = refl
    falls_are a at (w ∷ words) =
        elim (cases_Bool (nat_eq (at + 4) a)) [
          | inl here ↦ falls_here a at w words (eqb-true (at + 4) a here)
          | inr apart ↦ falls_there a at w words (eqb-false (at + 4) a apart) (falls_are a (at + 4) words)
        ]
      where
        falls_here : (a at : ℕ) (w : Word) (words : List Word) → at + 4 ≡ a → falls_in_words a at (w ∷ words) ≡ (nat_le 4 a && (is (a - 4) && insn_is insn_goes_on (option_and_then insn_in (word_from (a - 4) at (w ∷ words)))))
        falls_here a at w words same =
            let low : nat_le 4 a ≡ true = le_is 4 a (omega (arith, same)) in
            let before : a - 4 ≡ at = omega (arith, same) in
            (λ i. (is at && same_goes a at (insn_in w) same i) || falls_past a (at + 4) words (omega (arith, same)) i)
            ∙ or-false (is at && insn_is insn_goes_on (insn_in w))
            ∙ sym (rw (low, before, eq-eqb at at refl) refl)

        falls_there : (a at : ℕ) (w : Word) (words : List Word) → (at + 4 ≡ a → ⊥) → falls_in_words a (at + 4) words ≡ (nat_le 4 a && (is (a - 4) && insn_is insn_goes_on (option_and_then insn_in (word_from (a - 4) (at + 4) words)))) → falls_in_words a at (w ∷ words) ≡ (nat_le 4 a && (is (a - 4) && insn_is insn_goes_on (option_and_then insn_in (word_from (a - 4) at (w ∷ words)))))
        falls_there a at w words apart rest =
            ap (λ b. (is at && b) || falls_in_words a (at + 4) words) (apart_goes a at (insn_in w) apart)
            ∙ none (is at) (falls_in_words a (at + 4) words)
            ∙ rest
            ∙ by_low (nat_le 4 a) refl
          where
            none : (b c : Bool) → ((b && false) || c) ≡ c
            none true c = refl
            none false c = refl

            by_low : (low : Bool) → nat_le 4 a ≡ low → (nat_le 4 a && (is (a - 4) && insn_is insn_goes_on (option_and_then insn_in (word_from (a - 4) (at + 4) words)))) ≡ (nat_le 4 a && (is (a - 4) && insn_is insn_goes_on (option_and_then insn_in (word_from (a - 4) at (w ∷ words)))))
            by_low true e = let h : 4 ≤ a = le_of 4 a e in rw (ne_eqb (a - 4) at (λ same. apart (omega (arith, h, same)))) refl
            by_low false e = rw e refl

    -- ALL THAT LEADS IN

    -- behind the first word
    some_later : (e : ℕ → Entrance) (at n : ℕ) → note.address < at → some_in (λ x. enters x (e x)) at n ≡ some_open e at n
    some_later e at zero above = refl
    some_later e at (suc n) above =
        (λ i. later (ne_eqb at note.address (λ same. omega (arith, above, same))) i || some_later e (at + 4) n (omega (arith, above)) i)
      where
        later : nat_eq at note.address ≡ false → enters at (e at) ≡ is_open (e at)
        later apart = rw apart refl

    enters_are : (e : ℕ → Entrance) → some_enter e ≡ (is_entered_but_by note.link (e note.address) || some_open e (note.address + 4) note.length)
    unfolding some_enter
    enters_are e =
        rw (eq-eqb note.address note.address refl) (ap (λ b. is_entered_but_by note.link (e note.address) || b) (some_later e (note.address + 4) note.length (omega arith)))

    pub entered_by_words : (p : Program) → Straight p.text.lo p.text.words → is_entered is p note ≡ is_entered_by is (entrance_of is p) p.text note
    entered_by_words p straight =
        ap (λ n. (is_within note.address n p.entry || list_any (is_within note.address n) (map target_of p.code_words)) || words_enter is note p.text.lo p.text.words) one_more
        ∙ ap (λ b. (P p.entry || list_any P (map target_of p.code_words)) || b) (words_are_entered p.text.lo p.text.words straight)
        ∙ regroup (P p.entry) (list_any P (map target_of p.code_words)) (leads_in_words p.text.lo p.text.words) (falls_in_words note.address p.text.lo p.text.words)
        ∙ (λ i. sym all i || falls_are note.address p.text.lo p.text.words i)
        ∙ (λ i. enters_are (entrance_of is p) i || is_fallen_into is p.text note.address)
        ∙ assoc (is_entered_but_by note.link (entrance_of is p note.address)) (some_open (entrance_of is p) (note.address + 4) note.length) (is_fallen_into is p.text note.address)
      where
        one_more : note.length + 1 ≡ suc note.length
        one_more = omega arith

        regroup : (a b c d : Bool) → ((a || b) || (c || d)) ≡ (((a || false) || (b || c)) || d)
        regroup true b c d = refl
        regroup false true c d = refl
        regroup false false c d = refl

        assoc : (a b c : Bool) → ((a || b) || c) ≡ (a || (b || c))
        assoc true b c = refl
        assoc false b c = refl

        all : some_enter (entrance_of is p) ≡ ((P p.entry || false) || (list_any P (map target_of p.code_words) || leads_in_words p.text.lo p.text.words))
        all =
            enter_both (λ x. entrance_if (is_among (p.entry ∷ []) x) Open) (λ x. merged (entrance_if (is_among (map target_of p.code_words) x) Open) (words_entrance is x p.text.lo p.text.words))
            ∙ (λ i. enter_named (p.entry ∷ []) i || (enter_both (λ x. entrance_if (is_among (map target_of p.code_words) x) Open) (λ x. words_entrance is x p.text.lo p.text.words) ∙ (λ j. enter_named (map target_of p.code_words) j || enter_words p.text.lo p.text.words j)) i)
