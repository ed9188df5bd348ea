-- Items that match others are matched by them.
use Rattle.std.proofs.Common.{◌≡◌, ℕ, ◌==◌, not, ◌&&◌, ◌||◌, List, [], ◌∷◌, ◌++◌, length, inl, inr, ⊎_elim, refl, sym, ap, ◌∙◌, subst}
use Rattle.std.specs.List.{All, flat_map}
use Rattle.std.proofs.lemmas.Bool.{cases_eq, eq-eqb, ne_eqb}
use Rattle.std.proofs.lemmas.List.Elements.{All-cons, All-head, All-tail}
use Rattle.sq_isa.specs.Forms.{first_of, second_of, with_registers}
use Rattle.sq_isa.specs.Registers.{is_among, is_among_but_x0}
use Rattle.sq_isa.specs.Uses.{sources_of, destination_of}
use Rattle.sq_isa.specs.declared.instructions.Insn.{Insn}
use Rattle.sq_isa.specs.declared.instructions.Insn.TheVariants.{Lui, Auipc, Jal, Jalr, Branch, Load, Store, OpImm, Op as Reg, Fence, Ecall, Ebreak, Unimp, Atomic}
use Rattle.sq_graph.specs.declared.item.Item.{Item}
use Rattle.sq_graph.specs.declared.item.Item.TheVariants.{Op, Hi, Lo, Out}
use Rattle.sq_graph.specs.Graph.{Procedure}
use Rattle.sq_graph.specs.Matches.{registers_of, item_reads, item_writes, IsSameInsn, IsSameForm, AreSameForms, IsPairIn, IsPair, IsWrittenFirst, Match, PairsDie}
use Rattle.sq_graph.specs.Uses.{item_calls}
use Rattle.sq_graph.specs.Walks.{lower_names}
use Rattle.law_patch.proofs.LiveSteps.{own_registers}
use Rattle.law_patch.proofs.Matching.{same_count}

-- FORMS

-- of registers that are put into an instruction in turn the last remain
last_remain : (d a b e x y : ℕ) (insn : Insn) → with_registers d a b (with_registers e x y insn) ≡ with_registers d a b insn
last_remain d a b e x y (Lui rd upper) = refl
last_remain d a b e x y (Auipc rd upper) = refl
last_remain d a b e x y (Jal rd offset) = refl
last_remain d a b e x y (Jalr rd rs offset) = refl
last_remain d a b e x y (Branch c p q offset) = refl
last_remain d a b e x y (Load kind rd rs offset) = refl
last_remain d a b e x y (Store kind rs src offset) = refl
last_remain d a b e x y (OpImm op rd rs imm) = refl
last_remain d a b e x y (Reg op rd p q) = refl
last_remain d a b e x y (Fence word) = refl
last_remain d a b e x y Ecall = refl
last_remain d a b e x y Ebreak = refl
last_remain d a b e x y (Unimp word) = refl
last_remain d a b e x y (Atomic op order rd rs src) = refl

insn_back : (insn other : Insn) → IsSameInsn insn other → IsSameInsn other insn
insn_back insn other same =
    sym (own_registers insn)
    ∙ (sym (last_remain (destination_of insn) (first_of insn) (second_of insn) (destination_of other) (first_of other) (second_of other) insn)
    ∙ ap (with_registers (destination_of insn) (first_of insn) (second_of insn)) (sym same))

form_back : (item other : Item) → IsSameForm item other → IsSameForm other item
form_back (Op insn) (Op other) form = insn_back insn other form
form_back (Hi rd to) (Hi rd' to') form = sym form
form_back (Lo rd rs to) (Lo rd' rs' to') form = sym form
form_back (Out procedure) (Out procedure') form = sym form
form_back item other form = absurd form

forms_back : (items others : List Item) → AreSameForms items others → AreSameForms others items
forms_back [] [] forms = tt
forms_back [] (j ∷ others) forms = absurd forms
forms_back (i ∷ items) [] forms = absurd forms
forms_back (i ∷ items) (j ∷ others) forms = (form_back i j forms.0, forms_back items others forms.1)

-- items of one form name the same by their lower halves
lowers_alike : (item other : Item) → IsSameForm item other → lower_names other ≡ lower_names item
lowers_alike (Op insn) (Op other) form = refl
lowers_alike (Hi rd to) (Hi rd' to') form = refl
lowers_alike (Lo rd rs to) (Lo rd' rs' to') form = ap (λ n. n ∷ []) form
lowers_alike (Out procedure) (Out procedure') form = refl
lowers_alike item other form = absurd form

pub same_lowers : (items others : List Item) → AreSameForms items others → flat_map lower_names others ≡ flat_map lower_names items
same_lowers [] [] forms = refl
same_lowers [] (j ∷ others) forms = absurd forms
same_lowers (i ∷ items) [] forms = absurd forms
same_lowers (i ∷ items) (j ∷ others) forms =
    ap (λ names. names ++ flat_map lower_names others) (lowers_alike i j forms.0) ∙ ap (λ names. lower_names i ++ names) (same_lowers items others forms.1)

-- and call the same procedure
calls_alike : (item other : Item) → IsSameForm item other → item_calls other ≡ item_calls item
calls_alike (Op insn) (Op other) form = refl
calls_alike (Hi rd to) (Hi rd' to') form = refl
calls_alike (Lo rd rs to) (Lo rd' rs' to') form = refl
calls_alike (Out procedure) (Out procedure') form = ap (λ p. p ∷ []) form
calls_alike item other form = absurd form

pub same_plain : (items others : List Item) → AreSameForms items others → All (λ item. item_calls item ≡ []) items → All (λ item. item_calls item ≡ []) others
same_plain [] [] forms none = none
same_plain [] (j ∷ others) forms none = absurd forms
same_plain (i ∷ items) [] forms none = absurd forms
same_plain (i ∷ items) (j ∷ others) forms none =
    All-cons (λ (item : Item). item_calls item ≡ []) j others (calls_alike i j forms.0 ∙ All-head (λ (item : Item). item_calls item ≡ []) i items none)
    (same_plain items others forms.1 (All-tail (λ (item : Item). item_calls item ≡ []) i items none))

-- PAIRS

flip_in : (xs ys : List ℕ) (r s : ℕ) → IsPairIn xs ys r s → IsPairIn ys xs s r
flip_in [] ys r s pair = absurd pair
flip_in (x ∷ xs) [] r s pair = absurd pair
flip_in (x ∷ xs) (y ∷ ys) r s (inl here) = inl (here.1, here.0)
flip_in (x ∷ xs) (y ∷ ys) r s (inr later) = inr (flip_in xs ys r s later)

pub flip : (procedures : List Procedure) (items others : List Item) (r s : ℕ) → IsPair procedures items others r s → IsPair procedures others items s r
flip procedures [] others r s pair = absurd pair
flip procedures (i ∷ items) [] r s pair = absurd pair
flip procedures (i ∷ items) (j ∷ others) r s (inl here) = inl (flip_in (registers_of procedures i) (registers_of procedures j) r s here)
flip procedures (i ∷ items) (j ∷ others) r s (inr later) = inr (flip procedures items others r s later)

pub dies_back : (procedures : List Procedure) (items others : List Item) (Lives : ℕ → Type 0) → PairsDie procedures items others Lives → PairsDie procedures others items Lives
dies_back procedures items others Lives die r s pair unlike =
    let dead = die s r (flip procedures others items r s pair) (λ e. unlike (sym e)) in
    (dead.1, dead.0)

-- MATCHES

same_test : (x y r s : ℕ) → (x ≡ r → y ≡ s) → (y ≡ s → x ≡ r) → (y == s) ≡ (x == r)
same_test x y r s there back =
    elim (cases_eq x r) [
      | inl e ↦ eq-eqb y s (there e) ∙ sym (eq-eqb x r e)
      | inr unlike ↦ ne_eqb y s (λ e. unlike (back e)) ∙ sym (ne_eqb x r unlike)
    ]

module _ (procedures : List Procedure) (items others : List Item) (match : Match procedures items others) where
  abbrev Pair : ℕ → ℕ → Type 0
  Pair r s = IsPair procedures items others r s

  abbrev ArePairs : List ℕ → List ℕ → Type 0
  ArePairs xs ys = (r s : ℕ) → IsPairIn xs ys r s → Pair r s

  -- s is read and written where r is
  module _ (r s : ℕ) (pair : Pair r s) where
    here_alike : (x y : ℕ) → Pair x y → (y == s) ≡ (x == r)
    here_alike x y p = same_test x y r s (λ e. match.there r y s (subst (λ q. Pair q y) e p) pair) (λ e. match.back x r s (subst (Pair x) e p) pair)

    zero_alike : (s == 0) ≡ (r == 0)
    zero_alike = same_test r s 0 0 (λ e. match.zero_there s (subst (λ q. Pair q s) e pair)) (λ e. match.zero_back r (subst (Pair r) e pair))

    among_alike : (xs ys : List ℕ) → length ys ≡ length xs → ArePairs xs ys → is_among ys s ≡ is_among xs r
    among_alike [] [] many pairs = refl
    among_alike [] (y ∷ ys) many pairs = absurd (cc)
    among_alike (x ∷ xs) [] many pairs = absurd (cc)
    among_alike (x ∷ xs) (y ∷ ys) many pairs =
        ap (λ b. b || is_among ys s) (here_alike x y (pairs x y (inl (refl, refl))))
        ∙ ap (λ b. x == r || b) (among_alike xs ys (let n : length ys ≡ length xs = cc in n) (λ q t p. pairs q t (inr p)))

    but_x0_alike : (xs ys : List ℕ) → length ys ≡ length xs → ArePairs xs ys → is_among_but_x0 ys s ≡ is_among_but_x0 xs r
    but_x0_alike xs ys many pairs = ap (λ b. not b && is_among ys s) zero_alike ∙ ap (λ b. not (r == 0) && b) (among_alike xs ys many pairs)

    reads_alike : (item other : Item) → IsSameForm item other → ArePairs (registers_of procedures item) (registers_of procedures other) → item_reads other s ≡ item_reads item r
    reads_alike (Op insn) (Op other) form pairs =
        but_x0_alike (sources_of insn) (sources_of other) (ap (λ o. length (sources_of o)) form ∙ same_count (destination_of other) (first_of other) (second_of other) insn) (λ q t p. pairs q t (inr p))
    reads_alike (Hi rd to) (Hi rd' to') form pairs = refl
    reads_alike (Lo rd rs to) (Lo rd' rs' to') form pairs = but_x0_alike (rs ∷ []) (rs' ∷ []) refl (λ q t p. pairs q t (inr p))
    reads_alike (Out procedure) (Out procedure') form pairs = refl
    reads_alike item other form pairs = absurd form

    destination_alike : (d e : ℕ) → Pair d e → is_among_but_x0 (e ∷ []) s ≡ is_among_but_x0 (d ∷ []) r
    destination_alike d e p = but_x0_alike (d ∷ []) (e ∷ []) refl (λ q t o. ⊎_elim (λ here. subst (Pair q) (sym here.1) (subst (λ x. Pair x e) (sym here.0) p)) (λ none. absurd none) o)

    writes_alike : (item other : Item) → IsSameForm item other → ArePairs (registers_of procedures item) (registers_of procedures other) → item_writes other s ≡ item_writes item r
    writes_alike (Op insn) (Op other) form pairs = destination_alike (destination_of insn) (destination_of other) (pairs (destination_of insn) (destination_of other) (inl (refl, refl)))
    writes_alike (Hi rd to) (Hi rd' to') form pairs = destination_alike rd rd' (pairs rd rd' (inl (refl, refl)))
    writes_alike (Lo rd rs to) (Lo rd' rs' to') form pairs = destination_alike rd rd' (pairs rd rd' (inl (refl, refl)))
    writes_alike (Out procedure) (Out procedure') form pairs = refl
    writes_alike item other form pairs = absurd form

    first_alike : (is js : List Item) → AreSameForms is js → ((q t : ℕ) → IsPair procedures is js q t → Pair q t) → IsWrittenFirst r is → IsWrittenFirst s js
    first_alike [] js forms pairs first = absurd first
    first_alike (i ∷ is) [] forms pairs first = absurd forms
    first_alike (i ∷ is) (j ∷ js) forms pairs first =
        let here : ArePairs (registers_of procedures i) (registers_of procedures j) = λ q t p. pairs q t (inl p) in (
          reads_alike i j forms.0 here ∙ first.0,
          ⊎_elim (λ writes. inl (writes_alike i j forms.0 here ∙ writes)) (λ later. inr (first_alike is js forms.1 (λ q t p. pairs q t (inr p)) later)) first.1,
        )

pub match_back : (procedures : List Procedure) (items others : List Item) → Match procedures items others → Match procedures others items
match_back procedures items others match =
    let back : (r s : ℕ) → IsPair procedures others items r s → IsPair procedures items others s r = flip procedures others items in
    record {
      forms = forms_back items others match.forms;
      there = λ r s t p q. match.back s t r (back r s p) (back r t q);
      back = λ q r s p t. match.there s q r (back q s p) (back r s t);
      zero_there = λ s p. match.zero_back s (back 0 s p);
      zero_back = λ r p. match.zero_there r (back r 0 p);
      first = λ r s p unlike. first_alike procedures items others match s r (back r s p) items others match.forms (λ q t o. o) (match.first s r (back r s p) (λ e. unlike (sym e)));
    }
