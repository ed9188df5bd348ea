-- Items that match have one print.
use Rattle.std.proofs.Common.{◌≡◌, ◌≢◌, ◌<◌, ◌+◌, ◌⊎◌, ℕ, zero, suc, ◌==◌, ◌||◌, Bool, true, false, not, ◌&&◌, if◌then◌else◌, List, [], ◌∷◌, length, Option, Some, None, unwrap_or, inl, inr, ⊎_elim, refl, sym, ap, ◌∙◌, subst, arith}
use Rattle.std.specs.List.{All}
use Rattle.std.proofs.lemmas.Bool.{cases_Bool, cases_eq, eqb-true, eqb-false, eq-eqb, ne_eqb, and_parts, or_cases, or_left}
use Rattle.std.proofs.lemmas.List.Elements.{All-head, All-tail}
use Rattle.sq_isa.specs.Ranges.{SourceFits}
use Rattle.sq_isa.specs.Registers.{is_among, is_among_but_x0}
use Rattle.sq_isa.specs.Uses.{sources_of, destination_of}
use Rattle.sq_isa.specs.declared.instructions.Insn.TheVariants.{Lui, Auipc, Jal, Jalr, Branch, Load, Store, OpImm, Op as OpInsn, Fence, Ecall, Ebreak, Unimp, Atomic}
use Rattle.sq_isa.specs.declared.instructions.AtomicOp.{AtomicOp}
use Rattle.sq_isa.specs.declared.instructions.AtomicOp.TheVariants.{Lr, Sc, Swap, Add, Xor, And, Or, Min, Max, MinU, MaxU}
use Rattle.sq_graph.specs.declared.item.Item.{Item}
use Rattle.sq_graph.specs.declared.item.Item.TheVariants.{Op, Hi, Lo, Out}
use Rattle.sq_graph.specs.Graph.{Procedure}
use Rattle.sq_graph.specs.Matches.{item_registers, registers_of, item_reads, item_writes, IsSameForm, AreSameForms, IsPairIn, IsPair, IsWrittenFirst}
use Rattle.sq_graph.specs.Rules.{ItemFits}
use Rattle.sq_rename.specs.Bodies.{IsBodyMatch}
use Rattle.sq_rename.specs.Pairs.{IsOneToOne, PairOrZero, padded}
use Rattle.sq_rename.specs.Prints.{item_number, mixed, Walked, code_of, met, met_all, met_item, walked, started, print_from}
use Rattle.sq_rename.specs.Shapes.{shape_of}
use Rattle.sq_rename.proofs.Bodies.{match_has}
use Rattle.sq_rename.proofs.Forms.{form_shape}
use Rattle.sq_rename.proofs.Places.{registers_same}

same_code : (o p : Option ℕ) (m n : ℕ) → o ≡ p → (o ≡ None → m ≡ n) → unwrap_or o m ≡ unwrap_or p n
same_code None p m n e first = first refl ∙ ap (λ q. unwrap_or q n) e
same_code (Some c) p m n e first = ap (λ q. unwrap_or q n) e

still_unmet : (o : Option ℕ) (here : Bool) (code : ℕ) → (if here then Some code else o) ≡ None → (o ≡ None) × (here ≡ false)
still_unmet o true code none = absurd (cc)
still_unmet o false code none = (none, refl)

-- what isn't met by a walk over registers isn't among them
unmet : (kept : ℕ → Bool) (k : ℕ) (rs : List ℕ) (v : Walked) (r : ℕ) → (met_all v kept k rs).codes r ≡ None → (v.codes r ≡ None) × (is_among rs r ≡ false)
unmet kept k [] v r none = (none, refl)
unmet kept k (x ∷ xs) v r none =
    let later = unmet kept k xs (met v kept k x) r none in
    let here = still_unmet (v.codes r) (x == r) (code_of v kept k x) later.0 in
    (here.0, ap (λ b. b || is_among xs r) here.1 ∙ later.1)

padded_count : (n : ℕ) (xs : List ℕ) → length (padded n xs) ≡ n
padded_count zero xs = refl
padded_count (suc n) [] = ap suc (padded_count n [])
padded_count (suc n) (x ∷ xs) = ap suc (padded_count n xs)

padded_pairs : (n : ℕ) (xs ys : List ℕ) (r s : ℕ) → length xs ≡ length ys → IsPairIn (padded n xs) (padded n ys) r s → ((r ≡ 0) × (s ≡ 0)) ⊎ IsPairIn xs ys r s
padded_pairs zero xs ys r s many pair = absurd pair
padded_pairs (suc n) [] [] r s many pair = ⊎_elim (λ here. inl here) (λ later. padded_pairs n [] [] r s many later) pair
padded_pairs (suc n) [] (y ∷ ys) r s many pair = absurd (omega (arith, many))
padded_pairs (suc n) (x ∷ xs) [] r s many pair = absurd (omega (arith, many))
padded_pairs (suc n) (x ∷ xs) (y ∷ ys) r s many pair =
    ⊎_elim
    (λ here. inr (inl here))
    (λ later. ⊎_elim (λ zero. inl zero) (λ p. inr (inr p)) (padded_pairs n xs ys r s (let m : length xs ≡ length ys = omega (arith, many) in m) later))
    pair

-- what an item writes is among its registers
pub written_among : (x r : ℕ) (xs : List ℕ) → is_among_but_x0 (x ∷ []) r ≡ true → is_among (x ∷ xs) r ≡ true
written_among x r xs e =
    ⊎_elim (λ here. or_left (x == r) (is_among xs r) here) (λ none. absurd (let f : false ≡ true = none in cc)) (or_cases (x == r) false (and_parts (not (r == 0)) (x == r || false) e).1)

writes_among : (item : Item) (r : ℕ) → item_writes item r ≡ true → is_among (padded 5 (item_registers item)) r ≡ true
writes_among (Op insn) r e = written_among (destination_of insn) r (padded 4 (sources_of insn)) e
writes_among (Hi rd to) r e = written_among rd r (padded 4 []) e
writes_among (Lo rd rs to) r e = written_among rd r (padded 4 (rs ∷ [])) e
writes_among (Out procedure) r e = absurd (cc)

unmet_start : (n r : ℕ) → (started n).codes r ≡ None → r ≢ 0
unmet_start n r none is = eqb-false 0 r (still_unmet None (0 == r) 0 none).1 (sym is)

-- REGISTERS THAT GO TOGETHER

-- those of two items, and of each of two lists of items
abbrev pub GoTogether : (ℕ → ℕ → Type 0) → Item → Item → Type 0
GoTogether P item other = (r s : ℕ) → IsPairIn (item_registers item) (item_registers other) r s → P r s

abbrev pub AllGoTogether : (ℕ → ℕ → Type 0) → List Item → List Item → Type 0
AllGoTogether P [] others = Unit {0}
AllGoTogether P (item ∷ items) [] = Unit {0}
AllGoTogether P (item ∷ items) (other ∷ others) = GoTogether P item other × AllGoTogether P items others

-- a pair of registers of two items is one of theirs and their procedures'
own_pair : (ps : List Procedure) (item other : Item) (r s : ℕ) → IsSameForm item other → IsPairIn (item_registers item) (item_registers other) r s → IsPairIn (registers_of ps item) (registers_of ps other) r s
own_pair ps (Op insn) (Op other) r s form pair = pair
own_pair ps (Hi rd to) (Hi rd' to') r s form pair = pair
own_pair ps (Lo rd rs to) (Lo rd' rs' to') r s form pair = pair
own_pair ps (Out procedure) (Out procedure') r s form pair = absurd pair
own_pair ps item other r s form pair = absurd form

pub all_together : (P : ℕ → ℕ → Type 0) (ps : List Procedure) (items others : List Item) → AreSameForms items others → ((r s : ℕ) → IsPair ps items others r s → P r s) → AllGoTogether P items others
all_together P ps [] others forms up = tt
all_together P ps (item ∷ items) [] forms up = tt
all_together P ps (item ∷ items) (other ∷ others) forms up = (
  λ r s pair. up r s (inl (own_pair ps item other r s forms.0 pair)),
  all_together P ps items others forms.1 (λ r s pair. up r s (inr pair)),
)

module _ (P : ℕ → ℕ → Type 0) (one : IsOneToOne P) (zeros : P 0 0) where
  same_test : (q r s t : ℕ) → P q t → P r s → (r == q) ≡ (s == t)
  same_test q r s t p o =
      elim (cases_Bool (r == q)) [
        | inl here ↦ here ∙ sym (eq-eqb s t (one.there r s t o (subst (λ x. P x t) (sym (eqb-true r q here)) p)))
        | inr apart ↦ apart ∙ sym (ne_eqb s t (λ e. eqb-false r q apart (one.back r q t (subst (P r) e o) p)))
      ]

  -- two walks with one print, and equal codes of registers that go together
  pub record AreAlike (v w : Walked) : Type 0 where
    pub print : v.print ≡ w.print
    pub codes : (r s : ℕ) → P r s → v.codes r ≡ w.codes s

  start_alike : (m n : ℕ) → m ≡ n → AreAlike (started m) (started n)
  start_alike m n e = record { print = e; codes = λ r s p. ap (λ (b : Bool). if b then Some 0 else None) (same_test r 0 0 s p zeros) }

  -- registers that are met first in both get equal codes
  abbrev AreFirst : Walked → (ℕ → Bool) → (ℕ → Bool) → ℕ → Type 0
  AreFirst v kept kept' k = (r s : ℕ) → P r s → v.codes r ≡ None → (if kept r then r else k) ≡ (if kept' s then s else k)

  module _ (kept kept' : ℕ → Bool) (k : ℕ) where
    meet_alike : (v w : Walked) (r s : ℕ) → AreAlike v w → P r s → AreFirst v kept kept' k → AreAlike (met v kept k r) (met w kept' k s)
    meet_alike v w r s alike p first =
        let c = code_of v kept k r in
        let d = code_of w kept' k s in
        let code : code_of v kept k r ≡ code_of w kept' k s = same_code (v.codes r) (w.codes s) (if kept r then r else k) (if kept' s then s else k) (alike.codes r s p) (first r s p) in
        record {
          print = ap (λ x. mixed x c) alike.print ∙ ap (mixed w.print) code;
          codes = λ q t o.
              ap (λ (b : Bool). if b then Some c else v.codes q) (same_test q r s t o p)
              ∙ ap (λ x. if s == t then Some x else v.codes q) code
              ∙ ap (λ x. if s == t then Some d else x) (alike.codes q t o);
        }

    meets_alike : (rs ss : List ℕ) (v w : Walked) → length rs ≡ length ss → ((r s : ℕ) → IsPairIn rs ss r s → P r s) → AreFirst v kept kept' k → AreAlike v w → AreAlike (met_all v kept k rs) (met_all w kept' k ss)
    meets_alike [] [] v w many pairs first alike = alike
    meets_alike [] (s ∷ ss) v w many pairs first alike = absurd (omega (arith, many))
    meets_alike (r ∷ rs) [] v w many pairs first alike = absurd (omega (arith, many))
    meets_alike (r ∷ rs) (s ∷ ss) v w many pairs first alike =
        let p = pairs r s (inl (refl, refl)) in
        meets_alike rs ss (met v kept k r) (met w kept' k s) (let m : length rs ≡ length ss = omega (arith, many) in m) (λ q t i. pairs q t (inr i))
        (λ q t o none. first q t o (still_unmet (v.codes q) (r == q) (code_of v kept k r) none).0)
        (meet_alike v w r s alike p first)

  among_alike : (xs ys : List ℕ) (r s : ℕ) → length xs ≡ length ys → ((q t : ℕ) → IsPairIn xs ys q t → P q t) → P r s → is_among xs r ≡ is_among ys s
  among_alike [] [] r s many pairs p = refl
  among_alike [] (y ∷ ys) r s many pairs p = absurd (omega (arith, many))
  among_alike (x ∷ xs) [] r s many pairs p = absurd (omega (arith, many))
  among_alike (x ∷ xs) (y ∷ ys) r s many pairs p =
      ap (λ b. b || is_among xs r) (same_test r x y s p (pairs x y (inl (refl, refl))))
      ∙ ap (λ b. y == s || b) (among_alike xs ys r s (let m : length xs ≡ length ys = omega (arith, many) in m) (λ q t i. pairs q t (inr i)) p)

  among_but_alike : (xs ys : List ℕ) (r s : ℕ) → length xs ≡ length ys → ((q t : ℕ) → IsPairIn xs ys q t → P q t) → P r s → is_among_but_x0 xs r ≡ is_among_but_x0 ys s
  among_but_alike xs ys r s many pairs p =
      ap (λ b. not b && is_among xs r) (same_test 0 r s 0 zeros p) ∙ ap (λ b. not (s == 0) && b) (among_alike xs ys r s many pairs p)

  reads_alike : (item other : Item) (r s : ℕ) → IsSameForm item other → GoTogether P item other → P r s → item_reads item r ≡ item_reads other s
  reads_alike (Op insn) (Op other) r s form pairs p =
      let many = registers_same (Op insn) (Op other) form in
      among_but_alike (sources_of insn) (sources_of other) r s (let m : length (sources_of insn) ≡ length (sources_of other) = omega (arith, many) in m) (λ q t i. pairs q t (inr i)) p
  reads_alike (Hi rd to) (Hi rd' to') r s form pairs p = refl
  reads_alike (Lo rd rs to) (Lo rd' rs' to') r s form pairs p = among_but_alike (rs ∷ []) (rs' ∷ []) r s refl (λ q t i. pairs q t (inr i)) p
  reads_alike (Out procedure) (Out procedure') r s form pairs p = refl
  reads_alike item other r s form pairs p = absurd form

  -- a register that isn't met yet is written first, where it goes with another
  abbrev AreNext : Walked → List Item → Type 0
  AreNext v items = (r s : ℕ) → P r s → v.codes r ≡ None → (r ≢ 0) × (s ≢ r → IsWrittenFirst r items)

  module _ (keeps keeps' : ℕ → Bool) (same : (r s : ℕ) → P r s → r ≢ 0 → keeps r ≡ keeps' s) (dies : (r s : ℕ) → P r s → r ≢ 0 → s ≢ r → keeps r ≡ false) where
    module _ (item other : Item) (items : List Item) (form : IsSameForm item other) (pairs : GoTogether P item other) (k : ℕ) (v w : Walked) (next : AreNext v (item ∷ items)) (alike : AreAlike v w) where
      abbrev kept : ℕ → Bool
      kept r = keeps r || item_reads item r

      abbrev kept' : ℕ → Bool
      kept' s = keeps' s || item_reads other s

      abbrev begun : Walked
      begun = record { print = mixed v.print (item_number (shape_of item)); codes = v.codes }

      abbrev begun' : Walked
      begun' = record { print = mixed w.print (item_number (shape_of other)); codes = w.codes }

      begun_alike : AreAlike begun begun'
      begun_alike = record {
        print = ap (λ x. mixed x (item_number (shape_of item))) alike.print ∙ ap (λ i. mixed w.print (item_number i)) (form_shape item other form);
        codes = alike.codes;
      }

      kept_alike : (r s : ℕ) → P r s → r ≢ 0 → kept r ≡ kept' s
      kept_alike r s p some = ap (λ b. b || item_reads item r) (same r s p some) ∙ ap (λ b. keeps' s || b) (reads_alike item other r s form pairs p)

      first : AreFirst begun kept kept' k
      first r s p none =
          let here = next r s p none in
          let is_same = kept_alike r s p here.0 in
          elim (cases_eq s r) [
            | inl is ↦ ap (λ (b : Bool). if b then r else k) is_same ∙ ap (λ x. if kept' s then x else k) (sym is)
            | inr unlike ↦
                let gone : kept r ≡ false = ap (λ b. b || item_reads item r) (dies r s p here.0 unlike) ∙ (here.1 unlike).0 in
                ap (λ (b : Bool). if b then r else k) gone ∙ sym (ap (λ (b : Bool). if b then s else k) (sym is_same ∙ gone))
          ]

      item_pairs : (r s : ℕ) → IsPairIn (padded 5 (item_registers item)) (padded 5 (item_registers other)) r s → P r s
      item_pairs r s pair =
          ⊎_elim (λ zero. subst (P r) (sym zero.1) (subst (λ x. P x 0) (sym zero.0) zeros)) (pairs r s) (padded_pairs 5 (item_registers item) (item_registers other) r s (registers_same item other form) pair)

      item_alike : AreAlike (met_item v keeps k item) (met_item w keeps' k other)
      item_alike =
          meets_alike kept kept' k (padded 5 (item_registers item)) (padded 5 (item_registers other)) begun begun'
          (padded_count 5 (item_registers item) ∙ sym (padded_count 5 (item_registers other))) item_pairs first begun_alike

      item_next : AreNext (met_item v keeps k item) items
      item_next r s p none =
          let before = unmet kept k (padded 5 (item_registers item)) begun r none in
          let here = next r s p before.0 in (
            here.0,
            λ unlike. ⊎_elim (λ writes. absurd (let among = writes_among item r writes in let none = before.1 in cc)) (λ later. later) (here.1 unlike).1,
          )

    walks_alike : (items others : List Item) (k : ℕ) (v w : Walked) → AreSameForms items others → AllGoTogether P items others → AreNext v items → AreAlike v w → (walked v keeps k items).print ≡ (walked w keeps' k others).print
    walks_alike [] [] k v w forms pairs next alike = alike.print
    walks_alike [] (other ∷ others) k v w forms pairs next alike = absurd forms
    walks_alike (item ∷ items) [] k v w forms pairs next alike = absurd forms
    walks_alike (item ∷ items) (other ∷ others) k v w forms pairs next alike =
        walks_alike items others (k + 1) (met_item v keeps k item) (met_item w keeps' k other) forms.1 pairs.1
        (item_next item other items forms.0 pairs.0 k v w next alike)
        (item_alike item other items forms.0 pairs.0 k v w next alike)

    pub prints_alike : (items others : List Item) (m n : ℕ) → m ≡ n → AreSameForms items others → AllGoTogether P items others → ((r s : ℕ) → P r s → s ≢ r → IsWrittenFirst r items) → print_from m keeps items ≡ print_from n keeps' others
    prints_alike items others m n e forms pairs first =
        walks_alike items others 32 (started m) (started n) forms pairs (λ r s p none. (unmet_start m r none, first r s p)) (start_alike m n e)

-- THE REGISTERS OF ITEMS THAT FIT

abbrev AreSmall : List ℕ → Type 0
AreSmall [] = Unit {0}
AreSmall (x ∷ xs) = (x < 32) × AreSmall xs

source_small : (op : AtomicOp) (src : ℕ) → SourceFits op src → src < 32
source_small Lr src fits = omega (arith, fits)
source_small Sc src fits = fits
source_small Swap src fits = fits
source_small Add src fits = fits
source_small Xor src fits = fits
source_small And src fits = fits
source_small Or src fits = fits
source_small Min src fits = fits
source_small Max src fits = fits
source_small MinU src fits = fits
source_small MaxU src fits = fits

registers_small : (item : Item) → ItemFits item → AreSmall (item_registers item)
registers_small (Op (Lui rd u)) fits = (fits.1.0, tt)
registers_small (Op (Auipc rd u)) fits = absurd fits.0
registers_small (Op (Jal rd o)) fits = absurd fits.0
registers_small (Op (Jalr rd rs o)) fits = absurd fits.0
registers_small (Op (Branch c a b o)) fits = absurd fits.0
registers_small (Op (Load k rd rs o)) fits = (fits.1.0, (fits.1.1, tt))
registers_small (Op (Store k rs src o)) fits = (omega arith, (fits.1.0, (fits.1.1, tt)))
registers_small (Op (OpImm op rd rs i)) fits = (fits.1.0, (fits.1.1, tt))
registers_small (Op (OpInsn op rd a b)) fits = (fits.1.0, (fits.1.1, (fits.1.2, tt)))
registers_small (Op (Fence w)) fits = (omega arith, tt)
registers_small (Op Ecall) fits = (omega arith, (omega arith, (omega arith, (omega arith, (omega arith, tt)))))
registers_small (Op Ebreak) fits = absurd fits.0
registers_small (Op (Unimp w)) fits = absurd fits.0
registers_small (Op (Atomic op order rd rs src)) fits = (fits.1.1, (fits.1.2, (source_small op src fits.1.3, tt)))
registers_small (Hi rd to) fits = (fits, tt)
registers_small (Lo rd rs to) fits = (fits.0, (fits.1, tt))
registers_small (Out procedure) fits = tt

pair_small : (xs ys : List ℕ) (r s : ℕ) → AreSmall xs → AreSmall ys → IsPairIn xs ys r s → (r < 32) × (s < 32)
pair_small [] ys r s x y pair = absurd pair
pair_small (x ∷ xs) [] r s small small' pair = absurd pair
pair_small (x ∷ xs) (y ∷ ys) r s small small' pair =
    ⊎_elim
    (λ here. (subst (λ k. k < 32) (sym here.0) small.0, subst (λ k. k < 32) (sym here.1) small'.0))
    (λ later. pair_small xs ys r s small.1 small'.1 later)
    pair

pub all_small : (P : ℕ → ℕ → Type 0) (items others : List Item) → All ItemFits items → All ItemFits others → AllGoTogether P items others → AllGoTogether (λ r s. P r s × ((r < 32) × (s < 32))) items others
all_small P [] others fits fits' all = tt
all_small P (item ∷ items) [] fits fits' all = tt
all_small P (item ∷ items) (other ∷ others) fits fits' all = (
  λ r s pair. (
    all.0 r s pair,
    pair_small (item_registers item) (item_registers other) r s (registers_small item (All-head ItemFits item items fits)) (registers_small other (All-head ItemFits other others fits')) pair,
  ),
  all_small P items others (All-tail ItemFits item items fits) (All-tail ItemFits other others fits') all.1,
)

-- ITEMS THAT MATCH

module _ (ps : List Procedure) (items others : List Item) where
  pub unlike_pair : (r s : ℕ) → PairOrZero ps items others r s → s ≢ r → IsPair ps items others r s
  unlike_pair r s p unlike = ⊎_elim (λ zero. absurd (unlike (zero.1 ∙ sym zero.0))) (λ pair. pair) p

  -- where of the registers none is kept that is dead behind them
  module _ (Lives : ℕ → Type 0) (keeps : ℕ → Bool) (gone : (r : ℕ) → 0 < r → r < 32 → (¬ Lives r) → keeps r ≡ false) (m : IsBodyMatch ps items others Lives) where
    abbrev Small : ℕ → ℕ → Type 0
    Small r s = PairOrZero ps items others r s × ((r < 32) × (s < 32))

    one : IsOneToOne Small
    one =
        let joined = (match_has ps items others Lives m).one_to_one in
        record { there = λ r s t p o. joined.there r s t p.0 o.0; back = λ q r s p o. joined.back q r s p.0 o.0 }

    die : (r s : ℕ) → Small r s → r ≢ 0 → s ≢ r → (keeps r ≡ false) × (keeps s ≡ false)
    die r s p some unlike =
        let pair = unlike_pair r s p.0 unlike in
        let dead = m.pairs_die r s pair unlike in
        let other : s ≢ 0 = λ e. some (m.match.zero_back r (subst (IsPair ps items others r) e pair)) in
        (gone r (omega arith) p.1.0 dead.0, gone s (omega arith) p.1.1 dead.1)

    same : (r s : ℕ) → Small r s → r ≢ 0 → keeps r ≡ keeps s
    same r s p some =
        elim (cases_eq s r) [
          | inl is ↦ ap keeps (sym is)
          | inr unlike ↦ let both = die r s p some unlike in both.0 ∙ sym both.1
        ]

    pub match_print : (print : ℕ) → All ItemFits items → All ItemFits others → print_from print keeps items ≡ print_from print keeps others
    match_print print fits fits' =
        prints_alike Small one (inl (refl, refl), (omega arith, omega arith)) keeps keeps same (λ r s p some unlike. (die r s p some unlike).0) items others print print refl m.match.forms
        (all_small (PairOrZero ps items others) items others fits fits' (all_together (PairOrZero ps items others) ps items others m.match.forms (λ r s pair. inr pair)))
        (λ r s p unlike. m.match.first r s (unlike_pair r s p.0 unlike) unlike)
