-- The registers of items of equal forms, and the pairs of two bodies.
use Rattle.std.proofs.Common.{◌≡◌, ◌≢◌, ◌<◌, ◌≤◌, ◌+◌, ◌%◌, ℕ, suc, ◌⊎◌, inl, inr, ⊎_elim, Bool, true, List, [], ◌∷◌, Option, Some, None, length, drop, slice_get, refl, sym, ap, ◌∙◌, subst, arith}
use Rattle.std.specs.List.{flat_map}
use Rattle.std.proofs.lemmas.Bool.{cases_eq}
use Rattle.std.proofs.lemmas.List.{drop_all}
use Rattle.std.proofs.lemmas.Option.{slice_get_within, slice_get_past}
use Rattle.sq_isa.specs.Forms.{with_registers, first_of, second_of}
use Rattle.sq_isa.specs.Uses.{destination_of, sources_of}
use Rattle.sq_isa.specs.declared.instructions.Insn.{Insn}
use Rattle.sq_isa.specs.declared.instructions.Insn.TheVariants.{Lui, Auipc, Jal, Jalr, Branch, Load, Store, OpImm, Op as OpInsn, Fence, Ecall, Ebreak, Unimp, Atomic}
use Rattle.sq_graph.specs.declared.item.Item.{Item}
use Rattle.sq_graph.specs.declared.item.Item.TheVariants.{Op, Hi, Lo, Out}
use Rattle.sq_graph.specs.Graph.{Procedure, Graph}
use Rattle.sq_graph.specs.Blocks.{procedure_link, procedure_body, link_of, body_of}
use Rattle.sq_graph.specs.Matches.{item_registers, procedure_registers, registers_of, IsSameForm, AreSameForms, IsPairIn, IsPair}
use Rattle.sq_rename.specs.declared.pairs.Pairs.{Pairs}
use Rattle.sq_rename.specs.Pairs.{GoWith, AreTables, IsOneToOne, Joined, IsJoining, Joins, PairOrZero, ArePairs, MayChange, AllMayChange, padded}
use Rattle.sq_rename.proofs.Joining.{join_start, join_end, joins_padded, zero_with}

pub registers_few : (item : Item) → length (item_registers item) ≤ 5
registers_few (Op (Lui rd u)) = omega arith
registers_few (Op (Auipc rd u)) = omega arith
registers_few (Op (Jal rd o)) = omega arith
registers_few (Op (Jalr rd rs o)) = omega arith
registers_few (Op (Branch c x y o)) = omega arith
registers_few (Op (Load k rd rs o)) = omega arith
registers_few (Op (Store k rs src o)) = omega arith
registers_few (Op (OpImm op rd rs i)) = omega arith
registers_few (Op (OpInsn op rd x y)) = omega arith
registers_few (Op (Fence w)) = omega arith
registers_few (Op Ecall) = omega arith
registers_few (Op Ebreak) = omega arith
registers_few (Op (Unimp w)) = omega arith
registers_few (Op (Atomic op order rd rs src)) = omega arith
registers_few (Hi rd to) = omega arith
registers_few (Lo rd rs to) = omega arith
registers_few (Out p) = omega arith

count_with : (d a b : ℕ) (insn : Insn) → length (destination_of insn ∷ sources_of insn) ≡ length (destination_of (with_registers d a b insn) ∷ sources_of (with_registers d a b insn))
count_with d a b (Lui rd u) = refl
count_with d a b (Auipc rd u) = refl
count_with d a b (Jal rd o) = refl
count_with d a b (Jalr rd rs o) = refl
count_with d a b (Branch c x y o) = refl
count_with d a b (Load k rd rs o) = refl
count_with d a b (Store k rs src o) = refl
count_with d a b (OpImm op rd rs i) = refl
count_with d a b (OpInsn op rd x y) = refl
count_with d a b (Fence w) = refl
count_with d a b Ecall = refl
count_with d a b Ebreak = refl
count_with d a b (Unimp w) = refl
count_with d a b (Atomic op order rd rs src) = refl

pub registers_same : (item other : Item) → IsSameForm item other → length (item_registers item) ≡ length (item_registers other)
registers_same (Op insn) (Op other) e = count_with (destination_of other) (first_of other) (second_of other) insn ∙ sym (ap (λ i. length (destination_of i ∷ sources_of i)) e)
registers_same (Hi rd to) (Hi rd' to') e = refl
registers_same (Lo rd rs to) (Lo rd' rs' to') e = refl
registers_same (Out p) (Out p') e = refl
registers_same item other e = absurd e

pub same_plain : (ps : List Procedure) (item other : Item) → ((p : ℕ) → item ≡ Out p → ⊥) → IsSameForm item other → (registers_of ps item ≡ item_registers item) × (registers_of ps other ≡ item_registers other)
same_plain ps (Op insn) (Op other) n f = (refl, refl)
same_plain ps (Hi rd to) (Hi rd' to') n f = (refl, refl)
same_plain ps (Lo rd rs to) (Lo rd' rs' to') n f = (refl, refl)
same_plain ps (Out p) other n f = absurd (n p refl)
same_plain ps item other n f = absurd f

pub plain_joins : (b : Bool) (a c : Pairs) (ps : List Procedure) (item other : Item) (rs ss : List ℕ) → AreTables a → ((p : ℕ) → item ≡ Out p → ⊥) → IsSameForm item other → rs ≡ padded 5 (item_registers item) → ss ≡ padded 5 (item_registers other) → Joins b a (IsPairIn rs ss) c → Joins b a (IsPairIn (registers_of ps item) (registers_of ps other)) c
plain_joins b a c ps item other rs ss h n f e d j =
    let p = same_plain ps item other n f in
    let k : Joins b a (IsPairIn (padded 5 (item_registers item)) (padded 5 (item_registers other))) c =
    subst (λ z. Joins b a (IsPairIn (padded 5 (item_registers item)) z) c) d (subst (λ z. Joins b a (IsPairIn z ss) c) e j) in
    let m = joins_padded b a c 5 (item_registers item) (item_registers other) h (registers_same item other f) (registers_few item) k in
    subst (λ z. Joins b a (IsPairIn z (registers_of ps other)) c) (sym p.0) (subst (λ z. Joins b a (IsPairIn (item_registers item) z) c) (sym p.1) m)

pub kept_joins : (b : Bool) (a c : Pairs) (item : Item) (rs : List ℕ) → AreTables a → rs ≡ padded 5 (item_registers item) → Joins b a (IsPairIn rs rs) c → Joins b a (IsPairIn (item_registers item) (item_registers item)) c
kept_joins b a c item rs h e j = joins_padded b a c 5 (item_registers item) (item_registers item) h refl (registers_few item) (subst (λ z. Joins b a (IsPairIn z z) c) e j)

out_other : (p : ℕ) (other : Item) → IsSameForm (Out p) other → other ≡ Out p
out_other p (Out q) e = ap Out e
out_other p other e = absurd e

pub out_joins : (b : Bool) (a c : Pairs) (ps : List Procedure) (item other : Item) (p : ℕ) → item ≡ Out p → IsSameForm item other → Joins b a (IsPairIn (procedure_registers (slice_get ps p)) (procedure_registers (slice_get ps p))) c → Joins b a (IsPairIn (registers_of ps item) (registers_of ps other)) c
out_joins b a c ps item other p e f j =
    let o : other ≡ Out p = out_other p other (subst (λ i. IsSameForm i other) e f) in
    subst (λ i. Joins b a (IsPairIn (registers_of ps i) (registers_of ps other)) c) (sym e)
    (subst (λ i. Joins b a (IsPairIn (registers_of ps (Out p)) (registers_of ps i)) c) (sym o) j)

abbrev pub Procs : Option Procedure → ℕ → ℕ → Type 0
Procs o = IsPairIn (procedure_registers o) (procedure_registers o)

pub no_procedure : (a : Pairs) (ps : List Procedure) (p : ℕ) → AreTables a → length ps ≤ p → Joins true a (Procs (slice_get ps p)) a
no_procedure a ps p h l =
    let P : ℕ → ℕ → Type 0 = Procs (slice_get ps p) in
    join_end a a P P (λ q t i. subst (λ o. Procs o q t) (slice_get_past ps p l) i) (join_start a P h)

registers_at : (o : Option Procedure) (link : ℕ) (body : List Item) → procedure_link o ≡ Some link → body ≡ procedure_body o → procedure_registers o ≡ link ∷ flat_map item_registers body
registers_at None link body e f = absurd (cc)
registers_at (Some p) link body e f =
    let l : p.link ≡ link = cc in
    subst (λ x. p.link ∷ flat_map item_registers p.body ≡ x ∷ flat_map item_registers body) l (ap (λ b. p.link ∷ flat_map item_registers b) (sym f))

pub procedure_at : (g : Graph) (p link : ℕ) (body : List Item) → link_of g p ≡ Some link → body ≡ body_of g p → procedure_registers (slice_get g.procedures p) ≡ link ∷ flat_map item_registers body
procedure_at g p link body e f = registers_at (slice_get g.procedures p) link body e f

pub procedure_joins : (b : Bool) (a c : Pairs) (xs ys : List ℕ) → xs ≡ ys → Joins b a (IsPairIn ys ys) c → Joins b a (IsPairIn xs xs) c
procedure_joins b a c xs ys e j = subst (λ z. Joins b a (IsPairIn z z) c) (sym e) j

pub forms_length : (items others : List Item) → AreSameForms items others → length items ≡ length others
forms_length [] [] f = refl
forms_length [] (j ∷ others) f = absurd f
forms_length (i ∷ items) [] f = absurd f
forms_length (i ∷ items) (j ∷ others) f = ap suc (forms_length items others f.1)

-- two bodies, one item on
module _ (ps : List Procedure) (items others rest more : List Item) (item other : Item) (e : items ≡ item ∷ rest) (f : others ≡ other ∷ more) where
  pub forms_step : AreSameForms items others → IsSameForm item other × AreSameForms rest more
  forms_step h = subst (λ z. AreSameForms (item ∷ rest) z) f (subst (λ z. AreSameForms z others) e h)

  pub forms_back : IsSameForm item other → AreSameForms rest more → AreSameForms items others
  forms_back a b = subst (λ z. AreSameForms z others) (sym e) (subst (λ z. AreSameForms (item ∷ rest) z) (sym f) (a, b))

  pub pair_head : (q t : ℕ) → IsPairIn (registers_of ps item) (registers_of ps other) q t → IsPair ps items others q t
  pair_head q t p = subst (λ z. IsPair ps z others q t) (sym e) (subst (λ z. IsPair ps (item ∷ rest) z q t) (sym f) (inl p))

  pub pair_tail : (q t : ℕ) → IsPair ps rest more q t → IsPair ps items others q t
  pair_tail q t p = subst (λ z. IsPair ps z others q t) (sym e) (subst (λ z. IsPair ps (item ∷ rest) z q t) (sym f) (inr p))

  pub pair_split : (q t : ℕ) → IsPair ps items others q t → IsPairIn (registers_of ps item) (registers_of ps other) q t ⊎ IsPair ps rest more q t
  pair_split q t p = subst (λ z. IsPair ps (item ∷ rest) z q t) f (subst (λ z. IsPair ps z others q t) e p)

pub with_first : (a : Pairs) (ps : List Procedure) (items others : List Item) → ((r s : ℕ) → GoWith a r s → (r ≡ 0) × (s ≡ 0)) → IsOneToOne (PairOrZero ps items others) → IsOneToOne (Joined a (IsPair ps items others))
with_first a ps items others only o =
    let up : (r s : ℕ) → Joined a (IsPair ps items others) r s → PairOrZero ps items others r s = λ r s j. ⊎_elim (λ g. inl (only r s g)) (λ p. inr p) j in
    record {
      there = λ r s t x y. o.there r s t (up r s x) (up r t y);
      back = λ q r s x y. o.back q r s (up q s x) (up r s y);
    }

pub pairs_whole : (a b : Pairs) (ps : List Procedure) (items others : List Item) (k : ℕ) → length items ≤ k → length others ≡ length items → ((r s : ℕ) → GoWith a r s → (r ≡ 0) × (s ≡ 0)) → (AreSameForms (drop k items) (drop k others) → AreSameForms items others) → IsJoining a (IsPair ps items others) b (IsPair ps (drop k items) (drop k others)) → ArePairs ps items others b
pairs_whole a b ps items others k l same only forms j =
    let e : drop k items ≡ [] = drop_all k items l in
    let f : drop k others ≡ [] = drop_all k others (omega arith) in
    let nothing : (r s : ℕ) → IsPair ps (drop k items) (drop k others) r s → ⊥ = λ r s p. subst (λ z. IsPair ps z (drop k others) r s) e p in
    record {
      forms = forms (subst (λ z. AreSameForms z (drop k others)) (sym e) (subst (λ z. AreSameForms [] z) (sym f) tt));
      tables = j.tables;
      up = λ r s g. ⊎_elim (λ z. inl (only r s z)) (λ p. inr p) (j.up r s (inl g));
      down = λ r s p. ⊎_elim (λ z. zero_with b j.tables r s z) (λ q. ⊎_elim (λ g. g) (λ n. absurd (nothing r s n)) (j.down r s (inr q))) p;
    }

-- registers that may change, one more
pub stand_more : (pairs : Pairs) (dead : ℕ) (items : List Item) (n m : ℕ) → n < 32 → m ≡ n % 32 → ((s : ℕ) → GoWith pairs m s → s ≢ m → MayChange dead items m s) → ((r s : ℕ) → r < n → GoWith pairs r s → s ≢ r → MayChange dead items r s) → (r s : ℕ) → r < n + 1 → GoWith pairs r s → s ≢ r → MayChange dead items r s
stand_more pairs dead items n m l e here before r s k g ne =
    ⊎_elim
    (λ at. let same : r ≡ m = omega arith in subst (λ z. MayChange dead items z s) (sym same) (here s (subst (λ z. GoWith pairs z s) same g) (subst (λ z. s ≢ z) same ne)))
    (λ d. before r s (omega arith) g ne)
    (cases_eq r n)

pub stand_all : (pairs : Pairs) (dead : ℕ) (items : List Item) (n : ℕ) → AreTables pairs → 32 ≤ n → ((r s : ℕ) → r < n → GoWith pairs r s → s ≢ r → MayChange dead items r s) → AllMayChange dead items pairs
stand_all pairs dead items n h l before r s g ne =
    let within : r < length pairs.there = slice_get_within pairs.there r (Some s) g in
    before r s (omega (arith, h.there_count)) g ne
