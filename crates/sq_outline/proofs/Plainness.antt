-- Items without calls match in one graph where they match in another: no procedure has a part in it.
use Rattle.std.proofs.Common.{◌≡◌, ℕ, suc, false, List, [], ◌∷◌, length, inl, inr, refl, ap, subst}
use Rattle.std.specs.List.{All}
use Rattle.std.proofs.lemmas.List.Elements.{All-head, All-tail}
use Rattle.sq_graph.specs.declared.item.Item.{Item}
use Rattle.sq_graph.specs.declared.item.Item.TheVariants.{Op, Hi, Lo, Out}
use Rattle.sq_graph.specs.Graph.{Procedure}
use Rattle.sq_graph.specs.Lines.{line_of}
use Rattle.sq_graph.specs.Matches.{registers_of, IsPairIn, IsPair, AreSameForms, Match}
use Rattle.sq_graph.specs.Rules.{mentions}
use Rattle.sq_graph.specs.Soundness.{IsFreeOf}
use Rattle.sq_graph.specs.Uses.{item_calls}

abbrev pub NoCalls : List Item → Type 0
NoCalls items = All (λ item. item_calls item ≡ []) items

same_registers : (ps qs : List Procedure) (item : Item) → item_calls item ≡ [] → registers_of ps item ≡ registers_of qs item
same_registers ps qs (Op insn) none = refl
same_registers ps qs (Hi rd to) none = refl
same_registers ps qs (Lo rd rs to) none = refl
same_registers ps qs (Out procedure) none = absurd (cc)

pub plain_pair : (ps qs : List Procedure) (items others : List Item) (r s : ℕ) → NoCalls items → NoCalls others → IsPair ps items others r s → IsPair qs items others r s
plain_pair ps qs [] others r s a b pair = absurd pair
plain_pair ps qs (i ∷ items) [] r s a b pair = absurd pair
plain_pair ps qs (i ∷ items) (j ∷ others) r s a b (inl first) =
    let e = same_registers ps qs i (All-head (λ (item : Item). item_calls item ≡ []) i items a) in
    let f = same_registers ps qs j (All-head (λ (item : Item). item_calls item ≡ []) j others b) in
    inl (subst (λ (xs : List ℕ). IsPairIn xs (registers_of qs j) r s) e (subst (λ (ys : List ℕ). IsPairIn (registers_of ps i) ys r s) f first))
plain_pair ps qs (i ∷ items) (j ∷ others) r s a b (inr later) =
    inr (plain_pair ps qs items others r s (All-tail (λ (item : Item). item_calls item ≡ []) i items a) (All-tail (λ (item : Item). item_calls item ≡ []) j others b) later)

pub plain_match : (ps qs : List Procedure) (items others : List Item) → NoCalls items → NoCalls others → Match ps items others → Match qs items others
plain_match ps qs items others a b match =
    let back : (r s : ℕ) → IsPair qs items others r s → IsPair ps items others r s = λ r s pair. plain_pair qs ps items others r s a b pair in
    record {
      forms = match.forms;
      there = λ r s t p q. match.there r s t (back r s p) (back r t q);
      back = λ q r s p t. match.back q r s (back q s p) (back r s t);
      zero_there = λ s p. match.zero_there s (back 0 s p);
      zero_back = λ r p. match.zero_back r (back r 0 p);
      first = λ r s p unlike. match.first r s (back r s p) unlike;
    }

pub plain_free : (link : ℕ) (item : Item) → item_calls item ≡ [] → mentions item link ≡ false → IsFreeOf link (line_of item)
plain_free link (Op insn) none free = free
plain_free link (Hi rd to) none free = free
plain_free link (Lo rd rs to) none free = free
plain_free link (Out procedure) none free = absurd (cc)

pub forms_length : (items others : List Item) → AreSameForms items others → length items ≡ length others
forms_length [] [] same = refl
forms_length [] (j ∷ others) same = absurd same
forms_length (i ∷ items) [] same = absurd same
forms_length (i ∷ items) (j ∷ others) same = ap suc (forms_length items others same.1)
