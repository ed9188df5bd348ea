-- References in equal places, from the first on.
use Rattle.std.proofs.Common.{◌≡◌, ◌≢◌, Bool, true, false, true≢false, not, nat_lt, nat_eq, get_or, ℕ, ◌+◌, ◌<◌, ◌≤◌, ◌^◌, inl, inr, List, [], ◌∷◌, ◌++◌, length, length-append, Option, None, Some, option_to_list, slice_get, refl, sym, ap, ◌∙◌, arith}
use Rattle.std.proofs.lemmas.Bool.{cases_lt, cases_Bool}
use Rattle.std.proofs.lemmas.Bool.Decides.{nat_tests}
use Rattle.std.specs.Option.{option_eq}
use Rattle.std.proofs.lemmas.Option.{slice_get_within, slice_get-get_or}
use Rattle.sq_graph.specs.declared.item.Item.{Item}
use Rattle.sq_graph.specs.declared.item.Item.TheVariants.{Op, Hi, Lo, Out}
use Rattle.sq_graph.specs.Blocks.{HasBlock, items_of, items_of_blocks, items_of_bodies, all_items, term_of, next_of}
use Rattle.sq_graph.specs.Graph.{Graph}
use Rattle.sq_graph.specs.Uses.{items_uses}
use Rattle.sq_finger.specs.Exact.{IsExact}
use Rattle.sq_finger.proofs.Exactness.{exact_number, exact_option}
use Rattle.sq_finger.proofs.Layouts.{items_within}
use Rattle.sq_fold.specs.Nodes.{slot_of, term_leads}
use Rattle.sq_fold.specs.Partition.{references_of, target_references, next_references}
use Rattle.sq_fold.specs.Walks.{RefersTo, ReferAlike}
use Rattle.sq_fold.proofs.Referred.{term_referred}

-- those of the first numbers are of one class
abbrev pub AlikeTo : Graph → (ℕ → Option ℕ) → ℕ → ℕ → ℕ → Type 0
AlikeTo g class x y i = (number m n : ℕ) → number < i → RefersTo g x y number m n → class m ≡ class n

some_same : {X : Type 0} {x y : X} → Some x ≡ Some y → x ≡ y
some_same e = cc

pub alike_next : (g : Graph) (class : ℕ → Option ℕ) (x y i a b : ℕ) → AlikeTo g class x y i → slice_get (references_of g x) i ≡ Some a → slice_get (references_of g y) i ≡ Some b → class a ≡ class b → AlikeTo g class x y (i + 1)
alike_next g class x y i a b so e f same number m n l refers =
    elim (cases_lt number i) [
      | inl less ↦ so number m n less refers
      | inr past ↦
          let at : number ≡ i = omega arith in
          let first : m ≡ a = some_same (sym refers.first ∙ ap (slice_get (references_of g x)) at ∙ e) in
          let second : n ≡ b = some_same (sym refers.second ∙ ap (slice_get (references_of g y)) at ∙ f) in
          ap class first ∙ same ∙ sym (ap class second)
    ]

pub alike_end : (g : Graph) (class : ℕ → Option ℕ) (x y i : ℕ) → AlikeTo g class x y i → length (references_of g x) ≤ i → ReferAlike g class x y
alike_end g class x y i so past number m n refers = so number m n (let l = slice_get_within (references_of g x) number m refers.first in omega arith) refers

pub alike_short : (g : Graph) (class : ℕ → Option ℕ) (x y i : ℕ) → AlikeTo g class x y i → length (references_of g y) ≤ i → ReferAlike g class x y
alike_short g class x y i so past number m n refers = so number m n (let l = slice_get_within (references_of g y) number n refers.second in omega arith) refers

-- ---- they are few

few_uses : (items : List Item) → length (items_uses items) ≤ length items
few_uses [] = omega arith
few_uses (Op insn ∷ items) = let l = few_uses items in omega arith
few_uses (Hi rd to ∷ items) = let l = few_uses items in omega arith
few_uses (Lo rd rs to ∷ items) = let l = few_uses items in omega arith
few_uses (Out q ∷ items) = let l = few_uses items in omega arith

one_at_most : (o : Option ℕ) → length (option_to_list o) ≤ 1
one_at_most None = omega arith
one_at_most (Some n) = omega arith

pub few_references : (g : Graph) (block items : ℕ) → HasBlock g block → length (all_items g) + items < 2 ^ 29 → length (references_of g block) < 2 ^ 32
few_references g block items has small =
    let whole = length-append (items_uses (items_of g block)) (target_references (term_of g block) ++ next_references (term_of g block) (next_of g block)) in
    let led = term_leads (term_of g block) (slot_of (term_of g block) (next_of g block)) in
    let behind = ap length (term_referred (term_of g block) (next_of g block)) in
    let two = length-append (option_to_list led.1) (option_to_list led.0) in
    let a = one_at_most led.0 in
    let b = one_at_most led.1 in
    let uses = few_uses (items_of g block) in
    let within = items_within g block has in
    let all = length-append (items_of_blocks g.blocks) (items_of_bodies g.procedures) in
    omega arith

-- ---- what was looked up

pub no_more : (refs all : List ℕ) (k : ℕ) → refs ≡ all → false ≡ nat_lt k (length refs) → length all ≤ k
no_more refs all k e l =
    let past : length refs ≤ k = grind (arith, nat_tests) in
    let same = ap length e in omega arith

pub name_here : (refs all : List ℕ) (k n : ℕ) → refs ≡ all → true ≡ nat_lt k (length refs) → n ≡ get_or refs k n → slice_get all k ≡ Some n
name_here refs all k n e l f =
    let near : k < length refs = grind (arith, nat_tests) in
    ap (λ ns. slice_get ns k) (sym e) ∙ slice_get-get_or refs k n near ∙ ap Some (sym f)

pub name_at : (refs all : List ℕ) (k : ℕ) → refs ≡ all → k < length refs → slice_get all k ≡ Some (get_or refs k 0)
name_at refs all k e l = ap (λ ns. slice_get ns k) (sym e) ∙ slice_get-get_or refs k 0 l

exact_class : IsExact {K = Option ℕ} (option_eq nat_eq)
exact_class = exact_option nat_eq exact_number

not_true : (b c : Bool) → b ≡ not c → c ≡ true → b ≡ false
not_true b c e f = rw (e, f) refl

not_false : (b c : Bool) → b ≡ not c → c ≡ false → b ≡ true
not_false b c e f = rw (e, f) refl

pub classes_apart : (a b : Option ℕ) (r : Bool) → r ≡ not (option_eq nat_eq a b) → r ≡ true → a ≢ b
classes_apart a b r e t same = true≢false (sym t ∙ not_true r (option_eq nat_eq a b) e ((exact_class a b).1 same))

pub classes_same : (a b : Option ℕ) (r : Bool) → r ≡ not (option_eq nat_eq a b) → r ≡ false → a ≡ b
classes_same a b r e f =
    elim (cases_Bool (option_eq nat_eq a b)) [
      | inl t ↦ (exact_class a b).0 t
      | inr o ↦ absurd (true≢false (sym (not_false r (option_eq nat_eq a b) e o) ∙ f))
    ]

pub classes_equal : (a b : Option ℕ) (r : Bool) → r ≡ option_eq nat_eq a b → r ≡ true → a ≡ b
classes_equal a b r e t = (exact_class a b).0 (sym e ∙ t)

pub classes_differ : (a b : Option ℕ) (r : Bool) → r ≡ option_eq nat_eq a b → r ≡ false → a ≢ b
classes_differ a b r e f same = true≢false (sym ((exact_class a b).1 same) ∙ sym e ∙ f)
