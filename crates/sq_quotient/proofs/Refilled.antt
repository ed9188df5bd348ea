-- Items and terms, by what they are but for names and by their names.
use Rattle.std.proofs.Common.{◌≡◌, ℕ, suc, true, false, true≢false, ◌⊎◌, inl, inr, List, [], ◌∷◌, map, Option, None, Some, slice_get, refl, sym, ap, ◌∙◌}
use Rattle.std.specs.Option.{option_map}
use Rattle.sq_graph.specs.declared.item.Item.{Item}
use Rattle.sq_graph.specs.declared.item.Item.TheVariants.{Op, Hi, Lo, Out}
use Rattle.sq_graph.specs.declared.item.Term.{Term}
use Rattle.sq_graph.specs.declared.item.Term.TheVariants.{Fall, Jump, Branch, Call, PartJump, Indirect, Stop}
use Rattle.sq_graph.specs.Leaders.{is_fall}
use Rattle.sq_graph.specs.Renames.{retargeted_item, retargeted_items, retargeted_term}
use Rattle.sq_graph.specs.Terms.{goes_on}
use Rattle.sq_fold.specs.Nodes.{item_name, term_name}
use Rattle.sq_fold.specs.Partition.{bare_item, bare_term}

some_same : {X : Type 0} {x y : X} → Some x ≡ Some y → x ≡ y
some_same e = cc

abbrev item_with : Item → Option ℕ → Item
item_with (Op insn) o = Op insn
item_with (Hi rd to) None = Hi rd to
item_with (Hi rd to) (Some n) = Hi rd n
item_with (Lo rd rs to) None = Lo rd rs to
item_with (Lo rd rs to) (Some n) = Lo rd rs n
item_with (Out q) o = Out q

item_again : (f : ℕ → ℕ) (item : Item) → item_with (bare_item item) (option_map f (item_name item)) ≡ retargeted_item f item
item_again f (Op insn) = refl
item_again f (Hi rd to) = refl
item_again f (Lo rd rs to) = refl
item_again f (Out q) = refl

-- where two lists of items are equal but for names, and name the same under other names, they are equal under those
pub items_again : (f : ℕ → ℕ) (xs ys : List Item) → map bare_item xs ≡ map bare_item ys
    → ((a : ℕ) (i j : Item) → slice_get xs a ≡ Some i → slice_get ys a ≡ Some j → option_map f (item_name i) ≡ option_map f (item_name j)) → retargeted_items f xs ≡ retargeted_items f ys
items_again f [] [] e names = refl
items_again f [] (y ∷ ys) e names = absurd (cc)
items_again f (x ∷ xs) [] e names = absurd (cc)
items_again f (x ∷ xs) (y ∷ ys) e names =
    let first : bare_item x ≡ bare_item y = cc in
    let rest : map bare_item xs ≡ map bare_item ys = cc in
    let name : option_map f (item_name x) ≡ option_map f (item_name y) = names 0 x y refl refl in
    let one : retargeted_item f x ≡ retargeted_item f y =
    sym (item_again f x) ∙ ap (λ b. item_with b (option_map f (item_name x))) first ∙ ap (item_with (bare_item y)) name ∙ item_again f y in
    let later = items_again f xs ys rest (λ a i j g h. names (suc a) i j g h) in
    rw (one, later) refl

abbrev term_with : Term → Option ℕ → Term
term_with Fall o = Fall
term_with (Jump to) None = Jump to
term_with (Jump to) (Some n) = Jump n
term_with (Branch c a b to) None = Branch c a b to
term_with (Branch c a b to) (Some n) = Branch c a b n
term_with (Call link to) None = Call link to
term_with (Call link to) (Some n) = Call link n
term_with (PartJump link part to) None = PartJump link part to
term_with (PartJump link part to) (Some n) = PartJump link part n
term_with (Indirect link at offset) o = Indirect link at offset
term_with (Stop word) o = Stop word

term_again : (f : ℕ → ℕ) (t : Term) → is_fall t ≡ false → term_with (bare_term t) (option_map f (term_name t)) ≡ retargeted_term f t
term_again f Fall e = absurd (true≢false e)
term_again f (Jump to) e = refl
term_again f (Branch c a b to) e = refl
term_again f (Call link to) e = refl
term_again f (PartJump link part to) e = refl
term_again f (Indirect link at offset) e = refl
term_again f (Stop word) e = refl

pub terms_again : (f : ℕ → ℕ) (t u : Term) → is_fall t ≡ false → is_fall u ≡ false → bare_term t ≡ bare_term u → option_map f (term_name t) ≡ option_map f (term_name u) → retargeted_term f t ≡ retargeted_term f u
terms_again f t u e h same name =
    sym (term_again f t e) ∙ ap (λ b. term_with b (option_map f (term_name t))) same ∙ ap (term_with (bare_term u)) name ∙ term_again f u h

-- a Fall, or a Jump
pub falls_or_jumps : (u : Term) → bare_term u ≡ Jump 0 → (u ≡ Fall) ⊎ ((to : ℕ) × (u ≡ Jump to))
falls_or_jumps Fall e = inl refl
falls_or_jumps (Jump to) e = inr (to, refl)
falls_or_jumps (Branch c a b to) e = absurd (cc)
falls_or_jumps (Call link to) e = absurd (cc)
falls_or_jumps (PartJump link part to) e = absurd (cc)
falls_or_jumps (Indirect link at offset) e = absurd (cc)
falls_or_jumps (Stop word) e = absurd (cc)

-- where neither is a Fall, the two go on alike
bare_goes : (t : Term) → is_fall t ≡ false → goes_on (bare_term t) ≡ goes_on t
bare_goes Fall e = absurd (true≢false e)
bare_goes (Jump to) e = refl
bare_goes (Branch c a b to) e = refl
bare_goes (Call link to) e = refl
bare_goes (PartJump link part to) e = refl
bare_goes (Indirect link at offset) e = refl
bare_goes (Stop word) e = refl

pub both_go : (t u : Term) → is_fall t ≡ false → is_fall u ≡ false → bare_term t ≡ bare_term u → goes_on t ≡ goes_on u
both_go t u e h same = sym (bare_goes t e) ∙ ap goes_on same ∙ bare_goes u h
