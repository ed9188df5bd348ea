-- What items in order do.
use Rattle.std.proofs.Common.{◌≡◌, ℕ, ◌+◌, ◌<◌, Bool, true, false, not, ◌||◌, ◌&&◌, List, [], ◌∷◌, ◌++◌, take, get_or, length, refl, sym, ap, ◌∙◌, ◌==◌, Some}
use Rattle.std.proofs.lemmas.List.{take_more}
use Rattle.std.specs.List.{flat_map}
use Rattle.std.proofs.lemmas.List.{append-nil}
use Rattle.std.proofs.lemmas.List.Concat.{flat_map-append}
use Rattle.std.proofs.Math.Bool.{or-false, or_assoc}
use Rattle.sq_isa.specs.Registers.{is_member}
use Rattle.sq_graph.specs.Graph.{Procedure}
use Rattle.sq_graph.specs.Walks.{is_register}
use Rattle.sq_graph.specs.declared.item.Item.{Item}
use Rattle.sq_live.specs.declared.effect.Effect.{Effect}
use Rattle.sq_live.specs.Effects.{item_reads, item_writes, before_items, items_write, call_reads, call_writes}

-- one piece behind another, at one register
pub then_before : (a b c d y : Bool) → (a || (not b && (c || (not d && y)))) ≡ ((a || (not b && c)) || (not (b || d) && y))
then_before true b c d y = refl
then_before false true c d y = refl
then_before false false c d y = refl

pub before_items-append : (calls : List Effect) (xs ys : List Item) (behind : Bool) (r : ℕ) → before_items calls (xs ++ ys) behind r ≡ before_items calls xs (before_items calls ys behind r) r
before_items-append calls [] ys behind r = refl
before_items-append calls (x ∷ xs) ys behind r =
    ap (λ b. item_reads calls x r || (not (item_writes calls x r) && b)) (before_items-append calls xs ys behind r)

-- what is live behind items is live before them where they don't write it
pub before_items-split : (calls : List Effect) (xs : List Item) (behind : Bool) (r : ℕ) → before_items calls xs behind r ≡ (before_items calls xs false r || (not (items_write calls xs r) && behind))
before_items-split calls [] behind r = refl
before_items-split calls (x ∷ xs) behind r =
    ap (λ b. item_reads calls x r || (not (item_writes calls x r) && b)) (before_items-split calls xs behind r)
    ∙ then_before (item_reads calls x r) (item_writes calls x r) (before_items calls xs false r) (items_write calls xs r) behind

pub items_write-append : (calls : List Effect) (xs ys : List Item) (r : ℕ) → items_write calls (xs ++ ys) r ≡ (items_write calls xs r || items_write calls ys r)
items_write-append calls [] ys r = refl
items_write-append calls (x ∷ xs) ys r =
    ap (λ b. item_writes calls x r || b) (items_write-append calls xs ys r)
    ∙ sym (or_assoc (item_writes calls x r) (items_write calls xs r) (items_write calls ys r))

-- one more item
pub before_items_more : (calls : List Effect) (xs : List Item) (i : ℕ) (x : Item) (r : ℕ) → i < length xs → x ≡ get_or xs i x → before_items calls (take (i + 1) xs) false r ≡ (before_items calls (take i xs) false r || (not (items_write calls (take i xs) r) && item_reads calls x r))
before_items_more calls xs i x r within here =
    ap (λ ys. before_items calls ys false r) (take_more xs i x within ∙ ap (λ y. take i xs ++ y ∷ []) (sym here))
    ∙ before_items-append calls (take i xs) (x ∷ []) false r
    ∙ before_items-split calls (take i xs) (before_items calls (x ∷ []) false r) r
    ∙ ap (λ b. before_items calls (take i xs) false r || (not (items_write calls (take i xs) r) && b)) (reads_alone (item_reads calls x r) (item_writes calls x r))
  where
    reads_alone : (a b : Bool) → (a || (not b && false)) ≡ a
    reads_alone true b = refl
    reads_alone false true = refl
    reads_alone false false = refl

pub items_write_more : (calls : List Effect) (xs : List Item) (i : ℕ) (x : Item) (r : ℕ) → i < length xs → x ≡ get_or xs i x → items_write calls (take (i + 1) xs) r ≡ (items_write calls (take i xs) r || item_writes calls x r)
items_write_more calls xs i x r within here =
    ap (λ ys. items_write calls ys r) (take_more xs i x within ∙ ap (λ y. take i xs ++ y ∷ []) (sym here))
    ∙ items_write-append calls (take i xs) (x ∷ []) r
    ∙ ap (λ b. items_write calls (take i xs) r || b) (or-false (item_writes calls x r))

-- a set of one register
pub alone : (link r : ℕ) → is_register link r ≡ (not (r == 0) && link == r)
alone link r = ap (λ b. not (r == 0) && b) (or-false (link == r))

pub flat_map-push : {X Y : Type 0} (f : X → List Y) (xs : List X) (x : X) → flat_map f (xs ++ x ∷ []) ≡ flat_map f xs ++ f x
flat_map-push f xs x = flat_map-append f xs (x ∷ []) ∙ ap (λ ys. flat_map f xs ++ ys) (append-nil (f x))

-- a link is written, and then a body done
pub call_fits : (reads writes none nothing one inner_reads inner_writes link r : ℕ) (body : List Item) (p : Procedure) → link ≡ p.link → body ≡ p.body
    → is_member reads r ≡ (is_member none r || (not (is_member one r) && is_member inner_reads r))
    → is_member writes r ≡ (is_member one r || is_member inner_writes r)
    → is_member none r ≡ false → is_member nothing r ≡ false
    → is_member one r ≡ (is_member nothing r || (not (r == 0) && link == r))
    → is_member inner_reads r ≡ before_items [] body false r → is_member inner_writes r ≡ items_write [] body r
    → (is_member reads r ≡ call_reads (Some p) r) × (is_member writes r ≡ call_writes (Some p) r)
call_fits reads writes none nothing one inner_reads inner_writes link r body p l b e f g h i j k =
    let linked : is_member one r ≡ is_register p.link r = i ∙ ap (λ t. t || (not (r == 0) && link == r)) h ∙ sym (alone link r) ∙ ap (λ n. is_register n r) l in
    let does : is_member inner_reads r ≡ before_items [] p.body false r = j ∙ ap (λ items. before_items [] items false r) b in
    let makes : is_member inner_writes r ≡ items_write [] p.body r = k ∙ ap (λ items. items_write [] items r) b in
    (e ∙ rw (g, linked, does) refl, f ∙ rw (linked, makes) refl)
