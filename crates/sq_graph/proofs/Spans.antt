-- Items of blocks become calls, one span after another.
use Rattle.std.proofs.Common.{◌≡◌, ◌≢◌, ℕ, zero, suc, ◌+◌, ◌-◌, ◌<◌, ◌≤◌, ◌==◌, Bool, true, false, if◌then◌else◌, List, [], ◌∷◌, ◌++◌, take, drop, length, slice_get, Some, IsSome, replicate, cond, refl, sym, ap, ◌∙◌, subst, arith, inl, inr, append_assoc, length-append}
use Rattle.std.specs.List.{list_all, count_by}
use Rattle.std.proofs.lemmas.Bool.{cases_Bool, cases_lt, ne_eqb, eqb-true}
use Rattle.std.proofs.lemmas.List.{take_all, length-drop, length-take-le, take-append-drop, length-replicate, take_at, drop_at, drop-drop, take-append-le, drop-append-le}
use Rattle.std.proofs.Math.Seq.{take-append-add, drop-append-add}
use Rattle.std.proofs.lemmas.List.Sums.{sum_by-cons, sum_by-append}
use Rattle.sq_graph.specs.declared.calls.ItemFate.{ItemFate}
use Rattle.sq_graph.specs.declared.calls.ItemFate.TheVariants.{Stays, Calls, Goes}
use Rattle.sq_graph.specs.declared.item.Item.{Item}
use Rattle.sq_graph.specs.declared.item.Item.TheVariants.{Out}
use Rattle.sq_graph.specs.Graph.{Block, Graph}
use Rattle.sq_arena.specs.Entries.{value_of}
use Rattle.sq_graph.specs.Blocks.{named, HasBlock, block_items, items_of, items_of_blocks}
use Rattle.sq_graph.specs.Calls.{met_item, met_items, met_blocks, with_calls, is_free, stands, now_at, are_free, AreSpansFrom, with_span, fates_among, fates_of, items_ahead}
use Rattle.sq_graph.specs.Operations.{with_blocks, replaced_items, replaced}

-- items that stay are the same then
pub same_items : (n : ℕ) (fates : List ItemFate) (items : List Item) → length fates ≡ length items → list_all is_free (take n fates) ≡ true → take n (met_items fates items) ≡ take n items
same_items zero fates items many free = refl
same_items (suc n) [] [] many free = refl
same_items (suc n) [] (x ∷ items) many free = absurd (omega (arith, many))
same_items (suc n) (f ∷ fates) [] many free = absurd (omega (arith, many))
same_items (suc n) (Stays ∷ fates) (x ∷ items) many free = ap (λ is. x ∷ is) (same_items n fates items (omega (arith, many)) free)
same_items (suc n) (Calls p ∷ fates) (x ∷ items) many free = absurd (cc)
same_items (suc n) (Goes ∷ fates) (x ∷ items) many free = absurd (cc)

-- ONE SPAN MORE

one_stands : (f : ItemFate) (x : Item) → length (met_item f x) ≡ cond (stands f) 1 0
one_stands Stays x = refl
one_stands (Calls p) x = refl
one_stands Goes x = refl

pub now_count : (at : ℕ) (fates : List ItemFate) (items : List Item) → length fates ≡ length items → length (met_items (take at fates) (take at items)) ≡ now_at fates at
now_count zero fates items many = refl
now_count (suc at) [] [] many = refl
now_count (suc at) [] (x ∷ items) many = absurd (omega (arith, many))
now_count (suc at) (f ∷ fates) [] many = absurd (omega (arith, many))
now_count (suc at) (f ∷ fates) (x ∷ items) many =
    length-append (met_item f x) (met_items (take at fates) (take at items))
    ∙ ap (λ k. k + length (met_items (take at fates) (take at items))) (one_stands f x)
    ∙ ap (λ k. cond (stands f) 1 0 + k) (now_count at fates items (omega (arith, many)))
    ∙ sym (sum_by-cons (λ (y : ItemFate). cond (stands y) 1 0) f (take at fates))

pub met_append : (fs gs : List ItemFate) (xs ys : List Item) → length fs ≡ length xs → met_items (fs ++ gs) (xs ++ ys) ≡ met_items fs xs ++ met_items gs ys
met_append [] gs [] ys many = refl
met_append [] gs (x ∷ xs) ys many = absurd (omega (arith, many))
met_append (f ∷ fs) gs [] ys many = absurd (omega (arith, many))
met_append (f ∷ fs) gs (x ∷ xs) ys many = ap (λ is. met_item f x ++ is) (met_append fs gs xs ys (omega (arith, many))) ∙ sym (append_assoc (met_item f x) (met_items fs xs) (met_items gs ys))

met_gone : (k : ℕ) (fs : List ItemFate) (xs ys : List Item) → length xs ≡ k → met_items (replicate k Goes ++ fs) (xs ++ ys) ≡ met_items fs ys
met_gone zero fs [] ys many = refl
met_gone zero fs (x ∷ xs) ys many = absurd (omega (arith, many))
met_gone (suc k) fs [] ys many = absurd (omega (arith, many))
met_gone (suc k) fs (x ∷ xs) ys many = met_gone k fs xs ys (omega (arith, many))

all_stay : (fs : List ItemFate) (xs : List Item) → length fs ≡ length xs → list_all is_free fs ≡ true → met_items fs xs ≡ xs
all_stay [] [] many free = refl
all_stay [] (x ∷ xs) many free = absurd (omega (arith, many))
all_stay (f ∷ fs) [] many free = absurd (omega (arith, many))
all_stay (Stays ∷ fs) (x ∷ xs) many free = ap (λ is. x ∷ is) (all_stay fs xs (omega (arith, many)) free)
all_stay (Calls p ∷ fs) (x ∷ xs) many free = absurd (cc)
all_stay (Goes ∷ fs) (x ∷ xs) many free = absurd (cc)

-- in three parts
span_parts : (fa fm fc : List ItemFate) (xa xm xc : List Item) (n p : ℕ) → length fa ≡ length xa → length fm ≡ n → length xm ≡ n → list_all is_free fm ≡ true → 1 ≤ n
    → met_items (fa ++ Calls p ∷ (replicate (n - 1) Goes ++ fc)) (xa ++ (xm ++ xc)) ≡ replaced_items (met_items (fa ++ (fm ++ fc)) (xa ++ (xm ++ xc))) (length (met_items fa xa)) n (Out p ∷ [])
span_parts fa fm fc xa [] xc n p many fn xn free l = absurd (omega (arith, xn, l))
span_parts fa fm fc xa (x ∷ xt) xc n p many fn xn free l =
    let m : length fm ≡ length (x ∷ xt) = fn ∙ sym xn in
    let tail : length xt ≡ n - 1 = omega (arith, xn) in
    let front : List Item = met_items fa xa in
    let new : met_items (fa ++ Calls p ∷ (replicate (n - 1) Goes ++ fc)) (xa ++ x ∷ (xt ++ xc)) ≡ met_items fa xa ++ Out p ∷ met_items fc xc =
    met_append fa (Calls p ∷ (replicate (n - 1) Goes ++ fc)) xa (x ∷ (xt ++ xc)) many ∙ ap (λ is. met_items fa xa ++ Out p ∷ is) (met_gone (n - 1) fc xt xc tail) in
    let old : met_items (fa ++ (fm ++ fc)) (xa ++ x ∷ (xt ++ xc)) ≡ met_items fa xa ++ (x ∷ (xt ++ met_items fc xc)) =
    met_append fa (fm ++ fc) xa (x ∷ (xt ++ xc)) many ∙ ap (λ is. met_items fa xa ++ is) (met_append fm fc (x ∷ xt) xc m ∙ ap (λ is. is ++ met_items fc xc) (all_stay fm (x ∷ xt) m free)) in
    let first : take (length (met_items fa xa)) (met_items (fa ++ (fm ++ fc)) (xa ++ x ∷ (xt ++ xc))) ≡ met_items fa xa = ap (take (length (met_items fa xa))) old ∙ take_at (met_items fa xa) (x ∷ (xt ++ met_items fc xc)) (length (met_items fa xa)) refl in
    let last : drop (length (met_items fa xa) + n) (met_items (fa ++ (fm ++ fc)) (xa ++ x ∷ (xt ++ xc))) ≡ met_items fc xc =
    ap (drop (length (met_items fa xa) + n)) (old ∙ sym (append_assoc (met_items fa xa) (x ∷ xt) (met_items fc xc))) ∙ drop_at (met_items fa xa ++ x ∷ xt) (met_items fc xc) (length (met_items fa xa) + n) (length-append (met_items fa xa) (x ∷ xt) ∙ ap (λ k. length (met_items fa xa) + k) xn) in
    new ∙ sym (ap (λ is. is ++ Out p ∷ drop (length (met_items fa xa) + n) (met_items (fa ++ (fm ++ fc)) (xa ++ x ∷ (xt ++ xc)))) first ∙ ap (λ is. met_items fa xa ++ Out p ∷ is) last)

in_three : {X : Type 0} (at n : ℕ) (xs : List X) → xs ≡ take at xs ++ (take n (drop at xs) ++ drop (at + n) xs)
in_three at n xs =
    sym (take-append-drop at xs) ∙ ap (λ ys. take at xs ++ ys) (sym (take-append-drop n (drop at xs)) ∙ ap (λ ys. take n (drop at xs) ++ ys) (drop-drop n at xs))

-- items that stay become a call
pub span_met : (fs : List ItemFate) (at n p : ℕ) (xs : List Item) → length fs ≡ length xs → at + n ≤ length fs → 1 ≤ n → are_free n fs at ≡ true → met_items (with_span fs at n p) xs ≡ replaced_items (met_items fs xs) (now_at fs at) n (Out p ∷ [])
span_met fs at n p xs many within l free =
    let fa = take at fs in
    let same_length : length (take at fs) ≡ length (take at xs) = length-take-le at fs (omega (arith, within)) ∙ sym (length-take-le at xs (omega (arith, within, many))) in
    let fn : length (take n (drop at fs)) ≡ n = length-take-le n (drop at fs) (omega (arith, within, length-drop at fs)) in
    let xn : length (take n (drop at xs)) ≡ n = length-take-le n (drop at xs) (omega (arith, within, many, length-drop at xs)) in
    ap (met_items (with_span fs at n p)) (in_three at n xs)
    ∙ span_parts (take at fs) (take n (drop at fs)) (drop (at + n) fs) (take at xs) (take n (drop at xs)) (drop (at + n) xs) n p same_length fn xn free l
    ∙ ap (λ is. replaced_items is (length (met_items (take at fs) (take at xs))) n (Out p ∷ [])) (ap (λ gs. met_items gs (take at xs ++ (take n (drop at xs) ++ drop (at + n) xs))) (sym (in_three at n fs)) ∙ ap (met_items fs) (sym (in_three at n xs)))
    ∙ ap (λ k. replaced_items (met_items fs xs) k n (Out p ∷ [])) (now_count at fs xs many)

-- THE FATES

spans_goes : (k : ℕ) (fs : List ItemFate) → AreSpansFrom false fs → AreSpansFrom true (replicate k Goes ++ fs)
spans_goes zero fs spans = spans_looser fs spans
  where
    spans_looser : (fs : List ItemFate) → AreSpansFrom false fs → AreSpansFrom true fs
    spans_looser [] spans = tt
    spans_looser (Stays ∷ fs) spans = spans
    spans_looser (Calls p ∷ fs) spans = spans
    spans_looser (Goes ∷ fs) spans = (refl, spans.1)
spans_goes (suc k) fs spans = (refl, spans_goes k fs spans)

behind_stays : (t : Bool) (fm fc : List ItemFate) → list_all is_free fm ≡ true → 1 ≤ length fm → AreSpansFrom t (fm ++ fc) → AreSpansFrom false fc
behind_stays t [] fc free l spans = absurd (omega (arith, l))
behind_stays t (Stays ∷ []) fc free l spans = spans
behind_stays t (Stays ∷ g ∷ fm) fc free l spans = behind_stays false (g ∷ fm) fc free (omega arith) spans
behind_stays t (Calls p ∷ fm) fc free l spans = absurd (cc)
behind_stays t (Goes ∷ fm) fc free l spans = absurd (cc)

spans_between : (t : Bool) (fa fm fc : List ItemFate) (k p : ℕ) → list_all is_free fm ≡ true → 1 ≤ length fm → AreSpansFrom t (fa ++ (fm ++ fc)) → AreSpansFrom t (fa ++ Calls p ∷ (replicate k Goes ++ fc))
spans_between t [] fm fc k p free l spans = spans_goes k fc (behind_stays t fm fc free l spans)
spans_between t (Stays ∷ fa) fm fc k p free l spans = spans_between false fa fm fc k p free l spans
spans_between t (Calls q ∷ fa) fm fc k p free l spans = spans_between true fa fm fc k p free l spans
spans_between t (Goes ∷ fa) fm fc k p free l spans = (spans.0, spans_between true fa fm fc k p free l spans.1)

-- with one span more they are spans still
pub spans_still : (t : Bool) (fs : List ItemFate) (at n p : ℕ) → at + n ≤ length fs → 1 ≤ n → are_free n fs at ≡ true → AreSpansFrom t fs → AreSpansFrom t (with_span fs at n p)
spans_still t fs at n p within l free spans =
    let fn : length (take n (drop at fs)) ≡ n = length-take-le n (drop at fs) (omega (arith, within, length-drop at fs)) in
    spans_between t (take at fs) (take n (drop at fs)) (drop (at + n) fs) (n - 1) p free (omega (arith, fn, l)) (subst (AreSpansFrom t) (in_three at n fs) spans)

pub span_long : (fs : List ItemFate) (at n p : ℕ) → at + n ≤ length fs → 1 ≤ n → length (with_span fs at n p) ≡ length fs
span_long fs at n p within l =
    omega (
      arith,
      within,
      l,
      length-append (take at fs) (Calls p ∷ (replicate (n - 1) Goes ++ drop (at + n) fs)),
      length-append (replicate (n - 1) Goes) (drop (at + n) fs),
      length-replicate (n - 1) Goes,
      length-take-le at fs (omega (arith, within)),
      length-drop (at + n) fs,
    )

-- IN A GRAPH

met_front : (fs gs : List ItemFate) (xs : List Item) → length fs ≡ length xs → met_items (fs ++ gs) xs ≡ met_items fs xs
met_front [] [] [] many = refl
met_front [] (g ∷ gs) [] many = refl
met_front [] gs (x ∷ xs) many = absurd (omega (arith, many))
met_front (f ∷ fs) gs [] many = absurd (omega (arith, many))
met_front (f ∷ fs) gs (x ∷ xs) many = ap (λ is. met_item f x ++ is) (met_front fs gs xs (omega (arith, many)))

pub met_own : (fs : List ItemFate) (xs : List Item) → length xs ≤ length fs → met_items fs xs ≡ met_items (take (length xs) fs) xs
met_own fs xs few =
    ap (λ gs. met_items gs xs) (sym (take-append-drop (length xs) fs)) ∙ met_front (take (length xs) fs) (drop (length xs) fs) xs (length-take-le (length xs) fs few)

span_front : (fs gs : List ItemFate) (at n p : ℕ) → at + n ≤ length fs → with_span (fs ++ gs) at n p ≡ with_span fs at n p ++ gs
span_front fs gs at n p within =
    ap (λ xs. xs ++ Calls p ∷ (replicate (n - 1) Goes ++ drop (at + n) (fs ++ gs))) (take-append-le at fs gs (omega (arith, within)))
    ∙ ap (λ xs. take at fs ++ Calls p ∷ (replicate (n - 1) Goes ++ xs)) (drop-append-le (at + n) fs gs within)
    ∙ ap (λ xs. take at fs ++ Calls p ∷ xs) (sym (append_assoc (replicate (n - 1) Goes) (drop (at + n) fs) gs))
    ∙ sym (append_assoc (take at fs) (Calls p ∷ (replicate (n - 1) Goes ++ drop (at + n) fs)) gs)

span_back : (fs gs : List ItemFate) (m at n p : ℕ) → length fs ≡ m → with_span (fs ++ gs) (m + at) n p ≡ fs ++ with_span gs at n p
span_back fs gs m at n p long =
    let front : take (m + at) (fs ++ gs) ≡ fs ++ take at gs = ap (λ k. take (k + at) (fs ++ gs)) (sym long) ∙ take-append-add fs gs at in
    let e : m + at + n ≡ length fs + (at + n) = omega (arith, long) in
    let back : drop (m + at + n) (fs ++ gs) ≡ drop (at + n) gs = ap (λ k. drop k (fs ++ gs)) e ∙ drop-append-add fs gs (at + n) in
    ap (λ xs. xs ++ Calls p ∷ (replicate (n - 1) Goes ++ drop (m + at + n) (fs ++ gs))) front
    ∙ ap (λ xs. (fs ++ take at gs) ++ Calls p ∷ (replicate (n - 1) Goes ++ xs)) back
    ∙ append_assoc fs (take at gs) (Calls p ∷ (replicate (n - 1) Goes ++ drop (at + n) gs))

-- the items of the block of this name, and none where there is no block
abbrev own_items : List Block → ℕ → List Item
own_items [] name = []
own_items (b ∷ bs) name = if b.name == name then b.items else own_items bs name

module _ (name at n p : ℕ) (some : 1 ≤ n) where
  pub met_span : (bs : List Block) (fs : List ItemFate) → length (items_of_blocks bs) ≤ length fs → at + n ≤ length (own_items bs name) → are_free n (fates_among bs fs name) at ≡ true
      → met_blocks (with_span fs (items_ahead bs name + at) n p) bs ≡ with_blocks (λ b. record b { items = replaced_items b.items (now_at (fates_among bs fs name) at) n (Out p ∷ []) } ∷ []) (met_blocks fs bs) name
  met_span [] fs many within free = refl
  met_span (b ∷ bs) fs many within free =
      let m = length b.items in
      let own : length b.items ≤ length fs = omega (arith, many, length-append b.items (items_of_blocks bs)) in
      let left : length (items_of_blocks bs) ≤ length (drop (length b.items) fs) = omega (arith, many, length-append b.items (items_of_blocks bs), length-drop (length b.items) fs) in
      let whole : take (length b.items) fs ++ drop (length b.items) fs ≡ fs = take-append-drop (length b.items) fs in
      let long : length (take (length b.items) fs) ≡ length b.items = length-take-le (length b.items) fs own in
      elim (cases_Bool (b.name == name)) [
        | inl here ↦
            let inside : at + n ≤ length b.items = rw here at within in
            let free_here : are_free n (take (length b.items) fs) at ≡ true = rw here at free in
            let fits : at + n ≤ length (take (length b.items) fs) = omega (arith, inside, long) in
            let spanned : with_span fs at n p ≡ with_span (take (length b.items) fs) at n p ++ drop (length b.items) fs =
            ap (λ gs. with_span gs at n p) (sym whole) ∙ span_front (take (length b.items) fs) (drop (length b.items) fs) at n p fits in
            let size : length (with_span (take (length b.items) fs) at n p) ≡ length b.items = span_long (take (length b.items) fs) at n p fits some ∙ long in
            let mine : met_items (with_span fs at n p) b.items ≡ replaced_items (met_items fs b.items) (now_at (take (length b.items) fs) at) n (Out p ∷ []) =
            ap (λ gs. met_items gs b.items) spanned ∙ met_front (with_span (take (length b.items) fs) at n p) (drop (length b.items) fs) b.items size
            ∙ span_met (take (length b.items) fs) at n p b.items long fits some free_here
            ∙ ap (λ is. replaced_items is (now_at (take (length b.items) fs) at) n (Out p ∷ [])) (sym (met_own fs b.items own)) in
            let rest : drop (length b.items) (with_span fs at n p) ≡ drop (length b.items) fs = ap (drop (length b.items)) spanned ∙ drop_at (with_span (take (length b.items) fs) at n p) (drop (length b.items) fs) (length b.items) size in
            let e : 0 + at ≡ at = omega arith in
            rw (here, e)
            (ap (λ is. record b { items = is } ∷ met_blocks (drop (length b.items) (with_span fs at n p)) bs) mine
            ∙ ap (λ gs. record b { items = replaced_items (met_items fs b.items) (now_at (take (length b.items) fs) at) n (Out p ∷ []) } ∷ met_blocks gs bs) rest)
        | inr apart ↦
            let inside : at + n ≤ length (own_items bs name) = rw apart at within in
            let free_there : are_free n (fates_among bs (drop (length b.items) fs) name) at ≡ true = rw apart at free in
            let same : now_at (fates_among bs (drop (length b.items) fs) name) at ≡ now_at (fates_among (b ∷ bs) fs name) at = rw apart refl in
            let e : length b.items + items_ahead bs name + at ≡ length b.items + (items_ahead bs name + at) = omega arith in
            let spanned : with_span fs (length b.items + (items_ahead bs name + at)) n p ≡ take (length b.items) fs ++ with_span (drop (length b.items) fs) (items_ahead bs name + at) n p =
            ap (λ gs. with_span gs (length b.items + (items_ahead bs name + at)) n p) (sym whole) ∙ span_back (take (length b.items) fs) (drop (length b.items) fs) (length b.items) (items_ahead bs name + at) n p long in
            let mine : met_items (with_span fs (length b.items + (items_ahead bs name + at)) n p) b.items ≡ met_items fs b.items =
            ap (λ gs. met_items gs b.items) spanned ∙ met_front (take (length b.items) fs) (with_span (drop (length b.items) fs) (items_ahead bs name + at) n p) b.items long ∙ sym (met_own fs b.items own) in
            let rest : drop (length b.items) (with_span fs (length b.items + (items_ahead bs name + at)) n p) ≡ with_span (drop (length b.items) fs) (items_ahead bs name + at) n p =
            ap (drop (length b.items)) spanned ∙ drop_at (take (length b.items) fs) (with_span (drop (length b.items) fs) (items_ahead bs name + at) n p) (length b.items) long in
            rw (apart, e)
            (ap (λ is. record b { items = is } ∷ met_blocks (drop (length b.items) (with_span fs (length b.items + (items_ahead bs name + at)) n p)) bs) mine
            ∙ ap (λ gs. record b { items = met_items fs b.items } ∷ met_blocks gs bs) rest
            ∙ ap (λ cs. record b { items = met_items fs b.items } ∷ cs) (met_span bs (drop (length b.items) fs) left inside free_there)
            ∙ ap (λ k. record b { items = met_items fs b.items } ∷ with_blocks (λ c. record c { items = replaced_items c.items k n (Out p ∷ []) } ∷ []) (met_blocks (drop (length b.items) fs) bs) name) same)
      ]

own_is : (bs : List Block) (name : ℕ) → own_items bs name ≡ block_items (value_of (named bs) name)
own_is [] name = refl
own_is (b ∷ bs) name = elim (cases_Bool (b.name == name)) [ inl here ↦ rw here refl | inr apart ↦ rw apart (own_is bs name) ]

fates_long : (bs : List Block) (fs : List ItemFate) (name : ℕ) → length (items_of_blocks bs) ≤ length fs → length (fates_among bs fs name) ≡ length (own_items bs name)
fates_long [] fs name many = refl
fates_long (b ∷ bs) fs name many =
    elim (cases_Bool (b.name == name)) [
      | inl here ↦ rw here (length-take-le (length b.items) fs (omega (arith, many, length-append b.items (items_of_blocks bs))))
      | inr apart ↦ rw apart (fates_long bs (drop (length b.items) fs) name (omega (arith, many, length-append b.items (items_of_blocks bs), length-drop (length b.items) fs)))
    ]

own_then : (bs : List Block) (fs : List ItemFate) (name : ℕ) → length (items_of_blocks bs) ≤ length fs → own_items (met_blocks fs bs) name ≡ met_items (fates_among bs fs name) (own_items bs name)
own_then [] fs name many = refl
own_then (b ∷ bs) fs name many =
    elim (cases_Bool (b.name == name)) [
      | inl here ↦ rw here (met_own fs b.items (omega (arith, many, length-append b.items (items_of_blocks bs))))
      | inr apart ↦ rw apart (own_then bs (drop (length b.items) fs) name (omega (arith, many, length-append b.items (items_of_blocks bs), length-drop (length b.items) fs)))
    ]

module _ (g : Graph) (fs : List ItemFate) (many : length (items_of_blocks g.blocks) ≤ length fs) where
  pub fates_of_long : (name : ℕ) → length (fates_of g fs name) ≡ length (items_of g name)
  fates_of_long name = fates_long g.blocks fs name many ∙ ap (λ (is : List Item). length is) (own_is g.blocks name)

  -- the items of a block then
  pub items_then : (name : ℕ) → items_of (with_calls fs g) name ≡ met_items (fates_of g fs name) (items_of g name)
  items_then name = sym (own_is (met_blocks fs g.blocks) name) ∙ own_then g.blocks fs name many ∙ ap (met_items (fates_of g fs name)) (own_is g.blocks name)

  -- with one span more its items are replaced by a call
  pub span_replaced : (name at n p : ℕ) → at + n ≤ length (items_of g name) → 1 ≤ n → are_free n (fates_of g fs name) at ≡ true
      → with_calls (with_span fs (items_ahead g.blocks name + at) n p) g ≡ replaced (with_calls fs g) name (now_at (fates_of g fs name) at) n (Out p ∷ [])
  span_replaced name at n p within some free =
      ap (λ bs. record g { blocks = bs })
      (met_span name at n p some g.blocks fs many (subst (λ (is : List Item). at + n ≤ length is) (sym (own_is g.blocks name)) within) free)

-- THE FATES WITH ONE SPAN MORE

fates_here : (bs : List Block) (fs : List ItemFate) (name at n p : ℕ) → length (items_of_blocks bs) ≤ length fs → at + n ≤ length (own_items bs name) → 1 ≤ n → fates_among bs (with_span fs (items_ahead bs name + at) n p) name ≡ with_span (fates_among bs fs name) at n p
fates_here [] fs name at n p many within some = absurd (omega (arith, within, some))
fates_here (b ∷ bs) fs name at n p many within some =
    let own : length b.items ≤ length fs = omega (arith, many, length-append b.items (items_of_blocks bs)) in
    let left : length (items_of_blocks bs) ≤ length (drop (length b.items) fs) = omega (arith, many, length-append b.items (items_of_blocks bs), length-drop (length b.items) fs) in
    let whole : take (length b.items) fs ++ drop (length b.items) fs ≡ fs = take-append-drop (length b.items) fs in
    let long : length (take (length b.items) fs) ≡ length b.items = length-take-le (length b.items) fs own in
    elim (cases_Bool (b.name == name)) [
      | inl here ↦
          let inside : at + n ≤ length b.items = rw here at within in
          let fits : at + n ≤ length (take (length b.items) fs) = omega (arith, inside, long) in
          let e : 0 + at ≡ at = omega arith in
          let spanned : with_span fs at n p ≡ with_span (take (length b.items) fs) at n p ++ drop (length b.items) fs =
          ap (λ gs. with_span gs at n p) (sym whole) ∙ span_front (take (length b.items) fs) (drop (length b.items) fs) at n p fits in
          rw (here, e) (ap (take (length b.items)) spanned ∙ take_at (with_span (take (length b.items) fs) at n p) (drop (length b.items) fs) (length b.items) (span_long (take (length b.items) fs) at n p fits some ∙ long))
      | inr apart ↦
          let inside : at + n ≤ length (own_items bs name) = rw apart at within in
          let e : length b.items + items_ahead bs name + at ≡ length b.items + (items_ahead bs name + at) = omega arith in
          let spanned : with_span fs (length b.items + (items_ahead bs name + at)) n p ≡ take (length b.items) fs ++ with_span (drop (length b.items) fs) (items_ahead bs name + at) n p =
          ap (λ gs. with_span gs (length b.items + (items_ahead bs name + at)) n p) (sym whole) ∙ span_back (take (length b.items) fs) (drop (length b.items) fs) (length b.items) (items_ahead bs name + at) n p long in
          rw (apart, e)
          (ap (λ gs. fates_among bs gs name) (ap (drop (length b.items)) spanned ∙ drop_at (take (length b.items) fs) (with_span (drop (length b.items) fs) (items_ahead bs name + at) n p) (length b.items) long)
          ∙ fates_here bs (drop (length b.items) fs) name at n p left inside some)
    ]

fates_elsewhere : (bs : List Block) (fs : List ItemFate) (name other at n p : ℕ) → other ≢ name → length (items_of_blocks bs) ≤ length fs → at + n ≤ length (own_items bs name) → 1 ≤ n → fates_among bs (with_span fs (items_ahead bs name + at) n p) other ≡ fates_among bs fs other
fates_elsewhere [] fs name other at n p unlike many within some = refl
fates_elsewhere (b ∷ bs) fs name other at n p unlike many within some =
    let own : length b.items ≤ length fs = omega (arith, many, length-append b.items (items_of_blocks bs)) in
    let left : length (items_of_blocks bs) ≤ length (drop (length b.items) fs) = omega (arith, many, length-append b.items (items_of_blocks bs), length-drop (length b.items) fs) in
    let whole : take (length b.items) fs ++ drop (length b.items) fs ≡ fs = take-append-drop (length b.items) fs in
    let long : length (take (length b.items) fs) ≡ length b.items = length-take-le (length b.items) fs own in
    elim (cases_Bool (b.name == name)) [
      | inl here ↦
          let inside : at + n ≤ length b.items = rw here at within in
          let fits : at + n ≤ length (take (length b.items) fs) = omega (arith, inside, long) in
          let e : 0 + at ≡ at = omega arith in
          let away : (b.name == other) ≡ false = ne_eqb b.name other (λ same. unlike (sym same ∙ eqb-true b.name name here)) in
          let spanned : with_span fs at n p ≡ with_span (take (length b.items) fs) at n p ++ drop (length b.items) fs =
          ap (λ gs. with_span gs at n p) (sym whole) ∙ span_front (take (length b.items) fs) (drop (length b.items) fs) at n p fits in
          rw (here, away, e) (ap (λ gs. fates_among bs gs other) (ap (drop (length b.items)) spanned ∙ drop_at (with_span (take (length b.items) fs) at n p) (drop (length b.items) fs) (length b.items) (span_long (take (length b.items) fs) at n p fits some ∙ long)))
      | inr apart ↦
          let inside : at + n ≤ length (own_items bs name) = rw apart at within in
          let e : length b.items + items_ahead bs name + at ≡ length b.items + (items_ahead bs name + at) = omega arith in
          let spanned : with_span fs (length b.items + (items_ahead bs name + at)) n p ≡ take (length b.items) fs ++ with_span (drop (length b.items) fs) (items_ahead bs name + at) n p =
          ap (λ gs. with_span gs (length b.items + (items_ahead bs name + at)) n p) (sym whole) ∙ span_back (take (length b.items) fs) (drop (length b.items) fs) (length b.items) (items_ahead bs name + at) n p long in
          elim (cases_Bool (b.name == other)) [
            | inl mine ↦ rw (apart, mine, e) (ap (take (length b.items)) spanned ∙ take_at (take (length b.items) fs) (with_span (drop (length b.items) fs) (items_ahead bs name + at) n p) (length b.items) long)
            | inr further ↦
                rw (apart, further, e)
                (ap (λ gs. fates_among bs gs other) (ap (drop (length b.items)) spanned ∙ drop_at (take (length b.items) fs) (with_span (drop (length b.items) fs) (items_ahead bs name + at) n p) (length b.items) long)
                ∙ fates_elsewhere bs (drop (length b.items) fs) name other at n p unlike left inside some)
          ]
    ]

module _ (g : Graph) (fs : List ItemFate) (many : length (items_of_blocks g.blocks) ≤ length fs) (name at n p : ℕ) (within : at + n ≤ length (items_of g name)) (some : 1 ≤ n) where
  fits_own : at + n ≤ length (own_items g.blocks name)
  fits_own = subst (λ (is : List Item). at + n ≤ length is) (sym (own_is g.blocks name)) within

  pub fates_spanned : fates_of g (with_span fs (items_ahead g.blocks name + at) n p) name ≡ with_span (fates_of g fs name) at n p
  fates_spanned = fates_here g.blocks fs name at n p many fits_own some

  pub fates_stay : (other : ℕ) → other ≢ name → fates_of g (with_span fs (items_ahead g.blocks name + at) n p) other ≡ fates_of g fs other
  fates_stay other unlike = fates_elsewhere g.blocks fs name other at n p unlike many fits_own some

-- WHERE PLACES ARE WITH ONE SPAN MORE

abbrev pub count : List ItemFate → ℕ
count fs = count_by stands fs

count-append : (xs ys : List ItemFate) → count (xs ++ ys) ≡ count xs + count ys
count-append xs ys = sum_by-append (λ (f : ItemFate). cond (stands f) 1 0) xs ys

count_goes : (k : ℕ) → count (replicate k Goes) ≡ 0
count_goes zero = refl
count_goes (suc k) = sum_by-cons (λ (f : ItemFate). cond (stands f) 1 0) Goes (replicate k Goes) ∙ omega (arith, count_goes k)

count_free : (fs : List ItemFate) → list_all is_free fs ≡ true → count fs ≡ length fs
count_free [] free = refl
count_free (Stays ∷ fs) free = sum_by-cons (λ (f : ItemFate). cond (stands f) 1 0) Stays fs ∙ omega (arith, count_free fs free)
count_free (Calls p ∷ fs) free = absurd (cc)
count_free (Goes ∷ fs) free = absurd (cc)

take_past : (m k : ℕ) (xs ys : List ItemFate) → length xs ≡ m → take (m + k) (xs ++ ys) ≡ xs ++ take k ys
take_past m k xs ys long = ap (λ j. take (j + k) (xs ++ ys)) (sym long) ∙ take-append-add xs ys k

get_past : (m k : ℕ) (xs ys : List ItemFate) → length xs ≡ m → slice_get (xs ++ ys) (m + k) ≡ slice_get ys k
get_past m k [] ys long = let e : m + k ≡ k = omega (arith, long) in ap (slice_get ys) e
get_past zero k (x ∷ xs) ys long = absurd (omega (arith, long))
get_past (suc m) k (x ∷ xs) ys long = let e : suc m + k ≡ suc (m + k) = omega arith in ap (slice_get (x ∷ (xs ++ ys))) e ∙ get_past m k xs ys (omega (arith, long))

get_early : (xs ys : List ItemFate) (k : ℕ) → k < length xs → slice_get (xs ++ ys) k ≡ slice_get xs k
get_early [] ys k l = absurd (omega (arith, l))
get_early (x ∷ xs) ys zero l = refl
get_early (x ∷ xs) ys (suc k) l = get_early xs ys k (omega (arith, l))

get_taken : (fs : List ItemFate) (m k : ℕ) → k < m → slice_get (take m fs) k ≡ slice_get fs k
get_taken fs zero k l = absurd (omega (arith, l))
get_taken [] (suc m) k l = refl
get_taken (f ∷ fs) (suc m) zero l = refl
get_taken (f ∷ fs) (suc m) (suc k) l = get_taken fs m k (omega (arith, l))

pub get_dropped : (fs : List ItemFate) (m k : ℕ) → slice_get (drop m fs) k ≡ slice_get fs (m + k)
get_dropped fs zero k = let e : k ≡ 0 + k = omega arith in ap (slice_get fs) e
get_dropped [] (suc m) k = refl
get_dropped (f ∷ fs) (suc m) k = let e : suc (m + k) ≡ suc m + k = omega arith in get_dropped fs m k ∙ ap (slice_get (f ∷ fs)) e

get_goes : (j k : ℕ) → k < j → slice_get (replicate j Goes) k ≡ Some Goes
get_goes zero k l = absurd (omega (arith, l))
get_goes (suc j) zero l = refl
get_goes (suc j) (suc k) l = get_goes j k (omega (arith, l))

module _ (fs : List ItemFate) (at n p : ℕ) (within : at + n ≤ length fs) (some : 1 ≤ n) (free : are_free n fs at ≡ true) where
  abbrev rest : List ItemFate
  rest = drop (at + n) fs

  front_long : length (take at fs) ≡ at
  front_long = length-take-le at fs (omega (arith, within))

  -- a place up to the span is where it was
  pub now_ahead : (q : ℕ) → q ≤ at → now_at (with_span fs at n p) q ≡ now_at fs q
  now_ahead q l = ap count (take-append-le q (take at fs) (Calls p ∷ (replicate (n - 1) Goes ++ drop (at + n) fs)) (omega (arith, l, front_long)) ∙ take-take-less q at fs l)
    where
      take-take-less : (i j : ℕ) (xs : List ItemFate) → i ≤ j → take i (take j xs) ≡ take i xs
      take-take-less zero j xs l = refl
      take-take-less (suc i) zero xs l = absurd (omega (arith, l))
      take-take-less (suc i) (suc j) [] l = refl
      take-take-less (suc i) (suc j) (x ∷ xs) l = ap (λ ys. x ∷ ys) (take-take-less i j xs (omega (arith, l)))

  -- a place behind it is so much further left
  pub now_behind : (k : ℕ) → now_at (with_span fs at n p) (at + n + k) ≡ now_at fs at + 1 + count (take k (drop (at + n) fs))
  now_behind k =
      let e : at + n + k ≡ at + suc (n - 1 + k) = omega (arith, some) in
      let parts : take (at + suc (n - 1 + k)) (with_span fs at n p) ≡ take at fs ++ (Calls p ∷ (replicate (n - 1) Goes ++ take k (drop (at + n) fs))) =
      take_past at (suc (n - 1 + k)) (take at fs) (Calls p ∷ (replicate (n - 1) Goes ++ drop (at + n) fs)) front_long
      ∙ ap (λ xs. take at fs ++ Calls p ∷ xs) (take_past (n - 1) k (replicate (n - 1) Goes) (drop (at + n) fs) (length-replicate (n - 1) Goes)) in
      ap (now_at (with_span fs at n p)) e ∙ ap count parts
      ∙ omega (
        arith,
        count-append (take at fs) (Calls p ∷ (replicate (n - 1) Goes ++ take k (drop (at + n) fs))),
        sum_by-cons (λ (f : ItemFate). cond (stands f) 1 0) (Calls p) (replicate (n - 1) Goes ++ take k (drop (at + n) fs)),
        count-append (replicate (n - 1) Goes) (take k (drop (at + n) fs)),
        count_goes (n - 1),
      )

  pub was_behind : (k : ℕ) → now_at fs (at + n + k) ≡ now_at fs at + n + count (take k (drop (at + n) fs))
  was_behind k =
      let fm = take n (drop at fs) in
      let middle : length (take n (drop at fs)) ≡ n = length-take-le n (drop at fs) (omega (arith, within, length-drop at fs)) in
      let e : at + n + k ≡ at + (n + k) = omega arith in
      let parts : take (at + (n + k)) fs ≡ take at fs ++ (take n (drop at fs) ++ take k (drop (at + n) fs)) =
      ap (take (at + (n + k))) (in_three at n fs) ∙ take_past at (n + k) (take at fs) (take n (drop at fs) ++ drop (at + n) fs) front_long
      ∙ ap (λ xs. take at fs ++ xs) (take_past n k (take n (drop at fs)) (drop (at + n) fs) middle) in
      ap (now_at fs) e ∙ ap count parts
      ∙ omega (
        arith,
        count-append (take at fs) (take n (drop at fs) ++ take k (drop (at + n) fs)),
        count-append (take n (drop at fs)) (take k (drop (at + n) fs)),
        count_free (take n (drop at fs)) free,
        middle,
      )

  -- the fates but for the span's
  pub get_ahead : (q : ℕ) → q < at → slice_get (with_span fs at n p) q ≡ slice_get fs q
  get_ahead q l = get_early (take at fs) (Calls p ∷ (replicate (n - 1) Goes ++ drop (at + n) fs)) q (omega (arith, l, front_long)) ∙ get_taken fs at q l

  pub get_behind : (k : ℕ) → slice_get (with_span fs at n p) (at + n + k) ≡ slice_get fs (at + n + k)
  get_behind k =
      let e : at + n + k ≡ at + suc (n - 1 + k) = omega (arith, some) in
      ap (slice_get (with_span fs at n p)) e
      ∙ get_past at (suc (n - 1 + k)) (take at fs) (Calls p ∷ (replicate (n - 1) Goes ++ drop (at + n) fs)) front_long
      ∙ get_past (n - 1) k (replicate (n - 1) Goes) (drop (at + n) fs) (length-replicate (n - 1) Goes)
      ∙ get_dropped fs (at + n) k

  pub get_inside : (k : ℕ) → suc k < n → slice_get (with_span fs at n p) (at + suc k) ≡ Some Goes
  get_inside k l =
      get_past at (suc k) (take at fs) (Calls p ∷ (replicate (n - 1) Goes ++ drop (at + n) fs)) front_long
      ∙ get_early (replicate (n - 1) Goes) (drop (at + n) fs) k (omega (arith, l, length-replicate (n - 1) Goes)) ∙ get_goes (n - 1) k (omega (arith, l))

  -- the first item stays before
  pub get_first : slice_get fs at ≡ Some Stays
  get_first =
      let e : at + 0 ≡ at = omega arith in
      ap (slice_get fs) (sym e) ∙ sym (get_dropped fs at 0) ∙ first (drop at fs) n free some (omega (arith, within, some, length-drop at fs))
    where
      first : (gs : List ItemFate) (m : ℕ) → list_all is_free (take m gs) ≡ true → 1 ≤ m → 1 ≤ length gs → slice_get gs 0 ≡ Some Stays
      first [] m free l k = absurd (omega (arith, k))
      first (g ∷ gs) zero free l k = absurd (omega (arith, l))
      first (Stays ∷ gs) (suc m) free l k = refl
      first (Calls q ∷ gs) (suc m) free l k = absurd (cc)
      first (Goes ∷ gs) (suc m) free l k = absurd (cc)

-- THE PLACES ARE THERE

-- a place is one of those then
pub now_fits : (fs : List ItemFate) (xs : List Item) (q : ℕ) → length fs ≡ length xs → now_at fs q ≤ length (met_items fs xs)
now_fits fs xs q many =
    elim (cases_lt (length fs) q) [
      | inl past ↦
          let all = take_all q fs (omega (arith, past)) in
          let every = take_all q xs (omega (arith, past, many)) in
          omega (arith, now_count q fs xs many, ap (λ gs. length (met_items gs (take q xs))) all, ap (λ ys. length (met_items fs ys)) every)
      | inr inside ↦
          let same : length (take q fs) ≡ length (take q xs) = length-take-le q fs inside ∙ sym (length-take-le q xs (omega (arith, inside, many))) in
          let parts : met_items fs xs ≡ met_items (take q fs) (take q xs) ++ met_items (drop q fs) (drop q xs) =
          ap (λ gs. met_items gs xs) (sym (take-append-drop q fs)) ∙ ap (met_items (take q fs ++ drop q fs)) (sym (take-append-drop q xs)) ∙ met_append (take q fs) (drop q fs) (take q xs) (drop q xs) same in
          omega (arith, now_count q fs xs many, ap (λ (ys : List Item). length ys) parts, length-append (met_items (take q fs) (take q xs)) (met_items (drop q fs) (drop q xs)))
    ]

ahead_fits : (bs : List Block) (name : ℕ) → 1 ≤ length (own_items bs name) → items_ahead bs name + length (own_items bs name) ≤ length (items_of_blocks bs)
ahead_fits [] name some = absurd (omega (arith, some))
ahead_fits (b ∷ bs) name some =
    elim (cases_Bool (b.name == name)) [
      | inl here ↦ rw here (omega (arith, length-append b.items (items_of_blocks bs)))
      | inr apart ↦ rw apart (omega (arith, ahead_fits bs name (rw apart at some), length-append b.items (items_of_blocks bs)))
    ]

pub ahead_within : (g : Graph) (name at n : ℕ) → at + n ≤ length (items_of g name) → 1 ≤ n → items_ahead g.blocks name + at + n ≤ length (items_of_blocks g.blocks)
ahead_within g name at n within some =
    let own : length (own_items g.blocks name) ≡ length (items_of g name) = ap (λ (is : List Item). length is) (own_is g.blocks name) in
    omega (arith, within, own, ahead_fits g.blocks name (omega (arith, within, some, own)))

still_named : (bs : List Block) (fs : List ItemFate) (name : ℕ) → IsSome (value_of (named bs) name) → IsSome (value_of (named (met_blocks fs bs)) name)
still_named [] fs name has = absurd (cc)
still_named (b ∷ bs) fs name has =
    elim (cases_Bool (b.name == name)) [
      | inl here ↦ rw here refl
      | inr apart ↦ rw apart (still_named bs (drop (length b.items) fs) name (rw apart at has))
    ]

pub has_then : (g : Graph) (fs : List ItemFate) (name : ℕ) → HasBlock g name → HasBlock (with_calls fs g) name
has_then g fs name has = still_named g.blocks fs name has

-- a place further left stays no further right
pub now_least : (fs : List ItemFate) (p q : ℕ) → p ≤ q → now_at fs p ≤ now_at fs q
now_least fs p q l =
    let e : p + (q - p) ≡ q = omega (arith, l) in
    omega (arith, least fs p (q - p), ap (now_at fs) e)
  where
    least : (fs : List ItemFate) (p k : ℕ) → now_at fs p ≤ now_at fs (p + k)
    least [] zero k = omega arith
    least [] (suc p) k = omega arith
    least (f ∷ fs) zero k = omega arith
    least (f ∷ fs) (suc p) k =
        let e : suc p + k ≡ suc (p + k) = omega arith in
        omega (
          arith,
          least fs p k,
          sum_by-cons (λ (g : ItemFate). cond (stands g) 1 0) f (take p fs),
          sum_by-cons (λ (g : ItemFate). cond (stands g) 1 0) f (take (p + k) fs),
          ap (now_at (f ∷ fs)) e,
        )

-- items that stay stand one behind the other then
pub stand_still : (fs : List ItemFate) (at n : ℕ) (xs : List Item) → length fs ≡ length xs → at + n ≤ length fs → are_free n fs at ≡ true → take n (drop (now_at fs at) (met_items fs xs)) ≡ take n (drop at xs)
stand_still fs at n xs many within free =
    let same : length (take at fs) ≡ length (take at xs) = length-take-le at fs (omega (arith, within)) ∙ sym (length-take-le at xs (omega (arith, within, many))) in
    let parts : met_items fs xs ≡ met_items (take at fs) (take at xs) ++ met_items (drop at fs) (drop at xs) =
    ap (λ gs. met_items gs xs) (sym (take-append-drop at fs)) ∙ ap (met_items (take at fs ++ drop at fs)) (sym (take-append-drop at xs)) ∙ met_append (take at fs) (drop at fs) (take at xs) (drop at xs) same in
    ap (λ is. take n (drop (now_at fs at) is)) parts
    ∙ ap (take n) (drop_at (met_items (take at fs) (take at xs)) (met_items (drop at fs) (drop at xs)) (now_at fs at) (now_count at fs xs many))
    ∙ same_items n (drop at fs) (drop at xs) (omega (arith, many, length-drop at fs, length-drop at xs)) free

-- the first item of a block doesn't go
pub first_kept : (gs : List ItemFate) → AreSpansFrom false gs → slice_get gs 0 ≢ Some Goes
first_kept [] spans e = absurd (cc)
first_kept (Stays ∷ gs) spans e = absurd (cc)
first_kept (Calls p ∷ gs) spans e = absurd (cc)
first_kept (Goes ∷ gs) spans e = let never : false ≡ true = spans.0 in absurd (cc)

pub first_counts : (gs : List ItemFate) (k : ℕ) → slice_get gs 0 ≢ Some Goes → 1 ≤ length gs → 1 ≤ k → 1 ≤ count (take k gs)
first_counts [] k kept long l = absurd (omega (arith, long))
first_counts (g ∷ gs) zero kept long l = absurd (omega (arith, l))
first_counts (Stays ∷ gs) (suc k) kept long l = omega (arith, sum_by-cons (λ (f : ItemFate). cond (stands f) 1 0) Stays (take k gs))
first_counts (Calls p ∷ gs) (suc k) kept long l = omega (arith, sum_by-cons (λ (f : ItemFate). cond (stands f) 1 0) (Calls p) (take k gs))
first_counts (Goes ∷ gs) (suc k) kept long l = absurd (kept refl)

-- what is behind items that stay doesn't go
pub stays_behind : (t : Bool) (fs : List ItemFate) (at n : ℕ) → AreSpansFrom t fs → 1 ≤ n → at + n ≤ length fs → are_free n fs at ≡ true → slice_get fs (at + n) ≢ Some Goes
stays_behind t fs at zero spans l within free = absurd (omega (arith, l))
stays_behind t [] at (suc n) spans l within free = absurd (omega (arith, within))
stays_behind t (Stays ∷ fs) zero (suc zero) spans l within free = first_kept fs spans
stays_behind t (Stays ∷ fs) zero (suc (suc n)) spans l within free =
    let e : 0 + suc (suc n) ≡ suc (0 + suc n) = omega arith in
    λ goes. stays_behind false fs zero (suc n) spans (omega arith) (omega (arith, within)) free (ap (slice_get (Stays ∷ fs)) (sym e) ∙ goes)
stays_behind t (Calls p ∷ fs) zero (suc n) spans l within free = absurd (cc)
stays_behind t (Goes ∷ fs) zero (suc n) spans l within free = absurd (cc)
stays_behind t (Stays ∷ fs) (suc at) (suc n) spans l within free =
    let e : suc at + suc n ≡ suc (at + suc n) = omega arith in
    λ goes. stays_behind false fs at (suc n) spans l (omega (arith, within)) free (ap (slice_get (Stays ∷ fs)) (sym e) ∙ goes)
stays_behind t (Calls p ∷ fs) (suc at) (suc n) spans l within free =
    let e : suc at + suc n ≡ suc (at + suc n) = omega arith in
    λ goes. stays_behind true fs at (suc n) spans l (omega (arith, within)) free (ap (slice_get (Calls p ∷ fs)) (sym e) ∙ goes)
stays_behind t (Goes ∷ fs) (suc at) (suc n) spans l within free =
    let e : suc at + suc n ≡ suc (at + suc n) = omega arith in
    λ goes. stays_behind true fs at (suc n) spans.1 l (omega (arith, within)) free (ap (slice_get (Goes ∷ fs)) (sym e) ∙ goes)

-- what stays ahead of a span stays with it
pub free_ahead : (fs : List ItemFate) (at n p q m : ℕ) → at ≤ length fs → q + m ≤ at → are_free m (with_span fs at n p) q ≡ are_free m fs q
free_ahead fs at n p q m within l =
    let long : length (take at fs) ≡ at = length-take-le at fs within in
    let tail = Calls p ∷ (replicate (n - 1) Goes ++ drop (at + n) fs) in
    let room : m ≤ length (drop q (take at fs)) = omega (arith, l, long, length-drop q (take at fs)) in
    let new : take m (drop q (with_span fs at n p)) ≡ take m (drop q (take at fs)) =
    ap (take m) (drop-append-le q (take at fs) (Calls p ∷ (replicate (n - 1) Goes ++ drop (at + n) fs)) (omega (arith, l, long)))
    ∙ take-append-le m (drop q (take at fs)) (Calls p ∷ (replicate (n - 1) Goes ++ drop (at + n) fs)) room in
    let old : take m (drop q fs) ≡ take m (drop q (take at fs)) =
    ap (λ gs. take m (drop q gs)) (sym (take-append-drop at fs)) ∙ ap (take m) (drop-append-le q (take at fs) (drop at fs) (omega (arith, l, long))) ∙ take-append-le m (drop q (take at fs)) (drop at fs) room in
    ap (list_all is_free) (new ∙ sym old)
