-- A Branch around calls doesn't reach once a body stands in their place, where it has less room than the words that come.
use Rattle.std.proofs.Common.{◌≡◌, ℕ, zero, suc, pos, ◌-ℤ◌, ◌+◌, ◌-◌, ◌*◌, ◌<◌, ◌≤◌, ◌==◌, Bool, true, false, nat_lt, nat_eq, if◌then◌else◌, List, [], ◌∷◌, ◌++◌, map, take, length, Option, None, Some, IsSome, is_some, slice_get, ◌⊎◌, inl, inr, refl, sym, ap, ◌∙◌, subst, arith, length-append, mul-add, mul-le-mul_left, eq-or-lt_of_le}
use Rattle.std.specs.Prelude.{option_map}
use Rattle.std.proofs.lemmas.Bool.{cases_Bool, ltb-true, ltb-false, eqb-false}
use Rattle.std.proofs.lemmas.Int.{ints}
use Rattle.std.proofs.lemmas.List.{take_all}
use Rattle.sq_arena.specs.Entries.{value_of}
use Rattle.sq_graph.specs.declared.item.Item.{Item}
use Rattle.sq_graph.specs.declared.item.Item.TheVariants.{Op, Hi, Lo, Out}
use Rattle.sq_graph.specs.declared.item.Term.TheVariants.{Branch}
use Rattle.sq_graph.specs.Graph.{Block, Graph}
use Rattle.sq_graph.specs.Blocks.{named, block_of, block_items, block_term, items_of, term_of, body_of, HasBlock}
use Rattle.sq_graph.specs.Places.{address_in, block_address, Reaches, IsInReach}
use Rattle.sq_graph.specs.Renames.{recalled_item, recalled_block, lowered}
use Rattle.sq_graph.specs.Rules.{IsGraph}
use Rattle.sq_graph.specs.Words.{block_words}
use Rattle.sq_layout.proofs.Shrinking.{some_is, placed, branch_reaches, reach_is}
use Rattle.sq_lookup.specs.Addresses.{address_of}
use Rattle.sq_lookup.proofs.Sizes.{placed_at}
use Rattle.sq_lookup.proofs.Targets.{has_term, branch_there}
use Rattle.sq_outline.specs.Blocked.{growth_at, grown, missing, IsCallAt, IsBranchAt}
use Rattle.sq_outline.specs.Inlined.{is_call, spread, spread_block, inlined_all}
use Rattle.sq_outline.proofs.Spreading.{one_if, is_one, is_own_call, calls_in, calls_in-cons, call_there}

-- CALLS AHEAD OF A PLACE

-- how many calls are among so many words from the beginning of these blocks
abbrev below : ℕ → List Block → ℕ → ℕ
below p [] w = 0
below p (b ∷ bs) w = calls_in p (take w b.items) + below p bs (w - block_words b)

-- how many words are ahead of a block
abbrev ahead : List Block → ℕ → ℕ
ahead [] n = 0
ahead (b ∷ bs) n = if b.name == n then 0 else block_words b + ahead bs n

abbrev size_in : List Block → ℕ → ℕ
size_in bs n = length (block_items (value_of (named bs) n))

none_taken : (p : ℕ) (xs : List Item) → calls_in p (take 0 xs) ≡ 0
none_taken p [] = refl
none_taken p (x ∷ xs) = refl

take_calls : (p : ℕ) (xs : List Item) (v w : ℕ) → v ≤ w → calls_in p (take v xs) ≤ calls_in p (take w xs)
take_calls p xs zero w le = omega (arith, none_taken p xs)
take_calls p [] (suc v) w le = omega arith
take_calls p (x ∷ xs) (suc v) zero le = absurd (omega (arith, le))
take_calls p (x ∷ xs) (suc v) (suc w) le =
    omega (arith, calls_in-cons p x (take v xs), calls_in-cons p x (take w xs), take_calls p xs v w (omega (arith, le)))

step_calls : (p : ℕ) (xs : List Item) (i : ℕ) → slice_get xs i ≡ Some (Out p) → calls_in p (take i xs) + 1 ≤ calls_in p (take (suc i) xs)
step_calls p [] i there = absurd (cc)
step_calls p (x ∷ xs) zero there =
    let is : x ≡ Out p = cc in
    let one : is_one p x ≡ 1 = ap one_if (ap (is_call p) is ∙ is_own_call p) in
    omega (arith, calls_in-cons p x (take 0 xs), none_taken p xs, one)
step_calls p (x ∷ xs) (suc i) there =
    omega (arith, calls_in-cons p x (take i xs), calls_in-cons p x (take (suc i) xs), step_calls p xs i there)

below_none : (p : ℕ) (bs : List Block) (w : ℕ) → w ≡ 0 → below p bs w ≡ 0
below_none p [] w none = refl
below_none p (b ∷ bs) w none =
    let first : calls_in p (take w b.items) ≡ 0 = ap (λ k. calls_in p (take k b.items)) none ∙ none_taken p b.items in
    omega (arith, first, below_none p bs (w - block_words b) (omega (arith, none)))

below_more : (p : ℕ) (bs : List Block) (v w : ℕ) → v ≤ w → below p bs v ≤ below p bs w
below_more p [] v w le = omega arith
below_more p (b ∷ bs) v w le =
    omega (arith, take_calls p b.items v w le, below_more p bs (v - block_words b) (w - block_words b) (omega (arith, le)))

below_step : (p : ℕ) (bs : List Block) (n i w : ℕ) → slice_get (block_items (value_of (named bs) n)) i ≡ Some (Out p) → w ≡ ahead bs n + i → below p bs w + 1 ≤ below p bs (suc w)
below_step p [] n i w there is = absurd (cc)
below_step p (b ∷ bs) n i w there is =
    elim (cases_Bool (b.name == n)) [
      | inl here ↦
          let same : i ≡ w = let s : w ≡ 0 + i = rw here at is in omega (arith, s) in
          let step = subst (λ k. calls_in p (take k b.items) + 1 ≤ calls_in p (take (suc k) b.items)) same (step_calls p b.items i (rw here at there)) in
          omega (arith, step, below_more p bs (w - block_words b) (suc w - block_words b) (omega arith))
      | inr apart ↦
          let s : w ≡ block_words b + ahead bs n + i = rw apart at is in
          let step = below_step p bs n i (w - block_words b) (rw apart at there) (omega (arith, s)) in
          let next : below p bs (suc w - block_words b) ≡ below p bs (suc (w - block_words b)) = ap (below p bs) (omega (arith, s)) in
          omega (arith, step, next, take_calls p b.items w (suc w) (omega arith))
    ]

address_ahead : (bs : List Block) (at n x : ℕ) → address_in bs at n ≡ Some x → x ≡ at + 4 * ahead bs n
address_ahead [] at n x e = absurd (cc)
address_ahead (b ∷ bs) at n x e =
    elim (cases_Bool (b.name == n)) [
      | inl here ↦ let s = some_is at x (rw here at e) in rw here (omega (arith, s))
      | inr apart ↦ let l = address_ahead bs (at + 4 * block_words b) n x (rw apart at e) in rw apart (omega (arith, l))
    ]

-- WHERE BLOCKS STAND ONCE THE BODY DOES

module _ (p more : ℕ) (body : List Item) (size : length body ≡ more + 1) where
  spread_length : (xs : List Item) → length (spread p body xs) ≡ length xs + more * calls_in p xs
  spread_length [] = omega arith
  spread_length (x ∷ xs) =
      elim (cases_Bool (is_call p x)) [
        | inl own ↦
            let long : length (spread p body (x ∷ xs)) ≡ length body + length (spread p body xs) = rw own (length-append body (spread p body xs)) in
            let one : is_one p x ≡ 1 = rw own refl in
            let times : more * calls_in p (x ∷ xs) ≡ more * 1 + more * calls_in p xs =
            ap (λ k. more * k) (calls_in-cons p x xs ∙ ap (λ k. k + calls_in p xs) one) ∙ mul-add more 1 (calls_in p xs) in
            omega (arith, long, times, size, spread_length xs)
        | inr other ↦
            let long : length (spread p body (x ∷ xs)) ≡ suc (length (spread p body xs)) = rw other refl in
            let none : is_one p x ≡ 0 = rw other refl in
            let times : more * calls_in p (x ∷ xs) ≡ more * calls_in p xs =
            ap (λ k. more * k) (omega (arith, calls_in-cons p x xs, none)) in
            omega (arith, long, times, spread_length xs)
      ]

  words_more : (b : Block) → block_words (spread_block p body b) ≡ block_words b + more * calls_in p b.items
  words_more b = omega (arith, spread_length b.items)

  none_more : (bs : List Block) (w : ℕ) → w ≡ 0 → more * below p bs w ≡ 0
  none_more bs w none = let z : more * below p bs w ≡ more * 0 = ap (λ k. more * k) (below_none p bs w none) in omega (arith, z)

  -- behind a block
  below_behind : (b : Block) (bs : List Block) (w : ℕ) → block_words b ≤ w → more * below p (b ∷ bs) w ≡ more * calls_in p b.items + more * below p bs (w - block_words b)
  below_behind b bs w behind =
      let all : calls_in p (take w b.items) ≡ calls_in p b.items = ap (calls_in p) (take_all w b.items (omega (arith, behind))) in
      ap (λ k. more * (k + below p bs (w - block_words b))) all ∙ mul-add more (calls_in p b.items) (below p bs (w - block_words b))

  grown_ahead : (bs : List Block) (n w : ℕ) → w ≡ ahead bs n → ahead (map (spread_block p body) bs) n ≡ w + more * below p bs w
  grown_ahead [] n w is = omega (arith, is)
  grown_ahead (b ∷ bs) n w is =
      elim (cases_Bool (b.name == n)) [
        | inl here ↦
            let none : w ≡ 0 = rw here at is in
            let new : ahead (map (spread_block p body) (b ∷ bs)) n ≡ 0 = rw here refl in
            omega (arith, none, new, none_more (b ∷ bs) w none)
        | inr apart ↦
            let s : w ≡ block_words b + ahead bs n = rw apart at is in
            let new : ahead (map (spread_block p body) (b ∷ bs)) n ≡ block_words (spread_block p body b) + ahead (map (spread_block p body) bs) n = rw apart refl in
            omega (arith, s, new, words_more b, below_behind b bs w (omega (arith, s)), grown_ahead bs n (w - block_words b) (omega (arith, s)))
      ]

  -- and where their terms do
  grown_end : (bs : List Block) (n w : ℕ) → w ≡ ahead bs n + size_in bs n → ahead (map (spread_block p body) bs) n + size_in (map (spread_block p body) bs) n ≡ w + more * below p bs w
  grown_end [] n w is = omega (arith, is)
  grown_end (b ∷ bs) n w is =
      elim (cases_Bool (b.name == n)) [
        | inl here ↦
            let s : w ≡ 0 + length b.items = rw here at is in
            let new : ahead (map (spread_block p body) (b ∷ bs)) n ≡ 0 = rw here refl in
            let long : size_in (map (spread_block p body) (b ∷ bs)) n ≡ length (spread p body b.items) = rw here refl in
            let all : calls_in p (take w b.items) ≡ calls_in p b.items = ap (calls_in p) (take_all w b.items (omega (arith, s))) in
            let times : more * below p (b ∷ bs) w ≡ more * calls_in p b.items =
            ap (λ k. more * k) (omega (arith, all, below_none p bs (w - block_words b) (omega (arith, s)))) in
            omega (arith, s, new, long, times, spread_length b.items)
        | inr apart ↦
            let s : w ≡ block_words b + ahead bs n + size_in bs n = rw apart at is in
            let new : ahead (map (spread_block p body) (b ∷ bs)) n ≡ block_words (spread_block p body b) + ahead (map (spread_block p body) bs) n = rw apart refl in
            let long : size_in (map (spread_block p body) (b ∷ bs)) n ≡ size_in (map (spread_block p body) bs) n = rw apart refl in
            omega (arith, s, new, long, words_more b, below_behind b bs w (omega (arith, s)), grown_end bs n (w - block_words b) (omega (arith, s)))
      ]

-- blocks of which the names and terms stay are found where they were
module _ (f : Block → Block) (name : (b : Block) → (f b).name ≡ b.name) where
  found_still : (bs : List Block) (n : ℕ) → value_of (named (map f bs)) n ≡ option_map f (value_of (named bs) n)
  found_still [] n = refl
  found_still (b ∷ bs) n =
      elim (cases_Bool (b.name == n)) [
        | inl here ↦ let too : ((f b).name == n) ≡ true = ap (λ k. k == n) (name b) ∙ here in rw here (rw too refl)
        | inr apart ↦ let too : ((f b).name == n) ≡ false = ap (λ k. k == n) (name b) ∙ apart in rw apart (rw too (found_still bs n))
      ]

-- other numbers of procedures move nothing
recalled_length : (f : ℕ → ℕ) (xs : List Item) → length (map (recalled_item f) xs) ≡ length xs
recalled_length f [] = refl
recalled_length f (x ∷ xs) = ap suc (recalled_length f xs)

recalled_ahead : (f : ℕ → ℕ) (bs : List Block) (n : ℕ) → ahead (map (recalled_block f) bs) n ≡ ahead bs n
recalled_ahead f [] n = refl
recalled_ahead f (b ∷ bs) n =
    elim (cases_Bool (b.name == n)) [
      | inl here ↦ rw here refl
      | inr apart ↦ rw apart (omega (arith, recalled_length f b.items, recalled_ahead f bs n))
    ]

recalled_size : (f : ℕ → ℕ) (bs : List Block) (n : ℕ) → size_in (map (recalled_block f) bs) n ≡ size_in bs n
recalled_size f bs n = ap (λ (o : Option Block). length (block_items o)) (found_still (recalled_block f) (λ b. refl) bs n) ∙ of_block (value_of (named bs) n)
  where
    of_block : (o : Option Block) → length (block_items (option_map (recalled_block f) o)) ≡ length (block_items o)
    of_block None = refl
    of_block (Some b) = recalled_length f b.items

-- HOW MANY CALLS ARE BETWEEN

-- 1 where an address stands between two others
abbrev one_between : ℕ → ℕ → ℕ → ℕ
one_between low high at = if nat_lt at low then 0 else if nat_lt at high then 1 else 0

-- how many of two calls do
abbrev between : ℕ → ℕ → ℕ → ℕ → ℕ
between low high first last = one_between low high first + (if nat_eq first last then 0 else one_between low high last)

growth_is : (low high x more : ℕ) → growth_at low high x more ≡ more * one_between low high x
growth_is low high x more =
    elim (cases_Bool (nat_lt x low)) [
      | inl before ↦ rw before (omega arith)
      | inr past ↦ elim (cases_Bool (nat_lt x high)) [ inl within ↦ rw past (rw within (omega arith)) | inr behind ↦ rw past (rw behind (omega arith)) ]
    ]

grown_is : (low high x y more : ℕ) → grown low high x y more ≡ high - low + 4 * (more * between low high x y)
grown_is low high x y more =
    elim (cases_Bool (nat_eq x y)) [
      | inl same ↦ rw same (omega (arith, growth_is low high x more))
      | inr apart ↦
          rw apart (omega (arith, growth_is low high x more, growth_is low high y more, mul-add more (one_between low high x) (one_between low high y)))
    ]

-- a call stands so many bytes behind the beginning
record IsStep (p : ℕ) (bs : List Block) (x : ℕ) : Type 0 where
  word : ℕ
  is : x ≡ 4 * word
  step : below p bs word + 1 ≤ below p bs (suc word)

one_view : (low high x : ℕ) → (one_between low high x ≡ 0) ⊎ ((one_between low high x ≡ 1) × (low ≤ x) × (x < high))
one_view low high x =
    elim (cases_Bool (nat_lt x low)) [
      | inl before ↦ inl (rw before refl)
      | inr past ↦
          elim (cases_Bool (nat_lt x high)) [
            | inl within ↦ inr (rw past (rw within refl), ltb-false x low past, ltb-true x high within)
            | inr behind ↦ inl (rw past (rw behind refl))
          ]
    ]

module _ (p : ℕ) (bs : List Block) (low high l h : ℕ) (low_is : low ≡ 4 * l) (high_is : high ≡ 4 * h) (order : l ≤ h) where
  one_counts : (x : ℕ) → IsStep p bs x → below p bs l + one_between low high x ≤ below p bs h
  one_counts x s =
      let is = s.is in
      let step = s.step in
      elim (one_view low high x) [
        | inl none ↦ omega (arith, none, below_more p bs l h order)
        | inr one ↦
            omega (arith, one.0, step, below_more p bs l s.word (omega (arith, one.1, is, low_is)), below_more p bs (suc s.word) h (omega (arith, one.2, is, high_is)))
      ]

  two_count : (x y : ℕ) → x < y → IsStep p bs x → IsStep p bs y → below p bs l + (one_between low high x + one_between low high y) ≤ below p bs h
  two_count x y sooner s t =
      let s_is = s.is in
      let t_is = t.is in
      let s_step = s.step in
      let t_step = t.step in
      elim (one_view low high x) [
        | inl none ↦ omega (arith, none, one_counts y t)
        | inr one ↦
            elim (one_view low high y) [
              | inl none ↦ omega (arith, none, one_counts x s)
              | inr too ↦
                  omega (
                    arith,
                    one.0,
                    too.0,
                    s_step,
                    t_step,
                    below_more p bs l s.word (omega (arith, one.1, s_is, low_is)),
                    below_more p bs (suc s.word) t.word (omega (arith, s_is, t_is, sooner)),
                    below_more p bs (suc t.word) h (omega (arith, too.2, t_is, high_is)),
                  )
            ]
      ]

  calls_count : (x y : ℕ) → IsStep p bs x → IsStep p bs y → below p bs l + between low high x y ≤ below p bs h
  calls_count x y s t =
      elim (cases_Bool (nat_eq x y)) [
        | inl same ↦ rw same (omega (arith, one_counts x s))
        | inr apart ↦
            rw apart (elim (cases_Bool (nat_lt x y)) [
              | inl sooner ↦ two_count x y (ltb-true x y sooner) s t
              | inr later ↦
                  elim (eq-or-lt_of_le (ltb-false x y later)) [
                    | inl same ↦ absurd (eqb-false x y apart (sym same))
                    | inr before ↦ let two = two_count y x before t s in omega (arith, two)
                  ]
            ])
      ]

-- THE BRANCH

-- by how much the places of a Branch and its target come apart, with k and m calls ahead of them, of which at least b between
further : (more k m b : ℕ) → k + b ≤ m → more * k + more * b ≤ more * m
further more k m b le = let most : more * (k + b) ≤ more * m = mul-le-mul_left more le in omega (arith, most, mul-add more k b)

too_far : (at to b more k m w t : ℕ) → at ≡ 4 * w → to ≡ 4 * t → at < to → k + b ≤ m → 0 < to - at + 4 * (more * b) - 4094 → ¬ Reaches (pos (4 * (t + more * m)) -ℤ pos (4 * (w + more * k)))
too_far at to b more k m w t at_is to_is lt le misses reach =
    let most = reach.most in
    let apart = further more k m b le in
    absurd (omega (arith, ints, most, apart, at_is, to_is, lt, misses))

too_far_back : (at to b more k m w t : ℕ) → at ≡ 4 * w → to ≡ 4 * t → to ≤ at → m + b ≤ k → 0 < at - to + 4 * (more * b) - 4096 → ¬ Reaches (pos (4 * (t + more * m)) -ℤ pos (4 * (w + more * k)))
too_far_back at to b more k m w t at_is to_is le fewer misses reach =
    let least = reach.least in
    let apart = further more m k b fewer in
    absurd (omega (arith, ints, least, apart, at_is, to_is, le, misses))

module _ (g : Graph) (p more : ℕ) (rules : IsGraph g) (size : length (body_of g p) ≡ more + 1) where
  address_is : (n : ℕ) → HasBlock g n → address_of g n ≡ 4 * ahead g.blocks n
  address_is n there = let l = address_ahead g.blocks 0 n (address_of g n) (placed_at g n there) in omega (arith, l)

  step_of : (x : ℕ) → IsCallAt g p x → IsStep p g.blocks x
  step_of x call =
      let at = address_is call.0 (call_there g p call.0 call.1 call.2) in
      let is = call.3 in
      record {
        word = ahead g.blocks call.0 + call.1;
        is = omega (arith, at, is);
        step = below_step p g.blocks call.0 call.1 (ahead g.blocks call.0 + call.1) call.2 refl;
      }

  misses_then : (at to first last w t : ℕ) → at ≡ 4 * w → to ≡ 4 * t → IsStep p g.blocks first → IsStep p g.blocks last → 0 < missing at to first last more
      → ¬ Reaches (pos (4 * (t + more * below p g.blocks t)) -ℤ pos (4 * (w + more * below p g.blocks w)))
  misses_then at to first last w t at_is to_is s u misses =
      elim (cases_Bool (nat_lt at to)) [
        | inl ahead_of ↦
            let lt = ltb-true at to ahead_of in
            let m : 0 < grown at to first last more - 4094 = rw ahead_of at misses in
            too_far at to (between at to first last) more (below p g.blocks w) (below p g.blocks t) w t at_is to_is lt
            (calls_count p g.blocks at to w t at_is to_is (omega (arith, lt, at_is, to_is)) first last s u)
            (subst (λ k. 0 < k - 4094) (grown_is at to first last more) m)
        | inr back ↦
            let le = ltb-false at to back in
            let m : 0 < grown to at first last more - 4096 = rw back at misses in
            too_far_back at to (between to at first last) more (below p g.blocks w) (below p g.blocks t) w t at_is to_is le
            (calls_count p g.blocks to at t w to_is at_is (omega (arith, le, at_is, to_is)) first last s u)
            (subst (λ k. 0 < k - 4096) (grown_is to at first last more) m)
      ]

  -- the blocks once the body stands in place of the calls, and the procedure is gone
  abbrev then_blocks : List Block
  then_blocks = map (recalled_block (lowered p)) (map (spread_block p (body_of g p)) g.blocks)

  found_then : (n : ℕ) → value_of (named then_blocks) n ≡ option_map (recalled_block (lowered p)) (option_map (spread_block p (body_of g p)) (value_of (named g.blocks) n))
  found_then n =
      found_still (recalled_block (lowered p)) (λ b. refl) (map (spread_block p (body_of g p)) g.blocks) n
      ∙ ap (option_map (recalled_block (lowered p))) (found_still (spread_block p (body_of g p)) (λ b. refl) g.blocks n)

  term_then : (n : ℕ) → term_of (inlined_all g p) n ≡ term_of g n
  term_then n = ap block_term (found_then n) ∙ of_block (value_of (named g.blocks) n)
    where
      of_block : (o : Option Block) → block_term (option_map (recalled_block (lowered p)) (option_map (spread_block p (body_of g p)) o)) ≡ block_term o
      of_block None = refl
      of_block (Some b) = refl

  there_then : (n : ℕ) → HasBlock g n → HasBlock (inlined_all g p) n
  there_then n there = ap is_some (found_then n) ∙ of_block (value_of (named g.blocks) n) ∙ there
    where
      of_block : (o : Option Block) → is_some (option_map (recalled_block (lowered p)) (option_map (spread_block p (body_of g p)) o)) ≡ is_some o
      of_block None = refl
      of_block (Some b) = refl

  ahead_then : (n : ℕ) → ahead then_blocks n ≡ ahead g.blocks n + more * below p g.blocks (ahead g.blocks n)
  ahead_then n = recalled_ahead (lowered p) (map (spread_block p (body_of g p)) g.blocks) n ∙ grown_ahead p more (body_of g p) size g.blocks n (ahead g.blocks n) refl

  end_then : (n w : ℕ) → w ≡ ahead g.blocks n + size_in g.blocks n → ahead then_blocks n + size_in then_blocks n ≡ w + more * below p g.blocks w
  end_then n w is =
      let a = recalled_ahead (lowered p) (map (spread_block p (body_of g p)) g.blocks) n in
      let s = recalled_size (lowered p) (map (spread_block p (body_of g p)) g.blocks) n in
      omega (arith, a, s, grown_end p more (body_of g p) size g.blocks n w is)

  -- one Branch that doesn't reach
  pub none_near : (n at to first last : ℕ) → IsBranchAt g n at to → IsCallAt g p first → IsCallAt g p last → 0 < missing at to first last more → ¬ IsInReach (inlined_all g p)
  none_near n at to first last branch one two misses near =
      let there = has_term g n (Branch branch.cond branch.a branch.b branch.target) branch.term in
      let there_to = branch_there g n branch.cond branch.a branch.b branch.target rules branch.term in
      let h = inlined_all g p in
      let x = placed then_blocks 0 n (there_then n there) in
      let y = placed then_blocks 0 branch.target (there_then branch.target there_to) in
      let reach = branch_reaches h near n branch.cond branch.a branch.b branch.target (term_then n ∙ branch.term) in
      let reaches = (reach_is h n branch.target x.0 y.0 (length (items_of h n)) x.1 y.1 refl).0 reach in
      let w = ahead g.blocks n + size_in g.blocks n in
      let t = ahead g.blocks branch.target in
      let x_is = address_ahead then_blocks 0 n x.0 x.1 in
      let y_is = address_ahead then_blocks 0 branch.target y.0 y.1 in
      let from : x.0 + 4 * length (items_of h n) ≡ 4 * (w + more * below p g.blocks w) = let e = end_then n w refl in omega (arith, e, x_is) in
      let target : y.0 ≡ 4 * (t + more * below p g.blocks t) = let e = ahead_then branch.target in omega (arith, e, y_is) in
      let at_is : at ≡ 4 * w = let a = address_is n there in let is = branch.at_is in omega (arith, a, is) in
      let to_is : to ≡ 4 * t = let a = address_is branch.target there_to in let is = branch.to_is in omega (arith, a, is) in
      misses_then at to first last w t at_is to_is (step_of first one) (step_of last two) misses
      (subst (λ k. Reaches (pos k -ℤ pos (4 * (w + more * below p g.blocks w)))) target
      (subst (λ k. Reaches (pos y.0 -ℤ pos k)) from reaches))
