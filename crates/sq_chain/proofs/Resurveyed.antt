-- What an exchange, a fall, a join and a block that goes do to where the blocks stand.
use Rattle.std.proofs.Common.{◌≡◌, ◌≢◌, ℕ, ◌+◌, ◌*◌, ◌≤◌, ◌==◌, Bool, true, false, if◌then◌else◌, List, [], ◌∷◌, ◌++◌, length, sum_by, None, Some, IsSome, is_some, inl, inr, refl, sym, ap, ◌∙◌, subst, arith, length-append}
use Rattle.std.specs.Prelude.{option_map, nat_lt}
use Rattle.std.proofs.lemmas.Bool.{cases_Bool, lt-ltb, le-ltb, eqb-true, eq-eqb, ne_eqb, eqb-false}
use Rattle.std.proofs.lemmas.List.Sums.{sum_by-cons}
use Rattle.sq_arena.specs.Entries.{HasDistinctKeys, value_of, first_key, next_key}
use Rattle.sq_arena.proofs.EntriesLaws.{distinct_back}
use Rattle.sq_graph.specs.declared.item.Term.{Term}
use Rattle.sq_graph.specs.declared.item.Term.TheVariants.{Fall, Jump}
use Rattle.sq_graph.specs.Graph.{Block}
use Rattle.sq_graph.specs.Blocks.{named, block_term}
use Rattle.sq_graph.specs.Operations.{with_blocks, with_next_taken, joined_at}
use Rattle.sq_graph.specs.Words.{term_words, block_words}
use Rattle.sq_graph.proofs.Kept.{absent_behind}
use Rattle.sq_layout.specs.Weights.{address_by}
use Rattle.sq_lookup.proofs.Previous.{next_has, next_there}
use Rattle.sq_chain.specs.Bare.{IsSpanned}
use Rattle.sq_chain.specs.Moves.{fallen_term, fallen_blocks, fallen_into}
use Rattle.sq_chain.specs.Shifts.{lowered_to}
use Rattle.sq_chain.proofs.Fallen.{others_stay, other_stays}
use Rattle.sq_chain.proofs.Seaming.{fallen_twice}

-- A FALL

fallen_all : (bs : List Block) → fallen_into (λ n. true) bs ≡ fallen_blocks bs
fallen_all [] = refl
fallen_all (b ∷ []) = refl
fallen_all (b ∷ next ∷ rest) = ap (λ bs. record b { term = fallen_term next.name b.term } ∷ bs) (fallen_all (next ∷ rest))

-- where some fell before, the same fall in the end
pub fallen_again : (P : ℕ → Bool) (bs : List Block) → fallen_blocks (fallen_into P bs) ≡ fallen_blocks bs
fallen_again P bs = sym (fallen_all (fallen_into P bs)) ∙ fallen_twice (λ n. true) P bs ∙ fallen_all bs

-- what fell has no Jump to the next slot
pub fallen_once : (bs : List Block) → fallen_blocks (fallen_blocks bs) ≡ fallen_blocks bs
fallen_once bs = ap fallen_blocks (sym (fallen_all bs)) ∙ fallen_again (λ n. true) bs

-- a word less
pub fell_words : (bs : List Block) (m n : ℕ) → block_term (value_of (named bs) m) ≡ Some (Jump n) → sum_by block_words (with_blocks (λ b. record b { term = Fall } ∷ []) bs m) + 1 ≡ sum_by block_words bs
fell_words [] m n jump = absurd (cc)
fell_words (b ∷ bs) m n jump =
    elim (cases_Bool (b.name == m)) [
      | inl here ↦
          let some : Some b.term ≡ Some (Jump n) = rw here at jump in
          let term : b.term ≡ Jump n = cc in
          rw here (omega (arith, ap term_words term, sum_by-cons block_words b bs, sum_by-cons block_words (record b { term = Fall }) bs))
      | inr apart ↦
          let later = fell_words bs m n (rw apart at jump) in
          rw apart (omega (arith, later, sum_by-cons block_words b bs, sum_by-cons block_words b (with_blocks (λ c. record c { term = Fall } ∷ []) bs m)))
    ]

-- what stands behind the word that goes comes nearer by it
lowered_behind : (bs : List Block) (start at k : ℕ) → start ≤ at → address_by block_words bs at k ≡ option_map (lowered_to start) (address_by block_words bs (at + 4) k)
lowered_behind [] start at k behind = refl
lowered_behind (b ∷ bs) start at k behind =
    elim (cases_Bool (b.name == k)) [
      | inl here ↦
          let less : nat_lt start (at + 4) ≡ true = lt-ltb start (at + 4) (omega (arith, behind)) in
          rw here (rw less (ap Some (omega arith)))
      | inr apart ↦
          let same : at + 4 * block_words b + 4 ≡ at + 4 + 4 * block_words b = omega arith in
          rw apart (lowered_behind bs start (at + 4 * block_words b) k (omega (arith, behind)) ∙ ap (λ a. option_map (lowered_to start) (address_by block_words bs a k)) same)
    ]

no_less : (bs : List Block) (at n x : ℕ) → address_by block_words bs at n ≡ Some x → at ≤ x
no_less [] at n x found = absurd (cc)
no_less (b ∷ bs) at n x found =
    elim (cases_Bool (b.name == n)) [
      | inl here ↦ let is : Some at ≡ Some x = rw here at found in let same : at ≡ x = cc in omega (arith, same)
      | inr apart ↦ let later = no_less bs (at + 4 * block_words b) n x (rw apart at found) in omega (arith, later)
    ]

pub fell_addresses : (bs : List Block) (m n at start k : ℕ) → block_term (value_of (named bs) m) ≡ Some (Jump n) → address_by block_words bs at m ≡ Some start → address_by block_words (with_blocks (λ b. record b { term = Fall } ∷ []) bs m) at k ≡ option_map (lowered_to start) (address_by block_words bs at k)
fell_addresses [] m n at start k jump found = absurd (cc)
fell_addresses (b ∷ bs) m n at start k jump found =
    elim (cases_Bool (b.name == m)) [
      | inl here ↦
          let some : Some b.term ≡ Some (Jump n) = rw here at jump in
          let term : b.term ≡ Jump n = cc in
          let is : Some at ≡ Some start = rw here at found in
          let same : at ≡ start = cc in
          elim (cases_Bool (b.name == k)) [
            | inl mine ↦
                let not_less : nat_lt start at ≡ false = le-ltb start at (omega (arith, same)) in
                rw here (rw mine (rw not_less refl))
            | inr more ↦
                let size : at + 4 * (length b.items + 0) + 4 ≡ at + 4 * block_words b = omega (arith, ap term_words term) in
                rw here (rw more (lowered_behind bs start (at + 4 * (length b.items + 0)) k (omega (arith, same)) ∙ ap (λ a. option_map (lowered_to start) (address_by block_words bs a k)) size))
          ]
      | inr apart ↦
          let there : address_by block_words bs (at + 4 * block_words b) m ≡ Some start = rw apart at found in
          elim (cases_Bool (b.name == k)) [
            | inl mine ↦
                let not_less : nat_lt start at ≡ false = le-ltb start at (omega (arith, no_less bs (at + 4 * block_words b) m start there)) in
                rw apart (rw mine (rw not_less refl))
            | inr more ↦ rw apart (rw more (fell_addresses bs m n (at + 4 * block_words b) start k (rw apart at jump) there))
          ]
    ]

-- NAMES THAT AREN'T THERE

pub rest_distinct : (b : Block) (bs : List Block) → HasDistinctKeys (named (b ∷ bs)) → HasDistinctKeys (named bs)
rest_distinct b bs distinct = distinct_back ((b.name, b) ∷ []) (named bs) distinct

pub apart_from : (b : Block) (bs : List Block) (k : ℕ) → HasDistinctKeys (named (b ∷ bs)) → IsSome (value_of (named bs) k) → (b.name == k) ≡ false
apart_from b bs k distinct some =
    elim (cases_Bool (b.name == k)) [
      | inl same ↦
          let none : value_of (named bs) k ≡ None = subst (λ j. value_of (named bs) j ≡ None) (eqb-true b.name k same) (absent_behind (b.name, b) (named bs) distinct) in
          absurd (cc (ap is_some none))
      | inr apart ↦ apart
    ]

pub first_there : (b : Block) (bs : List Block) (n : ℕ) → b.name ≡ n → IsSome (value_of (named (b ∷ bs)) n)
first_there b bs n is = rw (eq-eqb b.name n is) refl

-- a name is another one than that of a block of another name
other_than : (b : Block) (n k : ℕ) → (b.name == n) ≡ false → (b.name == k) ≡ true → (n == k) ≡ false
other_than b n k apart here = ne_eqb n k (λ same. eqb-false b.name n apart (eqb-true b.name k here ∙ sym same))

pub somewhere : (bs : List Block) (k at : ℕ) → address_by block_words bs at k ≡ None → value_of (named bs) k ≡ None
somewhere [] k at none = refl
somewhere (b ∷ bs) k at none =
    elim (cases_Bool (b.name == k)) [
      | inl here ↦ absurd (cc (rw here at none))
      | inr apart ↦ rw apart (somewhere bs k (at + 4 * block_words b) (rw apart at none))
    ]

pub absent : (bs : List Block) (k at : ℕ) → value_of (named bs) k ≡ None → address_by block_words bs at k ≡ None
absent [] k at none = refl
absent (b ∷ bs) k at none =
    elim (cases_Bool (b.name == k)) [
      | inl here ↦ absurd (cc (rw here at none))
      | inr apart ↦ rw apart (absent bs k (at + 4 * block_words b) (rw apart at none))
    ]

absent_as : (b : Block) (bs : List Block) (n k : ℕ) → HasDistinctKeys (named (b ∷ bs)) → b.name ≡ n → (n == k) ≡ true → value_of (named bs) k ≡ None
absent_as b bs n k distinct is here = subst (λ j. value_of (named bs) j ≡ None) (is ∙ eqb-true n k here) (absent_behind (b.name, b) (named bs) distinct)

-- A JOIN

fallen_joined_head : (b next : Block) (rest : List Block) (m : ℕ) → fallen_blocks (b ∷ joined_at (next ∷ rest) m) ≡ record b { term = fallen_term next.name b.term } ∷ fallen_blocks (joined_at (next ∷ rest) m)
fallen_joined_head b next [] m = elim (cases_Bool (next.name == m)) [ inl here ↦ rw here refl | inr apart ↦ rw apart refl ]
fallen_joined_head b next (other ∷ rest) m = elim (cases_Bool (next.name == m)) [ inl here ↦ rw here refl | inr apart ↦ rw apart refl ]

fallen_taken : (b next : Block) (rest : List Block) (t : Term) → fallen_blocks (record b { items = b.items ++ next.items; term = next.term } ∷ rest) ≡ with_next_taken (record b { term = t }) (fallen_blocks (next ∷ rest))
fallen_taken b next [] t = refl
fallen_taken b next (other ∷ rest) t = refl

-- the same fall before it and after it
pub fallen_joined : (bs : List Block) (m : ℕ) → fallen_blocks (joined_at bs m) ≡ joined_at (fallen_blocks bs) m
fallen_joined [] m = refl
fallen_joined (b ∷ []) m = elim (cases_Bool (b.name == m)) [ inl here ↦ rw here refl | inr apart ↦ rw apart refl ]
fallen_joined (b ∷ next ∷ rest) m =
    elim (cases_Bool (b.name == m)) [
      | inl here ↦ rw here (fallen_taken b next rest (fallen_term next.name b.term))
      | inr apart ↦
          rw apart
          (fallen_joined_head b next rest m ∙ ap (λ bs. record b { term = fallen_term next.name b.term } ∷ bs) (fallen_joined (next ∷ rest) m))
    ]

-- the others stand where they did
pub joined_addresses : (bs : List Block) (m n at k : ℕ) → HasDistinctKeys (named bs) → next_key (named bs) m ≡ Some n → block_term (value_of (named bs) m) ≡ Some Fall → address_by block_words (joined_at bs m) at k ≡ (if n == k then None else address_by block_words bs at k)
joined_addresses [] m n at k distinct slot fall = absurd (cc)
joined_addresses (b ∷ []) m n at k distinct slot fall =
    elim (cases_Bool (b.name == m)) [ inl here ↦ absurd (cc (rw here at slot)) | inr apart ↦ absurd (cc (rw apart at slot)) ]
joined_addresses (b ∷ next ∷ rest) m n at k distinct slot fall =
    elim (cases_Bool (b.name == m)) [
      | inl here ↦
          let first : Some next.name ≡ Some n = rw here at slot in
          let named_n : next.name ≡ n = cc in
          let some : Some b.term ≡ Some Fall = rw here at fall in
          let term : b.term ≡ Fall = cc in
          let other = apart_from b (next ∷ rest) n distinct (first_there next rest n named_n) in
          elim (cases_Bool (b.name == k)) [
            | inl mine ↦ rw (here, other_than b n k other mine, mine) refl
            | inr more ↦
                elim (cases_Bool (n == k)) [
                  | inl gone ↦ rw (here, gone) (rw more (absent rest k (at + 4 * (length (b.items ++ next.items) + term_words next.term)) (absent_as next rest n k (rest_distinct b (next ∷ rest) distinct) named_n gone)))
                  | inr stays ↦
                      let size : at + 4 * (length (b.items ++ next.items) + term_words next.term) ≡ at + 4 * block_words b + 4 * block_words next = omega (arith, length-append b.items next.items, ap term_words term) in
                      let behind : (next.name == k) ≡ false = ap (λ j. j == k) named_n ∙ stays in
                      rw (here, stays) (rw (more, behind) (ap (λ a. address_by block_words rest a k) size))
                ]
          ]
      | inr apart ↦
          let later : next_key (named (next ∷ rest)) m ≡ Some n = rw apart at slot in
          let other = apart_from b (next ∷ rest) n distinct (next_there (next ∷ rest) m n later) in
          elim (cases_Bool (b.name == k)) [
            | inl mine ↦ rw (apart, other_than b n k other mine) (rw mine refl)
            | inr more ↦ rw apart (rw more (joined_addresses (next ∷ rest) m n (at + 4 * block_words b) k (rest_distinct b (next ∷ rest) distinct) later (rw apart at fall)))
          ]
    ]

pub joined_words : (bs : List Block) (m : ℕ) → block_term (value_of (named bs) m) ≡ Some Fall → sum_by block_words (joined_at bs m) ≡ sum_by block_words bs
joined_words [] m fall = refl
joined_words (b ∷ []) m fall = elim (cases_Bool (b.name == m)) [ inl here ↦ rw here refl | inr apart ↦ rw apart refl ]
joined_words (b ∷ next ∷ rest) m fall =
    elim (cases_Bool (b.name == m)) [
      | inl here ↦
          let some : Some b.term ≡ Some Fall = rw here at fall in
          let term : b.term ≡ Fall = cc in
          let both : Block = record b { items = b.items ++ next.items; term = next.term } in
          rw here
          (omega (
            arith,
            sum_by-cons block_words both rest,
            sum_by-cons block_words b (next ∷ rest),
            sum_by-cons block_words next rest,
            length-append b.items next.items,
            ap term_words term,
          ))
      | inr apart ↦
          rw apart
          (omega (arith, sum_by-cons block_words b (joined_at (next ∷ rest) m), sum_by-cons block_words b (next ∷ rest), joined_words (next ∷ rest) m (rw apart at fall)))
    ]

-- A BLOCK OF NO WORDS GOES

pub without_words : (bs : List Block) (m : ℕ) → ((b : Block) → value_of (named bs) m ≡ Some b → block_words b ≡ 0) → sum_by block_words (with_blocks (λ _. []) bs m) ≡ sum_by block_words bs
without_words [] m none = refl
without_words (b ∷ bs) m none =
    elim (cases_Bool (b.name == m)) [
      | inl here ↦ rw here (omega (arith, sum_by-cons block_words b bs, none b (rw here refl)))
      | inr apart ↦
          rw apart
          (omega (arith, sum_by-cons block_words b bs, sum_by-cons block_words b (with_blocks (λ _. []) bs m), without_words bs m (λ c there. none c (rw apart there))))
    ]

pub without_addresses : (bs : List Block) (m at k : ℕ) → HasDistinctKeys (named bs) → ((b : Block) → value_of (named bs) m ≡ Some b → block_words b ≡ 0) → address_by block_words (with_blocks (λ _. []) bs m) at k ≡ (if m == k then None else address_by block_words bs at k)
without_addresses [] m at k distinct none = elim (cases_Bool (m == k)) [ inl here ↦ rw here refl | inr apart ↦ rw apart refl ]
without_addresses (b ∷ bs) m at k distinct none =
    elim (cases_Bool (b.name == m)) [
      | inl here ↦
          let is = eqb-true b.name m here in
          let empty : block_words b ≡ 0 = none b (rw here refl) in
          elim (cases_Bool (m == k)) [
            | inl gone ↦ rw (here, gone) (absent bs k at (absent_as b bs m k distinct is gone))
            | inr stays ↦
                let mine : (b.name == k) ≡ false = ap (λ j. j == k) is ∙ stays in
                let same : at ≡ at + 4 * block_words b = omega (arith, empty) in
                rw (here, stays) (rw mine (ap (λ a. address_by block_words bs a k) same))
          ]
      | inr apart ↦
          elim (cases_Bool (b.name == k)) [
            | inl mine ↦ rw (apart, other_than b m k apart mine) (rw mine refl)
            | inr more ↦ rw apart (rw more (without_addresses bs m (at + 4 * block_words b) k (rest_distinct b bs distinct) (λ c there. none c (rw apart there))))
          ]
    ]

-- what fell before falls where no Jump to this block, or over it, is before it
module _ (m : ℕ) where
  abbrev pub IsLeft : List Block → Type 0
  IsLeft bs = (p : ℕ) → next_key (named bs) p ≡ Some m → block_term (value_of (named bs) p) ≢ Some (Jump m)

  left_later : (b : Block) (bs : List Block) → HasDistinctKeys (named (b ∷ bs)) → IsLeft (b ∷ bs) → IsLeft bs
  left_later b bs distinct left p slot jump =
      let aside = apart_from b bs p distinct (next_has bs p m slot) in
      left p (rw aside slot) (rw aside jump)

  spanned_later : (b : Block) (bs : List Block) → HasDistinctKeys (named (b ∷ bs)) → (b.name == m) ≡ false → IsSpanned m (b ∷ bs) → IsSpanned m bs
  spanned_later b bs distinct apart over p s slot after jump =
      let aside = apart_from b bs p distinct (next_has bs p m slot) in
      over p s (rw aside slot) (rw apart after) (rw aside jump)

  -- the block before the one that goes stays
  before_gone : (b next : Block) (rest : List Block) → HasDistinctKeys (named (b ∷ next ∷ rest)) → next.name ≡ m → IsLeft (b ∷ next ∷ rest) → IsSpanned m (b ∷ next ∷ rest) → fallen_blocks (b ∷ rest) ≡ record b { term = fallen_term next.name b.term } ∷ fallen_blocks rest
  before_gone b next rest distinct is left over = others_stay b rest apart ∙ ap (λ t. record b { term = t } ∷ fallen_blocks rest) (sym stays)
    where
      own : (b.name == b.name) ≡ true
      own = eq-eqb b.name b.name refl

      slot : next_key (named (b ∷ next ∷ rest)) b.name ≡ Some m
      slot = rw own (ap Some is)

      jumps : (to : ℕ) → b.term ≡ Jump to → block_term (value_of (named (b ∷ next ∷ rest)) b.name) ≡ Some (Jump to)
      jumps to jump = rw own (ap Some jump)

      apart : (to : ℕ) → b.term ≡ Jump to → first_key (named rest) ≡ Some to → ⊥
      apart to jump first =
          let other = ap (λ k. b.name == k) (sym is) ∙ apart_from b (next ∷ rest) next.name distinct (first_there next rest next.name refl) in
          let after : next_key (named (b ∷ next ∷ rest)) m ≡ Some to = rw (other, eq-eqb next.name m is) first in
          over b.name to slot after (jumps to jump)

      stays : fallen_term next.name b.term ≡ b.term
      stays = other_stays next.name b.term (λ to jump same. left b.name slot (jumps m (jump ∙ ap Jump (sym same ∙ is))))

  pub fallen_without : (bs : List Block) → HasDistinctKeys (named bs) → IsLeft bs → IsSpanned m bs → fallen_blocks (with_blocks (λ _. []) bs m) ≡ with_blocks (λ _. []) (fallen_blocks bs) m
  fallen_without [] distinct left over = refl
  fallen_without (b ∷ []) distinct left over = elim (cases_Bool (b.name == m)) [ inl here ↦ rw here refl | inr apart ↦ rw apart refl ]
  fallen_without (b ∷ next ∷ rest) distinct left over =
      elim (cases_Bool (b.name == m)) [
        | inl here ↦ rw here refl
        | inr apart ↦
            elim (cases_Bool (next.name == m)) [
              | inl goes ↦
                  rw apart
                  (rw goes (before_gone b next rest distinct (eqb-true next.name m goes) left over)
                  ∙ ap (λ bs. record b { term = fallen_term next.name b.term } ∷ bs) (head_gone next rest goes))
              | inr other ↦
                  let later = fallen_without (next ∷ rest) (rest_distinct b (next ∷ rest) distinct) (left_later b (next ∷ rest) distinct left) (spanned_later b (next ∷ rest) distinct apart over) in
                  rw apart (ap (λ bs. fallen_blocks (b ∷ bs)) (head_stays next rest other) ∙ ap (λ bs. record b { term = fallen_term next.name b.term } ∷ bs) (sym (ap fallen_blocks (head_stays next rest other)) ∙ later))
            ]
      ]
    where
      head_gone : (next : Block) (rest : List Block) → (next.name == m) ≡ true → fallen_blocks rest ≡ with_blocks (λ _. []) (fallen_blocks (next ∷ rest)) m
      head_gone next [] goes = rw goes refl
      head_gone next (c ∷ rest) goes = rw goes refl

      head_stays : (next : Block) (rest : List Block) → (next.name == m) ≡ false → with_blocks (λ _. []) (next ∷ rest) m ≡ next ∷ with_blocks (λ _. []) rest m
      head_stays next rest other = rw other refl
