-- Which blocks are in slots before another one, and where these stand.
use Rattle.std.proofs.Common.{◌≡◌, ◌⊎◌, ℕ, ◌+◌, ◌*◌, ◌≤◌, ◌==◌, List, [], ◌∷◌, ◌++◌, length, Option, None, Some, inl, inr, refl, sym, ap, ◌∙◌, subst, arith}
use Rattle.std.specs.Prelude.{unwrap_or}
use Rattle.std.proofs.lemmas.Bool.{cases_Bool, eqb-true}
use Rattle.sq_arena.specs.Entries.{HasDistinctKeys, ContainsKey, value_of, before, through, behind, first_key, last_key, previous_key}
use Rattle.sq_arena.proofs.EntriesLaws.{or_value, value_of-append}
use Rattle.sq_arena.proofs.EntriesLemmas.{split_at, some_value, through-before}
use Rattle.sq_graph.specs.declared.item.Term.TheVariants.{Branch}
use Rattle.sq_graph.specs.Cursor.{ahead_of}
use Rattle.sq_graph.specs.Graph.{Block, Graph}
use Rattle.sq_graph.specs.Blocks.{named, HasBlock, block_of, block_items, items_of, next_of}
use Rattle.sq_graph.specs.Rules.{IsGraph}
use Rattle.sq_graph.specs.Words.{term_words, block_words}
use Rattle.sq_graph.proofs.CursorLaws.{behind_parts}
use Rattle.sq_layout.specs.Weights.{address_by}
use Rattle.sq_chain.specs.Seams.{size}
use Rattle.sq_chain.specs.Least.{stands_at}
use Rattle.sq_chain.specs.Widening.{EndsInBranch}
use Rattle.sq_chain.proofs.Exchanging.{start_is, term_is}
use Rattle.sq_chain.proofs.Reordered.{some_or_none}
use Rattle.sq_chain.proofs.Shortness.{stands_there}
use Rattle.sq_chain.proofs.Standing.{stands, size_one, stands_named, past, inside, from_start}

-- a list that ends in this pair
in_front : (xs : List (ℕ × Block)) (c : ℕ) (b : Block) (n : ℕ) → ContainsKey (xs ++ (c, b) ∷ []) n → ContainsKey xs n ⊎ (c ≡ n)
in_front [] c b n some = elim (cases_Bool (c == n)) [ inl here ↦ inr (eqb-true c n here) | inr apart ↦ absurd (cc (rw apart at some)) ]
in_front (x ∷ xs) c b n some =
    elim (cases_Bool (x.0 == n)) [
      | inl here ↦ inl (rw here refl)
      | inr apart ↦ elim (in_front xs c b n (rw apart at some)) [ inl there ↦ inl (rw apart there) | inr same ↦ inr same ]
    ]

no_first : (xs : List (ℕ × Block)) → first_key xs ≡ None → xs ≡ []
no_first [] none = refl
no_first (x ∷ xs) none = absurd (cc)

no_last : (xs : List (ℕ × Block)) → last_key xs ≡ None → xs ≡ []
no_last [] none = refl
no_last (x ∷ []) none = absurd (cc)
no_last (x ∷ y ∷ xs) none = absurd (let more : y ∷ xs ≡ [] = no_last (y ∷ xs) none in cc)

-- a block stands within its list
pub fits : (xs : List (ℕ × Block)) (at n : ℕ) (b : Block) → value_of xs n ≡ Some b → (x : ℕ) × ((stands xs at n ≡ Some x) × (x + 4 * block_words b ≤ at + 4 * size xs))
fits [] at n b found = absurd (cc)
fits (e ∷ xs) at n b found =
    elim (cases_Bool (e.0 == n)) [
      | inl here ↦
          let is : Some e.1 ≡ Some b = rw here at found in
          let same : e.1 ≡ b = cc in
          (at, (rw here refl, omega (arith, ap block_words same, size_one e xs)))
      | inr apart ↦
          let later = fits xs (at + 4 * block_words e.1) n b (rw apart at found) in
          (later.0, (rw apart later.1.0, omega (arith, later.1.1, size_one e xs)))
    ]

module _ (g : Graph) (rules : IsGraph g) (c : ℕ) (has : HasBlock g c) where
  abbrev es : List (ℕ × Block)
  es = named g.blocks

  block : (b : Block) × (block_of g c ≡ Some b)
  block = some_value (block_of g c) has

  split : es ≡ before es c ++ (c, block.0) ∷ behind es c
  split = split_at es c block.0 block.1

  -- IN WHICH SLOTS

  pub none_first : previous_key es c ≡ None → (n : ℕ) → ¬ ContainsKey (before es c) n
  none_first none n some = let empty : before es c ≡ [] = no_last (before es c) none in absurd (cc (ap (λ (xs : List (ℕ × Block)). value_of xs n) empty, some))

  -- before the next one
  pub before_next : (d : ℕ) → next_of g c ≡ Some d → before es d ≡ through es c
  before_next d next =
      let parts = behind_parts (before es c) (behind es c) (c, block.0) (subst (λ (xs : List (ℕ × Block)). HasDistinctKeys xs) split rules.distinct) in
      ap (λ (o : Option ℕ). ahead_of es o) (sym next)
      ∙ ap (λ (xs : List (ℕ × Block)). ahead_of xs (next_of g c)) split ∙ parts.ahead ∙ sym (through-before es c block.0 block.1)

  pub next_ahead : (d n : ℕ) → next_of g c ≡ Some d → ContainsKey (before es d) n → ContainsKey (before es c) n ⊎ (c ≡ n)
  next_ahead d n next some =
      in_front (before es c) c block.0 n (subst (λ (xs : List (ℕ × Block)). ContainsKey xs n) (before_next d next ∙ through-before es c block.0 block.1) some)

  -- before the last one
  pub last_ahead : (n : ℕ) → next_of g c ≡ None → HasBlock g n → ContainsKey (before es c) n ⊎ (c ≡ n)
  last_ahead n next there =
      let is : es ≡ before es c ++ (c, block.0) ∷ [] = split ∙ ap (λ (xs : List (ℕ × Block)). before es c ++ (c, block.0) ∷ xs) (no_first (behind es c) next) in
      in_front (before es c) c block.0 n (subst (λ (xs : List (ℕ × Block)). ContainsKey xs n) is there)

  -- WHERE THEY STAND

  start : stands_at block_words g c ≡ 4 * size (before es c)
  start = start_is g rules c block.0 block.1 (λ m. address_by block_words g.blocks 0 m) (λ m. refl)

  place : (n : ℕ) → address_by block_words g.blocks 0 n ≡ stands (before es c ++ (c, block.0) ∷ behind es c) 0 n
  place n = stands_named g.blocks 0 n ∙ ap (λ (xs : List (ℕ × Block)). stands xs 0 n) split

  -- a Branch ahead ends where the block starts, or further ahead
  pub branch_ahead : (n : ℕ) → EndsInBranch g n → ContainsKey (before es c) n → stands_at block_words g n + 4 * length (items_of g n) + 4 ≤ stands_at block_words g c
  branch_ahead n branch some =
      let b = some_value (value_of (before es c) n) some in
      let found : block_of g n ≡ Some b.0 =
      ap (λ (xs : List (ℕ × Block)). value_of xs n) split ∙ value_of-append (before es c) ((c, block.0) ∷ behind es c) n
      ∙ ap (λ (o : Option Block). or_value o (value_of ((c, block.0) ∷ behind es c) n)) b.1 in
      let words = ap term_words (term_is g n b.0 (Branch branch.cond branch.a branch.b branch.to) found branch.is) in
      let items : length (items_of g n) ≡ length b.0.items = ap (λ (o : Option Block). length (block_items o)) found in
      let x = fits (before es c) 0 n b.0 b.1 in
      let is : stands_at block_words g n ≡ x.0 = ap (λ (o : Option ℕ). unwrap_or o 0) (place n ∙ inside (before es c) ((c, block.0) ∷ behind es c) 0 n some ∙ x.1.0) in
      omega (arith, is, words, items, x.1.1, start)

  -- and another block isn't further ahead
  pub not_ahead : (n : ℕ) → HasBlock g n → ¬ ContainsKey (before es c) n → stands_at block_words g c ≤ stands_at block_words g n
  not_ahead n there out =
      elim (some_or_none (value_of (before es c) n)) [
        | inl some ↦ absurd (out some)
        | inr none ↦
            let found = sym (past (before es c) ((c, block.0) ∷ behind es c) 0 n none) ∙ sym (place n) ∙ stands_there block_words g n there in
            omega (arith, start, from_start ((c, block.0) ∷ behind es c) (0 + 4 * size (before es c)) n (stands_at block_words g n) found)
      ]
