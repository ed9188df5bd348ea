-- Where blocks stand, and which they are, once one is gone or changed.
use Rattle.std.proofs.Common.{◌≡◌, ◌≢◌, ℕ, ◌+◌, ◌-◌, ◌*◌, ◌<◌, ◌≤◌, ◌==◌, nat_lt, true, false, List, [], ◌∷◌, map, Some, inl, inr, refl, sym, ap, ◌∙◌, arith}
use Rattle.std.specs.Prelude.{option_map}
use Rattle.std.proofs.lemmas.Bool.{cases_Bool, ne_eqb, eqb-true}
use Rattle.std.proofs.lemmas.Bool.Decides.{nat_tests}
use Rattle.std.proofs.lemmas.List.{length-map}
use Rattle.sq_arena.specs.Entries.{value_of}
use Rattle.sq_graph.specs.Graph.{Block}
use Rattle.sq_graph.specs.Blocks.{named}
use Rattle.sq_graph.specs.Words.{block_words}
use Rattle.sq_graph.specs.Operations.{with_blocks}
use Rattle.sq_graph.specs.Renames.{retargeted_item, retargeted_block}
use Rattle.sq_graph.specs.Places.{address_in}
use Rattle.sq_layout.specs.Branches.{lifted}
use Rattle.sq_layout.proofs.Shrinking.{some_is}
use Rattle.sq_layout.proofs.Shrunk.{retargeted_words}

pub above : (gone x : ℕ) → gone < x → lifted gone x ≡ x - 4
above gone x h = let t : nat_lt gone x ≡ true = grind (arith, nat_tests) in rw t refl

pub below : (gone x : ℕ) → x ≤ gone → lifted gone x ≡ x
below gone x h = let t : nat_lt gone x ≡ false = grind (arith, nat_tests) in rw t refl

least : (bs : List Block) (at n x : ℕ) → address_in bs at n ≡ Some x → at ≤ x
least [] at n x e = absurd (cc)
least (b ∷ bs) at n x e =
    elim (cases_Bool (b.name == n)) [
      | inl here ↦ let s = some_is at x (rw here at e) in omega arith
      | inr apart ↦ let l = least bs (at + 4 * block_words b) n x (rw apart at e) in omega arith
    ]

-- what stands behind it all comes a word nearer
moved_up : (bs : List Block) (gone at m : ℕ) → gone ≤ at → address_in bs at m ≡ option_map (lifted gone) (address_in bs (at + 4) m)
moved_up [] gone at m le = refl
moved_up (b ∷ bs) gone at m le =
    elim (cases_Bool (b.name == m)) [
      | inl here ↦ rw here (ap Some (let e = above gone (at + 4) (omega arith) in omega arith))
      | inr apart ↦
          let place : (at + 4 * block_words b) + 4 ≡ (at + 4) + 4 * block_words b = omega arith in
          rw apart (moved_up bs gone (at + 4 * block_words b) m (omega arith) ∙ ap (λ k. option_map (lifted gone) (address_in bs k m)) place)
    ]

pub address-without : (bs : List Block) (at n gone m : ℕ) (b : Block) → value_of (named bs) n ≡ Some b → block_words b ≡ 1 → address_in bs at n ≡ Some gone → m ≢ n → address_in (with_blocks (λ c. []) bs n) at m ≡ option_map (lifted gone) (address_in bs at m)
address-without [] at n gone m b found one e other = refl
address-without (c ∷ bs) at n gone m b found one e other =
    elim (cases_Bool (c.name == n)) [
      | inl here ↦
          let same : c ≡ b = let f : Some c ≡ Some b = rw here at found in cc in
          let gone_is = some_is at gone (rw here at e) in
          let apart : (c.name == m) ≡ false = not_this c here in
          let size : 4 * block_words c ≡ 4 = let k = ap block_words same in omega arith in
          rw (here, apart, size) (moved_up bs gone at m (omega arith))
      | inr apart ↦
          let l = least bs (at + 4 * block_words c) n gone (rw apart at e) in
          elim (cases_Bool (c.name == m)) [
            | inl this ↦ rw (apart, this) (ap Some (sym (below gone at (omega arith))))
            | inr that ↦ rw (apart, that) (address-without bs (at + 4 * block_words c) n gone m b (rw apart at found) one (rw apart at e) other)
          ]
    ]
  where
    not_this : (c : Block) → (c.name == n) ≡ true → (c.name == m) ≡ false
    not_this c here = ne_eqb c.name m (λ same. other (sym same ∙ eqb-true c.name n here))

-- other terms of as many words, and other names, change no address
pub address-changed : (f : Block → Block) (bs : List Block) (at n m : ℕ) → ((b : Block) → (f b).name ≡ b.name) → ((b : Block) → value_of (named bs) n ≡ Some b → block_words (f b) ≡ block_words b) → address_in (with_blocks (λ b. f b ∷ []) bs n) at m ≡ address_in bs at m
address-changed f [] at n m names words = refl
address-changed f (b ∷ bs) at n m names words =
    elim (cases_Bool (b.name == n)) [
      | inl here ↦ rw (here, names b, words b (rw here refl)) refl
      | inr apart ↦
          elim (cases_Bool (b.name == m)) [
            | inl this ↦ rw (apart, this) refl
            | inr that ↦ rw (apart, that) (address-changed f bs (at + 4 * block_words b) n m names (λ c is. words c (rw apart is)))
          ]
    ]

pub address-retargeted : (f : ℕ → ℕ) (bs : List Block) (at m : ℕ) → address_in (map (retargeted_block f) bs) at m ≡ address_in bs at m
address-retargeted f [] at m = refl
address-retargeted f (b ∷ bs) at m =
    let size : block_words (retargeted_block f b) ≡ block_words b = omega (arith, length-map b.items (retargeted_item f), retargeted_words f b.term) in
    elim (cases_Bool (b.name == m)) [
      | inl here ↦ rw here refl
      | inr apart ↦ rw apart (ap (λ n. address_in (map (retargeted_block f) bs) (at + 4 * n) m) size ∙ address-retargeted f bs (at + 4 * block_words b) m)
    ]

-- Items of a block, once others changed

pub block_of-without : (bs : List Block) (n m : ℕ) → m ≢ n → value_of (named (with_blocks (λ c. []) bs n)) m ≡ value_of (named bs) m
block_of-without [] n m other = refl
block_of-without (c ∷ bs) n m other =
    elim (cases_Bool (c.name == n)) [
      | inl here ↦ let apart : (c.name == m) ≡ false = ne_eqb c.name m (λ same. other (sym same ∙ eqb-true c.name n here)) in rw (here, apart) refl
      | inr apart ↦
          elim (cases_Bool (c.name == m)) [
            | inl this ↦ rw (apart, this) refl
            | inr that ↦ rw (apart, that) (block_of-without bs n m other)
          ]
    ]

pub block_of-retargeted : (f : ℕ → ℕ) (bs : List Block) (m : ℕ) → value_of (named (map (retargeted_block f) bs)) m ≡ option_map (retargeted_block f) (value_of (named bs) m)
block_of-retargeted f [] m = refl
block_of-retargeted f (b ∷ bs) m =
    elim (cases_Bool (b.name == m)) [ inl here ↦ rw here refl | inr apart ↦ rw apart (block_of-retargeted f bs m) ]

pub block_of-changed : (f : Block → Block) (bs : List Block) (n m : ℕ) → ((b : Block) → (f b).name ≡ b.name) → m ≢ n → value_of (named (with_blocks (λ b. f b ∷ []) bs n)) m ≡ value_of (named bs) m
block_of-changed f [] n m names other = refl
block_of-changed f (b ∷ bs) n m names other =
    elim (cases_Bool (b.name == n)) [
      | inl here ↦ let apart : (b.name == m) ≡ false = ne_eqb b.name m (λ same. other (sym same ∙ eqb-true b.name n here)) in rw (here, names b, apart) refl
      | inr apart ↦
          elim (cases_Bool (b.name == m)) [
            | inl this ↦ rw (apart, this) refl
            | inr that ↦ rw (apart, that) (block_of-changed f bs n m names other)
          ]
    ]

pub block_of-changed_here : (f : Block → Block) (bs : List Block) (n : ℕ) → ((b : Block) → (f b).name ≡ b.name) → value_of (named (with_blocks (λ b. f b ∷ []) bs n)) n ≡ option_map f (value_of (named bs) n)
block_of-changed_here f [] n names = refl
block_of-changed_here f (b ∷ bs) n names =
    elim (cases_Bool (b.name == n)) [
      | inl here ↦ rw (here, names b, here) refl
      | inr apart ↦ rw (apart, apart) (block_of-changed_here f bs n names)
    ]
