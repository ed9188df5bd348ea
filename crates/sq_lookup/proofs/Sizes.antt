-- How many words are ahead of a block, and how many items it has.
use Rattle.std.proofs.Common.{◌≡◌, ℕ, ◌+◌, ◌*◌, ◌<◌, ◌≤◌, ◌^◌, ◌==◌, List, [], ◌∷◌, take, drop, sum_by, Option, None, Some, unwrap_or, inl, inr, refl, sym, ap, ◌∙◌, subst, arith}
use Rattle.std.proofs.lemmas.Bool.{cases_Bool}
use Rattle.std.proofs.lemmas.List.{take-append-drop}
use Rattle.std.proofs.lemmas.List.Sums.{sum_by-cons}
use Rattle.sq_arena.specs.Entries.{HasDistinctKeys}
use Rattle.sq_arena.proofs.EntriesLaws.{distinct_back}
use Rattle.sq_graph.specs.Graph.{Block, Graph}
use Rattle.sq_graph.specs.Blocks.{named, HasBlock}
use Rattle.sq_graph.specs.Places.{address_in, block_address}
use Rattle.sq_graph.specs.Rules.{IsGraph}
use Rattle.sq_graph.specs.Words.{block_words, words_of}
use Rattle.sq_graph.proofs.Located.{named-append}
use Rattle.sq_layout.proofs.Shrinking.{some_is, placed}
use Rattle.sq_lookup.specs.Addresses.{address_of, address_at}

-- the blocks from a position on have different names
pub drop_distinct : (g : Graph) (k : ℕ) (b : Block) (rest : List Block) → IsGraph g → drop k g.blocks ≡ b ∷ rest → HasDistinctKeys (named (b ∷ rest))
drop_distinct g k b rest rules e =
    subst (λ (bs : List Block). HasDistinctKeys (named bs)) e
    (distinct_back (named (take k g.blocks)) (named (drop k g.blocks))
    (subst (λ (es : List (ℕ × Block)). HasDistinctKeys es) (ap named (sym (take-append-drop k g.blocks)) ∙ named-append (take k g.blocks) (drop k g.blocks)) rules.distinct))

-- an address is no further than the end
most : (bs : List Block) (at n x : ℕ) → address_in bs at n ≡ Some x → x ≤ at + 4 * sum_by block_words bs
most [] at n x e = absurd (cc)
most (b ∷ bs) at n x e =
    elim (cases_Bool (b.name == n)) [
      | inl here ↦ let s = some_is at x (rw here at e) in omega arith
      | inr apart ↦ let l = most bs (at + 4 * block_words b) n x (rw apart at e) in omega (arith, sum_by-cons block_words b bs)
    ]

pub address_small : (g : Graph) (n : ℕ) → words_of g < 2 ^ 31 → address_of g n < 2 ^ 34
address_small g n few = by_place (block_address g 0 n) refl
  where
    by_place : (o : Option ℕ) → block_address g 0 n ≡ o → unwrap_or (block_address g 0 n) 0 < 2 ^ 34
    by_place None e = rw e (omega arith)
    by_place (Some x) e = let l = most g.blocks 0 n x e in rw e (omega (arith, few))

-- where a block stands
pub placed_at : (g : Graph) (n : ℕ) → HasBlock g n → block_address g 0 n ≡ Some (address_of g n)
placed_at g n there = let place = placed g.blocks 0 n there in place.1 ∙ ap Some (sym (ap (λ o. unwrap_or o 0) place.1))

-- the same by a table that has the addresses
pub addresses_are : (address : ℕ → Option ℕ) (g : Graph) → ((n : ℕ) → address n ≡ block_address g 0 n) → address_at address ≡ address_of g
addresses_are address g same = λ i n. unwrap_or (same n i) 0

pub addresses_small : (address : ℕ → Option ℕ) (g : Graph) → ((n : ℕ) → address n ≡ block_address g 0 n) → words_of g < 2 ^ 31 → (n : ℕ) → address_at address n < 2 ^ 34
addresses_small address g same few n = subst (λ (f : ℕ → ℕ). f n < 2 ^ 34) (sym (addresses_are address g same)) (address_small g n few)
