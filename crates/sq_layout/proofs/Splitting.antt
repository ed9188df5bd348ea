-- A graph in which a block is split in two is in reach where the graph is: each name keeps its address, and a Branch its
-- own under the new name.
use Rattle.std.proofs.Common.{◌≡◌, ◌≢◌, ℕ, ◌+◌, ◌*◌, ◌==◌, List, [], ◌∷◌, ◌++◌, length, take, drop, get_or, false, inl, inr, refl, sym, ap, ◌∙◌, subst, arith, length-append}
use Rattle.std.specs.List.{All}
use Rattle.std.proofs.lemmas.Bool.{cases_Bool, ne_eqb}
use Rattle.std.proofs.lemmas.List.{take-append-drop}
use Rattle.std.proofs.lemmas.List.Elements.{All-head, All-tail}
use Rattle.sq_graph.specs.declared.item.Item.{Item}
use Rattle.sq_graph.specs.declared.item.Term.{Term}
use Rattle.sq_graph.specs.declared.item.Term.TheVariants.{Fall, Jump, Branch, Call, PartJump, Indirect, Stop}
use Rattle.sq_graph.specs.Graph.{Block, Graph}
use Rattle.sq_graph.specs.Blocks.{HasBlock, all_items}
use Rattle.sq_graph.specs.Operations.{IsNew, with_blocks, halves, split_at}
use Rattle.sq_graph.specs.Places.{address_in, block_address, TermReaches, BranchesReach, IsInReach}
use Rattle.sq_graph.specs.Rules.{IsGraph}
use Rattle.sq_graph.specs.Uses.{term_uses, terms_uses, items_uses, code_word_uses, uses}
use Rattle.sq_graph.specs.Words.{term_words, block_words}
use Rattle.sq_graph.proofs.Eachs.{All-left, All-right}

both_halves : (items : List Item) (k : ℕ) → length (take k items) + length (drop k items) ≡ length items
both_halves items k = omega (arith, length-append (take k items) (drop k items), ap (λ (is : List Item). length is) (take-append-drop k items))

-- where the blocks behind a block stand, once it is split
end_of : (b : Block) (k at : ℕ) → (at + 4 * (length (take k b.items) + 0)) + 4 * (length (drop k b.items) + term_words b.term) ≡ at + 4 * block_words b
end_of b k at = omega (arith, both_halves b.items k)

term_of_half : (b : Block) (k at : ℕ) → (at + 4 * (length (take k b.items) + 0)) + 4 * length (drop k b.items) ≡ at + 4 * length b.items
term_of_half b k at = omega (arith, both_halves b.items k)

pub address-split : (bs : List Block) (at new k name m : ℕ) → m ≢ new → address_in (with_blocks (halves new k) bs name) at m ≡ address_in bs at m
address-split [] at new k name m other = refl
address-split (b ∷ bs) at new k name m other =
    elim (cases_Bool (b.name == name)) [
      | inl here ↦
          let apart : (new == m) ≡ false = ne_eqb new m (λ same. other (sym same)) in
          elim (cases_Bool (b.name == m)) [
            | inl this ↦ rw (here, this) refl
            | inr that ↦ rw (here, that, apart) (ap (λ x. address_in bs x m) (end_of b k at))
          ]
      | inr elsewhere ↦
          elim (cases_Bool (b.name == m)) [
            | inl this ↦ rw (elsewhere, this) refl
            | inr that ↦ rw (elsewhere, that) (address-split bs (at + 4 * block_words b) new k name m other)
          ]
    ]

module _ (g h : Graph) (new : ℕ) (same : (m : ℕ) → m ≢ new → block_address h 0 m ≡ block_address g 0 m) where
  abbrev IsOther : ℕ → Type 0
  IsOther n = n ≢ new

  term_kept : (at : ℕ) (t : Term) → All IsOther (term_uses t) → TermReaches g at t → TermReaches h at t
  term_kept at Fall other reach = tt
  term_kept at (Jump to) other reach = tt
  term_kept at (Branch cond a b to) other reach = λ target found. reach target (sym (same to (All-head IsOther to [] other)) ∙ found)
  term_kept at (Call link to) other reach = tt
  term_kept at (PartJump link part to) other reach = tt
  term_kept at (Indirect link x offset) other reach = tt
  term_kept at (Stop word) other reach = tt

  all_kept : (bs : List Block) (at : ℕ) → All IsOther (terms_uses bs) → BranchesReach g at bs → BranchesReach h at bs
  all_kept [] at other reach = tt
  all_kept (b ∷ bs) at other reach = (
    term_kept (at + 4 * length b.items) b.term (All-left IsOther (term_uses b.term) (terms_uses bs) other) reach.0,
    all_kept bs (at + 4 * block_words b) (All-right IsOther (term_uses b.term) (terms_uses bs) other) reach.1,
  )

  split_kept : (bs : List Block) (at k name : ℕ) → All IsOther (terms_uses bs) → BranchesReach g at bs → BranchesReach h at (with_blocks (halves new k) bs name)
  split_kept [] at k name other reach = tt
  split_kept (b ∷ bs) at k name other reach =
      let whole = all_kept (b ∷ bs) at other reach in
      elim (cases_Bool (b.name == name)) [
        | inl here ↦
            rw here (
              tt,
              (
                subst (λ x. TermReaches h x b.term) (sym (term_of_half b k at)) whole.0,
                subst (λ x. BranchesReach h x bs) (sym (end_of b k at)) whole.1,
              ),
            )
        | inr elsewhere ↦
            rw elsewhere (whole.0, split_kept bs (at + 4 * block_words b) k name (All-right IsOther (term_uses b.term) (terms_uses bs) other) reach.1)
      ]

pub split_in_reach : (g : Graph) (new block at : ℕ) → IsGraph g → IsNew g new → IsInReach g → IsInReach (split_at g new block at)
split_in_reach g new block at rules is_new reach =
    split_kept g (split_at g new block at) new (λ m other. address-split g.blocks 0 new at block m other) g.blocks 0 at block terms reach
  where
    N : ℕ → Type 0
    N n = n ≢ new

    other : (n : ℕ) → HasBlock g n → n ≢ new
    other n has same = absurd (cc (subst (HasBlock g) same has, is_new))

    all_other : All N (uses g)
    all_other k d within = other (get_or (uses g) k d) (rules.named_all k d within)

    terms : All N (terms_uses g.blocks)
    terms =
        All-left N (terms_uses g.blocks) (items_uses (all_items g))
        (All-right N (code_word_uses g.code_words) (terms_uses g.blocks ++ items_uses (all_items g))
        (All-tail N g.entry (code_word_uses g.code_words ++ (terms_uses g.blocks ++ items_uses (all_items g))) all_other))
