-- A graph with a Jump in place of the end of a block keeps the rules and stays in reach.
use Rattle.std.proofs.Common.{◌≡◌, ℕ, ◌+◌, ◌≤◌, ◌==◌, true, List, [], ◌∷◌, take, drop, length, Option, None, Some, IsSome, inl, inr, refl, sym, ap, ◌∙◌, subst, arith, length-append, length-take, length-drop}
use Rattle.std.specs.Prelude.{option_map}
use Rattle.std.proofs.lemmas.Bool.{cases_Bool, eqb-true, eqb-false, eq-eqb}
use Rattle.std.proofs.lemmas.List.Elements.{All-nil, All-cons}
use Rattle.sq_arena.specs.Entries.{value_of}
use Rattle.sq_isa.specs.declared.instructions.Cond.{Cond}
use Rattle.sq_graph.specs.declared.item.Item.{Item}
use Rattle.sq_graph.specs.declared.item.Term.TheVariants.{Jump, Branch}
use Rattle.sq_graph.specs.Graph.{Block, Graph}
use Rattle.sq_graph.specs.Blocks.{named, HasBlock, HasProcedure, block_of, block_items, block_term, items_of, term_of}
use Rattle.sq_graph.specs.Operations.{with_blocks, replaced_items, replaced}
use Rattle.sq_graph.specs.Places.{IsInReach}
use Rattle.sq_graph.specs.Rules.{IsGraph}
use Rattle.sq_graph.proofs.SplitRules.{keeps_names}
use Rattle.sq_graph.proofs.RulesByBlock.{ItemStands}
use Rattle.sq_graph.proofs.OperationRules.{with_term_rules, replaced_rules}
use Rattle.sq_layout.specs.Reach.{LedThere}
use Rattle.sq_layout.specs.Shrinks.{Shrinks}
use Rattle.sq_layout.proofs.Shrinking.{shrunk_in_reach}
use Rattle.sq_layout.proofs.Shrunk.{one_shrinks}
use Rattle.sq_layout.proofs.Standing.{block_of-changed, block_of-changed_here}
use Rattle.law_patch.specs.Merges.{merged}

-- a block without n items from a place on, which ends in a Jump
abbrev pub ended : ℕ → ℕ → ℕ → Block → Block
ended to at n b = record b { items = replaced_items b.items at n []; term = Jump to }

-- two changes of one block, which keeps its name, are one
pub changed_twice : (p q : Block → Block) (bs : List Block) (name : ℕ) → ((b : Block) → (p b).name ≡ b.name) → with_blocks (λ b. q b ∷ []) (with_blocks (λ b. p b ∷ []) bs name) name ≡ with_blocks (λ b. q (p b) ∷ []) bs name
changed_twice p q [] name names = refl
changed_twice p q (b ∷ bs) name names =
    elim (cases_Bool (b.name == name)) [
      | inl here ↦ let here' : ((p b).name == name) ≡ true = ap (λ k. k == name) (names b) ∙ here in rw (here, here') refl
      | inr apart ↦ rw (apart, apart) (ap (λ cs. b ∷ cs) (changed_twice p q bs name names))
    ]

pub merged_blocks : (g : Graph) (dropped at kept : ℕ) → (merged g dropped at kept).blocks ≡ with_blocks (λ b. ended kept at (length (items_of g kept)) b ∷ []) g.blocks dropped
merged_blocks g dropped at kept = changed_twice (λ b. record b { items = replaced_items b.items at (length (items_of g kept)) [] }) (λ b. record b { term = Jump kept }) g.blocks dropped (λ b. refl)

pub merged_term : (g : Graph) (dropped at kept : ℕ) → HasBlock g dropped → term_of (merged g dropped at kept) dropped ≡ Some (Jump kept)
merged_term g dropped at kept has =
    let n = length (items_of g kept) in
    ap (λ bs. block_term (value_of (named bs) dropped)) (merged_blocks g dropped at kept)
    ∙ ap block_term (block_of-changed_here (ended kept at n) g.blocks dropped (λ b. refl))
    ∙ by_block (block_of g dropped) has
  where
    by_block : (o : Option Block) → IsSome o → block_term (option_map (ended kept at (length (items_of g kept))) o) ≡ Some (Jump kept)
    by_block None none = absurd (cc)
    by_block (Some b) some = refl

-- THE RULES

pub cut_rules : (g : Graph) (block at n : ℕ) → IsGraph g → HasBlock g block → IsGraph (replaced g block at n [])
cut_rules g block at n rules has = replaced_rules g block at n [] rules has (All-nil (ItemStands (HasBlock g) (HasProcedure g)))

pub cut_there : (g : Graph) (block at n m : ℕ) → HasBlock g m → HasBlock (replaced g block at n []) m
cut_there g block at n m has = keeps_names (λ b. record b { items = replaced_items b.items at n [] } ∷ []) g.blocks block m (λ b. rw (eq-eqb b.name b.name refl) refl) has

pub jump_rules : (g : Graph) (block to : ℕ) → IsGraph g → HasBlock g block → HasBlock g to → IsGraph (record g { blocks = with_blocks (λ b. record b { term = Jump to } ∷ []) g.blocks block })
jump_rules g block to rules has there = with_term_rules g block (Jump to) rules has tt (All-cons (HasBlock g) to [] there (All-nil (HasBlock g))) (λ on. absurd (cc))

pub merged_rules : (g : Graph) (dropped at kept : ℕ) → IsGraph g → HasBlock g dropped → HasBlock g kept → IsGraph (merged g dropped at kept)
merged_rules g dropped at kept rules has there =
    let n = length (items_of g kept) in
    jump_rules (replaced g dropped at n []) dropped kept (cut_rules g dropped at n rules has) (cut_there g dropped at n dropped has) (cut_there g dropped at n kept there)

-- REACH

pub left_over : (items : List Item) (at n : ℕ) → at + n ≤ length items → length (replaced_items items at n []) + n ≡ length items
left_over items at n within = omega (arith, within, length-append (take at items) (drop (at + n) items), length-take at items, length-drop (at + n) items)

-- an item goes, and at most the word of the Jump comes
merged_shrinks : (g : Graph) (dropped at kept : ℕ) → at + length (items_of g kept) ≤ length (items_of g dropped) → 1 ≤ length (items_of g kept) → Shrinks g.blocks (merged g dropped at kept).blocks
merged_shrinks g dropped at kept within some =
    let n = length (items_of g kept) in
    subst (λ bs. Shrinks g.blocks bs) (sym (merged_blocks g dropped at kept))
    (one_shrinks (ended kept at n) g.blocks dropped (λ b is.
    let here : at + n ≤ length b.items = subst (λ (items : List Item). at + n ≤ length items) (ap block_items is) within in
    record { name = refl; words = omega (arith, left_over b.items at n here, some); branch = λ no. absurd no }))

no_branch : (o : Option Block) (kept at n : ℕ) (cond : Cond) (a b to : ℕ) → block_term (option_map (ended kept at n) o) ≡ Some (Branch cond a b to) → ⊥
no_branch None kept at n cond a b to e = cc
no_branch (Some w) kept at n cond a b to e = cc

merged_led : (g : Graph) (dropped at kept : ℕ) → LedThere g (merged g dropped at kept)
merged_led g dropped at kept m cond a b to e =
    let n = length (items_of g kept) in
    let left : block_term (value_of (named (with_blocks (λ c. ended kept at n c ∷ []) g.blocks dropped)) m) ≡ Some (Branch cond a b to) = subst (λ bs. block_term (value_of (named bs) m) ≡ Some (Branch cond a b to)) (merged_blocks g dropped at kept) e in
    elim (cases_Bool (m == dropped)) [
      | inl here ↦
          let own : block_term (value_of (named (with_blocks (λ c. ended kept at n c ∷ []) g.blocks dropped)) dropped) ≡ Some (Branch cond a b to) =
          subst (λ k. block_term (value_of (named (with_blocks (λ c. ended kept at n c ∷ []) g.blocks dropped)) k) ≡ Some (Branch cond a b to)) (eqb-true m dropped here) left in
          absurd (no_branch (block_of g dropped) kept at n cond a b to (sym (ap block_term (block_of-changed_here (ended kept at n) g.blocks dropped (λ c. refl))) ∙ own))
      | inr apart ↦ inl (cond, a, b, sym (ap block_term (block_of-changed (ended kept at n) g.blocks dropped m (λ c. refl) (eqb-false m dropped apart))) ∙ left)
    ]

pub merged_in_reach : (g : Graph) (dropped at kept : ℕ) → IsGraph g → HasBlock g dropped → HasBlock g kept → at + length (items_of g kept) ≤ length (items_of g dropped) → 1 ≤ length (items_of g kept) → IsInReach g → IsInReach (merged g dropped at kept)
merged_in_reach g dropped at kept rules has there within some reach =
    shrunk_in_reach g (merged g dropped at kept) rules.distinct (merged_rules g dropped at kept rules has there).distinct (merged_shrinks g dropped at kept within some) (merged_led g dropped at kept) reach
