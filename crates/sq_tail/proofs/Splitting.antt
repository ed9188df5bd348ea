-- The two blocks of a split, and the others.
use Rattle.std.proofs.Common.{◌≡◌, ◌≢◌, ℕ, ◌==◌, false, List, [], ◌∷◌, drop, None, Some, IsSome, inl, inr, refl, sym, ◌∙◌}
use Rattle.std.proofs.lemmas.Bool.{cases_Bool, eqb-true, eq-eqb, ne_eqb}
use Rattle.sq_arena.specs.Entries.{value_of}
use Rattle.sq_graph.specs.Graph.{Block, Graph}
use Rattle.sq_graph.specs.Blocks.{named, HasBlock, block_of, block_items, items_of}
use Rattle.sq_graph.specs.Operations.{IsNew, with_blocks, halves, split_at}

-- a name that these blocks don't have
not_first : (b : Block) (bs : List Block) (n : ℕ) → value_of (named (b ∷ bs)) n ≡ None → ((b.name == n) ≡ false) × (value_of (named bs) n ≡ None)
not_first b bs n none =
    elim (cases_Bool (b.name == n)) [
      | inl here ↦ absurd (let e : Some b ≡ None = rw here at none in cc)
      | inr apart ↦ (apart, rw apart at none)
    ]

second_there : (bs : List Block) (new block at : ℕ) → value_of (named bs) new ≡ None → IsSome (value_of (named bs) block) → block_items (value_of (named (with_blocks (halves new at) bs block)) new) ≡ drop at (block_items (value_of (named bs) block))
second_there [] new block at none some = absurd (cc)
second_there (b ∷ bs) new block at none some =
    let absent = not_first b bs new none in
    let other = absent.0 in
    elim (cases_Bool (b.name == block)) [
      | inl here ↦ rw here (rw other (rw (eq-eqb new new refl) refl))
      | inr apart ↦ rw apart (rw other (second_there bs new block at absent.1 (rw apart at some)))
    ]

-- the items of the second
pub second_items : (g : Graph) (new block at : ℕ) → IsNew g new → HasBlock g block → items_of (split_at g new block at) new ≡ drop at (items_of g block)
second_items g new block at fresh has = second_there g.blocks new block at fresh has

others_there : (bs : List Block) (new block at m : ℕ) → m ≢ new → m ≢ block → value_of (named (with_blocks (halves new at) bs block)) m ≡ value_of (named bs) m
others_there [] new block at m other differs = refl
others_there (b ∷ bs) new block at m other differs =
    elim (cases_Bool (b.name == block)) [
      | inl here ↦
          let apart : (b.name == m) ≡ false = ne_eqb b.name m (λ e. differs (sym e ∙ eqb-true b.name block here)) in
          rw here (rw apart (rw (ne_eqb new m (λ e. other (sym e))) refl))
      | inr apart ↦
          elim (cases_Bool (b.name == m)) [
            | inl this ↦ rw apart (rw this refl)
            | inr not ↦ rw apart (rw not (others_there bs new block at m other differs))
          ]
    ]

pub other_block : (g : Graph) (new block at m : ℕ) → m ≢ new → m ≢ block → block_of (split_at g new block at) m ≡ block_of g m
other_block g new block at m other differs = others_there g.blocks new block at m other differs
