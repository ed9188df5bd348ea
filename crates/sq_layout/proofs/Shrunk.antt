-- What operations leave of the blocks.
use Rattle.std.proofs.Common.{◌≡◌, ℕ, ◌+◌, ◌≤◌, ◌==◌, Bool, List, [], ◌∷◌, ◌++◌, map, take, drop, length, Some, inl, inr, refl, ◌∙◌, arith, length-append}
use Rattle.std.specs.List.{filter}
use Rattle.std.proofs.lemmas.Bool.{cases_Bool}
use Rattle.std.proofs.lemmas.List.{length-map, length-drop, length-take}
use Rattle.sq_arena.specs.Entries.{value_of}
use Rattle.sq_graph.specs.declared.item.Term.{Term}
use Rattle.sq_graph.specs.declared.item.Term.TheVariants.{Fall, Jump, Branch, Call, PartJump, Indirect, Stop}
use Rattle.sq_graph.specs.declared.item.Item.{Item}
use Rattle.sq_graph.specs.Graph.{Block}
use Rattle.sq_graph.specs.Blocks.{named}
use Rattle.sq_graph.specs.Words.{term_words}
use Rattle.sq_graph.specs.Operations.{with_blocks, replaced_items}
use Rattle.sq_graph.specs.Renames.{retargeted_item, retargeted_term, retargeted_block, recalled_item, recalled_block}
use Rattle.sq_layout.specs.Shrinks.{IsBranch, IsShrunk, Shrinks, nothing, kept, gone}

pub itself : (b : Block) → IsShrunk b b
itself b = record { name = refl; words = omega arith; branch = λ is. (is, omega arith) }

twice : (a b c : Block) → IsShrunk a b → IsShrunk b c → IsShrunk a c
twice a b c p q = record {
  name = q.name ∙ p.name;
  words = let l = p.words in let m = q.words in omega arith;
  branch = λ is. let m = q.branch is in let l = p.branch m.0 in (l.0, let p = l.1 in let q = m.1 in omega arith);
}

pub all_stay : (bs : List Block) → Shrinks bs bs
all_stay [] = nothing
all_stay (b ∷ bs) = kept b b (itself b) (all_stay bs)

pub shrinks_twice : {xs ys zs : List Block} → Shrinks xs ys → Shrinks ys zs → Shrinks xs zs
shrinks_twice nothing q = q
shrinks_twice (gone x rest) q = gone x (shrinks_twice rest q)
shrinks_twice (kept x y p rest) (kept z w r later) = kept x w (twice x y w p r) (shrinks_twice rest later)
shrinks_twice (kept x y p rest) (gone z later) = gone x (shrinks_twice rest later)

-- each block becomes another
pub each_shrinks : (f : Block → Block) → ((b : Block) → IsShrunk b (f b)) → (bs : List Block) → Shrinks bs (map f bs)
each_shrinks f h [] = nothing
each_shrinks f h (b ∷ bs) = kept b (f b) (h b) (each_shrinks f h bs)

-- those that fail the test go
pub filter_shrinks : (test : Block → Bool) (bs : List Block) → Shrinks bs (filter test bs)
filter_shrinks test [] = nothing
filter_shrinks test (b ∷ bs) =
    elim (cases_Bool (test b)) [
      | inl stays ↦ rw stays (kept b b (itself b) (filter_shrinks test bs))
      | inr goes ↦ rw goes (gone b (filter_shrinks test bs))
    ]

-- the block of a name becomes another
pub one_shrinks : (f : Block → Block) (bs : List Block) (name : ℕ) → ((b : Block) → value_of (named bs) name ≡ Some b → IsShrunk b (f b)) → Shrinks bs (with_blocks (λ b. f b ∷ []) bs name)
one_shrinks f [] name h = nothing
one_shrinks f (b ∷ bs) name h =
    elim (cases_Bool (b.name == name)) [
      | inl here ↦ rw here (kept b (f b) (h b (rw here refl)) (all_stay bs))
      | inr apart ↦ rw apart (kept b b (itself b) (one_shrinks f bs name (λ c is. h c (rw apart is))))
    ]

-- the block of a name goes
pub without_shrinks : (bs : List Block) (name : ℕ) → Shrinks bs (with_blocks (λ b. []) bs name)
without_shrinks [] name = nothing
without_shrinks (b ∷ bs) name =
    elim (cases_Bool (b.name == name)) [
      | inl here ↦ rw here (gone b (all_stay bs))
      | inr apart ↦ rw apart (kept b b (itself b) (without_shrinks bs name))
    ]

-- Other names and numbers

pub retargeted_words : (f : ℕ → ℕ) (t : Term) → term_words (retargeted_term f t) ≡ term_words t
retargeted_words f Fall = refl
retargeted_words f (Jump to) = refl
retargeted_words f (Branch cond a b to) = refl
retargeted_words f (Call link to) = refl
retargeted_words f (PartJump link part to) = refl
retargeted_words f (Indirect link at offset) = refl
retargeted_words f (Stop word) = refl

pub retargeted_branch : (f : ℕ → ℕ) (t : Term) → IsBranch (retargeted_term f t) → IsBranch t
retargeted_branch f Fall is = is
retargeted_branch f (Jump to) is = is
retargeted_branch f (Branch cond a b to) is = is
retargeted_branch f (Call link to) is = is
retargeted_branch f (PartJump link part to) is = is
retargeted_branch f (Indirect link at offset) is = is
retargeted_branch f (Stop word) is = is

pub retargeted_shrunk : (f : ℕ → ℕ) (b : Block) → IsShrunk b (retargeted_block f b)
retargeted_shrunk f b = record {
  name = refl;
  words = omega (arith, length-map b.items (retargeted_item f), retargeted_words f b.term);
  branch = λ is. (retargeted_branch f b.term is, omega (arith, length-map b.items (retargeted_item f)));
}

pub recalled_shrunk : (f : ℕ → ℕ) (b : Block) → IsShrunk b (recalled_block f b)
recalled_shrunk f b = record {
  name = refl;
  words = omega (arith, length-map b.items (recalled_item f));
  branch = λ is. (is, omega (arith, length-map b.items (recalled_item f)));
}

-- another term, which is a Branch only where the old one is
pub term_shrunk : (b : Block) (t : Term) → term_words t ≤ term_words b.term → (IsBranch t → IsBranch b.term) → IsShrunk b (record b { term = t })
term_shrunk b t words is = record { name = refl; words = omega (arith, words); branch = λ yes. (is yes, omega arith) }

-- no more items
pub items_shrunk : (b : Block) (items : List Item) → length items ≤ length b.items → IsShrunk b (record b { items = items })
items_shrunk b items few = record { name = refl; words = omega (arith, few); branch = λ is. (is, few) }

pub replaced_shrunk : (b : Block) (at count : ℕ) (by : List Item) → at + count ≤ length b.items → length by ≤ count → IsShrunk b (record b { items = replaced_items b.items at count by })
replaced_shrunk b at count by there few =
    items_shrunk b (replaced_items b.items at count by)
    (omega (
      arith,
      there,
      few,
      length-append (take at b.items) (by ++ drop (at + count) b.items),
      length-append by (drop (at + count) b.items),
      length-take at b.items,
      length-drop (at + count) b.items,
    ))

pub without_item_shrunk : (b : Block) (at : ℕ) → IsShrunk b (record b { items = replaced_items b.items at 1 [] })
without_item_shrunk b at =
    items_shrunk b (replaced_items b.items at 1 []) (omega (arith, length-append (take at b.items) (drop (at + 1) b.items), length-take at b.items, length-drop (at + 1) b.items))
