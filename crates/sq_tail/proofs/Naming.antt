-- A graph with two tails merged is one graph but for the name of the new block.
use Rattle.std.proofs.Common.{◌≡◌, ◌≢◌, ℕ, ◌+◌, ◌<◌, ◌==◌, true, false, List, [], ◌∷◌, ◌++◌, map, take, drop, length, sum_by, None, IsSome, is_some, inl, inr, refl, sym, ap, ◌∙◌, subst, arith}
use Rattle.std.proofs.lemmas.Bool.{cases_Bool, eqb-true, eqb-false, eq-eqb, ne_eqb}
use Rattle.std.proofs.lemmas.List.{map-append, take-map, drop-map}
use Rattle.std.proofs.lemmas.List.Sums.{sum_by-cons}
use Rattle.sq_arena.specs.Entries.{value_of}
use Rattle.sq_graph.specs.declared.item.Item.{Item}
use Rattle.sq_graph.specs.declared.item.Term.TheVariants.{Fall, Jump}
use Rattle.sq_graph.specs.Alike.{AreAlike, IsOneToOne}
use Rattle.sq_graph.specs.Blocks.{named, HasBlock, block_of, items_of}
use Rattle.sq_graph.specs.Graph.{Block, Graph}
use Rattle.sq_graph.specs.Operations.{IsNew, with_blocks, halves, split_at, replaced_items}
use Rattle.sq_graph.specs.Renames.{renamed, renamed_block, retargeted_item, retargeted_items, swapped}
use Rattle.sq_graph.specs.Rules.{IsGraph}
use Rattle.sq_graph.proofs.Bypassing.{retargeted_same}
use Rattle.sq_graph.proofs.Renamed.{renamed_by_same}
use Rattle.sq_layout.proofs.Standing.{block_of-changed}
use Rattle.sq_pass.specs.Applied.{KeepsNames}
use Rattle.sq_pass.proofs.Naming.{renamed_keeps}
use Rattle.law_patch.specs.Merges.{tailed}
use Rattle.sq_tail.specs.Tails.{fresh}
use Rattle.sq_tail.proofs.Merging.{ended, merged_blocks}
use Rattle.sq_tail.proofs.Splitting.{second_items, other_block}

-- THE FRESH NAME

above_all : (bs : List Block) (n : ℕ) → sum_by (λ b. b.name) bs < n → value_of (named bs) n ≡ None
above_all [] n above = refl
above_all (b ∷ bs) n above =
    let sum : sum_by (λ c. c.name) (b ∷ bs) ≡ b.name + sum_by (λ c. c.name) bs = sum_by-cons (λ (c : Block). c.name) b bs in
    let apart : (b.name == n) ≡ false = ne_eqb b.name n (λ e. absurd (omega (arith, above, sum, e))) in
    rw apart (above_all bs n (omega (arith, above, sum)))

pub fresh_is_new : (g : Graph) → IsNew g (fresh g)
fresh_is_new g = above_all g.blocks (fresh g) (omega arith)

pub apart_from_new : (g : Graph) (new n : ℕ) → IsNew g new → HasBlock g n → n ≢ new
apart_from_new g new n fresh has e = let some : IsSome (block_of g new) = subst (HasBlock g) e has in let none : is_some (block_of g new) ≡ false = ap is_some fresh in cc

-- CHANGES OF A BLOCK UNDER OTHER NAMES

-- where other names tell the block from the others as the old ones do
changed_named : (f : ℕ → ℕ) (h k : Block → List Block) (bs : List Block) (name : ℕ) → ((n : ℕ) → (f n == name) ≡ (n == name)) → ((b : Block) → map (renamed_block f) (h b) ≡ k (renamed_block f b)) → map (renamed_block f) (with_blocks h bs name) ≡ with_blocks k (map (renamed_block f) bs) name
changed_named f h k [] name tests each = refl
changed_named f h k (b ∷ bs) name tests each =
    elim (cases_Bool (b.name == name)) [
      | inl here ↦ let here' : (f b.name == name) ≡ true = tests b.name ∙ here in rw (here, here') (map-append (renamed_block f) (h b) bs ∙ ap (λ cs. cs ++ map (renamed_block f) bs) (each b))
      | inr apart ↦ let apart' : (f b.name == name) ≡ false = tests b.name ∙ apart in rw (apart, apart') (ap (λ cs. renamed_block f b ∷ cs) (changed_named f h k bs name tests each))
    ]

module _ (g : Graph) (one two dropped at kept from : ℕ) (rules : IsGraph g) (first : IsNew g one) (second : IsNew g two) (has : HasBlock g dropped) (there : HasBlock g kept) where
  abbrev f : ℕ → ℕ
  f = swapped one two

  stays : (n : ℕ) → HasBlock g n → f n ≡ n
  stays n here = rw (ne_eqb n one (apart_from_new g one n first here)) refl

  f_new : f one ≡ two
  f_new = rw (eq-eqb one one refl) refl

  tests : (name : ℕ) → HasBlock g name → (n : ℕ) → (f n == name) ≡ (n == name)
  tests name here n =
      elim (cases_Bool (n == one)) [
        | inl this ↦ rw this (ne_eqb two name (λ e. apart_from_new g two name second here (sym e)) ∙ sym (ne_eqb n name (λ e. apart_from_new g one name first here (sym e ∙ eqb-true n one this))))
        | inr not ↦ rw not refl
      ]

  same_graph : renamed f g ≡ g
  same_graph = renamed_by_same g f (λ n. n) rules stays ∙ retargeted_same g

  abbrev s : Graph
  s = split_at g one kept from

  abbrev t : Graph
  t = split_at g two kept from

  halves_named : (b : Block) → map (renamed_block f) (halves one from b) ≡ halves two from (renamed_block f b)
  halves_named b =
      let front : retargeted_items f (take from b.items) ≡ take from (retargeted_items f b.items) = sym (take-map (retargeted_item f) from b.items) in
      let back : retargeted_items f (drop from b.items) ≡ drop from (retargeted_items f b.items) = sym (drop-map (retargeted_item f) from b.items) in
      λ i. record (renamed_block f b) { items = front i; term = Fall } ∷ record (renamed_block f b) { name = f_new i; items = back i } ∷ []

  split_named : map (renamed_block f) s.blocks ≡ t.blocks
  split_named = changed_named f (halves one from) (halves two from) g.blocks kept (tests kept there) halves_named ∙ ap (λ (h : Graph). with_blocks (halves two from) h.blocks kept) same_graph

  cut_named : (items : List Item) (n : ℕ) → retargeted_items f (replaced_items items at n []) ≡ replaced_items (retargeted_items f items) at n []
  cut_named items n =
      map-append (retargeted_item f) (take at items) (drop (at + n) items)
      ∙ ap (λ front. front ++ map (retargeted_item f) (drop (at + n) items)) (sym (take-map (retargeted_item f) at items))
      ∙ ap (λ back. take at (retargeted_items f items) ++ back) (sym (drop-map (retargeted_item f) (at + n) items))

  ended_named : (n : ℕ) (b : Block) → map (renamed_block f) (ended one at n b ∷ []) ≡ ended two at n (renamed_block f b) ∷ []
  ended_named n b = λ i. record (renamed_block f b) { items = cut_named b.items n i; term = Jump (f_new i) } ∷ []

  same_size : length (items_of s one) ≡ length (items_of t two)
  same_size = ap (λ (is : List Item). length is) (second_items g one kept from first there ∙ sym (second_items g two kept from second there))

  tail_named : map (renamed_block f) (tailed g one dropped at kept from).blocks ≡ (tailed g two dropped at kept from).blocks
  tail_named =
      ap (map (renamed_block f)) (merged_blocks s dropped at one)
      ∙ changed_named f (λ b. ended one at (length (items_of s one)) b ∷ []) (λ b. ended two at (length (items_of s one)) b ∷ []) s.blocks dropped (tests dropped has) (ended_named (length (items_of s one)))
      ∙ ap (λ bs. with_blocks (λ b. ended two at (length (items_of s one)) b ∷ []) bs dropped) split_named
      ∙ ap (λ n. with_blocks (λ b. ended two at n b ∷ []) t.blocks dropped) same_size
      ∙ sym (merged_blocks t dropped at two)

  -- its blocks are those of the graph, and the new one
  was_there : (n : ℕ) → HasBlock (tailed g one dropped at kept from) n → n ≢ one → HasBlock g n
  was_there n here other =
      elim (cases_Bool (n == dropped)) [
        | inl this ↦ subst (HasBlock g) (sym (eqb-true n dropped this)) has
        | inr apart ↦
            elim (cases_Bool (n == kept)) [
              | inl this ↦ subst (HasBlock g) (sym (eqb-true n kept this)) there
              | inr differs ↦
                  let same : block_of (tailed g one dropped at kept from) n ≡ block_of g n =
                  ap (λ bs. value_of (named bs) n) (merged_blocks s dropped at one)
                  ∙ block_of-changed (ended one at (length (items_of s one))) s.blocks dropped n (λ b. refl) (eqb-false n dropped apart)
                  ∙ other_block g one kept from n other (eqb-false n kept differs) in
                  subst IsSome same here
            ]
      ]

  apart : IsOneToOne f (tailed g one dropped at kept from)
  apart m n has_m has_n same =
      elim (cases_Bool (m == one)) [
        | inl m_is ↦
            elim (cases_Bool (n == one)) [
              | inl n_is ↦ eqb-true m one m_is ∙ sym (eqb-true n one n_is)
              | inr n_not ↦
                  let e : two ≡ n = rw (m_is, n_not) at same in
                  absurd (apart_from_new g two n second (was_there n has_n (eqb-false n one n_not)) (sym e))
            ]
        | inr m_not ↦
            elim (cases_Bool (n == one)) [
              | inl n_is ↦
                  let e : m ≡ two = rw (m_not, n_is) at same in
                  absurd (apart_from_new g two m second (was_there m has_m (eqb-false m one m_not)) e)
              | inr n_not ↦ let e : m ≡ n = rw (m_not, n_not) at same in e
            ]
      ]

  tailed_is : tailed g two dropped at kept from ≡ renamed f (tailed g one dropped at kept from)
  tailed_is = sym (λ i. record { blocks = tail_named i; entry = (same_graph i).entry; code_words = (same_graph i).code_words; procedures = (same_graph i).procedures })

  -- two new names give graphs that are alike
  pub tailed_alike : AreAlike (tailed g one dropped at kept from) (tailed g two dropped at kept from)
  tailed_alike = record { name = f; one_to_one = apart; is = tailed_is }

  -- and the blocks of the graph keep their names
  pub tailed_keeps : KeepsNames g (tailed g two dropped at kept from) (tailed g one dropped at kept from)
  tailed_keeps = subst (λ (k : Graph). KeepsNames g k (tailed g one dropped at kept from)) (sym tailed_is) (renamed_keeps g (tailed g one dropped at kept from) f tests)
