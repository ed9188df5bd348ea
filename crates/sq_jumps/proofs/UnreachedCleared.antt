-- Blocks that lose their items and stop.
use Rattle.std.proofs.Common.{◌≡◌, ℕ, ◌+◌, ◌-◌, ◌==◌, true, false, if◌then◌else◌, nat_eq, List, [], ◌∷◌, map, length, Option, None, Some, IsSome, is_some, refl, sym, ap, ◌∙◌, subst, inl, inr, arith}
use Rattle.std.specs.Prelude.{option_map}
use Rattle.std.proofs.lemmas.Bool.{cases_Bool, eqb-true, eqb-false}
use Rattle.std.proofs.lemmas.List.{drop_all}
use Rattle.std.proofs.lemmas.List.Elements.{All-nil}
use Rattle.sq_arena.specs.Entries.{keys, HasDistinctKeys, value_of}
use Rattle.sq_arena.proofs.EntriesLaws.{distinct_back}
use Rattle.sq_graph.specs.declared.parts.Room.{Room}
use Rattle.sq_graph.specs.declared.item.Item.{Item}
use Rattle.sq_graph.specs.declared.item.Term.TheVariants.{Stop}
use Rattle.sq_graph.specs.Graph.{Block, Graph}
use Rattle.sq_graph.specs.Blocks.{named, HasBlock, HasProcedure, block_of, block_items, items_of}
use Rattle.sq_graph.specs.Operations.{with_blocks, replaced, replaced_items}
use Rattle.sq_graph.specs.Room.{count_of, sum_of}
use Rattle.sq_graph.specs.Rules.{IsGraph}
use Rattle.sq_graph.proofs.Kept.{absent_behind}
use Rattle.sq_graph.proofs.RulesByBlock.{ItemStands}
use Rattle.sq_graph.proofs.OperationRules.{with_term_rules, replaced_rules}
use Rattle.sq_lookup.specs.Names.{is_listed}
use Rattle.sq_jumps.specs.UnreachedClear.{cleared, cleared_each}
use Rattle.sq_layout.proofs.Standing.{block_of-changed, block_of-changed_here}
use Rattle.sq_jumps.proofs.Totals.{term_total, emptied_total}

abbrev pub emptied : Block → Block
emptied b = record b { items = []; term = Stop 0 }

abbrev pub cleared_if : List ℕ → Block → Block
cleared_if gone b = if is_listed gone b.name then emptied b else b

-- the blocks of a list of names
abbrev pub all_cleared : List ℕ → Graph → Graph
all_cleared gone g = record g { blocks = map (cleared_if gone) g.blocks }

none_left : (items : List Item) (count : ℕ) → count ≡ length items → replaced_items items 0 count [] ≡ []
none_left items count e = drop_all (0 + count) items (omega (arith, e))

others_stay : (bs : List Block) (n : ℕ) → value_of (named bs) n ≡ None → map (cleared_if (n ∷ [])) bs ≡ bs
others_stay [] n none = refl
others_stay (b ∷ bs) n none =
    elim (cases_Bool (b.name == n)) [
      | inl here ↦ absurd (cc (rw here at none))
      | inr apart ↦ rw apart (ap (λ cs. b ∷ cs) (others_stay bs n (rw apart at none)))
    ]

one_cleared : (bs : List Block) (n count : ℕ) → HasDistinctKeys (named bs) → ((b : Block) → value_of (named bs) n ≡ Some b → count ≡ length b.items)
    → with_blocks (λ b. record b { term = Stop 0 } ∷ []) (with_blocks (λ b. record b { items = replaced_items b.items 0 count [] } ∷ []) bs n) n ≡ map (cleared_if (n ∷ [])) bs
one_cleared [] n count distinct all = refl
one_cleared (b ∷ bs) n count distinct all =
    elim (cases_Bool (b.name == n)) [
      | inl here ↦
          let none : value_of (named bs) n ≡ None = subst (λ k. value_of (named bs) k ≡ None) (eqb-true b.name n here) (absent_behind (b.name, b) (named bs) distinct) in
          let items : replaced_items b.items 0 count [] ≡ [] = none_left b.items count (all b (rw here refl)) in
          rw (here, here) (ap (λ is. record b { items = is; term = Stop 0 } ∷ bs) items ∙ ap (λ cs. emptied b ∷ cs) (sym (others_stay bs n none)))
      | inr apart ↦
          rw (apart, apart) (ap (λ cs. b ∷ cs) (one_cleared bs n count (distinct_back ((b.name, b) ∷ []) (named bs) distinct) (λ c is. all c (rw apart is))))
    ]

pub cleared_is : (g : Graph) (n : ℕ) → HasDistinctKeys (named g.blocks) → cleared g n ≡ all_cleared (n ∷ []) g
cleared_is g n distinct = ap (λ (bs : List Block). record g { blocks = bs }) (one_cleared g.blocks n (length (items_of g n)) distinct (λ b is. ap (λ (o : Option Block). length (block_items o)) is))

both_cleared : (n : ℕ) (rest : List ℕ) (b : Block) → cleared_if rest (cleared_if (n ∷ []) b) ≡ cleared_if (n ∷ rest) b
both_cleared n rest b =
    elim (cases_Bool (nat_eq b.name n)) [
      | inl here ↦ elim (cases_Bool (is_listed rest b.name)) [ inl later ↦ rw (here, later) refl | inr not_later ↦ rw (here, not_later) refl ]
      | inr apart ↦ rw apart refl
    ]

blocks_twice : (n : ℕ) (rest : List ℕ) (bs : List Block) → map (cleared_if rest) (map (cleared_if (n ∷ [])) bs) ≡ map (cleared_if (n ∷ rest)) bs
blocks_twice n rest [] = refl
blocks_twice n rest (b ∷ bs) = ap (λ c. c ∷ map (cleared_if rest) (map (cleared_if (n ∷ [])) bs)) (both_cleared n rest b) ∙ ap (λ cs. cleared_if (n ∷ rest) b ∷ cs) (blocks_twice n rest bs)

cleared_name : (gone : List ℕ) (b : Block) → (cleared_if gone b).name ≡ b.name
cleared_name gone b = elim (cases_Bool (is_listed gone b.name)) [ inl goes ↦ rw goes refl | inr stays ↦ rw stays refl ]

cleared_keys : (gone : List ℕ) (bs : List Block) → keys (named (map (cleared_if gone) bs)) ≡ keys (named bs)
cleared_keys gone [] = refl
cleared_keys gone (b ∷ bs) = ap (λ k. k ∷ keys (named (map (cleared_if gone) bs))) (cleared_name gone b) ∙ ap (λ ks. b.name ∷ ks) (cleared_keys gone bs)

pub cleared_distinct : (gone : List ℕ) (bs : List Block) → HasDistinctKeys (named bs) → HasDistinctKeys (named (map (cleared_if gone) bs))
cleared_distinct gone bs distinct = rw (cleared_keys gone bs) distinct

nothing_cleared : (bs : List Block) → map (cleared_if []) bs ≡ bs
nothing_cleared [] = refl
nothing_cleared (b ∷ bs) = ap (λ cs. b ∷ cs) (nothing_cleared bs)

pub each_cleared : (gone : List ℕ) (g : Graph) → HasDistinctKeys (named g.blocks) → cleared_each gone g ≡ all_cleared gone g
each_cleared [] g distinct = ap (λ (bs : List Block). record g { blocks = bs }) (sym (nothing_cleared g.blocks))
each_cleared (n ∷ rest) g distinct =
    ap (cleared_each rest) (cleared_is g n distinct)
    ∙ each_cleared rest (all_cleared (n ∷ []) g) (cleared_distinct (n ∷ []) g.blocks distinct)
    ∙ ap (λ (bs : List Block). record g { blocks = bs }) (blocks_twice n rest g.blocks)

-- THE RULES

pub emptied_rules : (g : Graph) (block : ℕ) → IsGraph g → HasBlock g block → IsGraph (replaced g block 0 (length (items_of g block)) [])
emptied_rules g block rules has = replaced_rules g block 0 (length (items_of g block)) [] rules has (All-nil (ItemStands (HasBlock g) (HasProcedure g)))

-- every block stays where it is
pub emptied_there : (g : Graph) (block count n : ℕ) → HasBlock g n → HasBlock (replaced g block 0 count []) n
emptied_there g block count n has =
    elim (cases_Bool (n == block)) [
      | inl same ↦ subst (λ x. HasBlock (replaced g block 0 count []) x) (sym (eqb-true n block same)) (own (subst (λ x. HasBlock g x) (eqb-true n block same) has))
      | inr apart ↦ ap is_some (block_of-changed (λ c. record c { items = replaced_items c.items 0 count [] }) g.blocks block n (λ c. refl) (eqb-false n block apart)) ∙ has
    ]
  where
    mapped : (o : Option Block) → IsSome o → block_of (replaced g block 0 count []) block ≡ option_map (λ (c : Block). record c { items = replaced_items c.items 0 count [] }) o → HasBlock (replaced g block 0 count []) block
    mapped None some e = absurd (cc)
    mapped (Some c) some e = ap is_some e

    own : HasBlock g block → HasBlock (replaced g block 0 count []) block
    own there = mapped (block_of g block) there (block_of-changed_here (λ c. record c { items = replaced_items c.items 0 count [] }) g.blocks block (λ c. refl))

pub cleared_rules : (g : Graph) (block : ℕ) → IsGraph g → HasBlock g block → IsGraph (cleared g block)
cleared_rules g block rules has =
    with_term_rules (replaced g block 0 (length (items_of g block)) []) block (Stop 0) (emptied_rules g block rules has) (emptied_there g block (length (items_of g block)) block has) (inr (inl refl))
    (All-nil (HasBlock (replaced g block 0 (length (items_of g block)) []))) (λ on. absurd (cc))

pub cleared_there : (g : Graph) (block n : ℕ) → IsGraph g → HasBlock g n → HasBlock (cleared g block) n
cleared_there g block n rules has =
    subst (λ (h : Graph). HasBlock h n) (sym (cleared_is g block rules.distinct)) (found g.blocks has)
  where
    found : (bs : List Block) → IsSome (value_of (named bs) n) → IsSome (value_of (named (map (cleared_if (block ∷ [])) bs)) n)
    found [] some = some
    found (b ∷ bs) some =
        let same : ((cleared_if (block ∷ []) b).name == n) ≡ (b.name == n) = ap (λ k. k == n) (cleared_name (block ∷ []) b) in
        elim (cases_Bool (b.name == n)) [
          | inl here ↦ let here' : ((cleared_if (block ∷ []) b).name == n) ≡ true = same ∙ here in rw here' refl
          | inr apart ↦ let apart' : ((cleared_if (block ∷ []) b).name == n) ≡ false = same ∙ apart in rw apart' (found bs (rw apart at some))
        ]

pub cleared_total : (g : Graph) (block : ℕ) (spare : Room) → HasBlock g block → sum_of (count_of (cleared g block)) (record spare { items = spare.items + length (items_of g block) - 0 }) ≡ sum_of (count_of g) spare
cleared_total g block spare has =
    term_total (replaced g block 0 (length (items_of g block)) []) block (Stop 0) (record spare { items = spare.items + length (items_of g block) - 0 }) (emptied_there g block (length (items_of g block)) block has)
    ∙ emptied_total g block spare has
