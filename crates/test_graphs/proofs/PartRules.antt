-- A graph of parts keeps the rules where each part is right.
use Rattle.std.proofs.Common.{◌≡◌, ℕ, zero, suc, ◌+◌, ◌-◌, ◌<◌, ◌≤◌, ◌^◌, ◌==◌, nat_eq, false, List, [], ◌∷◌, map, length, take, drop, get_or, IsSome, length-drop, refl, subst, ap, ◌∙◌, inl, inr, arith}
use Rattle.std.specs.List.{All, AllByRecursion, IsDistinct}
use Rattle.std.specs.List.Sorted.{IsStrictlyIncreasing}
use Rattle.std.proofs.lemmas.Bool.{cases_Bool, eqb-false, ne_eqb}
use Rattle.std.proofs.lemmas.List.Elements.{All-nil, All-cons, All-head, All-tail, All-map, All-take, All-drop, All-weaker}
use Rattle.sq_arena.specs.Entries.{keys, HasDistinctKeys, value_of}
use Rattle.sq_graph.specs.declared.item.Item.{Item}
use Rattle.sq_graph.specs.declared.parts.BlockPart.{BlockPart}
use Rattle.sq_graph.specs.declared.parts.ProcedurePart.{ProcedurePart}
use Rattle.sq_graph.specs.declared.parts.CodeRef.{CodeRef}
use Rattle.sq_graph.specs.Graph.{Procedure}
use Rattle.sq_graph.specs.Blocks.{named, HasBlock, HasProcedure}
use Rattle.sq_graph.specs.Terms.{goes_on}
use Rattle.sq_graph.specs.Rules.{IsGraph, ProcedureFits, last_goes_on}
use Rattle.sq_graph.specs.Parts.{blocks_of_parts, procedures_of_parts, length_of_blocks, length_of_bodies, LengthsFit, graph_of_parts}
use Rattle.sq_graph.specs.Room.{IsSmall, count_of}
use Rattle.sq_graph.proofs.FromParts.{all_items_of_parts, length-blocks_of_parts, length-procedures_of_parts}
use Rattle.sq_graph.proofs.RulesByBlock.{ItemStands, BlockStands, BodyStands, from_blocks, by_stays}
use Rattle.test_graphs.specs.Standing.{ItemIsRight, TermIsRight, MakeGraph}

-- each position is the name of a block, and no other one's
has_position : (j k : ℕ) (ps : List BlockPart) (items : List Item) → j ≤ k → k < j + length ps → IsSome (value_of (named (blocks_of_parts j ps items)) k)
has_position j k [] items low high = absurd (omega (arith, low, high))
has_position j k (p ∷ ps) items low high =
    elim (cases_Bool (j == k)) [
      | inl here ↦ rw here refl
      | inr apart ↦ rw apart (has_position (j + 1) k ps (drop p.length items) (omega (arith, low, eqb-false j k apart)) (omega (arith, high)))
    ]

others_above : (m j : ℕ) (ps : List BlockPart) (items : List Item) → m < j → AllByRecursion (λ y. nat_eq m y ≡ false) (keys (named (blocks_of_parts j ps items)))
others_above m j [] items low = tt
others_above m j (p ∷ ps) items low = (ne_eqb m j (λ same. absurd (omega (arith, low, same))), others_above m (j + 1) ps (drop p.length items) (omega (arith, low)))

distinct_positions : (j : ℕ) (ps : List BlockPart) (items : List Item) → HasDistinctKeys (named (blocks_of_parts j ps items))
unfolding IsDistinct
distinct_positions j [] items = tt
distinct_positions j (p ∷ ps) items =
    (others_above j (j + 1) ps (drop p.length items) (omega arith), distinct_positions (j + 1) ps (drop p.length items))

-- the last block has the last term
ends_with : (j : ℕ) (p : BlockPart) (ps : List BlockPart) (items : List Item) → last_goes_on (blocks_of_parts j (p ∷ ps) items) ≡ goes_on (get_or (p ∷ ps) (length ps) p).term
ends_with j p [] items = refl
ends_with j p (q ∷ ps) items = ends_with (j + 1) q ps (drop p.length items) ∙ ap (λ (x : BlockPart). goes_on x.term) (same_default (q ∷ ps) (length ps) q p (omega arith))
  where
    same_default : (xs : List BlockPart) (k : ℕ) (d e : BlockPart) → k < length xs → get_or xs k d ≡ get_or xs k e
    same_default [] k d e there = absurd (omega (arith, there))
    same_default (x ∷ xs) zero d e there = refl
    same_default (x ∷ xs) (suc k) d e there = same_default xs k d e (omega (arith, there))

module _ (b c : ℕ) where
  abbrev N : ℕ → Type 0
  N k = k < b

  abbrev C : ℕ → Type 0
  C k = k < c

  item_stands : (item : Item) → ItemIsRight b c item → ItemStands N C item
  item_stands item right = record { names = right.names; calls = right.calls; fits = right.fits }

  items_stand : (items : List Item) → All (ItemIsRight b c) items → All (ItemStands N C) items
  items_stand items right = All-weaker (ItemIsRight b c) (ItemStands N C) item_stands items right

  blocks_stand : (j : ℕ) (ps : List BlockPart) (items : List Item) → All (ItemStands N C) items → All (λ part. TermIsRight b part.term) ps → All (BlockStands N C) (blocks_of_parts j ps items)
  blocks_stand j [] items stand terms = All-nil (BlockStands N C)
  blocks_stand j (p ∷ ps) items stand terms =
      let term : TermIsRight b p.term = All-head {X = BlockPart} (λ part. TermIsRight b part.term) p ps terms in
      All-cons (BlockStands N C) (record { name = j; items = take p.length items; term = p.term }) (blocks_of_parts (j + 1) ps (drop p.length items))
      (record { items = All-take (ItemStands N C) p.length items stand; names = term.names; fits = term.fits })
      (blocks_stand (j + 1) ps (drop p.length items) (All-drop (ItemStands N C) p.length items stand) (All-tail {X = BlockPart} (λ part. TermIsRight b part.term) p ps terms))

  bodies_stand : (qs : List ProcedurePart) (items : List Item) → All (ItemStands N C) items → All ProcedureFits (procedures_of_parts qs items) → All (BodyStands N C) (procedures_of_parts qs items)
  bodies_stand [] items stand fit = All-nil (BodyStands N C)
  bodies_stand (q ∷ qs) items stand fit =
      let added : Procedure = record { link = q.link; body = take q.length items } in
      All-cons (BodyStands N C) added (procedures_of_parts qs (drop q.length items))
      (record { items = All-take (ItemStands N C) q.length items stand; fits = All-head ProcedureFits added (procedures_of_parts qs (drop q.length items)) fit })
      (bodies_stand qs (drop q.length items) (All-drop (ItemStands N C) q.length items stand) (All-tail ProcedureFits added (procedures_of_parts qs (drop q.length items)) fit))

-- what was looked at
pub record PartsAreRight (ps : List BlockPart) (all : List Item) (start : ℕ) (ws : List CodeRef) (qs : List ProcedurePart) : Type 0 where
  pub entry : start < length ps
  pub ascending : IsStrictlyIncreasing (map (λ w. w.at) ws)
  pub words : All (λ w. w.block < length ps) ws
  pub items : All (ItemIsRight (length ps) (length qs)) all
  pub terms : All (λ part. TermIsRight (length ps) part.term) ps
  pub ends : (d : BlockPart) → goes_on (get_or ps (length ps - 1) d).term ≡ false
  pub bodies : All ProcedureFits (procedures_of_parts qs (drop (length_of_blocks ps) all))
  pub own : length_of_blocks ps ≤ length all
  pub others : length_of_bodies qs ≡ length (drop (length_of_blocks ps) all)

pub parts_fit : (ps : List BlockPart) (items : List Item) (qs : List ProcedurePart) → length_of_blocks ps ≤ length items → length_of_bodies qs ≡ length (drop (length_of_blocks ps) items) → LengthsFit ps items qs
parts_fit ps items qs own others = omega (arith, own, others, length-drop (length_of_blocks ps) items)

pub parts_keep_rules : (ps : List BlockPart) (items : List Item) (entry : ℕ) (ws : List CodeRef) (qs : List ProcedurePart) → PartsAreRight ps items entry ws qs → IsGraph (graph_of_parts ps items entry ws qs)
parts_keep_rules ps items entry ws qs right =
    let g = graph_of_parts ps items entry ws qs in
    let N : ℕ → Type 0 = λ k. k < length ps in
    let C : ℕ → Type 0 = λ k. k < length qs in
    let stand = items_stand (length ps) (length qs) items right.items in
    let rest = drop (length_of_blocks ps) items in
    let has : (k : ℕ) → N k → HasBlock g k = λ k there. has_position 0 k ps items (omega arith) (omega (arith, there)) in
    let called : (k : ℕ) → C k → HasProcedure g k = λ k there. omega (arith, there, length-procedures_of_parts qs rest) in
    from_blocks g
    (by_stays N (HasBlock g) C (HasProcedure g) has called g
    (record {
      distinct = distinct_positions 0 ps items;
      entry = right.entry;
      words = All-map N (λ (w : CodeRef). w.block) ws right.words;
      ends = ended ps items right.entry right.ends;
      ascending = right.ascending;
      blocks = blocks_stand (length ps) (length qs) 0 ps items stand right.terms;
      bodies = bodies_stand (length ps) (length qs) qs rest (All-drop (ItemStands N C) (length_of_blocks ps) items stand) right.bodies;
    }))
  where
    ended : (ps : List BlockPart) (items : List Item) → entry < length ps → ((d : BlockPart) → goes_on (get_or ps (length ps - 1) d).term ≡ false) → last_goes_on (blocks_of_parts 0 ps items) ≡ false
    ended [] items there ends = absurd (omega (arith, there))
    ended (p ∷ ps) items there ends =
        let e : length (p ∷ ps) - 1 ≡ length ps = omega arith in
        ends_with 0 p ps items ∙ subst (λ n. goes_on (get_or (p ∷ ps) n p).term ≡ false) e (ends p)

pub parts_are_small : (ps : List BlockPart) (items : List Item) (entry : ℕ) (ws : List CodeRef) (qs : List ProcedurePart) → LengthsFit ps items qs → length ps < 2 ^ 29 → length items < 2 ^ 29 → length qs < 2 ^ 29 → IsSmall (count_of (graph_of_parts ps items entry ws qs))
parts_are_small ps items entry ws qs fits few_blocks few_items few_procedures =
    record {
      blocks = omega (arith, few_blocks, length-blocks_of_parts 0 ps items);
      items = omega (arith, few_items, ap (λ xs. length xs) (all_items_of_parts ps items entry ws qs fits));
      procedures = omega (arith, few_procedures, length-procedures_of_parts qs (drop (length_of_blocks ps) items));
    }

pub parts_make_graph : (ps : List BlockPart) (items : List Item) (entry : ℕ) (ws : List CodeRef) (qs : List ProcedurePart) → PartsAreRight ps items entry ws qs → length ps < 2 ^ 29 → length items < 2 ^ 29 → length qs < 2 ^ 29 → MakeGraph ps items entry ws qs
parts_make_graph ps items entry ws qs right few_blocks few_items few_procedures =
    let lengths = parts_fit ps items qs right.own right.others in
    record {
      lengths = lengths;
      rules = parts_keep_rules ps items entry ws qs right;
      small = parts_are_small ps items entry ws qs lengths few_blocks few_items few_procedures;
    }
