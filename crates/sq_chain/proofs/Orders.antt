-- The order of the blocks once a chain stands behind the Jump to it.
use Rattle.std.proofs.Common.{◌≡◌, ℕ, ◌+◌, ◌≤◌, ◌<◌, List, [], ◌∷◌, ◌++◌, map, length, take, drop, Option, None, IsSome, is_some, inl, inr, refl, sym, ap, ◌∙◌, subst, arith, slice_get, get_or, length-append}
use Rattle.std.proofs.lemmas.List.{take-append-drop, length-take, length-map, map-append, drop_all}
use Rattle.std.proofs.lemmas.Option.{slice_get_cases, slice_get-map}
use Rattle.std.specs.Prelude.{option_map}
use Rattle.sq_system.proofs.Areas.{drop_from_get}
use Rattle.sq_arena.specs.Entries.{HasDistinctKeys, value_of, before, through, starting_at, behind, run, first_key}
use Rattle.sq_arena.proofs.EntriesLaws.{absent_ahead, before-append, value_of-append, or_value}
use Rattle.sq_arena.proofs.EntriesLemmas.{through-before, through-behind, shape_of}
use Rattle.sq_graph.specs.Graph.{Block, Graph}
use Rattle.sq_graph.specs.Blocks.{named, HasBlock, next_of}
use Rattle.sq_graph.specs.Parts.{names_of}
use Rattle.sq_graph.specs.Pieces.{exchanged}
use Rattle.sq_graph.specs.Rules.{IsGraph}
use Rattle.sq_graph.proofs.BlockMoves.{through-in, through-out, behind-out, exchanged_pieces}
use Rattle.sq_graph.proofs.Located.{named-append}
use Rattle.sq_live.proofs.Layouts.{IsBlockAt, block_at}
use Rattle.sq_chain.specs.Moves.{chain_end, IsMovable, carried}
use Rattle.sq_chain.proofs.Fallen.{named_length}
use Rattle.sq_chain.proofs.Reordered.{Exchanges, apart_from, some_or_none, whole, moves_back, moves_ahead, chain_run}

take_length : {T : Type 0} (k : ℕ) (xs : List T) → k < length xs → length (take k xs) ≡ k
take_length k xs within = omega (arith, within, length-take k xs)

-- WHERE A NAME STANDS

module _ (g : Graph) (rules : IsGraph g) (k n : ℕ) (b : IsBlockAt g k n) where
  parts : named g.blocks ≡ named (take k g.blocks) ++ (b.block.name, b.block) ∷ named (drop (k + 1) g.blocks)
  parts = ap named (sym (take-append-drop k g.blocks) ∙ ap (λ (bs : List Block). take k g.blocks ++ bs) b.rest) ∙ named-append (take k g.blocks) (b.block ∷ drop (k + 1) g.blocks)

  pub before_length : length (before (named g.blocks) n) ≡ k
  before_length =
      let none = absent_ahead (named (take k g.blocks)) (named (drop (k + 1) g.blocks)) b.block.name b.block (subst (λ (es : List (ℕ × Block)). HasDistinctKeys es) parts rules.distinct) in
      let is : before (named g.blocks) n ≡ named (take k g.blocks) =
      ap (λ (m : ℕ). before (named g.blocks) m) (sym b.has_name) ∙ ap (λ (es : List (ℕ × Block)). before es b.block.name) parts ∙ before-append (named (take k g.blocks)) (named (drop (k + 1) g.blocks)) b.block.name b.block none in
      omega (arith, ap (λ (es : List (ℕ × Block)). length es) is, named_length (take k g.blocks), take_length k g.blocks b.within)

  pub through_length : length (through (named g.blocks) n) ≡ k + 1
  through_length =
      let is = through-before (named g.blocks) n b.block b.found in
      omega (arith, ap (λ (es : List (ℕ × Block)). length es) is, before_length, length-append (before (named g.blocks) n) ((n, b.block) ∷ []))

  pub behind_length : length (behind (named g.blocks) n) + (k + 1) ≡ length g.blocks
  behind_length =
      let both = ap (λ (es : List (ℕ × Block)). length es) (through-behind (named g.blocks) n) in
      omega (arith, both, through_length, length-append (through (named g.blocks) n) (behind (named g.blocks) n), named_length g.blocks)

  -- the next slot has the next name
  pub next_listed : next_of g n ≡ slice_get (names_of g) (k + 1)
  next_listed =
      ap first_key b.behind_is
      ∙ elim ((slice_get_cases g.blocks (k + 1)).1) [
        | inl x ↦
            ap (λ (bs : List Block). first_key (named bs)) (drop_from_get g.blocks (k + 1) x.0 x.2)
            ∙ sym (slice_get-map (λ (c : Block). c.name) g.blocks (k + 1) ∙ ap (option_map (λ (c : Block). c.name)) x.2)
        | inr past ↦
            ap (λ (bs : List Block). first_key (named bs)) (drop_all (k + 1) g.blocks past.0)
            ∙ sym (slice_get-map (λ (c : Block). c.name) g.blocks (k + 1) ∙ ap (option_map (λ (c : Block). c.name)) past.1)
      ]

pub found_at : (g : Graph) (names : List ℕ) (k n : ℕ) → IsGraph g → names ≡ names_of g → k < length names → get_or names k 0 ≡ n → IsBlockAt g k n
found_at g names k n rules e within there = subst (IsBlockAt g k) there (block_at g names k rules e within)

-- THE BLOCKS IN THEIR ORDER

blocks_mapped : {T : Type 0} (f : Block → T) (bs : List Block) → map f bs ≡ map (λ (e : ℕ × Block). f e.1) (named bs)
blocks_mapped f [] = refl
blocks_mapped f (b ∷ bs) = ap (λ ts. f b ∷ ts) (blocks_mapped f bs)

blocks_moved : {T : Type 0} (f : Block → T) (es : List (ℕ × Block)) → map f (map (λ (e : ℕ × Block). e.1) es) ≡ map (λ (e : ℕ × Block). f e.1) es
blocks_moved f [] = refl
blocks_moved f (e ∷ es) = ap (λ ts. f e.1 ∷ ts) (blocks_moved f es)

by_exchange : {T : Type 0} (v : Block → T) (old new : List (ℕ × Block)) (x : Exchanges old new) (p q r : ℕ) → p ≡ length x.first → q ≡ p + length x.second → r ≡ q + length x.third → exchanged (map (λ (e : ℕ × Block). v e.1) old) p q r ≡ map (λ (e : ℕ × Block). v e.1) new
by_exchange {T} v old new x p q r first second third =
    let f : ℕ × Block → T = λ (e : ℕ × Block). v e.1 in
    let parts : (a b c d : List (ℕ × Block)) → map (λ (e : ℕ × Block). v e.1) (a ++ (b ++ (c ++ d))) ≡ map (λ (e : ℕ × Block). v e.1) a ++ (map (λ (e : ℕ × Block). v e.1) b ++ (map (λ (e : ℕ × Block). v e.1) c ++ map (λ (e : ℕ × Block). v e.1) d)) = λ a b c d.
    map-append f a (b ++ (c ++ d)) ∙ ap (λ (ts : List T). map f a ++ ts) (map-append f b (c ++ d)) ∙ ap (λ (ts : List T). map f a ++ (map f b ++ ts)) (map-append f c d) in
    ap (λ (ts : List T). exchanged ts p q r) (ap (map f) x.was ∙ parts x.first x.second x.third x.rest)
    ∙ exchanged_pieces (map f x.first) (map f x.second) (map f x.third) (map f x.rest) p q r (omega (arith, first, length-map x.first f)) (omega (arith, second, length-map x.second f)) (omega (arith, third, length-map x.third f))
    ∙ sym (ap (map f) x.is ∙ parts x.first x.third x.second x.rest)

module _ (g : Graph) (from to : ℕ) (rules : IsGraph g) (movable : IsMovable g from to) where
  abbrev es : List (ℕ × Block)
  es = named g.blocks

  abbrev last : ℕ
  last = chain_end g to

  abbrev A : List (ℕ × Block)
  A = before es to

  abbrev R : List (ℕ × Block)
  R = run es to last

  abbrev S : List (ℕ × Block)
  S = starting_at es to

  abbrev C : List (ℕ × Block)
  C = behind S last

  all : es ≡ A ++ (R ++ C)
  all = whole g from to rules movable

  split : es ≡ A ++ S
  split = all ∙ ap (λ (ps : List (ℕ × Block)). A ++ ps) (through-behind S last)

  -- its last block
  pub none_ahead : value_of A last ≡ None
  none_ahead =
      elim (some_or_none (value_of A last)) [
        | inl some ↦ absurd (let n = apart_from A S last (subst (λ (ps : List (ℕ × Block)). HasDistinctKeys ps) split rules.distinct) some in let y = (chain_run g from to rules movable).ends in cc (ap is_some n, y))
        | inr none ↦ none
      ]

  pub last_has : HasBlock g (chain_end g to)
  last_has =
      ap is_some (ap (λ (ps : List (ℕ × Block)). value_of ps last) split ∙ value_of-append A S last ∙ ap (λ (o : Option Block). or_value o (value_of S last)) none_ahead)
      ∙ (chain_run g from to rules movable).ends

  -- what is behind the chain
  pub behind_chain : behind es last ≡ C
  behind_chain = ap (λ (ps : List (ℕ × Block)). behind ps last) split ∙ behind-out A S last none_ahead

  module _ (i j : ℕ) (at_to : IsBlockAt g i to) (at_last : IsBlockAt g j (chain_end g to)) where
    lengths : i + length R ≡ j + 1
    lengths =
        omega (
          arith,
          before_length g rules i to at_to,
          behind_length g rules j last at_last,
          ap (λ (ps : List (ℕ × Block)). length ps) behind_chain,
          ap (λ (ps : List (ℕ × Block)). length ps) all,
          length-append A (R ++ C),
          length-append R C,
          named_length g.blocks,
        )

    -- its end isn't ahead of its start
    pub chain_on : i ≤ j
    chain_on = omega (arith, lengths, ap (λ (ps : List (ℕ × Block)). length ps) (shape_of es to last (chain_run g from to rules movable)).is)

    module _ (k : ℕ) (at_from : IsBlockAt g k from) where
      -- the Jump is ahead of the chain
      ahead : IsSome (value_of A from) → length (through A from) ≡ k + 1
      ahead some =
          let is = ap (λ (ps : List (ℕ × Block)). through ps from) all ∙ through-in A (R ++ C) from some in
          omega (arith, through_length g rules k from at_from, ap (λ (ps : List (ℕ × Block)). length ps) is)

      ahead_of_chain : IsSome (value_of A from) → (k + 1) + length (behind A from) ≡ i
      ahead_of_chain some =
          omega (
            arith,
            ahead some,
            ap (λ (ps : List (ℕ × Block)). length ps) (through-behind A from),
            length-append (through A from) (behind A from),
            before_length g rules i to at_to,
          )

      -- or behind it
      out_r : value_of R from ≡ None
      out_r = elim (some_or_none (value_of R from)) [ inl some ↦ absurd (movable.outside some) | inr none ↦ none ]

      past_chain : value_of A from ≡ None → (j + 1) + length (through C from) ≡ k + 1
      past_chain none =
          let is = ap (λ (ps : List (ℕ × Block)). through ps from) all ∙ through-out A (R ++ C) from none ∙ ap (λ (ps : List (ℕ × Block)). A ++ ps) (through-out R C from out_r) in
          omega (
            arith,
            lengths,
            through_length g rules k from at_from,
            ap (λ (ps : List (ℕ × Block)). length ps) is,
            length-append A (R ++ through C from),
            length-append R (through C from),
            before_length g rules i to at_to,
          )

      pub order_back : {T : Type 0} (f : Block → T) → k + 1 ≤ i → exchanged (map f g.blocks) (k + 1) i (j + 1) ≡ map f (carried g from to).blocks
      order_back {T} f less =
          elim (some_or_none (value_of A from)) [
            | inl some ↦
                ap (λ (ts : List T). exchanged ts (k + 1) i (j + 1)) (blocks_mapped f g.blocks)
                ∙ by_exchange f es _ (moves_back g from to rules movable some) (k + 1) i (j + 1) (omega (arith, ahead some)) (omega (arith, ahead_of_chain some)) (omega (arith, lengths))
                ∙ sym (blocks_moved f _)
            | inr none ↦
                let shape = shape_of es to last (chain_run g from to rules movable) in
                absurd (omega (arith, less, lengths, past_chain none, ap (λ (ps : List (ℕ × Block)). length ps) shape.is))
          ]

      pub past_to : i ≤ k → j + 1 ≤ k + 1
      past_to more =
          elim (some_or_none (value_of A from)) [
            | inl some ↦ absurd (omega (arith, more, ahead_of_chain some))
            | inr none ↦ omega (arith, past_chain none)
          ]

      pub order_ahead : {T : Type 0} (f : Block → T) → i ≤ k → exchanged (map f g.blocks) i (j + 1) (k + 1) ≡ map f (carried g from to).blocks
      order_ahead {T} f more =
          elim (some_or_none (value_of A from)) [
            | inl some ↦ absurd (omega (arith, more, ahead_of_chain some))
            | inr none ↦
                ap (λ (ts : List T). exchanged ts i (j + 1) (k + 1)) (blocks_mapped f g.blocks)
                ∙ by_exchange f es _ (moves_ahead g from to rules movable none) i (j + 1) (k + 1) (omega (arith, before_length g rules i to at_to)) (omega (arith, lengths)) (omega (arith, past_chain none))
                ∙ sym (blocks_moved f _)
          ]
