-- A split keeps the rules of a graph, and its words.
use Rattle.std.proofs.Common.{◌≡◌, ℕ, ◌+◌, ◌==◌, List, [], ◌∷◌, ◌++◌, length, take, drop, Option, None, Some, IsSome, refl, sym, ap, ◌∙◌, subst, inl, inr, arith, length-append, append_assoc}
use Rattle.std.proofs.lemmas.Bool.{cases_Bool, eqb-true, eq-eqb}
use Rattle.std.proofs.lemmas.List.{append-nil, take-append-drop}
use Rattle.std.proofs.lemmas.List.Concat.{flat_map-append}
use Rattle.std.proofs.lemmas.List.Elements.{All-cons, All-head, All-tail, All-append, All-weaker}
use Rattle.std.specs.List.{All, flat_map, sum_by}
use Rattle.std.proofs.lemmas.List.Sums.{sum_by-append, sum_by-cons}
use Rattle.sq_graph.specs.Words.{block_words, words_of}
use Rattle.sq_arena.specs.Entries.{keys, HasDistinctKeys, value_of}
use Rattle.sq_arena.proofs.EntriesLaws.{or_value, value_of-append, HasDistinctKeys-insert}
use Rattle.sq_graph.specs.declared.item.Item.{Item}
use Rattle.sq_graph.specs.declared.item.Term.TheVariants.{Fall}
use Rattle.sq_graph.specs.Graph.{Block, Graph}
use Rattle.sq_graph.specs.Blocks.{named, HasBlock, HasProcedure, items_of_bodies, all_items}
use Rattle.sq_graph.specs.Uses.{term_uses, terms_uses, items_uses, item_calls, code_word_uses, uses}
use Rattle.sq_graph.specs.Rules.{IsGraph, ItemFits, TermFits, last_goes_on}
use Rattle.sq_graph.specs.Operations.{IsNew, with_blocks, halves, split_at}
use Rattle.sq_graph.proofs.Located.{IsAt, located, named-append}
use Rattle.sq_graph.proofs.Eachs.{All-left, All-right}
use Rattle.sq_graph.proofs.Changes.{with_blocks-at, items_of_blocks-kept}
use Rattle.sq_graph.proofs.BlockWrites.{split_items}

pub some_left : {T : Type 0} (a b : Option T) → IsSome a → IsSome (or_value a b)
some_left None b some = absurd (cc)
some_left (Some x) b some = refl

pub some_right : {T : Type 0} (a b : Option T) → IsSome b → IsSome (or_value a b)
some_right None b some = some
some_right (Some x) b some = refl

-- a change that keeps the name of the block keeps each name
pub keeps_names : (f : Block → List Block) (blocks : List Block) (name k : ℕ) → ((b : Block) → IsSome (value_of (named (f b)) b.name)) → IsSome (value_of (named blocks) k) → IsSome (value_of (named (with_blocks f blocks name)) k)
keeps_names f [] name k own some = absurd (cc)
keeps_names f (b ∷ rest) name k own some =
    elim (cases_Bool (b.name == name)) [
      | inl here ↦
          rw (here, named-append (f b) rest, value_of-append (named (f b)) (named rest) k)
          (elim (cases_Bool (b.name == k)) [
            | inl same ↦ some_left (value_of (named (f b)) k) (value_of (named rest) k) (subst (λ (n : ℕ). IsSome (value_of (named (f b)) n)) (eqb-true b.name k same) (own b))
            | inr differs ↦ some_right (value_of (named (f b)) k) (value_of (named rest) k) (rw differs at some)
          ])
      | inr apart ↦
          rw apart
          (elim (cases_Bool (b.name == k)) [
            | inl same ↦ rw same refl
            | inr differs ↦ rw differs (keeps_names f rest name k own (rw differs at some))
          ])
    ]

pub flat_map-at : {X : Type 0} (h : Block → List X) (blocks : List Block) (name : ℕ) (at : IsAt blocks name) → flat_map h blocks ≡ flat_map h at.front ++ (h at.block ++ flat_map h at.back)
flat_map-at h blocks name at = ap (flat_map h) at.whole ∙ flat_map-append h at.front (at.block ∷ at.back)

pub flat_map-changed : {X : Type 0} (h : Block → List X) (f : Block → List Block) (blocks : List Block) (name : ℕ) (at : IsAt blocks name) → flat_map h (with_blocks f blocks name) ≡ flat_map h at.front ++ (flat_map h (f at.block) ++ flat_map h at.back)
flat_map-changed h f blocks name at =
    ap (flat_map h) (with_blocks-at f blocks name at)
    ∙ flat_map-append h at.front (f at.block ++ at.back)
    ∙ ap (λ xs. flat_map h at.front ++ xs) (flat_map-append h (f at.block) at.back)

-- the last of some blocks with others ahead
pub last_goes_on-append : (front : List Block) (b : Block) (back : List Block) → last_goes_on (front ++ b ∷ back) ≡ last_goes_on (b ∷ back)
last_goes_on-append [] b back = refl
last_goes_on-append (x ∷ []) b back = refl
last_goes_on-append (x ∷ y ∷ front) b back = last_goes_on-append (y ∷ front) b back

last_of_halves : (new place : ℕ) (b : Block) (back : List Block) → last_goes_on (halves new place b ++ back) ≡ last_goes_on (b ∷ back)
last_of_halves new place b [] = refl
last_of_halves new place b (c ∷ back) = refl

pub distinct_by_keys : (xs ys : List Block) → keys (named xs) ≡ keys (named ys) → HasDistinctKeys (named ys) → HasDistinctKeys (named xs)
distinct_by_keys xs ys same distinct = rw same distinct

split_distinct : (front : List Block) (b : Block) (back : List Block) (new place : ℕ) → HasDistinctKeys (named (front ++ b ∷ back)) → value_of (named (front ++ b ∷ back)) new ≡ None → HasDistinctKeys (named (front ++ (halves new place b ++ back)))
split_distinct front b back new place distinct fresh =
    let first : Block = record b { items = take place b.items; term = Fall } in
    let second : Block = record b { name = new; items = drop place b.items } in
    let parts : named (front ++ b ∷ back) ≡ (named front ++ (b.name, b) ∷ []) ++ named back =
    named-append front (b ∷ back) ∙ sym (append_assoc (named front) ((b.name, b) ∷ []) (named back)) in
    let inserted = HasDistinctKeys-insert (named front ++ (b.name, b) ∷ []) (named back) new second (rw parts at distinct) (rw parts at fresh) in
    let same : keys (named (front ++ (halves new place b ++ back))) ≡ keys ((named front ++ (b.name, b) ∷ []) ++ (new, second) ∷ named back) =
    same_keys front in
    rw same inserted
  where
    same_keys : (front : List Block) → keys (named (front ++ (halves new place b ++ back))) ≡ keys ((named front ++ (b.name, b) ∷ []) ++ (new, record b { name = new; items = drop place b.items }) ∷ named back)
    same_keys [] = refl
    same_keys (x ∷ front) = ap (λ ks. x.name ∷ ks) (same_keys front)

pub split_rules : (g : Graph) (new name place : ℕ) → IsGraph g → IsNew g new → HasBlock g name → IsGraph (split_at g new name place)
split_rules g new name place rules fresh has =
    let at = located g.blocks name has in
    let f = halves new place in
    let blocks' = with_blocks-at (halves new place) g.blocks name at in
    let items : all_items (split_at g new name place) ≡ all_items g =
    ap (λ is. is ++ items_of_bodies g.procedures) (items_of_blocks-kept (halves new place) g.blocks name at (split_items new place at.block)) in
    let terms : terms_uses (with_blocks (halves new place) g.blocks name) ≡ terms_uses g.blocks =
    flat_map-changed (λ b. term_uses b.term) (halves new place) g.blocks name at
    ∙ ap (λ us. terms_uses at.front ++ (us ++ terms_uses at.back)) (append-nil (term_uses at.block.term))
    ∙ sym (flat_map-at (λ b. term_uses b.term) g.blocks name at) in
    let used : uses (split_at g new name place) ≡ uses g =
    ap (λ us. g.entry ∷ (code_word_uses g.code_words ++ (us ++ items_uses (all_items (split_at g new name place))))) terms
    ∙ ap (λ is. g.entry ∷ (code_word_uses g.code_words ++ (terms_uses g.blocks ++ items_uses is))) items in
    let own : (b : Block) → IsSome (value_of (named (halves new place b)) b.name) = λ b. rw (eq-eqb b.name b.name refl) refl in
    let fit = subst (λ (bs : List Block). All (λ b. TermFits b.term) bs) at.whole rules.terms in
    record {
      distinct = rw blocks' (split_distinct at.front at.block at.back new place (rw at.whole at rules.distinct) (rw at.whole at fresh));
      named_all = subst (λ us. All (HasBlock (split_at g new name place)) us) (sym used) (All-weaker (HasBlock g) (HasBlock (split_at g new name place)) (λ k some. keeps_names (halves new place) g.blocks name k own some) (uses g) rules.named_all);
      called_all = subst (λ (is : List Item). All (HasProcedure g) (flat_map item_calls is)) (sym items) rules.called_all;
      ends = ap last_goes_on blocks' ∙ last_goes_on-append at.front (record at.block { items = take place at.block.items; term = Fall }) (record at.block { name = new; items = drop place at.block.items } ∷ at.back)
          ∙ last_of_halves new place at.block at.back ∙ sym (last_goes_on-append at.front at.block at.back) ∙ sym (ap last_goes_on at.whole) ∙ rules.ends;
      code_words = rules.code_words;
      items = subst (λ (is : List Item). All ItemFits is) (sym items) rules.items;
      terms = subst (λ (bs : List Block). All (λ b. TermFits b.term) bs) (sym blocks')
          (All-append {X = Block} (λ b. TermFits b.term) at.front (halves new place at.block ++ at.back)
          (All-left {X = Block} (λ b. TermFits b.term) at.front (at.block ∷ at.back) fit)
          (split_terms at.block at.back (All-right {X = Block} (λ b. TermFits b.term) at.front (at.block ∷ at.back) fit)));
      procedures = rules.procedures;
    }
  where
    split_terms : (b : Block) (back : List Block) → All (λ c. TermFits c.term) (b ∷ back) → All (λ c. TermFits c.term) (halves new place b ++ back)
    split_terms b back all =
        All-cons {X = Block} (λ c. TermFits c.term) (record b { items = take place b.items; term = Fall }) (record b { name = new; items = drop place b.items } ∷ back) tt
        (All-cons {X = Block} (λ c. TermFits c.term) (record b { name = new; items = drop place b.items }) back (All-head {X = Block} (λ c. TermFits c.term) b back all) (All-tail {X = Block} (λ c. TermFits c.term) b back all))

halves_words : (new place : ℕ) (b : Block) → sum_by block_words (halves new place b) ≡ block_words b
halves_words new place b =
    omega (
      arith,
      sum_by-cons block_words (record b { items = take place b.items; term = Fall }) (record b { name = new; items = drop place b.items } ∷ []),
      sum_by-cons block_words (record b { name = new; items = drop place b.items }) [],
      length-append (take place b.items) (drop place b.items),
      ap (λ is. length is) (take-append-drop place b.items),
    )

-- the words of all blocks around those that replace one
pub words_of_blocks-changed : (f : Block → List Block) (blocks : List Block) (name : ℕ) (at : IsAt blocks name) → sum_by block_words (with_blocks f blocks name) + block_words at.block ≡ sum_by block_words blocks + sum_by block_words (f at.block)
words_of_blocks-changed f blocks name at =
    omega (
      arith,
      ap (λ bs. sum_by block_words bs) (with_blocks-at f blocks name at),
      ap (λ bs. sum_by block_words bs) at.whole,
      sum_by-append block_words at.front (f at.block ++ at.back),
      sum_by-append block_words (f at.block) at.back,
      sum_by-append block_words at.front (at.block ∷ at.back),
      sum_by-cons block_words at.block at.back,
    )

pub words_of-split : (g : Graph) (new name place : ℕ) → HasBlock g name → words_of (split_at g new name place) ≡ words_of g
words_of-split g new name place has =
    let at = located g.blocks name has in
    omega (arith, words_of_blocks-changed (halves new place) g.blocks name at, halves_words new place at.block)
