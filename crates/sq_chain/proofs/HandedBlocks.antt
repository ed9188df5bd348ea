-- Blocks whose items name another block in place of one: all but these items stays.
use Rattle.std.proofs.Common.{◌≡◌, ℕ, ◌+◌, ◌*◌, ◌==◌, Bool, true, false, ◌&&◌, not, if◌then◌else◌, List, [], ◌∷◌, ◌++◌, map, sum_by, Option, None, Some, is_some, inl, inr, refl, sym, ap, ◌∙◌, arith}
use Rattle.std.specs.List.{All}
use Rattle.std.specs.Option.{option_map}
use Rattle.std.proofs.lemmas.Bool.{cases_Bool}
use Rattle.std.proofs.lemmas.List.{length-map}
use Rattle.std.proofs.lemmas.List.Elements.{All-nil, All-cons, All-head, All-tail, All-map, All-weaker}
use Rattle.std.proofs.lemmas.List.Sums.{sum_by-cons}
use Rattle.sq_arena.specs.Entries.{value_of, first_key, next_key}
use Rattle.sq_graph.specs.declared.item.Item.{Item}
use Rattle.sq_graph.specs.Graph.{Block}
use Rattle.sq_graph.specs.Blocks.{named, block_term}
use Rattle.sq_graph.specs.Bypasses.{first_name, kept, passed}
use Rattle.sq_graph.specs.Leaders.{has_no_items, is_fall, is_bare, FallsIntoLeaders}
use Rattle.sq_graph.specs.Renames.{retargeted_block, retargeted_item, retargeted_items, retargeted_term, swapped}
use Rattle.sq_graph.specs.Uses.{term_uses, terms_uses}
use Rattle.sq_graph.specs.Words.{term_words, block_words}
use Rattle.sq_graph.proofs.Bypassing.{items_twice}
use Rattle.sq_layout.specs.Weights.{address_by}
use Rattle.sq_chain.specs.Moves.{fallen_term, fallen_blocks}
use Rattle.sq_chain.specs.Passing.{handed_block}

module _ (bare next : ℕ) where
  abbrev S : Block → Block
  S b = handed_block bare next b

  none_same : (is : List Item) → has_no_items (map (retargeted_item (swapped bare next)) is) ≡ has_no_items is
  none_same [] = refl
  none_same (i ∷ is) = refl

  pub bare_handed : (b : Block) → is_bare (S b) ≡ is_bare b
  bare_handed b = ap (λ t. t && is_fall b.term) (none_same b.items)

  words_one : (b : Block) → block_words (S b) ≡ block_words b
  words_one b = ap (λ n. n + term_words b.term) (length-map b.items (retargeted_item (swapped bare next)))

  pub value_handed : (bs : List Block) (k : ℕ) → value_of (named (map S bs)) k ≡ option_map S (value_of (named bs) k)
  value_handed [] k = refl
  value_handed (b ∷ bs) k =
      elim (cases_Bool (b.name == k)) [ inl here ↦ rw here refl | inr apart ↦ rw apart (value_handed bs k) ]

  pub some_handed : (bs : List Block) (k : ℕ) → is_some (value_of (named (map S bs)) k) ≡ is_some (value_of (named bs) k)
  some_handed bs k = ap is_some (value_handed bs k) ∙ by (value_of (named bs) k)
    where
      by : (o : Option Block) → is_some (option_map S o) ≡ is_some o
      by None = refl
      by (Some b) = refl

  pub term_handed : (bs : List Block) (k : ℕ) → block_term (value_of (named (map S bs)) k) ≡ block_term (value_of (named bs) k)
  term_handed bs k = ap block_term (value_handed bs k) ∙ by (value_of (named bs) k)
    where
      by : (o : Option Block) → block_term (option_map S o) ≡ block_term o
      by None = refl
      by (Some b) = refl

  first_handed : (bs : List Block) → first_key (named (map S bs)) ≡ first_key (named bs)
  first_handed [] = refl
  first_handed (b ∷ bs) = refl

  pub slot_handed : (bs : List Block) (k : ℕ) → next_key (named (map S bs)) k ≡ next_key (named bs) k
  slot_handed [] k = refl
  slot_handed (b ∷ bs) k =
      elim (cases_Bool (b.name == k)) [ inl here ↦ rw here (first_handed bs) | inr apart ↦ rw apart (slot_handed bs k) ]

  pub address_handed : (bs : List Block) (at k : ℕ) → address_by block_words (map S bs) at k ≡ address_by block_words bs at k
  address_handed [] at k = refl
  address_handed (b ∷ bs) at k =
      ap (λ w. if b.name == k then Some at else address_by block_words (map S bs) (at + 4 * w) k) (words_one b)
      ∙ ap (λ o. if b.name == k then Some at else o) (address_handed bs (at + 4 * block_words b) k)

  pub sum_handed : (bs : List Block) → sum_by block_words (map S bs) ≡ sum_by block_words bs
  sum_handed [] = refl
  sum_handed (b ∷ bs) =
      omega (arith, sum_handed bs, words_one b, sum_by-cons block_words b bs, sum_by-cons block_words (S b) (map S bs))

  pub terms_handed : (bs : List Block) → terms_uses (map S bs) ≡ terms_uses bs
  terms_handed [] = refl
  terms_handed (b ∷ bs) = ap (λ us. term_uses b.term ++ us) (terms_handed bs)

  pub led_handed : (leads : ℕ → Bool) (bs : List Block) → FallsIntoLeaders leads (map S bs) ≡ FallsIntoLeaders leads bs
  led_handed leads [] = refl
  led_handed leads (b ∷ []) = refl
  led_handed leads (b ∷ n ∷ rest) = ap (λ T. (is_fall b.term ≡ true → leads n.name ≡ true) × T) (led_handed leads (n ∷ rest))

  -- NO BLOCK JUMPS TO THE NEXT SLOT

  pub falls_there : (bs : List Block) → fallen_blocks bs ≡ bs → fallen_blocks (map S bs) ≡ map S bs
  falls_there [] falls = refl
  falls_there (b ∷ []) falls = refl
  falls_there (b ∷ n ∷ rest) falls =
      let head : record b { term = fallen_term n.name b.term } ≡ b = cc in
      let tail : fallen_blocks (n ∷ rest) ≡ n ∷ rest = cc in
      ap (λ (c : Block). record (S b) { term = c.term } ∷ fallen_blocks (map S (n ∷ rest))) head
      ∙ ap (λ cs. S b ∷ cs) (falls_there (n ∷ rest) tail)

  pub falls_back : (bs : List Block) → fallen_blocks (map S bs) ≡ map S bs → fallen_blocks bs ≡ bs
  falls_back [] falls = refl
  falls_back (b ∷ []) falls = refl
  falls_back (b ∷ n ∷ rest) falls =
      let head : record (S b) { term = fallen_term n.name b.term } ≡ S b = cc in
      let tail : fallen_blocks (map S (n ∷ rest)) ≡ map S (n ∷ rest) = cc in
      ap (λ (c : Block). record b { term = c.term } ∷ fallen_blocks (n ∷ rest)) head
      ∙ ap (λ cs. b ∷ cs) (falls_back (n ∷ rest) tail)

  -- NO BLOCK IS EMPTY WITH FALL BUT THOSE THAT MAY BE

  module _ (may : ℕ → Bool) where
    abbrev IsSolid : Block → Type 0
    IsSolid b = (not (may b.name) && is_bare b) ≡ false

    pub solid_there : (bs : List Block) → All (λ b. (not (may b.name) && is_bare b) ≡ false) bs → All (λ b. (not (may b.name) && is_bare b) ≡ false) (map S bs)
    solid_there bs solid =
        All-map IsSolid S bs (All-weaker IsSolid (λ b. IsSolid (S b)) (λ b own. ap (λ t. not (may b.name) && t) (bare_handed b) ∙ own) bs solid)

    pub solid_back : (bs : List Block) → All (λ b. (not (may b.name) && is_bare b) ≡ false) (map S bs) → All (λ b. (not (may b.name) && is_bare b) ≡ false) bs
    solid_back [] solid = All-nil IsSolid
    solid_back (b ∷ bs) solid =
        All-cons IsSolid b bs (ap (λ t. not (may b.name) && t) (sym (bare_handed b)) ∙ All-head IsSolid (S b) (map S bs) solid)
        (solid_back bs (All-tail IsSolid (S b) (map S bs) solid))

  -- WHERE NAMES GO

  names_first : (bs : List Block) (k : ℕ) → first_name (map S bs) k ≡ first_name bs k
  names_first [] k = refl
  names_first (b ∷ bs) k = refl

  pub passed_handed : (bs : List Block) (k : ℕ) → passed (map S bs) k ≡ passed bs k
  passed_handed [] k = refl
  passed_handed (b ∷ bs) k =
      passed_handed bs (if is_bare (S b) then swapped b.name (first_name (map S bs) k) k else k)
      ∙ ap (λ t. passed bs (if t then swapped b.name (first_name (map S bs) k) k else k)) (bare_handed b)
      ∙ ap (λ n. passed bs (if is_bare b then swapped b.name n k else k)) (names_first bs k)

  pub kept_handed : (bs : List Block) → kept (map S bs) ≡ map S (kept bs)
  kept_handed [] = refl
  kept_handed (b ∷ bs) =
      elim (cases_Bool (is_bare b)) [
        | inl gone ↦ let gone' = bare_handed b ∙ gone in rw (gone', gone) (kept_handed bs)
        | inr stays ↦ let stays' = bare_handed b ∙ stays in rw (stays', stays) (ap (λ cs. S b ∷ cs) (kept_handed bs))
      ]

  -- where both names go to the same, so do those in items
  module _ (f : ℕ → ℕ) (goes : (λ k. f (swapped bare next k)) ≡ f) where
    items_through : (is : List Item) → retargeted_items f (retargeted_items (swapped bare next) is) ≡ retargeted_items f is
    items_through is = items_twice (swapped bare next) f is ∙ ap (λ to. retargeted_items to is) goes

    pub blocks_through : (bs : List Block) → map (retargeted_block f) (map S bs) ≡ map (retargeted_block f) bs
    blocks_through [] = refl
    blocks_through (b ∷ bs) =
        ap (λ is. record { name = b.name; items = is; term = retargeted_term f b.term } ∷ map (retargeted_block f) (map S bs)) (items_through b.items)
        ∙ ap (λ cs. retargeted_block f b ∷ cs) (blocks_through bs)
