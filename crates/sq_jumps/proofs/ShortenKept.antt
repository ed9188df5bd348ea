-- Row C keeps a canonical graph canonical, and its names.
use Rattle.std.proofs.Common.{◌≡◌, ℕ, zero, suc, Bool, true, false, not, ◌||◌, List, [], ◌∷◌, length, slice_get, Some, inl, inr, refl, sym, ap, ◌∙◌, subst, arith, ◌+◌, ◌==◌, ◌++◌, ◌&&◌, take, append_assoc, append-nil}
use Rattle.std.specs.List.{All}
use Rattle.std.proofs.lemmas.Bool.{cases_Bool, eqb-true, eq-eqb, ne_eqb, or_left, or_right}
use Rattle.std.proofs.Math.Bool.{and-false}
use Rattle.sq_graph.specs.declared.item.Item.{Item}
use Rattle.sq_graph.specs.declared.item.Item.TheVariants.{Hi}
use Rattle.sq_graph.specs.declared.item.Term.TheVariants.{PartJump}
use Rattle.sq_graph.specs.Graph.{Graph, Block}
use Rattle.sq_graph.specs.Blocks.{block_of, block_term, block_items, items_of_blocks, items_of_bodies}
use Rattle.sq_graph.specs.Operations.{with_blocks, replaced_items}
use Rattle.sq_graph.specs.Terms.{goes_on}
use Rattle.sq_graph.specs.Uses.{uses, term_uses, item_uses, items_uses, terms_uses, code_word_uses}
use Rattle.sq_lookup.proofs.Targets.{has_term}
use Rattle.std.proofs.lemmas.List.Elements.{All-cons, All-head, All-tail}
use Rattle.sq_graph.proofs.Located.{located, IsAt}
use Rattle.sq_graph.proofs.SlotReads.{block_at}
use Rattle.law_patch.specs.Operations.{IsShortable, hastened as short_jump, shortened}
use Rattle.sq_graph.specs.Leaders.{IsCanonical, FallsIntoLeaders, has_no_items, is_fall, is_bare, follows_a_term, is_leader}
use Rattle.sq_isa.specs.Registers.{is_among}
use Rattle.std.proofs.lemmas.List.{drop_all}
use Rattle.sq_graph.proofs.Changes.{with_blocks-at}
use Rattle.sq_graph.proofs.Marks.{is_among-append}
use Rattle.sq_jumps.proofs.Leaders.{three_uses}

-- TERMS

term_uses_same : (link part to : ℕ) → term_uses (short_jump link to) ≡ term_uses (PartJump link part to)
term_uses_same zero part to = refl
term_uses_same (suc link) part to = refl

not_zero : (link : ℕ) → (suc link == 0) ≡ false
not_zero link = ne_eqb (suc link) 0 (λ same. omega (arith, same))

goes_on_same : (link part to : ℕ) → goes_on (short_jump link to) ≡ goes_on (PartJump link part to)
goes_on_same zero part to = refl
goes_on_same (suc link) part to = sym (ap not (not_zero link))

no_fall : (link to : ℕ) → is_fall (short_jump link to) ≡ false
no_fall zero to = refl
no_fall (suc link) to = refl

-- USES

used_ahead : (zs xs ys : List Item) (n : ℕ) → is_among (items_uses xs) n ≡ is_among (items_uses ys) n → is_among (items_uses (zs ++ xs)) n ≡ is_among (items_uses (zs ++ ys)) n
used_ahead [] xs ys n same = same
used_ahead (z ∷ zs) xs ys n same =
    is_among-append (item_uses z) (items_uses (zs ++ xs)) n ∙ ap (λ b. is_among (item_uses z) n || b) (used_ahead zs xs ys n same) ∙ sym (is_among-append (item_uses z) (items_uses (zs ++ ys)) n)

without_half : (part to n : ℕ) (rest : List Item) → (to == n) ≡ false → is_among (items_uses (Hi part to ∷ rest)) n ≡ is_among (items_uses rest) n
without_half part to n rest apart = ap (λ b. b || is_among (items_uses rest) n) apart

used_by_term : (entry : ℕ) (words terms items : List ℕ) (n : ℕ) → is_among terms n ≡ true → is_among (entry ∷ (words ++ (terms ++ items))) n ≡ true
used_by_term entry words terms items n used =
    or_right (entry == n) (is_among (words ++ (terms ++ items)) n)
    (three_uses words terms items n ∙ or_right (is_among words n) (is_among terms n || is_among items n) (or_left (is_among terms n) (is_among items n) used))

-- other items use the same names but for one, which a term uses
used_either : (entry : ℕ) (words terms olds news : List ℕ) (to n : ℕ) → is_among terms to ≡ true → ((to == n) ≡ false → is_among olds n ≡ is_among news n) → is_among (entry ∷ (words ++ (terms ++ olds))) n ≡ is_among (entry ∷ (words ++ (terms ++ news))) n
used_either entry words terms olds news to n used apart =
    elim (cases_Bool (to == n)) [
      | inl here ↦
          let used' : is_among terms n ≡ true = subst (λ k. is_among terms k ≡ true) (eqb-true to n here) used in
          used_by_term entry words terms olds n used' ∙ sym (used_by_term entry words terms news n used')
      | inr other ↦
          ap (λ b. entry == n || b)
          (three_uses words terms olds n ∙ ap (λ b. is_among words n || (is_among terms n || b)) (apart other) ∙ sym (three_uses words terms news n))
    ]

-- A BLOCK THAT JUMPS BY AN UPPER HALF, AND THE SAME WITH THE SHORTER JUMP, WITH BLOCKS BEHIND IT

module _ (name link part to : ℕ) (init : List Item) (back : List Block) where
  abbrev pub long : Block
  long = record { name = name; items = init ++ Hi part to ∷ []; term = PartJump link part to }

  abbrev pub short : Block
  short = record { name = name; items = init; term = short_jump link to }

  terms_same : (front : List Block) → terms_uses (front ++ short ∷ back) ≡ terms_uses (front ++ long ∷ back)
  terms_same [] = ap (λ us. us ++ terms_uses back) (term_uses_same link part to)
  terms_same (b ∷ front) = ap (λ us. term_uses b.term ++ us) (terms_same front)

  term_used : (front : List Block) → is_among (terms_uses (front ++ long ∷ back)) to ≡ true
  term_used [] = or_left (to == to) (is_among (terms_uses back) to) (eq-eqb to to refl)
  term_used (b ∷ front) = is_among-append (term_uses b.term) (terms_uses (front ++ long ∷ back)) to ∙ or_right (is_among (term_uses b.term) to) (is_among (terms_uses (front ++ long ∷ back)) to) (term_used front)

  items_same : (front : List Block) (rest : List Item) (n : ℕ) → (to == n) ≡ false → is_among (items_uses (items_of_blocks (front ++ long ∷ back) ++ rest)) n ≡ is_among (items_uses (items_of_blocks (front ++ short ∷ back) ++ rest)) n
  items_same [] rest n apart =
      let later : List Item = items_of_blocks back ++ rest in
      ap (λ (is : List Item). is_among (items_uses is) n) (append_assoc (init ++ Hi part to ∷ []) (items_of_blocks back) rest ∙ append_assoc init (Hi part to ∷ []) later)
      ∙ used_ahead init (Hi part to ∷ later) later n (without_half part to n later apart)
      ∙ ap (λ (is : List Item). is_among (items_uses is) n) (sym (append_assoc init (items_of_blocks back) rest))
  items_same (b ∷ front) rest n apart =
      ap (λ (is : List Item). is_among (items_uses is) n) (append_assoc b.items (items_of_blocks (front ++ long ∷ back)) rest)
      ∙ used_ahead b.items (items_of_blocks (front ++ long ∷ back) ++ rest) (items_of_blocks (front ++ short ∷ back) ++ rest) n (items_same front rest n apart)
      ∙ ap (λ (is : List Item). is_among (items_uses is) n) (sym (append_assoc b.items (items_of_blocks (front ++ short ∷ back)) rest))

  follows_here : (bs : List Block) (n : ℕ) → follows_a_term (long ∷ bs) n ≡ follows_a_term (short ∷ bs) n
  follows_here [] n = refl
  follows_here (next ∷ bs) n =
      ap (λ on. on && true && next.name == n || follows_a_term (next ∷ bs) n) (sym (goes_on_same link part to))
      ∙ ap (λ fall. goes_on (short_jump link to) && not fall && next.name == n || follows_a_term (next ∷ bs) n) (sym (no_fall link to))

  follows_same : (front : List Block) (n : ℕ) → follows_a_term (front ++ long ∷ back) n ≡ follows_a_term (front ++ short ∷ back) n
  follows_same [] n = follows_here back n
  follows_same (b ∷ []) n = ap (λ later. goes_on b.term && not (is_fall b.term) && name == n || later) (follows_same [] n)
  follows_same (b ∷ c ∷ front) n = ap (λ later. goes_on b.term && not (is_fall b.term) && c.name == n || later) (follows_same (c ∷ front) n)

  bare_short : is_bare short ≡ false
  bare_short = ap (λ fall. has_no_items init && fall) (no_fall link to) ∙ and-false (has_no_items init)

  still_solid : (front : List Block) → All (λ b. is_bare b ≡ false) (front ++ long ∷ back) → All (λ b. is_bare b ≡ false) (front ++ short ∷ back)
  still_solid [] all = All-cons (λ b. is_bare b ≡ false) short back bare_short (All-tail (λ b. is_bare b ≡ false) long back all)
  still_solid (b ∷ front) all =
      All-cons (λ b. is_bare b ≡ false) b (front ++ short ∷ back) (All-head (λ b. is_bare b ≡ false) b (front ++ long ∷ back) all) (still_solid front (All-tail (λ b. is_bare b ≡ false) b (front ++ long ∷ back) all))

  module _ (leads others : ℕ → Bool) (more : (n : ℕ) → leads n ≡ true → others n ≡ true) where
    falls_behind : (bs : List Block) → FallsIntoLeaders leads bs → FallsIntoLeaders others bs
    falls_behind [] falls = tt
    falls_behind (b ∷ []) falls = tt
    falls_behind (b ∷ next ∷ bs) falls = (λ fall. more next.name (falls.0 fall), falls_behind (next ∷ bs) falls.1)

    falls_here : (bs : List Block) → FallsIntoLeaders leads (long ∷ bs) → FallsIntoLeaders others (short ∷ bs)
    falls_here [] falls = tt
    falls_here (next ∷ bs) falls = (λ fall. absurd (let none = no_fall link to in cc), falls_behind (next ∷ bs) falls.1)

    falls_same : (front : List Block) → FallsIntoLeaders leads (front ++ long ∷ back) → FallsIntoLeaders others (front ++ short ∷ back)
    falls_same [] falls = falls_here back falls
    falls_same (b ∷ []) falls = (λ fall. more name (falls.0 fall), falls_here back falls.1)
    falls_same (b ∷ c ∷ front) falls = (λ fall. more c.name (falls.0 fall), falls_same (c ∷ front) falls.1)

  module _ (g : Graph) (front : List Block) where
    abbrev before : Graph
    before = record g { blocks = front ++ long ∷ back }

    abbrev after : Graph
    after = record g { blocks = front ++ short ∷ back }

    used_same : (n : ℕ) → is_among (uses before) n ≡ is_among (uses after) n
    used_same n =
        used_either g.entry (code_word_uses g.code_words) (terms_uses (front ++ long ∷ back)) (items_uses (items_of_blocks (front ++ long ∷ back) ++ items_of_bodies g.procedures))
        (items_uses (items_of_blocks (front ++ short ∷ back) ++ items_of_bodies g.procedures)) to n (term_used front) (items_same front (items_of_bodies g.procedures) n)
        ∙ ap (λ ts. is_among (g.entry ∷ (code_word_uses g.code_words ++ (ts ++ items_uses (items_of_blocks (front ++ short ∷ back) ++ items_of_bodies g.procedures)))) n) (sym (terms_same front))

    leads_same : (n : ℕ) → is_leader before n ≡ is_leader after n
    leads_same n = ap (λ u. u || follows_a_term (front ++ long ∷ back) n) (used_same n) ∙ ap (λ f. is_among (uses after) n || f) (follows_same front n)

    pub short_canonical : IsCanonical before → IsCanonical after
    short_canonical canonical = record {
      no_bare = still_solid front canonical.no_bare;
      leaders = falls_same (is_leader before) (is_leader after) (λ n leads. sym (leads_same n) ∙ leads) front canonical.leaders;
    }

-- ITEMS WHOSE LAST GOES

last_item : (items : List Item) (at : ℕ) (item : Item) → slice_get items at ≡ Some item → at + 1 ≡ length items → items ≡ take at items ++ item ∷ []
last_item [] at item there last = absurd (cc)
last_item (x ∷ []) zero item there last = let same : x ≡ item = cc in ap (λ y. y ∷ []) same
last_item (x ∷ y ∷ items) zero item there last = absurd (omega (arith, last))
last_item (x ∷ items) (suc at) item there last = ap (λ ys. x ∷ ys) (last_item items at item there (omega (arith, last)))

without_last : (items : List Item) (at : ℕ) → at + 1 ≡ length items → replaced_items items at 1 [] ≡ take at items
without_last items at last = ap (λ ys. take at items ++ ys) (drop_all (at + 1) items (omega (arith, last))) ∙ append-nil (take at items)

-- TWO CHANGES OF A BLOCK

changed_twice : (p q : Block → Block) (bs : List Block) (name : ℕ) (at : IsAt bs name) → ((b : Block) → (p b).name ≡ b.name) → with_blocks (λ b. q b ∷ []) (with_blocks (λ b. p b ∷ []) bs name) name ≡ at.front ++ q (p at.block) ∷ at.back
changed_twice p q bs name at same =
    with_blocks-at (λ b. q b ∷ []) (with_blocks (λ b. p b ∷ []) bs name) name
    (record {
      front = at.front;
      block = p at.block;
      back = at.back;
      whole = with_blocks-at (λ b. p b ∷ []) bs name at;
      has_name = same at.block ∙ at.has_name;
      ahead = at.ahead;
    })

-- THE GRAPH

module _ (g : Graph) (block at link part to : ℕ) (can : IsShortable g block at link part to) where
  pub spot : IsAt g.blocks block
  spot = located g.blocks block (has_term g block (PartJump link part to) can.jump)

  found : block_of g block ≡ Some spot.block
  found = block_at g.blocks block spot

  term_is : spot.block.term ≡ PartJump link part to
  term_is = let same : Some spot.block.term ≡ Some (PartJump link part to) = sym (ap block_term found) ∙ can.jump in cc

  last : at + 1 ≡ length spot.block.items
  last = can.last ∙ ap (λ o. length (block_items o)) found

  pub items_are : spot.block.items ≡ take at spot.block.items ++ Hi part to ∷ []
  items_are = last_item spot.block.items at (Hi part to) (sym (ap (λ o. slice_get (block_items o) at) found) ∙ can.half) last

  long_is : spot.block ≡ long spot.block.name link part to (take at spot.block.items) spot.back
  long_is = λ i. record { name = spot.block.name; items = items_are i; term = term_is i }

  blocks_before : g.blocks ≡ spot.front ++ long spot.block.name link part to (take at spot.block.items) spot.back ∷ spot.back
  blocks_before = spot.whole ∙ ap (λ b. spot.front ++ b ∷ spot.back) long_is

  pub blocks_after : (shortened g block at link to).blocks ≡ spot.front ++ short spot.block.name link part to (take at spot.block.items) spot.back ∷ spot.back
  blocks_after =
      changed_twice (λ b. record b { items = replaced_items b.items at 1 [] }) (λ b. record b { term = short_jump link to }) g.blocks block spot (λ b. refl)
      ∙ ap (λ items. spot.front ++ record { name = spot.block.name; items = items; term = short_jump link to } ∷ spot.back) (without_last spot.block.items at last)

  pub shorten_canonical : IsCanonical g → IsCanonical (shortened g block at link to)
  shorten_canonical canonical =
      subst (λ bs. IsCanonical (record g { blocks = bs })) (sym blocks_after)
      (short_canonical spot.block.name link part to (take at spot.block.items) spot.back g spot.front (subst (λ bs. IsCanonical (record g { blocks = bs })) blocks_before canonical))
