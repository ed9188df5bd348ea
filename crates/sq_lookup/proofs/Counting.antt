-- How often a graph uses names, and what keeps that.
use Rattle.std.proofs.Common.{◌≡◌, ℕ, ◌+◌, ◌<◌, ◌≤◌, ◌==◌, if◌then◌else◌, Bool, true, false, ◌||◌, not, List, [], ◌∷◌, ◌++◌, length, take, drop, get_or, refl, sym, ap, ◌∙◌, inl, inr, take-append-drop, arith}
use Rattle.std.proofs.lemmas.Bool.{cases_Bool, eqb-true, eqb-false, ne_eqb}
use Rattle.std.proofs.lemmas.List.{map-append, take_more}
use Rattle.std.proofs.lemmas.List.Concat.{flat_map-append}
use Rattle.std.proofs.Math.Bool.{or_comm}
use Rattle.std.specs.List.{flat_map}
use Rattle.sq_arena.specs.Entries.{value_of}
use Rattle.sq_isa.specs.Registers.{is_among}
use Rattle.sq_graph.specs.declared.parts.CodeRef.{CodeRef}
use Rattle.sq_graph.specs.Graph.{Block, Graph}
use Rattle.sq_graph.specs.Blocks.{named, block_items, items_of, items_of_blocks, items_of_bodies, all_items}
use Rattle.sq_graph.specs.Uses.{item_uses, term_uses, items_uses, terms_uses, code_word_uses, uses}
use Rattle.sq_graph.specs.Canonical.{joined_by}
use Rattle.sq_graph.proofs.CanonicalLaws.{all_items-joined_by}
use Rattle.sq_graph.proofs.Joined.{terms_uses-joined}
use Rattle.sq_lookup.specs.Names.{is_listed, held_uses}
use Rattle.sq_lookup.proofs.Adding.{among_listed, is_listed-append, used_or_held, uses_of_blocks, uses_of_bodies}
use Rattle.sq_lookup.specs.Counts.{count_at, times_named, word_uses, AreUses}
use Rattle.sq_lookup.specs.declared.counts.Uses.{Uses}

pub times-append : (xs ys : List ℕ) (n : ℕ) → times_named (xs ++ ys) n ≡ times_named xs n + times_named ys n
times-append [] ys n = omega arith
times-append (x ∷ xs) ys n = omega (arith, times-append xs ys n)

-- a name is used where it is used once at least
pub among_times : (xs : List ℕ) (n : ℕ) → is_among xs n ≡ not (times_named xs n == 0)
among_times [] n = refl
among_times (x ∷ xs) n =
    elim (cases_Bool (x == n)) [
      | inl here ↦ rw here (sym (ap not (ne_eqb (1 + times_named xs n) 0 (λ none. omega (arith, none)))))
      | inr apart ↦ rw apart (among_times xs n ∙ ap (λ k. not (k == 0)) (more (times_named xs n)))
    ]
  where
    more : (k : ℕ) → k ≡ 0 + k
    more k = omega arith

pub some_times : (xs : List ℕ) (n : ℕ) → is_among xs n ≡ true → 1 ≤ times_named xs n
some_times xs n some =
    elim (cases_Bool (times_named xs n == 0)) [
      | inl zero ↦ absurd (cc (rw zero at (sym (among_times xs n) ∙ some)))
      | inr more ↦ omega (arith, eqb-false (times_named xs n) 0 more)
    ]

pub none_times : (xs : List ℕ) (n : ℕ) → is_among xs n ≡ false → times_named xs n ≡ 0
none_times xs n none =
    elim (cases_Bool (times_named xs n == 0)) [
      | inl zero ↦ eqb-true (times_named xs n) 0 zero
      | inr more ↦ absurd (cc (rw more at (sym (among_times xs n) ∙ none)))
    ]

pub times_some : (xs : List ℕ) (n : ℕ) → 1 ≤ times_named xs n → is_among xs n ≡ true
times_some xs n some = among_times xs n ∙ ap not (ne_eqb (times_named xs n) 0 (λ none. omega (arith, none, some)))

pub among_same : (xs ys : List ℕ) (n : ℕ) → times_named xs n ≡ times_named ys n → is_among xs n ≡ is_among ys n
among_same xs ys n same = among_times xs n ∙ ap (λ k. not (k == 0)) same ∙ sym (among_times ys n)

pub times_flat : {X : Type 0} (f : X → List ℕ) (xs ys : List X) (n : ℕ) → times_named (flat_map f (xs ++ ys)) n ≡ times_named (flat_map f xs) n + times_named (flat_map f ys) n
times_flat f xs ys n = ap (λ us. times_named us n) (flat_map-append f xs ys) ∙ times-append (flat_map f xs) (flat_map f ys) n

-- A GRAPH

times_items : (g : Graph) (n : ℕ) → times_named (items_uses (all_items g)) n ≡ times_named (flat_map (λ b. items_uses b.items) g.blocks) n + times_named (items_uses (items_of_bodies g.procedures)) n
times_items g n =
    times_flat item_uses (items_of_blocks g.blocks) (items_of_bodies g.procedures) n
    ∙ ap (λ us. times_named us n + times_named (items_uses (items_of_bodies g.procedures)) n) (sym (uses_of_blocks g.blocks))

-- those of one block are no more
pub times_own : (g : Graph) (block n : ℕ) → times_named (items_uses (items_of g block)) n ≤ times_named (items_uses (all_items g)) n
times_own g block n = omega (arith, times_items g n, in_blocks g.blocks)
  where
    in_blocks : (bs : List Block) → times_named (items_uses (block_items (value_of (named bs) block))) n ≤ times_named (flat_map (λ b. items_uses b.items) bs) n
    in_blocks [] = omega arith
    in_blocks (b ∷ bs) =
        let parts = times-append (items_uses b.items) (flat_map (λ c. items_uses c.items) bs) n in
        elim (cases_Bool (b.name == block)) [
          | inl here ↦ rw here (omega (arith, parts))
          | inr apart ↦ rw apart (omega (arith, parts, in_blocks bs))
        ]

-- names in items depend on the items of the blocks alone
pub times_in_items : (g : Graph) (bs : List Block) (n : ℕ) → times_named (flat_map (λ b. items_uses b.items) bs) n ≡ times_named (flat_map (λ b. items_uses b.items) g.blocks) n → times_named (items_uses (all_items (record g { blocks = bs }))) n ≡ times_named (items_uses (all_items g)) n
times_in_items g bs n same = omega (arith, same, times_items (record g { blocks = bs }) n, times_items g n)

-- and so do those that are held
pub times_held : (g : Graph) (bs : List Block) (n : ℕ) → times_named (flat_map (λ b. items_uses b.items) bs) n ≡ times_named (flat_map (λ b. items_uses b.items) g.blocks) n → times_named (held_uses (record g { blocks = bs })) n ≡ times_named (held_uses g) n
times_held g bs n same =
    omega (
      arith,
      times_in_items g bs n same,
      times-append (code_word_uses g.code_words) (items_uses (all_items (record g { blocks = bs }))) n,
      times-append (code_word_uses g.code_words) (items_uses (all_items g)) n,
    )

times_uses : (g : Graph) (n : ℕ) → times_named (uses g) n ≡ times_named (held_uses g) n + times_named (terms_uses g.blocks) n
times_uses g n =
    omega (
      arith,
      times-append (code_word_uses g.code_words) (terms_uses g.blocks ++ items_uses (all_items g)) n,
      times-append (terms_uses g.blocks) (items_uses (all_items g)) n,
      times-append (code_word_uses g.code_words) (items_uses (all_items g)) n,
    )

-- a name is used where it is held, or a term names it
pub among_uses : (g : Graph) (n : ℕ) → is_among (uses g) n ≡ (is_among (held_uses g) n || is_among (terms_uses g.blocks) n)
among_uses g n =
    among_listed (uses g) n ∙ used_or_held g n
    ∙ ap (λ t. t || is_listed (terms_uses g.blocks) n) (sym (among_listed (held_uses g) n))
    ∙ ap (λ t. is_among (held_uses g) n || t) (sym (among_listed (terms_uses g.blocks) n))

-- or where an item, the entry or a code word, or a term names it
pub among_parts : (g : Graph) (n : ℕ) → is_among (uses g) n ≡ ((is_among (items_uses (all_items g)) n || is_among (word_uses g) n) || is_among (terms_uses g.blocks) n)
among_parts g n =
    let W = word_uses g in
    let I = items_uses (all_items g) in
    let held : is_among (held_uses g) n ≡ (is_among I n || is_among W n) =
    among_listed (W ++ I) n ∙ is_listed-append W I n ∙ or_comm (is_listed W n) (is_listed I n)
    ∙ ap (λ t. t || is_listed W n) (sym (among_listed I n)) ∙ ap (λ t. is_among I n || t) (sym (among_listed W n)) in
    among_uses g n ∙ ap (λ t. t || is_among (terms_uses g.blocks) n) held

pub used_same : (g h : Graph) (n : ℕ) → times_named (held_uses h) n ≡ times_named (held_uses g) n → times_named (terms_uses h.blocks) n ≡ times_named (terms_uses g.blocks) n → is_among (uses h) n ≡ is_among (uses g) n
used_same g h n held terms =
    among_same (uses h) (uses g) n (omega (arith, times_uses h n, times_uses g n, held, terms))

-- whether the entry or a code word names it
pub worded_is : (g : Graph) (they : Uses) (n : ℕ) → AreUses g they → not (count_at they.words.items n == 0) ≡ is_among (word_uses g) n
worded_is g they n are = ap (λ k. not (k == 0)) (are.words n) ∙ sym (among_times (word_uses g) n)

-- whether an item names it
pub itemed_is : (g : Graph) (they : Uses) (n : ℕ) → AreUses g they → not (count_at they.items.items n == 0) ≡ is_among (items_uses (all_items g)) n
itemed_is g they n are = ap (λ k. not (k == 0)) (are.items n) ∙ sym (among_times (items_uses (all_items g)) n)

pub used_is : (g : Graph) (they : Uses) (n : ℕ) → AreUses g they → ((is_among (items_uses (all_items g)) n || is_among (word_uses g) n) || not (count_at they.terms.items n == 0)) ≡ is_among (uses g) n
used_is g they n are =
    ap (λ t. (is_among (items_uses (all_items g)) n || is_among (word_uses g) n) || t) (ap (λ k. not (k == 0)) (are.terms n) ∙ sym (among_times (terms_uses g.blocks) n))
    ∙ sym (among_parts g n)

-- another graph with as many uses
pub uses_keep : (g h : Graph) (they : Uses) → ((n : ℕ) → times_named (items_uses (all_items h)) n ≡ times_named (items_uses (all_items g)) n) → ((n : ℕ) → times_named (word_uses h) n ≡ times_named (word_uses g) n) → ((n : ℕ) → times_named (terms_uses h.blocks) n ≡ times_named (terms_uses g.blocks) n) → AreUses g they → AreUses h they
uses_keep g h they items words terms are = record {
  items = λ n. are.items n ∙ sym (items n);
  words = λ n. are.words n ∙ sym (words n);
  terms = λ n. are.terms n ∙ sym (terms n);
}

-- joining keeps them
pub uses_joined : (leads : ℕ → Bool) (g : Graph) (they : Uses) → AreUses g they → AreUses (joined_by leads g) they
uses_joined leads g they are =
    uses_keep g (joined_by leads g) they
    (λ n. ap (λ is. times_named (items_uses is) n) (all_items-joined_by leads g))
    (λ n. refl)
    (λ n. ap (λ us. times_named us n) (terms_uses-joined leads g.blocks))
    are

-- COUNTING

-- the same where the list with one more is known
pub times_last : {X : Type 0} (f : X → List ℕ) (front all : List X) (x : X) (n : ℕ) → all ≡ front ++ x ∷ [] → times_named (flat_map f all) n ≡ times_named (f x) n + times_named (flat_map f front) n
times_last f front all x n more =
    omega (
      arith,
      ap (λ xs. times_named (flat_map f xs) n) more,
      times_flat f front (x ∷ []) n,
      times_append_none (f x),
    )
  where
    times_append_none : (us : List ℕ) → times_named (us ++ []) n ≡ times_named us n
    times_append_none us = omega (arith, times-append us [] n)

-- the items of a graph, those of blocks first
pub times_all : (g : Graph) (n : ℕ) → times_named (items_uses (all_items g)) n ≡ times_named (flat_map (λ p. items_uses p.body) g.procedures) n + times_named (flat_map (λ b. items_uses b.items) g.blocks) n
times_all g n = omega (arith, times_items g n, ap (λ us. times_named us n) (uses_of_bodies g.procedures))

-- the names of one more element
pub times_more : {X : Type 0} (f : X → List ℕ) (xs : List X) (i : ℕ) (x : X) (n : ℕ) → i < length xs → x ≡ get_or xs i x → times_named (flat_map f (take (i + 1) xs)) n ≡ times_named (f x) n + times_named (flat_map f (take i xs)) n
times_more f xs i x n within is =
    times_last f (take i xs) (take (i + 1) xs) x n (take_more xs i x within ∙ ap (λ y. take i xs ++ y ∷ []) (sym is))

-- the names of some of them are no more
pub times_front : {X : Type 0} (f : X → List ℕ) (xs : List X) (i n : ℕ) → times_named (flat_map f (take i xs)) n ≤ times_named (flat_map f xs) n
times_front f xs i n =
    omega (arith, ap (λ ys. times_named (flat_map f ys) n) (take-append-drop i xs), times_flat f (take i xs) (drop i xs) n)

-- the terms of one more block
pub times_pushed : (front all : List Block) (b : Block) (n : ℕ) → all ≡ front ++ b ∷ [] → times_named (terms_uses all) n ≡ times_named (term_uses b.term) n + times_named (terms_uses front) n
times_pushed front all b n more = times_last (λ (x : Block). term_uses x.term) front all b n more

-- one more code word
pub times_word : (words : List CodeRef) (i n : ℕ) (none : CodeRef) → i < length words → times_named (code_word_uses (take (i + 1) words)) n ≡ (if (get_or words i none).block == n then 1 else 0) + times_named (code_word_uses (take i words)) n
times_word words i n none within =
    omega (
      arith,
      ap (λ us. times_named us n) (ap code_word_uses (take_more words i none within) ∙ map-append (λ (w : CodeRef). w.block) (take i words) (get_or words i none ∷ [])),
      times-append (code_word_uses (take i words)) ((get_or words i none).block ∷ []) n,
    )
