-- Blocks go that nothing uses, and into which nothing that stays goes on.
use Rattle.std.proofs.Common.{◌≡◌, ◌≢◌, ℕ, ◌+◌, ◌<◌, ◌≤◌, ◌==◌, Bool, true, false, not, nat_eq, List, [], ◌∷◌, drop, add-one, drop-cons, length, get_or, Option, None, Some, is_some, refl, sym, ap, ◌∙◌, subst, inl, inr, arith}
use Rattle.std.specs.List.{All, filter}
use Rattle.std.proofs.lemmas.Bool.{cases_Bool, eqb-true, eqb-false, eq-eqb, or_left, or_right, or_parts}
use Rattle.std.proofs.lemmas.List.Elements.{All-tail, All-append, All-weaker}
use Rattle.sq_arena.specs.Entries.{HasDistinctKeys, value_of, first_key, next_key}
use Rattle.sq_arena.specs.Links.{times, places}
use Rattle.sq_arena.proofs.EntriesLaws.{distinct_keys, times_at_most_once, distinct_back}
use Rattle.sq_graph.specs.declared.item.Term.{Term}
use Rattle.sq_graph.specs.Graph.{Block, Graph}
use Rattle.sq_graph.specs.Blocks.{named, HasBlock, HasProcedure, block_term}
use Rattle.sq_graph.specs.Operations.{with_blocks, without_block}
use Rattle.sq_graph.specs.Rules.{IsGraph}
use Rattle.sq_graph.specs.Terms.{goes_on}
use Rattle.sq_graph.specs.Uses.{uses}
use Rattle.sq_graph.proofs.Kept.{absent_behind}
use Rattle.sq_graph.proofs.Located.{located}
use Rattle.sq_graph.proofs.Eachs.{All-left, All-right}
use Rattle.sq_graph.proofs.Changes.{with_blocks-at}
use Rattle.sq_graph.proofs.RulesByBlock.{BlockStands, by_block, all_named}
use Rattle.sq_lookup.specs.Names.{is_listed}
use Rattle.sq_jumps.specs.UnreachedClear.{without_each, first_listed, AreApart, MayGo}
use Rattle.sq_layout.proofs.Standing.{block_of-without}
use Rattle.sq_jumps.proofs.Ruled.{ends_without, without_rules}

-- the blocks whose names aren't in the list
abbrev pub left_of : List ℕ → List Block → List Block
left_of gone bs = filter (λ b. not (is_listed gone b.name)) bs

fewer : (test : Block → Bool) (bs : List Block) (p : Option ℕ) → times p (places (named (filter test bs))) ≤ times p (places (named bs))
fewer test [] p = omega arith
fewer test (b ∷ bs) p =
    let l = fewer test bs p in
    elim (cases_Bool (test b)) [ inl stays ↦ rw stays (omega arith) | inr goes ↦ rw goes (omega arith) ]

pub filter_distinct : (test : Block → Bool) (bs : List Block) → HasDistinctKeys (named bs) → HasDistinctKeys (named (filter test bs))
filter_distinct test bs distinct = distinct_keys (named (filter test bs)) (λ p. omega (arith, fewer test bs p, times_at_most_once (named bs) distinct p))

rest_stays : (bs : List Block) (n : ℕ) → value_of (named bs) n ≡ None → left_of (n ∷ []) bs ≡ bs
rest_stays [] n none = refl
rest_stays (b ∷ bs) n none =
    elim (cases_Bool (b.name == n)) [
      | inl here ↦ absurd (cc (rw here at none))
      | inr apart ↦ rw apart (ap (λ cs. b ∷ cs) (rest_stays bs n (rw apart at none)))
    ]

one_goes : (bs : List Block) (n : ℕ) → HasDistinctKeys (named bs) → with_blocks (λ b. []) bs n ≡ left_of (n ∷ []) bs
one_goes [] n distinct = refl
one_goes (b ∷ bs) n distinct =
    elim (cases_Bool (b.name == n)) [
      | inl here ↦ rw here (sym (rest_stays bs n (subst (λ k. value_of (named bs) k ≡ None) (eqb-true b.name n here) (absent_behind (b.name, b) (named bs) distinct))))
      | inr apart ↦ rw apart (ap (λ cs. b ∷ cs) (one_goes bs n (distinct_back ((b.name, b) ∷ []) (named bs) distinct)))
    ]

both_go : (n : ℕ) (rest : List ℕ) (bs : List Block) → left_of rest (left_of (n ∷ []) bs) ≡ left_of (n ∷ rest) bs
both_go n rest [] = refl
both_go n rest (b ∷ bs) =
    elim (cases_Bool (nat_eq b.name n)) [
      | inl here ↦ rw here (both_go n rest bs)
      | inr apart ↦
          elim (cases_Bool (is_listed rest b.name)) [
            | inl later ↦ rw (apart, later) (both_go n rest bs)
            | inr stays ↦ rw (apart, stays) (ap (λ cs. b ∷ cs) (both_go n rest bs))
          ]
    ]

none_goes : (bs : List Block) → left_of [] bs ≡ bs
none_goes [] = refl
none_goes (b ∷ bs) = ap (λ cs. b ∷ cs) (none_goes bs)

pub each_goes : (gone : List ℕ) (g : Graph) → HasDistinctKeys (named g.blocks) → without_each gone g ≡ record g { blocks = left_of gone g.blocks }
each_goes [] g distinct = ap (λ (bs : List Block). record g { blocks = bs }) (sym (none_goes g.blocks))
each_goes (n ∷ rest) g distinct =
    let one : without_block g n ≡ record g { blocks = left_of (n ∷ []) g.blocks } = ap (λ (bs : List Block). record g { blocks = bs }) (one_goes g.blocks n distinct) in
    ap (without_each rest) one
    ∙ each_goes rest (record g { blocks = left_of (n ∷ []) g.blocks }) (filter_distinct (λ b. not (is_listed (n ∷ []) b.name)) g.blocks distinct)
    ∙ ap (λ (bs : List Block). record g { blocks = bs }) (both_go n rest g.blocks)

-- WHAT MAY GO

listed_first : (n : ℕ) (rest : List ℕ) → is_listed (n ∷ rest) n ≡ true
listed_first n rest = or_left (nat_eq n n) (is_listed rest n) (eq-eqb n n refl)

listed_later : (n m : ℕ) (rest : List ℕ) → is_listed rest m ≡ true → is_listed (n ∷ rest) m ≡ true
listed_later n m rest e = or_right (nat_eq m n) (is_listed rest m) e

not_listed : (n m : ℕ) (rest : List ℕ) → is_listed (n ∷ rest) m ≡ false → (m ≢ n) × (is_listed rest m ≡ false)
not_listed n m rest e = let both = or_parts (nat_eq m n) (is_listed rest m) e in (eqb-false m n both.0, both.1)

first_weaker : (n : ℕ) (rest : List ℕ) (bs : List Block) → first_listed rest bs ≡ true → first_listed (n ∷ rest) bs ≡ true
first_weaker n rest [] e = absurd (cc)
first_weaker n rest (b ∷ bs) e = listed_later n b.name rest e

apart_weaker : (n : ℕ) (rest : List ℕ) (bs : List Block) → AreApart (n ∷ rest) bs → AreApart rest bs
apart_weaker n rest [] apart = tt
apart_weaker n rest (b ∷ bs) apart = (λ e. apart.0 (first_weaker n rest bs e), apart_weaker n rest bs apart.1)

-- once a block of the list is gone
apart_without : (n : ℕ) (rest : List ℕ) (bs : List Block) → AreApart (n ∷ rest) bs → AreApart rest (with_blocks (λ b. []) bs n)
apart_without n rest [] apart = tt
apart_without n rest (b ∷ bs) apart =
    elim (cases_Bool (b.name == n)) [
      | inl here ↦ rw here (apart_weaker n rest bs apart.1)
      | inr other ↦ rw other (λ e. apart.0 (first_was bs e), apart_without n rest bs apart.1)
    ]
  where
    first_was : (bs : List Block) → first_listed rest (with_blocks (λ b. []) bs n) ≡ true → first_listed (n ∷ rest) bs ≡ true
    first_was [] e = absurd (cc)
    first_was (c ∷ cs) e =
        elim (cases_Bool (c.name == n)) [
          | inl here ↦ or_left (nat_eq c.name n) (is_listed rest c.name) here
          | inr other ↦ listed_later n c.name rest (rw other at e)
        ]

entered_in : (n : ℕ) (rest : List ℕ) (bs : List Block) (before : ℕ) (t : Term) → AreApart (n ∷ rest) bs → next_key (named bs) before ≡ Some n → block_term (value_of (named bs) before) ≡ Some t → goes_on t ≡ false
entered_in n rest [] before t apart next is = absurd (cc)
entered_in n rest (b ∷ bs) before t apart next is =
    elim (cases_Bool (b.name == before)) [
      | inl here ↦
          let own : b.term ≡ t = same b.term t (rw here at is) in
          ap goes_on (sym own) ∙ apart.0 (first bs (rw here at next))
      | inr other ↦ entered_in n rest bs before t apart.1 (rw other at next) (rw other at is)
    ]
  where
    same : (s t : Term) → Some s ≡ Some t → s ≡ t
    same s t e = cc

    first : (bs : List Block) → first_key (named bs) ≡ Some n → first_listed (n ∷ rest) bs ≡ true
    first [] e = absurd (cc)
    first (c ∷ cs) e = let name : c.name ≡ n = cc in or_left (nat_eq c.name n) (is_listed rest c.name) (eq-eqb c.name n name)

module _ (g : Graph) (n : ℕ) (rest : List ℕ) (rules : IsGraph g) (may : MayGo g (n ∷ rest)) where
  pub goes_there : HasBlock g n
  goes_there = may.there n (listed_first n rest)

  pub goes_rules : IsGraph (without_block g n)
  goes_rules =
      without_rules g n rules goes_there (All-weaker (λ m. is_listed (n ∷ rest) m ≡ false) (λ m. m ≢ n) (λ m e. (not_listed n m rest e).0) (uses g) may.unused)
      (ends_without g n rules goes_there (λ before t next is. entered_in n rest g.blocks before t may.apart next is))

  unused_without : All (λ m. is_listed rest m ≡ false) (uses (without_block g n))
  unused_without =
      let N : ℕ → Type 0 = λ m. is_listed rest m ≡ false in
      let C = HasProcedure g in
      let B = BlockStands N C in
      let at = located g.blocks n goes_there in
      let by = by_block N C g rules (All-weaker (λ m. is_listed (n ∷ rest) m ≡ false) (λ m. is_listed rest m ≡ false) (λ m e. (not_listed n m rest e).1) (uses g) may.unused) rules.called_all in
      let parts = with_blocks-at (λ b. []) g.blocks n at in
      let old = subst (λ (bs : List Block). All B bs) at.whole by.blocks in
      let rules' = goes_rules in
      all_named N C (without_block g n)
      (record {
        distinct = rules'.distinct;
        entry = by.entry;
        words = by.words;
        ends = rules'.ends;
        ascending = by.ascending;
        blocks = subst (λ (bs : List Block). All B bs) (sym parts) (All-append B at.front at.back (All-left B at.front (at.block ∷ at.back) old) (All-tail B at.block at.back (All-right B at.front (at.block ∷ at.back) old)));
        bodies = by.bodies;
      })

  pub others_may : MayGo (without_block g n) rest
  others_may = record {
    there = λ m listed.
        let other : m ≢ n = λ same. let yes : is_listed rest n ≡ true = subst (λ k. is_listed rest k ≡ true) same listed in let no = may.once.0 in cc in
        ap is_some (block_of-without g.blocks n m other) ∙ may.there m (listed_later n m rest listed);
    once = may.once.1;
    unused = unused_without;
    apart = apart_without n rest g.blocks may.apart;
  }

-- a list from a position on
pub split_at_index : (xs : List ℕ) (k : ℕ) → k < length xs → drop k xs ≡ get_or xs k 0 ∷ drop (k + 1) xs
split_at_index xs k below = rw add-one (drop-cons xs k 0 below)

pub all_behind : (P Q : ℕ → Type 0) (xs : List ℕ) (k : ℕ) → k < length xs → ((n : ℕ) → P n → Q n) → All P (drop k xs) → All Q (drop (k + 1) xs)
all_behind P Q xs k below weaker all =
    All-weaker P Q weaker (drop (k + 1) xs) (All-tail P (get_or xs k 0) (drop (k + 1) xs) (subst (λ (ys : List ℕ). All P ys) (split_at_index xs k below) all))
