-- Counting what isn't reached.
use Rattle.std.proofs.Common.{◌≡◌, ℕ, suc, ◌+◌, ◌<◌, ◌≤◌, ◌^◌, ◌==◌, Bool, true, false, ◌||◌, ◌&&◌, not, nat_eq, List, [], ◌∷◌, ◌++◌, map, take, sum_by, Some, IsSome, is_some, refl, sym, ap, ◌∙◌, subst, inl, inr, ◌⊎◌, append_assoc, arith}
use Rattle.std.specs.List.{filter, flat_map}
use Rattle.std.proofs.lemmas.Bool.{cases_Bool, eqb-true, eq-eqb, ne_eqb}
use Rattle.std.proofs.lemmas.List.Sums.{sum_by-cons, sum_by-append, sum_by-take-drop}
use Rattle.std.proofs.Math.Bool.{or_assoc, or-false}
use Rattle.sq_arena.specs.Entries.{value_of}
use Rattle.sq_graph.specs.declared.item.Item.{Item}
use Rattle.sq_graph.specs.Graph.{Block, Procedure, Graph}
use Rattle.sq_graph.specs.Blocks.{named, HasBlock, block_of, block_items, items_of}
use Rattle.sq_graph.specs.Parts.{names_of}
use Rattle.sq_graph.specs.Rules.{IsGraph}
use Rattle.sq_graph.specs.Uses.{item_calls}
use Rattle.sq_graph.specs.Words.{block_words, procedure_words, words_of}
use Rattle.law_patch.specs.Restrictions.{procedures_held}
use Rattle.sq_reach.specs.Marks.{AreReached}
use Rattle.sq_pass.specs.declared.cut.Cut.{Cut}
use Rattle.sq_pass.specs.declared.cut.Row.TheVariants.{U}
use Rattle.sq_lookup.specs.Names.{is_listed}
use Rattle.sq_jumps.specs.Unreached.{stays, is_called_in, is_held, words_gone, AreUnreached}
use Rattle.sq_jumps.specs.UnreachedClear.{AreHeld}
use Rattle.sq_jumps.specs.Candidates.{IsUnreachedCut}
use Rattle.sq_jumps.proofs.UnreachedUncalled.{held_same}
use Rattle.sq_jumps.proofs.UnreachedLeft.{own_there, words_fall}

-- ONE BLOCK MORE

called_append : (keep : ℕ → Bool) (front : List Block) (b : Block) (q : ℕ) → is_called_in keep (front ++ b ∷ []) q ≡ (is_called_in keep front q || (keep b.name && is_listed (flat_map item_calls b.items) q))
called_append keep [] b q = or-false (keep b.name && is_listed (flat_map item_calls b.items) q)
called_append keep (x ∷ front) b q =
    ap (λ t. (keep x.name && is_listed (flat_map item_calls x.items) q) || t) (called_append keep front b q)
    ∙ sym (or_assoc (keep x.name && is_listed (flat_map item_calls x.items) q) (is_called_in keep front q) (keep b.name && is_listed (flat_map item_calls b.items) q))

called_more : (keep : ℕ → Bool) (front all : List Block) (b : Block) (q : ℕ) → all ≡ front ++ b ∷ [] → is_called_in keep all q ≡ (is_called_in keep front q || (keep b.name && is_listed (flat_map item_calls b.items) q))
called_more keep front all b q more = ap (λ bs. is_called_in keep bs q) more ∙ called_append keep front b q

pub called_skips : (keep : ℕ → Bool) (front all : List Block) (b : Block) (q : ℕ) → all ≡ front ++ b ∷ [] → keep b.name ≡ false → is_called_in keep all q ≡ is_called_in keep front q
called_skips keep front all b q more goes_so =
    called_more keep front all b q more ∙ ap (λ t. is_called_in keep front q || (t && is_listed (flat_map item_calls b.items) q)) goes_so ∙ or-false (is_called_in keep front q)

pub called_adds : (keep : ℕ → Bool) (front all : List Block) (b : Block) (q : ℕ) → all ≡ front ++ b ∷ [] → keep b.name ≡ true → is_called_in keep all q ≡ (is_called_in keep front q || is_listed (flat_map item_calls b.items) q)
called_adds keep front all b q more kept_so =
    called_more keep front all b q more ∙ ap (λ t. is_called_in keep front q || (t && is_listed (flat_map item_calls b.items) q)) kept_so

-- what a call tells of the items of the block
pub items_there : (g : Graph) (name : ℕ) (b : Block) (items : List Item) → block_of g name ≡ Some b → items ≡ items_of g name → items ≡ b.items
items_there g name b items found told = told ∙ ap block_items found

filter_append : (t : Block → Bool) (front : List Block) (b : Block) → sum_by block_words (filter t (front ++ b ∷ [])) ≡ sum_by block_words (filter t front) + sum_by block_words (filter t (b ∷ []))
filter_append t [] b = omega arith
filter_append t (x ∷ front) b =
    let later = filter_append t front b in
    elim (cases_Bool (t x)) [
      | inl kept ↦ rw kept (omega (arith, later, sum_by-cons block_words x (filter t (front ++ b ∷ [])), sum_by-cons block_words x (filter t front)))
      | inr goes ↦ rw goes later
    ]

pub words_more : (t : Block → Bool) (front all : List Block) (b : Block) → all ≡ front ++ b ∷ [] → t b ≡ true → sum_by block_words (filter t all) ≡ sum_by block_words (filter t front) + block_words b
words_more t front all b more kept_so =
    let last : sum_by block_words (filter t (b ∷ [])) ≡ block_words b = rw kept_so (omega (arith, sum_by-cons block_words b [])) in
    ap (λ bs. sum_by block_words (filter t bs)) more ∙ filter_append t front b ∙ ap (λ n. sum_by block_words (filter t front) + n) last

pub words_skip : (t : Block → Bool) (front all : List Block) (b : Block) → all ≡ front ++ b ∷ [] → t b ≡ false → sum_by block_words (filter t all) ≡ sum_by block_words (filter t front)
words_skip t front all b more goes_so =
    let last : sum_by block_words (filter t (b ∷ [])) ≡ 0 = rw goes_so refl in
    ap (λ bs. sum_by block_words (filter t bs)) more ∙ filter_append t front b ∙ omega (arith, last)

kept_few : (t : Block → Bool) (bs : List Block) → sum_by block_words (filter t bs) ≤ sum_by block_words bs
kept_few t [] = omega arith
kept_few t (x ∷ bs) =
    let later = kept_few t bs in
    elim (cases_Bool (t x)) [
      | inl kept ↦ rw kept (omega (arith, later, sum_by-cons block_words x (filter t bs), sum_by-cons block_words x bs))
      | inr goes ↦ rw goes (omega (arith, later, sum_by-cons block_words x bs))
    ]

-- the words so far and those of one block more
pub words_fit : (g : Graph) (t : Block → Bool) (k : ℕ) (b : Block) → words_of g < 2 ^ 31 → take (k + 1) g.blocks ≡ take k g.blocks ++ b ∷ [] → sum_by block_words (filter t (take k g.blocks)) + block_words b < 2 ^ 31
words_fit g t k b few more =
    omega (
      arith,
      few,
      kept_few t (take k g.blocks),
      ap (sum_by block_words) more,
      sum_by-append block_words (take k g.blocks) (b ∷ []),
      sum_by-cons block_words b [],
      sum_by-take-drop block_words g.blocks (k + 1),
    )

-- ONE PROCEDURE MORE

shifted : (t : ℕ → Bool) (k : ℕ) (ps : List Procedure) → procedures_held (λ q. not (t (k + suc q))) ps ≡ procedures_held (λ q. not (t (k + 1 + q))) ps
shifted t k ps = held_same (λ q. not (t (k + suc q))) (λ q. not (t (k + 1 + q))) ps (λ q below. let e : k + suc q ≡ k + 1 + q = omega arith in ap (λ n. not (t n)) e)

pub uncalled_words : (t : ℕ → Bool) (k : ℕ) (p : Procedure) (ps rest : List Procedure) → ps ≡ p ∷ rest → t k ≡ false
    → sum_by procedure_words (procedures_held (λ q. not (t (k + q))) ps) ≡ procedure_words p + sum_by procedure_words (procedures_held (λ q. not (t (k + 1 + q))) rest)
uncalled_words t k p ps rest e goes_so =
    let first : t (k + 0) ≡ false = let z : k + 0 ≡ k = omega arith in ap t z ∙ goes_so in
    ap (λ (rs : List Procedure). sum_by procedure_words (procedures_held (λ q. not (t (k + q))) rs)) e
    ∙ rw first (sum_by-cons procedure_words p (procedures_held (λ q. not (t (k + suc q))) rest))
    ∙ ap (λ (rs : List Procedure). procedure_words p + sum_by procedure_words rs) (shifted t k rest)

pub called_words : (t : ℕ → Bool) (k : ℕ) (p : Procedure) (ps rest : List Procedure) → ps ≡ p ∷ rest → t k ≡ true
    → sum_by procedure_words (procedures_held (λ q. not (t (k + q))) ps) ≡ sum_by procedure_words (procedures_held (λ q. not (t (k + 1 + q))) rest)
called_words t k p ps rest e kept_so =
    let first : t (k + 0) ≡ true = let z : k + 0 ≡ k = omega arith in ap t z ∙ kept_so in
    ap (λ (rs : List Procedure). sum_by procedure_words (procedures_held (λ q. not (t (k + q))) rs)) e
    ∙ rw first refl
    ∙ ap (λ (rs : List Procedure). sum_by procedure_words rs) (shifted t k rest)

held_few : (t : ℕ → Bool) (ps : List Procedure) → sum_by procedure_words (procedures_held t ps) ≤ sum_by procedure_words ps
held_few t [] = omega arith
held_few t (p ∷ ps) =
    let later = held_few (λ q. t (suc q)) ps in
    elim (cases_Bool (t 0)) [
      | inl held ↦ rw held (omega (arith, later, sum_by-cons procedure_words p ps, sum_by-cons procedure_words p (procedures_held (λ q. t (suc q)) ps)))
      | inr goes ↦ rw goes (omega (arith, later, sum_by-cons procedure_words p ps))
    ]

pub all_uncalled_few : (g : Graph) (t : ℕ → Bool) → words_of g < 2 ^ 31 → sum_by procedure_words (procedures_held t g.procedures) < 2 ^ 31
all_uncalled_few g t few = omega (arith, few, held_few t g.procedures)

-- WHAT ISN'T REACHED

kept_test : (t : ℕ → Bool) (xs : List ℕ) (n : ℕ) → is_listed xs n ≡ true → is_listed (filter t xs) n ≡ t n
kept_test t [] n e = absurd (cc)
kept_test t (x ∷ xs) n e =
    elim (cases_Bool (nat_eq n x)) [
      | inl same ↦ this (eqb-true n x same) (cases_Bool (t x)) (cases_Bool (is_listed xs n))
      | inr apart ↦ that apart (cases_Bool (t x)) (kept_test t xs n (rw apart at e))
    ]
  where
    gone_rest : (xs : List ℕ) → t n ≡ false → is_listed (filter t xs) n ≡ false
    gone_rest [] goes_so = refl
    gone_rest (y ∷ ys) goes_so =
        elim (cases_Bool (t y)) [
          | inl kept ↦
              let apart : nat_eq n y ≡ false = ne_eqb n y (λ same. let kept_so : t n ≡ true = ap t same ∙ kept in cc) in
              rw (kept, apart) (gone_rest ys goes_so)
          | inr goes ↦ rw goes (gone_rest ys goes_so)
        ]

    this : n ≡ x → (t x ≡ true) ⊎ (t x ≡ false) → (is_listed xs n ≡ true) ⊎ (is_listed xs n ≡ false) → is_listed (filter t (x ∷ xs)) n ≡ t n
    this same (inl kept) later =
        let own : nat_eq n x ≡ true = eq-eqb n x same in
        let kept_so : t n ≡ true = ap t same ∙ kept in
        rw (kept, own) (sym kept_so)
    this same (inr goes) later = let goes_so : t n ≡ false = ap t same ∙ goes in rw goes (gone_rest xs goes_so ∙ sym goes_so)

    that : nat_eq n x ≡ false → (t x ≡ true) ⊎ (t x ≡ false) → is_listed (filter t xs) n ≡ t n → is_listed (filter t (x ∷ xs)) n ≡ t n
    that apart (inl kept) later = rw (kept, apart) later
    that apart (inr goes) later = rw goes later

listed_name : (bs : List Block) (n : ℕ) → IsSome (value_of (named bs) n) → is_listed (map (λ (b : Block). b.name) bs) n ≡ true
listed_name [] n some = absurd (cc)
listed_name (b ∷ bs) n some =
    elim (cases_Bool (b.name == n)) [
      | inl here ↦ let own : nat_eq n b.name ≡ true = eq-eqb n b.name (sym (eqb-true b.name n here)) in rw own refl
      | inr apart ↦ or_right (nat_eq n b.name) (is_listed (map (λ (c : Block). c.name) bs) n) (listed_name bs n (rw apart at some))
    ]
  where
    or_right : (a b : Bool) → b ≡ true → (a || b) ≡ true
    or_right true b e = refl
    or_right false b e = e

-- tests that agree at the names of blocks keep the same
names_agree : (g : Graph) (t u : ℕ → Bool) → ((n : ℕ) → HasBlock g n → t n ≡ u n) → (front bs : List Block) → front ++ bs ≡ g.blocks → filter t (map (λ (b : Block). b.name) bs) ≡ filter u (map (λ (b : Block). b.name) bs)
names_agree g t u same front [] e = refl
names_agree g t u same front (b ∷ bs) e =
    let later = names_agree g t u same (front ++ b ∷ []) bs (append_assoc front (b ∷ []) bs ∙ e) in
    let here = same b.name (subst (λ (cs : List Block). IsSome (value_of (named cs) b.name)) e (own_there front b bs)) in
    elim (cases_Bool (u b.name)) [
      | inl kept ↦ let kept' = here ∙ kept in rw (kept, kept') (ap (λ ns. b.name ∷ ns) later)
      | inr goes ↦ let goes' = here ∙ goes in rw (goes, goes') later
    ]

blocks_agree : (g : Graph) (t u : ℕ → Bool) → ((n : ℕ) → HasBlock g n → t n ≡ u n) → (front bs : List Block) → front ++ bs ≡ g.blocks → filter (λ (b : Block). t b.name) bs ≡ filter (λ (b : Block). u b.name) bs
blocks_agree g t u same front [] e = refl
blocks_agree g t u same front (b ∷ bs) e =
    let later = blocks_agree g t u same (front ++ b ∷ []) bs (append_assoc front (b ∷ []) bs ∙ e) in
    let here = same b.name (subst (λ (cs : List Block). IsSome (value_of (named cs) b.name)) e (own_there front b bs)) in
    elim (cases_Bool (u b.name)) [
      | inl kept ↦ let kept' = here ∙ kept in rw (kept, kept') (ap (λ ns. b ∷ ns) later)
      | inr goes ↦ let goes' = here ∙ goes in rw (goes, goes') later
    ]

calls_agree : (g : Graph) (t u : ℕ → Bool) → ((n : ℕ) → HasBlock g n → t n ≡ u n) → (front bs : List Block) → front ++ bs ≡ g.blocks → (q : ℕ) → is_called_in t bs q ≡ is_called_in u bs q
calls_agree g t u same front [] e q = refl
calls_agree g t u same front (b ∷ bs) e q =
    let here = same b.name (subst (λ (cs : List Block). IsSome (value_of (named cs) b.name)) e (own_there front b bs)) in
    ap (λ s. (s && is_listed (flat_map item_calls b.items) q) || is_called_in t bs q) here
    ∙ ap (λ s. (u b.name && is_listed (flat_map item_calls b.items) q) || s) (calls_agree g t u same (front ++ b ∷ []) bs (append_assoc front (b ∷ []) bs ∙ e) q)

module _ (g : Graph) (marks gone : List ℕ) (rules : IsGraph g) (reached : AreReached g marks) (is : gone ≡ filter (λ n. not (is_listed marks n)) (names_of g)) where
  listed_is : (n : ℕ) → HasBlock g n → is_listed gone n ≡ not (is_listed marks n)
  listed_is n has = ap (λ xs. is_listed xs n) is ∙ kept_test (λ m. not (is_listed marks m)) (names_of g) n (listed_name g.blocks n has)

  pub are_unreached : AreUnreached g gone
  are_unreached = record {
    exact = λ n has. (
      λ stay. (reached n).0 (not_false (is_listed marks n) (sym (listed_is n has) ∙ stay)),
      λ r. listed_is n has ∙ ap not ((reached n).1 r),
    );
    in_order = is ∙ names_agree g (λ n. not (is_listed marks n)) (λ n. is_listed gone n) (λ n has. sym (listed_is n has)) [] g.blocks refl;
  }
    where
      not_false : (b : Bool) → not b ≡ false → b ≡ true
      not_false true e = refl
      not_false false e = absurd (cc)

  stays_is : (n : ℕ) → HasBlock g n → is_listed marks n ≡ stays g gone n
  stays_is n has = both (is_some (block_of g n)) (is_listed gone n) (is_listed marks n) has (listed_is n has)
    where
      both : (a b m : Bool) → a ≡ true → b ≡ not m → m ≡ (a && not b)
      both a b true e f = rw (e, f) refl
      both a b false e f = rw (e, f) refl

  -- marked blocks call what blocks that stay call
  pub held_are : (called : List ℕ) → ((q : ℕ) → is_listed called q ≡ is_called_in (is_listed marks) g.blocks q) → AreHeld g gone called
  held_are called calls = λ q. calls q ∙ calls_agree g (is_listed marks) (stays g gone) stays_is [] g.blocks refl q

  pub sums_are : (called : List ℕ) → ((q : ℕ) → is_listed called q ≡ is_called_in (is_listed marks) g.blocks q)
      → sum_by block_words (filter (λ b. not (is_listed marks b.name)) g.blocks) + sum_by procedure_words (procedures_held (λ q. not (is_listed called q)) g.procedures) ≡ words_gone g gone
  sums_are called calls =
      ap (λ (bs : List Block). sum_by block_words bs + sum_by procedure_words (procedures_held (λ q. not (is_listed called q)) g.procedures)) (blocks_agree g (λ n. not (is_listed marks n)) (λ n. is_listed gone n) (λ n has. sym (listed_is n has)) [] g.blocks refl)
      ∙ ap (λ (ps : List Procedure). sum_by block_words (filter (λ b. is_listed gone b.name) g.blocks) + sum_by procedure_words ps)
      (held_same (λ q. not (is_listed called q)) (λ q. not (is_held g gone q)) g.procedures (λ q below. ap not (held_are called calls q)))

  pub gone_few : words_of g < 2 ^ 31 → words_gone g gone < 2 ^ 31
  gone_few few = omega (arith, few, words_fall g gone rules are_unreached)

-- the blocks that aren't reached are always the same
pub unreached_once : (g : Graph) (a b : List ℕ) → AreUnreached g a → AreUnreached g b → a ≡ b
unreached_once g a b one other =
    one.in_order ∙ names_agree g (λ n. is_listed a n) (λ n. is_listed b n) agree [] g.blocks refl ∙ sym other.in_order
  where
    same_test : (s t : Bool) → (s ≡ false → t ≡ false) → (t ≡ false → s ≡ false) → s ≡ t
    same_test true true f h = refl
    same_test true false f h = h refl
    same_test false true f h = sym (f refl)
    same_test false false f h = refl

    agree : (n : ℕ) → HasBlock g n → is_listed a n ≡ is_listed b n
    agree n has = same_test (is_listed a n) (is_listed b n) (λ e. (other.exact n has).1 ((one.exact n has).0 e)) (λ e. (one.exact n has).1 ((other.exact n has).0 e))

pub none_unreached : (g : Graph) (gone : List ℕ) → AreUnreached g gone → words_gone g gone ≡ 0 → (cut : Cut) → IsUnreachedCut g cut → ⊥
none_unreached g gone are none cut u =
    let same : cut.blocks ≡ gone = unreached_once g cut.blocks gone u.unreached are in
    let some = u.some in
    let saving = u.saving in
    let words : words_gone g cut.blocks ≡ 0 = ap (words_gone g) same ∙ none in
    omega arith

-- the cut of what isn't reached
abbrev pub cut_of : List ℕ → ℕ → Cut
cut_of gone saving =
    record { row = U; blocks = gone; procedure = 0; other = 0; length = 0; link = 0; saving = saving }

pub cut_is : (g : Graph) (gone : List ℕ) (saving : ℕ) → AreUnreached g gone → saving ≡ words_gone g gone → 1 ≤ saving → IsUnreachedCut g (cut_of gone saving)
cut_is g gone saving are words some = record {
  row = refl;
  unreached = are;
  procedure = refl;
  other = refl;
  length = refl;
  link = refl;
  saving = words;
  some = some;
}
