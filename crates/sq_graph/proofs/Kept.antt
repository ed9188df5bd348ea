-- What is kept where the blocks that are empty with Fall go.
use Rattle.std.proofs.Common.{◌≡◌, ℕ, ◌≤◌, ◌==◌, true, false, not, List, [], ◌∷◌, ◌++◌, map, length, Option, None, Some, IsSome, refl, sym, ap, ◌∙◌, subst, inl, inr, arith}
use Rattle.std.proofs.lemmas.Bool.{cases_Bool, eqb-true, eqb-false, eq-eqb, ne_eqb, not-true}
use Rattle.std.proofs.lemmas.List.Elements.{All-weaker, filter_passes}
use Rattle.std.proofs.lemmas.List.Sums.{sum_by-cons}
use Rattle.std.specs.List.{All, flat_map, sum_by}
use Rattle.sq_arena.specs.Entries.{HasDistinctKeys, value_of}
use Rattle.sq_arena.specs.Links.{times, places}
use Rattle.sq_arena.proofs.Paths.{once_same}
use Rattle.sq_arena.proofs.EntriesLaws.{value_of-absent, distinct_keys, times_at_most_once, distinct_back}
use Rattle.sq_graph.specs.declared.item.Term.{Term}
use Rattle.sq_graph.specs.declared.item.Term.TheVariants.{Fall, Jump, Branch, Call, PartJump, Indirect, Stop}
use Rattle.sq_graph.specs.Graph.{Block}
use Rattle.sq_graph.specs.Blocks.{named, items_of_blocks}
use Rattle.sq_graph.specs.Uses.{term_uses, terms_uses}
use Rattle.sq_graph.specs.Rules.{last_goes_on}
use Rattle.sq_graph.specs.Words.{term_words, block_words}
use Rattle.sq_graph.specs.Renames.{retargeted_block}
use Rattle.sq_graph.specs.Leaders.{is_fall, is_bare}
use Rattle.sq_graph.specs.Bypasses.{kept, passed}
use Rattle.sq_graph.proofs.Bypassing.{falls_on, bare_falls, bare_items, ends_tail, is_bare-other, passed-absent}

-- a part of a block that one that is empty with Fall hasn't
pub flat_map-kept : {X : Type 0} (h : Block → List X) → ((b : Block) → is_bare b ≡ true → h b ≡ []) → (bs : List Block) → flat_map h (kept bs) ≡ flat_map h bs
flat_map-kept h none [] = refl
flat_map-kept h none (b ∷ bs) =
    elim (cases_Bool (is_bare b)) [
      | inl bare ↦ rw bare (flat_map-kept h none bs ∙ ap (λ xs. xs ++ flat_map h bs) (sym (none b bare)))
      | inr solid ↦ rw solid (ap (λ xs. h b ++ xs) (flat_map-kept h none bs))
    ]

pub fall_uses : (t : Term) → is_fall t ≡ true → term_uses t ≡ []
fall_uses Fall fall = refl
fall_uses (Jump to) fall = absurd (cc)
fall_uses (Branch c a b to) fall = absurd (cc)
fall_uses (Call link to) fall = absurd (cc)
fall_uses (PartJump link part to) fall = absurd (cc)
fall_uses (Indirect link at offset) fall = refl
fall_uses (Stop word) fall = refl

pub fall_words : (t : Term) → is_fall t ≡ true → term_words t ≡ 0
fall_words Fall fall = refl
fall_words (Jump to) fall = absurd (cc)
fall_words (Branch c a b to) fall = absurd (cc)
fall_words (Call link to) fall = absurd (cc)
fall_words (PartJump link part to) fall = absurd (cc)
fall_words (Indirect link at offset) fall = absurd (cc)
fall_words (Stop word) fall = absurd (cc)

pub items_of_blocks-kept : (bs : List Block) → items_of_blocks (kept bs) ≡ items_of_blocks bs
items_of_blocks-kept bs = flat_map-kept (λ b. b.items) bare_items bs

pub terms_uses-kept : (bs : List Block) → terms_uses (kept bs) ≡ terms_uses bs
terms_uses-kept bs = flat_map-kept (λ b. term_uses b.term) (λ b bare. fall_uses b.term (bare_falls b bare)) bs

pub words-kept : (bs : List Block) → sum_by block_words (kept bs) ≡ sum_by block_words bs
words-kept [] = refl
words-kept (b ∷ bs) =
    elim (cases_Bool (is_bare b)) [
      | inl bare ↦
          rw bare
          (omega (arith, words-kept bs, sum_by-cons block_words b bs, ap (λ is. length is) (bare_items b bare), fall_words b.term (bare_falls b bare)))
      | inr solid ↦
          rw solid
          (omega (arith, words-kept bs, sum_by-cons block_words b bs, sum_by-cons block_words b (kept bs)))
    ]

pub length-kept : (bs : List Block) → length (kept bs) ≤ length bs
length-kept [] = omega arith
length-kept (b ∷ bs) =
    elim (cases_Bool (is_bare b)) [
      | inl bare ↦ rw bare (omega (arith, length-kept bs))
      | inr solid ↦ rw solid (omega (arith, length-kept bs))
    ]

-- other names are the same blocks kept
pub kept-other : (f : ℕ → ℕ) (bs : List Block) → kept (map (retargeted_block f) bs) ≡ map (retargeted_block f) (kept bs)
kept-other f [] = refl
kept-other f (b ∷ bs) =
    let same = is_bare-other f b in
    elim (cases_Bool (is_bare b)) [
      | inl bare ↦ rw (same ∙ bare, bare) (kept-other f bs)
      | inr solid ↦ rw (same ∙ solid, solid) (ap (λ cs. retargeted_block f b ∷ cs) (kept-other f bs))
    ]

pub none_bare : (bs : List Block) → All (λ b. is_bare b ≡ false) (kept bs)
none_bare bs = All-weaker {X = Block} (λ b. not (is_bare b) ≡ true) (λ b. is_bare b ≡ false) (λ b passes. not-true (is_bare b) passes) (kept bs) (filter_passes {X = Block} (λ b. not (is_bare b)) bs)

-- the last block stays
last_stays : (b : Block) (bs : List Block) → last_goes_on bs ≡ false → last_goes_on (b ∷ kept bs) ≡ last_goes_on (b ∷ bs)
last_stays b [] ends = refl
last_stays b (c ∷ []) ends =
    elim (cases_Bool (is_bare c)) [
      | inl bare ↦ absurd (cc (falls_on c.term (bare_falls c bare), ends))
      | inr solid ↦ rw solid refl
    ]
last_stays b (c ∷ d ∷ bs) ends =
    elim (cases_Bool (is_bare c)) [
      | inl bare ↦ rw bare (last_stays b (d ∷ bs) ends)
      | inr solid ↦ rw solid (last_stays c (d ∷ bs) ends)
    ]

pub ends-kept : (bs : List Block) → last_goes_on bs ≡ false → last_goes_on (kept bs) ≡ false
ends-kept [] ends = refl
ends-kept (b ∷ bs) ends =
    let rest = ends_tail b bs ends in
    elim (cases_Bool (is_bare b)) [
      | inl bare ↦ rw bare (ends-kept bs rest)
      | inr solid ↦ rw solid (last_stays b bs rest ∙ ends)
    ]

times-kept : (p : Option ℕ) (bs : List Block) → times p (places (named (kept bs))) ≤ times p (places (named bs))
times-kept p [] = omega arith
times-kept p (b ∷ bs) =
    elim (cases_Bool (is_bare b)) [
      | inl bare ↦ rw bare (omega (arith, times-kept p bs))
      | inr solid ↦ rw solid (omega (arith, times-kept p bs))
    ]

pub distinct-kept : (bs : List Block) → HasDistinctKeys (named bs) → HasDistinctKeys (named (kept bs))
distinct-kept bs distinct = distinct_keys (named (kept bs)) (λ p. omega (arith, times-kept p bs, times_at_most_once (named bs) distinct p))

-- a block that stands first stands nowhere else
pub absent_behind : {T : Type 0} (e : ℕ × T) (rest : List (ℕ × T)) → HasDistinctKeys (e ∷ rest) → value_of rest e.0 ≡ None
absent_behind e rest distinct = value_of-absent rest e.0 (omega (arith, times_at_most_once (e ∷ rest) distinct (Some e.0), once_same (Some e.0)))

pub has_name-cons : (b : Block) (bs : List Block) (name : ℕ) → IsSome (value_of (named bs) name) → IsSome (value_of (named (b ∷ bs)) name)
has_name-cons b bs name some =
    elim (cases_Bool (b.name == name)) [ inl here ↦ rw here refl | inr apart ↦ rw apart some ]

-- a name goes to a block that is kept
pub passed-stays : (bs : List Block) (name : ℕ) → HasDistinctKeys (named bs) → last_goes_on bs ≡ false → IsSome (value_of (named bs) name) → IsSome (value_of (named (kept bs)) (passed bs name))
passed-stays [] name distinct ends some = absurd (cc)
passed-stays (b ∷ []) name distinct ends some =
    elim (cases_Bool (is_bare b)) [
      | inl bare ↦ absurd (cc (falls_on b.term (bare_falls b bare), ends))
      | inr solid ↦ rw solid some
    ]
passed-stays (b ∷ next ∷ rest) name distinct ends some =
    let rest_distinct = distinct_back ((b.name, b) ∷ []) (named (next ∷ rest)) distinct in
    elim (cases_Bool (is_bare b)) [
      | inl bare ↦
          elim (cases_Bool (name == b.name)) [
            | inl here ↦ rw (bare, here) (passed-stays (next ∷ rest) next.name rest_distinct ends (rw (eq-eqb next.name next.name refl) refl))
            | inr apart ↦
                let other : (b.name == name) ≡ false = ne_eqb b.name name (λ same. eqb-false name b.name apart (sym same)) in
                rw (bare, apart) (passed-stays (next ∷ rest) name rest_distinct ends (rw other at some))
          ]
      | inr solid ↦
          elim (cases_Bool (b.name == name)) [
            | inl here ↦
                let is = eqb-true b.name name here in
                let absent : value_of (named (next ∷ rest)) name ≡ None = subst (λ n. value_of (named (next ∷ rest)) n ≡ None) is (absent_behind (b.name, b) (named (next ∷ rest)) distinct) in
                rw (solid, passed-absent (next ∷ rest) name absent, here) refl
            | inr apart ↦
                rw solid (has_name-cons b (kept (next ∷ rest)) (passed (next ∷ rest) name) (passed-stays (next ∷ rest) name rest_distinct ends (rw apart at some)))
          ]
    ]
