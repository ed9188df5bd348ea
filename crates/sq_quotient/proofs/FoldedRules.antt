-- A graph whose blocks are folded keeps the rules.
use Rattle.std.proofs.Common.{◌≡◌, ℕ, ◌==◌, nat_eq, Bool, true, false, true≢false, if◌then◌else◌, List, [], ◌∷◌, ◌++◌, map, IsSome, inl, inr, refl, sym, ap, ◌∙◌, subst}
use Rattle.std.specs.List.{All, AllByRecursion, IsDistinct}
use Rattle.std.proofs.lemmas.Bool.{cases_Bool, eqb-true, eq-eqb, ne_eqb}
use Rattle.std.proofs.lemmas.List.Elements.{All-head, All-tail, All-cons, All-nil, All-append, All-map, All-weaker}
use Rattle.sq_arena.specs.Entries.{keys, HasDistinctKeys, value_of}
use Rattle.sq_graph.specs.declared.item.Item.{Item}
use Rattle.sq_graph.specs.declared.item.Term.TheVariants.{Jump}
use Rattle.sq_graph.specs.Graph.{Block, Graph}
use Rattle.sq_graph.specs.Blocks.{named, HasBlock, HasProcedure}
use Rattle.sq_graph.specs.Leaders.{is_fall}
use Rattle.sq_graph.specs.Renames.{retargeted_term, retargeted_block, retargeted}
use Rattle.sq_graph.specs.Rules.{IsGraph, last_goes_on}
use Rattle.sq_graph.specs.Terms.{goes_on}
use Rattle.sq_graph.specs.Uses.{uses}
use Rattle.sq_graph.proofs.Renamed.{names_there}
use Rattle.sq_graph.proofs.RetargetRules.{uses-other, goes_on-other, other_rules}
use Rattle.sq_graph.proofs.RulesByBlock.{BlockStands, IsByBlock, by_block, by_stays, from_blocks}
use Rattle.law_patch.proofs.Used.{not_new}
use Rattle.sq_quotient.specs.Folding.{falls_away, lands_at, landed, stayed, folded_blocks, folded_by, Merges, AreNewNames}

-- ---- what stands in place of one block

-- its name is there, and what is behind
landed_first : (d fl : Bool) (b : Block) (n to : ℕ) (more : List Block) (m : ℕ) → (b.name == m) ≡ true → IsSome (value_of (named (landed d fl b n to ++ more)) m)
landed_first false fl b n to more m here = rw here refl
landed_first true true b n to more m here = rw here refl
landed_first true false b n to more m here = rw here refl

later_some : (b : Block) (more : List Block) (m : ℕ) → IsSome (value_of (named more) m) → IsSome (value_of (named (b ∷ more)) m)
later_some b more m some = elim (cases_Bool (b.name == m)) [ inl here ↦ rw here refl | inr apart ↦ rw apart some ]

landed_later : (d fl : Bool) (b : Block) (n to : ℕ) (more : List Block) (m : ℕ) → IsSome (value_of (named more) m) → IsSome (value_of (named (landed d fl b n to ++ more)) m)
landed_later false fl b n to more m some = later_some b more m some
landed_later true true b n to more m some = later_some (record b { term = Jump to }) more m some
landed_later true false b n to more m some = later_some b (record { name = n; items = []; term = Jump to } ∷ more) m (later_some (record { name = n; items = []; term = Jump to }) more m some)

-- other names are apart from those there
abbrev IsApartFrom : ℕ → List Block → Type 0
IsApartFrom k bs = AllByRecursion (λ m. nat_eq k m ≡ false) (keys (named bs))

landed_apart : (d fl : Bool) (b : Block) (n to : ℕ) (more : List Block) (k : ℕ) → nat_eq k b.name ≡ false → nat_eq k n ≡ false → IsApartFrom k more → IsApartFrom k (landed d fl b n to ++ more)
landed_apart false fl b n to more k one two all = (one, all)
landed_apart true true b n to more k one two all = (one, all)
landed_apart true false b n to more k one two all = (one, (two, all))

landed_distinct : (d fl : Bool) (b : Block) (n to : ℕ) (more : List Block) → nat_eq b.name n ≡ false → IsApartFrom b.name more → IsApartFrom n more → HasDistinctKeys (named more) → HasDistinctKeys (named (landed d fl b n to ++ more))
unfolding IsDistinct
landed_distinct false fl b n to more own one two rest = (one, rest)
landed_distinct true true b n to more own one two rest = (one, rest)
landed_distinct true false b n to more own one two rest = ((own, one), (two, rest))

-- the last of them goes on only where the block does and no block behind it went
landed_last : (d fl : Bool) (b : Block) (n to : ℕ) (more : List Block) → last_goes_on more ≡ false → (more ≡ [] → d ≡ false → goes_on b.term ≡ false) → last_goes_on (landed d fl b n to ++ more) ≡ false
landed_last false fl b n to [] last off = off refl refl
landed_last true true b n to [] last off = refl
landed_last true false b n to [] last off = refl
landed_last false fl b n to (m ∷ ms) last off = last
landed_last true true b n to (m ∷ ms) last off = last
landed_last true false b n to (m ∷ ms) last off = last

landed_stand : (Named Called : ℕ → Type 0) (d fl : Bool) (b : Block) (n to : ℕ) → BlockStands Named Called b → (d ≡ true → Named to) → All (BlockStands Named Called) (landed d fl b n to)
landed_stand Named Called false fl b n to here there = All-cons {X = Block} (BlockStands Named Called) b [] here (All-nil {X = Block} (BlockStands Named Called))
landed_stand Named Called true true b n to here there =
    All-cons {X = Block} (BlockStands Named Called) (record b { term = Jump to }) []
    (record { items = here.items; names = All-cons Named to [] (there refl) (All-nil Named); fits = tt })
    (All-nil {X = Block} (BlockStands Named Called))
landed_stand Named Called true false b n to here there =
    let jump : Block = record { name = n; items = []; term = Jump to } in
    All-cons {X = Block} (BlockStands Named Called) b (jump ∷ []) here
    (All-cons {X = Block} (BlockStands Named Called) jump []
    (record { items = All-nil {X = Item} _; names = All-cons Named to [] (there refl) (All-nil Named); fits = tt })
    (All-nil {X = Block} (BlockStands Named Called)))

-- ---- the folded graph

module _ (g : Graph) (f new : ℕ → ℕ) (rules : IsGraph g) (merges : Merges g f) (news : AreNewNames g new) where
  -- a block that stays
  abbrev Stays : ℕ → Type 0
  Stays n = HasBlock g n × (f n ≡ n)

  goes_over : (n : ℕ) → HasBlock g n → Stays (f n)
  goes_over n has = (merges.there n has, merges.again n has)

  stays_in_blocks : (bs : List Block) (n : ℕ) → IsSome (value_of (named bs) n) → f n ≡ n → IsSome (value_of (named (folded_blocks f new bs)) n)
  stays_in_blocks [] n some e = absurd (cc)
  stays_in_blocks (b ∷ rest) n some e =
      elim (cases_Bool (b.name == n)) [
        | inl here ↦
            let is : b.name ≡ n = eqb-true b.name n here in
            let kept : (f b.name == b.name) ≡ true = eq-eqb (f b.name) b.name (ap f is ∙ e ∙ sym is) in
            rw kept (landed_first (falls_away f b rest) (is_fall b.term) (retargeted_block f b) (new b.name) (lands_at f rest) (folded_blocks f new rest) n here)
        | inr apart ↦ by (f b.name == b.name) (stays_in_blocks rest n (rw apart at some) e)
      ]
    where
      by : (t : Bool) → IsSome (value_of (named (folded_blocks f new rest)) n) → IsSome (value_of (named (if t then stayed f new b rest ++ folded_blocks f new rest else folded_blocks f new rest)) n)
      by true later = landed_later (falls_away f b rest) (is_fall b.term) (retargeted_block f b) (new b.name) (lands_at f rest) (folded_blocks f new rest) n later
      by false later = later

  -- what stays is there
  pub stays_there : (n : ℕ) → HasBlock g n → f n ≡ n → HasBlock (folded_by f new g) n
  stays_there n has e = stays_in_blocks g.blocks n has e

  -- ---- names are distinct

  abbrev AreApart : ℕ → List Block → Type 0
  AreApart k bs = AllByRecursion (λ b. (nat_eq k b.name ≡ false) × (nat_eq k (new b.name) ≡ false)) bs

  apart_folded : (k : ℕ) (bs : List Block) → AreApart k bs → IsApartFrom k (folded_blocks f new bs)
  apart_folded k [] all = tt
  apart_folded k (b ∷ rest) all = by (f b.name == b.name) (apart_folded k rest all.1)
    where
      by : (t : Bool) → IsApartFrom k (folded_blocks f new rest) → IsApartFrom k (if t then stayed f new b rest ++ folded_blocks f new rest else folded_blocks f new rest)
      by true later = landed_apart (falls_away f b rest) (is_fall b.term) (retargeted_block f b) (new b.name) (lands_at f rest) (folded_blocks f new rest) k all.0.0 all.0.1 later
      by false later = later

  old_apart : (n : ℕ) → HasBlock g n → (bs : List Block) → IsApartFrom n bs → AreApart n bs
  old_apart n has [] all = tt
  old_apart n has (b ∷ rest) all = ((all.0, ne_eqb n (new b.name) (λ s. not_new g (new b.name) n (news.fresh b.name) has s)), old_apart n has rest all.1)

  new_apart : (n : ℕ) (bs : List Block) → AllByRecursion (λ b. HasBlock g b.name) bs → IsApartFrom n bs → AreApart (new n) bs
  new_apart n [] there all = tt
  new_apart n (b ∷ rest) there all = (
    (
      ne_eqb (new n) b.name (λ s. not_new g (new n) b.name (news.fresh n) there.0 (sym s)),
      ne_eqb (new n) (new b.name) (λ s. true≢false (sym (eq-eqb n b.name (news.apart n b.name s)) ∙ all.0)),
    ),
    new_apart n rest there.1 all.1,
  )

  distinct_folded : (bs : List Block) → AllByRecursion (λ b. HasBlock g b.name) bs → HasDistinctKeys (named bs) → HasDistinctKeys (named (folded_blocks f new bs))
  unfolding IsDistinct
  distinct_folded [] there distinct = tt
  distinct_folded (b ∷ rest) there distinct = by (f b.name == b.name) distinct.0 (distinct_folded rest there.1 distinct.1)
    where
      by : (t : Bool) → IsApartFrom b.name rest → HasDistinctKeys (named (folded_blocks f new rest)) → HasDistinctKeys (named (if t then stayed f new b rest ++ folded_blocks f new rest else folded_blocks f new rest))
      by true apart later =
          landed_distinct (falls_away f b rest) (is_fall b.term) (retargeted_block f b) (new b.name) (lands_at f rest) (folded_blocks f new rest)
          (ne_eqb b.name (new b.name) (λ s. not_new g (new b.name) b.name (news.fresh b.name) there.0 s))
          (apart_folded b.name rest (old_apart b.name there.0 rest apart))
          (apart_folded (new b.name) rest (new_apart b.name rest there.1 apart))
          later
      by false apart later = later

  -- ---- the last one doesn't go on

  -- where no block is left behind, the first of them goes
  none_left : (next : Block) (rest : List Block) → folded_blocks f new (next ∷ rest) ≡ [] → (f next.name == next.name) ≡ false
  none_left next rest none =
      elim (cases_Bool (f next.name == next.name)) [
        | inl kept ↦ absurd (some (falls_away f next rest) (is_fall next.term) (let t : stayed f new next rest ++ folded_blocks f new rest ≡ [] = rw kept at none in t))
        | inr gone ↦ gone
      ]
    where
      some : (d fl : Bool) → landed d fl (retargeted_block f next) (new next.name) (lands_at f rest) ++ folded_blocks f new rest ≡ [] → ⊥
      some false fl e = cc
      some true true e = cc
      some true false e = cc

  off_last : (b : Block) (rest : List Block) → last_goes_on (b ∷ rest) ≡ false → folded_blocks f new rest ≡ [] → falls_away f b rest ≡ false → goes_on (retargeted_term f b.term) ≡ false
  off_last b [] last none away = goes_on-other f (λ c. c.name) b.term ∙ last
  off_last b (next ∷ rest) last none away =
      elim (cases_Bool (goes_on b.term)) [
        | inl on ↦ absurd (let gone = none_left next rest none in let t : falls_away f b (next ∷ rest) ≡ true = rw (on, gone) refl in true≢false (sym t ∙ away))
        | inr off ↦ goes_on-other f (λ c. c.name) b.term ∙ off
      ]

  last_later : (b : Block) (rest : List Block) → last_goes_on (b ∷ rest) ≡ false → last_goes_on rest ≡ false
  last_later b [] last = refl
  last_later b (next ∷ rest) last = last

  last_folded : (bs : List Block) → last_goes_on bs ≡ false → last_goes_on (folded_blocks f new bs) ≡ false
  last_folded [] last = refl
  last_folded (b ∷ rest) last = by (f b.name == b.name) (last_folded rest (last_later b rest last))
    where
      by : (t : Bool) → last_goes_on (folded_blocks f new rest) ≡ false → last_goes_on (if t then stayed f new b rest ++ folded_blocks f new rest else folded_blocks f new rest) ≡ false
      by true later = landed_last (falls_away f b rest) (is_fall b.term) (retargeted_block f b) (new b.name) (lands_at f rest) (folded_blocks f new rest) later (λ none away. off_last b rest last none away)
      by false later = later

  -- ---- what is used is there

  named_as : (bs : List Block) → keys (named (map (retargeted_block f) bs)) ≡ keys (named bs)
  named_as [] = refl
  named_as (b ∷ bs) = ap (λ ks. b.name ∷ ks) (named_as bs)

  there_too : (bs : List Block) (n : ℕ) → IsSome (value_of (named bs) n) → IsSome (value_of (named (map (retargeted_block f) bs)) n)
  there_too [] n some = absurd (cc)
  there_too (b ∷ bs) n some = elim (cases_Bool (b.name == n)) [ inl here ↦ rw here refl | inr apart ↦ rw apart (there_too bs n (rw apart at some)) ]

  pub retargeted_rules : IsGraph (retargeted f g)
  retargeted_rules =
      other_rules f (λ b. b.name) g rules (subst (IsDistinct nat_eq) (sym (named_as g.blocks)) rules.distinct)
      (λ k has. there_too g.blocks (f k) (merges.there k has))

  all_stay : All Stays (uses (retargeted f g))
  all_stay =
      subst (λ us. All Stays us) (sym (uses-other f (λ b. b.name) g))
      (All-map Stays f (uses g) (All-weaker (HasBlock g) (λ n. Stays (f n)) goes_over (uses g) rules.named_all))

  by_staying : IsByBlock Stays (HasProcedure (retargeted f g)) (retargeted f g)
  by_staying = by_block Stays (HasProcedure (retargeted f g)) (retargeted f g) retargeted_rules all_stay retargeted_rules.called_all

  lands_there : (b : Block) (rest : List Block) → AllByRecursion (λ c. HasBlock g c.name) rest → falls_away f b rest ≡ true → Stays (lands_at f rest)
  lands_there b [] there away = absurd (cc)
  lands_there b (next ∷ rest) there away = goes_over next.name there.0

  stand_folded : (bs : List Block) → AllByRecursion (λ b. HasBlock g b.name) bs → All (BlockStands Stays (HasProcedure (retargeted f g))) (map (retargeted_block f) bs) → All (BlockStands Stays (HasProcedure (retargeted f g))) (folded_blocks f new bs)
  stand_folded [] there all = all
  stand_folded (b ∷ rest) there all =
      by (f b.name == b.name)
      (All-head {X = Block} (BlockStands Stays (HasProcedure (retargeted f g))) (retargeted_block f b) (map (retargeted_block f) rest) all)
      (stand_folded rest there.1 (All-tail {X = Block} (BlockStands Stays (HasProcedure (retargeted f g))) (retargeted_block f b) (map (retargeted_block f) rest) all))
    where
      by : (t : Bool) → BlockStands Stays (HasProcedure (retargeted f g)) (retargeted_block f b) → All (BlockStands Stays (HasProcedure (retargeted f g))) (folded_blocks f new rest)
          → All (BlockStands Stays (HasProcedure (retargeted f g))) (if t then stayed f new b rest ++ folded_blocks f new rest else folded_blocks f new rest)
      by true here later =
          All-append {X = Block} (BlockStands Stays (HasProcedure (retargeted f g))) (stayed f new b rest) (folded_blocks f new rest)
          (landed_stand Stays (HasProcedure (retargeted f g)) (falls_away f b rest) (is_fall b.term) (retargeted_block f b) (new b.name) (lands_at f rest) here (λ away. lands_there b rest there.1 away))
          later
      by false here later = later

  folded_by_staying : IsByBlock Stays (HasProcedure (retargeted f g)) (folded_by f new g)
  folded_by_staying = record {
    distinct = distinct_folded g.blocks (names_there g.blocks) rules.distinct;
    entry = by_staying.entry;
    words = by_staying.words;
    ends = last_folded g.blocks rules.ends;
    ascending = by_staying.ascending;
    blocks = stand_folded g.blocks (names_there g.blocks) by_staying.blocks;
    bodies = by_staying.bodies;
  }

  pub folded_rules : IsGraph (folded_by f new g)
  folded_rules =
      from_blocks (folded_by f new g)
      (by_stays Stays (HasBlock (folded_by f new g)) (HasProcedure (retargeted f g)) (HasProcedure (folded_by f new g)) (λ k stays. stays_there k stays.0 stays.1) (λ k there. there) (folded_by f new g) folded_by_staying)
