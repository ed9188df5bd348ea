-- The blocks that are left: how many become of each, and where they stand.
use Rattle.std.proofs.Common.{◌≡◌, ℕ, ◌+◌, ◌*◌, ◌≤◌, ◌==◌, nat_eq, Bool, true, false, ◌&&◌, not, if◌then◌else◌, cond, ◌⊎◌, List, [], ◌∷◌, ◌++◌, map, length, Option, None, Some, IsSome, is_some, inl, inr, refl, sym, ap, ◌∙◌, subst, arith, length-append}
use Rattle.std.specs.Option.{option_or}
use Rattle.std.proofs.lemmas.Bool.{cases_Bool, ne_eqb}
use Rattle.std.proofs.lemmas.List.{length-map}
use Rattle.sq_arena.specs.Entries.{HasDistinctKeys, value_of, behind, first_key}
use Rattle.sq_graph.specs.declared.item.Term.{Term}
use Rattle.sq_graph.specs.Graph.{Block, Procedure, Graph}
use Rattle.sq_graph.specs.Blocks.{named, HasBlock, block_of, block_term, next_of, term_of, items_of_blocks, items_of_bodies, all_items}
use Rattle.sq_graph.specs.Leaders.{is_fall}
use Rattle.sq_graph.specs.Parts.{names_of}
use Rattle.sq_graph.specs.Renames.{retargeted_item, retargeted_items, retargeted_block, retargeted_procedure}
use Rattle.sq_graph.specs.Slotted.{number_in}
use Rattle.sq_graph.specs.Terms.{goes_on}
use Rattle.sq_layout.proofs.Walks.{fresh}
use Rattle.law_patch.proofs.Used.{not_new}
use Rattle.sq_quotient.specs.Folding.{falls_away, lands_at, landed, stayed, folded_blocks, folded_by, AreNewNames}
use Rattle.sq_quotient.specs.Staying.{gone_next, slots_by, slots_of, next_in}

-- ---- the next slot that goes

-- the block falls away exactly where there is one
pub away_is : (f : ℕ → ℕ) (b : Block) (rest : List Block) → falls_away f b rest ≡ is_some (gone_next f (Some b.term) (next_in rest))
away_is f b [] = refl
away_is f b (next ∷ rest) =
    elim (cases_Bool (goes_on b.term && not (f next.name == next.name))) [ inl away ↦ rw away refl | inr stays ↦ rw stays refl ]

-- how many blocks stand in place of one
abbrev pub landed_count : Bool → Bool → ℕ
landed_count false fl = 1
landed_count true true = 1
landed_count true false = 2

pub count_is : (o : Option ℕ) (t : Term) → slots_by (Some t) o ≡ landed_count (is_some o) (is_fall t)
count_is None t = refl
count_is (Some next) t = elim (cases_Bool (is_fall t)) [ inl fall ↦ rw fall refl | inr other ↦ rw other refl ]

pub slots_are : (f : ℕ → ℕ) (b : Block) (rest : List Block) → slots_by (Some b.term) (gone_next f (Some b.term) (next_in rest)) ≡ landed_count (falls_away f b rest) (is_fall b.term)
slots_are f b rest = count_is (gone_next f (Some b.term) (next_in rest)) b.term ∙ ap (λ d. landed_count d (is_fall b.term)) (sym (away_is f b rest))

landed_length : (d fl : Bool) (b : Block) (n to : ℕ) (more : List Block) → length (landed d fl b n to ++ more) ≡ landed_count d fl + length more
landed_length false fl b n to more = omega arith
landed_length true true b n to more = omega arith
landed_length true false b n to more = omega arith

landed_few : (d fl : Bool) → landed_count d fl ≤ 2
landed_few false fl = omega arith
landed_few true true = omega arith
landed_few true false = omega arith

-- a name that isn't the new one has its number where the block is, or behind
landed_number : (d fl : Bool) (b : Block) (new to at n : ℕ) (more : List Block) → (new == n) ≡ false → number_in (map (λ c. c.name) (landed d fl b new to ++ more)) at n ≡ (if b.name == n then Some at else number_in (map (λ c. c.name) more) (at + landed_count d fl) n)
landed_number false fl b new to at n more apart = refl
landed_number true true b new to at n more apart = refl
landed_number true false b new to at n more apart = rw apart (let e : (at + 1) + 1 ≡ at + 2 = omega arith in ap (λ k. if b.name == n then Some at else number_in (map (λ c. c.name) more) k n) e)

module _ (f new : ℕ → ℕ) where
  pub folded_length : (bs : List Block) → length (folded_blocks f new bs) ≤ 2 * length bs
  folded_length [] = omega arith
  folded_length (b ∷ rest) = by (f b.name == b.name) (folded_length rest)
    where
      by : (t : Bool) → length (folded_blocks f new rest) ≤ 2 * length rest → length (if t then stayed f new b rest ++ folded_blocks f new rest else folded_blocks f new rest) ≤ 2 * length (b ∷ rest)
      by true few = omega (arith, few, landed_length (falls_away f b rest) (is_fall b.term) (retargeted_block f b) (new b.name) (lands_at f rest) (folded_blocks f new rest), landed_few (falls_away f b rest) (is_fall b.term))
      by false few = omega (arith, few)

  landed_items : (d fl : Bool) (b : Block) (n to : ℕ) (more : List Block) → length (items_of_blocks (landed d fl b n to ++ more)) ≡ length b.items + length (items_of_blocks more)
  landed_items false fl b n to more = length-append b.items (items_of_blocks more)
  landed_items true true b n to more = length-append b.items (items_of_blocks more)
  landed_items true false b n to more = length-append b.items (items_of_blocks more)

  folded_few : (bs : List Block) → length (items_of_blocks (folded_blocks f new bs)) ≤ length (items_of_blocks bs)
  folded_few [] = omega arith
  folded_few (b ∷ rest) = by (f b.name == b.name) (folded_few rest)
    where
      by : (t : Bool) → length (items_of_blocks (folded_blocks f new rest)) ≤ length (items_of_blocks rest) → length (items_of_blocks (if t then stayed f new b rest ++ folded_blocks f new rest else folded_blocks f new rest)) ≤ length (items_of_blocks (b ∷ rest))
      by true few =
          omega (
            arith,
            few,
            landed_items (falls_away f b rest) (is_fall b.term) (retargeted_block f b) (new b.name) (lands_at f rest) (folded_blocks f new rest),
            length-map b.items (retargeted_item f),
            length-append b.items (items_of_blocks rest),
          )
      by false few = omega (arith, few, length-append b.items (items_of_blocks rest))

  -- ---- positions

  module _ (g : Graph) where
    abbrev all_names : List ℕ
    all_names = names_of (folded_by f new g)

    abbrev names_left : List Block → List ℕ
    names_left bs = map (λ b. b.name) (folded_blocks f new bs)

    -- these positions are known, and those of the blocks that become of the rest, from this one on, are still to come
    pub record ArePlaced (known : ℕ → Option ℕ) (rest : List Block) (at : ℕ) : Type 0 where
      pub at_is : at + length (folded_blocks f new rest) ≡ length (folded_blocks f new g.blocks)
      pub none : (n : ℕ) → IsSome (value_of (named rest) n) → known n ≡ None
      pub are : (n : ℕ) → HasBlock g n → f n ≡ n → option_or (known n) (number_in (names_left rest) at n) ≡ number_in all_names 0 n

    pub placed_none : (known : ℕ → Option ℕ) → ((n : ℕ) → known n ≡ None) → ArePlaced known g.blocks 0
    placed_none known none = record {
      at_is = omega arith;
      none = λ n some. none n;
      are = λ n has e. ap (λ o. option_or o (number_in all_names 0 n)) (none n);
    }

    pub placed_all : (known : ℕ → Option ℕ) (at : ℕ) → ArePlaced known [] at → (n : ℕ) → HasBlock g n → f n ≡ n → known n ≡ number_in all_names 0 n
    placed_all known at placed n has e = or_none (known n) ∙ placed.are n has e
      where
        or_none : (o : Option ℕ) → o ≡ option_or o None
        or_none None = refl
        or_none (Some x) = refl

    behind_some : (b : Block) (rest : List Block) (n : ℕ) → IsSome (value_of (named rest) n) → IsSome (value_of (named (b ∷ rest)) n)
    behind_some b rest n some = elim (cases_Bool (b.name == n)) [ inl here ↦ rw here refl | inr apart ↦ rw apart some ]

    -- the block goes
    pub placed_gone : (known : ℕ → Option ℕ) (b : Block) (rest : List Block) (at : ℕ) → (f b.name == b.name) ≡ false → ArePlaced known (b ∷ rest) at → ArePlaced known rest at
    placed_gone known b rest at gone placed =
        let same : folded_blocks f new (b ∷ rest) ≡ folded_blocks f new rest = rw gone refl in
        record {
          at_is = subst (λ cs. at + length cs ≡ length (folded_blocks f new g.blocks)) same placed.at_is;
          none = λ n some. placed.none n (behind_some b rest n some);
          are = λ n has e. subst (λ cs. option_or (known n) (number_in (map (λ c. c.name) cs) at n) ≡ number_in all_names 0 n) same (placed.are n has e);
        }

    -- the block stays
    module _ (news : AreNewNames g new) (known more : ℕ → Option ℕ) (b : Block) (rest : List Block) (at : ℕ) (kept : (f b.name == b.name) ≡ true) (placed : ArePlaced known (b ∷ rest) at) where
      abbrev count : ℕ
      count = landed_count (falls_away f b rest) (is_fall b.term)

      shape : folded_blocks f new (b ∷ rest) ≡ stayed f new b rest ++ folded_blocks f new rest
      shape = rw kept refl

      pub placed_end : at + count + length (folded_blocks f new rest) ≡ length (folded_blocks f new g.blocks)
      placed_end =
          omega (
            arith,
            placed.at_is,
            ap (λ (cs : List Block). length cs) shape,
            landed_length (falls_away f b rest) (is_fall b.term) (retargeted_block f b) (new b.name) (lands_at f rest) (folded_blocks f new rest),
          )

      pub placed_kept : HasDistinctKeys (named (b ∷ rest)) → ((n : ℕ) → more n ≡ cond (nat_eq b.name n) (Some at) (known n)) → ArePlaced more rest (at + count)
      placed_kept distinct put = record {
        at_is = placed_end;
        none = λ n some.
            let apart : (b.name == n) ≡ false = fresh b rest n distinct some in
            put n ∙ rw apart (placed.none n (behind_some b rest n some));
        are = λ n has e. known_now n has e (cases_Bool (b.name == n));
      }
        where
          number : (n : ℕ) → HasBlock g n → number_in (names_left (b ∷ rest)) at n ≡ (if b.name == n then Some at else number_in (names_left rest) (at + count) n)
          number n has =
              ap (λ cs. number_in (map (λ c. c.name) cs) at n) shape
              ∙ landed_number (falls_away f b rest) (is_fall b.term) (retargeted_block f b) (new b.name) (lands_at f rest) at n (folded_blocks f new rest)
              (ne_eqb (new b.name) n (λ s. not_new g (new b.name) n (news.fresh b.name) has (sym s)))

          known_now : (n : ℕ) → HasBlock g n → f n ≡ n → ((b.name == n) ≡ true) ⊎ ((b.name == n) ≡ false) → option_or (more n) (number_in (names_left rest) (at + count) n) ≡ number_in all_names 0 n
          known_now n has e (inl here) =
              let none : known n ≡ None = placed.none n (rw here refl) in
              let now : more n ≡ Some at = put n ∙ rw here refl in
              let was : number_in (names_left (b ∷ rest)) at n ≡ Some at = number n has ∙ rw here refl in
              ap (λ o. option_or o (number_in (names_left rest) (at + count) n)) now
              ∙ sym was
              ∙ ap (λ o. option_or o (number_in (names_left (b ∷ rest)) at n)) (sym none)
              ∙ placed.are n has e
          known_now n has e (inr apart) =
              let now : more n ≡ known n = put n ∙ rw apart refl in
              let was : number_in (names_left (b ∷ rest)) at n ≡ number_in (names_left rest) (at + count) n = number n has ∙ rw apart refl in
              ap (λ o. option_or o (number_in (names_left rest) (at + count) n)) now
              ∙ ap (option_or (known n)) (sym was)
              ∙ placed.are n has e

-- how many items are left
pub items_few : (f new : ℕ → ℕ) (g : Graph) → length (all_items (folded_by f new g)) ≤ length (all_items g)
items_few f new g =
    omega (
      arith,
      folded_few f new g.blocks,
      length-append (items_of_blocks (folded_blocks f new g.blocks)) (items_of_bodies (map (retargeted_procedure f) g.procedures)),
      length-append (items_of_blocks g.blocks) (items_of_bodies g.procedures),
      bodies g.procedures,
    )
  where
    bodies : (ps : List Procedure) → length (items_of_bodies (map (retargeted_procedure f) ps)) ≡ length (items_of_bodies ps)
    bodies [] = refl
    bodies (p ∷ ps) =
        omega (
          arith,
          bodies ps,
          length-map p.body (retargeted_item f),
          length-append p.body (items_of_bodies ps),
          length-append (retargeted_items f p.body) (items_of_bodies (map (retargeted_procedure f) ps)),
        )

-- what a block's slots are, told by its name
pub gone_here : (f : ℕ → ℕ) (g : Graph) (name : ℕ) (b : Block) (rest : List Block) → block_of g name ≡ Some b → behind (named g.blocks) name ≡ named rest → gone_next f (term_of g name) (next_of g name) ≡ gone_next f (Some b.term) (next_in rest)
gone_here f g name b rest found behind_is = λ i. gone_next f (block_term (found i)) (first_key (behind_is i))

pub slots_here : (f : ℕ → ℕ) (g : Graph) (name : ℕ) (b : Block) (rest : List Block) → block_of g name ≡ Some b → behind (named g.blocks) name ≡ named rest → slots_of f g name ≡ landed_count (falls_away f b rest) (is_fall b.term)
slots_here f g name b rest found behind_is =
    (λ i. slots_by (block_term (found i)) (gone_next f (block_term (found i)) (first_key (behind_is i)))) ∙ slots_are f b rest

pub same_number : (m n : ℕ) → Some m ≡ Some n → m ≡ n
same_number m n e = cc

pub same_term : (t u : Term) → Some t ≡ Some u → t ≡ u
same_term t u e = cc
