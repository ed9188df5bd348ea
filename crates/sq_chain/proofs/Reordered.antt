-- A chain that moves leaves the graph in an order in which each block that goes on keeps its next slot.
use Rattle.std.proofs.Common.{◌≡◌, ◌⊎◌, ℕ, ◌==◌, true, false, if◌then◌else◌, List, [], ◌∷◌, ◌++◌, map, Option, None, Some, IsSome, is_some, inl, inr, refl, sym, ap, ◌∙◌, subst, arith, length, length-append, append_assoc}
use Rattle.std.specs.List.{AllByRecursion}
use Rattle.std.proofs.lemmas.List.Elements.{All-head}
use Rattle.std.proofs.lemmas.Bool.{cases_Bool, eq-eqb, both_ways}
use Rattle.std.proofs.lemmas.List.{length-map}
use Rattle.sq_arena.specs.Entries.{HasDistinctKeys, value_of, ContainsKey, before, through, starting_at, behind, run, without_run, IsRun, move_run_after, first_key, next_key}
use Rattle.sq_arena.proofs.Paths.{times-places-append}
use Rattle.sq_arena.proofs.EntriesLemmas.{shape_of, through-behind, through-before, starting_at-behind, split_at as split_at_key, some_value}
use Rattle.sq_arena.proofs.EntriesLaws.{absent_ahead, behind-append, value_of-append, value_of-absent, or_value, present_if_value, times_at_most_once, distinct_back, KeepsValues-move_run_after}
use Rattle.sq_graph.specs.declared.item.Term.TheVariants.{Jump}
use Rattle.sq_graph.specs.Graph.{Block, Graph}
use Rattle.sq_graph.specs.Blocks.{named, HasBlock, block_of, block_term, next_of}
use Rattle.sq_graph.specs.Operations.{moved_after}
use Rattle.sq_graph.specs.Rules.{IsGraph, last_goes_on}
use Rattle.sq_graph.specs.Terms.{goes_on}
use Rattle.sq_graph.proofs.BlockMoves.{through-in, behind-in, through-out, behind-out}
use Rattle.sq_graph.proofs.Located.{value_of-at}
use Rattle.sq_graph.proofs.OperationRules.{moved_after_rules}
use Rattle.sq_layout.proofs.Shrinking.{block_with}
use Rattle.sq_lookup.proofs.Targets.{targets_there}
use Rattle.law_patch.specs.Inserts.{AreReordered}
use Rattle.law_patch.specs.LoneJumps.{IsApart}
use Rattle.sq_chain.specs.Moves.{end_of, chain_end, IsMovable}

-- the last of these blocks, if there is one, doesn't go on
abbrev pub Stops : List (ℕ × Block) → Type 0
Stops es = last_goes_on (map (λ e. e.1) es) ≡ false

stops_append : (xs ys : List (ℕ × Block)) → Stops xs → Stops ys → Stops (xs ++ ys)
stops_append [] ys first second = second
stops_append (e ∷ []) [] first second = first
stops_append (e ∷ []) (y ∷ ys) first second = second
stops_append (e ∷ f ∷ xs) ys first second = stops_append (f ∷ xs) ys first second

pub stops_back : (xs ys : List (ℕ × Block)) → Stops (xs ++ ys) → Stops ys
stops_back [] ys stops = stops
stops_back (e ∷ []) [] stops = refl
stops_back (e ∷ []) (y ∷ ys) stops = stops
stops_back (e ∷ f ∷ xs) ys stops = stops_back (f ∷ xs) ys stops

stops_last : (xs : List (ℕ × Block)) (n : ℕ) (b : Block) → goes_on b.term ≡ false → Stops (xs ++ (n, b) ∷ [])
stops_last [] n b off = off
stops_last (e ∷ []) n b off = off
stops_last (e ∷ f ∷ xs) n b off = stops_last (f ∷ xs) n b off

-- A block that goes on keeps its next slot within such a piece, whatever is behind it
next_in : (xs ys : List (ℕ × Block)) (n : ℕ) (b : Block) → Stops xs → value_of xs n ≡ Some b → goes_on b.term ≡ true → next_key (xs ++ ys) n ≡ next_key xs n
next_in [] ys n b stops found on = absurd (cc)
next_in (e ∷ []) ys n b stops found on =
    elim (cases_Bool (e.0 == n)) [
      | inl here ↦
          let is : Some e.1 ≡ Some b = rw here at found in
          let same : e.1 ≡ b = cc in
          absurd (both_ways (goes_on e.1.term) stops (ap (λ (c : Block). goes_on c.term) same ∙ on))
      | inr apart ↦ absurd (cc (rw apart at found))
    ]
next_in (e ∷ f ∷ xs) ys n b stops found on =
    elim (cases_Bool (e.0 == n)) [
      | inl here ↦ rw here refl
      | inr apart ↦ rw apart (next_in (f ∷ xs) ys n b stops (rw apart at found) on)
    ]

next_out : (xs ys : List (ℕ × Block)) (n : ℕ) → value_of xs n ≡ None → next_key (xs ++ ys) n ≡ next_key ys n
next_out xs ys n none = ap first_key (behind-out xs ys n none)

-- a key stands in one piece alone
pub apart_from : (xs ys : List (ℕ × Block)) (n : ℕ) → HasDistinctKeys (xs ++ ys) → IsSome (value_of xs n) → value_of ys n ≡ None
apart_from xs ys n distinct some =
    value_of-absent ys n (omega (arith, times_at_most_once (xs ++ ys) distinct (Some n), present_if_value xs n some, times-places-append (Some n) xs ys))

pub some_or_none : {T : Type 0} (o : Option T) → IsSome o ⊎ (o ≡ None)
some_or_none None = inr refl
some_or_none (Some x) = inl refl

pub or_first : {T : Type 0} (a b : Option T) (x : T) → or_value a b ≡ Some x → IsSome a → a ≡ Some x
or_first None b x e some = absurd (cc)
or_first (Some y) b x e some = e

or_second : {T : Type 0} (a b : Option T) (x : T) → or_value a b ≡ Some x → a ≡ None → b ≡ Some x
or_second None b x e none = e
or_second (Some y) b x e none = absurd (cc)

-- Two pieces change places, between a piece and the rest
module _ (X Y Z W : List (ℕ × Block)) (x_stops : Stops X) (y_stops : Stops Y) (z_stops : Stops Z) (distinct : HasDistinctKeys (X ++ (Y ++ (Z ++ W)))) where
  exchanged_next : (n : ℕ) (b : Block) → value_of (X ++ (Y ++ (Z ++ W))) n ≡ Some b → goes_on b.term ≡ true → next_key (X ++ (Z ++ (Y ++ W))) n ≡ next_key (X ++ (Y ++ (Z ++ W))) n
  exchanged_next n b found on =
      let split = sym (value_of-append X (Y ++ (Z ++ W)) n) ∙ found in
      elim (some_or_none (value_of X n)) [
        | inl in_x ↦
            let there = or_first (value_of X n) (value_of (Y ++ (Z ++ W)) n) b split in_x in
            next_in X (Z ++ (Y ++ W)) n b x_stops there on ∙ sym (next_in X (Y ++ (Z ++ W)) n b x_stops there on)
        | inr out_x ↦
            let later = or_second (value_of X n) (value_of (Y ++ (Z ++ W)) n) b split out_x in
            let distinct' = distinct_back X (Y ++ (Z ++ W)) distinct in
            next_out X (Z ++ (Y ++ W)) n out_x ∙ in_rest later distinct' ∙ sym (next_out X (Y ++ (Z ++ W)) n out_x)
      ]
    where
      in_rest : value_of (Y ++ (Z ++ W)) n ≡ Some b → HasDistinctKeys (Y ++ (Z ++ W)) → next_key (Z ++ (Y ++ W)) n ≡ next_key (Y ++ (Z ++ W)) n
      in_rest later distinct' =
          let split = sym (value_of-append Y (Z ++ W) n) ∙ later in
          elim (some_or_none (value_of Y n)) [
            | inl in_y ↦
                let there = or_first (value_of Y n) (value_of (Z ++ W) n) b split in_y in
                let out_zw = apart_from Y (Z ++ W) n distinct' in_y in
                let out_z : value_of Z n ≡ None = none_first (value_of Z n) (value_of W n) (sym (value_of-append Z W n) ∙ out_zw) in
                next_out Z (Y ++ W) n out_z ∙ next_in Y W n b y_stops there on ∙ sym (next_in Y (Z ++ W) n b y_stops there on)
            | inr out_y ↦
                let behind_y = or_second (value_of Y n) (value_of (Z ++ W) n) b split out_y in
                let split' = sym (value_of-append Z W n) ∙ behind_y in
                elim (some_or_none (value_of Z n)) [
                  | inl in_z ↦
                      let there = or_first (value_of Z n) (value_of W n) b split' in_z in
                      next_in Z (Y ++ W) n b z_stops there on ∙ sym (next_out Y (Z ++ W) n out_y ∙ next_in Z W n b z_stops there on)
                  | inr out_z ↦ next_out Z (Y ++ W) n out_z ∙ next_out Y W n out_y ∙ sym (next_out Y (Z ++ W) n out_y ∙ next_out Z W n out_z)
                ]
          ]
        where
          none_first : {T : Type 0} (a b : Option T) → or_value a b ≡ None → a ≡ None
          none_first None b e = refl
          none_first (Some y) b e = absurd (cc)

-- THE CHAIN

-- its end is there
pub end_there : (e : ℕ × Block) (es : List (ℕ × Block)) (d : ℕ) → ContainsKey (e ∷ es) (end_of (e ∷ es) d)
end_there e [] d =
    elim (cases_Bool (goes_on e.1.term)) [
      | inl on ↦ rw on (rw (eq-eqb e.0 e.0 refl) refl)
      | inr off ↦ rw off (rw (eq-eqb e.0 e.0 refl) refl)
    ]
end_there e (f ∷ es) d =
    elim (cases_Bool (goes_on e.1.term)) [
      | inl on ↦
          let later = end_there f es e.0 in
          let is : end_of (e ∷ f ∷ es) d ≡ end_of (f ∷ es) e.0 = ap (λ t. if t then end_of (f ∷ es) e.0 else e.0) on in
          subst (λ k. ContainsKey (e ∷ f ∷ es) k) (sym is) (later_there e (f ∷ es) (end_of (f ∷ es) e.0) later)
      | inr off ↦
          let is : end_of (e ∷ f ∷ es) d ≡ e.0 = ap (λ t. if t then end_of (f ∷ es) e.0 else e.0) off in
          subst (λ k. ContainsKey (e ∷ f ∷ es) k) (sym is) (rw (eq-eqb e.0 e.0 refl) refl)
    ]
  where
    later_there : (x : ℕ × Block) (xs : List (ℕ × Block)) (k : ℕ) → ContainsKey xs k → ContainsKey (x ∷ xs) k
    later_there x xs k some = elim (cases_Bool (x.0 == k)) [ inl here ↦ rw here refl | inr apart ↦ rw apart some ]

-- and doesn't go on
chain_stops : (e : ℕ × Block) (es : List (ℕ × Block)) (d : ℕ) → Stops (e ∷ es) → HasDistinctKeys (e ∷ es) → Stops (through (e ∷ es) (end_of (e ∷ es) d))
chain_stops e [] d stops distinct =
    elim (cases_Bool (goes_on e.1.term)) [
      | inl on ↦ absurd (both_ways (goes_on e.1.term) stops on)
      | inr off ↦ rw off (rw (eq-eqb e.0 e.0 refl) stops)
    ]
chain_stops e (f ∷ es) d stops distinct =
    elim (cases_Bool (goes_on e.1.term)) [
      | inl on ↦
          let is : end_of (e ∷ f ∷ es) d ≡ end_of (f ∷ es) e.0 = ap (λ t. if t then end_of (f ∷ es) e.0 else e.0) on in
          let later = chain_stops f es e.0 stops (distinct_back (e ∷ []) (f ∷ es) distinct) in
          subst (λ k. Stops (through (e ∷ f ∷ es) k)) (sym is) (longer (end_of (f ∷ es) e.0) (end_there f es e.0) later)
      | inr off ↦
          let is : end_of (e ∷ f ∷ es) d ≡ e.0 = ap (λ t. if t then end_of (f ∷ es) e.0 else e.0) off in
          subst (λ k. Stops (through (e ∷ f ∷ es) k)) (sym is) (rw (eq-eqb e.0 e.0 refl) off)
    ]
  where
    longer : (k : ℕ) → ContainsKey (f ∷ es) k → Stops (through (f ∷ es) k) → Stops (through (e ∷ f ∷ es) k)
    longer k there later =
        elim (cases_Bool (e.0 == k)) [
          | inl here ↦ absurd (cc (apart_from (e ∷ []) (f ∷ es) k distinct (rw here refl), there))
          | inr apart ↦
              elim (cases_Bool (f.0 == k)) [
                | inl second ↦ rw (apart, second) (rw second at later)
                | inr other ↦ rw (apart, other) (rw other at later)
              ]
        ]

-- what stands ahead of a block into which nothing goes on stops
ahead_stops : (g : Graph) (to : ℕ) (front xs : List (ℕ × Block)) (b : Block) (rest : List (ℕ × Block)) → HasDistinctKeys (named g.blocks) → IsApart g to → named g.blocks ≡ front ++ (xs ++ (to, b) ∷ rest) → Stops xs
ahead_stops g to front [] b rest distinct apart e = refl
ahead_stops g to front (x ∷ []) b rest distinct apart e =
    let none = absent_ahead front ((to, b) ∷ rest) x.0 x.1 (subst (λ (es : List (ℕ × Block)). HasDistinctKeys es) e distinct) in
    let next : next_of g x.0 ≡ Some to = ap (λ es. next_key es x.0) e ∙ ap first_key (behind-append front ((to, b) ∷ rest) x.0 x.1 none) in
    let found : block_of g x.0 ≡ Some x.1 = ap (λ es. value_of es x.0) e ∙ value_of-at front ((to, b) ∷ rest) x.0 x.1 none in
    apart x.0 x.1.term next (ap block_term found)
ahead_stops g to front (x ∷ y ∷ xs) b rest distinct apart e =
    ahead_stops g to (front ++ x ∷ []) (y ∷ xs) b rest distinct apart (e ∙ sym (append_assoc front (x ∷ []) ((y ∷ xs) ++ (to, b) ∷ rest)))

-- BLOCKS UNDER THEIR NAMES

abbrev pub AreNamed : List (ℕ × Block) → Type 0
AreNamed es = AllByRecursion (λ e. e.0 ≡ e.1.name) es

pub all_named : (bs : List Block) → AreNamed (named bs)
all_named [] = tt
all_named (b ∷ bs) = (refl, all_named bs)

pub named_parts : (xs ys : List (ℕ × Block)) → AreNamed (xs ++ ys) → AreNamed xs × AreNamed ys
named_parts [] ys all = (tt, all)
named_parts (e ∷ xs) ys all = let parts = named_parts xs ys all.1 in ((all.0, parts.0), parts.1)

named_both : (xs ys : List (ℕ × Block)) → AreNamed xs → AreNamed ys → AreNamed (xs ++ ys)
named_both [] ys first second = second
named_both (e ∷ xs) ys first second = (first.0, named_both xs ys first.1 second)

named_again : (es : List (ℕ × Block)) → AreNamed es → named (map (λ e. e.1) es) ≡ es
named_again [] all = refl
named_again (e ∷ es) all = ap (λ k. (k, e.1) ∷ named (map (λ f. f.1) es)) (sym all.0) ∙ ap (λ fs. e ∷ fs) (named_again es all.1)

pub blocks_again : (bs : List Block) → map (λ e. e.1) (named bs) ≡ bs
blocks_again [] = refl
blocks_again (b ∷ bs) = ap (λ cs. b ∷ cs) (blocks_again bs)

-- THE MOVE

-- two pieces that stop change places, behind one that stops
pub record Exchanges (old new : List (ℕ × Block)) : Type 0 where
  pub first : List (ℕ × Block)
  pub second : List (ℕ × Block)
  pub third : List (ℕ × Block)
  pub rest : List (ℕ × Block)
  pub first_stops : Stops first
  pub second_stops : Stops second
  pub third_stops : Stops third
  pub was : old ≡ first ++ (second ++ (third ++ rest))
  pub is : new ≡ first ++ (third ++ (second ++ rest))

module _ (old new : List (ℕ × Block)) (x : Exchanges old new) where
  keeps_next : HasDistinctKeys old → (n : ℕ) (b : Block) → value_of old n ≡ Some b → goes_on b.term ≡ true → next_key new n ≡ next_key old n
  keeps_next distinct n b found on =
      ap (λ es. next_key es n) x.is
      ∙ exchanged_next x.first x.second x.third x.rest x.first_stops x.second_stops x.third_stops (subst (λ (es : List (ℕ × Block)). HasDistinctKeys es) x.was distinct) n b (ap (λ es. value_of es n) (sym x.was) ∙ found) on
      ∙ ap (λ es. next_key es n) (sym x.was)

  keeps_names : AreNamed old → AreNamed new
  keeps_names all =
      let first = named_parts x.first (x.second ++ (x.third ++ x.rest)) (subst AreNamed x.was all) in
      let second = named_parts x.second (x.third ++ x.rest) first.1 in
      let third = named_parts x.third x.rest second.1 in
      subst AreNamed (sym x.is) (named_both x.first (x.third ++ (x.second ++ x.rest)) first.0 (named_both x.third (x.second ++ x.rest) third.0 (named_both x.second x.rest second.0 third.1)))

  still_stops : Stops old → Stops new
  still_stops stops =
      let rest : Stops x.rest = stops_back x.third x.rest (stops_back x.second (x.third ++ x.rest) (stops_back x.first (x.second ++ (x.third ++ x.rest)) (subst Stops x.was stops))) in
      subst Stops (sym x.is) (stops_append x.first (x.third ++ (x.second ++ x.rest)) x.first_stops (stops_append x.third (x.second ++ x.rest) x.third_stops (stops_append x.second x.rest x.second_stops rest)))

  same_length : length new ≡ length old
  same_length =
      omega (
        arith,
        ap (λ (es : List (ℕ × Block)). length es) x.was,
        ap (λ (es : List (ℕ × Block)). length es) x.is,
        length-append x.first (x.second ++ (x.third ++ x.rest)),
        length-append x.second (x.third ++ x.rest),
        length-append x.third x.rest,
        length-append x.first (x.third ++ (x.second ++ x.rest)),
        length-append x.third (x.second ++ x.rest),
        length-append x.second x.rest,
      )

module _ (g : Graph) (from to : ℕ) (rules : IsGraph g) (movable : IsMovable g from to) where
  abbrev es : List (ℕ × Block)
  es = named g.blocks

  abbrev last : ℕ
  last = chain_end g to

  pub to_has : HasBlock g to
  to_has = All-head (HasBlock g) to [] (targets_there g from (Jump to) rules movable.jump)

  pub head : (b : Block) × (value_of es to ≡ Some b)
  head = some_value (value_of es to) to_has

  split : es ≡ before es to ++ (to, head.0) ∷ behind es to
  split = split_at_key es to head.0 head.1

  start : starting_at es to ≡ (to, head.0) ∷ behind es to
  start = starting_at-behind es to head.0 head.1

  pub chain_run : IsRun (named g.blocks) to (chain_end g to)
  chain_run = record { starts = to_has; ends = subst (λ (xs : List (ℕ × Block)). ContainsKey xs (end_of xs to)) (sym start) (end_there (to, head.0) (behind es to) to) }

  abbrev A : List (ℕ × Block)
  A = before es to

  abbrev R : List (ℕ × Block)
  R = run es to last

  abbrev C : List (ℕ × Block)
  C = behind (starting_at es to) last

  pub whole : es ≡ A ++ (R ++ C)
  whole = (shape_of es to last chain_run).whole

  all_stops : Stops es
  all_stops = ap last_goes_on (blocks_again g.blocks) ∙ rules.ends

  pub r_stops : Stops R
  r_stops =
      subst (λ (xs : List (ℕ × Block)). Stops (through xs (end_of xs to))) (sym start)
      (chain_stops (to, head.0) (behind es to) to (stops_back A ((to, head.0) ∷ behind es to) (subst Stops split all_stops))
      (distinct_back A ((to, head.0) ∷ behind es to) (subst (λ (xs : List (ℕ × Block)). HasDistinctKeys xs) split rules.distinct)))

  pub a_stops : Stops A
  a_stops = ahead_stops g to [] A head.0 (behind es to) rules.distinct movable.apart split

  c_stops : Stops C
  c_stops = stops_back R C (stops_back A (R ++ C) (subst Stops whole all_stops))

  -- the block that jumps, which isn't in the chain
  pub jumping : (b : Block) × (block_of g from ≡ Some b) × (b.term ≡ Jump to)
  jumping = block_with (block_of g from) (Jump to) movable.jump

  off : goes_on jumping.0.term ≡ false
  off = ap goes_on jumping.2

  pub out_r : value_of R from ≡ None
  out_r = elim (some_or_none (value_of R from)) [ inl some ↦ absurd (movable.outside some) | inr none ↦ none ]

  pub found : or_value (value_of A from) (or_value (value_of R from) (value_of C from)) ≡ Some jumping.0
  found =
      ap (or_value (value_of A from)) (sym (value_of-append R C from)) ∙ sym (value_of-append A (R ++ C) from) ∙ ap (λ xs. value_of xs from) (sym whole) ∙ jumping.1

  pub in_c : value_of A from ≡ None → value_of C from ≡ Some jumping.0
  in_c none = or_second (value_of R from) (value_of C from) jumping.0 (or_second (value_of A from) (or_value (value_of R from) (value_of C from)) jumping.0 found none) out_r

  pub jumping_outside : ContainsKey (without_run (named g.blocks) to (chain_end g to)) from
  jumping_outside =
      ap is_some (value_of-append A C from)
      ∙ elim (some_or_none (value_of A from)) [
        | inl some ↦ ap (λ o. is_some (or_value o (value_of C from))) (or_first (value_of A from) (or_value (value_of R from) (value_of C from)) jumping.0 found some)
        | inr none ↦ ap (λ o. is_some (or_value o (value_of C from))) none ∙ ap is_some (in_c none)
      ]

  abbrev M : List (ℕ × Block)
  M = move_run_after es to last from

  pub jump_stops : (xs : List (ℕ × Block)) → value_of xs from ≡ Some jumping.0 → Stops (through xs from)
  jump_stops xs e = subst Stops (sym (through-before xs from jumping.0 e)) (stops_last (before xs from) from jumping.0 off)

  abbrev pub moves_back : IsSome (value_of A from) → Exchanges es M
  moves_back some =
      let there = or_first (value_of A from) (or_value (value_of R from) (value_of C from)) jumping.0 found some in
      let parts : through A from ++ behind A from ≡ A = through-behind A from in
      record {
        first = through A from;
        second = behind A from;
        third = R;
        rest = C;
        first_stops = jump_stops A there;
        second_stops = stops_back (through A from) (behind A from) (subst Stops (sym parts) a_stops);
        third_stops = r_stops;
        was = whole ∙ ap (λ xs. xs ++ (R ++ C)) (sym parts) ∙ append_assoc (through A from) (behind A from) (R ++ C);
        is = ap (λ xs. xs ++ (R ++ behind (A ++ C) from)) (through-in A C from some) ∙ ap (λ xs. through A from ++ (R ++ xs)) (behind-in A C from some);
      }

  abbrev pub moves_ahead : value_of A from ≡ None → Exchanges es M
  moves_ahead none =
      let parts : through C from ++ behind C from ≡ C = through-behind C from in
      record {
        first = A;
        second = R;
        third = through C from;
        rest = behind C from;
        first_stops = a_stops;
        second_stops = r_stops;
        third_stops = jump_stops C (in_c none);
        was = whole ∙ ap (λ xs. A ++ (R ++ xs)) (sym parts);
        is =
            ap (λ xs. xs ++ (R ++ behind (A ++ C) from)) (through-out A C from none)
            ∙ ap (λ xs. (A ++ through C from) ++ (R ++ xs)) (behind-out A C from none)
            ∙ append_assoc A (through C from) (R ++ behind C from);
      }

  pub exchange : Exchanges es M
  exchange = elim (some_or_none (value_of A from)) [ inl some ↦ moves_back some | inr none ↦ moves_ahead none ]

  pub again : named (map (λ e. e.1) M) ≡ M
  again = named_again M (keeps_names es M exchange (all_named g.blocks))

  pub chain_moved_rules : IsGraph (moved_after g to (chain_end g to) from)
  chain_moved_rules = moved_after_rules g to last from rules chain_run (still_stops es M exchange all_stops)

  pub chain_moved_length : length (moved_after g to (chain_end g to) from).blocks ≡ length g.blocks
  chain_moved_length =
      length-map M (λ (e : ℕ × Block). e.1) ∙ same_length es M exchange ∙ sym (length-map es (λ (e : ℕ × Block). e.1)) ∙ ap (λ (bs : List Block). length bs) (blocks_again g.blocks)

  pub chain_reordered : AreReordered g (moved_after g to (chain_end g to) from).blocks
  chain_reordered = record {
    distinct = chain_moved_rules.distinct;
    same = λ n. ap (λ (xs : List (ℕ × Block)). value_of xs n) again ∙ KeepsValues-move_run_after es to last from rules.distinct chain_run n;
    next = λ n b e on. ap (λ (xs : List (ℕ × Block)). next_key xs n) again ∙ keeps_next es M exchange rules.distinct n b e on;
  }
