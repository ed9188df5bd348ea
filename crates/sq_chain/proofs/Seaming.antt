-- Two pieces of the blocks change places: new seams are at the heads of three pieces alone.
use Rattle.std.proofs.Common.{◌≡◌, ℕ, ◌≤◌, ◌==◌, Bool, true, false, ◌||◌, if◌then◌else◌, List, [], ◌∷◌, ◌++◌, map, sum_by, Some, inl, inr, refl, sym, ap, ◌∙◌, subst, arith}
use Rattle.std.proofs.lemmas.Bool.{cases_Bool, eqb-true}
use Rattle.std.proofs.lemmas.List.{map-append}
use Rattle.std.proofs.lemmas.List.Sums.{sum_by-cons}
use Rattle.std.proofs.lemmas.List.Elements.{All-append}
use Rattle.std.specs.List.{All, flat_map}
use Rattle.sq_arena.specs.Entries.{value_of, before, through, starting_at, behind, run, move_run_after, first_key}
use Rattle.sq_arena.proofs.EntriesLemmas.{shape_of}
use Rattle.sq_graph.specs.declared.item.Term.{Term}
use Rattle.sq_graph.specs.declared.item.Term.TheVariants.{Fall, Jump, Branch, Call, PartJump, Indirect, Stop}
use Rattle.sq_graph.specs.Graph.{Block, Graph}
use Rattle.sq_graph.specs.Blocks.{named, next_of, items_of_blocks}
use Rattle.sq_graph.specs.Rules.{IsGraph}
use Rattle.sq_graph.specs.Uses.{term_uses, terms_uses}
use Rattle.sq_graph.specs.Words.{term_words, block_words}
use Rattle.sq_graph.specs.Leaders.{is_fall, FallsIntoLeaders}
use Rattle.sq_graph.proofs.Eachs.{All-left, All-right}
use Rattle.sq_chain.specs.Moves.{chain_end, IsMovable, fallen_term, fallen_blocks, fallen_into, carried}
use Rattle.sq_lookup.specs.Counts.{times_named}
use Rattle.sq_lookup.proofs.Counting.{times-append, times_flat}
use Rattle.sq_chain.proofs.Exchanging.{next_back, next_ahead, next_chain}
use Rattle.sq_chain.proofs.Lighter.{fallen_light, fallen_most}
use Rattle.sq_chain.proofs.Reordered.{AreNamed, all_named, named_parts, blocks_again, Exchanges, some_or_none, chain_run, moves_back, moves_ahead}

-- the one list has two pieces of the other in each other's place
pub record AreExchanged (old new : List Block) : Type 0 where
  pub first : List Block
  pub second : List Block
  pub third : List Block
  pub rest : List Block
  pub was : old ≡ first ++ (second ++ (third ++ rest))
  pub is : new ≡ first ++ (third ++ (second ++ rest))

-- it has as many of each name
pub times_exchanged : (f : Block → List ℕ) (old new : List Block) → AreExchanged old new → (n : ℕ) → times_named (flat_map f new) n ≡ times_named (flat_map f old) n
times_exchanged f old new x n =
    omega (
      arith,
      ap (λ bs. times_named (flat_map f bs) n) x.was,
      ap (λ bs. times_named (flat_map f bs) n) x.is,
      times_flat f x.first (x.second ++ (x.third ++ x.rest)) n,
      times_flat f x.second (x.third ++ x.rest) n,
      times_flat f x.third x.rest n,
      times_flat f x.first (x.third ++ (x.second ++ x.rest)) n,
      times_flat f x.third (x.second ++ x.rest) n,
      times_flat f x.second x.rest n,
    )

-- and what holds of each block of the one holds of each of the other
pub all_exchanged : (P : Block → Type 0) (old new : List Block) → AreExchanged old new → All P old → All P new
all_exchanged P old new x all =
    let whole : All P (x.first ++ (x.second ++ (x.third ++ x.rest))) = subst (λ (bs : List Block). All P bs) x.was all in
    let back = All-right P x.first (x.second ++ (x.third ++ x.rest)) whole in
    let later = All-right P x.second (x.third ++ x.rest) back in
    subst (λ (bs : List Block). All P bs) (sym x.is)
    (All-append P x.first (x.third ++ (x.second ++ x.rest)) (All-left P x.first (x.second ++ (x.third ++ x.rest)) whole)
    (All-append P x.third (x.second ++ x.rest) (All-left P x.third x.rest later)
    (All-append P x.second x.rest (All-left P x.second (x.third ++ x.rest) back) (All-right P x.third x.rest later))))

-- SEAMS

-- the name of the first of these blocks is among the seams
abbrev pub StartsAmong : (ℕ → Bool) → List Block → Type 0
StartsAmong among [] = Unit {0}
StartsAmong among (b ∷ bs) = among b.name ≡ true

-- a block that isn't at a seam doesn't jump to the next slot, nor does it fall into another block than a leader
abbrev pub Seamed : (ℕ → Bool) → (ℕ → Bool) → List Block → Type 0
Seamed among leads [] = Unit {0}
Seamed among leads (b ∷ []) = Unit {0}
Seamed among leads (b ∷ next ∷ rest) =
    (among next.name ≡ false → (fallen_term next.name b.term ≡ b.term) × (is_fall b.term ≡ true → leads next.name ≡ true)) × Seamed among leads (next ∷ rest)

module _ (among leads : ℕ → Bool) where
  seamed_back : (xs ys : List Block) → Seamed among leads (xs ++ ys) → Seamed among leads ys
  seamed_back [] ys seamed = seamed
  seamed_back (b ∷ []) [] seamed = tt
  seamed_back (b ∷ []) (y ∷ ys) seamed = seamed.1
  seamed_back (b ∷ c ∷ xs) ys seamed = seamed_back (c ∷ xs) ys seamed.1

  seamed_front : (xs ys : List Block) → Seamed among leads (xs ++ ys) → Seamed among leads xs
  seamed_front [] ys seamed = tt
  seamed_front (b ∷ []) ys seamed = tt
  seamed_front (b ∷ c ∷ xs) ys seamed = (seamed.0, seamed_front (c ∷ xs) ys seamed.1)

  seamed_both : (xs ys : List Block) → Seamed among leads xs → Seamed among leads ys → StartsAmong among ys → Seamed among leads (xs ++ ys)
  seamed_both [] ys front back starts = back
  seamed_both (b ∷ []) [] front back starts = tt
  seamed_both (b ∷ []) (y ∷ ys) front back starts = (λ other. absurd (cc (other, starts)), back)
  seamed_both (b ∷ c ∷ xs) ys front back starts = (front.0, seamed_both (c ∷ xs) ys front.1 back starts)

  starts_both : (xs ys : List Block) → StartsAmong among xs → StartsAmong among ys → StartsAmong among (xs ++ ys)
  starts_both [] ys front back = back
  starts_both (b ∷ xs) ys front back = front

  pub seamed_exchanged : (old new : List Block) (x : AreExchanged old new) → StartsAmong among x.second → StartsAmong among x.third → StartsAmong among x.rest → Seamed among leads old → Seamed among leads new
  seamed_exchanged old new x second third rest seamed =
      let whole = subst (Seamed among leads) x.was seamed in
      let back = seamed_back x.first (x.second ++ (x.third ++ x.rest)) whole in
      let later = seamed_back x.second (x.third ++ x.rest) back in
      subst (Seamed among leads) (sym x.is)
      (seamed_both x.first (x.third ++ (x.second ++ x.rest)) (seamed_front x.first (x.second ++ (x.third ++ x.rest)) whole)
      (seamed_both x.third (x.second ++ x.rest) (seamed_front x.third x.rest later)
      (seamed_both x.second x.rest (seamed_front x.second (x.third ++ x.rest) back) (seamed_back x.third x.rest later) rest)
      (starts_both x.second x.rest second rest))
      (starts_both x.third (x.second ++ x.rest) third (starts_both x.second x.rest second rest)))

  -- so each Jump to the next slot is one to a seam
  pub falls_at_seams : (bs : List Block) → Seamed among leads bs → fallen_into among bs ≡ fallen_blocks bs
  falls_at_seams [] seamed = refl
  falls_at_seams (b ∷ []) seamed = refl
  falls_at_seams (b ∷ next ∷ rest) seamed =
      elim (cases_Bool (among next.name)) [
        | inl seam ↦ rw seam (ap (λ bs. record b { term = fallen_term next.name b.term } ∷ bs) (falls_at_seams (next ∷ rest) seamed.1))
        | inr other ↦
            let same : fallen_term next.name b.term ≡ b.term = (seamed.0 other).0 in
            rw other
            (ap (λ t. record b { term = t } ∷ fallen_into among (next ∷ rest)) (sym same)
            ∙ ap (λ bs. record b { term = fallen_term next.name b.term } ∷ bs) (falls_at_seams (next ∷ rest) seamed.1))
      ]

  -- and what is fallen into then is a seam or a leader
  led_at : (b : Block) (n : ℕ) → (among n ≡ false → (fallen_term n b.term ≡ b.term) × (is_fall b.term ≡ true → leads n ≡ true)) → is_fall (fallen_term n b.term) ≡ true → (among n || leads n) ≡ true
  led_at b n seam falls =
      elim (cases_Bool (among n)) [
        | inl among_it ↦ rw among_it refl
        | inr aside ↦ let s = seam aside in rw aside (s.1 (ap is_fall (sym s.0) ∙ falls))
      ]

  pub falls_led : (bs : List Block) → Seamed among leads bs → FallsIntoLeaders (λ n. among n || leads n) (fallen_blocks bs)
  falls_led [] seamed = tt
  falls_led (b ∷ []) seamed = tt
  falls_led (b ∷ next ∷ []) seamed = (led_at b next.name seamed.0, tt)
  falls_led (b ∷ next ∷ other ∷ rest) seamed = (led_at b next.name seamed.0, falls_led (next ∷ other ∷ rest) seamed.1)

  pub seamed_more : (bs : List Block) → Seamed (λ n. false) leads bs → Seamed among leads bs
  seamed_more [] seamed = tt
  seamed_more (b ∷ []) seamed = tt
  seamed_more (b ∷ next ∷ rest) seamed = (λ other. seamed.0 refl, seamed_more (next ∷ rest) seamed.1)

-- a term that takes as many words stays
same_term : (n : ℕ) (t : Term) → term_words t ≤ term_words (fallen_term n t) → fallen_term n t ≡ t
same_term n Fall same = refl
same_term n (Jump to) same =
    elim (cases_Bool (to == n)) [
      | inl here ↦ absurd (let few : 1 ≤ 0 = rw here at same in omega (arith, few))
      | inr apart ↦ rw apart refl
    ]
same_term n (Branch cond x y to) same = refl
same_term n (Call link to) same = refl
same_term n (PartJump link part to) same = refl
same_term n (Indirect link x offset) same = refl
same_term n (Stop word) same = refl

-- where no block jumps to the next slot, and each that falls does so into a leader, there is no seam
pub seamed_first : (leads : ℕ → Bool) (bs : List Block) → FallsIntoLeaders leads bs → sum_by block_words bs ≤ sum_by block_words (fallen_blocks bs) → Seamed (λ n. false) leads bs
seamed_first leads [] falls same = tt
seamed_first leads (b ∷ []) falls same = tt
seamed_first leads (b ∷ next ∷ rest) falls same =
    let all = sum_by-cons block_words b (next ∷ rest) in
    let all' = sum_by-cons block_words (record b { term = fallen_term next.name b.term }) (fallen_blocks (next ∷ rest)) in
    let most = fallen_most (next ∷ rest) in
    let light = fallen_light next.name b.term in (
      λ none. (same_term next.name b.term (omega (arith, all, all', most, same)), falls.0),
      seamed_first leads (next ∷ rest) falls.1 (omega (arith, all, all', light, same)),
    )

-- FALLING INTO SOME

same_fall : (n : ℕ) (t : Term) → fallen_term n (fallen_term n t) ≡ fallen_term n t
same_fall n Fall = refl
same_fall n (Jump to) = elim (cases_Bool (to == n)) [ inl here ↦ rw here refl | inr apart ↦ rw (apart, apart) refl ]
same_fall n (Branch cond x y to) = refl
same_fall n (Call link to) = refl
same_fall n (PartJump link part to) = refl
same_fall n (Indirect link x offset) = refl
same_fall n (Stop word) = refl

pub fallen_none : (bs : List Block) → fallen_into (λ n. false) bs ≡ bs
fallen_none [] = refl
fallen_none (b ∷ []) = refl
fallen_none (b ∷ next ∷ rest) = ap (λ bs. b ∷ bs) (fallen_none (next ∷ rest))

pub fallen_same : (P Q : ℕ → Bool) (bs : List Block) → ((n : ℕ) → P n ≡ Q n) → fallen_into P bs ≡ fallen_into Q bs
fallen_same P Q [] same = refl
fallen_same P Q (b ∷ []) same = refl
fallen_same P Q (b ∷ next ∷ rest) same =
    ap (λ t. (if t then record b { term = fallen_term next.name b.term } else b) ∷ fallen_into P (next ∷ rest)) (same next.name)
    ∙ ap (λ bs. (if Q next.name then record b { term = fallen_term next.name b.term } else b) ∷ bs) (fallen_same P Q (next ∷ rest) same)

-- a block of another term before those that fall
fallen_head : (P : ℕ → Bool) (b next : Block) (rest : List Block) → (c : Block) × ((more : List Block) × ((fallen_into P (next ∷ rest) ≡ c ∷ more) × (c.name ≡ next.name)))
fallen_head P b next [] = (next, ([], (refl, refl)))
fallen_head P b next (other ∷ rest) = (
  if P other.name then record next { term = fallen_term other.name next.term } else next,
  (fallen_into P (other ∷ rest), (refl, elim (cases_Bool (P other.name)) [ inl among_it ↦ rw among_it refl | inr aside ↦ rw aside refl ])),
)

pub fallen_twice : (P Q : ℕ → Bool) (bs : List Block) → fallen_into P (fallen_into Q bs) ≡ fallen_into (λ n. P n || Q n) bs
fallen_twice P Q [] = refl
fallen_twice P Q (b ∷ []) = refl
fallen_twice P Q (b ∷ next ∷ rest) =
    let head = fallen_head Q b next rest in
    let first : Block = if Q next.name then record b { term = fallen_term next.name b.term } else b in
    ap (λ bs. fallen_into P (first ∷ bs)) head.1.1.0
    ∙ ap (λ n. (if P n then record first { term = fallen_term n first.term } else first) ∷ fallen_into P (head.0 ∷ head.1.0)) head.1.1.1
    ∙ ap (λ bs. (if P next.name then record first { term = fallen_term next.name first.term } else first) ∷ fallen_into P bs) (sym head.1.1.0)
    ∙ ap (λ bs. (if P next.name then record first { term = fallen_term next.name first.term } else first) ∷ bs) (fallen_twice P Q (next ∷ rest))
    ∙ ap (λ c. c ∷ fallen_into (λ n. P n || Q n) (next ∷ rest)) (one (P next.name) (Q next.name))
  where
    one : (p q : Bool) → (if p then record (if q then record b { term = fallen_term next.name b.term } else b) { term = fallen_term next.name (if q then record b { term = fallen_term next.name b.term } else b).term } else (if q then record b { term = fallen_term next.name b.term } else b)) ≡ (if p || q then record b { term = fallen_term next.name b.term } else b)
    one true true = ap (λ t. record b { term = t }) (same_fall next.name b.term)
    one true false = refl
    one false true = refl
    one false false = refl

pub fallen_items : (P : ℕ → Bool) (bs : List Block) → items_of_blocks (fallen_into P bs) ≡ items_of_blocks bs
fallen_items P [] = refl
fallen_items P (b ∷ []) = refl
fallen_items P (b ∷ next ∷ rest) =
    elim (cases_Bool (P next.name)) [
      | inl among_it ↦ rw among_it (ap (λ is. b.items ++ is) (fallen_items P (next ∷ rest)))
      | inr aside ↦ rw aside (ap (λ is. b.items ++ is) (fallen_items P (next ∷ rest)))
    ]

-- other names than those are named as often
fallen_named : (k n : ℕ) (t : Term) → (k == n) ≡ false → times_named (term_uses (fallen_term k t)) n ≡ times_named (term_uses t) n
fallen_named k n Fall apart = refl
fallen_named k n (Jump to) apart =
    elim (cases_Bool (to == k)) [
      | inl here ↦
          let other : (to == n) ≡ false = ap (λ m. m == n) (eqb-true to k here) ∙ apart in
          rw (here, other) refl
      | inr elsewhere ↦ rw elsewhere refl
    ]
fallen_named k n (Branch cond x y to) apart = refl
fallen_named k n (Call link to) apart = refl
fallen_named k n (PartJump link part to) apart = refl
fallen_named k n (Indirect link x offset) apart = refl
fallen_named k n (Stop word) apart = refl

pub times_fallen : (P : ℕ → Bool) (bs : List Block) (n : ℕ) → P n ≡ false → times_named (terms_uses (fallen_into P bs)) n ≡ times_named (terms_uses bs) n
times_fallen P [] n other = refl
times_fallen P (b ∷ []) n other = refl
times_fallen P (b ∷ next ∷ rest) n other =
    let later = times_fallen P (next ∷ rest) n other in
    let all = times-append (term_uses b.term) (terms_uses (next ∷ rest)) n in
    elim (cases_Bool (P next.name)) [
      | inl among_it ↦
          let apart : (next.name == n) ≡ false =
          elim (cases_Bool (next.name == n)) [
            | inl same ↦ absurd (cc (ap P (eqb-true next.name n same), among_it, other))
            | inr apart ↦ apart
          ] in
          rw among_it (omega (arith, later, all, fallen_named next.name n b.term apart, times-append (term_uses (fallen_term next.name b.term)) (terms_uses (fallen_into P (next ∷ rest))) n))
      | inr aside ↦ rw aside (omega (arith, later, all, times-append (term_uses b.term) (terms_uses (fallen_into P (next ∷ rest))) n))
    ]

-- THE MOVE OF A CHAIN

abbrev pub unnamed : List (ℕ × Block) → List Block
unnamed es = map (λ e. e.1) es

unnamed-append : (xs ys : List (ℕ × Block)) → unnamed (xs ++ ys) ≡ unnamed xs ++ unnamed ys
unnamed-append xs ys = map-append (λ (e : ℕ × Block). e.1) xs ys

pub unnamed_four : (a b c d : List (ℕ × Block)) → unnamed (a ++ (b ++ (c ++ d))) ≡ unnamed a ++ (unnamed b ++ (unnamed c ++ unnamed d))
unnamed_four a b c d =
    unnamed-append a (b ++ (c ++ d))
    ∙ ap (λ bs. unnamed a ++ bs) (unnamed-append b (c ++ d) ∙ ap (λ bs. unnamed b ++ bs) (unnamed-append c d))

abbrev pub unnamed_exchange : (old new : List (ℕ × Block)) → Exchanges old new → AreExchanged (map (λ e. e.1) old) (map (λ e. e.1) new)
unnamed_exchange old new x = record {
  first = map (λ e. e.1) x.first;
  second = map (λ e. e.1) x.second;
  third = map (λ e. e.1) x.third;
  rest = map (λ e. e.1) x.rest;
  was = ap (λ es. map (λ e. e.1) es) x.was ∙ unnamed_four x.first x.second x.third x.rest;
  is = ap (λ es. map (λ e. e.1) es) x.is ∙ unnamed_four x.first x.third x.second x.rest;
}

-- a piece starts at a seam if the name of its first block is one
starts : (among : ℕ → Bool) (es : List (ℕ × Block)) → AreNamed es → ((m : ℕ) → first_key es ≡ Some m → among m ≡ true) → StartsAmong among (map (λ e. e.1) es)
starts among [] named first = tt
starts among (e ∷ es) named first = ap among (sym named.0) ∙ first e.0 refl

first_through : (es : List (ℕ × Block)) (n : ℕ) → first_key (through es n) ≡ first_key es
first_through [] n = refl
first_through (e ∷ es) n = elim (cases_Bool (e.0 == n)) [ inl here ↦ rw here refl | inr apart ↦ rw apart refl ]

first_append : (xs ys : List (ℕ × Block)) (m : ℕ) → first_key xs ≡ Some m → first_key (xs ++ ys) ≡ Some m
first_append [] ys m first = absurd (cc)
first_append (x ∷ xs) ys m first = first

-- the blocks of the graph once the chain has moved, and their seams
pub record IsMovedAt (g : Graph) (from to : ℕ) (among : ℕ → Bool) : Type 0 where
  pub pieces : AreExchanged g.blocks (carried g from to).blocks
  pub second : StartsAmong among pieces.second
  pub third : StartsAmong among pieces.third
  pub rest : StartsAmong among pieces.rest

module _ (g : Graph) (from to : ℕ) (rules : IsGraph g) (movable : IsMovable g from to) (among : ℕ → Bool) (at_to : among to ≡ true) (at_after : (m : ℕ) → next_of g from ≡ Some m → among m ≡ true) (at_behind : (m : ℕ) → next_of g (chain_end g to) ≡ Some m → among m ≡ true) where
  abbrev es : List (ℕ × Block)
  es = named g.blocks

  abbrev last : ℕ
  last = chain_end g to

  abbrev A : List (ℕ × Block)
  A = before es to

  abbrev R : List (ℕ × Block)
  R = run es to last

  abbrev C : List (ℕ × Block)
  C = behind (starting_at es to) last

  abbrev M : List (ℕ × Block)
  M = move_run_after es to last from

  by_pieces : (x : Exchanges es M) → ((m : ℕ) → first_key x.second ≡ Some m → among m ≡ true) → ((m : ℕ) → first_key x.third ≡ Some m → among m ≡ true) → ((m : ℕ) → first_key x.rest ≡ Some m → among m ≡ true) → IsMovedAt g from to among
  by_pieces x second third rest =
      let one = named_parts x.first (x.second ++ (x.third ++ x.rest)) (subst AreNamed x.was (all_named g.blocks)) in
      let two = named_parts x.second (x.third ++ x.rest) one.1 in
      let three = named_parts x.third x.rest two.1 in
      let there = unnamed_exchange es M x in
      record {
        pieces = record { first = there.first; second = there.second; third = there.third; rest = there.rest; was = sym (blocks_again g.blocks) ∙ there.was; is = there.is };
        second = starts among x.second two.0 second;
        third = starts among x.third three.0 third;
        rest = starts among x.rest three.1 rest;
      }

  chain_starts : (m : ℕ) → first_key R ≡ Some m → among m ≡ true
  chain_starts m first =
      let shape = shape_of es to last (chain_run g from to rules movable) in
      let same : Some to ≡ Some m = sym (ap first_key shape.is) ∙ first in
      let is : to ≡ m = cc in
      subst (λ k. among k ≡ true) is at_to

  pub moved_at : IsMovedAt g from to among
  moved_at =
      elim (some_or_none (value_of A from)) [
        | inl some ↦
            by_pieces (moves_back g from to rules movable some)
            (λ m first. at_after m (next_back g from to rules movable some ∙ first_append (behind A from) (R ++ C) m first))
            chain_starts
            (λ m first. at_behind m (next_chain g from to rules movable ∙ first))
        | inr none ↦
            by_pieces (moves_ahead g from to rules movable none)
            chain_starts
            (λ m first. at_behind m (next_chain g from to rules movable ∙ sym (first_through C from) ∙ first))
            (λ m first. at_after m (next_ahead g from to rules movable none ∙ first))
      ]
