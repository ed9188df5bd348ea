-- A move as the exchange of two pieces of the blocks: where its seams are, and how many blocks fall at them.
use Rattle.std.proofs.Common.{◌≡◌, ◌≢◌, ℕ, ◌+◌, ◌*◌, ◌≤◌, ◌<◌, ◌^◌, List, [], ◌∷◌, ◌++◌, Option, None, Some, IsSome, inl, inr, refl, sym, ap, ◌∙◌, subst, arith, append_assoc}
use Rattle.std.specs.Prelude.{unwrap_or}
use Rattle.std.proofs.lemmas.Bool.{eq-eqb}
use Rattle.std.proofs.lemmas.List.Sums.{sum_by-cons}
use Rattle.sq_arena.specs.Entries.{HasDistinctKeys, value_of, before, through, starting_at, behind, run, move_run_after, first_key, previous_key}
use Rattle.sq_arena.proofs.EntriesLaws.{absent_ahead, or_value}
use Rattle.sq_arena.proofs.EntriesLemmas.{split_at as split_at_key, through-before, through-behind, shape_of, some_value}
use Rattle.sq_graph.specs.declared.item.Term.{Term}
use Rattle.sq_graph.specs.declared.item.Term.TheVariants.{Jump}
use Rattle.sq_graph.specs.Graph.{Block, Graph}
use Rattle.sq_graph.specs.Blocks.{named, HasBlock, block_of, block_term, next_of, term_of}
use Rattle.sq_graph.specs.Rules.{IsGraph}
use Rattle.sq_graph.specs.Words.{term_words, block_words, words_of}
use Rattle.sq_graph.proofs.BlockMoves.{through-in, behind-in, through-out, behind-out}
use Rattle.sq_graph.proofs.Located.{value_of-at}
use Rattle.sq_layout.specs.Weights.{address_by}
use Rattle.sq_lookup.specs.Addresses.{address_at}
use Rattle.sq_chain.specs.Moves.{chain_end, IsMovable, carried}
use Rattle.sq_chain.specs.Seams.{size, AreSeams, IsExchanged}
use Rattle.sq_chain.specs.declared.seams.Seams.{Seams}
use Rattle.sq_chain.specs.Tests.{drop_of, drop_term, drop_at, drop_by, drop_before}
use Rattle.sq_chain.specs.declared.shift.Shift.{Shift}
use Rattle.sq_chain.proofs.Drops.{drop_one, next_or, next_first, next_either, drops, drops_words, last_drop, last_at, last_behind, last_is, last_none, first_drop}
use Rattle.sq_chain.proofs.Orders.{last_has, none_ahead, behind_chain}
use Rattle.sq_chain.proofs.Reordered.{Exchanges, some_or_none, whole, moves_back, moves_ahead, chain_run, chain_reordered, again, jumping, out_r, in_c, or_first, found, head, r_stops}
use Rattle.sq_chain.proofs.Sunk.{IsMovedBy, sunk_stands, fallen_stands, exchanged_falls, settled_stands}
use Rattle.sq_chain.proofs.Standing.{stands, stands_named, size_named, size_append, past, to_end, exchanged_stands}

-- the term of a block that ends a piece
ends_listed : (g : Graph) (rules : IsGraph g) (front lead rest : List (ℕ × Block)) (n : ℕ) (b : Block) → named g.blocks ≡ front ++ ((lead ++ (n, b) ∷ []) ++ rest) → block_of g n ≡ Some b
ends_listed g rules front lead rest n b e =
    let is : named g.blocks ≡ (front ++ lead) ++ (n, b) ∷ rest = e ∙ ap (λ (es : List (ℕ × Block)). front ++ es) (append_assoc lead ((n, b) ∷ []) rest) ∙ sym (append_assoc front lead ((n, b) ∷ rest)) in
    let none = absent_ahead (front ++ lead) rest n b (subst (λ (es : List (ℕ × Block)). HasDistinctKeys es) is rules.distinct) in
    ap (λ (es : List (ℕ × Block)). value_of es n) is ∙ value_of-at (front ++ lead) rest n b none

pub term_is : (g : Graph) (n : ℕ) (b : Block) (t : Term) → block_of g n ≡ Some b → term_of g n ≡ Some t → b.term ≡ t
term_is g n b t found is = let e : Some b.term ≡ Some t = sym (ap block_term found) ∙ is in cc

-- where a block starts, and where it ends
module _ (g : Graph) (rules : IsGraph g) (n : ℕ) (b : Block) (found : block_of g n ≡ Some b) where
  starts_at : stands (named g.blocks) 0 n ≡ Some (4 * size (before (named g.blocks) n))
  starts_at =
      let is = split_at_key (named g.blocks) n b found in
      let none = absent_ahead (before (named g.blocks) n) (behind (named g.blocks) n) n b (subst (λ (es : List (ℕ × Block)). HasDistinctKeys es) is rules.distinct) in
      ap (λ (es : List (ℕ × Block)). stands es 0 n) is
      ∙ past (before (named g.blocks) n) ((n, b) ∷ behind (named g.blocks) n) 0 n none
      ∙ rw (eq-eqb n n refl) (ap Some (omega arith))

  module _ (address : ℕ → Option ℕ) (are : (m : ℕ) → address m ≡ address_by block_words g.blocks 0 m) where
    pub start_is : address_at address n ≡ 4 * size (before (named g.blocks) n)
    start_is = ap (λ (o : Option ℕ). unwrap_or o 0) (are n ∙ stands_named g.blocks 0 n ∙ starts_at)

    pub end_is : address_at address n + 4 * block_words b ≡ 4 * size (through (named g.blocks) n)
    end_is =
        omega (
          arith,
          start_is,
          ap size (through-before (named g.blocks) n b found),
          size_append (before (named g.blocks) n) ((n, b) ∷ []),
          sum_by-cons (λ (e : ℕ × Block). block_words e.1) (n, b) [],
        )

pub through_few : (g : Graph) (n : ℕ) → words_of g < 2 ^ 31 → size (through (named g.blocks) n) < 2 ^ 31
through_few g n few =
    omega (
      arith,
      few,
      size_named g.blocks,
      ap size (through-behind (named g.blocks) n),
      size_append (through (named g.blocks) n) (behind (named g.blocks) n),
    )

module _ (g : Graph) (from to : ℕ) (rules : IsGraph g) (movable : IsMovable g from to) where
  abbrev es : List (ℕ × Block)
  es = named g.blocks

  abbrev last : ℕ
  last = chain_end g to

  abbrev A : List (ℕ × Block)
  A = before es to

  abbrev R : List (ℕ × Block)
  R = run es to last

  abbrev C : List (ℕ × Block)
  C = behind (starting_at es to) last

  abbrev jump : Block
  jump = (jumping g from to rules movable).0

  ends_in_jump : (xs : List (ℕ × Block)) → value_of xs from ≡ Some jump → through xs from ≡ before xs from ++ (from, jump) ∷ []
  ends_in_jump xs found = through-before xs from jump found

  pub last_block : (n : ℕ) → n ≡ last → (b : Block) × (block_of g n ≡ Some b)
  last_block n same = some_value (block_of g n) (subst (HasBlock g) (sym same) (last_has g from to rules movable))

  -- HOW MANY FALL

  pub next_back : IsSome (value_of A from) → next_of g from ≡ first_key (behind A from ++ (R ++ C))
  next_back some = ap (λ (xs : List (ℕ × Block)). first_key (behind xs from)) (whole g from to rules movable) ∙ ap first_key (behind-in A (R ++ C) from some)

  pub next_ahead : value_of A from ≡ None → next_of g from ≡ first_key (behind C from)
  next_ahead none =
      ap (λ (xs : List (ℕ × Block)). first_key (behind xs from)) (whole g from to rules movable)
      ∙ ap first_key (behind-out A (R ++ C) from none ∙ behind-out R C from (out_r g from to rules movable))

  pub next_chain : next_of g last ≡ first_key C
  next_chain = ap first_key (behind_chain g from to rules movable)

  jump_in_a : IsSome (value_of A from) → value_of A from ≡ Some jump
  jump_in_a some = or_first (value_of A from) (or_value (value_of R from) (value_of C from)) jump (found g from to rules movable) some

  last_jump : (xs : List (ℕ × Block)) (o : Option ℕ) → value_of xs from ≡ Some jump → last_drop (through xs from) o ≡ drop_of (Jump to) o
  last_jump xs o found =
      ap (λ (ys : List (ℕ × Block)). last_drop ys o) (ends_in_jump xs found) ∙ last_at (before xs from) (from, jump) o
      ∙ ap (λ (t : Term). drop_of t o) (jumping g from to rules movable).2

  -- what falls at the seams, behind the chain, and before it
  module _ (none : drops es None ≡ 0) where
    back_first : IsSome (value_of A from) → last_drop (through A from) (next_or (R ++ (behind A from ++ C)) None) ≡ 1
    back_first some =
        let shape = shape_of es to last (chain_run g from to rules movable) in
        ap (λ (xs : List (ℕ × Block)). last_drop (through A from) (next_or (xs ++ (behind A from ++ C)) None)) shape.is
        ∙ last_jump A (Some to) (jump_in_a some) ∙ drop_one to

    -- something is between the Jump and the chain
    back_apart : IsSome (value_of A from) → behind A from ≢ []
    back_apart some empty =
        let x = moves_back g from to rules movable some in
        let none' : drops (through A from ++ (behind A from ++ (R ++ C))) None ≡ 0 = sym (ap (λ (xs : List (ℕ × Block)). drops xs None) x.was) ∙ none in
        let shape = shape_of es to last (chain_run g from to rules movable) in
        let slot : next_or (behind A from ++ (R ++ C)) None ≡ Some to = ap (λ (xs : List (ℕ × Block)). next_or (xs ++ (R ++ C)) None) empty ∙ ap (λ (xs : List (ℕ × Block)). next_or (xs ++ C) None) shape.is in
        let one = ap (λ (o : Option ℕ). last_drop (through A from) o) slot ∙ last_jump A (Some to) (jump_in_a some) ∙ drop_one to in
        omega (arith, one, first_drop (through A from) (behind A from) R C none')

    back_second : IsSome (value_of A from) → last_drop R (next_or (behind A from ++ C) None) ≡ last_drop R (next_of g from)
    back_second some =
        elim (next_either (behind A from) C (R ++ C)) [
          | inl empty ↦ absurd (back_apart some empty)
          | inr same ↦ ap (last_drop R) (same ∙ sym (next_back some))
        ]

    back_third : IsSome (value_of A from) → last_drop (behind A from) (next_or C None) ≡ last_drop A (next_of g last)
    back_third some =
        last_behind (through A from) (behind A from) (next_or C None) (back_apart some)
        ∙ ap (λ (xs : List (ℕ × Block)). last_drop xs (next_or C None)) (through-behind A from) ∙ ap (last_drop A) (next_first C ∙ sym next_chain)

    ahead_first : value_of A from ≡ None → last_drop A (next_or (through C from ++ (R ++ behind C from)) None) ≡ last_drop A (next_of g last)
    ahead_first out =
        elim (next_either (through C from) (R ++ behind C from) (behind C from)) [
          | inl empty ↦ absurd (no_end (before C from) (from, jump) (sym (ends_in_jump C (in_c g from to rules movable out)) ∙ empty))
          | inr same ↦ ap (last_drop A) (same ∙ ap first_key (through-behind C from) ∙ sym next_chain)
        ]
      where
        no_end : (xs : List (ℕ × Block)) (e : ℕ × Block) → xs ++ e ∷ [] ≡ [] → ⊥
        no_end [] e is = cc
        no_end (y ∷ xs) e is = cc

    ahead_second : value_of A from ≡ None → last_drop (through C from) (next_or (R ++ behind C from) None) ≡ 1
    ahead_second out =
        let shape = shape_of es to last (chain_run g from to rules movable) in
        ap (λ (xs : List (ℕ × Block)). last_drop (through C from) (next_or (xs ++ behind C from) None)) shape.is
        ∙ last_jump C (Some to) (in_c g from to rules movable out) ∙ drop_one to

    ahead_third : value_of A from ≡ None → last_drop R (next_or (behind C from) None) ≡ last_drop R (next_of g from)
    ahead_third out = ap (last_drop R) (next_first (behind C from) ∙ sym (next_ahead out))

    -- where the blocks stand then, and how many words they take
    module _ (shift : Shift) where
      settled_by : (x : Exchanges es (move_run_after es to last from)) (one two three : ℕ)
          → last_drop x.first (next_or (x.third ++ (x.second ++ x.rest)) None) ≡ one → last_drop x.third (next_or (x.second ++ x.rest) None) ≡ two → last_drop x.second (next_or x.rest None) ≡ three
          → shift.seams.first ≡ 4 * size x.first → shift.seams.second ≡ 4 * (size x.first + size x.second) → shift.seams.end ≡ 4 * (size x.first + size x.second + size x.third)
          → shift.first_lost ≡ 4 * one → shift.second_lost ≡ 4 * (one + two) → shift.lost ≡ 4 * (one + two + three) → shift.falls ≡ one + two + three
          → IsMovedBy g (carried g from to) shift
      settled_by x one two three one_is two_is three_is first second end first_lost second_lost lost falls =
          let none' : drops (x.first ++ (x.second ++ (x.third ++ x.rest))) None ≡ 0 = sym (ap (λ (xs : List (ℕ × Block)). drops xs None) x.was) ∙ none in
          let distinct = subst (λ (xs : List (ℕ × Block)). HasDistinctKeys xs) x.was rules.distinct in
          record {
            stands = λ n at goal found there.
                settled_stands x.first x.second x.third x.rest x.first_stops x.second_stops x.third_stops distinct none' shift first second end
                (omega (arith, first_lost, one_is)) (omega (arith, second_lost, one_is, two_is)) (omega (arith, lost, one_is, two_is, three_is)) n at goal
                (sym (ap (λ (xs : List (ℕ × Block)). stands xs 0 n) x.was) ∙ sym (stands_named g.blocks 0 n) ∙ found)
                (sym (ap (λ (xs : List (ℕ × Block)). sunk_stands xs None 0 n) (again g from to rules movable ∙ x.is)) ∙ sym (fallen_stands (carried g from to).blocks 0 n) ∙ there);
            words =
                omega (
                  arith,
                  falls,
                  one_is,
                  two_is,
                  three_is,
                  drops_words (carried g from to).blocks,
                  ap (λ (xs : List (ℕ × Block)). drops xs None) (again g from to rules movable ∙ x.is),
                  exchanged_falls x.first x.second x.third x.rest x.first_stops x.second_stops x.third_stops distinct none',
                );
          }

  -- what the tests say
  pub end_drop : (o : Option ℕ) → last_drop R o ≡ drop_at g last o
  end_drop o =
      let shape = shape_of es to last (chain_run g from to rules movable) in
      let parts : es ≡ A ++ ((shape.lead ++ (last, shape.last_value) ∷ []) ++ C) = whole g from to rules movable ∙ ap (λ (xs : List (ℕ × Block)). A ++ (xs ++ C)) shape.ends in
      let found = ends_listed g rules A shape.lead C last shape.last_value parts in
      ap (λ (xs : List (ℕ × Block)). last_drop xs o) shape.ends ∙ last_at shape.lead (last, shape.last_value) o
      ∙ sym (ap (λ (b : Option Block). drop_term (block_term b) o) found)

  pub before_drop : (o : Option ℕ) → last_drop A o ≡ drop_before g to o
  before_drop o = by_previous (previous_key es to) refl
    where
      by_previous : (p : Option ℕ) → previous_key es to ≡ p → last_drop A o ≡ drop_by g p o
      by_previous None none = last_none A o none
      by_previous (Some n) previous =
          let l = last_is A n previous in
          let parts : es ≡ [] ++ ((l.lead ++ (n, l.block) ∷ []) ++ (R ++ C)) = whole g from to rules movable ∙ ap (λ (xs : List (ℕ × Block)). xs ++ (R ++ C)) l.is in
          let found = ends_listed g rules [] l.lead (R ++ C) n l.block parts in
          ap (λ (xs : List (ℕ × Block)). last_drop xs o) l.is ∙ last_at l.lead (n, l.block) o
          ∙ sym (ap (λ (b : Option Block). drop_term (block_term b) o) found)

  -- WHERE THE SEAMS ARE

  through_a : IsSome (value_of A from) → through es from ≡ through A from
  through_a some = ap (λ (xs : List (ℕ × Block)). through xs from) (whole g from to rules movable) ∙ through-in A (R ++ C) from some

  through_c : value_of A from ≡ None → through es from ≡ A ++ (R ++ through C from)
  through_c out =
      ap (λ (xs : List (ℕ × Block)). through xs from) (whole g from to rules movable) ∙ through-out A (R ++ C) from out
      ∙ ap (λ (xs : List (ℕ × Block)). A ++ xs) (through-out R C from (out_r g from to rules movable))

  a_size : size A ≡ size (through A from) + size (behind A from)
  a_size = ap size (sym (through-behind A from)) ∙ size_append (through A from) (behind A from)

  pub c_size : value_of A from ≡ None → size (through es from) ≡ size A + size R + size (through C from)
  c_size out = omega (arith, ap size (through_c out), size_append A (R ++ through C from), size_append R (through C from))

  pub jump_size : value_of A from ≡ None → 1 ≤ size (through C from)
  jump_size out =
      omega (
        arith,
        ap size (ends_in_jump C (in_c g from to rules movable out)),
        size_append (before C from) ((from, jump) ∷ []),
        sum_by-cons (λ (e : ℕ × Block). block_words e.1) (from, jump) [],
        ap term_words (jumping g from to rules movable).2,
      )

  last_size : size (through es last) ≡ size A + size R
  last_size =
      let S : List (ℕ × Block) = starting_at es to in
      let split : es ≡ A ++ S = whole g from to rules movable ∙ ap (λ (xs : List (ℕ × Block)). A ++ xs) (through-behind S last) in
      ap (λ (xs : List (ℕ × Block)). size (through xs last)) split ∙ ap size (through-out A S last (none_ahead g from to rules movable)) ∙ size_append A R

  exchanged_by : (x : Exchanges es (move_run_after es to last from)) (seams : Seams) → words_of g < 2 ^ 31 → seams.first ≡ 4 * size x.first → seams.second ≡ 4 * (size x.first + size x.second) → seams.end ≡ 4 * (size x.first + size x.second + size x.third) → IsExchanged g (carried g from to) seams
  exchanged_by x seams few first second end =
      record {
        first = omega (arith, first, second);
        second = omega (arith, second, end);
        few =
            omega (
              arith,
              few,
              end,
              ap size x.was,
              size_named g.blocks,
              size_append x.first (x.second ++ (x.third ++ x.rest)),
              size_append x.second (x.third ++ x.rest),
              size_append x.third x.rest,
            );
        same = (chain_reordered g from to rules movable).same;
        shifted = λ n at goal found shifted.
            stands_named (carried g from to).blocks 0 n
            ∙ ap (λ (xs : List (ℕ × Block)). stands xs 0 n) (again g from to rules movable ∙ x.is)
            ∙ exchanged_stands x.first x.second x.third x.rest x.first_stops x.second_stops x.third_stops (subst (λ (xs : List (ℕ × Block)). HasDistinctKeys xs) x.was rules.distinct) seams first second end n at goal
            (sym (ap (λ (xs : List (ℕ × Block)). stands xs 0 n) x.was) ∙ sym (stands_named g.blocks 0 n) ∙ found) shifted;
      }

  module _ (seams : Seams) where
    pub are_seams_back : seams.first ≡ 4 * size (through es from) → seams.second ≡ 4 * size A → seams.end ≡ 4 * size (through es last) → seams.first ≤ seams.second → AreSeams g from to last seams
    are_seams_back first second end less = record {
      back = λ some. (first, second, end);
      ahead = λ out. absurd (omega (arith, first, second, less, c_size out, jump_size out));
    }

    pub are_seams_ahead : seams.first ≡ 4 * size A → seams.second ≡ 4 * size (through es last) → seams.end ≡ 4 * size (through es from) → seams.first < seams.end → AreSeams g from to last seams
    are_seams_ahead first second end less = record {
      back = λ some. absurd (omega (arith, first, end, less, ap size (through_a some), a_size));
      ahead = λ out. (first, second, end);
    }

    -- what the move comes to by its seams
    module _ (none : drops es None ≡ 0) (are : AreSeams g from to last seams) (shift : Shift) (same : shift.seams ≡ seams) (chain head : ℕ) (chain_is : chain ≡ drop_at g last (next_of g from)) (head_is : head ≡ drop_before g to (next_of g last)) where
      first_is : shift.seams.first ≡ seams.first
      first_is = ap (λ (s : Seams). s.first) same

      second_is : shift.seams.second ≡ seams.second
      second_is = ap (λ (s : Seams). s.second) same

      end_is_too : shift.seams.end ≡ seams.end
      end_is_too = ap (λ (s : Seams). s.end) same

      pub moved_back : IsSome (value_of A from) → shift.first_lost ≡ 4 * 1 → shift.second_lost ≡ 4 * (1 + chain) → shift.lost ≡ 4 * (1 + chain + head) → shift.falls ≡ 1 + chain + head → IsMovedBy g (carried g from to) shift
      moved_back some first_lost second_lost lost falls =
          let at = are.back some in
          let is = ap size (through_a some) in
          settled_by none shift (moves_back g from to rules movable some) 1 chain head
          (back_first none some) (back_second none some ∙ end_drop (next_of g from) ∙ sym chain_is) (back_third none some ∙ before_drop (next_of g last) ∙ sym head_is)
          (omega (arith, first_is, at.0, is)) (omega (arith, second_is, at.1, a_size)) (omega (arith, end_is_too, at.2, last_size, a_size))
          first_lost second_lost lost falls

      pub moved_ahead : value_of A from ≡ None → shift.first_lost ≡ 4 * head → shift.second_lost ≡ 4 * (head + 1) → shift.lost ≡ 4 * (head + 1 + chain) → shift.falls ≡ head + 1 + chain → IsMovedBy g (carried g from to) shift
      moved_ahead out first_lost second_lost lost falls =
          let at = are.ahead out in
          settled_by none shift (moves_ahead g from to rules movable out) head 1 chain
          (ahead_first none out ∙ before_drop (next_of g last) ∙ sym head_is) (ahead_second none out) (ahead_third none out ∙ end_drop (next_of g from) ∙ sym chain_is)
          (omega (arith, first_is, at.0)) (omega (arith, second_is, at.1, last_size)) (omega (arith, end_is_too, at.2, c_size out))
          first_lost second_lost lost falls

  -- which of both is first
  chain_size : 1 ≤ size R
  chain_size =
      let shape = shape_of es to last (chain_run g from to rules movable) in
      let found : stands R 0 to ≡ Some 0 = ap (λ (xs : List (ℕ × Block)). stands xs 0 to) shape.is ∙ rw (eq-eqb to to refl) refl in
      omega (arith, to_end R 0 to 0 (r_stops g from to rules movable) found)

  module _ (address : ℕ → Option ℕ) (are : (m : ℕ) → address m ≡ address_by block_words g.blocks 0 m) where
    start_to : address_at address to ≡ 4 * size A
    start_to = let h = head g from to rules movable in start_is g rules to h.0 h.1 address are

    start_from : address_at address from + 4 * block_words jump ≡ 4 * size (through es from)
    start_from = let j = jumping g from to rules movable in end_is g rules from j.0 j.1 address are

    pub chain_first : address_at address to < address_at address from → value_of A from ≡ None
    chain_first less =
        elim (some_or_none (value_of A from)) [
          | inl some ↦ absurd (omega (arith, less, start_to, start_from, ap size (through_a some), a_size))
          | inr out ↦ out
        ]

    pub jump_first : address_at address from ≤ address_at address to → IsSome (value_of A from)
    jump_first less =
        elim (some_or_none (value_of A from)) [
          | inl some ↦ some
          | inr out ↦
              absurd (
              omega (
                arith,
                less,
                start_to,
                start_from,
                c_size out,
                chain_size,
                ap size (ends_in_jump C (in_c g from to rules movable out)),
                size_append (before C from) ((from, jump) ∷ []),
                sum_by-cons (λ (e : ℕ × Block). block_words e.1) (from, jump) [],
              )
              )
        ]

  module _ (seams : Seams) (few : words_of g < 2 ^ 31) where
    -- the Jump is ahead of the chain
    pub seams_back : seams.first ≡ 4 * size (through es from) → seams.second ≡ 4 * size A → seams.end ≡ 4 * size (through es last) → seams.first ≤ seams.second → IsExchanged g (carried g from to) seams
    seams_back first second end less =
        elim (some_or_none (value_of A from)) [
          | inl some ↦
              let is = ap size (through_a some) in
              exchanged_by (moves_back g from to rules movable some) seams few (omega (arith, first, is)) (omega (arith, second, a_size)) (omega (arith, end, last_size, a_size))
          | inr out ↦ absurd (omega (arith, first, second, less, c_size out, jump_size out))
        ]

    -- or behind it
    pub seams_ahead : seams.first ≡ 4 * size A → seams.second ≡ 4 * size (through es last) → seams.end ≡ 4 * size (through es from) → seams.first < seams.end → IsExchanged g (carried g from to) seams
    seams_ahead first second end less =
        elim (some_or_none (value_of A from)) [
          | inl some ↦ absurd (omega (arith, first, end, less, ap size (through_a some), a_size))
          | inr out ↦ exchanged_by (moves_ahead g from to rules movable out) seams few first (omega (arith, second, last_size)) (omega (arith, end, c_size out))
        ]
