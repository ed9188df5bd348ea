-- A run of pairs that moves, and the slots of one.
use Rattle.std.proofs.Common.{◌≡◌, ℕ, ◌+◌, ◌-◌, ◌≤◌, ◌<◌, ◌==◌, List, [], ◌∷◌, ◌++◌, Option, None, Some, IsSome, is_some, refl, sym, ap, ◌∙◌, subst, ◌⊎◌, inl, inr, arith, append_assoc}
use Rattle.std.proofs.lemmas.Bool.{cases_Bool, eq-eqb}
use Rattle.sq_arena.specs.Entries.{HasDistinctKeys, value_of, ContainsKey, before, through, starting_at, behind, run, without_run, IsRun, move_run_after, first_key, next_key}
use Rattle.sq_arena.proofs.EntriesLemmas.{shape_of, through-behind, split_at as split_at_key, some_value}
use Rattle.sq_arena.proofs.EntriesLaws.{absent_ahead, behind-append, value_of-append, or_value, HasDistinctKeys-move_run_after}
use Rattle.sq_graph.specs.declared.slot.Slot.{Slot}
use Rattle.sq_graph.specs.Cursor.{length_of_slots}
use Rattle.sq_graph.specs.Numbered.{IsNumbered, Exchanges}
use Rattle.sq_graph.proofs.SplitRules.{some_right}
use Rattle.sq_graph.proofs.SlotPasses.{length_of_slots-append}
use Rattle.sq_graph.proofs.BlockMoves.{through-in, behind-in, through-out, behind-out}
use Rattle.sq_graph.proofs.Numbering.{numbered_parts, numbered_whole, numbered_at}

module _ {T : Type 0} where
  -- the last key of a run is there, and so is a key outside of it
  pub last_there : (ps : List (ℕ × T)) (first last : ℕ) → IsRun ps first last → ContainsKey ps last
  last_there ps first last is_run =
      let whole : before ps first ++ starting_at ps first ≡ ps = front_and_rest ps first in
      subst (λ (xs : List (ℕ × T)). ContainsKey xs last) whole (ap is_some (value_of-append (before ps first) (starting_at ps first) last) ∙ some_right (value_of (before ps first) last) (value_of (starting_at ps first) last) is_run.ends)
    where
      front_and_rest : (xs : List (ℕ × T)) (k : ℕ) → before xs k ++ starting_at xs k ≡ xs
      front_and_rest [] k = refl
      front_and_rest (x ∷ xs) k = elim (cases_Bool (x.0 == k)) [ inl here ↦ rw here refl | inr apart ↦ rw apart (ap (λ ys. x ∷ ys) (front_and_rest xs k)) ]

  pub after_there : (ps : List (ℕ × T)) (first last after : ℕ) → IsRun ps first last → ContainsKey (without_run ps first last) after → ContainsKey ps after
  after_there ps first last after is_run there =
      let shape = shape_of ps first last is_run in
      let A = before ps first in
      let R = run ps first last in
      let C = behind (starting_at ps first) last in
      subst (λ (xs : List (ℕ × T)). ContainsKey xs after) (sym shape.whole)
      (ap is_some (value_of-append A (R ++ C) after ∙ ap (or_value (value_of A after)) (value_of-append R C after))
      ∙ still (value_of A after) (value_of R after) (value_of C after) (ap is_some (sym (value_of-append A C after)) ∙ there))
    where
      still : (a b c : Option T) → IsSome (or_value a c) → IsSome (or_value a (or_value b c))
      still (Some x) b c some = refl
      still None (Some y) c some = refl
      still None None c some = some

  -- up to the last key of a run stand what is ahead of it and the run
  pub upto_last : (ps : List (ℕ × T)) (first last : ℕ) → HasDistinctKeys ps → IsRun ps first last → through ps last ≡ before ps first ++ run ps first last
  upto_last ps first last distinct is_run =
      let shape = shape_of ps first last is_run in
      let A = before ps first in
      let C = behind (starting_at ps first) last in
      let whole : ps ≡ (A ++ shape.lead) ++ (last, shape.last_value) ∷ C =
      shape.whole ∙ ap (λ xs. A ++ (xs ++ C)) shape.ends ∙ ap (λ xs. A ++ xs) (append_assoc shape.lead ((last, shape.last_value) ∷ []) C) ∙ sym (append_assoc A shape.lead ((last, shape.last_value) ∷ C)) in
      let apart = absent_ahead (A ++ shape.lead) C last shape.last_value (subst (λ (xs : List (ℕ × T)). HasDistinctKeys xs) whole distinct) in
      let one : through ((last, shape.last_value) ∷ C) last ≡ (last, shape.last_value) ∷ [] = rw (eq-eqb last last refl) refl in
      ap (λ xs. through xs last) whole ∙ through-out (A ++ shape.lead) ((last, shape.last_value) ∷ C) last apart ∙ ap (λ xs. (A ++ shape.lead) ++ xs) one
      ∙ append_assoc A shape.lead ((last, shape.last_value) ∷ []) ∙ ap (λ xs. A ++ xs) (sym shape.ends)

  -- where the key after is: ahead of the run, or behind it
  pub record IsBehindRun (ps : List (ℕ × T)) (first last after : ℕ) : Type 0 where
    pub in_back : IsSome (value_of (behind (starting_at ps first) last) after)
    pub not_ahead : value_of (before ps first ++ run ps first last) after ≡ None

  pub behind_run : (ps : List (ℕ × T)) (first last after : ℕ) → HasDistinctKeys ps → IsRun ps first last → ContainsKey (without_run ps first last) after → value_of (before ps first) after ≡ None → IsBehindRun ps first last after
  behind_run ps first last after distinct is_run there none =
      let shape = shape_of ps first last is_run in
      let A = before ps first in
      let R = run ps first last in
      let C = behind (starting_at ps first) last in
      let in_c : IsSome (value_of C after) = none_then (value_of A after) (value_of C after) none (ap is_some (sym (value_of-append A C after)) ∙ there) in
      let value = some_value (value_of C after) in_c in
      let parts : C ≡ before C after ++ (after, value.0) ∷ behind C after = split_at_key C after value.0 value.1 in
      let whole : ps ≡ ((A ++ R) ++ before C after) ++ (after, value.0) ∷ behind C after =
      shape.whole ∙ sym (append_assoc A R C) ∙ ap (λ xs. (A ++ R) ++ xs) parts ∙ sym (append_assoc (A ++ R) (before C after) ((after, value.0) ∷ behind C after)) in
      let apart : value_of ((A ++ R) ++ before C after) after ≡ None = absent_ahead ((A ++ R) ++ before C after) (behind C after) after value.0 (subst (λ (xs : List (ℕ × T)). HasDistinctKeys xs) whole distinct) in
      record {
        in_back = in_c;
        not_ahead = or_none (value_of (A ++ R) after) (value_of (before C after) after) (sym (value_of-append (A ++ R) (before C after) after) ∙ apart);
      }
    where
      none_then : (a b : Option T) → a ≡ None → IsSome (or_value a b) → IsSome b
      none_then None b none some = some
      none_then (Some x) b none some = absurd (cc)

      or_none : (a b : Option T) → or_value a b ≡ None → a ≡ None
      or_none None b none = refl
      or_none (Some x) b none = absurd (cc)

  pub some_or_none : (o : Option T) → (IsSome o) ⊎ (o ≡ None)
  some_or_none None = inr refl
  some_or_none (Some x) = inl refl

  -- behind the last key of a run, wherever the run stands
  behind_last : (front pairs back lead : List (ℕ × T)) (last : ℕ) (value : T) → pairs ≡ lead ++ (last, value) ∷ [] → HasDistinctKeys (front ++ (pairs ++ back)) → behind (front ++ (pairs ++ back)) last ≡ back
  behind_last front pairs back lead last value ends distinct =
      let whole : front ++ (pairs ++ back) ≡ (front ++ lead) ++ (last, value) ∷ back =
      ap (λ xs. front ++ (xs ++ back)) ends ∙ ap (λ xs. front ++ xs) (append_assoc lead ((last, value) ∷ []) back) ∙ sym (append_assoc front lead ((last, value) ∷ back)) in
      let apart = absent_ahead (front ++ lead) back last value (subst (λ (xs : List (ℕ × T)). HasDistinctKeys xs) whole distinct) in
      ap (λ xs. behind xs last) whole ∙ behind-append (front ++ lead) back last value apart

  pub behind_run_last : (ps front back : List (ℕ × T)) (first last : ℕ) → IsRun ps first last → HasDistinctKeys (front ++ (run ps first last ++ back)) → behind (front ++ (run ps first last ++ back)) last ≡ back
  behind_run_last ps front back first last is_run distinct =
      let shape = shape_of ps first last is_run in
      behind_last front (run ps first last) back shape.lead last shape.last_value shape.ends distinct

  -- the first key of a run
  pub first_of_run : (ps back : List (ℕ × T)) (first last : ℕ) → IsRun ps first last → Some first ≡ first_key (run ps first last ++ back)
  first_of_run ps back first last is_run =
      let shape = shape_of ps first last is_run in
      sym (ap (λ xs. first_key (xs ++ back)) shape.is)

  -- the first key up to one that is there
  pub first_through : (xs back : List (ℕ × T)) (key : ℕ) → IsSome (value_of xs key) → first_key xs ≡ first_key (through xs key ++ back)
  first_through [] back key some = absurd (cc)
  first_through (x ∷ xs) back key some = elim (cases_Bool (x.0 == key)) [ inl here ↦ rw here refl | inr apart ↦ rw apart refl ]

-- a move keeps how many items there are
pub length-moved_slots : (es : List (ℕ × Slot)) (first last after : ℕ) → IsRun es first last → length_of_slots (move_run_after es first last after) ≡ length_of_slots es
length-moved_slots es first last after is_run =
    let A = before es first in
    let R = run es first last in
    let C = behind (starting_at es first) last in
    omega (
      arith,
      ap length_of_slots (shape_of es first last is_run).whole,
      length_of_slots-append A (R ++ C),
      length_of_slots-append R C,
      length_of_slots-append (through (A ++ C) after) (R ++ behind (A ++ C) after),
      length_of_slots-append R (behind (A ++ C) after),
      ap length_of_slots (through-behind (A ++ C) after),
      length_of_slots-append (through (A ++ C) after) (behind (A ++ C) after),
      length_of_slots-append A C,
    )

-- what `move_run` needs of the slots, where `from` and `to` are the start and the end of the run and `place` is the
-- end of the block behind which it goes
pub record MovesSlots (es : List (ℕ × Slot)) (first last after from to place : ℕ) : Type 0 where
  pub run : from ≤ to
  pub back : place ≤ from → Exchanges (move_run_after es first last after) (Some first) place (next_key (move_run_after es first last after) last) (place + (to - from))
  pub ahead : from < place → Exchanges (move_run_after es first last after) (next_key es last) from (Some first) (place - (to - from))
  pub fits : from < place → to - from ≤ place

module _ (es : List (ℕ × Slot)) (first last after from to place : ℕ) (distinct : HasDistinctKeys es) (is : IsNumbered 0 es) (is_run : IsRun es first last) (there : ContainsKey (without_run es first last) after) (from_is : from ≡ length_of_slots (before es first)) (to_is : to ≡ length_of_slots (through es last)) (place_is : place ≡ length_of_slots (through es after)) where
  abbrev A : List (ℕ × Slot)
  A = before es first

  abbrev R : List (ℕ × Slot)
  R = run es first last

  abbrev C : List (ℕ × Slot)
  C = behind (starting_at es first) last

  whole : es ≡ A ++ (R ++ C)
  whole = (shape_of es first last is_run).whole

  run_length : to ≡ from + length_of_slots R
  run_length =
      omega (arith, from_is, to_is, ap length_of_slots (upto_last es first last distinct is_run), length_of_slots-append (before es first) (run es first last))

  moved_distinct : HasDistinctKeys (move_run_after es first last after)
  moved_distinct = HasDistinctKeys-move_run_after es first last after distinct is_run

  -- the run goes back, past those behind `after` and ahead of it
  moves_back : IsSome (value_of (before es first) after) → MovesSlots es first last after from to place
  moves_back some =
      let A1 = through (before es first) after in
      let A2 = behind (before es first) after in
      let parts : A1 ++ A2 ≡ A = through-behind (before es first) after in
      let upto : through es after ≡ A1 = ap (λ xs. through xs after) whole ∙ through-in A (R ++ C) after some in
      let place_at : place ≡ length_of_slots A1 = place_is ∙ ap length_of_slots upto in
      let sizes : from ≡ length_of_slots A1 + length_of_slots A2 = omega (arith, from_is, ap length_of_slots parts, length_of_slots-append A1 A2) in
      let moved : move_run_after es first last after ≡ A1 ++ (R ++ (A2 ++ C)) =
      ap (λ xs. xs ++ (R ++ behind (A ++ C) after)) (through-in A C after some) ∙ ap (λ xs. A1 ++ (R ++ xs)) (behind-in A C after some) in
      let old : es ≡ A1 ++ (A2 ++ (R ++ C)) = whole ∙ ap (λ xs. xs ++ (R ++ C)) (sym parts) ∙ append_assoc A1 A2 (R ++ C) in
      let apart : HasDistinctKeys (A1 ++ (R ++ (A2 ++ C))) = subst (λ (xs : List (ℕ × Slot)). HasDistinctKeys xs) moved moved_distinct in
      record {
        run = omega (arith, run_length);
        back = λ below. record {
          ahead = A1;
          first = R;
          second = A2;
          rest = C;
          is = moved;
          was = subst (λ (xs : List (ℕ × Slot)). IsNumbered 0 xs) old is;
          front_is = first_of_run es (A2 ++ C) first last is_run;
          start_is = place_at;
          back_is = ap (λ xs. first_key (behind xs last)) moved ∙ ap (λ xs. first_key xs) (behind_run_last es A1 (A2 ++ C) first last is_run apart);
          middle_is = omega (arith, place_at, run_length);
        };
        ahead = λ above. absurd (omega (arith, above, place_at, sizes));
        fits = λ above. absurd (omega (arith, above, place_at, sizes));
      }

  -- the run goes ahead, past those behind it up to `after`
  moves_ahead : IsBehindRun es first last after → value_of (before es first) after ≡ None → MovesSlots es first last after from to place
  moves_ahead far none =
      let C1 = through (behind (starting_at es first) last) after in
      let C2 = behind (behind (starting_at es first) last) after in
      let parts : C1 ++ C2 ≡ C = through-behind (behind (starting_at es first) last) after in
      let upto : through es after ≡ (A ++ R) ++ C1 = ap (λ xs. through xs after) (whole ∙ sym (append_assoc A R C)) ∙ through-out (A ++ R) C after far.not_ahead in
      let place_at : place ≡ to + length_of_slots C1 =
      omega (arith, place_is, ap length_of_slots upto, length_of_slots-append (A ++ R) C1, length_of_slots-append A R, from_is, run_length) in
      let moved : move_run_after es first last after ≡ (A ++ C1) ++ (R ++ C2) =
      ap (λ xs. xs ++ (R ++ behind (A ++ C) after)) (through-out A C after none) ∙ ap (λ xs. (A ++ C1) ++ (R ++ xs)) (behind-out A C after none) in
      let old : es ≡ A ++ (R ++ (C1 ++ C2)) = whole ∙ ap (λ xs. A ++ (R ++ xs)) (sym parts) in
      let apart : HasDistinctKeys ((A ++ C1) ++ (R ++ C2)) = subst (λ (xs : List (ℕ × Slot)). HasDistinctKeys xs) moved moved_distinct in
      let was : IsNumbered 0 (A ++ (R ++ (C1 ++ C2))) = subst (λ (xs : List (ℕ × Slot)). IsNumbered 0 xs) old is in
      record {
        run = omega (arith, run_length);
        back = λ below. record {
          ahead = A ++ C1;
          first = R;
          second = [];
          rest = C2;
          is = moved;
          was = none_moved A R C1 C2 was (omega (arith, below, run_length, place_at)) (omega (arith, below, run_length, place_at));
          front_is = first_of_run es C2 first last is_run;
          start_is = omega (arith, below, from_is, run_length, place_at, length_of_slots-append A C1);
          back_is = ap (λ xs. first_key (behind xs last)) moved ∙ ap (λ xs. first_key xs) (behind_run_last es (A ++ C1) C2 first last is_run apart);
          middle_is = omega (arith, below, from_is, run_length, place_at, length_of_slots-append A C1);
        };
        ahead = λ above. record {
          ahead = A;
          first = C1;
          second = R;
          rest = C2;
          is = moved ∙ append_assoc A C1 (R ++ C2);
          was = was;
          front_is =
              ap (λ xs. first_key (behind xs last)) whole
              ∙ ap (λ xs. first_key xs) (behind_run_last es A C first last is_run (subst (λ (xs : List (ℕ × Slot)). HasDistinctKeys xs) whole distinct))
              ∙ first_through C (R ++ C2) after far.in_back;
          start_is = from_is;
          back_is = first_of_run es C2 first last is_run;
          middle_is = omega (arith, from_is, run_length, place_at);
        };
        fits = λ above. omega (arith, run_length, place_at);
      }
    where
      -- where neither piece has items, the starts stay right
      none_moved : (a x y z : List (ℕ × Slot)) → IsNumbered 0 (a ++ (x ++ (y ++ z))) → length_of_slots x ≡ 0 → length_of_slots y ≡ 0 → IsNumbered 0 ((a ++ y) ++ (x ++ z))
      none_moved a x y z was no_x no_y =
          let pa = numbered_parts 0 a (x ++ (y ++ z)) was in
          let px = numbered_parts (0 + length_of_slots a) x (y ++ z) pa.1 in
          let py = numbered_parts (0 + length_of_slots a + length_of_slots x) y z px.1 in
          let count = length_of_slots-append a y in
          numbered_whole 0 (a ++ y) (x ++ z)
          (numbered_whole 0 a y pa.0 (numbered_at _ (0 + length_of_slots a) y (omega (arith, no_x)) py.0))
          (numbered_whole (0 + length_of_slots (a ++ y)) x z
          (numbered_at _ (0 + length_of_slots (a ++ y)) x (omega (arith, no_y, count)) px.0)
          (numbered_at _ (0 + length_of_slots (a ++ y) + length_of_slots x) z (omega (arith, count)) py.1))

  pub moves_slots : MovesSlots es first last after from to place
  moves_slots =
      elim (some_or_none (value_of (before es first) after)) [
        | inl some ↦ moves_back some
        | inr none ↦ moves_ahead (behind_run es first last after distinct is_run there none) none
      ]
