-- Two pieces of slots that have changed places get their starts.
use Rattle.std.proofs.Common.{◌≡◌, ℕ, ◌+◌, List, ◌++◌, Option, sym, ap, ◌∙◌, subst, arith, append_assoc}
use Rattle.sq_arena.specs.Entries.{HasDistinctKeys, first_key}
use Rattle.sq_graph.specs.declared.slot.Slot.{Slot}
use Rattle.sq_graph.specs.Cursor.{IsPlace, ahead_of, rest_from, renumbered, length_of_slots}
use Rattle.sq_graph.specs.Numbered.{IsNumbered, Settles, Exchanges}
use Rattle.sq_graph.proofs.CursorLaws.{between_parts}
use Rattle.sq_graph.proofs.SlotPasses.{length_of_slots-append}
use Rattle.sq_graph.proofs.Numbering.{renumbered-append, renumbered-again, length_of_slots-renumbered, first_key-renumbered, distinct-renumbered, numbered_parts, numbered_at, settles}

-- the slots from a place on settle, and this is what they become
pub record Settling (es : List (ℕ × Slot)) (place : Option ℕ) (start : ℕ) (made : List (ℕ × Slot)) : Type 0 where
  pub is_place : IsPlace es place
  pub settles : Settles start (rest_from es place)
  pub counted : start + length_of_slots (rest_from es place) ≡ length_of_slots es
  pub is : ahead_of es place ++ renumbered start (rest_from es place) ≡ made

settling : (es front back : List (ℕ × Slot)) (place : Option ℕ) (start : ℕ) → HasDistinctKeys es → es ≡ front ++ back → place ≡ first_key back → start ≡ length_of_slots front → Settles start back → Settling es place start (front ++ renumbered start back)
settling es front back place start distinct es_is place_is start_is settles =
    let at = between_parts front back (subst (λ (xs : List (ℕ × Slot)). HasDistinctKeys xs) es_is distinct) in
    let ahead : ahead_of es place ≡ front = rw (es_is, place_is) at.ahead in
    let rest : rest_from es place ≡ back = rw (es_is, place_is) at.rest in
    record {
      is_place = rw (es_is, place_is) at.place;
      settles = rw rest settles;
      counted = omega (arith, start_is, ap length_of_slots rest, ap length_of_slots es_is, length_of_slots-append front back);
      is = ap (λ xs. xs ++ renumbered start (rest_from es place)) ahead ∙ ap (λ xs. front ++ renumbered start xs) rest;
    }

module _ (es : List (ℕ × Slot)) (front : Option ℕ) (start : ℕ) (back : Option ℕ) (middle : ℕ) (ex : Exchanges es front start back middle) (distinct : HasDistinctKeys es) where
  -- where the four pieces were
  record Pieces : Type 0 where
    ahead : IsNumbered 0 ex.ahead
    second : IsNumbered (length_of_slots ex.ahead) ex.second
    first : IsNumbered (length_of_slots ex.ahead + length_of_slots ex.second) ex.first
    rest : IsNumbered (middle + length_of_slots ex.second) ex.rest

  pieces : Pieces
  pieces =
      let a = numbered_parts 0 ex.ahead (ex.second ++ (ex.first ++ ex.rest)) ex.was in
      let b = numbered_parts (0 + length_of_slots ex.ahead) ex.second (ex.first ++ ex.rest) a.1 in
      let c = numbered_parts (0 + length_of_slots ex.ahead + length_of_slots ex.second) ex.first ex.rest b.1 in
      record {
        ahead = a.0;
        second = numbered_at _ (length_of_slots ex.ahead) ex.second (omega arith) b.0;
        first = numbered_at _ (length_of_slots ex.ahead + length_of_slots ex.second) ex.first (omega arith) c.0;
        rest = numbered_at _ (middle + length_of_slots ex.second) ex.rest (omega (arith, ex.middle_is)) c.1;
      }

  -- the slots once the second piece has its starts
  abbrev pub halfway : List (ℕ × Slot)
  halfway = (ex.ahead ++ ex.first) ++ renumbered middle (ex.second ++ ex.rest)

  pub second_settles : Settling es back middle halfway
  second_settles =
      settling es (ex.ahead ++ ex.first) (ex.second ++ ex.rest) back middle distinct
      (ex.is ∙ sym (append_assoc ex.ahead ex.first (ex.second ++ ex.rest)))
      ex.back_is
      (ex.middle_is ∙ sym (length_of_slots-append ex.ahead ex.first))
      (settles (length_of_slots ex.ahead) middle ex.second ex.rest pieces.second pieces.rest)

  halfway_distinct : HasDistinctKeys halfway
  halfway_distinct =
      distinct-renumbered middle (ex.ahead ++ ex.first) (ex.second ++ ex.rest)
      (subst (λ (xs : List (ℕ × Slot)). HasDistinctKeys xs) (ex.is ∙ sym (append_assoc ex.ahead ex.first (ex.second ++ ex.rest))) distinct)

  halfway_length : length_of_slots halfway ≡ length_of_slots es
  halfway_length =
      omega (
        arith,
        ap length_of_slots ex.is,
        length_of_slots-append ex.ahead (ex.first ++ (ex.second ++ ex.rest)),
        length_of_slots-append ex.first (ex.second ++ ex.rest),
        length_of_slots-append (ex.ahead ++ ex.first) (renumbered middle (ex.second ++ ex.rest)),
        length_of_slots-append ex.ahead ex.first,
        length_of_slots-renumbered middle (ex.second ++ ex.rest),
      )

  -- both pieces have their starts
  all_numbered : ex.ahead ++ renumbered start (ex.first ++ renumbered middle (ex.second ++ ex.rest)) ≡ renumbered 0 es
  all_numbered =
      let tail : renumbered start (ex.first ++ renumbered middle (ex.second ++ ex.rest)) ≡ renumbered start (ex.first ++ (ex.second ++ ex.rest)) =
      renumbered-append start ex.first (renumbered middle (ex.second ++ ex.rest))
      ∙ ap (λ xs. renumbered start ex.first ++ xs) (renumbered-again (start + length_of_slots ex.first) middle (ex.second ++ ex.rest))
      ∙ sym (renumbered-append start ex.first (ex.second ++ ex.rest)) in
      let from : start ≡ 0 + length_of_slots ex.ahead = omega (arith, ex.start_is) in
      ap (λ xs. ex.ahead ++ xs) (tail ∙ ap (λ n. renumbered n (ex.first ++ (ex.second ++ ex.rest))) from)
      ∙ ap (λ xs. xs ++ renumbered (0 + length_of_slots ex.ahead) (ex.first ++ (ex.second ++ ex.rest))) (sym pieces.ahead)
      ∙ sym (renumbered-append 0 ex.ahead (ex.first ++ (ex.second ++ ex.rest)))
      ∙ ap (renumbered 0) (sym ex.is)

  -- the second call, on the slots that the first made
  pub record SecondCall (now : List (ℕ × Slot)) : Type 0 where
    pub still : HasDistinctKeys now
    pub call : Settling now front start (renumbered 0 es)
    pub length_is : length_of_slots now ≡ length_of_slots es

  pub second_call : (now : List (ℕ × Slot)) → now ≡ ahead_of es back ++ renumbered middle (rest_from es back) → SecondCall now
  second_call now now_is =
      let now_half : now ≡ halfway = now_is ∙ second_settles.is in
      let whole : now ≡ ex.ahead ++ (ex.first ++ renumbered middle (ex.second ++ ex.rest)) =
      now_half ∙ append_assoc ex.ahead ex.first (renumbered middle (ex.second ++ ex.rest)) in
      let still : HasDistinctKeys now = rw now_half halfway_distinct in
      let rest_numbered : IsNumbered (start + length_of_slots ex.first) (renumbered middle (ex.second ++ ex.rest)) =
      ap (λ n. renumbered n (renumbered middle (ex.second ++ ex.rest))) (omega (arith, ex.start_is, ex.middle_is)) ∙ renumbered-again middle middle (ex.second ++ ex.rest) in
      let first_settles : Settles start (ex.first ++ renumbered middle (ex.second ++ ex.rest)) =
      settles (length_of_slots ex.ahead + length_of_slots ex.second) start ex.first (renumbered middle (ex.second ++ ex.rest)) pieces.first rest_numbered in
      let made = settling now ex.ahead (ex.first ++ renumbered middle (ex.second ++ ex.rest)) front start still whole (ex.front_is ∙ sym (first_key-renumbered middle ex.first (ex.second ++ ex.rest))) ex.start_is first_settles in
      record {
        still = still;
        call = record { is_place = made.is_place; settles = made.settles; counted = made.counted; is = made.is ∙ all_numbered };
        length_is = ap length_of_slots now_half ∙ halfway_length;
      }
