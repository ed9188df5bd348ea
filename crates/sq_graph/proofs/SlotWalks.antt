-- The loops that write each slot.
use Rattle.std.proofs.Common.{◌≡◌, ℕ, ◌+◌, ◌<◌, ◌^◌, List, [], ◌∷◌, ◌++◌, length, Option, Some, sym, ap, ◌∙◌, subst, arith, append_assoc}
use Rattle.std.specs.List.{All}
use Rattle.sq_arena.specs.Entries.{HasDistinctKeys, value_of, before, behind, starting_at, with_value, next_key}
use Rattle.sq_arena.proofs.EntriesLemmas.{starting_at-behind}
use Rattle.sq_graph.specs.declared.slot.Slot.{Slot}
use Rattle.sq_graph.specs.Uses.{term_uses}
use Rattle.sq_graph.specs.Renames.{retargeted_term}
use Rattle.sq_graph.specs.Cursor.{IsPlace, ahead_of, rest_from, retargeted_slots, slot_uses, renumbered, length_of_slots}
use Rattle.sq_graph.proofs.Eachs.{All-left, All-right}
use Rattle.sq_graph.proofs.CursorLaws.{steps}

-- what is left to do makes the goal
pub record Renumbers (now : List (ℕ × Slot)) (place : Option ℕ) (start : ℕ) (goal : List (ℕ × Slot)) : Type 0 where
  pub is_place : IsPlace now place
  pub distinct : HasDistinctKeys now
  pub fits : start + length_of_slots (rest_from now place) < 2 ^ 32
  pub is : ahead_of now place ++ renumbered start (rest_from now place) ≡ goal

abbrev pub started : ℕ → Slot → Slot
started start v = record v { start = start }

rest_length : (now : List (ℕ × Slot)) (key : ℕ) (v : Slot) → value_of now key ≡ Some v → length_of_slots (starting_at now key) ≡ v.length + length_of_slots (behind now key)
rest_length now key v found = ap length_of_slots (starting_at-behind now key v found)

pub renumber_fits : (now goal : List (ℕ × Slot)) (key : ℕ) (v : Slot) (start : ℕ) → Renumbers now (Some key) start goal → value_of now key ≡ Some v → start + v.length < 2 ^ 32
renumber_fits now goal key v start walk found = omega (arith, walk.fits, rest_length now key v found)

pub renumber_step : (now goal : List (ℕ × Slot)) (key : ℕ) (v : Slot) (start : ℕ) → Renumbers now (Some key) start goal → value_of now key ≡ Some v → Renumbers (with_value now key (started start v)) (next_key (with_value now key (started start v)) key) (start + v.length) goal
renumber_step now goal key v start walk found =
    let v' = started start v in
    let st = steps now key v (started start v) walk.distinct found in
    record {
      is_place = st.is_place;
      distinct = st.distinct;
      fits = rw st.rest (omega (arith, walk.fits, rest_length now key v found));
      is =
          ap (λ es. es ++ renumbered (start + v.length) (rest_from (with_value now key (started start v)) (next_key (with_value now key (started start v)) key))) st.ahead
          ∙ ap (λ es. (before now key ++ (key, started start v) ∷ []) ++ renumbered (start + v.length) es) st.rest
          ∙ append_assoc (before now key) ((key, started start v) ∷ []) (renumbered (start + v.length) (behind now key))
          ∙ ap (λ es. before now key ++ renumbered start es) (sym (starting_at-behind now key v found))
          ∙ walk.is;
    }

-- each step leaves less to do
pub step_shortens : (now : List (ℕ × Slot)) (key : ℕ) (v v' : Slot) → HasDistinctKeys now → value_of now key ≡ Some v → length (rest_from (with_value now key v') (next_key (with_value now key v') key)) < length (rest_from now (Some key))
step_shortens now key v v' distinct found =
    omega (arith, ap (λ es. length es) (steps now key v v' distinct found).rest, ap (λ es. length es) (starting_at-behind now key v found))

module _ (f : ℕ → ℕ) (Knows : ℕ → Type 0) where
  pub record Retargets (now : List (ℕ × Slot)) (place : Option ℕ) (goal : List (ℕ × Slot)) : Type 0 where
    pub is_place : IsPlace now place
    pub distinct : HasDistinctKeys now
    pub known : All Knows (slot_uses (rest_from now place))
    pub is : ahead_of now place ++ retargeted_slots f (rest_from now place) ≡ goal

  abbrev pub retargeted_slot : Slot → Slot
  retargeted_slot v = record v { term = retargeted_term f v.term }

  rest_uses : (now : List (ℕ × Slot)) (key : ℕ) (v : Slot) → value_of now key ≡ Some v → slot_uses (starting_at now key) ≡ term_uses v.term ++ slot_uses (behind now key)
  rest_uses now key v found = ap slot_uses (starting_at-behind now key v found)

  pub retarget_known : (now goal : List (ℕ × Slot)) (key : ℕ) (v : Slot) → Retargets now (Some key) goal → value_of now key ≡ Some v → All Knows (term_uses v.term)
  retarget_known now goal key v walk found =
      All-left Knows (term_uses v.term) (slot_uses (behind now key)) (subst (λ us. All Knows us) (rest_uses now key v found) walk.known)

  pub retarget_step : (now goal : List (ℕ × Slot)) (key : ℕ) (v : Slot) → Retargets now (Some key) goal → value_of now key ≡ Some v → Retargets (with_value now key (retargeted_slot v)) (next_key (with_value now key (retargeted_slot v)) key) goal
  retarget_step now goal key v walk found =
      let v' = retargeted_slot v in
      let st = steps now key v (retargeted_slot v) walk.distinct found in
      record {
        is_place = st.is_place;
        distinct = st.distinct;
        known = subst (λ (es : List (ℕ × Slot)). All Knows (slot_uses es)) (sym st.rest) (All-right Knows (term_uses v.term) (slot_uses (behind now key)) (subst (λ us. All Knows us) (rest_uses now key v found) walk.known));
        is =
            ap (λ es. es ++ retargeted_slots f (rest_from (with_value now key (retargeted_slot v)) (next_key (with_value now key (retargeted_slot v)) key))) st.ahead
            ∙ ap (λ es. (before now key ++ (key, retargeted_slot v) ∷ []) ++ retargeted_slots f es) st.rest
            ∙ append_assoc (before now key) ((key, retargeted_slot v) ∷ []) (retargeted_slots f (behind now key))
            ∙ ap (λ es. before now key ++ retargeted_slots f es) (sym (starting_at-behind now key v found))
            ∙ walk.is;
      }
