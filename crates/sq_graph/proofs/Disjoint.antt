-- Slots of which no two have a place in common.
use Rattle.std.proofs.Common.{◌≡◌, ◌≢◌, ◌⊎◌, ℕ, ◌+◌, ◌≤◌, ◌==◌, List, [], ◌∷◌, ◌++◌, Option, None, Some, refl, sym, ap, ◌∙◌, subst, inl, inr, arith, append_assoc}
use Rattle.std.proofs.lemmas.Bool.{cases_Bool, cases_lt, eqb-true}
use Rattle.sq_arena.specs.Entries.{HasDistinctKeys, value_of, KeepsValues, before, behind, with_value}
use Rattle.sq_arena.proofs.EntriesLemmas.{split_at as split_at_key}
use Rattle.sq_arena.proofs.EntriesLaws.{value_of-cons, absent_ahead}
use Rattle.sq_graph.specs.declared.slot.Slot.{Slot}
use Rattle.sq_graph.specs.Packed.{HasPlace, AreDisjoint, EndBy, AreApart, AreLaid}
use Rattle.sq_graph.specs.CanonicalSlots.{both}
use Rattle.sq_graph.proofs.Located.{value_of-at}
use Rattle.sq_graph.proofs.CursorLaws.{value_of-before, with_value-split}
use Rattle.sq_graph.proofs.SlotPasses.{IsPair}
use Rattle.sq_graph.proofs.Strewn.{apart_ends, ends_found}

-- WHERE A KEY IS FOUND

pub none_left : (front back : List (ℕ × Slot)) (name : ℕ) → value_of (front ++ back) name ≡ None → value_of front name ≡ None
none_left [] back name none = refl
none_left (e ∷ front) back name none =
    elim (cases_Bool (e.0 == name)) [
      | inl here ↦ absurd (cc (rw here at none))
      | inr apart ↦ rw apart (none_left front back name (rw apart at none))
    ]

found_either : (front back : List (ℕ × Slot)) (name : ℕ) (slot : Slot) → value_of (front ++ back) name ≡ Some slot → (value_of front name ≡ Some slot) ⊎ (value_of back name ≡ Some slot)
found_either [] back name slot found = inr found
found_either (e ∷ front) back name slot found =
    elim (cases_Bool (e.0 == name)) [
      | inl here ↦ inl (rw here (rw here at found))
      | inr apart ↦ rw apart (found_either front back name slot (rw apart at found))
    ]

-- in the second of two parts, whose keys are distinct
pub found_back : (front back : List (ℕ × Slot)) (name : ℕ) (slot : Slot) → HasDistinctKeys (front ++ back) → value_of back name ≡ Some slot → (value_of (front ++ back) name ≡ Some slot) × (value_of front name ≡ None)
found_back front back name slot distinct found =
    let whole : front ++ back ≡ (front ++ before back name) ++ (name, slot) ∷ behind back name =
    ap (λ es. front ++ es) (split_at_key back name slot found) ∙ sym (append_assoc front (before back name) ((name, slot) ∷ behind back name)) in
    let absent = absent_ahead (front ++ before back name) (behind back name) name slot (subst (λ (es : List (ℕ × Slot)). HasDistinctKeys es) whole distinct) in (
      ap (λ es. value_of es name) whole ∙ value_of-at (front ++ before back name) (behind back name) name slot absent,
      none_left front (before back name) name absent,
    )

-- the slot is one of another name than this
pub record IsOther (es : List (ℕ × Slot)) (name other : ℕ) (slot : Slot) : Type 0 where
  pub found : value_of es other ≡ Some slot
  pub apart : other ≢ name

other_before : (es : List (ℕ × Slot)) (name other : ℕ) (slot : Slot) → value_of (before es name) other ≡ Some slot → IsOther es name other slot
other_before [] name other slot found = absurd (cc)
other_before (e ∷ es) name other slot found =
    elim (cases_Bool (e.0 == name)) [
      | inl here ↦ absurd (cc (rw here at found))
      | inr apart ↦
          elim (cases_Bool (e.0 == other)) [
            | inl there ↦
                let value : e.1 ≡ slot = cc (rw (apart, there) at found) in
                record {
                  found = rw there (ap (λ s. Some s) value);
                  apart = λ same. absurd (cc);
                }
            | inr aside ↦
                let rest = other_before es name other slot (rw (apart, aside) at found) in
                record { found = rw aside rest.found; apart = rest.apart }
          ]
    ]

other_behind : (es : List (ℕ × Slot)) (name : ℕ) (mine : Slot) (other : ℕ) (slot : Slot) → HasDistinctKeys es → value_of es name ≡ Some mine → value_of (behind es name) other ≡ Some slot → IsOther es name other slot
other_behind es name mine other slot distinct at found =
    let front = before es name ++ (name, mine) ∷ [] in
    let whole : es ≡ (before es name ++ (name, mine) ∷ []) ++ behind es name =
    split_at_key es name mine at ∙ sym (append_assoc (before es name) ((name, mine) ∷ []) (behind es name)) in
    let there = found_back front (behind es name) other slot (subst (λ (fs : List (ℕ × Slot)). HasDistinctKeys fs) whole distinct) found in
    record {
      found = ap (λ fs. value_of fs other) whole ∙ there.0;
      apart = λ same. absurd (cc (sym (value_of-at (before es name) [] name mine (value_of-before es name)) ∙ ap (λ k. value_of (before es name ++ (name, mine) ∷ []) k) (sym same) ∙ there.1));
    }

changed_either : (es : List (ℕ × Slot)) (name : ℕ) (slot : Slot) (mid : List (ℕ × Slot)) (other : ℕ) (second : Slot) → HasDistinctKeys es → value_of es name ≡ Some slot → value_of (before es name ++ (mid ++ behind es name)) other ≡ Some second
    → ((value_of es other ≡ Some second) × (other ≢ name)) ⊎ (value_of mid other ≡ Some second)
changed_either es name slot mid other second distinct found there =
    elim (found_either (before es name) (mid ++ behind es name) other second there) [
      | inl ahead ↦ let it = other_before es name other second ahead in inl (it.found, it.apart)
      | inr rest ↦
          elim (found_either mid (behind es name) other second rest) [
            | inl new ↦ inr new
            | inr back ↦ let it = other_behind es name slot other second distinct found back in inl (it.found, it.apart)
          ]
    ]

only_one : (name : ℕ) (slot : Slot) (other : ℕ) (second : Slot) → value_of ((name, slot) ∷ []) other ≡ Some second → (other ≡ name) × (second ≡ slot)
only_one name slot other second found =
    elim (cases_Bool (name == other)) [
      | inl here ↦ let value : slot ≡ second = cc (rw here at found) in (sym (eqb-true name other here), sym value)
      | inr apart ↦ absurd (cc (rw apart at found))
    ]

-- WHERE THEY LIE

apart_above : (es : List (ℕ × Slot)) (low end name : ℕ) (slot : Slot) → AreApart es low end → value_of es name ≡ Some slot → low ≤ slot.start
apart_above [] low end name slot apart found = absurd (cc)
apart_above (e ∷ es) low end name slot apart found =
    elim (cases_Bool (e.0 == name)) [
      | inl here ↦
          let value : e.1 ≡ slot = cc (rw here at found) in
          omega (arith, apart.0, ap (λ s. s.start) value)
      | inr elsewhere ↦ omega (arith, apart.0, apart_above es (e.1.start + e.1.length) end name slot apart.1 (rw elsewhere at found))
    ]

pub apart_disjoint : (es : List (ℕ × Slot)) (low end : ℕ) → AreApart es low end → AreDisjoint es
apart_disjoint [] low end apart place name other slot second found found' has has' = absurd (cc)
apart_disjoint (e ∷ es) low end apart place name other slot second found found' has has' =
    elim (cases_Bool (e.0 == name)) [
      | inl here ↦
          elim (cases_Bool (e.0 == other)) [
            | inl there ↦ sym (eqb-true e.0 name here) ∙ eqb-true e.0 other there
            | inr aside ↦
                let value : e.1 ≡ slot = cc (rw here at found) in
                absurd (omega (arith, has.1, has'.0, ap (λ s. s.start + s.length) value, apart_above es (e.1.start + e.1.length) end other second apart.1 (rw aside at found')))
          ]
      | inr elsewhere ↦
          elim (cases_Bool (e.0 == other)) [
            | inl there ↦
                let value : e.1 ≡ second = cc (rw there at found') in
                absurd (omega (arith, has'.1, has.0, ap (λ s. s.start + s.length) value, apart_above es (e.1.start + e.1.length) end name slot apart.1 (rw elsewhere at found)))
            | inr aside ↦ apart_disjoint es (e.1.start + e.1.length) end apart.1 place name other slot second (rw elsewhere at found) (rw aside at found') has has'
          ]
    ]

pub laid_disjoint : (es : List (ℕ × Slot)) (end : ℕ) (free : Option ℕ) (room : ℕ) → AreLaid es end free room → AreDisjoint es
laid_disjoint es end None room lie = apart_disjoint es 0 end lie
laid_disjoint es end (Some free) room lie = lie.1.1.1

-- WHAT KEEPS IT

-- the same slots in another order
pub disjoint_kept : (es fs : List (ℕ × Slot)) → KeepsValues es fs → AreDisjoint es → AreDisjoint fs
disjoint_kept es fs keeps disjoint place name other slot second found found' has has' =
    disjoint place name other slot second (sym (keeps name) ∙ found) (sym (keeps other) ∙ found') has has'

-- slots that are new, and others that stay, which have no place of theirs
module _ (es fs : List (ℕ × Slot)) (Stays : ℕ → Type 0) (IsNew : ℕ → Slot → Type 0) where
  pub record Replaces : Type 0 where
    pub either : (name : ℕ) (slot : Slot) → value_of fs name ≡ Some slot → ((value_of es name ≡ Some slot) × Stays name) ⊎ IsNew name slot
    pub free : (place name other : ℕ) (slot second : Slot) → IsNew name slot → HasPlace slot place → value_of es other ≡ Some second → Stays other → HasPlace second place → ⊥
    pub new : (place name other : ℕ) (slot second : Slot) → IsNew name slot → IsNew other second → HasPlace slot place → HasPlace second place → name ≡ other

  pub disjoint_replaced : Replaces → AreDisjoint es → AreDisjoint fs
  disjoint_replaced replaces disjoint place name other slot second found found' has has' =
      elim (replaces.either name slot found) [
        | inl stays ↦
            elim (replaces.either other second found') [
              | inl stays' ↦ disjoint place name other slot second stays.0 stays'.0 has has'
              | inr new' ↦ absurd (replaces.free place other name second slot new' has' stays.0 stays.1 has)
            ]
        | inr new ↦
            elim (replaces.either other second found') [
              | inl stays' ↦ absurd (replaces.free place name other slot second new has stays'.0 stays'.1 has')
              | inr new' ↦ replaces.new place name other slot second new new' has has'
            ]
      ]

-- the slot makes way for others within its places
pub disjoint_changed : (es : List (ℕ × Slot)) (name : ℕ) (slot : Slot) (mid : List (ℕ × Slot)) → HasDistinctKeys es → value_of es name ≡ Some slot → AreApart mid slot.start (slot.start + slot.length)
    → AreDisjoint es → AreDisjoint (before es name ++ (mid ++ behind es name))
disjoint_changed es name slot mid distinct found apart disjoint =
    disjoint_replaced es (before es name ++ (mid ++ behind es name)) (λ other. other ≢ name) (λ other second. value_of mid other ≡ Some second)
    (record {
      either = λ other second there. changed_either es name slot mid other second distinct found there;
      free = λ place one other new second is has there stays has'.
          stays (disjoint place other name second slot there found has' (
            omega (arith, has.0, apart_above mid slot.start (slot.start + slot.length) one new apart is),
            omega (arith, has.1, ends_found mid (slot.start + slot.length) one new (apart_ends mid slot.start (slot.start + slot.length) apart) is),
          ));
      new = λ place one other new second is is' has has'. apart_disjoint mid slot.start (slot.start + slot.length) apart place one other new second is is' has has';
    })
    disjoint

-- a slot goes to a place behind all
pub disjoint_carried : (es : List (ℕ × Slot)) (name : ℕ) (slot new : Slot) → HasDistinctKeys es → value_of es name ≡ Some slot → EndBy es new.start → AreDisjoint es → AreDisjoint (with_value es name new)
disjoint_carried es name slot new distinct found ends disjoint =
    disjoint_replaced es (with_value es name new) (λ other. other ≢ name) (λ other second. (other ≡ name) × (second ≡ new))
    (record {
      either = λ other second there.
          elim (changed_either es name slot ((name, new) ∷ []) other second distinct found (sym (ap (λ fs. value_of fs other) (with_value-split es name slot new found)) ∙ there)) [
            | inl stays ↦ inl stays
            | inr mine ↦ inr (only_one name new other second mine)
          ];
      free = λ place one other mine second is has there stays has'.
          absurd (omega (arith, has.0, ap (λ s. s.start) is.1, has'.1, ends_found es new.start other second ends there));
      new = λ place one other mine second is is' has has'. is.0 ∙ sym is'.0;
    })
    disjoint

-- a slot takes over the items of the next one, right behind its own
module _ (es : List (ℕ × Slot)) (name next : ℕ) (first second : Slot) (pair : IsPair es name first next) (distinct : HasDistinctKeys es) (found : value_of es name ≡ Some first) (found_next : value_of es next ≡ Some second) (back : behind es name ≡ (next, second) ∷ pair.rest) where
  next_not_ahead : value_of (before es name) next ≡ None
  next_not_ahead =
      none_left (before es name) ((name, first) ∷ []) next (ap (λ fs. value_of fs next) (sym pair.at.ahead_is) ∙ value_of-before es next)

  joined_either : (other : ℕ) (slot : Slot) → value_of (before es name ++ (name, both first second) ∷ pair.rest) other ≡ Some slot
      → ((value_of es other ≡ Some slot) × ((other ≢ name) × (other ≢ next))) ⊎ ((other ≡ name) × (slot ≡ both first second))
  joined_either other slot there =
      elim (found_either (before es name) ((name, both first second) ∷ pair.rest) other slot there) [
        | inl ahead ↦
            let it = other_before es name other slot ahead in
            inl (it.found, (it.apart, λ same. absurd (cc (sym ahead ∙ ap (λ k. value_of (before es name) k) same ∙ next_not_ahead))))
        | inr rest ↦
            elim (found_either ((name, both first second) ∷ []) pair.rest other slot rest) [
              | inl mine ↦ inr (only_one name (both first second) other slot mine)
              | inr later ↦
                  let it = other_behind es next second other slot distinct found_next (ap (λ fs. value_of fs other) pair.at.behind_is ∙ later) in
                  let there = ap (λ fs. value_of fs other) back ∙ value_of-cons (next, second) pair.rest other (λ same. it.apart (sym same)) ∙ later in
                  inl (it.found, ((other_behind es name first other slot distinct found there).apart, it.apart))
            ]
      ]

  pub disjoint_joined : first.start + first.length ≡ second.start → AreDisjoint es → AreDisjoint (before es name ++ (name, both first second) ∷ pair.rest)
  disjoint_joined follow disjoint =
      disjoint_replaced es (before es name ++ (name, both first second) ∷ pair.rest) (λ other. (other ≢ name) × (other ≢ next)) (λ other slot. (other ≡ name) × (slot ≡ both first second))
      (record {
        either = joined_either;
        free = λ place one other mine slot is has there stays has'. elim (cases_lt place second.start) [
          | inl less ↦ stays.0 (disjoint place other name slot first there found has' (omega (arith, has.0, ap (λ s. s.start) is.1), omega (arith, less, follow)))
          | inr more ↦ stays.1 (disjoint place other next slot second there found_next has' (more, omega (arith, has.1, follow, ap (λ s. s.start + s.length) is.1)))
        ];
        new = λ place one other mine slot is is' has has'. is.0 ∙ sym is'.0;
      })
      disjoint
