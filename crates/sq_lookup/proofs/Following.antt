-- What names resolve to, jump by jump.
use Rattle.std.proofs.Common.{◌≡◌, ℕ, zero, suc, ◌+◌, ◌<◌, ◌≤◌, ◌==◌, ◌||◌, ◌⊎◌, arith, Bool, true, false, if◌then◌else◌, List, [], ◌∷◌, length, Option, None, Some, IsSome, inl, inr, refl, sym, ap, ◌∙◌, subst}
use Rattle.std.proofs.lemmas.Bool.{cases_Bool, eqb-true, eq-eqb}
use Rattle.sq_arena.specs.Entries.{value_of, keys}
use Rattle.sq_graph.specs.Graph.{Block, Graph}
use Rattle.sq_graph.specs.Blocks.{named, block_of, HasBlock}
use Rattle.sq_graph.specs.Resolve.{lone_jump, jump_from, leads_to, is_on_cycle, resolved_within, resolved}
use Rattle.sq_lookup.specs.Tables.{value_at}
use Rattle.sq_lookup.specs.Resolutions.{AreClosed}
use Rattle.sq_lookup.proofs.Resolving.{leads_nowhere, leads_there, leads_on, fewer, leads_past, resolves_here, resolves_last, resolves_on}

-- a value or none
option_cases : (o : Option ℕ) → (o ≡ None) ⊎ ((n : ℕ) × (o ≡ Some n))
option_cases None = inl refl
option_cases (Some n) = inr (n, refl)

module _ (g : Graph) where
  -- HOPS

  -- the first of the hops
  record FirstHop (left at goal : ℕ) : Type 0 where
    to : ℕ
    jump : jump_from g at ≡ Some to
    rest : (to ≡ goal) ⊎ (leads_to g left to goal ≡ true)

  first_hop : (left at goal : ℕ) → leads_to g (suc left) at goal ≡ true → FirstHop left at goal
  first_hop left at goal leads =
      elim (option_cases (jump_from g at)) [
        | inl none ↦ let no = leads_nowhere g (suc left) at goal none in absurd (cc)
        | inr some ↦
            elim (cases_Bool (some.0 == goal)) [
              | inl same ↦ record { to = some.0; jump = some.1; rest = inl (eqb-true some.0 goal same) }
              | inr apart ↦ record { to = some.0; jump = some.1; rest = inr (sym (leads_on g left at goal some.0 some.1 apart) ∙ leads) }
            ]
      ]

  arrives : (left at goal : ℕ) → jump_from g at ≡ Some goal → leads_to g (suc left) at goal ≡ true
  arrives left at goal jump = leads_there g left at goal goal jump (eq-eqb goal goal refl)

  leads_within : (left more n at goal : ℕ) → left + more ≡ n → leads_to g left at goal ≡ true → leads_to g n at goal ≡ true
  leads_within left more n at goal sum leads =
      elim (cases_Bool (leads_to g n at goal)) [
        | inl still ↦ still
        | inr not ↦
            let no = fewer g more left at goal (subst (λ k. leads_to g k at goal ≡ false) (omega (arith, sum)) not) in
            absurd (cc)
      ]

  -- CYCLES

  -- a lone Jump on a cycle leads to one on it
  pub record OnCycle (at : ℕ) : Type 0 where
    pub to : ℕ
    pub jump : jump_from g at ≡ Some to
    pub cycle : is_on_cycle g to ≡ true

  cycle_from : (n at : ℕ) → n ≡ length g.blocks → leads_to g n at at ≡ true → OnCycle at
  cycle_from zero at is leads = absurd (cc)
  cycle_from (suc left) at is leads =
      let first = first_hop left at at leads in
      record {
        to = first.to;
        jump = first.jump;
        cycle =
            elim first.rest [
              | inl same ↦ subst (λ n. is_on_cycle g n ≡ true) (sym same) (subst (λ n. leads_to g n at at ≡ true) is leads)
              | inr later ↦ subst (λ n. leads_to g n first.to first.to ≡ true) is (leads_past g left first.to at first.to later first.jump)
            ];
      }

  pub cycle_on : (at : ℕ) → is_on_cycle g at ≡ true → OnCycle at
  cycle_on at cycle = cycle_from (length g.blocks) at refl cycle

  -- where a closed table has something, it has for all to which lone Jumps lead from there
  closed_leads : (found : List (Option ℕ)) (left at goal : ℕ) → AreClosed g found → IsSome (value_at found at) → leads_to g left at goal ≡ true → IsSome (value_at found goal)
  closed_leads found zero at goal closed known leads = absurd (cc)
  closed_leads found (suc left) at goal closed known leads =
      let first = first_hop left at goal leads in
      let next = closed at first.to known first.jump in
      elim first.rest [
        | inl same ↦ subst (λ n. IsSome (value_at found n)) same next
        | inr later ↦ closed_leads found left first.to goal closed next later
      ]

  -- so a lone Jump that isn't in it, but whose target is, is on no cycle
  pub off_cycle : (found : List (Option ℕ)) (at to : ℕ) → AreClosed g found → value_at found at ≡ None → jump_from g at ≡ Some to → IsSome (value_at found to) → is_on_cycle g at ≡ false
  off_cycle found at to closed none jump known =
      elim (cases_Bool (is_on_cycle g at)) [
        | inr off ↦ off
        | inl cycle ↦
            let some = back (length g.blocks) cycle in
            absurd (cc)
      ]
    where
      -- from the target a cycle leads back
      back : (n : ℕ) → leads_to g n at at ≡ true → IsSome (value_at found at)
      back zero leads = absurd (cc)
      back (suc left) leads =
          let first = first_hop left at at leads in
          let same : first.to ≡ to = let e : Some first.to ≡ Some to = sym first.jump ∙ jump in cc in
          let next = subst (λ n. IsSome (value_at found n)) (sym same) known in
          elim first.rest [
            | inl here ↦ subst (λ n. IsSome (value_at found n)) here next
            | inr later ↦ closed_leads found left first.to at closed next later
          ]

  -- FEW HOPS

  abbrev has : List ℕ → ℕ → Bool
  has [] n = false
  has (x ∷ xs) n = x == n || has xs n

  abbrev without : ℕ → List ℕ → List ℕ
  without n [] = []
  without n (x ∷ xs) = if x == n then without n xs else x ∷ without n xs

  or_parts : (a b : Bool) → (a || b) ≡ true → (a ≡ true) ⊎ (b ≡ true)
  or_parts true b is = inl refl
  or_parts false b is = inr is

  no_longer : (n : ℕ) (xs : List ℕ) → length (without n xs) ≤ length xs
  no_longer n [] = omega arith
  no_longer n (x ∷ xs) =
      elim (cases_Bool (x == n)) [
        | inl same ↦ rw same (omega (arith, no_longer n xs))
        | inr apart ↦ rw apart (omega (arith, no_longer n xs))
      ]

  shorter : (n : ℕ) (xs : List ℕ) → has xs n ≡ true → length (without n xs) < length xs
  shorter n [] is = absurd (cc)
  shorter n (x ∷ xs) is =
      elim (cases_Bool (x == n)) [
        | inl same ↦ rw same (omega (arith, no_longer n xs))
        | inr apart ↦ rw apart (omega (arith, shorter n xs (subst (λ t. (t || has xs n) ≡ true) apart is)))
      ]

  still_has : (n x : ℕ) (xs : List ℕ) → has xs x ≡ true → (has (without n xs) x ≡ true) ⊎ (x ≡ n)
  still_has n x [] is = absurd (cc)
  still_has n x (y ∷ xs) is =
      elim (or_parts (y == x) (has xs x) is) [
        | inl same ↦
            elim (cases_Bool (y == n)) [
              | inl gone ↦ inr (sym (eqb-true y x same) ∙ eqb-true y n gone)
              | inr stays ↦ inl (rw (stays, same) refl)
            ]
        | inr later ↦
            elim (still_has n x xs later) [
              | inr gone ↦ inr gone
              | inl more ↦
                  elim (cases_Bool (y == n)) [
                    | inl gone ↦ inl (rw gone more)
                    | inr stays ↦ inl (rw stays (elim (cases_Bool (y == x)) [ inl same ↦ rw same refl | inr apart ↦ rw apart more ]))
                  ]
            ]
      ]

  block_named : (bs : List Block) (n : ℕ) → IsSome (value_of (named bs) n) → has (keys (named bs)) n ≡ true
  block_named [] n there = absurd (cc)
  block_named (b ∷ bs) n there =
      elim (cases_Bool (b.name == n)) [
        | inl same ↦ rw same refl
        | inr apart ↦ rw apart (block_named bs n (subst IsSome (rw apart refl) there))
      ]

  keys_many : (bs : List Block) → length (keys (named bs)) ≡ length bs
  keys_many [] = refl
  keys_many (b ∷ bs) = ap suc (keys_many bs)

  jump_has : (n to : ℕ) → jump_from g n ≡ Some to → HasBlock g n
  jump_has n to jump = go (block_of g n) refl jump
    where
      go : (o : Option Block) → block_of g n ≡ o → lone_jump o ≡ Some to → IsSome o
      go None is e = absurd (cc)
      go (Some b) is e = refl

  -- every block is one of these names, or one that was passed, from which so many lone Jumps lead to this one
  abbrev AreLeft : ℕ → ℕ → List ℕ → Type 0
  AreLeft past at rest = (n : ℕ) → HasBlock g n → (has rest n ≡ true) ⊎ (leads_to g past n at ≡ true)

  -- a lone Jump on no cycle wasn't passed
  is_left : (left past at to : ℕ) (rest : List ℕ) → past + left ≡ length g.blocks → AreLeft past at rest → is_on_cycle g at ≡ false → jump_from g at ≡ Some to → has rest at ≡ true
  is_left left past at to rest sum each off jump =
      elim (each at (jump_has at to jump)) [
        | inl waits ↦ waits
        | inr back ↦ let cycle = leads_within past left (length g.blocks) at at sum back in absurd (cc)
      ]

  -- past it those that are left are without it
  are_left : (past at to : ℕ) (rest : List ℕ) → AreLeft past at rest → jump_from g at ≡ Some to → AreLeft (suc past) to (without at rest)
  are_left past at to rest each jump n there =
      elim (each n there) [
        | inr leads ↦ inr (leads_past g past n at to leads jump)
        | inl waits ↦ elim (still_has at n rest waits) [
          | inl still ↦ inl still
          | inr same ↦ inr (subst (λ m. leads_to g (suc past) m to ≡ true) (sym same) (arrives past at to jump))
        ]
      ]

  -- a lone Jump on no cycle
  record Goes (at : ℕ) : Type 0 where
    off : is_on_cycle g at ≡ false
    to : ℕ
    jump : jump_from g at ≡ Some to

  stops_or_goes : (at : ℕ) → ((left : ℕ) → resolved_within g left at ≡ at) ⊎ Goes at
  stops_or_goes at =
      elim (cases_Bool (is_on_cycle g at)) [
        | inl cycle ↦ inl (λ left. resolves_here g left at cycle)
        | inr off ↦ elim (option_cases (jump_from g at)) [
          | inl none ↦ inl (λ left. resolves_last g left at off none)
          | inr some ↦ inr (record { off = off; to = some.0; jump = some.1 })
        ]
      ]

  -- With as many hops left as names one more changes nothing.
  enough : (left past at : ℕ) (rest : List ℕ) → past + left ≡ length g.blocks → length rest ≤ left → AreLeft past at rest → resolved_within g left at ≡ resolved_within g (suc left) at
  enough zero past at rest sum few each =
      elim (stops_or_goes at) [
        | inl stops ↦ stops 0 ∙ sym (stops 1)
        | inr goes ↦ absurd (omega (arith, few, shorter at rest (is_left zero past at goes.to rest sum each goes.off goes.jump)))
      ]
  enough (suc left) past at rest sum few each =
      elim (stops_or_goes at) [
        | inl stops ↦ stops (suc left) ∙ sym (stops (suc (suc left)))
        | inr goes ↦
            resolves_on g left at goes.to goes.off goes.jump
            ∙ enough left (suc past) goes.to (without at rest) (omega (arith, sum)) (omega (arith, few, shorter at rest (is_left (suc left) past at goes.to rest sum each goes.off goes.jump))) (are_left past at goes.to rest each goes.jump)
            ∙ sym (resolves_on g (suc left) at goes.to goes.off goes.jump)
      ]

  -- a lone Jump on no cycle resolves to what its target does
  pub resolves_by : (at to : ℕ) → is_on_cycle g at ≡ false → jump_from g at ≡ Some to → resolved g at ≡ resolved g to
  resolves_by at to off jump = go (length g.blocks) refl
    where
      there : has (keys (named g.blocks)) at ≡ true
      there = block_named g.blocks at (jump_has at to jump)

      go : (n : ℕ) → n ≡ length g.blocks → resolved_within g n at ≡ resolved_within g n to
      go zero is = absurd (omega (arith, is, keys_many g.blocks, shorter at (keys (named g.blocks)) there))
      go (suc k) is =
          resolves_on g k at to off jump
          ∙ enough k 1 to (without at (keys (named g.blocks))) (omega (arith, is)) (omega (arith, is, keys_many g.blocks, shorter at (keys (named g.blocks)) there)) (λ n has_block.
          elim (still_has at n (keys (named g.blocks)) (block_named g.blocks n has_block)) [
            | inl still ↦ inl still
            | inr same ↦ inr (subst (λ m. leads_to g 1 m to ≡ true) (sym same) (arrives 0 at to jump))
          ])

  pub resolves_last_too : (at : ℕ) → jump_from g at ≡ None → resolved g at ≡ at
  resolves_last_too at none =
      elim (stops_or_goes at) [ inl stops ↦ stops (length g.blocks) | inr goes ↦ let e : Some goes.to ≡ None = sym goes.jump ∙ none in absurd (cc) ]
