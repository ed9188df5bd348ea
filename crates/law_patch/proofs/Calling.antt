-- System calls of two runs that agree.
use Rattle.std.proofs.Common.{◌≡◌, ℕ, zero, suc, ◌+◌, ◌^◌, ◌<◌, Bool, true, false, ◌==◌, ◌&&◌, ◌||◌, List, [], Option, Some, None, take, map, is_some, unwrap_or, nat_le, if◌then◌else◌, refl, sym, ap, ap₂, ◌∙◌, subst, arith}
use Rattle.std.specs.List.{list_any}
use Rattle.std.proofs.lemmas.Bool.{eqb-true, or_parts}
use Rattle.sq_memory.specs.Cells.{is_in_memory, cells_from, Agree, AllAgree}
use Rattle.sq_memory.proofs.RangeLaws.{cells_from-agree}
use Rattle.law_runs.specs.Runs.{Broke}
use Rattle.law_runs.specs.Simulation.{Matches}
use Rattle.sq_system.specs.World.{is_range, are_all}
use Rattle.sq_system.specs.Calls.{effect_of}
use Rattle.sq_system.specs.declared.call.CallArgs.{CallArgs}
use Rattle.sq_system.specs.declared.call.Effect.{Effect}
use Rattle.sq_system.specs.declared.call.Effect.TheVariants.{Exit, Write, Read, Brk, Fail, Ask}
use Rattle.sq_system.specs.declared.event.Event.TheVariants.{Wrote}
use Rattle.sq_system.specs.declared.event.Halt.TheVariants.{Exit as Exited}
use Rattle.law_follow.specs.declared.kind.Kind.TheVariants.{Call, Fragment, Stale as StaleByte, Text}
use Rattle.law_follow.specs.Values.{Value, Num, Tagged, Cell, is_tagged, is_stale, is_fragment, byte_of}
use Rattle.law_follow.specs.Settings.{Setting, Store, meets_text}
use Rattle.law_follow.specs.Accesses.{Step}
use Rattle.law_follow.specs.Calls.{CallOperands, has_tagged, number_in, call_of, takes_buffer, with_buffer, answered_with, effect_row, args_row, number_row, call_row}
use Rattle.law_patch.specs.Agreement.{Ties, SameValue, SameCell, SameStore, SameMade, IsTied}
use Rattle.law_patch.proofs.Memories.{if_rel, if_broke, same_numbers, bytes_stored_rel, by_test}
use Rattle.law_patch.proofs.Loading.{with_code}

same_presence : {A B : Type 0} (R : A → B → Type 0) (o : Option A) (p : Option B) → Agree R o p → is_some p ≡ is_some o
same_presence R None None h = refl
same_presence R None (Some b) h = absurd h
same_presence R (Some a) None h = absurd h
same_presence R (Some a) (Some b) h = refl

all_same : (f g : ℕ → Bool) (x n : ℕ) → ((i : ℕ) → i < n → g (x + i) ≡ f (x + i)) → are_all g x n ≡ are_all f x n
all_same f g x zero h = refl
all_same f g x (suc n) h = ap₂ (λ a b. a && b) (all_same f g x n (λ i l. h i (omega arith))) (h n (omega arith))

module _ (P : ℕ → Type 0) (T : Ties) (s : Setting) (code : ℕ → Bool) (laws : IsTied P T s) where
  abbrev Same : Step → Step → Type 0
  Same = Matches (SameMade P T)

  -- the operands agree one by one
  pub record SameOperands (r t : CallOperands) : Type 0 where
    pub a0 : SameValue T r.a0 t.a0
    pub a1 : SameValue T r.a1 t.a1
    pub a2 : SameValue T r.a2 t.a2
    pub a7 : SameValue T r.a7 t.a7

  -- a value that isn't tagged is the same number
  untagged : (v u : Value) → is_tagged v ≡ false → SameValue T v u → (u ≡ v) × (is_tagged u ≡ false)
  untagged (Num x) u e h = (h, rw h refl)
  untagged (Tagged tag) u e h = absurd (cc)

  buffer_rel : (cs ds : List Cell) (go go' : List ℕ → Step) → AllAgree SameCell cs ds → ((bytes : List ℕ) → Same (go bytes) (go' bytes)) → Same (with_buffer cs go) (with_buffer ds go')
  buffer_rel cs ds go go' agree k =
      if_broke P T (SameMade P T) (list_any is_stale cs) StaleByte (if list_any is_fragment cs then Broke Fragment else go (map byte_of cs)) (with_buffer ds go')
      (λ e. if_broke P T (SameMade P T) (list_any is_fragment cs) Fragment (go (map byte_of cs)) (with_buffer ds go')
      (λ f. rw (same_numbers cs ds e f agree, e, f) (k (map byte_of cs))))

  buffers : (o p : Option (List Cell)) → Agree (AllAgree SameCell) o p → AllAgree SameCell (unwrap_or o []) (unwrap_or p [])
  buffers None None h = tt
  buffers None (Some ds) h = absurd h
  buffers (Some cs) None h = absurd h
  buffers (Some cs) (Some ds) h = h

  -- one call on both sides
  effect_rel : (call : CallArgs) (effect : Effect) (a b : Store) → ((i : ℕ) → i < call.a2 → P (call.a1 + i)) → SameStore P T a b → Same (effect_row call a effect) (effect_row call b effect)
  effect_rel call (Exit status) a b inside h = refl
  effect_rel call (Write fd) a b inside h =
      buffer_rel (unwrap_or (cells_from a.memory call.a1 call.a2) []) (unwrap_or (cells_from b.memory call.a1 call.a2) [])
      (λ bytes. answered_with call (Write fd) (Wrote fd bytes) a) (λ bytes. answered_with call (Write fd) (Wrote fd bytes) b)
      (buffers (cells_from a.memory call.a1 call.a2) (cells_from b.memory call.a1 call.a2) (cells_from-agree P SameCell call.a2 a.memory b.memory call.a1 inside h.memory.cells))
      (λ bytes. (refl, record { value = refl; store = h }))
  effect_rel call (Read count) a b inside h =
      rw h.input (
        refl,
        record {
          value = refl;
          store = record { memory = bytes_stored_rel P T a.memory b.memory call.a1 (take count a.input) h.memory; input = refl; reservation = h.reservation };
        },
      )
  effect_rel call (Brk brk) a b inside h = (refl, record { value = refl; store = h })
  effect_rel call (Fail code) a b inside h = (refl, record { value = refl; store = h })
  effect_rel call Ask a b inside h = (refl, record { value = refl; store = h })

  -- the rest of a call of this number, where its arguments may be looked at
  abbrev SameCall : ℕ → CallOperands → CallOperands → Store → Store → Type 0
  SameCall number r t a b = Same (args_row s (call_of s number r a) a) (args_row (with_code s code) (call_of (with_code s code) number t b) b)

  -- calls that look at a0 alone
  exit_rel : (r t : CallOperands) (a b : Store) → t.a0 ≡ r.a0 → SameStore P T a b → SameCall 93 r t a b
  exit_rel r t a b e h = ap (λ v. Exited (number_in v)) e

  exit_group_rel : (r t : CallOperands) (a b : Store) → t.a0 ≡ r.a0 → SameStore P T a b → SameCall 94 r t a b
  exit_group_rel r t a b e h = ap (λ v. Exited (number_in v)) e

  brk_rel : (r t : CallOperands) (a b : Store) → t.a0 ≡ r.a0 → SameStore P T a b → SameCall 214 r t a b
  brk_rel r t a b e h = rw e (refl, record { value = refl; store = h })

  -- a call that is not known looks at no argument
  ask_rel : (number : ℕ) (r t : CallOperands) (a b : Store) → (number == 93 || number == 94 || number == 214) ≡ false → (number == 63 || number == 64) ≡ false → SameStore P T a b → SameCall number r t a b
  ask_rel number r t a b e f h =
      let x = or_parts (number == 93 || number == 94) (number == 214) e in
      let y = or_parts (number == 93) (number == 94) x.0 in
      let z = or_parts (number == 63) (number == 64) f in
      rw (y.0, y.1, x.1, z.0, z.1) (refl, record { value = refl; store = h })

  -- the same call on both sides, but for what the memories show of its buffer
  abbrev seen : CallArgs → Bool → CallArgs
  seen call readable = record call { readable = readable }

  read_fails : (call : CallArgs) → call.number ≡ 63 → takes_buffer call ≡ false → effect_of call ≡ Fail 9
  read_fails call e f = let g : (call.a0 == 0) ≡ false = (or_parts (call.a0 == 0) false (subst (λ n. ((n == 63 && call.a0 == 0) || (n == 64 && (call.a0 == 1 || call.a0 == 2))) ≡ false) e f)).0 in rw (e, g) refl

  write_fails : (call : CallArgs) → call.number ≡ 64 → takes_buffer call ≡ false → effect_of call ≡ Fail 9
  write_fails call e f = let g : (call.a0 == 1 || call.a0 == 2) ≡ false = subst (λ n. ((n == 63 && call.a0 == 0) || (n == 64 && (call.a0 == 1 || call.a0 == 2))) ≡ false) e f in rw (e, g) refl

  buffer_fails : (call : CallArgs) → (call.number == 63 || call.number == 64) ≡ true → takes_buffer call ≡ false → effect_of call ≡ Fail 9
  buffer_fails call e f =
      by_test (call.number == 63)
      (λ n. read_fails call (eqb-true call.number 63 n) f)
      (λ n. write_fails call (eqb-true call.number 64 (subst (λ b. (b || call.number == 64) ≡ true) n e)) f)

  fail_rel : (call other : CallArgs) (a b : Store) → other.number ≡ call.number → effect_of call ≡ Fail 9 → effect_of other ≡ Fail 9 → SameStore P T a b → Same (effect_row call a (effect_of call)) (effect_row other b (effect_of other))
  fail_rel call other a b n e f h = rw (e, f, n) (refl, record { value = refl; store = h })

  readable_same : (call : CallArgs) (a b : Store) → meets_text s call.a1 call.a2 ≡ false → SameStore P T a b → is_range (is_in_memory b.memory) call.a1 call.a2 ≡ is_range (is_in_memory a.memory) call.a1 call.a2
  readable_same call a b outside h =
      ap (λ t. nat_le (call.a1 + call.a2) (2 ^ 32) && t)
      (all_same (is_in_memory a.memory) (is_in_memory b.memory) call.a1 call.a2
      (λ i l. same_presence SameCell (a.memory (call.a1 + i)) (b.memory (call.a1 + i)) (h.memory.cells (call.a1 + i) (laws.outside call.a1 call.a2 outside i l))))

  effects_rel : (call : CallArgs) (a b : Store) (readable : Bool) → (call.number == 63 || call.number == 64) ≡ true → call.readable ≡ is_range (is_in_memory a.memory) call.a1 call.a2 → readable ≡ is_range (is_in_memory b.memory) call.a1 call.a2 → (takes_buffer call && meets_text s call.a1 call.a2) ≡ false → SameStore P T a b → Same (effect_row call a (effect_of call)) (effect_row (seen call readable) b (effect_of (seen call readable)))
  effects_rel call a b readable e own other outside h =
      by_test (takes_buffer call)
      (λ (t : takes_buffer call ≡ true).
      let apart : meets_text s call.a1 call.a2 ≡ false = subst (λ x. (x && meets_text s call.a1 call.a2) ≡ false) t outside in
      let same : readable ≡ call.readable = other ∙ readable_same call a b apart h ∙ sym own in
      let all : seen call readable ≡ call = ap (seen call) same in
      subst (λ other. Same (effect_row call a (effect_of call)) (effect_row other b (effect_of other))) (sym all) (effect_rel call (effect_of call) a b (laws.outside call.a1 call.a2 apart) h))
      (λ (t : takes_buffer call ≡ false). fail_rel call (seen call readable) a b refl (buffer_fails call e t) (buffer_fails (seen call readable) e t) h)

  buffer_call_rel : (number : ℕ) (r t : CallOperands) (a b : Store) → (number == 63 || number == 64) ≡ true → t.a0 ≡ r.a0 → t.a1 ≡ r.a1 → t.a2 ≡ r.a2 → SameStore P T a b → SameCall number r t a b
  buffer_call_rel number r t a b e x y z h =
      let call : CallArgs = call_of s number r a in
      let other : call_of (with_code s code) number t b ≡ seen call (is_range (is_in_memory b.memory) call.a1 call.a2) = rw (x, y, z, h.input) refl in
      subst (λ c. Same (args_row s call a) (args_row (with_code s code) c b)) (sym other)
      (if_rel Same (takes_buffer call && meets_text s call.a1 call.a2) (takes_buffer call && meets_text s call.a1 call.a2) (Broke Text) (effect_row call a (effect_of call)) (Broke Text) (effect_row (seen call (is_range (is_in_memory b.memory) call.a1 call.a2)) b (effect_of (seen call (is_range (is_in_memory b.memory) call.a1 call.a2)))) refl
      (λ q. tt)
      (λ q. effects_rel call a b (is_range (is_in_memory b.memory) call.a1 call.a2) e refl refl q h))

  -- by the number
  first_calls : (number : ℕ) (r t : CallOperands) (a b : Store) → (number == 93 || number == 94 || number == 214) ≡ true → t.a0 ≡ r.a0 → SameStore P T a b → SameCall number r t a b
  first_calls number r t a b e x h =
      by_test (number == 93)
      (λ n. subst (λ k. SameCall k r t a b) (sym (eqb-true number 93 n)) (exit_rel r t a b x h))
      (λ n. by_test (number == 94)
      (λ m. subst (λ k. SameCall k r t a b) (sym (eqb-true number 94 m)) (exit_group_rel r t a b x h))
      (λ m. subst (λ k. SameCall k r t a b) (sym (eqb-true number 214 (rw (n, m) at e))) (brk_rel r t a b x h)))

  untagged_call : (number : ℕ) (r t : CallOperands) (a b : Store) → SameOperands r t → has_tagged number r ≡ false → SameStore P T a b → (has_tagged number t ≡ false) × SameCall number r t a b
  untagged_call number r t a b o e h =
      by_test (number == 93 || number == 94 || number == 214)
      (λ n. let f : is_tagged r.a0 ≡ false = rw n at e in let u = untagged r.a0 t.a0 f o.a0 in (rw n u.1, first_calls number r t a b n u.0 h))
      (λ n. by_test (number == 63 || number == 64)
      (λ m.
      let f : (is_tagged r.a0 || is_tagged r.a1 || is_tagged r.a2) ≡ false = rw (n, m) at e in
      let g = or_parts (is_tagged r.a0 || is_tagged r.a1) (is_tagged r.a2) f in
      let i = or_parts (is_tagged r.a0) (is_tagged r.a1) g.0 in
      let x = untagged r.a0 t.a0 i.0 o.a0 in
      let y = untagged r.a1 t.a1 i.1 o.a1 in
      let z = untagged r.a2 t.a2 g.1 o.a2 in
      (rw (n, m, x.1, y.1, z.1) refl, buffer_call_rel number r t a b m x.0 y.0 z.0 h))
      (λ m. (rw (n, m) refl, ask_rel number r t a b n m h)))

  numbers_rel : (r t : CallOperands) (a b : Store) (v u : Value) → SameOperands r t → SameValue T v u → SameStore P T a b → Same (number_row s r a v) (number_row (with_code s code) t b u)
  numbers_rel r t a b (Tagged tag) u o k h = tt
  numbers_rel r t a b (Num number) u o k h =
      rw k (if_broke P T (SameMade P T) (has_tagged number r) Call (args_row s (call_of s number r a) a) (if has_tagged number t then Broke Call else args_row (with_code s code) (call_of (with_code s code) number t b) b)
      (λ e. let c = untagged_call number r t a b o e h in rw c.0 c.1))

  pub call_rel : (r t : CallOperands) (a b : Store) → SameOperands r t → SameStore P T a b → Same (call_row s r a) (call_row (with_code s code) t b)
  call_rel r t a b o h = numbers_rel r t a b r.a7 t.a7 o o.a7 h
