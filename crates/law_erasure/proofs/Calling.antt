-- System calls, tagged and plain.
use Rattle.std.proofs.Common.{◌≡◌, ℕ, zero, suc, ◌+◌, ◌-◌, ◌%◌, ◌^◌, ◌<◌, Bool, true, false, not, ◌==◌, ◌&&◌, ◌||◌, List, [], length, map, take, drop, min, Option, Some, None, is_some, if◌then◌else◌, refl, sym, ap, ap₂, subst, arith, nat_le}
use Rattle.std.specs.Option.{unwrap_or}
use Rattle.std.specs.List.{list_any}
use Rattle.std.proofs.lemmas.Bool.{and_parts, eqb-true, or_parts}
use Rattle.std.proofs.lemmas.Bool.Decides.{nat_tests}
use Rattle.law_runs.specs.Runs.{Went, Broke}
use Rattle.law_runs.specs.Simulation.{Matches}
use Rattle.sq_memory.specs.Cells.{is_in_memory, cells_from, Agree}
use Rattle.sq_memory.proofs.RangeLaws.{cells_from-agree, with_cells-agree}
use Rattle.sq_system.specs.World.{World, is_writable, are_all, is_range}
use Rattle.sq_system.specs.Calls.{effect_of}
use Rattle.sq_system.specs.declared.call.CallArgs.{CallArgs}
use Rattle.sq_system.specs.declared.call.Effect.TheVariants.{Write, Read, Fail}
use Rattle.sq_system.specs.declared.event.Event.{Event}
use Rattle.sq_system.specs.declared.event.Event.TheVariants.{Wrote, Read as WasRead, Brk as WasBrk, Failed, Asked}
use Rattle.sq_system.specs.declared.event.Halt.TheVariants.{Exit as Exited}
use Rattle.sq_machine.specs.State.{State, bytes_at, with_register, with_bytes, without_input, jump, next_pc}
use Rattle.sq_machine.specs.Calls as plain
use Rattle.sq_machine.specs.Calls.{answered, called}
use Rattle.law_follow.specs.declared.kind.Kind.TheVariants.{Fragment, Stale as StaleByte, Text}
use Rattle.law_follow.specs.Values.{Value, Num, Tagged, Cell, Byte, is_tagged, is_stale, is_fragment, byte_of}
use Rattle.law_follow.specs.Settings.{Setting, Store, Made, meets_text}
use Rattle.law_follow.specs.Accesses.{Step}
use Rattle.law_follow.specs.Calls.{CallOperands, call_of, with_buffer, with_input, effect_row, number_row, call_row}
use Rattle.law_erasure.specs.Erasure.{Erasing, IsErasing, IsErased, IsErasedCell, IsErasedStore, IsErasedSetting}
use Rattle.law_erasure.proofs.Cells.{AreErased, erased_numbers, bytes_erased, bytes_fresh, stale_kept}
use Rattle.law_erasure.proofs.Accessing.{Plainly, IsErasedMade, range_same}

number_of : (v : Value) → is_tagged v ≡ false → (x : ℕ) × (v ≡ Num x)
number_of (Num x) e = (x, refl)
number_of (Tagged tag) e = absurd (cc)

module _ (P : ℕ → Type 0) (E : Erasing) (s : Setting) (w : World) (naming : IsErasing E s) (laid : IsErasedSetting P s w) where
  abbrev Made_ : ℕ → State → Made → State → Type 0
  Made_ d b = IsErasedMade P E s w naming laid d (next_pc b) b.registers

  abbrev Same : State → Step → Plainly → Type 0
  Same b x y = Matches (Made_ 10 b) x y

  -- a0 has the answer
  answered_made : (y : ℕ) (a : Store) (b c : State) → next_pc c ≡ next_pc b → ((r : ℕ) → c.registers r ≡ b.registers r) → IsErasedStore P E a c → Made_ 10 b (record { value = Num y; store = a }) (answered (Some y) c)
  unfolding jump with_register
  answered_made y a b c e f h = record {
    pc_is = e;
    value = y;
    value_is = refl;
    registers = λ r. ap (λ z. if r == 10 && not (10 == 0) then y else z) (f r);
    store = record { memory = h.memory; stale = h.stale; input = h.input; reservation = h.reservation };
  }

  -- a call that leaves memory and input alone
  simple : (event : Event) (y : ℕ) (a : Store) (b : State) → IsErasedStore P E a b → Same b (Went (Some event) (record { value = Num y; store = a })) (Went (Some event) (answered (Some y) b))
  simple event y a b h = (refl, answered_made y a b b refl (λ r. refl) h)

  -- READ

  read_store : (x count : ℕ) (a : Store) (b : State) → IsErasedStore P E a b → IsErasedStore P E (with_input x count a) (without_input count (with_bytes x (take count b.input) b))
  unfolding with_bytes without_input
  read_store x count a b h = record {
    memory = with_cells-agree P (IsErasedCell E) (map Byte (take count a.input)) (take count b.input) a.memory b.memory x (subst (λ input. AreErased E (map Byte (take count a.input)) (take count input)) (sym h.input) (bytes_erased E (take count a.input))) h.memory;
    stale = stale_kept E P E.stale (map Byte (take count a.input)) (take count b.input) a.memory b.memory x (bytes_fresh (take count a.input)) (subst (λ input. AreErased E (map Byte (take count a.input)) (take count input)) (sym h.input) (bytes_erased E (take count a.input))) h.stale;
    input = ap (drop count) h.input;
    reservation = h.reservation;
  }

  read_made : (x count : ℕ) (a : Store) (b : State) → IsErasedStore P E a b → Same b (Went (Some (WasRead (take count a.input))) (record { value = Num count; store = with_input x count a })) (Went (Some (WasRead (take count b.input))) (answered (Some count) (without_input count (with_bytes x (take count b.input) b))))
  unfolding with_bytes without_input
  read_made x count a b h = (ap (λ input. Some (WasRead (take count input))) h.input, answered_made count (with_input x count a) b (without_input count (with_bytes x (take count b.input) b)) refl (λ r. refl) (read_store x count a b h))

  -- WRITE

  present_same : (x : ℕ) (a : Store) (b : State) → P x → IsErasedStore P E a b → is_in_memory b.memory x ≡ is_in_memory a.memory x
  present_same x a b p h = go (a.memory x) (b.memory x) (h.memory x p)
    where
      go : (o : Option Cell) (q : Option ℕ) → Agree (IsErasedCell E) o q → is_some q ≡ is_some o
      go None None k = refl
      go None (Some c) k = absurd k
      go (Some c) None k = absurd k
      go (Some c) (Some d) k = refl

  all_present : (x n : ℕ) (a : Store) (b : State) → ((i : ℕ) → i < n → P (x + i)) → IsErasedStore P E a b → are_all (is_in_memory b.memory) x n ≡ are_all (is_in_memory a.memory) x n
  all_present x zero a b p h = refl
  all_present x (suc n) a b p h = ap₂ (λ u v. u && v) (all_present x n a b (λ i l. p i (omega (arith, l))) h) (present_same (x + n) a b (p n (omega arith)) h)

  readable_same : (x n : ℕ) (a : Store) (b : State) → meets_text s x n ≡ false → IsErasedStore P E a b → is_range (is_in_memory b.memory) x n ≡ is_range (is_in_memory a.memory) x n
  readable_same x n a b m h = go (nat_le (x + n) (2 ^ 32)) refl
    where
      go : (t : Bool) → nat_le (x + n) (2 ^ 32) ≡ t → (t && are_all (is_in_memory b.memory) x n) ≡ (t && are_all (is_in_memory a.memory) x n)
      go false e = refl
      go true e = all_present x n a b (laid.outside x n (grind (arith, nat_tests)) m) h

  -- the bytes of a buffer
  buffer_same : (cs : List Cell) (bs : List ℕ) (a : Store) (b : State) (fd y : ℕ) → AreErased E cs bs → IsErasedStore P E a b → Same b (with_buffer cs (λ bytes. Went (Some (Wrote fd bytes)) (record { value = Num y; store = a }))) (Went (Some (Wrote fd bs)) (answered (Some y) b))
  buffer_same cs bs a b fd y k h = stale (list_any is_stale cs) refl
    where
      part : (t : Bool) → list_any is_fragment cs ≡ t → list_any is_stale cs ≡ false → Same b (if t then Broke Fragment else Went (Some (Wrote fd (map byte_of cs))) (record { value = Num y; store = a })) (Went (Some (Wrote fd bs)) (answered (Some y) b))
      part true e n = tt
      part false e n = let q : bs ≡ map byte_of cs = erased_numbers E cs bs n e k in (ap (λ bytes. Some (Wrote fd bytes)) q, answered_made y a b b refl (λ r. refl) h)

      stale : (t : Bool) → list_any is_stale cs ≡ t → Same b (if t then Broke StaleByte else (if list_any is_fragment cs then Broke Fragment else Went (Some (Wrote fd (map byte_of cs))) (record { value = Num y; store = a }))) (Went (Some (Wrote fd bs)) (answered (Some y) b))
      stale true e = tt
      stale false e = part (list_any is_fragment cs) refl e

  cells_same : (x n : ℕ) (a : Store) (b : State) → ((i : ℕ) → i < n → P (x + i)) → IsErasedStore P E a b → AreErased E (unwrap_or (cells_from a.memory x n) []) (bytes_at b.memory x n)
  cells_same x n a b p h = go (cells_from a.memory x n) (cells_from b.memory x n) (cells_from-agree P (IsErasedCell E) n a.memory b.memory x p h.memory)
    where
      go : (o : Option (List Cell)) (q : Option (List ℕ)) → Agree (AreErased E) o q → AreErased E (unwrap_or o []) (unwrap_or q [])
      go None None k = tt
      go None (Some bs) k = absurd k
      go (Some cs) None k = absurd k
      go (Some cs) (Some bs) k = k

  -- BY NUMBER

  -- what the plain machine finds, with these arguments
  abbrev Found : State → ℕ → ℕ → ℕ → ℕ → CallArgs
  Found b n x0 x1 x2 = record {
    number = n;
    a0 = x0;
    a1 = x1;
    a2 = x2;
    base = w.base;
    size = w.size;
    left = min (length b.input) (2 ^ 32 - 1);
    readable = is_range (is_in_memory b.memory) x1 x2;
    writable = is_range (is_writable w) x1 x2;
  }

  found_is : (b : State) → plain.call_of w b ≡ Found b (b.registers 17) (b.registers 10) (b.registers 11) (b.registers 12)
  unfolding plain.call_of
  found_is b = refl

  abbrev Regs : Value → Value → Value → Value → CallOperands
  Regs v0 v1 v2 v7 = record { a0 = v0; a1 = v1; a2 = v2; a7 = v7 }

  abbrev Goal : ℕ → Value → Value → Value → ℕ → ℕ → ℕ → Store → State → Type 0
  Goal n v0 v1 v2 x0 x1 x2 a b = Same b (number_row s (Regs v0 v1 v2 (Num n)) a (Num n)) (called (Found b n x0 x1 x2) b (effect_of (Found b n x0 x1 x2)))

  exit_93 : (v0 v1 v2 : Value) (x0 x1 x2 : ℕ) (a : Store) (b : State) → IsErased E v0 x0 → Goal 93 v0 v1 v2 x0 x1 x2 a b
  exit_93 (Tagged tag) v1 v2 x0 x1 x2 a b h = tt
  exit_93 (Num y) v1 v2 x0 x1 x2 a b h = ap Exited h

  exit_94 : (v0 v1 v2 : Value) (x0 x1 x2 : ℕ) (a : Store) (b : State) → IsErased E v0 x0 → Goal 94 v0 v1 v2 x0 x1 x2 a b
  exit_94 (Tagged tag) v1 v2 x0 x1 x2 a b h = tt
  exit_94 (Num y) v1 v2 x0 x1 x2 a b h = ap Exited h

  brk_same : (y x : ℕ) (base base' size size' : ℕ) → x ≡ y → base' ≡ base → size' ≡ size → (if nat_le base' x && nat_le x (base' + size') then x else base') ≡ (if nat_le base y && nat_le y (base + size) then y else base)
  brk_same y x base base' size size' e f g = rw (e, f, g) refl

  brk_214 : (v0 v1 v2 : Value) (x0 x1 x2 : ℕ) (a : Store) (b : State) → IsErased E v0 x0 → IsErasedStore P E a b → Goal 214 v0 v1 v2 x0 x1 x2 a b
  brk_214 (Tagged tag) v1 v2 x0 x1 x2 a b h k = tt
  brk_214 (Num y) v1 v2 x0 x1 x2 a b h k =
      let n : ℕ = if nat_le s.world.base y && nat_le y (s.world.base + s.world.size) then y else s.world.base in
      let q = brk_same y x0 s.world.base w.base s.world.size w.size h laid.base laid.size in
      subst (λ ans. Same b (Went (Some (WasBrk n)) (record { value = Num n; store = a })) (Went (Some (WasBrk ans)) (answered (Some ans) b))) (sym q) (simple (WasBrk n) n a b k)

  -- a read with good arguments
  read_inner : (x0 x1 x2 l l' : ℕ) (t t' : Bool) (call call' : CallArgs) (a : Store) (b : State) → t' ≡ t → l' ≡ l → call.number ≡ 63 → call'.number ≡ 63 → call.a1 ≡ x1 → call'.a1 ≡ x1 → IsErasedStore P E a b → Same b (effect_row call a (if not t then Fail 14 else Read (min x2 l))) (called call' b (if not t' then Fail 14 else Read (min x2 l')))
  read_inner x0 x1 x2 l l' true true call call' a b e f n n' c c' h = rw (f, c, c') (read_made x1 (min x2 l) a b h)
  read_inner x0 x1 x2 l l' false false call call' a b e f n n' c c' h = rw (n, n') (simple (Failed 63 14) ((2 ^ 32 - 14) % 2 ^ 32) a b h)
  read_inner x0 x1 x2 l l' true false call call' a b e f n n' c c' h = absurd (cc)
  read_inner x0 x1 x2 l l' false true call call' a b e f n n' c c' h = absurd (cc)

  read_numbers : (x0 x1 x2 : ℕ) (a : Store) (b : State) → IsErasedStore P E a b → Goal 63 (Num x0) (Num x1) (Num x2) x0 x1 x2 a b
  read_numbers x0 x1 x2 a b h = zero_ (x0 == 0)
    where
      tc : CallArgs
      tc = call_of s 63 (Regs (Num x0) (Num x1) (Num x2) (Num 63)) a

      fc : CallArgs
      fc = Found b 63 x0 x1 x2

      text : (t : Bool) → meets_text s x1 x2 ≡ t → Same b (if t then Broke Text else effect_row tc a (if not tc.writable then Fail 14 else Read (min x2 tc.left))) (called fc b (if not fc.writable then Fail 14 else Read (min x2 fc.left)))
      text true m = tt
      text false m =
          read_inner x0 x1 x2 tc.left fc.left tc.writable fc.writable tc fc a b (range_same P E s w naming laid x1 x2 m) (ap (λ input. min (length input) (2 ^ 32 - 1)) h.input) refl refl refl refl h

      zero_ : (t : Bool) → Same b (if (t || false) && meets_text s x1 x2 then Broke Text else effect_row tc a (if not t then Fail 9 else (if not tc.writable then Fail 14 else Read (min x2 tc.left)))) (called fc b (if not t then Fail 9 else (if not fc.writable then Fail 14 else Read (min x2 fc.left))))
      zero_ true = text (meets_text s x1 x2) refl
      zero_ false = simple (Failed 63 9) ((2 ^ 32 - 9) % 2 ^ 32) a b h

  read_63 : (v0 v1 v2 : Value) (x0 x1 x2 : ℕ) (a : Store) (b : State) → IsErased E v0 x0 → IsErased E v1 x1 → IsErased E v2 x2 → IsErasedStore P E a b → Goal 63 v0 v1 v2 x0 x1 x2 a b
  read_63 (Tagged tag) v1 v2 x0 x1 x2 a b h i j k = tt
  read_63 (Num y0) (Tagged tag) v2 x0 x1 x2 a b h i j k = tt
  read_63 (Num y0) (Num y1) (Tagged tag) x0 x1 x2 a b h i j k = tt
  read_63 (Num y0) (Num y1) (Num y2) x0 x1 x2 a b h i j k =
      subst (λ x. Goal 63 (Num y0) (Num y1) (Num y2) x x1 x2 a b) (sym h)
      (subst (λ x. Goal 63 (Num y0) (Num y1) (Num y2) y0 x x2 a b) (sym i)
      (subst (λ x. Goal 63 (Num y0) (Num y1) (Num y2) y0 y1 x a b) (sym j) (read_numbers y0 y1 y2 a b k)))

  -- a write with good arguments
  write_inner : (x0 x1 x2 : ℕ) (t t' : Bool) (call call' : CallArgs) (a : Store) (b : State) → t' ≡ t → ((i : ℕ) → t ≡ true → i < x2 → P (x1 + i)) → call.number ≡ 64 → call'.number ≡ 64 → call.a1 ≡ x1 → call'.a1 ≡ x1 → call.a2 ≡ x2 → call'.a2 ≡ x2 → IsErasedStore P E a b → Same b (effect_row call a (if not t then Fail 14 else Write x0)) (called call' b (if not t' then Fail 14 else Write x0))
  write_inner x0 x1 x2 true true call call' a b e p n n' c c' d d' h = rw (c, c', d, d') (buffer_same (unwrap_or (cells_from a.memory x1 x2) []) (bytes_at b.memory x1 x2) a b x0 x2 (cells_same x1 x2 a b (λ i l. p i refl l) h) h)
  write_inner x0 x1 x2 false false call call' a b e p n n' c c' d d' h = rw (n, n') (simple (Failed 64 14) ((2 ^ 32 - 14) % 2 ^ 32) a b h)
  write_inner x0 x1 x2 true false call call' a b e p n n' c c' d d' h = absurd (cc)
  write_inner x0 x1 x2 false true call call' a b e p n n' c c' d d' h = absurd (cc)

  write_numbers : (x0 x1 x2 : ℕ) (a : Store) (b : State) → IsErasedStore P E a b → Goal 64 (Num x0) (Num x1) (Num x2) x0 x1 x2 a b
  write_numbers x0 x1 x2 a b h = known (x0 == 1 || x0 == 2)
    where
      tc : CallArgs
      tc = call_of s 64 (Regs (Num x0) (Num x1) (Num x2) (Num 64)) a

      fc : CallArgs
      fc = Found b 64 x0 x1 x2

      inside : meets_text s x1 x2 ≡ false → (i : ℕ) → tc.readable ≡ true → i < x2 → P (x1 + i)
      inside m i e l = let f = (and_parts (nat_le (x1 + x2) (2 ^ 32)) (are_all (is_in_memory a.memory) x1 x2) e).0 in laid.outside x1 x2 (grind (arith, nat_tests)) m i l

      text : (t : Bool) → meets_text s x1 x2 ≡ t → Same b (if t then Broke Text else effect_row tc a (if not tc.readable then Fail 14 else Write x0)) (called fc b (if not fc.readable then Fail 14 else Write x0))
      text true m = tt
      text false m = write_inner x0 x1 x2 tc.readable fc.readable tc fc a b (readable_same x1 x2 a b m h) (inside m) refl refl refl refl refl refl h

      known : (t : Bool) → Same b (if t && meets_text s x1 x2 then Broke Text else effect_row tc a (if not t then Fail 9 else (if not tc.readable then Fail 14 else Write x0))) (called fc b (if not t then Fail 9 else (if not fc.readable then Fail 14 else Write x0)))
      known true = text (meets_text s x1 x2) refl
      known false = simple (Failed 64 9) ((2 ^ 32 - 9) % 2 ^ 32) a b h

  write_64 : (v0 v1 v2 : Value) (x0 x1 x2 : ℕ) (a : Store) (b : State) → IsErased E v0 x0 → IsErased E v1 x1 → IsErased E v2 x2 → IsErasedStore P E a b → Goal 64 v0 v1 v2 x0 x1 x2 a b
  write_64 (Tagged tag) v1 v2 x0 x1 x2 a b h i j k = tt
  write_64 (Num y0) (Tagged tag) v2 x0 x1 x2 a b h i j k = tt
  write_64 (Num y0) (Num y1) (Tagged tag) x0 x1 x2 a b h i j k = tt
  write_64 (Num y0) (Num y1) (Num y2) x0 x1 x2 a b h i j k =
      subst (λ x. Goal 64 (Num y0) (Num y1) (Num y2) x x1 x2 a b) (sym h)
      (subst (λ x. Goal 64 (Num y0) (Num y1) (Num y2) y0 x x2 a b) (sym i)
      (subst (λ x. Goal 64 (Num y0) (Num y1) (Num y2) y0 y1 x a b) (sym j) (write_numbers y0 y1 y2 a b k)))

  asked : (n x0 x1 x2 : ℕ) (v0 v1 v2 : Value) (a : Store) (b : State) → (n == 93) ≡ false → (n == 94) ≡ false → (n == 63) ≡ false → (n == 64) ≡ false → (n == 214) ≡ false → IsErasedStore P E a b → Goal n v0 v1 v2 x0 x1 x2 a b
  asked n x0 x1 x2 v0 v1 v2 a b p q r t u h = rw (p, q, r, t, u) (simple (Asked n) ((2 ^ 32 - 38) % 2 ^ 32) a b h)

  by_number : (n x0 x1 x2 : ℕ) (v0 v1 v2 : Value) (a : Store) (b : State) → IsErased E v0 x0 → IsErased E v1 x1 → IsErased E v2 x2 → IsErasedStore P E a b → Goal n v0 v1 v2 x0 x1 x2 a b
  by_number n x0 x1 x2 v0 v1 v2 a b h i j k = is_93 (n == 93) refl
    where
      at : (m : ℕ) → (n == m) ≡ true → Goal m v0 v1 v2 x0 x1 x2 a b → Goal n v0 v1 v2 x0 x1 x2 a b
      at m e g = subst (λ n. Goal n v0 v1 v2 x0 x1 x2 a b) (sym (eqb-true n m e)) g

      is_214 : (t : Bool) → (n == 214) ≡ t → (n == 93) ≡ false → (n == 94) ≡ false → (n == 63) ≡ false → (n == 64) ≡ false → Goal n v0 v1 v2 x0 x1 x2 a b
      is_214 true e p q r u = at 214 e (brk_214 v0 v1 v2 x0 x1 x2 a b h k)
      is_214 false e p q r u = asked n x0 x1 x2 v0 v1 v2 a b p q r u e k

      is_64 : (t : Bool) → (n == 64) ≡ t → (n == 93) ≡ false → (n == 94) ≡ false → (n == 63) ≡ false → Goal n v0 v1 v2 x0 x1 x2 a b
      is_64 true e p q r = at 64 e (write_64 v0 v1 v2 x0 x1 x2 a b h i j k)
      is_64 false e p q r = is_214 (n == 214) refl p q r e

      is_63 : (t : Bool) → (n == 63) ≡ t → (n == 93) ≡ false → (n == 94) ≡ false → Goal n v0 v1 v2 x0 x1 x2 a b
      is_63 true e p q = at 63 e (read_63 v0 v1 v2 x0 x1 x2 a b h i j k)
      is_63 false e p q = is_64 (n == 64) refl p q e

      is_94 : (t : Bool) → (n == 94) ≡ t → (n == 93) ≡ false → Goal n v0 v1 v2 x0 x1 x2 a b
      is_94 true e p = at 94 e (exit_94 v0 v1 v2 x0 x1 x2 a b h)
      is_94 false e p = is_63 (n == 63) refl p e

      is_93 : (t : Bool) → (n == 93) ≡ t → Goal n v0 v1 v2 x0 x1 x2 a b
      is_93 true e = at 93 e (exit_93 v0 v1 v2 x0 x1 x2 a b h)
      is_93 false e = is_94 (n == 94) refl e

  -- ECALL
  pub call_erased : (v0 v1 v2 v7 : Value) (a : Store) (b : State) → IsErased E v0 (b.registers 10) → IsErased E v1 (b.registers 11) → IsErased E v2 (b.registers 12) → IsErased E v7 (b.registers 17) → IsErasedStore P E a b → Same b (call_row s (Regs v0 v1 v2 v7) a) (plain.call_row w b)
  call_erased v0 v1 v2 (Tagged tag) a b h i j n k = tt
  call_erased v0 v1 v2 (Num m) a b h i j n k =
      subst (λ call. Same b (call_row s (Regs v0 v1 v2 (Num m)) a) (called call b (effect_of call))) (sym (found_is b))
      (subst (λ z. Same b (call_row s (Regs v0 v1 v2 (Num m)) a) (called (Found b z (b.registers 10) (b.registers 11) (b.registers 12)) b (effect_of (Found b z (b.registers 10) (b.registers 11) (b.registers 12))))) (sym n)
      (by_number m (b.registers 10) (b.registers 11) (b.registers 12) v0 v1 v2 a b h i j k))
