-- No step of a tagged run changes text.
use Rattle.std.proofs.Common.{◌≡◌, ◌⊎◌, inl, inr, ℕ, zero, suc, ◌+◌, ◌^◌, ◌<◌, ◌≤◌, Bool, true, false, not, ◌==◌, ◌&&◌, ◌||◌, List, [], ◌∷◌, length, map, take, min, Option, Some, None, if◌then◌else◌, refl, sym, ap, ◌∙◌, subst, arith, nat_lt, nat_le, max}
use Rattle.std.specs.Option.{unwrap_or}
use Rattle.std.specs.List.{list_any}
use Rattle.std.proofs.lemmas.Bool.{and_parts, eqb-true}
use Rattle.std.proofs.lemmas.Bool.Decides.{nat_tests}
use Rattle.byteorder.specs.Endian.{little_bytes}
use Rattle.sq_isa.specs.Words.{wrapped, unsigned}
use Rattle.sq_isa.specs.Accesses.{load_width, store_width, extended, bytes_number, is_aligned, is_reserved}
use Rattle.sq_isa.specs.declared.instructions.Insn.{Insn}
use Rattle.sq_isa.specs.declared.instructions.Insn.TheVariants.{Lui, Load, Store as StoreInsn, OpImm, Op, Fence, Ecall, Atomic}
use Rattle.sq_isa.specs.declared.instructions.ImmOp.TheVariants.{Addi}
use Rattle.sq_isa.specs.declared.instructions.LoadKind.{LoadKind}
use Rattle.sq_isa.specs.declared.instructions.LoadKind.TheVariants.{Lw}
use Rattle.sq_isa.specs.declared.instructions.StoreKind.{StoreKind}
use Rattle.sq_isa.specs.declared.instructions.StoreKind.TheVariants.{Sb, Sh, Sw}
use Rattle.sq_isa.specs.declared.instructions.AtomicOp.{AtomicOp}
use Rattle.sq_isa.specs.declared.instructions.AtomicOp.TheVariants.{Lr, Sc, Swap, Add, Xor, And, Or, Min, Max, MinU, MaxU}
use Rattle.law_runs.specs.Runs.{Went, Ended, Broke}
use Rattle.sq_memory.specs.Cells.{cells_from, with_cells}
use Rattle.sq_memory.proofs.RangeLaws.{with_cells-apart}
use Rattle.sq_system.specs.World.{is_writable, are_all, is_range}
use Rattle.sq_system.specs.declared.call.CallArgs.{CallArgs}
use Rattle.sq_system.specs.declared.call.Effect.TheVariants.{Write, Read, Fail}
use Rattle.sq_system.specs.declared.event.Event.TheVariants.{Wrote}
use Rattle.sq_system.specs.declared.event.Halt.{Halt}
use Rattle.sq_system.specs.declared.event.Halt.TheVariants.{Store as StoreFault}
use Rattle.sq_graph.specs.Lines.{AddressHalf, Plain, Upper, Lower}
use Rattle.law_follow.specs.declared.kind.Kind.{Kind}
use Rattle.law_follow.specs.declared.kind.Kind.TheVariants.{Arithmetic, Half, Fragment, Stale as StaleByte, Text}
use Rattle.law_follow.specs.Values.{Tag, Value, Num, Tagged, Cell, Byte, is_tagged, is_stale, is_fragment, byte_of, cells_of}
use Rattle.law_follow.specs.Settings.{Setting, Store, is_in_text, meets_text, may_store}
use Rattle.law_follow.specs.Arithmetic.{imm_value, op_value, atomic_result, is_upper_half}
use Rattle.law_follow.specs.Accesses.{Step, gives, gives_or_breaks, aligned_cells, stored, tag_in, with_tag_or_number, with_loaded, load_cells, load_at, is_word, store_at, lr_cells, sc_step, update, amo_cells, atomic_row, atomic_at}
use Rattle.law_follow.specs.Calls.{CallOperands, call_of, with_buffer, effect_row, number_row, call_row}
use Rattle.law_follow.specs.Rows.{Operands, at_number, address_value, row_of}

module _ (s : Setting) where
  -- text is as it was
  abbrev pub KeepsText : Store → Store → Type 0
  KeepsText a b = (x : ℕ) → is_in_text s x ≡ true → b.memory x ≡ a.memory x

  -- behind the step
  abbrev pub Keeps : Store → Step → Type 0
  Keeps a (Went e made) = KeepsText a made.store
  Keeps a (Ended h) = Unit {0}
  Keeps a (Broke k) = Unit {0}

  same_text : (a : Store) → KeepsText a a
  same_text a = λ x e. refl

  -- a range outside text, up to 2^32, is apart from each address in text
  apart : (x n y : ℕ) → x + n ≤ 2 ^ 32 → meets_text s x n ≡ false → is_in_text s y ≡ true → (y < x) ⊎ (x + n ≤ y)
  apart x n y small m e = go (nat_lt y x) refl (nat_le (x + n) y) refl
    where
      go : (b : Bool) → nat_lt y x ≡ b → (c : Bool) → nat_le (x + n) y ≡ c → (y < x) ⊎ (x + n ≤ y)
      go true f c g = inl (grind (arith, nat_tests))
      go false f true g = inr (grind (arith, nat_tests))
      go false f false g =
          let p = and_parts (nat_le s.lo y) (nat_lt y s.hi) e in
          let lo : s.lo ≤ y = let h = p.0 in grind (arith, nat_tests) in
          let hi : y < s.hi = let h = p.1 in grind (arith, nat_tests) in
          let from : x ≤ y = grind (arith, nat_tests) in
          let to : y < x + n = grind (arith, nat_tests) in
          let a : nat_le (x + n) (2 ^ 32) ≡ true = grind (arith, nat_tests) in
          let b : nat_lt (max s.lo x) (min s.hi (x + n)) ≡ true = let k : max s.lo x < min s.hi (x + n) = omega arith in grind (arith, nat_tests) in
          absurd (let k : meets_text s x n ≡ true = rw (a, b) refl in let l : true ≡ false = sym k ∙ m in cc)

  range_fits : (test : ℕ → Bool) (x n : ℕ) → is_range test x n ≡ true → x + n ≤ 2 ^ 32
  range_fits test x n e = let f = (and_parts (nat_le (x + n) (2 ^ 32)) (are_all test x n) e).0 in grind (arith, nat_tests)

  cells_kept : (cs : List Cell) (x n : ℕ) (a : Store) → length cs ≡ n → x + n ≤ 2 ^ 32 → meets_text s x n ≡ false → (y : ℕ) → is_in_text s y ≡ true → with_cells a.memory x cs y ≡ a.memory y
  cells_kept cs x n a l small m y e = with_cells-apart cs a.memory x y (subst (λ k. (y < x) ⊎ (x + k ≤ y)) (sym l) (apart x n y small m e))

  -- cells that are stored
  width_of : (width : ℕ) (v : Value) → (is_tagged v ≡ true → width ≡ 4) → ((y : ℕ) → length (map Byte (little_bytes width y)) ≡ width) → length (cells_of width v) ≡ width
  width_of width (Num x) t f = f x
  width_of width (Tagged tag) t f = sym (t refl)

  four : (y : ℕ) → length (map Byte (little_bytes 4 y)) ≡ 4
  four y = refl

  store_width_of : (kind : StoreKind) (y : ℕ) → length (map Byte (little_bytes (store_width kind) y)) ≡ store_width kind
  store_width_of Sb y = refl
  store_width_of Sh y = refl
  store_width_of Sw y = refl

  stored_kept : (x width : ℕ) (v : Value) (a : Store) → (is_tagged v ≡ true → width ≡ 4) → ((y : ℕ) → length (map Byte (little_bytes width y)) ≡ width) → may_store s x width ≡ true → meets_text s x width ≡ false → KeepsText a (stored x width v a)
  stored_kept x width v a t f may m = cells_kept (cells_of width v) x width a (width_of width v t f) (range_fits (is_writable s.world) x width (and_parts (is_aligned x width) (is_range (is_writable s.world) x width) may).1) m

  -- what is loaded
  loaded_kept : (kind : LoadKind) (cs : List Cell) (a : Store) (go : Value → Step) → ((v : Value) → Keeps a (go v)) → Keeps a (with_loaded kind cs go)
  loaded_kept kind cs a go h = stale (list_any is_stale cs)
    where
      number : (b : Bool) → Keeps a (if b then Broke Fragment else go (Num (extended kind (bytes_number (map byte_of cs)))))
      number true = tt
      number false = h (Num (extended kind (bytes_number (map byte_of cs))))

      tag : (o : Option Tag) → Keeps a (with_tag_or_number kind cs go o)
      tag None = number (list_any is_fragment cs)
      tag (Some t) = h (Tagged t)

      stale : (b : Bool) → Keeps a (if b then Broke StaleByte else with_tag_or_number kind cs go (tag_in kind cs))
      stale true = tt
      stale false = tag (tag_in kind cs)

  unless : (b : Bool) (k : Kind) (x : Step) (a : Store) → (b ≡ false → Keeps a x) → Keeps a (if b then Broke k else x)
  unless true k x a h = tt
  unless false k x a h = h refl

  where_may : (b : Bool) (x : Step) (h : Halt) (a : Store) → (b ≡ true → Keeps a x) → Keeps a (if b then x else Ended h)
  where_may true x h a f = f refl
  where_may false x h a f = tt

  load_kept : (kind : LoadKind) (x : ℕ) (a : Store) → Keeps a (load_at s kind x a)
  load_kept kind x a = unless (meets_text s x (load_width kind)) Text (load_cells kind x a (aligned_cells a x (load_width kind))) a (λ _. go (aligned_cells a x (load_width kind)))
    where
      go : (o : Option (List Cell)) → Keeps a (load_cells kind x a o)
      go None = tt
      go (Some cs) = loaded_kept kind cs a (λ v. gives v a) (λ v. same_text a)

  word_kind : (kind : StoreKind) (v : Value) → (is_tagged v && not (is_word kind)) ≡ false → is_tagged v ≡ true → store_width kind ≡ 4
  word_kind Sw v e t = refl
  word_kind Sb v e t = absurd (let f : (is_tagged v && true) ≡ false = e in let g : (true && true) ≡ false = subst (λ b. (b && true) ≡ false) t f in cc)
  word_kind Sh v e t = absurd (let f : (is_tagged v && true) ≡ false = e in let g : (true && true) ≡ false = subst (λ b. (b && true) ≡ false) t f in cc)

  store_kept : (kind : StoreKind) (v : Value) (x : ℕ) (a : Store) → Keeps a (store_at s kind v x a)
  store_kept kind v x a =
      unless (is_tagged v && not (is_word kind)) Fragment (if meets_text s x (store_width kind) then Broke Text else (if may_store s x (store_width kind) then gives (Num 0) (stored x (store_width kind) v a) else Ended (StoreFault x))) a
      (λ f. unless (meets_text s x (store_width kind)) Text (if may_store s x (store_width kind) then gives (Num 0) (stored x (store_width kind) v a) else Ended (StoreFault x)) a
      (λ m. where_may (may_store s x (store_width kind)) (gives (Num 0) (stored x (store_width kind) v a)) (StoreFault x) a
      (λ may. stored_kept x (store_width kind) v a (word_kind kind v f) (store_width_of kind) may m)))

  sc_kept : (x : ℕ) (v : Value) (a : Store) (t : Bool) → may_store s x 4 ≡ true → meets_text s x 4 ≡ false → Keeps a (sc_step x v a t)
  sc_kept x v a true may m = stored_kept x 4 v a (λ _. refl) four may m
  sc_kept x v a false may m = same_text a

  update_kept : (x : ℕ) (old : Value) (a : Store) (o : Option Value) → may_store s x 4 ≡ true → meets_text s x 4 ≡ false → Keeps a (update x old a o)
  update_kept x old a None may m = tt
  update_kept x old a (Some new) may m = stored_kept x 4 new a (λ _. refl) four may m

  amo_kept : (op : AtomicOp) (x : ℕ) (v : Value) (a : Store) → meets_text s x 4 ≡ false → Keeps a (if may_store s x 4 then amo_cells op x v a (aligned_cells a x 4) else Ended (StoreFault x))
  amo_kept op x v a m = where_may (may_store s x 4) (amo_cells op x v a (aligned_cells a x 4)) (StoreFault x) a (λ may. go may (aligned_cells a x 4))
    where
      go : may_store s x 4 ≡ true → (o : Option (List Cell)) → Keeps a (amo_cells op x v a o)
      go may None = tt
      go may (Some cs) = loaded_kept Lw cs a (λ old. update x old a (atomic_result op old v)) (λ old. update_kept x old a (atomic_result op old v) may m)

  atomic_inner : (op : AtomicOp) (x : ℕ) (v : Value) (a : Store) → meets_text s x 4 ≡ false → Keeps a (atomic_row s op x v a)
  atomic_inner Lr x v a m = go (aligned_cells a x 4)
    where
      go : (o : Option (List Cell)) → Keeps a (lr_cells x a o)
      go None = tt
      go (Some cs) = loaded_kept Lw cs a (λ v. gives v (record a { reservation = Some x })) (λ v. same_text a)
  atomic_inner Sc x v a m = where_may (may_store s x 4) (sc_step x v a (is_reserved x a.reservation)) (StoreFault x) a (λ may. sc_kept x v a (is_reserved x a.reservation) may m)
  atomic_inner Swap x v a m = amo_kept Swap x v a m
  atomic_inner Add x v a m = amo_kept Add x v a m
  atomic_inner Xor x v a m = amo_kept Xor x v a m
  atomic_inner And x v a m = amo_kept And x v a m
  atomic_inner Or x v a m = amo_kept Or x v a m
  atomic_inner Min x v a m = amo_kept Min x v a m
  atomic_inner Max x v a m = amo_kept Max x v a m
  atomic_inner MinU x v a m = amo_kept MinU x v a m
  atomic_inner MaxU x v a m = amo_kept MaxU x v a m

  atomic_kept : (op : AtomicOp) (x : ℕ) (v : Value) (a : Store) → Keeps a (atomic_at s op x v a)
  atomic_kept op x v a = unless (meets_text s x 4) Text (atomic_row s op x v a) a (λ m. atomic_inner op x v a m)

  -- SYSTEM CALLS

  buffer_kept : (cs : List Cell) (a : Store) (go : List ℕ → Step) → ((bs : List ℕ) → Keeps a (go bs)) → Keeps a (with_buffer cs go)
  buffer_kept cs a go h =
      unless (list_any is_stale cs) StaleByte (if list_any is_fragment cs then Broke Fragment else go (map byte_of cs)) a
      (λ _. unless (list_any is_fragment cs) Fragment (go (map byte_of cs)) a (λ _. h (map byte_of cs)))

  abbrev Regs : Value → Value → Value → Value → CallOperands
  Regs v0 v1 v2 v7 = record { a0 = v0; a1 = v1; a2 = v2; a7 = v7 }

  abbrev CallKeeps : ℕ → Value → Value → Value → Store → Type 0
  CallKeeps n v0 v1 v2 a = Keeps a (number_row s (Regs v0 v1 v2 (Num n)) a (Num n))

  length_map : (bs : List ℕ) → length (map Byte bs) ≡ length bs
  length_map [] = refl
  length_map (b ∷ bs) = ap suc (length_map bs)

  taken_length : (n : ℕ) (bs : List ℕ) → length (take n bs) ≤ n
  taken_length zero bs = omega arith
  taken_length (suc n) [] = omega arith
  taken_length (suc n) (b ∷ bs) = let h = taken_length n bs in omega (arith, h)

  -- the input that is read
  input_kept : (x n l : ℕ) (a : Store) → x + n ≤ 2 ^ 32 → meets_text s x n ≡ false → (y : ℕ) → is_in_text s y ≡ true → with_cells a.memory x (map Byte (take (min n l) a.input)) y ≡ a.memory y
  input_kept x n l a small m y e =
      with_cells-apart (map Byte (take (min n l) a.input)) a.memory x y (go (apart x n y small m e))
    where
      less : length (map Byte (take (min n l) a.input)) ≤ n
      less = let h = taken_length (min n l) a.input in let k = length_map (take (min n l) a.input) in omega (arith, h, k)

      go : (y < x) ⊎ (x + n ≤ y) → (y < x) ⊎ (x + length (map Byte (take (min n l) a.input)) ≤ y)
      go (inl f) = inl f
      go (inr f) = inr (omega (arith, f, less))

  read_inner : (x n l : ℕ) (t : Bool) (call : CallArgs) (a : Store) → call.a1 ≡ x → (t ≡ true → x + n ≤ 2 ^ 32) → meets_text s x n ≡ false → Keeps a (effect_row call a (if not t then Fail 14 else Read (min n l)))
  read_inner x n l false call a c small m = same_text a
  read_inner x n l true call a c small m = rw c (input_kept x n l a (small refl) m)

  read_numbers : (x0 x1 x2 : ℕ) (a : Store) → CallKeeps 63 (Num x0) (Num x1) (Num x2) a
  read_numbers x0 x1 x2 a = zero_ (x0 == 0)
    where
      tc : CallArgs
      tc = call_of s 63 (Regs (Num x0) (Num x1) (Num x2) (Num 63)) a

      zero_ : (t : Bool) → Keeps a (if (t || false) && meets_text s x1 x2 then Broke Text else effect_row tc a (if not t then Fail 9 else (if not tc.writable then Fail 14 else Read (min x2 tc.left))))
      zero_ false = same_text a
      zero_ true = unless (meets_text s x1 x2) Text (effect_row tc a (if not tc.writable then Fail 14 else Read (min x2 tc.left))) a (λ m. read_inner x1 x2 tc.left tc.writable tc a refl (range_fits (is_writable s.world) x1 x2) m)

  read_63 : (v0 v1 v2 : Value) (a : Store) → CallKeeps 63 v0 v1 v2 a
  read_63 (Tagged tag) v1 v2 a = tt
  read_63 (Num y0) (Tagged tag) v2 a = tt
  read_63 (Num y0) (Num y1) (Tagged tag) a = tt
  read_63 (Num y0) (Num y1) (Num y2) a = read_numbers y0 y1 y2 a

  write_numbers : (x0 x1 x2 : ℕ) (a : Store) → CallKeeps 64 (Num x0) (Num x1) (Num x2) a
  write_numbers x0 x1 x2 a = known (x0 == 1 || x0 == 2)
    where
      tc : CallArgs
      tc = call_of s 64 (Regs (Num x0) (Num x1) (Num x2) (Num 64)) a

      inner : (t : Bool) → Keeps a (effect_row tc a (if not t then Fail 14 else Write x0))
      inner false = same_text a
      inner true = buffer_kept (unwrap_or (cells_from a.memory x1 x2) []) a (λ bytes. Went (Some (Wrote x0 bytes)) (record { value = Num x2; store = a })) (λ bs. same_text a)

      known : (t : Bool) → Keeps a (if t && meets_text s x1 x2 then Broke Text else effect_row tc a (if not t then Fail 9 else (if not tc.readable then Fail 14 else Write x0)))
      known false = same_text a
      known true = unless (meets_text s x1 x2) Text (effect_row tc a (if not tc.readable then Fail 14 else Write x0)) a (λ m. inner tc.readable)

  write_64 : (v0 v1 v2 : Value) (a : Store) → CallKeeps 64 v0 v1 v2 a
  write_64 (Tagged tag) v1 v2 a = tt
  write_64 (Num y0) (Tagged tag) v2 a = tt
  write_64 (Num y0) (Num y1) (Tagged tag) a = tt
  write_64 (Num y0) (Num y1) (Num y2) a = write_numbers y0 y1 y2 a

  exit_93 : (v0 v1 v2 : Value) (a : Store) → CallKeeps 93 v0 v1 v2 a
  exit_93 (Tagged tag) v1 v2 a = tt
  exit_93 (Num y) v1 v2 a = tt

  exit_94 : (v0 v1 v2 : Value) (a : Store) → CallKeeps 94 v0 v1 v2 a
  exit_94 (Tagged tag) v1 v2 a = tt
  exit_94 (Num y) v1 v2 a = tt

  brk_214 : (v0 v1 v2 : Value) (a : Store) → CallKeeps 214 v0 v1 v2 a
  brk_214 (Tagged tag) v1 v2 a = tt
  brk_214 (Num y) v1 v2 a = same_text a

  asked : (n : ℕ) (v0 v1 v2 : Value) (a : Store) → (n == 93) ≡ false → (n == 94) ≡ false → (n == 63) ≡ false → (n == 64) ≡ false → (n == 214) ≡ false → CallKeeps n v0 v1 v2 a
  asked n v0 v1 v2 a p q r t u = rw (p, q, r, t, u) (same_text a)

  by_number : (n : ℕ) (v0 v1 v2 : Value) (a : Store) → CallKeeps n v0 v1 v2 a
  by_number n v0 v1 v2 a = is_93 (n == 93) refl
    where
      at : (m : ℕ) → (n == m) ≡ true → CallKeeps m v0 v1 v2 a → CallKeeps n v0 v1 v2 a
      at m e g = subst (λ n. CallKeeps n v0 v1 v2 a) (sym (eqb-true n m e)) g

      is_214 : (t : Bool) → (n == 214) ≡ t → (n == 93) ≡ false → (n == 94) ≡ false → (n == 63) ≡ false → (n == 64) ≡ false → CallKeeps n v0 v1 v2 a
      is_214 true e p q r u = at 214 e (brk_214 v0 v1 v2 a)
      is_214 false e p q r u = asked n v0 v1 v2 a p q r u e

      is_64 : (t : Bool) → (n == 64) ≡ t → (n == 93) ≡ false → (n == 94) ≡ false → (n == 63) ≡ false → CallKeeps n v0 v1 v2 a
      is_64 true e p q r = at 64 e (write_64 v0 v1 v2 a)
      is_64 false e p q r = is_214 (n == 214) refl p q r e

      is_63 : (t : Bool) → (n == 63) ≡ t → (n == 93) ≡ false → (n == 94) ≡ false → CallKeeps n v0 v1 v2 a
      is_63 true e p q = at 63 e (read_63 v0 v1 v2 a)
      is_63 false e p q = is_64 (n == 64) refl p q e

      is_94 : (t : Bool) → (n == 94) ≡ t → (n == 93) ≡ false → CallKeeps n v0 v1 v2 a
      is_94 true e p = at 94 e (exit_94 v0 v1 v2 a)
      is_94 false e p = is_63 (n == 63) refl p e

      is_93 : (t : Bool) → (n == 93) ≡ t → CallKeeps n v0 v1 v2 a
      is_93 true e = at 93 e (exit_93 v0 v1 v2 a)
      is_93 false e = is_94 (n == 94) refl e

  call_kept : (v0 v1 v2 v7 : Value) (a : Store) → Keeps a (call_row s (Regs v0 v1 v2 v7) a)
  call_kept v0 v1 v2 (Tagged tag) a = tt
  call_kept v0 v1 v2 (Num n) a = by_number n v0 v1 v2 a

  -- ROWS

  result_kept : (o : Option Value) (a : Store) → Keeps a (gives_or_breaks Arithmetic o a)
  result_kept None a = tt
  result_kept (Some v) a = same_text a

  number_kept : (v : Value) (a : Store) (f : ℕ → Step) → ((x : ℕ) → Keeps a (f x)) → Keeps a (at_number v f)
  number_kept (Num x) a f h = h x
  number_kept (Tagged tag) a f h = tt

  half_kept : (b : Bool) (x : Step) (a : Store) → Keeps a x → Keeps a (if b then x else Broke Half)
  half_kept true x a h = h
  half_kept false x a h = tt

  plain_kept : (insn : Insn) (v : Operands) (a : Store) → Keeps a (row_of s Plain insn v a)
  plain_kept (Lui rd upper) v a = same_text a
  plain_kept (OpImm op rd rs imm) v a = result_kept (imm_value s op imm (v 0)) a
  plain_kept (Op op rd x y) v a = result_kept (op_value s op x (v 0) (v 1)) a
  plain_kept (Load kind rd rs imm) v a = number_kept (v 0) a (λ x. load_at s kind (wrapped (x + unsigned imm)) a) (λ x. load_kept kind (wrapped (x + unsigned imm)) a)
  plain_kept (StoreInsn kind rs src imm) v a = number_kept (v 0) a (λ x. store_at s kind (v 1) (wrapped (x + unsigned imm)) a) (λ x. store_kept kind (v 1) (wrapped (x + unsigned imm)) a)
  plain_kept (Fence word) v a = same_text a
  plain_kept Ecall v a = call_kept (v 0) (v 1) (v 2) (v 3) a
  plain_kept (Atomic op order rd rs src) v a = number_kept (v 0) a (λ x. atomic_at s op x (v 1) a) (λ x. atomic_kept op x (v 1) a)
  plain_kept insn v a = tt

  lower_kept : (n : ℕ) (insn : Insn) (v : Operands) (a : Store) → Keeps a (row_of s (Lower n) insn v a)
  lower_kept n (OpImm Addi rd rs imm) v a = half_kept (is_upper_half n imm (v 0)) (gives (address_value s n) a) a (same_text a)
  lower_kept n (Load kind rd rs imm) v a = half_kept (is_upper_half n imm (v 0)) (load_at s kind n a) a (load_kept kind n a)
  lower_kept n (StoreInsn kind rs src imm) v a = half_kept (is_upper_half n imm (v 0)) (store_at s kind (v 1) n a) a (store_kept kind (v 1) n a)
  lower_kept n insn v a = tt

  -- no row changes text
  pub row_kept : (half : AddressHalf) (insn : Insn) (v : Operands) (a : Store) → Keeps a (row_of s half insn v a)
  row_kept Plain insn v a = plain_kept insn v a
  row_kept (Upper n word) insn v a = same_text a
  row_kept (Lower n) insn v a = lower_kept n insn v a
