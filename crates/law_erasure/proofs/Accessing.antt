-- Loads, stores and atomic operations, tagged and plain.
use Rattle.std.proofs.Common.{◌≡◌, ℕ, zero, suc, ◌+◌, ◌%◌, ◌^◌, ◌<◌, ◌≤◌, Bool, true, false, not, ◌==◌, ◌&&◌, List, length, map, Option, Some, None, if◌then◌else◌, refl, sym, ap, ap₂, ◌∙◌, subst, arith, nat_le}
use Rattle.std.specs.Option.{option_map}
use Rattle.std.specs.List.{list_any}
use Rattle.std.proofs.lemmas.Bool.{and_parts, eqb-true}
use Rattle.std.proofs.lemmas.Bool.Decides.{nat_tests}
use Rattle.byteorder.specs.Endian.{little_bytes}
use Rattle.sq_isa.specs.Accesses.{load_width, store_width, extended, bytes_number, is_aligned, is_reserved}
use Rattle.sq_isa.specs.Registers.{written}
use Rattle.sq_isa.specs.Atomics.{atomic_value_of}
use Rattle.sq_isa.specs.declared.instructions.LoadKind.{LoadKind}
use Rattle.sq_isa.specs.declared.instructions.LoadKind.TheVariants.{Lb, Lh, Lw, Lbu, Lhu}
use Rattle.sq_isa.specs.declared.instructions.StoreKind.{StoreKind}
use Rattle.sq_isa.specs.declared.instructions.StoreKind.TheVariants.{Sb, Sh, Sw}
use Rattle.sq_isa.specs.declared.instructions.AtomicOp.{AtomicOp}
use Rattle.sq_isa.specs.declared.instructions.AtomicOp.TheVariants.{Lr, Sc, Swap, Add, Xor, And, Or, Min, Max, MinU, MaxU}
use Rattle.law_runs.specs.Runs.{Next, Went, Ended, Broke}
use Rattle.law_runs.specs.Simulation.{Matches}
use Rattle.sq_memory.specs.Cells.{cells_from, Agree}
use Rattle.sq_memory.proofs.RangeLaws.{cells_from-agree, cells_from_some, with_cells-agree}
use Rattle.sq_system.specs.World.{World, is_writable, are_all, is_range}
use Rattle.sq_system.specs.declared.event.Event.{Event}
use Rattle.sq_system.specs.declared.event.Halt.{Halt}
use Rattle.sq_system.specs.declared.event.Halt.TheVariants.{Store as StoreFault}
use Rattle.sq_machine.specs.State.{State, number_at, aligned_number, with_register, with_bytes, with_reservation, jump, next_pc, advance, finish}
use Rattle.sq_machine.specs.Rows.{loaded, load_step, lr_step, sc_step, amo_step}
use Rattle.sq_machine.specs.Rows as plain
use Rattle.law_follow.specs.declared.kind.Kind.TheVariants.{Fragment, Stale as StaleByte, Text}
use Rattle.law_follow.specs.Values.{Tag, Code, Part, Value, Num, Tagged, Cell, is_tagged, is_stale, is_fragment, byte_of, whole, cells_of}
use Rattle.law_follow.specs.Settings.{Setting, Store, Made, meets_text, may_store}
use Rattle.law_follow.specs.Arithmetic.{atomic_result}
use Rattle.law_follow.specs.Accesses.{Step, gives, aligned_cells, stored, reserved, tag_in, with_tag_or_number, with_loaded, load_cells, load_at, is_word, store_at, lr_cells, update, amo_cells, atomic_at}
use Rattle.law_follow.specs.Accesses as tagged
use Rattle.law_erasure.specs.Erasure.{Erasing, IsErasing, IsErasedTag, IsErased, IsErasedCell, IsErasedStore, IsErasedSetting}
use Rattle.law_erasure.proofs.Cells.{word_number, AreErased, erased_numbers, whole_bytes, stored_erased, stored_fresh, stale_kept}

pub if_rel : {A B : Type 0} (R : A → B → Type 0) (b c : Bool) (x y : A) (x' y' : B) → c ≡ b → (b ≡ true → R x x') → (b ≡ false → R y y') → R (if b then x else y) (if c then x' else y')
if_rel R true true x y x' y' e h k = h refl
if_rel R false false x y x' y' e h k = k refl
if_rel R true false x y x' y' e h k = absurd (cc)
if_rel R false true x y x' y' e h k = absurd (cc)

pub nothing_written : (v : ℕ) (k : ℕ → ℕ) (r : ℕ) → written 0 v k r ≡ k r
nothing_written v k r = go (r == 0)
  where
    go : (b : Bool) → (if b && false then v else k r) ≡ k r
    go true = refl
    go false = refl

abbrev pub Plainly : Type 0
Plainly = Next Event Halt ⊥ State

module _ (P : ℕ → Type 0) (E : Erasing) (s : Setting) (w : World) (naming : IsErasing E s) (laid : IsErasedSetting P s w) where
  -- what an instruction that writes d made, from a state with this pc and these registers
  pub record IsErasedMade (d pc : ℕ) (k : ℕ → ℕ) (made : Made) (b : State) : Type 0 where
    pub pc_is : b.pc ≡ pc
    pub value : ℕ
    pub value_is : IsErased E made.value value
    pub registers : (r : ℕ) → b.registers r ≡ written d value k r
    pub store : IsErasedStore P E made.store b

  abbrev pub Same : ℕ → State → Step → Plainly → Type 0
  Same d b x y = Matches (IsErasedMade d (next_pc b) b.registers) x y

  -- the plain state with a value in a register
  finish_erased : (d pc y : ℕ) (k : ℕ → ℕ) (v : Value) (a : Store) (b : State) → IsErased E v y → next_pc b ≡ pc → ((r : ℕ) → b.registers r ≡ k r) → IsErasedStore P E a b → IsErasedMade d pc k (record { value = v; store = a }) (finish d y b)
  unfolding jump with_register
  finish_erased d pc y k v a b h e f g = record {
    pc_is = e;
    value = y;
    value_is = h;
    registers = λ r. ap (λ z. if r == d && not (d == 0) then y else z) (f r);
    store = record { memory = g.memory; stale = g.stale; input = g.input; reservation = g.reservation };
  }

  pub gives_erased : (d y : ℕ) (v : Value) (a : Store) (b : State) → IsErased E v y → IsErasedStore P E a b → Same d b (gives v a) (Went None (finish d y b))
  gives_erased d y v a b h g = (refl, finish_erased d (next_pc b) y b.registers v a b h refl (λ r. refl) g)

  pub advance_erased : (v : Value) (y : ℕ) (a : Store) (b : State) → IsErased E v y → IsErasedStore P E a b → Same 0 b (gives v a) (Went None (advance b))
  unfolding jump
  advance_erased v y a b h g = (
    refl,
    record {
      pc_is = refl;
      value = y;
      value_is = h;
      registers = λ r. sym (nothing_written y b.registers r);
      store = record { memory = g.memory; stale = g.stale; input = g.input; reservation = g.reservation };
    },
  )

  -- WORDS

  tag_small : (tag : Tag) (y : ℕ) → IsErasedTag E tag y → y < 2 ^ 32
  tag_small (Code n) y h = rw h.1 (naming.small n h.0)
  tag_small (Part n v) y h = rw h.1 (naming.word_small n v h.0)

  tag_word : (kind : LoadKind) (cs : List Cell) (tag : Tag) → tag_in kind cs ≡ Some tag → (kind ≡ Lw) × (whole cs ≡ Some tag)
  tag_word Lw cs tag e = (refl, e)
  tag_word Lb cs tag e = absurd (cc)
  tag_word Lh cs tag e = absurd (cc)
  tag_word Lbu cs tag e = absurd (cc)
  tag_word Lhu cs tag e = absurd (cc)

  pub loaded_erased : {A : Type 0} (R : Made → A → Type 0) (kind : LoadKind) (cs : List Cell) (bs : List ℕ) (go : Value → Step) (f : ℕ → Next Event Halt ⊥ A) → length bs ≡ load_width kind → AreErased E cs bs → ((v : Value) (y : ℕ) → IsErased E v y → Matches R (go v) (f y)) → Matches R (with_loaded kind cs go) (f (extended kind (bytes_number bs)))
  loaded_erased R kind cs bs go f l a h = stale (list_any is_stale cs) refl
    where
      number : (b : Bool) → list_any is_fragment cs ≡ b → list_any is_stale cs ≡ false → Matches R (if b then Broke Fragment else go (Num (extended kind (bytes_number (map byte_of cs))))) (f (extended kind (bytes_number bs)))
      number true e n = tt
      number false e n = rw (erased_numbers E cs bs n e a) (h (Num (extended kind (bytes_number (map byte_of cs)))) (extended kind (bytes_number (map byte_of cs))) refl)

      tag : (o : Option Tag) → tag_in kind cs ≡ o → list_any is_stale cs ≡ false → Matches R (with_tag_or_number kind cs go o) (f (extended kind (bytes_number bs)))
      tag None e n = number (list_any is_fragment cs) refl n
      tag (Some t) e n =
          let p = tag_word kind cs t e in
          let y = whole_bytes E cs bs t (l ∙ ap load_width p.0) p.1 a in
          let value : extended kind (bytes_number bs) ≡ y.0 = ap (λ k. extended k (bytes_number bs)) p.0 ∙ ap bytes_number y.2 ∙ word_number y.0 (tag_small t y.0 y.1) in
          rw value (h (Tagged t) y.0 y.1)

      stale : (b : Bool) → list_any is_stale cs ≡ b → Matches R (if b then Broke StaleByte else with_tag_or_number kind cs go (tag_in kind cs)) (f (extended kind (bytes_number bs)))
      stale true e = tt
      stale false e = tag (tag_in kind cs) refl e

  -- what both find at an address
  pub found_erased : {A : Type 0} (R : Made → A → Type 0) (n x : ℕ) (a : Store) (b : State) (f : Option (List Cell) → Step) (g : Option ℕ → Next Event Halt ⊥ A) → ((i : ℕ) → i < n → P (x + i)) → IsErasedStore P E a b → Matches R (f None) (g None) → ((cs : List Cell) (bs : List ℕ) → length bs ≡ n → AreErased E cs bs → Matches R (f (Some cs)) (g (Some (bytes_number bs)))) → Matches R (f (cells_from a.memory x n)) (g (number_at b.memory x n))
  unfolding number_at
  found_erased R n x a b f g inside h none some =
      go (cells_from a.memory x n) (cells_from b.memory x n) refl (cells_from-agree P (IsErasedCell E) n a.memory b.memory x inside h.memory)
    where
      go : (o : Option (List Cell)) (p : Option (List ℕ)) → cells_from b.memory x n ≡ p → Agree (AreErased E) o p → Matches R (f o) (g (option_map bytes_number p))
      go None None e k = none
      go None (Some bs) e k = absurd k
      go (Some cs) None e k = absurd k
      go (Some cs) (Some bs) e k = some cs bs (cells_from_some n b.memory x bs e).0 k

  aligned_is : (x n : ℕ) → is_aligned x n ≡ true → x % n ≡ 0
  aligned_is x n e = eqb-true (x % n) 0 e

  -- a word or less at an aligned address doesn't pass 2^32
  load_fits : (kind : LoadKind) (x : ℕ) → x < 2 ^ 32 → x % load_width kind ≡ 0 → x + load_width kind ≤ 2 ^ 32
  load_fits Lb x h e = omega arith
  load_fits Lh x h e = omega arith
  load_fits Lw x h e = omega arith
  load_fits Lbu x h e = omega arith
  load_fits Lhu x h e = omega arith

  pub load_erased : (kind : LoadKind) (x d : ℕ) (a : Store) (b : State) → x < 2 ^ 32 → IsErasedStore P E a b → Same d b (load_at s kind x a) (load_step x d b (loaded kind b.memory x))
  load_erased kind x d a b small h = text (meets_text s x (load_width kind)) refl
    where
      step : Option ℕ → Plainly
      step o = load_step x d b (option_map (extended kind) o)

      there : (t : Bool) → is_aligned x (load_width kind) ≡ t → meets_text s x (load_width kind) ≡ false → Same d b (load_cells kind x a (if t then cells_from a.memory x (load_width kind) else None)) (step (if t then number_at b.memory x (load_width kind) else None))
      there false e m = refl
      there true e m =
          found_erased (IsErasedMade d (next_pc b) b.registers) (load_width kind) x a b (load_cells kind x a) step (laid.outside x (load_width kind) (load_fits kind x small (aligned_is x (load_width kind) e)) m) h refl
          (λ cs bs l k. loaded_erased (IsErasedMade d (next_pc b) b.registers) kind cs bs (λ v. gives v a) (λ y. Went None (finish d y b)) l k (λ v y e'. gives_erased d y v a b e' h))

      text : (t : Bool) → meets_text s x (load_width kind) ≡ t → Same d b (if t then Broke Text else load_cells kind x a (aligned_cells a x (load_width kind))) (load_step x d b (loaded kind b.memory x))
      text true e = tt
      text false e = there (is_aligned x (load_width kind)) refl e

  -- STORES

  all_same : (x n : ℕ) → ((i : ℕ) → i < n → P (x + i)) → are_all (is_writable w) x n ≡ are_all (is_writable s.world) x n
  all_same x zero h = refl
  all_same x (suc n) h = ap₂ (λ a b. a && b) (all_same x n (λ i l. h i (omega (arith, l)))) (laid.writable (x + n) (h n (omega arith)))

  pub range_same : (x n : ℕ) → meets_text s x n ≡ false → is_range (is_writable w) x n ≡ is_range (is_writable s.world) x n
  range_same x n m = go (nat_le (x + n) (2 ^ 32)) refl
    where
      go : (b : Bool) → nat_le (x + n) (2 ^ 32) ≡ b → (b && are_all (is_writable w) x n) ≡ (b && are_all (is_writable s.world) x n)
      go false e = refl
      go true e = all_same x n (laid.outside x n (grind (arith, nat_tests)) m)

  pub may_same : (x n : ℕ) → meets_text s x n ≡ false → plain.may_store w x n ≡ may_store s x n
  may_same x n m = ap (λ b. is_aligned x n && b) (range_same x n m)

  pub stored_same : (x width : ℕ) (v : Value) (y : ℕ) (a : Store) (b : State) → (is_tagged v ≡ true → width ≡ 4) → IsErased E v y → IsErasedStore P E a b → IsErasedStore P E (stored x width v a) (with_bytes x (little_bytes width y) b)
  unfolding with_bytes
  stored_same x width v y a b t h g = record {
    memory = with_cells-agree P (IsErasedCell E) (cells_of width v) (little_bytes width y) a.memory b.memory x (stored_erased E width v y t h) g.memory;
    stale = stale_kept E P E.stale (cells_of width v) (little_bytes width y) a.memory b.memory x (stored_fresh width v) (stored_erased E width v y t h) g.stale;
    input = g.input;
    reservation = g.reservation;
  }

  store_done : (x width : ℕ) (v : Value) (y : ℕ) (a : Store) (b : State) → (is_tagged v ≡ true → width ≡ 4) → IsErased E v y → IsErasedStore P E a b → Same 0 b (gives (Num 0) (stored x width v a)) (Went None (advance (with_bytes x (little_bytes width y) b)))
  unfolding with_bytes jump
  store_done x width v y a b t h g =
      let k = stored_same x width v y a b t h g in (
        refl,
        record {
          pc_is = refl;
          value = 0;
          value_is = refl;
          registers = λ r. sym (nothing_written 0 b.registers r);
          store = record { memory = k.memory; stale = k.stale; input = k.input; reservation = k.reservation };
        },
      )

  word_kind : (kind : StoreKind) (v : Value) → (is_tagged v && not (is_word kind)) ≡ false → is_tagged v ≡ true → store_width kind ≡ 4
  word_kind Sw v e t = refl
  word_kind Sb v e t = absurd (let f : (is_tagged v && true) ≡ false = e in let g : (true && true) ≡ false = subst (λ b. (b && true) ≡ false) t f in cc)
  word_kind Sh v e t = absurd (let f : (is_tagged v && true) ≡ false = e in let g : (true && true) ≡ false = subst (λ b. (b && true) ≡ false) t f in cc)

  pub store_erased : (kind : StoreKind) (v : Value) (y x : ℕ) (a : Store) (b : State) → IsErased E v y → IsErasedStore P E a b → Same 0 b (store_at s kind v x a) (if plain.may_store w x (store_width kind) then Went None (advance (with_bytes x (little_bytes (store_width kind) y) b)) else Ended (StoreFault x))
  store_erased kind v y x a b h g = frag (is_tagged v && not (is_word kind)) refl
    where
      text : (t : Bool) → meets_text s x (store_width kind) ≡ t → (is_tagged v && not (is_word kind)) ≡ false → Same 0 b (if t then Broke Text else (if may_store s x (store_width kind) then gives (Num 0) (stored x (store_width kind) v a) else Ended (StoreFault x))) (if plain.may_store w x (store_width kind) then Went None (advance (with_bytes x (little_bytes (store_width kind) y) b)) else Ended (StoreFault x))
      text true e f = tt
      text false e f =
          if_rel (Same 0 b) (may_store s x (store_width kind)) (plain.may_store w x (store_width kind)) (gives (Num 0) (stored x (store_width kind) v a)) (Ended (StoreFault x)) (Went None (advance (with_bytes x (little_bytes (store_width kind) y) b))) (Ended (StoreFault x)) (may_same x (store_width kind) e)
          (λ _. store_done x (store_width kind) v y a b (word_kind kind v f) h g) (λ _. refl)

      frag : (t : Bool) → (is_tagged v && not (is_word kind)) ≡ t → Same 0 b (if t then Broke Fragment else (if meets_text s x (store_width kind) then Broke Text else (if may_store s x (store_width kind) then gives (Num 0) (stored x (store_width kind) v a) else Ended (StoreFault x)))) (if plain.may_store w x (store_width kind) then Went None (advance (with_bytes x (little_bytes (store_width kind) y) b)) else Ended (StoreFault x))
      frag true e = tt
      frag false e = text (meets_text s x (store_width kind)) refl e

  -- ATOMIC OPERATIONS

  -- a word at an aligned address doesn't straddle 2^32
  word_inside : (x : ℕ) → x % 4 ≡ 0 → meets_text s x 4 ≡ false → (i : ℕ) → i < 4 → P (x + i)
  word_inside x e m i l = go (nat_le (x + 4) (2 ^ 32)) refl
    where
      go : (b : Bool) → nat_le (x + 4) (2 ^ 32) ≡ b → P (x + i)
      go true f = laid.outside x 4 (grind (arith, nat_tests)) m i l
      go false f = let g : 2 ^ 32 < x + 4 = grind (arith, nat_tests) in laid.above (x + i) (omega arith)

  reserved_same : (o : Option ℕ) (a : Store) (b : State) → IsErasedStore P E a b → IsErasedStore P E (reserved o a) (with_reservation o b)
  unfolding with_reservation
  reserved_same o a b h = record { memory = h.memory; stale = h.stale; input = h.input; reservation = refl }

  -- a value into a register, from a state that differs from the one before in its store alone
  finish_after : (d y : ℕ) (v : Value) (a : Store) (b c : State) → IsErased E v y → next_pc c ≡ next_pc b → ((r : ℕ) → c.registers r ≡ b.registers r) → IsErasedStore P E a c → Same d b (gives v a) (Went None (finish d y c))
  finish_after d y v a b c h e f g = (refl, finish_erased d (next_pc b) y b.registers v a c h e f g)

  lr_erased : (x d : ℕ) (a : Store) (b : State) → meets_text s x 4 ≡ false → IsErasedStore P E a b → Same d b (lr_cells x a (aligned_cells a x 4)) (lr_step x d b (aligned_number b.memory x 4))
  unfolding with_reservation
  lr_erased x d a b m h = there (is_aligned x 4) refl
    where
      reserve : (v : Value) (y : ℕ) → IsErased E v y → Same d b (gives v (reserved (Some x) a)) (Went None (finish d y (with_reservation (Some x) b)))
      reserve v y e = finish_after d y v (reserved (Some x) a) b (with_reservation (Some x) b) e refl (λ r. refl) (reserved_same (Some x) a b h)

      there : (t : Bool) → is_aligned x 4 ≡ t → Same d b (lr_cells x a (if t then cells_from a.memory x 4 else None)) (lr_step x d b (if t then number_at b.memory x 4 else None))
      there false e = refl
      there true e =
          found_erased (IsErasedMade d (next_pc b) b.registers) 4 x a b (lr_cells x a) (lr_step x d b) (word_inside x (aligned_is x 4 e) m) h refl
          (λ cs bs l k. loaded_erased (IsErasedMade d (next_pc b) b.registers) Lw cs bs (λ v. gives v (reserved (Some x) a)) (λ y. Went None (finish d y (with_reservation (Some x) b))) l k reserve)

  sc_erased : (x d y : ℕ) (v : Value) (a : Store) (b : State) (t : Bool) → IsErased E v y → IsErasedStore P E a b → Same d b (tagged.sc_step x v a t) (Went None (sc_step x d y b t))
  unfolding with_reservation with_bytes
  sc_erased x d y v a b true e h =
      let k = stored_same x 4 v y a b (λ _. refl) e h in
      finish_after d 0 (Num 0) (reserved None (stored x 4 v a)) b (with_bytes x (little_bytes 4 y) (with_reservation None b)) refl refl (λ r. refl) (record { memory = k.memory; stale = k.stale; input = k.input; reservation = refl })
  sc_erased x d y v a b false e h = finish_after d 1 (Num 1) (reserved None a) b (with_reservation None b) refl refl (λ r. refl) (reserved_same None a b h)

  update_erased : (op : AtomicOp) (x d z y : ℕ) (old v : Value) (a : Store) (b : State) → IsErased E old z → IsErased E v y → IsErasedStore P E a b → Same d b (update x old a (atomic_result op old v)) (Went None (finish d z (with_bytes x (little_bytes 4 (atomic_value_of op z y)) b)))
  unfolding with_bytes
  update_erased op x d z y old v a b e f h = go op
    where
      store : (new : Value) (n : ℕ) → IsErased E new n → Same d b (gives old (stored x 4 new a)) (Went None (finish d z (with_bytes x (little_bytes 4 n) b)))
      store new n g = finish_after d z old (stored x 4 new a) b (with_bytes x (little_bytes 4 n) b) e refl (λ r. refl) (stored_same x 4 new n a b (λ _. refl) g h)

      -- an operation on numbers
      numbers : (op : AtomicOp) (u t : Value) → IsErased E u z → IsErased E t y → ((m n : ℕ) → atomic_result op (Num m) (Num n) ≡ Some (Num (atomic_value_of op m n))) → ((m : ℕ) (tag : Tag) → atomic_result op (Num m) (Tagged tag) ≡ None) → ((tag : Tag) (w : Value) → atomic_result op (Tagged tag) w ≡ None) → Same d b (update x old a (atomic_result op u t)) (Went None (finish d z (with_bytes x (little_bytes 4 (atomic_value_of op z y)) b)))
      numbers op (Num m) (Num n) g k both right left = rw (both m n) (store (Num (atomic_value_of op m n)) (atomic_value_of op z y) (ap₂ (atomic_value_of op) g k))
      numbers op (Num m) (Tagged tag) g k both right left = rw (right m tag) tt
      numbers op (Tagged tag) w g k both right left = rw (left tag w) tt

      go : (op : AtomicOp) → Same d b (update x old a (atomic_result op old v)) (Went None (finish d z (with_bytes x (little_bytes 4 (atomic_value_of op z y)) b)))
      go Swap = store v y f
      go Add = numbers Add old v e f (λ m n. refl) (λ m tag. refl) (λ tag w. refl)
      go Xor = numbers Xor old v e f (λ m n. refl) (λ m tag. refl) (λ tag w. refl)
      go And = numbers And old v e f (λ m n. refl) (λ m tag. refl) (λ tag w. refl)
      go Or = numbers Or old v e f (λ m n. refl) (λ m tag. refl) (λ tag w. refl)
      go Min = numbers Min old v e f (λ m n. refl) (λ m tag. refl) (λ tag w. refl)
      go Max = numbers Max old v e f (λ m n. refl) (λ m tag. refl) (λ tag w. refl)
      go MinU = numbers MinU old v e f (λ m n. refl) (λ m tag. refl) (λ tag w. refl)
      go MaxU = numbers MaxU old v e f (λ m n. refl) (λ m tag. refl) (λ tag w. refl)
      go Lr = numbers Lr old v e f (λ m n. refl) (λ m tag. refl) (λ tag w. refl)
      go Sc = numbers Sc old v e f (λ m n. refl) (λ m tag. refl) (λ tag w. refl)

  amo_erased : (op : AtomicOp) (x d y : ℕ) (v : Value) (a : Store) (b : State) → x % 4 ≡ 0 → meets_text s x 4 ≡ false → IsErased E v y → IsErasedStore P E a b → Same d b (amo_cells op x v a (aligned_cells a x 4)) (amo_step op x d y b (aligned_number b.memory x 4))
  amo_erased op x d y v a b al m e h = there (is_aligned x 4)
    where
      there : (t : Bool) → Same d b (amo_cells op x v a (if t then cells_from a.memory x 4 else None)) (amo_step op x d y b (if t then number_at b.memory x 4 else None))
      there false = refl
      there true =
          found_erased (IsErasedMade d (next_pc b) b.registers) 4 x a b (amo_cells op x v a) (amo_step op x d y b) (word_inside x al m) h refl
          (λ cs bs l k. loaded_erased (IsErasedMade d (next_pc b) b.registers) Lw cs bs (λ old. update x old a (atomic_result op old v)) (λ z. Went None (finish d z (with_bytes x (little_bytes 4 (atomic_value_of op z y)) b))) l k
          (λ old z g. update_erased op x d z y old v a b g e h))

  may_aligned : (x : ℕ) → may_store s x 4 ≡ true → x % 4 ≡ 0
  may_aligned x e = aligned_is x 4 (and_parts (is_aligned x 4) (is_range (is_writable s.world) x 4) e).0

  sc_row_erased : (x d y : ℕ) (v : Value) (a : Store) (b : State) → meets_text s x 4 ≡ false → IsErased E v y → IsErasedStore P E a b → Same d b (if may_store s x 4 then tagged.sc_step x v a (is_reserved x a.reservation) else Ended (StoreFault x)) (if plain.may_store w x 4 then Went None (sc_step x d y b (is_reserved x b.reservation)) else Ended (StoreFault x))
  sc_row_erased x d y v a b m e h =
      if_rel (Same d b) (may_store s x 4) (plain.may_store w x 4) (tagged.sc_step x v a (is_reserved x a.reservation)) (Ended (StoreFault x)) (Went None (sc_step x d y b (is_reserved x b.reservation))) (Ended (StoreFault x)) (may_same x 4 m)
      (λ _. subst (λ o. Same d b (tagged.sc_step x v a (is_reserved x a.reservation)) (Went None (sc_step x d y b (is_reserved x o)))) (sym h.reservation) (sc_erased x d y v a b (is_reserved x a.reservation) e h)) (λ _. refl)

  amo_row_erased : (op : AtomicOp) (x d y : ℕ) (v : Value) (a : Store) (b : State) → meets_text s x 4 ≡ false → IsErased E v y → IsErasedStore P E a b → Same d b (if may_store s x 4 then amo_cells op x v a (aligned_cells a x 4) else Ended (StoreFault x)) (if plain.may_store w x 4 then amo_step op x d y b (aligned_number b.memory x 4) else Ended (StoreFault x))
  amo_row_erased op x d y v a b m e h =
      if_rel (Same d b) (may_store s x 4) (plain.may_store w x 4) (amo_cells op x v a (aligned_cells a x 4)) (Ended (StoreFault x)) (amo_step op x d y b (aligned_number b.memory x 4)) (Ended (StoreFault x)) (may_same x 4 m)
      (λ f. amo_erased op x d y v a b (may_aligned x f) m e h) (λ _. refl)

  atomic_inner : (op : AtomicOp) (rd rs src y : ℕ) (v : Value) (a : Store) (b : State) → meets_text s (b.registers rs) 4 ≡ false → b.registers src ≡ y → IsErased E v y → IsErasedStore P E a b → Same rd b (tagged.atomic_row s op (b.registers rs) v a) (plain.atomic_row w op rd rs src b)
  atomic_inner Lr rd rs src y v a b m q e h = lr_erased (b.registers rs) rd a b m h
  atomic_inner Sc rd rs src y v a b m q e h = rw q (sc_row_erased (b.registers rs) rd y v a b m e h)
  atomic_inner Swap rd rs src y v a b m q e h = rw q (amo_row_erased Swap (b.registers rs) rd y v a b m e h)
  atomic_inner Add rd rs src y v a b m q e h = rw q (amo_row_erased Add (b.registers rs) rd y v a b m e h)
  atomic_inner Xor rd rs src y v a b m q e h = rw q (amo_row_erased Xor (b.registers rs) rd y v a b m e h)
  atomic_inner And rd rs src y v a b m q e h = rw q (amo_row_erased And (b.registers rs) rd y v a b m e h)
  atomic_inner Or rd rs src y v a b m q e h = rw q (amo_row_erased Or (b.registers rs) rd y v a b m e h)
  atomic_inner Min rd rs src y v a b m q e h = rw q (amo_row_erased Min (b.registers rs) rd y v a b m e h)
  atomic_inner Max rd rs src y v a b m q e h = rw q (amo_row_erased Max (b.registers rs) rd y v a b m e h)
  atomic_inner MinU rd rs src y v a b m q e h = rw q (amo_row_erased MinU (b.registers rs) rd y v a b m e h)
  atomic_inner MaxU rd rs src y v a b m q e h = rw q (amo_row_erased MaxU (b.registers rs) rd y v a b m e h)

  -- an atomic operation at the number that a register holds
  pub atomic_erased : (op : AtomicOp) (rd rs src : ℕ) (v : Value) (a : Store) (b : State) → IsErased E v (b.registers src) → IsErasedStore P E a b → Same rd b (atomic_at s op (b.registers rs) v a) (plain.atomic_row w op rd rs src b)
  atomic_erased op rd rs src v a b e h = go (meets_text s (b.registers rs) 4) refl
    where
      go : (t : Bool) → meets_text s (b.registers rs) 4 ≡ t → Same rd b (if t then Broke Text else tagged.atomic_row s op (b.registers rs) v a) (plain.atomic_row w op rd rs src b)
      go true m = tt
      go false m = atomic_inner op rd rs src (b.registers src) v a b m refl e h
