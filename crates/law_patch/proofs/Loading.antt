-- Loads, stores and atomic operations of two runs that agree.
use Rattle.std.proofs.Common.{◌≡◌, ℕ, ◌%◌, Bool, true, false, not, ◌&&◌, List, Option, Some, None, map, if◌then◌else◌, refl, sym, ap, subst, arith}
use Rattle.std.proofs.lemmas.Bool.{and_parts}
use Rattle.std.proofs.lemmas.Bool.Decides.{nat_tests}
use Rattle.byteorder.specs.Endian.{little_bytes}
use Rattle.sq_isa.specs.Accesses.{load_width, store_width, is_aligned, is_reserved}
use Rattle.sq_isa.specs.declared.instructions.LoadKind.{LoadKind}
use Rattle.sq_isa.specs.declared.instructions.LoadKind.TheVariants.{Lw}
use Rattle.sq_isa.specs.declared.instructions.StoreKind.{StoreKind}
use Rattle.sq_isa.specs.declared.instructions.StoreKind.TheVariants.{Sb, Sh, Sw}
use Rattle.sq_isa.specs.declared.instructions.AtomicOp.{AtomicOp}
use Rattle.sq_isa.specs.declared.instructions.AtomicOp.TheVariants.{Lr, Sc, Swap}
use Rattle.sq_memory.specs.Cells.{Cells, cells_from, with_cells, Agree, AllAgree}
use Rattle.sq_memory.proofs.RangeLaws.{cells_from-agree}
use Rattle.law_runs.specs.Runs.{Ended, Broke}
use Rattle.law_runs.specs.Simulation.{Matches}
use Rattle.sq_system.specs.World.{is_writable, is_range}
use Rattle.sq_system.specs.declared.event.Halt.TheVariants.{Store as StoreFault}
use Rattle.law_follow.specs.declared.kind.Kind.TheVariants.{Fragment, Text}
use Rattle.law_follow.specs.Values.{Value, Num, Tagged, Cell, Byte, is_tagged, cells_of}
use Rattle.law_follow.specs.Settings.{Setting, Store, meets_text, may_store}
use Rattle.law_follow.specs.Arithmetic.{atomic_result}
use Rattle.law_follow.specs.Accesses.{Step, gives, aligned_cells, stored, reserved, load_cells, load_at, is_word, store_at, lr_cells, sc_step, update, amo_cells, atomic_row, atomic_at}
use Rattle.law_patch.specs.Agreement.{Ties, SameValue, SameCell, SameMemory, SameStore, SameMade, IsTied}
use Rattle.law_patch.proofs.Memories.{if_rel, if_broke, with_loaded_rel, word_tied, tied_by_kind, bytes_stored_rel, tag_stored_rel}

-- the same setting but for which names are code
abbrev pub with_code : Setting → (ℕ → Bool) → Setting
with_code s is_code = record s { is_code = is_code }

aligned : (x w : ℕ) → is_aligned x w ≡ true → x % w ≡ 0
aligned x w e = grind (arith, nat_tests)

module _ (P : ℕ → Type 0) (T : Ties) (s : Setting) (code : ℕ → Bool) (laws : IsTied P T s) where
  abbrev Same : Step → Step → Type 0
  Same = Matches (SameMade P T)

  pub gives_rel : (v u : Value) (a b : Store) → SameValue T v u → SameStore P T a b → Same (gives v a) (gives u b)
  gives_rel v u a b h k = (refl, record { value = h; store = k })

  -- what both find at an address
  found_rel : (w x : ℕ) (a b : Store) (o p : Option (List Cell)) (f g : Option (List Cell) → Step) → Agree (AllAgree SameCell) o p → Same (f None) (g None) → ((cs ds : List Cell) → o ≡ Some cs → p ≡ Some ds → AllAgree SameCell cs ds → Same (f (Some cs)) (g (Some ds))) → Same (f o) (g p)
  found_rel w x a b None None f g h n k = n
  found_rel w x a b None (Some ds) f g h n k = absurd h
  found_rel w x a b (Some cs) None f g h n k = absurd h
  found_rel w x a b (Some cs) (Some ds) f g h n k = k cs ds refl refl h

  -- the cells at an aligned address outside text
  cells_rel : (w x : ℕ) (a b : Store) (f g : Option (List Cell) → Step) → meets_text s x w ≡ false → SameStore P T a b → Same (f None) (g None) → ((cs ds : List Cell) → x % w ≡ 0 → cells_from a.memory x w ≡ Some cs → cells_from b.memory x w ≡ Some ds → AllAgree SameCell cs ds → Same (f (Some cs)) (g (Some ds))) → Same (f (aligned_cells a x w)) (g (aligned_cells b x w))
  cells_rel w x a b f g outside h n k =
      if_rel (λ o p. Same (f o) (g p)) (is_aligned x w) (is_aligned x w) (cells_from a.memory x w) None (cells_from b.memory x w) None refl
      (λ e. found_rel w x a b (cells_from a.memory x w) (cells_from b.memory x w) f g (cells_from-agree P SameCell w a.memory b.memory x (laws.outside x w outside) h.memory.cells) n (λ cs ds c d agree. k cs ds (aligned x w e) c d agree))
      (λ e. n)

  pub load_rel : (kind : LoadKind) (x : ℕ) (a b : Store) → SameStore P T a b → Same (load_at s kind x a) (load_at (with_code s code) kind x b)
  load_rel kind x a b h =
      if_rel Same (meets_text s x (load_width kind)) (meets_text s x (load_width kind)) (Broke Text) (load_cells kind x a (aligned_cells a x (load_width kind))) (Broke Text) (load_cells kind x b (aligned_cells b x (load_width kind))) refl
      (λ e. tt)
      (λ e. cells_rel (load_width kind) x a b (load_cells kind x a) (load_cells kind x b) e h refl
      (λ cs ds al c d agree. with_loaded_rel P T kind cs ds (λ v. gives v a) (λ v. gives v b) agree (tied_by_kind P T kind a.memory b.memory x cs ds h.memory al (laws.outside x (load_width kind) e) c d) (λ v u k. gives_rel v u a b k h)))

  memory_set : (a b : Store) (m n : Cells Cell) → SameStore P T a b → SameMemory P T m n → SameStore P T (record a { memory = m }) (record b { memory = n })
  memory_set a b m n h k = record { memory = k; input = h.input; reservation = h.reservation }

  -- a store in so many bytes; a tagged value is stored in a word
  pub stored_rel : (width x : ℕ) (v u : Value) (a b : Store) → (is_tagged v ≡ true → (width ≡ 4) × (x % 4 ≡ 0)) → SameValue T v u → SameStore P T a b → SameStore P T (stored x width v a) (stored x width u b)
  stored_rel width x (Num n) u a b w h k =
      rw h (memory_set a b (with_cells a.memory x (map Byte (little_bytes width n))) (with_cells b.memory x (map Byte (little_bytes width n))) k (bytes_stored_rel P T a.memory b.memory x (little_bytes width n) k.memory))
  stored_rel width x (Tagged tag) u a b w h k =
      let e = w refl in
      subst (λ n. SameStore P T (stored x n (Tagged tag) a) (stored x n u b)) (sym e.0)
      (memory_set a b (with_cells a.memory x (cells_of 4 (Tagged tag))) (with_cells b.memory x (cells_of 4 u)) k (tag_stored_rel P T s laws a.memory b.memory x tag u e.1 h k.memory))

  reserved_rel : (o : Option ℕ) (a b : Store) → SameStore P T a b → SameStore P T (reserved o a) (reserved o b)
  reserved_rel o a b h = record { memory = h.memory; input = h.input; reservation = refl }

  -- the value that is stored, in words or smaller
  not_word : (kind : StoreKind) (v u : Value) → (is_tagged v && not (is_word kind)) ≡ false → SameValue T v u → ((is_tagged u && not (is_word kind)) ≡ false) × (is_tagged v ≡ true → store_width kind ≡ 4)
  not_word kind (Num x) u e h = (rw h refl, λ t. absurd (cc))
  not_word Sb (Tagged tag) u e h = absurd (cc)
  not_word Sh (Tagged tag) u e h = absurd (cc)
  not_word Sw (Tagged tag) (Num x) e h = (refl, λ t. refl)
  not_word Sw (Tagged tag) (Tagged other) e h = (refl, λ t. refl)

  stored_aligned : (kind : StoreKind) (x : ℕ) (v : Value) → may_store s x (store_width kind) ≡ true → (is_tagged v ≡ true → store_width kind ≡ 4) → is_tagged v ≡ true → (store_width kind ≡ 4) × (x % 4 ≡ 0)
  stored_aligned kind x v m w t =
      (w t, aligned x 4 (subst (λ n. is_aligned x n ≡ true) (w t) (and_parts (is_aligned x (store_width kind)) (is_range (is_writable s.world) x (store_width kind)) m).0))

  -- where no tagged value goes into less than a word
  store_outside : (kind : StoreKind) (v u : Value) (x : ℕ) (a b : Store) → (is_tagged v ≡ true → store_width kind ≡ 4) → SameValue T v u → SameStore P T a b → Same (if meets_text s x (store_width kind) then Broke Text else if may_store s x (store_width kind) then gives (Num 0) (stored x (store_width kind) v a) else Ended (StoreFault x)) (if meets_text s x (store_width kind) then Broke Text else if may_store s x (store_width kind) then gives (Num 0) (stored x (store_width kind) u b) else Ended (StoreFault x))
  store_outside kind v u x a b w h k =
      if_rel Same (meets_text s x (store_width kind)) (meets_text s x (store_width kind)) (Broke Text) (if may_store s x (store_width kind) then gives (Num 0) (stored x (store_width kind) v a) else Ended (StoreFault x)) (Broke Text) (if may_store s x (store_width kind) then gives (Num 0) (stored x (store_width kind) u b) else Ended (StoreFault x)) refl
      (λ e. tt)
      (λ e. if_rel Same (may_store s x (store_width kind)) (may_store s x (store_width kind)) (gives (Num 0) (stored x (store_width kind) v a)) (Ended (StoreFault x)) (gives (Num 0) (stored x (store_width kind) u b)) (Ended (StoreFault x)) refl
      (λ m. gives_rel (Num 0) (Num 0) (stored x (store_width kind) v a) (stored x (store_width kind) u b) refl (stored_rel (store_width kind) x v u a b (stored_aligned kind x v m w) h k))
      (λ m. refl))

  pub store_rel : (kind : StoreKind) (v u : Value) (x : ℕ) (a b : Store) → SameValue T v u → SameStore P T a b → Same (store_at s kind v x a) (store_at (with_code s code) kind u x b)
  store_rel kind v u x a b h k =
      if_broke P T (SameMade P T) (is_tagged v && not (is_word kind)) Fragment (if meets_text s x (store_width kind) then Broke Text else if may_store s x (store_width kind) then gives (Num 0) (stored x (store_width kind) v a) else Ended (StoreFault x)) (store_at (with_code s code) kind u x b)
      (λ e. let n = not_word kind v u e h in rw n.0 (store_outside kind v u x a b n.1 h k))

  lr_rel : (x : ℕ) (a b : Store) → meets_text s x 4 ≡ false → SameStore P T a b → Same (lr_cells x a (aligned_cells a x 4)) (lr_cells x b (aligned_cells b x 4))
  lr_rel x a b outside h =
      cells_rel 4 x a b (lr_cells x a) (lr_cells x b) outside h refl
      (λ cs ds al c d agree. with_loaded_rel P T Lw cs ds (λ v. gives v (reserved (Some x) a)) (λ v. gives v (reserved (Some x) b)) agree (word_tied P T a.memory b.memory x cs ds h.memory al (laws.outside x 4 outside) c d) (λ v u k. gives_rel v u (reserved (Some x) a) (reserved (Some x) b) k (reserved_rel (Some x) a b h)))

  sc_rel : (x : ℕ) (v u : Value) (a b : Store) (t t' : Bool) → t' ≡ t → x % 4 ≡ 0 → SameValue T v u → SameStore P T a b → Same (sc_step x v a t) (sc_step x u b t')
  sc_rel x v u a b true t' e al h k = rw e (gives_rel (Num 0) (Num 0) (reserved None (stored x 4 v a)) (reserved None (stored x 4 u b)) refl (reserved_rel None (stored x 4 v a) (stored x 4 u b) (stored_rel 4 x v u a b (λ t. (refl, al)) h k)))
  sc_rel x v u a b false t' e al h k = rw e (gives_rel (Num 1) (Num 1) (reserved None a) (reserved None b) refl (reserved_rel None a b k))

  -- where the first has a result, the second has one that agrees
  abbrev pub SameResult : Option Value → Option Value → Type 0
  SameResult None o = Unit {0}
  SameResult (Some v) None = ⊥
  SameResult (Some v) (Some u) = SameValue T v u

  pub result_rel : (op : AtomicOp) (v u v' u' : Value) → SameValue T v v' → SameValue T u u' → SameResult (atomic_result op v u) (atomic_result op v' u')
  result_rel Swap v u v' u' h k = k
  result_rel op (Num x) (Num y) v' u' h k = rw (h, k) refl
  result_rel op (Num x) (Tagged tag) v' u' h k = tt
  result_rel op (Tagged tag) u v' u' h k = tt

  update_rel : (x : ℕ) (v v' : Value) (a b : Store) (o o' : Option Value) → x % 4 ≡ 0 → SameValue T v v' → SameStore P T a b → SameResult o o' → Same (update x v a o) (update x v' b o')
  update_rel x v v' a b None o' al h k r = tt
  update_rel x v v' a b (Some u) None al h k r = absurd r
  update_rel x v v' a b (Some u) (Some u') al h k r = gives_rel v v' (stored x 4 u a) (stored x 4 u' b) h (stored_rel 4 x u u' a b (λ t. (refl, al)) r k)

  amo_rel : (op : AtomicOp) (x : ℕ) (v u : Value) (a b : Store) → meets_text s x 4 ≡ false → SameValue T v u → SameStore P T a b → Same (amo_cells op x v a (aligned_cells a x 4)) (amo_cells op x u b (aligned_cells b x 4))
  amo_rel op x v u a b outside h k =
      cells_rel 4 x a b (amo_cells op x v a) (amo_cells op x u b) outside k refl
      (λ cs ds al c d agree. with_loaded_rel P T Lw cs ds (λ old. update x old a (atomic_result op old v)) (λ old. update x old b (atomic_result op old u)) agree (word_tied P T a.memory b.memory x cs ds k.memory al (laws.outside x 4 outside) c d)
      (λ old old' o. update_rel x old old' a b (atomic_result op old v) (atomic_result op old' u) al o k (result_rel op old v old' u o h)))

  may_rel : (x : ℕ) (f g : Step) → (may_store s x 4 ≡ true → Same f g) → Same (if may_store s x 4 then f else Ended (StoreFault x)) (if may_store s x 4 then g else Ended (StoreFault x))
  may_rel x f g k = if_rel Same (may_store s x 4) (may_store s x 4) f (Ended (StoreFault x)) g (Ended (StoreFault x)) refl k (λ e. refl)

  may_aligned : (x : ℕ) → may_store s x 4 ≡ true → x % 4 ≡ 0
  may_aligned x m = aligned x 4 (and_parts (is_aligned x 4) (is_range (is_writable s.world) x 4) m).0

  row_rel : (op : AtomicOp) (x : ℕ) (v u : Value) (a b : Store) → meets_text s x 4 ≡ false → SameValue T v u → SameStore P T a b → Same (atomic_row s op x v a) (atomic_row (with_code s code) op x u b)
  row_rel Lr x v u a b outside h k = lr_rel x a b outside k
  row_rel Sc x v u a b outside h k = may_rel x (sc_step x v a (is_reserved x a.reservation)) (sc_step x u b (is_reserved x b.reservation)) (λ m. sc_rel x v u a b (is_reserved x a.reservation) (is_reserved x b.reservation) (ap (is_reserved x) k.reservation) (may_aligned x m) h k)
  row_rel op x v u a b outside h k = may_rel x (amo_cells op x v a (aligned_cells a x 4)) (amo_cells op x u b (aligned_cells b x 4)) (λ m. amo_rel op x v u a b outside h k)

  pub atomic_rel : (op : AtomicOp) (x : ℕ) (v u : Value) (a b : Store) → SameValue T v u → SameStore P T a b → Same (atomic_at s op x v a) (atomic_at (with_code s code) op x u b)
  atomic_rel op x v u a b h k =
      if_rel Same (meets_text s x 4) (meets_text s x 4) (Broke Text) (atomic_row s op x v a) (Broke Text) (atomic_row (with_code s code) op x u b) refl (λ e. tt) (λ e. row_rel op x v u a b e h k)
