-- What an instruction of the program makes, and what the line that it reads as makes.
use Rattle.std.proofs.Common.{◌≡◌, ℕ, ◌+◌, ◌%◌, ◌^◌, ◌<◌, ◌≤◌, ◌-◌, ◌-ℤ◌, ℤ, pos, negsuc, Bool, true, false, ◌==◌, Option, Some, None, if◌then◌else◌, List, refl, sym, subst, arith, nat_lt}
use Rattle.std.proofs.lemmas.Int.{ints}
use Rattle.std.proofs.lemmas.Bool.{and_parts, eqb-true}
use Rattle.std.proofs.lemmas.Bool.Decides.{nat_tests}
use Rattle.sq_num.specs.Halves.{high_half, low_half}
use Rattle.sq_isa.specs.Words.{wrapped, unsigned, upper_word}
use Rattle.sq_isa.specs.Values.{value_imm_of}
use Rattle.sq_isa.specs.Uses.{destination_of}
use Rattle.sq_isa.specs.Forms.{first_of, second_of}
use Rattle.sq_isa.specs.declared.instructions.Insn.{Insn}
use Rattle.sq_isa.specs.declared.instructions.Insn.TheVariants.{Lui, Load, Store as StoreInsn, OpImm, Op}
use Rattle.sq_isa.specs.declared.instructions.LoadKind.{LoadKind}
use Rattle.sq_isa.specs.declared.instructions.StoreKind.{StoreKind}
use Rattle.sq_isa.specs.declared.instructions.ImmOp.TheVariants.{Addi}
use Rattle.law_runs.specs.Runs.{Broke}
use Rattle.law_runs.specs.Simulation.{Matches}
use Rattle.sq_system.specs.World.{World}
use Rattle.sq_graph.specs.Graph.{Graph}
use Rattle.sq_graph.specs.Lines.{Plain, Upper, Lower}
use Rattle.law_follow.specs.declared.kind.Kind.TheVariants.{Half}
use Rattle.law_follow.specs.Values.{Code, Part, Value, Num, Tagged}
use Rattle.law_follow.specs.Settings.{Setting, Store}
use Rattle.law_follow.specs.Arithmetic.{is_upper_half}
use Rattle.law_follow.specs.Accesses.{Step, gives, load_at, store_at}
use Rattle.law_follow.specs.Rows.{Operands, address_value, at_upper_half, row_of}
use Rattle.law_follow.specs.Worlds.{all_names}
use Rattle.law_patch.specs.Agreement.{Ties, SameValue, SameStore, SameMade, IsTied}
use Rattle.law_patch.specs.LiveAgreement.{everywhere}
use Rattle.law_patch.proofs.Loading.{with_code, gives_rel, load_rel, store_rel}
use Rattle.law_patch.proofs.Rows.{first_source, plain_rel, lower_rel}
use Rattle.law_patch.proofs.LiveSteps.{own_registers}
use Rattle.law_program.specs.Programs.{Text, Note, is_in_text}
use Rattle.law_program.specs.Monitored.{setting_of}
use Rattle.law_lifting.proofs.Lifts.{PartStands, ties, tied, IsNamed, IsTarget}

less_4096 : (r : ℕ) → 2048 ≤ r → r < 4096 → (pos r -ℤ pos 4096) ≡ negsuc (4095 - r)
less_4096 r h k = omega (arith, ints)

-- the two halves of an address add up to it
pub halves_add : (to : ℕ) → to < 2 ^ 32 → wrapped (upper_word (high_half to) + unsigned (low_half to)) ≡ to
halves_add to h = go (nat_lt (to % 4096) 2048) refl
  where
    go : (b : Bool) → nat_lt (to % 4096) 2048 ≡ b → wrapped (upper_word (high_half to) + unsigned (if b then pos (to % 4096) else (pos (to % 4096) -ℤ pos 4096))) ≡ to
    go true e = let f : to % 4096 < 2048 = grind (arith, nat_tests) in omega arith
    go false e = let f : 2048 ≤ to % 4096 = grind (arith, nat_tests) in rw (less_4096 (to % 4096) f (omega arith)) (omega arith)

zero_own : (insn : Insn) (x : ℕ) → first_source insn x → (x == 0) ≡ true → (first_of insn == 0) ≡ true
zero_own (Op op rd a b) x h e = subst (λ (n : ℕ). (n == 0) ≡ true) h e
zero_own insn x h e = absurd h

module _ (t : Text) (notes : List Note) (g : Graph) (layout : World) where
  abbrev pub T : Ties
  T = ties t notes g

  abbrev pub s : Setting
  s = setting_of layout t

  abbrev pub s' : Setting
  s' = with_code s all_names

  abbrev pub laws : IsTied everywhere T s
  laws = tied t notes g s

  abbrev pub SameStep : Step → Step → Type 0
  SameStep = Matches (SameMade everywhere T)

  abbrev pub SameOperands : Operands → Operands → Type 0
  SameOperands v u = (i : ℕ) → SameValue T (v i) (u i)

  abbrev pub SameStores : Store → Store → Type 0
  SameStores = SameStore everywhere T

  pub plain_row_lift : (insn : Insn) (v u : Operands) (a b : Store) → SameOperands v u → SameStores a b → SameStep (row_of s Plain insn v a) (row_of s' Plain insn u b)
  plain_row_lift insn v u a b h k =
      subst (λ other. SameStep (row_of s Plain insn v a) (row_of s' Plain other u b)) (own_registers insn)
      (plain_rel everywhere T s all_names laws insn (destination_of insn) (first_of insn) (second_of insn) v u a b (λ x e z. zero_own insn x e z) h k)

  -- an upper half
  pub upper_text : (to rd : ℕ) (word : Option ℕ) (insn : Insn) (v u : Operands) (a b : Store) → is_in_text t to ≡ true → SameStores a b → SameStep (row_of s (Upper to word) insn v a) (row_of s' (Upper to None) (Lui rd 0) u b)
  upper_text to rd word insn v u a b e k = gives_rel everywhere T s all_names laws (Tagged (Part to word)) (Tagged (Part to None)) a b (subst (λ t. PartStands t to (Tagged (Part to None))) (sym e) refl) k

  pub upper_outside : (to rd : ℕ) (word : Option ℕ) (insn : Insn) (v u : Operands) (a b : Store) → is_in_text t to ≡ false → SameStores a b → SameStep (row_of s (Upper to word) insn v a) (row_of s' Plain (Lui rd (high_half to)) u b)
  upper_outside to rd word insn v u a b e k =
      gives_rel everywhere T s all_names laws (Tagged (Part to word)) (Num (upper_word (high_half to))) a b (subst (λ t. PartStands t to (Num (upper_word (high_half to)))) (sym e) refl) k

  -- what stands for the upper half that belongs to a lower half
  abbrev pub IsUpper : ℕ → Value → Type 0
  IsUpper to u = PartStands (is_in_text t to) to u

  pub upper_is : (to : ℕ) (imm : ℤ) (v u : Value) → SameValue T v u → is_upper_half to imm v ≡ true → IsUpper to u
  upper_is to imm (Num x) u h e = absurd (cc)
  upper_is to imm (Tagged (Code m)) u h e = absurd (cc)
  upper_is to imm (Tagged (Part m None)) u h e = let q : m ≡ to = eqb-true m to (and_parts (m == to) true e).0 in subst (λ n. PartStands (is_in_text t n) n u) q h
  upper_is to imm (Tagged (Part m (Some w))) u h e =
      let q : m ≡ to = eqb-true m to (and_parts (m == to) (wrapped (w + unsigned imm) == to) e).0 in subst (λ n. PartStands (is_in_text t n) n u) q h

  -- where the test of the upper half holds, the steps match
  pub at_upper : (to : ℕ) (imm : ℤ) (v u : Value) (x y : Step) → SameValue T v u → (IsUpper to u → SameStep x y) → SameStep (at_upper_half to imm v x) y
  at_upper to imm v u x y h k = go (is_upper_half to imm v) refl
    where
      go : (b : Bool) → is_upper_half to imm v ≡ b → SameStep (if b then x else Broke Half) y
      go true e = k (upper_is to imm v u h e)
      go false e = tt

  same_num : (n : ℕ) → (n == n) ≡ true
  same_num n = grind (arith, nat_tests)

  pub in_text_upper : (to : ℕ) (u : Value) → is_in_text t to ≡ true → IsUpper to u → is_upper_half to (pos 0) u ≡ true
  in_text_upper to u e h = let q : u ≡ Tagged (Part to None) = subst (λ b. PartStands b to u) e h in rw (q, same_num to) refl

  pub outside_upper : (to : ℕ) (u : Value) → is_in_text t to ≡ false → IsUpper to u → u ≡ Num (upper_word (high_half to))
  outside_upper to u e h = subst (λ b. PartStands b to u) e h

  -- `addi` with a lower half
  pub addi_text : (to rd rs : ℕ) (imm : ℤ) (v u : Operands) (a b : Store) → is_in_text t to ≡ true → IsNamed t notes g to → IsTarget t notes g to → SameOperands v u → SameStores a b → SameStep (row_of s (Lower to) (OpImm Addi rd rs imm) v a) (row_of s' (Lower to) (OpImm Addi rd rs (pos 0)) u b)
  addi_text to rd rs imm v u a b e named target h k =
      lower_rel everywhere T s all_names laws rd rs rd rs to to imm (pos 0) v u a b
      (record {
        address = rw e (refl, named, target);
        upper = λ x y same f. in_text_upper to y e (upper_is to imm x y same f);
      }) (h 0) k

  pub addi_outside : (to rd rs : ℕ) (imm : ℤ) (v u : Operands) (a b : Store) → to < 2 ^ 32 → is_in_text t to ≡ false → SameOperands v u → SameStores a b → SameStep (row_of s (Lower to) (OpImm Addi rd rs imm) v a) (row_of s' Plain (OpImm Addi rd rs (low_half to)) u b)
  addi_outside to rd rs imm v u a b small e h k =
      at_upper to imm (v 0) (u 0) (gives (address_value s to) a) (row_of s' Plain (OpImm Addi rd rs (low_half to)) u b) (h 0)
      (λ f.
      let q = outside_upper to (u 0) e f in
      let value : value_imm_of Addi (upper_word (high_half to)) (low_half to) ≡ to = halves_add to small in
      rw (q, e, value) (gives_rel everywhere T s all_names laws (Num to) (Num to) a b refl k))

  -- loads and stores with a lower half
  pub load_outside : (to rd rs : ℕ) (kind : LoadKind) (imm : ℤ) (v u : Operands) (a b : Store) → to < 2 ^ 32 → is_in_text t to ≡ false → SameOperands v u → SameStores a b → SameStep (row_of s (Lower to) (Load kind rd rs imm) v a) (row_of s' Plain (Load kind rd rs (low_half to)) u b)
  load_outside to rd rs kind imm v u a b small e h k =
      at_upper to imm (v 0) (u 0) (load_at s kind to a) (row_of s' Plain (Load kind rd rs (low_half to)) u b) (h 0)
      (λ f. let q = outside_upper to (u 0) e f in rw (q, halves_add to small) (load_rel everywhere T s all_names laws kind to a b k))

  pub store_outside : (to rs src : ℕ) (kind : StoreKind) (imm : ℤ) (v u : Operands) (a b : Store) → to < 2 ^ 32 → is_in_text t to ≡ false → SameOperands v u → SameStores a b → SameStep (row_of s (Lower to) (StoreInsn kind rs src imm) v a) (row_of s' Plain (StoreInsn kind rs src (low_half to)) u b)
  store_outside to rs src kind imm v u a b small e h k =
      at_upper to imm (v 0) (u 0) (store_at s kind (v 1) to a) (row_of s' Plain (StoreInsn kind rs src (low_half to)) u b) (h 0)
      (λ f. let q = outside_upper to (u 0) e f in rw (q, halves_add to small) (store_rel everywhere T s all_names laws kind (v 1) (u 1) to a b (h 1) k))
