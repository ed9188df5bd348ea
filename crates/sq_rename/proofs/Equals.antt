-- What `==` tells of instructions and items: whether they are equal.
use Rattle.std.proofs.Common.{◌≡◌, ℤ, Bool, true, false, ◌&&◌, not, nat_eq, rules, refl, sym, ap, ◌∙◌, subst}
use Rattle.std.specs.Ordering.{int_eq}
use Rattle.std.proofs.lemmas.Bool.{and_parts, eqb-true, not-false}
use Rattle.std.proofs.lemmas.Bool.Decides.{Decides-int_eq}
use denote.Enum.Bare.{same_true}
use Rattle.sq_isa.specs.contracts.instructions.InsnPartialEq.TheImpl as insn_eq
use Rattle.sq_isa.specs.contracts.instructions.CondPartialEq.TheImpl as cond_eq
use Rattle.sq_isa.specs.contracts.instructions.Cond.{the_type as cond_type}
use Rattle.sq_isa.specs.declared.instructions.Cond.{Cond}
use Rattle.sq_isa.specs.contracts.instructions.LoadKindPartialEq.TheImpl as load_eq
use Rattle.sq_isa.specs.contracts.instructions.LoadKind.{the_type as load_type}
use Rattle.sq_isa.specs.declared.instructions.LoadKind.{LoadKind}
use Rattle.sq_isa.specs.contracts.instructions.StoreKindPartialEq.TheImpl as store_eq
use Rattle.sq_isa.specs.contracts.instructions.StoreKind.{the_type as store_type}
use Rattle.sq_isa.specs.declared.instructions.StoreKind.{StoreKind}
use Rattle.sq_isa.specs.contracts.instructions.ImmOpPartialEq.TheImpl as imm_eq
use Rattle.sq_isa.specs.contracts.instructions.ImmOp.{the_type as imm_type}
use Rattle.sq_isa.specs.declared.instructions.ImmOp.{ImmOp}
use Rattle.sq_isa.specs.contracts.instructions.RegOpPartialEq.TheImpl as reg_eq
use Rattle.sq_isa.specs.contracts.instructions.RegOp.{the_type as reg_type}
use Rattle.sq_isa.specs.declared.instructions.RegOp.{RegOp}
use Rattle.sq_isa.specs.contracts.instructions.AtomicOpPartialEq.TheImpl as atomic_eq
use Rattle.sq_isa.specs.contracts.instructions.AtomicOp.{the_type as atomic_type}
use Rattle.sq_isa.specs.declared.instructions.AtomicOp.{AtomicOp}
use Rattle.sq_isa.specs.contracts.instructions.InsnEq.TheImpl.Laws.{laws-law as insn_law}
use Rattle.sq_graph.specs.contracts.item.ItemPartialEq.TheImpl as item_eq
use Rattle.sq_graph.specs.contracts.item.ItemEq.TheImpl.Laws.{laws-law as item_law}
use Rattle.sq_graph.specs.declared.item.Item.{Item}
use Rattle.sq_graph.specs.declared.item.Item.TheVariants.{Op as OpItem, Hi, Lo, Out}
use Rattle.sq_isa.specs.declared.instructions.Insn.{Insn}
use Rattle.sq_isa.specs.declared.instructions.Insn.TheVariants.{Lui, Auipc, Jal, Jalr, Branch, Load, Store, OpImm, Op, Fence, Ecall, Ebreak, Unimp, Atomic}

cond_is : (a b : Cond) → (cond_eq.ghosts).eq a b ≡ true → a ≡ b
cond_is a b e = same_true cond_type (search rules) a b e

load_is : (a b : LoadKind) → (load_eq.ghosts).eq a b ≡ true → a ≡ b
load_is a b e = same_true load_type (search rules) a b e

store_is : (a b : StoreKind) → (store_eq.ghosts).eq a b ≡ true → a ≡ b
store_is a b e = same_true store_type (search rules) a b e

imm_is : (a b : ImmOp) → (imm_eq.ghosts).eq a b ≡ true → a ≡ b
imm_is a b e = same_true imm_type (search rules) a b e

reg_is : (a b : RegOp) → (reg_eq.ghosts).eq a b ≡ true → a ≡ b
reg_is a b e = same_true reg_type (search rules) a b e

atomic_is : (a b : AtomicOp) → (atomic_eq.ghosts).eq a b ≡ true → a ≡ b
atomic_is a b e = same_true atomic_type (search rules) a b e

int_is : (a b : ℤ) → int_eq a b ≡ true → a ≡ b
int_is a b e = (Decides-int_eq a b).0 e

differ : false ≡ true → ⊥
differ e = cc

pub insn_is : (a b : Insn) → (insn_eq.ghosts).eq a b ≡ true → a ≡ b
insn_is (Lui a b) (Lui a' b') e =
    let p0 = and_parts (nat_eq a a') (nat_eq b b') e in
    let q0 = eqb-true a a' p0.0 in
    let q1 = eqb-true b b' p0.1 in
    cc
insn_is (Auipc a b) (Auipc a' b') e =
    let p0 = and_parts (nat_eq a a') (nat_eq b b') e in
    let q0 = eqb-true a a' p0.0 in
    let q1 = eqb-true b b' p0.1 in
    cc
insn_is (Jal a b) (Jal a' b') e =
    let p0 = and_parts (nat_eq a a') (int_eq b b') e in
    let q0 = eqb-true a a' p0.0 in
    let q1 = int_is b b' p0.1 in
    cc
insn_is (Jalr a b c) (Jalr a' b' c') e =
    let p0 = and_parts (nat_eq a a') (nat_eq b b' && int_eq c c') e in
    let q0 = eqb-true a a' p0.0 in
    let p1 = and_parts (nat_eq b b') (int_eq c c') p0.1 in
    let q1 = eqb-true b b' p1.0 in
    let q2 = int_is c c' p1.1 in
    cc
insn_is (Branch a b c d) (Branch a' b' c' d') e =
    let p0 = and_parts ((cond_eq.ghosts).eq a a') (nat_eq b b' && (nat_eq c c' && int_eq d d')) e in
    let q0 = cond_is a a' p0.0 in
    let p1 = and_parts (nat_eq b b') (nat_eq c c' && int_eq d d') p0.1 in
    let q1 = eqb-true b b' p1.0 in
    let p2 = and_parts (nat_eq c c') (int_eq d d') p1.1 in
    let q2 = eqb-true c c' p2.0 in
    let q3 = int_is d d' p2.1 in
    cc
insn_is (Load a b c d) (Load a' b' c' d') e =
    let p0 = and_parts ((load_eq.ghosts).eq a a') (nat_eq b b' && (nat_eq c c' && int_eq d d')) e in
    let q0 = load_is a a' p0.0 in
    let p1 = and_parts (nat_eq b b') (nat_eq c c' && int_eq d d') p0.1 in
    let q1 = eqb-true b b' p1.0 in
    let p2 = and_parts (nat_eq c c') (int_eq d d') p1.1 in
    let q2 = eqb-true c c' p2.0 in
    let q3 = int_is d d' p2.1 in
    cc
insn_is (Store a b c d) (Store a' b' c' d') e =
    let p0 = and_parts ((store_eq.ghosts).eq a a') (nat_eq b b' && (nat_eq c c' && int_eq d d')) e in
    let q0 = store_is a a' p0.0 in
    let p1 = and_parts (nat_eq b b') (nat_eq c c' && int_eq d d') p0.1 in
    let q1 = eqb-true b b' p1.0 in
    let p2 = and_parts (nat_eq c c') (int_eq d d') p1.1 in
    let q2 = eqb-true c c' p2.0 in
    let q3 = int_is d d' p2.1 in
    cc
insn_is (OpImm a b c d) (OpImm a' b' c' d') e =
    let p0 = and_parts ((imm_eq.ghosts).eq a a') (nat_eq b b' && (nat_eq c c' && int_eq d d')) e in
    let q0 = imm_is a a' p0.0 in
    let p1 = and_parts (nat_eq b b') (nat_eq c c' && int_eq d d') p0.1 in
    let q1 = eqb-true b b' p1.0 in
    let p2 = and_parts (nat_eq c c') (int_eq d d') p1.1 in
    let q2 = eqb-true c c' p2.0 in
    let q3 = int_is d d' p2.1 in
    cc
insn_is (Op a b c d) (Op a' b' c' d') e =
    let p0 = and_parts ((reg_eq.ghosts).eq a a') (nat_eq b b' && (nat_eq c c' && nat_eq d d')) e in
    let q0 = reg_is a a' p0.0 in
    let p1 = and_parts (nat_eq b b') (nat_eq c c' && nat_eq d d') p0.1 in
    let q1 = eqb-true b b' p1.0 in
    let p2 = and_parts (nat_eq c c') (nat_eq d d') p1.1 in
    let q2 = eqb-true c c' p2.0 in
    let q3 = eqb-true d d' p2.1 in
    cc
insn_is (Fence a) (Fence a') e =
    let q0 = eqb-true a a' e in
    cc
insn_is Ecall Ecall e = refl
insn_is Ebreak Ebreak e = refl
insn_is (Unimp a) (Unimp a') e =
    let q0 = eqb-true a a' e in
    cc
insn_is (Atomic a b c d f) (Atomic a' b' c' d' f') e =
    let p0 = and_parts ((atomic_eq.ghosts).eq a a') (nat_eq b b' && (nat_eq c c' && (nat_eq d d' && nat_eq f f'))) e in
    let q0 = atomic_is a a' p0.0 in
    let p1 = and_parts (nat_eq b b') (nat_eq c c' && (nat_eq d d' && nat_eq f f')) p0.1 in
    let q1 = eqb-true b b' p1.0 in
    let p2 = and_parts (nat_eq c c') (nat_eq d d' && nat_eq f f') p1.1 in
    let q2 = eqb-true c c' p2.0 in
    let p3 = and_parts (nat_eq d d') (nat_eq f f') p2.1 in
    let q3 = eqb-true d d' p3.0 in
    let q4 = eqb-true f f' p3.1 in
    cc
insn_is a b e = absurd (differ e)

pub insn_itself : (a : Insn) → (insn_eq.ghosts).eq a a ≡ true
insn_itself a = insn_law.refl a

pub item_is : (a b : Item) → (item_eq.ghosts).eq a b ≡ true → a ≡ b
item_is (OpItem a) (OpItem b) e = ap OpItem (insn_is a b e)
item_is (Hi a b) (Hi a' b') e =
    let p = and_parts (nat_eq a a') (nat_eq b b') e in
    let q = eqb-true a a' p.0 in
    let r = eqb-true b b' p.1 in
    cc
item_is (Lo a b c) (Lo a' b' c') e =
    let p = and_parts (nat_eq a a') (nat_eq b b' && nat_eq c c') e in
    let q = eqb-true a a' p.0 in
    let s = and_parts (nat_eq b b') (nat_eq c c') p.1 in
    let t = eqb-true b b' s.0 in
    let u = eqb-true c c' s.1 in
    cc
item_is (Out a) (Out a') e = ap Out (eqb-true a a' e)
item_is a b e = absurd (differ e)

pub item_itself : (a b : Item) → a ≡ b → (item_eq.ghosts).eq a b ≡ true
item_itself a b e = subst (λ x. (item_eq.ghosts).eq a x ≡ true) e (item_law.refl a)

-- and what `!=` tells
pub item_same : (a b : Item) (r : Bool) → r ≡ not ((item_eq.ghosts).eq a b) → r ≡ false → a ≡ b
item_same a b r told e = item_is a b (not-false ((item_eq.ghosts).eq a b) (sym told ∙ e))

pub item_apart : (a b : Item) (r : Bool) → r ≡ not ((item_eq.ghosts).eq a b) → r ≡ true → a ≡ b → ⊥
item_apart a b r told e same = let f : true ≡ false = sym e ∙ told ∙ ap not (item_itself a b same) in cc
