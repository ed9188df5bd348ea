-- Branches that don't reach when those in a set count one word more.
use Rattle.std.proofs.Common.{◌≡◌, ◌↔◌, ℕ, pos, ◌-ℤ◌, ◌+◌, ◌*◌, ◌≤◌, ◌==◌, Bool, true, false, not, nat_le, List, [], ◌∷◌, length, Option, None, Some, IsSome, inl, inr, refl, sym, ap, ◌∙◌, subst, arith}
use Rattle.std.specs.Prelude.{unwrap_or}
use Rattle.std.proofs.lemmas.Bool.{cases_Bool, and_parts, and_from, leb-true, le-leb, or_cases, not-true, not-false, both_ways}
use Rattle.std.proofs.lemmas.Int.{ints}
use Rattle.sq_arena.specs.Entries.{value_of}
use Rattle.sq_isa.specs.declared.instructions.Cond.{Cond}
use Rattle.sq_graph.specs.declared.item.Term.{Term}
use Rattle.sq_graph.specs.declared.item.Term.TheVariants.{Fall, Jump, Branch, Call, PartJump, Indirect, Stop}
use Rattle.sq_graph.specs.Graph.{Block, Graph}
use Rattle.sq_graph.specs.Blocks.{named, HasBlock, items_of, term_of}
use Rattle.sq_graph.specs.Places.{Reaches}
use Rattle.sq_graph.specs.Rules.{IsGraph}
use Rattle.sq_layout.specs.Weights.{address_by, BranchReachesBy}
use Rattle.sq_layout.proofs.Shrinking.{some_is}
use Rattle.sq_layout.proofs.Weighing.{nearer_by}
use Rattle.sq_lookup.proofs.Targets.{has_term, branch_there}
use Rattle.sq_chain.specs.Widening.{swollen, IsValid, IsWithin}
use Rattle.sq_chain.specs.Least.{is_near, stands_at, is_short, falls_short, grown}

-- HOW FAR A BRANCH REACHES

pub near_reaches : (at target : ℕ) → is_near at target ≡ true → Reaches (pos target -ℤ pos at)
near_reaches at target e =
    let both = and_parts (nat_le at (target + 4096)) (nat_le target (at + 4094)) e in
    let ahead : at ≤ target + 4096 = leb-true at (target + 4096) both.0 in
    let back : target ≤ at + 4094 = leb-true target (at + 4094) both.1 in
    record { least = omega (arith, ints); most = omega (arith, ints) }

pub reaches_near : (at target : ℕ) → Reaches (pos target -ℤ pos at) → is_near at target ≡ true
reaches_near at target r =
    let least = r.least in
    let most = r.most in
    and_from (nat_le at (target + 4096)) (nat_le target (at + 4094)) (le-leb at (target + 4096) (omega (arith, ints))) (le-leb target (at + 4094) (omega (arith, ints)))

-- WHERE BLOCKS STAND

placed_by : (weight : Block → ℕ) (bs : List Block) (at n : ℕ) → IsSome (value_of (named bs) n) → (x : ℕ) × (address_by weight bs at n ≡ Some x)
placed_by weight [] at n some = absurd (cc)
placed_by weight (b ∷ bs) at n some =
    elim (cases_Bool (b.name == n)) [
      | inl here ↦ (at, rw here refl)
      | inr apart ↦ let later = placed_by weight bs (at + 4 * weight b) n (rw apart at some) in (later.0, rw apart later.1)
    ]

pub stands_there : (weight : Block → ℕ) (g : Graph) (n : ℕ) → HasBlock g n → address_by weight g.blocks 0 n ≡ Some (stands_at weight g n)
stands_there weight g n has =
    let place = placed_by weight g.blocks 0 n has in
    let is : stands_at weight g n ≡ place.0 = ap (λ (o : Option ℕ). unwrap_or o 0) place.1 in
    place.1 ∙ ap Some (sym is)

-- a Branch reaches exactly where the test says so
pub reach_by_is : (weight : Block → ℕ) (g : Graph) (from to : ℕ) → HasBlock g from → HasBlock g to → BranchReachesBy weight g from to ↔ (is_near (stands_at weight g from + 4 * length (items_of g from)) (stands_at weight g to) ≡ true)
reach_by_is weight g from to has there =
    let from_is = stands_there weight g from has in
    let to_is = stands_there weight g to there in (
      λ reach. reaches_near (stands_at weight g from + 4 * length (items_of g from)) (stands_at weight g to) (reach (stands_at weight g from) (stands_at weight g to) from_is to_is),
      λ near at target found aim.
          let at_is : stands_at weight g from ≡ at = some_is (stands_at weight g from) at (sym from_is ∙ found) in
          let target_is : stands_at weight g to ≡ target = some_is (stands_at weight g to) target (sym to_is ∙ aim) in
          subst (λ k. Reaches (pos target -ℤ pos (k + 4 * length (items_of g from)))) at_is
          (subst (λ k. Reaches (pos k -ℤ pos (stands_at weight g from + 4 * length (items_of g from)))) target_is
          (near_reaches (stands_at weight g from + 4 * length (items_of g from)) (stands_at weight g to) near)),
    )

-- WHICH BRANCHES DON'T REACH

pub record IsShort (g : Graph) (S : ℕ → Bool) (n : ℕ) : Type 0 where
  pub cond : Cond
  pub a : ℕ
  pub b : ℕ
  pub to : ℕ
  pub is : term_of g n ≡ Some (Branch cond a b to)
  pub short : ¬ BranchReachesBy (swollen S) g n to

pub short_is : (g : Graph) (S : ℕ → Bool) (n : ℕ) → IsGraph g → falls_short g S n ≡ true → IsShort g S n
short_is g S n rules e = by_term (term_of g n) refl e
  where
    by_term : (o : Option Term) → term_of g n ≡ o → is_short (stands_at (swollen S) g) g n o ≡ true → IsShort g S n
    by_term None is f = absurd (cc)
    by_term (Some Fall) is f = absurd (cc)
    by_term (Some (Jump to)) is f = absurd (cc)
    by_term (Some (Call link to)) is f = absurd (cc)
    by_term (Some (PartJump link part to)) is f = absurd (cc)
    by_term (Some (Indirect link at offset)) is f = absurd (cc)
    by_term (Some (Stop word)) is f = absurd (cc)
    by_term (Some (Branch cond a b to)) is f =
        record {
          cond = cond;
          a = a;
          b = b;
          to = to;
          is = is;
          short = λ reach.
              both_ways (is_near (stands_at (swollen S) g n + 4 * length (items_of g n)) (stands_at (swollen S) g to))
              (not-true (is_near (stands_at (swollen S) g n + 4 * length (items_of g n)) (stands_at (swollen S) g to)) f)
              ((reach_by_is (swollen S) g n to (has_term g n (Branch cond a b to) is) (branch_there g n cond a b to rules is)).0 reach);
        }

pub long_is : (g : Graph) (S : ℕ → Bool) (n : ℕ) (cond : Cond) (a b to : ℕ) → IsGraph g → falls_short g S n ≡ false → term_of g n ≡ Some (Branch cond a b to) → BranchReachesBy (swollen S) g n to
long_is g S n cond a b to rules short is =
    let f : not (is_near (stands_at (swollen S) g n + 4 * length (items_of g n)) (stands_at (swollen S) g to)) ≡ false = sym (ap (is_short (stands_at (swollen S) g) g n) is) ∙ short in
    (reach_by_is (swollen S) g n to (has_term g n (Branch cond a b to) is) (branch_there g n cond a b to rules is)).1
    (not-false (is_near (stands_at (swollen S) g n + 4 * length (items_of g n)) (stands_at (swollen S) g to)) f)

-- A SET AND A GREATER ONE

lighter : (S T : ℕ → Bool) → IsWithin S T → (b : Block) → swollen S b ≤ swollen T b
lighter S T within b =
    elim (cases_Bool (S b.name)) [
      | inl listed ↦ rw (listed, within b.name listed) (omega arith)
      | inr absent ↦ rw absent (omega arith)
    ]

-- what a valid set lacks reaches by each smaller set
pub grown_within : (g : Graph) (S T : ℕ → Bool) → IsGraph g → IsValid g T → IsWithin S T → IsWithin (grown g S) T
grown_within g S T rules valid within n e =
    elim (or_cases (S n) (falls_short g S n) e) [
      | inl there ↦ within n there
      | inr short ↦
          let s = short_is g S n rules short in
          elim (cases_Bool (T n)) [
            | inl listed ↦ listed
            | inr absent ↦ absurd (s.short (nearer_by (swollen T) (swollen S) (lighter S T within) g n s.to (λ b. omega arith) (valid.reach n s.cond s.a s.b s.to s.is absent)))
          ]
    ]
