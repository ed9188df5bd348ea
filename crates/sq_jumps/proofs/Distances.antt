-- Branches over lone Jumps that go, by the addresses that a survey has.
use Rattle.std.proofs.Common.{◌≡◌, ◌≢◌, ℕ, List, length, Some, inl, inr, sym, ap, ◌∙◌, subst, arith, ◌↔◌}
use Rattle.sq_isa.specs.declared.instructions.Cond.{Cond}
use Rattle.sq_graph.specs.declared.item.Item.{Item}
use Rattle.sq_graph.specs.declared.item.Term.{Term}
use Rattle.sq_graph.specs.declared.item.Term.TheVariants.{Branch, Jump}
use Rattle.sq_graph.specs.Graph.{Graph}
use Rattle.sq_graph.specs.Blocks.{term_of, HasBlock, block_of}
use Rattle.sq_graph.specs.Operations.{redirected, without_block, with_term}
use Rattle.sq_graph.specs.Resolve.{jump_from}
use Rattle.sq_graph.specs.Words.{term_words, block_words}
use Rattle.sq_layout.specs.Branches.{BranchReaches}
use Rattle.sq_jumps.specs.Surveys.{ReachesWithout, Needs, IsTooFar}
use Rattle.sq_lookup.proofs.Targets.{has_term, lone, lone_term, IsLone, has_lone}
use Rattle.sq_layout.proofs.Shrinking.{block_with}
use Rattle.sq_lookup.specs.Addresses.{address_of}
use Rattle.sq_lookup.proofs.Sizes.{placed_at}
use Rattle.sq_jumps.proofs.Addresses.{IsRemovable, detour_reaches, other_term_reaches}

lone_word : (g : Graph) (n to : ℕ) (l : IsLone g n to) → block_words l.block ≡ 1
lone_word g n to l = omega (arith, ap (λ (is : List Item). length is) l.items, ap term_words l.term)

-- a block that ends in a Branch is no lone Jump
not_lone : (g : Graph) (from n to : ℕ) (cond : Cond) (a b x : ℕ) → term_of g from ≡ Some (Branch cond a b x) → IsLone g n to → from ≢ n
not_lone g from n to cond a b x e l same =
    let f : Some (Jump to) ≡ Some (Branch cond a b x) = sym (lone_term g n to l) ∙ subst (λ k. term_of g k ≡ Some (Branch cond a b x)) same e in
    cc

removable : (g : Graph) (n from to x : ℕ) (cond : Cond) (a b z : ℕ) → IsLone g n x → term_of g from ≡ Some (Branch cond a b z) → HasBlock g to → to ≢ n → IsRemovable g n (address_of g n) from to (address_of g from) (address_of g to)
removable g n from to x cond a b z l e there other = record {
  block = l.block;
  found = l.found;
  one = lone_word g n x l;
  place = placed_at g n (has_lone g n x l);
  from_place = placed_at g from (has_term g from (Branch cond a b z) e);
  to_place = placed_at g to there;
  from_other = not_lone g from n x cond a b z e l;
  to_other = other;
}

-- a Branch to a lone Jump, once that has given its name to its target and is gone
pub detour_near : (g : Graph) (n from to : ℕ) (cond : Cond) (a b : ℕ) → jump_from g n ≡ Some to → term_of g from ≡ Some (Branch cond a b n) → HasBlock g to → to ≢ n → BranchReaches (without_block (redirected g n to) n) from to ↔ ReachesWithout g n from to
detour_near g n from to cond a b jump e there other =
    detour_reaches g n (address_of g n) from to (address_of g from) (address_of g to) (removable g n from to to cond a b n (lone g n to jump) e there other)

-- a Branch in place of another, once the lone Jump is gone
pub invert_near : (g : Graph) (n from to : ℕ) (cond new : Cond) (a b z x y : ℕ) → jump_from g n ≡ Some to → term_of g from ≡ Some (Branch cond a b z) → HasBlock g to → to ≢ n → BranchReaches (without_block (with_term g from (Branch new x y to)) n) from to ↔ ReachesWithout g n from to
invert_near g n from to cond new a b z x y jump e there other =
    let o = block_with (block_of g from) (Branch cond a b z) e in
    other_term_reaches g n (address_of g n) from to (address_of g from) (address_of g to) o.0 (Branch new x y to)
    (removable g n from to to cond a b z (lone g n to jump) e there other) o.1 (sym (ap term_words o.2))

-- WHICH LONE JUMPS A BRANCH CAN'T DO WITHOUT

target_is : (g : Graph) (from over n : ℕ) (cond old : Cond) (a b x y : ℕ) → term_of g from ≡ Some (Branch cond a b over) → term_of g from ≡ Some (Branch old x y n) → over ≡ n
target_is g from over n cond old a b x y e f = let same : Some (Branch cond a b over) ≡ Some (Branch old x y n) = sym e ∙ f in cc

no_branch : (t : Term) (cond : Cond) (a b n : ℕ) → Some t ≡ Some (Branch cond a b n) → t ≡ Branch cond a b n
no_branch t cond a b n e = cc

pub far_if_jump : (g : Graph) (from over : ℕ) (cond : Cond) (a b n : ℕ) → term_of g from ≡ Some (Branch cond a b over) → IsTooFar g from n → over ≡ n
far_if_jump g from over cond a b n e f = target_is g from over n cond f.cond a b f.a f.b e f.branch

pub not_far : (g : Graph) (from over to : ℕ) (cond : Cond) (a b n : ℕ) → HasBlock g to → term_of g from ≡ Some (Branch cond a b over) → jump_from g over ≡ Some to → to ≢ over → ReachesWithout g over from to → IsTooFar g from n → ⊥
not_far g from over to cond a b n there e jump other reach f =
    let same = far_if_jump g from over cond a b n e f in
    let j : jump_from g over ≡ Some f.to = subst (λ k. jump_from g k ≡ Some f.to) (sym same) f.jump in
    let to_is : to ≡ f.to = cc in
    f.far (subst (λ k. BranchReaches (without_block (redirected g k f.to) k) from f.to) same (subst (λ k. BranchReaches (without_block (redirected g over k) over) from k) to_is ((detour_near g over from to cond a b jump e there other).1 reach)))

pub too_far : (g : Graph) (from over to : ℕ) (cond : Cond) (a b : ℕ) → HasBlock g to → term_of g from ≡ Some (Branch cond a b over) → jump_from g over ≡ Some to → to ≢ over → ¬ ReachesWithout g over from to → IsTooFar g from over
too_far g from over to cond a b there e jump other far = record {
  to = to;
  cond = cond;
  a = a;
  b = b;
  branch = e;
  jump = jump;
  other = other;
  far = λ reach. far ((detour_near g over from to cond a b jump e there other).0 reach);
}

-- a block that needs another is there
pub needs_there : (g : Graph) (from n : ℕ) → Needs g from n → HasBlock g from
needs_there g from n (inl into) = has_term g from into.term into.is
needs_there g from n (inr far) = has_term g from (Branch far.cond far.a far.b n) far.branch
