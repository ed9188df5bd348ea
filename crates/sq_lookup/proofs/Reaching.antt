-- A graph is in reach where the Branch of each block reaches.
use Rattle.std.proofs.Common.{◌≡◌, ◌↔◌, ℕ, pos, ◌-ℤ◌, ◌+◌, ◌*◌, ◌<◌, ◌≤◌, List, [], ◌∷◌, take, length, get_or, Some, refl, sym, ◌∙◌, subst}
use Rattle.std.proofs.lemmas.List.{take_all, take_more}
use Rattle.std.proofs.lemmas.List.Elements.{All-nil, All-cons, All-append}
use Rattle.std.specs.List.{All}
use Rattle.sq_isa.specs.declared.instructions.Cond.{Cond}
use Rattle.sq_graph.specs.declared.item.Term.TheVariants.{Branch}
use Rattle.sq_graph.specs.Graph.{Graph}
use Rattle.sq_graph.specs.Blocks.{items_of, term_of}
use Rattle.sq_graph.specs.Parts.{names_of}
use Rattle.sq_graph.specs.Places.{Reaches, IsInReach}
use Rattle.sq_graph.specs.Rules.{IsGraph}
use Rattle.sq_layout.specs.Branches.{BranchReaches}
use Rattle.sq_layout.proofs.Shrinking.{branch_reaches, in_reach, reach_is}
use Rattle.sq_lookup.specs.Addresses.{address_of, HasReach}
use Rattle.sq_lookup.proofs.Sizes.{placed_at}
use Rattle.sq_lookup.proofs.Targets.{has_term, branch_there, name_listed}

pub all_reach : (g : Graph) → IsGraph g → All (HasReach g) (names_of g) ↔ IsInReach g
all_reach g rules = (
  λ all. in_reach g rules.distinct (λ n cond a b to e.
      let at = name_listed g.blocks n (has_term g n (Branch cond a b to) e) in
      subst (HasReach g) at.2 (all at.0 0 at.1) cond a b to e),
  λ reach k d within cond a b to e. branch_reaches g reach (get_or (names_of g) k d) cond a b to e,
)

target_is : (g : Graph) (n to other : ℕ) (cond old : Cond) (a b x y : ℕ) → term_of g n ≡ Some (Branch cond a b to) → term_of g n ≡ Some (Branch old x y other) → to ≡ other
target_is g n to other cond old a b x y e f = let same : Some (Branch cond a b to) ≡ Some (Branch old x y other) = sym e ∙ f in cc

-- the reach of the block's own Branch
pub own_reach : (g : Graph) (n : ℕ) (cond : Cond) (a b to : ℕ) → IsGraph g → term_of g n ≡ Some (Branch cond a b to) → HasReach g n ↔ Reaches (pos (address_of g to) -ℤ pos (address_of g n + 4 * length (items_of g n)))
own_reach g n cond a b to rules e =
    let is = reach_is g n to (address_of g n) (address_of g to) (length (items_of g n)) (placed_at g n (has_term g n (Branch cond a b to) e)) (placed_at g to (branch_there g n cond a b to rules e)) refl in (
      λ has. is.0 (has cond a b to e),
      λ reach new x y other f. subst (BranchReaches g n) (target_is g n to other cond new a b x y e f) (is.1 reach),
    )

-- A walk over the names

pub one_more : (P : ℕ → Type 0) (names : List ℕ) (k : ℕ) → k < length names → All P (take k names) → P (get_or names k 0) → All P (take (k + 1) names)
one_more P names k within all own =
    subst (All P) (sym (take_more names k 0 within)) (All-append P (take k names) (get_or names k 0 ∷ []) all (All-cons P (get_or names k 0) [] own (All-nil P)))

pub all_taken : (P : ℕ → Type 0) (names : List ℕ) (k : ℕ) → length names ≤ k → All P (take k names) → All P names
all_taken P names k past all = subst (All P) (take_all k names past) all
