-- The classes of blocks are groups in which all bodies are that match.
use Rattle.std.proofs.Common.{◌≡◌, ℕ, nat_eq, false, ◌<◌, List, [], ◌∷◌, map, length, get_or, slice_get, is_some, Option, Some, inl, inr, refl, sym, ap, ◌∙◌, subst, arith}
use Rattle.std.specs.List.{All, Contains, IsDistinct}
use Rattle.std.proofs.lemmas.Bool.{cases_Bool}
use Rattle.std.proofs.lemmas.List.{get_or_default}
use Rattle.std.proofs.lemmas.List.FromFn.{get_or-map-range_with_len, length-map-range_with_len}
use Rattle.std.proofs.lemmas.List.Elements.{All-contains, All-from_recursion, recursion_from_All}
use Rattle.std.proofs.lemmas.Map.Keys.{IsDistinct-cons, IsDistinct-head, IsDistinct-tail}
use Rattle.std.proofs.lemmas.Option.{get_or_from_slice_get, slice_get_within}
use Rattle.sq_graph.specs.Graph.{Graph}
use Rattle.sq_graph.specs.Blocks.{HasBlock}
use Rattle.sq_graph.specs.Parts.{names_of}
use Rattle.sq_graph.specs.Rules.{IsGraph}
use Rattle.sq_outline.specs.Prints.{print_of, print_groups}
use Rattle.sq_finger.specs.Groups.{group_count, is_number, members_of, groups_of, AreClasses}
use Rattle.sq_finger.specs.Numbers.{numbers_of}
use Rattle.sq_outline.proofs.Printing.{one_print}
use Rattle.sq_live.proofs.Layouts.{block_at}
use Rattle.sq_outline.specs.Sets.{IsGroupOf, CanMake}
use Rattle.sq_outline.proofs.Keeping.{each_in, first_in, later_in, first_or_later, none_in}
use Rattle.sq_outline.proofs.Choosing.{names_distinct, can_own}

-- a name is a block's
has_name : (g : Graph) (b : ℕ) → IsGraph g → Contains (names_of g) b → HasBlock g b
has_name g b rules (k, there, is) =
    let at = block_at g (names_of g) k rules refl there in
    let name : get_or (names_of g) k 0 ≡ b = sym (get_or_default (names_of g) k b 0 there) ∙ is in
    subst (HasBlock g) name (ap is_some at.found)

-- the members of a number are some of those that are grouped
members_in : (n : ℕ) (numbers : List (Option ℕ)) (xs : List ℕ) (y : ℕ) → Contains (members_of n numbers xs) y → Contains xs y
members_in n [] xs y there = absurd (none_in y there)
members_in n (number ∷ numbers) [] y there = there
members_in n (number ∷ numbers) (x ∷ xs) y there =
    elim (cases_Bool (is_number n number)) [
      | inl here ↦
          elim (first_or_later x y (members_of n numbers xs) (rw here at there)) [
            | inl is ↦ subst (Contains (x ∷ xs)) (sym is) (first_in x xs)
            | inr later ↦ later_in x y xs (members_in n numbers xs y later)
          ]
      | inr apart ↦ later_in x y xs (members_in n numbers xs y (rw apart at there))
    ]

none_distinct : IsDistinct nat_eq []
unfolding IsDistinct
none_distinct = tt

members_distinct : (n : ℕ) (numbers : List (Option ℕ)) (xs : List ℕ) → IsDistinct nat_eq xs → IsDistinct nat_eq (members_of n numbers xs)
members_distinct n [] xs distinct = none_distinct
members_distinct n (number ∷ numbers) [] distinct = distinct
members_distinct n (number ∷ numbers) (x ∷ xs) distinct =
    let later = members_distinct n numbers xs (IsDistinct-tail nat_eq x xs distinct) in
    let Q : ℕ → Type 0 = λ y. nat_eq x y ≡ false in
    let all = All-from_recursion Q xs (IsDistinct-head nat_eq x xs distinct) in
    let members = members_of n numbers xs in
    elim (cases_Bool (is_number n number)) [
      | inl here ↦ rw here (IsDistinct-cons nat_eq x members (recursion_from_All Q members (each_in Q members (λ y there. All-contains Q xs y all (members_in n numbers xs y there)))) later)
      | inr apart ↦ rw apart later
    ]

-- a group that is there
group_is : (numbers : List (Option ℕ)) (xs : List ℕ) (k : ℕ) (group : List ℕ) → slice_get (groups_of numbers xs) k ≡ Some group → group ≡ members_of k numbers xs
group_is numbers xs k group is =
    let f : ℕ → List ℕ = λ n. members_of n numbers xs in
    let there : k < length (groups_of numbers xs) = slice_get_within (groups_of numbers xs) k group is in
    let below : k < group_count numbers = omega (arith, length-map-range_with_len f 0 (group_count numbers)) in
    sym (get_or_from_slice_get (groups_of numbers xs) k group [] is) ∙ get_or-map-range_with_len f 0 (group_count numbers) k k [] below (omega arith)

module _ (g : Graph) (classes : List (List ℕ)) (are : AreClasses (print_of g) (HasBlock g) classes) where
  module _ (k : ℕ) (group : List ℕ) (rules : IsGraph g) (value : classes ≡ print_groups g) (is : slice_get classes k ≡ Some group) where
    group_there : (b : ℕ) → Contains group b → HasBlock g b
    group_there b there = are.known k b (group, (is, there))

    pub class_group : (first : ℕ) → Contains group first → IsGroupOf g first group
    class_group first own = record {
      there = each_in (HasBlock g) group group_there;
      distinct =
          subst (IsDistinct nat_eq) (sym (group_is numbers (names_of g) k group (subst (λ (cs : List (List ℕ)). slice_get cs k ≡ Some group) value is)))
          (members_distinct k numbers (names_of g) (names_distinct g rules));
      whole = λ b body.
          let every = are.every b body.there in
          let kinds : print_of g first ≡ print_of g b = one_print g b first rules body.match in
          let same : k ≡ every.0 = (are.same k every.0 first b (group, (is, own)) every.1).1 kinds in
          let other = every.1 in
          let groups : other.0 ≡ group = let e : Some other.0 ≡ Some group = sym (subst (λ n. slice_get classes n ≡ Some other.0) (sym same) other.1.0) ∙ is in cc in
          subst (λ (xs : List ℕ). Contains xs b) groups other.1.1;
    }
      where
        numbers : List (Option ℕ)
        numbers = numbers_of nat_eq (map (λ name. Some (print_of g name)) (names_of g))

  pub none_in_classes : ((k : ℕ) (group : List ℕ) → slice_get classes k ≡ Some group → All (λ first. (rest : List ℕ) → ¬ CanMake g first rest) group) → (first : ℕ) (rest : List ℕ) → ¬ CanMake g first rest
  none_in_classes none first rest can =
      let own = can_own g first rest can in
      let every = are.every first own.there in
      let group = every.1 in
      All-contains (λ first. (rest : List ℕ) → ¬ CanMake g first rest) group.0 first (none every.0 group.0 group.1.0) group.1.1 rest can

pub class_groups : (g : Graph) (classes : List (List ℕ)) (k : ℕ) (group : List ℕ) → IsGraph g → classes ≡ print_groups g → AreClasses (print_of g) (HasBlock g) classes → slice_get classes k ≡ Some group → All (λ first. IsGroupOf g first group) group
class_groups g classes k group rules value are is = each_in (λ first. IsGroupOf g first group) group (λ first own. class_group g classes are k group rules value is first own)
