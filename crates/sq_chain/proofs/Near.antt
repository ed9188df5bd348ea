-- A graph in which a valid set of Branches is widened is in reach.
use Rattle.std.proofs.Common.{◌≡◌, ℕ, pos, ◌-ℤ◌, ◌+◌, ◌*◌, ◌==◌, Bool, true, false, if◌then◌else◌, List, [], ◌∷◌, ◌++◌, length, None, Some, is_some, inl, inr, refl, sym, ap, ◌∙◌, subst, arith, append_assoc}
use Rattle.std.proofs.lemmas.Bool.{cases_Bool, eq-eqb}
use Rattle.std.proofs.lemmas.Int.{ints}
use Rattle.sq_arena.specs.Entries.{HasDistinctKeys, value_of}
use Rattle.sq_arena.proofs.EntriesLaws.{absent_ahead}
use Rattle.sq_isa.specs.declared.instructions.Cond.{Cond}
use Rattle.sq_graph.specs.declared.item.Item.{Item}
use Rattle.sq_graph.specs.declared.item.Term.{Term}
use Rattle.sq_graph.specs.declared.item.Term.TheVariants.{Fall, Jump, Branch, Call, PartJump, Indirect, Stop}
use Rattle.sq_graph.specs.Graph.{Block, Graph}
use Rattle.sq_graph.specs.Blocks.{named, HasBlock, block_of, block_items, block_term, term_of}
use Rattle.sq_graph.specs.Operations.{IsNew}
use Rattle.sq_graph.specs.Places.{block_address, Reaches, TermReaches, BranchesReach, IsInReach}
use Rattle.sq_graph.specs.Rules.{IsGraph, last_goes_on}
use Rattle.sq_graph.specs.Words.{term_words, block_words}
use Rattle.sq_graph.proofs.Located.{IsAt, named-append}
use Rattle.sq_graph.proofs.SlotReads.{block_at}
use Rattle.sq_graph.proofs.SplitRules.{last_goes_on-append}
use Rattle.sq_layout.specs.Shrinks.{IsBranch}
use Rattle.sq_layout.specs.Weights.{address_by}
use Rattle.sq_layout.proofs.Shrinking.{some_is}
use Rattle.sq_lookup.proofs.Targets.{branch_there}
use Rattle.sq_chain.specs.Widening.{swollen, EndsInBranch, IsValid, jumped_over, widened_blocks, widened_by}
use Rattle.sq_chain.proofs.Over.{not_new, AreBranches, AreApart, last_out, widened_stands}

-- a block by its place
abbrev pub here : (g : Graph) → IsGraph g → (front : List Block) (x : Block) (back : List Block) → g.blocks ≡ front ++ (x ∷ back) → IsAt g.blocks x.name
here g rules front x back e =
    let keyed : HasDistinctKeys (named front ++ (x.name, x) ∷ named back) = subst (λ (es : List (ℕ × Block)). HasDistinctKeys es) (ap named e ∙ named-append front (x ∷ back)) rules.distinct in
    record { front = front; block = x; back = back; whole = e; has_name = refl; ahead = absent_ahead (named front) (named back) x.name x keyed }

pub found_here : (g : Graph) → IsGraph g → (front : List Block) (x : Block) (back : List Block) → g.blocks ≡ front ++ (x ∷ back) → block_of g x.name ≡ Some x
found_here g rules front x back e = block_at g.blocks x.name (here g rules front x back e)

-- where the blocks behind these begin
abbrev pub end_by : (Block → ℕ) → List Block → ℕ → ℕ
end_by weight [] at = at
end_by weight (b ∷ bs) at = end_by weight bs (at + 4 * weight b)

end_by-push : (weight : Block → ℕ) (front : List Block) (b : Block) (at : ℕ) → end_by weight (front ++ b ∷ []) at ≡ end_by weight front at + 4 * weight b
end_by-push weight [] b at = refl
end_by-push weight (x ∷ front) b at = end_by-push weight front b (at + 4 * weight x)

stands_behind : (weight : Block → ℕ) (front : List Block) (x : Block) (back : List Block) (at : ℕ) → value_of (named front) x.name ≡ None → address_by weight (front ++ (x ∷ back)) at x.name ≡ Some (end_by weight front at)
stands_behind weight [] x back at none = rw (eq-eqb x.name x.name refl) refl
stands_behind weight (y ∷ front) x back at none =
    elim (cases_Bool (y.name == x.name)) [
      | inl same ↦ absurd (cc (rw same at none))
      | inr apart ↦ rw apart (stands_behind weight front x back (at + 4 * weight y) (rw apart at none))
    ]

-- a Branch over a lone Jump reaches the slot behind that
over_near : (h : Graph) (new next : ℕ) (b : Block) (t : Term) (more : List Block) (at : ℕ) → b.term ≡ t → IsBranch t → ((target : ℕ) → block_address h 0 next ≡ Some target → target ≡ at + 4 * (block_words b + 1)) → BranchesReach h (at + 4 * (block_words b + 1)) more → BranchesReach h at (jumped_over new next b t ++ more)
over_near h new next b Fall more at e is aim later = absurd is
over_near h new next b (Jump to) more at e is aim later = absurd is
over_near h new next b (Branch cond x y to) more at e is aim later =
    let word : term_words b.term ≡ 1 = ap term_words e in
    let later' : BranchesReach h (at + 4 * (length b.items + 1) + 4 * (0 + 1)) more = subst (λ k. BranchesReach h k more) (omega (arith, word)) later in (
      λ target found.
          let there = aim target found in
          let is_there : target ≡ (at + 4 * length b.items) + 8 = omega (arith, there, word) in
          record { least = omega (arith, ints); most = omega (arith, ints) },
      (tt, later'),
    )
over_near h new next b (Call link to) more at e is aim later = absurd is
over_near h new next b (PartJump link part to) more at e is aim later = absurd is
over_near h new next b (Indirect link at' offset) more at e is aim later = absurd is
over_near h new next b (Stop word) more at e is aim later = absurd is

-- the Branches of the set are Branches
is_branch : (b : Block) (cond : Cond) (x y to : ℕ) → b.term ≡ Branch cond x y to → IsBranch b.term
is_branch b cond x y to e = subst IsBranch (sym e) tt

module _ (g : Graph) (S : ℕ → Bool) (rules : IsGraph g) where
  branches_from : ((n : ℕ) → S n ≡ true → EndsInBranch g n) → (front bs : List Block) → g.blocks ≡ front ++ bs → AreBranches S bs
  branches_from branches front [] e = tt
  branches_from branches front (b ∷ bs) e = (
    λ listed.
        let ends = branches b.name listed in
        let same : Some b.term ≡ Some (Branch ends.cond ends.a ends.b ends.to) = sym (ap block_term (found_here g rules front b bs e)) ∙ ends.is in
        is_branch b ends.cond ends.a ends.b ends.to (cc),
    branches_from branches (front ++ b ∷ []) bs (e ∙ sym (append_assoc front (b ∷ []) bs)),
  )

  pub are_branches : ((n : ℕ) → S n ≡ true → EndsInBranch g n) → AreBranches S g.blocks
  are_branches branches = branches_from branches [] g.blocks refl

  -- the new names are no block's
  pub are_apart : (new : ℕ → ℕ) → ((n : ℕ) → S n ≡ true → IsNew g (new n)) → (n : ℕ) → HasBlock g n → (bs : List Block) → AreApart new S n bs
  are_apart new fresh n has [] = tt
  are_apart new fresh n has (b ∷ bs) = (λ listed same. not_new g (new b.name) n (fresh b.name listed) has (sym same), are_apart new fresh n has bs)

  module _ (new : ℕ → ℕ) (valid : IsValid g S) (fresh : (n : ℕ) → S n ≡ true → IsNew g (new n)) where
    abbrev h : Graph
    h = widened_by new S g

    stands : (n : ℕ) → HasBlock g n → block_address h 0 n ≡ address_by (swollen S) g.blocks 0 n
    stands n has = widened_stands new S g.blocks 0 0 n refl (are_branches valid.branches) (are_apart new fresh n has g.blocks)

    -- a Branch outside of the set still reaches
    stays_near : (b : Block) (t : Term) (at : ℕ) → block_of g b.name ≡ Some b → address_by (swollen S) g.blocks 0 b.name ≡ Some at → S b.name ≡ false → b.term ≡ t → TermReaches h (at + 4 * length b.items) t
    stays_near b Fall at found place out e = tt
    stays_near b (Jump to) at found place out e = tt
    stays_near b (Branch cond x y to) at found place out e = λ target aim.
        let is : term_of g b.name ≡ Some (Branch cond x y to) = ap block_term found ∙ ap Some e in
        let there : address_by (swollen S) g.blocks 0 to ≡ Some target = sym (stands to (branch_there g b.name cond x y to rules is)) ∙ aim in
        subst (λ (items : List Item). Reaches (pos target -ℤ pos (at + 4 * length items))) (ap block_items found) (valid.reach b.name cond x y to is out at target place there)
    stays_near b (Call link to) at found place out e = tt
    stays_near b (PartJump link part to) at found place out e = tt
    stays_near b (Indirect link x offset) at found place out e = tt
    stays_near b (Stop word) at found place out e = tt

    near_from : (front bs : List Block) (at : ℕ) → at ≡ end_by (swollen S) front 0 → g.blocks ≡ front ++ bs → AreBranches S bs → BranchesReach h at (widened_blocks new S bs)
    near_from front [] at is e are = tt
    near_from front (b ∷ []) at is e are =
        let spot = here g rules front b [] e in
        let place : address_by (swollen S) g.blocks 0 b.name ≡ Some at = ap (λ bs. address_by (swollen S) bs 0 b.name) e ∙ stands_behind (swollen S) front b [] 0 spot.ahead ∙ ap Some (sym is) in
        let ends : last_goes_on (b ∷ []) ≡ false = sym (last_goes_on-append front b []) ∙ sym (ap last_goes_on e) ∙ rules.ends in
        (stays_near b b.term at (found_here g rules front b [] e) place (last_out S b are ends) refl, tt)
    near_from front (b ∷ next ∷ rest) at is e are =
        let e' : g.blocks ≡ (front ++ b ∷ []) ++ (next ∷ rest) = e ∙ sym (append_assoc front (b ∷ []) (next ∷ rest)) in
        let spot = here g rules front b (next ∷ rest) e in
        let place : address_by (swollen S) g.blocks 0 b.name ≡ Some at = ap (λ bs. address_by (swollen S) bs 0 b.name) e ∙ stands_behind (swollen S) front b (next ∷ rest) 0 spot.ahead ∙ ap Some (sym is) in
        let end : end_by (swollen S) (front ++ b ∷ []) 0 ≡ at + 4 * swollen S b = end_by-push (swollen S) front b 0 ∙ ap (λ k. k + 4 * swollen S b) (sym is) in
        elim (cases_Bool (S b.name)) [
          | inl listed ↦
              let size : swollen S b ≡ block_words b + 1 = ap (λ t. block_words b + (if t then 1 else 0)) listed in
              let start : at + 4 * (block_words b + 1) ≡ end_by (swollen S) (front ++ b ∷ []) 0 = ap (λ k. at + 4 * k) (sym size) ∙ sym end in
              let next_spot = here g rules (front ++ b ∷ []) next rest e' in
              let next_place : address_by (swollen S) g.blocks 0 next.name ≡ Some (at + 4 * (block_words b + 1)) = ap (λ bs. address_by (swollen S) bs 0 next.name) e' ∙ stands_behind (swollen S) (front ++ b ∷ []) next rest 0 next_spot.ahead ∙ ap Some (sym start) in
              rw listed
              (over_near h (new b.name) next.name b b.term (widened_blocks new S (next ∷ rest)) at refl (are.0 listed)
              (λ target aim. some_is target (at + 4 * (block_words b + 1)) (sym aim ∙ stands next.name (ap is_some (found_here g rules (front ++ b ∷ []) next rest e')) ∙ next_place))
              (near_from (front ++ b ∷ []) (next ∷ rest) (at + 4 * (block_words b + 1)) start e' are.1))
          | inr absent ↦
              let size : swollen S b ≡ block_words b + 0 = ap (λ t. block_words b + (if t then 1 else 0)) absent in
              let start : at + 4 * block_words b ≡ end_by (swollen S) (front ++ b ∷ []) 0 = omega (arith, size, end) in
              rw absent (
                stays_near b b.term at (found_here g rules front b (next ∷ rest) e) place absent refl,
                near_from (front ++ b ∷ []) (next ∷ rest) (at + 4 * block_words b) start e' are.1,
              )
        ]

    -- whatever the graph was
    pub widened_near : IsInReach h
    widened_near = near_from [] g.blocks 0 refl refl (are_branches valid.branches)
