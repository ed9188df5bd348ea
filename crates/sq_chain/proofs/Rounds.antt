-- The rounds end with the least valid set.
use Rattle.std.proofs.Common.{◌≡◌, ◌⊎◌, ℕ, zero, suc, ◌+◌, ◌≤◌, ◌==◌, if◌then◌else◌, Bool, true, false, List, [], ◌∷◌, length, IsSome, inl, inr, refl, sym, ap, ◌∙◌, subst, arith}
use Rattle.std.specs.List.{count_by}
use Rattle.std.proofs.lemmas.Bool.{cases_Bool, cases_lt, eqb-true, or_cases, or_left, or_right, or_from, both_ways}
use Rattle.std.proofs.lemmas.List.Sums.{sum_by-cons}
use Rattle.sq_arena.specs.Entries.{value_of}
use Rattle.sq_graph.specs.declared.item.Term.TheVariants.{Branch}
use Rattle.sq_graph.specs.Graph.{Block, Graph}
use Rattle.sq_graph.specs.Blocks.{named, HasBlock}
use Rattle.sq_graph.specs.Rules.{IsGraph}
use Rattle.sq_lookup.proofs.Targets.{has_term}
use Rattle.sq_chain.specs.Widening.{EndsInBranch, IsValid, IsWithin, IsLeastWidening}
use Rattle.sq_chain.specs.Least.{falls_short, grown, after_rounds, least}
use Rattle.sq_chain.proofs.Shortness.{short_is, long_is, grown_within}

-- each set of rounds is within each valid set
pub rounds_within : (g : Graph) (T : ℕ → Bool) → IsGraph g → IsValid g T → (k : ℕ) → IsWithin (after_rounds g k) T
rounds_within g T rules valid zero = λ n e. absurd (cc)
rounds_within g T rules valid (suc k) = grown_within g (after_rounds g k) T rules valid (rounds_within g T rules valid k)

grown_branches : (g : Graph) (S : ℕ → Bool) → IsGraph g → ((n : ℕ) → S n ≡ true → EndsInBranch g n) → (n : ℕ) → grown g S n ≡ true → EndsInBranch g n
grown_branches g S rules branches n e =
    elim (or_cases (S n) (falls_short g S n) e) [
      | inl there ↦ branches n there
      | inr short ↦ let s = short_is g S n rules short in record { cond = s.cond; a = s.a; b = s.b; to = s.to; is = s.is }
    ]

pub rounds_branches : (g : Graph) → IsGraph g → (k n : ℕ) → after_rounds g k n ≡ true → EndsInBranch g n
rounds_branches g rules zero n e = absurd (cc)
rounds_branches g rules (suc k) n e = grown_branches g (after_rounds g k) rules (rounds_branches g rules k) n e

-- no Branch outside of the set falls short
abbrev pub IsClosed : Graph → (ℕ → Bool) → Type 0
IsClosed g S = (n : ℕ) → falls_short g S n ≡ true → S n ≡ true

pub closed_valid : (g : Graph) (S : ℕ → Bool) → IsGraph g → ((n : ℕ) → S n ≡ true → EndsInBranch g n) → IsClosed g S → IsValid g S
closed_valid g S rules branches closed = record {
  branches = branches;
  reach = λ n cond a b to e out.
      elim (cases_Bool (falls_short g S n)) [
        | inl short ↦ absurd (both_ways (S n) out (closed n short))
        | inr long ↦ long_is g S n cond a b to rules long e
      ];
}

-- a round that adds nothing leaves the set
closed_grown : (g : Graph) (S : ℕ → Bool) → IsClosed g S → (n : ℕ) → grown g S n ≡ S n
closed_grown g S closed n =
    elim (cases_Bool (S n)) [
      | inl listed ↦ or_left (S n) (falls_short g S n) listed ∙ sym listed
      | inr absent ↦
          elim (cases_Bool (falls_short g S n)) [
            | inl short ↦ absurd (both_ways (S n) absent (closed n short))
            | inr long ↦ or_from (S n) (falls_short g S n) absent long ∙ sym absent
          ]
    ]

pub closed_same : (g : Graph) (S : ℕ → Bool) → IsClosed g S → (λ n. grown g S n) ≡ S
closed_same g S closed = λ i n. closed_grown g S closed n i

-- HOW MANY THERE ARE

abbrev pub count_of : (ℕ → Bool) → List Block → ℕ
count_of S bs = count_by (λ (b : Block). S b.name) bs

pub count_yes : (S : ℕ → Bool) (b : Block) (bs : List Block) → S b.name ≡ true → count_of S (b ∷ bs) ≡ 1 + count_of S bs
count_yes S b bs listed =
    sum_by-cons (λ (c : Block). if S c.name then 1 else 0) b bs ∙ ap (λ (t : Bool). (if t then 1 else 0) + count_by (λ (c : Block). S c.name) bs) listed

pub count_no : (S : ℕ → Bool) (b : Block) (bs : List Block) → S b.name ≡ false → count_of S (b ∷ bs) ≡ 0 + count_of S bs
count_no S b bs absent =
    sum_by-cons (λ (c : Block). if S c.name then 1 else 0) b bs ∙ ap (λ (t : Bool). (if t then 1 else 0) + count_by (λ (c : Block). S c.name) bs) absent

pub count_few : (S : ℕ → Bool) (bs : List Block) → count_of S bs ≤ length bs
count_few S [] = omega arith
count_few S (b ∷ bs) =
    elim (cases_Bool (S b.name)) [
      | inl listed ↦ omega (arith, count_few S bs, count_yes S b bs listed)
      | inr absent ↦ omega (arith, count_few S bs, count_no S b bs absent)
    ]

pub count_more : (S T : ℕ → Bool) (bs : List Block) → IsWithin S T → count_of S bs ≤ count_of T bs
count_more S T [] within = omega arith
count_more S T (b ∷ bs) within =
    elim (cases_Bool (S b.name)) [
      | inl listed ↦ omega (arith, count_more S T bs within, count_yes S b bs listed, count_yes T b bs (within b.name listed))
      | inr absent ↦
          elim (cases_Bool (T b.name)) [
            | inl listed' ↦ omega (arith, count_more S T bs within, count_no S b bs absent, count_yes T b bs listed')
            | inr absent' ↦ omega (arith, count_more S T bs within, count_no S b bs absent, count_no T b bs absent')
          ]
    ]

-- a greater set that counts no more has no more
count_same : (S T : ℕ → Bool) (bs : List Block) (n : ℕ) → IsWithin S T → count_of T bs ≤ count_of S bs → IsSome (value_of (named bs) n) → T n ≡ true → S n ≡ true
count_same S T [] n within few some e = absurd (cc)
count_same S T (b ∷ bs) n within few some e =
    elim (cases_Bool (S b.name)) [
      | inl listed ↦
          elim (cases_Bool (b.name == n)) [
            | inl here ↦ subst (λ k. S k ≡ true) (eqb-true b.name n here) listed
            | inr apart ↦
                count_same S T bs n within (omega (arith, few, count_yes S b bs listed, count_yes T b bs (within b.name listed))) (rw apart at some) e
          ]
      | inr absent ↦
          elim (cases_Bool (T b.name)) [
            | inl listed' ↦ absurd (omega (arith, few, count_more S T bs within, count_no S b bs absent, count_yes T b bs listed'))
            | inr absent' ↦
                elim (cases_Bool (b.name == n)) [
                  | inl here ↦ absurd (both_ways (T b.name) absent' (subst (λ k. T k ≡ true) (sym (eqb-true b.name n here)) e))
                  | inr apart ↦ count_same S T bs n within (omega (arith, few, count_no S b bs absent, count_no T b bs absent')) (rw apart at some) e
                ]
          ]
    ]

-- a set that counts as many as there are has them all
count_all : (S : ℕ → Bool) (bs : List Block) (n : ℕ) → length bs ≤ count_of S bs → IsSome (value_of (named bs) n) → S n ≡ true
count_all S [] n full some = absurd (cc)
count_all S (b ∷ bs) n full some =
    elim (cases_Bool (S b.name)) [
      | inl listed ↦
          elim (cases_Bool (b.name == n)) [
            | inl here ↦ subst (λ k. S k ≡ true) (eqb-true b.name n here) listed
            | inr apart ↦ count_all S bs n (omega (arith, full, count_yes S b bs listed)) (rw apart at some)
          ]
      | inr absent ↦ absurd (omega (arith, full, count_few S bs, count_no S b bs absent))
    ]

-- THE LAST ROUND

pub short_there : (g : Graph) (S : ℕ → Bool) (n : ℕ) → IsGraph g → falls_short g S n ≡ true → HasBlock g n
short_there g S n rules e = let s = short_is g S n rules e in has_term g n (Branch s.cond s.a s.b s.to) s.is

-- after some round nothing is added, or each round added a Branch
rounds_end : (g : Graph) → IsGraph g → (k : ℕ) → IsClosed g (after_rounds g k) ⊎ (k ≤ count_of (after_rounds g k) g.blocks)
rounds_end g rules zero = inr (omega arith)
rounds_end g rules (suc k) =
    elim (rounds_end g rules k) [
      | inl closed ↦ inl (subst (IsClosed g) (sym (closed_same g (after_rounds g k) closed)) closed)
      | inr grew ↦
          elim (cases_lt (count_of (after_rounds g k) g.blocks) (count_of (after_rounds g (suc k)) g.blocks)) [
            | inl more ↦ inr (omega (arith, grew, more))
            | inr few ↦
                let closed : IsClosed g (after_rounds g k) = λ n short.
                count_same (after_rounds g k) (after_rounds g (suc k)) g.blocks n (λ m e. or_left (after_rounds g k m) (falls_short g (after_rounds g k) m) e) few (short_there g (after_rounds g k) n rules short)
                (or_right (after_rounds g k n) (falls_short g (after_rounds g k) n) short) in
                inl (subst (IsClosed g) (sym (closed_same g (after_rounds g k) closed)) closed)
          ]
    ]

pub least_closed : (g : Graph) → IsGraph g → IsClosed g (least g)
least_closed g rules =
    elim (rounds_end g rules (length g.blocks)) [
      | inl closed ↦ closed
      | inr full ↦ λ n short. count_all (least g) g.blocks n full (short_there g (least g) n rules short)
    ]

pub least_is_least : (g : Graph) → IsGraph g → IsLeastWidening g (least g)
least_is_least g rules = record {
  valid = closed_valid g (least g) rules (rounds_branches g rules (length g.blocks)) (least_closed g rules);
  least = λ T valid. rounds_within g T rules valid (length g.blocks);
}

-- once a round adds nothing, no later one does
pub rounds_stay : (g : Graph) (k m j : ℕ) → j ≡ m + k → IsClosed g (after_rounds g k) → after_rounds g j ≡ after_rounds g k
rounds_stay g k zero j e closed = let same : j ≡ k = omega (arith, e) in ap (after_rounds g) same
rounds_stay g k (suc m) j e closed =
    let one = rounds_stay g k m (m + k) refl closed in
    let next : j ≡ suc (m + k) = omega (arith, e) in
    let grew : after_rounds g (suc (m + k)) ≡ (λ n. grown g (after_rounds g k) n) = λ i n. grown g (one i) n in
    ap (after_rounds g) next ∙ grew ∙ closed_same g (after_rounds g k) closed
