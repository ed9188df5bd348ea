-- The blocks of a graph in which Branches are widened.
use Rattle.std.proofs.Common.{◌≡◌, ◌≢◌, ℕ, ◌+◌, ◌*◌, ◌==◌, Bool, true, false, if◌then◌else◌, List, [], ◌∷◌, ◌++◌, sum_by, None, Some, IsSome, inl, inr, refl, sym, ap, ◌∙◌, subst, arith}
use Rattle.std.specs.List.{AllByRecursion}
use Rattle.std.proofs.lemmas.Bool.{cases_Bool, eqb-true, eqb-false, ne_eqb, both_ways}
use Rattle.std.proofs.lemmas.List.Sums.{sum_by-cons}
use Rattle.sq_arena.specs.Entries.{HasDistinctKeys, value_of, first_key, next_key}
use Rattle.sq_arena.proofs.EntriesLaws.{distinct_back}
use Rattle.sq_isa.specs.Branches.{inverse_of}
use Rattle.sq_graph.specs.declared.item.Term.{Term}
use Rattle.sq_graph.specs.declared.item.Term.TheVariants.{Fall, Jump, Branch, Call, PartJump, Indirect, Stop}
use Rattle.sq_graph.specs.Graph.{Block, Graph}
use Rattle.sq_graph.specs.Blocks.{named, HasBlock, block_of}
use Rattle.sq_graph.specs.Operations.{IsNew, with_blocks}
use Rattle.sq_graph.specs.Places.{address_in}
use Rattle.sq_graph.specs.Rules.{last_goes_on}
use Rattle.sq_graph.specs.Terms.{goes_on}
use Rattle.sq_graph.specs.Words.{term_words, block_words}
use Rattle.sq_graph.proofs.Kept.{absent_behind}
use Rattle.sq_layout.specs.Shrinks.{IsBranch}
use Rattle.sq_layout.specs.Weights.{address_by}
use Rattle.sq_chain.specs.Widening.{swollen, jumped_over, over_jump, widened_blocks}
use Rattle.sq_chain.proofs.Rounds.{count_of, count_yes, count_no}

-- each block in the set ends in a Branch
abbrev pub AreBranches : (ℕ → Bool) → List Block → Type 0
AreBranches S bs = AllByRecursion (λ b. S b.name ≡ true → IsBranch b.term) bs

-- the new block behind each block of the set has another name
abbrev pub AreApart : (ℕ → ℕ) → (ℕ → Bool) → ℕ → List Block → Type 0
AreApart new S n bs = AllByRecursion (λ b. S b.name ≡ true → new b.name ≢ n) bs

-- no block has a name that is new
pub not_new : (g : Graph) (new n : ℕ) → IsNew g new → HasBlock g n → n ≢ new
not_new g new n e has same = let some : IsSome (block_of g new) = subst (HasBlock g) same has in absurd (cc)

branch_goes_on : (t : Term) → IsBranch t → goes_on t ≡ true
branch_goes_on Fall is = absurd is
branch_goes_on (Jump to) is = absurd is
branch_goes_on (Branch cond a b to) is = refl
branch_goes_on (Call link to) is = absurd is
branch_goes_on (PartJump link part to) is = absurd is
branch_goes_on (Indirect link at offset) is = absurd is
branch_goes_on (Stop word) is = absurd is

branch_word : (t : Term) → IsBranch t → term_words t ≡ 1
branch_word Fall is = absurd is
branch_word (Jump to) is = absurd is
branch_word (Branch cond a b to) is = refl
branch_word (Call link to) is = absurd is
branch_word (PartJump link part to) is = absurd is
branch_word (Indirect link at offset) is = absurd is
branch_word (Stop word) is = absurd is

-- the last block isn't in the set
pub last_out : (S : ℕ → Bool) (b : Block) → AreBranches S (b ∷ []) → last_goes_on (b ∷ []) ≡ false → S b.name ≡ false
last_out S b are ends =
    elim (cases_Bool (S b.name)) [
      | inl listed ↦ absurd (both_ways (goes_on b.term) ends (branch_goes_on b.term (are.0 listed)))
      | inr absent ↦ absent
    ]

-- WORDS

over_words : (new next : ℕ) (b : Block) (t : Term) (more : List Block) → b.term ≡ t → IsBranch t → sum_by block_words (jumped_over new next b t ++ more) ≡ block_words b + (1 + sum_by block_words more)
over_words new next b Fall more e is = absurd is
over_words new next b (Jump to) more e is = absurd is
over_words new next b (Branch cond x y to) more e is =
    let turned : Block = record b { term = Branch (inverse_of cond) x y next } in
    let jump : Block = record { name = new; items = []; term = Jump to } in
    omega (arith, sum_by-cons block_words turned (jump ∷ more), sum_by-cons block_words jump more, ap term_words e)
over_words new next b (Call link to) more e is = absurd is
over_words new next b (PartJump link part to) more e is = absurd is
over_words new next b (Indirect link at offset) more e is = absurd is
over_words new next b (Stop word) more e is = absurd is

-- one block at a time
pub widened_in : (new : ℕ → ℕ) (S : ℕ → Bool) (b next : Block) (rest : List Block) → S b.name ≡ true → widened_blocks new S (b ∷ next ∷ rest) ≡ over_jump (new b.name) next.name b ++ widened_blocks new S (next ∷ rest)
widened_in new S b next rest e = ap (λ t. (if t then over_jump (new b.name) next.name b else b ∷ []) ++ widened_blocks new S (next ∷ rest)) e

pub widened_out : (new : ℕ → ℕ) (S : ℕ → Bool) (b next : Block) (rest : List Block) → S b.name ≡ false → widened_blocks new S (b ∷ next ∷ rest) ≡ b ∷ widened_blocks new S (next ∷ rest)
widened_out new S b next rest e = ap (λ t. (if t then over_jump (new b.name) next.name b else b ∷ []) ++ widened_blocks new S (next ∷ rest)) e

-- each Branch in the set takes a word more
pub widened_words : (new : ℕ → ℕ) (S : ℕ → Bool) (bs : List Block) → AreBranches S bs → last_goes_on bs ≡ false → sum_by block_words (widened_blocks new S bs) ≡ sum_by block_words bs + count_of S bs
widened_words new S [] are ends = omega arith
widened_words new S (b ∷ []) are ends = omega (arith, count_no S b [] (last_out S b are ends))
widened_words new S (b ∷ next ∷ rest) are ends =
    let later = widened_words new S (next ∷ rest) are.1 ends in
    let all = sum_by-cons block_words b (next ∷ rest) in
    elim (cases_Bool (S b.name)) [
      | inl listed ↦
          let is = ap (sum_by block_words) (widened_in new S b next rest listed) in
          omega (arith, is, later, all, count_yes S b (next ∷ rest) listed, over_words (new b.name) next.name b b.term (widened_blocks new S (next ∷ rest)) refl (are.0 listed))
      | inr absent ↦
          let is = ap (sum_by block_words) (widened_out new S b next rest absent) in
          omega (arith, is, later, all, count_no S b (next ∷ rest) absent, sum_by-cons block_words b (widened_blocks new S (next ∷ rest)))
    ]

-- WHERE BLOCKS STAND

over_stands : (new next : ℕ) (b : Block) (t : Term) (more : List Block) (at n : ℕ) → b.term ≡ t → IsBranch t → new ≢ n → address_in (jumped_over new next b t ++ more) at n ≡ (if b.name == n then Some at else address_in more (at + 4 * (block_words b + 1)) n)
over_stands new next b Fall more at n e is apart = absurd is
over_stands new next b (Jump to) more at n e is apart = absurd is
over_stands new next b (Branch cond x y to) more at n e is apart =
    let other : (new == n) ≡ false = ne_eqb new n apart in
    let word : term_words b.term ≡ 1 = ap term_words e in
    elim (cases_Bool (b.name == n)) [
      | inl here ↦ rw here refl
      | inr differs ↦ rw (differs, other) (ap (λ k. address_in more k n) (omega (arith, word)))
    ]
over_stands new next b (Call link to) more at n e is apart = absurd is
over_stands new next b (PartJump link part to) more at n e is apart = absurd is
over_stands new next b (Indirect link at' offset) more at n e is apart = absurd is
over_stands new next b (Stop word) more at n e is apart = absurd is

-- each block that was there stands where it does when each Branch in the set counts one word more
pub widened_stands : (new : ℕ → ℕ) (S : ℕ → Bool) (bs : List Block) (at at' n : ℕ) → at ≡ at' → AreBranches S bs → AreApart new S n bs → address_in (widened_blocks new S bs) at n ≡ address_by (swollen S) bs at' n
widened_stands new S [] at at' n e are apart = refl
widened_stands new S (b ∷ []) at at' n e are apart = ap (λ k. if b.name == n then Some k else None) e
widened_stands new S (b ∷ next ∷ rest) at at' n e are apart =
    elim (cases_Bool (S b.name)) [
      | inl listed ↦
          rw listed
          (over_stands (new b.name) next.name b b.term (widened_blocks new S (next ∷ rest)) at n refl (are.0 listed) (apart.0 listed)
          ∙ ap (λ k. if b.name == n then Some k else address_in (widened_blocks new S (next ∷ rest)) (at + 4 * (block_words b + 1)) n) e
          ∙ ap (λ o. if b.name == n then Some at' else o) (widened_stands new S (next ∷ rest) (at + 4 * (block_words b + 1)) (at' + 4 * (block_words b + 1)) n (omega (arith, e)) are.1 apart.1))
      | inr absent ↦
          rw absent
          (ap (λ k. if b.name == n then Some k else address_in (widened_blocks new S (next ∷ rest)) (at + 4 * block_words b) n) e
          ∙ ap (λ o. if b.name == n then Some at' else o) (widened_stands new S (next ∷ rest) (at + 4 * block_words b) (at' + 4 * (block_words b + 0)) n (omega (arith, e)) are.1 apart.1))
    ]

-- ONE BRANCH MORE

-- sets that agree on these blocks, with new names that agree on those in the set
abbrev pub Agree : (ℕ → ℕ) → (ℕ → ℕ) → (ℕ → Bool) → (ℕ → Bool) → List Block → Type 0
Agree new new' S S' bs = AllByRecursion (λ b. (S b.name ≡ S' b.name) × (S b.name ≡ true → new b.name ≡ new' b.name)) bs

pub widened_same : (new new' : ℕ → ℕ) (S S' : ℕ → Bool) (bs : List Block) → Agree new new' S S' bs → widened_blocks new S bs ≡ widened_blocks new' S' bs
widened_same new new' S S' [] agree = refl
widened_same new new' S S' (b ∷ []) agree = refl
widened_same new new' S S' (b ∷ next ∷ rest) agree =
    let later = widened_same new new' S S' (next ∷ rest) agree.1 in
    elim (cases_Bool (S b.name)) [
      | inl listed ↦
          let listed' : S' b.name ≡ true = sym agree.0.0 ∙ listed in
          rw (listed, listed') (ap (λ k. over_jump k next.name b ++ widened_blocks new S (next ∷ rest)) (agree.0.1 listed) ∙ ap (λ bs. over_jump (new' b.name) next.name b ++ bs) later)
      | inr absent ↦ let absent' : S' b.name ≡ false = sym agree.0.0 ∙ absent in rw (absent, absent') (ap (λ bs. b ∷ bs) later)
    ]

over_passes : (f : Block → List Block) (new next : ℕ) (b : Block) (t : Term) (more : List Block) (n : ℕ) → (b.name == n) ≡ false → new ≢ n → with_blocks f (jumped_over new next b t ++ more) n ≡ jumped_over new next b t ++ with_blocks f more n
over_passes f new next b Fall more n apart differs = rw apart refl
over_passes f new next b (Jump to) more n apart differs = rw apart refl
over_passes f new next b (Branch cond x y to) more n apart differs = let other : (new == n) ≡ false = ne_eqb new n differs in rw (apart, other) refl
over_passes f new next b (Call link to) more n apart differs = rw apart refl
over_passes f new next b (PartJump link part to) more n apart differs = rw apart refl
over_passes f new next b (Indirect link at offset) more n apart differs = rw apart refl
over_passes f new next b (Stop word) more n apart differs = rw apart refl

-- where no block has the name, sets agree that differ there alone
agree_apart : (new : ℕ → ℕ) (S S' : ℕ → Bool) (n : ℕ) → ((m : ℕ) → m ≢ n → S' m ≡ S m) → (bs : List Block) → value_of (named bs) n ≡ None → Agree new new S S' bs
agree_apart new S S' n others [] none = tt
agree_apart new S S' n others (b ∷ bs) none =
    elim (cases_Bool (b.name == n)) [
      | inl here ↦ absurd (cc (rw here at none))
      | inr apart ↦ ((sym (others b.name (eqb-false b.name n apart)), λ listed. refl), agree_apart new S S' n others bs (rw apart at none))
    ]

-- a set with one Branch more
pub one_wider : (new : ℕ → ℕ) (S S' : ℕ → Bool) (bs : List Block) (n next : ℕ) → S n ≡ false → S' n ≡ true → ((m : ℕ) → m ≢ n → S' m ≡ S m) → HasDistinctKeys (named bs) → next_key (named bs) n ≡ Some next → AreApart new S n bs → with_blocks (over_jump (new n) next) (widened_blocks new S bs) n ≡ widened_blocks new S' bs
one_wider new S S' [] n next out within others distinct slot apart = absurd (cc)
one_wider new S S' (b ∷ []) n next out within others distinct slot apart =
    elim (cases_Bool (b.name == n)) [ inl here ↦ absurd (cc (rw here at slot)) | inr differs ↦ absurd (cc (rw differs at slot)) ]
one_wider new S S' (b ∷ c ∷ rest) n next out within others distinct slot apart =
    elim (cases_Bool (b.name == n)) [
      | inl here ↦
          let same = eqb-true b.name n here in
          let out' : S b.name ≡ false = subst (λ k. S k ≡ false) (sym same) out in
          let within' : S' b.name ≡ true = subst (λ k. S' k ≡ true) (sym same) within in
          let slot' : Some c.name ≡ Some next = rw here at slot in
          let next_is : next ≡ c.name = cc in
          let none : value_of (named (c ∷ rest)) n ≡ None = subst (λ k. value_of (named (c ∷ rest)) k ≡ None) same (absent_behind (b.name, b) (named (c ∷ rest)) distinct) in
          rw (out', within', here)
          (ap (λ k. over_jump k next b ++ widened_blocks new S (c ∷ rest)) (ap new (sym same))
          ∙ ap (λ k. over_jump (new b.name) k b ++ widened_blocks new S (c ∷ rest)) next_is
          ∙ ap (λ bs. over_jump (new b.name) c.name b ++ bs) (widened_same new new S S' (c ∷ rest) (agree_apart new S S' n others (c ∷ rest) none)))
      | inr differs ↦
          let stays : S' b.name ≡ S b.name = others b.name (eqb-false b.name n differs) in
          let later = one_wider new S S' (c ∷ rest) n next out within others (distinct_back ((b.name, b) ∷ []) (named (c ∷ rest)) distinct) (rw differs at slot) apart.1 in
          elim (cases_Bool (S b.name)) [
            | inl listed ↦
                let listed' : S' b.name ≡ true = stays ∙ listed in
                rw (listed, listed')
                (over_passes (over_jump (new n) next) (new b.name) c.name b b.term (widened_blocks new S (c ∷ rest)) n differs (apart.0 listed)
                ∙ ap (λ bs. over_jump (new b.name) c.name b ++ bs) later)
            | inr absent ↦ let absent' : S' b.name ≡ false = stays ∙ absent in rw (absent, absent', differs) (ap (λ bs. b ∷ bs) later)
          ]
    ]

-- WHAT STAYS

over_other : (new next : ℕ) (b : Block) (t : Term) (more : List Block) (n : ℕ) → (b.name == n) ≡ false → new ≢ n → value_of (named (jumped_over new next b t ++ more)) n ≡ value_of (named more) n
over_other new next b Fall more n apart differs = rw apart refl
over_other new next b (Jump to) more n apart differs = rw apart refl
over_other new next b (Branch cond x y to) more n apart differs = let other : (new == n) ≡ false = ne_eqb new n differs in rw (apart, other) refl
over_other new next b (Call link to) more n apart differs = rw apart refl
over_other new next b (PartJump link part to) more n apart differs = rw apart refl
over_other new next b (Indirect link at offset) more n apart differs = rw apart refl
over_other new next b (Stop word) more n apart differs = rw apart refl

over_next : (new next : ℕ) (b : Block) (t : Term) (more : List Block) (n : ℕ) → (b.name == n) ≡ false → new ≢ n → next_key (named (jumped_over new next b t ++ more)) n ≡ next_key (named more) n
over_next new next b Fall more n apart differs = rw apart refl
over_next new next b (Jump to) more n apart differs = rw apart refl
over_next new next b (Branch cond x y to) more n apart differs = let other : (new == n) ≡ false = ne_eqb new n differs in rw (apart, other) refl
over_next new next b (Call link to) more n apart differs = rw apart refl
over_next new next b (PartJump link part to) more n apart differs = rw apart refl
over_next new next b (Indirect link at offset) more n apart differs = rw apart refl
over_next new next b (Stop word) more n apart differs = rw apart refl

pub over_first : (new next : ℕ) (b : Block) (t : Term) (more : List Block) → first_key (named (jumped_over new next b t ++ more)) ≡ Some b.name
over_first new next b Fall more = refl
over_first new next b (Jump to) more = refl
over_first new next b (Branch cond x y to) more = refl
over_first new next b (Call link to) more = refl
over_first new next b (PartJump link part to) more = refl
over_first new next b (Indirect link at offset) more = refl
over_first new next b (Stop word) more = refl

-- the first block stays first
widened_first : (new : ℕ → ℕ) (S : ℕ → Bool) (b : Block) (bs : List Block) → first_key (named (widened_blocks new S (b ∷ bs))) ≡ Some b.name
widened_first new S b [] = refl
widened_first new S b (next ∷ rest) =
    elim (cases_Bool (S b.name)) [
      | inl listed ↦ rw listed (over_first (new b.name) next.name b b.term (widened_blocks new S (next ∷ rest)))
      | inr absent ↦ rw absent refl
    ]

-- a block that isn't in the set stays as it is
pub widened_block : (new : ℕ → ℕ) (S : ℕ → Bool) (bs : List Block) (n : ℕ) → S n ≡ false → AreApart new S n bs → value_of (named (widened_blocks new S bs)) n ≡ value_of (named bs) n
widened_block new S [] n out apart = refl
widened_block new S (b ∷ []) n out apart = refl
widened_block new S (b ∷ next ∷ rest) n out apart =
    let later = widened_block new S (next ∷ rest) n out apart.1 in
    elim (cases_Bool (b.name == n)) [
      | inl here ↦
          let absent : S b.name ≡ false = subst (λ k. S k ≡ false) (sym (eqb-true b.name n here)) out in
          rw (absent, here) refl
      | inr differs ↦
          elim (cases_Bool (S b.name)) [
            | inl listed ↦ rw (listed, differs) (over_other (new b.name) next.name b b.term (widened_blocks new S (next ∷ rest)) n differs (apart.0 listed) ∙ later)
            | inr absent ↦ rw (absent, differs) later
          ]
    ]

-- and keeps its next slot
pub widened_next : (new : ℕ → ℕ) (S : ℕ → Bool) (bs : List Block) (n : ℕ) → S n ≡ false → AreApart new S n bs → next_key (named (widened_blocks new S bs)) n ≡ next_key (named bs) n
widened_next new S [] n out apart = refl
widened_next new S (b ∷ []) n out apart = refl
widened_next new S (b ∷ next ∷ rest) n out apart =
    let later = widened_next new S (next ∷ rest) n out apart.1 in
    elim (cases_Bool (b.name == n)) [
      | inl here ↦
          let absent : S b.name ≡ false = subst (λ k. S k ≡ false) (sym (eqb-true b.name n here)) out in
          rw (absent, here) (widened_first new S next rest)
      | inr differs ↦
          elim (cases_Bool (S b.name)) [
            | inl listed ↦ rw (listed, differs) (over_next (new b.name) next.name b b.term (widened_blocks new S (next ∷ rest)) n differs (apart.0 listed) ∙ later)
            | inr absent ↦ rw (absent, differs) later
          ]
    ]
