-- What is seen around an address, by a walk over the blocks near it.
use Rattle.std.proofs.Common.{◌≡◌, ◌⊎◌, ℕ, ◌+◌, ◌*◌, ◌≤◌, ◌<◌, ◌^◌, ◌==◌, true, nat_le, nat_lt, List, [], ◌∷◌, length, Option, None, Some, is_some, inl, inr, refl, sym, ap, ◌∙◌, subst, arith}
use Rattle.std.specs.Prelude.{option_map}
use Rattle.std.proofs.lemmas.Bool.{cases_Bool, and_parts, and_from, leb-true, le-leb, ltb-true, ltb-false, eqb-true}
use Rattle.sq_arena.specs.Entries.{ContainsKey, value_of, before}
use Rattle.sq_arena.proofs.EntriesLemmas.{some_value}
use Rattle.sq_graph.specs.declared.item.Term.TheVariants.{Branch}
use Rattle.sq_graph.specs.Graph.{Block, Graph}
use Rattle.sq_graph.specs.Blocks.{named, HasBlock, block_of, block_items, block_term, items_of, term_of, next_of}
use Rattle.sq_graph.specs.Rules.{IsGraph}
use Rattle.sq_graph.specs.Words.{term_words, block_words, words_of}
use Rattle.sq_layout.specs.Branches.{BranchReaches}
use Rattle.sq_layout.specs.Weights.{address_by}
use Rattle.sq_layout.proofs.Shrinking.{reach_is}
use Rattle.sq_layout.proofs.Weighing.{by_words}
use Rattle.sq_lookup.proofs.Previous.{next_there}
use Rattle.sq_lookup.proofs.Sizes.{addresses_small}
use Rattle.sq_lookup.proofs.Targets.{has_term}
use Rattle.sq_chain.specs.Around.{IsFar}
use Rattle.sq_chain.specs.Least.{is_near, stands_at}
use Rattle.sq_chain.specs.Seams.{size}
use Rattle.sq_chain.specs.Surveys.{extent_of}
use Rattle.sq_chain.specs.Widening.{EndsInBranch}
use Rattle.sq_chain.specs.declared.survey.Extent.{Extent}
use Rattle.sq_chain.proofs.Ahead.{before_next, next_ahead, last_ahead, not_ahead}
use Rattle.sq_chain.proofs.Exchanging.{start_is, end_is}
use Rattle.sq_chain.proofs.Reordered.{some_or_none}
use Rattle.sq_chain.proofs.Shortness.{reaches_near, stands_there}
use Rattle.sq_chain.proofs.Surveyed.{extent_here}

-- HOW FAR

-- a Branch and its target that stay as far apart
pub near_on : (from to from' to' items : ℕ) → from' + to ≡ to' + from → is_near (from + items) to ≡ true → is_near (from' + items) to' ≡ true
near_on from to from' to' items same near =
    let both = and_parts (nat_le (from + items) (to + 4096)) (nat_le to (from + items + 4094)) near in
    let ahead = leb-true (from + items) (to + 4096) both.0 in
    let back = leb-true to (from + items + 4094) both.1 in
    and_from (nat_le (from' + items) (to' + 4096)) (nat_le to' (from' + items + 4094)) (le-leb (from' + items) (to' + 4096) (omega (arith, same, ahead))) (le-leb to' (from' + items + 4094) (omega (arith, same, back)))

pub near_is : (g : Graph) (from to : ℕ) → HasBlock g from → HasBlock g to → BranchReaches g from to → is_near (stands_at block_words g from + 4 * length (items_of g from)) (stands_at block_words g to) ≡ true
near_is g from to has there reach =
    let x : ℕ = stands_at block_words g from in
    let y : ℕ = stands_at block_words g to in
    reaches_near (x + 4 * length (items_of g from)) y
    ((reach_is g from to x y (length (items_of g from)) (sym (by_words g.blocks 0 from) ∙ stands_there block_words g from has) (sym (by_words g.blocks 0 to) ∙ stands_there block_words g to there) refl).0 reach)

pub less_or : (a b : ℕ) → (a < b) ⊎ (b ≤ a)
less_or a b = elim (cases_Bool (nat_lt a b)) [ inl less ↦ inl (ltb-true a b less) | inr more ↦ inr (ltb-false a b more) ]

-- WHAT THE WORDS OF A BLOCK TELL

pub stands_small : (g : Graph) (n : ℕ) → words_of g < 2 ^ 31 → stands_at block_words g n < 2 ^ 34
stands_small g n few = addresses_small (λ m. address_by block_words g.blocks 0 m) g (λ m. by_words g.blocks 0 m) few n

-- the block that an extent is of
pub block_by : (g : Graph) (n : ℕ) (e : Extent) → option_map extent_of (block_of g n) ≡ Some e → (b : Block) × ((block_of g n ≡ Some b) × (extent_of b ≡ e))
block_by g n e told = by_block (block_of g n) refl told
  where
    by_block : (o : Option Block) → block_of g n ≡ o → option_map extent_of o ≡ Some e → (b : Block) × ((block_of g n ≡ Some b) × (extent_of b ≡ e))
    by_block None is told = absurd (cc)
    by_block (Some b) is told = (b, (is, extent_here g n b e is (ap (option_map extent_of) is ∙ told)))

pub name_by : (g : Graph) (n : ℕ) (e : Extent) → option_map extent_of (block_of g n) ≡ Some e → e.name ≡ n
name_by g n e told = let b = block_by g n e told in sym (ap (λ (x : Extent). x.name) b.1.1) ∙ named_so g.blocks b.0 b.1.0
  where
    named_so : (bs : List Block) (b : Block) → value_of (named bs) n ≡ Some b → b.name ≡ n
    named_so [] b found = absurd (cc)
    named_so (x ∷ bs) b found =
        elim (cases_Bool (x.name == n)) [
          | inl here ↦
              let is : Some x ≡ Some b = rw here at found in
              let same : x ≡ b = cc in
              sym (ap (λ (y : Block). y.name) same) ∙ eqb-true x.name n here
          | inr apart ↦ named_so bs b (rw apart at found)
        ]

pub term_by : (g : Graph) (n : ℕ) (e : Extent) → option_map extent_of (block_of g n) ≡ Some e → term_of g n ≡ Some e.term
term_by g n e told = let b = block_by g n e told in ap block_term b.1.0 ∙ ap (λ (x : Extent). Some x.term) b.1.1

pub items_by : (g : Graph) (n : ℕ) (e : Extent) → option_map extent_of (block_of g n) ≡ Some e → length (items_of g n) + term_words e.term ≡ e.words
items_by g n e told =
    let b = block_by g n e told in
    omega (arith, ap (λ (o : Option Block). length (block_items o)) b.1.0, ap (λ (x : Extent). term_words x.term) b.1.1, ap (λ (x : Extent). x.words) b.1.1)

-- where the next one stands
pub next_stands : (g : Graph) → IsGraph g → (c d : ℕ) (e : Extent) → next_of g c ≡ Some d → option_map extent_of (block_of g c) ≡ Some e → stands_at block_words g d ≡ stands_at block_words g c + 4 * e.words
next_stands g rules c d e next told =
    let b = block_by g c e told in
    let has : HasBlock g c = ap is_some b.1.0 in
    let there = some_value (block_of g d) (next_there g.blocks c d next) in
    omega (
      arith,
      end_is g rules c b.0 b.1.0 (λ m. address_by block_words g.blocks 0 m) (λ m. refl),
      start_is g rules d there.0 there.1 (λ m. address_by block_words g.blocks 0 m) (λ m. refl),
      ap size (before_next g rules c has d next),
      ap (λ (x : Extent). x.words) b.1.1,
    )

-- A WALK

module _ (g : Graph) (P : ℕ → Type 0) (rules : IsGraph g) where
  -- each Branch before this block is seen
  abbrev pub IsSeenBefore : ℕ → ℕ → Type 0
  IsSeenBefore seam block = (n : ℕ) → EndsInBranch g n → ContainsKey (before (named g.blocks) block) n → P n ⊎ IsFar g seam n

  module _ (seam block : ℕ) (has : HasBlock g block) (seen : (n : ℕ) → EndsInBranch g n → ContainsKey (before (named g.blocks) block) n → P n ⊎ IsFar g seam n) where
    module _ (own : P block) where
      seen_too : (n : ℕ) → EndsInBranch g n → ContainsKey (before (named g.blocks) block) n ⊎ (block ≡ n) → P n ⊎ IsFar g seam n
      seen_too n branch (inl ahead) = seen n branch ahead
      seen_too n branch (inr same) = inl (subst P same own)

      pub next_seen : (next : ℕ) → next_of g block ≡ Some next → (n : ℕ) → EndsInBranch g n → ContainsKey (before (named g.blocks) next) n → P n ⊎ IsFar g seam n
      next_seen next is n branch ahead = seen_too n branch (next_ahead g rules block has next n is ahead)

      pub last_seen : next_of g block ≡ None → (n : ℕ) → EndsInBranch g n → P n ⊎ IsFar g seam n
      last_seen none n branch = seen_too n branch (last_ahead g rules block has n none (has_term g n (Branch branch.cond branch.a branch.b branch.to) branch.is))

    pub far_seen : seam + 4096 < stands_at block_words g block → (n : ℕ) → EndsInBranch g n → P n ⊎ IsFar g seam n
    far_seen far n branch =
        elim (some_or_none (ahead n)) [
          | inl some ↦ seen n branch some
          | inr none ↦ inr (inr (omega (arith, far, not_ahead g rules block has n (has_term g n (Branch branch.cond branch.a branch.b branch.to) branch.is) (λ some. cc (none, some)))))
        ]
      where
        ahead : ℕ → Option Block
        ahead n = value_of (before (named g.blocks) block) n
