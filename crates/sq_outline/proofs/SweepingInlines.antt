-- A sweep of row O4: bodies in place of calls, with one look at reach in the end.
use Rattle.std.proofs.Common.{◌≡◌, ◌≤◌, ◌<◌, ℕ, ◌+◌, ◌==◌, false, List, [], ◌∷◌, map, length, slice_set, replicate, Some, inl, inr, ⊎_elim, refl, sym, ap, ◌∙◌, subst, arith, length-append}
use Rattle.std.specs.List.{slice_get}
use Rattle.std.proofs.lemmas.Bool.{cases_Bool, cases_eq}
use Rattle.std.proofs.lemmas.List.{length-map, length-replicate}
use Rattle.sq_arena.specs.Entries.{value_of}
use Rattle.sq_graph.specs.declared.fates.Fate.{Fate}
use Rattle.sq_graph.specs.declared.fates.Fate.TheVariants.{Stays, Joins, Inlined}
use Rattle.sq_graph.specs.Fates.{number_among, settled}
use Rattle.sq_num.specs.declared.packed.Savings.{Savings}
use Rattle.sq_num.specs.Saved.{words_saved}
use Rattle.sq_graph.specs.declared.item.Item.{Item}
use Rattle.sq_graph.specs.Graph.{Block, Graph}
use Rattle.sq_graph.specs.Blocks.{named, HasProcedure, block_term, body_of}
use Rattle.sq_graph.specs.Leaders.{has_no_items, IsCanonical}
use Rattle.sq_graph.specs.Places.{IsInReach}
use Rattle.sq_graph.specs.Renames.{recalled_item, recalled_items, recalled_block, lowered}
use Rattle.sq_graph.specs.Rules.{IsGraph}
use Rattle.sq_graph.specs.Words.{words_of}
use Rattle.sq_layout.specs.Shrinks.{IsShrunk, Shrinks, nothing, kept}
use Rattle.sq_layout.proofs.Shrinking.{shrunk_in_reach}
use Rattle.sq_pass.specs.declared.cut.Row.TheVariants.{O4}
use Rattle.sq_pass.specs.Counted.{counted}
use Rattle.sq_pass.proofs.Rewriting.{rewritten_itself, rewritten_through}
use Rattle.sq_outline.specs.Candidates.{IsCandidate, described}
use Rattle.sq_outline.specs.Inlined.{is_call, spread, spread_block, inlined_all, WouldSave, IsInlinable, inline_cut}
use Rattle.sq_outline.specs.InlineSweeps.{IsTried}
use Rattle.sq_outline.proofs.Inlining.{inlined_all_rules, inline_applied, inline_words}
use Rattle.sq_outline.proofs.Ranks.{got_fate, set_here, set_apart, length_set, all_stay, none_joins}
use Rattle.sq_outline.proofs.SettledOnce.{IsNext, settled_none, rank_there, body_same, inlined_once, count_same}
use Rattle.sq_outline.proofs.Sweeping.{applied_rewritten}
use Rattle.sq_outline.proofs.Undone.{with_items, inlined_canonical}

-- BLOCKS THAT GREW

some_items : (items : List Item) → 0 < length items → has_no_items items ≡ false
some_items [] some = absurd (omega (arith, some))
some_items (x ∷ items) some = refl

spread_longer : (p : ℕ) (body : List Item) → 0 < length body → (items : List Item) → length items ≤ length (spread p body items)
spread_longer p body some [] = omega arith
spread_longer p body some (x ∷ items) =
    let rest = spread_longer p body some items in
    elim (cases_Bool (is_call p x)) [
      | inl own ↦ rw own (omega (arith, length-append body (spread p body items), some, rest))
      | inr other ↦ rw other (omega (arith, rest))
    ]

block_shrinks : (p : ℕ) (body : List Item) → 0 < length body → (b : Block) → IsShrunk (recalled_block (lowered p) (spread_block p body b)) b
block_shrinks p body some b =
    let longer : length b.items ≤ length (recalled_items (lowered p) (spread p body b.items)) =
    omega (arith, spread_longer p body some b.items, length-map (spread p body b.items) (recalled_item (lowered p))) in
    record { name = refl; words = omega (arith, longer); branch = λ is. (is, longer) }

blocks_shrink : (p : ℕ) (body : List Item) → 0 < length body → (bs : List Block) → Shrinks (map (recalled_block (lowered p)) (map (spread_block p body) bs)) bs
blocks_shrink p body some [] = nothing
blocks_shrink p body some (b ∷ bs) = kept (recalled_block (lowered p) (spread_block p body b)) b (block_shrinks p body some b) (blocks_shrink p body some bs)

term_same : (f : List Item → List Item) (bs : List Block) (n : ℕ) → block_term (value_of (named (map (with_items f) bs)) n) ≡ block_term (value_of (named bs) n)
term_same f [] n = refl
term_same f (b ∷ bs) n = elim (cases_Bool (b.name == n)) [ inl here ↦ rw here refl | inr apart ↦ rw apart (term_same f bs n) ]

-- where each Branch reaches once the body stands in place of calls, each did before
near_before : (g : Graph) (p : ℕ) → IsGraph g → 0 < length (body_of g p) → HasProcedure g p → IsInReach (inlined_all g p) → IsInReach g
near_before g p rules some there reach =
    let body = body_of g p in
    let rules' = inlined_all_rules g p rules there in
    shrunk_in_reach (inlined_all g p) g rules'.distinct rules.distinct (blocks_shrink p body some g.blocks)
    (λ n cond a b to e. inl (cond, a, b, term_same (recalled_items (lowered p)) (map (spread_block p body) g.blocks) n ∙ term_same (spread p body) g.blocks n ∙ e))
    reach

-- REWRITES

pub tried_itself : (savings : Savings) (g : Graph) → IsCanonical g → IsTried savings savings g g
tried_itself savings g canonical = record {
  canonical = canonical;
  fewer = omega arith;
  words = refl;
  near = λ reach. reach;
  rewritten = λ reach. rewritten_itself IsCandidate described savings g canonical;
}

pub tried_through : (before at after : Savings) (old mid new : Graph) → IsTried before at old mid → IsTried at after mid new → IsTried before after old new
tried_through before at after old mid new a b = record {
  canonical = b.canonical;
  fewer = omega (arith, a.fewer, b.fewer);
  words = omega (arith, a.words, b.words);
  near = λ reach. a.near (b.near reach);
  rewritten = λ reach. rewritten_through IsCandidate described before at after old mid new (a.rewritten (b.near reach)) (b.rewritten reach);
}

inlinable : (g : Graph) (p saving : ℕ) → WouldSave g p saving → IsInReach (inlined_all g p) → IsInlinable g p saving
inlinable g p saving would reach = record { there = would.there; called = would.called; saved = would.saved; some = would.some; near = reach }

module _ (g : Graph) (p saving : ℕ) (rules : IsGraph g) (would : WouldSave g p saving) where
  -- a body of some items takes the place of its calls
  pub tried_once : (h : Graph) (before after : Savings) → h ≡ inlined_all g p → 0 < length (body_of g p) → IsCanonical g → after ≡ counted before O4 saving → IsTried before after g h
  tried_once h before after is some canonical counts =
      let still : IsCanonical (inlined_all g p) = inlined_canonical g p (some_items (body_of g p) some) would.called canonical in
      let words = inline_words g p saving rules would in
      let total : words_saved after ≡ words_saved before + saving = ap words_saved counts ∙ omega arith in
      subst (IsTried before after g) (sym is)
      (record {
        canonical = still;
        fewer = omega (arith, words);
        words = omega (arith, words, total);
        near = near_before g p rules some would.there;
        rewritten = λ reach.
            applied_rewritten g (inlined_all g p) (inline_cut p saving) before after
            (record { procedure = p; saving = saving; inlinable = inlinable g p saving would reach; is = refl })
            (inline_applied g p saving rules (inlinable g p saving would reach)) still counts;
      })

-- MANY

-- the procedures below p have their fates
pub record Tries (g : Graph) (p : ℕ) (fates : List Fate) (before after : Savings) : Type 0 where
  pub many : length fates ≡ length g.procedures
  pub later : (q : ℕ) → p ≤ q → q < length fates → slice_get fates q ≡ Some Stays
  pub none : (q o : ℕ) → ¬ (slice_get fates q ≡ Some (Joins o))
  pub rules : IsGraph (settled fates g)
  pub tried : IsTried before after g (settled fates g)

pub tries_none : (g : Graph) (savings : Savings) → IsGraph g → IsCanonical g → Tries g 0 (replicate (length g.procedures) Stays) savings savings
tries_none g savings rules canonical =
    let same = settled_none g rules in
    record {
      many = length-replicate (length g.procedures) Stays;
      later = λ q above below. all_stay (length g.procedures) q (omega (arith, below, length-replicate (length g.procedures) Stays));
      none = none_joins (length g.procedures);
      rules = subst IsGraph (sym same) rules;
      tried = subst (IsTried savings savings g) (sym same) (tried_itself savings g canonical);
    }

module _ (g : Graph) (p : ℕ) (fates : List Fate) (before after : Savings) (tries : Tries g p fates before after) where
  pub tries_skip : Tries g (p + 1) fates before after
  tries_skip = record {
    many = tries.many;
    later = λ q above below. tries.later q (omega (arith, above)) below;
    none = tries.none;
    rules = tries.rules;
    tried = tries.tried;
  }

  module _ (saving : ℕ) (rules : IsGraph g) (would : WouldSave g p saving) (some : 0 < length (body_of g p)) where
    next : IsNext g fates p
    next = record {
      many = tries.many;
      here = tries.later p (omega arith) (omega (arith, would.there, tries.many));
      joined = λ q o is. absurd (tries.none q o is);
    }

    still_would : WouldSave (settled fates g) (number_among fates p) saving
    still_would =
        let count = count_same g rules fates p next in
        let body = body_same g rules fates p next p next.here in
        record {
          there = rank_there g rules fates p next p next.here;
          called = omega (arith, would.called, count);
          saved = rw (count, body) would.saved;
          some = would.some;
        }

    pub tries_inline : (after' : Savings) → after' ≡ counted after O4 saving → Tries g (p + 1) (slice_set fates p Inlined) before after'
    tries_inline after' counts =
        let is = inlined_once g rules fates p next in
        let body = body_same g rules fates p next p next.here in
        record {
          many = length_set fates p Inlined ∙ tries.many;
          later = λ q above below. set_apart fates p q Inlined (omega (arith, above)) ∙ tries.later q (omega (arith, above)) (omega (arith, below, length_set fates p Inlined));
          none = λ q o joins. ⊎_elim (λ same. set_inlined q o same joins) (λ other. tries.none q o (sym (set_apart fates p q Inlined other) ∙ joins)) (cases_eq q p);
          rules = subst IsGraph (sym is) (inlined_all_rules (settled fates g) (number_among fates p) tries.rules still_would.there);
          tried =
              tried_through before after after' g (settled fates g) (settled (slice_set fates p Inlined) g) tries.tried
              (tried_once (settled fates g) (number_among fates p) saving tries.rules still_would (settled (slice_set fates p Inlined) g) after after' is (omega (arith, some, ap (λ (items : List Item). length items) body)) tries.tried.canonical counts);
        }
      where
        set_inlined : (q o : ℕ) → q ≡ p → slice_get (slice_set fates p Inlined) q ≡ Some (Joins o) → ⊥
        set_inlined q o same joins =
            let mine : Inlined ≡ Joins o = sym (set_here fates p Inlined (omega (arith, would.there, tries.many))) ∙ got_fate (slice_set fates p Inlined) p (Joins o) (ap (slice_get (slice_set fates p Inlined)) (sym same) ∙ joins) in
            cc
