-- A sweep: what joining two blocks adds to the rewrites before.
use Rattle.std.proofs.Common.{Result, Ok, Err, ◌≡◌, ◌≢◌, ℕ, ◌+◌, ◌-◌, ◌≤◌, false, List, [], ◌∷◌, length, sum_by, inl, refl, sym, ap, ◌∙◌, subst, arith}
use Rattle.std.specs.Prelude.{IfOk}
use Rattle.std.specs.List.{AllByRecursion}
use Rattle.std.proofs.lemmas.List.Elements.{recursion_from_All}
use Rattle.std.proofs.lemmas.List.Sums.{sum_by-cons}
use Rattle.sq_num.specs.declared.memory.Memory.{Memory}
use Rattle.sq_num.specs.declared.packed.Savings.{Savings}
use Rattle.sq_graph.specs.declared.item.Item.{Item}
use Rattle.sq_graph.specs.declared.item.Term.{Term}
use Rattle.sq_graph.specs.declared.item.Term.TheVariants.{Fall, Jump, Branch, Call, PartJump, Indirect, Stop}
use Rattle.sq_graph.specs.Graph.{Block, Graph}
use Rattle.sq_graph.specs.Blocks.{items_of}
use Rattle.sq_graph.specs.Canonical.{canonical_of}
use Rattle.sq_graph.specs.Leaders.{is_bare, IsCanonical}
use Rattle.sq_graph.specs.Places.{IsInReach}
use Rattle.sq_graph.specs.Resolve.{resolved_term_of}
use Rattle.sq_graph.specs.Room.{GraphAndRoom, IsSmall, sum_of, count_of, total_of}
use Rattle.sq_graph.specs.Rules.{IsGraph}
use Rattle.sq_graph.specs.Soundness.{IsSound}
use Rattle.sq_graph.specs.Words.{block_words, words_of, most_words}
use Rattle.sq_graph.proofs.CanonicalLaws.{canonical_is_canonical, canonical_keeps_words}
use Rattle.sq_graph.proofs.CanonicalReach.{canonical_in_reach}
use Rattle.law_follow.specs.Follows.{Follows}
use Rattle.law_follow.proofs.Following.{graph_follows_through}
use Rattle.law_patch.proofs.Joining.{canonical_follows, canonical_sound}
use Rattle.sq_pass.specs.declared.cut.Cut.{Cut}
use Rattle.sq_pass.specs.declared.cut.Row.TheVariants.{T}
use Rattle.sq_pass.specs.Applied.{IsApplied}
use Rattle.sq_pass.specs.Counted.{counted}
use Rattle.sq_pass.specs.Rewrites.{IsLighter, IsRewritten}
use Rattle.sq_pass.proofs.Rewriting.{rewrite_made, lighter_made, rewritten_once, rewritten_through}
use Rattle.sq_tail.specs.Candidates.{IsCandidate, described, one_block}
use Rattle.sq_tail.specs.Ends.{IsLongestEnd}
use Rattle.sq_tail.specs.StillDead.{IsJoinedWhole}
use Rattle.sq_tail.specs.Tails.{end_words, tail_cut, AreTails, fresh, joined, IsJoined}
use Rattle.sq_tail.proofs.Admitting.{tails_there, candidate_applied}
use Rattle.sq_tail.proofs.Cutting.{end_cut}
use Rattle.sq_tail.proofs.Naming.{fresh_is_new}

-- ROOM

some_word : (b : Block) → is_bare b ≡ false → 1 ≤ block_words b
some_word b e = go b.items b.term e
  where
    go : (items : List Item) (term : Term) → is_bare (record { name = b.name; items = items; term = term }) ≡ false → 1 ≤ block_words (record { name = b.name; items = items; term = term })
    go (item ∷ items) term e = omega arith
    go [] Fall e = absurd (cc)
    go [] (Jump to) e = omega arith
    go [] (Branch c a b to) e = omega arith
    go [] (Call link to) e = omega arith
    go [] (PartJump link part to) e = omega arith
    go [] (Indirect link at offset) e = omega arith
    go [] (Stop word) e = omega arith

few_blocks : (bs : List Block) → AllByRecursion (λ b. is_bare b ≡ false) bs → length bs ≤ sum_by block_words bs
few_blocks [] all = omega arith
few_blocks (b ∷ bs) all = omega (arith, few_blocks bs all.1, some_word b all.0, sum_by-cons block_words b bs)

-- a canonical graph of few words has room for a block more
pub room_for_one : (v : GraphAndRoom) → IsSmall (total_of v) → IsCanonical v.graph → words_of v.graph ≤ most_words → IsSmall (sum_of (count_of v.graph) one_block)
room_for_one v small canonical few =
    let blocks = few_blocks v.graph.blocks (recursion_from_All (λ b. is_bare b ≡ false) v.graph.blocks canonical.no_bare) in
    let items = small.items in
    let procedures = small.procedures in
    record { blocks = omega (arith, blocks, few); items = omega (arith, items); procedures = omega (arith, procedures) }

-- ONE REWRITE

-- the graph that a rewrite left, made canonical
made_lighter : (mid new : Graph) → IsGraph mid → new ≡ canonical_of mid → IsCanonical new → words_of new ≡ words_of mid → IsLighter 0 mid new
made_lighter mid new rules made canonical words = record {
  follows = subst (Follows mid) (sym made) (canonical_follows mid rules);
  sound = λ s. subst IsSound (sym made) (canonical_sound mid rules s);
  reach = λ r. subst IsInReach (sym made) (canonical_in_reach mid rules r);
  canonical = canonical;
  words = omega (arith, words);
}

cut_rewritten : (cut : Cut) (before : Savings) (g mid new : Graph) → IsCandidate g cut → IsApplied cut.saving (described g cut) g mid → new ≡ canonical_of mid → IsCanonical new → words_of new ≡ words_of mid → IsRewritten IsCandidate described before (counted before cut.row cut.saving) g new
cut_rewritten cut before g mid new candidate applied made canonical words =
    rewritten_once IsCandidate described before (record { row = cut.row; saving = cut.saving }) g new
    (rewrite_made IsCandidate described cut g mid new candidate applied made)
    (lighter_made cut.saving (described g cut) g mid new applied (made_lighter mid new applied.rules made canonical words))

-- the same of two blocks that are joined
pub pair_rewritten : (g mid new : Graph) (dropped kept n saving : ℕ) (before after : Savings) → IsGraph g → IsCandidate g (tail_cut g dropped kept n) → IsJoined g dropped kept n mid → new ≡ canonical_of mid → IsCanonical new → words_of new ≡ words_of mid → saving ≡ n - 1 + end_words g dropped → after ≡ counted before T saving → IsRewritten IsCandidate described before after g new
pair_rewritten g mid new dropped kept n saving before after rules candidate join made canonical words is counts =
    subst (λ s. IsRewritten IsCandidate described before s g new) (sym (counts ∙ ap (counted before T) is))
    (cut_rewritten (tail_cut g dropped kept n) before g mid new candidate (candidate_applied g mid (tail_cut g dropped kept n) dropped kept rules candidate refl join) made canonical words)

pub pair_applied : (g mid : Graph) (dropped kept n : ℕ) → IsGraph g → IsCandidate g (tail_cut g dropped kept n) → IsJoined g dropped kept n mid → IsApplied (tail_cut g dropped kept n).saving (described g (tail_cut g dropped kept n)) g mid
pair_applied g mid dropped kept n rules candidate join = candidate_applied g mid (tail_cut g dropped kept n) dropped kept rules candidate refl join

-- the same by the graph that they make
pub whole_follows : (g new : Graph) (dropped kept n : ℕ) → IsGraph g → IsCandidate g (tail_cut g dropped kept n) → IsJoinedWhole g dropped kept n new → Follows g new
whole_follows g new dropped kept n rules candidate (mid, (join, made)) =
    let applied = pair_applied g mid dropped kept n rules candidate join in
    graph_follows_through g mid new applied.follows (subst (Follows mid) (sym made) (canonical_follows mid applied.rules))

pub whole_canonical : (g new : Graph) (dropped kept n : ℕ) → IsGraph g → IsCandidate g (tail_cut g dropped kept n) → IsJoinedWhole g dropped kept n new → IsCanonical new
whole_canonical g new dropped kept n rules candidate (mid, (join, made)) =
    subst IsCanonical (sym made) (canonical_is_canonical mid (pair_applied g mid dropped kept n rules candidate join).rules)

pub whole_rewritten : (g new : Graph) (dropped kept n saving : ℕ) (before after : Savings) → IsGraph g → IsCandidate g (tail_cut g dropped kept n) → IsJoinedWhole g dropped kept n new → saving ≡ n - 1 + end_words g dropped → after ≡ counted before T saving → IsRewritten IsCandidate described before after g new
whole_rewritten g new dropped kept n saving before after rules candidate (mid, (join, made)) is counts =
    let applied = pair_applied g mid dropped kept n rules candidate join in
    pair_rewritten g mid new dropped kept n saving before after rules candidate join made (whole_canonical g new dropped kept n rules candidate (mid, (join, made))) (ap words_of made ∙ canonical_keeps_words mid applied.rules) is counts

pub pair_there : (g : Graph) (dropped kept n : ℕ) → IsCandidate g (tail_cut g dropped kept n) → AreTails g dropped kept n
pair_there g dropped kept n candidate = tails_there g (tail_cut g dropped kept n) dropped kept candidate refl

-- its saving is no more than the words of the graph
pub pair_words : (g : Graph) (dropped kept n : ℕ) → IsGraph g → IsCandidate g (tail_cut g dropped kept n) → n - 1 + end_words g dropped ≤ words_of g
pair_words g dropped kept n rules candidate =
    let applied = candidate_applied g (joined g (fresh g) dropped kept n) (tail_cut g dropped kept n) dropped kept rules candidate refl (fresh g, (fresh_is_new g, refl)) in
    omega (arith, applied.words)

-- WHAT IS PROPOSED

-- two blocks that go on alike, and their longest common end
pub end_candidate : (g : Graph) (dropped kept n : ℕ) → kept ≢ dropped → 1 ≤ n → IsLongestEnd (items_of g dropped) (items_of g kept) n → resolved_term_of g dropped ≡ resolved_term_of g kept → 1 ≤ n - 1 + end_words g dropped → IsCandidate g (tail_cut g dropped kept n)
end_candidate g dropped kept n other some most terms saves =
    inl (end_cut g dropped kept n (tail_cut g dropped kept n) (record { other = other; some = some; items = most.common; terms = terms }) saves refl)

-- TWO SWEEPS

pub swept_on : (savings at : Savings) (old mid new : Graph) (result : Result Savings Memory) → IsRewritten IsCandidate described savings at old mid → IfOk result (λ after. IsRewritten IsCandidate described at after mid new) → IfOk result (λ after. IsRewritten IsCandidate described savings after old new)
swept_on savings at old mid new (Ok after) first second = rewritten_through IsCandidate described savings at after old mid new first second
swept_on savings at old mid new (Err e) first second = second
