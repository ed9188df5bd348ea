-- A sweep: what a new procedure and its calls add to the rewrites before.
use Rattle.std.proofs.Common.{◌≡◌, ℕ, ◌+◌, ◌≤◌, ◌<◌, ◌^◌, List, [], ◌∷◌, length, sum_by, refl, sym, ap, ◌∙◌, subst, arith, length-append}
use Rattle.std.proofs.lemmas.List.Sums.{sum_by-cons}
use Rattle.sq_num.specs.declared.packed.Savings.{Savings}
use Rattle.sq_graph.specs.Graph.{Block, Procedure, Graph}
use Rattle.sq_graph.specs.Blocks.{HasProcedure, items_of, items_of_blocks, items_of_bodies}
use Rattle.sq_graph.specs.Leaders.{IsCanonical}
use Rattle.sq_graph.specs.Operations.{outlined}
use Rattle.sq_graph.specs.Room.{IsSmall, sum_of, count_of}
use Rattle.sq_graph.specs.Rules.{IsGraph}
use Rattle.sq_graph.specs.Words.{block_words, procedure_words, words_of, most_words}
use Rattle.sq_graph.proofs.CanonicalLaws.{canonical_again}
use Rattle.sq_pass.specs.declared.cut.Cut.{Cut}
use Rattle.sq_pass.specs.declared.cut.Row.TheVariants.{O1, O2}
use Rattle.sq_pass.specs.Applied.{IsApplied}
use Rattle.sq_pass.specs.Counted.{counted}
use Rattle.sq_pass.specs.Rewrites.{IsRewritten}
use Rattle.sq_pass.proofs.Rewriting.{rewrite_made, lighter_itself, lighter_made, rewritten_once}
use Rattle.sq_outline.specs.Candidates.{IsCutOf, IsCandidate, described}
use Rattle.law_patch.specs.Calls.{IsMatching}
use Rattle.sq_outline.specs.Called.{MayCall, call_saving, called, call_cut, IsCalledCut}
use Rattle.sq_outline.specs.Made.{IsMade, IsMadeCut, AreMade, first_block, starts_of, made}
use Rattle.sq_outline.specs.Still.{IsStill}
use Rattle.sq_outline.proofs.Making.{outline_rules, may_call, made_applied}
use Rattle.sq_outline.proofs.Applying.{make_cut_applied}
use Rattle.sq_outline.proofs.Calling.{is_matching, called_applied}
use Rattle.sq_outline.proofs.Kept.{outlined_canonical, called_canonical, each_canonical}
use Rattle.sq_outline.proofs.Still.{made_still, call_still}

-- ROOM

pub few_items : (bs : List Block) → length (items_of_blocks bs) ≤ sum_by block_words bs
few_items [] = omega arith
few_items (b ∷ bs) = omega (arith, few_items bs, sum_by-cons block_words b bs, length-append b.items (items_of_blocks bs))

pub few_bodies : (ps : List Procedure) → length ps + length (items_of_bodies ps) ≤ sum_by procedure_words ps
few_bodies [] = omega arith
few_bodies (p ∷ ps) = omega (arith, few_bodies ps, sum_by-cons procedure_words p ps, length-append p.body (items_of_bodies ps))

-- a graph of few words, and of blocks that are few anyway, has room for one more procedure of few items
pub room_for_procedure : (g : Graph) (items : ℕ) → length g.blocks < 2 ^ 29 → words_of g ≤ most_words → items ≤ most_words → IsSmall (sum_of (count_of g) (record { blocks = 0; items = items; procedures = 1 }))
room_for_procedure g items blocks few short =
    let all = length-append (items_of_blocks g.blocks) (items_of_bodies g.procedures) in
    let own = few_items g.blocks in
    let bodies = few_bodies g.procedures in
    record { blocks = omega (arith, blocks); items = omega (arith, all, own, bodies, few, short); procedures = omega (arith, bodies, few) }

-- A CANDIDATE THAT IS APPLIED

-- where that leaves the graph canonical
pub applied_rewritten : (g h : Graph) (cut : Cut) (before after : Savings) → IsCandidate g cut → IsApplied cut.saving (described g cut) g h → IsCanonical h → after ≡ counted before cut.row cut.saving → IsRewritten IsCandidate described before after g h
applied_rewritten g h cut before after candidate applied still counts =
    subst (λ s. IsRewritten IsCandidate described before s g h) (sym counts)
    (rewritten_once IsCandidate described before (record { row = cut.row; saving = cut.saving }) g h
    (rewrite_made IsCandidate described cut g h h candidate applied (sym (canonical_again h still)))
    (lighter_made cut.saving (described g cut) g h h applied (lighter_itself h still)))

-- A CUT OF ROW O1

-- the candidate, as one of the pass
pub candidate_of : (g : Graph) (cut : Cut) → IsMadeCut g cut → IsCandidate g cut
candidate_of g cut candidate =
    let row : O1 ≡ cut.row = sym (ap (λ (c : Cut). c.row) candidate.is) in subst (λ r. IsCutOf r g cut) row candidate

pub row_of : (g : Graph) (cut : Cut) → IsMadeCut g cut → cut.row ≡ O1
row_of g cut candidate = ap (λ (c : Cut). c.row) candidate.is

pub are_made : (g : Graph) (cut : Cut) → IsMadeCut g cut → AreMade g cut.blocks cut.link
are_made g cut candidate = record {
  first = candidate.first;
  others = candidate.others;
  saving = cut.saving;
  are = ap (λ (c : Cut). c.blocks) candidate.is;
  made = candidate.made;
}

made_canonical : (g : Graph) (first : ℕ) (others : List ℕ) (link saving : ℕ) → IsGraph g → IsMade g first others link saving → IsCanonical g → IsCanonical (made g first (first ∷ others) link)
made_canonical g first others link saving rules can canonical =
    let n = length (items_of g first) in
    each_canonical (starts_of (first ∷ others)) (outlined g first 0 n link) (length g.procedures) (outline_rules g first others link saving rules can) (may_call g first others link saving rules can)
    (outlined_canonical g first 0 n link canonical)

module _ (g h : Graph) (cut : Cut) (rules : IsGraph g) (candidate : IsMadeCut g cut) (is : h ≡ made g (first_block cut.blocks) cut.blocks cut.link) where
  blocks_are : cut.blocks ≡ candidate.first ∷ candidate.others
  blocks_are = ap (λ (c : Cut). c.blocks) candidate.is

  made_is : h ≡ made g candidate.first (candidate.first ∷ candidate.others) cut.link
  made_is = is ∙ ap (λ bs. made g (first_block bs) bs cut.link) blocks_are

  pub cut_still : IsStill g h
  cut_still = subst (IsStill g) (sym made_is) (made_still g candidate.first candidate.others cut.link cut.saving rules candidate.made)

  pub cut_rewritten : (before after : Savings) → IsCanonical g → after ≡ counted before O1 cut.saving → IsRewritten IsCandidate described before after g h
  cut_rewritten before after canonical counts =
      let row = row_of g cut candidate in
      let applied : IsApplied cut.saving (described g cut) g h = make_cut_applied g h cut cut.blocks rules row candidate refl is in
      let still : IsCanonical h = subst IsCanonical (sym made_is) (made_canonical g candidate.first candidate.others cut.link cut.saving rules candidate.made canonical) in
      applied_rewritten g h cut before after (candidate_of g cut candidate) applied still (counts ∙ ap (λ r. counted before r cut.saving) (sym row))

-- what it saves is no more than there is
pub cut_words : (g : Graph) (cut : Cut) → IsGraph g → IsMadeCut g cut → cut.saving ≤ words_of g
cut_words g cut rules candidate =
    let applied = made_applied g candidate.first candidate.others cut.link cut.saving rules candidate.made in omega (arith, applied.words)

-- A CALL OF ROW O2

module _ (g h : Graph) (block procedure : ℕ) (rules : IsGraph g) (there : HasProcedure g procedure) (may : MayCall g block procedure) (is : h ≡ called g block procedure) where
  matching : IsMatching g block 0 procedure
  matching = is_matching g block procedure (call_saving g procedure) rules may

  is_cut : IsCalledCut g (call_cut block procedure (call_saving g procedure))
  is_cut = record { block = block; called = may; is = refl }

  pub called_still : IsStill g h
  called_still = subst (IsStill g) (sym is) (call_still g (record { block = block; at = 0 }) procedure rules matching (let some = may.some in let saves = may.saves in omega arith))

  pub call_rewritten : (before after : Savings) → IsCanonical g → after ≡ counted before O2 (call_saving g procedure) → IsRewritten IsCandidate described before after g h
  call_rewritten before after canonical counts =
      let done = called_applied g block procedure (call_saving g procedure) rules may in
      let applied : IsApplied (call_saving g procedure) (called g block procedure) g h = subst (IsApplied (call_saving g procedure) (called g block procedure) g) (sym is) done in
      let still : IsCanonical h = subst IsCanonical (sym is) (called_canonical g (record { block = block; at = 0 }) procedure matching canonical) in
      applied_rewritten g h (call_cut block procedure (call_saving g procedure)) before after is_cut applied still counts

pub call_words : (g : Graph) (block procedure : ℕ) → IsGraph g → MayCall g block procedure → call_saving g procedure ≤ words_of g
call_words g block procedure rules may =
    let applied = called_applied g block procedure (call_saving g procedure) rules may in omega (arith, applied.words)
