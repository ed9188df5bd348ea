-- A sweep of rows V and W: what is known of its graph and of what it took stays known with each call of row V.
use Rattle.std.proofs.Common.{◌≡◌, ℕ, ◌+◌, ◌≤◌, true, length, refl, sym, ap, ◌∙◌, subst, arith}
use Rattle.sq_num.specs.declared.packed.Savings.{Savings}
use Rattle.sq_num.specs.Saved.{words_saved}
use Rattle.sq_graph.specs.Graph.{Graph}
use Rattle.sq_graph.specs.Blocks.{items_of_blocks, body_of}
use Rattle.sq_graph.specs.Calls.{with_calls, are_free, with_span, fates_of, items_ahead}
use Rattle.sq_graph.specs.Rules.{IsGraph}
use Rattle.sq_graph.specs.Words.{most_words}
use Rattle.sq_pass.specs.declared.cut.Row.TheVariants.{V}
use Rattle.sq_pass.specs.Counted.{counted}
use Rattle.sq_outline.specs.declared.windows.taken.Taken.{Taken}
use Rattle.sq_outline.specs.Called.{call_saving}
use Rattle.sq_outline.specs.WindowsInside.{MayCallInside, called_inside}
use Rattle.sq_outline.specs.WindowsSwept.{swept, IsSweeping, AreSwept}
use Rattle.sq_outline.specs.WindowsTaken.{AreTaken, KeepsLive, IsTakenOf, index_of, place_then}
use Rattle.sq_outline.proofs.WindowsCalling.{inside_applied}
use Rattle.sq_outline.proofs.WindowsKept.{inside_then}
use Rattle.sq_outline.proofs.WindowsSweeping.{inside_rewritten, inside_words}
use Rattle.sq_outline.proofs.WindowsTaken.{called_more, live_more}
use Rattle.sq_outline.proofs.WindowsTakenOf.{takes_one, spans_one}

-- what a rewrite leaves known
module _ (g h : Graph) (old new : Taken) (before after : Savings) (sweeping : IsSweeping g old before) (rewritten : AreSwept g old h new before after) where
  pub sweeping_on : IsTakenOf h new → KeepsLive h new.fates.items → IsGraph (swept h new) → h.blocks ≡ g.blocks → IsSweeping h new after
  sweeping_on taken keeps rules blocks = record {
    fates = taken;
    keeps = keeps;
    rules = rules;
    canonical = rewritten.lighter.canonical;
    few = let l = sweeping.few in let e = ap (λ bs. length (items_of_blocks bs)) blocks in omega (arith, l, e);
    words = let l = sweeping.words in let t = rewritten.total in let w = rewritten.lighter.words in omega (arith, l, t, w);
  }

-- ROW V

-- what it saves is counted
pub call_few : (g : Graph) (taken : Taken) (block at procedure : ℕ) (savings : Savings) → IsSweeping g taken savings → MayCallInside g block at procedure → are_free (length (body_of g procedure)) (fates_of g taken.fates.items block) at ≡ true → call_saving g procedure + words_saved savings ≤ most_words
call_few g taken block at procedure savings sweeping may free =
    let inside = inside_then g taken.fates.items block at procedure (call_saving g procedure) sweeping.fates.fates sweeping.keeps free may in
    let few = inside_words (swept g taken) block (place_then g taken.fates.items block at) procedure sweeping.rules inside in
    let words = sweeping.words in
    omega (arith, few, words)

module _ (g : Graph) (old new : Taken) (block at procedure : ℕ) (before after : Savings) (sweeping : IsSweeping g old before) (may : MayCallInside g block at procedure)
    (free : are_free (length (body_of g procedure)) (fates_of g old.fates.items block) at ≡ true)
    (fates : new.fates.items ≡ with_span old.fates.items (index_of old block at) (length (body_of g procedure)) procedure) (ahead : new.ahead ≡ old.ahead) (counts : after ≡ counted before V (call_saving g procedure)) where
  abbrev n : ℕ
  n = length (body_of g procedure)

  abbrev now : ℕ
  now = place_then g old.fates.items block at

  some : 1 ≤ n
  some = let s = may.saves in omega (arith, s)

  taken : AreTaken g old.fates.items
  taken = sweeping.fates.fates

  inside : MayCallInside (swept g old) block now procedure
  inside = inside_then g old.fates.items block at procedure (call_saving g procedure) taken sweeping.keeps free may

  fates_are : new.fates.items ≡ with_span old.fates.items (items_ahead g.blocks block + at) n procedure
  fates_are = fates ∙ ap (λ k. with_span old.fates.items k n procedure) (spans_one g old sweeping.fates (record { block = block; at = at }) may.callable.block_there)

  swept_is : swept g new ≡ called_inside (swept g old) block now procedure
  swept_is = ap (λ fs. with_calls fs g) fates_are ∙ called_more g old.fates.items taken block at n procedure may.callable.within some free refl

  called_rules : IsGraph (called_inside (swept g old) block now procedure)
  called_rules = let done = inside_applied (swept g old) block now procedure (call_saving g procedure) sweeping.rules inside in done.rules

  pub call_swept : AreSwept g old g new before after
  call_swept = inside_rewritten (swept g old) (swept g new) block now procedure before after sweeping.rules sweeping.canonical inside swept_is counts

  pub call_sweeping : IsSweeping g new after
  call_sweeping =
      sweeping_on g g old new before after sweeping call_swept
      (takes_one g old sweeping.fates new n (record { block = block; at = at }) some (record { there = may.callable.block_there; within = may.callable.within; free = free }) procedure fates ahead)
      (subst (KeepsLive g) (sym fates_are) (live_more g old.fates.items taken block at n procedure may.callable.within some free refl sweeping.rules called_rules inside.callable sweeping.keeps))
      (subst IsGraph (sym swept_is) called_rules) refl
