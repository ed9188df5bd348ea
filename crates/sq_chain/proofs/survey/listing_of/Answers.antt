use Rattle.std.proofs.Common.{◌≡◌, ◌∙◌, ◌<◌, ◌++◌, ◌∷◌, [], ℕ, List, map, sum_by, length, append_assoc, sym, ap, subst, arith}
use Rattle.std.specs.List.{All}
use Rattle.std.proofs.lemmas.List.{map-append, append-nil}
use Rattle.std.proofs.lemmas.List.Elements.{All-nil, All-cons, All-append, All-weaker}
use Rattle.sq_graph.specs.Graph.{Block}
use Rattle.sq_graph.specs.Words.{block_words}
use Rattle.sq_layout.proofs.Walks.{blocks_from, starts, here}
use Rattle.sq_chain.specs.declared.survey.Extent.{Extent}
use Rattle.sq_chain.specs.Surveys.{extent_of, extents_of}
use Rattle.sq_chain.proofs.Surveyed.{extent_here, extent_names}
use Rattle.sq_chain.proofs.survey.listing_of.Goals as goal

pub loop-place-init : goal.loop-place-init
loop-place-init c =
    let g = c.args.graph.now.graph in
    let start = rw c.first.ensures at (starts g.blocks) in
    record {
      place = start.0;
      extents = rw c.in_ok-extents.ensures.items (ap (map extent_of) start.1);
      words = omega (arith, ap (sum_by block_words) start.1);
      names = rw c.in_ok-extents.ensures.items (All-nil (λ (n : ℕ). n < 0));
    }

pub overflow_add-words : goal.overflow_add-words
overflow_add-words c =
    let g = c.args.graph.now.graph in
    let h = here g c.loop-place.place c.in-Some.name c.learn.ensures.rules c.in-Some.is c.loop-place.invariant.place in
    let same = extent_here g c.in-Some.name h.step.block c.extent_of-taken.result h.step.found c.extent_of-taken.ensures in
    omega (arith, h.words, ap (λ (e : Extent). e.words) same, c.loop-place.invariant.words, c.learn.ensures.few)

pub loop-place-smaller : goal.loop-place-smaller
loop-place-smaller c =
    let g = c.args.graph.now.graph in
    let h = here g c.loop-place.place c.in-Some.name c.learn.ensures.rules c.in-Some.is c.loop-place.invariant.place in
    omega (arith, ap length h.rest, ap length (ap (blocks_from g.blocks) c.next-place.ensures ∙ h.step.next))

pub loop-place-preserved : goal.loop-place-preserved
loop-place-preserved c =
    let g = c.args.graph.now.graph in
    let h = here g c.loop-place.place c.in-Some.name c.learn.ensures.rules c.in-Some.is c.loop-place.invariant.place in
    let same = extent_here g c.in-Some.name h.step.block c.extent_of-taken.result h.step.found c.extent_of-taken.ensures in
    let next : blocks_from g.blocks c.next-place.result ≡ h.step.others = ap (blocks_from g.blocks) c.next-place.ensures ∙ h.step.next in
    let before = c.loop-place.extents.items in
    record {
      place = rw c.next-place.ensures h.step.there;
      extents =
          ap (λ (es : List Extent). es ++ map extent_of (blocks_from g.blocks c.next-place.result)) c.in_ok-push.ensures.items
          ∙ append_assoc before (c.extent_of-taken.result ∷ []) (map extent_of (blocks_from g.blocks c.next-place.result))
          ∙ ap (λ (bs : List Block). before ++ (c.extent_of-taken.result ∷ map extent_of bs)) next
          ∙ ap (λ (e : Extent). before ++ (e ∷ map extent_of h.step.others)) (sym same)
          ∙ ap (λ (bs : List Block). before ++ map extent_of bs) (sym h.rest)
          ∙ c.loop-place.invariant.extents;
      words = omega (arith, h.words, ap (λ (e : Extent). e.words) same, ap (sum_by block_words) next, c.loop-place.invariant.words);
      names =
          rw (c.in_ok-push.ensures.items, map-append (λ (e : Extent). e.name) before (c.extent_of-taken.result ∷ []))
          (All-append (λ (n : ℕ). n < c.max-names.result) (map (λ (e : Extent). e.name) before) (c.extent_of-taken.result.name ∷ [])
          (All-weaker (λ (n : ℕ). n < c.loop-place.names) (λ (n : ℕ). n < c.max-names.result) (λ n is. grind (arith, is, c.max-names.ensures)) (map (λ (e : Extent). e.name) before) c.loop-place.invariant.names)
          (All-cons (λ (n : ℕ). n < c.max-names.result) c.extent_of-taken.result.name [] (grind (arith, ap (λ (e : Extent). e.name) same, h.step.has_name, c.max-names.ensures)) (All-nil (λ (n : ℕ). n < c.max-names.result))));
    }

pub returns-clause-names : goal.returns-clause-names
returns-clause-names c =
    let g = c.args.graph.now.graph in
    let all : c.loop-place.extents.items ≡ extents_of g = sym (append-nil c.loop-place.extents.items) ∙ (rw c.in_default.is at c.loop-place.invariant.extents) in
    subst (All (λ (n : ℕ). n < c.loop-place.names)) (extent_names g c.loop-place.extents.items all) c.loop-place.invariant.names
