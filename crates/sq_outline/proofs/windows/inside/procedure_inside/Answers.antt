use Rattle.std.proofs.Common.{◌≡◌, ◌+◌, ◌-◌, ◌<◌, length, get_or, Some, IfSome, sym, ap, ◌∙◌, subst, arith, inl, inr}
use Rattle.std.proofs.lemmas.Bool.{cases_lt}
use Rattle.sq_graph.specs.Blocks.{HasProcedure, items_of, body_of}
use Rattle.sq_graph.specs.Rules.{ItemFits}
use Rattle.sq_finger.specs.ItemKeys.{key_of}
use Rattle.sq_outline.specs.RecalledNumbers.{IsNumberOf}
use Rattle.sq_outline.specs.WindowsInside.{MayCallInside}
use Rattle.sq_outline.proofs.RecallNumbers.{number_next}
use Rattle.sq_outline.proofs.WindowsReading.{goes_on, ends_here, all_fit, item_there, read, read_more}
use Rattle.sq_outline.proofs.windows.inside.procedure_inside.Goals as goal

pub with-requires-clause-fits : goal.with-requires-clause-fits
with-requires-clause-fits c =
    let all = all_fit c.args.graph.now.graph c.args.place.block c.learn.ensures.rules c.requires.block in
    subst (λ item. ItemFits item) (sym (c.index-items-at.is ∙ ap (λ items. get_or items c.loop-at.at c.index-items-at.result) c.items-items.ensures))
    (all c.loop-at.at c.index-items-at.result (subst (λ items. c.loop-at.at < length items) c.items-items.ensures c.loop-at-test.true))

pub returns-in_default-clause-none : goal.returns-in_default-clause-none
returns-in_default-clause-none c = λ none p there can.
    let g = c.args.graph.now.graph in
    let k = c.loop-at.at - c.args.place.at in
    let item = c.index-items-at.result in
    let here : c.index-items-at.result ≡ get_or (items_of c.args.graph.now.graph c.args.place.block) c.loop-at.at c.index-items-at.result = c.index-items-at.is ∙ ap (λ items. get_or items c.loop-at.at c.index-items-at.result) c.items-items.ensures in
    elim (cases_lt k (length (body_of g p))) [
      | inl longer ↦
          let next = goes_on g c.args.place.block c.args.place.at c.args.bodies.now.pairs.keys _ c.requires.bodies k c.loop-at.number c.loop-at.invariant.number p there can longer in
          let same = item_there (items_of g c.args.place.block) c.args.place.at c.loop-at.at next.0 item c.loop-at.auto.at here next.2 in
          c.with.ensures.none c.in_default.is next.1 (next.3 ∙ ap (λ y. Some (c.loop-at.number, key_of y)) same)
      | inr short ↦ c.loop-at.invariant.none none p there short can
    ]

pub loop-at-preserved : goal.loop-at-preserved
loop-at-preserved c =
    let g = c.args.graph.now.graph in
    let block = c.args.place.block in
    let at = c.args.place.at in
    let j = c.loop-at.at in
    let pairs = c.args.bodies.now.pairs.keys in
    let item = c.index-items-at.result in
    let here : c.index-items-at.result ≡ get_or (items_of c.args.graph.now.graph c.args.place.block) c.loop-at.at c.index-items-at.result = c.index-items-at.is ∙ ap (λ items. get_or items c.loop-at.at c.index-items-at.result) c.items-items.ensures in
    let inside : c.loop-at.at < length (items_of c.args.graph.now.graph c.args.place.block) = subst (λ items. c.loop-at.at < length items) c.items-items.ensures c.loop-at-test.true in
    let pair = c.in-Some.ensures.some in
    let number : IsNumberOf pairs c.in-Some.after 0 (read g block at (j + 1 - at)) =
    subst (λ items. IsNumberOf pairs c.in-Some.after 0 items) (sym (read_more g block at j item c.loop-at.auto.at inside here))
    (number_next pairs c.loop-at.number c.in-Some.after pair.0 0 (read g block at (j - at)) item pair.1 pair.2 c.loop-at.invariant.number) in
    record {
      number = number;
      some =
          elim c.lesser-found.ensures.either [
            | inl before ↦ subst (λ o. IfSome o (λ p. HasProcedure g p × MayCallInside g block at p)) (sym before) c.loop-at.invariant.some
            | inr ending ↦ subst (λ o. IfSome o (λ p. HasProcedure g p × MayCallInside g block at p)) (sym ending) c.procedure_ending.ensures.some
          ];
      none = λ e p there short can.
          let both = c.lesser-found.ensures.none e in
          elim (cases_lt (j - at) (length (body_of g p))) [
            | inl longer ↦
                let near = c.loop-at.auto.at in
                let long : length (body_of g p) ≡ j + 1 - at = omega (arith, longer, short, near) in
                c.procedure_ending.ensures.none both.1 p there (ends_here g block at pairs _ c.requires.bodies (j + 1 - at) c.in-Some.after number p there can long) can
            | inr fewer ↦ c.loop-at.invariant.none both.0 p there fewer can
          ];
    }
