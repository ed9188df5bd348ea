use Rattle.std.proofs.Common.{◌≡◌, ◌∙◌, ◌∷◌, [], ap, sym, length, take, Some, is_some, arith, length-append}
use Rattle.std.proofs.lemmas.List.{length-take-le, take_all}
use Rattle.sq_graph.specs.Blocks.{block_items, block_term}
use Rattle.sq_live.specs.Effects.{IsBlock}
use Rattle.sq_live.proofs.Layouts.{block_at, length-names, pushed, nothing_behind}
use Rattle.sq_live.proofs.layout.block_effects.Goals as goal

pub items-requires : goal.items-requires
items-requires c =
    let b = block_at c.args.g.now.graph c.args.names.now c.loop-name.name-index c.requires.rules c.requires.names c.loop-name-test.true in
    ap is_some b.found

pub term-requires : goal.term-requires
term-requires c =
    let b = block_at c.args.g.now.graph c.args.names.now c.loop-name.name-index c.requires.rules c.requires.names c.loop-name-test.true in
    ap is_some b.found

pub loop-name-preserved : goal.loop-name-preserved
loop-name-preserved c =
    let b = block_at c.args.g.now.graph c.args.names.now c.loop-name.name-index c.requires.rules c.requires.names c.loop-name-test.true in
    let items : c.items.result.now ≡ b.block.items = c.items.ensures ∙ ap block_items b.found in
    let term : c.term.result ≡ b.block.term = let e : Some b.block.term ≡ Some c.term.result = sym (ap block_term b.found) ∙ c.term.ensures in cc in
    let same : length c.loop-name.effects.items ≡ length (take c.loop-name.name-index c.args.g.now.graph.blocks) = c.loop-name.invariant.count ∙ sym (length-take-le c.loop-name.name-index c.args.g.now.graph.blocks (omega (arith, b.within))) in
    record {
      count = ap length c.in_ok-push.ensures.items ∙ omega (arith, length-append c.loop-name.effects.items (c.then.result ∷ []), c.loop-name.invariant.count);
      effects = λ k.
          rw (c.in_ok-push.ensures.items, b.more)
          (pushed (IsBlock c.args.calls.now) c.loop-name.effects.items (take c.loop-name.name-index c.args.g.now.graph.blocks) c.then.result b.block same c.loop-name.invariant.effects
          (λ r h.
          let a = c.then.ensures.reads r h in
          let d = c.then.ensures.writes r in
          let e = c.items_effect-items.ensures.reads r h in
          let f = c.items_effect-items.ensures.writes r in
          let i = c.term_effect.ensures.reads r in
          let j = c.term_effect.ensures.writes r in
          (cc, cc))
          k);
    }

pub returns-clause-effects : goal.returns-clause-effects
returns-clause-effects c = λ k r h.
    let all = take_all c.loop-name.name-index c.args.g.now.graph.blocks (omega (arith, length-names c.args.g.now.graph c.args.names.now c.requires.names)) in
    let each = rw all at c.loop-name.invariant.effects in
    rw c.in_ok-push-2.ensures.items (nothing_behind c.args.calls.now c.loop-name.effects.items c.args.g.now.graph.blocks c.none.result each (λ q. c.none.ensures.reads q) (λ q. c.none.ensures.writes q) k r h)
