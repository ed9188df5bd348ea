use Rattle.std.proofs.Common.{◌≡◌, ◌∙◌, ◌<◌, ◌∷◌, [], ap, sym, length, take, Some, arith, length-append}
use Rattle.std.proofs.lemmas.List.{length-take-le}
use Rattle.sq_graph.specs.Blocks.{procedure_body, procedure_link}
use Rattle.sq_live.specs.Effects.{IsCall}
use Rattle.sq_live.proofs.Layouts.{item_at, pushed}
use Rattle.sq_live.proofs.Sequences.{call_fits}
use Rattle.sq_live.proofs.layout.call_effects.Goals as goal

pub loop-procedure-preserved : goal.loop-procedure-preserved
loop-procedure-preserved c =
    let procedures = c.args.g.now.graph.procedures in
    let k = c.loop-procedure.procedure in
    let within : k < length procedures = omega arith in
    let p = item_at procedures k within in
    let body : c.body.result.now ≡ p.item.body = c.body.ensures ∙ ap procedure_body p.at in
    let link : c.link.result ≡ p.item.link = let e : Some p.item.link ≡ Some c.link.result = sym (ap procedure_link p.at) ∙ c.link.ensures in cc in
    let same : length c.loop-procedure.calls.items ≡ length (take k procedures) = c.loop-procedure.invariant.count ∙ sym (length-take-le k procedures (omega arith)) in
    record {
      count = ap length c.in_ok-push.ensures.items ∙ omega (arith, length-append c.loop-procedure.calls.items (c.then.result ∷ []), c.loop-procedure.invariant.count);
      calls = λ j.
          rw (c.in_ok-push.ensures.items, p.more)
          (pushed IsCall c.loop-procedure.calls.items (take k procedures) c.then.result p.item same c.loop-procedure.invariant.calls
          (λ r h. call_fits c.then.result.reads c.then.result.writes c.new.result c.new-in-loop-procedure.result c.with.result c.items_effect.result.reads c.items_effect.result.writes c.link.result r c.body.result.now p.item link body (c.then.ensures.reads r h) (c.then.ensures.writes r) (c.new.ensures r) (c.new-in-loop-procedure.ensures r) (c.with.ensures r) (c.items_effect.ensures.reads r h) (c.items_effect.ensures.writes r))
          j);
    }
