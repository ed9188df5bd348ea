use Rattle.std.proofs.Common.{List, sym, ap, ◌∙◌, subst}
use Rattle.std.proofs.lemmas.List.Elements.{All-nil, All-push}
use Rattle.std.specs.List.{All}
use Rattle.sq_finger.proofs.Lining.{place_block}
use Rattle.sq_outline.specs.declared.windows.sweep.Call.{Call}
use Rattle.sq_outline.specs.WindowsInside.{MayCallInside}
use Rattle.sq_outline.proofs.windows.sweep.calls_to_try.Goals as goal
use Rattle.sq_outline.proofs.windows.sweep.calls_to_try.Goals.{in-Some+in_ok-push, in_default}

pub loop-place-init : goal.loop-place-init
loop-place-init c = record {
  line = c.deref-place-items.ensures.value ∙ c.in_ok-line.ensures;
  may = rw c.new-calls.ensures.items (All-nil (λ (call : Call). MayCallInside c.args.graph.now.graph call.place.block call.place.at call.procedure));
}

pub procedure_inside-requires-clause-block : goal.procedure_inside-requires-clause-block
procedure_inside-requires-clause-block c =
    place_block c.args.graph.now.graph c.learn.ensures.rules c.deref-place-items.result.now c.loop-place.place-index _ c.loop-place.invariant.line c.loop-place-test.true

pub loop-place-preserved : goal.loop-place-preserved
loop-place-preserved c =
    let g = c.args.graph.now.graph in
    elim c.match-procedure_inside.branch [
      | in-Some+in_ok-push w ↦ record {
        line = c.loop-place.invariant.line;
        may =
            subst (λ (calls : List Call). All (λ (call : Call). MayCallInside g call.place.block call.place.at call.procedure) calls) (sym (ap (λ calls. calls.items) w.calls-is ∙ w.in_ok-push.ensures.items))
            (All-push (λ (call : Call). MayCallInside g call.place.block call.place.at call.procedure) c.loop-place.calls.items _ c.loop-place.invariant.may
            (let found = rw w.in-Some.is at c.procedure_inside.ensures.some in found.1));
      }
      | in_default w ↦ record {
        line = c.loop-place.invariant.line;
        may = subst (λ (calls : List Call). All (λ (call : Call). MayCallInside g call.place.block call.place.at call.procedure) calls) (sym (ap (λ calls. calls.items) w.calls-is)) c.loop-place.invariant.may;
      }
    ]
