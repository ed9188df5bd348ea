use Rattle.std.proofs.Common.{◌≡◌, ◌+◌, ◌≤◌, ◌<◌, List, length, refl, ap, ◌∙◌, arith, set}
use Rattle.sq_graph.specs.Calls.{with_span}
use Rattle.sq_graph.specs.declared.calls.ItemFate.{ItemFate}
use Rattle.sq_graph.specs.declared.calls.ItemFate.TheVariants.{Calls, Goes}
use Rattle.sq_outline.proofs.WindowsTakenOf.{on_ok, gone_to, gone_none, gone_more, span_set}
use Rattle.sq_outline.proofs.windows.taken.Taken.take.Goals as goal

pub loop-i-init : goal.loop-i-init
loop-i-init c = record { fates = gone_none c.args.self.now.fates.items c.index-first.result; ahead = refl }

pub loop-i-preserved : goal.loop-i-preserved
loop-i-preserved c =
    let all = c.requires.within in
    let within : c.loop-i.i < length c.args.self.now.fates.items = omega (arith, all, c.index-first.ensures, c.loop-i-test.true) in
    record {
      fates =
          ap (λ (fs : List ItemFate). set fs c.loop-i.i Goes) c.loop-i.invariant.fates
          ∙ gone_more c.args.self.now.fates.items c.index-first.result c.loop-i.i c.loop-i.auto.i within;
      ahead = c.loop-i.invariant.ahead;
    }

pub returns-clause-fates : goal.returns-clause-fates
returns-clause-fates c =
    let old = c.args.self.now.fates.items in
    let first = c.index-first.result in
    let all = c.requires.within in
    let within : c.index-first.result + c.args.n ≤ length c.args.self.now.fates.items = omega (arith, all, c.index-first.ensures) in
    let most = c.loop-i.auto.i-end (omega arith) in
    let end : c.loop-i.i ≡ c.index-first.result + c.args.n = omega (arith, c.loop-i-test.false, most) in
    on_ok _ _
    (ap (λ (fs : List ItemFate). set fs c.index-first.result (Calls c.args.procedure)) (c.loop-i.invariant.fates ∙ ap (gone_to old first) end)
    ∙ span_set old first c.args.n c.args.procedure within c.requires.some
    ∙ ap (λ k. with_span c.args.self.now.fates.items k c.args.n c.args.procedure) c.index-first.ensures)
