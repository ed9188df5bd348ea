use Rattle.std.proofs.Common.{◌≡◌, ◌≤◌, ◌∙◌, ◌+◌, List, length, Some, nat_eq, replicate, sym, ap, refl, arith}
use Rattle.std.specs.HashMap.{get}
use Rattle.std.specs.List.{slice_get}
use Rattle.std.proofs.lemmas.Option.{slice_get_read}
use Rattle.sq_graph.specs.declared.fates.Fate.TheVariants.{Stays}
use Rattle.sq_graph.specs.declared.item.Item.{Item}
use Rattle.sq_graph.specs.Blocks.{HasProcedure}
use Rattle.sq_pass.specs.Counted.{counted}
use Rattle.sq_pass.specs.declared.cut.Row.TheVariants.{O3}
use Rattle.sq_outline.proofs.RecallNumbers.{body_words}
use Rattle.sq_outline.proofs.SweepingRecalls.{recalls_none, recalls_skip, recalls_first, recalls_join, recalls_fates}
use Rattle.sq_outline.proofs.recall.recall_fates.Goals as goal

pub loop-procedure-init : goal.loop-procedure-init
loop-procedure-init c =
    let many : c.len.result ≡ length c.args.graph.now.graph.procedures = c.len.ensures ∙ c.in_ok-numbers.numbers.ok.0 ∙ c.in_ok-numbers.ensures.many in
    let all : c.in_ok-fates.fates.items ≡ replicate (length c.args.graph.now.graph.procedures) Stays = c.in_ok-fates.ensures.items_if_clones_equal (λ y same. same) ∙ ap (λ n. replicate n Stays) many in
    rw all (recalls_none c.args.graph.now.graph c.in_ok-numbers.numbers.items (get nat_eq c.new-firsts.result) c.args.savings c.learn.ensures.rules c.requires.canonical (λ n. rw c.new-firsts.ensures.empty refl))

pub loop-procedure-preserved-in_default : goal.loop-procedure-preserved-in_default
loop-procedure-preserved-in_default c =
    recalls_skip c.args.graph.now.graph c.in_ok-numbers.numbers.items c.loop-procedure.procedure (get nat_eq c.loop-procedure.firsts) c.loop-procedure.fates.items c.args.savings c.loop-procedure.after c.loop-procedure.invariant

pub loop-procedure-preserved-in_default-copied : goal.loop-procedure-preserved-in_default-copied
loop-procedure-preserved-in_default-copied c =
    let there : HasProcedure c.args.graph.now.graph c.loop-procedure.procedure = omega (arith, c.loop-procedure-test.true, c.procedures-procedure-end.ensures) in
    let number : slice_get c.in_ok-numbers.numbers.items c.loop-procedure.procedure ≡ Some (Some c.in-Some.number) = slice_get_read c.in_ok-numbers.numbers.items (length c.in_ok-numbers.numbers.items) c.loop-procedure.procedure c.index.result.now refl (omega (arith, there, c.in_ok-numbers.ensures.many)) c.index.ensures ∙ ap (λ n. Some n) c.in-Some.is in
    recalls_first c.args.graph.now.graph c.in_ok-numbers.numbers.items c.loop-procedure.procedure (get nat_eq c.loop-procedure.firsts) c.loop-procedure.fates.items c.args.savings c.loop-procedure.after c.loop-procedure.invariant there c.in-Some.number (get nat_eq c.insert.new.self) number c.in_ok-insert.ensures.updates.0

pub overflow_cast-done : goal.overflow_cast-done
overflow_cast-done c =
    let there : HasProcedure c.args.graph.now.graph c.loop-procedure.procedure = omega (arith, c.loop-procedure-test.true, c.procedures-procedure-end.ensures) in
    omega (arith, body_words c.args.graph.now.graph c.loop-procedure.procedure there, ap (λ (is : List Item). length is) c.body.ensures, c.requires.words)

pub overflow_add-done : goal.overflow_add-done
overflow_add-done c =
    let there : HasProcedure c.args.graph.now.graph c.loop-procedure.procedure = omega (arith, c.loop-procedure-test.true, c.procedures-procedure-end.ensures) in
    omega (arith, body_words c.args.graph.now.graph c.loop-procedure.procedure there, ap (λ (is : List Item). length is) c.body.ensures, c.requires.words)

pub count-after-requires : goal.count-after-requires
count-after-requires c =
    let there : HasProcedure c.args.graph.now.graph c.loop-procedure.procedure = omega (arith, c.loop-procedure-test.true, c.procedures-procedure-end.ensures) in
    let rewritten = c.loop-procedure.invariant.rewritten in
    omega (arith, body_words c.args.graph.now.graph c.loop-procedure.procedure there, ap (λ (is : List Item). length is) c.body.ensures, c.requires.words, rewritten.total, rewritten.lighter.words)

pub loop-procedure-preserved : goal.loop-procedure-preserved
loop-procedure-preserved c =
    let there : HasProcedure c.args.graph.now.graph c.loop-procedure.procedure = omega (arith, c.loop-procedure-test.true, c.procedures-procedure-end.ensures) in
    let number : slice_get c.in_ok-numbers.numbers.items c.loop-procedure.procedure ≡ Some (Some c.in-Some.number) = slice_get_read c.in_ok-numbers.numbers.items (length c.in_ok-numbers.numbers.items) c.loop-procedure.procedure c.index.result.now refl (omega (arith, there, c.in_ok-numbers.ensures.many)) c.index.ensures ∙ ap (λ n. Some n) c.in-Some.is in
    recalls_join c.args.graph.now.graph c.in_ok-numbers.numbers.items c.loop-procedure.procedure (get nat_eq c.loop-procedure.firsts) c.loop-procedure.fates.items c.args.savings c.loop-procedure.after c.loop-procedure.invariant there c.in_ok-numbers.ensures c.learn.ensures.rules c.in-Some.number c.in-Some-copied.first number (sym (c.in-Some-copied.ensures ∙ c.get.ensures.value)) c.count-after.result
    (c.count-after.ensures.value ∙ ap (λ (is : List Item). counted c.loop-procedure.after O3 (length is + 1)) c.body.ensures)

pub returns-clause-fates : goal.returns-clause-fates
returns-clause-fates c =
    let last : c.loop-procedure.procedure ≤ length c.args.graph.now.graph.procedures = omega (arith, c.loop-procedure.auto.procedure-end, c.procedures-procedure-end.ensures) in
    recalls_fates c.args.graph.now.graph c.in_ok-numbers.numbers.items c.loop-procedure.procedure (get nat_eq c.loop-procedure.firsts) c.loop-procedure.fates.items c.args.savings c.loop-procedure.after c.loop-procedure.invariant last
