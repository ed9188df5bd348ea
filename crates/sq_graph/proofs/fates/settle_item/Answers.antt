use Rattle.std.proofs.Common.{◌≡◌, ◌∷◌, ◌++◌, [], ◌∙◌, Some, sym, ap, arith}
use Rattle.std.specs.List.{slice_get}
use Rattle.std.proofs.lemmas.Option.{slice_get-get_or, get_or_from_slice_get}
use Rattle.sq_graph.specs.declared.item.Item.TheVariants.{Out}
use Rattle.sq_graph.specs.declared.fates.Fate.TheVariants.{Stays, Joins}
use Rattle.sq_graph.specs.Blocks.{HasProcedure}
use Rattle.sq_graph.specs.Fates.{number_among, settled_call, settled_item}
use Rattle.sq_graph.proofs.fates.settle_item.Goals as goal

pub returns-in_ok-push-in-Joins : goal.returns-in_ok-push-in-Joins
returns-in_ok-push-in-Joins c =
    let items = c.args.items.now.items in
    let g = c.args.graph.now.graph in
    let fates = c.args.fates.now in
    let procedure = c.in-Out.procedure in
    let other = c.in-Joins.other in
    let called = rw c.in-Out.is at c.requires.called in
    let there : HasProcedure c.args.graph.now.graph c.in-Out.procedure = called 0 0 (omega arith) in
    let found : slice_get c.args.fates.now c.in-Out.procedure ≡ Some (Joins c.in-Joins.other) = slice_get-get_or c.args.fates.now c.in-Out.procedure Stays (omega (arith, there, c.requires.fates.many)) ∙ ap (λ f. Some f) c.in-Joins.is in
    let inside = c.requires.fates.joined c.in-Out.procedure c.in-Joins.other found in
    let number = get_or_from_slice_get c.args.numbers.now c.in-Joins.other (number_among c.args.fates.now c.in-Joins.other) _ (c.requires.numbers.each c.in-Joins.other (omega (arith, inside, c.requires.fates.many))) in
    c.in_ok-push-in-Joins.ensures.items
    ∙ ap (λ n. c.args.items.now.items ++ Out n ∷ []) number
    ∙ ap (λ f. c.args.items.now.items ++ settled_call c.args.graph.now.graph c.args.fates.now c.in-Out.procedure f) (sym c.in-Joins.is)
    ∙ ap (λ item. c.args.items.now.items ++ settled_item c.args.graph.now.graph c.args.fates.now item) (sym c.in-Out.is)
