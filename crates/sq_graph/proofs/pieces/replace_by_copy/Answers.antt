use Rattle.std.proofs.Common.{◌∙◌, ◌+◌, ◌-◌, ◌≤◌, ◌++◌, length, take, drop, ap, arith, length-drop}
use Rattle.std.proofs.lemmas.List.{length-take-le}
use Rattle.sq_graph.proofs.PieceLaws.{raised, cut_behind}
use Rattle.sq_graph.proofs.pieces.replace_by_copy.Goals as goal

pub returns-clause-items : goal.returns-clause-items
returns-clause-items c =
    let xs = c.args.items.now.items in
    let new = take c.args.count (drop c.args.from c.args.items.now.items) in
    let at = c.args.at in
    let n = c.args.count in
    let there : c.args.count ≤ length (drop c.args.from c.args.items.now.items) = omega (arith, length-drop c.args.from c.args.items.now.items, c.requires.from, c.args.items.now.ok.0) in
    let counted = length-take-le c.args.count (drop c.args.from c.args.items.now.items) there in
    let fits : c.args.at ≤ length c.args.items.now.items = omega (arith, c.requires.at, c.args.items.now.ok.0) in
    c.cut.ensures.items
    ∙ ap (λ ys. take (c.args.at + c.args.count) ys ++ drop (c.args.at + c.args.count + 1) ys)
    (c.raise.ensures.items
    ∙ ap (λ ys. take c.args.at ys ++ (drop (length ys - c.args.count) ys ++ take (length ys - c.args.count - c.args.at) (drop c.args.at ys))) c.append_copy.ensures.items
    ∙ raised c.args.items.now.items new c.args.at c.args.count fits counted)
    ∙ cut_behind c.args.items.now.items new c.args.at c.args.count fits counted
