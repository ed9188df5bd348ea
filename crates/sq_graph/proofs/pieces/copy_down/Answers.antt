use Rattle.std.proofs.Common.{◌≡◌, ◌∙◌, ◌+◌, ◌++◌, take, drop, ap, sym, arith}
use Rattle.std.proofs.lemmas.List.{take-append-drop, drop-drop}
use Rattle.sq_graph.proofs.pieces.copy_down.Goals as goal

pub returns-then-to-from-clause-items : goal.returns-then-to-from-clause-items
returns-then-to-from-clause-items c =
    let xs = c.args.items.now.items in
    let to = c.args.to in
    let same : c.args.to ≡ c.args.from = omega (arith, c.if-to-from.true) in
    sym (take-append-drop to xs)
    ∙ ap (λ ys. take to xs ++ ys) (sym (take-append-drop c.args.count (drop to xs)))
    ∙ ap (λ ys. take to xs ++ (take c.args.count (drop to xs) ++ ys)) (drop-drop c.args.count to xs)
    ∙ ap (λ n. take to xs ++ (take c.args.count (drop n xs) ++ drop (to + c.args.count) xs)) same
