use Rattle.std.proofs.Common.{◌≡◌, ◌≤◌, ◌+◌, ◌-◌, ◌++◌, length, take, drop, ap, sym, ◌∙◌, arith, append_assoc, length-append}
use Rattle.std.proofs.lemmas.List.{drop_at, length-take-le}
use Rattle.sq_graph.proofs.PieceLaws.{raised}
use Rattle.sq_graph.proofs.pieces.open.Goals as goal

pub returns-clause-behind : goal.returns-clause-behind
returns-clause-behind c =
    let xs = c.args.items.now.items in
    let last = take c.args.count (drop 0 c.args.items.now.items) in
    let there : c.args.at ≤ length c.args.items.now.items = omega (arith, c.requires.at, c.args.items.now.ok.0) in
    let size : length (take c.args.count (drop 0 c.args.items.now.items)) ≡ c.args.count = length-take-le c.args.count (drop 0 c.args.items.now.items) (omega (arith, c.requires.fewer, there)) in
    let whole = c.raise.ensures.items
    ∙ ap (λ ys. take c.args.at ys ++ (drop (length ys - c.args.count) ys ++ take (length ys - c.args.count - c.args.at) (drop c.args.at ys))) c.append_copy.ensures.items
    ∙ raised xs last c.args.at c.args.count there size
    ∙ sym (append_assoc (take c.args.at xs) last (drop c.args.at xs)) in
    ap (drop (c.args.at + c.args.count)) whole
    ∙ drop_at (take c.args.at xs ++ last) (drop c.args.at xs) (c.args.at + c.args.count) (omega (arith, length-append (take c.args.at xs) last, length-take-le c.args.at xs there, size))
