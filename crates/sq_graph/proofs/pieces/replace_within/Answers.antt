use Rattle.std.proofs.Common.{◌≡◌, ◌∙◌, ◌+◌, ◌-◌, ◌++◌, length, take, drop, ap, arith, append_assoc, ◌≤◌, sym}
use Rattle.std.proofs.lemmas.List.{length-take-le}
use Rattle.std.proofs.lemmas.List.{drop_at}
use Rattle.sq_graph.proofs.Packing.{ahead_written}
use Rattle.sq_graph.proofs.pieces.replace_within.Goals as goal

pub returns-clause-items : goal.returns-clause-items
returns-clause-items c =
    let xs = c.args.items.now.items in
    let by = c.args.by.now in
    let left = c.args.end - (c.args.at + c.args.count) in
    let moved = take (c.args.end - (c.args.at + c.args.count)) (drop (c.args.at + c.args.count) c.args.items.now.items) in
    let place = c.args.at + length c.args.by.now in
    let fits : c.args.at + length c.args.by.now ≤ length c.args.items.now.items = omega (arith, c.requires.fewer, c.requires.there, c.requires.end, c.args.items.now.ok.0) in
    let sum : c.args.at + length c.args.by.now + (c.args.end - (c.args.at + c.args.count)) ≡ c.args.at + (length c.args.by.now + (c.args.end - (c.args.at + c.args.count))) = omega arith in
    c.overwrite.ensures.items
    ∙ ap (λ ys. take c.args.at ys ++ (by ++ drop place ys)) c.copy_down.ensures.items
    ∙ ap (λ ys. ys ++ (by ++ drop place (take place xs ++ (moved ++ drop (place + left) xs)))) (ahead_written xs moved c.args.at place left (omega arith) fits)
    ∙ ap (λ ys. take c.args.at xs ++ (by ++ ys)) (drop_at (take place xs) (moved ++ drop (place + left) xs) place (length-take-le place xs fits))
    ∙ ap (λ n. take c.args.at xs ++ (by ++ (moved ++ drop n xs))) sum
    ∙ ap (λ ys. take c.args.at xs ++ ys) (sym (append_assoc by moved (drop (c.args.at + (length by + left)) xs)))
