-- at most three zeros are taken of three
use Rattle.std.proofs.Common.{ℕ, ◌≡◌, [], ◌∷◌, ◌++◌, length, replicate, take, ap, ◌∙◌, arith, rules}
use Rattle.std.proofs.lemmas.List.{take-replicate}
use Rattle.sq_write.specs.Output.{gap}
use Rattle.sq_write.proofs.fields.push_gap.Goals as goal

zeros_taken : (n m : ℕ) → n ≡ m → take {A = ℕ} (gap n) (0 ∷ 0 ∷ 0 ∷ []) ≡ replicate (gap m) 0
zeros_taken n m same = rw same (take-replicate (gap m) 3 0 (omega arith))

pub returns : goal.returns
returns c =
    c.in_ok-extend_from_slice.ensures.items
    ∙ ap (λ zeros. c.args.file.now.items ++ zeros) (zeros_taken c.len.result (length c.args.file.now.items) (search rules))
