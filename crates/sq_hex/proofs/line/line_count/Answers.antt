use Rattle.std.proofs.Common.{◌≡◌, ℕ, List, [], ◌∷◌, length, ap, arith}
use Rattle.std.proofs.lemmas.Bool.Decides.{nat_tests}
use Rattle.sq_hex.specs.Lines.{lines_of}
use Rattle.sq_hex.proofs.LineLemmas.{lines_end}
use Rattle.sq_hex.proofs.line.line_count.Goals as goal

no_lines : (text : List ℕ) → length text ≡ 0 → length (lines_of text) ≡ 0
no_lines [] none = ap length lines_end
no_lines (byte ∷ bytes) none = absurd (omega arith)

pub returns : goal.returns
returns c =
    let none : length c.loop-rest.rest.now ≡ 0 = grind (arith, nat_tests) in
    omega (arith, no_lines c.loop-rest.rest.now none, c.loop-rest.invariant.counted)
