use Rattle.std.proofs.Common.{◌≡◌, ◌∷◌, take}
use Rattle.sq_outline.proofs.make.set_cut.Given as goal

abbrev pub invariant-loop-block : goal.invariant-loop-block
invariant-loop-block l = l.blocks ≡ l.first ∷ take l.block-index l.others
