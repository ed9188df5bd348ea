use Rattle.sq_drive.proofs.hints.next_hint.Given as goal

abbrev pub decreases-loop-hint : goal.decreases-loop-hint
decreases-loop-hint l = goal.left-loop-hint l
