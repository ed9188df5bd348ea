use Rattle.std.proofs.Common.{take}
use Rattle.sq_outline.specs.RecalledNumbers.{IsNumberOf, HasGrown}
use Rattle.sq_outline.proofs.recall.body_number.Given as goal

abbrev pub invariant-loop-item : goal.invariant-loop-item
invariant-loop-item l = record {
  number : IsNumberOf l.pairs.keys l.number l.fn.link (take l.item-index l.body);
  grown : HasGrown l.item-index l.initial.pairs.keys l.pairs.keys;
}
