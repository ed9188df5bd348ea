use Rattle.std.proofs.Common.{◌≡◌, drop}
use Rattle.sq_isa.specs.Registers.{is_member}
use Rattle.sq_rename.specs.Prints.{met_all, met_item}
use Rattle.sq_rename.specs.Walks.{walk_of, IsWalk}
use Rattle.sq_rename.proofs.walks.Walk.meet_item.Given as goal

abbrev pub invariant-loop-r : goal.invariant-loop-r
invariant-loop-r l = record {
  fits : IsWalk l.self;
  left : met_all (walk_of l.self) (is_member l.kept) l.other (drop l.r-index l.r-items) ≡ met_item (walk_of l.fn.self) (is_member l.fn.keeps) l.other l.item;
}
