use Rattle.std.proofs.Common.{◌≡◌, ◌+◌, drop}
use Rattle.sq_isa.specs.Registers.{is_member}
use Rattle.sq_rename.specs.Prints.{walked, print_from}
use Rattle.sq_rename.specs.Walks.{walk_of, IsWalk}
use Rattle.sq_rename.proofs.walks.items_print.Given as goal

abbrev pub invariant-loop-place : goal.invariant-loop-place
invariant-loop-place l = record {
  fits : IsWalk l.walk;
  left : (walked (walk_of l.walk) (is_member l.keeps) (32 + l.place) (drop l.place l.items)).print ≡ print_from l.print (is_member l.keeps) l.items;
}
