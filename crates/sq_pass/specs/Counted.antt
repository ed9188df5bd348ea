-- In which field of the savings a row is counted.
use Rattle.std.specs.Prelude.{ℕ, ◌+◌, List, [], ◌∷◌}
use Rattle.sq_num.specs.declared.packed.Savings.{Savings}
use Rattle.sq_pass.specs.declared.cut.Row.{Row}
use Rattle.sq_pass.specs.declared.cut.Row.TheVariants.{U, J1, J2, J3, C, T, O1, O2, O3, O4, W, V, L}
use Rattle.sq_pass.specs.declared.rewrite.Rewrite.{Rewrite}

-- the savings with what a row saved: windows count as procedures that are made (W) or called (V), and L as moved
abbrev pub counted : Savings → Row → ℕ → Savings
counted s U n = record s { u = s.u + n }
counted s J1 n = record s { j1 = s.j1 + n }
counted s J2 n = record s { j2 = s.j2 + n }
counted s J3 n = record s { j3 = s.j3 + n }
counted s C n = record s { c = s.c + n }
counted s T n = record s { t = s.t + n }
counted s O1 n = record s { o1 = s.o1 + n }
counted s O2 n = record s { o2 = s.o2 + n }
counted s O3 n = record s { o3 = s.o3 + n }
counted s O4 n = record s { o4 = s.o4 + n }
counted s W n = record s { o1 = s.o1 + n }
counted s V n = record s { o2 = s.o2 + n }
counted s L n = record s { moved = s.moved + n }

-- the savings with what these rewrites saved
abbrev pub counted_all : Savings → List Rewrite → Savings
counted_all s [] = s
counted_all s (done ∷ rest) = counted_all (counted s done.row done.saving) rest
