-- What the rows of the cost rule saved together.
use Rattle.std.specs.Prelude.{ℕ, ◌+◌}
use Rattle.sq_num.specs.declared.packed.Savings.{Savings}

-- the words that all rows and moves saved
abbrev pub words_saved : Savings → ℕ
words_saved s = s.u + s.j1 + s.j2 + s.j3 + s.c + s.t + s.o1 + s.o2 + s.o3 + s.o4 + s.moved
