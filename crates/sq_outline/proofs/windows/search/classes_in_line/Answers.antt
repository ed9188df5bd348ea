use Rattle.std.proofs.Common.{◌≡◌, ◌≤◌, List, Result, Ok, Err, sym, subst, arith}
use Rattle.std.specs.Prelude.{IfOk}
use Rattle.sq_num.specs.declared.memory.Memory.{Memory}
use Rattle.sq_finger.specs.declared.places.WindowAt.{WindowAt}
use Rattle.sq_outline.specs.WindowsSearch.{AreWindowClasses}
use Rattle.sq_outline.proofs.WindowsClasses.{classes_are}
use Rattle.sq_outline.proofs.windows.search.classes_in_line.Goals as goal

told : (P : List (List WindowAt) → Type 0) (groups : List (List WindowAt)) (r : Result (List (List WindowAt)) Memory) → IfOk r (λ found. found ≡ groups) → P groups → IfOk r P
told P groups (Ok found) is holds = subst P (sym is) holds
told P groups (Err e) is holds = tt

pub returns : goal.returns
returns c =
    let least = c.requires.least in
    let some : 1 ≤ c.args.n = omega (arith, least) in
    told (AreWindowClasses c.args.graph.now.graph c.args.n) _ c.by_number.result c.by_number.ensures
    (classes_are c.args.graph.now.graph c.args.n c.learn.ensures.rules some c.args.line.now c.args.numbers.now c.requires.line c.requires.numbers)
