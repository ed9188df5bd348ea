use Rattle.std.proofs.Common.{ap}
use Rattle.law_follow.specs.Settings.{Store}
use Rattle.law_follow.specs.Values.{Cell}
use Rattle.sq_memory.specs.Cells.{Cells}
use Rattle.sq_tagged.specs.Views.{store_of}
use Rattle.sq_tagged.proofs.Writes.{cells-put}
use Rattle.sq_tagged.proofs.store.Store.put.Goals as goal

pub returns : goal.returns
unfolding store_of
returns c =
    let s : Store = store_of c.args.self.now in
    ap (λ (memory : Cells Cell). record s { memory = memory }) (cells-put c.args.self.now.memory c.put_all.new.self c.args.x c.args.cells.now c.put_all.ensures.cells)
