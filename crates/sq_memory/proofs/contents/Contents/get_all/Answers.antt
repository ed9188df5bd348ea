use Rattle.std.proofs.Common.{◌≡◌, ◌+◌, sym, ap, ◌∙◌, Some}
use Rattle.sq_memory.specs.Regions.{get}
use Rattle.sq_memory.proofs.RangeLaws.{cells_from-more, cells_from-none}
use Rattle.sq_memory.proofs.contents.Contents.get_all.Goals as goal

pub returns-in-None-clause-value : goal.returns-in-None-clause-value
returns-in-None-clause-value g c =
    let at : c.get.result ≡ get c.args.self.now (c.args.address + c.loop-i.i) = c.get.ensures.value ∙ ap (λ m. get m (c.args.address + c.loop-i.i)) c.loop-i.invariant.kept in
    sym (cells_from-none (get c.args.self.now) c.args.address c.args.count c.loop-i.i c.loop-i-test.true (sym at ∙ c.in-None.is))

pub loop-i-preserved : goal.loop-i-preserved
loop-i-preserved g c =
    let at : c.get.result ≡ get c.args.self.now (c.args.address + c.loop-i.i) = c.get.ensures.value ∙ ap (λ m. get m (c.args.address + c.loop-i.i)) c.loop-i.invariant.kept in
    record {
      found =
          cells_from-more c.loop-i.i (get c.args.self.now) c.args.address c.loop-i.cells.items c.in-Some.cell c.loop-i.invariant.found (sym at ∙ c.in-Some.is)
          ∙ ap Some (sym c.in_ok-push-in-Some.ensures.items);
      kept = c.get.ensures.kept ∙ c.loop-i.invariant.kept;
    }
