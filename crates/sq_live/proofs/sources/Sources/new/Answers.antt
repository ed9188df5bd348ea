use Rattle.std.proofs.Common.{◌-◌}
use Rattle.sq_live.proofs.Chains.{empty_sources}
use Rattle.sq_live.proofs.sources.Sources.new.Goals as goal

pub returns-clause-empty : goal.returns-clause-empty
returns-clause-empty c = λ to.
    empty_sources c.resize.new.self.items c.in_ok-with_capacity.field-0.items c.new-first.result.items c.args.count (c.args.count - c.new-first.result.len) c.new-first.ensures.items c.in_ok-resize.ensures.items to
