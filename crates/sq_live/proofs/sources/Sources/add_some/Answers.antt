use Rattle.std.proofs.Common.{sym, subst, option_to_list, OnOk}
use Rattle.sq_live.specs.Sources.{sources_of, AddsTo}
use Rattle.sq_live.proofs.sources.Sources.add_some.Goals as goal

pub returns-in-Some-clause-adds : goal.returns-in-Some-clause-adds
returns-in-Some-clause-adds c =
    subst (λ o. OnOk c.add.result (AddsTo (sources_of c.args.self.now) (sources_of c.add.new.self) c.args.from (option_to_list o))) (sym c.in-Some.is) c.add.ensures.adds
