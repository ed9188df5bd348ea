use Rattle.std.proofs.Common.{◌≡◌, rules}
use Rattle.sq_chain.specs.declared.around.Around.TheVariants.{Near}
use Rattle.sq_chain.proofs.around.look_around_span.Goals as goal

pub look_ahead-requires-clause-seen : goal.look_ahead-requires-clause-seen
look_ahead-requires-clause-seen c =
    let near : c.look_back-back.result ≡ Near = search rules in
    c.look_back-back.ensures.near near
