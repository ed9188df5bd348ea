use Rattle.std.proofs.Common.{◌<◌, ◌^◌, ◌∙◌, arith}
use Rattle.sq_chain.proofs.Chains.{ends_with}
use Rattle.sq_chain.proofs.chain.end_by.Goals as goal

pub returns-clause-ends : goal.returns-clause-ends
returns-clause-ends c =
    let small : c.from.result < 2 ^ 32 = omega (arith, c.from.ensures) in
    ends_with c.args.graph.now.graph c.args.ends.now c.insert.new.self c.args.to c.from.result (c.from.ensures ∙ c.end_behind-end.ensures) small c.requires.ends c.in_ok-insert.ensures
