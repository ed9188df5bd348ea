use Rattle.std.proofs.Common.{Some, inr, sym, ap, ◌∙◌, arith}
use Rattle.sq_graph.specs.declared.item.Item.TheVariants.{Hi}
use Rattle.sq_lookup.proofs.Targets.{part_there}
use Rattle.sq_jumps.proofs.shorten.jumps_by_dead_part.Goals as goal
use Rattle.sq_jumps.proofs.ShortenTests.{apart_if, same_if, shorten_is, shorten_dies}

pub dead_at-requires : goal.dead_at-requires
dead_at-requires c =
    let count = c.requires.live.count c.in-PartJump.to (part_there c.args.graph.now.graph c.args.block c.in-PartJump.link c.in-PartJump.part c.in-PartJump.to c.learn.ensures.rules c.in-PartJump.ensures) in
    omega arith

pub returns-else-eq : goal.returns-else-eq
returns-else-eq c =
    let g = c.args.graph.now.graph in
    let there = part_there g c.args.block c.in-PartJump.link c.in-PartJump.part c.in-PartJump.to c.learn.ensures.rules c.in-PartJump.ensures in
    let dead = c.dead_at.ensures.dead g c.requires.live there (omega arith) in
    let last = sym c.in-Some-Hi.ensures.value ∙ ap Some (c.in-Some-Hi.field-0-is ∙ ap (λ r. Hi r c.in-Some-Hi.half) (same_if c.in-Some-Hi.rd c.in-PartJump.part c.if-ne.ensures) ∙ ap (λ n. Hi c.in-PartJump.part n) c.if-half-to.false) in
    record {
      some = λ yes. shorten_is g c.args.block c.in-PartJump.link c.in-PartJump.part c.in-PartJump.to c.items.result.now c.items.ensures c.in-PartJump.ensures last (inr (dead.0 yes));
      all = λ by. dead.1 (shorten_dies g c.args.block c.in-PartJump.link c.in-PartJump.part c.in-PartJump.to c.in-PartJump.ensures (apart_if c.in-PartJump.part c.in-PartJump.link c.if-eq.ensures) by);
    }
