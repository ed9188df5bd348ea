use Rattle.std.proofs.Common.{◌+◌, ◌-◌, ◌∙◌, length, sym, ap, arith}
use Rattle.sq_graph.specs.Resolve.{resolved_within}
use Rattle.sq_graph.proofs.LinkReads.{length-links}
use Rattle.sq_lookup.proofs.Resolving.{resolves_here, resolves_last, resolves_on, one_left, none_left}
use Rattle.sq_lookup.proofs.Targets.{jump_there}
use Rattle.sq_lookup.proofs.lone_jumps.resolve_to_cycle.Goals as goal

pub returns-then-is_on_cycle : goal.returns-then-is_on_cycle
returns-then-is_on_cycle c =
    let g = c.args.graph.now.graph in
    sym (c.loop-hop.invariant.same ∙ resolves_here g (length g.blocks - c.loop-hop._hop) c.loop-hop.at (sym c.is_on_cycle.ensures ∙ c.if-is_on_cycle.true))

pub returns-in_default : goal.returns-in_default
returns-in_default c =
    let g = c.args.graph.now.graph in
    sym (c.loop-hop.invariant.same ∙ resolves_last g (length g.blocks - c.loop-hop._hop) c.loop-hop.at (sym c.is_on_cycle.ensures ∙ c.if-is_on_cycle.false) (sym c.jump_from.ensures ∙ c.in_default.is))

pub loop-hop-preserved : goal.loop-hop-preserved
loop-hop-preserved c =
    let g = c.args.graph.now.graph in
    let jump = sym c.jump_from.ensures ∙ c.in-Some.is in
    let count = c.len-hop-end.ensures.value ∙ length-links c.links.result.now.entries g.blocks c.links.ensures.blocks in
    let left = one_left (length g.blocks) c.loop-hop._hop (omega (arith, count)) in
    record {
      there = jump_there g c.loop-hop.at c.in-Some.to c.requires.rules jump;
      same =
          c.loop-hop.invariant.same
          ∙ ap (λ n. resolved_within g n c.loop-hop.at) left
          ∙ resolves_on g (length g.blocks - (c.loop-hop._hop + 1)) c.loop-hop.at c.in-Some.to (sym c.is_on_cycle.ensures ∙ c.if-is_on_cycle.false) jump;
    }

pub returns : goal.returns
returns c =
    let g = c.args.graph.now.graph in
    let count = c.len-hop-end.ensures.value ∙ length-links c.links.result.now.entries g.blocks c.links.ensures.blocks in
    sym (c.loop-hop.invariant.same ∙ ap (λ n. resolved_within g n c.loop-hop.at) (none_left (length g.blocks) c.loop-hop._hop (omega (arith, count))))
