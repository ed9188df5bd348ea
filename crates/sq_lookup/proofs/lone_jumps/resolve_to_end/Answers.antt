use Rattle.std.proofs.Common.{◌+◌, ◌-◌, ◌∙◌, Some, length, sym, ap, arith}
use Rattle.std.proofs.lemmas.Bool.{ne_eqb}
use Rattle.sq_graph.specs.Resolve.{resolved_within}
use Rattle.sq_graph.proofs.LinkReads.{length-links}
use Rattle.sq_lookup.proofs.Resolving.{leads_nowhere, off_before_off, off_before_itself, resolves_itself, resolves_last, resolves_on, one_left}
use Rattle.sq_lookup.proofs.Targets.{jump_there}
use Rattle.sq_lookup.proofs.lone_jumps.resolve_to_end.Goals as goal

pub returns-in_default : goal.returns-in_default
returns-in_default c =
    let g = c.args.graph.now.graph in
    let at = c.loop-hop.at in
    let jump = sym c.jump_from.ensures ∙ c.in_default.is in
    let off = leads_nowhere g (length g.blocks) at at jump in
    sym (c.loop-hop.invariant.same (off_before_off g at off) ∙ resolves_last g (length g.blocks - c.loop-hop.hop) at off jump)

pub returns-then-to-at : goal.returns-then-to-at
returns-then-to-at c =
    let g = c.args.graph.now.graph in
    let at = c.loop-hop.at in
    let jump = sym c.jump_from.ensures ∙ c.in-Some.is ∙ ap Some c.if-to-at.true in
    sym (c.loop-hop.invariant.same (off_before_itself g at jump) ∙ resolves_itself g (length g.blocks - c.loop-hop.hop) at jump)

pub loop-hop-preserved : goal.loop-hop-preserved
loop-hop-preserved c =
    let g = c.args.graph.now.graph in
    let at = c.loop-hop.at in
    let to = c.in-Some.to in
    let jump = sym c.jump_from.ensures ∙ c.in-Some.is in
    let count = c.len-hop-end.ensures.value ∙ length-links c.links.result.now.entries g.blocks c.links.ensures.blocks in
    let left = one_left (length g.blocks) c.loop-hop.hop (omega (arith, count)) in
    record {
      there = jump_there g at to c.requires.rules jump;
      same =
          λ before.
          let off = before at jump (ne_eqb to at c.if-to-at.false) in
          c.loop-hop.invariant.same (off_before_off g at off)
          ∙ ap (λ n. resolved_within g n at) left
          ∙ resolves_on g (length g.blocks - (c.loop-hop.hop + 1)) at to off jump;
    }
