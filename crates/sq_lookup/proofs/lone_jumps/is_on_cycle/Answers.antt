use Rattle.std.proofs.Common.{◌+◌, ◌-◌, ◌∙◌, Some, length, sym, ap, subst, arith}
use Rattle.std.proofs.lemmas.Bool.{eq-eqb, ne_eqb}
use Rattle.sq_graph.specs.Resolve.{leads_to}
use Rattle.sq_graph.proofs.LinkReads.{length-links}
use Rattle.sq_lookup.proofs.Resolving.{leads_nowhere, leads_there, leads_on, IsPassed, passed_here, passed_on, round, one_left, none_left}
use Rattle.sq_lookup.proofs.Targets.{jump_there}
use Rattle.sq_lookup.proofs.lone_jumps.is_on_cycle.Goals as goal
use Rattle.sq_lookup.proofs.lone_jumps.is_on_cycle.Goals.{then-is_power_of_two, else-is_power_of_two}

pub returns-in_default : goal.returns-in_default
returns-in_default c =
    let g = c.args.graph.now.graph in
    sym (c.loop-hop.invariant.same ∙ leads_nowhere g (length g.blocks - c.loop-hop.hop) c.loop-hop.at c.args.block (sym c.jump_from.ensures ∙ c.in_default.is))

pub returns-then-to-block : goal.returns-then-to-block
returns-then-to-block c =
    let g = c.args.graph.now.graph in
    let count = c.len-hop-end.ensures.value ∙ length-links c.links.result.now.entries g.blocks c.links.ensures.blocks in
    let left = one_left (length g.blocks) c.loop-hop.hop (omega (arith, count)) in
    sym (
    c.loop-hop.invariant.same
    ∙ ap (λ n. leads_to g n c.loop-hop.at c.args.block) left
    ∙ leads_there g (length g.blocks - (c.loop-hop.hop + 1)) c.loop-hop.at c.args.block c.in-Some.to (sym c.jump_from.ensures ∙ c.in-Some.is) (eq-eqb c.in-Some.to c.args.block c.if-to-block.true)
    )

pub returns-then-to-mark : goal.returns-then-to-mark
returns-then-to-mark c =
    let g = c.args.graph.now.graph in
    let at = c.loop-hop.at in
    let mark = c.loop-hop.mark in
    let jump = sym c.jump_from.ensures ∙ c.in-Some.is ∙ ap Some c.if-to-mark.true in
    let apart = ne_eqb mark c.args.block (λ same. c.if-to-block.false (c.if-to-mark.true ∙ same)) in
    let count = c.len-hop-end.ensures.value ∙ length-links c.links.result.now.entries g.blocks c.links.ensures.blocks in
    let left = one_left (length g.blocks) c.loop-hop.hop (omega (arith, count)) in
    let behind = length g.blocks - (c.loop-hop.hop + 1) in
    sym (
    c.loop-hop.invariant.same
    ∙ ap (λ n. leads_to g n at c.args.block) left
    ∙ leads_on g behind at c.args.block mark jump apart
    ∙ round g mark at c.args.block c.loop-hop.invariant.passed jump apart behind
    )

pub loop-hop-init : goal.loop-hop-init
loop-hop-init c =
    let g = c.args.graph.now.graph in
    record {
      there = c.requires.block;
      same = ap (λ n. leads_to g n c.args.block c.args.block) (omega arith);
      passed = passed_here g c.args.block c.args.block;
    }

pub loop-hop-preserved : goal.loop-hop-preserved
loop-hop-preserved c =
    let g = c.args.graph.now.graph in
    let at = c.loop-hop.at in
    let to = c.in-Some.to in
    let jump = sym c.jump_from.ensures ∙ c.in-Some.is in
    let apart = ne_eqb to c.args.block c.if-to-block.false in
    let count = c.len-hop-end.ensures.value ∙ length-links c.links.result.now.entries g.blocks c.links.ensures.blocks in
    let left = one_left (length g.blocks) c.loop-hop.hop (omega (arith, count)) in
    record {
      there = jump_there g at to c.requires.rules jump;
      same =
          c.loop-hop.invariant.same
          ∙ ap (λ n. leads_to g n at c.args.block) left
          ∙ leads_on g (length g.blocks - (c.loop-hop.hop + 1)) at c.args.block to jump apart;
      passed =
          elim c.if-is_power_of_two.branch [
            | then-is_power_of_two w ↦ subst (λ m. IsPassed g m to c.args.block) (sym w.mark-is) (passed_here g to c.args.block)
            | else-is_power_of_two w ↦ subst (λ m. IsPassed g m to c.args.block) (sym w.mark-is) (passed_on g c.loop-hop.mark at c.args.block to c.loop-hop.invariant.passed jump apart)
          ];
    }

pub returns : goal.returns
returns c =
    let g = c.args.graph.now.graph in
    let count = c.len-hop-end.ensures.value ∙ length-links c.links.result.now.entries g.blocks c.links.ensures.blocks in
    sym (c.loop-hop.invariant.same ∙ ap (λ n. leads_to g n c.loop-hop.at c.args.block) (none_left (length g.blocks) c.loop-hop.hop (omega (arith, count))))
