use Rattle.std.proofs.Common.{◌≡◌, ◌∙◌, Some, ap, sym, length, arith}
use Rattle.sq_graph.specs.Blocks.{procedure_link}
use Rattle.sq_layout.proofs.Counts.{procedure_here}
use Rattle.sq_write.proofs.TextWalks.{first_procedure, start_here, body_stands, procedure_fits, next_procedure, last_procedure}
use Rattle.sq_write.proofs.text.push_procedures.Goals as goal

pub loop-procedure-init : goal.loop-procedure-init
loop-procedure-init c = first_procedure c.args.placed.now.g.now.graph c.args.placed.now.lo c.args.out.now c.requires.stand

pub push_procedure-requires-clause-few : goal.push_procedure-requires-clause-few
push_procedure-requires-clause-few c =
    let g = c.args.placed.now.g.now.graph in
    let lo = c.args.placed.now.lo in
    let k = c.loop-procedure.procedure in
    let w = c.loop-procedure.invariant in
    let h = procedure_here g k c.body.result.now (omega arith) c.body.ensures in
    let at = c.start.ensures ∙ start_here g lo k h w.place in
    omega (arith, at, ap length h.body_is, procedure_fits g lo k h w.place (omega (arith, c.requires.fits)))

pub push_procedure-requires-clause-stand : goal.push_procedure-requires-clause-stand
push_procedure-requires-clause-stand c =
    let g = c.args.placed.now.g.now.graph in
    let lo = c.args.placed.now.lo in
    let k = c.loop-procedure.procedure in
    let w = c.loop-procedure.invariant in
    let h = procedure_here g k c.body.result.now (omega arith) c.body.ensures in
    let at = c.start.ensures ∙ start_here g lo k h w.place in
    rw (at, h.body_is) (body_stands g lo k c.args.out.now c.loop-procedure.out h w)

pub loop-procedure-preserved : goal.loop-procedure-preserved
loop-procedure-preserved c =
    let g = c.args.placed.now.g.now.graph in
    let lo = c.args.placed.now.lo in
    let k = c.loop-procedure.procedure in
    let w = c.loop-procedure.invariant in
    let h = procedure_here g k c.body.result.now (omega arith) c.body.ensures in
    let at = c.start.ensures ∙ start_here g lo k h w.place in
    let link : c.link.result ≡ h.procedure.link = let e : Some h.procedure.link ≡ Some c.link.result = sym (ap procedure_link h.found) ∙ c.link.ensures in cc in
    let more = rw (at, h.body_is, link) at c.in_ok-push_procedure.ensures in
    next_procedure g lo k c.args.out.now c.loop-procedure.out h w c.push_procedure.new.out more

pub returns : goal.returns
returns c =
    last_procedure c.args.placed.now.g.now.graph c.args.placed.now.lo c.loop-procedure.procedure c.args.out.now c.loop-procedure.out (omega arith) c.loop-procedure.invariant
