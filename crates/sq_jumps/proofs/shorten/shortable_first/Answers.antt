use Rattle.std.proofs.Common.{◌≡◌, length, sym, ◌∙◌, subst, arith}
use Rattle.sq_jumps.specs.Shorten.{AreFirstShortable}
use Rattle.sq_jumps.proofs.ShortenRuns.{found_first_none, found_first_more, first_here, first_all}
use Rattle.sq_jumps.proofs.shorten.shortable_first.Goals as goal
use Rattle.sq_jumps.proofs.shorten.shortable_first.Goals.{then-has-via-then-has, then-has-via-else-has+then-not-is_shortable}

pub loop-count-init : goal.loop-count-init
loop-count-init c = found_first_none c.args.graph.now.graph c.args.blocks.now c.new-found.result c.new-found.ensures

pub returns-then-has : goal.returns-then-has
returns-then-has c =
    let l = c.loop-count in
    first_here c.args.graph.now.graph c.args.blocks.now l.count l.found l.invariant c.loop-count-test.true (λ d.
    elim c.then-has.branch [
      | then-has-via-then-has w ↦ sym c.has.ensures ∙ w.if-has.true
      | then-has-via-else-has+then-not-is_shortable w ↦
          absurd (
          let yes = w.is_shortable.ensures.1 d in
          let no = w.if-not-is_shortable.true in
          cc
          )
    ])

pub loop-count-preserved : goal.loop-count-preserved
loop-count-preserved c =
    let l = c.loop-count in
    found_first_more c.args.graph.now.graph c.args.blocks.now l.count l.found l.invariant c.insert.new.self c.loop-count-test.true (sym c.has.ensures ∙ c.if-has.false) (c.is_shortable.ensures.0 c.if-not-is_shortable.false) c.in_ok-insert.ensures

pub returns : goal.returns
returns c =
    let l = c.loop-count in
    let g = c.args.graph.now.graph in
    let blocks = c.args.blocks.now in
    let all : l.count ≡ length blocks = omega (arith, l.auto.count-end, c.loop-count-test.false) in
    subst (AreFirstShortable g blocks) all (first_all g blocks l.count l.found l.invariant all)
