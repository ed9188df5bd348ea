use Rattle.std.proofs.Common.{◌≤◌, List, length, refl, sym, ap, ◌∙◌, subst, arith}
use Rattle.std.specs.List.{All}
use Rattle.std.proofs.lemmas.List.{take_all}
use Rattle.sq_outline.specs.declared.sites.Site.{Site}
use Rattle.sq_outline.specs.WindowsMade.{IsWhole}
use Rattle.sq_outline.proofs.Early.{one_more}
use Rattle.sq_outline.proofs.windows.occurrences.are_whole.Goals as goal

pub loop-site-preserved : goal.loop-site-preserved
loop-site-preserved c =
    one_more (IsWhole c.args.graph.now.graph c.args.n) c.args.sites.now c.loop-site.site-index _ c.loop-site-test.true c.loop-site.invariant
    (ap length (sym c.items.ensures) ∙ omega (arith, c.if-items-n.false))

pub returns : goal.returns
returns c =
    let past : length c.args.sites.now ≤ c.loop-site.site-index = c.loop-site-test.false in (
      λ yes. subst (λ (ss : List Site). All (IsWhole c.args.graph.now.graph c.args.n) ss) (take_all c.loop-site.site-index c.args.sites.now past) c.loop-site.invariant,
      λ all. refl,
    )
