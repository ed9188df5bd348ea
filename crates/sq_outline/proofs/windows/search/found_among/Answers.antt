use Rattle.std.proofs.Common.{◌≡◌, List, Ok, Some, slice_get, inl, inr, sym, ap, ◌∙◌, arith}
use Rattle.std.proofs.lemmas.Bool.{cases_eq}
use Rattle.std.proofs.lemmas.Option.{slice_get_within}
use Rattle.sq_finger.specs.declared.places.WindowAt.{WindowAt}
use Rattle.sq_outline.specs.WindowsMade.{items_at}
use Rattle.sq_outline.specs.WindowsSearch.{standing}
use Rattle.sq_outline.proofs.WindowsClasses.{made_window}
use Rattle.sq_outline.proofs.windows.search.found_among.Goals as goal

same_some : (x y : List WindowAt) → Some x ≡ Some y → x ≡ y
same_some x y e = cc

pub loop-number-preserved : goal.loop-number-preserved
loop-number-preserved c = λ m block at link saving below is.
    let g = c.args.graph.now.graph in
    let group = standing g (items_at g block at c.args.n) in
    elim (cases_eq m c.loop-number.number) [
      | inl same ↦
          let there = c.members.ensures in
          let all : c.members.result.now ≡ standing c.args.graph.now.graph (items_at c.args.graph.now.graph block at c.args.n) = same_some c.members.result.now group (sym there ∙ ap (slice_get c.args.classes.now) (sym same) ∙ is) in
          c.found_at.ensures.none (c.in_ok-found.was ∙ ap Ok c.in_default.is) block at link saving all
      | inr other ↦ c.loop-number.invariant m block at link saving (omega (arith, below, other)) is
    ]

pub returns-clause-none : goal.returns-clause-none
returns-clause-none c = λ e block at link saving made.
    let window = made_window c.args.graph.now.graph block at c.args.n link saving made in
    let class = c.requires.classes.all block at window in
    let within = slice_get_within c.args.classes.now class.0 _ class.1 in
    c.loop-number.invariant class.0 block at link saving (omega (arith, within, c.loop-number-test.false, c.len-number-end.ensures)) class.1 made
