use Rattle.std.proofs.Common.{◌+◌, ◌++◌, length, ap, ◌∙◌}
use Rattle.sq_system.specs.Starts.{start_of, argument_area, stack_pointer}
use Rattle.sq_system.proofs.Areas.{argument_area-ends}
use Rattle.sq_system.proofs.area.argument_area.Goals as goal

-- the area ends at the end of RAM
pub returns-clause-length : goal.returns-clause-length
returns-clause-length c =
    let start = start_of c.args.start.now in
    ap (λ area. stack_pointer start + length area) (c.in_ok-push_area.ensures ∙ ap (λ front. front ++ argument_area start) c.new-area.ensures.items)
    ∙ argument_area-ends start c.requires.fits c.requires.room
