use Rattle.std.proofs.Common.{is_some, ap, ◌∙◌}
use Rattle.std.specs.List.{list_any}
use Rattle.sq_machine.specs.Ranges.{allows_all}
use Rattle.sq_machine.specs.Views.{world_of}
use Rattle.sq_machine.proofs.Pieces.{place_of}
use Rattle.sq_machine.proofs.world.World.some_piece_allows.Goals as goal

pub returns-in-Some : goal.returns-in-Some
unfolding world_of
returns-in-Some c =
    ap is_some c.in-Some.ensures
    ∙ (place_of (allows_all c.args.permission c.args.x c.args.n) c.deref.result.now
    ∙ ap (list_any (allows_all c.args.permission c.args.x c.args.n)) c.deref.ensures.value)

pub returns-in-None : goal.returns-in-None
unfolding world_of
returns-in-None c =
    ap is_some c.in-None.ensures
    ∙ (place_of (allows_all c.args.permission c.args.x c.args.n) c.deref.result.now
    ∙ ap (list_any (allows_all c.args.permission c.args.x c.args.n)) c.deref.ensures.value)
