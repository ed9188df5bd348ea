use Rattle.std.proofs.Common.{rules}
use Rattle.sq_arena.proofs.EntriesLaws.{IsRun-next, ContainsKey-without_pair}
use Rattle.test_graphs.proofs.arenas.move_pair.Goals as goal

pub move_range_after-requires-clause-run : goal.move_range_after-requires-clause-run
move_range_after-requires-clause-run c =
    IsRun-next c.args.arena.now.entries c.args.first c.args.last (search rules) (search rules)

pub move_range_after-requires-clause-after : goal.move_range_after-requires-clause-after
move_range_after-requires-clause-after c =
    ContainsKey-without_pair c.args.arena.now.entries c.args.first c.args.last c.args.after (search rules) (search rules) (search rules) (search rules) (search rules)
