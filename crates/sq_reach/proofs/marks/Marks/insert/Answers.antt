use Rattle.std.proofs.Common.{true, set}
use Rattle.sq_reach.proofs.Flags.{numbers_distinct, members_more, count_more}
use Rattle.sq_reach.proofs.marks.Marks.insert.Goals as goal

pub returns-in_err-grow-clause-distinct : goal.returns-in_err-grow-clause-distinct
returns-in_err-grow-clause-distinct c = numbers_distinct c.grow.new.flags.items

pub returns-clause-members : goal.returns-clause-members
returns-clause-members c = members_more c.self.inside.flags.items c.grow.new.flags.items c.self.view_is c.args.number c.in_ok-grow.ensures.room c.in_ok-grow.ensures.same

pub returns-clause-count : goal.returns-clause-count
returns-clause-count c =
    rw c.has-added.ensures (count_more c.self.inside.flags.items c.grow.new.flags.items c.self.view_is c.args.number c.in_ok-grow.ensures.room c.in_ok-grow.ensures.same)

pub returns-clause-distinct : goal.returns-clause-distinct
returns-clause-distinct c = numbers_distinct (set c.grow.new.flags.items c.args.number true)
