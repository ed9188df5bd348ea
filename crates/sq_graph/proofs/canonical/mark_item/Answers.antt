use Rattle.std.proofs.Common.{sym, inl, inr}
use Rattle.sq_graph.proofs.Marks.{marked_none}
use Rattle.sq_graph.proofs.canonical.mark_item.Goals as goal

pub returns-in-Op-clause-entries : goal.returns-in-Op-clause-entries
returns-in-Op-clause-entries c =
    elim c.in-Op.is [
      | inl op ↦ rw op.1 (sym (marked_none c.args.slots.now.entries))
      | inr out ↦ rw out.1 (sym (marked_none c.args.slots.now.entries))
    ]
