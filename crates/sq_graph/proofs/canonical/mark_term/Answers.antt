use Rattle.std.proofs.Common.{sym, inl, inr}
use Rattle.sq_graph.proofs.Marks.{marked_none}
use Rattle.sq_graph.proofs.canonical.mark_term.Goals as goal

pub returns-in-Fall-clause-entries : goal.returns-in-Fall-clause-entries
returns-in-Fall-clause-entries c =
    elim c.in-Fall.is [
      | inl fall ↦ rw fall (sym (marked_none c.args.slots.now.entries))
      | inr other ↦
          elim other [
            | inl indirect ↦ rw indirect.3 (sym (marked_none c.args.slots.now.entries))
            | inr stop ↦ rw stop.1 (sym (marked_none c.args.slots.now.entries))
          ]
    ]
