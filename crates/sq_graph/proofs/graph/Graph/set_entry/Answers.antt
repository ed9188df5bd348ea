use Rattle.sq_graph.specs.Layout.{graph_of}
use Rattle.sq_graph.proofs.HoldingWrites.{with_entry_rules, held_sound}
use Rattle.sq_graph.proofs.graph.Graph.set_entry.Goals as goal

pub invariant_of-self : goal.invariant_of-self
invariant_of-self c =
    held_sound c.self.inside c.args.block c.self.inside.code_words c.self.invariant
    (with_entry_rules (graph_of c.self.inside) c.args.block c.self.invariant.rules (rw (← c.self.view_is) at c.requires.block))

pub returns-clause-rules : goal.returns-clause-rules
returns-clause-rules c =
    with_entry_rules (graph_of c.self.inside) c.args.block c.self.invariant.rules (rw (← c.self.view_is) at c.requires.block)
