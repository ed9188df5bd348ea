use Rattle.std.proofs.Common.{ℕ, List, Ok, map, reverse, sym, ap, ◌∙◌, subst}
use Rattle.std.specs.List.{All}
use Rattle.sq_graph.specs.Blocks.{HasBlock}
use Rattle.sq_tail.specs.Bodies.{NoneAhead}
use Rattle.sq_tail.specs.BodiesPrints.{print_of}
use Rattle.sq_tail.proofs.BodiesFound.{names_there, back_there, map_back, no_pair}
use Rattle.sq_tail.proofs.bodies.find_bodies.Goals as goal

pub prints-requires-clause-names : goal.prints-requires-clause-names
prints-requires-clause-names c = names_there c.args.graph.now.graph c.deref.result.now c.learn.ensures.rules (c.deref.ensures.value ∙ c.in_ok-names.ensures)

pub find_ahead-requires-clause-names : goal.find_ahead-requires-clause-names
find_ahead-requires-clause-names c = names_there c.args.graph.now.graph c.deref-2.result.now c.learn.ensures.rules (c.deref-2.ensures.value ∙ c.in_ok-names.ensures)

pub find_ahead-requires-2-clause-names : goal.find_ahead-requires-2-clause-names
find_ahead-requires-2-clause-names c =
    subst (λ (names : List ℕ). All (HasBlock c.args.graph.now.graph) names) (sym (c.deref-4.ensures.value ∙ c.reverse.ensures.items))
    (back_there (HasBlock c.args.graph.now.graph) c.in_ok-names.names.items (names_there c.args.graph.now.graph c.in_ok-names.names.items c.learn.ensures.rules c.in_ok-names.ensures))

pub find_ahead-requires-2-clause-prints : goal.find_ahead-requires-2-clause-prints
find_ahead-requires-2-clause-prints c =
    c.deref-5.ensures.value
    ∙ c.reverse-2.ensures.items
    ∙ ap reverse (c.in_ok-prints.ensures ∙ ap (map (print_of c.args.live.now c.args.graph.now.graph)) c.deref.ensures.value)
    ∙ map_back (print_of c.args.live.now c.args.graph.now.graph) c.in_ok-names.names.items
    ∙ ap (map (print_of c.args.live.now c.args.graph.now.graph)) (sym (c.deref-4.ensures.value ∙ c.reverse.ensures.items))

pub returns-clause-none : goal.returns-clause-none
returns-clause-none c = λ e.
    no_pair c.args.graph.now.graph
    (subst (NoneAhead c.args.graph.now.graph) (c.deref-2.ensures.value ∙ c.in_ok-names.ensures) (c.in_ok-pair.ensures.none (ap Ok c.in_default.is)))
    (subst (NoneAhead c.args.graph.now.graph) (c.deref-4.ensures.value ∙ c.reverse.ensures.items ∙ ap reverse c.in_ok-names.ensures) (c.find_ahead-2.ensures.none e))
