use Rattle.std.proofs.Common.{◌≡◌, ◌+◌, ◌++◌, ◌∙◌, ◌∷◌, [], List, drop, map, length, ap, sym, arith, append_assoc}
use Rattle.sq_graph.specs.declared.item.Item.{Item}
use Rattle.sq_graph.specs.declared.parts.ProcedurePart.{ProcedurePart}
use Rattle.sq_graph.specs.Blocks.{items_of_bodies, procedure_link}
use Rattle.sq_graph.specs.Graph.{Procedure}
use Rattle.sq_graph.specs.Renames.{retargeted_items, retargeted_procedure}
use Rattle.sq_layout.proofs.Counts.{procedure_here}
use Rattle.sq_quotient.specs.Staying.{place_in, procedure_part}
use Rattle.sq_quotient.proofs.Left.{same_number}
use Rattle.sq_quotient.proofs.folding.procedures.Goals as goal

pub overflow_cast-body : goal.overflow_cast-body
overflow_cast-body c =
    let h = procedure_here c.args.graph.now.graph c.loop-procedure.procedure c.body-body.result.now (omega arith) c.body-body.ensures in
    omega (arith, h.few, h.words, c.learn.ensures.few)

pub loop-procedure-preserved : goal.loop-procedure-preserved
loop-procedure-preserved c =
    let g = c.args.graph.now.graph in
    let k = c.loop-procedure.procedure in
    let q = place_in c.args.folding.now in
    let h = procedure_here c.args.graph.now.graph c.loop-procedure.procedure c.body-body.result.now (omega arith) c.body-body.ensures in
    let link : c.link.result ≡ h.procedure.link = same_number c.link.result h.procedure.link (sym c.link.ensures ∙ ap procedure_link h.found) in
    let part : ProcedurePart = record { link = c.link.result; length = length c.body-body.result.now } in
    let part_is : part ≡ procedure_part h.procedure = λ i. record { link = link i; length = length (h.body_is i) } in
    let parts_behind : List ProcedurePart = map procedure_part (drop (k + 1) g.procedures) in
    let items_behind : List Item = items_of_bodies (map (retargeted_procedure q) (drop (k + 1) g.procedures)) in
    record {
      parts =
          ap (λ xs. xs ++ parts_behind) c.in_ok-push.ensures.items
          ∙ append_assoc c.loop-procedure.parts.items (part ∷ []) parts_behind
          ∙ ap (λ x. c.loop-procedure.parts.items ++ (x ∷ parts_behind)) part_is
          ∙ ap (λ (ps : List Procedure). c.loop-procedure.parts.items ++ map procedure_part ps) (sym h.rest)
          ∙ c.loop-procedure.invariant.parts;
      items =
          ap (λ xs. xs ++ items_behind) c.in_ok-push_items.ensures
          ∙ append_assoc c.loop-procedure.items.items (retargeted_items q c.body-body.result.now) items_behind
          ∙ ap (λ (is : List Item). c.loop-procedure.items.items ++ (retargeted_items q is ++ items_behind)) h.body_is
          ∙ ap (λ (ps : List Procedure). c.loop-procedure.items.items ++ items_of_bodies (map (retargeted_procedure q) ps)) (sym h.rest)
          ∙ c.loop-procedure.invariant.items;
    }
