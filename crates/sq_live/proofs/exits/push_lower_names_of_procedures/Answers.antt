use Rattle.std.proofs.Common.{◌≡◌, ◌∙◌, ◌<◌, ◌++◌, ap, sym, length, take, append_assoc, arith}
use Rattle.std.specs.List.{flat_map}
use Rattle.sq_graph.specs.Blocks.{procedure_body}
use Rattle.sq_graph.specs.Walks.{lower_names}
use Rattle.sq_live.proofs.Layouts.{item_at}
use Rattle.sq_live.proofs.Sequences.{flat_map-push}
use Rattle.sq_live.proofs.exits.push_lower_names_of_procedures.Goals as goal

pub loop-procedure-preserved : goal.loop-procedure-preserved
loop-procedure-preserved c =
    let procedures = c.args.g.now.graph.procedures in
    let k = c.loop-procedure.procedure in
    let within : k < length procedures = omega arith in
    let p = item_at procedures k within in
    let body : c.body.result.now ≡ p.item.body = c.body.ensures ∙ ap procedure_body p.at in
    c.in_ok-push_lower_names.ensures
    ∙ rw (c.loop-procedure.invariant, body, p.more)
    (append_assoc c.args.targets.now.items (flat_map (λ procedure. flat_map lower_names procedure.body) (take k procedures)) (flat_map lower_names p.item.body)
    ∙ ap (λ xs. c.args.targets.now.items ++ xs) (sym (flat_map-push (λ procedure. flat_map lower_names procedure.body) (take k procedures) p.item)))
