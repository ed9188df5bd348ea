use Rattle.std.proofs.Common.{◌+◌, None, get_or, sym, subst, arith}
use Rattle.std.specs.HashMap.{get}
use Rattle.std.proofs.lemmas.Option.{slice_get-get_or}
use Rattle.sq_finger.specs.Classes.{is_same_kind}
use Rattle.sq_finger.proofs.Lining.{place_block}
use Rattle.sq_fold.proofs.Leading.{NodesTo, nodes_next, nodes_end, label_at, node_made}
use Rattle.sq_fold.proofs.nodes.nodes.Goals as goal

pub leads_at-next-requires : goal.leads_at-next-requires
leads_at-next-requires c = place_block c.args.graph.now.graph c.learn.ensures.rules c.args.line.now c.loop-i.i (record { block = 0; at = 0 }) c.requires.line c.loop-i-test.true

pub loop-i-preserved : goal.loop-i-preserved
loop-i-preserved c =
    let g = c.args.graph.now.graph in
    let line = c.args.line.now in
    let labels = c.args.labels.now in
    let i = c.loop-i.i in
    let place = get_or line i (record { block = 0; at = 0 }) in
    let here = slice_get-get_or line i (record { block = 0; at = 0 }) c.loop-i-test.true in
    subst (λ ns. NodesTo g line labels (get is_same_kind c.args.index.now) (i + 1) ns) (sym c.in_ok-push.ensures.items)
    (nodes_next g line labels (get is_same_kind c.args.index.now) i place c.loop-i.nodes.items _ c.loop-i.invariant here
    (node_made g labels (get is_same_kind c.args.index.now) i place (get_or labels i None) c.leads_at-next.result c.number_at.result c.number_at-in-loop-i.result
    (label_at labels i (let m = c.requires.labels in let l = c.loop-i-test.true in omega arith)) c.leads_at-next.ensures c.number_at.ensures c.number_at-in-loop-i.ensures))

pub returns : goal.returns
returns c = nodes_end c.args.graph.now.graph c.args.line.now c.args.labels.now (get is_same_kind c.args.index.now) c.loop-i.i c.loop-i.nodes.items c.loop-i.invariant c.loop-i-test.false c.loop-i.auto.i-end
