use Rattle.std.proofs.Common.{◌≡◌, ◌+◌, List, length, false, sym, ap, ◌∙◌, subst, arith}
use Rattle.std.specs.List.{All}
use Rattle.sq_graph.specs.declared.item.Item.{Item}
use Rattle.sq_graph.specs.Blocks.{items_of}
use Rattle.sq_graph.specs.Rules.{mentions}
use Rattle.sq_layout.proofs.Walks.{items_few}
use Rattle.sq_outline.specs.Sets.{Pays}
use Rattle.sq_outline.proofs.Choosing.{other_there, chosen_fewer, can_make, none_more, can_dead}
use Rattle.sq_outline.proofs.sets.chosen_by.Goals as goal

pub returns-then-not-is_dead_behind-clause-none : goal.returns-then-not-is_dead_behind-clause-none
returns-then-not-is_dead_behind-clause-none c = λ e rest can is.
    let yes = c.is_dead_behind.ensures.1 (can_dead c.args.graph.now.graph c.args.first rest c.args.r can is) in
    let no = c.if-not-is_dead_behind.true in
    absurd (cc)

pub dead_behind-requires-clause-blocks : goal.dead_behind-requires-clause-blocks
dead_behind-requires-clause-blocks c = other_there c.args.graph.now.graph c.args.first c.args.others.now c.learn.ensures.rules c.requires.others

pub pays-requires-clause-calls : goal.pays-requires-clause-calls
pays-requires-clause-calls c =
    let g = c.args.graph.now.graph in
    let fewer = chosen_fewer g c.args.first c.args.others.now c.learn.ensures.rules c.requires.others c.args.r c.in_ok-chosen.chosen.items c.in_ok-chosen.ensures in
    let small = c.learn.ensures.small.blocks in
    let is = c.len.ensures in
    let counted = c.in_ok-chosen.chosen.ok.0 in
    omega arith

pub pays-requires-clause-items : goal.pays-requires-clause-items
pays-requires-clause-items c =
    let few = items_few c.args.graph.now.graph c.args.first c.learn.ensures.few in
    let is = ap length c.items-items.ensures in
    omega arith

pub returns-then-not-pays-clause-none : goal.returns-then-not-pays-clause-none
returns-then-not-pays-clause-none c = λ e rest can is.
    let g = c.args.graph.now.graph in
    let calls : c.len.result ≡ length c.in_ok-chosen.chosen.items = c.len.ensures ∙ c.in_ok-chosen.chosen.ok.0 in
    none_more g c.args.first c.args.others.now c.learn.ensures.rules c.requires.others c.args.r c.in_ok-chosen.chosen.items c.in_ok-chosen.ensures
    (λ paid.
    let yes = c.pays.ensures.1 (subst (λ n. Pays (n + 1) (length c.items-items.result.now)) (sym calls) (subst (λ (items : List Item). Pays (length c.in_ok-chosen.chosen.items + 1) (length items)) (sym c.items-items.ensures) paid)) in
    let no = c.if-not-pays.true in
    absurd (cc))
    rest can is

pub returns-clause-some : goal.returns-clause-some
returns-clause-some c =
    let g = c.args.graph.now.graph in
    let calls : c.len.result ≡ length c.in_ok-chosen.chosen.items = c.len.ensures ∙ c.in_ok-chosen.chosen.ok.0 in
    can_make g c.args.first c.args.others.now c.learn.ensures.rules c.requires.others c.args.r c.in_ok-chosen.chosen.items c.in_ok-chosen.ensures c.requires.tried c.requires.body
    (subst (λ (items : List Item). All (λ item. mentions item c.args.r ≡ false) items) c.items-items.ensures (c.is_unmentioned.ensures.0 c.if-not-is_unmentioned.false))
    (c.is_dead_behind.ensures.0 c.if-not-is_dead_behind.false)
    (subst (λ n. Pays (n + 1) (length (items_of g c.args.first))) calls (subst (λ (items : List Item). Pays (c.len.result + 1) (length items)) c.items-items.ensures (c.pays.ensures.0 c.if-not-pays.false)))
