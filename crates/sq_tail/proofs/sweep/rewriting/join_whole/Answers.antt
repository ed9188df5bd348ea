use Rattle.std.proofs.Common.{◌≡◌, ◌≤◌, List, length, sym, ap, ◌∙◌, subst, option_to_list, arith}
use Rattle.sq_graph.specs.declared.item.Item.{Item}
use Rattle.sq_graph.specs.Blocks.{items_of, term_of}
use Rattle.sq_graph.specs.Uses.{items_uses}
use Rattle.sq_graph.proofs.JoinedBefore.{joined_before_each}
use Rattle.sq_lookup.specs.Counts.{count_at, times_named, AreTaken}
use Rattle.sq_tail.specs.Ends.{last_items}
use Rattle.sq_tail.specs.Names.{end_uses}
use Rattle.sq_tail.proofs.Sweeping.{pair_there, pair_applied, whole_follows}
use Rattle.sq_tail.proofs.JoinedWhole.{end_slice, end_counted, joined_ended, uses_more, counted_still, uses_moved, whole_ended}
use Rattle.sq_tail.proofs.sweep.rewriting.join_whole.Goals as goal

pub overflow_sub-items : goal.overflow_sub-items
overflow_sub-items c =
    let tails = pair_there c.args.graph.now.graph c.args.dropped c.args.kept c.args.length c.requires.candidate in
    omega (arith, tails.dropped_items, ap length c.items-items.ensures)

pub take_items-requires : goal.take_items-requires
take_items-requires c = λ k.
    let slice = end_slice c.items-items.result.now (items_of c.args.graph.now.graph c.args.dropped) c.args.length c.items-items.ensures in
    subst (λ (is : List Item). times_named (items_uses is) k ≤ count_at c.args.uses.now.items.items k) (sym slice)
    (end_counted c.args.graph.now.graph c.args.dropped c.args.length c.args.uses.now c.requires.uses k)

pub join-to-requires-clause-tails : goal.join-to-requires-clause-tails
join-to-requires-clause-tails c = pair_there c.args.graph.now.graph c.args.dropped c.args.kept c.args.length c.requires.candidate

pub returns-in_err-add-clause-follows : goal.returns-in_err-add-clause-follows
returns-in_err-add-clause-follows c =
    (pair_applied c.args.graph.now.graph c.join-to.new.graph.graph c.args.dropped c.args.kept c.args.length c.learn.ensures.rules c.requires.candidate c.join-to.ensures.graph).follows

pub take-requires : goal.take-requires
take-requires c =
    let g = c.args.graph.now.graph in
    let mid = c.join-to.new.graph.graph in
    let ended = joined_ended g mid c.args.dropped c.args.kept c.args.length c.join-to.result c.learn.ensures.rules c.requires.canonical c.requires.candidate c.join-to.ensures.graph c.join-to.ensures.jump in
    let names : end_uses (term_of c.args.graph.now.graph c.args.dropped) ≡ option_to_list c.target-named.result = ap end_uses c.term.ensures ∙ sym c.target-named.ensures in
    let taken : AreTaken (last_items c.args.length (items_of g c.args.dropped)) c.args.uses.now c.take_items.new.self =
    subst (λ (is : List Item). AreTaken is c.args.uses.now c.take_items.new.self) (end_slice c.items-items.result.now (items_of c.args.graph.now.graph c.args.dropped) c.args.length c.items-items.ensures) c.take_items.ensures in
    counted_still g mid c.args.dropped c.args.length c.join-to.result ended c.target-named.result names c.args.uses.now c.take_items.new.self c.requires.uses taken c.in-Some.name c.in-Some.is c.add.new.self c.in_ok-add.ensures

pub join_before-requires : goal.join_before-requires
join_before-requires c =
    let g = c.args.graph.now.graph in
    let mid = c.join-to.new.graph.graph in
    let ended = joined_ended g mid c.args.dropped c.args.kept c.args.length c.join-to.result c.learn.ensures.rules c.requires.canonical c.requires.candidate c.join-to.ensures.graph c.join-to.ensures.jump in
    let names : end_uses (term_of c.args.graph.now.graph c.args.dropped) ≡ option_to_list c.target-named.result = ap end_uses c.term.ensures ∙ sym c.target-named.ensures in
    let taken : AreTaken (last_items c.args.length (items_of g c.args.dropped)) c.args.uses.now c.take_items.new.self =
    subst (λ (is : List Item). AreTaken is c.args.uses.now c.take_items.new.self) (end_slice c.items-items.result.now (items_of c.args.graph.now.graph c.args.dropped) c.args.length c.items-items.ensures) c.take_items.ensures in
    uses_moved g mid c.args.dropped c.args.length c.join-to.result ended c.target-named.result names c.args.uses.now c.take_items.new.self c.requires.uses taken c.in-Some.name c.in-Some.is c.add.new.self c.in_ok-add.ensures c.take.new.self c.take.ensures

pub returns-in-Some-clause-joined : goal.returns-in-Some-clause-joined
returns-in-Some-clause-joined c =
    let g = c.args.graph.now.graph in
    let mid = c.join-to.new.graph.graph in
    let ended = joined_ended g mid c.args.dropped c.args.kept c.args.length c.join-to.result c.learn.ensures.rules c.requires.canonical c.requires.candidate c.join-to.ensures.graph c.join-to.ensures.jump in
    let names : end_uses (term_of c.args.graph.now.graph c.args.dropped) ≡ option_to_list c.target-named.result = ap end_uses c.term.ensures ∙ sym c.target-named.ensures in
    let rules = (pair_applied g mid c.args.dropped c.args.kept c.args.length c.learn.ensures.rules c.requires.candidate c.join-to.ensures.graph).rules in
    (mid, (c.join-to.ensures.graph, c.join_before.ensures.graph ∙ sym (whole_ended g mid c.args.dropped c.args.length c.join-to.result ended c.target-named.result names rules ∙ ap (λ o. joined_before_each (option_to_list o) mid) c.in-Some.is)))

pub returns-in-Some-clause-follows : goal.returns-in-Some-clause-follows
returns-in-Some-clause-follows c =
    whole_follows c.args.graph.now.graph c.join_before.new.graph.graph c.args.dropped c.args.kept c.args.length c.learn.ensures.rules c.requires.candidate (returns-in-Some-clause-joined c)

pub returns-in_default-clause-joined : goal.returns-in_default-clause-joined
returns-in_default-clause-joined c =
    let g = c.args.graph.now.graph in
    let mid = c.join-to.new.graph.graph in
    let ended = joined_ended g mid c.args.dropped c.args.kept c.args.length c.join-to.result c.learn.ensures.rules c.requires.canonical c.requires.candidate c.join-to.ensures.graph c.join-to.ensures.jump in
    let names : end_uses (term_of c.args.graph.now.graph c.args.dropped) ≡ option_to_list c.target-named.result = ap end_uses c.term.ensures ∙ sym c.target-named.ensures in
    let rules = (pair_applied g mid c.args.dropped c.args.kept c.args.length c.learn.ensures.rules c.requires.candidate c.join-to.ensures.graph).rules in
    (mid, (c.join-to.ensures.graph, sym (whole_ended g mid c.args.dropped c.args.length c.join-to.result ended c.target-named.result names rules ∙ ap (λ o. joined_before_each (option_to_list o) mid) c.in_default.is)))

pub returns-in_default-clause-uses : goal.returns-in_default-clause-uses
returns-in_default-clause-uses c =
    let g = c.args.graph.now.graph in
    let mid = c.join-to.new.graph.graph in
    let ended = joined_ended g mid c.args.dropped c.args.kept c.args.length c.join-to.result c.learn.ensures.rules c.requires.canonical c.requires.candidate c.join-to.ensures.graph c.join-to.ensures.jump in
    let names : end_uses (term_of c.args.graph.now.graph c.args.dropped) ≡ option_to_list c.target-named.result = ap end_uses c.term.ensures ∙ sym c.target-named.ensures in
    let taken : AreTaken (last_items c.args.length (items_of g c.args.dropped)) c.args.uses.now c.take_items.new.self =
    subst (λ (is : List Item). AreTaken is c.args.uses.now c.take_items.new.self) (end_slice c.items-items.result.now (items_of c.args.graph.now.graph c.args.dropped) c.args.length c.items-items.ensures) c.take_items.ensures in
    uses_more g mid c.args.dropped c.args.length c.join-to.result ended c.target-named.result names c.args.uses.now c.take_items.new.self c.requires.uses taken c.add.new.self c.in_default.is c.in_ok-add.ensures

pub returns-in_default-clause-follows : goal.returns-in_default-clause-follows
returns-in_default-clause-follows c =
    whole_follows c.args.graph.now.graph c.join-to.new.graph.graph c.args.dropped c.args.kept c.args.length c.learn.ensures.rules c.requires.candidate (returns-in_default-clause-joined c)
